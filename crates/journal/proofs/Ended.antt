-- Effects that do nothing on a call that has ended.
use Prim.Native.Nat.{ℕ}
use mathlib.Core.Path.{◌≡◌, ap, sym, ◌∙◌}
use mathlib.Core.Bool.{true}
use mathlib.Core.List.{List}
use Rattle.std.specs.Option.{is_some}
use Rattle.journal.specs.declared.Machine.{Machine}
use Rattle.journal.specs.Run.{Run, Effect, ◌▸◌, unless_ended, store, delay, measure}
use Rattle.journal.specs.Machine.{Ran}
use Rattle.journal.proofs.Reached.{unless_ended_ended, run_ended, ran_as, ran_idle}

pub record Still (f : Effect) : Type 0 where
  pub stays : (r : Run) → (r.stop ≡ 0 → ⊥) → f r ≡ r

pub still_unless_ended : (f : Effect) → Still (unless_ended f)
still_unless_ended f = record { stays = unless_ended_ended f }

pub still_then : {f g : Effect} → Still f → Still g → Still (f ▸ g)
still_then {f} {g} x y = record { stays = λ r e. ap g (x.stays r e) ∙ y.stays r e }

pub still_store : (n v : ℕ) → Still (store n v)
unfolding store
still_store n v = still_unless_ended _

pub still_delay : (us : ℕ) → Still (delay us)
unfolding delay
still_delay us = still_unless_ended _

pub still_measure : (a : List ℕ) → Still (measure a)
unfolding measure
still_measure a = still_unless_ended _

-- code that does nothing once the call has ended
pub ran_still : {f : Effect} → Still f → (m : Machine) (j : List ℕ) → is_some m.stop ≡ true → Ran f m m j j
ran_still {f} x m j e = ran_as (λ r q. sym (x.stays r (run_ended m r e q))) (ran_idle m j)
