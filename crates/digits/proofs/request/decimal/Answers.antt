use lib.ListN.{get_or}
use borrow.Author.Tests.{eqb-true, eqb-false}
use mathlib.Core.Path.{◌≡◌, refl, sym, ◌∙◌}
use native.Mathlib.Omega.{arith}
use borrow.Author.Rules.{rules}
use Rattle.digits.specs.Decimal.{request_of, longer}
use Rattle.digits.proofs.Decimal.{read_step, read_end, digits_step, digits_other, digits_end, number_none, number_empty, number_some}
use Rattle.digits.proofs.request.decimal.Goals as goal

pub loop-glyph-init : goal.loop-glyph-init
unfolding request_of
loop-glyph-init c = (search rules, refl, refl)

pub returns-then-not-is_ascii_digit : goal.returns-then-not-is_ascii_digit
returns-then-not-is_ascii_digit c =
    let l = c.loop-glyph in
    let other = sym c.is_ascii_digit.ensures.value ∙ c.if-not-is_ascii_digit.true in
    number_none c.args.text.now (omega arith) (sym l.invariant.2 ∙ digits_other c.args.text.now l.glyph-index (search rules) other)

pub loop-glyph-preserved : goal.loop-glyph-preserved
loop-glyph-preserved c =
    let l = c.loop-glyph in
    let digit = sym c.is_ascii_digit.ensures.value ∙ c.if-not-is_ascii_digit.false in
    let b = get_or c.args.text.now l.glyph-index 0 in
    let grown : c.saturating_add-number.result ≡ longer l.number b = omega arith in
    let step = read_step c.args.text.now l.glyph-index l.number (search rules) digit in
    (omega arith, rw grown (step ∙ l.invariant.1), digits_step c.args.text.now l.glyph-index (search rules) digit ∙ l.invariant.2)

pub returns-then-is_empty : goal.returns-then-is_empty
returns-then-is_empty c = number_empty c.args.text.now (eqb-true _ _ (sym c.if-is_empty.ensures))

pub returns-else-is_empty : goal.returns-else-is_empty
returns-else-is_empty c =
    let l = c.loop-glyph in
    let text = c.args.text.now in
    let all = sym l.invariant.2 ∙ digits_end text l.glyph-index (search rules) in
    number_some text l.number (omega (arith, eqb-false _ _ (sym c.if-is_empty.ensures))) all (read_end text l.glyph-index l.number (search rules) (search rules) ∙ l.invariant.1)
