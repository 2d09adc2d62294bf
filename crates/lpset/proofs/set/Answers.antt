-- `lpset::set` meets its contract: the entries lie in the journal.
use mathlib.Core.Path.{sym}
use lib.Seq.{length-take-le}
use Rattle.lpset.proofs.Entries.{entries_within}
use Rattle.lpset.proofs.set.Goals as goal

pub slice_bounds-journal-end : goal.slice_bounds-journal-end
slice_bounds-journal-end g c = rw (c.entries-entries.ensures) (entries_within _ _ _ _ _ _ c.config_lpsys_hclk_mhz-answer.ensures)

pub slice_bounds-steps-end : goal.slice_bounds-steps-end
slice_bounds-steps-end g c = rw (c.entries-entries.ensures) (sym (length-take-le _ _ (entries_within _ _ _ _ _ _ c.config_lpsys_hclk_mhz-answer.ensures)))
