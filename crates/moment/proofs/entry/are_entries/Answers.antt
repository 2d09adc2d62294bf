-- `moment::entry::are_entries` meets its contract: each word is tested.
use Rattle.std.proofs.Common.{rules}
use Rattle.moment.proofs.Entries.{by_each}
use Rattle.moment.proofs.entry.are_entries.Goals as goal

pub returns : goal.returns
returns c = by_each _ c.args.words.now (search rules)
