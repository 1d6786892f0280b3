use Rattle.std.proofs.Common.{sym, subst}
use Rattle.mont_base.specs.Image.{IsWellFormed}
use Rattle.heap.proofs.EmptyStores.{opens_empty}
use Rattle.heap.proofs.heap.Heap.fresh.Goals as goal

pub returns-in_err-words-clause-empty : goal.returns-in_err-words-clause-empty
returns-in_err-words-clause-empty c = opens_empty c.args.layout c.fresh_table.ensures.layout c.args.callers

pub opened-requires-clause-words : goal.opened-requires-clause-words
opened-requires-clause-words c =
    subst (IsWellFormed c.args.layout) (sym c.fresh.ensures)
    (opens_empty c.args.layout c.fresh_table.ensures.layout c.args.callers).words

pub returns-clause-empty : goal.returns-clause-empty
returns-clause-empty c = opens_empty c.args.layout c.fresh_table.ensures.layout c.args.callers
