use Rattle.std.specs.Prelude.{Some}
use Rattle.bank_store.proofs.shift_making.make_shift.Goals as goal

pub returns-in-Ok-clause-made : goal.returns-in-Ok-clause-made
returns-in-Ok-clause-made g c = (Some c.in-Ok._receipts, (c.args.store.now, c.heap-heap.ensures.opened, c.in-Ok.ensures.shifted))
