use Rattle.std.specs.Prelude.{Some}
use Rattle.bank_store.proofs.first_puts.make_put.Goals as goal

pub returns-in-Ok-clause-made : goal.returns-in-Ok-clause-made
returns-in-Ok-clause-made g c = (Some c.in-Ok._receipt, (c.args.store.now, c.heap-heap.ensures.opened, c.in-Ok.ensures.answered))
