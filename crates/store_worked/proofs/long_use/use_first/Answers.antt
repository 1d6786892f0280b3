use Rattle.std.proofs.Common.{arith}
use Rattle.store_worked.proofs.OneCaller.{first_of_heap, only_is_left}
use Rattle.store_worked.proofs.long_use.use_first.Goals as goal

pub use_long-requires : goal.use_long-requires
use_long-requires g c =
    first_of_heap g.N.HeapName.heap (λ p. p.ticket) c.args.passes.now c.index-passes-0.result
    (omega (arith, c.in-len1.len_at_least)) c.requires

pub returns-in-len1 : goal.returns-in-len1
returns-in-len1 g c =
    only_is_left g.N.HeapName.heap (λ p. p.ticket) c.args.passes.now c.index-passes-0.result c.use_long.new.pass
    (omega (arith, c.in-len1.len_at_least)) (omega (arith, c.in-len1.len_below)) c.requires c.use_long.ensures
