use Rattle.std.proofs.Common.{◌≤◌, List, sym, subst, arith}
use Rattle.slots.specs.Books.{RegionShown}
use Rattle.recover.specs.Recovery.{lost_in}
use Rattle.recover.proofs.LostTotal.{lost_bound, next_lost}
use Rattle.recover.proofs.recovered.Recovered.lost.Goals as goal

pub overflow_add-lost : goal.overflow_add-lost
overflow_add-lost c =
    let left = c.loop-region.invariant in
    let all : lost_in c.deref-region-items.result.now ≤ 65536 =
    subst (λ (rs : List RegionShown). lost_in rs ≤ 65536) (sym c.deref-region-items.ensures.value) (lost_bound _ _ _ _ c.self.invariant) in
    let next = next_lost c.deref-region-items.result.now c.loop-region.region-index c.region-item.result (omega arith) c.region-item.is in
    let here = c.lost-lost.ensures in
    omega (arith, left, all, next, here)
