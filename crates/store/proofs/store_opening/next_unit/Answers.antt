use Rattle.std.proofs.Common.{arith, rules}
use Rattle.std.specs.Vec.Iter.{into_iter_items}
use Rattle.store.proofs.FirstSeats.{next_fits}
use Rattle.store.proofs.store_opening.next_unit.Goals as goal

pub new-requires : goal.new-requires
new-requires g c =
    let s = c.args.structures.now in
    let both = next_fits g.N.HeapName.heap g.row.UNIT (into_iter_items s) (into_iter_items c.next.new.self) c.next.result
    c.next.ensures.items (λ low. c.next.ensures.variant.1 (omega (arith, low))) c.requires in
    (search rules, both.0)

pub returns : goal.returns
returns g c =
    let s = c.args.structures.now in
    let both = next_fits g.N.HeapName.heap g.row.UNIT (into_iter_items s) (into_iter_items c.next.new.self) c.next.result
    c.next.ensures.items (λ low. c.next.ensures.variant.1 (omega (arith, low))) c.requires in
    both.1
