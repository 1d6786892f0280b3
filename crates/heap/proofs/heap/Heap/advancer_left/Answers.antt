use Rattle.std.proofs.Common.{ℕ, ◌*◌, ap, subst, sym, ◌∙◌}
use Rattle.atomic_table.specs.Seated.{TableId}
use Rattle.mont_base.specs.Layout.{units_of, IsLayout}
use Rattle.heap_rule.specs.Views.{the_advancer}
use Rattle.heap.specs.HeapShown.{HeapShown}
use Rattle.heap.proofs.DealtSeats.{seat_left, first_advancer_is}
use Rattle.heap.proofs.heap.Heap.advancer_left.Goals as goal

pub invariant_of-result : goal.invariant_of-result
invariant_of-result c =
    let h = c.self.invariant in
    let layout = h.layout_is ∙ ap (λ (x : HeapShown). x.opening.layout) c.self.view_is in
    let table = c.requires.heap ∙ sym (ap (λ (x : HeapShown). x.table) c.self.view_is) in
    first_advancer_is c.args.self.now.opening _ _ _ (seat_left c.args.self.now.opening _ c.requires.left) c.requires.clock c.requires.last
    (subst IsLayout layout c.units-many.ensures.layout)
    (ap (λ (z : TableId). z.slots) table ∙ (h.slots ∙ ap (λ (n : ℕ). 2 * n) (ap units_of layout)))

pub returns : goal.returns
returns c = λ i. record {
  table = c.requires.heap i;
  known = the_advancer (seat_left c.args.self.now.opening _ c.requires.left i).0;
}
