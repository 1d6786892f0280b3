use Rattle.std.proofs.Common.{◌<◌, ap, sym, ◌∙◌, arith}
use Rattle.atomic_table.specs.Seated.{TableId}
use Rattle.mont_base.specs.Layout.{units_of}
use Rattle.heap_rule.specs.declared.rule.Opening.{Opening}
use Rattle.heap.specs.HeapShown.{HeapShown}
use Rattle.heap.proofs.DealtSeats.{deals_unit, unit_left, unit_given, first_unit_is, units_dealt}
use Rattle.heap.proofs.heap.Heap.deal_units.Goals as goal

pub split_seat-seat-requires : goal.split_seat-seat-requires
split_seat-seat-requires c =
    let h = c.self.invariant in
    let words = h.words in
    let i = c.loop-unit.invariant in
    let key = ap (λ (x : HeapShown). x.opening) c.self.view_is in
    let many = ap units_of (h.layout_is ∙ ap (λ (o : Opening). o.layout) key) in
    let count = c.units-unit-end.ensures.value in (
      i.table ∙ (c.requires.heap ∙ sym (ap (λ (x : HeapShown). x.table) c.self.view_is)),
      omega (arith, words),
      deals_unit c.args.self.now.opening c.loop-unit.unit 0 (omega (arith, many, count)) _ _ c.loop-unit.all.me key i.view,
    )

pub invariant_of-push : goal.invariant_of-push
invariant_of-push c =
    let h = c.self.invariant in
    let i = c.loop-unit.invariant in
    let s = c.split_seat-seat.ensures in
    let key = ap (λ (x : HeapShown). x.opening) c.self.view_is in
    let many = ap units_of (h.layout_is ∙ ap (λ (o : Opening). o.layout) key) in
    let count = c.units-unit-end.ensures.value in
    let slots = ap (λ (z : TableId). z.slots) (s.3 ∙ (i.table ∙ (c.requires.heap
    ∙ sym (ap (λ (x : HeapShown). x.table) c.self.view_is)))) in
    let lists = h.slots in
    let few = c.units-unit-end.ensures.layout.kinds.few in
    first_unit_is c.args.self.now.opening c.loop-unit.unit _ _
    (unit_given c.args.self.now.opening c.loop-unit.unit 0 (omega (arith, many, count)) c.loop-unit.all.me
    c.split_seat-seat.result.me i.view s.4)
    (omega (arith, slots, lists, count)) (omega (arith, count, few))

pub loop-unit-preserved : goal.loop-unit-preserved
loop-unit-preserved c =
    let h = c.self.invariant in
    let i = c.loop-unit.invariant in
    let s = c.split_seat-seat.ensures in
    let o = c.args.self.now.opening in
    let key = ap (λ (x : HeapShown). x.opening) c.self.view_is in
    let many = ap units_of (h.layout_is ∙ ap (λ (o : Opening). o.layout) key) in
    let count = c.units-unit-end.ensures.value in
    let low : c.loop-unit.unit < units_of c.args.self.now.opening.layout = omega (arith, many, count) in
    record {
      dealt = units_dealt c.args.self.now.table _ o c.loop-unit.unit _ _ c.split_seat-seat.result.me i.dealt c.in_ok-push.ensures.items
          (s.3 ∙ (i.table ∙ c.requires.heap))
          (unit_given o c.loop-unit.unit 0 low c.loop-unit.all.me c.split_seat-seat.result.me i.view s.4);
      table = s.0 ∙ i.table;
      view = unit_left o c.loop-unit.unit 0 low c.loop-unit.all.me c.split_seat-seat.new.seat.me i.view s.2;
    }
