use Rattle.std.proofs.Common.{ℕ, ◌*◌, ◌<◌, replicate, ap, sym, ◌∙◌, arith}
use Rattle.atomic_table.specs.Seated.{TableId}
use Rattle.mont_base.specs.Layout.{units_of}
use Rattle.heap.specs.HeapShown.{HeapShown}
use Rattle.heap.proofs.DealtSeats.{deals_caller, caller_left, caller_given, first_caller_is, callers_dealt}
use Rattle.heap.proofs.heap.Heap.deal_callers.Goals as goal

pub split_seat-seat-requires : goal.split_seat-seat-requires
split_seat-seat-requires c =
    let words = c.self.invariant.words in
    let i = c.loop-number.invariant in
    let count = c.requires.callers in
    let o = c.args.self.now.opening in (
      i.table ∙ (c.requires.heap ∙ sym (ap (λ (x : HeapShown). x.table) c.self.view_is)),
      omega (arith, words),
      deals_caller o (units_of o.layout) c.loop-number.number (omega (arith, count)) _ _ c.loop-number.all.me
          (ap (λ (x : HeapShown). x.opening) c.self.view_is) i.view,
    )

pub invariant_of-push : goal.invariant_of-push
invariant_of-push c =
    let h = c.self.invariant in
    let i = c.loop-number.invariant in
    let s = c.split_seat-seat.ensures in
    let o = c.args.self.now.opening in
    let many = ap units_of (h.layout_is ∙ ap (λ (x : HeapShown). x.opening.layout) c.self.view_is) in
    let count = c.requires.callers in
    let table = s.3 ∙ (i.table ∙ (c.requires.heap ∙ sym (ap (λ (x : HeapShown). x.table) c.self.view_is))) in
    first_caller_is o c.loop-number.number _ _ _ _
    (caller_given o (units_of o.layout) c.loop-number.number (omega (arith, count)) c.loop-number.all.me
    c.split_seat-seat.result.me i.view s.4)
    (c.in_ok-fronts.ensures ∙ ap (λ (n : ℕ). replicate n 0) (c.units.ensures.value ∙ many))
    (c.in_ok-synced.ensures ∙ ap (λ (n : ℕ). replicate n 0) (c.units-in-loop-number.ensures.value ∙ many))
    (ap (λ (z : TableId). z.slots) table ∙ (h.slots ∙ ap (λ (n : ℕ). 2 * n) many))

pub loop-number-preserved : goal.loop-number-preserved
loop-number-preserved c =
    let i = c.loop-number.invariant in
    let s = c.split_seat-seat.ensures in
    let o = c.args.self.now.opening in
    let count = c.requires.callers in
    let low : c.loop-number.number < c.args.self.now.opening.callers = omega (arith, count) in
    record {
      dealt = callers_dealt c.args.self.now.table _ o c.loop-number.number _ _ c.split_seat-seat.result.me i.dealt
          c.in_ok-push.ensures.items
          (s.3 ∙ (i.table ∙ c.requires.heap))
          (caller_given o (units_of o.layout) c.loop-number.number low c.loop-number.all.me c.split_seat-seat.result.me i.view s.4);
      table = s.0 ∙ i.table;
      view = caller_left o (units_of o.layout) c.loop-number.number low c.loop-number.all.me c.split_seat-seat.new.seat.me i.view s.2;
    }
