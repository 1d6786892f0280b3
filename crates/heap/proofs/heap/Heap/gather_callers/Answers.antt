use Rattle.std.proofs.Common.{◌≡◌, ap, sym, ◌∙◌, subst, arith}
use Rattle.std.proofs.lemmas.List.Elements.{All-tail}
use Rattle.heap_rule.specs.Views.{Seated}
use Rattle.heap_rule.proofs.SeatPlays.{joins_callers}
use Rattle.heap.specs.HeapShown.{HeapShown, CallerShown}
use Rattle.heap.specs.Stops.{AreCallersOf}
use Rattle.heap.proofs.GatheredSeats.{head_of_all, callers_gathered}
use Rattle.heap.proofs.SeatTables.{caller_table}
use Rattle.heap.proofs.heap.Heap.gather_callers.Goals as goal

pub join_seat-requires : goal.join_seat-requires
join_seat-requires c =
    let words = c.self.invariant.words in
    let i = c.loop-ticket.invariant in
    let steps = c.in-Some.ensures.steps.0 in
    let of_heap = head_of_all (λ (s : CallerShown). s.table ≡ c.args.self.now.table) c.in-Some.ticket _ _ steps i.of_heap in (
      i.table ∙ (c.requires.heap ∙ sym (ap (λ (x : HeapShown). x.table) c.self.view_is)),
      caller_table _ _ _ _ c.ticket.view_is of_heap c.self.view_is,
      ap (λ (m : Seated). m.1) c.ticket.invariant.whole,
      omega (arith, words),
      joins_callers _ _ _ _ _,
    )

pub loop-ticket-preserved : goal.loop-ticket-preserved
loop-ticket-preserved c =
    let i = c.loop-ticket.invariant in
    let steps = c.in-Some.ensures.steps.0 in
    let j = c.join_seat.ensures in record {
      of_heap = All-tail (λ (s : CallerShown). s.table ≡ c.args.self.now.table) c.in-Some.ticket _
          (subst (AreCallersOf c.args.self.now) steps i.of_heap);
      table = j.0 ∙ i.table;
      view = callers_gathered c.args.all.now.me c.loop-ticket.all.me _ c.ticket.inside.seat.me _ _ _ c.in-Some.ticket i.view j.2
          c.ticket.invariant.whole (ap (λ (s : CallerShown). s.known) c.ticket.view_is);
    }
