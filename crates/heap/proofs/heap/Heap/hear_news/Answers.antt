use Rattle.std.proofs.Common.{ap, sym, arith, ◌∙◌}
use Rattle.std.specs.Prelude.{max}
use Rattle.core_steps.specs.Notes.{greater_fronts}
use Rattle.heap_rule.specs.Views.{Seated, the_caller, the_note, caller_heard, caller_view, with_notes}
use Rattle.heap_rule.proofs.SeatPlays.{joins_notes}
use Rattle.heap.specs.HeapShown.{HeapShown}
use Rattle.heap.specs.NewsShown.{NewsShown}
use Rattle.heap.proofs.HeardSeats.{heard_keeps}
use Rattle.heap.proofs.SeatTables.{caller_table}
use Rattle.heap.proofs.heap.Heap.hear_news.Goals as goal

pub join_seat-requires : goal.join_seat-requires
join_seat-requires c =
    let words = c.self.invariant.words in (
      caller_table _ _ _ _ c.ticket.view_is c.requires.ticket c.self.view_is,
      ap (λ (n : NewsShown). n.table) c.news.view_is ∙ (c.requires.news ∙ sym (ap (λ (x : HeapShown). x.table) c.self.view_is)),
      ap (λ m. m.1) c.news.invariant.whole,
      omega (arith, words),
      joins_notes _ _ _ _ _,
    )

pub invariant_of-ticket : goal.invariant_of-ticket
invariant_of-ticket c =
    let k = c.ticket.invariant in
    let news = c.news.invariant in
    let m = c.ticket.inside.seat.me in
    let note = the_note c.news.inside.seat.me.0 in
    let joined = c.join_seat.ensures.2 ∙ (λ i. (with_notes (k.whole i).0 (news.whole i).0, (k.whole i).1)) in
    heard_keeps _ _ _ _ _ m k _ _ note _ _ _ (c.load_news.ensures.seat ∙ c.join_seat.ensures.0)
    (c.raise_each.ensures ∙ ap (greater_fronts c.ticket.inside.fronts) news.fronts_are)
    (c.max-ticket-inside.ensures ∙ ap (max c.ticket.inside.newest) news.newest_is)
    (c.max-ticket-inside-2.ensures ∙ ap (max c.ticket.inside.durable) news.durable_is)
    (c.load_news.ensures.view
    ∙ ap (λ (j : Seated). (caller_view (caller_heard (the_caller j.0) (the_note j.0)), j.1)) joined)
