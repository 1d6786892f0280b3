use Rattle.std.proofs.Common.{ap, arith, ◌∙◌}
use Rattle.heap_rule.proofs.SeatPlays.{splits_whole, splits_callers, joins_shown_advancer_as}
use Rattle.heap.proofs.SeatTables.{advancer_table, caller_table}
use Rattle.heap.proofs.heap.Heap.show_advancer.Goals as goal

pub split_seat-whole-requires : goal.split_seat-whole-requires
split_seat-whole-requires c =
    let words = c.self.invariant.words in
    (caller_table _ _ _ _ c.ticket.view_is c.requires.ticket c.self.view_is, omega (arith, words), splits_whole _ _ _)

pub join_seat-requires : goal.join_seat-requires
join_seat-requires c =
    let words = c.self.invariant.words in
    let w = c.split_seat-whole.ensures in (
      advancer_table _ _ _ _ c.seat.view_is c.requires.heap c.self.view_is,
      w.3 ∙ caller_table _ _ _ _ c.ticket.view_is c.requires.ticket c.self.view_is,
      ap (λ m. m.1) w.4,
      omega (arith, words),
      joins_shown_advancer_as _ _ _ _ _ _ _ (ap (λ m. m.0) c.seat.invariant.whole) (ap (λ m. m.0) w.4
          ∙ ap (λ m. m.0) c.ticket.invariant.whole),
    )

pub split_seat-requires : goal.split_seat-requires
split_seat-requires c =
    let words = c.self.invariant.words in (
      c.join_seat.ensures.0 ∙ advancer_table _ _ _ _ c.seat.view_is c.requires.heap c.self.view_is,
      omega
          (arith, words),
      splits_callers _ _ _,
    )
