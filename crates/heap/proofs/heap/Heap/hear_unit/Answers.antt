use Rattle.std.proofs.Common.{rules, ap, arith, ◌∙◌}
use Rattle.heap_rule.specs.Views.{the_unit}
use Rattle.heap_rule.proofs.SeatPlays.{splits_whole, splits_callers, joins_callers}
use Rattle.heap.proofs.HeardSeats.{unit_heard}
use Rattle.heap.proofs.SeatTables.{unit_table, caller_table}
use Rattle.heap.proofs.heap.Heap.hear_unit.Goals as goal

pub split_seat-whole-requires : goal.split_seat-whole-requires
split_seat-whole-requires c =
    let words = c.self.invariant.words in
    (caller_table _ _ _ _ c.ticket.view_is c.requires.ticket c.self.view_is, omega (arith, words), splits_whole _ _ _)

pub join_seat-requires : goal.join_seat-requires
join_seat-requires c =
    let words = c.self.invariant.words in
    let w = c.split_seat-whole.ensures in (
      unit_table _ _ _ _ c.seat.view_is c.requires.heap c.self.view_is,
      w.3 ∙ caller_table _ _ _ _ c.ticket.view_is c.requires.ticket c.self.view_is,
      ap (λ m. m.1) w.4,
      omega (arith, words),
      joins_callers _ _ _ _ _,
    )

pub split_seat-requires : goal.split_seat-requires
split_seat-requires c =
    let words = c.self.invariant.words in (
      c.load_heard.ensures.seat ∙ (c.join_seat.ensures.0 ∙ unit_table _ _ _ _ c.seat.view_is c.requires.heap c.self.view_is),
      omega (arith, words),
      splits_callers _ _ _,
    )

pub invariant_of-ticket : goal.invariant_of-ticket
invariant_of-ticket c =
    let s = c.seat.invariant in
    unit_heard _ _ _ _ _ c.ticket.inside.seat.me c.ticket.invariant _ _ (the_unit c.seat.inside.seat.me.0) c.seat.inside.unit
    c.seat.inside.entries c.seat.inside.newest c.seat.inside.durable _ _ _ (search rules) s.number (search rules) s.entries_are
    s.newest_is s.durable_is (search rules) (search rules) (search rules) c.max-ticket-inside.ensures c.max-ticket-inside-2.ensures
