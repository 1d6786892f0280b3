use Rattle.std.proofs.Common.{ap, arith}
use Rattle.heap_rule.proofs.SeatPlays.{copies_caller_as}
use Rattle.heap.proofs.SeatTables.{caller_table}
use Rattle.heap.proofs.heap.Heap.copy_ticket.Goals as goal

pub split_seat-seat-requires : goal.split_seat-seat-requires
split_seat-seat-requires c =
    let words = c.self.invariant.words in (
      caller_table _ _ _ _ c.ticket.view_is c.requires.ticket c.self.view_is,
      omega (arith, words),
      copies_caller_as _ _ _ _ (ap (λ m. m.0) c.ticket.invariant.whole),
    )
