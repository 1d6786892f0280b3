-- The ticket knows the units so far to be clean.
use Rattle.std.proofs.Common.{◌≡◌, true}
use Rattle.heap_rule.specs.Views.{are_clean}
use Rattle.recover.specs.FoundTicket.{IsTicketFound}
use Rattle.recover.proofs.clean_notes.hear_all.Given as goal

abbrev pub invariant-loop-unit : goal.invariant-loop-unit
invariant-loop-unit l = record {
  same : l.regions ≡ l.fn.regions;
  ticket : IsTicketFound l.heap 0 l.ticket;
  known : are_clean l.unit l.ticket.known.clean ≡ true;
}
