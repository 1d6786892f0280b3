use Rattle.std.proofs.Common.{◌≡◌, map}
use Rattle.std.specs.Prelude.{All}
use Rattle.core_steps.specs.CallerClauses.{receipts_of}
use Rattle.heap_pass.specs.Kept.{IsWhole}
use Rattle.store_stop.specs.Headline.{parts_shown}
use Rattle.store_stop.proofs.headline.taken_apart.Given as goal

abbrev pub invariant-loop-pass : goal.invariant-loop-pass
invariant-loop-pass g l = record {
  whole : All (λ p. IsWhole p.ticket p.receipts.items) l.pass-iterator.rest.items;
  tickets : l.tickets.items ≡ map (λ p. p.ticket) l.yielded;
  receipts : l.receipts.items ≡ map receipts_of (parts_shown l.tickets.items);
}
