use Rattle.std.proofs.Common.{◌≡◌, ◌+◌, ◌≤◌, [], ◌++◌, length, map}
use Rattle.std.specs.Prelude.{All, vec_capacity}
use Rattle.std.specs.Vec.Iter.{into_iter_items}
use Rattle.store.proofs.store_opening.first_passes.Given as goal

abbrev pub invariant-loop-ticket : goal.invariant-loop-ticket
invariant-loop-ticket g l = record {
  callers : l.yielded ++ l.ticket-iterator.rest.items ≡ l.fn.callers.items;
  empty : All (λ p. p.receipts.items ≡ []) l.passes.items;
  tickets : map (λ p. p.ticket) l.passes.items ≡ l.yielded;
  gates : map (λ p. p.gate) l.passes.items ++ into_iter_items l.gates ≡ l.fn.gates.items;
  as_many : length (into_iter_items l.gates) ≡ length l.ticket-iterator.rest.items;
  room : length l.passes.items + length l.ticket-iterator.rest.items ≤ vec_capacity l.passes;
}
