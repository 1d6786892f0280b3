-- The first caller has heard those so far, and none has lost an answer.
use Rattle.heap_pass.specs.Kept.{IsWhole}
use Rattle.job_store.proofs.CallersSynced.{SoFar}
use Rattle.job_store.proofs.syncs.hear_others.Given as goal

abbrev pub invariant-loop-place : goal.invariant-loop-place
invariant-loop-place g l =
    SoFar (λ p. p.ticket) (λ p. IsWhole p.ticket p.receipts.items) (λ p. p.gate) l.fn.passes l.passes l.place
