use denote.Param.Send.{sendable}
use Rattle.std.proofs.Common.{List, map, subst}
use Rattle.std.specs.Prelude.{Option, Some, IfOk, OnErr}
use Rattle.job_text.specs.declared.outcome.Outcome.{Outcome}
use Rattle.heap.specs.HeapShown.{HeapShown}
use Rattle.job_run.specs.Run.{AreWorked}
use Rattle.store.specs.Store.{AreAllCallers, IsWholePass}
use Rattle.store_sharing.proofs.Sharing.{store_shared}
use Rattle.montage.proofs.CallersLeft.{all_left, whole_left}
use Rattle.montage.proofs.running.run.Goals as goal

pub run_job-requires-sync-S : goal.run_job-requires-sync-S
run_job-requires-sync-S g c κs = search (sendable, store_shared) depth 40

pub returns-clause-worked : goal.returns-clause-worked
returns-clause-worked g c =
    subst
    (λ (h : HeapShown). IfOk c.run_job.result (λ ran. AreWorked h.opening (λ p. IsWholePass h p.ticket p.receipts.items)
    (λ p. p.ticket.known)
    (λ p. g.G.Gate.cuts p.gate) (λ p. g.G.Gate.endless p.gate) c.args.job.now c.args.passes.now.items
    c.run_job.new.passes.items (map Some ran.outcomes)))
    c.heap-heap.ensures.opened.of_heap c.run_job.ensures.worked

pub returns-clause-stands : goal.returns-clause-stands
returns-clause-stands g c =
    subst
    (λ (h : HeapShown). OnErr c.run_job.result ((done : List (Option (List Outcome)))
    × AreWorked h.opening (λ p. IsWholePass h p.ticket p.receipts.items) (λ p. p.ticket.known) (λ p. g.G.Gate.cuts p.gate)
    (λ p. g.G.Gate.endless p.gate) c.args.job.now c.args.passes.now.items c.run_job.new.passes.items done))
    c.heap-heap.ensures.opened.of_heap c.run_job.ensures.stands

pub returns-clause-callers : goal.returns-clause-callers
returns-clause-callers g c =
    let olds = c.args.passes.now.items in
    let news = c.run_job.new.passes.items in
    subst
    (λ (h : HeapShown). AreAllCallers h (map (λ p. p.ticket) olds) → AreAllCallers h (map (λ p. p.ticket) news))
    c.heap-heap.ensures.opened.of_heap
    (all_left c.args.store.now.heap (λ p. p.ticket) (λ p. p.receipts.items) (λ p. g.G.Gate.cuts p.gate) (λ p. g.G.Gate.endless p.gate)
    c.args.job.now olds news
    c.run_job.result (λ ran. map Some ran.outcomes) c.run_job.ensures.worked c.run_job.ensures.stands)

pub returns-clause-whole : goal.returns-clause-whole
returns-clause-whole g c =
    whole_left c.args.store.now.heap (λ p. p.ticket) (λ p. p.receipts.items) (λ p. g.G.Gate.cuts p.gate) (λ p. g.G.Gate.endless p.gate)
    c.args.job.now c.args.passes.now.items c.run_job.new.passes.items c.run_job.result (λ ran. map Some ran.outcomes)
    c.run_job.ensures.worked c.run_job.ensures.stands
