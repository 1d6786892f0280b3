use Rattle.std.proofs.Common.{◌≡◌, ◌++◌, length, map, take, drop, arith, sym, ap, subst}
use Rattle.std.specs.Prelude.{All, IfOk, IfErr, OnOk}
use Rattle.std.proofs.lemmas.List.{length-map}
use Rattle.core_steps.specs.Places.{EachAt}
use Rattle.heap_pass.specs.Kept.{IsWhole}
use Rattle.store.specs.Store.{AreAllCallers}
use Rattle.store_stop.specs.Headline.{IsStopped}
use Rattle.job_store.specs.JobGates.{KeepsEnd}
use Rattle.job_store.specs.SyncedRun.{KeepAnswers, FirstKnowsWhy}
use Rattle.job_store.proofs.CallersSynced.{all_still_ran, put_back}
use Rattle.job_store.proofs.Ended.{is_end}
use Rattle.job_store.proofs.synced_run.run_sync_and_stop.Goals as goal

pub sync_for_all-synced-requires-clause-some : goal.sync_for_all-synced-requires-clause-some
sync_for_all-synced-requires-clause-some g c =
    let all = c.run_lines-ran.new.passes in
    let gates = length-map c.args.passes.items (λ p. p.gate) in
    let olds = length-map c.args.passes.items (λ p. p.ticket) in
    let news = length-map all.items (λ p. p.ticket) in
    let is = ap length c.as_mut_slice.ensures.value in
    omega (
      arith,
      gates,
      olds,
      news,
      is,
      c.requires.job.head.some_callers,
      c.requires.gates.many,
      c.requires.callers.many,
      c.run_lines-ran.ensures.callers.many,
    )

pub stop-stopped-requires-clause-passes : goal.stop-stopped-requires-clause-passes
stop-stopped-requires-clause-passes g c =
    let all = c.run_lines-ran.new.passes in
    let synced = c.sync_for_all-synced.new.passes in
    let same : take all.len (synced ++ drop (length synced) all.items) ≡ synced =
    put_back all.items synced all.len (omega (arith, c.as_mut_slice.ensures.len, c.sync_for_all-synced.auto.passes)) in
    subst (λ ps. AreAllCallers g.N.HeapName.heap (map (λ p. p.ticket) ps)) (sym same) c.sync_for_all-synced.ensures.callers

pub stop-stopped-requires-clause-whole : goal.stop-stopped-requires-clause-whole
stop-stopped-requires-clause-whole g c =
    let all = c.run_lines-ran.new.passes in
    let synced = c.sync_for_all-synced.new.passes in
    let same : take all.len (synced ++ drop (length synced) all.items) ≡ synced =
    put_back all.items synced all.len (omega (arith, c.as_mut_slice.ensures.len, c.sync_for_all-synced.auto.passes)) in
    subst (All (λ p. IsWhole p.ticket p.receipts.items)) (sym same) c.sync_for_all-synced.ensures.whole

pub returns : goal.returns
returns g c =
    let heap = g.N.HeapName.heap in
    let job = c.args.job.now in
    let all = c.run_lines-ran.new.passes in
    let synced = c.sync_for_all-synced.new.passes in
    let same : take all.len (synced ++ drop (length synced) all.items) ≡ synced =
    put_back all.items synced all.len (omega (arith, c.as_mut_slice.ensures.len, c.sync_for_all-synced.auto.passes)) in
    let is = c.in_ok-ended.ensures in
    let seen = subst (λ ps. KeepAnswers (map (λ p. p.ticket) ps) (map (λ p. p.ticket) synced)) c.as_mut_slice.ensures.value
    c.sync_for_all-synced.ensures.seen in
    record {
      callers = map (λ p. p.ticket) synced;
      end = is_end job heap c.requires.layout (map (λ p. p.ticket) synced) c.run_lines-ran.result c.stop-stopped.result
          (all_still_ran job heap (map (λ p. p.ticket) all.items) (map (λ p. p.ticket) synced) seen c.run_lines-ran.result
          c.run_lines-ran.ensures.ran)
          c.stop-stopped.ensures.base
          (subst (λ ps. IfOk c.stop-stopped.result
          (λ t. IsStopped heap.opening.layout t.base_clock t.base (map (λ p. p.ticket) ps) t)) same c.stop-stopped.ensures.stopped)
          c.in_ok-ended.ended.outcomes c.in_ok-ended.ended.stopped is;
      are_synced = record {
        all = c.in_ok-synced.ensures.synced;
        gates = map (λ p. p.gate) all.items;
        kept = subst (λ r. OnOk r (EachAt (KeepsEnd job.stops) (map (λ p. p.gate) all.items))) is.0.1 c.run_lines-ran.ensures.gates;
        refused = subst (λ ps. IfErr c.in_ok-synced.field-0
            (FirstKnowsWhy (map (λ p. p.ticket) synced) (map (λ p. p.gate) ps)))
            c.as_mut_slice.ensures.value c.in_ok-synced.ensures.refused;
      };
    }
