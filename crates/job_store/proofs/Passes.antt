-- The passes of all callers of a job: before any call, and after the run.
use Rattle.std.proofs.Common.{◌≡◌, ℕ, List, [], map, subst, arith}
use Rattle.std.specs.Prelude.{slice_get, Some}
use Rattle.std.proofs.lemmas.Option.{slice_get_within}
use Rattle.mont_base.specs.declared.gate.Fuel.{Fuel}
use Rattle.mont_base.specs.Gates.{is_endless}
use Rattle.core_steps.proofs.RowFacts.{item_at, row_of_map, row_in_map}
use Rattle.heap_rule.specs.declared.views.CallerKnown.{CallerKnown}
use Rattle.heap.specs.HeapShown.{HeapShown, CallerShown}
use Rattle.job_text.specs.declared.job.Job.{Job}
use Rattle.job_text.specs.declared.outcome.Outcome.{Outcome}
use Rattle.job_run.specs.Run.{AreWorked}
use Rattle.job_report.specs.Reported.{HasRun}
use Rattle.store.specs.Store.{AreAllCallers}
use Rattle.job_store.specs.JobGates.{AreGates}
use Rattle.job_store.proofs.Gated.{cuts_the_stopped}

module _ {P : Type 0} (heap : HeapShown) (has : P → Type 0) (ticket : P → CallerShown) (gate : P → Fuel) (olds : List P)
    (callers : AreAllCallers heap (map ticket olds))
    (uncut : (k : ℕ) (p : P) → slice_get olds k ≡ Some p → (ticket p).known.part.cuts ≡ []) where
  abbrev held : P → CallerKnown
  held p = (ticket p).known

  number_at : (k : ℕ) (p : P) → slice_get olds k ≡ Some p → (held p).caller ≡ k
  number_at k p e = (callers.each k (ticket p) (row_in_map ticket olds k p e)).1

  -- what each caller was left with
  module _ (job : Job) (news : List P) (outcomes : List (List Outcome))
      (worked : AreWorked heap.opening has held (λ (p : P). (gate p).cuts) (λ (p : P). is_endless (gate p)) job olds news
      (map Some outcomes))
      (gates : AreGates job.stops job.callers (map gate olds)) where
    pub each_has_run : (caller : ℕ) (left : CallerShown) (of_caller : List Outcome) → slice_get (map ticket news) caller ≡ Some left
        → slice_get outcomes caller ≡ Some of_caller → HasRun job heap.opening caller left.known of_caller
    each_has_run caller left of_caller e f =
        let at = row_of_map ticket news caller left e in
        let below = slice_get_within news caller at.0 at.1 in
        let long = worked.passes in
        let old = item_at olds caller (omega (arith, below, long)) in
        let was = worked.each caller old.0 at.0 (Some of_caller) old.1 at.1 (row_in_map Some outcomes caller of_caller f) in
        subst (λ (s : CallerShown). HasRun job heap.opening caller s.known of_caller) at.2 (record {
          begun = held old.0;
          number = number_at caller old.0 old.1;
          uncut = uncut caller old.0 old.1;
          first = (gate old.0).cuts;
          last = (gate at.0).cuts;
          stops = cuts_the_stopped gate job.stops caller old.0 at.0 _
              (gates.each caller (gate old.0) (row_in_map gate olds caller old.0 old.1)) was.gate;
          worked = was.worked;
        })
