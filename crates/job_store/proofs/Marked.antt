-- What the marks of a caller tell of the outcomes of all callers, once the store was stopped.
use Rattle.std.proofs.Common.{◌≡◌, ℕ, true, List, ◌++◌, refl, sym, ap, ◌∙◌, subst, arith}
use Rattle.std.specs.Prelude.{◌==◌, slice_get, All, Option, Some, None}
use Rattle.std.specs.List.{Contains}
use Rattle.std.proofs.lemmas.List.Elements.{All-get_or}
use Rattle.std.proofs.lemmas.List.Folds.{Any-from_list_any}
use Rattle.std.proofs.lemmas.Option.{slice_get_within}
use Rattle.core_steps.specs.declared.parts.CallerPart.{CallerPart}
use Rattle.core_steps.specs.declared.parts.Mark.{Mark}
use Rattle.core_steps.specs.Notes.{same_caller, same_mark}
use Rattle.core_steps.proofs.Decisions.{both, eq_true}
use Rattle.core_steps.proofs.RowFacts.{item_at, row_gives, row_of_map, row_in_map}
use Rattle.heap.specs.HeapShown.{HeapShown, CallerShown}
use Rattle.caller.specs.Telling.{has_mark}
use Rattle.job_text.specs.declared.job.Job.{Job}
use Rattle.job_text.specs.declared.outcome.Outcome.{Outcome}
use Rattle.job_text.specs.Causes.{WasCutIn}
use Rattle.job_text.specs.Report.{Report}
use Rattle.job_worker.specs.Continuing as continuing
use Rattle.job_worker.specs.Ending.{units_cut}
use Rattle.job_report.proofs.Naming.{cut_named}
use Rattle.store_stop.specs.declared.headline.Stopped.{Stopped}
use Rattle.store_stop.specs.Headline.{IsCutAsMarked, parts_shown}
use Rattle.store_stop.proofs.Items.{all_gives}
use Rattle.job_store.specs.WholeRun.{IsEndOf}

-- ---- one mark
same_by : (a b : Option ℕ) → same_caller a b ≡ true → a ≡ b
same_by None None e = refl
same_by None (Some k) e = absurd (cc)
same_by (Some j) None e = absurd (cc)
same_by (Some j) (Some k) e = ap Some (eq_true j k e)

is_same_mark : (m n : Mark) → same_mark m n ≡ true → m ≡ n
is_same_mark m n e =
    let parts = both (m.unit == n.unit) (same_caller m.by n.by) e in
    let unit = eq_true m.unit n.unit parts.0 in
    let by = same_by m.by n.by parts.1 in
    λ i. record { unit = unit i; by = by i }

marked : (P : Mark → Type 0) (marks : List Mark) (m : Mark) → All P marks → has_mark marks m ≡ true → P m
marked P marks m all has =
    let found = Any-from_list_any (same_mark m) marks has in
    subst P (sym (is_same_mark m found.1 found.4)) (subst P found.3 (All-get_or P marks found.0 found.1 found.2 all))

-- ---- a report with the outcomes of the callers
module _ (j : Job) (heap : HeapShown) (callers : List CallerShown) (outcomes : List (List Outcome)) (t : Stopped)
    (end : IsEndOf j heap callers outcomes t) (r : Report) (same : r.outcomes ≡ outcomes) where
  was_cut : (by unit : ℕ) (q : CallerPart) → slice_get (parts_shown callers) by ≡ Some q → Contains q.cuts unit → WasCutIn r by unit
  was_cut by unit q is cut =
      let left = row_of_map (λ (s : CallerShown). s.known.part) callers by q is in
      let below = slice_get_within callers by left.0 left.1 in
      let many = end.ran.callers_are in
      let answered = end.ran.answered in
      let xs = item_at outcomes by (omega (arith, below, many, answered)) in
      let run = end.ran.each by left.0 xs.0 left.1 xs.1 in
      let cuts : q.cuts ≡ units_cut xs.0 =
      ap (λ (p : CallerPart). p.cuts) (sym left.2) ∙ run.worked.cuts ∙ ap (λ (us : List ℕ). us ++ units_cut xs.0) run.uncut in (
        xs.0,
        ap (λ (os : List (List Outcome)). slice_get os by) same ∙ xs.1,
        cut_named xs.0 unit (subst (λ (us : List ℕ). Contains us unit) cuts cut),
      )

  pub cut_as_marked : (k : ℕ) (left : CallerShown) → slice_get callers k ≡ Some left
      → (m : Mark) → has_mark left.known.part.marks m ≡ true → continuing.IsCutAsMarked r m
  cut_as_marked k left e m has =
      let all = all_gives (λ (q : CallerPart). All (IsCutAsMarked (parts_shown callers)) q.marks) (parts_shown callers) k
      left.known.part end.stopped.marks (row_in_map (λ (s : CallerShown). s.known.part) callers k left e) in
      let c = marked (IsCutAsMarked (parts_shown callers)) left.known.part.marks m all has in
      let row = row_gives (λ (q : CallerPart). Contains q.cuts m.unit) (slice_get (parts_shown callers) c.by) c.cut in
      record { by = c.by; named = c.named; cut = was_cut c.by m.unit row.0 row.1 row.2 }
