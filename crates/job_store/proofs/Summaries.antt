-- What a report of the generated job tells, by whether a line or a sync met the clock's end.
use Rattle.std.proofs.Common.{◌≡◌, ℕ, suc, ◌*◌, ◌<◌, ◌≤◌, ◌^◌, Bool, true, false, List, [], ◌∷◌, length, refl, sym, ap, ◌∙◌, subst, arith}
use Rattle.std.specs.Prelude.{◌==◌, slice_get, sum_by, Any, Ok, Err, Some, IfOk, is_err}
use Rattle.std.specs.declared.result.Result.{Result}
use Rattle.std.specs.List.{list_any}
use Rattle.std.proofs.lemmas.List.Folds.{Any-from_list_any}
use Rattle.std.proofs.lemmas.List.Sums.{sum_by-cons, length-filter, count_by-le-length}
use Rattle.std.proofs.lemmas.Option.{slice_get_read, slice_get_within}
use Rattle.mont_base.specs.declared.constants.TheConstants.{LAST}
use Rattle.core_steps.proofs.RowFacts.{item_at}
use Rattle.caller.specs.declared.sync_refusal.SyncRefusal.{SyncRefusal}
use Rattle.caller.specs.declared.sync_refusal.SyncRefusal.TheVariants as syncs
use Rattle.job_text.specs.declared.job.Deed.{Deed}
use Rattle.job_text.specs.declared.job.Deed.TheVariants.{Call, Tick, Sync}
use Rattle.job_text.specs.declared.job.Line.{Line}
use Rattle.job_text.specs.declared.job.Stop.{Stop}
use Rattle.job_text.specs.declared.outcome.Outcome.{Outcome}
use Rattle.job_text.specs.declared.outcome.Outcome.TheVariants.{At, Synced, Ticked, Stuck, ClockEnd, Full, CountEnd, Halted, CutIn, Cut}
use Rattle.job_text.specs.Report.{Report, lines_of}
use Rattle.big_job.specs.Generated.{generated_job}
use Rattle.big_job.specs.Summary.{summary_text}
use Rattle.big_job.specs.Totals.{totals_of}
use Rattle.big_job.proofs.Whole.{is_job}
use Rattle.job_store.specs.Base.{Base}
use Rattle.job_store.specs.CarriedOut.{IsCarriedOut}
use Rattle.job_store.specs.SyncedRun.{EndsSynced, LosesNothing, RefusesSync}
use Rattle.job_store.specs.WholeRun.{IsRun}
use Rattle.job_store.specs.BigRun.{IsSummaryOf, answered_in, is_clock_end, met_clock_end}

-- ---- how many outcomes there are
small_sum : (lists : List (List Outcome)) → ((k : ℕ) (os : List Outcome) → slice_get lists k ≡ Some os → length os ≤ 2 ^ 32)
    → sum_by (λ os. length os) lists ≤ 2 ^ 32 * length lists
small_sum [] small = omega arith
small_sum (os ∷ lists) small =
    let first = small 0 os refl in
    let rest = small_sum lists (λ k ps e. small (suc k) ps e) in
    omega (arith, first, rest, sum_by-cons (λ (ps : List Outcome). length ps) os lists)

module _ (number : ℕ) (b : Base) (r : Report) (image : List ℕ) (run : IsRun (generated_job number) b r image) where
  few_lines : (caller : ℕ) → length (lines_of (generated_job number) caller) ≤ 2 ^ 32
  few_lines caller =
      let lines = (generated_job number).lines in
      let own = λ (l : Line). l.caller == caller in
      let few = (is_job number).few_lines in
      omega (arith, few, length-filter own lines, count_by-le-length own lines)

  pub few_outcomes : sum_by (λ os. length os) r.outcomes < 2 ^ 64
  few_outcomes =
      let four = run.faithful.frame.whole.outcomes in
      let small = small_sum r.outcomes
      (λ k os e. let few = (run.faithful.answers k os e).few in let most = few_lines k in omega (arith, few, most)) in
      omega (arith, four, small)

  -- ---- each line was carried out
  line_at : (k : ℕ) (os : List Outcome) → slice_get r.outcomes k ≡ Some os → (i : ℕ) (o : Outcome) → slice_get os i ≡ Some o
      → (deed : Deed) × IsCarriedOut r.image_clock deed o
  line_at k os e i o at =
      let done = run.unstopped refl k os e in
      let below = slice_get_within os i o at in
      let all = done.all in
      let line = item_at (lines_of (generated_job number) k) i (omega (arith, below, all)) in
      (line.0.deed, done.each i line.0 o line.1 at)

  ended : (deed : Deed) → IsCarriedOut r.image_clock deed ClockEnd → r.image_clock ≡ LAST
  ended (Call op) is = is
  ended Tick is = is
  ended Sync is = is

  uncut : (deed : Deed) (unit : ℕ) → IsCarriedOut r.image_clock deed (CutIn unit) → ⊥
  uncut (Call op) unit is = is
  uncut Tick unit is = is
  uncut Sync unit is = is

  -- ---- a line met the clock's end
  is_end : (o : Outcome) → is_clock_end o ≡ true → o ≡ ClockEnd
  is_end (At unit place) e = absurd (cc)
  is_end (Synced epoch) e = absurd (cc)
  is_end (Ticked epoch) e = absurd (cc)
  is_end (Stuck unit epoch) e = absurd (cc)
  is_end ClockEnd e = refl
  is_end (Full need free clock) e = absurd (cc)
  is_end (CountEnd which) e = absurd (cc)
  is_end (Halted unit by) e = absurd (cc)
  is_end (CutIn unit) e = absurd (cc)
  is_end Cut e = absurd (cc)

  pub met_last : met_clock_end r.outcomes ≡ true → r.image_clock ≡ LAST
  met_last met =
      let list = Any-from_list_any (λ (os : List Outcome). list_any is_clock_end os) r.outcomes met in
      let of_caller = slice_get_read r.outcomes (length r.outcomes) list.0 list.1 refl list.2 (sym list.3) in
      let one = Any-from_list_any is_clock_end list.1 list.4 in
      let at = slice_get_read list.1 (length list.1) one.0 one.1 refl one.2 (sym one.3) in
      let line = line_at list.0 list.1 of_caller one.0 one.1 at in
      ended line.0 (subst (λ (o : Outcome). IsCarriedOut r.image_clock line.0 o) (is_end one.1 one.4) line.1)

  -- ---- a sync did
  no_stop : (k : ℕ) → Any (λ (s : Stop). s.who ≡ k) (generated_job number).stops → ⊥
  no_stop k a = omega (arith, a.2)

  -- another refusal there is none
  refused : (why : SyncRefusal) → RefusesSync (generated_job number) r why → why ≡ syncs.ClockEnd
  refused (syncs.Stuck unit epoch) s =
      let c = s.cut in
      let at = slice_get_read c.0 (length c.0) c.2.0 (CutIn unit) refl c.2.1 (sym c.2.2) in
      let line = line_at s.by c.0 c.1 c.2.0 (CutIn unit) at in
      absurd (uncut line.0 unit line.1)
  refused syncs.Cut s = absurd (no_stop 0 s)
  refused syncs.ClockEnd s = refl

  whole : (synced : Result (Unit {0}) SyncRefusal) → EndsSynced (generated_job number) r synced → is_err synced ≡ false
      → LosesNothing r
  whole (Ok u) ends answered = ends.whole
  whole (Err why) ends answered = absurd (cc)

  sync_last : (synced : Result (Unit {0}) SyncRefusal) → EndsSynced (generated_job number) r synced → is_err synced ≡ true
      → r.image_clock ≡ LAST
  sync_last (Ok u) ends not = absurd (cc)
  sync_last (Err why) ends not = subst (RefusesSync (generated_job number) r) (refused why ends.refused) ends.refused

  -- ---- the summary
  -- whether the clock came to its end, by a sync or by a line
  module _ (synced : Result (Unit {0}) SyncRefusal) (ends : EndsSynced (generated_job number) r synced) (clock_end : Bool) where
    pub record Tells : Type 0 where
      pub unmet : clock_end ≡ false → met_clock_end r.outcomes ≡ false
      pub whole_then : clock_end ≡ false → LosesNothing r
      pub last : clock_end ≡ true → r.image_clock ≡ LAST

    pub by_sync : is_err synced ≡ true → clock_end ≡ true → Tells
    by_sync not is = record {
      unmet = λ none. let no : true ≡ false = sym is ∙ none in absurd (cc);
      whole_then = λ none. let no : true ≡ false = sym is ∙ none in absurd (cc);
      last = λ e. sync_last synced ends not;
    }

    pub by_lines : is_err synced ≡ false → clock_end ≡ met_clock_end r.outcomes → Tells
    by_lines answered is = record {
      unmet = λ none. sym is ∙ none;
      whole_then = λ none. whole synced ends answered;
      last = λ e. met_last (sym is ∙ e);
    }

    pub summarised : {X E : Type 0} (items : X → List ℕ) (result : Result X E) (answered : ℕ) → answered ≡ answered_in r.outcomes
        → Tells
        → IfOk result (λ (x : X). items x ≡ summary_text number 20000 answered (totals_of r.contents) clock_end)
        → IfOk result (λ (x : X). IsSummaryOf number r (items x))
    summarised items (Ok x) answered count tells text = record {
      clock_end = clock_end;
      text = text ∙ ap (λ (n : ℕ). summary_text number 20000 n (totals_of r.contents) clock_end) count;
      unmet = tells.unmet;
      whole = tells.whole_then;
      last = tells.last;
    }
    summarised items (Err e) answered count tells text = tt
