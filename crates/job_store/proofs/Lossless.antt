-- Of a store of which one caller synced for all before it was stopped, a crash loses nothing.
use Rattle.std.proofs.Common.{◌≡◌, ℕ, ◌≤◌, false, true, List, inl, inr, ◌⊎◌, sym, ap, ◌∙◌, subst, arith}
use Rattle.std.specs.Prelude.{slice_get, All, Ok, Err, Some, None, Any, map, take}
use Rattle.std.specs.declared.result.Result.{Result}
use Rattle.std.proofs.lemmas.Option.{same_Some, slice_get_within}
use Rattle.mont_base.specs.declared.constants.TheConstants.{LAST}
use Rattle.mont_base.specs.declared.gate.Fuel.{Fuel}
use Rattle.mont_base.specs.declared.operation.Entry.{Entry}
use Rattle.mont_base.specs.Gates.{is_endless}
use Rattle.mont_base.specs.Image.{cut_of, IsRecovered}
use Rattle.mont_base.specs.Layout.{Shape}
use Rattle.mont_base.specs.Seen.{FitsHistories}
use Rattle.plain.specs.States.{states_of}
use Rattle.core_steps.specs.CallerClauses.{view_of}
use Rattle.core_steps.proofs.RowFacts.{all_at, item_at, row_in_map}
use Rattle.heap_rule.specs.SeenEntries.{AreFronts}
use Rattle.heap.specs.HeapShown.{HeapShown, CallerShown}
use Rattle.caller.specs.declared.sync_refusal.SyncRefusal.{SyncRefusal}
use Rattle.caller.specs.declared.sync_refusal.SyncRefusal.TheVariants.{Stuck, Cut, ClockEnd}
use Rattle.job_text.specs.declared.job.Job.{Job}
use Rattle.job_text.specs.declared.job.Stop.{Stop}
use Rattle.job_text.specs.declared.outcome.Outcome.{Outcome}
use Rattle.job_text.specs.Faithful.{HasStop}
use Rattle.job_text.specs.Outcomes.{names_entry}
use Rattle.job_text.specs.PlainReport.{report_of}
use Rattle.job_text.specs.Report.{Report}
use Rattle.store_stop.specs.declared.headline.Stopped.{Stopped}
use Rattle.store_stop.specs.Headline.{HasSeen, HoldsHistories, IsSyncedIn, parts_shown}
use Rattle.store_stop.proofs.Items.{all_gives, all_split}
use Rattle.job_store.specs.declared.whole_run.WholeRun.{WholeRun}
use Rattle.job_store.specs.JobGates.{KeepsEnd, gate_of}
use Rattle.job_store.specs.SyncedRun.{AreSynced, EndsSynced, HasEndedSynced, IsSyncedForAll, LosesNothing, FirstKnowsWhy, RefusesSync, states_behind}
use Rattle.job_store.specs.WholeRun.{IsEndOf, IsRunFrom, TellsEnd}
use Rattle.job_store.proofs.Gated.{stopped_or_endless}
use Rattle.job_store.proofs.Marked.{cut_as_marked}
use Rattle.job_store.proofs.SeenPlaces.{before_front, durable_reached, named}
use Rattle.job_store.proofs.WholeHistories.{counted, cut_whole, whole_cut}

module _ (j : Job) (heap : HeapShown) (callers : List CallerShown) (outcomes : List (List Outcome)) (t : Stopped)
    (end : IsEndOf j heap callers outcomes t) (words : List ℕ) (w : WholeRun) (run : IsRunFrom j words w)
    (tells : TellsEnd j outcomes t w) where
  abbrev told : Report
  told = report_of w.report

  abbrev image : List ℕ
  image = w.image.words

  holds : HoldsHistories heap.opening.layout (states_of t.base) t.histories (parts_shown callers) t.words image
  holds = end.stopped.images image tells.pick.permitted

  -- ---- where the first caller heard all and synced
  module _ (synced : IsSyncedForAll callers) where
    -- what a caller has seen of a unit, the first one has too, and it is in the cut
    seen_early : (k : ℕ) (q : CallerShown) → slice_get callers k ≡ Some q → (unit front : ℕ) (h : List Entry)
        → slice_get q.known.part.fronts unit ≡ Some front → slice_get t.histories unit ≡ Some h
        → All (λ (d : Entry). d.epoch ≤ cut_of image) (take front h)
    seen_early k q at unit front h own is =
        let first = synced.heard.first in
        let has = λ (i : ℕ) (s : CallerShown) (e : slice_get callers i ≡ Some s).
        all_gives (λ (r : CallerShown). HasSeen t.histories r.known) callers i s end.stopped.seen e in
        let seen = all_gives (λ (r : CallerShown). AreFronts first.known.entries r.known.entries) callers k q synced.heard.seen at in
        let more = seen unit (take front h) ((has k q at).each unit front h own is) in
        let below = slice_get_within first.known.entries unit more.whole more.there in
        let long = (has 0 first synced.heard.there).units in
        let fits = all_gives (FitsHistories t.histories) (map view_of (parts_shown callers)) 0 (view_of first.known.part)
        end.stopped.order.fit
        (row_in_map view_of (parts_shown callers) 0 first.known.part
        (row_in_map (λ (s : CallerShown). s.known.part) callers 0 first synced.heard.there)) in
        let units = fits.units in
        let n = item_at first.known.part.fronts unit (omega (arith, below, long, units)) in
        let same : more.whole ≡ take n.0 h =
        same_Some more.whole (take n.0 h) (sym more.there ∙ (has 0 first synced.heard.there).each unit n.0 h n.1 is) in
        let early = all_gives (IsSyncedIn t.histories (cut_of image)) (parts_shown callers) 0 first.known.part holds.synced
        (row_in_map (λ (s : CallerShown). s.known.part) callers 0 first synced.heard.there) unit n.0 h
        (ap (λ (ns : List ℕ). slice_get ns unit) synced.synced ∙ n.1) is in
        (all_split (λ (d : Entry). d.epoch ≤ cut_of image) (take front h) more.begins.0
        (subst (All (λ (d : Entry). d.epoch ≤ cut_of image)) (sym same ∙ more.begins.1) early)).0

    entry_kept : (unit place : ℕ) (h : List Entry) (e : Entry) → slice_get t.histories unit ≡ Some h → slice_get h place ≡ Some e
        → e.epoch ≤ cut_of image
    entry_kept unit place h e is there =
        let once = run.run.run.faithful.named_once unit place e
        (h, ap (λ (hs : List (List Entry)). slice_get hs unit) tells.histories ∙ is, there) in
        let by = counted (names_entry unit place) told.outcomes once in
        let at = by.3 in
        let of_caller : slice_get outcomes by.0 ≡ Some by.1 =
        ap (λ (os : List (List Outcome)). slice_get os by.0) (sym tells.outcomes_are) ∙ by.2 in
        let many = end.ran.callers_are in
        let answered = end.ran.answered in
        let below = slice_get_within outcomes by.0 by.1 of_caller in
        let left = item_at callers by.0 (omega (arith, below, many, answered)) in
        let front = before_front j heap callers outcomes t end by.0 left.0 left.1 by.1 of_caller at.0 unit place
        (at.2 ∙ ap Some (named unit place at.1 at.3)) h is in
        let early = seen_early by.0 left.0 left.1 unit front.0 h front.1 is in
        all_gives (λ (d : Entry). d.epoch ≤ cut_of image) (take front.0 h) place e early (front.2 e there)

    loses_nothing : LosesNothing told
    loses_nothing =
        let rebuilt = subst (λ (s : Shape). IsRecovered s image told.contents) (sym end.layout) tells.rebuilt in
        (holds.rebuilt told.contents).0 rebuilt
        ∙ (whole_cut (cut_of image) (states_of t.base) t.histories
        (λ unit h is. cut_whole (cut_of image) h
        (all_at (λ (e : Entry). e.epoch ≤ cut_of image) h (λ place e there. entry_kept unit place h e is there)))
        ∙ (λ i. states_behind (sym tells.base i) (sym tells.histories i)))

  -- ---- where a sync was refused
  reached : (k : ℕ) (q : CallerShown) → slice_get callers k ≡ Some q → q.known.part.durable ≤ told.image_clock
  reached k q there =
      let learnt = durable_reached j heap callers outcomes t end k q there in
      let before = holds.not_before in
      let clock = tells.clock in
      omega (arith, learnt, before, clock)

  last : told.image_clock ≤ LAST
  last =
      let behind = holds.not_behind in
      let end_of = end.stopped.clocks.last in
      let clock = tells.clock in
      omega (arith, behind, end_of, clock)

  module _ (gates : List Fuel) (kept : (i : ℕ) (g : Fuel) → slice_get gates i ≡ Some g → KeepsEnd j.stops i g) where
    stopped : (k : ℕ) (g : Fuel) → slice_get gates k ≡ Some g → is_endless g ≡ false → HasStop j k
    stopped k g there cuts = by (stopped_or_endless j.stops k)
      where
        by : Any (λ (s : Stop). s.who ≡ k) j.stops ⊎ (gate_of j.stops k ≡ record { left = None; cuts = 0 }) → HasStop j k
        by (inl a) = a
        by (inr e) = let endless : false ≡ true = sym cuts ∙ kept k g there ∙ ap is_endless e in absurd (cc)

    refuses : (why : SyncRefusal) → FirstKnowsWhy callers gates why → RefusesSync j told why
    refuses (Stuck unit epoch) o =
        let m = cut_as_marked j heap callers outcomes t end told tells.outcomes_are 0 o.q o.there
        (record { unit = unit; by = None }) o.knows.0 in
        let below = o.knows.1 in
        let clock = reached 0 o.q o.there in
        record { by = m.by; cut = m.cut; late = omega (arith, below, clock) }
    refuses Cut o = stopped 0 o.gate o.asked o.knows
    refuses ClockEnd o =
        let learnt : o.q.known.part.durable ≡ LAST = o.knows in
        let clock = reached 0 o.q o.there in
        let most = last in
        omega (arith, learnt, clock, most)

  ends : (synced : Result (Unit {0}) SyncRefusal) → AreSynced j callers synced → EndsSynced j told synced
  ends (Ok u) are = record { whole = loses_nothing are.all; refused = tt }
  ends (Err why) are = record { whole = tt; refused = refuses are.gates are.kept why are.refused }

pub ends_synced : (j : Job) (heap : HeapShown) (outcomes : List (List Outcome)) (t : Stopped)
    (synced : Result (Unit {0}) SyncRefusal) → HasEndedSynced j heap outcomes t synced
    → (words : List ℕ) (w : WholeRun) → IsRunFrom j words w → TellsEnd j outcomes t w → EndsSynced j (report_of w.report) synced
ends_synced j heap outcomes t synced e words w run tells =
    ends j heap e.callers outcomes t e.end words w run tells synced e.are_synced
