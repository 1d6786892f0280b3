-- Where a job stops nobody, a faithful report tells that all its lines were carried out.
use Rattle.std.proofs.Common.{◌≡◌, ℕ, ◌+◌, ◌<◌, true, false, List, [], length, take, drop, refl, sym, subst, arith}
use Rattle.std.specs.Prelude.{slice_get, Some, Any}
use Rattle.std.proofs.lemmas.Option.{slice_get_within}
use Rattle.mont_base.specs.declared.record.Held.{Held}
use Rattle.mont_base.specs.State.{State}
use Rattle.core_steps.proofs.RowFacts.{item_at}
use Rattle.job_text.specs.declared.job.Deed.{Deed}
use Rattle.job_text.specs.declared.job.Deed.TheVariants.{Call, Tick, Sync}
use Rattle.job_text.specs.declared.job.Job.{Job}
use Rattle.job_text.specs.declared.job.Stop.{Stop}
use Rattle.job_text.specs.declared.outcome.Outcome.{Outcome}
use Rattle.job_text.specs.declared.outcome.Outcome.TheVariants.{At, Synced, Ticked, Stuck, ClockEnd, Full, CountEnd, Halted, CutIn, Cut}
use Rattle.job_text.specs.AnsweredLines.{Answers}
use Rattle.job_text.specs.Causes.{WasCutIn}
use Rattle.job_text.specs.Faithful.{HasStop, IsFaithful}
use Rattle.job_text.specs.Outcomes.{is_cut}
use Rattle.job_text.specs.Report.{Report, lines_of}
use Rattle.store_stop.proofs.Items.{item_read}
use Rattle.job_store.specs.CarriedOut.{IsCarriedOut, AreCarriedOut}

none_of_none : (who : ℕ) → Any (λ (s : Stop). s.who ≡ who) [] → ⊥
none_of_none who a = omega (arith, a.2)

module _ (j : Job) (clock : ℕ) (base : List State) (records : List (List Held)) (r : Report) (f : IsFaithful j clock base records r)
    (none : j.stops ≡ []) where
  nobody : (caller : ℕ) → HasStop j caller → ⊥
  nobody caller has = none_of_none caller (subst (λ (stops : List Stop). Any (λ (s : Stop). s.who ≡ caller) stops) none has)

  -- ---- cuts
  module _ (caller : ℕ) (before after : List Outcome) where
    uncut : (deed : Deed) (o : Outcome) → Answers r (HasStop j caller) records caller before after deed o → is_cut o ≡ false
    uncut deed (At unit place) h = refl
    uncut deed (Synced epoch) h = refl
    uncut deed (Ticked epoch) h = refl
    uncut deed (Stuck unit epoch) h = refl
    uncut deed ClockEnd h = refl
    uncut deed (Full need free durable) h = refl
    uncut deed (CountEnd which) h = refl
    uncut deed (Halted unit by) h = refl
    uncut (Call op) (CutIn unit) h = absurd (nobody caller h.0)
    uncut Tick (CutIn unit) h = absurd h
    uncut Sync (CutIn unit) h = absurd h
    uncut (Call op) Cut h = absurd (nobody caller h.0)
    uncut Tick Cut h = absurd (nobody caller h)
    uncut Sync Cut h = absurd (nobody caller h)

  uncut_at : (caller : ℕ) (os : List Outcome) → slice_get r.outcomes caller ≡ Some os → (i : ℕ) (o : Outcome) → slice_get os i ≡ Some o
      → is_cut o ≡ false
  uncut_at caller os e i o there =
      let a = f.answers caller os e in
      let below = slice_get_within os i o there in
      let few = a.few in
      let line = item_at (lines_of j caller) i (omega (arith, below, few)) in
      uncut caller (take i os) (drop (i + 1) os) line.0.deed o (a.each i line.0 o line.1 there)

  no_cut : (by unit : ℕ) → WasCutIn r by unit → ⊥
  no_cut by unit c =
      let there = item_read c.0 c.2.0 (CutIn unit) c.2.1 (sym c.2.2) in
      let kept : true ≡ false = uncut_at by c.0 c.1 c.2.0 (CutIn unit) there in
      absurd (cc)

  -- ---- lines
  module _ (caller : ℕ) (before after : List Outcome) where
    ends : (deed : Deed) (o : Outcome) → Answers r (HasStop j caller) records caller before after deed o
        → IsCarriedOut r.image_clock deed o
    ends (Call op) (At unit place) h = tt
    ends (Call op) (Synced epoch) h = absurd h.0
    ends (Call op) (Ticked epoch) h = absurd h.0
    ends (Call op) (Stuck unit epoch) h = absurd (no_cut h.0.by unit h.0.cut)
    ends (Call op) ClockEnd h = h.0
    ends (Call op) (Full need free durable) h = tt
    ends (Call op) (CountEnd which) h = tt
    ends (Call op) (Halted unit by) h = absurd (no_cut by unit h.cut)
    ends (Call op) (CutIn unit) h = absurd (nobody caller h.0)
    ends (Call op) Cut h = absurd (nobody caller h.0)
    ends Tick (At unit place) h = absurd h
    ends Tick (Synced epoch) h = absurd h
    ends Tick (Ticked epoch) h = tt
    ends Tick (Stuck unit epoch) h = absurd (no_cut h.by unit h.cut)
    ends Tick ClockEnd h = h
    ends Tick (Full need free durable) h = absurd h
    ends Tick (CountEnd which) h = absurd h
    ends Tick (Halted unit by) h = absurd h
    ends Tick (CutIn unit) h = absurd h
    ends Tick Cut h = absurd (nobody caller h)
    ends Sync (At unit place) h = absurd h
    ends Sync (Synced epoch) h = tt
    ends Sync (Ticked epoch) h = absurd h
    ends Sync (Stuck unit epoch) h = absurd (no_cut h.by unit h.cut)
    ends Sync ClockEnd h = h
    ends Sync (Full need free durable) h = absurd h
    ends Sync (CountEnd which) h = absurd h
    ends Sync (Halted unit by) h = absurd h
    ends Sync (CutIn unit) h = absurd h
    ends Sync Cut h = absurd (nobody caller h)

  none_left : (caller : ℕ) (os : List Outcome) → slice_get r.outcomes caller ≡ Some os → length os < length (lines_of j caller) → ⊥
  none_left caller os e few =
      let cut = (f.answers caller os e).all few in
      let there = item_read os cut.0 cut.1 cut.2 (sym cut.3) in
      let kept = uncut_at caller os e cut.0 cut.1 there in
      let is = cut.4 in
      absurd (cc)

  pub carried_out : (caller : ℕ) (os : List Outcome) → slice_get r.outcomes caller ≡ Some os
      → AreCarriedOut r.image_clock (lines_of j caller) os
  carried_out caller os e =
      let a = f.answers caller os e in
      let few = a.few in
      let none_lacks = none_left caller os e in
      record {
        all = omega (arith, few, none_lacks);
        each = λ i l o at there. ends caller (take i os) (drop (i + 1) os) l.deed o (a.each i l o at there);
      }
