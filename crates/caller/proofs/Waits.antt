-- How a caller is while it waits, and what stays.
use Rattle.std.proofs.Common.{◌≡◌, ℕ, ◌+◌, ◌-◌, ◌<◌, ◌≤◌, Bool, true, List, length, cond, max, refl, sym, ap, ◌∙◌, subst, inr, arith}
use Rattle.std.specs.Prelude.{None}
use Rattle.std.proofs.lemmas.Bool.{lt-leb}
use Rattle.mont_base.specs.declared.constants.TheConstants.{LAST}
use Rattle.core_steps.specs.declared.parts.Mark.{Mark}
use Rattle.heap_rule.specs.Plays.{IsDurable}
use Rattle.heap_rule.specs.Views.{caller_saw}
use Rattle.heap_rule.proofs.SeenFronts.{longer_none}
use Rattle.heap.specs.HeapShown.{HeapShown, CallerShown}
use Rattle.advance.specs.declared.advance_refusal.AdvanceRefusal.{AdvanceRefusal}
use Rattle.advance.specs.declared.advance_refusal.AdvanceRefusal.TheVariants as advances
use Rattle.caller.specs.declared.sync_refusal.SyncRefusal.{SyncRefusal}
use Rattle.caller.specs.declared.sync_refusal.SyncRefusal.TheVariants.{Stuck, Cut, ClockEnd}
use Rattle.caller.specs.Telling.{has_mark}
use Rattle.caller.specs.Syncing.{KeepsSeen, HasWaited, HasHeard, LeavesUnsynced, refusal_of_advance}
use Rattle.caller.proofs.TakenNotes.{or_left, or_right, joined_has, odd_has, greater_none}

-- ---- waiting
-- the caller after a load of the durable clock, with these synced fronts
abbrev loaded_by : CallerShown → ℕ → ℕ → List ℕ → CallerShown
loaded_by q steps clock synced = record {
  table = q.table;
  known = record q.known { part = record q.known.part { durable = clock; synced = synced }; steps = steps; loaded = clock };
}

abbrev saw : CallerShown → ℕ → CallerShown
saw q clock = record { table = q.table; known = caller_saw q.known clock }

-- one load more that was short
waits_more : (x y z : CallerShown) (clock : ℕ) → HasWaited x y → z ≡ saw y clock → IsDurable y.known.part.durable clock
    → clock < y.known.part.newest + 2 → HasWaited x z
waits_more x y z clock w made d short =
    let steps = w.steps in
    let durable = w.durable in
    let behind = d.not_behind in
    subst (λ (v : CallerShown). HasWaited x v) (sym made) (record {
      steps = omega arith;
      durable = omega arith;
      short = λ more. record { found = refl; below = short };
      only =
          ap (λ (b : Bool). loaded_by y (y.known.steps + 1) clock (cond b y.known.part.fronts y.known.part.synced))
          (lt-leb (y.known.part.newest + 2) clock short)
          ∙ ap (λ (v : CallerShown). loaded_by v (y.known.steps + 1) clock v.known.part.synced) w.only;
    })

-- one by which the newest epoch is seen to be too new, and it was made
pub waits_on : (x y z : CallerShown) (clock newest : ℕ) → HasWaited x y → z ≡ saw y clock → IsDurable y.known.part.durable clock
    → newest ≡ z.known.part.newest → clock - 2 < newest
    → HasWaited x z × (x.known.steps < z.known.steps) × (z.known.part.durable ≤ LAST)
waits_on x y z clock newest w made d is new =
    let low = d.low in
    let before = w.steps in
    let same = ap (λ (v : CallerShown). v.known.part.newest) {x = z} {y = saw y clock} made in
    let steps = ap (λ (v : CallerShown). v.known.steps) {x = z} {y = saw y clock} made in
    let durable = ap (λ (v : CallerShown). v.known.part.durable) {x = z} {y = saw y clock} made in
    let high = d.high in
    (waits_more x y z clock w made d (omega arith), omega arith, omega arith)

-- ---- what stays
pub keeps_waited : (x y : CallerShown) → HasWaited x y → KeepsSeen x y
keeps_waited x y w = record {
  table = ap (λ (v : CallerShown). v.table) w.only;
  caller = ap (λ (v : CallerShown). v.known.caller) w.only;
  calls = ap (λ (v : CallerShown). v.known.part.calls) w.only;
  receipts = ap (λ (v : CallerShown). v.known.part.receipts) w.only;
  fronts = ap (λ (v : CallerShown). v.known.part.fronts) w.only;
  newest = ap (λ (v : CallerShown). v.known.part.newest) w.only;
  cuts = ap (λ (v : CallerShown). v.known.part.cuts) w.only;
  entries = ap (λ (v : CallerShown). v.known.entries) w.only;
  durable = w.durable;
  marks = λ m has. ap (λ (v : CallerShown). has_mark v.known.part.marks m) w.only ∙ has;
}

-- ---- a note of the advancer
same_newest : (n : ℕ) → max n 0 ≡ n
same_newest n = omega arith

module _ (heap : HeapShown) (x y : CallerShown) (why : AdvanceRefusal) (h : HasHeard heap x y why) where
  pub keeps_heard : KeepsSeen x y
  keeps_heard =
      let durable = ap (λ (v : CallerShown). v.known.part.durable) h.noted in record {
        table = ap (λ (v : CallerShown). v.table) h.noted;
        caller = ap (λ (v : CallerShown). v.known.caller) h.noted;
        calls = ap (λ (v : CallerShown). v.known.part.calls) h.noted;
        receipts = ap (λ (v : CallerShown). v.known.part.receipts) h.noted;
        fronts = ap (λ (v : CallerShown). v.known.part.fronts) h.noted ∙ greater_none x.known.part.fronts;
        newest = ap (λ (v : CallerShown). v.known.part.newest) h.noted ∙ same_newest x.known.part.newest;
        cuts = ap (λ (v : CallerShown). v.known.part.cuts) h.noted;
        entries = ap (λ (v : CallerShown). v.known.entries) h.noted ∙ longer_none x.known.entries (length x.known.part.fronts);
        durable = omega arith;
        marks = λ m has. ap (λ (v : CallerShown). has_mark v.known.part.marks m) h.noted
            ∙ joined_has x.known.part.marks _ m (or_left (has_mark x.known.part.marks m) _ has);
      }

pub marked_heard : (heap : HeapShown) (x y : CallerShown) (unit epoch : ℕ) → HasHeard heap x y (advances.NotYet unit epoch true)
    → has_mark y.known.part.marks (record { unit = unit; by = None }) ≡ true
marked_heard heap x y unit epoch h =
    let m : Mark = record { unit = unit; by = None } in
    ap (λ (v : CallerShown). has_mark v.known.part.marks m) h.noted
    ∙ joined_has x.known.part.marks _ m
    (or_right (has_mark x.known.part.marks m) _ (odd_has h.behind.known.odd unit (h.reason.marked refl)))

pub keeps_more : (x y z : CallerShown) → KeepsSeen x y → KeepsSeen y z → KeepsSeen x z
keeps_more x y z h j =
    let first = h.durable in
    let then = j.durable in record {
      table = j.table ∙ h.table;
      caller = j.caller ∙ h.caller;
      calls = j.calls ∙ h.calls;
      receipts = j.receipts ∙ h.receipts;
      fronts = j.fronts ∙ h.fronts;
      newest = j.newest ∙ h.newest;
      cuts = j.cuts ∙ h.cuts;
      entries = j.entries ∙ h.entries;
      durable = omega arith;
      marks = λ m has. j.marks m (h.marks m has);
    }

-- a durable clock of the advancer's that is the last one
last_heard : (known durable heard : ℕ) → heard ≡ max known durable → durable ≡ LAST → known ≤ LAST → heard ≡ LAST
last_heard known durable heard is last high = omega arith

-- ---- refusals
pub leaves_held_up : (heap : HeapShown) (x y z : CallerShown) (why : SyncRefusal) → HasWaited x y → x.known.steps < y.known.steps
    → y.known.part.durable ≤ LAST → HasHeard heap y z (refusal_of_advance why) → LeavesUnsynced heap x z why
leaves_held_up heap x y z (Stuck unit epoch) w more high h =
    let durable = ap (λ (v : CallerShown). v.known.part.durable) h.noted in
    let below = h.reason.below_durable in record {
      held_up = record { waiting = y; waited = w; loads = more; heard = h };
      marked = marked_heard heap y z unit epoch h;
      below = omega arith;
    }
leaves_held_up heap x y z Cut w more high h = inr (record { waiting = y; waited = w; loads = more; heard = h })
leaves_held_up heap x y z ClockEnd w more high h = record {
  held_up = record { waiting = y; waited = w; loads = more; heard = h };
  last = last_heard y.known.part.durable h.behind.known.durable z.known.part.durable
      (ap (λ (v : CallerShown). v.known.part.durable) h.noted) h.reason.durable high;
}
