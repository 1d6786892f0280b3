-- What is true of a unit when its store is opened: one that was never used, or one that was recovered.
use Rattle.std.proofs.Common.{◌≡◌, ℕ, ◌+◌, ◌<◌, ◌≤◌, List, [], ◌∷◌, sym, refl, ◌∙◌, subst, inl, inr, arith, false}
use Rattle.std.specs.Prelude.{◌≢◌, Some, All, AllPairs, if◌then◌else◌}
use Rattle.std.specs.List.{Contains}
use Rattle.std.proofs.lemmas.Bool.Decides.{nat_tests}
use Rattle.std.proofs.lemmas.List.Elements.{All-head, All-tail, All-nil}
use Rattle.std.proofs.lemmas.List.Sums.{sum_by-cons}
use Rattle.mont_base.specs.declared.constants.TheConstants.{LAST}
use Rattle.mont_base.specs.declared.kinds.UnitKind.{UnitKind}
use Rattle.mont_base.specs.declared.record.Held.{Held}
use Rattle.mont_base.specs.declared.operation.Entry.{Entry}
use Rattle.mont_base.specs.Layout.{Shape, units_of, total_of, kind_of}
use Rattle.mont_base.specs.State.{State, empty_state, unit_of_op}
use Rattle.mont_base.specs.History.{IsLegal}
use Rattle.mont_base.specs.Versions.{live_objects}
use Rattle.mont_base.specs.Structure.{IsStructure}
use Rattle.mont_base.specs.Image.{clock_of, cut_of, records_of, IsWellFormed, DiffersFrom}
use Rattle.mont_laws.specs.declared.retiring.Retired.{Retired}
use Rattle.mont_laws.specs.Records.{AreApart, AreSameRecords}
use Rattle.mont_laws.specs.Retiring.{Retires, IsBelow, retired_among, is_late, count_late}
use Rattle.mont_laws.proofs.Members.{no_element, all_elements}
use Rattle.mont_laws.proofs.Agreement.{objects_show}
use Rattle.mont_laws.proofs.Histories.{follows_found}
use Rattle.mont_laws.proofs.Recovered.{found_retire}
use Rattle.mont_laws.proofs.SettledWords.{well_formed_slots_are_read}
use Rattle.mont_laws.proofs.Shown.{empty_structure}
use Rattle.mont_laws.proofs.UnitRecords.{read_of_listed}
use Rattle.mont_laws.proofs.UnitSlots.{slots_have_units}
use Rattle.core_steps.specs.declared.parts.UnitPart.{UnitPart}
use Rattle.core_steps.specs.declared.parts.UnitStage.{UnitStage}
use Rattle.core_steps.specs.declared.parts.UnitStage.TheVariants.{Idle}
use Rattle.core_steps.specs.Stages.{limit_of}
use Rattle.core_steps.specs.Fresh.{fresh_unit}
use Rattle.core_steps.specs.Opened.{IsRecoveredUnit}
use Rattle.core_steps.specs.UnitClauses.{IsOwnEpoch, RetiresBefore, HasVersions, AreReached, ClosesDue, UnitFits}
use Rattle.core_steps.proofs.UnitQueues.{pairs_all, retired_low}
use Rattle.core_steps.proofs.UnitFrames.{unit_same}
use Rattle.core_steps.proofs.UnitCuts.{listed_apart}

-- ---- a unit that was never used
-- nothing is related in an empty list
pairs_none : {A : Type 0} (R : A → A → Type 0) → AllPairs R []
pairs_none R i j d low high = absurd (omega arith)

-- a history that is empty yet is legal
no_history : (s : Shape) (u : ℕ) (st : State) (b : ℕ) → IsLegal s u st b []
no_history s u st b = record {
  of_unit = All-nil (λ (e : Entry). unit_of_op s e.op ≡ Some u);
  replies = tt;
  rising = pairs_none (λ (d e : Entry). d.epoch ≤ e.epoch);
  begins = All-nil (λ (e : Entry). b ≤ e.epoch);
  ends = All-nil (λ (e : Entry). e.epoch ≤ LAST);
}

-- what is true of it
pub unit_fresh : (s : Shape) (b now d u : ℕ) (kind : UnitKind) → kind_of s u ≡ Some kind
    → UnitFits s b now d u (empty_state kind) fresh_unit
unit_fresh s b now d u kind of_unit = record {
  versions = record {
    apart = record { slots = pairs_none (λ (r q : Held). r.slot ≢ q.slot); versions = pairs_none DiffersFrom };
    retires = record { kept = λ r a. absurd (no_element r a); single = λ r a. absurd (no_element r a) };
    own = All-nil (IsOwnEpoch b []);
    rising = pairs_none (RetiresBefore b);
  };
  objects = λ x above. empty_structure s u kind of_unit;
  legal = no_history s u (empty_state kind) b;
  reached = record {
    of_records = All-nil (λ (r : Held). r.label.epoch ≤ now);
    of_entries = All-nil (λ (e : Entry). e.epoch ≤ now);
  };
  room = λ x begun known. refl;
  closing = tt;
}

-- retired slots of old epochs don't count
count_none : (x : ℕ) (ts : List Retired) → All (λ (t : Retired). t.epoch + 2 ≤ x) ts → count_late x ts ≡ 0
count_none x [] early = refl
count_none x (t ∷ ts) early =
    let l = All-head (λ (t : Retired). t.epoch + 2 ≤ x) t ts early in
    let is : is_late x t ≡ false = grind (arith, nat_tests) in
    sum_by-cons (λ v. if is_late x v then 1 else 0) t ts
    ∙ rw is (omega (arith, count_none x ts (All-tail (λ (t : Retired). t.epoch + 2 ≤ x) t ts early)))

-- ---- a unit that was recovered
module _ (s : Shape) (image : List ℕ) (u : ℕ) (well : IsWellFormed s image) (low : u < units_of s) where
  abbrev found : List Held
  found = records_of s image u

  -- a unit has slots
  some : 1 ≤ s.slots
  some = let least = well.layout.some_slots in omega arith

  -- what was found is apart
  found_apart : AreApart found
  found_apart = listed_apart s image u some (well.apart u low)

  -- the records that were found are two epochs older than the clock
  found_old : (r : Held) → Contains found r → r.label.epoch + 2 ≤ clock_of image
  found_old r a =
      let at = read_of_listed s image u r some a in
      let in_store : r.slot < total_of s = (slots_have_units s r.slot some).1 (subst (λ (v : ℕ). v < units_of s) (sym at.0) low) in
      let within = (((well_formed_slots_are_read s image r.slot well in_store).some r).0 at.1).within in
      let begun = well.clock_begun in
      omega arith

  -- so they are in each cut from then on
  found_low : (x : ℕ) → clock_of image ≤ x + 2 → All (λ (r : Held). r.label.epoch ≤ x) found
  found_low x above = all_elements (λ (r : Held). r.label.epoch ≤ x) found (λ r a. let old = found_old r a in omega arith)

  module _ (sorted : List Held) (rising : AllPairs IsBelow sorted) (same : AreSameRecords found sorted) where
    -- what is retired of them
    waits : Retires found (retired_among sorted)
    waits = found_retire found sorted found_apart rising same

    -- is as old
    waits_old : (t : Retired) → Contains (retired_among sorted) t → t.epoch + 2 ≤ clock_of image
    waits_old t a =
        let begun = well.clock_begun in
        let l = retired_low found (retired_among sorted) found_apart waits (cut_of image) (found_low (cut_of image) (omega arith)) t a in
        omega arith

    -- so the versions are as they have to be
    found_versions : HasVersions (clock_of image) found (retired_among sorted)
    found_versions = record {
      apart = found_apart;
      retires = waits;
      own = all_elements (IsOwnEpoch (clock_of image) found) (retired_among sorted) (λ t a r c is. inr (found_old r c));
      rising = pairs_all (RetiresBefore (clock_of image)) (retired_among sorted) (λ t v a c. inl (waits_old t a));
    }

    -- and no slot was retired late
    none_late : (x : ℕ) → clock_of image ≤ x → count_late x (retired_among sorted) ≡ 0
    none_late x above = count_none x (retired_among sorted) (all_elements (λ (t : Retired). t.epoch + 2 ≤ x) (retired_among sorted)
        (λ t a. let old = waits_old t a in omega arith))

    -- the part of such a unit, whatever else it says
    abbrev part_of : UnitPart → UnitPart
    part_of p = record p { stage = Idle; history = []; records = found; retired = retired_among sorted }

    -- all that has to be true of it
    part_fits : (st : State) (p : UnitPart) → IsStructure s u (live_objects found) st
        → UnitFits s (clock_of image) (clock_of image) (clock_of image) u st (part_of p)
    part_fits st p made = record {
      versions = found_versions;
      objects = λ x above. follows_found s u st x found (found_low x above) (objects_show s u found found_apart st made);
      legal = no_history s u st (clock_of image);
      reached = record {
        of_records = found_low (clock_of image) (omega arith);
        of_entries = All-nil (λ (e : Entry). e.epoch ≤ clock_of image);
      };
      room = λ x begun known. none_late x begun;
      closing = tt;
    }

    -- With the records of an image that recovery accepts, and what it retires of them, and no entry yet.
    pub unit_recovered : (st : State) (p : UnitPart) → IsStructure s u (live_objects found) st → p.records ≡ found
        → p.retired ≡ retired_among sorted → p.history ≡ [] → p.stage ≡ Idle
        → UnitFits s (clock_of image) (clock_of image) (clock_of image) u st p
    unit_recovered st p made records retired history stage =
        let fits = part_fits st p made in
        unit_same s (clock_of image) (clock_of image) u st (clock_of image) (clock_of image) (part_of p) p records retired history refl
        (subst (λ (stage : UnitStage). AreReached (limit_of (clock_of image) stage) found []) (sym stage) fits.reached)
        (subst (λ (stage : UnitStage). ClosesDue stage p) (sym stage) tt) fits

  -- So what recovery makes of a unit is true of it.
  pub unit_opened : (st : State) (p : UnitPart) → IsStructure s u (live_objects found) st → IsRecoveredUnit s image u p
      → UnitFits s (clock_of image) (clock_of image) (clock_of image) u st p
  unit_opened st p made k = unit_recovered k.retired.sorted k.retired.rising
      (subst (λ (rs : List Held). AreSameRecords rs k.retired.sorted) k.records k.retired.same) st p made k.records k.retired.is k.history
      k.stage
