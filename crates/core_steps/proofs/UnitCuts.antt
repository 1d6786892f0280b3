-- What an image has of a unit shows the unit's history up to the image's cut, whether a slot that is being closed is read or not.
use Rattle.std.proofs.Common.{◌≡◌, ℕ, ◌+◌, ◌≤◌, List, [], ◌∷◌, sym, subst, inl, inr, arith}
use Rattle.std.specs.Prelude.{◌↔◌, ◌≢◌, AllPairs, Option, Some, None}
use Rattle.std.specs.List.{Contains}
use Rattle.mont_base.specs.declared.record.Held.{Held}
use Rattle.mont_base.specs.Layout.{Shape}
use Rattle.mont_base.specs.State.{State}
use Rattle.mont_base.specs.History.{state_after, cut_at}
use Rattle.mont_base.specs.Versions.{live_objects}
use Rattle.mont_base.specs.Structure.{IsStructure}
use Rattle.mont_base.specs.Image.{clock_of, cut_of, records_of, DiffersFrom}
use Rattle.mont_laws.specs.declared.retiring.Retired.{Retired}
use Rattle.mont_laws.specs.Records.{AreApart, AreSameRecords, cut_records, without_slot}
use Rattle.mont_laws.specs.Structures.{HasStructure}
use Rattle.mont_laws.specs.Retiring.{Retires, ShowSameAt}
use Rattle.mont_laws.specs.UnitRecords.{IsCutOf, ReadsUnit}
use Rattle.mont_laws.proofs.Agreement.{objects_make, objects_show}
use Rattle.mont_laws.proofs.Apart.{apart_filter, stays, stayed}
use Rattle.mont_laws.proofs.Closing.{closes_first}
use Rattle.mont_laws.proofs.Obsolete.{without_cut}
use Rattle.mont_laws.proofs.Shown.{in_any_order}
use Rattle.mont_laws.proofs.UnitRecords.{records_are_listed}
use Rattle.core_steps.specs.declared.parts.UnitPart.{UnitPart}
use Rattle.core_steps.specs.declared.parts.UnitStage.{UnitStage}
use Rattle.core_steps.specs.declared.parts.UnitStage.TheVariants.{Closing}
use Rattle.core_steps.specs.Closing.{IsFirstDue, IsDueNow, CanClose}
use Rattle.core_steps.specs.UnitClauses.{HasVersions, ClosesDue, UnitFits}
use Rattle.core_steps.proofs.UnitQueues.{without_free}
use Rattle.core_steps.proofs.UnitCloses.{due_lost}

-- ---- a slot that is due makes no difference from the durable cut on
-- the first retired one, with its record
same_due : (s : Shape) (u x known slot : ℕ) (rs : List Held) (ts : List Retired) → AreApart rs → Retires rs ts → IsFirstDue ts known slot
    → known ≤ x + 2 → ShowSameAt s u x (without_slot slot rs) rs
same_due s u x known slot rs [] apart h due low = absurd due
same_due s u x known slot rs (t ∷ ts) apart h due low =
    let far = due.1 in
    subst (λ (n : ℕ). ShowSameAt s u x (without_slot n rs) rs) due.0 (closes_first s u x rs t ts apart h (omega arith)).2

-- or a lost one, which no record has
pub closing_same : (s : Shape) (u x b slot : ℕ) (p : UnitPart) → HasVersions b p.records p.retired → IsDueNow p slot
    → ((r : Held) → Contains p.records r → Contains p.lost slot → r.slot ≢ slot) → p.durable ≤ x + 2
    → ShowSameAt s u x (without_slot slot p.records) p.records
closing_same s u x b slot p versions due other low = elim due [
  | inl first ↦ same_due s u x p.durable slot p.records p.retired versions.apart versions.retires first low
  | inr lost ↦ λ state.
      let kept = without_free slot p.records (λ r a. other r a (due_lost p.lost slot lost)) in
      subst (λ (qs : List Held). HasStructure s u (cut_records x qs) state ↔ HasStructure s u (cut_records x p.records) state) (sym kept)
      (λ h. h, λ h. h)
]

-- ---- recovery's list
-- it stands by rising slot, so it is apart where no version stands twice
pub listed_apart : (s : Shape) (image : List ℕ) (u : ℕ) → 1 ≤ s.slots → AllPairs DiffersFrom (records_of s image u)
    → AreApart (records_of s image u)
listed_apart s image u some differ = record {
  slots = λ i j c low high e. let l = (records_are_listed s image u some).rising i j c low high in absurd (omega arith);
  versions = differ;
}

-- the same records, told from the others
flipped : (rs qs : List Held) → AreSameRecords rs qs → AreSameRecords qs rs
flipped rs qs same r = ((same r).1, (same r).0)

-- and what is left of the same records without a slot
same_without : (slot : ℕ) (rs : List Held) (cut : ℕ) (read : List Held) → AreSameRecords read (cut_records cut rs)
    → AreSameRecords (without_slot slot read) (cut_records cut (without_slot slot rs))
same_without slot rs cut read same = subst (AreSameRecords (without_slot slot read)) (sym (without_cut cut slot rs)) (λ r. (
  λ h. let k = stayed r slot read h in stays r slot (cut_records cut rs) ((same r).0 k.0) k.1,
  λ h. let k = stayed r slot (cut_records cut rs) h in stays r slot read ((same r).1 k.0) k.1,
))

module _ (s : Shape) (b now d u : ℕ) (st : State) (p : UnitPart) (image : List ℕ) (some : 1 ≤ s.slots) (fits : UnitFits s b now d u st p)
    (other : (slot : ℕ) (r : Held) → Contains p.records r → Contains p.lost slot → r.slot ≢ slot) (known : p.durable ≤ d)
    (reached : d ≤ clock_of image) where
  -- the records up to the image's cut show the history up to it
  shown_cut : HasStructure s u (cut_records (cut_of image) p.records) (state_after st (cut_at (cut_of image) p.history))
  shown_cut = fits.objects (cut_of image) (omega arith)

  -- a closing slot is due
  closing_due : (slot : ℕ) → p.stage ≡ Closing slot → IsDueNow p slot
  closing_due slot stage = subst (λ (stage : UnitStage). ClosesDue stage p) stage fits.closing

  -- so what is read shows the same
  shown_read : (closing : Option ℕ) → ((slot : ℕ) → closing ≡ Some slot → p.stage ≡ Closing slot)
      → (read : List Held) → AreApart read → IsCutOf (cut_of image) p.records closing read
      → HasStructure s u read (state_after st (cut_at (cut_of image) p.history))
  shown_read closing closes read apart (inl same) =
      in_any_order s u (cut_records (cut_of image) p.records) read _ apart (flipped read _ same) shown_cut
  shown_read closing closes read apart (inr h) =
      in_any_order s u (cut_records (cut_of image) (without_slot h.0 p.records)) read _ apart (flipped read _ h.2)
      ((closing_same s u (cut_of image) b h.0 p fits.versions (closing_due h.0 (closes h.0 h.1)) (other h.0) (omega arith) _).1 shown_cut)

  -- The objects that an image has of the unit make the state to which its history up to the image's cut leads, and no version
  -- stands twice.
  pub unit_cut : (closing : Option ℕ) → ((slot : ℕ) → closing ≡ Some slot → p.stage ≡ Closing slot)
      → ReadsUnit s p.records closing image u
      → IsStructure s u (live_objects (records_of s image u)) (state_after st (cut_at (cut_of image) p.history))
      × AllPairs DiffersFrom (records_of s image u)
  unit_cut closing closes reads =
      let differ = reads.apart fits.versions.apart.versions in
      let apart = listed_apart s image u some differ in
      (objects_make s u (records_of s image u) apart _ (shown_read closing closes (records_of s image u) apart reads.cut), differ)

  -- ---- safe closing: what is read of the unit makes the same structure with the slot and without it
  pub unit_closes_safely : (slot : ℕ) → CanClose p slot → ReadsUnit s p.records None image u → (state : State)
      → IsStructure s u (live_objects (records_of s image u)) state
      ↔ IsStructure s u (live_objects (without_slot slot (records_of s image u))) state
  unit_closes_safely slot can reads state = by reads.cut
    where
      read : List Held
      read = records_of s image u

      left : List Held
      left = cut_records (cut_of image) (without_slot slot p.records)

      apart : AreApart read
      apart = listed_apart s image u some (reads.apart fits.versions.apart.versions)

      all_apart : AreApart (cut_records (cut_of image) p.records)
      all_apart = apart_filter p.records fits.versions.apart _

      left_apart : AreApart left
      left_apart = apart_filter (without_slot slot p.records) (apart_filter p.records fits.versions.apart _) _

      shows : ShowSameAt s u (cut_of image) (without_slot slot p.records) p.records
      shows = closing_same s u (cut_of image) b slot p fits.versions can.due (other slot) (omega arith)

      by : IsCutOf (cut_of image) p.records None read
          → IsStructure s u (live_objects read) state ↔ IsStructure s u (live_objects (without_slot slot read)) state
      by (inl same) =
          let fewer = same_without slot p.records (cut_of image) read same in (
            λ h. objects_make s u (without_slot slot read) (apart_filter read apart _) state
                (in_any_order s u left (without_slot slot read) state (apart_filter read apart _) (flipped _ left fewer)
                ((shows state).1 (in_any_order s u read _ state all_apart same (objects_show s u read apart state h)))),
            λ h. objects_make s u read apart state
                (in_any_order s u _ read state apart (flipped read _ same)
                ((shows state).0 (in_any_order s u _ left state left_apart fewer
                (objects_show s u (without_slot slot read) (apart_filter read apart _) state h)))),
          )
      by (inr h) = absurd (cc)
