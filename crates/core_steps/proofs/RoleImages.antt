-- What an image that a crash permits has of a unit's slots.
use Rattle.std.proofs.Common.{◌≡◌, ℕ, ◌+◌, ◌<◌, ◌≤◌, ◌⊎◌, List, [], ◌∷◌, length, get_or, sym, refl, ap, ◌∙◌, subst, inl, inr, ⊎_elim, arith, Bool, true, false}
use Rattle.std.specs.Prelude.{slice_get, Some, None}
use Rattle.std.proofs.lemmas.Bool.{eqb-true}
use Rattle.mont_base.specs.declared.record.Held.{Held}
use Rattle.mont_base.specs.Layout.{Shape, units_of, word_of, unit_of_slot}
use Rattle.mont_base.specs.Image.{IsPermitted, clock_of, cut_of, words_at, epoch_at}
use Rattle.mont_laws.specs.SlotImages.{IsOutside, closed_if, IsEpochOf}
use Rattle.mont_laws.specs.UnitRecords.{HasNone, HasOne, AreInSlots, ReadsUnit}
use Rattle.mont_laws.proofs.SlotWords.{first_at}
use Rattle.mont_laws.proofs.SlotImages.{either_word}
use Rattle.mont_laws.proofs.Cuts.{images_have_cuts}
use Rattle.core_steps.specs.declared.parts.UnitPart.{UnitPart}
use Rattle.core_steps.specs.declared.parts.UnitStage.{UnitStage}
use Rattle.core_steps.specs.declared.parts.UnitStage.TheVariants.{Idle, Told, Within, Closing}
use Rattle.core_steps.specs.declared.parts.Writing.{Writing}
use Rattle.core_steps.specs.Stages.{is_closing, closing_slot}
use Rattle.core_steps.specs.Storing.{IsFreeSlot}
use Rattle.core_steps.specs.Roles.{Role, Free, Unfinished, Written, Kept, Lost, IsFree, IsUnfinished, IsWritten, IsKept, IsLost, SlotFits, Says, HasSlots}
use Rattle.core_steps.proofs.RoleFacts.{slot_inside, record_unit, record_once, slot_looks_free}

-- ---- what is outside of a cut
closed_first : (closing : Bool) (ws : List ℕ)
    → (get_or (closed_if closing ws) 0 0 ≡ 0) ⊎ (get_or (closed_if closing ws) 0 0 ≡ get_or ws 0 0)
closed_first true [] = inl refl
closed_first true (x ∷ ws) = inl refl
closed_first false ws = inr refl

-- the label is closed or beyond the cut in both memories
abbrev AreOutside : ℕ → List ℕ → List ℕ → Type 0
AreOutside cut ws ds = IsOutside cut (get_or ws 0 0) × IsOutside cut (get_or ds 0 0)

-- a slot without a record is outside of each cut that may come
module _ (now unit cut : ℕ) (past : cut + 2 ≤ now) (ws ds : List ℕ) where
  free_outside : IsFree ws ds → AreOutside cut ws ds
  free_outside k = (inl k.closed, inl (ap (λ (l : List ℕ). get_or l 0 0) k.settled ∙ k.closed))

  unfinished_outside : (w : Writing) → IsUnfinished unit w ws ds → AreOutside cut ws ds
  unfinished_outside w k = (inl k.begun.closed, inl k.begun.was_closed)

  written_outside : (w : Held) → IsWritten now unit w ws ds → AreOutside cut ws ds
  written_outside w k =
      let near = k.near in
      let beyond : cut < w.label.epoch = omega arith in (
        subst (λ (l : List ℕ). IsOutside cut (get_or l 0 0)) (sym k.current) (inr beyond),
        ⊎_elim (λ (z : get_or ds 0 0 ≡ 0). inl z) (λ (e : get_or ds 0 0 ≡ w.label.epoch). inr (omega arith)) k.label,
      )

  lost_outside : (closing : Bool) → IsLost now closing ws ds → AreOutside cut ws ds
  lost_outside closing k =
      let beyond = k.beyond in
      let was : cut < get_or ds 0 0 = omega arith in (
        subst (λ (l : List ℕ). IsOutside cut (get_or l 0 0)) (sym k.current) (⊎_elim
            (λ (z : get_or (closed_if closing ds) 0 0 ≡ 0). inl z)
            (λ (e : get_or (closed_if closing ds) 0 0 ≡ get_or ds 0 0). inr (omega arith))
            (closed_first closing ds)),
        inr was,
      )

-- ---- each slot of a unit
closing_is : (stage : UnitStage) (slot : ℕ) → is_closing stage slot ≡ true → closing_slot stage ≡ Some slot
closing_is Idle slot e = absurd (cc)
closing_is (Told x) slot e = absurd (cc)
closing_is (Within x) slot e = absurd (cc)
closing_is (Closing n) slot e = ap Some (sym (eqb-true slot n e))

module _ (s : Shape) (now : ℕ) (cur dur : List ℕ) (units : List UnitPart) (u : ℕ) (p : UnitPart)
    (h : HasSlots s now cur dur units) (at : slice_get units u ≡ Some p) (some : 1 ≤ s.slots) (count : length units ≡ units_of s) where
  -- a record stands in each slot of the unit, or the slot is closed or beyond the cut
  module _ (cut : ℕ) (past : cut + 2 ≤ now) (slot : ℕ) where
    abbrev ws : List ℕ
    ws = words_at cur slot

    abbrev ds : List ℕ
    ds = words_at dur slot

    -- no record is in a slot of another role
    none_there : (x : Role) → h.role slot ≡ x → ((r : Held) (closing : Bool) → x ≡ Kept r closing → ⊥) → AreOutside cut ws ds
        → HasNone cut p.records cur dur slot
    none_there x is other out = record {
      none = λ r k there. other r (is_closing p.stage slot)
          (sym is ∙ ((h.shows u p at).says slot (Kept r (is_closing p.stage slot)) (there, refl, k)).is);
      outside = record {
        in_current = subst (IsOutside cut) (first_at cur slot) out.0;
        in_durable = subst (IsOutside cut) (first_at dur slot) out.1;
      };
    }

    -- one is in a record's slot
    one_there : (r : Held) (closing : Bool) → Says p slot (Kept r closing)
        → IsKept now (unit_of_slot s slot) r closing ws ds → HasOne s cut p.records (closing_slot p.stage) cur dur slot
    one_there r closing says k = record {
      held = r;
      listed = says.2;
      only = λ q l there. record_once s now cur dur units u p h at q r l says.2 (there ∙ sym says.0);
      closed = closing;
      closes = λ e. closing_is p.stage slot (sym says.1 ∙ e);
      stands = record {
        valid = k.valid;
        there = says.0;
        in_current = k.current;
        durable_epoch = subst (IsEpochOf r) (first_at dur slot) k.label;
        in_durable = λ low. k.old (omega arith);
      };
    }

    -- by the role of the slot
    in_slot : (x : Role) → h.role slot ≡ x → SlotFits now (unit_of_slot s slot) x ws ds → (x ≡ Free) ⊎ Says p slot x
        → HasNone cut p.records cur dur slot ⊎ HasOne s cut p.records (closing_slot p.stage) cur dur slot
    in_slot Free is k said = inl (none_there Free is (λ r b e. cc) (free_outside now (unit_of_slot s slot) cut past ws ds k))
    in_slot (Unfinished w) is k said =
        inl (none_there (Unfinished w) is (λ r b e. cc) (unfinished_outside now (unit_of_slot s slot) cut past ws ds w k))
    in_slot (Written w) is k said =
        inl (none_there (Written w) is (λ r b e. cc) (written_outside now (unit_of_slot s slot) cut past ws ds w k))
    in_slot (Kept r closing) is k said = inr (⊎_elim
        (λ (e : Kept r closing ≡ Free). absurd (cc))
        (λ (says : Says p slot (Kept r closing)). one_there r closing says k)
        said)
    in_slot (Lost closing) is k said =
        inl (none_there (Lost closing) is (λ r b e. cc) (lost_outside now (unit_of_slot s slot) cut past ws ds closing k))

  -- a record stands in each slot of the unit, or the slot is closed or beyond the cut
  pub records_in_slots : (cut : ℕ) → cut + 2 ≤ now → AreInSlots s cut p.records (closing_slot p.stage) cur dur u
  records_in_slots cut past = record {
    of_unit = λ r k. record_unit s now cur dur units u p h at r k;
    each = λ slot of_unit. in_slot cut past slot (h.role slot) refl
        (h.fits slot (slot_inside s now cur dur units u p h at some count slot of_unit)) ((h.shows u p at).others slot of_unit);
  }

  -- so it is for the cut of an image
  pub image_slots : (image : List ℕ) → 2 ≤ clock_of image → clock_of image ≤ now
      → AreInSlots s (cut_of image) p.records (closing_slot p.stage) cur dur u
  image_slots image begun reached = records_in_slots (cut_of image) (omega arith)

  -- so an image reads the records up to its cut, or these without the one that is being closed
  pub image_reads : (image : List ℕ) → IsPermitted cur dur image → 2 ≤ clock_of image → clock_of image ≤ now
      → ReadsUnit s p.records (closing_slot p.stage) image u
  image_reads image permitted begun reached = images_have_cuts s p.records (closing_slot p.stage) cur dur image u some permitted
      (image_slots image begun reached)

  -- a free slot is closed in each image
  pub free_in_images : (image : List ℕ) (slot : ℕ) → IsPermitted cur dur image → IsFreeSlot s u p slot → p.writing ≡ None
      → epoch_at image slot ≡ 0
  free_in_images image slot permitted free none =
      let k = slot_looks_free s now cur dur units u p h at some count slot free none in
      either_word (λ (w : ℕ). w ≡ 0) cur dur image (word_of slot 0) permitted k.closed k.was_closed
