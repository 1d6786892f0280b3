-- The steps by which the advancer makes words durable and moves the clock keep the roles of the slots.
use Rattle.std.proofs.Common.{◌≡◌, ℕ, ◌+◌, ◌<◌, ◌≤◌, List, [], length, set, sym, refl, ◌∙◌, subst, ⊎_elim, arith}
use Rattle.std.specs.Prelude.{slice_get, slice_index, Some}
use Rattle.std.specs.List.{Contains}
use Rattle.mont_base.specs.declared.constants.TheConstants.{FIELDS}
use Rattle.mont_base.specs.declared.record.Held.{Held}
use Rattle.mont_base.specs.Layout.{Shape, units_of, total_of, words_of, word_of, unit_of_slot}
use Rattle.mont_base.specs.Image.{words_at}
use Rattle.mont_laws.proofs.Members.{no_element}
use Rattle.mont_laws.proofs.SlotWords.{stores_change_one_field, clock_stores_change_clock, word_at}
use Rattle.mont_laws.proofs.UnitSlots.{slots_have_units}
use Rattle.core_steps.specs.declared.parts.UnitPart.{UnitPart}
use Rattle.core_steps.specs.declared.parts.UnitStage.TheVariants.{Within}
use Rattle.core_steps.specs.Places.{EachAt}
use Rattle.core_steps.specs.Stages.{is_closing}
use Rattle.core_steps.specs.Roles.{Role, Free, Unfinished, Written, Kept, Lost, SlotFits, Says, HasSlots}
use Rattle.core_steps.proofs.RowFacts.{item_at}
use Rattle.core_steps.proofs.RoleWords.{refit, persist_fits, IsReady, later_fits}
use Rattle.core_steps.proofs.RoleMoves.{put, put_same, shows_same, durable_moves, fits_moved}

module _ (s : Shape) (now : ℕ) (cur dur : List ℕ) (units : List UnitPart) (h : HasSlots s now cur dur units) where
  -- a word of a record of the epoch before the clock becomes durable
  pub slots_persist_word : (u : ℕ) (p : UnitPart) (r : Held) (field value : ℕ) → slice_get units u ≡ Some p → Contains p.records r
      → r.label.epoch + 1 ≡ now → field < FIELDS → value ≡ slice_index cur (word_of r.slot field)
      → HasSlots s now cur (set dur (word_of r.slot field) value) units
  slots_persist_word u p r field value at listed before few is =
      let slot : ℕ = r.slot in
      let x : Role = Kept r (is_closing p.stage slot) in
      let place = (h.shows u p at).says slot x (refl, refl, listed) in
      let fits : SlotFits now (unit_of_slot s slot) x (words_at cur slot) (words_at dur slot) =
      subst (λ (y : Role). SlotFits now (unit_of_slot s slot) y (words_at cur slot) (words_at dur slot)) place.is
      (h.fits slot place.inside) in
      let late = persist_fits now (unit_of_slot s slot) field value r (is_closing p.stage slot) (words_at cur slot) (words_at dur slot)
      fits before (is ∙ sym (word_at cur slot field few)) in record {
        role = put h.role slot x;
        fits = fits_moved s h.role now cur dur cur (set dur (word_of slot field) value) slot x h.fits
            (durable_moves cur dur slot field value few)
            (subst (λ (l : List ℕ). SlotFits now (unit_of_slot s slot) x (words_at cur slot) l)
            (sym (stores_change_one_field dur slot field value few).own) late);
        shows = λ v q e. shows_same s h.role (put h.role slot x) v q (λ t of_t. put_same h.role slot x place.is t) (h.shows v q e);
      }

  -- the durable clock changes
  pub slots_persist_clock : (value : ℕ) → length dur ≡ words_of s → HasSlots s now cur (set dur 0 value) units
  slots_persist_clock value long = record {
    role = h.role;
    fits = λ slot low. refit now (unit_of_slot s slot) (h.role slot) (h.role slot) (words_at cur slot) (words_at cur slot)
        (words_at dur slot) (words_at (set dur 0 value) slot) refl refl
        (sym ((clock_stores_change_clock dur value (omega arith)).slots slot)) (h.fits slot low);
    shows = h.shows;
  }

  -- ---- the clock moves on, where all units within an epoch are at it, and all records of the epoch before are durable
  module _ (passed : (u : ℕ) (p : UnitPart) (e : ℕ) → slice_get units u ≡ Some p → p.stage ≡ Within e → e ≡ now)
      (flushed : (u : ℕ) (p : UnitPart) (r : Held) → slice_get units u ≡ Some p → Contains p.records r → r.label.epoch + 1 ≡ now
      → words_at dur r.slot ≡ words_at cur r.slot)
      (none_lost : EachAt (λ (u : ℕ) (p : UnitPart). p.lost ≡ []) units) where
    -- what a part says of a slot is ready for the next epoch
    ready_said : (u : ℕ) (p : UnitPart) (slot : ℕ) (x : Role) → slice_get units u ≡ Some p → Says p slot x
        → IsReady now x (words_at cur slot) (words_at dur slot)
    ready_said u p slot Free at k = tt
    ready_said u p slot (Unfinished w) at k = tt
    ready_said u p slot (Written w) at k = passed u p w.label.epoch at ((h.shows u p at).wrote w k.1)
    ready_said u p slot (Kept r closing) at k =
        λ before. subst (λ (n : ℕ). words_at dur n ≡ words_at cur n) k.0 (flushed u p r at k.2 before)
    ready_said u p slot (Lost closing) at k = no_element slot (subst (λ (l : List ℕ). Contains l slot) (none_lost u p at) k.1)

    -- so is each slot of the store
    ready_slot : 1 ≤ s.slots → length units ≡ units_of s → (slot : ℕ) → slot < total_of s
        → IsReady now (h.role slot) (words_at cur slot) (words_at dur slot)
    ready_slot some count slot low =
        let u : ℕ = unit_of_slot s slot in
        let inside : u < units_of s = (slots_have_units s slot some).0 low in
        let there = item_at units u (omega arith) in ⊎_elim
        (λ (f : h.role slot ≡ Free). subst (λ (x : Role). IsReady now x (words_at cur slot) (words_at dur slot)) (sym f) tt)
        (λ (k : Says there.0 slot (h.role slot)). ready_said u there.0 slot (h.role slot) there.1 k)
        ((h.shows u there.0 there.1).others slot refl)

    -- the clock moves
    pub slots_set_clock : 1 ≤ s.slots → length cur ≡ words_of s → length units ≡ units_of s
        → HasSlots s (now + 1) (set cur 0 (now + 1)) dur units
    slots_set_clock some long count = record {
      role = h.role;
      fits = λ slot low. refit (now + 1) (unit_of_slot s slot) (h.role slot) (h.role slot)
          (words_at cur slot) (words_at (set cur 0 (now + 1)) slot) (words_at dur slot) (words_at dur slot)
          refl (sym ((clock_stores_change_clock cur (now + 1) (omega arith)).slots slot)) refl
          (later_fits now (unit_of_slot s slot) (h.role slot) (words_at cur slot) (words_at dur slot) (h.fits slot low)
          (ready_slot some count slot low));
      shows = h.shows;
    }
