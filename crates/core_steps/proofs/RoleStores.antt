-- The steps by which a unit writes records keep the roles of the slots.
use Rattle.std.proofs.Common.{◌≡◌, ◌≢◌, ℕ, ◌+◌, ◌-◌, ◌<◌, ◌≤◌, List, [], ◌∷◌, ◌++◌, length, set, get_or, sym, refl, ap, ◌∙◌, subst, inl, inr, ⊎_elim, arith, Bool, true, false}
use Rattle.std.specs.Prelude.{slice_get, Option, Some, None, ◌==◌, if◌then◌else◌}
use Rattle.std.specs.List.{Contains}
use Rattle.std.proofs.lemmas.Bool.{eq-eqb, ne_eqb}
use Rattle.std.proofs.lemmas.Option.{same_Some}
use Rattle.std.proofs.lemmas.List.Elements.{Contains-get_or, Contains-append_left, Contains-append_right, Contains-append_cases, Contains-push, Contains-push_cases}
use Rattle.std.proofs.lemmas.List.Quantifiers.{all_pairs_push}
use Rattle.mont_base.specs.declared.constants.TheConstants.{FIELDS}
use Rattle.mont_base.specs.declared.record.Held.{Held}
use Rattle.mont_base.specs.declared.operation.Entry.{Entry}
use Rattle.mont_base.specs.Layout.{Shape, units_of, total_of, words_of, word_of, unit_of_slot}
use Rattle.mont_base.specs.Image.{words_at}
use Rattle.mont_laws.specs.SlotReadings.{IsRecordOf}
use Rattle.mont_laws.proofs.Members.{no_element}
use Rattle.mont_laws.proofs.SlotWords.{stores_change_one_field, length-words_at}
use Rattle.core_steps.specs.declared.parts.UnitPart.{UnitPart}
use Rattle.core_steps.specs.declared.parts.UnitStage.{UnitStage}
use Rattle.core_steps.specs.declared.parts.UnitStage.TheVariants.{Within}
use Rattle.core_steps.specs.declared.parts.Writing.{Writing}
use Rattle.core_steps.specs.Stages.{is_closing, epoch_of}
use Rattle.core_steps.specs.Storing.{front_of, with_field, change_in, IsFreeSlot, IsTurn, CanStoreField, CanStoreLabel, after_store_field, after_store_label}
use Rattle.core_steps.specs.CallAnswers.{after_leave}
use Rattle.core_steps.specs.Roles.{Role, Free, Unfinished, Written, Kept, Lost, IsBegun, HasFields, IsUnfinished, IsWritten, SlotFits, Says, Shows, HasSlots}
use Rattle.core_steps.proofs.Rows.{each_set}
use Rattle.core_steps.proofs.RoleFronts.{same_fields, front_epoch, front_step, front_whole}
use Rattle.core_steps.proofs.RoleWords.{free_begun, store_fits, label_fits, left, leave_fits}
use Rattle.core_steps.proofs.RoleMoves.{stay, Moves, shows_same, current_moves, has_moved}
use Rattle.core_steps.proofs.RoleFacts.{slot_inside, free_role, free_fits, writing_fits, IsSpared, SparesSlot, spared, within_same}

-- a slot that a field may be stored in
abbrev pub IsOpen : Role → Type 0
IsOpen Free = Unit {0}
IsOpen (Unfinished w) = Unit {0}
IsOpen (Written w) = ⊥
IsOpen (Kept r closing) = ⊥
IsOpen (Lost closing) = ⊥

-- no advance writes such a slot back
open_spared : (now : ℕ) (x : Role) → IsOpen x → IsSpared now x
open_spared now Free k = tt
open_spared now (Unfinished w) k = tt
open_spared now (Written w) k = tt
open_spared now (Kept r closing) k = absurd k
open_spared now (Lost closing) k = tt

-- n fields of a record of the unit were stored into the slot
record IsAt (s : Shape) (role : ℕ → Role) (u slot n : ℕ) (ws ds : List ℕ) : Type 0 where
  pub inside : slot < total_of s
  pub of_unit : unit_of_slot s slot ≡ u
  pub open_slot : IsOpen (role slot)
  -- the slot that is being written is one
  pub begun : IsBegun n ws ds

module _ (s : Shape) (role : ℕ → Role) (u slot : ℕ) (p : UnitPart) (shows : Shows s role u p) (open_slot : IsOpen (role slot)) where
  -- an open slot is no record's, and nothing is written or lost in it
  not_written : (w : Held) → w.slot ≡ slot → Contains p.written w → ⊥
  not_written w e h = subst IsOpen (shows.says slot (Written w) (e, h)).is open_slot

  -- no record is in it
  not_kept : (r : Held) → r.slot ≡ slot → Contains p.records r → ⊥
  not_kept r e h = subst IsOpen (shows.says slot (Kept r (is_closing p.stage slot)) (e, refl, h)).is open_slot

  -- and it isn't lost
  not_lost : Contains p.lost slot → ⊥
  not_lost h = subst IsOpen (shows.says slot (Lost (is_closing p.stage slot)) (refl, h)).is open_slot

  -- a field is stored into it
  store_moves : (w : Writing) → w.slot ≡ slot → p.stage ≡ Within w.change.label.epoch
      → ((x : Writing) → p.writing ≡ Some x → x.slot ≡ slot) → Moves p (record p { writing = Some w }) slot (Unfinished w)
  store_moves w there stage one = record {
    records = λ r m. stay;
    written = λ z m. stay;
    writing = λ x m. (
      λ is. absurd (m (sym (ap (λ (y : Writing). y.slot) (same_Some w x is)) ∙ there)),
      λ is. absurd (m (one x is)),
    );
    lost = λ t m. stay;
    closing = λ t m. refl;
    own_record = λ r at h. absurd (not_kept r at h);
    own_written = λ z at h. absurd (not_written z at h);
    own_writing = λ x at is. ap Unfinished (same_Some w x is);
    own_lost = λ h. absurd (not_lost h);
    here = inr (there, refl);
    writes = λ x is. stage ∙ ap (λ (y : Writing). Within y.change.label.epoch) (same_Some w x is);
    wrote = shows.wrote;
    written_once = shows.written_once;
    lost_once = shows.lost_once;
  }

  -- the label is, which makes it written
  label_moves : (w : Held) → w.slot ≡ slot → p.stage ≡ Within w.label.epoch → ((x : Writing) → p.writing ≡ Some x → x.slot ≡ slot)
      → Moves p (record p { writing = None; written = p.written ++ w ∷ [] }) slot (Written w)
  label_moves w there stage one = record {
    records = λ r m. stay;
    written = λ z m. (
      λ h. ⊎_elim (λ k. k) (λ (e : w ≡ z). absurd (m (ap (λ (r : Held). r.slot) (sym e) ∙ there))) (Contains-push_cases p.written w z h),
      λ h. Contains-append_left p.written (w ∷ []) z h,
    );
    writing = λ x m. (λ is. absurd (cc), λ is. absurd (m (one x is)));
    lost = λ t m. stay;
    closing = λ t m. refl;
    own_record = λ r at h. absurd (not_kept r at h);
    own_written = λ z at h. ⊎_elim (λ k. absurd (not_written z at k)) (λ (e : w ≡ z). ap Written e) (Contains-push_cases p.written w z h);
    own_writing = λ x at is. absurd (cc);
    own_lost = λ h. absurd (not_lost h);
    here = inr (there, Contains-push p.written w);
    writes = λ x is. absurd (cc);
    wrote = λ z h. ⊎_elim
        (λ k. shows.wrote z k)
        (λ (e : w ≡ z). stage ∙ ap (λ (r : Held). Within r.label.epoch) e)
        (Contains-push_cases p.written w z h);
    written_once = all_pairs_push (λ (y z : Held). y.slot ≢ z.slot) p.written w shows.written_once
        (λ k d low same. not_written (get_or p.written k d) (same ∙ there) (Contains-get_or p.written k d low));
    lost_once = shows.lost_once;
  }

module _ (s : Shape) (now : ℕ) (cur dur : List ℕ) (units : List UnitPart) (u : ℕ) (p : UnitPart)
    (h : HasSlots s now cur dur units) (at : slice_get units u ≡ Some p) where
  -- the slot that is being written, with the record whose first fields were stored
  record Begun (slot n : ℕ) (change : Held) : Type 0 where
    pub is_at : IsAt s h.role u slot n (words_at cur slot) (words_at dur slot)
    pub whole : Held
    pub valid : IsRecordOf u whole
    pub shown : change ≡ front_of whole n
    pub in_slot : whole.slot ≡ slot
    pub fields : HasFields whole (n + 1) (words_at cur slot)

  begun : (w : Writing) (slot : ℕ) → p.writing ≡ Some w → w.slot ≡ slot → Begun slot w.stored w.change
  begun w slot is there = subst (λ (n : ℕ). Begun n w.stored w.change) there
      (let k = writing_fits s now cur dur units u p h at w is in
      let place = (h.shows u p at).says w.slot (Unfinished w) (refl, is) in record {
        is_at = record {
          inside = place.inside;
          of_unit = place.of_unit;
          open_slot = subst IsOpen (sym place.is) tt;
          begun = k.begun;
        };
        whole = k.whole;
        valid = k.valid;
        shown = k.shown;
        in_slot = k.in_slot;
        fields = k.fields;
      })

  -- where the unit is at a field, no other slot is being written
  one_slot : (slot n : ℕ) → IsTurn (IsFreeSlot s u p slot) p slot n → (w : Writing) → p.writing ≡ Some w → w.slot ≡ slot
  one_slot slot n turn w is = ⊎_elim
      (λ (t : (n ≡ 0) × (p.writing ≡ None) × IsFreeSlot s u p slot). let clash : None ≡ Some w = sym t.1 ∙ is in absurd (cc))
      (λ (t : (x : Writing) × (p.writing ≡ Some x) × (x.slot ≡ slot) × (x.stored ≡ n)).
      ap (λ (y : Writing). y.slot) (same_Some w t.0 (sym is ∙ t.1)) ∙ t.2)
      turn

  module _ (some : 1 ≤ s.slots) (count : length units ≡ units_of s) where
    -- so is the slot that a field may be stored in
    turn_at : (slot n : ℕ) → IsTurn (IsFreeSlot s u p slot) p slot n → IsAt s h.role u slot n (words_at cur slot) (words_at dur slot)
    turn_at slot n turn = ⊎_elim
        (λ (t : (n ≡ 0) × (p.writing ≡ None) × IsFreeSlot s u p slot). record {
          inside = slot_inside s now cur dur units u p h at some count slot t.2.of_unit;
          of_unit = t.2.of_unit;
          open_slot = subst IsOpen (sym (free_role s now cur dur units u p h at some count slot t.2 t.1)) tt;
          begun = subst (λ (m : ℕ). IsBegun m (words_at cur slot) (words_at dur slot)) (sym t.0)
              (free_begun (words_at cur slot) (words_at dur slot) (free_fits s now cur dur units u p h at some count slot t.2 t.1));
        })
        (λ (t : (x : Writing) × (p.writing ≡ Some x) × (x.slot ≡ slot) × (x.stored ≡ n)).
        subst (λ (m : ℕ). IsAt s h.role u slot m (words_at cur slot) (words_at dur slot)) t.3 (begun t.0 slot t.1 t.2).is_at)
        turn

    -- the stored fields are those of the record
    stored_fields : (slot n epoch : ℕ) (whole : Held) → IsTurn (IsFreeSlot s u p slot) p slot n → IsRecordOf u whole → n < FIELDS
        → change_in p.writing slot epoch ≡ front_of whole n → HasFields whole (n + 1) (words_at cur slot)
    stored_fields slot n epoch whole turn valid few before = ⊎_elim
        (λ (t : (n ≡ 0) × (p.writing ≡ None) × IsFreeSlot s u p slot) f some low. absurd (let none = t.0 in omega arith))
        (λ (t : (x : Writing) × (p.writing ≡ Some x) × (x.slot ≡ slot) × (x.stored ≡ n)).
        let k = begun t.0 slot t.1 t.2 in
        let change : t.0.change ≡ front_of whole n = sym (ap (λ (o : Option Writing). change_in o slot epoch) t.1) ∙ before in
        same_fields u u n k.whole whole (words_at cur slot) k.valid valid few
        (ap (front_of k.whole) (sym t.3) ∙ sym k.shown ∙ change)
        (subst (λ (m : ℕ). HasFields k.whole (m + 1) (words_at cur slot)) t.3 k.fields))
        turn

    module _ (long : length cur ≡ words_of s) where
      -- a field is stored
      pub slots_store_field : (slot n value : ℕ) → CanStoreField (IsFreeSlot s u p slot) u p slot n value
          → HasSlots s now (set cur (word_of slot (n + 1)) value) dur (set units u (after_store_field p slot (n + 1) value))
      slots_store_field slot n value can =
          let few : n + 1 < FIELDS = can.field in
          let k = turn_at slot n can.turn in
          let change : Held = with_field (change_in p.writing slot (epoch_of p.stage)) (n + 1) value in
          let w : Writing = record { slot = slot; change = change; stored = n + 1 } in
          let epoch : epoch_of p.stage ≡ can.epoch = ap epoch_of can.stage in
          let before : change_in p.writing slot (epoch_of p.stage) ≡ front_of can.whole n =
          ap (change_in p.writing slot) epoch ∙ can.before in
          let shown : change ≡ front_of can.whole (n + 1) =
          (λ i. with_field (before i) (n + 1) (can.stores i)) ∙ front_step u can.whole can.valid n few in
          let own : change.label.epoch ≡ can.epoch =
          ap (λ (r : Held). r.label.epoch) shown ∙ front_epoch u can.whole can.valid (n + 1) few ∙ can.of_epoch in
          let stage : p.stage ≡ Within change.label.epoch = can.stage ∙ ap Within (sym own) in
          let fits = store_fits (unit_of_slot s slot) n value w can.whole (words_at cur slot) (words_at dur slot) k.begun
          (omega (arith, length-words_at s cur slot long k.inside)) few
          (subst (λ (v : ℕ). IsRecordOf v can.whole) (sym k.of_unit) can.valid) refl shown can.in_slot
          (stored_fields slot n can.epoch can.whole can.turn can.valid (omega arith) can.before) can.stores in
          has_moved s now cur dur units u p slot (record p { writing = Some w }) (Unfinished w) (set cur (word_of slot (n + 1)) value) dur
          h at k.inside k.of_unit (current_moves cur dur slot (n + 1) value few)
          (store_moves s h.role u slot p (h.shows u p at) k.open_slot w refl stage (one_slot slot n can.turn))
          (subst (λ (l : List ℕ). IsUnfinished (unit_of_slot s slot) w l (words_at dur slot))
          (sym (stores_change_one_field cur slot (n + 1) value few).own) fits)

      -- the label is stored
      pub slots_store_label : (slot value : ℕ) → CanStoreLabel p slot value → now ≤ value + 1
          → HasSlots s now (set cur (word_of slot 0) value) dur (set units u (after_store_label p slot))
      slots_store_label slot value can near =
          let writing : Writing = can.writing in
          let last : writing.stored ≡ FIELDS - 1 = let e = can.last in omega arith in
          let k = begun writing slot can.is can.in_slot in
          let w : Held = k.whole in
          let change : change_in p.writing slot (epoch_of p.stage) ≡ w =
          ap (λ (o : Option Writing). change_in o slot (epoch_of p.stage)) can.is
          ∙ k.shown ∙ ap (front_of w) last ∙ front_whole u w k.valid in
          let own : writing.change ≡ w = k.shown ∙ ap (front_of w) last ∙ front_whole u w k.valid in
          let stage : p.stage ≡ Within w.label.epoch =
          (h.shows u p at).writes writing can.is ∙ ap (λ (r : Held). Within r.label.epoch) own in
          let epoch : value ≡ w.label.epoch = within_same p.stage value w.label.epoch can.stage stage in
          let fits = label_fits now (unit_of_slot s slot) writing.stored w (words_at cur slot) (words_at dur slot) k.is_at.begun
          (length-words_at s cur slot long k.is_at.inside) (subst (λ (v : ℕ). IsRecordOf v w) (sym k.is_at.of_unit) k.valid)
          (omega arith) (subst (λ (m : ℕ). HasFields w m (words_at cur slot)) can.last k.fields) in
          let q : UnitPart = record p { writing = None; written = p.written ++ w ∷ [] } in
          let result = has_moved s now cur dur units u p slot q (Written w) (set cur (word_of slot 0) w.label.epoch) dur
          h at k.is_at.inside k.is_at.of_unit (current_moves cur dur slot 0 w.label.epoch (omega arith))
          (label_moves s h.role u slot p (h.shows u p at) k.is_at.open_slot w k.in_slot stage
          (λ x is. ap (λ (y : Writing). y.slot) (same_Some x writing (sym is ∙ can.is)) ∙ can.in_slot))
          (subst (λ (l : List ℕ). IsWritten now (unit_of_slot s slot) w l (words_at dur slot))
          (sym (stores_change_one_field cur slot 0 w.label.epoch (omega arith)).own) fits) in
          subst (λ (z : ℕ × Held). HasSlots s now (set cur (word_of slot 0) z.0) dur
          (set units u (record p { writing = None; written = p.written ++ z.1 ∷ [] })))
          (λ i. (sym epoch i, sym change i)) result

    -- what is stored into no advance writes back
    pub store_spares : (slot n : ℕ) → IsTurn (IsFreeSlot s u p slot) p slot n → SparesSlot now units slot
    store_spares slot n turn =
        spared s now cur dur units h slot (open_spared now (h.role slot) (turn_at slot n turn).open_slot)

    -- nor does one write back a slot whose label is stored
    pub label_spares : (slot value : ℕ) → CanStoreLabel p slot value → SparesSlot now units slot
    label_spares slot value can = store_spares slot can.writing.stored (inr (can.writing, can.is, can.in_slot, refl))

-- ---- what was written becomes records
abbrev leave_unit : Shape → (ℕ → Role) → ℕ → ℕ → Role
leave_unit s role u t = if unit_of_slot s t == u then left (role t) else role t

-- the slots of the unit have new roles
leave_there : (s : Shape) (role : ℕ → Role) (u t : ℕ) → unit_of_slot s t ≡ u → leave_unit s role u t ≡ left (role t)
leave_there s role u t e = ap (λ (b : Bool). if b then left (role t) else role t) (eq-eqb (unit_of_slot s t) u e)

-- the others have those that they had
leave_else : (s : Shape) (role : ℕ → Role) (u t : ℕ) → unit_of_slot s t ≢ u → leave_unit s role u t ≡ role t
leave_else s role u t n = ap (λ (b : Bool). if b then left (role t) else role t) (ne_eqb (unit_of_slot s t) u n)

module _ (p : UnitPart) (entry : Entry) (epoch : ℕ) (stage : p.stage ≡ Within epoch) (none : p.writing ≡ None) where
  -- no slot is being closed
  stays : (t : ℕ) → false ≡ is_closing p.stage t
  stays t = sym (ap (λ (x : UnitStage). is_closing x t) stage)

  -- what the part said, it says of the new roles
  says_left : (t : ℕ) (x : Role) → Says p t x → Says (after_leave p entry) t (left x)
  says_left t Free h = h
  says_left t (Unfinished w) h = h
  says_left t (Written w) h = (h.0, refl, Contains-append_right p.records p.written w h.1)
  says_left t (Kept r b) h = (h.0, h.1 ∙ sym (stays t), Contains-append_left p.records p.written r h.2)
  says_left t (Lost b) h = (h.0 ∙ sym (stays t), h.1)

  -- and it says nothing else
  says_before : (t : ℕ) (y : Role) → Says (after_leave p entry) t y → (x : Role) × Says p t x × (left x ≡ y)
  says_before t Free h = absurd h
  says_before t (Unfinished w) h = (Unfinished w, h, refl)
  says_before t (Written w) h = absurd (no_element w h.1)
  says_before t (Kept r b) h = ⊎_elim
      (λ (k : Contains p.records r). (Kept r b, (h.0, h.1 ∙ stays t, k), refl))
      (λ (k : Contains p.written r). (Written r, (h.0, k), ap (Kept r) (sym h.1)))
      (Contains-append_cases p.records p.written r h.2)
  says_before t (Lost b) h = (Lost b, (h.0 ∙ stays t, h.1), refl)

  -- so it shows the new roles
  leave_shows : (s : Shape) (role : ℕ → Role) (u : ℕ) → Shows s role u p → Shows s (leave_unit s role u) u (after_leave p entry)
  leave_shows s role u k = record {
    says = λ t y h.
        let before = says_before t y h in
        let old = k.says t before.0 before.1 in record {
          inside = old.inside;
          of_unit = old.of_unit;
          is = leave_there s role u t old.of_unit ∙ ap left old.is ∙ before.2;
        };
    others = λ t of_t. let same = leave_there s role u t of_t in ⊎_elim
        (λ (f : role t ≡ Free). inl (same ∙ ap left f))
        (λ (h : Says p t (role t)). inr (subst (Says (after_leave p entry) t) (sym same) (says_left t (role t) h)))
        (k.others t of_t);
    writes = λ w is. let clash : None ≡ Some w = sym none ∙ is in absurd (cc);
    wrote = λ w h. absurd (no_element w h);
    written_once = λ i j d low high. absurd (omega arith);
    lost_once = k.lost_once;
  }

-- the unit leaves the epoch in which it has written
pub slots_leave : (s : Shape) (now : ℕ) (cur dur : List ℕ) (units : List UnitPart) (u : ℕ) (p : UnitPart)
    → (entry : Entry) (epoch : ℕ) (h : HasSlots s now cur dur units) → slice_get units u ≡ Some p
    → p.stage ≡ Within epoch → p.writing ≡ None → HasSlots s now cur dur (set units u (after_leave p entry))
slots_leave s now cur dur units u p entry epoch h at stage none = record {
  role = leave_unit s h.role u;
  fits = λ t low. either (unit_of_slot s t) (h.role t) (words_at cur t) (words_at dur t) (h.fits t low) (unit_of_slot s t == u);
  shows = each_set (Shows s (leave_unit s h.role u)) units u (after_leave p entry)
      (λ v r n e. shows_same s h.role (leave_unit s h.role u) v r
      (λ t of_t. leave_else s h.role u t (λ same. n (sym of_t ∙ same))) (h.shows v r e))
      (leave_shows p entry epoch stage none s h.role u (h.shows u p at));
}
  where
    either : (unit : ℕ) (x : Role) (ws ds : List ℕ) → SlotFits now unit x ws ds → (b : Bool)
        → SlotFits now unit (if b then left x else x) ws ds
    either unit x ws ds k true = leave_fits now unit x ws ds k
    either unit x ws ds k false = k
