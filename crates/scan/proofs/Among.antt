-- What is found among slots, one slot after the other.
use Rattle.std.proofs.Common.{◌≡◌, ℕ, ◌+◌, ◌-◌, ◌<◌, ◌≤◌, Bool, true, false, ◌&&◌, List, [], ◌∷◌, ◌++◌, drop, get_or, Option, Some, None, Ok, Err, refl, sym, ap, ◌∙◌, subst, arith, append_assoc, if◌then◌else◌}
use Rattle.std.specs.Prelude.{nat_le, nat_lt, slice_index, filter}
use Rattle.std.specs.List.{All, cons_option, range_with_len}
use Rattle.std.proofs.lemmas.Bool.{true≢false}
use Rattle.std.proofs.lemmas.Bool.Decides.{nat_tests}
use Rattle.std.proofs.lemmas.List.{get_or-take, get_or-drop}
use Rattle.std.proofs.lemmas.List.Elements.{All-nil, All-append, All-push, filter-append, filter_map-append}
use Rattle.mont_base.specs.declared.constants.TheConstants.{FIELDS}
use Rattle.mont_base.specs.declared.record.Held.{Held}
use Rattle.mont_base.specs.declared.record.Label.{Label}
use Rattle.mont_base.specs.declared.record.SlotFault.{SlotFault}
use Rattle.mont_base.specs.Image.{IsRead, cut_of, epoch_at, is_in_cut, record_at, record_read, words_at}
use Rattle.mont_base.specs.Layout.{Shape, unit_of_slot, word_of}
use Rattle.mont_base.specs.Record.{reading}
use Rattle.scan.specs.declared.scanned.Scan.{Scan}
use Rattle.scan.specs.declared.scanned.ScanRefusal.{ScanRefusal}
use Rattle.scan.specs.declared.scanned.ScanRefusal.TheVariants.{Slot, Memory}
use Rattle.scan.specs.Scanned.{IsScanOf, IsFirstFault, IsAnswer, HasFault, IsReadAt, lost_among, is_lost}
use Rattle.scan.proofs.Ranges.{range_more, range_split}

module _ (s : Shape) (image : List ℕ) where
  -- nothing is found among no slots
  pub scan_none : (found : Scan) → found.records ≡ [] → found.lost ≡ [] → IsScanOf s image [] found
  scan_none found records lost = record { records = records; lost = lost; readable = All-nil (IsReadAt s image) }

  lost_step : (b : Bool) (slot : ℕ)
      → (if b then slot ∷ [] else []) ≡ (if b then slot ∷ filter (is_lost image) [] else filter (is_lost image) [])
  lost_step true slot = refl
  lost_step false slot = refl

  -- one slot more, which holds a record, is lost or is closed
  pub scan_more : (slots : List ℕ) (slot : ℕ) (old new : Scan) (held : Option Held) (lost : Bool) → IsScanOf s image slots old
      → record_at s image slot ≡ held → is_lost image slot ≡ lost → IsReadAt s image slot
      → new.records ≡ old.records ++ cons_option held [] → new.lost ≡ old.lost ++ (if lost then slot ∷ [] else [])
      → IsScanOf s image (slots ++ slot ∷ []) new
  scan_more slots slot old new held lost so_far is_record is_lost' none records losts = record {
    records =
        records
        ∙ (λ i. so_far.records i ++ cons_option (sym is_record i) [])
        ∙ sym (filter_map-append (record_at s image) slots (slot ∷ []));
    lost =
        losts
        ∙ (λ i. so_far.lost i ++ (if sym is_lost' i then slot ∷ [] else []))
        ∙ ap (λ (xs : List ℕ). lost_among image slots ++ xs) (lost_step (is_lost image slot) slot)
        ∙ sym (filter-append (is_lost image) slots (slot ∷ []));
    readable = All-push (IsReadAt s image) slots slot so_far.readable none;
  }

  -- what was found among some slots, and then among those after
  pub scan_joined : (xs ys : List ℕ) (front back new : Scan) → IsScanOf s image xs front → IsScanOf s image ys back
      → new.records ≡ front.records ++ back.records → new.lost ≡ front.lost ++ back.lost → IsScanOf s image (xs ++ ys) new
  scan_joined xs ys front back new f b records lost = record {
    records = records ∙ (λ i. f.records i ++ b.records i) ∙ sym (filter_map-append (record_at s image) xs ys);
    lost = lost ∙ (λ i. f.lost i ++ b.lost i) ∙ sym (filter-append (is_lost image) xs ys);
    readable = All-append (IsReadAt s image) xs ys f.readable b.readable;
  }

  -- the first fault among some slots is the first among more
  pub fault_before : (xs ys : List ℕ) (slot : ℕ) (fault : SlotFault) → IsFirstFault s image xs slot fault
      → IsFirstFault s image (xs ++ ys) slot fault
  fault_before xs ys slot fault f = record {
    before = f.before;
    after = f.after ++ ys;
    among = ap (λ (zs : List ℕ). zs ++ ys) f.among ∙ append_assoc f.before (slot ∷ f.after) ys;
    readable = f.readable;
    has = f.has;
  }

  -- and among the slots after some that have none
  pub fault_behind : (xs ys : List ℕ) (slot : ℕ) (fault : SlotFault) → All (IsReadAt s image) xs → IsFirstFault s image ys slot fault
      → IsFirstFault s image (xs ++ ys) slot fault
  fault_behind xs ys slot fault none f = record {
    before = xs ++ f.before;
    after = f.after;
    among = ap (λ (zs : List ℕ). xs ++ zs) f.among ∙ sym (append_assoc xs f.before (slot ∷ f.after));
    readable = All-append (IsReadAt s image) xs f.before none f.readable;
    has = f.has;
  }

  pub fault_here : (slots : List ℕ) (slot : ℕ) (fault : SlotFault) → All (IsReadAt s image) slots → HasFault s image slot fault
      → IsFirstFault s image (slots ++ slot ∷ []) slot fault
  fault_here slots slot fault none is = record { before = slots; after = []; among = refl; readable = none; has = is }

  -- a refusal stays, whatever slots are after
  pub refusal_stays : (xs ys : List ℕ) (refusal : ScanRefusal) → IsAnswer s image xs (Err refusal)
      → IsAnswer s image (xs ++ ys) (Err refusal)
  refusal_stays xs ys (Slot slot fault) h = fault_before xs ys slot fault h
  refusal_stays xs ys Memory h = tt

  pub refusal_behind : (xs ys : List ℕ) (refusal : ScanRefusal) → All (IsReadAt s image) xs → IsAnswer s image ys (Err refusal)
      → IsAnswer s image (xs ++ ys) (Err refusal)
  refusal_behind xs ys (Slot slot fault) none h = fault_behind xs ys slot fault none h
  refusal_behind xs ys Memory none h = tt

  -- a refusal at a slot is one of all slots that are looked at with it
  pub range_refused : (slots : List ℕ) (first slot end : ℕ) (refusal : ScanRefusal) → first ≤ slot → slot < end
      → IsAnswer s image ((slots ++ range_with_len first (slot - first)) ++ slot ∷ []) (Err refusal)
      → IsAnswer s image (slots ++ range_with_len first (end - first)) (Err refusal)
  range_refused slots first slot end refusal low high h =
      let before = range_with_len first (slot - first) in
      let behind = range_with_len (slot + 1) (end - (slot + 1)) in
      let same : ((slots ++ before) ++ slot ∷ []) ++ behind ≡ slots ++ range_with_len first (end - first) =
      ap (λ (xs : List ℕ). xs ++ behind) (append_assoc slots before (slot ∷ []))
      ∙ append_assoc slots (before ++ slot ∷ []) behind
      ∙ ap (λ (xs : List ℕ). slots ++ xs) (sym (range_split first slot end low high)) in
      subst (λ (xs : List ℕ). IsAnswer s image xs (Err refusal)) same
      (refusal_stays ((slots ++ before) ++ slot ∷ []) behind refusal h)

  -- and what was found among them grows by it
  pub range_grows : (slots : List ℕ) (first slot : ℕ) (found : Scan) → first ≤ slot
      → IsScanOf s image ((slots ++ range_with_len first (slot - first)) ++ slot ∷ []) found
      → IsScanOf s image (slots ++ range_with_len first (slot + 1 - first)) found
  range_grows slots first slot found low h =
      subst (λ (xs : List ℕ). IsScanOf s image xs found)
      (append_assoc slots (range_with_len first (slot - first)) (slot ∷ [])
      ∙ ap (λ (xs : List ℕ). slots ++ xs) (sym (range_more first slot low)))
      h

  -- ---- one slot

  beyond : (epoch cut : ℕ) → cut < epoch → (nat_le 1 epoch && nat_le epoch cut) ≡ false
  beyond epoch cut h = grind (arith, nat_tests)

  closed : (epoch cut : ℕ) → epoch ≡ 0 → (nat_le 1 epoch && nat_le epoch cut) ≡ false
  closed epoch cut h = grind (arith, nat_tests)

  within : (epoch cut : ℕ) → 1 ≤ epoch → epoch ≤ cut → (nat_le 1 epoch && nat_le epoch cut) ≡ true
  within epoch cut some few = grind (arith, nat_tests)

  above : (epoch cut : ℕ) → cut < epoch → nat_lt cut epoch ≡ true
  above epoch cut h = grind (arith, nat_tests)

  below : (epoch cut : ℕ) → epoch ≤ cut → nat_lt cut epoch ≡ false
  below epoch cut h = grind (arith, nat_tests)

  -- a slot outside the cut holds no record and has no fault
  pub outside : (slot : ℕ) → is_in_cut image slot ≡ false → (record_at s image slot ≡ None) × (IsReadAt s image slot)
  outside slot e = (
    ap (λ (b : Bool). if b then record_read slot (reading (unit_of_slot s slot) (words_at image slot)) else None) e,
    λ kept. absurd (true≢false (sym kept ∙ e)),
  )

  pub slot_beyond : (slot epoch : ℕ) → epoch ≡ epoch_at image slot → cut_of image < epoch
      → (is_in_cut image slot ≡ false) × (is_lost image slot ≡ true)
  slot_beyond slot epoch is h = rw (← is) (beyond epoch (cut_of image) h, above epoch (cut_of image) h)

  pub slot_closed : (slot epoch : ℕ) → epoch ≡ epoch_at image slot → epoch ≡ 0
      → (is_in_cut image slot ≡ false) × (is_lost image slot ≡ false)
  slot_closed slot epoch is h = rw (← is) (closed epoch (cut_of image) h, below epoch (cut_of image) (omega arith))

  pub slot_within : (slot epoch : ℕ) → epoch ≡ epoch_at image slot → 1 ≤ epoch → epoch ≤ cut_of image
      → (is_in_cut image slot ≡ true) × (is_lost image slot ≡ false)
  slot_within slot epoch is some few = rw (← is) (within epoch (cut_of image) some few, below epoch (cut_of image) few)

  module _ (slot : ℕ) (kept : is_in_cut image slot ≡ true) where
    -- what a slot within the cut is read as
    pub read_record : (label : Label) (body : List ℕ) → reading (unit_of_slot s slot) (words_at image slot) ≡ Ok (Some (label, body))
        → (record_at s image slot ≡ Some (record { slot = slot; label = label; body = body })) × (IsReadAt s image slot)
    read_record label body e = (
      ap (λ (b : Bool). if b then record_read slot (reading (unit_of_slot s slot) (words_at image slot)) else None) kept
          ∙ ap (record_read slot) e,
      λ _. subst IsRead (sym e) tt,
    )

    some_epoch : (epoch cut : ℕ) → (nat_le 1 epoch && nat_le epoch cut) ≡ true → epoch ≡ 0 → ⊥
    some_epoch epoch cut e none = grind (arith, nat_tests)

    -- it isn't closed
    pub not_closed : slice_index (words_at image slot) 0 ≡ 0 → ⊥
    not_closed none =
        let first : slice_index (words_at image slot) 0 ≡ epoch_at image slot =
        get_or-take FIELDS (drop (word_of slot 0) image) 0 0 (omega arith) ∙ get_or-drop (word_of slot 0) image 0 0
        ∙ ap (λ (n : ℕ). get_or image n 0) (omega arith) in
        some_epoch (epoch_at image slot) (cut_of image) kept (sym first ∙ none)
