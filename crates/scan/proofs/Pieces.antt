-- The pieces of all slots, and what workers make of them.
use Rattle.std.proofs.Common.{◌≡◌, ℕ, zero, suc, ◌+◌, ◌-◌, ◌*◌, ◌/◌, ◌<◌, ◌≤◌, List, [], ◌∷◌, ◌++◌, Result, Ok, Err, refl, sym, ap, ◌∙◌, subst, arith, append-nil, length, get_or, length-append}
use Rattle.std.specs.Prelude.{OnOk}
use Rattle.std.specs.List.{All, AllZip, flat_map, range_with_len}
use Rattle.std.proofs.Math.Nat.{mul-div_cancel, div-le_self, div-mul-le_self}
use Rattle.std.proofs.lemmas.Nat.{le-div}
use Rattle.std.proofs.lemmas.List.{get_or_at, get_or_append_left}
use Rattle.std.proofs.lemmas.List.Concat.{flat_map-append}
use Rattle.std.proofs.lemmas.List.FromFn.{length-range_with_len, get_or-range_with_len}
use Rattle.rayon.specs.Lists.{Folds, Reduces}
use Rattle.rayon.proofs.Reducing.{Folds-elim, Reduces-elim}
use Rattle.mont_base.specs.declared.record.SlotFault.{SlotFault}
use Rattle.mont_base.specs.Layout.{Shape, total_of}
use Rattle.scan.specs.declared.scanned.Scan.{Scan}
use Rattle.scan.specs.declared.scanned.ScanRefusal.{ScanRefusal}
use Rattle.scan.specs.declared.scanned.ScanRefusal.TheVariants.{Slot}
use Rattle.scan.specs.Scanned.{IsAnswer, IsFirstFault, IsLowestFault, IsReadable, IsReadAt, all_slots}
use Rattle.scan.specs.Workers.{piece_start, piece_slots}
use Rattle.scan.proofs.Ranges.{range_append}

range_push : (n : ℕ) → range_with_len 0 (n + 1) ≡ range_with_len 0 n ++ n ∷ []
range_push n = sym (range_append 0 n 1) ∙ ap (λ (k : ℕ). range_with_len 0 n ++ k ∷ []) (omega arith)

module _ (s : Shape) (workers : ℕ) (some : 1 ≤ workers) where
  abbrev slots_in : List ℕ → List ℕ
  slots_in pieces = flat_map (piece_slots s workers) pieces

  -- one piece more
  slots_more : (pieces : List ℕ) (piece : ℕ) → slots_in (pieces ++ piece ∷ []) ≡ slots_in pieces ++ piece_slots s workers piece
  slots_more pieces piece =
      flat_map-append (piece_slots s workers) pieces (piece ∷ [])
      ∙ ap (λ (xs : List ℕ). slots_in pieces ++ xs) (append-nil (piece_slots s workers piece))

  pub rising : (piece : ℕ) → piece_start s workers piece ≤ piece_start s workers (piece + 1)
  rising piece =
      let all = total_of s * piece in
      le-div (all / workers) (total_of s * (piece + 1)) workers some
      (omega (arith, div-mul-le_self all workers, grows (total_of s) piece))
    where
      grows : (t p : ℕ) → t * p ≤ t * (p + 1)
      grows t p = omega arith

  -- the pieces are consecutive
  front_slots : (count : ℕ) → slots_in (range_with_len 0 count) ≡ range_with_len 0 (piece_start s workers count)
  unfolding piece_slots
  front_slots zero = ap (range_with_len 0) (sym (none (total_of s)))
    where
      none : (t : ℕ) → t * 0 / workers ≡ 0
      none t = omega (arith, div-le_self (t * 0) workers)
  front_slots (suc count) =
      let here = piece_start s workers count in
      let gap = piece_start s workers (count + 1) - here in
      let whole : here + gap ≡ piece_start s workers (count + 1) = omega (arith, rising count) in
      let next : count + 1 ≡ suc count = omega arith in
      let start : here ≡ 0 + here = omega arith in
      subst (λ (n : ℕ). slots_in (range_with_len 0 n) ≡ range_with_len 0 (piece_start s workers n)) next
      (ap slots_in (range_push count)
      ∙ slots_more (range_with_len 0 count) count
      ∙ ap (λ (xs : List ℕ). xs ++ range_with_len here gap) (front_slots count)
      ∙ ap (λ (n : ℕ). range_with_len 0 here ++ range_with_len n gap) start
      ∙ range_append 0 here gap
      ∙ ap (range_with_len 0) whole)

  -- and all of them have all slots
  whole_slots : slots_in (range_with_len 0 workers) ≡ all_slots s
  whole_slots = front_slots workers ∙ ap (range_with_len 0) (mul-div_cancel (total_of s) (omega arith))

  module _ (image : List ℕ) where
    abbrev Found : Type 0
    Found = Result Scan ScanRefusal

    -- what was found in pieces
    abbrev IsFound : List ℕ → Found → Type 0
    IsFound pieces r = IsAnswer s image (slots_in pieces) r

    module _ (start : Found → Type 0) (step : Found → ℕ → Found → Type 0) (join : Found → Found → Found → Type 0)
        (start_is : (e : Found) → start e → IsAnswer s image [] e)
        (step_is : (a : Found) (piece : ℕ) (b : Found) → step a piece b → (slots : List ℕ) → IsAnswer s image slots a
        → IsAnswer s image (slots ++ piece_slots s workers piece) b)
        (join_is : (a b r : Found) → join a b r → (xs ys : List ℕ) → IsAnswer s image xs a → IsAnswer s image ys b
        → IsAnswer s image (xs ++ ys) r) where
      one_more : (pieces : List ℕ) (a : Found) (piece : ℕ) (b : Found) → IsFound pieces a → step a piece b
          → IsFound (pieces ++ piece ∷ []) b
      one_more pieces a piece b so_far h =
          subst (λ (xs : List ℕ). IsAnswer s image xs b) (sym (slots_more pieces piece)) (step_is a piece b h (slots_in pieces) so_far)

      -- a fold finds what its pieces have
      folded : (pieces : List ℕ) (r : Found) → (e : Found) × start e × Folds step e pieces r → IsFound pieces r
      folded pieces r h = Folds-elim step IsFound one_more pieces h.0 r (start_is h.0 h.1) h.2

      abbrev AreFolds : List (List ℕ) → List Found → Type 0
      AreFolds groups rs = AllZip (λ pieces r. (e : Found) × start e × Folds step e pieces r) groups rs

      abbrev IsJoined : List Found → Found → Type 0
      IsJoined rs r = (groups : List (List ℕ)) → AreFolds groups rs → IsFound (flat_map (λ l. l) groups) r

      parted : (groups : List (List ℕ)) (xs ys : List Found) → AreFolds groups (xs ++ ys)
          → (front : List (List ℕ)) × (back : List (List ℕ)) × (groups ≡ front ++ back) × AreFolds front xs × AreFolds back ys
      parted groups [] ys h = ([], groups, refl, tt, h)
      parted [] (x ∷ xs) ys h = absurd h
      parted (g ∷ groups) (x ∷ xs) ys h =
          let rest = parted groups xs ys h.1 in
          (g ∷ rest.0, rest.1, ap (λ (gs : List (List ℕ)). g ∷ gs) rest.2, (h.0, rest.3), rest.4)

      joined_slots : (front back : List (List ℕ))
          → slots_in (flat_map (λ l. l) (front ++ back)) ≡ slots_in (flat_map (λ l. l) front) ++ slots_in (flat_map (λ l. l) back)
      joined_slots front back =
          ap slots_in (flat_map-append (λ (l : List ℕ). l) front back)
          ∙ flat_map-append (piece_slots s workers) (flat_map (λ l. l) front) (flat_map (λ l. l) back)

      from_start : (e : Found) → start e → IsJoined [] e
      from_start e h [] all = start_is e h
      from_start e h (g ∷ groups) all = absurd all

      side_by_side : (xs ys : List Found) (a b r : Found) → IsJoined xs a → IsJoined ys b → join a b r → IsJoined (xs ++ ys) r
      side_by_side xs ys a b r left right h groups all =
          let parts = parted groups xs ys all in
          subst (λ (gs : List (List ℕ)). IsFound (flat_map (λ l. l) gs) r) (sym parts.2)
          (subst (λ (zs : List ℕ). IsAnswer s image zs r) (sym (joined_slots parts.0 parts.1))
          (join_is a b r h (slots_in (flat_map (λ l. l) parts.0)) (slots_in (flat_map (λ l. l) parts.1)) (left parts.0 parts.3)
          (right parts.1 parts.4)))

      alone : (x : Found) → IsJoined (x ∷ []) x
      alone x [] all = absurd all
      alone x (g ∷ []) all = subst (λ (gs : List ℕ). IsFound gs x) (sym (append-nil g)) (folded g x all.0)
      alone x (g ∷ f ∷ groups) all = absurd all.1

      one_behind : (xs : List Found) (a x r : Found) → IsJoined xs a → join a x r → IsJoined (xs ++ x ∷ []) r
      one_behind xs a x r left h = side_by_side xs (x ∷ []) a x r left (alone x) h

      -- what is found in all pieces, however they were put together
      pub reduced : (rs : List Found) (r : Found) (groups : List (List ℕ)) → AreFolds groups rs → Reduces start join rs r
          → flat_map (λ l. l) groups ≡ range_with_len 0 workers → IsAnswer s image (all_slots s) r
      reduced rs r groups folds reduces all =
          subst (λ (xs : List ℕ). IsAnswer s image xs r) (ap slots_in all ∙ whole_slots)
          (Reduces-elim start join IsJoined from_start one_behind side_by_side rs r reduces groups folds)

-- ---- all slots by their numbers

module _ (s : Shape) (image : List ℕ) where
  pub readable_all : All (IsReadAt s image) (all_slots s) → IsReadable s image
  readable_all all slot inside =
      subst (IsReadAt s image) (get_or-range_with_len 0 (total_of s) slot 0 inside ∙ omega arith)
      (all slot 0 (omega (arith, length-range_with_len 0 (total_of s))))

  pub lowest_fault : (slot : ℕ) (fault : SlotFault) → IsFirstFault s image (all_slots s) slot fault → IsLowestFault s image slot fault
  lowest_fault slot fault f =
      let n = total_of s in
      let place = length f.before in
      let long : n ≡ place + suc (length f.after) =
      sym (length-range_with_len 0 n) ∙ ap length f.among ∙ length-append f.before (slot ∷ f.after) in
      let same : slot ≡ place =
      sym (get_or_at f.before slot f.after 0 place refl)
      ∙ ap (λ (xs : List ℕ). get_or xs place 0) (sym f.among)
      ∙ get_or-range_with_len 0 n place 0 (omega arith)
      ∙ omega arith in
      record {
        inside = omega arith;
        has = f.has;
        lower = λ k lower.
            let inside : k < place = omega arith in
            let here : get_or f.before k 0 ≡ k =
            sym (get_or_append_left f.before (slot ∷ f.after) 0 k inside)
            ∙ ap (λ (xs : List ℕ). get_or xs k 0) (sym f.among)
            ∙ get_or-range_with_len 0 n k 0 (omega arith)
            ∙ omega arith in
            subst (IsReadAt s image) here (f.readable k 0 inside);
      }

  -- ---- what is answered

  pub answer_readable : (r : Result Scan ScanRefusal) → IsAnswer s image (all_slots s) r → OnOk r (IsReadable s image)
  answer_readable (Ok found) h = readable_all h.readable
  answer_readable (Err refusal) h = tt

  pub answer_refused : (r : Result Scan ScanRefusal) → IsAnswer s image (all_slots s) r → (slot : ℕ) (fault : SlotFault)
      → r ≡ Err (Slot slot fault)
      → IsLowestFault s image slot fault
  answer_refused r h slot fault is = lowest_fault slot fault (subst (IsAnswer s image (all_slots s)) is h)
