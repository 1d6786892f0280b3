-- The objects of a map by their numbers, and by the digits of these.
use Rattle.std.proofs.Common.{◌≡◌, ℕ, ◌^◌, ◌<◌, Bool, true, false, ◌==◌, not, List, [], ◌∷◌, ◌++◌, map, decimal, refl, sym, ap, ◌∙◌, arith, append_assoc, append-nil, if◌then◌else◌}
use Rattle.std.specs.Prelude.{◌||◌, Option, Some, None, option_map, All, slice_index}
use Rattle.std.specs.List.{list_any, filter_map, cons_option}
use Rattle.std.specs.FinMap as finite
use Rattle.std.specs.Ordering.{eq_by_cmp}
use Rattle.std.proofs.lemmas.Bool.Decides.{Decides-eqb, same_from_decides}
use Rattle.std.proofs.lemmas.Fmt.{decimal_injective, length-decimal-le, IsAscii-decimal}
use Rattle.std.proofs.lemmas.List.{map-append, get_or_default}
use Rattle.std.proofs.lemmas.List.Elements.{All-head, All-tail, All-nil, All-append, All-cons}
use Rattle.mont_base.specs.declared.kinds.UnitKind.TheVariants as kinds
use Rattle.mont_base.specs.declared.record.Object.{Object}
use Rattle.mont_base.specs.declared.record.ObjectFault.{ObjectFault}
use Rattle.mont_base.specs.declared.record.ObjectFault.TheVariants as faults
use Rattle.mont_base.specs.Bodies.{pair_body, pair_in}
use Rattle.mont_base.specs.Layout.{Shape, is_of_kind, kind_of}
use Rattle.mont_base.specs.State.{Key, Value, MapOf, key_cmp}
use Rattle.mont_base.specs.Structure.{at_slot, fault_if, first_fault, has_key, map_fault, names, or_else, pair_at, pair_fault, structure_of}
use Rattle.mont_base.specs.Texts.{IsText}
use Rattle.mont_image.specs.StoredImage.{IsOldKinds}
use Rattle.mont_laws.proofs.Bodies.{pair_back}
use Rattle.mont_laws.proofs.Keys.{one_text}
use Rattle.old_image.specs.OldStructure.{digits_at, digits_of, has_number, number_pair_at, number_pair_fault, old_map_fault, old_structure_of, renewed_object}
use Rattle.old_image.specs.Renewal.{HoldsNumbers}
use Rattle.old_image.proofs.Digits.{kept_by_digits}

-- ---- one object
text_of_number : (n : ℕ) → n < 2 ^ 64 → IsText (decimal n)
text_of_number n small = record {
  short = omega (arith, length-decimal-le 20 n (omega arith) (omega arith) small);
  bytes = λ i d within. omega (arith, IsAscii-decimal n small i, get_or_default (decimal n) i d 0 within);
}

body_numbers : (p q : ℕ × ℕ) (b : Bool) → (if b then Some p else None) ≡ Some q → p ≡ q
body_numbers p q true e = cc
body_numbers p q false e = absurd (cc)

pub pair_now : (o : Object) (has : HoldsNumbers o) → pair_at (renewed_object kinds.Map o) ≡ Some (decimal has.key, decimal has.value)
pair_now o has =
    let is : (slice_index o.body 0, slice_index o.body 1) ≡ (has.key, has.value) = body_numbers _ _ _ has.are in
    ap (λ (p : ℕ × ℕ). pair_in (pair_body (decimal p.0) (decimal p.1))) is
    ∙ pair_back (decimal has.key) (decimal has.value) (text_of_number has.key has.small_key) (text_of_number has.value has.small_value)

pub digits_stand : (o : Object) → HoldsNumbers o → digits_at o ≡ pair_at (renewed_object kinds.Map o)
digits_stand o has = ap (option_map digits_of) has.are ∙ sym (pair_now o has)

-- ---- the fault of an object after others
same_key : (k : ℕ) → k < 2 ^ 64 → (o : Object) → HoldsNumbers o → has_key (decimal k) (renewed_object kinds.Map o) ≡ has_number k o
same_key k small o has =
    ap (names (eq_by_cmp key_cmp (decimal k))) (pair_now o has)
    ∙ same_from_decides {P = has.key ≡ k} (eq_by_cmp key_cmp (decimal k) (decimal has.key)) (has.key == k) (
      λ e. sym (decimal_injective k has.key small has.small_key ((one_text (decimal k) (decimal has.key)).0 e)),
      λ e. (one_text (decimal k) (decimal has.key)).1 (ap decimal (sym e)),
    )
    (Decides-eqb has.key k)
    ∙ ap (names (λ (j : ℕ). j == k)) (sym has.are)

same_among : (k : ℕ) → k < 2 ^ 64 → (os : List Object) → All HoldsNumbers os
    → list_any (has_key (decimal k)) (map (renewed_object kinds.Map) os) ≡ list_any (has_number k) os
same_among k small [] all = refl
same_among k small (o ∷ os) all =
    (λ i. same_key k small o (All-head HoldsNumbers o os all) i || same_among k small os (All-tail HoldsNumbers o os all) i)

module _ (s : Shape) (unit : ℕ) (old : IsOldKinds s.kinds) (plain : is_of_kind (kind_of s unit) kinds.Ordered ≡ false) where
  same_fault : (lower : List Object) (o : Object) → All HoldsNumbers lower → HoldsNumbers o
      → map_fault s unit (map (renewed_object kinds.Map) lower) (renewed_object kinds.Map o) ≡ old_map_fault s unit lower o
  same_fault lower o all has =
      ap (pair_fault s unit (map (renewed_object kinds.Map) lower)) (pair_now o has)
      ∙ (λ i. if not (kept_by_digits s old unit has.key plain has.small_key i) then Some faults.Shard
      else fault_if (same_among has.key has.small_key lower all i) faults.Key)
      ∙ ap (number_pair_fault s unit lower) (sym has.are)

  same_faults : (lower os : List Object) → All HoldsNumbers lower → All HoldsNumbers os
      → first_fault (map_fault s unit) (map (renewed_object kinds.Map) lower) (map (renewed_object kinds.Map) os)
      ≡ first_fault (old_map_fault s unit) lower os
  same_faults lower [] below all = refl
  same_faults lower (o ∷ os) below all =
      let has = All-head HoldsNumbers o os all in
      let grown : All HoldsNumbers (lower ++ o ∷ []) =
      All-append HoldsNumbers lower (o ∷ []) below (All-cons HoldsNumbers o [] has (All-nil HoldsNumbers)) in
      ap (λ (rest : List Object).
      or_else (at_slot o.slot (map_fault s unit (map (renewed_object kinds.Map) lower) (renewed_object kinds.Map o)))
      (first_fault (map_fault s unit) rest (map (renewed_object kinds.Map) os)))
      (sym (map-append (renewed_object kinds.Map) lower (o ∷ [])))
      ∙ (λ i. or_else (at_slot o.slot (same_fault lower o below has i))
      (same_faults (lower ++ o ∷ []) os grown (All-tail HoldsNumbers o os all) i))

  pub front_fault : (os : List Object) → All HoldsNumbers os
      → first_fault (map_fault s unit) [] (map (renewed_object kinds.Map) os) ≡ first_fault (old_map_fault s unit) [] os
  front_fault os all = same_faults [] os (All-nil HoldsNumbers) all

-- ---- objects after others
or_else_assoc : {A : Type 0} (a b d : Option A) → or_else a (or_else b d) ≡ or_else (or_else a b) d
or_else_assoc None b d = refl
or_else_assoc (Some x) b d = refl

first_fault-append : (F : List Object → Object → Option ObjectFault) (lower xs ys : List Object)
    → first_fault F lower (xs ++ ys) ≡ or_else (first_fault F lower xs) (first_fault F (lower ++ xs) ys)
first_fault-append F lower [] ys = ap (λ (os : List Object). first_fault F os ys) (sym (append-nil lower))
first_fault-append F lower (x ∷ xs) ys =
    ap (or_else (at_slot x.slot (F lower x))) (first_fault-append F (lower ++ x ∷ []) xs ys)
    ∙ ap (λ (os : List Object). or_else (at_slot x.slot (F lower x))
    (or_else (first_fault F (lower ++ x ∷ []) xs) (first_fault F os ys))) (append_assoc lower (x ∷ []) xs)
    ∙ or_else_assoc (at_slot x.slot (F lower x)) (first_fault F (lower ++ x ∷ []) xs) (first_fault F (lower ++ x ∷ xs) ys)

module _ (s : Shape) (unit : ℕ) where
  -- the first fault of the front is that of all
  pub fault_of_front : (front behind : List Object) (e : ℕ × ObjectFault) → first_fault (old_map_fault s unit) [] front ≡ Some e
      → first_fault (old_map_fault s unit) [] (front ++ behind) ≡ Some e
  fault_of_front front behind e first =
      first_fault-append (old_map_fault s unit) [] front behind
      ∙ ap (λ (o : Option (ℕ × ObjectFault)). or_else o (first_fault (old_map_fault s unit) front behind)) first

  -- after a front without a fault, a word that isn't used and isn't 0 is the first one
  pub fault_behind : (front : List Object) (o : Object) (os : List Object) → first_fault (old_map_fault s unit) [] front ≡ None
      → number_pair_at o ≡ None → first_fault (old_map_fault s unit) [] (front ++ o ∷ os) ≡ Some (o.slot, faults.Spare)
  fault_behind front o os none spare =
      first_fault-append (old_map_fault s unit) [] front (o ∷ os)
      ∙ ap (λ (f : Option (ℕ × ObjectFault)). or_else f (first_fault (old_map_fault s unit) front (o ∷ os))) none
      ∙ ap (λ (e : Option (ℕ × ℕ)). or_else (at_slot o.slot (number_pair_fault s unit front e))
      (first_fault (old_map_fault s unit) (front ++ o ∷ []) os)) spare

-- ---- the map of the objects
pairs_listed : (os : List Object) → All HoldsNumbers os → filter_map pair_at (map (renewed_object kinds.Map) os) ≡ filter_map digits_at os
pairs_listed [] all = refl
pairs_listed (o ∷ os) all = λ i. cons_option (sym (digits_stand o (All-head HoldsNumbers o os all)) i)
    (pairs_listed os (All-tail HoldsNumbers o os all) i)

pub same_map : (os : List Object) → All HoldsNumbers os
    → structure_of kinds.Map (map (renewed_object kinds.Map) os) ≡ old_structure_of kinds.Map os
same_map os all = ap (λ (es : List (Key × Value)). MapOf (finite.from_entries es)) (pairs_listed os all)
