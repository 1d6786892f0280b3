-- A number and its digits are kept by the same map unit, where maps stand in front of all other units.
use Rattle.std.proofs.Common.{◌≡◌, ℕ, zero, suc, ◌+◌, ◌*◌, ◌/◌, ◌%◌, ◌^◌, ◌<◌, ◌≤◌, ◌==◌, Bool, true, false, ◌||◌, List, [], ◌∷◌, ◌++◌, length, replicate, decimal, refl, sym, ap, ◌∙◌, arith}
use Rattle.std.specs.Prelude.{Some, slice_get}
use Rattle.std.specs.List.{range_with_len}
use Rattle.std.proofs.Math.Nat.{mod-add-mod, mod-lt}
use Rattle.std.proofs.lemmas.Nat.{mul-mod_first}
use Rattle.std.proofs.lemmas.Fmt.{decimal_by_steps}
use Rattle.std.proofs.lemmas.List.FromFn.{length-range_with_len}
use Rattle.std.proofs.lemmas.List.Sums.{fold-append}
use Rattle.mont_base.specs.declared.kinds.UnitKind.TheVariants as kinds
use Rattle.mont_base.specs.Layout.{Shape, is_of_kind, key_number, kind_of, map_units, next_digit, units_from, unit_of_key}
use Rattle.mont_base.specs.Structure.{is_unit, keeps_key}
use Rattle.mont_image.specs.StoredImage.{IsOldKinds, maps_in}

-- ---- the digits of a number, modulo m
module _ (m : ℕ) where
  digit_is : (d : ℕ) → d < 10 → (48 + d + 208) % 256 ≡ d
  digit_is d low = omega arith

  step_mod : (n d : ℕ) → (n % m * 10 + d) % m ≡ (n * 10 + d) % m
  step_mod n d = sym (mod-add-mod (n % m * 10) m d) ∙ ap (λ r. (r + d) % m) (mul-mod_first n 10 m) ∙ mod-add-mod (n * 10) m d

  one_more : (n r d : ℕ) → d < 10 → r ≡ n % m → next_digit m r (48 + d) ≡ (n * 10 + d) % m
  one_more n r d low is =
      ap (λ k. (r * 10 + k) % m) (digit_is d low) ∙ ap (λ k. (k * 10 + d) % m) is ∙ step_mod n d

  Is : ℕ → List ℕ → Type 0
  Is n ds = key_number m ds ≡ n % m

  single : (n : ℕ) → n < 10 → key_number m ((48 + n) ∷ []) ≡ n % m
  single n low = let none : 0 * 10 + n ≡ n = omega arith in ap (λ k. (0 * 10 + k) % m) (digit_is n low) ∙ ap (λ k. k % m) none

  longer : (n : ℕ) (ds : List ℕ) → 10 ≤ n → key_number m ds ≡ n / 10 % m → key_number m (ds ++ (48 + n % 10) ∷ []) ≡ n % m
  longer n ds high h =
      let parts : n / 10 * 10 + n % 10 ≡ n = omega arith in
      fold-append (next_digit m) 0 ds ((48 + n % 10) ∷ [])
      ∙ one_more (n / 10) (key_number m ds) (n % 10) (omega arith) h ∙ ap (λ k. k % m) parts

  pub number_of_digits : (n : ℕ) → n < 2 ^ 64 → key_number m (decimal n) ≡ n % m
  number_of_digits = decimal_by_steps (λ n ds. key_number m ds ≡ n % m) single longer

-- ---- the map units
maps_first : (n m : ℕ) → units_from n kinds.Map (replicate m kinds.Map ++ kinds.Queue ∷ kinds.Graph ∷ []) ≡ range_with_len n m
maps_first n zero = refl
maps_first n (suc m) = ap (λ (us : List ℕ). n ∷ us) (maps_first (n + 1) m)

at_place : (a n i : ℕ) → i < n → slice_get (range_with_len a n) i ≡ Some (a + i)
at_place a zero i low = absurd (omega arith)
at_place a (suc n) zero low = let same : a ≡ a + 0 = omega arith in ap Some same
at_place a (suc n) (suc i) low = let next : a + 1 + i ≡ a + suc i = omega arith in at_place (a + 1) n i (omega arith) ∙ ap Some next

module _ (s : Shape) (old : IsOldKinds s.kinds) where
  units_are : map_units s ≡ range_with_len 0 (maps_in s.kinds)
  units_are = ap (units_from 0 kinds.Map) old.kinds ∙ maps_first 0 (maps_in s.kinds)

  many_units : length (map_units s) ≡ maps_in s.kinds
  many_units = ap length units_are ∙ length-range_with_len 0 (maps_in s.kinds)

  pub unit_of_digits : (n : ℕ) → n < 2 ^ 64 → unit_of_key s (decimal n) ≡ Some (n % maps_in s.kinds)
  unit_of_digits n small =
      let some = old.some in
      let place : 0 + n % maps_in s.kinds ≡ n % maps_in s.kinds = omega arith in
      ap (λ (us : List ℕ). slice_get us (key_number (length (map_units s)) (decimal n))) units_are
      ∙ ap (λ (m : ℕ). slice_get (range_with_len 0 (maps_in s.kinds)) (key_number m (decimal n))) many_units
      ∙ ap (slice_get (range_with_len 0 (maps_in s.kinds))) (number_of_digits (maps_in s.kinds) n small)
      ∙ at_place 0 (maps_in s.kinds) (n % maps_in s.kinds) (mod-lt n (omega arith)) ∙ ap Some place

  pub kept_by_digits : (unit n : ℕ) → is_of_kind (kind_of s unit) kinds.Ordered ≡ false → n < 2 ^ 64
      → keeps_key s unit (decimal n) ≡ (n % maps_in s.kinds == unit)
  kept_by_digits unit n plain small =
      (λ i. is_unit (unit_of_digits n small i) unit || plain i) ∙ or_false (n % maps_in s.kinds == unit)
    where
      or_false : (b : Bool) → (b || false) ≡ b
      or_false true = refl
      or_false false = refl
