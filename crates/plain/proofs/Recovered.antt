-- The records of an image, and the states of its units.
use Rattle.std.proofs.Common.{◌≡◌, ℕ, zero, suc, ◌+◌, ◌*◌, ◌<◌, List, [], ◌∷◌, ◌++◌, map, length, refl, sym, ap, subst, ◌∙◌, arith, add-zero, add-one, append-nil}
use Rattle.std.specs.Prelude.{Option, Some, None, slice_get}
use Rattle.std.specs.List.{filter_map, range_with_len, cons_option}
use Rattle.std.proofs.lemmas.Nat.{mul-add-lt}
use Rattle.std.proofs.Math.Nat.{mul_comm}
use Rattle.std.proofs.lemmas.List.{length-map, map-append}
use Rattle.std.proofs.lemmas.List.Elements.{filter_map-append}
use Rattle.mont_base.specs.Layout.{Shape, units_of, total_of}
use Rattle.mont_base.specs.State.{State}
use Rattle.plain.specs.declared.unit_state.UnitState.{UnitState}
use Rattle.plain.specs.States.{state_of}

-- a slot's place among those of all units
pub slot_within : (s : Shape) (unit place slots : ℕ) → slots ≡ s.slots → unit < units_of s → place < slots
    → unit * slots + place < total_of s
slot_within s unit place slots same u p =
    let below = mul-add-lt unit s.slots place (units_of s) u (subst (λ (n : ℕ). place < n) same p) in
    rw same (subst (λ (n : ℕ). unit * s.slots + place < n) (mul_comm s.slots (units_of s)) below)

range_more : (a n : ℕ) → range_with_len a (suc n) ≡ range_with_len a n ++ (a + n) ∷ []
range_more a zero = rw (add-zero) refl
range_more a (suc n) =
    ap (λ (xs : List ℕ). a ∷ xs) (range_more (a + 1) n ∙ ap (λ (m : ℕ). range_with_len (a + 1) n ++ m ∷ []) (omega arith))

module _ {X : Type 0} (h : ℕ → Option X) (a n : ℕ) where
  more : filter_map h (range_with_len a (n + 1)) ≡ filter_map h (range_with_len a n) ++ cons_option (h (a + n)) []
  more = rw add-one (ap (filter_map h) (range_more a n) ∙ filter_map-append h (range_with_len a n) ((a + n) ∷ []))

  pub filter_map_hit : (found grown : List X) (x : X) → h (a + n) ≡ Some x → found ≡ filter_map h (range_with_len a n)
      → grown ≡ found ++ x ∷ [] → grown ≡ filter_map h (range_with_len a (n + 1))
  filter_map_hit found grown x hit so_far is = is ∙ ap (λ (xs : List X). xs ++ x ∷ []) so_far
      ∙ ap (λ (o : Option X). filter_map h (range_with_len a n) ++ cons_option o []) (sym hit) ∙ sym more

  pub filter_map_miss : (found : List X) → h (a + n) ≡ None → found ≡ filter_map h (range_with_len a n)
      → found ≡ filter_map h (range_with_len a (n + 1))
  filter_map_miss found miss so_far = so_far ∙ sym (append-nil (filter_map h (range_with_len a n)))
      ∙ ap (λ (o : Option X). filter_map h (range_with_len a n) ++ cons_option o []) (sym miss) ∙ sym more

-- what holds of each element and of one more
pub each_more : {A : Type 0} (P : ℕ → A → Type 0) (xs : List A) (y : A) → ((k : ℕ) (x : A) → slice_get xs k ≡ Some x → P k x)
    → P (length xs) y → (k : ℕ) (x : A) → slice_get (xs ++ y ∷ []) k ≡ Some x → P k x
each_more {A} P [] y before last zero x e = let same : y ≡ x = cc in subst (λ (z : A). P 0 z) same last
each_more P [] y before last (suc k) x e = cc
each_more P (z ∷ xs) y before last zero x e = before zero x e
each_more P (z ∷ xs) y before last (suc k) x e = each_more (λ (j : ℕ). P (suc j)) xs y (λ j. before (suc j)) last k x e

pub each_unit : (P : ℕ → State → Type 0) (units grown : List UnitState) (unit : UnitState) (n : ℕ) → length units ≡ n
    → grown ≡ units ++ unit ∷ [] → P n (state_of unit) → ((k : ℕ) (s : State) → slice_get (map state_of units) k ≡ Some s → P k s)
    → (k : ℕ) (s : State) → slice_get (map state_of grown) k ≡ Some s → P k s
each_unit P units grown unit n long is last before k s e =
    let long_map : n ≡ length (map state_of units) = sym long ∙ sym (length-map units state_of) in
    each_more P (map state_of units) (state_of unit) before (subst (λ (m : ℕ). P m (state_of unit)) long_map last) k s
    (ap (λ (xs : List State). slice_get xs k) (sym (ap (map state_of) is ∙ map-append state_of units (unit ∷ []))) ∙ e)
