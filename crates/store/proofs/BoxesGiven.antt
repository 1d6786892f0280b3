-- Boxes go to map units, one after the other.
use Rattle.std.proofs.Common.{◌≡◌, ◌≢◌, ℕ, zero, suc, ◌+◌, ◌≤◌, ◌<◌, List, [], ◌∷◌, ◌++◌, length, map, drop, refl, sym, ap, ◌∙◌, subst, false, arith}
use Rattle.std.specs.Prelude.{slice_get, count_by, Option, Some, None, IsSome}
use Rattle.std.specs.Option.{option_map, option_to_list}
use Rattle.std.proofs.lemmas.Bool.{false≢true}
use borrow.Author.Count.{below_none, below_more}
use Rattle.std.proofs.lemmas.List.{drop-drop, take_all}
use Rattle.std.proofs.lemmas.List.Sums.{count_by_more_yes, count_by_more_no}
use Rattle.std.proofs.lemmas.Option.{slice_get_within, get_or_from_slice_get, slice_get_past}
use Rattle.mont_base.specs.declared.kinds.UnitKind.{UnitKind}
use Rattle.mont_base.specs.declared.kinds.UnitKind.TheVariants as kinds
use Rattle.mont_base.specs.Layout.{Shape, kind_of, same_kind, units_of}
use Rattle.store.specs.declared.open_refusal.OpenRefusal.{OpenRefusal}
use Rattle.store.specs.declared.open_refusal.OpenRefusal.TheVariants.{Index}
use Rattle.store.specs.MapBoxes.{maps_below, HasEmptyBox, HaveEmptyBoxes, AreLeft, GivesBox, RefusesBox}

-- ---- how many maps are below
one_more : (s : Shape) (unit : ℕ) → kind_of s unit ≡ Some kinds.Map → maps_below s (unit + 1) ≡ maps_below s unit + 1
one_more s unit map =
    count_by_more_yes (same_kind kinds.Map) s.kinds unit kinds.Map (slice_get_within s.kinds unit kinds.Map map)
    (ap (same_kind kinds.Map) (get_or_from_slice_get s.kinds unit kinds.Map kinds.Map map))

no_more : (s : Shape) (unit : ℕ) (kind : UnitKind) → kind_of s unit ≡ Some kind → same_kind kinds.Map kind ≡ false
    → maps_below s (unit + 1) ≡ maps_below s unit
no_more s unit kind is other =
    count_by_more_no (same_kind kinds.Map) s.kinds unit kind (slice_get_within s.kinds unit kind is)
    (ap (same_kind kinds.Map) (get_or_from_slice_get s.kinds unit kind kind is) ∙ other)

-- ---- what is left
first_left : (boxes : List ℕ) (n : ℕ) → slice_get (drop n boxes) 0 ≡ slice_get boxes n
first_left boxes zero = refl
first_left [] (suc n) = refl
first_left (b ∷ boxes) (suc n) = first_left boxes n

behind_first : (boxes : List ℕ) (n box : ℕ) (rest : List ℕ) → box ∷ rest ≡ drop n boxes → rest ≡ drop (n + 1) boxes
behind_first boxes n box rest is = ap (drop 1) is ∙ drop-drop 1 n boxes

lower_or_here : (s : Shape) (boxes : List ℕ) (unit : ℕ) → ((u : ℕ) → u < unit → HasEmptyBox s boxes u) → HasEmptyBox s boxes unit
    → (u : ℕ) → u < unit + 1 → HasEmptyBox s boxes u
lower_or_here s boxes unit lower here = below_more (HasEmptyBox s boxes) unit lower here

pub none_given : (s : Shape) (boxes : List ℕ) → AreLeft s boxes 0 boxes
none_given s boxes = record { left_are = refl; given = below_none (HasEmptyBox s boxes) }

pub gives_to_map : (s : Shape) (unit : ℕ) (rest : List ℕ) → kind_of s unit ≡ Some kinds.Map → GivesBox s unit (0 ∷ rest) rest
gives_to_map s unit rest map boxes left = record {
  left_are = behind_first boxes (maps_below s unit) 0 rest left.left_are ∙ sym (ap (λ n. drop n boxes) (one_more s unit map));
  given = lower_or_here s boxes unit left.given
      (λ again. sym (first_left boxes (maps_below s unit)) ∙ sym (ap (λ bs. slice_get bs 0) left.left_are));
}

pub gives_to_other : (s : Shape) (unit : ℕ) (kind : UnitKind) (left : List ℕ) → kind_of s unit ≡ Some kind
    → same_kind kinds.Map kind ≡ false → GivesBox s unit left left
gives_to_other s unit kind old is other boxes left = record {
  left_are = left.left_are ∙ sym (ap (λ n. drop n boxes) (no_more s unit kind is other));
  given = lower_or_here s boxes unit left.given (λ map. absurd (cc));
}

-- after the last unit none is given
pub gives_to_none : (s : Shape) (unit : ℕ) (left : List ℕ) → units_of s ≤ unit → GivesBox s unit left left
gives_to_none s unit old past boxes left = record {
  left_are = left.left_are ∙ sym (ap (λ n. drop n boxes) same);
  given = lower_or_here s boxes unit left.given (λ map. let none = slice_get_past s.kinds unit past in absurd (cc));
}
  where
    same : maps_below s (unit + 1) ≡ maps_below s unit
    same = ap (count_by (same_kind kinds.Map)) (take_all (unit + 1) s.kinds (omega (arith, past)) ∙ sym (take_all unit s.kinds past))

-- every unit has one once all were passed
pub all_given : (s : Shape) (unit : ℕ) (boxes left : List ℕ) → units_of s ≤ unit → AreLeft s boxes unit left → HaveEmptyBoxes s boxes
all_given s unit boxes left past k u map =
    k.given u (let low = slice_get_within s.kinds u kinds.Map map in omega (arith, low, past)) map

pub refuses_box : (s : Shape) (unit : ℕ) (old : List ℕ) (keys : Option ℕ) → kind_of s unit ≡ Some kinds.Map → slice_get old 0 ≡ keys
    → keys ≢ Some 0 → RefusesBox s unit old (Index unit keys)
refuses_box s unit old keys map is lacks boxes left = record {
  map = map;
  has = sym (first_left boxes (maps_below s unit)) ∙ (sym (ap (λ bs. slice_get bs 0) left.left_are) ∙ is);
  lacks = lacks;
  lower = left.given;
}

-- ---- the next of the boxes
module _ {I : Type 0} (keys : I → ℕ) (s : Shape) (unit : ℕ) (is_map : kind_of s unit ≡ Some kinds.Map) where
  pub gives_next : (old new : List I) (found : Option I) (index : I) → old ≡ option_to_list found ++ new → found ≡ Some index
      → keys index ≡ 0 → GivesBox s unit (map keys old) (map keys new)
  gives_next old new found index items is empty =
      subst (λ (l : List ℕ). GivesBox s unit l (map keys new)) (sym first) (gives_to_map s unit (map keys new) is_map)
    where
      first : map keys old ≡ 0 ∷ map keys new
      first = ap (map keys) (items ∙ ap (λ (f : Option I). option_to_list f ++ new) is) ∙ ap (λ (n : ℕ). n ∷ map keys new) empty

  first_keys : (old new : List I) (found : Option I) → old ≡ option_to_list found ++ new → (0 < length old → IsSome found)
      → slice_get (map keys old) 0 ≡ option_map keys found
  first_keys [] new None items some = refl
  first_keys (b ∷ old) new None items some = absurd (false≢true (some (omega arith)))
  first_keys old new (Some b) items some = ap (λ (l : List I). slice_get (map keys l) 0) items

  pub refuses_next : (old new : List I) (found : Option I) (why : OpenRefusal) → old ≡ option_to_list found ++ new
      → (0 < length old → IsSome found)
      → (why ≡ Index unit (option_map keys found)) × (option_map keys found ≢ Some 0) → RefusesBox s unit (map keys old) why
  refuses_next old new found why items some k =
      subst (RefusesBox s unit (map keys old)) (sym k.0)
      (refuses_box s unit (map keys old) (option_map keys found) is_map (first_keys old new found items some) k.1)
