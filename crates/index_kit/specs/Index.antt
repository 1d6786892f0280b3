-- What an index holds: where each key is, and for how many more keys it has room.
use Rattle.std.specs.Prelude.{◌≡◌, ℕ, ◌≤◌, List, None, refl}
use Rattle.std.specs.Coded.{Coded, code_by, coded×, coded_ℕ, coded_list}
use Rattle.std.specs.FinMap as finite
use Rattle.mont_base.specs.State.{Key, key_cmp}

-- a finite map from keys to places
abbrev pub Places : Type 0
Places = finite.FinMap key_cmp ℕ

-- keys with their places
abbrev pub Entries : Type 0
Entries = List (Key × ℕ)

-- a key may be put where it is there already, or where there is room for a new one
abbrev pub CanPut : Places → ℕ → Key → Type 0
CanPut places spare key = finite.get places key ≡ None → 1 ≤ spare

-- what contracts see of an index
pub record IndexView : Type 0 where
  pub places : Places
  pub spare : ℕ

-- it is stored as the pair of its fields
abbrev pub index_view_code : Coded IndexView
index_view_code =
    code_by (Places × ℕ) (coded× (finite.code (coded_list coded_ℕ) coded_ℕ) coded_ℕ)
    (λ v. (v.places, v.spare)) (λ p. record { places = p.0; spare = p.1 }) (λ _. refl)
