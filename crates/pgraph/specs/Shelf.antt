-- Values that are kept under keys, each of which has a name.
use Rattle.std.specs.Prelude.{◌≡◌, ℕ, cond, true, List, [], ◌∷◌, Option, Some, None, IsSome}
use Rattle.std.specs.declared.cmp.Ordering.{Ordering}
use Rattle.std.specs.Map.{lookup}
use Rattle.std.specs.BTreeMap.{is_at}
use Rattle.slab.specs.Slab.{Slab, get}

-- a value with its name, before others
abbrev pub named_first : {K V : Type 0} → K → Option V → List (K × V) → List (K × V)
named_first name None others = others
named_first name (Some value) others = (name, value) ∷ others

-- the values with their names, in the order of the names
abbrev pub shelved : {K V : Type 0} → Slab V → List (K × ℕ) → List (K × V)
shelved values [] = []
shelved values (e ∷ es) = named_first e.0 (get values e.1) (shelved values es)

-- the value of a name
abbrev pub value_of : {K V : Type 0} → (K → K → Ordering) → List (K × V) → K → Option V
value_of cmp entries name = lookup (is_at (cmp name)) entries

-- one name has this value, or none, and each other has what it had
abbrev pub SetsValue :
    {K V : Type 0} → (K → K → Ordering) → List (K × V) → List (K × V) → K → Option V → Type 0
SetsValue {K} cmp old new name value = (other : K)
    → value_of cmp new other ≡ cond (is_at (cmp name) other) value (value_of cmp old other)

-- Each named key has a value, and no two names have one key.
pub record AreShelved
    {K V : Type 0} (cmp : K → K → Ordering) (values : Slab V) (keys : List (K × ℕ))
    : Type 0 where
  pub there : (name : K) (key : ℕ) → value_of cmp keys name ≡ Some key → IsSome (get values key)
  pub once : (name other : K) (key : ℕ) → value_of cmp keys name ≡ Some key
      → value_of cmp keys other ≡ Some key → is_at (cmp name) other ≡ true
