-- How the words of a store are divided among its units, and which unit keeps what.
use Rattle.std.specs.Prelude.{ℕ, ◌+◌, ◌*◌, ◌/◌, ◌%◌, ◌==◌, ◌≤◌, Bool, true, false, ◌||◌, List, [], ◌∷◌, length, map, codes, slice_index, slice_get, Option, Some, None, if◌then◌else◌}
use Rattle.std.specs.List.{fold, find}
use Rattle.mont_base.specs.declared.constants.TheConstants.{FIELDS, MOST_UNITS, LEAST_SLOTS, MOST_SLOTS}
use Rattle.mont_base.specs.declared.kinds.UnitKind.{UnitKind}
use Rattle.mont_base.specs.declared.kinds.UnitKind.TheVariants as kinds
use Rattle.mont_base.specs.declared.kinds.Signs.{Signs}

-- a letter of a text, and a number of an image
abbrev pub signs : List ℕ → ℕ → Signs
signs text code = record { letter = slice_index text 0; code = code }

-- the table of the kinds
abbrev pub signs_of : UnitKind → Signs
signs_of kinds.Map = signs (codes "m") 1
signs_of kinds.Queue = signs (codes "q") 2
signs_of kinds.Graph = signs (codes "g") 3
signs_of kinds.Ordered = signs (codes "o") 4

-- its kinds by rising code
abbrev pub kinds_all : List UnitKind
kinds_all = kinds.Map ∷ kinds.Queue ∷ kinds.Graph ∷ kinds.Ordered ∷ []

-- a kind is spelled by one letter
abbrev pub letter_of : UnitKind → ℕ
letter_of kind = (signs_of kind).letter

-- and stands in an image as a number
abbrev pub code_of : UnitKind → ℕ
code_of kind = (signs_of kind).code

-- the kind that a number stands for, if it stands for one
abbrev pub kind_of_code : ℕ → Option UnitKind
kind_of_code code = find (λ kind. code_of kind == code) kinds_all

abbrev pub letters_of : List UnitKind → List ℕ
letters_of ks = map letter_of ks

-- a store has one unit at least
pub record IsKinds (ks : List UnitKind) : Type 0 where
  pub some : 1 ≤ length ks
  pub few : length ks ≤ MOST_UNITS

-- the kinds of the units in their order, and the slots of each unit
pub record Shape : Type 0 where
  pub kinds : List UnitKind
  pub slots : ℕ

abbrev pub shape : List UnitKind → ℕ → Shape
shape kinds slots = record { kinds = kinds; slots = slots }

pub record IsLayout (s : Shape) : Type 0 where
  pub kinds : IsKinds s.kinds
  pub some_slots : LEAST_SLOTS ≤ s.slots
  pub few_slots : s.slots ≤ MOST_SLOTS

abbrev pub units_of : Shape → ℕ
units_of s = length s.kinds

abbrev pub kind_of : Shape → ℕ → Option UnitKind
kind_of s unit = slice_get s.kinds unit

abbrev pub total_of : Shape → ℕ
total_of s = units_of s * s.slots

-- the clock, and the words of each slot
abbrev pub words_of : Shape → ℕ
words_of s = 1 + FIELDS * total_of s

abbrev pub unit_of_slot : Shape → ℕ → ℕ
unit_of_slot s slot = slot / s.slots

-- the place of a slot's word among the words of the store
abbrev pub word_of : ℕ → ℕ → ℕ
word_of slot field = 1 + FIELDS * slot + field

-- kinds are told apart by their codes
abbrev pub same_kind : UnitKind → UnitKind → Bool
same_kind a b = code_of a == code_of b

-- units of these kinds hold pairs of keys and values
abbrev pub keeps_pairs : UnitKind → Bool
keeps_pairs kind = same_kind kind kinds.Map || same_kind kind kinds.Ordered

-- the units of a kind, in their order, where the first of these kinds is unit n
abbrev pub units_from : ℕ → UnitKind → List UnitKind → List ℕ
units_from n kind [] = []
units_from n kind (k ∷ ks) =
    if same_kind k kind then n ∷ units_from (n + 1) kind ks else units_from (n + 1) kind ks

abbrev pub map_units : Shape → List ℕ
map_units s = units_from 0 kinds.Map s.kinds

-- A key's bytes as digits in base 10, modulo the number of map units. The digits 0 to 9 count as
-- these numbers, so a number is kept by the same map unit as its decimal digits.
abbrev pub next_digit : ℕ → ℕ → ℕ → ℕ
next_digit maps number byte = (number * 10 + (byte + 208) % 256) % maps

abbrev pub key_number : ℕ → List ℕ → ℕ
key_number maps key = fold (next_digit maps) 0 key

-- the map unit that keeps a key, if there is a map unit
abbrev pub unit_of_key : Shape → List ℕ → Option ℕ
unit_of_key s key = slice_get (map_units s) (key_number (length (map_units s)) key)

-- a unit that is named, if it is of the kind
abbrev pub named_if : Bool → ℕ → Option ℕ
named_if true unit = Some unit
named_if false unit = None

abbrev pub is_of_kind : Option UnitKind → UnitKind → Bool
is_of_kind None kind = false
is_of_kind (Some k) kind = same_kind k kind

abbrev pub unit_named : Shape → UnitKind → ℕ → Option ℕ
unit_named s kind unit = named_if (is_of_kind (kind_of s unit) kind) unit
