-- What an image holds.
use Rattle.std.specs.Prelude.{◌≡◌, ℕ, ◌+◌, ◌*◌, ◌-◌, ◌≤◌, Bool, true, false, IsTrue, List, length}
use Rattle.mont_base.specs.declared.constants.TheConstants.{FIELDS, FIRST_CLOCK, LAST}
use Rattle.mont_base.specs.declared.kinds.UnitKind.{UnitKind}
use Rattle.mont_base.specs.Kinds.{old_kinds}
use Rattle.mont_base.specs.Layout.{Shape, total_of}
use Rattle.mont_base.specs.Image.{clock_of}
use Rattle.mont_image.specs.declared.image_text.TheConstants.{OLD_FIELDS, MOST_OLD_MAPS}

-- the words of a slot
abbrev pub fields_of : Bool → ℕ
fields_of true = OLD_FIELDS
fields_of false = FIELDS

-- the words of all slots
abbrev pub slot_words : Bool → Shape → ℕ
slot_words old s = fields_of old * total_of s

-- the units of the first two versions: 1 to 8 maps, a queue and a graph
abbrev pub maps_in : List UnitKind → ℕ
maps_in ks = length ks - 2

pub record IsOldKinds (ks : List UnitKind) : Type 0 where
  pub some : 1 ≤ maps_in ks
  pub few : maps_in ks ≤ MOST_OLD_MAPS
  pub kinds : ks ≡ old_kinds (maps_in ks)

-- an image has a clock and the words of all slots
pub record IsImage (s : Shape) (words : List ℕ) (old : Bool) : Type 0 where
  pub size : length words ≡ 1 + slot_words old s
  pub clock_begun : FIRST_CLOCK ≤ clock_of words
  pub clock_last : clock_of words ≤ LAST
  pub kinds : IsTrue old → IsOldKinds s.kinds
