-- What recovery accepts of an image, unit by unit.
use Rattle.std.specs.Prelude.{◌≡◌, ℕ, ◌≤◌, List, length, true, AllPairs}
use Rattle.mont_base.specs.declared.constants.TheConstants.{FIRST_CLOCK, LAST}
use Rattle.mont_base.specs.declared.record.Held.{Held}
use Rattle.mont_base.specs.Layout.{Shape, words_of, unit_of_slot}
use Rattle.mont_base.specs.Record.{reading}
use Rattle.mont_base.specs.Versions.{live_objects}
use Rattle.mont_base.specs.Image.{clock_of, is_in_cut, words_at, IsRead, DiffersFrom, records_of}
use Rattle.plain.specs.Built.{MakesStructure}

-- the image has the words of the layout, and a clock
pub record HasClock (s : Shape) (image : List ℕ) : Type 0 where
  pub size : length image ≡ words_of s
  pub begun : FIRST_CLOCK ≤ clock_of image
  pub last : clock_of image ≤ LAST

-- a slot within the cut is read without fault
abbrev pub Reads : List ℕ → ℕ → ℕ → Type 0
Reads image unit slot = is_in_cut image slot ≡ true → IsRead (reading unit (words_at image slot))

-- so are all slots of a unit
abbrev pub IsReadable : Shape → List ℕ → ℕ → Type 0
IsReadable s image unit = (slot : ℕ) → unit_of_slot s slot ≡ unit → Reads image unit slot

-- what tells the versions of a unit apart
abbrev pub version_key : Held → ℕ × ℕ
version_key r = (r.label.identity, r.label.version)

pub record IsAcceptableUnit (s : Shape) (image : List ℕ) (unit : ℕ) : Type 0 where
  pub readable : IsReadable s image unit
  pub apart : AllPairs DiffersFrom (records_of s image unit)
  pub defined : MakesStructure s unit (live_objects (records_of s image unit))
