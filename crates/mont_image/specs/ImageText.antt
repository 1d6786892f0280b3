-- The text of an image, and which image a text is of.
use Rattle.std.specs.Prelude.{◌≡◌, ℕ, zero, suc, ◌+◌, ◌*◌, ◌/◌, ◌<◌, ◌^◌, Bool, true, false, ◌&&◌, ◌==◌, nat_le, List, [], ◌∷◌, ◌++◌, length, take, drop, map, All, Option, Some, None, option_map, Result, Ok, Err}
use Rattle.std.specs.Int.{w64, to_le_bytes, from_le_bytes, is_in_range}
use Rattle.std.specs.List.{flat_map}
use Rattle.std.specs.Simd.{first_chunks}
use Rattle.mont_base.specs.declared.constants.TheConstants.{FIRST_CLOCK, LAST, LEAST_SLOTS, MOST_SLOTS, MOST_UNITS}
use Rattle.mont_base.specs.declared.kinds.UnitKind.{UnitKind}
use Rattle.mont_base.specs.Bodies.{both}
use Rattle.mont_base.specs.Image.{clock_of}
use Rattle.mont_base.specs.Kinds.{old_kinds}
use Rattle.mont_base.specs.Layout.{Shape, IsLayout, shape, code_of, kind_of_code}
use Rattle.mont_image.specs.declared.image_refusal.ImageRefusal.{ImageRefusal}
use Rattle.mont_image.specs.declared.image_refusal.ImageRefusal.TheVariants as faults
use Rattle.mont_image.specs.declared.image_text.TheConstants.{WORD, MAGIC, HEADER, MOST_OLD_MAPS}
use Rattle.mont_image.specs.declared.image_text.Header.{Header}
use Rattle.mont_image.specs.declared.image_text.Version.{Version}
use Rattle.mont_image.specs.declared.image_text.Version.TheVariants.{First, Second, Third}
use Rattle.mont_image.specs.StoredImage.{IsImage, IsOldKinds, maps_in, slot_words}

-- ---- words and bytes

-- each word is eight bytes, the lowest first
unfoldable pub bytes_of : List ℕ → List ℕ
bytes_of words = flat_map (to_le_bytes w64) words

-- the words that stand whole in these bytes
unfoldable pub words_in : List ℕ → List ℕ
words_in bytes = map (from_le_bytes w64) (first_chunks WORD (length bytes / WORD) bytes)

-- ---- versions

-- the number that tells a version
abbrev pub number_of_version : Version → ℕ
number_of_version First = 1
number_of_version Second = 2
number_of_version Third = 3

-- the version that a number tells
abbrev pub version_of_number : ℕ → Option Version
version_of_number zero = None
version_of_number (suc zero) = Some First
version_of_number (suc (suc zero)) = Some Second
version_of_number (suc (suc (suc zero))) = Some Third
version_of_number (suc (suc (suc (suc n)))) = None

-- the first version has slots of its own
abbrev pub is_old : Version → Bool
is_old First = true
is_old Second = false
is_old Third = false

-- the third word: the units, or in older versions the maps among them
abbrev pub units_told : Version → List UnitKind → ℕ
units_told First ks = maps_in ks
units_told Second ks = maps_in ks
units_told Third ks = length ks

-- the codes of the kinds, which older versions don't tell
abbrev pub codes_told : Version → List UnitKind → List ℕ
codes_told First ks = []
codes_told Second ks = []
codes_told Third ks = map code_of ks

-- ---- the text of an image

abbrev pub header_words : Header → List ℕ
header_words h =
    MAGIC ∷ number_of_version h.version ∷ h.units ∷ h.slots ∷ h.clock ∷ []

-- what the first words tell of an image
abbrev pub header_of : Version → Shape → List ℕ → Header
header_of version s words = record {
  version = version;
  units = units_told version s.kinds;
  slots = s.slots;
  clock = clock_of words;
}

-- the words of the text of an image in a version
abbrev pub text_words_of : Version → Shape → List ℕ → List ℕ
text_words_of version s words =
    header_words (header_of version s words) ++ (codes_told version s.kinds ++ drop 1 words)

abbrev pub text_in_version : Version → Shape → List ℕ → List ℕ
text_in_version version s words = bytes_of (text_words_of version s words)

-- the one text that is written for a layout and words
abbrev pub image_text : Shape → List ℕ → List ℕ
image_text s words = text_in_version Third s words

-- which units a version has
abbrev pub HasKindsOf : Version → List UnitKind → Type 0
HasKindsOf First ks = IsOldKinds ks
HasKindsOf Second ks = IsOldKinds ks
HasKindsOf Third ks = Unit {0}

-- an image as its parts
pub record ImageParts : Type 0 where
  pub layout : Shape
  pub words : List ℕ
  pub old : Bool

-- a text is that of an image in a version
pub record IsTextOf (text : List ℕ) (parts : ImageParts) : Type 0 where
  pub version : Version
  pub layout : IsLayout parts.layout
  pub image : IsImage parts.layout parts.words parts.old
  pub in_range : All (λ w. w < 2 ^ 64) parts.words
  pub old : parts.old ≡ is_old version
  pub kinds : HasKindsOf version parts.layout.kinds
  pub spelled : text ≡ text_in_version version parts.layout parts.words

-- ---- the image of a text, or the first fault of the text

-- the rest where something holds, else a fault
abbrev pub unless : {A : Type 0} → Bool → ImageRefusal → Result A ImageRefusal
    → Result A ImageRefusal
unless true fault rest = rest
unless false fault rest = Err fault

-- the greatest number that the third word may be
abbrev pub most_units : Version → ℕ
most_units First = MOST_OLD_MAPS
most_units Second = MOST_OLD_MAPS
most_units Third = MOST_UNITS

abbrev pub header_told : Option Version → ℕ → ℕ → ℕ → Result Header ImageRefusal
header_told None units slots clock = Err faults.Version
header_told (Some version) units slots clock =
    unless (is_in_range 1 (most_units version) units && is_in_range LEAST_SLOTS MOST_SLOTS slots)
    faults.Layout
    (unless (is_in_range FIRST_CLOCK LAST clock) faults.Clock
    (Ok (record { version = version; units = units; slots = slots; clock = clock })))

-- what the first five words tell
abbrev pub header_in : List ℕ → Result Header ImageRefusal
header_in (magic ∷ version ∷ units ∷ slots ∷ clock ∷ rest) =
    unless (magic == MAGIC) faults.Magic (header_told (version_of_number version) units slots clock)
header_in few = Err (faults.Short (length few))

-- the kinds of codes, if each is that of one
abbrev pub kinds_of_codes : List ℕ → Option (List UnitKind)
kinds_of_codes [] = Some []
kinds_of_codes (c ∷ cs) = option_map (λ p. p.0 ∷ p.1) (both (kind_of_code c) (kinds_of_codes cs))

abbrev pub layout_of_kinds : Option (List UnitKind) → ℕ → Result Shape ImageRefusal
layout_of_kinds None slots = Err faults.Layout
layout_of_kinds (Some ks) slots = Ok (shape ks slots)

-- the layout that the header and the words after it tell
abbrev pub layout_told : Version → Header → List ℕ → Result Shape ImageRefusal
layout_told First h words = Ok (shape (old_kinds h.units) h.slots)
layout_told Second h words = Ok (shape (old_kinds h.units) h.slots)
layout_told Third h words =
    unless (nat_le (HEADER + h.units) (length words)) (faults.Short (length words))
    (layout_of_kinds (kinds_of_codes (take h.units (drop HEADER words))) h.slots)

abbrev pub layout_in : Header → List ℕ → Result Shape ImageRefusal
layout_in h words = layout_told h.version h words

-- how many codes there are
abbrev pub code_count : Version → ℕ → ℕ
code_count First units = 0
code_count Second units = 0
code_count Third units = units

-- how many words stand before those of the slots
abbrev pub front_count : Header → ℕ
front_count h = HEADER + code_count h.version h.units

-- how many words the text has
abbrev pub word_count : Header → Shape → ℕ
word_count h s = front_count h + slot_words (is_old h.version) s

-- the image of a header, a layout and all whole words, where the text has so many bytes
abbrev pub image_told : Header → Shape → List ℕ → ℕ → Result ImageParts ImageRefusal
image_told h s words size =
    unless (nat_le (word_count h s) (length words)) (faults.Short (length words))
    (unless (nat_le size (WORD * word_count h s)) faults.Long
    (Ok (record {
      layout = s;
      words = h.clock ∷ drop (front_count h) words;
      old = is_old h.version;
    })))

abbrev pub image_of_layout : Header → Result Shape ImageRefusal → List ℕ → ℕ
    → Result ImageParts ImageRefusal
image_of_layout h (Err fault) words size = Err fault
image_of_layout h (Ok s) words size = image_told h s words size

abbrev pub image_of_header : Result Header ImageRefusal → List ℕ → ℕ
    → Result ImageParts ImageRefusal
image_of_header (Err fault) words size = Err fault
image_of_header (Ok h) words size = image_of_layout h (layout_in h words) words size

-- The image that a text is of, or the first of its faults: Short, where not even the header is
-- whole; Magic; Version; Layout; Clock; Short within the codes; Layout for a code; Short or Long
-- for the slots.
unfoldable pub image_in : List ℕ → Result ImageParts ImageRefusal
image_in text = image_of_header (header_in (words_in text)) (words_in text) (length text)

-- ---- how much of a text is read

abbrev pub asked_for_slots : Header → Result Shape ImageRefusal → ℕ
asked_for_slots h (Err fault) = WORD * front_count h
asked_for_slots h (Ok s) = WORD * word_count h s + 1

abbrev pub asked_behind : Result Header ImageRefusal → List ℕ → ℕ
asked_behind (Err fault) words = WORD * HEADER
asked_behind (Ok h) words = asked_for_slots h (layout_in h words)

-- How many bytes a reader asks for: the header; if that has no fault, the codes; if these have
-- none, the slots and one byte more.
unfoldable pub asked_of : List ℕ → ℕ
asked_of text = asked_behind (header_in (words_in text)) (words_in text)
