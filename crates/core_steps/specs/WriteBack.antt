-- How far the advancer is with the slots that it writes back.
use Rattle.std.specs.Prelude.{◌≡◌, ℕ, ◌<◌, ◌≤◌, List, length, slice_get, slice_index, Some}
use Rattle.mont_base.specs.declared.constants.TheConstants.{FIELDS}
use Rattle.mont_base.specs.Layout.{word_of}
use Rattle.mont_base.specs.Image.{words_at}
use Rattle.core_steps.specs.declared.parts.AdvPart.{AdvPart}
use Rattle.core_steps.specs.declared.parts.AdvPart.TheVariants.{Flushing, Holding}

-- the first of these slots are durable word for word, and so are the first fields of the next one
pub record AreWrittenBack (cur dur : List ℕ) (slots : List ℕ) (done field : ℕ) : Type 0 where
  pub whole : (i slot : ℕ) → i < done → slice_get slots i ≡ Some slot
      → words_at dur slot ≡ words_at cur slot
  pub fields : (slot f : ℕ) → slice_get slots done ≡ Some slot → f < field
      → slice_index (words_at dur slot) f ≡ slice_index (words_at cur slot) f

pub record IsFlushing (cur dur : List ℕ) (slots : List ℕ) (done field : ℕ) : Type 0 where
  pub inside : done ≤ length slots
  pub low : field < FIELDS
  pub last : done ≡ length slots → field ≡ 0
  pub written_back : AreWrittenBack cur dur slots done field

-- the loaded value is the current word
pub record IsHolding (cur dur : List ℕ) (slots : List ℕ) (done field value : ℕ) : Type 0 where
  pub inside : done < length slots
  pub low : field < FIELDS
  pub held : (slot : ℕ) → slice_get slots done ≡ Some slot
      → value ≡ slice_index cur (word_of slot field)
  pub written_back : AreWrittenBack cur dur slots done field

abbrev pub FlushFits : List ℕ → List ℕ → List ℕ → AdvPart → Type 0
FlushFits cur dur slots (Flushing done field) = IsFlushing cur dur slots done field
FlushFits cur dur slots (Holding done field value) = IsHolding cur dur slots done field value
FlushFits cur dur slots _ = Unit {0}
