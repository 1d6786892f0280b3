-- What reading an image answers, and what was taken of the source then.
use Rattle.std.specs.Prelude.{◌≡◌, ℕ, ◌+◌, ◌/◌, ◌<◌, ◌≤◌, ◌^◌, List, length, All, Option, Some, Result, Ok, Err}
use Rattle.std.specs.Io.KnownBytes.{Consumes, IsAtEnd}
use Rattle.mont_base.specs.Image.{clock_of}
use Rattle.mont_base.specs.Layout.{Shape}
use Rattle.mont_image.specs.declared.image_refusal.ImageRefusal.{ImageRefusal}
use Rattle.mont_image.specs.declared.image_refusal.ImageRefusal.TheVariants.{Magic, Version, Layout, Clock, Short, Long, Read, Memory}
use Rattle.mont_image.specs.declared.image_text.TheConstants.{WORD}
use Rattle.mont_image.specs.declared.image_text.Header.{Header}
use Rattle.mont_image.specs.declared.stored_image.Image.{Image}
use Rattle.mont_base.specs.Losses.{LosesAtMost, LosesFirst}
use Rattle.mont_image.specs.ImageRefusal.{OnBytes}
use Rattle.mont_image.specs.ImageText.{ImageParts, IsTextOf, image_in, asked_of, front_count, is_old}
use Rattle.mont_image.specs.StoredImage.{slot_words}

abbrev pub parts_of : Image → ImageParts
parts_of image = record { layout = image.layout; words = image.words; old = image.old }

-- the answer is the text's image or its first fault, unless the source failed or memory ran out
abbrev pub IsAnswerTo : Result Image ImageRefusal → List ℕ → Type 0
IsAnswerTo (Ok image) text = image_in text ≡ Ok (parts_of image)
IsAnswerTo (Err refusal) text = OnBytes refusal (image_in text ≡ Err refusal)

-- this image, unless the source failed or memory ran out
abbrev pub Gives : ImageParts → Result Image ImageRefusal → Type 0
Gives parts (Ok image) = parts_of image ≡ parts
Gives parts (Err refusal) = OnBytes refusal ⊥

-- Of the text just the bytes were taken that are asked for, or all where there are fewer. Where
-- the source failed or memory ran out it may be fewer.
abbrev pub IsTaken : {A : Type 0} → List ℕ → Option (List ℕ) → Result A ImageRefusal → Type 0
IsTaken text new (Ok image) = LosesFirst (asked_of text) (Some text) new
IsTaken text new (Err Magic) = LosesFirst (asked_of text) (Some text) new
IsTaken text new (Err Version) = LosesFirst (asked_of text) (Some text) new
IsTaken text new (Err Layout) = LosesFirst (asked_of text) (Some text) new
IsTaken text new (Err Clock) = LosesFirst (asked_of text) (Some text) new
IsTaken text new (Err (Short words)) = LosesFirst (asked_of text) (Some text) new
IsTaken text new (Err Long) = LosesFirst (asked_of text) (Some text) new
IsTaken text new (Err Read) = LosesAtMost (asked_of text) (Some text) new
IsTaken text new (Err Memory) = LosesAtMost (asked_of text) (Some text) new

-- a text of the image was read to its end
pub record Reads (old new : Option (List ℕ)) (parts : ImageParts) : Type 0 where
  pub text : List ℕ
  pub spelled : IsTextOf text parts
  pub taken : Consumes old new text
  pub ended : IsAtEnd new

-- the text is refused, and so much of it was taken
abbrev pub RefusesText : List ℕ → Option (List ℕ) → ImageRefusal → Type 0
RefusesText text new refusal =
    OnBytes refusal (image_in text ≡ Err refusal) × IsTaken {A = Image} text new (Err refusal)

-- the clock and the words of all slots
pub record HasSlots (h : Header) (s : Shape) (words : List ℕ) : Type 0 where
  pub size : length words ≡ 1 + slot_words (is_old h.version) s
  pub clock : clock_of words ≡ h.clock
  pub in_range : All (λ w. w < 2 ^ 64) words

-- the words of the slots aren't all there, and so many words are whole
pub record EndsEarly (h : Header) (s : Shape) (whole : ℕ) (rest : List ℕ) : Type 0 where
  pub words : whole ≡ front_count h + length rest / WORD
  pub few : length rest / WORD < slot_words (is_old h.version) s

abbrev pub RefusesSlots : Header → Shape → ImageRefusal → List ℕ → Type 0
RefusesSlots h s (Short words) rest = EndsEarly h s words rest
RefusesSlots h s _ rest = ⊥

-- there is a byte more
abbrev pub RefusesMore : ImageRefusal → List ℕ → Type 0
RefusesMore Long rest = 1 ≤ length rest
RefusesMore _ rest = ⊥
