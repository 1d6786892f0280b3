-- What is read of a text line by line.
use Rattle.std.specs.Prelude.{◌≡◌, ℕ, ◌+◌, ◌-◌, ◌<◌, List, [], ◌∷◌, ◌++◌, length, take, map}
use Rattle.job_text.specs.declared.report_refusal.ReportRefusal.{ReportRefusal}
use Rattle.job_text.specs.declared.report_refusal.ReportRefusal.TheVariants.{Text, Memory}
use Rattle.job_text.specs.declared.split_words.TheConstants.{MOST_WORDS}
use Rattle.job_text.specs.Lines.{parts_of, line_of, text_of}
use Rattle.job_text.specs.LineWords.{words_of}
use Rattle.job_text.specs.TextParts.{Row, LeavesAt}

-- the lines of a text that are ended, each by its words
abbrev pub lines_in : List ℕ → List Row
lines_in text = map words_of (take (length (parts_of text) - 1) (parts_of text))

-- The bytes that are still to be read, after so many lines.
pub record Unread : Type 0 where
  pub bytes : List ℕ
  pub taken : ℕ

-- the lines of a value of a part were read
pub record Reads {X : Type 0} (Is : X → Type 0) (rows : X → List Row) (old new : Unread) (x : X)
    : Type 0 where
  pub is : Is x
  pub bytes : old.bytes ≡ text_of (rows x) ++ new.bytes
  pub lines : lines_in old.bytes ≡ rows x ++ lines_in new.bytes
  pub taken : new.taken ≡ old.taken + length (rows x)

-- the lines leave the part at the line that is refused
abbrev pub Refuses : {X : Type 0} → (X → Type 0) → (X → List Row) → Unread → ReportRefusal → Type 0
Refuses Is rows old (Text line) =
    (place : ℕ) × (line ≡ old.taken + place + 1) × LeavesAt Is rows (lines_in old.bytes) place
Refuses Is rows old Memory = Unit {0}

-- a value was read, and added after others
abbrev pub Adds : {X : Type 0} → (X → Type 0) → (X → List Row) → Unread → Unread → List X → List X
    → Type 0
Adds {X} Is rows old new before after =
    (x : X) × (after ≡ before ++ x ∷ []) × Reads Is rows old new x

-- the bytes begin with this line, and with its line feed
pub record TakesLine (old new : Unread) (line : List ℕ) : Type 0 where
  pub bytes : old.bytes ≡ line ++ 10 ∷ new.bytes
  pub lines : lines_in old.bytes ≡ words_of line ∷ lines_in new.bytes
  pub taken : new.taken ≡ old.taken + 1

-- they have no whole line, and the line that is refused is the next
abbrev pub HasNoLine : Unread → ReportRefusal → Type 0
HasNoLine old refusal = (lines_in old.bytes ≡ []) × (refusal ≡ Text (old.taken + 1))

-- the bytes begin with the line of these words
pub record TakesRow (old new : Unread) (row : Row) : Type 0 where
  pub bytes : old.bytes ≡ line_of row ++ new.bytes
  pub lines : lines_in old.bytes ≡ row ∷ lines_in new.bytes
  pub taken : new.taken ≡ old.taken + 1

-- they have no whole line, or one of more words than any line has, and the next line is refused
pub record HasNoRow (old : Unread) (refusal : ReportRefusal) : Type 0 where
  pub refused : refusal ≡ Text (old.taken + 1)
  pub long : (row : Row) (rest : List Row) → lines_in old.bytes ≡ row ∷ rest
      → MOST_WORDS < length row
