-- The words of a line, and the first thing that is wrong with them.
use Rattle.std.specs.Prelude.{◌≡◌, ℕ, ◌<◌, ◌==◌, List, length, slice_get, Some}
use Rattle.std.specs.List.{slice_split}
use Rattle.refusal_help.specs.declared.cause.Cause.{Cause}
use Rattle.refusal_help.specs.declared.cause.Cause.TheVariants as causes
use Rattle.refusal_help.specs.declared.cause.WordFault.{WordFault}
use Rattle.refusal_help.specs.declared.given.Given.{Given}
use Rattle.refusal_help.specs.declared.wanted.Wanted.{Wanted}
use Rattle.refusal_help.specs.Words.{IsWord, IsFault}

-- what stands between the spaces of a line
abbrev pub words_of : List ℕ → List (List ℕ)
words_of line = slice_split (λ b. b == 32) line

-- the words before a place are what is wanted there
abbrev pub AreWordsTo : Given → List Wanted → List (List ℕ) → ℕ → Type 0
AreWordsTo g wants words at =
    (k : ℕ) (wanted : Wanted) (word : List ℕ) → k < at → slice_get wants k ≡ Some wanted
    → slice_get words k ≡ Some word → IsWord g wanted word

-- Each word is what its place wants, and there is one for each place.
pub record AreWords (g : Given) (wants : List Wanted) (words : List (List ℕ)) : Type 0 where
  pub counted : length words ≡ length wants
  pub each : AreWordsTo g wants words (length wants)

-- The word at a place is the first that isn't what is wanted.
pub record IsFirstWrong (g : Given) (wants : List Wanted) (words : List (List ℕ)) (at : ℕ)
    (wanted : Wanted) (fault : WordFault) : Type 0 where
  pub word : List ℕ
  pub there : slice_get words at ≡ Some word
  pub place : slice_get wants at ≡ Some wanted
  pub wrong : IsFault g wanted word fault
  pub before : AreWordsTo g wants words at

-- The words end before a place, and all of them are what is wanted.
pub record IsMissing (g : Given) (wants : List Wanted) (words : List (List ℕ)) (at : ℕ)
    (wanted : Wanted) : Type 0 where
  pub ended : length words ≡ at
  pub place : slice_get wants at ≡ Some wanted
  pub before : AreWordsTo g wants words at

-- There is a word after the last place, and those at the places are what is wanted.
pub record IsExtra (g : Given) (wants : List Wanted) (words : List (List ℕ)) (most : ℕ)
    : Type 0 where
  pub counted : length wants ≡ most
  pub more : most < length words
  pub before : AreWordsTo g wants words most

abbrev pub IsWordCause : Given → List Wanted → List (List ℕ) → Cause → Type 0
IsWordCause g wants words (causes.Word at wanted fault) = IsFirstWrong g wants words at wanted fault
IsWordCause g wants words (causes.Missing at wanted) = IsMissing g wants words at wanted
IsWordCause g wants words (causes.Extra most) = IsExtra g wants words most
IsWordCause g wants words _ = ⊥
