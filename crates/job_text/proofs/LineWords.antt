-- Lines and their words.
use Rattle.std.proofs.Common.{◌≡◌, ℕ, ◌<◌, ◌≤◌, ◌==◌, ◌↔◌, Option, Some, None, Result, Ok, Err, inl, inr, List, [], ◌∷◌, ◌++◌, length, All, sym, ap, ◌∙◌, refl, arith}
use Rattle.std.specs.Prelude.{IsOk}
use Rattle.std.specs.Result.{result_ok, OnOk}
use Rattle.std.proofs.lemmas.Bool.{cases_lt}
use Rattle.std.proofs.lemmas.List.{append_assoc}
use Rattle.std.proofs.lemmas.List.Splits.{slice_split_at, slice_split_none, length-slice_split, join_with_byte-slice_split}
use Rattle.std.proofs.lemmas.List.Elements.{All-head, All-tail}
use Rattle.job_text.specs.Lines.{spaced}
use Rattle.job_text.specs.LineWords.{words_of}
use Rattle.job_text.specs.Parts.{Lacks, IsSplit}

pub words_split : (rest word after : List ℕ) → IsSplit 32 rest word after → words_of rest ≡ word ∷ words_of after
words_split rest word after split = ap words_of split.joined ∙ slice_split_at (λ b. b == 32) word 32 after split.first refl

pub words_lacking : (rest : List ℕ) → Lacks 32 rest → words_of rest ≡ rest ∷ []
words_lacking rest lacks = slice_split_none (λ b. b == 32) rest lacks

-- words without spaces are those of the line that they make
pub words_spaced : (w : List ℕ) (ws : List (List ℕ)) → All (Lacks 32) (w ∷ ws) → words_of (spaced (w ∷ ws)) ≡ w ∷ ws
words_spaced w [] lack = words_lacking w (All-head (Lacks 32) w [] lack)
words_spaced w (v ∷ vs) lack =
    slice_split_at (λ b. b == 32) w 32 (spaced (v ∷ vs)) (All-head (Lacks 32) w (v ∷ vs) lack) refl
    ∙ ap (λ (us : List (List ℕ)). w ∷ us) (words_spaced v vs (All-tail (Lacks 32) w (v ∷ vs) lack))

pub line_from_words : (line : List ℕ) (ws : List (List ℕ)) → words_of line ≡ ws → line ≡ spaced ws
line_from_words line ws e = sym (join_with_byte-slice_split 32 line) ∙ ap spaced e

pub words_from_line : (line w : List ℕ) (ws : List (List ℕ)) → All (Lacks 32) (w ∷ ws) → line ≡ spaced (w ∷ ws) → words_of line ≡ w ∷ ws
words_from_line line w ws lack e = ap words_of e ∙ words_spaced w ws lack

-- one word more was taken off a line
pub one_word_more : (line rest word after : List ℕ) (front : List (List ℕ)) → words_of line ≡ front ++ words_of rest
    → IsSplit 32 rest word after → words_of line ≡ (front ++ word ∷ []) ++ words_of after
one_word_more line rest word after front so_far split =
    so_far ∙ ap (λ (ws : List (List ℕ)). front ++ ws) (words_split rest word after split)
    ∙ sym (append_assoc front (word ∷ []) (words_of after))

-- what is said of a success, of one that was told as an option
pub when_ok : {T E P : Type 0} (r : Result T E) (o : Option T) (x : T) → OnOk r P → o ≡ result_ok r → o ≡ Some x → P
when_ok (Ok y) o x h is some = h
when_ok (Err e) o x h is some = absurd (cc)

none_ok : {T E : Type 0} (r : Result T E) (o : Option T) → IsOk r → o ≡ result_ok r → o ≡ None → ⊥
none_ok (Ok x) o good is none = cc
none_ok (Err e) o good is none = cc

-- what can't take one more is full
pub when_full : {T E : Type 0} (r : Result T E) (o : Option T) (long most : ℕ) → IsOk r ↔ (long < most) → o ≡ result_ok r → o ≡ None
    → most ≤ long
when_full r o long most tells is none = elim (cases_lt long most) [
  | inl low ↦ absurd (none_ok r o (tells.1 low) is none)
  | inr high ↦ high
]

pub some_word : (rest : List ℕ) → 0 < length (words_of rest)
some_word rest = omega (arith, length-slice_split (λ b. b == 32) rest)
