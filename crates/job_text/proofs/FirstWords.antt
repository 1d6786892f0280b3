-- The first word of a line ends at its first space.
use Rattle.std.proofs.Common.{◌≡◌, ℕ, Bool, ◌==◌, List, ◌∷◌, ◌++◌, length, take, sym, ap, ◌∙◌, refl, subst, arith}
use Rattle.std.proofs.lemmas.List.{take_at, take_all, length-append, get_or_append_left, get_or_at}
use Rattle.std.proofs.lemmas.List.Sums.{position_or_len_is}
use Rattle.job_text.specs.JobText.{first_word}
use Rattle.job_text.specs.Parts.{Lacks, IsSplit}

pub first_word_split : (line before after : List ℕ) → IsSplit 32 line before after → first_word line ≡ before
first_word_split line before after split =
    let p : ℕ → Bool = λ b. b == 32 in
    let at = position_or_len_is p (before ++ 32 ∷ after) (length before) 0
    (simp length-append (omega arith))
    (λ k below. rw get_or_append_left (split.first k 0 below))
    (λ within. rw (get_or_at before 32 after 0 (length before) refl) refl) in
    subst (λ (xs : List ℕ). first_word xs ≡ before) (sym split.joined)
    (ap (λ (n : ℕ). take n (before ++ 32 ∷ after)) at ∙ take_at before (32 ∷ after) (length before) refl)

pub first_word_whole : (line : List ℕ) → Lacks 32 line → first_word line ≡ line
first_word_whole line lacks =
    let p : ℕ → Bool = λ b. b == 32 in
    let at = position_or_len_is p line (length line) 0 (omega arith) (λ k below. lacks k 0 below) (λ within. absurd (omega arith)) in
    ap (λ (n : ℕ). take n line) at ∙ take_all (length line) line (omega arith)
