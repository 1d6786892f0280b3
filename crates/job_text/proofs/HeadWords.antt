-- The words of a header.
use Rattle.std.proofs.Common.{◌≡◌, ◌≢◌, ℕ, ◌<◌, ◌≤◌, ◌∷◌, [], ◌++◌, List, length, map, get_or, Bor, Option, Some, None, MatchOption, codes, decimal, sym, ap, ◌∙◌, refl, arith}
use Rattle.std.proofs.lemmas.List.{append_cancel_left}
use Rattle.mont_base.specs.Layout.{letters_of}
use Rattle.job_text.specs.declared.header.Head.{Head}
use Rattle.job_text.specs.Lines.{spaced}
use Rattle.job_text.specs.LineWords.{words_of}
use Rattle.job_text.specs.Spelling.{hex_digits}
use Rattle.job_text.specs.Grammar.{IsHead}
use Rattle.job_text.specs.JobText.{head_words, head_tail}
use Rattle.job_text.proofs.LineWords.{words_from_line, line_from_words}
use Rattle.job_text.proofs.SeenWords.{words_lack, head_tail_seen}

abbrev pub all : List (Bor (List ℕ)) → List (List ℕ)
all words = map (λ word. word.now) words

-- a header's words after the first two
pub head_tail_words : (line rest : List ℕ) (h : Head) → line ≡ codes "montage-job 3 " ++ rest → IsHead h → line ≡ spaced (head_words h)
    → words_of rest ≡ head_tail h
head_tail_words line rest h front is same =
    words_from_line rest (letters_of h.layout.kinds)
    (decimal h.layout.slots ∷ decimal h.callers ∷ decimal h.attempts ∷ hex_digits 16 h.mask ∷ [])
    (words_lack 32 (omega arith) (head_tail h) (head_tail_seen h is))
    (append_cancel_left (codes "montage-job 3 ") rest (spaced (head_tail h)) (sym front ∙ same))

-- five words, each by itself
pub five_words : (ws : List (Bor (List ℕ))) (d : Bor (List ℕ)) → 5 ≤ length ws → length ws < 6 → all ws
    ≡ (get_or ws 0 d).now ∷ (get_or ws 1 d).now ∷ (get_or ws 2 d).now ∷ (get_or ws 3 d).now ∷ (get_or ws 4 d).now ∷ []
five_words [] d some few = absurd (omega arith)
five_words (a ∷ []) d some few = absurd (omega arith)
five_words (a ∷ b ∷ []) d some few = absurd (omega arith)
five_words (a ∷ b ∷ e ∷ []) d some few = absurd (omega arith)
five_words (a ∷ b ∷ e ∷ f ∷ []) d some few = absurd (omega arith)
five_words (a ∷ b ∷ e ∷ f ∷ g ∷ []) d some few = refl
five_words (a ∷ b ∷ e ∷ f ∷ g ∷ h ∷ hs) d some few = absurd (omega arith)

-- what each word of a header spells
pub record HasParts (ws : List (Bor (List ℕ))) (d : Bor (List ℕ)) (h : Head) : Type 0 where
  pub kinds : (get_or ws 0 d).now ≡ letters_of h.layout.kinds
  pub slots : (get_or ws 1 d).now ≡ decimal h.layout.slots
  pub callers : (get_or ws 2 d).now ≡ decimal h.callers
  pub attempts : (get_or ws 3 d).now ≡ decimal h.attempts
  pub mask : (get_or ws 4 d).now ≡ hex_digits 16 h.mask

same_words : (a b c d e f g h i j : List ℕ) → a ∷ b ∷ c ∷ d ∷ e ∷ [] ≡ f ∷ g ∷ h ∷ i ∷ j ∷ []
    → (a ≡ f) × (b ≡ g) × (c ≡ h) × (d ≡ i) × (e ≡ j)
same_words a b c d e f g h i j same = (cc, cc, cc, cc, cc)

pub head_parts : (ws : List (Bor (List ℕ))) (d : Bor (List ℕ)) (h : Head) → 5 ≤ length ws → length ws < 6 → all ws ≡ head_tail h
    → HasParts ws d h
head_parts ws d h some few same =
    let parts = same_words (get_or ws 0 d).now (get_or ws 1 d).now (get_or ws 2 d).now (get_or ws 3 d).now (get_or ws 4 d).now
    (letters_of h.layout.kinds) (decimal h.layout.slots) (decimal h.callers) (decimal h.attempts) (hex_digits 16 h.mask)
    (sym (five_words ws d some few) ∙ same) in
    record { kinds = parts.0; slots = parts.1; callers = parts.2; attempts = parts.3; mask = parts.4 }

pub tail_from_parts : (ws : List (Bor (List ℕ))) (d : Bor (List ℕ)) (h : Head) → 5 ≤ length ws → length ws < 6 → HasParts ws d h
    → all ws ≡ head_tail h
tail_from_parts ws d h some few parts =
    five_words ws d some few ∙ (λ i. parts.kinds i ∷ parts.slots i ∷ parts.callers i ∷ parts.attempts i ∷ parts.mask i ∷ [])

pub head_from_tail : (line rest : List ℕ) (h : Head) → line ≡ codes "montage-job 3 " ++ rest → words_of rest ≡ head_tail h
    → line ≡ spaced (head_words h)
head_from_tail line rest h front words =
    front ∙ ap (λ (bs : List ℕ). codes "montage-job 3 " ++ bs) (line_from_words rest (head_tail h) words)

-- what is told of the words is told of the line
pub head_told : (line rest : List ℕ) (ws : List (Bor (List ℕ))) (o : Option Head) → line ≡ codes "montage-job 3 " ++ rest
    → all ws ≡ words_of rest → MatchOption o ((h : Head) → IsHead h → all ws ≢ head_tail h) (λ h. IsHead h × (all ws ≡ head_tail h))
    → MatchOption o ((h : Head) → IsHead h → line ≢ spaced (head_words h)) (λ h. IsHead h × (line ≡ spaced (head_words h)))
head_told line rest ws None front own none = λ h is same. none h is (own ∙ head_tail_words line rest h front is same)
head_told line rest ws (Some h) front own some = (some.0, head_from_tail line rest h front (sym own ∙ some.1))
