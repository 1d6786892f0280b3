-- The words of a schedule's first line.
use Rattle.std.proofs.Common.{◌≡◌, ◌≢◌, ℕ, ◌<◌, ◌≤◌, ◌∷◌, [], ◌++◌, List, length, map, get_or, All, Bor, Option, Some, None, MatchOption, codes, decimal, sym, ap, ◌∙◌, refl, arith}
use Rattle.std.proofs.lemmas.List.{append_cancel_left}
use Rattle.std.proofs.lemmas.List.Elements.{All-cons, All-nil}
use Rattle.std.proofs.lemmas.Fmt.{decimal_injective}
use Rattle.mont_base.specs.declared.kinds.UnitKind.{UnitKind}
use Rattle.mont_base.specs.declared.kinds.UnitKind.TheVariants as kinds
use Rattle.mont_base.specs.Layout.{Shape, shape, letters_of}
use Rattle.job_text.specs.Lines.{spaced}
use Rattle.job_text.specs.LineWords.{words_of}
use Rattle.job_text.proofs.TextWords.{IsSeen}
use Rattle.job_text.proofs.LineWords.{words_from_line, line_from_words}
use Rattle.job_text.proofs.SeenWords.{IsWord, words_lack, decimal_seen, seen_tested}
use Rattle.job_text.proofs.Once.{words_once, letters_once}
use Rattle.replay.specs.Schedules.{title_words, title_tail, IsTitle}

abbrev pub all : List (Bor (List ℕ)) → List (List ℕ)
all words = map (λ word. word.now) words

letters_seen : (ks : List UnitKind) → IsWord (letters_of ks)
letters_seen [] = All-nil IsSeen
letters_seen (kinds.Map ∷ ks) = All-cons IsSeen _ _ (omega arith, omega arith) (letters_seen ks)
letters_seen (kinds.Queue ∷ ks) = All-cons IsSeen _ _ (omega arith, omega arith) (letters_seen ks)
letters_seen (kinds.Graph ∷ ks) = All-cons IsSeen _ _ (omega arith, omega arith) (letters_seen ks)
letters_seen (kinds.Ordered ∷ ks) = All-cons IsSeen _ _ (omega arith, omega arith) (letters_seen ks)

pub tail_seen : (s : Shape) (n : ℕ) → IsTitle s n → All IsWord (title_tail s n)
tail_seen s n is =
    All-cons IsWord (letters_of s.kinds) (decimal s.slots ∷ decimal n ∷ []) (letters_seen s.kinds)
    (All-cons IsWord (decimal s.slots) (decimal n ∷ []) (decimal_seen s.slots (let few = is.0.few_slots in omega arith))
    (All-cons IsWord (decimal n) [] (decimal_seen n (let few = is.2 in omega arith)) (All-nil IsWord)))

pub title_seen : (s : Shape) (n : ℕ) → IsTitle s n → All IsWord (title_words s n)
title_seen s n is =
    All-cons IsWord (codes "montage-schedule") (codes "1" ∷ title_tail s n) (seen_tested (codes "montage-schedule") refl)
    (All-cons IsWord (codes "1") (title_tail s n) (seen_tested (codes "1") refl) (tail_seen s n is))

-- the words after the first two
pub title_tail_words : (line rest : List ℕ) (s : Shape) (n : ℕ) → line ≡ codes "montage-schedule 1 " ++ rest → IsTitle s n
    → line ≡ spaced (title_words s n) → words_of rest ≡ title_tail s n
title_tail_words line rest s n front is same =
    words_from_line rest (letters_of s.kinds) (decimal s.slots ∷ decimal n ∷ [])
    (words_lack 32 (omega arith) (title_tail s n) (tail_seen s n is))
    (append_cancel_left (codes "montage-schedule 1 ") rest (spaced (title_tail s n)) (sym front ∙ same))

-- three words, each by itself
three_words : (ws : List (Bor (List ℕ))) (d : Bor (List ℕ)) → 3 ≤ length ws → length ws < 4 → all ws
    ≡ (get_or ws 0 d).now ∷ (get_or ws 1 d).now ∷ (get_or ws 2 d).now ∷ []
three_words [] d some few = absurd (omega arith)
three_words (a ∷ []) d some few = absurd (omega arith)
three_words (a ∷ b ∷ []) d some few = absurd (omega arith)
three_words (a ∷ b ∷ e ∷ []) d some few = refl
three_words (a ∷ b ∷ e ∷ f ∷ fs) d some few = absurd (omega arith)

-- what each of them spells
pub record HasParts (ws : List (Bor (List ℕ))) (d : Bor (List ℕ)) (s : Shape) (n : ℕ) : Type 0 where
  pub kinds : (get_or ws 0 d).now ≡ letters_of s.kinds
  pub slots : (get_or ws 1 d).now ≡ decimal s.slots
  pub callers : (get_or ws 2 d).now ≡ decimal n

same_words : (a b c f g h : List ℕ) → a ∷ b ∷ c ∷ [] ≡ f ∷ g ∷ h ∷ [] → (a ≡ f) × (b ≡ g) × (c ≡ h)
same_words a b c f g h same = (cc, cc, cc)

pub title_parts : (ws : List (Bor (List ℕ))) (d : Bor (List ℕ)) (s : Shape) (n : ℕ) → 3 ≤ length ws → length ws < 4
    → all ws ≡ title_tail s n → HasParts ws d s n
title_parts ws d s n some few same =
    let parts = same_words (get_or ws 0 d).now (get_or ws 1 d).now (get_or ws 2 d).now (letters_of s.kinds) (decimal s.slots) (decimal n)
    (sym (three_words ws d some few) ∙ same) in
    record { kinds = parts.0; slots = parts.1; callers = parts.2 }

pub tail_from_parts : (ws : List (Bor (List ℕ))) (d : Bor (List ℕ)) (s : Shape) (n : ℕ) → 3 ≤ length ws → length ws < 4
    → HasParts ws d s n → all ws ≡ title_tail s n
tail_from_parts ws d s n some few parts = three_words ws d some few ∙ (λ i. parts.kinds i ∷ parts.slots i ∷ parts.callers i ∷ [])

title_from_tail : (line rest : List ℕ) (s : Shape) (n : ℕ) → line ≡ codes "montage-schedule 1 " ++ rest → words_of rest ≡ title_tail s n
    → line ≡ spaced (title_words s n)
title_from_tail line rest s n front words =
    front ∙ ap (λ (bs : List ℕ). codes "montage-schedule 1 " ++ bs) (line_from_words rest (title_tail s n) words)

-- what is told of the words is told of the line
pub title_told : (line rest : List ℕ) (ws : List (Bor (List ℕ))) (o : Option (Shape × ℕ)) → line ≡ codes "montage-schedule 1 " ++ rest
    → all ws ≡ words_of rest
    → MatchOption o ((s : Shape) (n : ℕ) → IsTitle s n → all ws ≢ title_tail s n) (λ p. IsTitle p.0 p.1 × (all ws ≡ title_tail p.0 p.1))
    → MatchOption o ((s : Shape) (n : ℕ) → IsTitle s n → line ≢ spaced (title_words s n))
    (λ p. IsTitle p.0 p.1 × (line ≡ spaced (title_words p.0 p.1)))
title_told line rest ws None front own h = λ s n is same. h s n is (own ∙ title_tail_words line rest s n front is same)
title_told line rest ws (Some p) front own h = (h.0, title_from_tail line rest p.0 p.1 front (sym own ∙ h.1))

-- a line is the first of one layout and one number of callers
pub title_once : (s t : Shape) (m n : ℕ) → IsTitle s m → IsTitle t n → spaced (title_words s m) ≡ spaced (title_words t n)
    → (s ≡ t) × (m ≡ n)
title_once s t m n is are same =
    let words : title_words s m ≡ title_words t n =
    words_once (codes "montage-schedule") (codes "montage-schedule") (codes "1" ∷ title_tail s m) (codes "1" ∷ title_tail t n)
    (title_seen s m is) (title_seen t n are) same in
    let kinds : s.kinds ≡ t.kinds = letters_once s.kinds t.kinds (cc) in
    let slots : s.slots ≡ t.slots =
    decimal_injective s.slots t.slots (let few = is.0.few_slots in omega arith) (let few = are.0.few_slots in omega arith) (cc) in
    let callers : m ≡ n = decimal_injective m n (let few = is.2 in omega arith) (let few = are.2 in omega arith) (cc) in
    ((λ k. shape (kinds k) (slots k)), callers)
