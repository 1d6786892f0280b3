-- Numbers and bytes after them, written one in front of the other.
use Rattle.std.proofs.Common.{◌≡◌, ℕ, suc, zero, ◌+◌, ◌-◌, ◌<◌, ◌≤◌, ◌^◌, List, [], ◌∷◌, ◌++◌, length, drop, slice_set, decimal, sym, ap, ◌∙◌, arith}
use Rattle.std.specs.Prelude.{IsAscii}
use Rattle.std.proofs.lemmas.List.{append_assoc, append-nil, drop-set, drop_all}
use Rattle.std.proofs.lemmas.Str.{IsAscii-append}
use Rattle.std.proofs.lemmas.Fmt.{IsAscii-decimal}
use Rattle.job_text.specs.Lines.{spaced, line_of}

-- ---- bytes below 128
ascii_none : IsAscii []
ascii_none i = omega arith

pub ascii_more : (b : ℕ) (bs : List ℕ) → b < 128 → IsAscii bs → IsAscii (b ∷ bs)
ascii_more b bs low rest zero = low
ascii_more b bs low rest (suc i) = rest i

-- nothing stands after the end
pub ascii_end : (bs : List ℕ) (end : ℕ) → length bs ≤ end → IsAscii (drop end bs)
ascii_end bs end past = rw (drop_all end bs past) ascii_none

pub ascii_before : (n b : ℕ) (bs text : List ℕ) → n < 2 ^ 64 → b < 128 → IsAscii bs → text ≡ decimal n ++ b ∷ bs → IsAscii text
ascii_before n b bs text small low rest is =
    rw is (IsAscii-append (decimal n) (b ∷ bs) (IsAscii-decimal n small) (ascii_more b bs low rest))

-- ---- what was written
-- a byte in front of a place
pub byte_written : (bs : List ℕ) (end b : ℕ) → 1 ≤ end → end ≤ length bs → drop (end - 1) (slice_set bs (end - 1) b) ≡ b ∷ drop end bs
byte_written bs end b some within =
    let last : end - 1 + 1 ≡ end = omega arith in
    drop-set bs (end - 1) b (omega arith) ∙ ap (λ (k : ℕ). b ∷ drop k bs) last

-- four words with a space after each, and what follows them
pub words_joined : (a b d e rest : List ℕ) → (spaced (a ∷ b ∷ d ∷ e ∷ []) ++ 32 ∷ []) ++ rest
    ≡ a ++ 32 ∷ (b ++ 32 ∷ (d ++ 32 ∷ (e ++ 32 ∷ rest)))
words_joined a b d e rest =
    append_assoc (spaced (a ∷ b ∷ d ∷ e ∷ [])) (32 ∷ []) rest ∙ append_assoc a (32 ∷ (b ++ 32 ∷ (d ++ 32 ∷ e))) (32 ∷ rest)
    ∙ ap (λ (t : List ℕ). a ++ 32 ∷ t)
    (append_assoc b (32 ∷ (d ++ 32 ∷ e)) (32 ∷ rest) ∙ ap (λ (t : List ℕ). b ++ 32 ∷ t) (append_assoc d (32 ∷ e) (32 ∷ rest)))

pub head_written : (a b d e end one two three whole : List ℕ) → end ≡ [] → one ≡ e ++ 32 ∷ end → two ≡ d ++ 32 ∷ one
    → three ≡ b ++ 32 ∷ two → whole ≡ a ++ 32 ∷ three → whole ≡ spaced (a ∷ b ∷ d ∷ e ∷ []) ++ 32 ∷ []
head_written a b d e end one two three whole none first second third fourth =
    let last : one ≡ e ++ 32 ∷ [] = first ∙ ap (λ (t : List ℕ). e ++ 32 ∷ t) none in
    fourth
    ∙ ap (λ (t : List ℕ). a ++ 32 ∷ t)
    (third ∙ ap (λ (t : List ℕ). b ++ 32 ∷ t) (second ∙ ap (λ (t : List ℕ). d ++ 32 ∷ t) last))
    ∙ sym (words_joined a b d e []) ∙ append-nil (spaced (a ∷ b ∷ d ∷ e ∷ []) ++ 32 ∷ [])

-- a word with a space after it, and one with a line feed
pub pair_written : (a b end one two : List ℕ) → end ≡ [] → one ≡ b ++ 10 ∷ end → two ≡ a ++ 32 ∷ one
    → two ≡ line_of (a ∷ b ∷ [])
pair_written a b end one two none first second =
    let last : one ≡ b ++ 10 ∷ [] = first ∙ ap (λ (t : List ℕ). b ++ 10 ∷ t) none in
    second ∙ ap (λ (t : List ℕ). a ++ 32 ∷ t) last ∙ sym (append_assoc a (32 ∷ b) (10 ∷ []))
