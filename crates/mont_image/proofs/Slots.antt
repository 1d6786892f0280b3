-- The words of slots, read piece by piece.
use Rattle.std.proofs.Common.{◌≡◌, ℕ, zero, suc, ◌+◌, ◌-◌, ◌*◌, ◌/◌, ◌<◌, ◌≤◌, ◌^◌, List, [], ◌∷◌, ◌++◌, Option, length, take, drop, sym, ap, ◌∙◌, subst, arith, min, length-append, length-drop}
use Rattle.std.proofs.lemmas.List.{length-take-le, take-append-le, drop-append-le, get_or_append_left}
use Rattle.std.proofs.KnownBytes.{Consumes-nil, Consumes-trans}
use Rattle.std.specs.Io.KnownBytes.{Consumes, IsAtEnd}
use Rattle.mont_base.specs.Image.{clock_of}
use Rattle.mont_base.specs.Layout.{Shape}
use Rattle.mont_image.specs.declared.image_refusal.ImageRefusal.TheVariants as faults
use Rattle.mont_image.specs.declared.image_text.TheConstants.{WORD}
use Rattle.mont_image.specs.declared.image_text.Header.{Header}
use Rattle.mont_image.specs.ImageRefusal.{Refuses}
use Rattle.mont_image.specs.ImageReader.{RefusesSlots}
use Rattle.mont_image.specs.ImageText.{bytes_of, words_in, front_count, is_old}
use Rattle.mont_image.specs.StoredImage.{slot_words}
use Rattle.mont_image.proofs.WordBytes.{AreWords, bytes_of-append, length-bytes_of, length-words_in}
use Rattle.mont_image.proofs.Filling.{refuses_whole}
use Rattle.mont_image.proofs.Spelled.{bytes_of_none}

-- the words of a piece, which stands in the front of a buffer
pub piece_words : (items grown buf tail : List ℕ) (given : ℕ) → given ≤ length buf → grown ≡ items ++ words_in (take given (buf ++ tail))
    → grown ≡ items ++ words_in (take given buf)
piece_words items grown buf tail given few is =
    is ∙ ap (λ (bs : List ℕ). items ++ words_in bs) (take-append-le given buf tail few)

-- whole words of a piece have just its bytes
pub piece_spelled : (buf tail : List ℕ) (given k : ℕ) → given ≤ length buf → given ≡ WORD * k
    → ((n : ℕ) → length (take given (buf ++ tail)) ≡ WORD * n
    → bytes_of (words_in (take given (buf ++ tail))) ≡ take given (buf ++ tail))
    → bytes_of (words_in (take given buf)) ≡ take given buf
piece_spelled buf tail given k few whole spelled =
    let same = take-append-le given buf tail few in
    subst (λ (bs : List ℕ). bytes_of (words_in bs) ≡ bs) same
    (spelled k (ap length same ∙ length-take-le given buf few ∙ whole))

-- how many words there are then
pub length-grown : (items grown bytes : List ℕ) → grown ≡ items ++ words_in bytes → length grown ≡ length items + length bytes / WORD
length-grown items grown bytes is = omega (arith, ap length is, length-append items (words_in bytes), length-words_in bytes)

-- one piece more of whole words was taken
pub slots_more : (old now new : Option (List ℕ)) (items grown bytes : List ℕ) → Consumes old now (bytes_of (drop 1 items))
    → Consumes now new bytes → 1 ≤ length items → bytes_of (words_in bytes) ≡ bytes → grown ≡ items ++ words_in bytes
    → Consumes old new (bytes_of (drop 1 grown))
slots_more old now new items grown bytes so_far more some spelled is =
    let joined : bytes_of (drop 1 grown) ≡ bytes_of (drop 1 items) ++ bytes =
    ap (λ (ws : List ℕ). bytes_of (drop 1 ws)) is
    ∙ ap bytes_of (drop-append-le 1 items (words_in bytes) some)
    ∙ bytes_of-append (drop 1 items) (words_in bytes)
    ∙ ap (λ (bs : List ℕ). bytes_of (drop 1 items) ++ bs) spelled in
    subst (λ (bs : List ℕ). Consumes old new bs) (sym joined)
    (Consumes-trans old now new (bytes_of (drop 1 items)) bytes so_far more)

pub same_clock : (items grown more : List ℕ) → 1 ≤ length items → grown ≡ items ++ more → clock_of grown ≡ clock_of items
same_clock items grown more some is = ap clock_of is ∙ get_or_append_left items more 0 0 some

-- a source that ends too early: the words so far, and a piece after them
pub ends_early : (h : Header) (s : Shape) (old now new : Option (List ℕ)) (items bytes : List ℕ) (whole : ℕ)
    → Consumes old now (bytes_of (drop 1 items)) → Consumes now new bytes → IsAtEnd new → 1 ≤ length items
    → length items + length bytes / WORD < 1 + slot_words (is_old h.version) s
    → whole + 1 ≡ front_count h + (length items + length bytes / WORD)
    → Refuses (WORD * slot_words (is_old h.version) s) (RefusesSlots h s) old new (faults.Short whole)
ends_early h s old now new items bytes whole so_far more end some few is =
    let all = bytes_of (drop 1 items) ++ bytes in
    let long : length all ≡ WORD * (length items - 1) + length bytes =
    omega (arith, length-append (bytes_of (drop 1 items)) bytes, length-bytes_of (drop 1 items), length-drop 1 items) in
    refuses_whole (WORD * slot_words (is_old h.version) s) (RefusesSlots h s) old new all (faults.Short whole)
    (Consumes-trans old now new (bytes_of (drop 1 items)) bytes so_far more) end (omega arith)
    (record { words = omega arith; few = omega arith })

-- the words so far and a piece that may follow
pub length-slots : (items : List ℕ) → 1 ≤ length items → length (bytes_of (drop 1 items)) + WORD ≡ WORD * length items
length-slots items some = omega (arith, length-bytes_of (drop 1 items), length-drop 1 items)

single : (clock : ℕ) → clock < 2 ^ 64 → AreWords (clock ∷ [])
single clock h zero d inside = h
single clock h (suc k) d inside = absurd (omega arith)

-- the clock alone
pub begun : (old : Option (List ℕ)) (none items : List ℕ) (clock : ℕ) → none ≡ [] → items ≡ none ++ clock ∷ []
    → Consumes old old (bytes_of (drop 1 items)) × (clock_of items ≡ clock) × (clock < 2 ^ 64 → AreWords items)
begun old none items clock is_none is =
    let only : items ≡ clock ∷ [] = is ∙ ap (λ (ws : List ℕ). ws ++ clock ∷ []) is_none in
    let empty : [] ≡ bytes_of (drop 1 items) = bytes_of_none ∙ sym (ap (λ (ws : List ℕ). bytes_of (drop 1 ws)) only) in
    let one : clock < 2 ^ 64 → AreWords (clock ∷ []) = λ h. single clock h in (
      subst (λ (bs : List ℕ). Consumes old old bs) empty (Consumes-nil old),
      ap clock_of only,
      λ h. subst AreWords (sym only) (one h),
    )

-- how many words a full piece has, where it is no longer than the chunk and what is still to come
pub piece_count : (len count chunk words : ℕ) → chunk ≡ WORD * words → 1 ≤ words → len ≤ count
    → (k : ℕ) × (min chunk (WORD * (1 + count - len)) ≡ WORD * k) × (1 ≤ k) × (len + k ≤ 1 + count)
piece_count len count chunk words whole some few =
    (min words (1 + count - len), omega arith, omega arith, omega arith)
