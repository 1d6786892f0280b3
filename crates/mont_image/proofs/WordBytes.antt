-- Words and their bytes.
use Rattle.std.proofs.Common.{◌≡◌, ℕ, zero, suc, ◌+◌, ◌*◌, ◌/◌, ◌<◌, ◌≤◌, ◌^◌, List, [], ◌∷◌, ◌++◌, map, length, take, drop, get_or, refl, sym, ap, ◌∙◌, arith, length-append, length-drop, length-take, All, ⊎_elim}
use Rattle.std.specs.Int.{w64, to_le_bytes, from_le_bytes}
use Rattle.std.specs.Simd.{first_chunks}
use Rattle.std.proofs.lemmas.List.{append_assoc, take-append-le, drop-append-le, nil_from_length, map-append, length-map, get_or-take, get_or-drop, get_or_past, length-take-le, take-append-drop}
use Rattle.std.proofs.lemmas.List.Concat.{flat_map-append}
use Rattle.std.proofs.lemmas.Bool.{cases_lt}
use Rattle.std.proofs.lemmas.Nat.{from_le_bytes-to_le_bytes_8, le_bytes_8}
use Rattle.mont_image.specs.declared.image_text.TheConstants.{WORD}
use Rattle.mont_image.specs.ImageText.{bytes_of, words_in}

-- ---- whole words of joined bytes

chunks-append : (k m : ℕ) (xs ys : List ℕ) → length xs ≡ WORD * k
    → first_chunks WORD (k + m) (xs ++ ys) ≡ first_chunks WORD k xs ++ first_chunks WORD m ys
chunks-append zero m xs ys long =
    let none : xs ≡ [] = nil_from_length xs (omega arith) in
    let count : zero + m ≡ m = omega arith in
    rw (none, count) refl
chunks-append (suc k) m xs ys long =
    let fits : WORD ≤ length xs = omega arith in
    let count : suc k + m ≡ suc (k + m) = omega arith in
    rw (count, take-append-le WORD xs ys fits, drop-append-le WORD xs ys fits)
    (ap (λ (cs : List (List ℕ)). take WORD xs ∷ cs) (chunks-append k m (drop WORD xs) ys (omega (arith, length-drop WORD xs))))

length-chunks : (k : ℕ) (xs : List ℕ) → length (first_chunks WORD k xs) ≡ k
length-chunks zero xs = refl
length-chunks (suc k) xs = ap suc (length-chunks k (drop WORD xs))

pub length-words_in : (bytes : List ℕ) → length (words_in bytes) ≡ length bytes / WORD
unfolding words_in
length-words_in bytes =
    length-map (first_chunks WORD (length bytes / WORD) bytes) (from_le_bytes w64) ∙ length-chunks (length bytes / WORD) bytes

pub words_in-append : (k : ℕ) (xs ys : List ℕ) → length xs ≡ WORD * k → words_in (xs ++ ys) ≡ words_in xs ++ words_in ys
unfolding words_in
words_in-append k xs ys long =
    let f = from_le_bytes w64 in
    let count : length (xs ++ ys) / WORD ≡ k + length ys / WORD = omega (arith, length-append xs ys) in
    let front : length xs / WORD ≡ k = omega arith in
    rw (count, front)
    (ap (map f) (chunks-append k (length ys / WORD) xs ys long)
    ∙ map-append f (first_chunks WORD k xs) (first_chunks WORD (length ys / WORD) ys))

-- ---- the bytes of words

pub length-bytes_of : (ws : List ℕ) → length (bytes_of ws) ≡ WORD * length ws
unfolding bytes_of
length-bytes_of [] = refl
length-bytes_of (w ∷ ws) = omega (arith, length-append (to_le_bytes w64 w) (bytes_of ws), length-bytes_of ws)

word_back : (w : ℕ) → w < 2 ^ 64 → words_in (to_le_bytes w64 w) ≡ w ∷ []
unfolding words_in
word_back w h = ap (λ (v : ℕ). v ∷ []) (from_le_bytes-to_le_bytes_8 w h)

-- numbers that a `u64` can hold
abbrev pub AreWords : List ℕ → Type 0
AreWords ws = All (λ w. w < 2 ^ 64) ws

pub words_behind : (ws rest : List ℕ) → AreWords ws → words_in (bytes_of ws ++ rest) ≡ ws ++ words_in rest
unfolding bytes_of
words_behind [] rest h = refl
words_behind (w ∷ ws) rest h =
    let first : w < 2 ^ 64 = h 0 0 (omega arith) in
    let others : AreWords ws = λ k d l. h (suc k) d (omega arith) in
    rw (append_assoc (to_le_bytes w64 w) (bytes_of ws) rest)
    (words_in-append 1 (to_le_bytes w64 w) (bytes_of ws ++ rest) refl
    ∙ ap (λ (vs : List ℕ). vs ++ words_in (bytes_of ws ++ rest)) (word_back w first)
    ∙ ap (λ (vs : List ℕ). w ∷ vs) (words_behind ws rest others))

-- numbers that a `u8` can hold
abbrev pub AreBytes : List ℕ → Type 0
AreBytes bytes = (i : ℕ) → get_or bytes i 0 < 256

front_bytes : (k : ℕ) (bytes : List ℕ) → AreBytes bytes → AreBytes (take k bytes)
front_bytes k bytes small i = ⊎_elim
    (λ (h : i < k). rw get_or-take (small i))
    (λ (h : k ≤ i). rw (get_or_past (take k bytes) i 0 (omega (arith, length-take k bytes))) (omega arith))
    (cases_lt i k)

bytes_back : (k : ℕ) (bytes : List ℕ) → length bytes ≡ WORD * k → AreBytes bytes
    → bytes_of (map (from_le_bytes w64) (first_chunks WORD k bytes)) ≡ bytes
unfolding bytes_of
bytes_back zero bytes long small = sym (nil_from_length bytes (omega arith))
bytes_back (suc k) bytes long small =
    let first = take WORD bytes in
    let front : length first ≡ WORD = length-take-le WORD bytes (omega arith) in
    let behind : AreBytes (drop WORD bytes) = λ i. rw get_or-drop (small (WORD + i)) in
    let rest = bytes_back k (drop WORD bytes) (omega (arith, length-drop WORD bytes)) behind in
    let word : to_le_bytes w64 (from_le_bytes w64 first) ≡ first =
    le_bytes_8 first (from_le_bytes w64 first) front (front_bytes WORD bytes small) refl in
    ap (λ (bs : List ℕ). to_le_bytes w64 (from_le_bytes w64 first) ++ bs) rest
    ∙ ap (λ (bs : List ℕ). bs ++ drop WORD bytes) word
    ∙ take-append-drop WORD bytes

-- whole words have just these bytes
pub bytes_of-words_in : (k : ℕ) (bytes : List ℕ) → length bytes ≡ WORD * k → AreBytes bytes → bytes_of (words_in bytes) ≡ bytes
unfolding words_in
bytes_of-words_in k bytes long small =
    let count : length bytes / WORD ≡ k = omega arith in
    rw count (bytes_back k bytes long small)

pub bytes_of-append : (xs ys : List ℕ) → bytes_of (xs ++ ys) ≡ bytes_of xs ++ bytes_of ys
unfolding bytes_of
bytes_of-append xs ys = flat_map-append (to_le_bytes w64) xs ys
