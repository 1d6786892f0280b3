-- How keys and values are spelled: by bytes that can be seen, and each by one word.
use Rattle.std.proofs.Common.{◌≡◌, ◌≢◌, ℕ, ◌+◌, ◌*◌, ◌-◌, ◌/◌, ◌%◌, ◌^◌, ◌<◌, ◌≤◌, Bool, true, false, cond, ◌==◌, List, ◌⊎◌, [], ◌∷◌, ◌++◌, length, take, get_or, refl, sym, ap, ◌∙◌, inl, inr, arith, subst, slice_set}
use Rattle.std.specs.List.{All, flat_map, list_all}
use Rattle.std.specs.Prelude.{Result, Ok, Err, OkIff, MatchOption}
use Rattle.std.specs.Result.{result_ok}
use Rattle.std.specs.Str.{IsUtf8}
use Rattle.std.specs.Fmt.{digits, padded_integral, format_spec}
use Rattle.std.proofs.lemmas.Fmt.{hex_byte}
use Rattle.std.proofs.lemmas.Bool.{cases_Bool, cases_lt, lt-ltb, le-ltb, and_parts, leb-true, eqb-false, not-true}
use Rattle.std.proofs.lemmas.List.{append_assoc, append-nil, length-append, take_more, take_all, get_or_at, take_more_set}
use Rattle.std.proofs.lemmas.Grind.{flat_map-append}
use Rattle.std.proofs.lemmas.List.Elements.{All-append, All-cons, All-nil, All-head, All-tail, All-push, All-weaker}
use Rattle.std.proofs.lemmas.Str.{IsUtf8-from_ascii}
use Rattle.std.proofs.lemmas.Str.Ascii.{IsAscii-from_all}
use Rattle.mont_base.specs.declared.constants.TheConstants.{TEXT_BYTES}
use Rattle.mont_base.specs.Texts.{IsText}
use Rattle.job_text.specs.Spelling.{hex_digit, hex_digits, is_bare, byte_word, text_word}

-- what `{:02x}` writes of a byte
pub hex_of_byte : (n : ℕ) → n < 256 → padded_integral (format_spec 32 0 4 2 (2 ^ 64 - 1)) false [] (digits 16 false n) ≡ hex_digits 2 n
hex_of_byte n small =
    let high : n / 16 % 16 ≡ n / 16 = omega arith in
    hex_byte false n small ∙ ap (λ (m : ℕ). hex_digit m ∷ hex_digit (n % 16) ∷ []) (sym high)

-- ---- the digits
low_digit : (n : ℕ) → n < 10 → hex_digit n ≡ 48 + n
low_digit n low = ap (λ (b : Bool). cond b (48 + n) (87 + n)) (lt-ltb n 10 low)

high_digit : (n : ℕ) → 10 ≤ n → hex_digit n ≡ 87 + n
high_digit n high = ap (λ (b : Bool). cond b (48 + n) (87 + n)) (le-ltb n 10 high)

-- a byte that can be seen
abbrev pub IsSeen : ℕ → Type 0
IsSeen b = (33 ≤ b) × (b ≤ 126)

pub digit_seen : (n : ℕ) → n < 16 → IsSeen (hex_digit n)
digit_seen n small =
    elim (cases_lt n 10) [
      | inl low ↦ (omega (arith, low_digit n low), omega (arith, low_digit n low))
      | inr high ↦
          (omega (arith, high_digit n high), omega (arith, high_digit n high))
    ]

pub digit_once : (m n : ℕ) → m < 16 → n < 16 → hex_digit m ≡ hex_digit n → m ≡ n
digit_once m n small other same = by_ranks (cases_lt m 10) (cases_lt n 10)
  where
    by_ranks : (m < 10) ⊎ (10 ≤ m) → (n < 10) ⊎ (10 ≤ n) → m ≡ n
    by_ranks (inl low) (inl below) = omega (arith, low_digit m low, low_digit n below)
    by_ranks (inl low) (inr high) = omega (arith, low_digit m low, high_digit n high)
    by_ranks (inr high) (inl low) = omega (arith, high_digit m high, low_digit n low)
    by_ranks (inr high) (inr above) = omega (arith, high_digit m high, high_digit n above)

-- ---- the bytes
bare_range : (b : ℕ) → is_bare b ≡ true → (33 ≤ b) × (b ≤ 126) × (b ≢ 37)
bare_range b bare =
    let parts = and_parts _ _ bare in
    let range = and_parts _ _ parts.0 in
    (leb-true 33 b range.0, leb-true b 126 range.1, eqb-false b 37 (not-true _ parts.1))

bare_word : (b : ℕ) → is_bare b ≡ true → byte_word b ≡ b ∷ []
bare_word b bare = ap (λ (t : Bool). cond t (b ∷ []) (37 ∷ hex_digits 2 b)) bare

marked_word : (b : ℕ) → is_bare b ≡ false → byte_word b ≡ 37 ∷ hex_digits 2 b
marked_word b marked = ap (λ (t : Bool). cond t (b ∷ []) (37 ∷ hex_digits 2 b)) marked

seen_word : (b : ℕ) → All IsSeen (byte_word b)
seen_word b = elim (cases_Bool (is_bare b)) [
  | inl bare ↦ rw (bare_word b bare) (All-cons IsSeen b [] ((bare_range b bare).0, (bare_range b bare).1) (All-nil IsSeen))
  | inr marked ↦
      let high = All-cons IsSeen (hex_digit (b % 16)) [] (digit_seen (b % 16) (omega arith)) (All-nil IsSeen) in
      let low = All-cons IsSeen (hex_digit (b / 16 % 16)) (hex_digit (b % 16) ∷ []) (digit_seen (b / 16 % 16) (omega arith)) high in
      rw (marked_word b marked) (All-cons IsSeen 37 (hex_digits 2 b) (omega arith, omega arith) low)
]

word_long : (b : ℕ) → (1 ≤ length (byte_word b)) × (length (byte_word b) ≤ 3)
word_long b = elim (cases_Bool (is_bare b)) [
  | inl bare ↦ (omega (arith, ap length (bare_word b bare)), omega (arith, ap length (bare_word b bare)))
  | inr marked ↦ (omega (arith, ap length (marked_word b marked)), omega (arith, ap length (marked_word b marked)))
]

-- what begins with the spellings of two bytes begins with one
pub byte_word_once : (b c : ℕ) (xs ys : List ℕ) → b < 256 → c < 256 → byte_word b ++ xs ≡ byte_word c ++ ys → (b ≡ c) × (xs ≡ ys)
byte_word_once b c xs ys small other same = by_words (cases_Bool (is_bare b)) (cases_Bool (is_bare c))
  where
    by_words : (is_bare b ≡ true) ⊎ (is_bare b ≡ false) → (is_bare c ≡ true) ⊎ (is_bare c ≡ false) → (b ≡ c) × (xs ≡ ys)
    by_words (inl bare) (inl too) =
        let e : b ∷ xs ≡ c ∷ ys = ap (λ (w : List ℕ). w ++ xs) (sym (bare_word b bare)) ∙ same
        ∙ ap (λ (w : List ℕ). w ++ ys) (bare_word c too) in
        (cc, cc)
    by_words (inl bare) (inr marked) =
        let e : b ∷ xs ≡ (37 ∷ hex_digits 2 c) ++ ys = ap (λ (w : List ℕ). w ++ xs) (sym (bare_word b bare)) ∙ same
        ∙ ap (λ (w : List ℕ). w ++ ys) (marked_word c marked) in
        let mark : b ≡ 37 = cc in
        absurd ((bare_range b bare).2 mark)
    by_words (inr marked) (inl bare) =
        let e : (37 ∷ hex_digits 2 b) ++ xs ≡ c ∷ ys = ap (λ (w : List ℕ). w ++ xs) (sym (marked_word b marked)) ∙ same
        ∙ ap (λ (w : List ℕ). w ++ ys) (bare_word c bare) in
        let mark : c ≡ 37 = cc in
        absurd ((bare_range c bare).2 mark)
    by_words (inr marked) (inr too) =
        let e : (37 ∷ hex_digits 2 b) ++ xs ≡ (37 ∷ hex_digits 2 c) ++ ys =
        ap (λ (w : List ℕ). w ++ xs) (sym (marked_word b marked)) ∙ same ∙ ap (λ (w : List ℕ). w ++ ys) (marked_word c too) in
        let high : hex_digit (b / 16 % 16) ≡ hex_digit (c / 16 % 16) = cc in
        let low : hex_digit (b % 16) ≡ hex_digit (c % 16) = cc in
        let tens : b / 16 % 16 ≡ c / 16 % 16 = digit_once (b / 16 % 16) (c / 16 % 16) (omega arith) (omega arith) high in
        let ones : b % 16 ≡ c % 16 = digit_once (b % 16) (c % 16) (omega arith) (omega arith) low in
        (omega arith, cc)

-- ---- the texts
abbrev pub IsByte : ℕ → Type 0
IsByte b = b < 256

bytes_long : (t : List ℕ) → (length t ≤ length (flat_map byte_word t)) × (length (flat_map byte_word t) ≤ 3 * length t)
bytes_long [] = (omega arith, omega arith)
bytes_long (b ∷ bs) =
    let joined = length-append (byte_word b) (flat_map byte_word bs) in
    (omega (arith, joined, word_long b, bytes_long bs), omega (arith, joined, word_long b, bytes_long bs))

bytes_seen : (t : List ℕ) → All IsSeen (flat_map byte_word t)
bytes_seen [] = All-nil IsSeen
bytes_seen (b ∷ bs) = All-append IsSeen (byte_word b) (flat_map byte_word bs) (seen_word b) (bytes_seen bs)

pub text_seen : (t : List ℕ) → All IsSeen (text_word t)
text_seen [] = All-cons IsSeen 37 [] (omega arith, omega arith) (All-nil IsSeen)
text_seen (b ∷ bs) = bytes_seen (b ∷ bs)

pub text_long : (t : List ℕ) → IsText t → (1 ≤ length (text_word t)) × (length (text_word t) ≤ 3 * TEXT_BYTES)
text_long [] h = (omega arith, omega arith)
text_long (b ∷ bs) h = (omega (arith, bytes_long (b ∷ bs)), omega (arith, bytes_long (b ∷ bs), h.short))

-- what begins with the spellings of a text's bytes is spelled by a text that begins with it
pub bytes_front : (t front : List ℕ) (rest : List ℕ) → All IsByte t → All IsByte front → flat_map byte_word t
    ≡ flat_map byte_word front ++ rest → (more : List ℕ) × (t ≡ front ++ more) × (rest ≡ flat_map byte_word more)
bytes_front t [] rest small other same = (t, refl, sym same)
bytes_front [] (c ∷ cs) rest small other same =
    absurd (omega (arith, ap length same, length-append (flat_map byte_word (c ∷ cs)) rest, bytes_long (c ∷ cs)))
bytes_front (b ∷ bs) (c ∷ cs) rest small other same =
    let heads = byte_word_once b c (flat_map byte_word bs) (flat_map byte_word cs ++ rest) (All-head IsByte b bs small)
    (All-head IsByte c cs other) (same ∙ append_assoc (byte_word c) (flat_map byte_word cs) rest) in
    let tails = bytes_front bs cs rest (All-tail IsByte b bs small) (All-tail IsByte c cs other) heads.1 in
    (tails.0, ap (λ (x : ℕ). x ∷ bs) heads.0 ∙ ap (λ (xs : List ℕ). c ∷ xs) tails.1, tails.2)

bytes_once : (s t : List ℕ) → All IsByte s → All IsByte t → flat_map byte_word s ≡ flat_map byte_word t → s ≡ t
bytes_once s t small other same =
    let parts = bytes_front s t [] small other (same ∙ sym (append-nil (flat_map byte_word t))) in
    let none : parts.0 ≡ [] = empty parts.0 parts.2 in
    parts.1 ∙ ap (λ (xs : List ℕ). t ++ xs) none ∙ append-nil t
  where
    empty : (more : List ℕ) → [] ≡ flat_map byte_word more → more ≡ []
    empty [] e = refl
    empty (b ∷ bs) e = absurd (omega (arith, ap length e, bytes_long (b ∷ bs)))

-- `%` alone spells no other text than the empty one
mark_alone : (b : ℕ) (bs : List ℕ) → 37 ∷ [] ≡ flat_map byte_word (b ∷ bs) → ⊥
mark_alone b bs same = elim (cases_Bool (is_bare b)) [
  | inl bare ↦
      let e : 37 ∷ [] ≡ b ∷ flat_map byte_word bs = same ∙ ap (λ (w : List ℕ). w ++ flat_map byte_word bs) (bare_word b bare) in
      let mark : b ≡ 37 = cc in
      (bare_range b bare).2 mark
  | inr marked ↦ omega (arith, ap length same, ap length (marked_word b marked), length-append (byte_word b) (flat_map byte_word bs))
]

-- a word spells one text
pub text_word_once : (s t : List ℕ) → IsText s → IsText t → text_word s ≡ text_word t → s ≡ t
text_word_once [] [] h i same = refl
text_word_once [] (c ∷ cs) h i same = absurd (mark_alone c cs same)
text_word_once (b ∷ bs) [] h i same = absurd (mark_alone b bs (sym same))
text_word_once (b ∷ bs) (c ∷ cs) h i same = bytes_once (b ∷ bs) (c ∷ cs) h.bytes i.bytes same

-- ---- words all of whose bytes stand for themselves
all_bare : (word : List ℕ) → list_all is_bare word ≡ true → All IsByte word × (flat_map byte_word word ≡ word)
all_bare [] bare = (All-nil IsByte, refl)
all_bare (b ∷ bs) bare =
    let parts = and_parts _ _ bare in
    let rest = all_bare bs parts.1 in (
      All-cons IsByte b bs (omega (arith, bare_range b parts.0)) rest.0,
      ap (λ (w : List ℕ). w ++ flat_map byte_word bs) (bare_word b parts.0) ∙ ap (λ (xs : List ℕ). b ∷ xs) rest.1,
    )

-- such a word is its text's own bytes
pub bare_text : {E : Type 0} (word : List ℕ) (r : Result (List ℕ) E) → 0 < length word → list_all is_bare word ≡ true
    → OkIff r (length word ≤ TEXT_BYTES) word
    → MatchOption (result_ok r) ((t : List ℕ) → IsText t → word ≢ text_word t) (λ t. IsText t × (word ≡ text_word t))
bare_text [] r some bare told = absurd (omega arith)
bare_text (b ∷ bs) (Ok t) some bare told =
    let whole = all_bare (b ∷ bs) bare in
    let long : length t ≤ TEXT_BYTES = omega (arith, told.0, ap length told.1) in (
      record { short = long; bytes = subst (All IsByte) (sym told.1) whole.0 },
      sym whole.1 ∙ ap text_word (sym told.1),
    )
bare_text (b ∷ bs) (Err e) some bare told = λ t h same. told (fits t h same)
  where
    fits : (t : List ℕ) → IsText t → b ∷ bs ≡ text_word t → length (b ∷ bs) ≤ TEXT_BYTES
    fits [] h same = let mark : b ≡ 37 = cc in absurd ((bare_range b (and_parts _ _ bare).0).2 mark)
    fits (c ∷ cs) h same =
        let whole = all_bare (b ∷ bs) bare in
        let e = bytes_once (b ∷ bs) (c ∷ cs) whole.0 h.bytes (whole.1 ∙ same) in
        omega (arith, ap length e, h.short)

-- ---- texts written byte by byte
pub bytes_more : (t : List ℕ) (i : ℕ) → i < length t → flat_map byte_word (take (i + 1) t)
    ≡ flat_map byte_word (take i t) ++ byte_word (get_or t i 0)
bytes_more t i within =
    ap (λ (bs : List ℕ). flat_map byte_word bs) (take_more t i 0 within)
    ∙ flat_map-append byte_word (take i t) (get_or t i 0 ∷ [])
    ∙ ap (λ (bs : List ℕ). flat_map byte_word (take i t) ++ bs) (append-nil (byte_word (get_or t i 0)))

-- a text that isn't empty is its bytes
pub counts_some : (t : List ℕ) → false ≡ (length t == 0) → t ≢ []
counts_some [] counts is = absurd cc
counts_some (b ∷ bs) counts is = absurd cc

pub text_bytes : (t : List ℕ) (i : ℕ) → t ≢ [] → length t ≤ i → flat_map byte_word (take i t) ≡ text_word t
text_bytes [] i some all = absurd (some refl)
text_bytes (b ∷ bs) i some all = ap (λ (xs : List ℕ). flat_map byte_word xs) (take_all i (b ∷ bs) all)

-- what spells bytes is a text of ASCII
spelling_utf8 : (t : List ℕ) → IsUtf8 (flat_map byte_word t)
spelling_utf8 t = IsUtf8-from_ascii (flat_map byte_word t) (IsAscii-from_all (flat_map byte_word t)
    (All-weaker IsSeen (λ (b : ℕ). b < 128) (λ b seen. omega (arith, seen)) (flat_map byte_word t) (bytes_seen t)))

-- bytes that are spelled by themselves are read as the text's word
pub read_word : (t held word : List ℕ) (at len : ℕ) → t ≢ [] → length t ≡ len → at ≡ len
    → flat_map byte_word (take at t) ≡ take at held → word ≡ take len held → word ≡ text_word t
read_word t held word at len some long ends spelled is =
    is ∙ ap (λ (n : ℕ). take n held) (sym ends) ∙ sym spelled ∙ text_bytes t at some (omega (arith, long, ends))

pub word_utf8 : (t held : List ℕ) (at len : ℕ) → at ≡ len → flat_map byte_word (take at t) ≡ take at held → IsUtf8 (take len held)
word_utf8 t held at len ends spelled =
    subst IsUtf8 (spelled ∙ ap (λ (n : ℕ). take n held) ends) (spelling_utf8 (take at t))

-- ---- texts read byte by byte
module _ (word front rest : List ℕ) (is : word ≡ flat_map byte_word front ++ rest) (small : All IsByte front) (no_mark : word ≢ 37 ∷ [])
  where
    -- a text that the word spells begins with the bytes so far, and the rest spells what is left of it
    goes_on : (t : List ℕ) → IsText t → word ≡ text_word t → (more : List ℕ) × (t ≡ front ++ more) × (rest ≡ flat_map byte_word more)
    goes_on [] h same = absurd (no_mark same)
    goes_on (b ∷ bs) h same = bytes_front (b ∷ bs) front rest h.bytes small (sym same ∙ is)

    pub too_long : TEXT_BYTES ≤ length front → 0 < length rest → (t : List ℕ) → IsText t → word ≢ text_word t
    too_long full some t h same =
        let parts = goes_on t h same in
        omega (arith, ap length parts.1, length-append front parts.0, ap length parts.2, bytes_long parts.0, h.short)

    pub no_byte : 0 < length rest → ((byte : ℕ) (after : List ℕ) → byte < 256 → rest ≢ byte_word byte ++ after) → (t : List ℕ) → IsText t
        → word ≢ text_word t
    no_byte some none t h same =
        let parts = goes_on t h same in
        nothing parts.0 parts.1 parts.2 h.bytes
      where
        nothing : (more : List ℕ) → t ≡ front ++ more → rest ≡ flat_map byte_word more → All IsByte t → ⊥
        nothing [] e f bytes = omega (arith, ap length f)
        nothing (b ∷ bs) e f bytes =
            let all : All IsByte (front ++ b ∷ bs) = subst (λ (xs : List ℕ). All IsByte xs) e bytes in
            let byte : b < 256 = subst (λ (x : ℕ). x < 256) (get_or_at front b bs 0 (length front) refl)
            (all (length front) 0 (omega (arith, length-append front (b ∷ bs)))) in
            none b (flat_map byte_word bs) byte f

-- one byte more
pub front_more : (word held rest after : List ℕ) (len byte : ℕ) → word ≡ flat_map byte_word (take len held) ++ rest
    → All IsByte (take len held) → len < length held → byte < 256 → rest ≡ byte_word byte ++ after
    → (word ≡ flat_map byte_word (take (len + 1) (slice_set held len byte)) ++ after)
    × All IsByte (take (len + 1) (slice_set held len byte))
front_more word held rest after len byte is small within low next =
    let front : take (len + 1) (slice_set held len byte) ≡ take len held ++ byte ∷ [] = take_more_set held len byte within in
    let more : flat_map byte_word (take len held ++ byte ∷ []) ≡ flat_map byte_word (take len held) ++ byte_word byte =
    flat_map-append byte_word (take len held) (byte ∷ []) ∙ ap (λ (bs : List ℕ). flat_map byte_word (take len held) ++ bs)
    (append-nil (byte_word byte)) in (
      is ∙ ap (λ (bs : List ℕ). flat_map byte_word (take len held) ++ bs) next
          ∙ sym (append_assoc (flat_map byte_word (take len held)) (byte_word byte) after)
          ∙ ap (λ (bs : List ℕ). bs ++ after) (sym more)
          ∙ ap (λ (bs : List ℕ). flat_map byte_word bs ++ after) (sym front),
      subst (λ (bs : List ℕ). All IsByte bs) (sym front) (All-push IsByte (take len held) byte small low),
    )
