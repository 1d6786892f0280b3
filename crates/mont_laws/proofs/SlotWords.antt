-- Where the words of a slot lie, with n words for each slot.
use Rattle.std.proofs.Common.{◌≡◌, ◌≢◌, ℕ, zero, suc, ◌+◌, ◌-◌, ◌*◌, ◌/◌, ◌%◌, ◌<◌, ◌≤◌, ◌⊎◌, List, length, take, drop, set, get_or, sym, ap, ◌∙◌, subst, ⊎_elim, arith}
use Rattle.std.proofs.lemmas.Bool.{cases_lt, cases_order}
use Rattle.std.proofs.lemmas.List.{drop-set-add, drop-set-lt, take-set-le, get_or-take, get_or-drop, get_or-set_other, get_or-set_same, length-take-le, length-drop, ext_get_or}
use Rattle.std.proofs.Math.Seq.{take-set-lt}
use Rattle.std.proofs.Math.Nat.{mul-le-mul_left, mul_comm, div-lt_iff_lt-mul, mod-lt, div-add-mod}
use Rattle.mont_base.specs.declared.constants.TheConstants.{FIELDS}
use Rattle.mont_base.specs.Layout.{Shape, total_of, words_of, word_of}
use Rattle.mont_base.specs.Image.{words_at, epoch_at}
use Rattle.mont_laws.specs.SlotWords.{SlotsHaveWords, WordsHaveSlots, SlotsMakeWords, StoresChangeOneField, ClockStoresChangeClock}

-- ---- a store of one word
set_own : (n s f v : ℕ) (ws : List ℕ) → f < n
    → take n (drop (1 + n * s + 0) (set ws (1 + n * s + f) v)) ≡ set (take n (drop (1 + n * s + 0) ws)) f v
set_own n s f v ws low =
    let far : 1 + n * s + f ≡ (1 + n * s + 0) + f = omega arith in
    ap (λ (i : ℕ). take n (drop (1 + n * s + 0) (set ws i v))) far
    ∙ ap (take n) (drop-set-add (1 + n * s + 0) ws f v)
    ∙ take-set-lt n (drop (1 + n * s + 0) ws) f v low

set_lower : (n s t f v : ℕ) (ws : List ℕ) → t < s
    → take n (drop (1 + n * t + 0) (set ws (1 + n * s + f) v)) ≡ take n (drop (1 + n * t + 0) ws)
set_lower n s t f v ws low =
    let steps : n * (t + 1) ≤ n * s = mul-le-mul_left n (omega arith) in
    let j : ℕ = 1 + n * s + f - (1 + n * t + 0) in
    let far : 1 + n * s + f ≡ (1 + n * t + 0) + j = omega arith in
    ap (λ (i : ℕ). take n (drop (1 + n * t + 0) (set ws i v))) far
    ∙ ap (take n) (drop-set-add (1 + n * t + 0) ws j v)
    ∙ take-set-le n (drop (1 + n * t + 0) ws) j v (omega arith)

set_higher : (n s t f v : ℕ) (ws : List ℕ) → s < t → f < n
    → take n (drop (1 + n * t + 0) (set ws (1 + n * s + f) v)) ≡ take n (drop (1 + n * t + 0) ws)
set_higher n s t f v ws high low =
    let steps : n * (s + 1) ≤ n * t = mul-le-mul_left n (omega arith) in
    ap (take n) (drop-set-lt (1 + n * t + 0) ws (1 + n * s + f) v (omega arith))

set_other : (n s t f v : ℕ) (ws : List ℕ) → f < n → t ≢ s
    → take n (drop (1 + n * t + 0) (set ws (1 + n * s + f) v)) ≡ take n (drop (1 + n * t + 0) ws)
set_other n s t f v ws low apart = ⊎_elim
    (λ (l : t < s). set_lower n s t f v ws l)
    (λ (h : s ≤ t). set_higher n s t f v ws (omega arith) low)
    (cases_lt t s)

pub stores_change_one_field : StoresChangeOneField
stores_change_one_field words slot field value low = record {
  own = set_own FIELDS slot field value words low;
  others = λ other apart. set_other FIELDS slot other field value words low apart;
  clock = get_or-set_other words (word_of slot field) 0 value 0 (λ e. omega arith);
}

pub clock_stores_change_clock : ClockStoresChangeClock
clock_stores_change_clock words value some = record {
  clock = get_or-set_same words 0 value 0 (omega arith);
  slots = λ slot. ap (take FIELDS) (drop-set-lt (word_of slot 0) words 0 value (omega arith));
}

-- ---- where words lie
get_at : (n s f : ℕ) (ws : List ℕ) → f < n
    → get_or (take n (drop (1 + n * s + 0) ws)) f 0 ≡ get_or ws (1 + n * s + f) 0
get_at n s f ws low =
    get_or-take n (drop (1 + n * s + 0) ws) f 0 low
    ∙ get_or-drop (1 + n * s + 0) ws f 0
    ∙ ap (λ (i : ℕ). get_or ws i 0) (omega arith)

pub word_at : (words : List ℕ) (slot field : ℕ) → field < FIELDS
    → get_or (words_at words slot) field 0 ≡ get_or words (word_of slot field) 0
word_at words slot field low = get_at FIELDS slot field words low

pub first_at : (words : List ℕ) (slot : ℕ) → get_or (words_at words slot) 0 0 ≡ epoch_at words slot
first_at words slot = word_at words slot 0 (omega arith)

within : (n s total : ℕ) → s < total → n * s + n ≤ n * total
within n s total low = let steps : n * (s + 1) ≤ n * total = mul-le-mul_left n (omega arith) in omega arith

long_at : (n s total : ℕ) (ws : List ℕ) → length ws ≡ 1 + n * total → s < total
    → length (take n (drop (1 + n * s + 0) ws)) ≡ n
long_at n s total ws long low =
    let fits = within n s total low in
    length-take-le n (drop (1 + n * s + 0) ws) (omega (arith, length-drop (1 + n * s + 0) ws))

pub length-words_at : (s : Shape) (words : List ℕ) (slot : ℕ) → length words ≡ words_of s → slot < total_of s
    → length (words_at words slot) ≡ FIELDS
length-words_at s words slot long low = long_at FIELDS slot (total_of s) words long low

pub slots_have_words : SlotsHaveWords
slots_have_words s words slot long low = let fits = within FIELDS slot (total_of s) low in record {
  many = length-words_at s words slot long low;
  first = sym (first_at words slot);
  each = λ field few. record {
    behind_clock = omega arith;
    inside = omega arith;
    value = word_at words slot field few;
  };
}

-- ---- which slot a word belongs to
split : (n m total : ℕ) → 1 ≤ n → m < n * total
    → (q : ℕ) × (r : ℕ) × (q < total) × (r < n) × (m ≡ n * q + r)
split n m total some low = (
  m / n,
  m % n,
  (div-lt_iff_lt-mul some).1 (subst (λ (k : ℕ). m < k) (mul_comm n total) low),
  mod-lt m some,
  sym (div-add-mod m n),
)

no_lower : (n s t f g : ℕ) → f < n → g < n → s < t → n * s + f ≡ n * t + g → ⊥
no_lower n s t f g low few below same =
    let steps : n * (s + 1) ≤ n * t = mul-le-mul_left n (omega arith) in omega arith

one_place : (n s t f g : ℕ) → f < n → g < n → n * s + f ≡ n * t + g → (t ≡ s) × (g ≡ f)
one_place n s t f g low few same = ⊎_elim
    (λ (e : s ≡ t). let products : n * s ≡ n * t = ap (λ (k : ℕ). n * k) e in (sym e, omega arith))
    (λ (h : (s < t) ⊎ (t < s)). absurd (⊎_elim
    (λ (l : s < t). no_lower n s t f g low few l same)
    (λ (l : t < s). no_lower n t s g f few low l (sym same))
    h))
    (cases_order s t)

pub words_have_slots : WordsHaveSlots
words_have_slots s word low high =
    let parts = split FIELDS (word - 1) (total_of s) (omega arith) (omega arith) in
    let place = parts.4 in (
      parts.0,
      parts.1,
      record {
        in_store = parts.2;
        in_slot = parts.3;
        place = omega arith;
        only = λ other field few same. one_place FIELDS parts.0 other parts.1 field parts.3 few (omega arith);
      },
    )

pub slots_make_words : SlotsMakeWords
slots_make_words s words others long wide clock slots = ext_get_or 0 words others (long ∙ sym wide) each
  where
    each : (i : ℕ) → i < length words → get_or words i 0 ≡ get_or others i 0
    each zero low = clock
    each (suc i) low =
        let at = words_have_slots s (suc i) (omega arith) (omega arith) in
        let is = at.2 in
        ap (λ (k : ℕ). get_or words k 0) is.place
        ∙ sym (word_at words at.0 at.1 is.in_slot)
        ∙ ap (λ (l : List ℕ). get_or l at.1 0) (slots at.0 is.in_store)
        ∙ word_at others at.0 at.1 is.in_slot
        ∙ ap (λ (k : ℕ). get_or others k 0) (sym is.place)
