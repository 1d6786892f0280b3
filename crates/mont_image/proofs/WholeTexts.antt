-- A text as a whole: which image it is of, and how much of it is asked for.
use Rattle.std.proofs.Common.{◌≡◌, ℕ, zero, suc, ◌+◌, ◌*◌, ◌/◌, ◌<◌, ◌≤◌, ◌^◌, Bool, true, false, ◌&&◌, List, [], ◌∷◌, ◌++◌, map, length, drop, get_or, Option, Some, Result, Ok, Err, refl, sym, ap, ◌∙◌, arith, append_assoc, append-nil, length-append}
use Rattle.std.specs.Prelude.{nat_le, ◌==◌}
use Rattle.std.proofs.lemmas.Bool.Decides.{nat_tests}
use Rattle.std.proofs.lemmas.List.{length-map, drop_at}
use Rattle.mont_base.specs.declared.constants.TheConstants.{FIRST_CLOCK, LAST, LEAST_SLOTS, MOST_SLOTS}
use Rattle.mont_base.specs.declared.kinds.UnitKind.{UnitKind}
use Rattle.mont_base.specs.declared.kinds.UnitKind.TheVariants as kinds
use Rattle.mont_base.specs.Layout.{Shape, code_of}
use Rattle.mont_image.specs.declared.image_refusal.ImageRefusal.{ImageRefusal}
use Rattle.mont_image.specs.declared.image_refusal.ImageRefusal.TheVariants as faults
use Rattle.mont_image.specs.declared.image_text.TheConstants.{WORD, MAGIC, HEADER}
use Rattle.mont_image.specs.declared.image_text.Header.{Header}
use Rattle.mont_image.specs.declared.image_text.Version.{Version}
use Rattle.mont_image.specs.declared.image_text.Version.TheVariants.{First, Second, Third}
use Rattle.mont_image.specs.ImageHeader.{IsHeader}
use Rattle.mont_image.specs.ImageLayout.{IsLayoutOf}
use Rattle.mont_image.specs.ImageText.{number_of_version, version_of_number, most_units, units_told, codes_told, code_count, header_words, header_in, header_told, layout_in, front_count, word_count, image_told, image_of_layout, image_of_header, image_in, asked_behind, asked_for_slots, asked_of, is_old, bytes_of, words_in}
use Rattle.mont_image.specs.StoredImage.{slot_words}
use Rattle.mont_image.proofs.WordBytes.{AreWords, words_behind, length-bytes_of, length-words_in}
use Rattle.mont_image.proofs.Layouts.{unless_true, unless_false, le_true, le_false, layout_back}

-- ---- the header is told by its own words

magic_back : (MAGIC == MAGIC) ≡ true
magic_back = refl

version_back : (v : Version) → version_of_number (number_of_version v) ≡ Some v
version_back First = refl
version_back Second = refl
version_back Third = refl

range_true : (lo hi n : ℕ) → lo ≤ n → n ≤ hi → (nat_le lo n && nat_le n hi) ≡ true
range_true lo hi n low high = grind (arith, nat_tests)

range_both : (a b : Bool) → a ≡ true → b ≡ true → (a && b) ≡ true
range_both true b x y = y
range_both false b x y = cc

pub header_back : (h : Header) (more : List ℕ) → IsHeader h → header_in (header_words h ++ more) ≡ Ok h
header_back h more head =
    ap (λ (o : Option Version). header_told o h.units h.slots h.clock) (version_back h.version)
    ∙ unless_true _ faults.Layout _ (range_both _ _ (range_true 1 (most_units h.version) h.units head.some_units head.few_units)
    (range_true LEAST_SLOTS MOST_SLOTS h.slots head.some_slots head.few_slots))
    ∙ unless_true _ faults.Clock _ (range_true FIRST_CLOCK LAST h.clock head.clock_begun head.clock_last)

most_few : (v : Version) → most_units v ≤ 16
most_few First = omega arith
most_few Second = omega arith
most_few Third = omega arith

number_few : (v : Version) → number_of_version v ≤ 3
number_few First = omega arith
number_few Second = omega arith
number_few Third = omega arith

pub header_range : (h : Header) → IsHeader h → AreWords (header_words h)
header_range h head = λ k d inside. in_range k d inside
  where
    units : h.units < 2 ^ 64
    units = omega (arith, head.few_units, most_few h.version)

    number : number_of_version h.version < 2 ^ 64
    number = omega (arith, number_few h.version)

    in_range : (k d : ℕ) → k < length (header_words h) → get_or (header_words h) k d < 2 ^ 64
    in_range zero d inside = omega arith
    in_range (suc zero) d inside = number
    in_range (suc (suc zero)) d inside = units
    in_range (suc (suc (suc zero))) d inside = omega (arith, head.few_slots)
    in_range (suc (suc (suc (suc zero)))) d inside = omega (arith, head.clock_last)
    in_range (suc (suc (suc (suc (suc k))))) d inside = absurd (omega arith)

codes_counted : (v : Version) (ks : List UnitKind) (units : ℕ) → units_told v ks ≡ units → length (codes_told v ks) ≡ code_count v units
codes_counted First ks units e = refl
codes_counted Second ks units e = refl
codes_counted Third ks units e = length-map ks code_of ∙ e

code_few : (k : UnitKind) → code_of k < 2 ^ 64
code_few kinds.Map = omega arith
code_few kinds.Queue = omega arith
code_few kinds.Graph = omega arith
code_few kinds.Ordered = omega arith

all_codes : (ks : List UnitKind) → AreWords (map code_of ks)
all_codes [] k d inside = absurd (omega arith)
all_codes (j ∷ ks) zero d inside = code_few j
all_codes (j ∷ ks) (suc k) d inside = all_codes ks k d (omega arith)

codes_range : (v : Version) (ks : List UnitKind) → AreWords (codes_told v ks)
codes_range First ks = λ k d inside. absurd (omega arith)
codes_range Second ks = λ k d inside. absurd (omega arith)
codes_range Third ks = all_codes ks

nothing : words_in [] ≡ []
unfolding words_in
nothing = refl

-- ---- the parts of a text

module _ (h : Header) (s : Shape) (head : IsHeader h) (layout : IsLayoutOf h s) where
  abbrev codes : List ℕ
  codes = codes_told h.version s.kinds

  pub length-codes : length codes ≡ code_count h.version h.units
  length-codes = codes_counted h.version s.kinds h.units layout.units

  -- the words of the header, and those of what follows
  pub behind_header : (rest : List ℕ) → words_in (bytes_of (header_words h) ++ rest) ≡ header_words h ++ words_in rest
  behind_header rest = words_behind (header_words h) rest (header_range h head)

  -- the words of the header and of the codes, and those of what follows
  pub behind_codes : (rest : List ℕ)
      → words_in (bytes_of (header_words h) ++ (bytes_of codes ++ rest)) ≡ header_words h ++ (codes ++ words_in rest)
  behind_codes rest =
      behind_header (bytes_of codes ++ rest)
      ∙ ap (λ (ws : List ℕ). header_words h ++ ws) (words_behind codes rest (codes_range h.version s.kinds))

  pub told_layout : (more : List ℕ) → layout_in h (header_words h ++ (codes ++ more)) ≡ Ok s
  told_layout more = layout_back h s h.version more layout.slots layout.units layout.kinds

  -- what an image is told of a text whose header and codes are these
  pub image_behind : (rest : List ℕ)
      → image_in (bytes_of (header_words h) ++ (bytes_of codes ++ rest))
      ≡ image_told h s (header_words h ++ (codes ++ words_in rest)) (length (bytes_of (header_words h) ++ (bytes_of codes ++ rest)))
  unfolding image_in
  image_behind rest =
      let text = bytes_of (header_words h) ++ (bytes_of codes ++ rest) in
      let ws = header_words h ++ (codes ++ words_in rest) in
      ap (λ (vs : List ℕ). image_of_header (header_in vs) vs (length text)) (behind_codes rest)
      ∙ ap (λ (r : Result Header ImageRefusal). image_of_header r ws (length text)) (header_back h (codes ++ words_in rest) head)
      ∙ ap (λ (r : Result Shape ImageRefusal). image_of_layout h r ws (length text)) (told_layout (words_in rest))

  pub asked_of_codes : (rest : List ℕ) → asked_of (bytes_of (header_words h) ++ (bytes_of codes ++ rest)) ≡ WORD * word_count h s + 1
  unfolding asked_of
  asked_of_codes rest =
      let ws = header_words h ++ (codes ++ words_in rest) in
      ap (λ (vs : List ℕ). asked_behind (header_in vs) vs) (behind_codes rest)
      ∙ ap (λ (r : Result Header ImageRefusal). asked_behind r ws) (header_back h (codes ++ words_in rest) head)
      ∙ ap (asked_for_slots h) (told_layout (words_in rest))

  pub length-front : length (bytes_of (header_words h)) + length (bytes_of codes) ≡ WORD * front_count h
  length-front = omega (arith, length-bytes_of (header_words h), length-bytes_of codes, length-codes)

  -- how many whole words there are
  whole_count : (rest : List ℕ) → length (header_words h ++ (codes ++ words_in rest)) ≡ front_count h + length rest / WORD
  whole_count rest = omega (arith, length-append codes (words_in rest), length-words_in rest, length-codes)

  -- too few words for the slots
  pub short_slots : (rest : List ℕ) (whole : ℕ) → whole ≡ front_count h + length rest / WORD
      → length rest / WORD < slot_words (is_old h.version) s
      → image_in (bytes_of (header_words h) ++ (bytes_of codes ++ rest)) ≡ Err (faults.Short whole)
  short_slots rest whole is few =
      let ws = header_words h ++ (codes ++ words_in rest) in
      image_behind rest
      ∙ unless_false (nat_le (word_count h s) (length ws)) (faults.Short (length ws)) _
      (le_false (word_count h s) (length ws) (omega (arith, whole_count rest)))
      ∙ ap (λ (n : ℕ). Err (faults.Short n)) (whole_count rest ∙ sym is)

  -- more bytes than the slots have
  pub long_slots : (slots rest : List ℕ) → AreWords slots → length slots ≡ slot_words (is_old h.version) s → 1 ≤ length rest
      → image_in (bytes_of (header_words h) ++ (bytes_of codes ++ (bytes_of slots ++ rest))) ≡ Err faults.Long
  long_slots slots rest range long more =
      let behind = bytes_of slots ++ rest in
      let ws = header_words h ++ (codes ++ words_in behind) in
      let size = length (bytes_of (header_words h) ++ (bytes_of codes ++ behind)) in
      let count : length behind ≡ WORD * slot_words (is_old h.version) s + length rest =
      omega (arith, length-append (bytes_of slots) rest, length-bytes_of slots, long) in
      let all : size ≡ WORD * word_count h s + length rest =
      omega (
        arith,
        length-append (bytes_of (header_words h)) (bytes_of codes ++ behind),
        length-append (bytes_of codes) behind,
        length-front,
        count,
      ) in
      image_behind behind
      ∙ unless_true (nat_le (word_count h s) (length ws)) (faults.Short (length ws)) _
      (le_true (word_count h s) (length ws) (omega (arith, whole_count behind, count)))
      ∙ unless_false (nat_le size (WORD * word_count h s)) faults.Long _ (le_false size (WORD * word_count h s) (omega (arith, all)))

  -- just the words of the slots
  pub just_slots : (slots : List ℕ) → AreWords slots → length slots ≡ slot_words (is_old h.version) s
      → image_in (bytes_of (header_words h) ++ (bytes_of codes ++ bytes_of slots))
      ≡ Ok (record { layout = s; words = h.clock ∷ slots; old = is_old h.version })
  just_slots slots range long =
      let behind = bytes_of slots in
      let told : words_in behind ≡ slots =
      ap words_in (sym (append-nil behind)) ∙ words_behind slots [] range ∙ ap (λ (ws : List ℕ). slots ++ ws) nothing ∙ append-nil slots in
      let ws = header_words h ++ (codes ++ words_in behind) in
      let size = length (bytes_of (header_words h) ++ (bytes_of codes ++ behind)) in
      let count : length behind ≡ WORD * slot_words (is_old h.version) s = omega (arith, length-bytes_of slots, long) in
      let all : size ≡ WORD * word_count h s =
      omega (
        arith,
        length-append (bytes_of (header_words h)) (bytes_of codes ++ behind),
        length-append (bytes_of codes) behind,
        length-front,
        count,
      ) in
      let front : drop (front_count h) ws ≡ words_in behind =
      ap (drop (front_count h)) (sym (append_assoc (header_words h) codes (words_in behind)))
      ∙ drop_at (header_words h ++ codes) (words_in behind) (front_count h) (omega (arith, length-codes)) in
      image_behind behind
      ∙ unless_true (nat_le (word_count h s) (length ws)) (faults.Short (length ws)) _
      (le_true (word_count h s) (length ws) (omega (arith, whole_count behind, count)))
      ∙ unless_true (nat_le size (WORD * word_count h s)) faults.Long _ (le_true size (WORD * word_count h s) (omega (arith, all)))
      ∙ ap (λ (vs : List ℕ). Ok (record { layout = s; words = h.clock ∷ vs; old = is_old h.version })) (front ∙ told)

-- ---- where a part is refused

pub header_refuses : (text : List ℕ) (fault : ImageRefusal) → header_in (words_in text) ≡ Err fault
    → (image_in text ≡ Err fault) × (asked_of text ≡ WORD * HEADER)
unfolding image_in asked_of
header_refuses text fault e = (
  ap (λ (r : Result Header ImageRefusal). image_of_header r (words_in text) (length text)) e,
  ap (λ (r : Result Header ImageRefusal). asked_behind r (words_in text)) e,
)

asked_most : (h : Header) (r : Result Shape ImageRefusal) → WORD * front_count h ≤ asked_for_slots h r
asked_most h (Err fault) = omega arith
asked_most h (Ok s) = omega arith

asked_more : (r : Result Header ImageRefusal) (ws : List ℕ) → WORD * HEADER ≤ asked_behind r ws
asked_more (Err fault) ws = omega arith
asked_more (Ok h) ws = omega (arith, asked_most h (layout_in h ws))

-- the header is always asked for
pub asked_header : (text : List ℕ) → WORD * HEADER ≤ asked_of text
unfolding asked_of
asked_header text = asked_more (header_in (words_in text)) (words_in text)

module _ (h : Header) (head : IsHeader h) (rest : List ℕ) where
  told : words_in (bytes_of (header_words h) ++ rest) ≡ header_words h ++ words_in rest
  told = words_behind (header_words h) rest (header_range h head)

  length-header : length (bytes_of (header_words h)) ≡ WORD * HEADER
  length-header = length-bytes_of (header_words h)

  pub layout_refuses : (fault : ImageRefusal) → layout_in h (header_words h ++ words_in rest) ≡ Err fault
      → (image_in (bytes_of (header_words h) ++ rest) ≡ Err fault)
      × (asked_of (bytes_of (header_words h) ++ rest) ≡ length (bytes_of (header_words h)) + WORD * code_count h.version h.units)
  unfolding image_in asked_of
  layout_refuses fault e =
      let text = bytes_of (header_words h) ++ rest in
      let ws = header_words h ++ words_in rest in (
        ap (λ (vs : List ℕ). image_of_header (header_in vs) vs (length text)) told
            ∙ ap (λ (r : Result Header ImageRefusal). image_of_header r ws (length text)) (header_back h (words_in rest) head)
            ∙ ap (λ (r : Result Shape ImageRefusal). image_of_layout h r ws (length text)) e,
        ap (λ (vs : List ℕ). asked_behind (header_in vs) vs) told
            ∙ ap (λ (r : Result Header ImageRefusal). asked_behind r ws) (header_back h (words_in rest) head)
            ∙ ap (asked_for_slots h) e
            ∙ omega (arith, length-header),
      )

  -- the codes are asked for after a header that has no fault
  pub asked_codes : length (bytes_of (header_words h)) + WORD * code_count h.version h.units ≤ asked_of (bytes_of (header_words h) ++ rest)
  unfolding asked_of
  asked_codes =
      let ws = header_words h ++ words_in rest in
      let same : asked_behind (header_in (words_in (bytes_of (header_words h) ++ rest))) (words_in (bytes_of (header_words h) ++ rest))
      ≡ asked_for_slots h (layout_in h ws) =
      ap (λ (vs : List ℕ). asked_behind (header_in vs) vs) told
      ∙ ap (λ (r : Result Header ImageRefusal). asked_behind r ws) (header_back h (words_in rest) head) in
      omega (arith, same, asked_most h (layout_in h ws), length-header)
