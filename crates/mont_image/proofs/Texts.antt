-- What reading answers, told of the text as a whole.
use Rattle.std.proofs.Common.{◌≡◌, ℕ, ◌+◌, ◌*◌, ◌≤◌, List, [], ◌∷◌, ◌++◌, Option, Some, None, IfSome, Result, Ok, Err, IfOk, IfErr, length, take, drop, refl, sym, ap, ◌∙◌, subst, arith, append-nil, length-append, length-drop, length-take, take-append-drop}
use Rattle.std.specs.Prelude.{nat_le}
use Rattle.std.proofs.lemmas.Nat.{mul-le}
use Rattle.std.proofs.lemmas.List.{drop_all, length-map}
use Rattle.std.specs.Io.KnownBytes.{Consumes, IsAtEnd}
use Rattle.mont_base.specs.declared.kinds.UnitKind.{UnitKind}
use Rattle.mont_base.specs.Image.{clock_of}
use Rattle.mont_base.specs.Kinds.{old_kinds}
use Rattle.mont_base.specs.Layout.{Shape, IsLayout, shape, code_of, total_of}
use Rattle.mont_image.specs.declared.image_refusal.ImageRefusal.{ImageRefusal}
use Rattle.mont_image.specs.declared.image_refusal.ImageRefusal.TheVariants.{Magic, Version, Layout, Clock, Short, Long, Read, Memory}
use Rattle.mont_image.specs.declared.image_text.TheConstants.{HEADER, IMAGE_BYTES}
use Rattle.mont_image.specs.declared.image_text.Header.{Header}
use Rattle.mont_image.specs.declared.image_text.Version.{Version as VersionType}
use Rattle.mont_image.specs.declared.image_text.Version.TheVariants as versions
use Rattle.mont_image.specs.declared.stored_image.Image.{Image}
use Rattle.mont_base.specs.Losses.{LosesAtMost, LosesFirst}
use Rattle.mont_image.specs.ImageHeader.{IsHeader}
use Rattle.mont_image.specs.ImageLayout.{IsLayoutOf}
use Rattle.mont_image.specs.ImageReader.{Reads, RefusesText, IsAnswerTo, IsTaken, Gives, parts_of}
use Rattle.mont_image.specs.ImageRefusal.{OnBytes}
use Rattle.mont_image.specs.ImageText.{ImageParts, IsTextOf, HasKindsOf, most_units, units_told, codes_told, code_count, header_of, header_words, header_in, layout_in, layout_told, layout_of_kinds, kinds_of_codes, image_in, asked_of, asked_behind, asked_for_slots, is_old, bytes_of, words_in}
use Rattle.mont_image.specs.StoredImage.{slot_words, fields_of}
use Rattle.mont_image.proofs.WordBytes.{bytes_of-append, length-bytes_of}
use Rattle.mont_image.proofs.Headers.{header_is, unless_ok}
use Rattle.mont_image.proofs.Layouts.{length-old_kinds}
use Rattle.mont_image.proofs.Codes.{codes_back}
use Rattle.mont_image.proofs.WholeTexts.{just_slots, asked_of_codes, length-front}
use Rattle.mont_image.proofs.Reading.{drop_range}

-- ---- a text of an image

units_few : (v : VersionType) (s : Shape) → IsLayout s → HasKindsOf v s.kinds
    → (1 ≤ units_told v s.kinds) × (units_told v s.kinds ≤ most_units v)
units_few versions.First s layout has = (has.some, has.few)
units_few versions.Second s layout has = (has.some, has.few)
units_few versions.Third s layout has = (layout.kinds.some, layout.kinds.few)

behind_first : (words : List ℕ) → 1 ≤ length words → clock_of words ∷ drop 1 words ≡ words
behind_first [] some = absurd (omega arith)
behind_first (w ∷ words) some = refl

module _ (text : List ℕ) (p : ImageParts) (is : IsTextOf text p) where
  abbrev h : Header
  h = header_of is.version p.layout p.words

  head : IsHeader h
  head =
      let few = units_few is.version p.layout is.layout is.kinds in
      record {
        some_units = few.0;
        few_units = few.1;
        some_slots = is.layout.some_slots;
        few_slots = is.layout.few_slots;
        clock_begun = is.image.clock_begun;
        clock_last = is.image.clock_last;
      }

  layout : IsLayoutOf h p.layout
  layout = record { layout = is.layout; slots = refl; units = refl; kinds = is.kinds }

  abbrev behind : List ℕ
  behind = bytes_of (codes_told is.version p.layout.kinds) ++ bytes_of (drop 1 p.words)

  parted : text ≡ bytes_of (header_words h) ++ behind
  parted =
      is.spelled
      ∙ bytes_of-append (header_words h) (codes_told is.version p.layout.kinds ++ drop 1 p.words)
      ∙ ap (λ (bs : List ℕ). bytes_of (header_words h) ++ bs) (bytes_of-append (codes_told is.version p.layout.kinds) (drop 1 p.words))

  size : length p.words ≡ 1 + slot_words (is_old is.version) p.layout
  size = is.image.size ∙ ap (λ (b : _). 1 + slot_words b p.layout) is.old

  pub text_told : image_in text ≡ Ok p
  text_told =
      let words : clock_of p.words ∷ drop 1 p.words ≡ p.words = behind_first p.words (omega (arith, size)) in
      ap image_in parted
      ∙ just_slots h p.layout head layout (drop 1 p.words) (drop_range p.words is.in_range) (omega (arith, length-drop 1 p.words, size))
      ∙ (λ i. Ok (record { layout = p.layout; words = words i; old = sym is.old i }))

  -- all its bytes are asked for
  pub text_asked : length text ≤ asked_of text
  text_asked =
      let same = ap asked_of parted ∙ asked_of_codes h p.layout head layout (bytes_of (drop 1 p.words)) in
      omega (
        arith,
        same,
        ap length parted,
        length-append (bytes_of (header_words h)) behind,
        length-append (bytes_of (codes_told is.version p.layout.kinds)) (bytes_of (drop 1 p.words)),
        length-front h p.layout head layout,
        length-bytes_of (drop 1 p.words),
        length-drop 1 p.words,
        size,
      )

-- ---- how much is asked for at most

total_few : (units slots : ℕ) → units ≤ 16 → slots ≤ 4096 → units * slots ≤ 65536
total_few units slots few low = mul-le units slots 16 4096 few low

kinds_few : (cs : List ℕ) (n : ℕ) (o : Option (List UnitKind)) (slots : ℕ) (s : Shape) → o ≡ kinds_of_codes (take n cs)
    → layout_of_kinds o slots ≡ Ok s → (length s.kinds ≤ n) × (s.slots ≡ slots)
kinds_few cs n None slots s told e = cc
kinds_few cs n (Some ks) slots s told e =
    let same : shape ks slots ≡ s = cc in
    let long : length ks ≤ n =
    omega (arith, length-take n cs, ap length (codes_back (take n cs) ks (sym told)), length-map ks code_of) in (
      subst (λ (t : Shape). length t.kinds ≤ n) same long,
      ap (λ (t : Shape). t.slots) (sym same),
    )

abbrev IsLayoutTold : Result Shape ImageRefusal → Shape → Type 0
IsLayoutTold r s = r ≡ Ok s

old_few : (n slots : ℕ) (s : Shape) → IsLayoutTold (Ok (shape (old_kinds n) slots)) s → (length s.kinds ≡ n + 2) × (s.slots ≡ slots)
old_few n slots s e =
    let same : shape (old_kinds n) slots ≡ s = cc in (
      ap (λ (t : Shape). length t.kinds) (sym same) ∙ length-old_kinds n,
      ap (λ (t : Shape). t.slots) (sym same),
    )

-- a layout that is told has no more units than a layout may have
layout_few : (v : VersionType) (h : Header) (ws : List ℕ) (s : Shape) → h.units ≤ most_units v → layout_told v h ws ≡ Ok s
    → (length s.kinds ≤ 16) × (s.slots ≡ h.slots)
layout_few versions.First h ws s few e = let o = old_few h.units h.slots s e in (omega (arith, o.0), o.1)
layout_few versions.Second h ws s few e = let o = old_few h.units h.slots s e in (omega (arith, o.0), o.1)
layout_few versions.Third h ws s few e =
    let codes = take h.units (drop HEADER ws) in
    let told = unless_ok (nat_le (HEADER + h.units) (length ws)) (Short (length ws)) (layout_of_kinds (kinds_of_codes codes) h.slots) s e in
    let o = kinds_few (drop HEADER ws) h.units (kinds_of_codes codes) h.slots s refl told.1 in
    (omega (arith, o.0), o.1)

fields_few : (v : VersionType) → fields_of (is_old v) ≤ 12
fields_few versions.First = omega arith
fields_few versions.Second = omega arith
fields_few versions.Third = omega arith

codes_few : (v : VersionType) (units : ℕ) → units ≤ most_units v → code_count v units ≤ 16
codes_few versions.First units few = omega arith
codes_few versions.Second units few = omega arith
codes_few versions.Third units few = few

slots_few : (h : Header) (r : Result Shape ImageRefusal) (ws : List ℕ) → IsHeader h → r ≡ layout_in h ws
    → asked_for_slots h r ≤ IMAGE_BYTES + 1
slots_few h (Err fault) ws head told = omega (arith, codes_few h.version h.units head.few_units)
slots_few h (Ok s) ws head told =
    let few = layout_few h.version h ws s head.few_units (sym told) in
    let low = head.few_slots in
    let all = total_few (length s.kinds) s.slots few.0 (omega (arith, few.1)) in
    let words : slot_words (is_old h.version) s ≤ 12 * 65536 =
    mul-le (fields_of (is_old h.version)) (total_of s) 12 65536 (fields_few h.version) all in
    omega (arith, words, codes_few h.version h.units head.few_units)

behind_few : (r : Result Header ImageRefusal) (ws : List ℕ) → r ≡ header_in ws → asked_behind r ws ≤ IMAGE_BYTES + 1
behind_few (Err fault) ws told = omega arith
behind_few (Ok h) ws told = slots_few h (layout_in h ws) ws (header_is ws h (sym told)) refl

asked_few : (text : List ℕ) → asked_of text ≤ IMAGE_BYTES + 1
unfolding asked_of
asked_few text = behind_few (header_in (words_in text)) (words_in text) refl

-- ---- what reading answers

whole_text : (text : List ℕ) (new : Option (List ℕ)) (bytes : List ℕ) → Consumes (Some text) new bytes → IsAtEnd new → bytes ≡ text
whole_text text None bytes taken ended = absurd taken
whole_text text (Some rest) bytes taken ended = sym (taken ∙ ap (λ (xs : List ℕ). bytes ++ xs) ended ∙ append-nil bytes)

text_read : (text : List ℕ) (new : Option (List ℕ)) (p : ImageParts) → Reads (Some text) new p → IsTextOf text p
text_read text new p read = subst (λ (t : List ℕ). IsTextOf t p) (whole_text text new read.text read.taken read.ended) read.spelled

ended_taken : (text : List ℕ) (new : Option (List ℕ)) (p : ImageParts) → Reads (Some text) new p
    → LosesFirst (asked_of text) (Some text) new
ended_taken text None p read = read.taken
ended_taken text (Some rest) p read =
    read.ended ∙ sym (drop_all (asked_of text) text (text_asked text p (text_read text (Some rest) p read)))

first_few : (count : ℕ) (text : List ℕ) (new : Option (List ℕ)) → count ≤ IMAGE_BYTES + 1 → LosesFirst count (Some text) new
    → LosesAtMost (IMAGE_BYTES + 1) (Some text) new
first_few count text None few lost = absurd lost
first_few count text (Some rest) few lost = (
  take count text,
  omega (arith, length-take count text),
  sym (take-append-drop count text) ∙ ap (λ (xs : List ℕ). take count text ++ xs) (sym lost),
)

some_few : (count : ℕ) (text : List ℕ) (new : Option (List ℕ)) → count ≤ IMAGE_BYTES + 1 → LosesAtMost count (Some text) new
    → LosesAtMost (IMAGE_BYTES + 1) (Some text) new
some_few count text new few part = (part.0, omega (arith, part.1), part.2)

taken_few : (text : List ℕ) (new : Option (List ℕ)) (fault : ImageRefusal) → IsTaken {A = Image} text new (Err fault)
    → LosesAtMost (IMAGE_BYTES + 1) (Some text) new
taken_few text new Magic h = first_few (asked_of text) text new (asked_few text) h
taken_few text new Version h = first_few (asked_of text) text new (asked_few text) h
taken_few text new Layout h = first_few (asked_of text) text new (asked_few text) h
taken_few text new Clock h = first_few (asked_of text) text new (asked_few text) h
taken_few text new (Short words) h = first_few (asked_of text) text new (asked_few text) h
taken_few text new Long h = first_few (asked_of text) text new (asked_few text) h
taken_few text new Read h = some_few (asked_of text) text new (asked_few text) h
taken_few text new Memory h = some_few (asked_of text) text new (asked_few text) h

-- a text of an image isn't refused
not_refused : (fault : ImageRefusal) (told : Result ImageParts ImageRefusal) (p : ImageParts) → told ≡ Ok p
    → OnBytes fault (told ≡ Err fault)
    → OnBytes fault ⊥
not_refused Magic told p ok h = cc
not_refused Version told p ok h = cc
not_refused Layout told p ok h = cc
not_refused Clock told p ok h = cc
not_refused (Short words) told p ok h = cc
not_refused Long told p ok h = cc
not_refused Read told p ok h = tt
not_refused Memory told p ok h = tt

module _ (old new : Option (List ℕ)) where
  abbrev IsRead : Result Image ImageRefusal → Type 0
  IsRead r = IfOk r (λ image. Reads old new (parts_of image)) × IfErr r (λ fault. IfSome old (λ text. RefusesText text new fault))

pub is_answer : (old new : Option (List ℕ)) (r : Result Image ImageRefusal) → IsRead old new r → IfSome old (IsAnswerTo r)
is_answer None new r h = tt
is_answer (Some text) new (Ok image) h = text_told text (parts_of image) (text_read text new (parts_of image) h.0)
is_answer (Some text) new (Err fault) h = h.1.0

pub is_spelled : (old new : Option (List ℕ)) (r : Result Image ImageRefusal) → IsRead old new r
    → IfOk r (λ image. IfSome old (λ text. IsTextOf text (parts_of image)))
is_spelled None new (Ok image) h = tt
is_spelled (Some text) new (Ok image) h = text_read text new (parts_of image) h.0
is_spelled old new (Err fault) h = tt

pub is_accepted : (p : ImageParts) (old new : Option (List ℕ)) (r : Result Image ImageRefusal) → IsRead old new r
    → IfSome old (λ text. IsTextOf text p → Gives p r)
is_accepted p None new r h = tt
is_accepted p (Some text) new (Ok image) h = λ is.
    let one = text_told text p is in
    let other = text_told text (parts_of image) (text_read text new (parts_of image) h.0) in
    cc
is_accepted p (Some text) new (Err fault) h = λ is. not_refused fault (image_in text) p (text_told text p is) h.1.0

pub is_taken : (old new : Option (List ℕ)) (r : Result Image ImageRefusal) → IsRead old new r → IfSome old (λ text. IsTaken text new r)
is_taken None new r h = tt
is_taken (Some text) new (Ok image) h = ended_taken text new (parts_of image) h.0
is_taken (Some text) new (Err fault) h = h.1.1

pub is_few : (old new : Option (List ℕ)) (r : Result Image ImageRefusal) → IsRead old new r → LosesAtMost (IMAGE_BYTES + 1) old new
is_few None new r h = ([], omega arith, tt)
is_few (Some text) new (Ok image) h = first_few (asked_of text) text new (asked_few text) (ended_taken text new (parts_of image) h.0)
is_few (Some text) new (Err fault) h = taken_few text new fault h.1.1
