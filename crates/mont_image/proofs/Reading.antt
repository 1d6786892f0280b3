-- Parts of a text, read one after the other.
use Rattle.std.proofs.Common.{◌≡◌, ℕ, ◌+◌, ◌*◌, ◌≤◌, List, [], ◌++◌, Option, Some, None, IfSome, Err, length, drop, refl, sym, ap, ◌∙◌, subst, arith, append_assoc, append-nil, length-append, length-drop, IsTrue}
use Rattle.std.proofs.lemmas.List.{drop_all, get_or-drop}
use Rattle.std.proofs.Math.Seq.{drop-append-add}
use Rattle.std.proofs.KnownBytes.{Consumes-nil, Consumes-trans}
use Rattle.std.specs.Io.KnownBytes.{Consumes, IsAtEnd}
use Rattle.mont_base.specs.declared.kinds.UnitKind.{UnitKind}
use Rattle.mont_base.specs.Layout.{Shape}
use Rattle.mont_image.specs.declared.image_refusal.ImageRefusal.{ImageRefusal}
use Rattle.mont_image.specs.declared.image_refusal.ImageRefusal.TheVariants.{Magic, Version, Layout, Clock, Short, Long, Read, Memory}
use Rattle.mont_image.specs.declared.image_text.TheConstants.{WORD, HEADER}
use Rattle.mont_image.specs.declared.image_text.Header.{Header}
use Rattle.mont_image.specs.declared.image_text.Version.{Version as VersionType}
use Rattle.mont_image.specs.declared.image_text.Version.TheVariants as versions
use Rattle.mont_base.specs.Losses.{LosesAtMost, LosesFirst}
use Rattle.mont_image.specs.ImageHeader.{IsHeader}
use Rattle.mont_image.specs.ImageLayout.{IsLayoutOf}
use Rattle.mont_image.specs.ImageReader.{Reads, RefusesText, RefusesSlots, RefusesMore, HasSlots}
use Rattle.mont_image.specs.ImageRefusal.{Refuses}
use Rattle.mont_image.specs.ImageText.{ImageParts, IsTextOf, HasKindsOf, header_of, text_in_version, header_in, layout_in, header_words, codes_told, code_count, image_in, asked_of, is_old, bytes_of, words_in}
use Rattle.mont_image.specs.StoredImage.{IsImage, IsOldKinds, slot_words}
use Rattle.mont_image.proofs.Filling.{loses_behind}
use Rattle.mont_image.proofs.WordBytes.{AreWords, bytes_of-append, length-bytes_of}
use Rattle.mont_image.proofs.WholeTexts.{header_refuses, asked_header, layout_refuses, asked_codes, short_slots, long_slots, asked_of_codes, length-front}

old_kinds_has : (v : VersionType) (ks : List UnitKind) → HasKindsOf v ks → IsTrue (is_old v) → IsOldKinds ks
old_kinds_has versions.First ks has e = has
old_kinds_has versions.Second ks has e = cc
old_kinds_has versions.Third ks has e = cc

pub is_image : (h : Header) (s : Shape) (words : List ℕ) → IsHeader h → IsLayoutOf h s → HasSlots h s words
    → IsImage s words (is_old h.version)
is_image h s words head layout has =
    let clock = has.clock in
    record {
      size = has.size;
      clock_begun = omega (arith, clock, head.clock_begun);
      clock_last = omega (arith, clock, head.clock_last);
      kinds = old_kinds_has h.version s.kinds layout.kinds;
    }

-- A part is refused after these bytes, of which so many are read then: what follows says that the
-- whole is refused so, and how much of it is asked for.
module _ (bytes : List ℕ) (count : ℕ) (P : ImageRefusal → List ℕ → Type 0) where
  abbrev IsTold : Type 0
  IsTold = (fault : ImageRefusal) (rest : List ℕ) → P fault rest
      → (image_in (bytes ++ rest) ≡ Err fault) × (drop (asked_of (bytes ++ rest)) (bytes ++ rest) ≡ drop count rest)

  abbrev IsAsked : Type 0
  IsAsked = (rest : List ℕ) → length bytes + count ≤ asked_of (bytes ++ rest)

  lost : (rest : List ℕ) (new : Option (List ℕ)) → drop (asked_of (bytes ++ rest)) (bytes ++ rest) ≡ drop count rest
      → LosesFirst count (Some rest) new → LosesFirst (asked_of (bytes ++ rest)) (Some (bytes ++ rest)) new
  lost rest None same h = absurd h
  lost rest (Some left) same h = h ∙ sym same

  some_lost : (rest : List ℕ) (new : Option (List ℕ)) → length bytes + count ≤ asked_of (bytes ++ rest) → LosesAtMost count (Some rest) new
      → LosesAtMost (asked_of (bytes ++ rest)) (Some (bytes ++ rest)) new
  some_lost rest new few part =
      loses_behind (asked_of (bytes ++ rest)) count (Some (bytes ++ rest)) (Some rest) new bytes refl part few

  refused : (fault : ImageRefusal) (rest : List ℕ) (new : Option (List ℕ)) → IsTold → IsAsked → Refuses count P (Some rest) new fault
      → RefusesText (bytes ++ rest) new fault
  refused Magic rest new told asked h = let t = told Magic rest h.1 in (t.0, lost rest new t.1 h.0)
  refused Version rest new told asked h = let t = told Version rest h.1 in (t.0, lost rest new t.1 h.0)
  refused Layout rest new told asked h = let t = told Layout rest h.1 in (t.0, lost rest new t.1 h.0)
  refused Clock rest new told asked h = let t = told Clock rest h.1 in (t.0, lost rest new t.1 h.0)
  refused (Short words) rest new told asked h = let t = told (Short words) rest h.1 in (t.0, lost rest new t.1 h.0)
  refused Long rest new told asked h = let t = told Long rest h.1 in (t.0, lost rest new t.1 h.0)
  refused Read rest new told asked h = (tt, some_lost rest new (asked rest) h)
  refused Memory rest new told asked h = (tt, some_lost rest new (asked rest) h)

  part_refused : (old now new : Option (List ℕ)) (fault : ImageRefusal) → Consumes old now bytes → IsTold → IsAsked
      → Refuses count P now new fault → IfSome old (λ text. RefusesText text new fault)
  part_refused None now new fault taken told asked h = tt
  part_refused (Some text) None new fault taken told asked h = absurd taken
  part_refused (Some text) (Some rest) new fault taken told asked h =
      subst (λ (t : List ℕ). RefusesText t new fault) (sym taken) (refused fault rest new told asked h)

pub drop_range : (words : List ℕ) → AreWords words → AreWords (drop 1 words)
drop_range words range k d inside = rw get_or-drop (range (1 + k) d (omega (arith, length-drop 1 words)))

-- the whole of what is asked for is after the bytes
exactly : (bytes rest : List ℕ) (asked count : ℕ) → asked ≡ length bytes + count → drop asked (bytes ++ rest) ≡ drop count rest
exactly bytes rest asked count e = ap (λ (n : ℕ). drop n (bytes ++ rest)) e ∙ drop-append-add bytes rest count

pub header_part : (old new : Option (List ℕ)) (fault : ImageRefusal)
    → Refuses (WORD * HEADER) (λ f text. header_in (words_in text) ≡ Err f) old new fault → IfSome old (λ text. RefusesText text new fault)
header_part old new fault h =
    part_refused [] (WORD * HEADER) (λ f text. header_in (words_in text) ≡ Err f) old old new fault (Consumes-nil old)
    (λ f rest e. let t = header_refuses rest f e in (t.0, ap (λ (n : ℕ). drop n rest) t.1)) asked_header h

module _ (h : Header) (head : IsHeader h) (old one : Option (List ℕ)) (taken : Consumes old one (bytes_of (header_words h))) where
  pub layout_part : (new : Option (List ℕ)) (fault : ImageRefusal)
      → Refuses (WORD * code_count h.version h.units) (λ f rest. layout_in h (header_words h ++ words_in rest) ≡ Err f) one new fault
      → IfSome old (λ text. RefusesText text new fault)
  layout_part new fault refuses =
      let bytes = bytes_of (header_words h) in
      let count = WORD * code_count h.version h.units in
      part_refused bytes count (λ f rest. layout_in h (header_words h ++ words_in rest) ≡ Err f) old one new fault taken
      (λ f rest e. let t = layout_refuses h head rest f e in (t.0, exactly bytes rest (asked_of (bytes ++ rest)) count t.1))
      (asked_codes h head) refuses

  module _ (s : Shape) (layout : IsLayoutOf h s) (two : Option (List ℕ))
      (told : Consumes one two (bytes_of (codes_told h.version s.kinds))) where
    abbrev front : List ℕ
    front = bytes_of (header_words h) ++ bytes_of (codes_told h.version s.kinds)

    abbrev slots : ℕ
    slots = slot_words (is_old h.version) s

    front_taken : Consumes old two front
    front_taken = Consumes-trans old one two (bytes_of (header_words h)) (bytes_of (codes_told h.version s.kinds)) taken told

    asked_for : (rest : List ℕ) → asked_of (front ++ rest) ≡ length front + (WORD * slots + 1)
    asked_for rest =
        ap asked_of (append_assoc (bytes_of (header_words h)) (bytes_of (codes_told h.version s.kinds)) rest)
        ∙ asked_of_codes h s head layout rest
        ∙ omega (
          arith,
          length-append (bytes_of (header_words h)) (bytes_of (codes_told h.version s.kinds)),
          length-front h s head layout,
        )

    early : (fault : ImageRefusal) (rest : List ℕ) → RefusesSlots h s fault rest
        → (image_in (front ++ rest) ≡ Err fault) × (drop (asked_of (front ++ rest)) (front ++ rest) ≡ drop (WORD * slots) rest)
    early Magic rest e = absurd e
    early Version rest e = absurd e
    early Layout rest e = absurd e
    early Clock rest e = absurd e
    early (Short whole) rest e =
        let few = e.few in (
          ap image_in (append_assoc (bytes_of (header_words h)) (bytes_of (codes_told h.version s.kinds)) rest)
              ∙ short_slots h s head layout rest whole e.words few,
          drop_all (asked_of (front ++ rest)) (front ++ rest) (omega (arith, asked_for rest, length-append front rest))
              ∙ sym (drop_all (WORD * slots) rest (omega arith)),
        )
    early Long rest e = absurd e
    early Read rest e = absurd e
    early Memory rest e = absurd e

    pub slots_part : (new : Option (List ℕ)) (fault : ImageRefusal) → Refuses (WORD * slots) (RefusesSlots h s) two new fault
        → IfSome old (λ text. RefusesText text new fault)
    slots_part new fault refuses =
        part_refused front (WORD * slots) (RefusesSlots h s) old two new fault front_taken early
        (λ rest. omega (arith, asked_for rest)) refuses

    module _ (words : List ℕ) (has : HasSlots h s words) (three : Option (List ℕ))
        (read : Consumes two three (bytes_of (drop 1 words))) where
      abbrev whole : List ℕ
      whole = front ++ bytes_of (drop 1 words)

      length-slots : length (bytes_of (drop 1 words)) ≡ WORD * slots
      length-slots = omega (arith, length-bytes_of (drop 1 words), length-drop 1 words, has.size)

      more : (fault : ImageRefusal) (rest : List ℕ) → RefusesMore fault rest
          → (image_in (whole ++ rest) ≡ Err fault) × (drop (asked_of (whole ++ rest)) (whole ++ rest) ≡ drop 1 rest)
      more Magic rest e = absurd e
      more Version rest e = absurd e
      more Layout rest e = absurd e
      more Clock rest e = absurd e
      more (Short whole) rest e = absurd e
      more Long rest e =
          let tail : AreWords (drop 1 words) = drop_range words has.in_range in (
            ap image_in (append_assoc front (bytes_of (drop 1 words)) rest
                ∙ append_assoc (bytes_of (header_words h)) (bytes_of (codes_told h.version s.kinds)) (bytes_of (drop 1 words) ++ rest))
                ∙ long_slots h s head layout (drop 1 words) rest tail (omega (arith, length-drop 1 words, has.size)) e,
            exactly whole rest (asked_of (whole ++ rest)) 1
                (ap asked_of (append_assoc front (bytes_of (drop 1 words)) rest)
                ∙ asked_for (bytes_of (drop 1 words) ++ rest)
                ∙ omega (arith, length-append front (bytes_of (drop 1 words)), length-slots)),
          )
      more Read rest e = absurd e
      more Memory rest e = absurd e

      pub end_part : (new : Option (List ℕ)) (fault : ImageRefusal) → Refuses 1 RefusesMore three new fault
          → IfSome old (λ text. RefusesText text new fault)
      end_part new fault refuses =
          part_refused whole 1 RefusesMore old three new fault
          (Consumes-trans old two three front (bytes_of (drop 1 words)) front_taken read) more
          (λ rest.
          omega (
            arith,
            ap asked_of (append_assoc front (bytes_of (drop 1 words)) rest),
            asked_for (bytes_of (drop 1 words) ++ rest),
            length-append front (bytes_of (drop 1 words)),
            length-slots,
          )) refuses

      abbrev parts : ImageParts
      parts = record { layout = s; words = words; old = is_old h.version }

      same_header : header_of h.version s words ≡ h
      same_header = λ i. record {
        version = h.version;
        units = layout.units i;
        slots = layout.slots i;
        clock = has.clock i;
      }

      spelled : text_in_version h.version s words ≡ whole
      spelled =
          ap (λ (k : Header). bytes_of (header_words k ++ (codes_told h.version s.kinds ++ drop 1 words))) same_header
          ∙ bytes_of-append (header_words h) (codes_told h.version s.kinds ++ drop 1 words)
          ∙ ap (λ (bs : List ℕ). bytes_of (header_words h) ++ bs) (bytes_of-append (codes_told h.version s.kinds) (drop 1 words))
          ∙ sym (append_assoc (bytes_of (header_words h)) (bytes_of (codes_told h.version s.kinds)) (bytes_of (drop 1 words)))

      pub is_text : IsTextOf whole parts
      is_text = record {
        version = h.version;
        layout = layout.layout;
        image = is_image h s words head layout has;
        in_range = has.in_range;
        old = refl;
        kinds = layout.kinds;
        spelled = sym spelled;
      }

      pub whole_read : (new : Option (List ℕ)) → Consumes three new [] → IsAtEnd new → Reads old new parts
      whole_read new kept ended = record {
        text = whole;
        spelled = is_text;
        taken =
            subst (λ (bs : List ℕ). Consumes old new bs) (append-nil whole)
            (Consumes-trans old three new whole [] (Consumes-trans old two three front (bytes_of (drop 1 words)) front_taken read) kept);
        ended = ended;
      }
