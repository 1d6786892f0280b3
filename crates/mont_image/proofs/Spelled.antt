-- Bytes of words in a buffer, and what a sink took of them.
use Rattle.std.proofs.Common.{◌≡◌, ℕ, ◌+◌, ◌*◌, ◌<◌, ◌≤◌, List, [], ◌∷◌, ◌++◌, Option, map, length, take, drop, get_or, refl, sym, ap, ◌∙◌, subst, arith, length-append}
use Rattle.std.specs.Int.{w64, to_le_bytes}
use Rattle.std.specs.Io.KnownBytes.{Appends}
use Rattle.std.proofs.KnownBytes.{Appends-trans}
use Rattle.std.proofs.lemmas.List.{take-append-drop, take_more, take-append-le}
use Rattle.std.proofs.Math.Seq.{take-append-add}
use Rattle.std.proofs.lemmas.Slice.{take-put_mid}
use borrow.Rule.Slice.PartMut.{put_mid}
use Rattle.mont_base.specs.Layout.{Shape, code_of}
use Rattle.mont_image.specs.declared.image_text.TheConstants.{WORD}
use Rattle.mont_base.specs.Delivery.{AppendsFront}
use Rattle.mont_image.specs.declared.image_text.Version.TheVariants.{Third}
use Rattle.mont_image.specs.ImageText.{bytes_of, header_words, header_of, image_text, text_words_of}
use Rattle.mont_image.proofs.WordBytes.{bytes_of-append}

pub bytes_of_none : [] ≡ bytes_of []
unfolding bytes_of
bytes_of_none = refl

bytes_of_one : (w : ℕ) → bytes_of (w ∷ []) ≡ to_le_bytes w64 w
unfolding bytes_of
bytes_of_one w = refl

-- one word more is spelled
pub spelled_more : (buffer words copied : List ℕ) (at word k : ℕ) → at < length words → word ≡ get_or words at 0
    → copied ≡ to_le_bytes w64 word → WORD * at ≤ length buffer → take (WORD * at) buffer ≡ bytes_of (take at words)
    → take (WORD * (at + 1)) (put_mid (WORD * at) k buffer copied) ≡ bytes_of (take (at + 1) words)
spelled_more buffer words copied at word k inside is bytes room so_far =
    let long : length copied ≡ WORD = ap length bytes in
    take-put_mid (WORD * at) k buffer copied (WORD * (at + 1)) (omega arith) room
    ∙ (λ i. so_far i ++ bytes i)
    ∙ ap (λ (bs : List ℕ). bytes_of (take at words) ++ bs) (ap (to_le_bytes w64) is ∙ sym (bytes_of_one (get_or words at 0)))
    ∙ sym (bytes_of-append (take at words) (get_or words at 0 ∷ []))
    ∙ ap bytes_of (sym (take_more words at 0 inside))

-- a front of what follows was taken after the whole of what stands before it
pub front_behind : (old now new : Option (List ℕ)) (before bytes : List ℕ) → Appends old now before → AppendsFront now new bytes
    → AppendsFront old new (before ++ bytes)
front_behind old now new before bytes taken part =
    let n = part.0 in (
      length before + n,
      omega (arith, length-append before bytes, part.1),
      subst (λ (bs : List ℕ). Appends old new bs) (sym (take-append-add before bytes n))
          (Appends-trans old now new before (take n bytes) taken part.2),
    )

-- a front of what stands before is a front of the whole
pub front_before : (old new : Option (List ℕ)) (bytes behind : List ℕ) → AppendsFront old new bytes → AppendsFront old new (bytes ++ behind)
front_before old new bytes behind part = (
  part.0,
  omega (arith, length-append bytes behind, part.1),
  subst (λ (bs : List ℕ). Appends old new bs) (sym (take-append-le part.0 bytes behind part.1)) part.2,
)

-- a list that was cut in two
pub cut_back : (xs front back : List ℕ) (n : ℕ) → front ≡ take n xs → back ≡ drop n xs → xs ≡ front ++ back
cut_back xs front back n is_front is_back = sym (take-append-drop n xs) ∙ (λ i. sym is_front i ++ sym is_back i)

-- the words before a piece, the piece, and those after it
pub three_parts : (words front rest piece behind : List ℕ) → words ≡ front ++ rest → rest ≡ piece ++ behind
    → bytes_of words ≡ bytes_of front ++ (bytes_of piece ++ bytes_of behind)
three_parts words front rest piece behind is split =
    ap bytes_of (is ∙ ap (λ (ws : List ℕ). front ++ ws) split)
    ∙ bytes_of-append front (piece ++ behind)
    ∙ ap (λ (bs : List ℕ). bytes_of front ++ bs) (bytes_of-append piece behind)

-- three pieces that are written one after the other
module _ (old one two new : Option (List ℕ)) (front mid last : List ℕ) where
  pub all_three : (all : List ℕ) → all ≡ front ++ (mid ++ last) → Appends old one front → Appends one two mid → Appends two new last
      → Appends old new all
  all_three all is a b c =
      subst (λ (bs : List ℕ). Appends old new bs) (sym is)
      (Appends-trans old one new front (mid ++ last) a (Appends-trans one two new mid last b c))

  pub first_fails : (all : List ℕ) → all ≡ front ++ (mid ++ last) → AppendsFront old one front → AppendsFront old one all
  first_fails all is a = subst (λ (bs : List ℕ). AppendsFront old one bs) (sym is) (front_before old one front (mid ++ last) a)

  pub second_fails : (all : List ℕ) → all ≡ front ++ (mid ++ last) → Appends old one front → AppendsFront one two mid
      → AppendsFront old two all
  second_fails all is a b =
      subst (λ (bs : List ℕ). AppendsFront old two bs) (sym is)
      (front_behind old one two front (mid ++ last) a (front_before one two mid last b))

  pub third_fails : (all : List ℕ) → all ≡ front ++ (mid ++ last) → Appends old one front → Appends one two mid → AppendsFront two new last
      → AppendsFront old new all
  third_fails all is a b c =
      subst (λ (bs : List ℕ). AppendsFront old new bs) (sym is)
      (front_behind old one new front (mid ++ last) a (front_behind one two new mid last b c))

-- the text of an image as its three parts
pub image_parts : (s : Shape) (words : List ℕ)
    → image_text s words ≡ bytes_of (header_words (header_of Third s words)) ++ (bytes_of (map code_of s.kinds) ++ bytes_of (drop 1 words))
image_parts s words =
    three_parts (text_words_of Third s words) (header_words (header_of Third s words)) (map code_of s.kinds ++ drop 1 words)
    (map code_of s.kinds) (drop 1 words) refl refl
