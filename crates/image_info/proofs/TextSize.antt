-- How long the text of an image is at most.
use Rattle.std.proofs.Common.{ℕ, ◌*◌, ◌≤◌, Bool, true, false, List, ◌++◌, length, drop, ap, arith, length-append, length-drop}
use Rattle.std.proofs.lemmas.Nat.{mul-le}
use Rattle.std.proofs.lemmas.List.{length-map}
use Rattle.mont_base.specs.declared.kinds.UnitKind.{UnitKind}
use Rattle.mont_base.specs.Layout.{code_of, total_of}
use Rattle.mont_image.specs.declared.image_text.TheConstants.{IMAGE_BYTES}
use Rattle.mont_image.specs.declared.image_text.Version.{Version}
use Rattle.mont_image.specs.declared.image_text.Version.TheVariants.{First, Second, Third}
use Rattle.mont_image.specs.ImageText.{ImageParts, IsTextOf, codes_told, header_of, header_words, text_words_of}
use Rattle.mont_image.specs.StoredImage.{fields_of, slot_words}
use Rattle.mont_image.proofs.WordBytes.{length-bytes_of}

codes_few : (v : Version) (ks : List UnitKind) → length ks ≤ 16 → length (codes_told v ks) ≤ 16
codes_few First ks few = omega arith
codes_few Second ks few = omega arith
codes_few Third ks few = omega (arith, length-map ks code_of)

fields_few : (old : Bool) → fields_of old ≤ 12
fields_few true = omega arith
fields_few false = omega arith

pub text_few : (text : List ℕ) (p : ImageParts) → IsTextOf text p → length text ≤ IMAGE_BYTES
text_few text p is =
    let s = p.layout in
    let codes = codes_told is.version s.kinds in
    let words = text_words_of is.version s p.words in
    let total : total_of s ≤ 65536 = mul-le (length s.kinds) s.slots 16 4096 is.layout.kinds.few is.layout.few_slots in
    let slots : slot_words p.old s ≤ 12 * 65536 = mul-le (fields_of p.old) (total_of s) 12 65536 (fields_few p.old) total in
    omega (
      arith,
      ap length is.spelled,
      length-bytes_of words,
      length-append (header_words (header_of is.version s p.words)) (codes ++ drop 1 p.words),
      length-append codes (drop 1 p.words),
      length-drop 1 p.words,
      codes_few is.version s.kinds is.layout.kinds.few,
      is.image.size,
      slots,
    )
