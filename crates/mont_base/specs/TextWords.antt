-- How a text is kept in place.
use Rattle.std.specs.Prelude.{◌≡◌, ℕ, ◌≤◌, List, [], ◌∷◌, length, take, drop}
use Rattle.std.specs.Int.{w64, from_le_bytes}
use Rattle.std.proofs.Common.{get_or, sym, ap, arith, length-take}
use Rattle.mont_base.specs.declared.constants.TheConstants.{TEXT_BYTES}
use Rattle.mont_base.specs.declared.text.Text.TheInside.{Inside}
use Rattle.mont_base.specs.Texts.{byte_words, bytes_of_words}

unfoldable pub bytes_of_text : Inside → List ℕ
bytes_of_text t = take t.len (bytes_of_words t.first t.second t.third)

-- the words are those of the bytes: after the end they are 0
pub record IsTextInside (t : Inside) : Type 0 where
  pub short : t.len ≤ TEXT_BYTES
  pub words : t.first ∷ t.second ∷ t.third ∷ [] ≡ byte_words (bytes_of_text t)

unfoldable pub inside_of_bytes : List ℕ → Inside
inside_of_bytes text = record {
  len = length text;
  first = from_le_bytes w64 text;
  second = from_le_bytes w64 (drop 8 text);
  third = from_le_bytes w64 (drop 16 text);
}

pub inverse_of_view : (t : Inside) → IsTextInside t → inside_of_bytes (bytes_of_text t) ≡ t
unfolding bytes_of_text inside_of_bytes byte_words bytes_of_words
inverse_of_view t h =
    let long : length (bytes_of_text t) ≡ t.len =
    omega (arith, length-take t.len (bytes_of_words t.first t.second t.third), h.short) in
    let word : (i : ℕ) → get_or (t.first ∷ t.second ∷ t.third ∷ []) i 0 ≡ get_or
    (byte_words (bytes_of_text t)) i 0 =
    λ i. ap (λ (ws : List ℕ). get_or ws i 0) h.words in
    λ i. record
    { len = long i; first = sym (word 0) i; second = sym (word 1) i; third = sym (word 2) i }
