-- A pair is read back from its body, and from no other.
use Rattle.std.proofs.Common.{◌≡◌, ℕ, zero, suc, ◌^◌, ◌<◌, ◌≤◌, Bool, true, false, cond, List, [], ◌∷◌, length, take, drop, get_or, Some, None, refl, sym, ap, ◌∙◌, arith, length-take}
use Rattle.std.specs.Prelude.{nat_le, ◌&&◌}
use Rattle.std.specs.Cmp.{first_so, second_so}
use Rattle.std.proofs.lemmas.Bool.{leb-true}
use Rattle.std.proofs.lemmas.Grind.{same_number_lists}
use Rattle.std.proofs.lemmas.Nat.{from_le_bytes-to_le_bytes_8}
use Rattle.mont_base.specs.declared.constants.TheConstants.{BODY, TEXT_BYTES}
use Rattle.mont_base.specs.Texts.{IsText, byte_words, bytes_of_words, text_words, text_of_words, are_zero}
use Rattle.mont_base.specs.Bodies.{pair_body, pair_in, both}
use Rattle.mont_base.proofs.Texts.{text_back, words_of_front, length-bytes_of_words}

-- a pair is read back
pub pair_in-pair_body : (key value : List ℕ) → IsText key → IsText value → pair_in (pair_body key value) ≡ Some (key, value)
unfolding byte_words
pair_in-pair_body key value is it = λ i. both (text_back key is i) (text_back value it i)

-- the words of both texts, as they stand in the body
abbrev pub pair_words : List ℕ → List ℕ → List ℕ
pair_words ks vs =
    get_or ks 0 0 ∷ get_or vs 0 0
    ∷ get_or ks 1 0 ∷ get_or ks 2 0 ∷ get_or ks 3 0 ∷ get_or vs 1 0 ∷ get_or vs 2 0 ∷ get_or vs 3 0 ∷ []

pub pair_body-words : (key value ks vs : List ℕ) → ks ≡ text_words key → vs ≡ text_words value → pair_words ks vs ≡ pair_body key value
unfolding byte_words
pair_body-words key value ks vs k v = λ i. pair_words (k i) (v i)

given : {A : Type 0} (b : Bool) (x y : A) → cond b (Some x) None ≡ Some y → (b ≡ true) × (x ≡ y)
given true x y e = (refl, cc)
given false x y e = cc

module _ (len a b c : ℕ) (text : List ℕ) where
  -- the words of a text that was read are those that it was read from
  pub text_words-read : a < 2 ^ 64 → b < 2 ^ 64 → c < 2 ^ 64 → text_of_words len a b c ≡ Some text → text_words text ≡ len ∷ a ∷ b ∷ c ∷ []
  unfolding byte_words bytes_of_words
  text_words-read x y z e =
      let held = bytes_of_words a b c in
      let is = given (nat_le len TEXT_BYTES && are_zero (drop len held)) (take len held) text e in
      let short : len ≤ TEXT_BYTES = leb-true len TEXT_BYTES (first_so (nat_le len TEXT_BYTES) (are_zero (drop len held)) is.0) in
      let clean : are_zero (drop len held) ≡ true = second_so (nat_le len TEXT_BYTES) (are_zero (drop len held)) is.0 in
      let long : length (take len held) ≡ len = omega (arith, length-take len held, length-bytes_of_words a b c) in
      ap text_words (sym is.1)
      ∙ (λ i. long i ∷ sym (words_of_front held len clean) i)
      ∙ (λ i. len ∷ from_le_bytes-to_le_bytes_8 a x i ∷ from_le_bytes-to_le_bytes_8 b y i ∷ from_le_bytes-to_le_bytes_8 c z i ∷ [])

module _ (body : List ℕ) (size : length body ≡ BODY) (words : (i : ℕ) → get_or body i 0 < 2 ^ 64) where
  abbrev word : ℕ → ℕ
  word i = get_or body i 0

  abbrev word_list : List ℕ
  word_list = word 0 ∷ word 1 ∷ word 2 ∷ word 3 ∷ word 4 ∷ word 5 ∷ word 6 ∷ word 7 ∷ []

  word_at : (k : ℕ) → k < length body → get_or body k 0 ≡ get_or word_list k 0
  word_at zero h = refl
  word_at (suc zero) h = refl
  word_at (suc (suc zero)) h = refl
  word_at (suc (suc (suc zero))) h = refl
  word_at (suc (suc (suc (suc zero)))) h = refl
  word_at (suc (suc (suc (suc (suc zero))))) h = refl
  word_at (suc (suc (suc (suc (suc (suc zero)))))) h = refl
  word_at (suc (suc (suc (suc (suc (suc (suc zero))))))) h = refl
  word_at (suc (suc (suc (suc (suc (suc (suc (suc k)))))))) h = absurd (omega (arith, size))

  -- a body that a pair was read from is the one of the pair
  pub pair_body-read : (key value : List ℕ) → text_of_words (word 0) (word 2) (word 3) (word 4) ≡ Some key
      → text_of_words (word 1) (word 5) (word 6) (word 7) ≡ Some value → body ≡ pair_body key value
  pair_body-read key value k v =
      same_number_lists body word_list size word_at
      ∙ pair_body-words key value (word 0 ∷ word 2 ∷ word 3 ∷ word 4 ∷ []) (word 1 ∷ word 5 ∷ word 6 ∷ word 7 ∷ [])
      (sym (text_words-read (word 0) (word 2) (word 3) (word 4) key (words 2) (words 3) (words 4) k))
      (sym (text_words-read (word 1) (word 5) (word 6) (word 7) value (words 5) (words 6) (words 7) v))
