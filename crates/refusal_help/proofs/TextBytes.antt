-- Words that are read as the spellings of bytes.
use Rattle.std.proofs.Common.{◌≡◌, ◌≢◌, ℕ, ◌+◌, ◌<◌, ◌≤◌, List, [], ◌∷◌, ◌++◌, length, sym, ap, ◌∙◌, refl, arith, inl, inr}
use Rattle.std.proofs.lemmas.Bool.{cases_Bool}
use Rattle.std.proofs.lemmas.List.{append_assoc, append-nil, length-append}
use Rattle.std.proofs.lemmas.Grind.{flat_map-append}
use Rattle.std.proofs.lemmas.List.Elements.{All-nil, All-push}
use Rattle.mont_base.specs.declared.constants.TheConstants.{TEXT_BYTES}
use Rattle.refusal_help.specs.TextWords.{is_bare, byte_word, bytes_word, text_word, AreBytes, IsTextWord, StopsAt, IsLong}

-- a spelling has a byte
word_some : (b : ℕ) → 1 ≤ length (byte_word b)
word_some b = elim (cases_Bool (is_bare b)) [
  | inl bare ↦ rw bare (omega arith)
  | inr marked ↦ rw marked (omega arith)
]

-- The word is the spellings of so many bytes, and then the rest.
pub record HasTaken (word rest : List ℕ) (count : ℕ) : Type 0 where
  pub bytes : List ℕ
  pub are_bytes : AreBytes bytes
  pub joined : word ≡ bytes_word bytes ++ rest
  pub counted : length bytes ≡ count
  pub short : count + length rest ≤ length word

pub begun : (word : List ℕ) → HasTaken word word 0
begun word = record {
  bytes = [];
  are_bytes = All-nil (λ b. b < 256);
  joined = refl;
  counted = refl;
  short = omega arith;
}

pub one_byte : (word rest after : List ℕ) (count byte : ℕ) → HasTaken word rest count → byte < 256 → rest ≡ byte_word byte ++ after
    → HasTaken word after (count + 1)
one_byte word rest after count byte taken low next =
    let more : bytes_word (taken.bytes ++ byte ∷ []) ≡ bytes_word taken.bytes ++ byte_word byte =
    flat_map-append byte_word taken.bytes (byte ∷ [])
    ∙ ap (λ (bs : List ℕ). bytes_word taken.bytes ++ bs) (append-nil (byte_word byte)) in
    record {
      bytes = taken.bytes ++ byte ∷ [];
      are_bytes = All-push (λ b. b < 256) taken.bytes byte taken.are_bytes low;
      joined =
          taken.joined
          ∙ ap (λ (bs : List ℕ). bytes_word taken.bytes ++ bs) next
          ∙ sym (append_assoc (bytes_word taken.bytes) (byte_word byte) after)
          ∙ ap (λ (bs : List ℕ). bs ++ after) (sym more);
      counted = omega (arith, length-append taken.bytes (byte ∷ []), taken.counted);
      short =
          omega (arith, taken.short, ap length next, length-append (byte_word byte) after, word_some byte);
    }

-- nothing is left
ended : (rest : List ℕ) → length rest < 1 → rest ≡ []
ended [] none = refl
ended (b ∷ bs) none = absurd (omega arith)

all_taken : (word rest : List ℕ) (count : ℕ) → (taken : HasTaken word rest count) → length rest < 1 → word ≡ bytes_word taken.bytes
all_taken word rest count taken none =
    taken.joined ∙ ap (λ (bs : List ℕ). bytes_word taken.bytes ++ bs) (ended rest none) ∙ append-nil (bytes_word taken.bytes)

some_text : (word bytes : List ℕ) → 0 < length word → word ≡ bytes_word bytes → word ≡ text_word bytes
some_text word [] some is = absurd (omega (arith, ap length is))
some_text word (b ∷ bs) some is = is

pub is_text : (word rest : List ℕ) (count : ℕ) → HasTaken word rest count → length rest < 1 → 0 < length word → count ≤ TEXT_BYTES
    → IsTextWord word
is_text word rest count taken none some few =
    let fits : length taken.bytes ≤ TEXT_BYTES = omega (arith, taken.counted, few) in (
      taken.bytes,
      record { short = fits; bytes = taken.are_bytes },
      some_text word taken.bytes some (all_taken word rest count taken none),
    )

pub is_long : (word rest : List ℕ) (count : ℕ) → HasTaken word rest count → length rest < 1 → TEXT_BYTES < count → IsLong word count
is_long word rest count taken none many = record {
  bytes = taken.bytes;
  are_bytes = taken.are_bytes;
  spelled = all_taken word rest count taken none;
  counted = taken.counted;
  long = many;
}

pub stops_at : (word rest : List ℕ) (count at : ℕ) → HasTaken word rest count → at + length rest ≡ length word
    → ((byte : ℕ) (after : List ℕ) → byte < 256 → rest ≢ byte_word byte ++ after) → StopsAt word at
stops_at word rest count at taken behind none = record {
  bytes = taken.bytes;
  are_bytes = taken.are_bytes;
  behind = rest;
  joined = taken.joined;
  counted = behind;
  none = none;
}
