-- The codes of kinds.
use Rattle.std.proofs.Common.{◌≡◌, ◌≢◌, ℕ, zero, suc, ◌+◌, ◌*◌, ◌/◌, ◌%◌, ◌<◌, ◌≤◌, List, [], ◌∷◌, ◌++◌, map, length, take, get_or, subst, length-append, IfSome, IfOk, IfErr, Option, Some, None, Result, Ok, Err, refl, sym, ap, ◌∙◌, arith, MatchResult}
use Rattle.std.specs.Prelude.{option_map, ok_or}
use Rattle.std.specs.Result.{result_ok}
use Rattle.std.specs.Int.{w64, from_le_bytes}
use Rattle.std.specs.Simd.{first_chunks}
use Rattle.std.proofs.lemmas.List.{map-append, get_or-map, length-map, take_all, take_at}
use Rattle.mont_base.specs.declared.kinds.UnitKind.{UnitKind}
use Rattle.mont_base.specs.Bodies.{both}
use Rattle.mont_base.specs.Layout.{IsKinds, code_of, kind_of_code, letter_of, letters_of}
use Rattle.mont_base.proofs.KindTable.{kind_back, code_back, no_kind, same_letter}
use Rattle.std.specs.Io.KnownBytes.{Consumes, IsAtEnd}
use Rattle.mont_base.specs.declared.constants.TheConstants.{MOST_UNITS}
use Rattle.mont_image.specs.declared.image_refusal.ImageRefusal.{ImageRefusal}
use Rattle.mont_image.specs.declared.image_refusal.ImageRefusal.TheVariants as faults
use Rattle.mont_image.specs.declared.image_text.TheConstants.{WORD, HEADER}
use Rattle.mont_image.specs.ImageLayout.{RefusesCodes}
use Rattle.mont_image.specs.ImageRefusal.{Refuses}
use Rattle.mont_image.specs.ImageText.{kinds_of_codes, bytes_of, words_in}
use Rattle.mont_image.proofs.WordBytes.{AreBytes, bytes_of-words_in, length-bytes_of, length-words_in, words_in-append}
use Rattle.mont_image.proofs.Filling.{refuses_front, refuses_whole}

abbrev joined : Option UnitKind → Option (List UnitKind) → Option (List UnitKind)
joined k ks = option_map (λ p. p.0 ∷ p.1) (both k ks)

pub kinds_back : (ks : List UnitKind) → kinds_of_codes (map code_of ks) ≡ Some ks
kinds_back [] = refl
kinds_back (k ∷ ks) = ap (λ (o : Option UnitKind). joined o (kinds_of_codes (map code_of ks))) (kind_back k)
    ∙ ap (joined (Some k)) (kinds_back ks)

joined_some : (o : Option UnitKind) (os : Option (List UnitKind)) (ks : List UnitKind) → joined o os ≡ Some ks
    → (k : UnitKind) × (rest : List UnitKind) × (o ≡ Some k) × (os ≡ Some rest) × (ks ≡ k ∷ rest)
joined_some None os ks e = cc
joined_some (Some k) None ks e = cc
joined_some (Some k) (Some rest) ks e = (k, rest, refl, refl, cc)

pub codes_back : (cs : List ℕ) (ks : List UnitKind) → kinds_of_codes cs ≡ Some ks → cs ≡ map code_of ks
codes_back [] ks e = let none : [] ≡ ks = cc in ap (map code_of) none
codes_back (c ∷ cs) ks e =
    let parts = joined_some (kind_of_code c) (kinds_of_codes cs) ks e in
    ap (λ (n : ℕ). n ∷ cs) (code_back c parts.0 parts.2)
    ∙ ap (λ (ns : List ℕ). code_of parts.0 ∷ ns) (codes_back cs parts.1 parts.3)
    ∙ sym (ap (map code_of) parts.4)

no_rest : (o : Option UnitKind) → joined o None ≡ None
no_rest None = refl
no_rest (Some k) = refl

-- one code of no kind is enough
pub no_kinds : (cs : List ℕ) (i : ℕ) → i < length cs → ((k : UnitKind) → get_or cs i 0 ≢ code_of k) → kinds_of_codes cs ≡ None
no_kinds [] i inside none = absurd (omega arith)
no_kinds (c ∷ cs) zero inside none = ap (λ (o : Option UnitKind). joined o (kinds_of_codes cs)) (no_kind c none)
no_kinds (c ∷ cs) (suc i) inside none =
    ap (joined (kind_of_code c)) (no_kinds cs i (omega arith) none) ∙ no_rest (kind_of_code c)

-- ---- codes and letters of the same kinds

abbrev pub AreAlike : List ℕ → List ℕ → Type 0
AreAlike codes letters = (ks : List UnitKind) × (codes ≡ map code_of ks) × (letters ≡ letters_of ks)

pub alike_more : (codes letters more written : List ℕ) (code letter : ℕ) (k : UnitKind) → AreAlike codes letters → code ≡ code_of k
    → letter ≡ letter_of k → more ≡ codes ++ code ∷ [] → written ≡ letters ++ letter ∷ [] → AreAlike more written
alike_more codes letters more written code letter k so_far c l is_more is_written = (
  so_far.0 ++ k ∷ [],
  is_more ∙ (λ i. so_far.1 i ++ c i ∷ []) ∙ sym (map-append code_of so_far.0 (k ∷ [])),
  is_written ∙ (λ i. so_far.2 i ++ l i ∷ []) ∙ sym (map-append letter_of so_far.0 (k ∷ [])),
)

same_letters : (js ks : List UnitKind) → letters_of js ≡ letters_of ks → js ≡ ks
same_letters [] [] e = refl
same_letters [] (k ∷ ks) e = cc
same_letters (j ∷ js) [] e = cc
same_letters (j ∷ js) (k ∷ ks) e =
    let first : letter_of j ≡ letter_of k = cc in
    let rest : letters_of js ≡ letters_of ks = cc in
    (λ i. same_letter j k first i ∷ same_letters js ks rest i)

-- the kinds that the letters spell are those of the codes
pub spelled_alike : {E : Type 0} (codes letters : List ℕ) (r : Result (List UnitKind) E) → AreAlike codes letters
    → MatchResult r (λ ks. letters ≡ letters_of ks) (λ _. (ks : List UnitKind) → IsKinds ks → letters ≢ letters_of ks)
    → ((ks : List UnitKind) → codes ≡ map code_of ks → IsKinds ks) → result_ok r ≡ kinds_of_codes codes
spelled_alike codes letters (Ok ks) alike spells kinds =
    let same : alike.0 ≡ ks = same_letters alike.0 ks (sym alike.2 ∙ spells) in
    ap Some (sym same) ∙ sym (ap kinds_of_codes alike.1 ∙ kinds_back alike.0)
spelled_alike codes letters (Err e) alike spells kinds = absurd (spells alike.0 (kinds alike.0 alike.1) alike.2)

-- ---- codes as bytes

-- the words of bytes, by their pieces
pub words_of_chunks : (bytes : List ℕ) (chunks : List (List ℕ)) → chunks ≡ first_chunks WORD (length bytes / WORD) bytes
    → words_in bytes ≡ map (from_le_bytes w64) chunks
unfolding words_in
words_of_chunks bytes chunks is = ap (map (from_le_bytes w64)) (sym is)

pub code_at : (bytes : List ℕ) (chunks : List (List ℕ)) (i : ℕ) → chunks ≡ first_chunks WORD (length bytes / WORD) bytes
    → i < length chunks → get_or (words_in bytes) i 0 ≡ from_le_bytes w64 (get_or chunks i [])
code_at bytes chunks i is inside =
    ap (λ (ws : List ℕ). get_or ws i 0) (words_of_chunks bytes chunks is) ∙ get_or-map (from_le_bytes w64) chunks i [] 0 inside

-- all codes were gone over
pub alike_all : (bytes : List ℕ) (chunks : List (List ℕ)) (letters : List ℕ) (unit : ℕ)
    → chunks ≡ first_chunks WORD (length bytes / WORD) bytes → unit ≡ length chunks
    → AreAlike (map (from_le_bytes w64) (take unit chunks)) (take unit letters) → AreAlike (words_in bytes) (take (length chunks) letters)
alike_all bytes chunks letters unit is all alike = (
  alike.0,
  words_of_chunks bytes chunks is ∙ ap (map (from_le_bytes w64)) (sym (take_all unit chunks (omega arith))) ∙ alike.1,
  ap (λ (n : ℕ). take n letters) (sym all) ∙ alike.2,
)

pub kinds_counted : (bytes : List ℕ) (ks : List UnitKind) → 1 ≤ length bytes / WORD → length bytes / WORD ≤ MOST_UNITS
    → words_in bytes ≡ map code_of ks → IsKinds ks
kinds_counted bytes ks some few is =
    let count : length ks ≡ length bytes / WORD = sym (length-map ks code_of) ∙ ap length (sym is) ∙ length-words_in bytes in
    record { some = omega arith; few = omega arith }

pub codes_spelled : (bytes : List ℕ) (o : Option (List UnitKind)) → length bytes % WORD ≡ 0 → AreBytes bytes
    → o ≡ kinds_of_codes (words_in bytes) → IfSome o (λ ks. bytes ≡ bytes_of (map code_of ks))
codes_spelled bytes None whole small e = tt
codes_spelled bytes (Some ks) whole small e =
    sym (bytes_of-words_in (length bytes / WORD) bytes (omega arith) small) ∙ ap bytes_of (codes_back (words_in bytes) ks (sym e))

module _ (units : ℕ) (old new : Option (List ℕ)) (bytes : List ℕ) (o : Option (List UnitKind))
    (r : Result (List UnitKind) ImageRefusal) (taken : Consumes old new bytes) (long : length bytes ≡ WORD * units)
    (is : r ≡ ok_or o faults.Layout) where
  pub kinds_taken : IfSome o (λ ks. bytes ≡ bytes_of (map code_of ks))
      → IfOk r (λ ks. (length ks ≡ units) × Consumes old new (bytes_of (map code_of ks)))
  kinds_taken spelled = rw is (at o spelled)
    where
      at : (p : Option (List UnitKind)) → IfSome p (λ ks. bytes ≡ bytes_of (map code_of ks))
          → IfOk (ok_or {E = ImageRefusal} p faults.Layout) (λ ks. (length ks ≡ units) × Consumes old new (bytes_of (map code_of ks)))
      at None h = tt
      at (Some ks) h = (
        omega (arith, ap length h, length-bytes_of (map code_of ks), length-map ks code_of),
        subst (λ (bs : List ℕ). Consumes old new bs) h taken,
      )

  pub kinds_refused : o ≡ kinds_of_codes (words_in bytes) → IfErr r (Refuses (WORD * units) (RefusesCodes units) old new)
  kinds_refused told = rw is (at o told)
    where
      behind : (rest : List ℕ) → take units (words_in (bytes ++ rest)) ≡ words_in bytes
      behind rest =
          ap (take units) (words_in-append units bytes rest long)
          ∙ take_at (words_in bytes) (words_in rest) units (length-words_in bytes ∙ omega arith)

      at : (p : Option (List UnitKind)) → p ≡ kinds_of_codes (words_in bytes)
          → IfErr (ok_or {E = ImageRefusal} p faults.Layout) (Refuses (WORD * units) (RefusesCodes units) old new)
      at None h =
          refuses_front (WORD * units) (RefusesCodes units) old new bytes faults.Layout taken long
          (λ rest. record {
            many = omega (arith, length-append bytes rest);
            none = ap kinds_of_codes (behind rest) ∙ sym h;
          })
      at (Some ks) h = tt

pub ends_in_codes : (units count : ℕ) (old new : Option (List ℕ)) (bytes : List ℕ) → Consumes old new bytes → IsAtEnd new
    → length bytes ≡ count → count < WORD * units
    → Refuses (WORD * units) (RefusesCodes units) old new (faults.Short (HEADER + count / WORD))
ends_in_codes units count old new bytes taken end long few =
    refuses_whole (WORD * units) (RefusesCodes units) old new bytes (faults.Short (HEADER + count / WORD)) taken end (omega arith)
    (record { words = ap (λ (n : ℕ). HEADER + n / WORD) (sym long); few = omega arith })
