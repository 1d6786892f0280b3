-- The first five words of a text.
use Rattle.std.proofs.Common.{◌≡◌, ℕ, zero, suc, ◌*◌, ◌/◌, ◌<◌, ◌≤◌, Bool, true, false, ◌&&◌, List, [], ◌∷◌, ◌++◌, length, Option, Some, None, Result, Ok, Err, IfOk, IfErr, refl, sym, ap, ◌∙◌, subst, arith}
use Rattle.std.specs.Prelude.{◌==◌, slice_get}
use Rattle.std.specs.Int.{is_in_range}
use Rattle.std.specs.Io.KnownBytes.{Consumes}
use Rattle.std.proofs.lemmas.Bool.Decides.{nat_tests}
use Rattle.mont_base.specs.declared.constants.TheConstants.{FIRST_CLOCK, LAST, LEAST_SLOTS, MOST_SLOTS}
use Rattle.mont_image.specs.declared.image_refusal.ImageRefusal.{ImageRefusal}
use Rattle.mont_image.specs.declared.image_refusal.ImageRefusal.TheVariants as faults
use Rattle.mont_image.specs.declared.image_text.TheConstants.{WORD, MAGIC, HEADER}
use Rattle.mont_image.specs.declared.image_text.Header.{Header}
use Rattle.mont_image.specs.declared.image_text.Version.{Version}
use Rattle.mont_image.specs.declared.image_text.Version.TheVariants.{First, Second, Third}
use Rattle.mont_image.specs.ImageHeader.{IsHeader}
use Rattle.mont_image.specs.ImageRefusal.{Refuses}
use Rattle.mont_image.specs.ImageText.{unless, number_of_version, version_of_number, most_units, header_in, header_told, header_words, bytes_of, words_in}
use Rattle.mont_image.proofs.WordBytes.{AreBytes, bytes_of-words_in, length-words_in, words_in-append}
use Rattle.mont_image.proofs.Filling.{refuses_front}

pub unless_ok : {A : Type 0} (b : Bool) (fault : ImageRefusal) (r : Result A ImageRefusal) (x : A) → unless b fault r ≡ Ok x
    → (b ≡ true) × (r ≡ Ok x)
unless_ok true fault r x e = (refl, e)
unless_ok false fault r x e = cc

version_told : (n : ℕ) (v : Version) → version_of_number n ≡ Some v → n ≡ number_of_version v
version_told zero v e = cc
version_told (suc zero) v e = let same : First ≡ v = cc in ap number_of_version same
version_told (suc (suc zero)) v e = let same : Second ≡ v = cc in ap number_of_version same
version_told (suc (suc (suc zero))) v e = let same : Third ≡ v = cc in ap number_of_version same
version_told (suc (suc (suc (suc n)))) v e = cc

in_range : (lo hi n : ℕ) → is_in_range lo hi n ≡ true → (lo ≤ n) × (n ≤ hi)
in_range lo hi n e = (grind (arith, nat_tests), grind (arith, nat_tests))

both_true : (a b : Bool) → (a && b) ≡ true → (a ≡ true) × (b ≡ true)
both_true true b e = (refl, e)
both_true false b e = cc

-- what a header is made of
record IsTold (h : Header) (version units slots clock : ℕ) : Type 0 where
  is_header : IsHeader h
  same : header_words h ≡ MAGIC ∷ version ∷ units ∷ slots ∷ clock ∷ []

told_by : (n : ℕ) (o : Option Version) (units slots clock : ℕ) (h : Header) → version_of_number n ≡ o
    → header_told o units slots clock ≡ Ok h → IsTold h n units slots clock
told_by n None units slots clock h of_number e = cc
told_by n (Some v) units slots clock h of_number e =
    let layout = unless_ok _ _ _ h e in
    let last = unless_ok _ _ _ h layout.1 in
    let parts = both_true _ _ layout.0 in
    let has_units = in_range 1 (most_units v) units parts.0 in
    let has_slots = in_range LEAST_SLOTS MOST_SLOTS slots parts.1 in
    let is_clock = in_range FIRST_CLOCK LAST clock last.0 in
    let told : Header = record { version = v; units = units; slots = slots; clock = clock } in
    let same : told ≡ h = cc in
    subst (λ (k : Header). IsTold k n units slots clock) same
    (record {
      is_header = record {
        some_units = has_units.0;
        few_units = has_units.1;
        some_slots = has_slots.0;
        few_slots = has_slots.1;
        clock_begun = is_clock.0;
        clock_last = is_clock.1;
      };
      same = ap (λ (m : ℕ). MAGIC ∷ m ∷ units ∷ slots ∷ clock ∷ []) (sym (version_told n v of_number));
    })

-- five words that tell a header are just its words
pub header_ok : (ws : List ℕ) (h : Header) → length ws ≡ HEADER → header_in ws ≡ Ok h → IsHeader h × (header_words h ≡ ws)
header_ok [] h long e = absurd (omega arith)
header_ok (m ∷ []) h long e = absurd (omega arith)
header_ok (m ∷ v ∷ []) h long e = absurd (omega arith)
header_ok (m ∷ v ∷ u ∷ []) h long e = absurd (omega arith)
header_ok (m ∷ v ∷ u ∷ s ∷ []) h long e = absurd (omega arith)
header_ok (m ∷ v ∷ u ∷ s ∷ c ∷ []) h long e =
    let magic = unless_ok (m == MAGIC) faults.Magic (header_told (version_of_number v) u s c) h e in
    let told = told_by v (version_of_number v) u s c h refl magic.1 in
    let tested : (m == MAGIC) ≡ true = magic.0 in
    let is_magic : MAGIC ≡ m = grind (arith, nat_tests) in
    (told.is_header, told.same ∙ ap (λ (n : ℕ). n ∷ v ∷ u ∷ s ∷ c ∷ []) is_magic)
header_ok (m ∷ v ∷ u ∷ s ∷ c ∷ d ∷ ws) h long e = absurd (omega arith)

-- what tells a header is in its ranges
pub header_is : (ws : List ℕ) (h : Header) → header_in ws ≡ Ok h → IsHeader h
header_is [] h e = cc
header_is (m ∷ []) h e = cc
header_is (m ∷ v ∷ []) h e = cc
header_is (m ∷ v ∷ u ∷ []) h e = cc
header_is (m ∷ v ∷ u ∷ s ∷ []) h e = cc
header_is (m ∷ v ∷ u ∷ s ∷ c ∷ ws) h e =
    let magic = unless_ok (m == MAGIC) faults.Magic (header_told (version_of_number v) u s c) h e in
    let told = told_by v (version_of_number v) u s c h refl magic.1 in
    told.is_header

-- what follows five words doesn't matter
pub header_front : (ws more : List ℕ) → length ws ≡ HEADER → header_in (ws ++ more) ≡ header_in ws
header_front [] more long = absurd (omega arith)
header_front (m ∷ []) more long = absurd (omega arith)
header_front (m ∷ v ∷ []) more long = absurd (omega arith)
header_front (m ∷ v ∷ u ∷ []) more long = absurd (omega arith)
header_front (m ∷ v ∷ u ∷ s ∷ []) more long = absurd (omega arith)
header_front (m ∷ v ∷ u ∷ s ∷ c ∷ ws) more long = refl

header_short : (ws : List ℕ) → length ws < HEADER → header_in ws ≡ Err (faults.Short (length ws))
header_short [] few = refl
header_short (m ∷ []) few = refl
header_short (m ∷ v ∷ []) few = refl
header_short (m ∷ v ∷ u ∷ []) few = refl
header_short (m ∷ v ∷ u ∷ s ∷ []) few = refl
header_short (m ∷ v ∷ u ∷ s ∷ c ∷ ws) few = absurd (omega arith)

pub bytes_short : (bytes : List ℕ) (n : ℕ) → length bytes ≡ n → n < WORD * HEADER
    → header_in (words_in bytes) ≡ Err (faults.Short (n / WORD))
bytes_short bytes n long few =
    let count : length (words_in bytes) ≡ n / WORD = length-words_in bytes ∙ ap (λ (m : ℕ). m / WORD) long in
    header_short (words_in bytes) (omega arith) ∙ ap (λ (m : ℕ). Err (faults.Short m)) count

five : (bytes : List ℕ) → length bytes ≡ WORD * HEADER → length (words_in bytes) ≡ HEADER
five bytes long = length-words_in bytes ∙ omega arith

-- five words by their places
same_five : (ws : List ℕ) (a b c d e : ℕ) → length ws ≡ HEADER → slice_get ws 0 ≡ Some a → slice_get ws 1 ≡ Some b
    → slice_get ws 2 ≡ Some c → slice_get ws 3 ≡ Some d → slice_get ws 4 ≡ Some e → a ∷ b ∷ c ∷ d ∷ e ∷ [] ≡ ws
same_five [] a b c d e long p q r s t = absurd (omega arith)
same_five (m ∷ []) a b c d e long p q r s t = absurd (omega arith)
same_five (m ∷ n ∷ []) a b c d e long p q r s t = absurd (omega arith)
same_five (m ∷ n ∷ o ∷ []) a b c d e long p q r s t = absurd (omega arith)
same_five (m ∷ n ∷ o ∷ x ∷ []) a b c d e long p q r s t = absurd (omega arith)
same_five (m ∷ n ∷ o ∷ x ∷ y ∷ []) a b c d e long p q r s t = cc
same_five (m ∷ n ∷ o ∷ x ∷ y ∷ z ∷ ws) a b c d e long p q r s t = absurd (omega arith)

pub header_words_are : (bytes : List ℕ) (a b c d e : ℕ) → length bytes ≡ WORD * HEADER → slice_get (words_in bytes) 0 ≡ Some a
    → slice_get (words_in bytes) 1 ≡ Some b → slice_get (words_in bytes) 2 ≡ Some c → slice_get (words_in bytes) 3 ≡ Some d
    → slice_get (words_in bytes) 4 ≡ Some e → header_in (a ∷ b ∷ c ∷ d ∷ e ∷ []) ≡ header_in (words_in bytes)
header_words_are bytes a b c d e long p q r s t = ap header_in (same_five (words_in bytes) a b c d e (five bytes long) p q r s t)

pub header_spelled : (bytes : List ℕ) (r : Result Header ImageRefusal) → length bytes ≡ WORD * HEADER → AreBytes bytes
    → r ≡ header_in (words_in bytes) → IfOk r (λ h. IsHeader h × (bytes ≡ bytes_of (header_words h)))
header_spelled bytes (Ok h) long small e =
    let told = header_ok (words_in bytes) h (five bytes long) (sym e) in
    (told.0, sym (ap bytes_of told.1 ∙ bytes_of-words_in HEADER bytes long small))
header_spelled bytes (Err fault) long small e = tt

module _ (old new : Option (List ℕ)) (bytes : List ℕ) (taken : Consumes old new bytes) (long : length bytes ≡ WORD * HEADER) where
  pub header_taken : (r : Result Header ImageRefusal) → IfOk r (λ h. IsHeader h × (bytes ≡ bytes_of (header_words h)))
      → IfOk r (λ h. IsHeader h × Consumes old new (bytes_of (header_words h)))
  header_taken (Ok h) told = (told.0, subst (λ (bs : List ℕ). Consumes old new bs) told.1 taken)
  header_taken (Err fault) told = tt

  pub header_refused : (r : Result Header ImageRefusal) → r ≡ header_in (words_in bytes)
      → IfErr r (Refuses (WORD * HEADER) (λ fault text. header_in (words_in text) ≡ Err fault) old new)
  header_refused (Ok h) e = tt
  header_refused (Err fault) e =
      refuses_front (WORD * HEADER) (λ f text. header_in (words_in text) ≡ Err f) old new bytes fault taken long
      (λ rest. ap header_in (words_in-append HEADER bytes rest long) ∙ header_front (words_in bytes) (words_in rest) (five bytes long)
      ∙ sym e)
