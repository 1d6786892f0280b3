-- Bytes of words that are 0, and the shifts of these words.
use Rattle.std.proofs.Common.{◌≡◌, ℕ, zero, suc, ◌+◌, ◌-◌, ◌*◌, ◌/◌, ◌%◌, ◌^◌, ◌<◌, ◌==◌, Bool, ◌&&◌, List, [], ◌∷◌, ◌++◌, length, drop, inl, inr, refl, sym, ap, subst, ◌∙◌, arith}
use Rattle.std.proofs.Math.Bool.{and-false, and_assoc}
use Rattle.std.proofs.Math.Nat.{pow-suc, pow-succ', div-div-eq-div-mul, div-one}
use Rattle.std.proofs.lemmas.Bool.{cases_lt, ne_eqb}
use Rattle.std.proofs.lemmas.List.Folds.{list_all-append}
use Rattle.std.proofs.lemmas.Nat.{pow-add, shr_below}
use Rattle.std.specs.Int.{w64, byte_at, bytes_low_first, to_le_bytes}
use Rattle.mont_base.specs.Texts.{are_zero, bytes_of_words}

-- a number is 0 where its lowest byte is and what stands above that
byte_and_rest : (m : ℕ) → ((m % 256 == 0) && (m / 256 == 0)) ≡ (m == 0)
byte_and_rest m = elim (cases_lt m 1) [
  | inl none ↦
      let e : m ≡ 0 = omega arith in
      subst (λ (k : ℕ). ((k % 256 == 0) && (k / 256 == 0)) ≡ (k == 0)) (sym e) refl
  | inr some ↦ elim (cases_lt m 256) [
    | inl small ↦ rw (ne_eqb (m % 256) 0 (λ e. omega arith), ne_eqb m 0 (λ e. omega arith)) refl
    | inr big ↦
        rw (ne_eqb (m / 256) 0 (λ e. omega arith), ne_eqb m 0 (λ e. omega arith)) (and-false (m % 256 == 0))
  ]
]

byte_is : (i n : ℕ) → byte_at i n ≡ n / 256 ^ i % 256
byte_is zero n = ap (λ (m : ℕ). m % 256) (sym (div-one n))
byte_is (suc i) n = refl

-- bytes from one upward are 0 where what stands above the others is
low_first_zero : (k i n : ℕ) → n / 256 ^ i < 256 ^ k → are_zero (bytes_low_first i k n) ≡ (n / 256 ^ i == 0)
low_first_zero zero i n fits =
    let e : n / 256 ^ i ≡ 0 = omega (arith, fits) in
    rw e refl
low_first_zero (suc k) i n fits =
    let above : n / 256 ^ suc i ≡ n / 256 ^ i / 256 =
    ap (λ (p : ℕ). n / p) (pow-suc 256 i) ∙ sym (div-div-eq-div-mul n (256 ^ i) 256) in
    let rest = low_first_zero k (suc i) n (omega (arith, fits, above, pow-suc 256 k)) in
    rw (byte_is i n, rest, above) (byte_and_rest (n / 256 ^ i))

drop_bytes : (p i k n : ℕ) → drop p (bytes_low_first i (p + k) n) ≡ bytes_low_first (i + p) k n
drop_bytes zero i k n =
    let all : 0 + k ≡ k = omega arith in
    let at : i ≡ i + 0 = omega arith in
    λ j. bytes_low_first (at j) (all j) n
drop_bytes (suc p) i k n =
    let all : suc p + k ≡ suc (p + k) = omega arith in
    let at : suc i + p ≡ i + suc p = omega arith in
    ap (λ (m : ℕ). drop (suc p) (bytes_low_first i m n)) all
    ∙ drop_bytes p (suc i) k n
    ∙ ap (λ (j : ℕ). bytes_low_first j k n) at

eights : (p : ℕ) → 2 ^ (8 * p) ≡ 256 ^ p
eights zero = refl
eights (suc p) =
    let more : 8 * suc p ≡ 8 + 8 * p = omega arith in
    ap (λ (e : ℕ). 2 ^ e) more ∙ pow-add 2 8 (8 * p) ∙ ap (λ (x : ℕ). 256 * x) (eights p) ∙ sym (pow-succ' 256 p)

-- the bytes of a word are 0 from a place on where a shift by so many bytes leaves 0
pub zero_from :
    (place word : ℕ) → place < 8 → word < 2 ^ 64 → (word / 2 ^ (8 * place) == 0) ≡ are_zero (drop place (to_le_bytes w64 word))
zero_from place word inside fits =
    let all : place + (8 - place) ≡ 8 = omega arith in
    let width : 64 ≡ 8 * (8 - place) + 8 * place = omega arith in
    let below : word / 2 ^ (8 * place) < 2 ^ (8 * (8 - place)) =
    shr_below word (8 * (8 - place)) (8 * place) (subst (λ (e : ℕ). word < 2 ^ e) width fits) in
    let high : word / 256 ^ place < 256 ^ (8 - place) = rw (eights place, eights (8 - place)) at below in
    let at : 0 + place ≡ place = omega arith in
    let rest : drop place (to_le_bytes w64 word) ≡ bytes_low_first place (8 - place) word =
    ap (λ (k : ℕ). drop place (bytes_low_first 0 k word)) (sym all)
    ∙ drop_bytes place 0 (8 - place) word
    ∙ ap (λ (i : ℕ). bytes_low_first i (8 - place) word) at in
    ap (λ (x : ℕ). word / x == 0) (eights place)
    ∙ sym (low_first_zero (8 - place) place word high)
    ∙ ap are_zero (sym rest)

-- ---- three words
drop_both : {A : Type 0} (n : ℕ) (xs ys : List A) → drop n (xs ++ ys) ≡ drop n xs ++ drop (n - length xs) ys
drop_both zero xs ys =
    let none : 0 ≡ 0 - length xs = omega arith in
    ap (λ (k : ℕ). xs ++ drop k ys) none
drop_both (suc n) [] ys =
    let all : suc n ≡ suc n - 0 = omega arith in
    ap (λ (k : ℕ). drop k ys) all
drop_both (suc n) (x ∷ xs) ys =
    let less : n - length xs ≡ suc n - suc (length xs) = omega arith in
    drop_both n xs ys ∙ ap (λ (k : ℕ). drop n xs ++ drop k ys) less

zero_both : (n : ℕ) (xs ys : List ℕ) → are_zero (drop n (xs ++ ys)) ≡ (are_zero (drop n xs) && are_zero (drop (n - length xs) ys))
zero_both n xs ys = ap are_zero (drop_both n xs ys) ∙ list_all-append (λ w. w == 0) (drop n xs) (drop (n - length xs) ys)

-- the bytes of three words are 0 from a place on where those of each word are
pub zero_in_each :
    (n a b c : ℕ) → ((are_zero (drop n (to_le_bytes w64 a)) && are_zero (drop (n - 8) (to_le_bytes w64 b)))
    && are_zero (drop (n - 16) (to_le_bytes w64 c))) ≡ are_zero (drop n (bytes_of_words a b c))
unfolding bytes_of_words
zero_in_each n a b c =
    let first = are_zero (drop n (to_le_bytes w64 a)) in
    let second = are_zero (drop (n - 8) (to_le_bytes w64 b)) in
    let last : n - 16 ≡ n - 8 - 8 = omega arith in
    and_assoc first second (are_zero (drop (n - 16) (to_le_bytes w64 c)))
    ∙ ap (λ (k : ℕ). first && (second && are_zero (drop k (to_le_bytes w64 c)))) last
    ∙ ap (λ (x : Bool). first && x) (sym (zero_both (n - 8) (to_le_bytes w64 b) (to_le_bytes w64 c)))
    ∙ sym (zero_both n (to_le_bytes w64 a) (to_le_bytes w64 b ++ to_le_bytes w64 c))
