-- The order of texts by their words.
use Rattle.std.proofs.Common.{◌≡◌, ℕ, zero, suc, ◌+◌, ◌*◌, ◌/◌, ◌<◌, ◌≤◌, ◌==◌, true, List, [], ◌∷◌, ◌++◌, length, take, drop, refl, sym, ap, ◌∙◌, arith}
use Rattle.std.specs.Int.{w64, to_le_bytes, from_be_bytes, swap_bytes}
use Rattle.std.specs.Prelude.{◌≢◌}
use Rattle.std.specs.declared.cmp.Ordering.{Ordering}
use Rattle.std.specs.declared.cmp.Ordering.TheVariants.{Less, Equal, Greater}
use Rattle.std.specs.Cmp.{first_so, second_so, nat_cmp_is}
use Rattle.std.specs.Ordering.{nat_cmp, ordering_then}
use Rattle.std.specs.Cmp.Lexicographic.{slice_cmp}
use Rattle.std.specs.List.{AllByRecursion}
use Rattle.std.proofs.Math.Nat.{mod-lt}
use Rattle.std.proofs.lemmas.Bool.Decides.{Decides-eqb}
use Rattle.std.proofs.lemmas.Cmp.{ranked, by_ranked}
use Rattle.mont_base.specs.Texts.{are_zero, text_cmp}

pub then_assoc : (a b c : Ordering) → ordering_then (ordering_then a b) c ≡ ordering_then a (ordering_then b c)
then_assoc Less b c = refl
then_assoc Equal b c = refl
then_assoc Greater b c = refl

then_equal : (a : Ordering) → a ≡ ordering_then a Equal
then_equal Less = refl
then_equal Equal = refl
then_equal Greater = refl

pub first_tells : (a b c d : Ordering) → a ≢ Equal → a ≡ ordering_then (ordering_then (ordering_then a b) c) d
first_tells Less b c d apart = refl
first_tells Equal b c d apart = absurd (apart refl)
first_tells Greater b c d apart = refl

-- ---- the order of two numbers by their digits in base 256, the highest first
horner : ℕ → List ℕ → ℕ
horner n [] = n
horner n (b ∷ bs) = horner (n * 256 + b) bs

less : (m n : ℕ) → m < n → nat_cmp m n ≡ Less
less m n h = sym (nat_cmp_is m n Less h)

equal : (m n : ℕ) → m ≡ n → nat_cmp m n ≡ Equal
equal m n h = sym (nat_cmp_is m n Equal h)

greater : (m n : ℕ) → n < m → nat_cmp m n ≡ Greater
greater m n h = sym (nat_cmp_is m n Greater h)

-- two pairs of numbers that stand alike
same_cmp : (a b c d : ℕ) → (a < b → c < d) → (a ≡ b → c ≡ d) → (b < a → d < c) → nat_cmp c d ≡ nat_cmp a b
same_cmp a b c d below same above =
    by_ranked (a < b) (a ≡ b) (b < a) (nat_cmp a b) (ranked a b (nat_cmp a b) refl)
    (λ e h. less c d (below h) ∙ sym e)
    (λ e h. equal c d (same h) ∙ sym e)
    (λ e h. greater c d (above h) ∙ sym e)

next_digit : (m n x y : ℕ) → x < 256 → y < 256 → nat_cmp (m * 256 + x) (n * 256 + y) ≡ ordering_then (nat_cmp m n) (nat_cmp x y)
next_digit m n x y hx hy =
    by_ranked (m < n) (m ≡ n) (n < m) (nat_cmp m n) (ranked m n (nat_cmp m n) refl)
    (λ e (h : m < n). less (m * 256 + x) (n * 256 + y) (omega arith) ∙ ap (λ o. ordering_then o (nat_cmp x y)) (sym e))
    (λ e (h : m ≡ n). low h ∙ ap (λ o. ordering_then o (nat_cmp x y)) (sym e))
    (λ e (h : n < m). greater (m * 256 + x) (n * 256 + y) (omega arith) ∙ ap (λ o. ordering_then o (nat_cmp x y)) (sym e))
  where
    low : m ≡ n → nat_cmp (m * 256 + x) (n * 256 + y) ≡ nat_cmp x y
    low h = same_cmp x y (m * 256 + x) (n * 256 + y) (λ k. omega arith) (λ k. omega arith) (λ k. omega arith)

cmp_horner :
    (xs ys : List ℕ) (m n : ℕ) → length xs ≡ length ys → AllByRecursion (λ b. b < 256) xs → AllByRecursion (λ b. b < 256) ys
    → nat_cmp (horner m xs) (horner n ys) ≡ ordering_then (nat_cmp m n) (slice_cmp nat_cmp xs ys)
unfolding horner
cmp_horner [] [] m n long hx hy = then_equal (nat_cmp m n)
cmp_horner [] (y ∷ ys) m n long hx hy = absurd (omega arith)
cmp_horner (x ∷ xs) [] m n long hx hy = absurd (omega arith)
cmp_horner (x ∷ xs) (y ∷ ys) m n long hx hy =
    cmp_horner xs ys (m * 256 + x) (n * 256 + y) (omega arith) hx.1 hy.1
    ∙ ap (λ o. ordering_then o (slice_cmp nat_cmp xs ys)) (next_digit m n x y hx.0 hy.0)
    ∙ then_assoc (nat_cmp m n) (nat_cmp x y) (slice_cmp nat_cmp xs ys)

eight_digits :
    (a b c d e f g h : ℕ) → from_be_bytes w64 (a ∷ b ∷ c ∷ d ∷ e ∷ f ∷ g ∷ h ∷ []) ≡ horner 0 (a ∷ b ∷ c ∷ d ∷ e ∷ f ∷ g ∷ h ∷ [])
unfolding horner
eight_digits a b c d e f g h = omega arith

swapped : (n : ℕ) → swap_bytes w64 n ≡ horner 0 (to_le_bytes w64 n)
swapped n = eight_digits _ _ _ _ _ _ _ _

pub are_bytes : (n : ℕ) → AllByRecursion (λ b. b < 256) (to_le_bytes w64 n)
are_bytes n = (
  mod-lt n (omega arith),
  (
    mod-lt (n / 256) (omega arith),
    (
      mod-lt (n / 65536) (omega arith),
      (
        mod-lt (n / 16777216) (omega arith),
        (
          mod-lt (n / 4294967296) (omega arith),
          (
            mod-lt (n / 1099511627776) (omega arith),
            (mod-lt (n / 281474976710656) (omega arith), (mod-lt (n / 72057594037927936) (omega arith), tt)),
          ),
        ),
      ),
    ),
  ),
)

-- the order of the bytes of two words
pub cmp_of_words : (a b : ℕ) → nat_cmp (swap_bytes w64 a) (swap_bytes w64 b) ≡ text_cmp (to_le_bytes w64 a) (to_le_bytes w64 b)
cmp_of_words a b =
    (λ i. nat_cmp (swapped a i) (swapped b i)) ∙ cmp_horner (to_le_bytes w64 a) (to_le_bytes w64 b) 0 0 refl (are_bytes a) (are_bytes b)

-- ---- lists end to end
pub slice_cmp_append :
    (xs us ys vs : List ℕ) → length xs ≡ length ys → text_cmp (xs ++ us) (ys ++ vs) ≡ ordering_then (text_cmp xs ys) (text_cmp us vs)
slice_cmp_append [] us [] vs long = refl
slice_cmp_append [] us (y ∷ ys) vs long = absurd (omega arith)
slice_cmp_append (x ∷ xs) us [] vs long = absurd (omega arith)
slice_cmp_append (x ∷ xs) us (y ∷ ys) vs long =
    ap (ordering_then (nat_cmp x y)) (slice_cmp_append xs us ys vs (omega arith))
    ∙ sym (then_assoc (nat_cmp x y) (slice_cmp nat_cmp xs ys) (slice_cmp nat_cmp us vs))

-- ---- lists after whose fronts all is 0
zero_head : (x : ℕ) (xs : List ℕ) → are_zero (x ∷ xs) ≡ true → x ≡ 0
zero_head x xs h = (Decides-eqb x 0).0 (first_so (x == 0) (are_zero xs) h)

zero_tail : (x : ℕ) (xs : List ℕ) → are_zero (x ∷ xs) ≡ true → are_zero xs ≡ true
zero_tail x xs h = second_so (x == 0) (are_zero xs) h

both_zero : (xs ys : List ℕ) → length xs ≡ length ys → are_zero xs ≡ true → are_zero ys ≡ true → text_cmp xs ys ≡ Equal
both_zero [] [] long hx hy = refl
both_zero [] (y ∷ ys) long hx hy = absurd (omega arith)
both_zero (x ∷ xs) [] long hx hy = absurd (omega arith)
both_zero (x ∷ xs) (y ∷ ys) long hx hy =
    ap (λ o. ordering_then o (slice_cmp nat_cmp xs ys)) (equal x y (zero_head x xs hx ∙ sym (zero_head y ys hy)))
    ∙ both_zero xs ys (omega arith) (zero_tail x xs hx) (zero_tail y ys hy)

-- zeros are below all
zero_below : (xs ys : List ℕ) → length xs ≡ length ys → are_zero xs ≡ true → Less ≡ ordering_then (text_cmp xs ys) Less
zero_below [] [] long hx = refl
zero_below [] (y ∷ ys) long hx = absurd (omega arith)
zero_below (x ∷ xs) [] long hx = absurd (omega arith)
zero_below (x ∷ xs) (y ∷ ys) long hx =
    by_ranked (x < y) (x ≡ y) (y < x) (nat_cmp x y) (ranked x y (nat_cmp x y) refl)
    (λ e (h : x < y). ap (λ o. ordering_then (ordering_then o (slice_cmp nat_cmp xs ys)) Less) (sym e))
    (λ e (h : x ≡ y). zero_below xs ys (omega arith) (zero_tail x xs hx)
    ∙ ap (λ o. ordering_then (ordering_then o (slice_cmp nat_cmp xs ys)) Less) (sym e))
    (λ e (h : y < x). absurd (let z = zero_head x xs hx in omega arith))

above_zero : (xs ys : List ℕ) → length xs ≡ length ys → are_zero ys ≡ true → Greater ≡ ordering_then (text_cmp xs ys) Greater
above_zero [] [] long hy = refl
above_zero [] (y ∷ ys) long hy = absurd (omega arith)
above_zero (x ∷ xs) [] long hy = absurd (omega arith)
above_zero (x ∷ xs) (y ∷ ys) long hy =
    by_ranked (x < y) (x ≡ y) (y < x) (nat_cmp x y) (ranked x y (nat_cmp x y) refl)
    (λ e (h : x < y). absurd (let z = zero_head y ys hy in omega arith))
    (λ e (h : x ≡ y). above_zero xs ys (omega arith) (zero_tail y ys hy)
    ∙ ap (λ o. ordering_then (ordering_then o (slice_cmp nat_cmp xs ys)) Greater) (sym e))
    (λ e (h : y < x). ap (λ o. ordering_then (ordering_then o (slice_cmp nat_cmp xs ys)) Greater) (sym e))

pub cmp_fronts :
    (xs ys : List ℕ) (l m : ℕ) → length xs ≡ length ys → l ≤ length xs → m ≤ length ys → are_zero (drop l xs) ≡ true
    → are_zero (drop m ys) ≡ true → text_cmp (take l xs) (take m ys) ≡ ordering_then (text_cmp xs ys) (nat_cmp l m)
cmp_fronts xs ys zero zero long hl hm zx zy = ap (λ o. ordering_then o Equal) (sym (both_zero xs ys long zx zy))
cmp_fronts xs [] zero (suc m) long hl hm zx zy = absurd (omega arith)
cmp_fronts xs (y ∷ ys) zero (suc m) long hl hm zx zy =
    zero_below xs (y ∷ ys) long zx ∙ ap (ordering_then (text_cmp xs (y ∷ ys))) (sym (less 0 (suc m) (omega arith)))
cmp_fronts [] ys (suc l) zero long hl hm zx zy = absurd (omega arith)
cmp_fronts (x ∷ xs) ys (suc l) zero long hl hm zx zy =
    above_zero (x ∷ xs) ys long zy ∙ ap (ordering_then (text_cmp (x ∷ xs) ys)) (sym (greater (suc l) 0 (omega arith)))
cmp_fronts [] ys (suc l) (suc m) long hl hm zx zy = absurd (omega arith)
cmp_fronts (x ∷ xs) [] (suc l) (suc m) long hl hm zx zy = absurd (omega arith)
cmp_fronts (x ∷ xs) (y ∷ ys) (suc l) (suc m) long hl hm zx zy =
    ap (ordering_then (nat_cmp x y)) (cmp_fronts xs ys l m (omega arith) (omega arith) (omega arith) zx zy)
    ∙ sym (then_assoc (nat_cmp x y) (slice_cmp nat_cmp xs ys) (nat_cmp l m))
    ∙ ap (ordering_then (ordering_then (nat_cmp x y) (slice_cmp nat_cmp xs ys))) (step l m)
  where
    step : (l m : ℕ) → nat_cmp l m ≡ nat_cmp (suc l) (suc m)
    step l m = sym (same_cmp l m (suc l) (suc m) (λ h. omega arith) (λ h. omega arith) (λ h. omega arith))
