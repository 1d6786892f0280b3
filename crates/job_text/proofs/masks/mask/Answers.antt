use Rattle.std.proofs.Common.{◌≡◌, ◌≢◌, ℕ, zero, suc, ◌+◌, ◌*◌, ◌/◌, ◌%◌, ◌<◌, List, [], ◌∷◌, ◌++◌, length, take, get_or, All, sym, ap, ◌∙◌, refl, arith, add-one}
use Rattle.std.proofs.lemmas.List.{take_more}
use Rattle.std.proofs.lemmas.List.Elements.{All-nil, All-push}
use Rattle.job_text.specs.Spelling.{hex_digit, hex_digits}
use Rattle.job_text.proofs.Once.{places, places_room}
use Rattle.job_text.proofs.masks.mask.Goals as goal

-- what a digit is
IsDigit : ℕ → Type 0
IsDigit b = (m : ℕ) × (m < 16) × (b ≡ hex_digit m)

all_digits : (count n : ℕ) → All IsDigit (hex_digits count n)
unfolding IsDigit
all_digits zero n = All-nil IsDigit
all_digits (suc count) n =
    All-push IsDigit (hex_digits count (n / 16)) (hex_digit (n % 16)) (all_digits count (n / 16)) (n % 16, omega arith, refl)

no_digits : (word : List ℕ) (i n : ℕ) → i < length word → ((m : ℕ) → m < 16 → get_or word i 0 ≢ hex_digit m) → word ≢ hex_digits 16 n
unfolding IsDigit
no_digits word i n within none e =
    let digit = all_digits 16 n i 0 (omega (arith, ap length e)) in
    none digit.0 digit.1 (ap (λ (ws : List ℕ). get_or ws i 0) e ∙ digit.2)

one_more : (count mask digit : ℕ) → digit < 16 → hex_digits (count + 1) (16 * mask + digit) ≡ hex_digits count mask ++ hex_digit digit ∷ []
one_more count mask digit low =
    let high : (16 * mask + digit) / 16 ≡ mask = omega arith in
    let last : (16 * mask + digit) % 16 ≡ digit = omega arith in
    ap (λ (n : ℕ). hex_digits n (16 * mask + digit)) (add-one count)
    ∙ ap (λ (n : ℕ). hex_digits count n ++ hex_digit ((16 * mask + digit) % 16) ∷ []) high
    ∙ ap (λ (n : ℕ). hex_digits count mask ++ hex_digit n ∷ []) last

places_more : (count : ℕ) → places (count + 1) ≡ 16 * places count
places_more count = ap places (add-one count)

pub overflow_mul-mask : goal.overflow_mul-mask
overflow_mul-mask c =
    let small = c.loop-byte.invariant.0 in
    omega (arith, places_room c.loop-byte.byte-index (omega arith))

pub returns-in_err-digit : goal.returns-in_err-digit
returns-in_err-digit c = rw c.from_residual.ensures (λ n small.
    no_digits c.args.word.now c.loop-byte.byte-index n c.loop-byte-test.true c.in_err-digit.ensures)

pub overflow_add-mask : goal.overflow_add-mask
overflow_add-mask c =
    let small = c.loop-byte.invariant.0 in
    let digit = c.in_ok-digit.ensures.0 in
    omega (arith, c.from.ensures, places_room c.loop-byte.byte-index (omega arith))

pub loop-byte-preserved : goal.loop-byte-preserved
loop-byte-preserved c =
    let small = c.loop-byte.invariant.0 in
    let digit = c.in_ok-digit.ensures.0 in
    let value : c.from.result ≡ c.in_ok-digit.field-0 = c.from.ensures in
    rw value (
      omega (arith, places_more c.loop-byte.byte-index),
      take_more c.args.word.now c.loop-byte.byte-index 0 c.loop-byte-test.true
          ∙ ap (λ (b : ℕ). take c.loop-byte.byte-index c.args.word.now ++ b ∷ []) c.in_ok-digit.ensures.1
          ∙ ap (λ (bs : List ℕ). bs ++ hex_digit c.in_ok-digit.field-0 ∷ []) c.loop-byte.invariant.1
          ∙ sym (one_more c.loop-byte.byte-index c.loop-byte.mask c.in_ok-digit.field-0 digit),
    )
