-- A rank of keys: how many stand after each, in their order.
use Rattle.std.proofs.Common.{◌≡◌, ℕ, zero, suc, ◌+◌, ◌-◌, ◌*◌, ◌/◌, ◌%◌, ◌^◌, ◌<◌, ◌≤◌, inl, inr, List, [], ◌∷◌, length, refl, sym, ap, ◌∙◌, arith}
use Rattle.std.specs.declared.cmp.Ordering.{Ordering}
use Rattle.std.specs.declared.cmp.Ordering.TheVariants.{Less, Equal, Greater}
use Rattle.std.specs.Ordering.{nat_cmp, ordering_then, ordering_reverse}
use Rattle.std.specs.Cmp.{ranked, nat_cmp_is, IsTotalOrder}
use Rattle.std.specs.Cmp.Lexicographic.{slice_cmp}
use Rattle.std.specs.List.{All}
use Rattle.std.proofs.lemmas.List.Elements.{All-cons, All-nil, All-head, All-tail}
use Rattle.std.proofs.lemmas.Nat.{mul-add-lt}
use Rattle.std.proofs.Math.Nat.{mul-le-mul_right, mul_comm, div-lt_iff_lt-mul}
use Rattle.std.proofs.lemmas.Bool.{cases_lt}
use Rattle.job_text.specs.Ranks.{texts_of, texts_behind, numbers_behind}

pub record IsRank {K : Type 0} (R : K → K → Ordering) (IsKey : K → Type 0) (behind : K → ℕ) (all : ℕ) : Type 0 where
  pub low : (k : K) → IsKey k → behind k < all
  pub falls : (j k : K) → IsKey j → IsKey k → R j k ≡ Less → behind k < behind j
  pub rises : (j k : K) → IsKey j → IsKey k → behind k < behind j → R j k ≡ Less
  pub past : (j k : K) → IsKey j → IsKey k → behind k < behind j → R k j ≡ Greater
  pub each : (n : ℕ) → n < all → (k : K) × IsKey k × (behind k ≡ n)

-- ---- numbers
pub less_is : (m n : ℕ) → nat_cmp m n ≡ Less → m < n
less_is m n e = ranked m n Less (sym e)

pub number_rank : IsRank nat_cmp (λ n. n < 2 ^ 64) numbers_behind (2 ^ 64)
number_rank = record {
  low = λ k small. omega arith;
  falls = λ j k small other less. let below = less_is j k less in omega arith;
  rises = λ j k small other below. sym (nat_cmp_is j k Less (omega arith));
  past = λ j k small other below. sym (nat_cmp_is k j Greater (omega arith));
  each = λ n small. (2 ^ 64 - 1 - n, omega arith, omega arith);
}

-- ---- texts
some_texts : (room : ℕ) → 1 ≤ texts_of room
unfolding texts_of
some_texts zero = omega arith
some_texts (suc room) = omega arith

pub behind_low : (room : ℕ) (t : List ℕ) → length t ≤ room → All (λ b. b < 256) t → texts_behind room t < texts_of room
unfolding texts_of texts_behind
behind_low zero [] short bytes = omega arith
behind_low (suc room) [] short bytes = omega arith
behind_low zero (b ∷ t) short bytes = absurd (omega arith)
behind_low (suc room) (b ∷ t) short bytes =
    let rest = behind_low room t (omega arith) (All-tail (λ b. b < 256) b t bytes) in
    let step = mul-add-lt (255 - b) (texts_of room) (texts_behind room t) 256 (omega arith) rest in
    omega arith

-- a text whose first byte is lower, or is the same and whose rest comes before
first_falls : (room : ℕ) (b c : ℕ) (s t : List ℕ) (o : Ordering) → b < 256 → c < 256 → texts_behind room t < texts_of room
    → (slice_cmp nat_cmp s t ≡ Less → texts_behind room t < texts_behind room s) → nat_cmp b c ≡ o
    → ordering_then o (slice_cmp nat_cmp s t) ≡ Less
    → (255 - c) * texts_of room + texts_behind room t < (255 - b) * texts_of room + texts_behind room s
first_falls room b c s t Less byte code low rest e h =
    let below = less_is b c e in
    let wide : (255 - c + 1) * texts_of room ≤ (255 - b) * texts_of room =
    mul-le-mul_right (texts_of room) (omega arith) in
    let step : (255 - c + 1) * texts_of room ≡ (255 - c) * texts_of room + texts_of room = omega arith in
    omega arith
first_falls room b c s t Equal byte code low rest e h =
    let same : b ≡ c = ranked b c Equal (sym e) in
    let front : (255 - c) * texts_of room ≡ (255 - b) * texts_of room = ap (λ (x : ℕ). (255 - x) * texts_of room) (sym same) in
    let behind = rest h in
    omega arith
first_falls room b c s t Greater byte code low rest e h = absurd (cc)

pub text_falls : (room : ℕ) (s t : List ℕ) → length s ≤ room → length t ≤ room → All (λ b. b < 256) s → All (λ b. b < 256) t
    → slice_cmp nat_cmp s t ≡ Less → texts_behind room t < texts_behind room s
unfolding texts_of texts_behind
text_falls room [] [] short few bytes codes less = absurd (cc)
text_falls zero [] (c ∷ t) short few bytes codes less = absurd (omega arith)
text_falls (suc room) [] (c ∷ t) short few bytes codes less =
    let rest = behind_low room t (omega arith) (All-tail (λ b. b < 256) c t codes) in
    let step = mul-add-lt (255 - c) (texts_of room) (texts_behind room t) 256 (omega arith) rest in
    omega arith
text_falls room (b ∷ s) [] short few bytes codes less = absurd (cc)
text_falls zero (b ∷ s) (c ∷ t) short few bytes codes less = absurd (omega arith)
text_falls (suc room) (b ∷ s) (c ∷ t) short few bytes codes less =
    first_falls room b c s t (nat_cmp b c) (All-head (λ x. x < 256) b s bytes) (All-head (λ x. x < 256) c t codes)
    (behind_low room t (omega arith) (All-tail (λ x. x < 256) c t codes))
    (λ h. text_falls room s t (omega arith) (omega arith) (All-tail (λ x. x < 256) b s bytes) (All-tail (λ x. x < 256) c t codes) h)
    refl less

-- each number of texts stands after some text
pub text_at : (room n : ℕ) → n < texts_of room → (t : List ℕ) × (length t ≤ room) × All (λ b. b < 256) t × (texts_behind room t ≡ n)
unfolding texts_of texts_behind
text_at zero n low = ([], omega arith, All-nil (λ b. b < 256), omega arith)
text_at (suc room) n low = elim (cases_lt n (256 * texts_of room)) [
  | inl below ↦
      let some = some_texts room in
      let parts : texts_of room * (n / texts_of room) + n % texts_of room ≡ n = omega arith in
      let rest_low : n % texts_of room < texts_of room = omega arith in
      let few : n / texts_of room < 256 = quotient_low (texts_of room) n below some in
      let rest = text_at room (n % texts_of room) rest_low in
      let byte : 255 - (255 - n / texts_of room) ≡ n / texts_of room = omega arith in
      let front : (255 - (255 - n / texts_of room)) * texts_of room ≡ texts_of room * (n / texts_of room) =
      ap (λ (x : ℕ). x * texts_of room) byte ∙ mul_comm (n / texts_of room) (texts_of room) in (
        (255 - n / texts_of room) ∷ rest.0,
        omega (arith, rest.1),
        All-cons (λ b. b < 256) (255 - n / texts_of room) rest.0 (omega arith) rest.2,
        omega (arith, rest.3),
      )
  | inr high ↦ ([], omega arith, All-nil (λ b. b < 256), omega arith)
]
  where
    quotient_low : (w m : ℕ) → m < 256 * w → 1 ≤ w → m / w < 256
    quotient_low w m below some = (div-lt_iff_lt-mul (omega arith)).1 below

-- ---- the rank of an order whose ties are equal
pub rank_of : {K : Type 0} (R : K → K → Ordering) (IsKey : K → Type 0) (behind : K → ℕ) (all : ℕ) → IsTotalOrder R
    → ((j k : K) → R j k ≡ Equal → j ≡ k) → ((k : K) → IsKey k → behind k < all)
    → ((j k : K) → IsKey j → IsKey k → R j k ≡ Less → behind k < behind j)
    → ((n : ℕ) → n < all → (k : K) × IsKey k × (behind k ≡ n)) → IsRank R IsKey behind all
rank_of {K} R IsKey behind all order same low falls each = record {
  low = low;
  falls = falls;
  rises = rises;
  past = λ j k is are below. order.antisymm k j ∙ ap ordering_reverse (rises j k is are below);
  each = each;
}
  where
    by_order : (j k : K) → IsKey j → IsKey k → behind k < behind j → (o : Ordering) → R j k ≡ o → o ≡ Less
    by_order j k is are below Less e = refl
    by_order j k is are below Equal e = let tie = ap behind (same j k e) in absurd (omega arith)
    by_order j k is are below Greater e =
        let back = falls k j are is (order.antisymm k j ∙ ap ordering_reverse e) in
        absurd (omega arith)

    rises : (j k : K) → IsKey j → IsKey k → behind k < behind j → R j k ≡ Less
    rises j k is are below = by_order j k is are below (R j k) refl
