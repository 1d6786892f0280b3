-- Counts of texts that stay at the greatest number.
use Rattle.std.proofs.Common.{◌≡◌, ℕ, suc, ◌+◌, ◌-◌, ◌*◌, ◌^◌, ◌<◌, ◌≤◌, inl, inr, min, List, [], ◌∷◌, length, drop, get_or, refl, sym, ap, ◌∙◌, subst, arith}
use Rattle.std.proofs.Math.Nat.{mul-le-mul_right, mul_comm}
use Rattle.std.proofs.lemmas.List.{drop_more, drop_all}
use Rattle.std.proofs.lemmas.Bool.{cases_lt, cases_eq}
use Rattle.mont_base.specs.declared.constants.TheConstants.{TEXT_BYTES}
use Rattle.job_text.specs.Ranks.{texts_of, texts_behind}

-- a product and a sum that are cut off at each step are cut off once
cut_once : (top c a x : ℕ) → 1 ≤ top → min (min (min c top * a) top + min x top) top ≡ min (a * c + x) top
cut_once top c a x some = elim (cases_lt top c) [
  | inl high ↦ elim (cases_eq a 0) [
    | inl none ↦ subst (λ (n : ℕ). min (min (min c top * n) top + min x top) top ≡ min (n * c + x) top) (sym none) (omega arith)
    | inr more ↦
        let cut : min c top ≡ top = omega arith in
        let one : 1 * top ≤ a * top = mul-le-mul_right top (omega arith) in
        let two : top * a ≤ c * a = mul-le-mul_right a (omega arith) in
        let three : a * top ≡ top * a = mul_comm a top in
        let four : a * c ≡ c * a = mul_comm a c in
        subst (λ (n : ℕ). min (min (n * a) top + min x top) top ≡ min (a * c + x) top) (sym cut) (omega arith)
  ]
  | inr low ↦
      let whole : min c top ≡ c = omega arith in
      let four : a * c ≡ c * a = mul_comm a c in
      subst (λ (n : ℕ). min (min (n * a) top + min x top) top ≡ min (a * c + x) top) (sym whole) (omega arith)
]

top : ℕ
top = 2 ^ 64 - 1

pub count_more : (room count next : ℕ) → count ≡ min (texts_of room) (2 ^ 64 - 1)
    → next ≡ min (min (count * 256) (2 ^ 64 - 1) + 1) (2 ^ 64 - 1)
    → next ≡ min (texts_of (room + 1)) (2 ^ 64 - 1)
unfolding texts_of
count_more room count next is step =
    let one : suc room ≡ room + 1 = omega arith in
    step ∙ ap (λ (n : ℕ). min (min (n * 256) (2 ^ 64 - 1) + 1) (2 ^ 64 - 1)) is
    ∙ cut_once (2 ^ 64 - 1) (texts_of room) 256 1 (omega arith) ∙ ap (λ (n : ℕ). min (texts_of n) (2 ^ 64 - 1)) one

-- a byte before what stands after it
pub byte_more : (text : List ℕ) (room count behind at b next : ℕ) → count ≡ min (texts_of room) (2 ^ 64 - 1)
    → behind ≡ min (texts_behind room (drop (TEXT_BYTES - room) text)) (2 ^ 64 - 1) → at + 1 + room ≡ TEXT_BYTES → at < length text
    → b ≡ get_or text at 0 → next ≡ min (min (count * (255 - b)) (2 ^ 64 - 1) + behind) (2 ^ 64 - 1)
    → next ≡ min (texts_behind (room + 1) (drop (TEXT_BYTES - (room + 1)) text)) (2 ^ 64 - 1)
unfolding texts_behind
byte_more text room count behind at b next is was place within byte step =
    let one : suc room ≡ room + 1 = omega arith in
    let here : TEXT_BYTES - (room + 1) ≡ at = omega arith in
    let past : at + 1 ≡ TEXT_BYTES - room = omega arith in
    let parts : drop at text ≡ b ∷ drop (TEXT_BYTES - room) text =
    drop_more text at 0 within ∙ (λ i. sym byte i ∷ drop (past i) text) in
    step ∙ (λ i. min (min (is i * (255 - b)) (2 ^ 64 - 1) + was i) (2 ^ 64 - 1))
    ∙ cut_once (2 ^ 64 - 1) (texts_of room) (255 - b) (texts_behind room (drop (TEXT_BYTES - room) text)) (omega arith)
    ∙ ap (λ (t : List ℕ). min (texts_behind (suc room) t) (2 ^ 64 - 1)) (sym (ap (λ (n : ℕ). drop n text) here ∙ parts))
    ∙ ap (λ (n : ℕ). min (texts_behind n (drop (TEXT_BYTES - (room + 1)) text)) (2 ^ 64 - 1)) one

-- no byte there
pub none_more : (text : List ℕ) (room count at next : ℕ) → count ≡ min (texts_of room) (2 ^ 64 - 1) → at + 1 + room ≡ TEXT_BYTES
    → length text ≤ at → next ≡ min (count * 256) (2 ^ 64 - 1)
    → next ≡ min (texts_behind (room + 1) (drop (TEXT_BYTES - (room + 1)) text)) (2 ^ 64 - 1)
unfolding texts_of texts_behind
none_more text room count at next is place past step =
    let one : suc room ≡ room + 1 = omega arith in
    let none : drop (TEXT_BYTES - (room + 1)) text ≡ [] = drop_all (TEXT_BYTES - (room + 1)) text (omega arith) in
    let cut = cut_once (2 ^ 64 - 1) (texts_of room) 256 0 (omega arith) in
    let whole : min (min (texts_of room) (2 ^ 64 - 1) * 256) (2 ^ 64 - 1)
    ≡ min (texts_behind (suc room) []) (2 ^ 64 - 1) = omega arith in
    step ∙ ap (λ (n : ℕ). min (n * 256) (2 ^ 64 - 1)) is ∙ whole
    ∙ ap (λ (t : List ℕ). min (texts_behind (suc room) t) (2 ^ 64 - 1)) (sym none)
    ∙ ap (λ (n : ℕ). min (texts_behind n (drop (TEXT_BYTES - (room + 1)) text)) (2 ^ 64 - 1)) one

pub none_first : (text : List ℕ) → length text ≤ TEXT_BYTES → 0 ≡ min (texts_behind 0 (drop (TEXT_BYTES - 0) text)) (2 ^ 64 - 1)
unfolding texts_of texts_behind
none_first text short =
    ap (λ (t : List ℕ). min (texts_behind 0 t) (2 ^ 64 - 1)) (sym (drop_all (TEXT_BYTES - 0) text (omega arith)))

pub one_first : 1 ≡ min (texts_of 0) (2 ^ 64 - 1)
unfolding texts_of
one_first = refl
