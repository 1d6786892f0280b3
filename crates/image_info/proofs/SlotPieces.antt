-- The words of a slot as a piece of all words.
use Rattle.std.proofs.Common.{◌≡◌, ℕ, ◌+◌, ◌-◌, ◌^◌, ◌<◌, inl, inr, min, List, length, take, drop, sym, ap, ◌∙◌, arith, length-drop}
use Rattle.std.proofs.lemmas.List.{take_all, drop_all}
use Rattle.std.proofs.lemmas.Bool.{cases_lt}

-- so many words at most, of those that there are
few_taken : (fields : ℕ) (words : List ℕ) → take (min fields (length words)) words ≡ take fields words
few_taken fields words = elim (cases_lt fields (length words)) [
  | inl fewer ↦ let e : min fields (length words) ≡ fields = omega arith in ap (λ (n : ℕ). take n words) e
  | inr all ↦
      let e : min fields (length words) ≡ length words = omega arith in
      ap (λ (n : ℕ). take n words) e ∙ take_all (length words) words (omega arith) ∙ sym (take_all fields words all)
]

-- what stands after a place that is cut to the words' end
late_dropped : (place at : ℕ) (words : List ℕ) → length words < 2 ^ 63 → at ≡ min (min place (2 ^ 64 - 1) + 1) (2 ^ 64 - 1)
    → drop (min at (length words)) words ≡ drop (1 + place) words
late_dropped place at words short is = elim (cases_lt (1 + place) (length words)) [
  | inl within ↦ let e : min at (length words) ≡ 1 + place = omega arith in ap (λ (n : ℕ). drop n words) e
  | inr past ↦
      let e : min at (length words) ≡ length words = omega arith in
      ap (λ (n : ℕ). drop n words) e ∙ drop_all (length words) words (omega arith) ∙ sym (drop_all (1 + place) words past)
]

pub slot_piece : (fields place over at first count : ℕ) (words : List ℕ) → length words < 2 ^ 63 → over ≡ min place (2 ^ 64 - 1)
    → at ≡ min (over + 1) (2 ^ 64 - 1) → first ≡ min at (length words)
    → count ≡ min fields (length (take (length words - first) (drop first words)))
    → take count (take (length words - first) (drop first words)) ≡ take fields (drop (1 + place) words)
slot_piece fields place over at first count words short most is cut few =
    let rest = take (length words - first) (drop first words) in
    let all : rest ≡ drop first words = take_all (length words - first) (drop first words) (omega (arith, length-drop first words)) in
    let behind : drop first words ≡ drop (1 + place) words =
    ap (λ (n : ℕ). drop n words) cut
    ∙ late_dropped place at words short (is ∙ ap (λ (n : ℕ). min (n + 1) (2 ^ 64 - 1)) most) in
    ap (λ (n : ℕ). take n rest) few ∙ few_taken fields rest ∙ ap (λ (ws : List ℕ). take fields ws) (all ∙ behind)
