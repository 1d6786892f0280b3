-- The words of slots that stand after one another, as many for each slot as a slot has.
use Rattle.std.proofs.Common.{◌≡◌, ℕ, zero, suc, ◌+◌, ◌*◌, ◌<◌, ◌≤◌, List, [], ◌∷◌, ◌++◌, length, take, drop, refl, sym, ap, ◌∙◌, arith}
use Rattle.std.specs.List.{flat_map, range_with_len}
use Rattle.std.proofs.lemmas.List.{flat_map_more, length-append}
use Rattle.std.proofs.Math.Seq.{drop-append-add, take-append_seam}
use Rattle.mont_base.specs.declared.constants.TheConstants.{FIELDS}
use Rattle.mont_base.specs.Image.{words_at}
use Rattle.mont_base.specs.Layout.{word_of}
use Rattle.scan.proofs.Ranges.{range_append}

module _ (f : ℕ → List ℕ) (total : ℕ) (each : (slot : ℕ) → slot < total → length (f slot) ≡ FIELDS) where
  pub length-flat : (a n : ℕ) → a + n ≤ total → length (flat_map f (range_with_len a n)) ≡ FIELDS * n
  length-flat a zero low = refl
  length-flat a (suc n) low =
      let rest = length-flat (a + 1) n (omega arith) in
      let own = each a (omega arith) in
      omega (arith, length-append (f a) (flat_map f (range_with_len (a + 1) n)), rest, own)

  -- the words of the slot at a place
  flat_at : (a n j : ℕ) → a + n ≤ total → j < n → take FIELDS (drop (FIELDS * j) (flat_map f (range_with_len a n))) ≡ f (a + j)
  flat_at a zero j low inside = absurd (omega arith)
  flat_at a (suc n) zero low inside =
      let own = each a (omega arith) in
      let same : a ≡ a + 0 = omega arith in
      ap (λ (m : ℕ). take m (f a ++ flat_map f (range_with_len (a + 1) n))) (sym own)
      ∙ take-append_seam (f a) (flat_map f (range_with_len (a + 1) n)) ∙ ap f same
  flat_at a (suc n) (suc j) low inside =
      let own = each a (omega arith) in
      let far : FIELDS * suc j ≡ length (f a) + FIELDS * j = omega arith in
      let next : a + 1 + j ≡ a + suc j = omega arith in
      ap (λ (m : ℕ). take FIELDS (drop m (f a ++ flat_map f (range_with_len (a + 1) n)))) far
      ∙ ap (take FIELDS) (drop-append-add (f a) (flat_map f (range_with_len (a + 1) n)) (FIELDS * j))
      ∙ flat_at (a + 1) n j (omega arith) (omega arith) ∙ ap f next

  pub words_at-flat : (clock slot : ℕ) → slot < total → words_at (clock ∷ flat_map f (range_with_len 0 total)) slot ≡ f slot
  words_at-flat clock slot inside =
      let behind : word_of slot 0 ≡ suc (FIELDS * slot) = omega arith in
      let place : 0 + slot ≡ slot = omega arith in
      ap (λ (m : ℕ). take FIELDS (drop m (clock ∷ flat_map f (range_with_len 0 total)))) behind
      ∙ flat_at 0 total slot (omega arith) inside ∙ ap f place

-- one slot more
pub range_next : (a n j : ℕ) → a + n ≡ j → range_with_len a n ++ j ∷ [] ≡ range_with_len a (n + 1)
range_next a n j is = ap (λ (m : ℕ). range_with_len a n ++ m ∷ []) (sym is) ∙ range_append a n 1

pub flat_more : (f : ℕ → List ℕ) (front : List ℕ) (a n j : ℕ) → a + n ≡ j
    → (front ++ flat_map f (range_with_len a n)) ++ f j ≡ front ++ flat_map f (range_with_len a (n + 1))
flat_more f front a n j is = flat_map_more f front (range_with_len a n) j
    ∙ ap (λ (slots : List ℕ). front ++ flat_map f slots) (range_next a n j is)
