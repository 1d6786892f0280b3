-- The words and the lists of a table that is made for a store.
use Rattle.std.proofs.Common.{◌≡◌, ℕ, zero, suc, ◌+◌, ◌*◌, List, [], ◌∷◌, ◌++◌, length, replicate, refl, ap, ◌∙◌, arith, append_assoc}
use Rattle.std.specs.Prelude.{slice_set}
use Rattle.std.proofs.lemmas.List.{length-replicate}
use Rattle.atomic_table.specs.Seated.{TableId}
use Rattle.mont_base.specs.declared.constants.TheConstants.{FIELDS, FIRST_CLOCK}
use Rattle.mont_base.specs.Layout.{Shape, units_of, total_of, words_of}
use Rattle.core_steps.specs.Fresh.{fresh_words}
use Rattle.heap_rule.specs.declared.rule.Opening.{Opening}
use Rattle.heap_rule.specs.TableWords.{spread, laid_out}
use Rattle.heap_rule.specs.Views.{Cell, listing}
use Rattle.heap_rule.proofs.WordPlaces.{length_laid_out}
use Rattle.heap.specs.HeapShown.{IsHeap}

spread_zeros : (n : ℕ) → replicate (8 * n) 0 ≡ spread (replicate n 0)
spread_zeros zero = refl
spread_zeros (suc n) =
    let more : 8 * suc n ≡ suc (suc (suc (suc (suc (suc (suc (suc (8 * n)))))))) = omega arith in
    ap (λ (k : ℕ). replicate k 0) more ∙ (λ i. 0 ∷ 0 ∷ 0 ∷ 0 ∷ 0 ∷ 0 ∷ 0 ∷ 0 ∷ spread_zeros n i)

-- words twice, and so many zeros
pub words_laid : (ws none one two all told zeros : List ℕ) (n units : ℕ) → none ≡ [] → one ≡ none ++ ws → two ≡ one ++ ws
    → all ≡ two ++ told → told ≡ zeros → zeros ≡ replicate n 0 → n ≡ 8 * units → all ≡ laid_out ws ws (replicate units 0)
words_laid ws none one two all told zeros n units a b c d e f g =
    let first : one ≡ ws = b ∙ ap (λ (x : List ℕ). x ++ ws) a in
    let last : told ≡ spread (replicate units 0) = e ∙ (f ∙ (ap (λ (k : ℕ). replicate k 0) g ∙ spread_zeros units)) in
    d ∙ ((λ i. (c ∙ ap (λ (x : List ℕ). x ++ ws) first) i ++ last i) ∙ append_assoc ws ws (spread (replicate units 0)))

-- zeros after zeros, and one word among them that is set
zeros_apart : (m n : ℕ) → ◌≡◌ {A = List ℕ} (replicate (m + n) 0) (replicate m 0 ++ replicate n 0)
zeros_apart zero n =
    let same : zero + n ≡ n = omega arith in
    ap (λ (k : ℕ). replicate k 0) same
zeros_apart (suc m) n =
    let more : suc m + n ≡ suc (m + n) = omega arith in
    ap (λ (k : ℕ). replicate k 0) more ∙ ap (λ (ws : List ℕ). 0 ∷ ws) (zeros_apart m n)

set_behind : (m v : ℕ) (ws : List ℕ) → ◌≡◌ {A = List ℕ} (slice_set (replicate m 0 ++ 0 ∷ ws) m v) (replicate m 0 ++ v ∷ ws)
set_behind zero v ws = refl
set_behind (suc m) v ws = ap (λ (xs : List ℕ). 0 ∷ xs) (set_behind m v ws)

-- zeros in which the clock is set twice
pub fresh_laid : (s : Shape) (all : List ℕ) (n w : ℕ) → n ≡ 2 * words_of s + 8 * units_of s → w ≡ words_of s
    → all ≡ slice_set (slice_set (replicate n 0) 0 FIRST_CLOCK) w FIRST_CLOCK
    → all ≡ laid_out (fresh_words s) (fresh_words s) (replicate (units_of s) 0)
fresh_laid s all n w long at is =
    let m : ℕ = FIELDS * total_of s in
    let told : ℕ = 8 * units_of s in
    let count : n ≡ suc (m + suc (m + told)) = omega (arith, long) in
    let place : w ≡ suc m = omega (arith, at) in
    let behind : ◌≡◌ {A = List ℕ} (replicate (m + suc (m + told)) 0)
    (replicate m 0 ++ 0 ∷ (replicate m 0 ++ spread (replicate (units_of s) 0))) =
    zeros_apart m (suc (m + told)) ∙ ap (λ (ws : List ℕ). replicate m 0 ++ 0 ∷ ws)
    (zeros_apart m told ∙ ap (λ (ws : List ℕ). replicate m 0 ++ ws) (spread_zeros (units_of s))) in
    is ∙ ((λ i. slice_set (slice_set (replicate (count i) 0) 0 FIRST_CLOCK) (place i) FIRST_CLOCK)
    ∙ (ap (λ (ws : List ℕ). FIRST_CLOCK ∷ slice_set ws m FIRST_CLOCK) behind
    ∙ ap (λ (ws : List ℕ). FIRST_CLOCK ∷ ws) (set_behind m FIRST_CLOCK _)))

pub heap_is : (table : TableId) (key : Opening) (layout : Shape) (ws words : List ℕ) (lists : List Cell) (room : ℕ) → layout ≡ key.layout
    → table.words ≡ length words → table.slots ≡ length lists → words ≡ laid_out ws ws (replicate (units_of layout) 0)
    → length ws ≡ words_of layout → lists ≡ replicate (2 * units_of layout) (listing room []) → IsHeap table key layout
heap_is table key layout ws words lists room is words_are lists_are all size empty =
    let n : ℕ = units_of layout in
    let w : ℕ = words_of layout in
    let laid = ap length all ∙ length_laid_out ws ws (replicate n 0) in
    let told = length-replicate n 0 in
    let count = ap length empty ∙ length-replicate (2 * n) (listing room []) in
    record {
      layout_is = is;
      words = words_are ∙ (laid ∙ ((λ i. size i + size i + 8 * told i) ∙ twice w n));
      slots = lists_are ∙ count;
    }
  where
    twice : (w n : ℕ) → w + w + 8 * n ≡ 2 * w + 8 * n
    twice w n = omega arith
