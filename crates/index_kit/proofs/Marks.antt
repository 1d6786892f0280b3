-- Cells that are kept as a list of marks and one of numbers.
use Rattle.std.proofs.Common.{◌≡◌, ◌≢◌, ℕ, zero, suc, ◌+◌, ◌-◌, ◌/◌, ◌^◌, ◌<◌, ◌≤◌, ◌⊎◌, inl, inr, List, [], ◌∷◌, length, get_or, set, replicate, Some, None, refl, sym, ap, subst, ◌∙◌, arith}
use Rattle.std.specs.Prelude.{bit_and}
use Rattle.std.proofs.lemmas.Bool.{cases_lt, eq-eqb, ne_eqb}
use Rattle.std.proofs.lemmas.Nat.{and_le_l, and_le_r, and_mask, and_shr}
use Rattle.index_kit.specs.declared.cells.TheConstants.{HELD}
use Rattle.index_kit.specs.Cells.{Cell, Cells, cell_at, cell_of, cells_of, mark_in, number_in}

-- the highest bits of two bytes, in both at once
both_high : (a b : ℕ) → a < 256 → b < 256 → HELD ≤ a → HELD ≤ b → HELD ≤ bit_and a b
both_high a b ha hb a_high b_high =
    let shifted = and_shr a b 7 in
    let one : b / 2 ^ 7 ≡ 2 ^ 1 - 1 = omega arith in
    let lowest = ap (λ (n : ℕ). bit_and (a / 2 ^ 7) n) one ∙ and_mask (a / 2 ^ 7) 1 in
    omega (arith, shifted, lowest)

-- both at once tell whether one of two marks is below those of held cells
abbrev pub Tells : ℕ → ℕ → ℕ → ℕ → Type 0
Tells a b m n = (bit_and a b < HELD → (m < HELD) ⊎ (n < HELD)) × ((m < HELD) ⊎ (n < HELD) → bit_and a b < HELD)

gap_told : (a b : ℕ) → a < 256 → b < 256 → Tells a b a b
gap_told a b ha hb = (one_low (cases_lt a HELD) (cases_lt b HELD), low_of)
  where
    low_of : (a < HELD) ⊎ (b < HELD) → bit_and a b < HELD
    low_of (inl l) = omega (arith, and_le_l a b)
    low_of (inr l) = omega (arith, and_le_r a b)

    one_low : (a < HELD) ⊎ (HELD ≤ a) → (b < HELD) ⊎ (HELD ≤ b) → bit_and a b < HELD → (a < HELD) ⊎ (b < HELD)
    one_low (inl l) d low = inl l
    one_low (inr n) (inl l) low = inr l
    one_low (inr n) (inr m) low = absurd (let high = both_high a b ha hb n m in omega arith)

length-cells_of : (marks numbers : List ℕ) → length numbers ≡ length marks → length (cells_of marks numbers) ≡ length marks
length-cells_of [] numbers same = refl
length-cells_of (m ∷ marks) [] same = absurd (omega arith)
length-cells_of (m ∷ marks) (n ∷ numbers) same = omega (arith, length-cells_of marks numbers (omega arith))

cell_at-cells_of :
    (marks numbers : List ℕ) (at d e : ℕ) → length numbers ≡ length marks → at < length marks
    → cell_at (cells_of marks numbers) at ≡ cell_of (get_or marks at d) (get_or numbers at e)
cell_at-cells_of [] numbers at d e same within = absurd (omega arith)
cell_at-cells_of (m ∷ marks) [] at d e same within = absurd (omega arith)
cell_at-cells_of (m ∷ marks) (n ∷ numbers) zero d e same within = refl
cell_at-cells_of (m ∷ marks) (n ∷ numbers) (suc at) d e same within = cell_at-cells_of marks numbers at d e (omega arith) (omega arith)

free_cell : (m n : ℕ) → m ≡ 0 → cell_of m n ≡ None
free_cell m n free = rw (eq-eqb m 0 free) refl

held_cell : (m n : ℕ) → m ≢ 0 → cell_of m n ≡ Some (m, n)
held_cell m n held = rw (ne_eqb m 0 held) refl

cells_of-filled :
    (marks numbers : List ℕ) (at m n : ℕ) → m ≢ 0 → length numbers ≡ length marks
    → cells_of (set marks at m) (set numbers at n) ≡ set (cells_of marks numbers) at (Some (m, n))
cells_of-filled [] numbers at m n held same = refl
cells_of-filled (x ∷ marks) [] at m n held same = absurd (omega arith)
cells_of-filled (x ∷ marks) (y ∷ numbers) zero m n held same = ap (λ (c : Cell). c ∷ cells_of marks numbers) (held_cell m n held)
cells_of-filled (x ∷ marks) (y ∷ numbers) (suc at) m n held same = ap (λ (cs : Cells). cell_of x y ∷ cs)
    (cells_of-filled marks numbers at m n held (omega arith))

cells_of-cleared :
    (marks numbers : List ℕ) (at : ℕ) → length numbers ≡ length marks
    → cells_of (set marks at 0) numbers ≡ set (cells_of marks numbers) at None
cells_of-cleared [] numbers at same = refl
cells_of-cleared (x ∷ marks) [] at same = absurd (omega arith)
cells_of-cleared (x ∷ marks) (y ∷ numbers) zero same = refl
cells_of-cleared (x ∷ marks) (y ∷ numbers) (suc at) same = ap (λ (cs : Cells). cell_of x y ∷ cs) (cells_of-cleared marks numbers at
    (omega arith))

pub cells_of-free : (len : ℕ) → cells_of (replicate len 0) (replicate len 0) ≡ replicate len None
cells_of-free zero = refl
cells_of-free (suc len) = ap (λ (cs : Cells). None ∷ cs) (cells_of-free len)

mark_of_cell : (m n : ℕ) → m ≡ mark_in (cell_of m n)
mark_of_cell zero n = refl
mark_of_cell (suc m) n = sym (ap mark_in (held_cell (suc m) n (λ e. omega arith)))

-- cells that are kept so
module _ (marks numbers : List ℕ) (cells : Cells) (same : length numbers ≡ length marks) (is : cells_of marks numbers ≡ cells) where
  pub len_kept : length marks ≡ length cells
  len_kept = sym (length-cells_of marks numbers same) ∙ ap length is

  pub read : (at d e : ℕ) → at < length cells → cell_at cells at ≡ cell_of (get_or marks at d) (get_or numbers at e)
  read at d e within = ap (λ (cs : Cells). cell_at cs at) (sym is) ∙ cell_at-cells_of marks numbers at d e same (omega (arith, len_kept))

  pub mark_read : (at m : ℕ) → at < length cells → m ≡ get_or marks at m → m ≡ mark_in (cell_at cells at)
  mark_read at m within h = mark_of_cell m (get_or numbers at 0) ∙ ap mark_in (ap (λ (x : ℕ). cell_of x (get_or numbers at 0)) h ∙ sym
      (read at m 0 within))

  -- two marks that were read as one number
  module _ (at a b : ℕ) (within : at + 1 < length cells) (ha : a < 256) (hb : b < 256) (first : a ≡ get_or marks at a)
      (second : b ≡ get_or marks (at + 1) b) where
    pub gap_read : Tells a b (mark_in (cell_at cells at)) (mark_in (cell_at cells (at + 1)))
    gap_read =
        let x = mark_read at a (omega arith) first in
        let y = mark_read (at + 1) b within second in
        subst (λ (m : ℕ). Tells a b m (mark_in (cell_at cells (at + 1)))) x (subst (Tells a b a) y (gap_told a b ha hb))

  pub no_number_read : (at m : ℕ) → at < length cells → m ≡ get_or marks at m → m ≡ 0 → None ≡ number_in (cell_at cells at)
  no_number_read at m within h free = ap number_in (sym (free_cell m (get_or numbers at 0) free) ∙ ap (λ (x : ℕ). cell_of x
      (get_or numbers at 0)) h ∙ sym (read at m 0 within))

  pub number_read : (at m n : ℕ) → at < length cells → m ≡ get_or marks at m → n ≡ get_or numbers at n → m ≢ 0 → Some n ≡ number_in
      (cell_at cells at)
  number_read at m n within h k held =
      ap number_in (sym (held_cell m n held) ∙ (λ i. cell_of (h i) (k i)) ∙ sym (read at m n within))

  pub filled : (at m n : ℕ) → 0 < m → cells_of (set marks at m) (set numbers at n) ≡ set cells at (Some (m, n))
  filled at m n some = cells_of-filled marks numbers at m n (omega arith) same ∙ ap (λ (cs : Cells). set cs at (Some (m, n))) is

  pub cleared : (at : ℕ) → cells_of (set marks at 0) numbers ≡ set cells at None
  cleared at = cells_of-cleared marks numbers at same ∙ ap (λ (cs : Cells). set cs at None) is
