-- How many entries a unit has: the two puts of the opening, and one of a shift at most.
use Rattle.std.proofs.Common.{T, ◌≡◌, ℕ, zero, suc, ◌+◌, ◌≤◌, Bool, true, false, cond, List, [], ◌∷◌, length, sym, refl, ap, ◌∙◌, subst, arith}
use Rattle.std.specs.Prelude.{◌==◌, All, Option, Some, None, sum_by, slice_get}
use Rattle.std.proofs.Math.Facts.{eqb_yes}
use Rattle.std.proofs.lemmas.Bool.{eq-eqb}
use Rattle.std.proofs.lemmas.List.Elements.{All-head, All-tail}
use Rattle.std.proofs.lemmas.List.Sums.{sum_by-cons}
use Rattle.mont_base.specs.declared.operation.Entry.{Entry}
use Rattle.mont_base.specs.State.{unit_of_op}
use Rattle.bank_job.specs.Bank.{bank_layout}

-- 1 for an operation of the unit, and else 0
abbrev pub if_unit : ℕ → Option ℕ → ℕ
if_unit unit None = 0
if_unit unit (Some u) = cond (u == unit) 1 0

abbrev pub of_unit : ℕ → Entry → ℕ
of_unit unit e = if_unit unit (unit_of_op bank_layout e.op)

if_few : (unit : ℕ) (o : Option ℕ) → if_unit unit o ≤ 1
if_few unit None = omega arith
if_few unit (Some u) = by (u == unit)
  where
    by : (b : Bool) → cond b 1 0 ≤ 1
    by true = omega arith
    by false = omega arith

-- all entries of a unit's history count
pub all_count : (unit : ℕ) (h : List Entry) → All (λ (e : Entry). unit_of_op bank_layout e.op ≡ Some unit) h
    → sum_by (of_unit unit) h ≡ length h
all_count unit [] all = refl
all_count unit (e ∷ es) all =
    let c = sum_by-cons (of_unit unit) e es in
    let one : of_unit unit e ≡ 1 =
    ap (if_unit unit) (All-head (λ (x : Entry). unit_of_op bank_layout x.op ≡ Some unit) e es all)
    ∙ ap (λ (b : Bool). cond b 1 0) (eq-eqb unit unit refl) in
    let rest = all_count unit es (All-tail (λ (x : Entry). unit_of_op bank_layout x.op ≡ Some unit) e es all) in
    omega (arith, c, one, rest)

-- one history isn't counted more often than all
pub one_of_all : (count : List Entry → ℕ) (hs : List (List Entry)) (unit : ℕ) (h : List Entry) → slice_get hs unit ≡ Some h
    → count h ≤ sum_by count hs
one_of_all count [] unit h e = absurd (cc e)
one_of_all count (g ∷ hs) zero h e =
    let c = sum_by-cons count g hs in
    let same : g ≡ h = cc e in
    let n = ap count same in omega (arith, c, n)
one_of_all count (g ∷ hs) (suc unit) h e =
    let c = sum_by-cons count g hs in
    let rest = one_of_all count hs unit h e in omega (arith, c, rest)

-- of two operations of different units one at most is of the unit
pub two_few : (unit : ℕ) (a b : Option ℕ) → (a ≡ b → ⊥) → if_unit unit a + if_unit unit b ≤ 1
two_few unit None b differ = let n = if_few unit b in omega (arith, n)
two_few unit (Some u) None differ = let n = if_few unit (Some u) in omega (arith, n)
two_few unit (Some u) (Some v) differ = by (u == unit) (v == unit) refl refl
  where
    by : (p q : Bool) → (u == unit) ≡ p → (v == unit) ≡ q → cond p 1 0 + cond q 1 0 ≤ 1
    by true true e f = absurd (differ (λ i. Some ((eqb_yes {a = u} {b = unit} (subst T (sym e) tt)
        ∙ sym (eqb_yes {a = v} {b = unit} (subst T (sym f) tt))) i)))
    by true false e f = omega arith
    by false true e f = omega arith
    by false false e f = omega arith
