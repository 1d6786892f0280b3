-- A sweep takes one slot from the front of those that are lost.
use Rattle.std.proofs.Common.{◌≡◌, ℕ, ◌+◌, ◌<◌, ◌≤◌, List, [], ◌∷◌, length, get_or, set, Bool, true, false, ap, sym, subst, refl, inl, inr, arith}
use Rattle.std.specs.Prelude.{is_err, Ok, Err, IsErrAnd, All}
use Rattle.std.specs.declared.result.Result.{Result}
use Rattle.std.proofs.lemmas.List.Elements.{All-head, All-tail}
use Rattle.std.proofs.lemmas.List.Sums.{sum_by-cons, sum_by-set}
use Rattle.heap.specs.GateAsked.{IsAskedOften}
use Rattle.slots.specs.Books.{RegionShown}
use Rattle.slots.specs.Sweeping.{IsSweeping, WasCutSweeping, swept, swept_from}
use Rattle.recover.specs.Recovery.{lost_in}

-- ---- one unit
less : (r : RegionShown) (lost : List ℕ) (turn many : ℕ) → r.books.lost ≡ lost → length lost + turn ≤ many → turn < many
    → length (swept_from r lost).books.lost + (turn + 1) ≤ many
less r [] turn many is low before =
    let none : length r.books.lost ≡ 0 = ap length is in omega (arith, none, before)
less r (slot ∷ rest) turn many is low before = omega (arith, low)

pub one_less : (old new : RegionShown) (turn many : ℕ) → new ≡ swept old → length old.books.lost + turn ≤ many → turn < many
    → length new.books.lost + (turn + 1) ≤ many
one_less old new turn many is low before =
    subst (λ (r : RegionShown). length r.books.lost + (turn + 1) ≤ many) (sym is) (less old old.books.lost turn many refl low before)

pub none_lost : (lost : List ℕ) (turn many : ℕ) → length lost + turn ≤ many → many ≤ turn → lost ≡ []
none_lost [] turn many low end = refl
none_lost (x ∷ lost) turn many low end = absurd (omega arith)

-- a cut takes none
sweeping_keeps : (old new : RegionShown) (lost : List ℕ) → IsSweeping old new lost → new.books.lost ≡ old.books.lost
sweeping_keeps old new [] is = absurd is
sweeping_keeps old new (slot ∷ rest) is = ap (λ (r : RegionShown). r.books.lost) is

pub cut_keeps : (old new : RegionShown) → WasCutSweeping old new → new.books.lost ≡ old.books.lost
cut_keeps old new (inl same) = ap (λ (r : RegionShown). r.books.lost) same
cut_keeps old new (inr is) = sweeping_keeps old new old.books.lost is

-- ---- all units
pub fewer_lost : (rs : List RegionShown) (u : ℕ) (r d : RegionShown) → u < length rs
    → length r.books.lost ≤ length (get_or rs u d).books.lost → lost_in (set rs u r) ≤ lost_in rs
fewer_lost rs u r d low fewer =
    let same = sum_by-set (λ (x : RegionShown). length x.books.lost) rs u r d low in omega (arith, same, fewer)

pub none_in : (rs : List RegionShown) → All (λ (r : RegionShown). r.books.lost ≡ []) rs → lost_in rs ≡ 0
none_in [] all = refl
none_in (r ∷ rs) all =
    let first = sum_by-cons (λ (x : RegionShown). length x.books.lost) r rs in
    let here : length r.books.lost ≡ 0 = ap length (All-head (λ (x : RegionShown). x.books.lost ≡ []) r rs all) in
    let rest = none_in rs (All-tail (λ (x : RegionShown). x.books.lost ≡ []) r rs all) in
    omega (arith, first, here, rest)

-- ---- gates
-- no question so far
pub asks_none : {G : Type 0} (cuts : G → ℕ) (endless : G → Bool) (g : G) → IsAskedOften cuts endless g g false
asks_none cuts endless g = record {
  later = omega arith;
  kept = λ e. refl;
  counted = λ e. absurd (cc);
  same = refl;
  passes = λ e. refl;
}

-- a result that is a refusal
pub as_err : {X E : Type 0} (P : E → Type 0) (r : Result X E) → IsErrAnd r P → true ≡ is_err r
as_err P (Ok x) h = absurd h
as_err P (Err e) h = refl
