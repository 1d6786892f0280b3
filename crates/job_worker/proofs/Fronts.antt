-- Entries that stand first among others.
use Rattle.std.proofs.Common.{◌≡◌, ℕ, ◌<◌, ◌≤◌, List, [], ◌∷◌, ◌++◌, length, take, slice_get, sym, ap, ◌∙◌, arith, append_assoc, length-append}
use Rattle.std.specs.Prelude.{Option, Some, unwrap_or}
use Rattle.std.proofs.Math.Seq.{take-append_seam, get_or-append_seam}
use Rattle.std.proofs.lemmas.Option.{slice_get-get_or}
use Rattle.mont_base.specs.declared.operation.Entry.{Entry}
use Rattle.mont_base.specs.Seen.{IsEntryAt}
use Rattle.core_steps.specs.Notes.{BeginsWith}
use Rattle.heap_rule.specs.SeenEntries.{AreFronts}

pub one_found : {A : Type 0} (o : Option A) (a b : A) → o ≡ Some a → o ≡ Some b → a ≡ b
one_found o a b e f = ap (λ v. unwrap_or v a) (sym e ∙ f)

pub begins_longer : (whole front : List Entry) → BeginsWith whole front → length front ≤ length whole
begins_longer whole front (rest, e) = let n = ap length e ∙ length-append front rest in omega (arith, n)

pub taken : (whole front : List Entry) → BeginsWith whole front → take (length front) whole ≡ front
taken whole front (rest, e) = ap (λ (v : List Entry). take (length front) v) e ∙ take-append_seam front rest

-- the last entry of a front
pub last_there : (whole before : List Entry) (e : Entry) → BeginsWith whole (before ++ e ∷ [])
    → slice_get whole (length before) ≡ Some e
last_there whole before e (rest, made) =
    let split : whole ≡ before ++ e ∷ rest = made ∙ append_assoc before (e ∷ []) rest in
    let n = length-append before (e ∷ rest) in
    let long : length before < length (before ++ e ∷ rest) = omega (arith, n) in
    ap (λ (v : List Entry). slice_get v (length before)) split
    ∙ slice_get-get_or (before ++ e ∷ rest) (length before) e long
    ∙ ap Some (get_or-append_seam before e rest e)

pub entry_there : (histories fronts : List (List Entry)) (unit : ℕ) (before : List Entry) (e : Entry)
    → AreFronts histories fronts → slice_get fronts unit ≡ Some (before ++ e ∷ [])
    → IsEntryAt histories unit (length before) e
entry_there histories fronts unit before e f there =
    let s = f unit (before ++ e ∷ []) there in (s.whole, s.there, last_there s.whole before e s.begins)

pub one_entry : (histories : List (List Entry)) (unit place : ℕ) (d e : Entry) → IsEntryAt histories unit place d
    → IsEntryAt histories unit place e → d ≡ e
one_entry histories unit place d e (h, th, hd) (g, tg, he) =
    let same : h ≡ g = one_found (slice_get histories unit) h g th tg in
    one_found (slice_get g place) d e (sym (ap (λ (v : List Entry). slice_get v place) same) ∙ hd) he
