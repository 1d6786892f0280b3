-- What one entry more does to what is true of a unit.
use Rattle.std.proofs.Common.{◌≡◌, ℕ, ◌+◌, ◌<◌, ◌≤◌, List, [], ◌∷◌, ◌++◌, length, get_or, take, length-append, sum_by, count_by, refl, sym, ap, ◌∙◌, arith}
use Rattle.std.specs.Prelude.{nat_lt, if◌then◌else◌}
use Rattle.std.proofs.lemmas.Bool.Decides.{nat_tests}
use Rattle.std.proofs.lemmas.List.{take_more}
use Rattle.std.proofs.lemmas.List.Sums.{sum_by-cons, sum_by_push}
use Rattle.mont_base.specs.declared.operation.Entry.{Entry}
use Rattle.mont_base.specs.declared.effect.Effect.{Effect}
use Rattle.mont_base.specs.declared.effect.Effect.TheVariants.{Inserts, Replaces, Removes}
use Rattle.mont_base.specs.Counting.{is_enq, is_insertion}
use Rattle.mont_base.specs.State.{State, step}
use Rattle.mont_base.specs.History.{state_after}
use Rattle.mont_base.specs.Room.{retires, retired_late, room_of}
use Rattle.mont_laws.proofs.Counting.{sum_more}
use Rattle.mont_laws.proofs.Histories.{after_push}
use Rattle.mont_check.specs.Walk.{Facts, facts_after, is_removal, is_replacement, more_facts}

-- ---- one entry more
late_more :
    (clock : ℕ) (base : State) (h : List Entry) (e : Entry)
    → retired_late clock base (h ++ e ∷ [])
    ≡ retired_late clock base h + (if nat_lt clock (e.epoch + 2) then sum_by retires (step (state_after base h) e.op).effects else 0)
late_more clock base [] e = omega arith
late_more clock base (g ∷ h) e = let rest = late_more clock (step base g.op).state h e in omega arith

facts_push :
    (clock : ℕ) (base : State) (h : List Entry) (e : Entry)
    → more_facts clock (facts_after clock base h) e ≡ facts_after clock base (h ++ e ∷ [])
facts_push clock base h e =
    let state = after_push base h e in
    let entries : length h + 1 ≡ length (h ++ e ∷ []) = simp length-append (omega arith) in
    let waiting = late_more clock base h e in
    let inserted = sum_more (count_by is_insertion) base h e in
    let changed = sum_more length base h e in
    let enqueued = sum_by_push (λ (g : Entry). if is_enq g.op then 1 else 0) h e in
    λ i. record {
      state = sym state i;
      entries = entries i;
      waiting = sym waiting i;
      inserted = sym inserted i;
      changed = sym changed i;
      enqueued = sym enqueued i;
    }

-- a walk that has passed i entries and passes the next one
pub facts_more :
    (clock : ℕ) (base : State) (h : List Entry) (i : ℕ) (e : Entry) (f g : Facts) → i < length h → e ≡ get_or h i e
    → f ≡ facts_after clock base (take i h) → g ≡ more_facts clock f e → g ≡ facts_after clock base (take (i + 1) h)
facts_more clock base h i e f g within is before one =
    one ∙ ap (λ (x : Facts). more_facts clock x e) before ∙ facts_push clock base (take i h) e
    ∙ ap (facts_after clock base) (ap (λ (x : Entry). take i h ++ x ∷ []) is ∙ sym (take_more h i e within))

-- ---- what effects retire
pub retired_kinds :
    (effects : List Effect)
    → sum_by retires effects ≡ count_by is_replacement effects + (count_by is_removal effects + count_by is_removal effects)
retired_kinds [] = refl
retired_kinds (e ∷ es) =
    let rest = retired_kinds es in
    let one = of_one e in
    let a = sum_by-cons retires e es in
    let b = sum_by-cons (λ (x : Effect). if is_replacement x then 1 else 0) e es in
    let c = sum_by-cons (λ (x : Effect). if is_removal x then 1 else 0) e es in
    omega arith
  where
    of_one :
        (x : Effect)
        → retires x ≡ (if is_replacement x then 1 else 0) + ((if is_removal x then 1 else 0) + (if is_removal x then 1 else 0))
    of_one (Inserts thing) = refl
    of_one (Replaces thing) = refl
    of_one (Removes thing) = refl

-- ---- there is the more room the later the clock
late_falls : (c d : ℕ) (base : State) (h : List Entry) → c ≤ d → retired_late d base h ≤ retired_late c base h
late_falls c d base [] above = omega arith
late_falls c d base (e ∷ h) above =
    let rest = late_falls c d (step base e.op).state h above in
    let retired = sum_by retires (step base e.op).effects in
    let one : (if nat_lt d (e.epoch + 2) then sum_by retires (step base e.op).effects else 0)
    ≤ (if nat_lt c (e.epoch + 2) then sum_by retires (step base e.op).effects else 0) = at_most (sum_by retires (step base e.op).effects) in
    omega arith
  where
    at_most : (n : ℕ) → (if nat_lt d (e.epoch + 2) then n else 0) ≤ (if nat_lt c (e.epoch + 2) then n else 0)
    at_most n = grind (arith, nat_tests)

pub room_rises : (slots c d : ℕ) (base : State) (h : List Entry) → c ≤ d → room_of slots base h c ≤ room_of slots base h d
room_rises slots c d base h above = let late = late_falls c d base h above in omega arith
