-- The callers of the bank, before their shifts and after them.
use Rattle.std.proofs.Common.{◌≡◌, ℕ, zero, suc, ◌<◌, List, [], ◌∷◌, ◌++◌, length, map, sym, refl, ap, ◌∙◌, subst, arith, inl, inr}
use Rattle.std.specs.Prelude.{◌⊎◌, slice_get, Option, Some, All}
use Rattle.std.proofs.lemmas.List.{length-map}
use Rattle.std.proofs.lemmas.Option.{same_Some}
use Rattle.mont_base.specs.declared.operation.Receipt.{Receipt}
use Rattle.heap_rule.specs.declared.views.CallerKnown.{CallerKnown}
use Rattle.heap_rule.specs.Views.{caller_heard, note_of_caller}
use Rattle.heap.specs.HeapShown.{HeapShown, CallerShown}
use Rattle.bank_job.specs.Bank.{first_puts}
use Rattle.bank_job.specs.Shifts.{first_shifts, IsBetweenUnits}
use Rattle.bank_store.specs.declared.tellers.Teller.{Teller}
use Rattle.bank_store.specs.BankCallers.{IsReady}
use Rattle.bank_store.specs.OpenedAccounts.{HaveComeTo, IsSettled, KnowsOpening, puts_given}
use Rattle.bank_store.specs.Tellers.{HasWorked, IsTeller}
use Rattle.bank_store.proofs.FirstTellers.{hearer_ready, new_caller, opener_ready}

-- what a call left is what stands there now
pub moved : (heap : HeapShown) (a b old new : Teller) → a ≡ old → b ≡ new → HasWorked heap a b → HasWorked heap old new
moved heap a b old new p q k = subst (λ (x : Teller × Teller). HasWorked heap x.0 x.1) (λ i. (p i, q i)) k

-- ---- one more item
item_more : {A : Type 0} (xs : List A) (x : A) (i : ℕ) (y : A) → slice_get (xs ++ x ∷ []) i ≡ Some y
    → (slice_get xs i ≡ Some y) ⊎ ((i ≡ length xs) × (x ≡ y))
item_more [] x zero y e = inr (refl, same_Some x y e)
item_more [] x (suc i) y e = absurd (cc e)
item_more (z ∷ xs) x zero y e = inl e
item_more (z ∷ xs) x (suc i) y e = by (item_more xs x i y e)
  where
    by : (slice_get xs i ≡ Some y) ⊎ ((i ≡ length xs) × (x ≡ y))
        → (slice_get (z ∷ xs) (suc i) ≡ Some y) ⊎ ((suc i ≡ length (z ∷ xs)) × (x ≡ y))
    by (inl at) = inl at
    by (inr (n, same)) = inr (ap suc n, same)

-- ---- tickets of callers that did nothing yet
abbrev pub new_callers : HeapShown → ℕ → ℕ → List CallerShown
new_callers heap from zero = []
new_callers heap from (suc n) = record { table = heap.table; known = new_caller from } ∷ new_callers heap (suc from) n

-- ---- tellers
pub record AreReadyBelow
    (heap : HeapShown) (number : ℕ) (ends : List (Option Receipt)) (opener : CallerShown) (tellers : List Teller) : Type 0 where
  pub first : (t : Teller) → slice_get tellers 0 ≡ Some t → t.pass.ticket ≡ opener
  pub each : (caller : ℕ) (t : Teller) → slice_get tellers caller ≡ Some t → IsTeller heap number (puts_given ends) caller t

pub ready_one : (heap : HeapShown) (number : ℕ) (ends : List (Option Receipt)) (opener : CallerShown) (tellers : List Teller) (t : Teller)
    → tellers ≡ t ∷ [] → t.pass.ticket ≡ opener → IsTeller heap number (puts_given ends) 0 t
    → AreReadyBelow heap number ends opener tellers
ready_one heap number ends opener tellers t is ticket ready =
    subst (AreReadyBelow heap number ends opener) (sym is)
    (record {
      first = λ x e. subst (λ (y : Teller). y.pass.ticket ≡ opener) (same_Some t x e) ticket;
      each = λ caller x e. at caller x e;
    })
  where
    at : (caller : ℕ) (x : Teller) → slice_get (t ∷ []) caller ≡ Some x → IsTeller heap number (puts_given ends) caller x
    at zero x e = subst (IsTeller heap number (puts_given ends) 0) (same_Some t x e) ready
    at (suc caller) x e = absurd (cc e)

pub ready_more : (heap : HeapShown) (number : ℕ) (ends : List (Option Receipt)) (opener : CallerShown) (tellers now : List Teller)
    (t : Teller)
    → now ≡ tellers ++ t ∷ [] → 0 < length tellers → IsTeller heap number (puts_given ends) (length tellers) t
    → AreReadyBelow heap number ends opener tellers → AreReadyBelow heap number ends opener now
ready_more heap number ends opener tellers now t is some ready k =
    subst (AreReadyBelow heap number ends opener) (sym is)
    (record {
      first = λ x e. first x (item_more tellers t 0 x e);
      each = λ caller x e. at caller x (item_more tellers t caller x e);
    })
  where
    first : (x : Teller) → (slice_get tellers 0 ≡ Some x) ⊎ ((0 ≡ length tellers) × (t ≡ x)) → x.pass.ticket ≡ opener
    first x (inl e) = k.first x e
    first x (inr (n, same)) = absurd (omega (arith, n, some))

    at : (caller : ℕ) (x : Teller) → (slice_get tellers caller ≡ Some x) ⊎ ((caller ≡ length tellers) × (t ≡ x))
        → IsTeller heap number (puts_given ends) caller x
    at caller x (inl e) = k.each caller x e
    at caller x (inr (n, same)) =
        subst (λ (y : ℕ × Teller). IsTeller heap number (puts_given ends) y.0 y.1) (λ i. (sym n i, same i)) ready

-- the first one
pub opener_teller : (heap : HeapShown) (number : ℕ) (ends : List (Option Receipt)) (r : CallerShown) (t : Teller)
    → t.pass.ticket ≡ r → t.pass.receipts.items ≡ r.known.part.receipts → t.shifts.items ≡ first_shifts number 0 500
    → All IsBetweenUnits t.shifts.items → HaveComeTo heap (record { table = heap.table; known = new_caller 0 }) r (first_puts 8) ends
    → IsSettled r.known → IsTeller heap number (puts_given ends) 0 t
opener_teller heap number ends r t ticket whole shifts between k settled = record {
  ready = subst (IsReady heap (puts_given ends) 0) (sym ticket) (opener_ready heap ends r k settled);
  whole = whole ∙ sym (ap (λ (s : CallerShown). s.known.part.receipts) ticket);
  shifts = shifts;
  between = between;
}

-- another one, that has heard
pub hearer_teller : (heap : HeapShown) (number : ℕ) (ends : List (Option Receipt)) (caller : ℕ) (q : CallerKnown) (t : Teller)
    → All (λ (x : Receipt). x.unit < 6) (puts_given ends) → KnowsOpening q (puts_given ends) → 0 < caller
    → t.pass.ticket ≡ record { table = heap.table; known = caller_heard (new_caller caller) (note_of_caller q) }
    → t.pass.receipts.items ≡ [] → t.shifts.items ≡ first_shifts number caller 500 → All IsBetweenUnits t.shifts.items
    → IsTeller heap number (puts_given ends) caller t
hearer_teller heap number ends zero q t low knows some ticket none shifts between = absurd (omega (arith, some))
hearer_teller heap number ends (suc caller) q t low knows some ticket none shifts between = record {
  ready = subst (IsReady heap (puts_given ends) (suc caller)) (sym ticket)
      (hearer_ready heap (puts_given ends) caller q low knows);
  whole = none ∙ sym (ap (λ (s : CallerShown). s.known.part.receipts) ticket);
  shifts = shifts;
  between = between;
}

-- ---- passes that are left, by their tickets
module _ {P : Type 0} (ticket_of : P → CallerShown) (heap : HeapShown) where
  abbrev new_ticket : ℕ → CallerShown
  new_ticket caller = record { table = heap.table; known = new_caller caller }

  abbrev rest_of : List CallerShown → List CallerShown
  rest_of [] = []
  rest_of (x ∷ xs) = xs

  pub one_taken : (from n : ℕ) (rest : List P) (p : P) (ps : List P) → rest ≡ p ∷ ps → map ticket_of rest ≡ new_callers heap from n
      → (m : ℕ) × (n ≡ suc m) × (ticket_of p ≡ new_ticket from) × (map ticket_of ps ≡ new_callers heap (suc from) m)
  one_taken from zero rest p ps is e =
      absurd (none (ticket_of p) (map ticket_of ps) (sym (ap (map ticket_of) is) ∙ e))
    where
      none : (x : CallerShown) (xs : List CallerShown) → x ∷ xs ≡ [] → ⊥
      none x xs same = absurd (cc same)
  one_taken from (suc m) rest p ps is e =
      let both = sym (ap (map ticket_of) is) ∙ e in
      (m, refl, same_Some (ticket_of p) (new_ticket from) (ap (λ (l : List CallerShown). slice_get l 0) both), ap rest_of both)

  pub none_taken : (from n : ℕ) (rest : List P) → length rest ≡ 0 → map ticket_of rest ≡ new_callers heap from n → n ≡ 0
  none_taken from zero rest none e = refl
  none_taken from (suc m) rest none e =
      let n = ap length e in let l = length-map rest ticket_of in absurd (omega (arith, n, l, none))
