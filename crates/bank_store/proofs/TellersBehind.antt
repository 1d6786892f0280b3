-- The callers of the bank after their shifts.
use Rattle.std.proofs.Common.{◌≡◌, ℕ, List, [], ◌∷◌, map, get_or, sym, refl, ap, ◌∙◌, subst, arith}
use Rattle.std.specs.Prelude.{slice_get, Some, Ok, Err, All, IfOk, OnOk}
use Rattle.std.specs.declared.alloc.AllocError.{AllocError}
use Rattle.std.specs.declared.result.Result.{Result}
use Rattle.std.proofs.lemmas.List.{length-map}
use Rattle.std.proofs.lemmas.Option.{slice_get-get_or, slice_get_within}
use Rattle.mont_base.specs.declared.gate.Steady.{Steady}
use Rattle.mont_base.specs.contracts.gate.SteadyGate.TheImpl as gate
use Rattle.core_steps.proofs.RowFacts.{all_at, row_of_map}
use Rattle.heap_rule.specs.declared.rule.Opening.{Opening}
use Rattle.heap.specs.FreshOpening.{fresh_opening}
use Rattle.heap.specs.HeapShown.{HeapShown, CallerShown}
use Rattle.heap.specs.Stops.{IsSeatOfCaller}
use Rattle.heap_pass.specs.declared.pass.Pass.{Pass}
use Rattle.heap_pass.specs.Kept.{IsWhole}
use Rattle.caller.specs.Continued.{GoesOn}
use Rattle.store.specs.Store.{AreAllCallers}
use Rattle.store_stop.proofs.Items.{all_gives}
use Rattle.bank_job.specs.declared.shifts.Shift.{Shift}
use Rattle.bank_job.specs.Bank.{bank_layout}
use Rattle.bank_job.specs.Shifts.{IsBetweenUnits}
use Rattle.bank_store.specs.declared.tellers.Teller.{Teller}
use Rattle.bank_store.specs.BankCallers.{HaveShifted}
use Rattle.bank_store.specs.MadeShifts.{HasMadeShifts}
use Rattle.bank_store.specs.Tellers.{AreReady, HaveWorked}

-- ---- before
pub all_tables : (heap : HeapShown) (number : ℕ) (ts : List Teller) → AreReady heap number ts
    → All (λ (t : Teller). t.pass.ticket.table ≡ heap.table) ts
all_tables heap number ts k = all_at (λ (t : Teller). t.pass.ticket.table ≡ heap.table) ts (λ i t e. (k.each i t e).ready.table)

pub all_between : (heap : HeapShown) (number : ℕ) (ts : List Teller) → AreReady heap number ts
    → All (λ (t : Teller). All IsBetweenUnits t.shifts.items) ts
all_between heap number ts k = all_at (λ (t : Teller). All IsBetweenUnits t.shifts.items) ts (λ i t e. (k.each i t e).between)

-- ---- after
ok_of : (r : Result (Unit {0}) AllocError) (P : Type 0) → OnOk r P → r ≡ Ok tt → P
ok_of (Ok v) P h e = h
ok_of (Err x) P h e = absurd (cc e)

module _
    (heap : HeapShown) (number : ℕ) (olds news : List Teller) (ready : AreReady heap number olds) (k : HaveWorked heap olds news)
    (made : All (λ (t : Teller). t.made ≡ Ok tt) news) where
  -- the teller in a place, before and after
  record Both (i : ℕ) (new : Teller) : Type 0 where
    pub old : Teller
    pub old_at : slice_get olds i ≡ Some old
    pub shifted : HasMadeShifts heap old.pass.ticket new.pass.ticket old.shifts.items

  both_at : (i : ℕ) (t : Teller) → slice_get news i ≡ Some t → Both i t
  both_at i t e =
      let low = slice_get_within news i t e in
      let old = get_or olds i t in
      let at : slice_get olds i ≡ Some old = slice_get-get_or olds i t (omega (arith, low, k.many)) in
      let worked = k.each i old t at e in
      record {
        old = old;
        old_at = at;
        shifted =
            ok_of t.made (HasMadeShifts heap old.pass.ticket t.pass.ticket old.shifts.items) worked.made
            (all_gives (λ (x : Teller). x.made ≡ Ok tt) news i t made e);
      }

  pub all_whole : All (λ (t : Teller). IsWhole t.pass.ticket t.pass.receipts.items) news
  all_whole =
      all_at (λ (t : Teller). IsWhole t.pass.ticket t.pass.receipts.items) news
      (λ i t e.
      let b = both_at i t e in
      (k.each i b.old t b.old_at e).same.whole (ready.each i b.old b.old_at).whole)

  abbrev tickets : List CallerShown
  tickets = map (λ (t : Teller). t.pass.ticket) news

  pub are_callers : heap.opening ≡ fresh_opening bank_layout 4 → AreAllCallers heap tickets
  are_callers o = record {
    many = length-map news (λ (t : Teller). t.pass.ticket) ∙ k.many ∙ ready.four ∙ sym (ap (λ (x : Opening). x.callers) o);
    each = λ i q e.
        let row = row_of_map (λ (t : Teller). t.pass.ticket) news i q e in
        let b = both_at i row.0 row.1 in
        let r = (ready.each i b.old b.old_at).ready in
        subst (IsSeatOfCaller heap i) row.2 (b.shifted.table ∙ r.table, b.shifted.goes_on.caller ∙ r.number);
  }

  pub have_shifted : HaveShifted heap number tickets
  have_shifted = record {
    four = length-map news (λ (t : Teller). t.pass.ticket) ∙ k.many ∙ ready.four;
    ends = ready.ends;
    opener = ready.opener;
    opened = ready.opened;
    still = λ q e.
        let row = row_of_map (λ (t : Teller). t.pass.ticket) news 0 q e in
        let b = both_at 0 row.0 row.1 in
        subst (λ (x : CallerShown × CallerShown). GoesOn x.0.known x.1.known) (λ i.
        (ready.first b.old b.old_at i, row.2 i)) b.shifted.goes_on;
    each = λ i q e.
        let row = row_of_map (λ (t : Teller). t.pass.ticket) news i q e in
        let b = both_at i row.0 row.1 in
        let r = ready.each i b.old b.old_at in
        record {
          begun = b.old.pass.ticket;
          ready = r.ready;
          made =
              subst (λ (x : CallerShown × List Shift). HasMadeShifts heap b.old.pass.ticket x.0 x.1) (λ j. (row.2 j, r.shifts j)) b.shifted;
        };
  }

-- ---- their passes, where none lacked memory
map_twice : {A B C : Type 0} (f : A → B) (g : B → C) (xs : List A) → map g (map f xs) ≡ map (λ (x : A). g (f x)) xs
map_twice f g [] = refl
map_twice f g (x ∷ xs) = λ i. g (f x) ∷ map_twice f g xs i

all_of_map : {A B : Type 0} (f : A → B) (P : B → Type 0) (xs : List A) → All (λ (x : A). P (f x)) xs → All P (map f xs)
all_of_map f P xs all =
    all_at P (map f xs)
    (λ i y e.
    let row = row_of_map f xs i y e in
    subst P row.2 (all_gives (λ (x : _). P (f x)) xs i row.0 all row.1))

module _
    (heap : HeapShown) (number : ℕ) (olds news : List Teller) (ready : AreReady heap number olds) (k : HaveWorked heap olds news) where
  abbrev pass_of : Teller → Pass Steady gate.ghosts
  pass_of t = t.pass

  abbrev ticket_of : Pass Steady gate.ghosts → CallerShown
  ticket_of p = p.ticket

  abbrev Kept : Pass Steady gate.ghosts → Type 0
  Kept p = IsWhole p.ticket p.receipts.items

  module _ {V : Type 0} (items : V → List (Pass Steady gate.ghosts)) where
    pub passes_all : (r : Result V AllocError) → IfOk r (λ (ps : V). items ps ≡ map pass_of news)
        → IfOk r (λ (ps : V). All (λ (t : Teller). t.made ≡ Ok tt) news) → heap.opening ≡ fresh_opening bank_layout 4
        → IfOk r (λ (ps : V). AreAllCallers heap (map ticket_of (items ps)))
    passes_all (Ok ps) is made o =
        subst (AreAllCallers heap) (sym (ap (map ticket_of) is
        ∙ map_twice pass_of ticket_of news)) (are_callers heap number olds news ready k made o)
    passes_all (Err x) is made o = tt

    pub passes_whole : (r : Result V AllocError) → IfOk r (λ (ps : V). items ps ≡ map pass_of news)
        → IfOk r (λ (ps : V). All (λ (t : Teller). t.made ≡ Ok tt) news) → IfOk r (λ (ps : V). All Kept (items ps))
    passes_whole (Ok ps) is made =
        subst (All Kept) (sym is) (all_of_map pass_of Kept news (all_whole heap number olds news ready k made))
    passes_whole (Err x) is made = tt

    pub passes_shifted : (r : Result V AllocError) → IfOk r (λ (ps : V). items ps ≡ map pass_of news)
        → IfOk r (λ (ps : V). All (λ (t : Teller). t.made ≡ Ok tt) news)
        → IfOk r (λ (ps : V). HaveShifted heap number (map ticket_of (items ps)))
    passes_shifted (Ok ps) is made =
        subst (HaveShifted heap number) (sym (ap (map ticket_of) is ∙ map_twice pass_of ticket_of news))
        (have_shifted heap number olds news ready k made)
    passes_shifted (Err x) is made = tt
