-- The opening of the bank: each of its puts was answered, and a caller that has seen it finds every account.
use Rattle.std.proofs.Common.{◌≡◌, ℕ, zero, suc, ◌<◌, ◌≤◌, true, List, [], ◌∷◌, ◌++◌, length, map, sym, refl, ap, ◌∙◌, subst, arith}
use Rattle.std.specs.Prelude.{slice_get, Option, Some, None, All, decimal}
use Rattle.std.specs.FinMap as finite
use Rattle.std.proofs.lemmas.List.Elements.{All-head, All-tail}
use Rattle.std.proofs.lemmas.Option.{same_Some}
use Rattle.mont_base.specs.declared.constants.TheConstants.{FIRST_CLOCK}
use Rattle.mont_base.specs.declared.operation.Entry.{Entry}
use Rattle.mont_base.specs.declared.operation.Op.{Op}
use Rattle.mont_base.specs.declared.operation.Op.TheVariants as ops
use Rattle.mont_base.specs.declared.operation.Receipt.{Receipt}
use Rattle.mont_base.specs.declared.refusal.CallRefusal.{CallRefusal}
use Rattle.mont_base.specs.declared.refusal.CallRefusal.TheVariants.{Halted, CountEnd, Memory, Full, Cut}
use Rattle.mont_base.specs.Image.{empty_states}
use Rattle.mont_base.specs.Layout.{unit_of_key}
use Rattle.mont_base.specs.Seen.{IsEntryAt}
use Rattle.mont_base.specs.declared.kinds.UnitKind.TheVariants as kinds
use Rattle.mont_base.specs.State.{MapOf, State, empty_state, unit_of_op}
use Rattle.plain.specs.declared.contents.Contents.{Contents}
use Rattle.plain.specs.States.{states_of}
use Rattle.core_steps.proofs.RowFacts.{row_of_map}
use Rattle.heap_rule.specs.declared.rule.Opening.{Opening}
use Rattle.heap.specs.FreshOpening.{fresh_opening}
use Rattle.heap.specs.HeapShown.{HeapShown, CallerShown}
use Rattle.caller.specs.Continued.{GoesOn}
use Rattle.store_stop.specs.declared.headline.Stopped.{Stopped}
use Rattle.store_stop.specs.Headline.{IsStopped}
use Rattle.store_stop.proofs.Items.{all_gives, all_split}
use Rattle.store.specs.StoreCalls.{IsRefused, TellsWhy}
use Rattle.store.specs.StoreShown.{StoreShown}
use Rattle.bank_job.specs.Bank.{account, bank_layout, first_puts, opening_put}
use Rattle.bank_store.specs.BankCallers.{HaveShifted}
use Rattle.bank_store.specs.BankRun.{OpensAccounts}
use Rattle.bank_store.specs.Ends.{all_given}
use Rattle.bank_store.specs.MadeShifts.{HasSeenPlace}
use Rattle.bank_store.specs.OpenedAccounts.{PutsEnd, WasLeftOut, is_left_out, puts_given}
use Rattle.bank_store.proofs.BankBase.{bank_on, key_unit_low, of_bank}
use Rattle.bank_store.proofs.BankCauses.{bank_front, never_at_end, never_full}
use Rattle.bank_store.proofs.BankUnits.{all_opening, legal_bank}
use Rattle.bank_store.proofs.GivenEntries.{IsOpeningPut}
use Rattle.bank_store.proofs.NumberHistories.{HasKey, pairs_after, put_is_there}
use Rattle.bank_store.proofs.SeenCalls.{goes_further}
use Rattle.bank_store.proofs.StoppedBank.{names_once, unmarked}

-- ---- lists
pub front_item : (front rest : List Entry) (i : ℕ) (e : Entry) → i < length front → slice_get (front ++ rest) i ≡ Some e
    → slice_get front i ≡ Some e
front_item [] rest i e low at = absurd (omega (arith, low))
front_item (x ∷ xs) rest zero e low at = at
front_item (x ∷ xs) rest (suc i) e low at = front_item xs rest i e (omega (arith, low)) at

pub put_at : (n : ℕ) → n < 8 → slice_get (first_puts 8) n ≡ Some (opening_put n)
unfolding first_puts
put_at zero low = refl
put_at (suc zero) low = refl
put_at (suc (suc zero)) low = refl
put_at (suc (suc (suc zero))) low = refl
put_at (suc (suc (suc (suc zero)))) low = refl
put_at (suc (suc (suc (suc (suc zero))))) low = refl
put_at (suc (suc (suc (suc (suc (suc zero)))))) low = refl
put_at (suc (suc (suc (suc (suc (suc (suc zero))))))) low = refl
put_at (suc (suc (suc (suc (suc (suc (suc (suc n)))))))) low = absurd (omega (arith, low))

state_at : (unit : ℕ) → unit < 6 → (s : State) × (slice_get (empty_states bank_layout) unit ≡ Some s)
state_at zero low = (MapOf finite.empty, refl)
state_at (suc zero) low = (MapOf finite.empty, refl)
state_at (suc (suc zero)) low = (MapOf finite.empty, refl)
state_at (suc (suc (suc zero))) low = (MapOf finite.empty, refl)
state_at (suc (suc (suc (suc zero)))) low = (empty_state kinds.Queue, refl)
state_at (suc (suc (suc (suc (suc zero))))) low = (empty_state kinds.Graph, refl)
state_at (suc (suc (suc (suc (suc (suc unit)))))) low = absurd (omega (arith, low))

pub puts_many : length (first_puts 8) ≡ 8
unfolding first_puts
puts_many = refl

pub given_len : (heap : HeapShown) (q r : CallerShown) (puts : List Op) (ends : List (Option Receipt)) → PutsEnd heap q r puts ends
    → length (puts_given ends) ≤ length puts
given_len heap q r [] [] k = omega arith
given_len heap q r (o ∷ os) (None ∷ es) k = let n = given_len heap q r os es k.1 in omega (arith, n)
given_len heap q r (o ∷ os) (Some x ∷ es) k = let n = given_len heap q r os es k.1 in omega (arith, n)
given_len heap q r [] (e ∷ es) k = absurd k
given_len heap q r (o ∷ os) [] k = absurd k

module _
    (heap : HeapShown) (number : ℕ) (base : Contents) (t : Stopped) (a b c d : CallerShown)
    (sh : HaveShifted heap number (a ∷ b ∷ c ∷ d ∷ []))
    (st : IsStopped bank_layout FIRST_CLOCK base (a ∷ b ∷ c ∷ d ∷ []) t)
    (empty : states_of base ≡ empty_states bank_layout) (o : heap.opening ≡ fresh_opening bank_layout 4) where
  abbrev opening : List Receipt
  opening = puts_given sh.ends

  pub few_puts : length opening ≤ 8
  few_puts =
      let n = given_len heap sh.opened.first sh.opener (first_puts 8) sh.ends sh.opened.opened.puts.each in
      let m = puts_many in omega (arith, n, m)

  few_calls : sh.opener.known.part.calls ≤ 8
  few_calls =
      let n = sh.opened.opened.puts.calls in
      let m = sh.opened.unanswered.calls in
      let f = few_puts in omega (arith, n, m, f)

  -- ---- no put was left out
  module _ (before behind : CallerShown) (on : GoesOn behind.known sh.opener.known)
      (calls : before.known.part.calls ≤ sh.opener.known.part.calls)
      (unit : ℕ) (low : unit < 4) (key value : List ℕ) where
    to_end : GoesOn behind.known a.known
    to_end = goes_further behind.known sh.opener.known a.known on (sh.still a refl)

    never_told : (why : CallRefusal) → is_left_out why ≡ true → TellsWhy (bank_on heap) unit before behind (ops.Put key value) why → ⊥
    never_told (Halted halted by) e k =
        unmarked heap number base t a b c d sh st 0 a.known.part (record { unit = unit; by = Some by }) refl
        (to_end.marks (record { unit = unit; by = Some by }) k.2)
    never_told (CountEnd which) e k =
        never_at_end heap number base t a b c d sh st empty o 0 a refl behind to_end unit low before
        (let n = few_calls in omega (arith, n, calls)) key value which k.1
    never_told Memory e k = absurd (cc e)
    never_told (Full need free clock) e k =
        never_full heap number base t a b c d sh st empty o 0 a refl behind to_end unit low before key value need free clock k
    never_told (Cut unit) e k = absurd (cc e)

  never_left_out : (op : Op) → IsOpeningPut op → WasLeftOut heap sh.opened.first sh.opener op → ⊥
  never_left_out op p w =
      let k = of_bank heap o (λ (s : StoreShown). IsRefused s w.before w.behind op w.over.why) w.over.tells in
      let named : unit_of_key bank_layout (account p.number) ≡ Some k.unit =
      sym (ap (unit_of_op bank_layout) p.is) ∙ ap (λ (x : Opening). unit_of_op x.layout op) (sym o) ∙ k.named in
      let tells : TellsWhy (bank_on heap) k.unit w.before w.behind (ops.Put (account p.number) (decimal 1000)) w.over.why =
      subst (λ (x : Op). TellsWhy (bank_on heap) k.unit w.before w.behind x w.over.why) p.is k.tells in
      never_told w.before w.behind w.goes_on w.calls k.unit (key_unit_low (account p.number) k.unit named) (account p.number) (decimal 1000)
      w.over.why w.over.left_out tells

  all_answered : (puts : List Op) (ends : List (Option Receipt)) → All IsOpeningPut puts → PutsEnd heap sh.opened.first sh.opener puts ends
      → map (λ (r : Receipt). r.entry.op) (puts_given ends) ≡ puts
  all_answered [] [] all k = refl
  all_answered (p ∷ ps) (Some x ∷ es) all k =
      λ i. k.0 i ∷ all_answered ps es (All-tail IsOpeningPut p ps all) k.1 i
  all_answered (p ∷ ps) (None ∷ es) all k = absurd (never_left_out p (All-head IsOpeningPut p ps all) k.0)
  all_answered [] (e ∷ es) all k = absurd k
  all_answered (p ∷ ps) [] all k = absurd k

  pub opens : OpensAccounts opening
  opens = all_answered (first_puts 8) sh.ends all_opening sh.opened.opened.puts.each

  -- ---- where the puts are
  pub opening_there : All (λ (r : Receipt). IsEntryAt t.histories r.unit r.place r.entry) opening
  opening_there =
      let all = (names_once heap number base t a b c d sh st).there in
      let front = (all_split (λ (r : Receipt). IsEntryAt t.histories r.unit r.place r.entry) (opening ++ all_given
      (sh.each 0 a refl).made.ends)
      (all_given (sh.each 1 b refl).made.ends ++ (all_given (sh.each 2 c refl).made.ends ++ (all_given (sh.each 3 d refl).made.ends ++ [])))
      all).0 in
      (all_split (λ (r : Receipt). IsEntryAt t.histories r.unit r.place r.entry) opening (all_given (sh.each 0 a refl).made.ends) front).0

  -- the unit of an opening's entry is that of its key
  pub unit_is : (r : Receipt) (n unit : ℕ) → IsEntryAt t.histories r.unit r.place r.entry → r.entry.op ≡ opening_put n
      → unit_of_key bank_layout (account n) ≡ Some unit → r.unit < 6 → r.unit ≡ unit
  unit_is r n unit (h, there, at) op named low =
      let s = state_at r.unit low in
      let legal = (legal_bank heap number base t a b c d sh st empty).each r.unit s.0 h s.1 there in
      same_Some r.unit unit
      (sym (all_gives (λ (e : Entry). unit_of_op bank_layout e.op ≡ Some r.unit) h r.place r.entry legal.of_unit at)
      ∙ ap (unit_of_op bank_layout) op ∙ named)

  -- the put of an account
  put_of : (n : ℕ) → n < 8 → (r : Receipt) × (k : ℕ) × (slice_get opening k ≡ Some r) × (r.entry.op ≡ opening_put n)
  put_of n low =
      let at : slice_get (map (λ (r : Receipt). r.entry.op) opening) n ≡ Some (opening_put n) =
      ap (λ (os : List Op). slice_get os n) opens ∙ put_at n low in
      let row = row_of_map (λ (r : Receipt). r.entry.op) opening n (opening_put n) at in
      (row.0, n, row.1, row.2)

  -- a caller that has seen the opening finds each account, however far it has seen the unit
  pub account_there : (caller : ℕ) (r : CallerShown) → slice_get (a ∷ b ∷ c ∷ d ∷ []) caller ≡ Some r → (q : CallerShown)
      → GoesOn q.known r.known → All (HasSeenPlace q.known) opening → (n : ℕ) → n < 8 → (unit : ℕ)
      → unit_of_key bank_layout (account n) ≡ Some unit → (history : List Entry) → slice_get q.known.entries unit ≡ Some history
      → HasKey (pairs_after finite.empty history) (account n)
  account_there caller r of_caller q on seen n low unit named history kept =
      let p = put_of n low in
      let x = p.0 in
      let there = all_gives (λ (y : Receipt). IsEntryAt t.histories y.unit y.place y.entry) opening p.1 x opening_there p.2 in
      let s = all_gives (HasSeenPlace q.known) opening p.1 x seen p.2 in
      let same : x.unit ≡ unit =
      unit_is x n unit there p.3 named (all_gives (λ (y : Receipt). y.unit < 6) opening p.1 x sh.opened.opened.puts.units p.2) in
      let front : s.front ≡ history =
      same_Some s.front history (sym s.of_unit ∙ ap (λ (u : ℕ). slice_get q.known.entries u) same ∙ kept) in
      let f = bank_front heap number base t a b c d sh st empty o caller r of_caller q on unit (key_unit_low
      (account n) unit named) history kept in
      let whole : there.0 ≡ f.whole =
      same_Some there.0 f.whole (sym there.1 ∙ ap (λ (u : ℕ). slice_get t.histories u) same ∙ f.there) in
      let at : slice_get (history ++ f.begins.0) x.place ≡ Some x.entry =
      ap (λ (h : List Entry). slice_get h x.place) (sym (whole ∙ f.begins.1)) ∙ there.2 in
      let inside : x.place < length history = subst (λ (h : List Entry). x.place < length h) front s.inside in
      put_is_there history finite.empty x.place x.entry (account n) (decimal 1000)
      (front_item history f.begins.0 x.place x.entry inside at) p.3
