-- Why a caller of the bank was refused: of a shift that there was too little, of a put never.
use Rattle.std.proofs.Common.{◌≡◌, ℕ, ◌<◌, ◌≤◌, List, [], ◌∷◌, length, map, ap, ◌∙◌, subst, arith}
use Rattle.std.specs.Prelude.{slice_get, Some, All}
use Rattle.std.specs.FinMap as finite
use Rattle.mont_base.specs.declared.constants.TheConstants.{FIRST_CLOCK, LAST}
use Rattle.mont_base.specs.declared.operation.Entry.{Entry}
use Rattle.mont_base.specs.declared.operation.Op.TheVariants as ops
use Rattle.mont_base.specs.declared.record.Held.{Held}
use Rattle.mont_base.specs.declared.refusal.Which.{Which}
use Rattle.mont_base.specs.Counting.{IsAtEnd, effects_then, records_in}
use Rattle.mont_base.specs.History.{RepliesFollow}
use Rattle.mont_base.specs.Image.{empty_states}
use Rattle.mont_base.specs.Room.{LacksRoom, room_of}
use Rattle.mont_base.specs.Seen.{FitsHistories}
use Rattle.mont_base.specs.State.{MapOf, State}
use Rattle.plain.specs.declared.contents.Contents.{Contents}
use Rattle.plain.specs.States.{states_of}
use Rattle.core_steps.specs.CallerClauses.{view_of}
use Rattle.core_steps.specs.Notes.{BeginsWith}
use Rattle.core_steps.proofs.RowFacts.{row_in_map}
use Rattle.heap_rule.specs.declared.rule.Opening.{Opening}
use Rattle.heap.specs.FreshOpening.{fresh_opening}
use Rattle.heap.specs.HeapShown.{HeapShown, CallerShown}
use Rattle.caller.specs.Continued.{GoesOn, opened_records}
use Rattle.store_stop.specs.declared.headline.Stopped.{Stopped}
use Rattle.store_stop.specs.Headline.{HasSeen, IsStopped, parts_shown}
use Rattle.store_stop.proofs.Items.{all_gives, all_split}
use Rattle.store.specs.StoreCalls.{FoundFull, HasLearntCause, NeedsNumber}
use Rattle.bank_job.specs.Bank.{bank_layout}
use Rattle.bank_store.specs.BankCallers.{HaveShifted}
use Rattle.bank_store.proofs.BankBase.{bank_on, follows_front, held_front, holds_of_nothing, no_records}
use Rattle.bank_store.proofs.BankUnits.{unit_few, unit_legal, unit_puts}
use Rattle.bank_store.proofs.NumberHistories.{PutsNumber}
use Rattle.bank_store.proofs.PutHistories.{no_end, no_lack}
use Rattle.bank_store.proofs.SeenCalls.{begins_longer}

-- A front of a unit's history: it puts numbers, its replies follow, and it isn't long.
pub record IsBankFront (histories : List (List Entry)) (unit : ℕ) (history : List Entry) : Type 0 where
  pub whole : List Entry
  pub there : slice_get histories unit ≡ Some whole
  pub begins : BeginsWith whole history
  pub puts : All PutsNumber history
  pub follow : RepliesFollow (MapOf finite.empty) history
  pub few : length history ≤ 2002

module _
    (heap : HeapShown) (number : ℕ) (base : Contents) (t : Stopped) (a b c d : CallerShown)
    (sh : HaveShifted heap number (a ∷ b ∷ c ∷ d ∷ []))
    (st : IsStopped bank_layout FIRST_CLOCK base (a ∷ b ∷ c ∷ d ∷ []) t)
    (empty : states_of base ≡ empty_states bank_layout) (o : heap.opening ≡ fresh_opening bank_layout 4) where
  abbrev callers : List CallerShown
  callers = a ∷ b ∷ c ∷ d ∷ []

  -- ---- what a caller had seen, of whichever unit
  module _ (caller : ℕ) (r : CallerShown) (of_caller : slice_get callers caller ≡ Some r) (q : CallerShown)
      (on : GoesOn q.known r.known) where
    has_seen : HasSeen t.histories r.known
    has_seen = all_gives (λ (x : CallerShown). HasSeen t.histories x.known) callers caller r st.seen of_caller

    fits : FitsHistories t.histories (view_of r.known.part)
    fits =
        all_gives (FitsHistories t.histories) (map view_of (parts_shown callers)) caller (view_of r.known.part) st.order.fit
        (row_in_map view_of (parts_shown callers) caller r.known.part (row_in_map (λ
        (s : CallerShown). s.known.part) callers caller r of_caller))

    pub bank_front : (unit : ℕ) → unit < 4 → (history : List Entry) → slice_get q.known.entries unit ≡ Some history
        → IsBankFront t.histories unit history
    bank_front unit low history kept =
        let f = held_front t.histories q.known r.known has_seen fits on unit history kept in
        let legal = unit_legal heap number base t a b c d sh st empty unit low f.whole f.there in
        let puts = unit_puts heap number base t a b c d sh st empty unit low f.whole f.there in
        let few = unit_few heap number base t a b c d sh st empty unit low f.whole f.there in
        let long = begins_longer f.whole history f.begins in
        record {
          whole = f.whole;
          there = f.there;
          begins = f.begins;
          puts = (all_split PutsNumber history f.begins.0 (subst (All PutsNumber) f.begins.1 puts)).0;
          follow = follows_front (MapOf finite.empty) history f.begins.0 (subst (RepliesFollow
              (MapOf finite.empty)) f.begins.1 legal.replies);
          few = omega (arith, few, long);
        }

    -- what was learnt of a unit, with its front
    pub learnt : (unit : ℕ) → unit < 4 → (Holds : State → List Entry → Type 0) → HasLearntCause (bank_on heap) unit q Holds
        → (history : List Entry) × (slice_get q.known.entries unit ≡ Some history) × IsBankFront t.histories unit history
        × Holds (MapOf finite.empty) history
    learnt unit low Holds k = (
      k.history,
      k.kept,
      bank_front unit low k.history k.kept,
      holds_of_nothing heap unit low (λ (s : State). Holds s k.history) k.cause,
    )

    -- no number is at its end
    pub never_at_end : (unit : ℕ) → unit < 4 → (before : CallerShown) → before.known.part.calls ≤ LAST
        → (key value : List ℕ) (which : Which)
        → NeedsNumber (bank_on heap) unit before q (ops.Put key value) which → ⊥
    never_at_end unit low before calls key value which needs =
        let k = learnt unit low (IsAtEnd (records_in (opened_records heap.opening) unit) before.known.part.calls which
        (ops.Put key value)) needs in
        let none : records_in (opened_records heap.opening) unit ≡ [] =
        ap (λ (x : Opening). records_in (opened_records x) unit) o ∙ no_records unit in
        no_end k.0 k.2.puts k.2.follow k.2.few before.known.part.calls which key value calls
        (subst (λ (rs : List Held). IsAtEnd rs before.known.part.calls which (ops.Put key value) (MapOf finite.empty) k.0) none k.3)

    -- there is always room
    pub never_full : (unit : ℕ) → unit < 4 → (before : CallerShown) (key value : List ℕ) (need free clock : ℕ)
        → FoundFull (bank_on heap) unit before q (ops.Put key value) need free clock → ⊥
    never_full unit low before key value need free clock full =
        let lacks = λ (s : State) (history : List Entry).
        LacksRoom (length (effects_then s history (ops.Put key value))) (room_of heap.opening.layout.slots s history clock) need free in
        let k = learnt unit low lacks full.needs in
        no_lack k.0 k.2.puts k.2.follow k.2.few key value need free clock
        (subst (λ (x : Opening). LacksRoom (length (effects_then (MapOf finite.empty) k.0 (ops.Put key value)))
        (room_of x.layout.slots (MapOf finite.empty) k.0 clock) need free) o k.3)
