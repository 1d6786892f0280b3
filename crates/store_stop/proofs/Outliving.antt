-- What recovery rebuilds of a store that was stopped.
use Rattle.std.proofs.Common.{◌≡◌, ℕ, zero, suc, ◌<◌, ◌≤◌, List, [], ◌∷◌, ◌++◌, take, Bool, true, false, ap, sym, ◌∙◌, subst, refl, arith}
use Rattle.std.specs.Prelude.{slice_get, nat_le, Some, All, AllPairs}
use Rattle.std.specs.List.{Contains}
use Rattle.std.proofs.lemmas.Bool.Decides.{nat_tests}
use Rattle.std.proofs.lemmas.List.Elements.{All-cons, All-head, All-tail, All-weaker, Contains-get_or}
use Rattle.std.proofs.lemmas.Option.{same_Some, slice_get_within, get_or_from_slice_get}
use Rattle.mont_base.specs.declared.operation.Entry.{Entry}
use Rattle.mont_base.specs.declared.operation.Receipt.{Receipt}
use Rattle.mont_base.specs.History.{state_after, cut_at}
use Rattle.mont_base.specs.Image.{IsPermitted, IsRecovered, cut_of}
use Rattle.mont_base.specs.Layout.{Shape}
use Rattle.mont_base.specs.State.{State}
use Rattle.mont_laws.proofs.Members.{pairs_head, pairs_tail, element_kept}
use Rattle.plain.specs.declared.contents.Contents.{Contents}
use Rattle.plain.specs.States.{states_of}
use Rattle.core_steps.specs.declared.parts.CallerPart.{CallerPart}
use Rattle.core_steps.specs.CallerClauses.{receipts_of}
use Rattle.core_steps.specs.Notes.{BeginsWith}
use Rattle.core_steps.proofs.RowFacts.{row_gives, row_from, row_in_map}
use Rattle.heap.specs.HeapShown.{CallerShown}
use Rattle.store_stop.specs.declared.headline.Stopped.{Stopped}
use Rattle.store_stop.specs.Headline.{cut_states, IsSyncedIn, HoldsHistories, IsStopped, IsKnownDurable, IsInCut, IsRebuilt, OutlivesCrash, StoppedStoresOutliveCrashes, parts_shown}
use Rattle.store_stop.proofs.CutStates.{cut_state_at}
use Rattle.store_stop.proofs.Items.{all_gives}

-- ---- the cut of a history whose epochs never fall is a front of it
module _ (x : ℕ) where
  nothing_late : (h : List Entry) → All (λ (e : Entry). x < e.epoch) h → cut_at x h ≡ []
  nothing_late [] late = refl
  nothing_late (e ∷ es) late =
      let first = All-head (λ (d : Entry). x < d.epoch) e es late in
      let t : nat_le e.epoch x ≡ false = grind (arith, nat_tests) in
      rw t (nothing_late es (All-tail (λ (d : Entry). x < d.epoch) e es late))

  cut_is_front : (h : List Entry) → AllPairs (λ (d e : Entry). d.epoch ≤ e.epoch) h → BeginsWith h (cut_at x h)
  cut_is_front [] rising = ([], refl)
  cut_is_front (e ∷ es) rising = by (nat_le e.epoch x) refl (cut_is_front es (pairs_tail (λ (d f : Entry). d.epoch ≤ f.epoch) e es rising))
    where
      by : (t : Bool) → nat_le e.epoch x ≡ t → BeginsWith es (cut_at x es) → BeginsWith (e ∷ es) (cut_at x (e ∷ es))
      by true f rest = rw f (rest.0, ap (λ (ds : List Entry). e ∷ ds) rest.1)
      by false f rest =
          let above : x < e.epoch = grind (arith, nat_tests) in
          let late : All (λ (d : Entry). x < d.epoch) es =
          All-weaker (λ (d : Entry). e.epoch ≤ d.epoch) (λ (d : Entry). x < d.epoch) (λ d low. omega arith) es
          (pairs_head (λ (d f : Entry). d.epoch ≤ f.epoch) e es rising) in (
            e ∷ es,
            ap (λ (ds : List Entry). ds ++ e ∷ es)
                (sym (nothing_late (e ∷ es) (All-cons (λ (d : Entry). x < d.epoch) e es above late))),
          )

-- ---- an entry before a front is among those of a cut in which all before the front are
contained : {A : Type 0} (xs : List A) (i : ℕ) (x : A) → slice_get xs i ≡ Some x → Contains xs x
contained xs i x e = subst (Contains xs) (get_or_from_slice_get xs i x x e) (Contains-get_or xs i x (slice_get_within xs i x e))

before_front : {A : Type 0} (xs : List A) (n i : ℕ) (x : A) → slice_get xs i ≡ Some x → i < n → slice_get (take n xs) i ≡ Some x
before_front [] n i x e low = absurd (cc)
before_front (y ∷ ys) zero i x e low = absurd (omega arith)
before_front (y ∷ ys) (suc n) zero x e low = e
before_front (y ∷ ys) (suc n) (suc i) x e low = before_front ys n i x e (omega arith)

in_cut : (x front place : ℕ) (h : List Entry) (e : Entry) → slice_get h place ≡ Some e → place < front
    → All (λ (d : Entry). d.epoch ≤ x) (take front h) → Contains (cut_at x h) e
in_cut x front place h e at low all =
    let early = all_gives (λ (d : Entry). d.epoch ≤ x) (take front h) place e all (before_front h front place e at low) in
    let t : nat_le e.epoch x ≡ true = grind (arith, nat_tests) in
    element_kept (λ (d : Entry). nat_le d.epoch x) e h (contained h place e at) t

-- ---- the law
module _ (s : Shape) (clock : ℕ) (base : Contents) (callers : List CallerShown) (t : Stopped) (image : List ℕ) (states : List State)
    (stopped : IsStopped s clock base callers t) (permitted : IsPermitted t.words.cur t.words.dur image)
    (recovered : IsRecovered s image states) where
  holds : HoldsHistories s (states_of base) t.histories (parts_shown callers) t.words image
  holds = stopped.images image permitted

  states_are : states ≡ cut_states (cut_of image) (states_of base) t.histories
  states_are = (holds.rebuilt states).0 recovered

  rebuilt : (unit : ℕ) (opened : State) (h : List Entry) (state : State) → slice_get (states_of base) unit ≡ Some opened
      → slice_get t.histories unit ≡ Some h → slice_get states unit ≡ Some state
      → IsRebuilt s clock (cut_of image) unit opened h state
  rebuilt unit opened h state e f g =
      let legal = stopped.legal.each unit opened h e f in
      let c = cut_state_at (cut_of image) (states_of base) t.histories unit state
      (ap (λ (xs : List State). slice_get xs unit) (sym states_are) ∙ g) in
      let b : c.opened ≡ opened = same_Some c.opened opened (sym c.based ∙ e) in
      let told : c.history ≡ h = same_Some c.history h (sym c.told ∙ f) in
      record {
        legal = legal;
        front = cut_is_front (cut_of image) h legal.rising;
        leads = sym c.leads ∙ (λ i. state_after (b i) (cut_at (cut_of image) (told i)));
      }

  known : (k call : ℕ) (q : CallerPart) (r : Receipt) → slice_get (parts_shown callers) k ≡ Some q → slice_get q.receipts call ≡ Some r
      → IsKnownDurable q r → IsInCut t.histories (cut_of image) r
  known k call q r at is durable =
      let front = row_gives (λ (n : ℕ). r.place < n) (slice_get q.synced r.unit) durable in
      let there = (stopped.order.receipt k call q.receipts r (row_in_map receipts_of (parts_shown callers) k q at) is).there in
      let synced = all_gives (IsSyncedIn t.histories (cut_of image)) (parts_shown callers) k q holds.synced at in
      row_from (λ (h : List Entry). Contains (cut_at (cut_of image) h) r.entry) (slice_get t.histories r.unit) there.0 there.1
      (in_cut (cut_of image) front.0 r.place there.0 r.entry there.2 front.2 (synced r.unit front.0 there.0 front.1 there.1))

  outlives : OutlivesCrash s clock (cut_of image) (states_of base) t.histories (parts_shown callers) states
  outlives = record { units = recovered.0; rebuilt = rebuilt; known = known }

pub stopped_stores_outlive_crashes : StoppedStoresOutliveCrashes
stopped_stores_outlive_crashes = outlives
