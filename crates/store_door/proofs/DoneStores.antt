-- What the works of all callers did with a store, once it is stopped.
use Rattle.std.proofs.Common.{◌≡◌, ℕ, List, length, map, get_or, ap, sym, ◌∙◌, subst, arith}
use Rattle.std.specs.Prelude.{slice_get, Some, All}
use Rattle.std.proofs.lemmas.List.{length-map}
use Rattle.std.proofs.lemmas.Option.{same_Some, slice_get-get_or, slice_get_within}
use Rattle.mont_base.specs.declared.gate.Gate.{Ghosts}
use Rattle.mont_base.specs.Image.{IsRecovered, empty_states}
use Rattle.mont_base.specs.Layout.{Shape}
use Rattle.plain.specs.States.{states_of}
use Rattle.plain.proofs.Single.{recovered_once}
use Rattle.core_steps.specs.Fresh.{fresh_words}
use Rattle.core_steps.proofs.RowFacts.{all_at, row_of_map, row_in_map}
use Rattle.heap_rule.specs.declared.rule.Opening.{Opening}
use Rattle.heap.specs.FreshOpening.{fresh_opening}
use Rattle.heap.specs.HeapShown.{HeapShown, CallerShown}
use Rattle.heap.specs.Stops.{IsSeatOfCaller}
use Rattle.heap_pass.specs.declared.pass.Pass.{Pass}
use Rattle.heap_pass.specs.Kept.{IsWhole}
use Rattle.store_stop.specs.declared.headline.Stopped.{Stopped}
use Rattle.store_stop.specs.Headline.{IsBaseOf}
use Rattle.store_stop.proofs.Items.{all_gives}
use Rattle.store_door.specs.declared.door.AtWork.{AtWork}
use Rattle.store_door.specs.Door.{Deed, AreSamePasses, HasWorked, HaveWorked, AreDeeds, IsDone, IsDoneFresh}
use Rattle.store.specs.Store.{AreAllCallers, IsFirstPass}
use Rattle.store.specs.StoreCalls.{IsSamePass}

-- ---- lists of one length
-- what stands in a place of the one, where something stands in that of the other
partner : {A B : Type 0} (xs : List A) (ys : List B) (i : ℕ) (y : B) (spare : A) → length ys ≡ length xs → slice_get ys i ≡ Some y
    → (x : A) × (slice_get xs i ≡ Some x)
partner xs ys i y spare many e =
    let low = slice_get_within ys i y e in
    (get_or xs i spare, slice_get-get_or xs i spare (omega (arith, low, many)))

-- ---- passes of the same callers
module _ {G : Type 0} {asks : Ghosts G} (olds news : List (Pass G asks)) (same : AreSamePasses olds news) where
  abbrev ticket_of : Pass G asks → CallerShown
  ticket_of p = p.ticket

  pub still_all : (heap : HeapShown) → AreAllCallers heap (map ticket_of olds) → AreAllCallers heap (map ticket_of news)
  still_all heap all = record {
    many = length-map news ticket_of ∙ same.many ∙ sym (length-map olds ticket_of) ∙ all.many;
    each = λ i q e.
        let new = row_of_map ticket_of news i q e in
        let old = partner olds news i new.0 new.0 same.many new.1 in
        let is = same.each i old.0 new.0 old.1 new.1 in
        let seat = all.each i (ticket_of old.0) (row_in_map ticket_of olds i old.0 old.1) in
        subst (IsSeatOfCaller heap i) new.2 (is.table ∙ seat.0, is.caller ∙ seat.1);
  }

  pub still_whole : All (λ (p : Pass G asks). IsWhole p.ticket p.receipts.items) olds
      → All (λ (p : Pass G asks). IsWhole p.ticket p.receipts.items) news
  still_whole whole =
      all_at (λ (p : Pass G asks). IsWhole p.ticket p.receipts.items) news
      (λ i p e.
      let old = partner olds news i p p same.many e in
      (same.each i old.0 p old.1 e).whole (all_gives (λ (q : Pass G asks). IsWhole q.ticket q.receipts.items) olds i old.0 whole old.1))

-- ---- works
module _
    {W G : Type 0} {asks : Ghosts G} (did : Deed W) (heap : HeapShown) (olds news : List (AtWork G W asks))
    (k : HaveWorked did heap olds news) where
  abbrev pass_of : AtWork G W asks → Pass G asks
  pass_of a = a.pass

  abbrev work_of : AtWork G W asks → W
  work_of a = a.work

  pub same_passes : AreSamePasses (map pass_of olds) (map pass_of news)
  same_passes = record {
    many = length-map news pass_of ∙ k.many ∙ sym (length-map olds pass_of);
    each = λ i p q e f.
        let old = row_of_map pass_of olds i p e in
        let new = row_of_map pass_of news i q f in
        subst (λ (x : Pass G asks × Pass G asks). IsSamePass x.0 x.1) (λ j. (old.2 j, new.2 j))
        (k.each i old.0 new.0 old.1 new.1).same;
  }

  pub deeds : AreDeeds did heap (map work_of olds) (map work_of news) (map (λ (p : Pass G asks). p.ticket) (map pass_of news))
  deeds = record {
    many = length-map news work_of ∙ k.many ∙ sym (length-map olds work_of);
    each = λ i v w q e f g.
        let old = row_of_map work_of olds i v e in
        let new = row_of_map work_of news i w f in
        let pass = row_of_map (λ (p : Pass G asks). p.ticket) (map pass_of news) i q g in
        let there = row_in_map pass_of news i new.0 new.1 in
        let same : pass_of new.0 ≡ pass.0 = same_Some (pass_of new.0) pass.0 (sym there ∙ pass.1) in
        let ticket : (pass_of new.0).ticket ≡ q = ap (λ (p : Pass G asks). p.ticket) same ∙ pass.2 in
        subst (λ (x : (W × W) × CallerShown). did x.0.0 x.0.1 heap x.1) (λ j. ((old.2 j, new.2 j), ticket j))
        (k.each i old.0 new.0 old.1 new.1).done;
  }

-- what a call of the work left is what stands there now
pub moved : {W G : Type 0} {asks : Ghosts G} (did : Deed W) (heap : HeapShown) (a b old new : AtWork G W asks) → a ≡ old → b ≡ new
    → HasWorked did heap a b → HasWorked did heap old new
moved {W} {G} {asks} did heap a b old new p q k =
    subst (λ (x : AtWork G W asks × AtWork G W asks). HasWorked did heap x.0 x.1) (λ i. (p i, q i)) k

-- ---- the callers at work, made of passes and works, and taken apart again
module _
    {W G : Type 0} {asks : Ghosts G} (did : Deed W) (heap : HeapShown) (olds news : List (AtWork G W asks))
    (k : HaveWorked did heap olds news)
    (first last : List (Pass G asks)) (p : map (λ (a : AtWork G W asks). a.pass) olds ≡ first)
    (q : last ≡ map (λ (a : AtWork G W asks). a.pass) news) where
  kept : AreSamePasses first last
  kept =
      subst (λ (x : List (Pass G asks) × List (Pass G asks)). AreSamePasses x.0 x.1) (λ j. (p j, sym q j))
      (same_passes did heap olds news k)

  pub all_behind :
      AreAllCallers heap (map (λ (x : Pass G asks). x.ticket) first) →
      AreAllCallers heap (map (λ (x : Pass G asks). x.ticket) last)
  all_behind all = still_all first last kept heap all

  pub whole_behind : All (IsFirstPass heap) first → All (λ (x : Pass G asks). IsWhole x.ticket x.receipts.items) last
  whole_behind unused =
      still_whole first last kept
      (all_at (λ (x : Pass G asks). IsWhole x.ticket x.receipts.items) first
      (λ i x e. (all_gives (IsFirstPass heap) first i x unused e).own.whole))

  pub deeds_behind : (before behind : List W) → map (λ (a : AtWork G W asks). a.work) olds ≡ before
      → behind ≡ map (λ (a : AtWork G W asks). a.work) news → AreDeeds did heap before behind (map (λ (x : Pass G asks). x.ticket) last)
  deeds_behind before behind v w =
      subst
      (λ (x : (List W × List W) × List (Pass G asks)). AreDeeds did heap x.0.0 x.0.1 (map (λ (y : Pass G asks). y.ticket) x.1))
      (λ j. ((v j, sym w j), sym q j)) (deeds did heap olds news k)

-- each has a first pass, where all passes are such
pub first_each : {W G : Type 0} {asks : Ghosts G} (heap : HeapShown) (olds : List (AtWork G W asks)) (first : List (Pass G asks))
    → map (λ (a : AtWork G W asks). a.pass) olds ≡ first → All (IsFirstPass heap) first
    → All (λ (a : AtWork G W asks). IsFirstPass heap a.pass) olds
first_each {W} {G} {asks} heap olds first p unused =
    all_at (λ (a : AtWork G W asks). IsFirstPass heap a.pass) olds
    (λ i a e.
    all_gives (IsFirstPass heap) first i a.pass unused
    (subst (λ (l : List (Pass G asks)). slice_get l i ≡ Some a.pass) p (row_in_map (λ (x : AtWork G W asks). x.pass) olds i a e)))

-- as many works as passes
pub as_many_works : {G : Type 0} {asks : Ghosts G} (heap : HeapShown) (first : List (Pass G asks)) (many : ℕ)
    → AreAllCallers heap (map (λ (x : Pass G asks). x.ticket) first) → many ≡ heap.opening.callers → many ≡ length first
as_many_works {G} {asks} heap first many all e =
    e ∙ sym all.many ∙ length-map first (λ (x : Pass G asks). x.ticket)

-- ---- a store that was never used
pub done_fresh : {W : Type 0} (did : Deed W) (layout : Shape) (heap : HeapShown) (olds news : List W) (t : Stopped)
    → heap.opening ≡ fresh_opening layout (length olds) → IsRecovered layout (fresh_words layout) (empty_states layout)
    → IsDone did heap olds news t → IsDoneFresh did layout olds news t
done_fresh did layout heap olds news t opened empty done =
    let base : IsBaseOf (fresh_opening layout (length olds)) t.base_clock (states_of t.base) =
    subst (λ (o : Opening). IsBaseOf o t.base_clock (states_of t.base)) opened done.base in
    record {
      heap = heap;
      opened = opened;
      done = done;
      first = base.clock_is;
      empty = recovered_once layout (fresh_words layout) (states_of t.base) (empty_states layout) base.recovered empty;
    }
