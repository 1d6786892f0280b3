-- The passes of all callers are those of all callers still, once a job was run.
use Rattle.std.proofs.Common.{◌≡◌, ℕ, Bool, List, map, get_or, sym, ◌∙◌, subst, arith}
use Rattle.std.specs.Prelude.{Option, Some, None, Ok, Err, All, IfOk, OnErr, slice_get}
use Rattle.std.specs.declared.result.Result.{Result}
use Rattle.std.proofs.lemmas.List.{length-map}
use Rattle.std.proofs.lemmas.Option.{slice_get-get_or, slice_get_within}
use Rattle.mont_base.specs.declared.operation.Receipt.{Receipt}
use Rattle.core_steps.proofs.RowFacts.{all_at, row_of_map, row_in_map}
use Rattle.heap.specs.HeapShown.{HeapShown, CallerShown}
use Rattle.heap.specs.Stops.{IsSeatOfCaller}
use Rattle.heap_pass.specs.Kept.{IsWhole}
use Rattle.job_text.specs.declared.job.Job.{Job}
use Rattle.job_text.specs.declared.outcome.Outcome.{Outcome}
use Rattle.job_run.specs.Run.{AreWorked}
use Rattle.store.specs.Store.{AreAllCallers, IsWholePass}

module _ {P : Type 0} (heap : HeapShown) (ticket : P → CallerShown) (receipts : P → List Receipt) (cuts : P → ℕ) (endless : P → Bool)
    (job : Job) (olds news : List P) where
  abbrev IsOwn : P → Type 0
  IsOwn p = IsWholePass heap (ticket p) (receipts p)

  abbrev pub HaveWorked : List (Option (List Outcome)) → Type 0
  HaveWorked =
      AreWorked heap.opening IsOwn (λ (p : P). (ticket p).known) cuts endless job olds news

  own_at : (done : List (Option (List Outcome))) → HaveWorked done → (i : ℕ) (p : P) → slice_get news i ≡ Some p → IsOwn p
  own_at done k i p e =
      let low = slice_get_within news i p e in
      let passes = k.passes in
      let callers = k.callers in
      let old = get_or olds i p in
      let there = slice_get-get_or olds i p (omega (arith, low, passes)) in
      (k.each i old p (get_or done i None) there e (slice_get-get_or done i None (omega (arith, low, passes, callers)))).own

  still_all : (done : List (Option (List Outcome))) → HaveWorked done → AreAllCallers heap (map ticket olds)
      → AreAllCallers heap (map ticket news)
  still_all done k all = record {
    many = length-map news ticket ∙ k.passes ∙ sym (length-map olds ticket) ∙ all.many;
    each = λ i x e.
        let new = row_of_map ticket news i x e in
        let low = slice_get_within news i new.0 new.1 in
        let passes = k.passes in
        let callers = k.callers in
        let old = get_or olds i new.0 in
        let there = slice_get-get_or olds i new.0 (omega (arith, low, passes)) in
        let left = k.each i old new.0 (get_or done i None) there new.1
        (slice_get-get_or done i None (omega (arith, low, passes, callers))) in
        let seat = all.each i (ticket old) (row_in_map ticket olds i old there) in
        subst (IsSeatOfCaller heap i) new.2 (left.own.own, left.goes_on.caller ∙ seat.1);
  }

  pub all_left : {T E : Type 0} (answer : Result T E) (done : T → List (Option (List Outcome)))
      → IfOk answer (λ (t : T). HaveWorked (done t)) → OnErr answer ((d : List (Option (List Outcome))) × HaveWorked d)
      → AreAllCallers heap (map ticket olds) → AreAllCallers heap (map ticket news)
  all_left (Ok t) done worked stands all = still_all (done t) worked all
  all_left (Err e) done worked stands all = still_all stands.0 stands.1 all

  abbrev HaveAll : Type 0
  HaveAll = All (λ (p : P). IsWhole (ticket p) (receipts p)) news

  still_whole : (done : List (Option (List Outcome))) → HaveWorked done → HaveAll
  still_whole done k = all_at (λ (p : P). IsWhole (ticket p) (receipts p)) news (λ i p e. (own_at done k i p e).whole)

  pub whole_left : {T E : Type 0} (answer : Result T E) (done : T → List (Option (List Outcome)))
      → IfOk answer (λ (t : T). HaveWorked (done t)) → OnErr answer ((d : List (Option (List Outcome))) × HaveWorked d) → HaveAll
  whole_left (Ok t) done worked stands = still_whole (done t) worked
  whole_left (Err e) done worked stands = still_whole stands.0 stands.1
