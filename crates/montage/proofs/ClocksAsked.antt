-- A tick and a sync leave a caller its answers.
use Rattle.std.proofs.Common.{◌≡◌, ℕ, List, [], length, max, sym, ap, ◌∙◌, subst, arith}
use Rattle.std.specs.declared.result.Result.{Result}
use Rattle.std.proofs.lemmas.List.{append-nil}
use Rattle.mont_base.specs.declared.operation.Entry.{Entry}
use Rattle.heap_rule.specs.declared.views.AdvKnown.{AdvKnown}
use Rattle.heap_rule.specs.Views.{caller_heard, note_of_advancer}
use Rattle.heap_rule.specs.SeenEntries.{AreFronts}
use Rattle.heap_rule.proofs.SeenFronts.{fronts_same, same_entries}
use Rattle.heap.specs.HeapShown.{HeapShown, CallerShown}
use Rattle.advance.specs.declared.advance_refusal.AdvanceRefusal.{AdvanceRefusal}
use Rattle.caller.specs.Telling.{has_mark}
use Rattle.caller.specs.Syncing.{KeepsSeen}
use Rattle.caller.proofs.TakenNotes.{joined_has, or_left, greater_none}
use Rattle.job_worker.specs.Asking.{KeepsAnswers}
use Rattle.store.specs.Ticking.{HasTicked}

-- ---- a caller that has seen no more entries
pub keeps_answers : (q r : CallerShown) → KeepsSeen q r → KeepsAnswers q.known r.known
keeps_answers q r k = record {
  goes_on = record {
    caller = k.caller;
    more = [];
    receipts = k.receipts ∙ sym (append-nil q.known.part.receipts);
    seen = subst (λ (es : List (List Entry)). AreFronts es q.known.entries) (sym k.entries) (fronts_same q.known.entries);
    newest = let same = k.newest in omega (arith, same);
    durable = k.durable;
    marks = k.marks;
  };
  calls = k.calls;
  receipts = k.receipts;
  cuts = k.cuts;
}

-- it took a note of the advancer
same_newest : (n : ℕ) → max n 0 ≡ n
same_newest n = omega arith

keeps_heard : (q r : CallerShown) (a : AdvKnown)
    → r ≡ record { table = q.table; known = caller_heard q.known (note_of_advancer (length q.known.part.fronts) a) } → KeepsSeen q r
keeps_heard q r a noted = record {
  table = ap (λ (x : CallerShown). x.table) noted;
  caller = ap (λ (x : CallerShown). x.known.caller) noted;
  calls = ap (λ (x : CallerShown). x.known.part.calls) noted;
  receipts = ap (λ (x : CallerShown). x.known.part.receipts) noted;
  fronts = ap (λ (x : CallerShown). x.known.part.fronts) noted ∙ greater_none q.known.part.fronts;
  newest = ap (λ (x : CallerShown). x.known.part.newest) noted ∙ same_newest q.known.part.newest;
  cuts = ap (λ (x : CallerShown). x.known.part.cuts) noted;
  entries = ap (λ (x : CallerShown). x.known.entries) noted ∙ same_entries q.known (length q.known.part.fronts) a;
  durable = let now = ap (λ (x : CallerShown). x.known.part.durable) noted in omega (arith, now);
  marks = λ m has. ap (λ (x : CallerShown). has_mark x.known.part.marks m) noted
      ∙ joined_has q.known.part.marks _ m (or_left (has_mark q.known.part.marks m) _ has);
}

pub tick_keeps : (heap : HeapShown) (q r : CallerShown) (answer : Result ℕ AdvanceRefusal) → HasTicked heap q r answer
    → KeepsAnswers q.known r.known
tick_keeps heap q r answer k = keeps_answers q r (keeps_heard q r k.behind.known k.noted)
