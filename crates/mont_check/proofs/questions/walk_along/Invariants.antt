use Rattle.std.proofs.Common.{◌≡◌, ◌≤◌, List, length, take}
use Rattle.std.specs.Prelude.{All}
use Rattle.std.specs.List.Sorted.{IsNonDecreasingBy}
use Rattle.mont_base.specs.declared.record.Held.{Held}
use Rattle.plain.specs.States.{state_of}
use Rattle.mont_check.specs.declared.asked.Asked.{Asked}
use Rattle.mont_check.specs.OpenedNumbers.{IsOpening}
use Rattle.mont_check.specs.Questions.{IsReady}
use Rattle.mont_check.specs.Walk.{facts_after, facts_of}
use Rattle.mont_check.proofs.QuestionLaws.{Asks}
use Rattle.mont_check.proofs.questions.walk_along.Given as goal

-- the walk is at the point, and what is asked is asked from here on of those that weren't met yet
abbrev pub invariant-loop-point : goal.invariant-loop-point
invariant-loop-point l = record {
  walked : l.point ≤ length l.history → facts_of l.walk ≡ facts_after 0 (state_of l.base) (take l.point l.history);
  rise : IsNonDecreasingBy (λ (a : Asked). a.start) l.waiting;
  asks :
      (records : List Held) → IsOpening records l.opening → All (IsReady (state_of l.base) l.history records) l.asked
      → Asks (state_of l.base) l.history records l.asked l.point l.unmet.items l.waiting;
}
