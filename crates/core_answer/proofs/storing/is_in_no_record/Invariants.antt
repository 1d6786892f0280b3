use Rattle.std.proofs.Common.{◌≢◌, take}
use Rattle.std.specs.Prelude.{All}
use Rattle.mont_base.specs.declared.record.Held.{Held}
use Rattle.core_answer.proofs.storing.is_in_no_record.Given as goal

-- none of the records so far is in the slot
abbrev pub invariant-loop-held : goal.invariant-loop-held
invariant-loop-held l = All (λ (r : Held). r.slot ≢ l.slot) (take l.held-index l.records)
