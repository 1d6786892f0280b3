use Rattle.std.proofs.Common.{◌≡◌, []}
use Rattle.plain.proofs.Each.{EachBelow}
use Rattle.replay.proofs.reads.are_none_lost.Given as goal

-- the units so far have no lost slot
abbrev pub invariant-loop-part : goal.invariant-loop-part
invariant-loop-part l = EachBelow (λ _ p. p.lost ≡ []) l.units l.part-index
