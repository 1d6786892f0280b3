use Rattle.std.proofs.Common.{◌≡◌, take}
use Rattle.mont_base.specs.Counting.{greatest_by, identity_of}
use Rattle.mont_check.proofs.last_numbers.greatest_identity.Given as goal

abbrev pub invariant-loop-held : goal.invariant-loop-held
invariant-loop-held l = l.greatest ≡ greatest_by identity_of (take l.held-index l.records)
