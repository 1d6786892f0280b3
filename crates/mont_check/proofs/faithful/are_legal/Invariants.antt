use Rattle.std.proofs.Common.{ℕ, ◌<◌}
use Rattle.plain.specs.States.{states_of}
use Rattle.job_text.specs.Faithful.{LegalAt}
use Rattle.mont_check.proofs.faithful.are_legal.Given as goal

abbrev pub invariant-loop-unit : goal.invariant-loop-unit
invariant-loop-unit l = (u : ℕ) → u < l.unit → LegalAt l.layout l.clock (states_of l.base) l.histories u
