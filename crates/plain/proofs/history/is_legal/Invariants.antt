use Rattle.std.proofs.Common.{drop}
use Rattle.std.specs.Prelude.{◌↔◌}
use Rattle.mont_base.specs.History.{IsLegal}
use Rattle.plain.specs.States.{state_of}
use Rattle.plain.proofs.history.is_legal.Given as goal

-- the history is legal where what is left of it is
abbrev pub invariant-loop-entry : goal.invariant-loop-entry
invariant-loop-entry l =
    IsLegal l.layout l.unit (state_of l.state) l.newest (drop l.entry-index l.entries) ↔ IsLegal l.layout l.unit (state_of l.fn.base)
    l.clock l.entries
