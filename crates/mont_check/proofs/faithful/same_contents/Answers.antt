use Rattle.std.proofs.Common.{◌∙◌, refl, sym, ap, map, arith}
use Rattle.plain.specs.States.{state_of}
use Rattle.mont_check.proofs.Places.{same_more, same_there}
use Rattle.mont_check.proofs.faithful.same_contents.Goals as goal

pub returns-then-not-same_state : goal.returns-then-not-same_state
returns-then-not-same_state c = (
  λ yes. absurd cc,
  λ e. c.if-not-same_state.ensures.1 (same_there state_of c.as_slice-ours.result.now c.as_slice-theirs.result.now c.loop-unit.unit
      c.index-ours-unit.result c.index-theirs-unit.result (omega arith) c.if-ours-theirs.false c.index-ours-unit.is c.index-theirs-unit.is
      (ap (λ us. map state_of us) c.as_slice-ours.ensures ∙ e ∙ sym (ap (λ us. map state_of us) c.as_slice-theirs.ensures))),
)

pub loop-unit-preserved : goal.loop-unit-preserved
loop-unit-preserved c =
    same_more state_of c.as_slice-ours.result.now c.as_slice-theirs.result.now c.loop-unit.unit c.index-ours-unit.result
    c.index-theirs-unit.result (omega arith) c.if-ours-theirs.false c.index-ours-unit.is c.index-theirs-unit.is
    (c.if-not-same_state.ensures.0 refl) c.loop-unit.invariant
