use Rattle.std.proofs.Common.{◌≡◌, ℕ, suc, ◌+◌, List, take, set, get_or, sym, ap, ◌∙◌, arith}
use Rattle.std.specs.Prelude.{max}
use Rattle.core_steps.specs.Notes.{greater_fronts}
use Rattle.core_run.proofs.NotesFit.{greater_none, greater_more}
use Rattle.core_run.proofs.hearing.raise_fronts.Goals as goal

pub loop-unit-init : goal.loop-unit-init
loop-unit-init c = sym (greater_none c.args.fronts.now)

pub loop-unit-preserved : goal.loop-unit-preserved
loop-unit-preserved c =
    let i : ℕ = c.loop-unit.unit in
    let next : suc i ≡ i + 1 = omega arith in
    c.raise_front.ensures
    ∙ ap (λ (l : List ℕ). set l i (max (get_or l i 0) (get_or c.args.others.now i 0))) c.loop-unit.invariant
    ∙ sym (greater_more c.args.fronts.now c.args.others.now i c.loop-unit-test.true)
    ∙ ap (λ (n : ℕ). greater_fronts c.args.fronts.now (take n c.args.others.now)) next
