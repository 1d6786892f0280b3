use Rattle.std.proofs.Common.{sym, ap, ◌∙◌, subst}
use Rattle.std.specs.Prelude.{Option, MatchOption}
use Rattle.std.specs.BTreeMap.{values}
use Rattle.mont_base.specs.State.{State, step}
use Rattle.mont_laws.specs.Structures.{HasStructure}
use Rattle.mont_laws.proofs.Shown.{one_state}
use Rattle.plain.specs.declared.unit_state.UnitState.{UnitState}
use Rattle.plain.specs.States.{state_of}
use Rattle.core_answer.proofs.judging.answers.Goals as goal

pub returns-then-not-is_same : goal.returns-then-not-is_same
returns-then-not-is_same c =
    λ effects a.
    let rs = values c.args.newest.now.records in
    let Shown : State → Type 0 = HasStructure c.args.layout c.args.unit rs in
    let shown : Shown (state_of c.in-Some.state) =
    subst (λ (o : Option UnitState). MatchOption o ((state : State) → Shown state → ⊥) (λ s. Shown (state_of s))) c.in-Some.is
    c.in_ok-state.ensures in
    let one = one_state c.args.layout c.args.unit rs a.state (state_of c.in-Some.state) a.shown shown in
    let same = c.in_ok-answered.ensures.reply ∙ sym (a.replies ∙ ap (λ (s : State). (step s c.args.op.now).reply) one) in
    let is = c.is_same.ensures.1 same in
    let not = c.if-not-is_same.true in
    absurd (cc)
