use Rattle.std.proofs.Common.{ap, sym, ◌∙◌}
use Rattle.mont_base.specs.declared.operation.Op.{Op}
use Rattle.mont_base.specs.State.{GraphOf, graph_step}
use Rattle.pgraph.specs.declared.graph_plan.GraphPlan.{GraphPlan}
use Rattle.pgraph.specs.GraphIndex.{graph_in}
use Rattle.pgraph.specs.GraphEdit.{effects_of, graph_behind}
use Rattle.pgraph.proofs.GraphPlans.{addv_reply, addv_effects, delv_step, delv_state, adde_reply, adde_effects, adde_state, no_ends, no_ends_state, dele_step, dele_state, IsLookedUp, look_step}
use Rattle.pgraph.proofs.graph_plan.plan.Goals as goal
use Rattle.pgraph.proofs.graph_plan.plan.Goals.{After-answer-in_default}

pub returns-in-AddV-clause-reply : goal.returns-in-AddV-clause-reply
returns-in-AddV-clause-reply c =
    ap (λ (p : GraphPlan). p.reply) c.set.ensures ∙ addv_reply c.args.index.now c.in-AddV.vertex
    ∙ sym (ap (λ (o : Op). (graph_step (graph_in c.args.index.now) o).reply) c.in-AddV.is)

pub returns-in-AddV-clause-effects : goal.returns-in-AddV-clause-effects
returns-in-AddV-clause-effects c =
    ap (λ (p : GraphPlan). effects_of c.args.index.now p.edit) c.set.ensures
    ∙ addv_effects c.args.index.now c.in-AddV.vertex c.in-AddV.attr
    ∙ sym (ap (λ (o : Op). (graph_step (graph_in c.args.index.now) o).effects) c.in-AddV.is)

pub returns-in-DelV-clause-reply : goal.returns-in-DelV-clause-reply
returns-in-DelV-clause-reply c =
    ap (λ (p : GraphPlan). p.reply) c.remove.ensures ∙ (delv_step c.args.index.now c.in-DelV.vertex).0
    ∙ sym (ap (λ (o : Op). (graph_step (graph_in c.args.index.now) o).reply) c.in-DelV.is)

pub returns-in-DelV-clause-effects : goal.returns-in-DelV-clause-effects
returns-in-DelV-clause-effects c =
    ap (λ (p : GraphPlan). effects_of c.args.index.now p.edit) c.remove.ensures ∙ (delv_step c.args.index.now c.in-DelV.vertex).1
    ∙ sym (ap (λ (o : Op). (graph_step (graph_in c.args.index.now) o).effects) c.in-DelV.is)

pub returns-then-joins-clause-reply : goal.returns-then-joins-clause-reply
returns-then-joins-clause-reply c =
    ap (λ (p : GraphPlan). p.reply) c.set-then-joins.ensures
    ∙ adde_reply c.args.index.now (c.in-AddE.from, c.in-AddE.to) c.in-AddE.attr (sym c.joins.ensures ∙ c.if-joins.true)
    ∙ sym (ap (λ (o : Op). (graph_step (graph_in c.args.index.now) o).reply) c.in-AddE.is)

pub returns-then-joins-clause-effects : goal.returns-then-joins-clause-effects
returns-then-joins-clause-effects c =
    ap (λ (p : GraphPlan). effects_of c.args.index.now p.edit) c.set-then-joins.ensures
    ∙ adde_effects c.args.index.now (c.in-AddE.from, c.in-AddE.to) c.in-AddE.attr (sym c.joins.ensures ∙ c.if-joins.true)
    ∙ sym (ap (λ (o : Op). (graph_step (graph_in c.args.index.now) o).effects) c.in-AddE.is)

pub returns-else-joins-clause-reply : goal.returns-else-joins-clause-reply
returns-else-joins-clause-reply c =
    ap (λ (p : GraphPlan). p.reply) c.answer.ensures
    ∙ (no_ends c.args.index.now (c.in-AddE.from, c.in-AddE.to) c.in-AddE.attr (sym c.joins.ensures ∙ c.if-joins.false)).0
    ∙ sym (ap (λ (o : Op). (graph_step (graph_in c.args.index.now) o).reply) c.in-AddE.is)

pub returns-else-joins-clause-effects : goal.returns-else-joins-clause-effects
returns-else-joins-clause-effects c =
    ap (λ (p : GraphPlan). effects_of c.args.index.now p.edit) c.answer.ensures
    ∙ (no_ends c.args.index.now (c.in-AddE.from, c.in-AddE.to) c.in-AddE.attr (sym c.joins.ensures ∙ c.if-joins.false)).1
    ∙ sym (ap (λ (o : Op). (graph_step (graph_in c.args.index.now) o).effects) c.in-AddE.is)

pub returns-in-DelE-clause-reply : goal.returns-in-DelE-clause-reply
returns-in-DelE-clause-reply c =
    ap (λ (p : GraphPlan). p.reply) c.remove-in-DelE.ensures ∙ (dele_step c.args.index.now (c.in-DelE.from, c.in-DelE.to)).0
    ∙ sym (ap (λ (o : Op). (graph_step (graph_in c.args.index.now) o).reply) c.in-DelE.is)

pub returns-in-DelE-clause-effects : goal.returns-in-DelE-clause-effects
returns-in-DelE-clause-effects c =
    ap (λ (p : GraphPlan). effects_of c.args.index.now p.edit) c.remove-in-DelE.ensures
    ∙ (dele_step c.args.index.now (c.in-DelE.from, c.in-DelE.to)).1
    ∙ sym (ap (λ (o : Op). (graph_step (graph_in c.args.index.now) o).effects) c.in-DelE.is)

pub returns-in-AddV-clause-state : goal.returns-in-AddV-clause-state
returns-in-AddV-clause-state c =
    ap (λ (o : Op). (graph_step (graph_in c.args.index.now) o).state) c.in-AddV.is
    ∙ sym (ap (λ (p : GraphPlan). GraphOf (graph_behind (graph_in c.args.index.now) p.edit)) c.set.ensures)

pub returns-in-DelV-clause-state : goal.returns-in-DelV-clause-state
returns-in-DelV-clause-state c =
    ap (λ (o : Op). (graph_step (graph_in c.args.index.now) o).state) c.in-DelV.is ∙ delv_state c.args.index.now c.in-DelV.vertex
    ∙ sym (ap (λ (p : GraphPlan). GraphOf (graph_behind (graph_in c.args.index.now) p.edit)) c.remove.ensures)

pub returns-then-joins-clause-state : goal.returns-then-joins-clause-state
returns-then-joins-clause-state c =
    ap (λ (o : Op). (graph_step (graph_in c.args.index.now) o).state) c.in-AddE.is
    ∙ adde_state c.args.index.now (c.in-AddE.from, c.in-AddE.to) c.in-AddE.attr (sym c.joins.ensures ∙ c.if-joins.true)
    ∙ sym (ap (λ (p : GraphPlan). GraphOf (graph_behind (graph_in c.args.index.now) p.edit)) c.set-then-joins.ensures)

pub returns-else-joins-clause-state : goal.returns-else-joins-clause-state
returns-else-joins-clause-state c =
    ap (λ (o : Op). (graph_step (graph_in c.args.index.now) o).state) c.in-AddE.is
    ∙ no_ends_state c.args.index.now (c.in-AddE.from, c.in-AddE.to) c.in-AddE.attr (sym c.joins.ensures ∙ c.if-joins.false)
    ∙ sym (ap (λ (p : GraphPlan). GraphOf (graph_behind (graph_in c.args.index.now) p.edit)) c.answer.ensures)

pub returns-in-DelE-clause-state : goal.returns-in-DelE-clause-state
returns-in-DelE-clause-state c =
    ap (λ (o : Op). (graph_step (graph_in c.args.index.now) o).state) c.in-DelE.is
    ∙ dele_state c.args.index.now (c.in-DelE.from, c.in-DelE.to)
    ∙ sym (ap (λ (p : GraphPlan). GraphOf (graph_behind (graph_in c.args.index.now) p.edit)) c.remove-in-DelE.ensures)

look_up_step : (c : After-answer-in_default) → IsLookedUp c.args.index.now c.args.op.now
look_up_step c = look_step c.args.index.now c.args.op.now c.in_default.not-AddV c.in_default.not-DelV c.in_default.not-AddE
    c.in_default.not-DelE

pub returns-in_default-clause-reply : goal.returns-in_default-clause-reply
returns-in_default-clause-reply c =
    ap (λ (p : GraphPlan). p.reply) c.answer-in_default.ensures ∙ c.look_up.ensures ∙ (look_up_step c).reply

pub returns-in_default-clause-effects : goal.returns-in_default-clause-effects
returns-in_default-clause-effects c =
    ap (λ (p : GraphPlan). effects_of c.args.index.now p.edit) c.answer-in_default.ensures ∙ (look_up_step c).effects

pub returns-in_default-clause-state : goal.returns-in_default-clause-state
returns-in_default-clause-state c =
    (look_up_step c).state
    ∙ sym (ap (λ (p : GraphPlan). GraphOf (graph_behind (graph_in c.args.index.now) p.edit)) c.answer-in_default.ensures)
