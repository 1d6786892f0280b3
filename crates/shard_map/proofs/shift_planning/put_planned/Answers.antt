use Rattle.std.proofs.Common.{[], ◌∷◌, ap, sym, ◌∙◌, subst}
use Rattle.mont_base.specs.declared.operation.Op.TheVariants as ops
use Rattle.mont_base.specs.declared.operation.Reply.{Reply}
use Rattle.mont_base.specs.declared.record.Change.{Change}
use Rattle.mont_base.specs.Bodies.{pair_body}
use Rattle.mont_base.specs.State.{Value}
use Rattle.mont_base.specs.Texts.{IsText}
use Rattle.structure_call.specs.Planning.{IsPlan}
use Rattle.shard_map.specs.MapPlan.{setting}
use Rattle.shard_map.proofs.MapShifts.{put_is_planned}
use Rattle.shard_map.proofs.shift_planning.put_planned.Goals as goal

pub returns-clause-planned : goal.returns-clause-planned
returns-clause-planned g c =
    let digits = c.of_number-value.ensures in
    let body = c.pair_body.ensures.words ∙ ap (pair_body c.args.key.now) digits in
    let change = c.setting.ensures ∙ ap (setting c.args.found.now) body in
    subst (λ (x : Value × Reply × Change). IsPlan c.args.unit.now.region (ops.Put c.args.key.now x.0) x.1 (x.2 ∷ []))
    (λ i. (sym digits i, sym c.reply_of.ensures i, sym change i))
    (put_is_planned c.args.unit.now.region c.args.unit.now.places c.region-unit.ensures.unit c.requires.running c.args.key.now
    c.args.found.now c.args.number c.requires.key c.len-key.ensures.text (subst IsText digits c.len-value.ensures.text) c.requires.value
    c.requires.named)
