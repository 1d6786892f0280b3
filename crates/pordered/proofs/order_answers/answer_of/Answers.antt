use Rattle.std.proofs.Common.{ℕ, min, sym, ap, subst, ◌∙◌}
use Rattle.shard_map.specs.MapShard.{IsMapUnit}
use Rattle.pordered.proofs.OrderedKeys.{floor_plan, rank_plan, range_plan}
use Rattle.pordered.proofs.order_answers.answer_of.Goals as goal
use Rattle.pordered.proofs.order_answers.answer_of.Goals.{After-index-index}

-- the unit, by what its index shows
indexed : (c : After-index-index) → IsMapUnit c.args.unit.now.region c.index-index.result.now.places
indexed c = subst (IsMapUnit c.args.unit.now.region) (sym c.index-index.ensures.index) c.index-index.ensures.unit

pub returns-in-OFloor : goal.returns-in-OFloor
returns-in-OFloor c = λ running.
    floor_plan c.args.unit.now.region c.index-index.result.now.places (indexed (goal.at.returns-in-OFloor c).After-index-index) running
    c.args.op.now c.requires.op _ c.in-OFloor.key c.floor.result c.key_reply.result c.in-OFloor.is c.floor.ensures c.key_reply.ensures

pub returns-in-ORank : goal.returns-in-ORank
returns-in-ORank c = λ running.
    rank_plan c.args.unit.now.region c.index-index.result.now.places (indexed (goal.at.returns-in-ORank c).After-index-index) running
    c.args.op.now c.requires.op _ c.in-ORank.key c.rank.result c.in-ORank.is c.rank.ensures

pub returns-in-ORange : goal.returns-in-ORange
returns-in-ORange c = λ running.
    range_plan c.args.unit.now.region c.index-index.result.now.places (indexed (goal.at.returns-in-ORange c).After-index-index) running
    c.args.op.now c.requires.op _ c.in-ORange.from c.in-ORange.to c.in-ORange.most c.stretch.result c.min.result
    c.in-ORange.is c.stretch.ensures (c.min.ensures ∙ ap (λ (n : ℕ). min n c.in-ORange.most) c.len.ensures)
