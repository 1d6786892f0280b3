use Rattle.std.proofs.Common.{sym, ap, subst, ◌∙◌}
use Rattle.std.specs.Option.{option_copied}
use Rattle.slots.specs.Books.{RegionShown, record_in}
use Rattle.shard_map.specs.MapShard.{IsMapUnit}
use Rattle.pordered.proofs.OrderedKeys.{no_pair_at, held_there, pair_there}
use Rattle.pordered.proofs.ranges.pair_at.Goals as goal
use Rattle.pordered.proofs.ranges.pair_at.Goals.{After-index}

-- the unit, by what its index shows
indexed : (c : After-index) → IsMapUnit c.args.unit.now.region c.index.result.now.places
indexed c = subst (IsMapUnit c.args.unit.now.region) (sym c.index.ensures.index) c.index.ensures.unit

pub returns-in_err-slot : goal.returns-in_err-slot
returns-in_err-slot c = λ pairs shown. c.from_residual.ensures
    ∙ no_pair_at c.args.unit.now.region c.index.result.now.places (indexed (goal.at.returns-in_err-slot c).After-index) c.requires.running
    pairs shown c.args.place (sym c.in_err-slot.was ∙ c.entry_at.ensures)

pub returns-in_err-held : goal.returns-in_err-held
returns-in_err-held c = λ pairs shown. absurd
    (held_there c.args.unit.now.region c.index.result.now.places (indexed (goal.at.returns-in_err-held c).After-index) c.requires.running
    c.args.place c.in_ok-slot.field-0-0 c.in_ok-slot.slot (sym c.entry_at.ensures ∙ c.in_ok-slot.was)
    (ap (λ (r : RegionShown). record_in r.seat.known.part.records c.in_ok-slot.slot) (sym c.region.ensures.region)
    ∙ sym c.find_record.ensures ∙ ap option_copied c.in_err-held.was))

pub returns : goal.returns
returns c = λ pairs shown. c.pair_in.ensures.exact
    ∙ pair_there c.args.unit.now.region c.index.result.now.places (indexed (goal.at.returns c).After-index) c.requires.running
    pairs shown c.args.place c.in_ok-slot.field-0-0 c.in_ok-slot.slot c.in_ok-held.held.now (sym c.entry_at.ensures ∙ c.in_ok-slot.was)
    (ap (λ (r : RegionShown). record_in r.seat.known.part.records c.in_ok-slot.slot) (sym c.region.ensures.region)
    ∙ sym c.find_record.ensures ∙ ap option_copied c.in_ok-held.was)
