use Rattle.std.proofs.Common.{ap, sym, ◌∙◌}
use Rattle.std.specs.Option.{option_copied}
use Rattle.shard_map.proofs.MapPlans.{nothing_found, no_record, always_value, found_value, found_named}
use Rattle.shard_map.proofs.map_plan.find.Goals as goal

pub returns-in_err-held-clause-value : goal.returns-in_err-held-clause-value
returns-in_err-held-clause-value g c = λ running. absurd
    (no_record c.args.region.now (g.I.Index.places c.args.index.now) c.requires.unit running c.args.key.now c.in_ok-slot.slot
    (sym c.find.ensures ∙ c.in_ok-slot.was) (sym c.find_record.ensures ∙ ap option_copied c.in_err-held.was))

pub returns-in_err-value-clause-value : goal.returns-in_err-value-clause-value
returns-in_err-value-clause-value g c = λ running. absurd
    (always_value c.args.region.now (g.I.Index.places c.args.index.now) c.requires.unit running c.args.key.now c.in_ok-slot.slot
    c.in_ok-held.held.now (sym c.find.ensures ∙ c.in_ok-slot.was) (sym c.find_record.ensures ∙ ap option_copied c.in_ok-held.was)
    (sym c.value_in.ensures ∙ c.in_err-value.was))

pub returns-clause-value : goal.returns-clause-value
returns-clause-value g c = λ running.
    found_value c.args.region.now (g.I.Index.places c.args.index.now) c.requires.unit running c.args.key.now c.in_ok-slot.slot
    c.in_ok-held.held.now c.in_ok-value.value (sym c.find.ensures ∙ c.in_ok-slot.was)
    (sym c.find_record.ensures ∙ ap option_copied c.in_ok-held.was) (sym c.value_in.ensures ∙ c.in_ok-value.was)

pub returns-clause-named : goal.returns-clause-named
returns-clause-named g c = λ running.
    found_named c.args.region.now (g.I.Index.places c.args.index.now) c.requires.unit running c.args.key.now c.in_ok-slot.slot
    c.in_ok-held.held.now c.in_ok-value.value (sym c.find.ensures ∙ c.in_ok-slot.was)
    (sym c.find_record.ensures ∙ ap option_copied c.in_ok-held.was) (sym c.value_in.ensures ∙ c.in_ok-value.was)

pub returns-in_err-slot-clause-value : goal.returns-in_err-slot-clause-value
returns-in_err-slot-clause-value g c = λ running. rw c.from_residual.ensures
    (nothing_found c.args.region.now (g.I.Index.places c.args.index.now) c.requires.unit running c.args.key.now
    (sym c.find.ensures ∙ c.in_err-slot.was))
