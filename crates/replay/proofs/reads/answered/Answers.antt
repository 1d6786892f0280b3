use Rattle.std.proofs.Common.{ap, ◌∙◌}
use Rattle.std.specs.Prelude.{option_map, map, slice_set}
use Rattle.std.proofs.lemmas.List.{map-set}
use Rattle.std.proofs.lemmas.Option.{slice_get-map}
use Rattle.plain.specs.States.{state_of}
use Rattle.replay.proofs.reads.answered.Goals as goal

pub returns : goal.returns
returns c =
    let states = c.args.states.now in (
      state_of c.item_mut.result.now,
      slice_get-map state_of states c.args.unit ∙ ap (option_map state_of) c.item_mut.ensures.value,
      c.in_ok-reply.ensures.reply,
      map-set state_of states c.args.unit c.apply.new.self
          ∙ ap (slice_set (map state_of states) c.args.unit) c.in_ok-reply.ensures.state,
    )
