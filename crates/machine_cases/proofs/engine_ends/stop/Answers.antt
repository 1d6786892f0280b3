use Rattle.std.proofs.Common.{◌++◌, ◌∷◌, [], List, ◌∙◌, ap}
use Rattle.heap.specs.HeapShown.{AdvShown, CallerShown, UnitShown}
use Rattle.machine_cases.proofs.EngineEnds.{all_gathered, home_gathered}
use Rattle.machine_cases.proofs.engine_ends.stop.Goals as goal

pub stop-requires-clause-seats : goal.stop-requires-clause-seats
stop-requires-clause-seats c =
    all_gathered c.args.engine.heap c.args.engine.others.items c.insert.new.self.items c.into_seat.result c.into_seat-2.result
    c.args.engine.pass.ticket c.requires.others c.in_ok-insert.ensures.items c.push.new.self.items
    (c.in_ok-push.ensures.items ∙ ap (λ (l : List CallerShown). l ++ c.args.engine.pass.ticket ∷ []) c.new-callers.ensures.items)
    (ap (λ (s : UnitShown). s.table) c.into_seat.ensures ∙ c.requires.of_region)
    (ap (λ (s : UnitShown). s.known.unit) c.into_seat.ensures ∙ c.requires.first)
    (ap (λ (a : AdvShown). a.table) c.into_seat-2.ensures ∙ c.requires.of_advancer)
    c.requires.of_caller c.requires.caller c.requires.one

pub stop-requires-clause-home : goal.stop-requires-clause-home
stop-requires-clause-home c =
    home_gathered c.args.engine.heap c.args.engine.others.items c.insert.new.self.items c.into_seat.result c.into_seat-2.result
    c.args.engine.pass.ticket c.requires.others c.in_ok-insert.ensures.items
    (ap (λ (s : UnitShown). s.known.turn.out) c.into_seat.ensures ∙ c.requires.home)
