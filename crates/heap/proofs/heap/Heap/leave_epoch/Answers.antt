use Rattle.std.proofs.Common.{rules, ap, subst, sym, arith, ◌∙◌}
use Rattle.core_steps.specs.Stages.{epoch_of}
use Rattle.heap_rule.specs.declared.views.UnitKnown.{UnitKnown}
use Rattle.heap_rule.specs.Plays.{answer_of}
use Rattle.heap_rule.specs.SoundUnits.{IsSoundUnit}
use Rattle.heap_rule.specs.Views.{the_unit, the_caller}
use Rattle.heap_rule.proofs.SeatPlays.{splits_whole, splits_callers, joins_callers}
use Rattle.heap.proofs.AnsweredSeats.{left_keeps}
use Rattle.heap.proofs.SeatTables.{unit_table, caller_table}
use Rattle.heap.proofs.heap.Heap.leave_epoch.Goals as goal

pub split_seat-whole-requires : goal.split_seat-whole-requires
split_seat-whole-requires g c =
    let words = c.self.invariant.words in
    (caller_table _ _ _ _ c.ticket.view_is c.requires.ticket c.self.view_is, omega (arith, words), splits_whole _ _ _)

pub join_seat-requires : goal.join_seat-requires
join_seat-requires g c =
    let words = c.self.invariant.words in
    let w = c.split_seat-whole.ensures in (
      unit_table _ _ _ _ c.seat.view_is c.requires.heap c.self.view_is,
      w.3 ∙ caller_table _ _ _ _ c.ticket.view_is c.requires.ticket c.self.view_is,
      ap (λ m. m.1) w.4,
      omega (arith, words),
      joins_callers _ _ _ _ _,
    )

pub split_seat-requires : goal.split_seat-requires
split_seat-requires g c =
    let words = c.self.invariant.words in (
      c.store_left.ensures.seat ∙ (c.join_seat.ensures.0
          ∙ unit_table _ _ _ _ c.seat.view_is c.requires.heap c.self.view_is),
      omega (arith, words),
      splits_callers _ _ _,
    )

pub invariant_of-seat : goal.invariant_of-seat
invariant_of-seat g c = left_keeps _ _ _ _ _ _ c.seat.inside.seat.me c.seat.invariant _ _
    (answer_of (the_caller c.ticket.inside.seat.me.0) c.args.op.now c.args.reply.now (epoch_of
    (the_unit c.seat.inside.seat.me.0).part.stage))
    (search rules) (sym c.seat.invariant.epoch_is) (search rules)

pub returns-clause-sound : goal.returns-clause-sound
returns-clause-sound g c =
    let k = c.store_left.ensures.sound in
    (k.0, k.1, subst (λ (h : UnitKnown). IsSoundUnit c.args.self.now.opening k.0 k.1 h) (search rules) k.2)
