use Rattle.std.proofs.Common.{rules, ◌+◌, ◌<◌, refl, ◌∙◌, arith}
use Rattle.mont_base.specs.declared.constants.TheConstants.{FIELDS}
use Rattle.heap_rule.specs.Views.{the_advancer}
use Rattle.heap.proofs.SeatTables.{heap_table, slot_inside}
use Rattle.heap.proofs.FlushedWords.{at_word, begins, first_part, loaded, persisted, is_cut, still_listed, stays, may_load, may_persist, word_place, durable_word, current_within, durable_within}
use Rattle.heap.proofs.heap.Heap.flush_fields.Goals as goal

pub loop-field-init : goal.loop-field-init
loop-field-init g c = record {
  table = refl;
  from = omega arith;
  flushed = begins _ _ _ _ _ _ c.requires.view (first_part (the_advancer c.args.seat.now.me.0) _ _ c.requires.part c.requires.field);
  listed = λ l. absurd (omega (arith, l));
}

pub load-value-requires : goal.load-value-requires
load-value-requires g c =
    let low : c.loop-field.field < FIELDS = search rules in
    let key = c.self.inside.table.shared.key in
    let place = word_place (c.current-start.result + c.loop-field.field) c.current-start.result c.args.slot c.loop-field.field refl
    c.current-start.ensures.place in
    let inside = slot_inside c.args.slot _ _ c.self.view_is c.requires.inside in (
      c.loop-field.invariant.table ∙ heap_table _ _ _ c.requires.heap c.self.view_is,
      current_within key.layout c.self.inside.layout _ c.args.slot c.loop-field.field _ c.self.invariant.words
          c.self.invariant.layout_is inside low place,
      may_load g.G.Gate.cuts g.G.Gate.endless g.G.Gate.asked key c.self.inside.table.shared.table_id.slots c.loop-field.seat.id
          c.args.seat.now.me c.args.gate.now c.loop-field.seat.me c.loop-field.gate c.args.done c.args.first c.loop-field.field
          c.args.slot c.requires.part c.requires.slot inside low
          (at_word g.G.Gate.cuts g.G.Gate.endless g.G.Gate.asked _ _ _ _ _ _ low c.loop-field.invariant.flushed)
          c.requires.may _ place,
    )

pub returns-in_default-step-clause-steps : goal.returns-in_default-step-clause-steps
returns-in_default-step-clause-steps g c =
    let low : c.loop-field.field < FIELDS = search rules in
    let flushed = loaded g.G.Gate.cuts g.G.Gate.endless g.G.Gate.asked c.args.seat.now.me c.args.gate.now c.loop-field.seat.me
    c.loop-field.gate c.args.done c.loop-field.field
    (at_word g.G.Gate.cuts g.G.Gate.endless g.G.Gate.asked _ _ _ _ _ _ low c.loop-field.invariant.flushed)
    c.requires.may c.load-value.new.seat.me c.step.new.self c.load-value.result
    (record { kept = c.in-Ok.ensures.cause.kept; same = c.in-Ok.ensures.endless; asks = c.in-Ok.ensures.asked })
    c.load-value.ensures.2 in
    (is_cut g.G.Gate.cuts g.G.Gate.endless g.G.Gate.asked _ _ _ _ _ flushed.0 c.step-in-loop-field.new.self
    (record {
      later = c.in_default-step.ensures.cause.later;
      counted = c.in_default-step.ensures.cause.failed;
      same = c.in_default-step.ensures.endless;
      ends = λ e. c.in_default-step.not-Ok tt (c.in_default-step.is ∙ c.in_default-step.ensures.passes e);
      asks = c.in_default-step.ensures.asked;
    })).0

pub store-requires : goal.store-requires
store-requires g c =
    let low : c.loop-field.field < FIELDS = search rules in
    let key = c.self.inside.table.shared.key in
    let place = word_place (c.current-start.result + c.loop-field.field) c.current-start.result c.args.slot c.loop-field.field refl
    c.current-start.ensures.place in
    let inside = slot_inside c.args.slot _ _ c.self.view_is c.requires.inside in
    let flushed = loaded g.G.Gate.cuts g.G.Gate.endless g.G.Gate.asked c.args.seat.now.me c.args.gate.now c.loop-field.seat.me
    c.loop-field.gate c.args.done c.loop-field.field
    (at_word g.G.Gate.cuts g.G.Gate.endless g.G.Gate.asked _ _ _ _ _ _ low c.loop-field.invariant.flushed)
    c.requires.may c.load-value.new.seat.me c.step.new.self c.load-value.result
    (record { kept = c.in-Ok.ensures.cause.kept; same = c.in-Ok.ensures.endless; asks = c.in-Ok.ensures.asked })
    c.load-value.ensures.2 in (
      c.load-value.ensures.0 ∙ (c.loop-field.invariant.table ∙ heap_table _ _ _ c.requires.heap c.self.view_is),
      durable_within key.layout c.self.inside.layout _ c.words-words.result c.args.slot c.loop-field.field _ c.self.invariant.words
          c.self.invariant.layout_is inside low c.words-words.ensures.value place,
      may_persist g.G.Gate.cuts g.G.Gate.endless g.G.Gate.asked key c.self.inside.table.shared.table_id.slots
          c.load-value.new.seat.id c.args.seat.now.me c.args.gate.now c.load-value.new.seat.me c.step.new.self c.args.done c.args.first
          c.loop-field.field c.args.slot c.requires.part c.requires.slot inside low c.load-value.result flushed.0 _
          (durable_word key.layout c.self.inside.layout c.words-words.result _ c.args.slot c.loop-field.field
          c.words-words.ensures.value c.self.invariant.layout_is place),
    )

pub loop-field-preserved : goal.loop-field-preserved
loop-field-preserved g c =
    let low : c.loop-field.field < FIELDS = search rules in
    let flushed = loaded g.G.Gate.cuts g.G.Gate.endless g.G.Gate.asked c.args.seat.now.me c.args.gate.now c.loop-field.seat.me
    c.loop-field.gate c.args.done c.loop-field.field
    (at_word g.G.Gate.cuts g.G.Gate.endless g.G.Gate.asked _ _ _ _ _ _ low c.loop-field.invariant.flushed)
    c.requires.may c.load-value.new.seat.me c.step.new.self c.load-value.result
    (record { kept = c.in-Ok.ensures.cause.kept; same = c.in-Ok.ensures.endless; asks = c.in-Ok.ensures.asked })
    c.load-value.ensures.2 in
    let from = c.loop-field.invariant.from in record {
      table = c.store.ensures.0 ∙ (c.load-value.ensures.0 ∙ c.loop-field.invariant.table);
      from = omega (arith, from);
      flushed = persisted g.G.Gate.cuts g.G.Gate.endless g.G.Gate.asked _ _ _ _ _ _ _ flushed.0 c.store.new.seat.me
          c.step-in-loop-field.new.self
          (record { kept = c.in-Ok-step.ensures.cause.kept; same = c.in-Ok-step.ensures.endless; asks = c.in-Ok-step.ensures.asked })
          c.store.ensures.2.0 c.store.ensures.2.1;
      listed = λ _. still_listed (the_advancer c.args.seat.now.me.0) (the_advancer c.load-value.new.seat.me.0) c.args.done c.args.first
          c.loop-field.field c.load-value.result (stays g.G.Gate.cuts g.G.Gate.endless g.G.Gate.asked _ _ _ _ _ flushed.0)
          c.requires.part flushed.0.part_is c.store.ensures.2.1;
    }
