use Rattle.std.proofs.Common.{ℕ, ◌+◌, ◌*◌, sym, ap, ◌∙◌, arith}
use Rattle.mont_base.specs.Image.{record_at}
use Rattle.plain.proofs.Recovered.{slot_within, filter_map_hit, filter_map_miss}
use Rattle.plain.proofs.image.records.Goals as goal
use Rattle.plain.proofs.image.records.Goals.{in-Some+in_ok-push, in_default}

pub record_at-requires-clause-slot : goal.record_at-requires-clause-slot
record_at-requires-clause-slot c =
    slot_within c.args.layout c.args.unit c.loop-place.place c.slots.result c.slots.ensures.value c.requires.unit (omega arith)

pub loop-place-preserved : goal.loop-place-preserved
loop-place-preserved c =
    let h = record_at c.args.layout c.args.image.now in
    let first = c.args.unit * c.args.layout.slots in
    let read = ap (λ (slots : ℕ). h (c.args.unit * slots + c.loop-place.place)) (sym c.slots.ensures.value) ∙ sym c.record_at.ensures in
    elim c.match-record_at.branch [
      | in-Some+in_ok-push w ↦
          ap (λ v. v.items) w.found-is
          ∙ filter_map_hit h first c.loop-place.place c.loop-place.found.items w.push.new.self.items w.in-Some.held (read
          ∙ w.in-Some.is) c.loop-place.invariant w.in_ok-push.ensures.items
      | in_default w ↦
          ap (λ v. v.items) w.found-is
          ∙ filter_map_miss h first c.loop-place.place c.loop-place.found.items (read ∙ w.in_default.is) c.loop-place.invariant
    ]
