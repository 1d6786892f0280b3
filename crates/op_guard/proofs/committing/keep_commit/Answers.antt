use Rattle.std.proofs.Common.{rules, ◌≡◌, ℕ, ap, subst, sym, ◌∙◌}
use Rattle.std.specs.Prelude.{OnOk}
use Rattle.std.proofs.lemmas.Result.{IfOk-at_ok}
use Rattle.heap.specs.NextAnswer.{receipt_at}
use Rattle.heap_rule.specs.Plays.{IsNotBeyond}
use Rattle.heap_rule.specs.SoundUnits.{IsSoundUnit}
use Rattle.core_steps.specs.Stages.{epoch_of}
use Rattle.slots.specs.Books.{RegionShown}
use Rattle.op_guard.proofs.Committed.{seat_gave, sound_gave, seen_gave, sound_after}
use Rattle.op_guard.proofs.committing.keep_commit.Goals as goal

pub returns-clause-committed : goal.returns-clause-committed
returns-clause-committed g c =
    let heap = c.args.heap.now in
    let old = c.args.region.now in
    let q = c.args.pass.now.ticket in
    let lent = c.seat_mut.result.now in
    let given = c.leave_epoch-left.ensures in
    let left = c.leave_epoch-left.new in
    let is = sym c.or_halt.ensures.same ∙ c.in_ok-epoch.was in
    let seat : lent ≡ seat_gave old = c.seat_mut.ensures.value ∙ c.list_written.ensures.seat in
    let kept = subst (λ z. OnOk z ((c.or_halt.new.region ≡ record { seat = left.seat; books = c.list_written.new.self.books })
    × (c.or_halt.new.ticket ≡ left.ticket))) is c.or_halt.ensures.ok in
    let epoch = IfOk-at_ok (λ (x : ℕ). x ≡ epoch_of lent.known.part.stage) is given.epoch in
    let front = subst (λ z. OnOk z (IsNotBeyond q.known lent.known)) is given.front in
    let before = subst (λ z. OnOk z ((now durable : ℕ) × IsSoundUnit heap.opening now durable lent.known)) is given.sound_before in
    let sound = subst (λ z. OnOk z ((now durable : ℕ) × IsSoundUnit heap.opening now durable left.seat.known)) is given.sound in
    record {
      receipt = receipt_at c.answer_place-place.result c.args.op.now c.args.reply.now c.in_ok-epoch.epoch;
      kept = c.keep.ensures.receipts;
      holds = record {
        answered = record {
          receipt_is = search rules;
          seen = seen_gave heap old lent seat q.known front;
          caller = search rules;
          books = search rules;
          ready = search rules;
          sound_before = sound_gave heap old lent seat before;
          sound = sound_after heap c.keep.new.region left.seat (c.keep.ensures.seat ∙ ap (λ (x : RegionShown). x.seat) kept.0) sound;
        };
        part = search rules;
      };
    }
