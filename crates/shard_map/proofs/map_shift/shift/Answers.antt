use Rattle.std.proofs.Common.{false, List, [], ◌∷◌, ◌++◌, append-nil, refl, sym, ap, ◌∙◌, subst, Bool}
use Rattle.std.specs.Prelude.{Err}
use Rattle.std.proofs.lemmas.Bool.{false≢true}
use Rattle.mont_base.specs.declared.operation.Receipt.{Receipt}
use Rattle.heap.specs.GateAsked.{IsAskedOften}
use Rattle.heap.specs.HeapShown.{CallerShown}
use Rattle.structure_call.proofs.Stands.{standing_ready}
use Rattle.shard_map.specs.declared.pair_carrying.CarriedPair.{CarriedPair}
use Rattle.shard_map.specs.declared.shift_refusal.ShiftRefusal.{ShiftRefusal}
use Rattle.shard_map.specs.MapShift.{HasShifted, LeavesShift, end_of_pair, receipts_kept, was_cut}
use Rattle.shard_map.specs.MovedNumbers.{of_high, of_low}
use Rattle.shard_map.specs.PairCarrying.{HasCarriedPair, LeavesPairUncarried}
use Rattle.shard_map.specs.PairCarrying as carrying
use Rattle.shard_map.proofs.Shifted.{asks_nothing, before_memory, cut_alike, has_shifted, in_order_kept, kept_alike, left_shift, noted_shift}
use Rattle.shard_map.proofs.map_shift.shift.Goals as goal

-- ---- refused before memory is taken
pub take_notes-requires-clause-low : goal.take_notes-requires-clause-low
take_notes-requires-clause-low g c = c.requires.low

pub take_notes-requires-clause-high : goal.take_notes-requires-clause-high
take_notes-requires-clause-high g c = c.requires.high

pub take_notes-requires-clause-pass : goal.take_notes-requires-clause-pass
take_notes-requires-clause-pass g c = c.requires.pass

pub returns-in-Err-clause-gate : goal.returns-in-Err-clause-gate
returns-in-Err-clause-gate g c =
    rw (before_memory _ c.args.up c.args.low.now.region c.args.high.now.region c.args.pass.now.ticket.known.part c.args.from.now
    c.args.to.now c.args.amount c.in-Err.why c.in-Err.ensures.refused).0
    (subst (λ gate. IsAskedOften g.G.Gate.cuts g.G.Gate.endless c.args.pass.now.gate gate false) (sym c.take_notes.ensures.gate)
    (asks_nothing g.G.Gate.cuts g.G.Gate.endless c.args.pass.now.gate))

pub returns-in-Err-clause-kept : goal.returns-in-Err-clause-kept
returns-in-Err-clause-kept g c =
    rw (before_memory Receipt c.args.up c.args.low.now.region c.args.high.now.region c.args.pass.now.ticket.known.part c.args.from.now
    c.args.to.now c.args.amount c.in-Err.why c.in-Err.ensures.refused).1
    (ap (λ receipts. receipts.items) c.take_notes.ensures.receipts ∙ sym (append-nil c.args.pass.now.receipts.items))

pub returns-in-Err-clause-refused : goal.returns-in-Err-clause-refused
returns-in-Err-clause-refused g c = noted_shift c.args.heap.now c.args.up c.args.low.now.region c.take_notes.new.low.region
    c.args.high.now.region c.take_notes.new.high.region c.args.pass.now.ticket c.take_notes.new.pass.ticket c.args.from.now c.args.to.now
    c.args.amount c.in-Err.why c.in-Err.ensures.refused c.take_notes.ensures.noted

pub returns-in-Err-clause-checked : goal.returns-in-Err-clause-checked
returns-in-Err-clause-checked g c = λ e. absurd
    (false≢true (sym (before_memory (Receipt × Receipt) c.args.up c.args.low.now.region c.args.high.now.region
    c.args.pass.now.ticket.known.part c.args.from.now c.args.to.now c.args.amount c.in-Err.why c.in-Err.ensures.refused).2
    ∙ e))

pub returns-in-Err-clause-low : goal.returns-in-Err-clause-low
returns-in-Err-clause-low g c = c.take_notes.ensures.low

pub returns-in-Err-clause-high : goal.returns-in-Err-clause-high
returns-in-Err-clause-high g c = c.take_notes.ensures.high

-- ---- no memory
pub returns-in_default-clause-gate : goal.returns-in_default-clause-gate
returns-in_default-clause-gate g c =
    subst (λ gate. IsAskedOften g.G.Gate.cuts g.G.Gate.endless c.args.pass.now.gate gate false) (sym c.reserve_two.ensures.gate)
    (asks_nothing g.G.Gate.cuts g.G.Gate.endless c.args.pass.now.gate)

pub returns-in_default-clause-kept : goal.returns-in_default-clause-kept
returns-in_default-clause-kept g c = c.reserve_two.ensures.receipts ∙ sym (append-nil c.args.pass.now.receipts.items)

pub returns-in_default-clause-refused : goal.returns-in_default-clause-refused
returns-in_default-clause-refused g c = (refl, refl, c.reserve_two.ensures.ticket)

pub returns-in_default-clause-checked : goal.returns-in_default-clause-checked
returns-in_default-clause-checked g c = λ e. (c.in-Ok.plans, c.in-Ok.ensures.planned)

pub returns-in_default-clause-low : goal.returns-in_default-clause-low
returns-in_default-clause-low g c = record { of_unit = refl; stands = c.requires.low; unit = c.plan_shift.ensures.low }

pub returns-in_default-clause-high : goal.returns-in_default-clause-high
returns-in_default-clause-high g c = record { of_unit = refl; stands = c.requires.high; unit = c.plan_shift.ensures.high }

-- ---- both are planned
pub put_both-requires-clause-low : goal.put_both-requires-clause-low
put_both-requires-clause-low g c = standing_ready c.args.heap.now c.args.low.now.region c.requires.low c.plan_shift.ensures.low.agrees
    c.in-Ok.ensures.planned.planned.low_running

pub put_both-requires-clause-high : goal.put_both-requires-clause-high
put_both-requires-clause-high g c = standing_ready c.args.heap.now c.args.high.now.region c.requires.high
    c.plan_shift.ensures.high.agrees c.in-Ok.ensures.planned.planned.high_running

pub put_both-requires-clause-order : goal.put_both-requires-clause-order
put_both-requires-clause-order g c = c.requires.order

pub put_both-requires-clause-pass : goal.put_both-requires-clause-pass
put_both-requires-clause-pass g c = ap (λ (q : CallerShown). q.table) c.reserve_two.ensures.ticket ∙ c.requires.pass

pub put_both-requires-clause-low_plan : goal.put_both-requires-clause-low_plan
put_both-requires-clause-low_plan g c = c.in-Ok.ensures.planned.planned.lower

pub put_both-requires-clause-high_plan : goal.put_both-requires-clause-high_plan
put_both-requires-clause-high_plan g c = c.in-Ok.ensures.planned.planned.higher

pub put_both-requires-clause-numbers : goal.put_both-requires-clause-numbers
put_both-requires-clause-numbers g c =
    ap (λ (q : CallerShown). end_of_pair q.known.part c.args.low.now.region c.args.high.now.region c.in-Ok.plans.0.change
    c.in-Ok.plans.1.change) c.reserve_two.ensures.ticket
    ∙ c.in-Ok.ensures.planned.none_ends

pub put_both-requires-clause-there : goal.put_both-requires-clause-there
put_both-requires-clause-there g c = (c.in-Ok.ensures.planned.planned.low_there, c.in-Ok.ensures.planned.planned.high_there)

-- ---- carried out
pub returns-in-Ok-put_both-clause-gate : goal.returns-in-Ok-put_both-clause-gate
returns-in-Ok-put_both-clause-gate g c =
    subst (λ gate. IsAskedOften g.G.Gate.cuts g.G.Gate.endless gate c.put_both.new.pass.gate false) c.reserve_two.ensures.gate
    c.in-Ok-put_both.ensures.gate

pub returns-in-Ok-put_both-clause-shifted : goal.returns-in-Ok-put_both-clause-shifted
returns-in-Ok-put_both-clause-shifted g c =
    subst (HasShifted c.args.heap.now c.args.up c.args.low.now.region c.put_both.new.low.region c.args.high.now.region
    c.put_both.new.high.region c.args.pass.now.ticket c.put_both.new.pass.ticket c.args.from.now c.args.to.now c.args.amount)
    (sym c.in_order.ensures)
    (has_shifted c.args.heap.now c.args.low.now.region c.put_both.new.low.region c.args.high.now.region c.put_both.new.high.region
    c.args.pass.now.ticket c.put_both.new.pass.ticket c.in-Ok.plans.0 c.in-Ok.plans.1 c.in-Ok-put_both.both
    (subst (λ (q : CallerShown). HasCarriedPair c.args.heap.now c.args.low.now.region c.put_both.new.low.region c.args.high.now.region
    c.put_both.new.high.region q c.put_both.new.pass.ticket c.in-Ok.plans.0 c.in-Ok.plans.1 c.in-Ok-put_both.both)
    c.reserve_two.ensures.ticket c.in-Ok-put_both.ensures.carried)
    c.args.up c.args.from.now c.args.to.now c.args.amount c.in-Ok.ensures.planned.planned)

pub returns-in-Ok-put_both-clause-receipts : goal.returns-in-Ok-put_both-clause-receipts
returns-in-Ok-put_both-clause-receipts g c =
    let a = c.in-Ok-put_both.both.low.receipt in
    let b = c.in-Ok-put_both.both.high.receipt in
    c.in-Ok-put_both.ensures.receipts
    ∙ ap (λ (kept : List Receipt). kept ++ a ∷ b ∷ []) c.reserve_two.ensures.receipts
    ∙ in_order_kept c.args.up a b c.args.pass.now.receipts.items
    ∙ ap (λ (both : Receipt × Receipt). c.args.pass.now.receipts.items ++ of_low c.args.up both ∷ of_high c.args.up both ∷ [])
    (sym c.in_order.ensures)

pub returns-in-Ok-put_both-clause-checked : goal.returns-in-Ok-put_both-clause-checked
returns-in-Ok-put_both-clause-checked g c = λ e. (c.in-Ok.plans, c.in-Ok.ensures.planned)

pub returns-in-Ok-put_both-clause-low : goal.returns-in-Ok-put_both-clause-low
returns-in-Ok-put_both-clause-low g c = c.put_both.ensures.low

pub returns-in-Ok-put_both-clause-high : goal.returns-in-Ok-put_both-clause-high
returns-in-Ok-put_both-clause-high g c = c.put_both.ensures.high

-- ---- not carried out
pub returns-in-Err-put_both-clause-gate : goal.returns-in-Err-put_both-clause-gate
returns-in-Err-put_both-clause-gate g c =
    let why = c.in-Err-put_both.why in
    subst (λ (cut : Bool). IsAskedOften g.G.Gate.cuts g.G.Gate.endless c.args.pass.now.gate c.put_both.new.pass.gate cut)
    (sym (ap (λ (told : ShiftRefusal). was_cut {T = Receipt × Receipt} (Err told)) c.of.ensures
    ∙ cut_alike (Receipt × Receipt) CarriedPair why))
    (subst (λ gate. IsAskedOften g.G.Gate.cuts g.G.Gate.endless gate c.put_both.new.pass.gate
    (carrying.was_cut {T = CarriedPair} (Err why)))
    c.reserve_two.ensures.gate c.in-Err-put_both.ensures.gate)

pub returns-in-Err-put_both-clause-kept : goal.returns-in-Err-put_both-clause-kept
returns-in-Err-put_both-clause-kept g c =
    c.in-Err-put_both.ensures.kept
    ∙ ap (λ (kept : List Receipt). kept ++ carrying.receipts_kept c.in-Err-put_both.why) c.reserve_two.ensures.receipts
    ∙ ap (λ (more : List Receipt). c.args.pass.now.receipts.items ++ more)
    (sym (ap receipts_kept c.of.ensures ∙ kept_alike c.in-Err-put_both.why))

pub returns-in-Err-put_both-clause-refused : goal.returns-in-Err-put_both-clause-refused
returns-in-Err-put_both-clause-refused g c =
    subst (LeavesShift c.args.heap.now c.args.up c.args.low.now.region c.put_both.new.low.region c.args.high.now.region
    c.put_both.new.high.region c.args.pass.now.ticket c.put_both.new.pass.ticket c.args.from.now c.args.to.now c.args.amount)
    (sym c.of.ensures)
    (left_shift c.args.heap.now c.args.low.now.region c.put_both.new.low.region c.args.high.now.region c.put_both.new.high.region
    c.args.pass.now.ticket c.put_both.new.pass.ticket c.in-Ok.plans.0 c.in-Ok.plans.1 c.args.up c.args.from.now c.args.to.now
    c.args.amount c.in-Err-put_both.why c.in-Ok.ensures.planned.planned
    (subst (λ (q : CallerShown). LeavesPairUncarried c.args.heap.now c.args.low.now.region c.put_both.new.low.region
    c.args.high.now.region c.put_both.new.high.region q c.put_both.new.pass.ticket c.in-Ok.plans.0 c.in-Err-put_both.why)
    c.reserve_two.ensures.ticket c.in-Err-put_both.ensures.refused))

pub returns-in-Err-put_both-clause-checked : goal.returns-in-Err-put_both-clause-checked
returns-in-Err-put_both-clause-checked g c = λ e. (c.in-Ok.plans, c.in-Ok.ensures.planned)

pub returns-in-Err-put_both-clause-low : goal.returns-in-Err-put_both-clause-low
returns-in-Err-put_both-clause-low g c = c.put_both.ensures.low

pub returns-in-Err-put_both-clause-high : goal.returns-in-Err-put_both-clause-high
returns-in-Err-put_both-clause-high g c = c.put_both.ensures.high
