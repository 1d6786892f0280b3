use Rattle.std.proofs.Common.{◌∙◌}
use Rattle.std.proofs.lemmas.Result.{err_from_is_err_and}
use Rattle.write_back.proofs.AskedTimes.{asks_more}
use Rattle.write_back.proofs.Asking.{asked_more}
use Rattle.write_back.proofs.Stays.{stays_more}
use Rattle.write_back.proofs.flush.Flush.flush_list.Goals as goal

pub loop-slot-preserved-in-Continue-1 : goal.loop-slot-preserved-in-Continue-1
loop-slot-preserved-in-Continue-1 g c =
    let i = c.loop-slot.invariant in
    let e = c.in_ok-persist.ensures in record {
      gate = asked_more _ _ _ _ _ _ i.gate e.gate;
      asked = asks_more g.G.Gate.asked _ _ _ _ _ _ _ i.asked e.asked;
      stands = e.stands;
      stays = stays_more c.args.seat.now c.loop-slot.seat _ i.stays e.stays;
      turn = e.turn ∙ i.turn;
    }

pub returns-in_err-persist-clause-asked : goal.returns-in_err-persist-clause-asked
returns-in_err-persist-clause-asked g c =
    let p = err_from_is_err_and c.from_residual.result c.from_residual.ensures.1 in
    rw p.1 (asks_more g.G.Gate.asked _ _ _ _ _ _ _ c.loop-slot.invariant.asked c.in_err-persist.ensures.asked)

pub loop-slot-preserved : goal.loop-slot-preserved
loop-slot-preserved g c =
    let i = c.loop-slot.invariant in
    let e = c.in_ok-flush_slot.ensures in record {
      gate = asked_more _ _ _ _ _ _ i.gate e.gate;
      asked = asks_more g.G.Gate.asked _ _ _ _ _ _ _ i.asked e.asked;
      stands = e.stands;
      stays = stays_more c.args.seat.now c.loop-slot.seat _ i.stays e.stays;
      turn = e.turn ∙ i.turn;
    }

pub returns-in_err-flush_slot-clause-asked : goal.returns-in_err-flush_slot-clause-asked
returns-in_err-flush_slot-clause-asked g c =
    let p = err_from_is_err_and c.from_residual-in_err-flush_slot.result c.from_residual-in_err-flush_slot.ensures.1 in
    rw p.1 (asks_more g.G.Gate.asked _ _ _ _ _ _ _ c.loop-slot.invariant.asked c.in_err-flush_slot.ensures.asked)
