use Rattle.std.proofs.Common.{take, sym, ◌∙◌, subst}
use Rattle.store_stop.proofs.Items.{take_next}
use Rattle.bank_store.specs.MadeShifts.{HasMadeShifts}
use Rattle.bank_store.proofs.Passes.{pass_further, pass_same}
use Rattle.bank_store.proofs.ShiftsMade.{made_more, made_none}
use Rattle.bank_store.proofs.shift_making.make_shifts.Goals as goal

pub loop-shift-init : goal.loop-shift-init
loop-shift-init g c = record {
  table = c.requires.pass;
  same = pass_same c.args.pass.now;
  made = made_none g.N.HeapName.heap c.args.pass.now.ticket;
}

pub loop-shift-preserved : goal.loop-shift-preserved
loop-shift-preserved g c =
    let i = c.loop-shift.invariant in
    let heap = g.N.HeapName.heap in
    let q = c.args.pass.now.ticket in
    let r = c.loop-shift.pass.ticket in
    let t = c.make_shift.new.pass.ticket in
    let shifts = c.args.shifts.now in
    let shift = c.shift-item.result in
    let same = c.in_ok-make_shift.ensures.same in
    record {
      table = same.table ∙ i.table;
      same = pass_further c.args.pass.now c.loop-shift.pass c.make_shift.new.pass i.same same;
      made =
          subst (HasMadeShifts heap q t) (sym (take_next shifts c.loop-shift.shift-index shift c.loop-shift-test.true c.shift-item.is))
          (made_more heap q r t (take c.loop-shift.shift-index shifts) shift i.made c.in_ok-make_shift.ensures.made);
    }
