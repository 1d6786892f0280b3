use Rattle.std.proofs.Common.{List, take, take_all, ap, sym, subst}
use Rattle.mont_base.specs.declared.operation.Entry.{Entry}
use Rattle.mont_base.specs.declared.operation.Receipt.{Receipt}
use Rattle.store_stop.specs.ToldHistories.{Fills}
use Rattle.store_stop.proofs.Items.{take_next}
use Rattle.store_stop.proofs.Placing.{fills_other, fills_one}
use Rattle.store_stop.proofs.told_histories.place_entries.Goals as goal
use Rattle.store_stop.proofs.told_histories.place_entries.Goals.{then-receipt-unit+in_ok-place_entry, else-receipt-unit}

pub loop-receipt-preserved : goal.loop-receipt-preserved
loop-receipt-preserved c =
    let r = c.receipt-item.result in
    let before = take c.loop-receipt.receipt-index c.args.receipts.now in
    let old = c.args.history.now.items in
    let mid = c.loop-receipt.history.items in
    let more = take_next c.args.receipts.now c.loop-receipt.receipt-index r c.loop-receipt-test.true c.receipt-item.is in
    elim c.if-receipt-unit.branch [
      | then-receipt-unit+in_ok-place_entry w ↦
          subst (λ (x : List Receipt × List Entry). Fills c.args.unit x.0 old x.1)
          (λ i. (sym more i, ap (λ (v : _). v.items) (sym w.history-is) i))
          (fills_one c.args.unit before r old mid w.place_entry.new.history.items c.loop-receipt.invariant w.if-receipt-unit.true
          w.in_ok-place_entry.ensures)
      | else-receipt-unit w ↦
          subst (λ (x : List Receipt × List Entry). Fills c.args.unit x.0 old x.1)
          (λ i. (sym more i, ap (λ (v : _). v.items) (sym w.history-is) i))
          (fills_other c.args.unit before r old mid mid c.loop-receipt.invariant w.if-receipt-unit.false)
    ]

pub returns : goal.returns
returns c = subst (λ (rs : List Receipt). Fills c.args.unit rs c.args.history.now.items c.loop-receipt.history.items)
    (take_all c.loop-receipt.receipt-index c.args.receipts.now c.loop-receipt-test.false) c.loop-receipt.invariant
