use Rattle.std.proofs.Common.{◌≤◌, List, length, take, take_all, sym, ◌∙◌, subst}
use Rattle.std.specs.Prelude.{All}
use Rattle.std.proofs.lemmas.List.Elements.{All-take, All-get_or}
use Rattle.mont_base.specs.declared.operation.Receipt.{Receipt}
use Rattle.store_stop.specs.ToldHistories.{HoldsEntryOf, Fills}
use Rattle.store_stop.proofs.Items.{take_next}
use Rattle.store_stop.proofs.Placing.{fills_rows, told_is}
use Rattle.store_stop.proofs.told_histories.told_history.Goals as goal

pub loop-of_caller-preserved : goal.loop-of_caller-preserved
loop-of_caller-preserved c h tells =
    let rows = c.args.receipts.now in
    let n = c.loop-of_caller.of_caller-index in
    let rs = c.of_caller-item.result in
    let old = c.loop-of_caller.history.items in
    let new = c.place_entries.new.history.items in
    let so_far = c.loop-of_caller.invariant h tells in
    let P : List Receipt → Type 0 = All (HoldsEntryOf c.args.unit h) in
    subst (λ (done : List (List Receipt)). (length new ≤ length h) × All (All (HoldsEntryOf c.args.unit new)) done)
    (sym (take_next rows n rs c.loop-of_caller-test.true c.of_caller-item.is))
    (fills_rows c.args.unit (take n rows) rs h old new so_far.0 (All-take P n rows tells.stand)
    (subst P (sym c.of_caller-item.is) (All-get_or P rows n rs c.loop-of_caller-test.true tells.stand)) so_far.1
    (subst (λ (given : List Receipt). Fills c.args.unit given old new) c.as_slice.ensures c.in_ok-place_entries.ensures))

pub returns : goal.returns
returns c h tells =
    let so_far = c.loop-of_caller.invariant h tells in
    c.from_vec.ensures ∙ told_is c.args.unit c.args.receipts.now h c.loop-of_caller.history.items tells so_far.0
    (subst (All (All (HoldsEntryOf c.args.unit c.loop-of_caller.history.items)))
    (take_all c.loop-of_caller.of_caller-index c.args.receipts.now c.loop-of_caller-test.false) so_far.1)
