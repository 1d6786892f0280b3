use Rattle.std.proofs.Common.{◌<◌, take, sym, ◌∙◌, subst, ◌∷◌, [], ◌++◌}
use Rattle.mont_base.specs.Layout.{Shape, units_of}
use Rattle.store.proofs.UnitOps.{op_inside}
use Rattle.store_stop.proofs.Items.{take_next}
use Rattle.bank_store.specs.OpenedAccounts.{HasMadePuts}
use Rattle.bank_store.proofs.Passes.{pass_further, pass_same}
use Rattle.bank_store.proofs.PutsMade.{come_more, come_none}
use Rattle.bank_store.proofs.first_puts.make_puts.Goals as goal

pub loop-put-init : goal.loop-put-init
loop-put-init g c = record {
  table = c.requires.pass;
  same = pass_same c.args.pass.now;
  made = ([], come_none g.N.HeapName.heap c.args.pass.now.ticket);
}

pub loop-put-preserved : goal.loop-put-preserved
loop-put-preserved g c =
    let i = c.loop-put.invariant in
    let heap = g.N.HeapName.heap in
    let q = c.args.pass.now.ticket in
    let r = c.loop-put.pass.ticket in
    let t = c.make_put.new.pass.ticket in
    let puts = c.args.puts.now in
    let first = take c.loop-put.put-index puts in
    let put = c.put-item.result in
    let same = c.in_ok-make_put.ensures.same in
    let made = c.in_ok-make_put.ensures.made in
    record {
      table = same.table ∙ i.table;
      same = pass_further c.args.pass.now c.loop-put.pass c.make_put.new.pass i.same same;
      made =
          subst (HasMadePuts heap q t) (sym (take_next puts c.loop-put.put-index put c.loop-put-test.true c.put-item.is)) (
            i.made.0 ++ made.0 ∷ [],
            come_more heap q r t first i.made.0 put made.0
                (λ unit e. subst (λ (s : Shape). unit < units_of s) c.requires.layout
                (op_inside heap.opening.layout unit put e)) i.made.1 made.1,
          );
    }
