use Rattle.std.proofs.Common.{refl, ◌∙◌, arith}
use Rattle.index_kit.proofs.Renumber.{marked_free, table_free, numbering_free, counted_free, numbering_more, counted_more, room_for}
use Rattle.index_kit.proofs.table.set_all.Goals as goal

pub loop-number-init : goal.loop-number-init
loop-number-init c =
    let free = c.requires.free in
    record {
      marked = marked_free c.args.entries.now c.args.cells.now free;
      table = table_free c.args.entries.now c.args.cells.now free;
      numbering = numbering_free c.args.entries.now c.args.cells.now free;
      counted = counted_free c.args.entries.now c.args.cells.now free;
      len = refl;
    }

pub set-requires-clause-room : goal.set-requires-clause-room
set-requires-clause-room c =
    let l = c.loop-number.invariant in
    room_for c.args.entries.now c.loop-number.cells l.table c.loop-number.number l.counted (omega
    (arith, c.requires.room, l.len, c.loop-number-test.true))

pub loop-number-preserved : goal.loop-number-preserved
loop-number-preserved c =
    let l = c.loop-number.invariant in
    record {
      marked = c.set.ensures.marked;
      table = c.set.ensures.table;
      numbering = numbering_more c.args.entries.now c.requires.keyed _ c.loop-number.number (omega
          (arith, c.loop-number-test.true)) l.numbering _ c.set.ensures.numbered;
      counted = counted_more c.args.entries.now c.requires.keyed _ c.loop-number.number (omega
          (arith, c.loop-number-test.true)) l.numbering _ c.set.ensures.numbered l.counted;
      len = c.set.ensures.len ∙ l.len;
    }
