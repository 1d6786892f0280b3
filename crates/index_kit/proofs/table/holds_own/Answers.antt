use Rattle.std.proofs.Common.{refl, arith}
use Rattle.index_kit.proofs.Seated.{seat_read, like_mark, own_told}
use Rattle.index_kit.proofs.table.holds_own.Goals as goal

pub returns-clause-own : goal.returns-clause-own
returns-clause-own c =
    let held = like_mark _ _ c.requires.marked c.args.at c.args.key _ _ refl c.mark.ensures (omega
    (arith, c.if-mark.false, c.requires.mark)) in
    own_told _ c.args.key (rw (seat_read c.args.entries.now c.args.cells.now c.args.at) held) _ c.holds_another.ensures.own
