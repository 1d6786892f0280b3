use Rattle.std.proofs.Common.{arith}
use Rattle.scan.specs.Workers.{piece_slots}
use Rattle.scan.proofs.Pieces.{rising}
use Rattle.scan.proofs.workers.look_at_piece.Goals as goal

pub look_on-requires-clause-rising : goal.look_on-requires-clause-rising
look_on-requires-clause-rising c =
    rw (c.piece_start-first.ensures.start, c.piece_start-end.ensures.start)
    (rising c.args.layout c.args.workers (omega (arith, c.requires.piece)) c.args.piece)

pub returns : goal.returns
unfolding piece_slots
returns c slots so_far =
    rw (c.piece_start-first.ensures.start, c.piece_start-end.ensures.start) at (c.look_on.ensures slots so_far)
