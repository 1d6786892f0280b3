use Rattle.std.proofs.Common.{sym, subst}
use Rattle.pgraph.specs.GraphIndex.{Nodes}
use Rattle.pgraph.specs.LiveNodes.{HoldsLive}
use Rattle.pgraph.proofs.GraphBegins.{none_live, unit_with}
use Rattle.pgraph.proofs.pgraph.PGraph.fresh.Goals as goal

pub invariant_of-result : goal.invariant_of-result
invariant_of-result c = unit_with c.args.region c.new.result c.requires.agrees c.requires.kind
    (subst (λ (n : Nodes). HoldsLive c.args.region.seat.known.part.records n) (sym c.new.ensures)
    (none_live c.args.region.seat.known.part.records c.requires.none))
