use Rattle.std.proofs.Common.{◌≡◌, List, [], ◌∷◌, sym, subst, ◌∙◌}
use Rattle.std.specs.Prelude.{None}
use Rattle.mont_base.specs.declared.record.Change.{Change}
use Rattle.mont_base.specs.State.{Ends}
use Rattle.slots.specs.WrittenRecords.{NamesLive}
use Rattle.structure_call.specs.Planning.{first_at_end}
use Rattle.pgraph.specs.declared.node.Name.{Name}
use Rattle.pgraph.specs.declared.node.Node.{Node}
use Rattle.pgraph.specs.GraphCall.{AreLiveEdges}
use Rattle.pgraph.specs.GraphEdit.{nodes_with}
use Rattle.pgraph.specs.GraphIndex.{part_of, nodes_at}
use Rattle.pgraph.proofs.EdgesChecked.{AreChecked, named_one, next_live, next_checked}
use Rattle.pgraph.proofs.graph_call.check_edges.Given.{Over}
use Rattle.pgraph.proofs.graph_call.check_edges.Goals as goal
use Rattle.pgraph.proofs.graph_call.check_edges.Goals.{After-removal}

-- the next edge is the first of those that are left
checked : (g : Over) (c : After-removal g) → AreChecked c.args.region.now c.loop-node.region c.args.pass.now.ticket
    c.loop-node.pass.ticket c.loop-node.yielded ((c.in-Some.field-0-0, c.in-Some.node) ∷ c.next.new.self)
    (nodes_at c.args.index.now c.in-Vertex.vertex)
checked g c = subst (λ (es : List (Ends × Node)). AreChecked c.args.region.now c.loop-node.region c.args.pass.now.ticket
    c.loop-node.pass.ticket c.loop-node.yielded es (nodes_at c.args.index.now c.in-Vertex.vertex))
    c.in-Some.ensures.steps c.loop-node.invariant.2

pub check_numbers-requires-clause-named : goal.check_numbers-requires-clause-named
check_numbers-requires-clause-named g c = named_one c.loop-node.region.seat.known.part.records c.removal.result
    (subst (NamesLive c.loop-node.region.seat.known.part.records) (sym c.removal.ensures)
    (next_live c.args.region.now c.loop-node.region c.args.pass.now.ticket c.loop-node.pass.ticket c.loop-node.yielded c.next.new.self
    (nodes_at c.args.index.now c.in-Vertex.vertex) (c.in-Some.field-0-0, c.in-Some.node)
    (checked g (goal.at.check_numbers-requires-clause-named g c).After-removal)
    (subst (λ (n : Name). AreLiveEdges c.args.region.now.seat.known.part.records (nodes_with c.args.index.now (part_of n)))
    c.in-Vertex.is c.requires.named)))

pub loop-node-preserved : goal.loop-node-preserved
loop-node-preserved g c = (
  tt,
  tt,
  next_checked c.args.region.now c.loop-node.region c.args.pass.now.ticket c.loop-node.pass.ticket c.loop-node.yielded c.next.new.self
      (nodes_at c.args.index.now c.in-Vertex.vertex) (c.in-Some.field-0-0, c.in-Some.node)
      (checked g (goal.at.loop-node-preserved g c).After-removal) c.check_numbers.new.region
      c.check_numbers.new.pass.ticket c.in_ok-check_numbers.ensures.ok.1 c.in_ok-check_numbers.ensures.ok.2
      (subst (λ (x : Change). first_at_end c.loop-node.pass.ticket.known.part c.loop-node.region (x ∷ []) ≡ None)
      c.removal.ensures c.in_ok-check_numbers.ensures.ok.0),
  c.in_ok-check_numbers.ensures.gate ∙ c.loop-node.invariant.3,
  c.in_ok-check_numbers.ensures.receipts ∙ c.loop-node.invariant.4,
)
