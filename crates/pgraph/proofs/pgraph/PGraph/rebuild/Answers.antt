use Rattle.pgraph.proofs.GraphBegins.{makes_graph, rebuilt, unit_with}
use Rattle.pgraph.proofs.pgraph.PGraph.rebuild.Goals as goal

pub vertices_of-requires : goal.vertices_of-requires
vertices_of-requires c = (makes_graph c.args.region.books.layout c.args.region.books.unit c.args.objects.now c.requires.structure.0
    c.requires.kind c.requires.structure.1).sound

pub invariant_of-result : goal.invariant_of-result
invariant_of-result c = unit_with c.args.region c.insert_edges.new.index c.requires.agrees c.requires.kind
    (rebuilt c.args.region c.args.objects.now c.insert_edges.new.index c.requires.agrees c.requires.kind c.requires.objects
    c.requires.structure c.in_ok-insert_edges.ensures)

pub returns-clause-nodes : goal.returns-clause-nodes
returns-clause-nodes c = rebuilt c.args.region c.args.objects.now c.insert_edges.new.index c.requires.agrees c.requires.kind
    c.requires.objects c.requires.structure c.in_ok-insert_edges.ensures
