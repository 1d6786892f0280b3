use Rattle.std.proofs.Common.{Some, refl}
use Rattle.std.specs.Ordering.{nat_cmp}
use Rattle.pgraph.specs.declared.node.VertexNode.{VertexNode}
use Rattle.pgraph.specs.Shelf.{SetsValue}
use Rattle.pgraph.proofs.Relisted.{unlists_here}
use Rattle.pgraph.proofs.graph_index.unlist_at.Goals as goal

pub returns-in-Some : goal.returns-in-Some
returns-in-Some c =
    let new : VertexNode = record { node = c.in-Some.there.now.node; ends = c.remove.new.self } in
    let vs = c.args.vertices.now in
    let ws = c.get_mut.follows.lender new in
    let sets : SetsValue nat_cmp vs ws c.args.vertex (Some new) = rw c.in-Some.is at c.get_mut.follows.holds new in
    unlists_here vs ws c.args.vertex c.in-Some.there.now new c.in-Some.ensures.value sets refl c.args.ends
    c.remove.ensures.updates.0
