use Rattle.std.proofs.Common.{Some, refl}
use Rattle.std.specs.Ordering.{nat_cmp}
use Rattle.pgraph.specs.declared.node.VertexNode.{VertexNode}
use Rattle.pgraph.specs.Shelf.{SetsValue}
use Rattle.pgraph.proofs.Relisted.{lists_here, keeps_here, on_refusal}
use Rattle.pgraph.proofs.graph_index.list_at.Goals as goal

pub returns-in_err-insert-clause-err : goal.returns-in_err-insert-clause-err
returns-in_err-insert-clause-err c =
    let new : VertexNode = record { node = c.in-Some.there.now.node; ends = c.insert.new.self } in
    let vs = c.args.vertices.now in
    let ws = c.get_mut.follows.lender new in
    let sets : SetsValue nat_cmp vs ws c.args.vertex (Some new) = rw c.in-Some.is at c.get_mut.follows.holds new in
    on_refusal c.from_residual.result
    (keeps_here vs ws c.args.vertex c.in-Some.there.now new c.in-Some.ensures.value sets refl c.in_err-insert.ensures.err)

pub returns-in_ok-insert-clause-ok : goal.returns-in_ok-insert-clause-ok
returns-in_ok-insert-clause-ok c =
    let new : VertexNode = record { node = c.in-Some.there.now.node; ends = c.insert.new.self } in
    let vs = c.args.vertices.now in
    let ws = c.get_mut.follows.lender new in
    let sets : SetsValue nat_cmp vs ws c.args.vertex (Some new) = rw c.in-Some.is at c.get_mut.follows.holds new in
    lists_here vs ws c.args.vertex c.in-Some.there.now new c.in-Some.ensures.value sets refl c.args.ends
    c.in_ok-insert.ensures.updates.0
