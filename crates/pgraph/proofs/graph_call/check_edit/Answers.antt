use Rattle.std.proofs.Common.{◌≡◌, [], ◌∷◌, sym, subst, ◌∙◌}
use Rattle.std.specs.Prelude.{All, None}
use Rattle.mont_base.specs.declared.record.Change.{Change}
use Rattle.heap.specs.HeapShown.{CallerShown}
use Rattle.slots.specs.Books.{RegionShown}
use Rattle.slots.specs.WrittenRecords.{NamesLive}
use Rattle.structure_call.specs.Checking.{EndsCount}
use Rattle.structure_call.specs.Planning.{first_at_end}
use Rattle.pgraph.specs.GraphEdit.{nodes_with}
use Rattle.pgraph.specs.GraphIndex.{part_of}
use Rattle.pgraph.proofs.RemovalNumbers.{edges_named, last_named, removal_named, removal_numbers, edge_refused, last_refused, at_exit, ok_more, err_more}
use Rattle.pgraph.proofs.graph_call.check_edit.Goals as goal

pub check_edges-requires-clause-named : goal.check_edges-requires-clause-named
check_edges-requires-clause-named g c = edges_named c.args.region.now.seat.known.part.records
    (nodes_with c.args.index.now (part_of c.in-Remove.name)) c.in-Remove.node
    (removal_named c.args.index.now c.args.edit.now c.in-Remove.name c.in-Remove.node c.in-Remove.is
    c.args.region.now.seat.known.part.records c.requires.named)

pub returns-in_err-check_edges-in-Remove-clause-ends : goal.returns-in_err-check_edges-in-Remove-clause-ends
returns-in_err-check_edges-in-Remove-clause-ends g c =
    at_exit c.from_residual.result c.in_err-check_edges-in-Remove.field-0.0 _ c.from_residual.ensures.1
    (edge_refused c.args.index.now c.args.edit.now c.in-Remove.name c.in-Remove.node c.in-Remove.is c.args.heap.now c.args.region.now
    c.check_edges.new.region c.args.pass.now.ticket c.check_edges.new.pass.ticket c.in_err-check_edges-in-Remove.field-0.0
    c.in_err-check_edges-in-Remove.ensures.ends)

pub check_numbers-requires-in-Remove-clause-named : goal.check_numbers-requires-in-Remove-clause-named
check_numbers-requires-in-Remove-clause-named g c =
    let ok = c.in_ok-check_edges-in-Remove.ensures.ok in
    subst (λ (x : RegionShown × Change). All (NamesLive x.0.seat.known.part.records) (x.1 ∷ []))
    (λ i. (sym ok.1 i, sym c.removal.ensures i))
    (last_named c.args.region.now.seat.known.part.records (nodes_with c.args.index.now (part_of c.in-Remove.name)) c.in-Remove.node
    (removal_named c.args.index.now c.args.edit.now c.in-Remove.name c.in-Remove.node c.in-Remove.is
    c.args.region.now.seat.known.part.records c.requires.named))

pub returns-in_ok-check_edges-in-Remove-clause-ok : goal.returns-in_ok-check_edges-in-Remove-clause-ok
returns-in_ok-check_edges-in-Remove-clause-ok g c =
    let ok = c.in_ok-check_edges-in-Remove.ensures.ok in
    ok_more c.check_numbers-in-Remove.result _ _ c.check_numbers-in-Remove.ensures.ok (λ h. (
      removal_numbers c.args.index.now c.args.edit.now c.in-Remove.name c.in-Remove.node c.in-Remove.is c.args.pass.now.ticket.known.part
          c.args.region.now ok.0
          (subst (λ (x : CallerShown × RegionShown × Change). first_at_end x.0.known.part x.1 (x.2 ∷ []) ≡ None)
          (λ i. (ok.2 i, ok.1 i, c.removal.ensures i)) h.0),
      h.1 ∙ ok.1,
      h.2 ∙ ok.2,
    ))

pub returns-in_ok-check_edges-in-Remove-clause-ends : goal.returns-in_ok-check_edges-in-Remove-clause-ends
returns-in_ok-check_edges-in-Remove-clause-ends g c =
    let ok = c.in_ok-check_edges-in-Remove.ensures.ok in
    err_more c.check_numbers-in-Remove.result _ _ c.check_numbers-in-Remove.ensures.ends (λ why h.
    last_refused c.args.index.now c.args.edit.now c.in-Remove.name c.in-Remove.node c.in-Remove.is c.args.heap.now c.args.region.now
    c.check_numbers-in-Remove.new.region c.args.pass.now.ticket c.check_numbers-in-Remove.new.pass.ticket why c.check_edges.new.region ok.1
    c.check_edges.new.pass.ticket ok.2
    (subst (λ (x : Change). EndsCount c.args.heap.now c.check_edges.new.region c.check_numbers-in-Remove.new.region
    c.check_edges.new.pass.ticket c.check_numbers-in-Remove.new.pass.ticket (x ∷ []) why) c.removal.ensures h))
