use Rattle.std.proofs.Common.{◌≡◌, ◌+◌, ◌-◌, ◌≤◌, length, ap, sym, subst, arith, refl}
use Rattle.std.specs.FinMap.{entries}
use Rattle.std.proofs.lemmas.List.{length_push}
use Rattle.mont_base.specs.State.{Graph, edge_cmp}
use Rattle.job_text.specs.Ranks.{limit_after, edges_behind}
use Rattle.job_text.specs.Readings.{Refuses}
use Rattle.job_text.specs.ReportText.{edge_words}
use Rattle.job_text.specs.ReportRanges.{IsEdge}
use Rattle.job_text.specs.ReportRows.{AllRising, RowsOf, edge_behind, all_edges}
use Rattle.job_text.proofs.ReadLines.{at_exit}
use Rattle.job_text.proofs.RowParts.{edge_once}
use Rattle.job_text.proofs.KeyRanks.{edge_rank, edges_total, IsEnds, some_edge}
use Rattle.job_text.proofs.MapParts.{SoFar, map_start, map_item, list_refuses, entries_none}
use Rattle.job_text.proofs.contents_reader.next_edges.Goals as goal

pub loop-place-init : goal.loop-place-init
loop-place-init c =
    let small = c.ranges.count.fits in
    let few : c.args.count ≤ all_edges = omega arith in
    let none = entries_none c.args.state.now.edges c.requires in (
      subst (SoFar edge_cmp IsEnds edges_behind all_edges edge_rank edges_total IsEdge (λ e is.
          (is.0, is.1)) edge_words edge_once some_edge c.args.count few c.args.lines.now c.args.lines.now) (sym none)
          (map_start edge_cmp IsEnds edges_behind all_edges edge_rank edges_total IsEdge (λ e is.
          (is.0, is.1)) edge_words edge_once some_edge c.args.count few c.args.lines.now),
      ap length none,
      ap (limit_after edge_behind all_edges) none,
      refl,
    )

pub returns-in_err-ends-clause-edges : goal.returns-in_err-ends-clause-edges
returns-in_err-ends-clause-edges c =
    let small = c.ranges.count.fits in
    let few : c.args.count ≤ all_edges = omega arith in
    let i = c.loop-place.invariant in
    let low = c.loop-place-test.true in
    at_exit c.from_residual.result c.in_err-ends.field-0.0 _
    (Refuses (AllRising IsEdge edge_behind all_edges c.args.count) (RowsOf edge_words) c.args.lines.now) c.from_residual.ensures.1
    (list_refuses edge_cmp IsEnds edges_behind all_edges edge_rank edges_total IsEdge (λ e is.
    (is.0, is.1)) edge_words edge_once some_edge c.args.count few c.args.lines.now c.loop-place.lines
    (entries c.loop-place.state.edges) c.loop-place.last
    (c.args.count - c.loop-place.place - 1) _ i.0 i.2 (omega (arith, i.1)) (omega (arith, i.1, low)) c.in_err-ends.ensures)

pub loop-place-preserved : goal.loop-place-preserved
loop-place-preserved c =
    let small = c.ranges.count.fits in
    let few : c.args.count ≤ all_edges = omega arith in
    let i = c.loop-place.invariant in
    let low = c.loop-place-test.true in
    let t = map_item edge_cmp IsEnds edges_behind all_edges edge_rank edges_total IsEdge (λ e is.
    (is.0, is.1)) edge_words edge_once some_edge c.args.count few c.args.lines.now c.loop-place.lines c.next_edge.new.lines
    c.loop-place.state.edges c.loop-place.last
    c.in_ok-ends.ends c.in_ok-ends.attribute (c.args.count - c.loop-place.place - 1) i.0 i.2 (omega
    (arith, i.1)) c.in_ok-ends.ensures in
    subst
    (λ (g : Graph).
    SoFar edge_cmp IsEnds edges_behind all_edges edge_rank edges_total IsEdge (λ e is.
    (is.0, is.1)) edge_words edge_once some_edge c.args.count few c.args.lines.now c.next_edge.new.lines (entries g.edges)
    × (length (entries g.edges) ≡ c.loop-place.place + 1)
    × (limit_after edge_behind all_edges (entries g.edges) ≡ edges_behind c.in_ok-ends.ends)
    × (g.vertices ≡ c.args.state.now.vertices))
    (sym c.in_ok-insert_edge.ensures.ok) (
      t.1,
      omega (
        arith,
        ap length t.0,
        length_push (entries c.loop-place.state.edges)
            (c.in_ok-ends.ends, c.in_ok-ends.attribute),
        i.1,
      ),
      t.2,
      i.3,
    )
