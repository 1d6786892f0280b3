use Rattle.std.proofs.Common.{sym, subst}
use Rattle.std.specs.FinMap.{entries}
use Rattle.mont_base.specs.State.{Vertices}
use Rattle.job_text.specs.Readings.{Reads, Refuses}
use Rattle.job_text.specs.ReportText.{vertex_words}
use Rattle.job_text.specs.ReportRows.{RowsOf}
use Rattle.job_text.proofs.ReadLines.{at_exit}
use Rattle.job_text.proofs.ContentsParts.{IsGraph, graph_rows, VerticesOf, graph_refuses_counts, graph_refuses_vertices, graph_refuses_edges, graph_reads}
use Rattle.job_text.proofs.contents_reader.next_graph.Goals as goal

pub returns-in_err-vertices : goal.returns-in_err-vertices
returns-in_err-vertices c =
    at_exit c.from_residual.result c.in_err-vertices.field-0.0 _ (Refuses (IsGraph c.args.unit)
    (graph_rows c.args.unit) c.args.lines.now)
    c.from_residual.ensures.1 (graph_refuses_counts c.args.unit c.args.lines.now _ c.in_err-vertices.ensures)

pub returns-in_err-next_vertices : goal.returns-in_err-next_vertices
returns-in_err-next_vertices c =
    at_exit c.from_residual-in_err-next_vertices.result c.in_err-next_vertices.field-0.0 _
    (Refuses (IsGraph c.args.unit) (graph_rows c.args.unit) c.args.lines.now) c.from_residual-in_err-next_vertices.ensures.1
    (graph_refuses_vertices c.args.unit c.args.lines.now _ (c.in_ok-vertices.vertices, c.in_ok-vertices.edges) _
    c.in_ok-vertices.ensures
    c.in_err-next_vertices.ensures.vertices)

pub returns-in_err-next_edges : goal.returns-in_err-next_edges
returns-in_err-next_edges c =
    at_exit c.from_residual-in_err-next_edges.result c.in_err-next_edges.field-0.0 _
    (Refuses (IsGraph c.args.unit) (graph_rows c.args.unit) c.args.lines.now) c.from_residual-in_err-next_edges.ensures.1
    (graph_refuses_edges c.args.unit c.args.lines.now _ _ (c.in_ok-vertices.vertices, c.in_ok-vertices.edges) _ _
    c.in_ok-vertices.ensures
    c.in_ok-next_vertices.ensures.vertices c.in_err-next_edges.ensures.edges)

pub returns : goal.returns
returns c =
    graph_reads c.args.unit c.args.lines.now _ c.next_vertices.new.lines _
    (c.in_ok-vertices.vertices, c.in_ok-vertices.edges) c.next_edges.new.state
    c.in_ok-vertices.ensures
    (subst (λ (vs : Vertices). Reads (VerticesOf (c.in_ok-vertices.vertices, c.in_ok-vertices.edges)) (RowsOf vertex_words)
    c.next_graph_counts.new.lines c.next_vertices.new.lines (entries vs))
    (sym c.in_ok-next_edges.ensures.vertices) c.in_ok-next_vertices.ensures.vertices)
    c.in_ok-next_edges.ensures.edges
