use Rattle.std.proofs.Common.{◌≡◌, ◌+◌, ◌-◌, ◌≤◌, length, ap, sym, subst, arith, refl}
use Rattle.std.specs.FinMap.{entries}
use Rattle.std.specs.Ordering.{nat_cmp}
use Rattle.std.proofs.lemmas.Cmp.{nat_cmp_total}
use Rattle.std.proofs.lemmas.List.{length_push}
use Rattle.mont_base.specs.State.{Graph}
use Rattle.job_text.specs.Operations.{IsNumber}
use Rattle.job_text.specs.Ranks.{limit_after, numbers_behind}
use Rattle.job_text.specs.Readings.{Refuses}
use Rattle.job_text.specs.ReportText.{vertex_words}
use Rattle.job_text.specs.ReportRanges.{IsVertex}
use Rattle.job_text.specs.ReportRows.{AllRising, RowsOf, vertex_behind, all_vertices}
use Rattle.job_text.proofs.ReadLines.{at_exit}
use Rattle.job_text.proofs.RowParts.{vertex_once}
use Rattle.job_text.proofs.Ranked.{number_rank}
use Rattle.job_text.proofs.KeyRanks.{some_vertex}
use Rattle.job_text.proofs.MapParts.{SoFar, map_start, map_item, list_refuses, entries_none}
use Rattle.job_text.proofs.contents_reader.next_vertices.Goals as goal

pub loop-place-init : goal.loop-place-init
loop-place-init c =
    let small = c.ranges.count.fits in
    let few : c.args.count ≤ all_vertices = omega arith in
    let none = entries_none c.args.state.now.vertices c.requires in (
      subst (SoFar nat_cmp IsNumber numbers_behind all_vertices number_rank nat_cmp_total IsVertex
          (λ e is. is.0) vertex_words vertex_once some_vertex c.args.count few c.args.lines.now c.args.lines.now) (sym none)
          (map_start nat_cmp IsNumber numbers_behind all_vertices number_rank nat_cmp_total IsVertex
          (λ e is. is.0) vertex_words vertex_once some_vertex c.args.count few c.args.lines.now),
      ap length none,
      ap (limit_after vertex_behind all_vertices) none,
      refl,
    )

pub returns-in_err-vertex-clause-vertices : goal.returns-in_err-vertex-clause-vertices
returns-in_err-vertex-clause-vertices c =
    let small = c.ranges.count.fits in
    let few : c.args.count ≤ all_vertices = omega arith in
    let i = c.loop-place.invariant in
    let low = c.loop-place-test.true in
    at_exit c.from_residual.result c.in_err-vertex.field-0.0 _
    (Refuses (AllRising IsVertex vertex_behind all_vertices c.args.count)
    (RowsOf vertex_words) c.args.lines.now) c.from_residual.ensures.1
    (list_refuses nat_cmp IsNumber numbers_behind all_vertices number_rank nat_cmp_total IsVertex
    (λ e is. is.0) vertex_words vertex_once some_vertex c.args.count few c.args.lines.now c.loop-place.lines
    (entries c.loop-place.state.vertices) c.loop-place.last
    (c.args.count - c.loop-place.place - 1) _ i.0 i.2 (omega (arith, i.1)) (omega (arith, i.1, low)) c.in_err-vertex.ensures)

pub loop-place-preserved : goal.loop-place-preserved
loop-place-preserved c =
    let small = c.ranges.count.fits in
    let few : c.args.count ≤ all_vertices = omega arith in
    let i = c.loop-place.invariant in
    let low = c.loop-place-test.true in
    let t = map_item nat_cmp IsNumber numbers_behind all_vertices number_rank nat_cmp_total IsVertex
    (λ e is. is.0) vertex_words vertex_once some_vertex c.args.count few c.args.lines.now c.loop-place.lines
    c.next_vertex.new.lines c.loop-place.state.vertices c.loop-place.last
    c.in_ok-vertex.vertex c.in_ok-vertex.attribute (c.args.count - c.loop-place.place - 1) i.0 i.2 (omega
    (arith, i.1)) c.in_ok-vertex.ensures in
    subst
    (λ (g : Graph).
    SoFar nat_cmp IsNumber numbers_behind all_vertices number_rank nat_cmp_total IsVertex
    (λ e is. is.0) vertex_words vertex_once some_vertex c.args.count few c.args.lines.now c.next_vertex.new.lines
    (entries g.vertices)
    × (length (entries g.vertices) ≡ c.loop-place.place + 1)
    × (limit_after vertex_behind all_vertices (entries g.vertices) ≡ numbers_behind c.in_ok-vertex.vertex)
    × (g.edges ≡ c.args.state.now.edges))
    (sym c.in_ok-insert_vertex.ensures.ok) (
      t.1,
      omega (
        arith,
        ap length t.0,
        length_push (entries c.loop-place.state.vertices)
            (c.in_ok-vertex.vertex, c.in_ok-vertex.attribute),
        i.1,
      ),
      t.2,
      i.3,
    )
