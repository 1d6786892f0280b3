use Rattle.std.proofs.Common.{Some, None, sym, subst, refl}
use Rattle.std.specs.FinMap.{entries}
use Rattle.mont_base.specs.declared.kinds.UnitKind.{UnitKind}
use Rattle.mont_base.specs.declared.kinds.UnitKind.TheVariants as kinds
use Rattle.mont_base.specs.State.{MapOf, QueueOf, GraphOf, Pairs}
use Rattle.job_text.specs.Operations.{IsNumber}
use Rattle.job_text.specs.Readings.{Refuses}
use Rattle.job_text.specs.ReportText.{state_lines}
use Rattle.job_text.specs.ReportRanges.{IsStateOf, IsPair, AreCounted}
use Rattle.job_text.proofs.ReadLines.{at_exit, refuses_other}
use Rattle.job_text.proofs.ContentsParts.{IsGraph, graph_rows, state_back_map, state_back_ordered, state_back_queue, state_back_graph}
use Rattle.job_text.proofs.contents_reader.next_unit.Goals as goal

pub returns-in_err-state-in-Map : goal.returns-in_err-state-in-Map
returns-in_err-state-in-Map c =
    at_exit c.from_residual.result c.in_err-state-in-Map.field-0.0 _
    (Refuses (IsStateOf c.args.kind) (state_lines (Some c.args.kind) c.args.unit) c.args.lines.now) c.from_residual.ensures.1
    (subst (λ (k : UnitKind). Refuses (IsStateOf k) (state_lines (Some k) c.args.unit) c.args.lines.now c.in_err-state-in-Map.field-0.0)
    (sym c.in-Map.is)
    (refuses_other (λ (m : Pairs). AreCounted IsPair (entries m)) (λ m. state_lines (Some kinds.Map) c.args.unit (MapOf m)) _
    (state_lines (Some kinds.Map) c.args.unit)
    (λ m is. (MapOf m, is, refl)) (state_back_map c.args.unit) c.args.lines.now _
    (subst (λ (k : UnitKind). Refuses (λ (m : Pairs). AreCounted IsPair (entries m)) (λ m. state_lines (Some k) c.args.unit (MapOf m))
    c.args.lines.now c.in_err-state-in-Map.field-0.0) c.in-Map.is c.in_err-state-in-Map.ensures)))

pub returns-in_err-state-in-Queue : goal.returns-in_err-state-in-Queue
returns-in_err-state-in-Queue c =
    at_exit c.from_residual-in_err-state-in-Queue.result c.in_err-state-in-Queue.field-0.0 _
    (Refuses (IsStateOf c.args.kind) (state_lines (Some c.args.kind) c.args.unit) c.args.lines.now)
    c.from_residual-in_err-state-in-Queue.ensures.1
    (subst (λ (k : UnitKind). Refuses (IsStateOf k) (state_lines (Some k) c.args.unit) c.args.lines.now c.in_err-state-in-Queue.field-0.0)
    (sym c.in-Queue.is)
    (refuses_other (AreCounted IsNumber) (λ is. state_lines None c.args.unit (QueueOf is)) _ (state_lines (Some kinds.Queue) c.args.unit)
    (λ items is. (QueueOf items, is, refl)) (state_back_queue c.args.unit) c.args.lines.now _ c.in_err-state-in-Queue.ensures))

pub returns-in_err-state-in-Graph : goal.returns-in_err-state-in-Graph
returns-in_err-state-in-Graph c =
    at_exit c.from_residual-in_err-state-in-Graph.result c.in_err-state-in-Graph.field-0.0 _
    (Refuses (IsStateOf c.args.kind) (state_lines (Some c.args.kind) c.args.unit) c.args.lines.now)
    c.from_residual-in_err-state-in-Graph.ensures.1
    (subst (λ (k : UnitKind). Refuses (IsStateOf k) (state_lines (Some k) c.args.unit) c.args.lines.now c.in_err-state-in-Graph.field-0.0)
    (sym c.in-Graph.is)
    (refuses_other (IsGraph c.args.unit) (graph_rows c.args.unit) _ (state_lines (Some kinds.Graph) c.args.unit) (λ g is. (
      GraphOf g,
      is,
      refl,
    ))
    (state_back_graph c.args.unit) c.args.lines.now _ c.in_err-state-in-Graph.ensures))

pub returns-in_err-state-in-Ordered : goal.returns-in_err-state-in-Ordered
returns-in_err-state-in-Ordered c =
    at_exit c.from_residual-in_err-state-in-Ordered.result c.in_err-state-in-Ordered.field-0.0 _
    (Refuses (IsStateOf c.args.kind) (state_lines (Some c.args.kind) c.args.unit) c.args.lines.now)
    c.from_residual-in_err-state-in-Ordered.ensures.1
    (subst (λ (k : UnitKind). Refuses (IsStateOf k) (state_lines (Some k) c.args.unit) c.args.lines.now c.in_err-state-in-Ordered.field-0.0)
    (sym c.in-Ordered.is)
    (refuses_other (λ (m : Pairs). AreCounted IsPair (entries m)) (λ m. state_lines (Some kinds.Ordered) c.args.unit (MapOf m)) _
    (state_lines (Some kinds.Ordered) c.args.unit)
    (λ m is. (MapOf m, is, refl)) (state_back_ordered c.args.unit) c.args.lines.now _
    (subst (λ (k : UnitKind). Refuses (λ (m : Pairs). AreCounted IsPair (entries m)) (λ m. state_lines (Some k) c.args.unit (MapOf m))
    c.args.lines.now c.in_err-state-in-Ordered.field-0.0) c.in-Ordered.is c.in_err-state-in-Ordered.ensures)))
