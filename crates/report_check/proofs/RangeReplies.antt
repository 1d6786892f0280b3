-- A history has as many runs as its ranges, which are what is answered with pairs.
use Rattle.std.proofs.Common.{◌≡◌, ℕ, suc, Bool, true, false, List, [], ◌∷◌, length, Option, Some, None, refl, ap, ◌∙◌, cond}
use Rattle.std.specs.Prelude.{is_some, filter}
use Rattle.std.specs.List.{cons_option}
use Rattle.std.specs.FinMap as finite
use Rattle.mont_base.specs.declared.operation.Entry.{Entry}
use Rattle.mont_base.specs.declared.operation.Op.{Op}
use Rattle.mont_base.specs.declared.operation.Op.TheVariants as ops
use Rattle.mont_base.specs.State.{State, MapOf, QueueOf, GraphOf, Graph, Pairs, Key, Value, Ends, Run, step, run_of, earlier_text, earlier, floor_of, floor_reply, map_del, queue_deq, del_vertex, add_edge, del_edge, degree, can_join}
use Rattle.mont_base.specs.History.{RepliesFollow, runs_of}
use Rattle.job_text.specs.Runs.{has_run, is_range, HasRuns}

text_none : (o : Option Value) → has_run (earlier_text o) ≡ false
text_none None = refl
text_none (Some value) = refl

number_none : (o : Option ℕ) → has_run (earlier o) ≡ false
number_none None = refl
number_none (Some value) = refl

floor_none : (o : Option (Key × Value)) → has_run (floor_reply o) ≡ false
floor_none None = refl
floor_none (Some p) = refl

del_none : (m : Pairs) (key : Key) (o : Option Value) → has_run (map_del m key o).reply ≡ false
del_none m key None = refl
del_none m key (Some value) = refl

deq_none : (items : List ℕ) → has_run (queue_deq items).reply ≡ false
deq_none [] = refl
deq_none (item ∷ items) = refl

vertex_none : (g : Graph) (vertex : ℕ) (o : Option ℕ) → has_run (del_vertex g vertex o).reply ≡ false
vertex_none g vertex None = refl
vertex_none g vertex (Some attribute) = refl

edge_none : (g : Graph) (e : Ends) (o : Option ℕ) → has_run (del_edge g e o).reply ≡ false
edge_none g e None = refl
edge_none g e (Some attribute) = refl

add_none : (g : Graph) (e : Ends) (attribute : ℕ) (b : Bool) → has_run (add_edge g e attribute b).reply ≡ false
add_none g e attribute false = refl
add_none g e attribute true = number_none (finite.get g.edges e)

degree_none : (g : Graph) (vertex : ℕ) (b : Bool) → has_run (degree g vertex b) ≡ false
degree_none g vertex false = refl
degree_none g vertex true = refl

-- an operation has a run where it is answered with pairs
pub run_where_pairs : (s : State) (op : Op) → has_run (step s op).reply ≡ is_some (run_of s op)
run_where_pairs (MapOf m) (ops.Put key value) = text_none (finite.get m key)
run_where_pairs (MapOf m) (ops.Get key) = text_none (finite.get m key)
run_where_pairs (MapOf m) (ops.Del key) = del_none m key (finite.get m key)
run_where_pairs (MapOf m) (ops.OPut unit key value) = text_none (finite.get m key)
run_where_pairs (MapOf m) (ops.OGet unit key) = text_none (finite.get m key)
run_where_pairs (MapOf m) (ops.ODel unit key) = del_none m key (finite.get m key)
run_where_pairs (MapOf m) (ops.OFloor unit key) = floor_none (floor_of m key)
run_where_pairs (MapOf m) (ops.ORank unit key) = refl
run_where_pairs (MapOf m) (ops.ORange unit from to most) = refl
run_where_pairs (MapOf m) _ = refl
run_where_pairs (QueueOf items) (ops.Enq unit item) = refl
run_where_pairs (QueueOf items) (ops.Deq unit) = deq_none items
run_where_pairs (QueueOf items) (ops.Len unit) = refl
run_where_pairs (QueueOf items) _ = refl
run_where_pairs (GraphOf g) (ops.AddV unit vertex attribute) = number_none (finite.get g.vertices vertex)
run_where_pairs (GraphOf g) (ops.DelV unit vertex) = vertex_none g vertex (finite.get g.vertices vertex)
run_where_pairs (GraphOf g) (ops.AddE unit from to attribute) =
    add_none g (from, to) attribute (can_join g.vertices (from, to))
run_where_pairs (GraphOf g) (ops.DelE unit from to) = edge_none g (from, to) (finite.get g.edges (from, to))
run_where_pairs (GraphOf g) (ops.Vertex unit vertex) = number_none (finite.get g.vertices vertex)
run_where_pairs (GraphOf g) (ops.Degree unit vertex) = degree_none g vertex (finite.contains_key g.vertices vertex)
run_where_pairs (GraphOf g) _ = refl

one_by_one : (o : Option Run) (b : Bool) (e : Entry) (runs : List Run) (es : List Entry) → is_range e ≡ b → b ≡ is_some o
    → length runs ≡ length (filter is_range es)
    → length (cons_option o runs) ≡ length (cond b (e ∷ filter is_range es) (filter is_range es))
one_by_one None b e runs es is so long = rw so long
one_by_one (Some run) b e runs es is so long = rw so (ap (λ n. suc n) long)

pub as_many_runs : (base : State) (h : List Entry) → RepliesFollow base h → HasRuns h (runs_of base h)
as_many_runs base [] follow = refl
as_many_runs base (e ∷ es) follow =
    one_by_one (run_of base e.op) (is_range e) e (runs_of (step base e.op).state es) es refl
    (ap has_run follow.0 ∙ run_where_pairs base e.op) (as_many_runs (step base e.op).state es follow.1)
