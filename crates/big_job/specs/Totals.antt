-- What is counted of contents, and the sum of their values.
use Rattle.std.specs.Prelude.{ℕ, ◌+◌, ◌%◌, ◌^◌, List, length, sum, sum_by}
use Rattle.std.specs.FinMap as finite
use Rattle.mont_base.specs.State.{State, MapOf, QueueOf, GraphOf, Key, Value, Ends}
use Rattle.big_job.specs.declared.totals.Totals.{Totals}
use Rattle.big_job.specs.Digits.{number_spelled}

abbrev pub keys_in : State → ℕ
keys_in (MapOf m) = finite.len m
keys_in _ = 0

abbrev pub items_in : State → ℕ
items_in (QueueOf items) = length items
items_in _ = 0

abbrev pub vertices_in : State → ℕ
vertices_in (GraphOf g) = finite.len g.vertices
vertices_in _ = 0

abbrev pub edges_in : State → ℕ
edges_in (GraphOf g) = finite.len g.edges
edges_in _ = 0

abbrev pub value_of_pair : Key × Value → ℕ
value_of_pair p = number_spelled p.1

abbrev pub value_of_vertex : ℕ × ℕ → ℕ
value_of_vertex v = v.1

abbrev pub value_of_edge : Ends × ℕ → ℕ
value_of_edge e = e.1

-- the values of maps as numbers, the items, and the attributes of vertices and of edges
abbrev pub values_in : State → ℕ
values_in (MapOf m) = sum_by value_of_pair (finite.entries m)
values_in (QueueOf items) = sum items
values_in (GraphOf g) =
    sum_by value_of_vertex (finite.entries g.vertices)
    + sum_by value_of_edge (finite.entries g.edges)

-- with those of one unit more
abbrev pub with_state : Totals → State → Totals
with_state t s = record {
  keys = t.keys + keys_in s;
  items = t.items + items_in s;
  vertices = t.vertices + vertices_in s;
  edges = t.edges + edges_in s;
  sum = (t.sum + values_in s) % 2 ^ 64;
}

-- of all units, the sum modulo 2^64
abbrev pub totals_of : List State → Totals
totals_of states = record {
  keys = sum_by keys_in states;
  items = sum_by items_in states;
  vertices = sum_by vertices_in states;
  edges = sum_by edges_in states;
  sum = sum_by values_in states % 2 ^ 64;
}

-- how many things were counted
abbrev pub things_in : Totals → ℕ
things_in t = t.keys + t.items + t.vertices + t.edges
