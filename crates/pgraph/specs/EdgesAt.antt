-- What edges stand after a vertex.
use Rattle.std.specs.Prelude.{List, [], ◌∷◌, Option, Some, None, IsSome}
use Rattle.mont_base.specs.State.{Ends, edge_cmp}
use Rattle.pgraph.specs.declared.node.Node.{Node}
use Rattle.pgraph.specs.Shelf.{value_of, named_first}

-- the edges with these ends, each with its node
abbrev pub edges_of : List (Ends × Node) → List Ends → List (Ends × Node)
edges_of edges [] = []
edges_of edges (e ∷ es) = named_first e (value_of edge_cmp edges e) (edges_of edges es)

-- each of them is there
abbrev pub AllThere : List (Ends × Node) → List Ends → Type 0
AllThere edges [] = Unit {0}
AllThere edges (e ∷ es) = IsSome (value_of edge_cmp edges e) × AllThere edges es

-- the same where there may be no vertex, and so no ends
abbrev pub edges_behind : List (Ends × Node) → Option (List Ends) → List (Ends × Node)
edges_behind edges None = []
edges_behind edges (Some ends) = edges_of edges ends

abbrev pub AreThere : List (Ends × Node) → Option (List Ends) → Type 0
AreThere edges None = Unit {0}
AreThere edges (Some ends) = AllThere edges ends
