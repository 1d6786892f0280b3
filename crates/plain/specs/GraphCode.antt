-- The code of graphs, by which a proof tells them apart.
use Rattle.std.specs.Prelude.{refl}
use Rattle.std.specs.Coded.{Coded, code_by, coded×, coded_ℕ}
use Rattle.std.specs.FinMap as finite
use Rattle.mont_base.specs.State.{Graph, Vertices, Edges}

abbrev vertices_code : Coded Vertices
vertices_code = finite.code coded_ℕ coded_ℕ

abbrev edges_code : Coded Edges
edges_code = finite.code (coded× coded_ℕ coded_ℕ) coded_ℕ

-- a graph is stored as the pair of its maps
abbrev pub graph_code : Coded Graph
graph_code =
    code_by (Vertices × Edges) (coded× vertices_code edges_code) (λ g. (g.vertices, g.edges))
    (λ p. record { vertices = p.0; edges = p.1 }) (λ _. refl)
