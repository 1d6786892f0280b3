-- What contracts see of a graph unit, and what its type keeps.
use Rattle.std.specs.Prelude.{◌≡◌, Some, None, refl}
use Rattle.std.specs.Coded.{Coded, code_by, coded×}
use Rattle.mont_base.specs.declared.kinds.UnitKind.TheVariants as kinds
use Rattle.mont_base.specs.Layout.{kind_of}
use Rattle.slots.specs.Books.{RegionShown, Agrees}
use Rattle.slots.specs.contracts.region.Region.{the_row as region_row}
use Rattle.pgraph.specs.GraphIndex.{Nodes, nodes_code}
use Rattle.pgraph.specs.LiveNodes.{HoldsLive}

-- the region, and where the vertices and edges are
pub record PGraphShown : Type 0 where
  pub region : RegionShown
  pub nodes : Nodes

-- it is stored as the pair of its fields
abbrev pub pgraph_code : Coded PGraphShown
pgraph_code =
    code_by (RegionShown × Nodes) (coded× region_row.coded nodes_code)
    (λ g. (g.region, g.nodes)) (λ p. record { region = p.0; nodes = p.1 }) (λ _. refl)

-- The index has what is live, unless a caller was cut in the unit.
abbrev pub IsIndexed : RegionShown → Nodes → Type 0
IsIndexed r nodes = r.books.halted ≡ None → HoldsLive r.seat.known.part.records nodes

pub record IsGraphUnit (r : RegionShown) (nodes : Nodes) : Type 0 where
  pub agrees : Agrees r
  pub kind : kind_of r.books.layout r.books.unit ≡ Some kinds.Graph
  pub indexed : IsIndexed r nodes
