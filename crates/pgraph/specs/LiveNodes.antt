-- Where the live vertices and edges of a graph are.
use Rattle.std.specs.Prelude.{◌≡◌, List, Some}
use Rattle.mont_base.specs.declared.record.Held.{Held}
use Rattle.mont_laws.specs.Records.{live_of}
use Rattle.mont_laws.specs.Structures.{Part, part_for, HasGraph}
use Rattle.pgraph.specs.declared.node.Node.{Node}
use Rattle.pgraph.specs.GraphIndex.{Nodes, node_of, graph_in}

-- a node has the attribute of a live vertex or edge, and tells where its record is
pub record IsNodeOf (records : List Held) (part : Part) (node : Node) : Type 0 where
  pub live : Held
  pub is : live_of node.identity records ≡ Some live
  pub in_slot : live.slot ≡ node.slot
  pub holds : part_for live.body ≡ Some (part, node.attribute)

-- The nodes' attributes make the graph that the live records show, and each node tells where the
-- record of its vertex or edge is.
pub record HoldsLive (records : List Held) (nodes : Nodes) : Type 0 where
  pub graph : HasGraph records (graph_in nodes)
  pub places : (part : Part) (node : Node) → node_of nodes part ≡ Some node
      → IsNodeOf records part node
