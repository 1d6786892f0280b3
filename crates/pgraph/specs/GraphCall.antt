-- What the steps of a graph call stand on, and what they leave.
use Rattle.std.specs.Prelude.{◌≡◌, ℕ, List, [], ◌∷◌, All, Option, Some, None, IsSome}
use Rattle.std.specs.List.{Contains}
use Rattle.mont_base.specs.declared.record.Held.{Held}
use Rattle.mont_base.specs.declared.refusal.CallRefusal.{CallRefusal}
use Rattle.mont_base.specs.State.{Ends}
use Rattle.core_steps.specs.declared.parts.CallerPart.{CallerPart}
use Rattle.heap.specs.HeapShown.{HeapShown, CallerShown}
use Rattle.slots.specs.Books.{RegionShown, record_in}
use Rattle.slots.specs.WrittenRecords.{IsLiveAt}
use Rattle.structure_call.specs.Checking.{EndsCount}
use Rattle.structure_call.specs.Planning.{first_at_end}
use Rattle.pgraph.specs.declared.graph_edit.GraphEdit.{GraphEdit}
use Rattle.pgraph.specs.declared.graph_edit.GraphEdit.TheVariants.{Keep, Set, Remove}
use Rattle.pgraph.specs.declared.node.Node.{Node}
use Rattle.pgraph.specs.GraphIndex.{Nodes, node_of, part_of, without}
use Rattle.pgraph.specs.GraphEdit.{edge_removal}

-- ---- numbers of the edges that go with a vertex
abbrev pub AreLiveEdges : List Held → List (Ends × Node) → Type 0
AreLiveEdges records edges =
    All (λ (e : Ends × Node). IsLiveAt records e.1.slot e.1.identity) edges

-- there is a number for each removal
abbrev pub HaveNumbers : CallerPart → RegionShown → List (Ends × Node) → Type 0
HaveNumbers q r edges =
    All (λ (e : Ends × Node). first_at_end q r (edge_removal e ∷ []) ≡ None) edges

-- there is none for some removal
pub record EndsAtEdge
    (heap : HeapShown) (old new : RegionShown) (q r : CallerShown) (edges : List (Ends × Node))
    (why : CallRefusal) : Type 0 where
  pub edge : Ends × Node
  pub there : Contains edges edge
  pub ends : EndsCount heap old new q r (edge_removal edge ∷ []) why

-- ---- the index
-- what is set or removed has a node
abbrev pub HasNode : Nodes → GraphEdit → Type 0
HasNode nodes Keep = Unit {0}
HasNode nodes (Set name attribute was) = IsSome (node_of nodes (part_of name))
HasNode nodes (Remove name node) = IsSome (node_of nodes (part_of name))

-- what was to come in has none any more
abbrev pub restored : Nodes → GraphEdit → Nodes
restored nodes (Set name attribute None) = without nodes (part_of name)
restored nodes _ = nodes

-- the record in a slot, if there is a slot and a record
abbrev pub record_at : RegionShown → Option ℕ → Option Held
record_at r None = None
record_at r (Some slot) = record_in r.seat.known.part.records slot
