-- What is planned of a graph operation.
use Rattle.std.specs.Prelude.{ℕ, Option, None, Some, option_map}
use Rattle.std.specs.FinMap as finite
use Rattle.mont_base.specs.declared.operation.Op.{Op}
use Rattle.mont_base.specs.declared.operation.Op.TheVariants as ops
use Rattle.mont_base.specs.declared.operation.Reply.{Reply}
use Rattle.mont_base.specs.declared.operation.Reply.TheVariants.{Nothing, Was, Count}
use Rattle.mont_base.specs.State.{earlier}
use Rattle.pgraph.specs.declared.graph_edit.GraphEdit.TheVariants.{Keep, Set, Remove}
use Rattle.pgraph.specs.declared.graph_plan.GraphPlan.{GraphPlan}
use Rattle.pgraph.specs.declared.node.Name.{Name}
use Rattle.pgraph.specs.declared.node.Node.{Node}
use Rattle.pgraph.specs.GraphIndex.{Nodes, degree_of}

-- the attribute that was there
abbrev pub earlier_of : Option Node → Reply
earlier_of was = earlier (option_map (λ (n : Node). n.attribute) was)

abbrev pub counted : Option ℕ → Reply
counted None = Nothing
counted (Some number) = Count number

-- what an operation is answered that sets and removes nothing
abbrev pub looked_up : Nodes → Op → Reply
looked_up nodes (ops.Vertex unit vertex) = earlier_of (finite.get nodes.vertices vertex)
looked_up nodes (ops.Degree unit vertex) = counted (degree_of nodes vertex)
looked_up nodes _ = Nothing

-- only an answer
abbrev pub answering : Reply → GraphPlan
answering reply = record { reply = reply; edit = Keep }

-- a vertex or an edge is set, which was there or wasn't
abbrev pub setting_plan : Name → ℕ → Option Node → GraphPlan
setting_plan name attribute was =
    record { reply = earlier_of was; edit = Set name attribute was }

-- it goes, if it was there
abbrev pub removing_plan : Name → Option Node → GraphPlan
removing_plan name None = answering Nothing
removing_plan name (Some node) =
    record { reply = Was node.attribute; edit = Remove name node }
