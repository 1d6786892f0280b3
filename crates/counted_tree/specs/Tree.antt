-- The items of a node in order, and what holds of each node.
use Rattle.std.specs.Prelude.{◌≡◌, List, [], ◌∷◌, ◌++◌, length}
use Rattle.counted_tree.specs.declared.tree.Node.{Node}
use Rattle.counted_tree.specs.declared.tree.Node.TheVariants.{Leaf, Fork}
use Rattle.counted_tree.specs.Balance.{IsBalanced}

abbrev pub items : {T : Type 0} → Node T → List T
items Leaf = []
items (Fork b) = b.value.left ++ b.value.item ∷ b.value.right

-- it counts its items, and is balanced
abbrev pub IsCounted : {T : Type 0} → Node T → Type 0
IsCounted Leaf = Unit {0}
IsCounted (Fork b) =
    (b.value.count ≡ length (b.value.left ++ b.value.item ∷ b.value.right))
    × IsBalanced (length b.value.left) (length b.value.right)
