use Rattle.std.proofs.Common.{◌≡◌, ◌∷◌, ◌++◌, length, sym, ap, ◌∙◌, arith}
use Rattle.counted_tree.specs.Tree.{items}
use Rattle.counted_tree.proofs.Parts.{set_left, set_right, set_here, get_left, get_right, get_here}
use Rattle.counted_tree.proofs.tree.Tree.+replace.Goals as goal
use Rattle.counted_tree.proofs.tree.Tree.+replace.Goals.{then-at-before, else-at-before+then-at-before-2, else-at-before+else-at-before-2}

pub returns-clause-set : goal.returns-clause-set
returns-clause-set g t c =
    let b = c.in-Fork.branch.value in
    let at = c.args.at in
    let z = c.args.item in
    let is : c.args.self.now ≡ b.left ++ b.item ∷ b.right = sym c.self.view_is ∙ ap items c.in-Fork.is in
    let many : c.len-before.result ≡ length b.left = cc (c.len-before.ensures, c.deref.ensures) in
    elim c.if-at-before.branch [
      | then-at-before w ↦
          grind (arith, w.self-inside-is, w.replace.ensures.set, set_left b.item b.left b.right at z)
      | else-at-before+then-at-before-2 w ↦
          grind (arith, w.self-inside-is, w.replace-then-at-before-2.ensures.set, set_right b.item b.left b.right at z)
      | else-at-before+else-at-before-2 w ↦
          grind (arith, w.self-inside-is, set_here b.item b.left b.right at z)
    ]

pub returns-clause-earlier : goal.returns-clause-earlier
returns-clause-earlier g t c =
    let b = c.in-Fork.branch.value in
    let at = c.args.at in
    let is : c.args.self.now ≡ b.left ++ b.item ∷ b.right = sym c.self.view_is ∙ ap items c.in-Fork.is in
    let many : c.len-before.result ≡ length b.left = cc (c.len-before.ensures, c.deref.ensures) in
    elim c.if-at-before.branch [
      | then-at-before w ↦
          grind (arith, w.result-is, w.replace.ensures.earlier, get_left b.item b.left b.right at)
      | else-at-before+then-at-before-2 w ↦
          grind (arith, w.result-is, w.replace-then-at-before-2.ensures.earlier, get_right b.item b.left b.right at)
      | else-at-before+else-at-before-2 w ↦
          grind (arith, w.result-is, get_here b.item b.left b.right at)
    ]
