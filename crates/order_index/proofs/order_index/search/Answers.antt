use Rattle.std.proofs.Common.{sym, ◌∙◌}
use Rattle.order_index.proofs.Listed.{held_at, missing_at, missing_past}
use Rattle.order_index.proofs.order_index.search.Goals as goal

pub returns-in-Some : goal.returns-in-Some
returns-in-Some c =
    let behind = c.count_below-at.ensures.value c.requires in
    held_at _ c.requires c.args.key _ behind c.in-Some.entry.now c.in-Some.ensures (sym c.if-eq.true ∙ c.eq.ensures)

pub returns-in_default : goal.returns-in_default
returns-in_default c =
    let behind = c.count_below-at.ensures.value c.requires in
    let within = c.count_below-at.ensures.bound in
    missing_at _ c.requires c.args.key _ behind within c.in-Some.entry.now c.in-Some.ensures (sym c.if-eq.false ∙ c.eq.ensures)

pub returns-in_default-2 : goal.returns-in_default-2
returns-in_default-2 c =
    let behind = c.count_below-at.ensures.value c.requires in
    missing_past _ c.requires c.args.key _ behind c.count_below-at.ensures.bound (rw c.in_default.is at c.get.ensures)
