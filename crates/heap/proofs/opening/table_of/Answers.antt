use Rattle.std.proofs.Common.{◌*◌, [], replicate, ap, sym, ◌∙◌}
use Rattle.heap_rule.specs.Views.{listing}
use Rattle.heap_rule.specs.declared.rule.Opening.{Opening}
use Rattle.heap.proofs.FirstState.{opens}
use Rattle.heap.proofs.FirstWords.{heap_is}
use Rattle.heap.proofs.opening.table_of.Goals as goal

pub new-requires : goal.new-requires
new-requires c =
    opens _ _ _ c.requires.well_formed c.requires.laid
    (c.in_ok-lists.ensures ∙ (λ j. replicate (2 * c.units.ensures.value j) (listing (c.slots.ensures.value j) [])))

pub invariant_of-result : goal.invariant_of-result
invariant_of-result c =
    let made = c.in-Ok.ensures.ok in
    heap_is _ _ c.args.opening.now.layout c.args.opening.now.words c.args.words.now
    c.in_ok-lists.lists.items c.args.opening.now.layout.slots
    (sym (ap (λ (o : Opening). o.layout) made.5)) made.0 made.1 c.requires.laid
    c.requires.well_formed.size
    (c.in_ok-lists.ensures ∙ (λ j. replicate (2 * c.units.ensures.value j) (listing (c.slots.ensures.value j) [])))
