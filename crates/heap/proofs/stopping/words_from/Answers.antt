use Rattle.std.proofs.Common.{drop, ap, ◌∙◌, length, arith}
use Rattle.std.proofs.lemmas.List.{length-take}
use Rattle.heap.proofs.ReadWords.{word_more}
use Rattle.heap.proofs.stopping.words_from.Goals as goal

pub push_reserved-requires : goal.push_reserved-requires
push_reserved-requires c =
    let inv = c.loop-place.invariant in
    let long = ap length inv.0 in
    let few = length-take c.loop-place.place (drop c.args.first c.args.closed.now.words.items) in
    omega (arith, inv.1, long, few)

pub loop-place-preserved : goal.loop-place-preserved
loop-place-preserved c = (
  c.push_reserved.ensures.items
      ∙ word_more c.args.closed.now.words.items _ c.args.first c.loop-place.place _ c.loop-place.invariant.0 c.word.ensures,
  omega arith,
)
