use Rattle.std.proofs.Common.{ℕ, List, length, set, get_or, ap, ◌∙◌, length-set, arith}
use Rattle.heap.proofs.ReadWords.{raised_next, all_raised}
use Rattle.heap.proofs.news.raise_each.Goals as goal

pub loop-place-preserved : goal.loop-place-preserved
loop-place-preserved c =
    let i = c.loop-place.invariant in
    let place = c.loop-place.place in
    let same = c.requires in
    let end = c.len-place-end.ensures in
    let before = c.loop-place-test.true in
    record {
      as_long = ap length c.set.ensures ∙ (length-set c.loop-place.numbers place c.max.result ∙ i.as_long);
      raised = raised_next c.args.numbers.now c.args.others.now c.loop-place.numbers c.set.new.self place _ _ same
          (omega (arith, same, end, before)) i.raised
          (ap (λ (l : List ℕ). get_or l place 0) c.as_slice.ensures)
          (ap (λ (l : List ℕ). get_or l place 0) c.as_slice-in-loop-place.ensures)
          (c.set.ensures ∙ ap (λ (x : ℕ). set c.loop-place.numbers place x) c.max.ensures);
    }

pub returns : goal.returns
returns c =
    let i = c.loop-place.invariant in
    let end = c.len-place-end.ensures in
    let before = c.loop-place.auto.place-end in
    let behind = c.loop-place-test.false in
    all_raised c.args.numbers.now c.args.others.now c.loop-place.numbers c.loop-place.place (omega (arith, end, before, behind)) c.requires
    i.raised
