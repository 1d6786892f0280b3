use Rattle.std.proofs.Common.{◌++◌, ◌∷◌, [], length, take, ap, ◌∙◌, arith, length-append}
use Rattle.std.specs.Iterator.Adapters.{take_source, take_count}
use Rattle.plain.proofs.Ranges.{Entry, took}
use Rattle.plain.proofs.map_state.MapState.range.Goals as goal

pub loop-key-preserved : goal.loop-key-preserved
loop-key-preserved c =
    let e : Entry = (c.in-Some.key.now, c.in-Some.value.now) in
    let pairs = c.loop-key.pairs in
    let it = c.loop-key.key-iterator in
    let next = c.next.new.self in
    record {
      room = omega (arith, ap length c.push.ensures, length-append pairs (e ∷ []), c.in-Some.ensures.steps.1, c.loop-key.invariant.room);
      first = ap (λ ps. ps ++ take (take_count next) (take_source next)) c.push.ensures
          ∙ took pairs e (take_count it) (take_count next) (take_source it) (take_source next)
          c.in-Some.ensures.steps.1 c.in-Some.ensures.steps.0
          ∙ c.loop-key.invariant.first;
    }
