use Rattle.std.proofs.Common.{rules, Option, [], ◌∷◌, ◌++◌, ◌≡◌, ◌+◌, ◌-◌, ◌<◌, arith, length, sym, ap, subst, length-append}
use Rattle.mont_base.specs.State.{Key, Value}
use Rattle.shard_map.specs.MapShard.{MapShown, IsMapUnit}
use Rattle.pordered.specs.OrderedRuns.{HasPairAt}
use Rattle.pordered.proofs.RangeWalk.{next_pair, no_gap, all_pairs}
use Rattle.pordered.proofs.pordered.POrdered.pairs.Goals as goal
use Rattle.pordered.proofs.pordered.POrdered.pairs.Goals.{After-stretch-stretch, in-Some, in_default}

-- the unit, by what its index shows
indexed : (c : After-stretch-stretch) → IsMapUnit c.args.self.now.region c.index.result.now.places
indexed c = subst (λ (m : MapShown). IsMapUnit m.region c.index.result.now.places) c.self.view_is
    (subst (IsMapUnit c.self.inside.unit.region) (sym c.index.ensures.index) c.index.ensures.unit)

-- what stands at the next place
next : (c : goal.Joined-pair_at) (pair : Option (Key × Value)) → c.pair_at.result ≡ pair
    → HasPairAt c.args.self.now.region (c.stretch-stretch.result.first + c.loop-number.number) pair
next c pair is = subst (λ (m : MapShown). HasPairAt m.region (c.stretch-stretch.result.first + c.loop-number.number) pair) c.self.view_is
    (subst (HasPairAt c.self.inside.unit.region (c.stretch-stretch.result.first + c.loop-number.number)) is c.pair_at.ensures)

-- it is one of the range
low : (c : goal.Joined-pair_at) → c.loop-number.number < c.stretch-stretch.result.behind - c.stretch-stretch.result.first
low c =
    let number = c.len.ensures in
    let end = c.min-number-end.ensures in
    let inside = c.loop-number-test.true in
    omega arith

pub loop-number-preserved : goal.loop-number-preserved
loop-number-preserved c =
    let unit = indexed (goal.at.loop-number-preserved c).After-stretch-stretch in
    elim c.match-pair_at.branch [
      | in-Some w ↦
          let is : c.match-pair_at.pairs ≡ c.loop-number.pairs ++ (w.in-Some.key, w.in-Some.value) ∷ [] = search rules in
          let few = c.loop-number.invariant.few in
          record {
            few = let one = ap length is in let more = length-append c.loop-number.pairs in grind (arith, length-append);
            first = next_pair c.args.self.now.region c.index.result.now.places unit c.requires.running c.args.from c.args.to
                c.stretch-stretch.result c.stretch-stretch.ensures c.loop-number.number c.loop-number.pairs c.match-pair_at.pairs
                (w.in-Some.key, w.in-Some.value) (low c) (next c _ w.in-Some.is) c.loop-number.invariant.first is;
          }
      | in_default w ↦ record {
        few = let few = c.loop-number.invariant.few in let same = ap length w.pairs-is in omega arith;
        first = λ pairs shown. absurd (no_gap c.args.self.now.region c.index.result.now.places unit c.requires.running
            c.args.from c.args.to c.stretch-stretch.result c.stretch-stretch.ensures c.loop-number.number (low c)
            (next c _ w.in_default.is) pairs shown);
      }
    ]

pub returns : goal.returns
returns c =
    all_pairs c.args.self.now.region c.index.result.now.places (indexed (goal.at.returns c).After-stretch-stretch) c.requires.running
    c.args.from c.args.to c.stretch-stretch.result c.stretch-stretch.ensures c.args.most c.loop-number.number c.loop-number.pairs
    (let number = c.len.ensures in
    let end = c.min-number-end.ensures in
    let done = c.loop-number-test.false in
    let within = c.loop-number.auto.number-end in
    omega arith) c.loop-number.invariant.first
