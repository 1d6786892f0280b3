use Rattle.std.proofs.Common.{◌≡◌, ◌+◌, List, length, take, get_or, subst, sym, ap, ◌∙◌, arith, length-take}
use Rattle.std.proofs.lemmas.List.{get_or_push}
use Rattle.plain.specs.States.{state_of}
use Rattle.mont_check.specs.declared.points.Point.{Point}
use Rattle.mont_check.specs.Points.{ArePoints, IsNextPoint}
use Rattle.mont_check.specs.Walk.{Facts, facts_after, facts_of}
use Rattle.mont_check.proofs.PointLaws.{points_more}
use Rattle.mont_check.proofs.WalkLaws.{facts_more}
use Rattle.mont_check.proofs.points.points_of.Goals as goal

pub loop-entry-preserved : goal.loop-entry-preserved
loop-entry-preserved c =
    let base = state_of c.args.base.now in
    let h = c.args.history.now in
    let i = c.loop-entry.entry-index in
    let old = c.loop-entry.last in
    let new = c.in_ok-last-2.last in
    let before = c.loop-entry.invariant in
    let walked : facts_of c.pass.new.self ≡ facts_after 0 (state_of c.args.base.now)
    (take (c.loop-entry.entry-index + 1) c.args.history.now) =
    facts_more 0 (state_of c.args.base.now) c.args.history.now c.loop-entry.entry-index c.entry-item.result (facts_of c.loop-entry.walk)
    (facts_of c.pass.new.self) c.loop-entry-test.true c.entry-item.is before.walked c.in_ok-pass.ensures in
    let many : length c.loop-entry.points.items ≡ c.loop-entry.entry-index + 1 =
    (let as_many = before.are.as_many in let below = c.loop-entry-test.true in
    omega (arith, length-take c.loop-entry.entry-index c.args.history.now)) in
    let more =
    points_more (state_of c.args.base.now) c.args.history.now c.loop-entry.points.items c.loop-entry.entry-index c.loop-entry.last
    c.in_ok-last-2.last
    c.loop-entry-test.true before.are before.last
    (subst (λ (f : Facts). IsNextPoint f c.loop-entry.last.live c.loop-entry.last.taken c.in_ok-last-2.last) walked
    c.in_ok-last-2.ensures) in
    record {
      walked = walked;
      are =
          subst (ArePoints (state_of c.args.base.now) (take (c.loop-entry.entry-index + 1) c.args.history.now))
          (sym c.in_ok-push-2.ensures.items) more;
      last =
          ap (λ (ps : List Point). get_or ps (c.loop-entry.entry-index + 1) c.in_ok-last-2.last) c.in_ok-push-2.ensures.items
          ∙ get_or_push c.loop-entry.points.items c.in_ok-last-2.last c.in_ok-last-2.last (c.loop-entry.entry-index + 1) many;
    }
