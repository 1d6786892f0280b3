use Rattle.std.proofs.Common.{◌∙◌, ◌+◌, ◌<◌, ◌≤◌, false, length, take, refl, sym, arith, below_more}
use Rattle.std.specs.Prelude.{IsTrue}
use Rattle.plain.specs.States.{state_of}
use Rattle.job_text.specs.PlainReport.{report_of}
use Rattle.report_check.proofs.WalkedEntries.{HasWalked, all_fronts, at_place, needs_follow, needs_reply, needs_run, walked_hold, walked_more, walked_on}
use Rattle.report_check.proofs.failing_entry.first_apart.Goals as goal

pub returns-then-not-may_follow : goal.returns-then-not-may_follow
returns-then-not-may_follow c =
    let r = report_of c.args.report.now in
    let base = state_of c.args.base.now in
    let beside = c.args.runs.now in
    let h = c.args.entries.now in
    let i = c.loop-place.place in
    let e = c.index-entries-place.result in
    let inside : i < length h = omega arith in
    record {
      before = c.loop-place.invariant.below;
      fails = λ holds.
          let with_it = at_place r c.args.unit base beside h i e inside c.index-entries-place.is holds in
          let t : IsTrue false =
          c.if-not-may_follow.ensures.1
          (needs_follow r c.args.unit base beside (take i h) _ _ _ c.loop-place.invariant.walked e with_it) in
          absurd cc;
    }

pub returns-in_default : goal.returns-in_default
returns-in_default c =
    let r = report_of c.args.report.now in
    let base = state_of c.args.base.now in
    let beside = c.args.runs.now in
    let h = c.args.entries.now in
    let i = c.loop-place.place in
    let e = c.index-entries-place.result in
    let inside : i < length h = omega arith in
    record {
      before = c.loop-place.invariant.below;
      fails = λ holds.
          let with_it = at_place r c.args.unit base beside h i e inside c.index-entries-place.is holds in
          let run = needs_run r c.args.unit base beside (take i h) _ _ _ c.loop-place.invariant.walked e with_it in
          c.in_default.ensures run.0 run.1;
    }

pub returns-then-not-same_reply : goal.returns-then-not-same_reply
returns-then-not-same_reply c =
    let r = report_of c.args.report.now in
    let base = state_of c.args.base.now in
    let beside = c.args.runs.now in
    let h = c.args.entries.now in
    let i = c.loop-place.place in
    let e = c.index-entries-place.result in
    let inside : i < length h = omega arith in
    record {
      before = c.loop-place.invariant.below;
      fails = λ holds.
          let with_it = at_place r c.args.unit base beside h i e inside c.index-entries-place.is holds in
          let t : IsTrue false =
          c.if-not-same_reply.ensures.1
          (needs_reply r c.args.unit base beside (take i h) _ _ _ c.loop-place.invariant.walked e with_it
          ∙ sym c.in_ok-reply.ensures.reply) in
          absurd cc;
    }

pub loop-place-preserved : goal.loop-place-preserved
loop-place-preserved c =
    let r = report_of c.args.report.now in
    let base = state_of c.args.base.now in
    let beside = c.args.runs.now in
    let h = c.args.entries.now in
    let i = c.loop-place.place in
    let e = c.index-entries-place.result in
    let inside : i < length h = omega arith in
    let walked : HasWalked r c.args.unit base beside (take (i + 1) h) (state_of c.apply.new.self) e.epoch c.in-Some.behind.now =
    walked_on r c.args.unit base beside h i e inside c.index-entries-place.is _ _ _
    (walked_more r c.args.unit base beside (take i h) _ _ _ c.loop-place.invariant.walked e c.in-Some.behind.now c.in_ok-reply.reply
    (state_of c.apply.new.self) (c.if-not-may_follow.ensures.0 refl) c.in-Some.ensures c.in_ok-reply.ensures.reply
    (c.if-not-same_reply.ensures.0 refl) c.in_ok-reply.ensures.state) in
    record {
      walked = walked;
      below = below_more _ _ c.loop-place.invariant.below (walked_hold r c.args.unit base beside (take (i + 1) h) _ _ _ walked);
    }

pub returns : goal.returns
returns c =
    let r = report_of c.args.report.now in
    let base = state_of c.args.base.now in
    let beside = c.args.runs.now in
    let h = c.args.entries.now in
    let i = c.loop-place.place in
    let past : length h ≤ i = omega arith in
    all_fronts r c.args.unit base beside h i past
    (walked_hold r c.args.unit base beside (take i h) _ _ _ c.loop-place.invariant.walked) c.loop-place.invariant.below
