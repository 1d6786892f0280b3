use Rattle.std.proofs.Common.{get_or, sym, subst, ◌∙◌, rules}
use Rattle.std.specs.BTreeMap.{values}
use Rattle.mont_base.specs.declared.effect.Effect.{Effect}
use Rattle.mont_base.specs.declared.record.Held.{Held}
use Rattle.mont_laws.specs.Effects.{IsEffect}
use Rattle.core_answer.proofs.NewestRecords.{no_record}
use Rattle.core_answer.proofs.Zips.{zip_length, zip_at, zip_more}
use Rattle.replay.proofs.effects_written.are_effects.Goals as goal

pub returns-then-effects-written : goal.returns-then-effects-written
returns-then-effects-written c =
    let Is : Effect → Held → Type 0 = IsEffect c.args.unit (values c.args.newest.now.records) in
    (λ t. absurd (cc), λ all. absurd (c.if-effects-written.true (zip_length Is c.args.effects.now c.args.written.now all)))

pub returns-then-not-is_effect : goal.returns-then-not-is_effect
returns-then-not-is_effect c =
    let Is : Effect → Held → Type 0 = IsEffect c.args.unit (values c.args.newest.now.records) in (
      λ t. absurd (cc),
      λ all. sym c.if-not-is_effect.true
          ∙ c.is_effect.ensures.1
          (subst (λ (x : Effect). Is x (get_or c.args.written.now c.loop-at.at no_record)) (sym c.index-effects-at.is)
          (zip_at Is c.args.effects.now c.args.written.now c.loop-at.at c.index-effects-at.result no_record all (search rules))),
    )

pub loop-at-preserved : goal.loop-at-preserved
loop-at-preserved c =
    let Is : Effect → Held → Type 0 = IsEffect c.args.unit (values c.args.newest.now.records) in
    zip_more Is c.args.effects.now c.args.written.now c.loop-at.at c.index-effects-at.result no_record (search rules) c.loop-at-test.true
    c.loop-at.invariant
    (subst (λ (x : Effect). Is x (get_or c.args.written.now c.loop-at.at no_record)) c.index-effects-at.is
    (c.is_effect.ensures.0 c.if-not-is_effect.false))
