use Rattle.std.proofs.Common.{◌≡◌, ℕ, ◌-◌, Option, length, get_or, refl, sym, ap, ◌∙◌, subst, arith, rules}
use Rattle.std.proofs.lemmas.List.{drop_all, get_or_default, length-set}
use Rattle.std.proofs.lemmas.Option.{slice_get_within}
use Rattle.job_text.specs.declared.outcome.Outcome.TheVariants.{At}
use Rattle.mont_check.specs.Ahead.{LowersPlace}
use Rattle.mont_check.specs.Bounds.{least}
use Rattle.mont_check.specs.Shown.{place_in}
use Rattle.mont_check.proofs.AheadLaws.{one_passed}
use Rattle.mont_check.proofs.ahead.places_ahead.Goals as goal

pub loop-passed-init : goal.loop-passed-init
loop-passed-init c =
    let os = c.args.outcomes.now in
    let many : length c.in_ok-ahead.ahead.items ≡ length os = omega (arith, c.in_ok-ahead.ensures.len) in
    record {
      as_many = many;
      each = λ i k a far line there. absurd (omega (arith, many, slice_get_within c.in_ok-ahead.ahead.items i a there));
      knows = λ unit. search rules ∙ sym (ap (least (place_in unit)) (drop_all (length os - 0) os (omega arith)));
    }

pub loop-passed-preserved : goal.loop-passed-preserved
loop-passed-preserved c =
    let os = c.args.outcomes.now in
    let before = c.loop-passed.invariant in
    let passed =
    one_passed c.args.layout c.args.lines.now os c.loop-passed.passed (length os - 1 - c.loop-passed.passed) c.loop-passed.ahead.items
    c.loop-passed.first c.lower.new.first c.index-lines-at.result (get_or os (length os - 1 - c.loop-passed.passed) (At 0 0))
    c.place_ahead.result
    c.loop-passed-test.true refl before.as_many before.each before.knows (omega arith) c.index-lines-at.is
    (get_or_default os (length os - 1 - c.loop-passed.passed) (At 0 0) (get_or os (length os - 1 - c.loop-passed.passed) (At 0 0))
    (omega arith))
    c.place_ahead.ensures
    (subst (λ (named : Option (ℕ × ℕ)). LowersPlace named c.loop-passed.first c.lower.new.first) c.place_of.ensures
    c.in_ok-lower.ensures) in
    record {
      as_many = length-set c.loop-passed.ahead.items (length os - 1 - c.loop-passed.passed) c.place_ahead.result ∙ before.as_many;
      each = passed.0;
      knows = passed.1;
    }
