use Rattle.std.proofs.Common.{below_more, arith}
use Rattle.std.proofs.lemmas.Option.{slice_get_within}
use Rattle.mont_check.proofs.line_answers.is_cut_by_any.Goals as goal

pub loop-by-preserved : goal.loop-by-preserved
loop-by-preserved c = below_more _ _ c.loop-by.invariant (λ cut. let no = c.if-was_cut_in.ensures.1 cut in absurd cc)

pub returns : goal.returns
returns c = (
  λ yes. absurd cc,
  λ some. absurd
      (c.loop-by.invariant some.0
      (let within = slice_get_within c.args.report.now.outcomes some.0 some.1.0 some.1.1 in omega arith) some.1),
)
