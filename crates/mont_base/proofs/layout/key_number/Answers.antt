use Rattle.std.proofs.Common.{◌+◌, ◌*◌, ◌%◌, take, sym, ap, ◌∙◌, arith}
use Rattle.mont_base.specs.Layout.{key_number}
use Rattle.mont_base.proofs.KeyNumbers.{number_of_one, number_more}
use Rattle.mont_base.proofs.layout.key_number.Goals as goal

pub returns-then-maps-eq1-clause-number : goal.returns-then-maps-eq1-clause-number
returns-then-maps-eq1-clause-number c =
    sym (ap (λ maps. key_number maps c.args.key.now) c.if-maps-eq1.true ∙ number_of_one c.args.key.now)

pub loop-byte-preserved : goal.loop-byte-preserved
loop-byte-preserved c = record {
  spelled = c.loop-byte.invariant.spelled;
  number =
      ap (λ digit. (c.shortened.result * 10 + digit) % c.args.maps) c.digit_of.ensures
      ∙ number_more c.args.maps (take c.len.result c.held-held.result) c.loop-byte.byte-index c.loop-byte.number c.shortened.result
      (omega arith) c.loop-byte.invariant.number c.shortened.ensures.same;
}
