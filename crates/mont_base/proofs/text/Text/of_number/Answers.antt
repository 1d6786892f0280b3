use Rattle.std.proofs.Common.{refl, ◌-◌, length-set, ◌∙◌, arith}
use Rattle.mont_base.proofs.Digits.{decimal_split, place_left, digit_more}
use Rattle.mont_base.proofs.text.Text.of_number.Goals as goal

pub loop-left-init : goal.loop-left-init
loop-left-init c = record {
  long = refl;
  inside = omega arith;
  written = decimal_split c.args.number c.last_digit.result c.ranges.number.fits c.last_digit.ensures;
}

pub overflow_sub-at-in-loop-left : goal.overflow_sub-at-in-loop-left
overflow_sub-at-in-loop-left c =
    let is = c.loop-left.invariant in
    place_left c.args.number c.loop-left.left c.loop-left.at 0 c.loop-left.digits c.ranges.number.fits (omega arith) c.loop-left-test.true
    is.long is.inside is.written

pub loop-left-preserved : goal.loop-left-preserved
loop-left-preserved c =
    let is = c.loop-left.invariant in
    record {
      long = length-set c.loop-left.digits (c.loop-left.at - 1) c.last_digit-in-loop-left.result ∙ is.long;
      inside = omega arith;
      written =
          digit_more c.args.number c.loop-left.left c.loop-left.at c.last_digit-in-loop-left.result c.loop-left.digits c.ranges.number.fits
          (omega arith) c.loop-left-test.true is.long is.inside is.written c.last_digit-in-loop-left.ensures;
    }
