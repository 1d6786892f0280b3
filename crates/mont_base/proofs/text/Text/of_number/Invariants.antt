use Rattle.std.proofs.Common.{◌≡◌, ◌<◌, ◌++◌, length, drop}
use Rattle.std.specs.Fmt.{decimal}
use Rattle.mont_base.specs.TextDigits.{front_digits}
use Rattle.mont_base.proofs.text.Text.of_number.Given as goal

-- the digits that are written, after those that are left to write
abbrev pub invariant-loop-left : goal.invariant-loop-left
invariant-loop-left l = record {
  long : length l.digits ≡ 20;
  inside : l.at < 20;
  written : decimal l.number ≡ front_digits l.left ++ drop l.at l.digits;
}

abbrev pub decreases-loop-left : goal.decreases-loop-left
decreases-loop-left l = l.left
