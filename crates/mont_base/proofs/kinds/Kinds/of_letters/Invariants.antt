use Rattle.std.proofs.Common.{◌≡◌, ◌-◌, length, take, replicate, drop}
use Rattle.mont_base.specs.declared.constants.TheConstants.{MOST_UNITS}
use Rattle.mont_base.specs.declared.kinds.UnitKind.TheVariants as kinds
use Rattle.mont_base.specs.Layout.{letters_of}
use Rattle.mont_base.proofs.kinds.Kinds.of_letters.Given as goal

-- the letters so far are read, and maps stand after
abbrev pub invariant-loop-unit : goal.invariant-loop-unit
invariant-loop-unit l = record {
  long : length l.of_units ≡ MOST_UNITS;
  spelled : letters_of (take l.unit l.of_units) ≡ take l.unit l.letters;
  behind : drop l.unit l.of_units ≡ replicate (MOST_UNITS - l.unit) kinds.Map;
}
