use Rattle.std.proofs.Common.{◌≡◌, length, take, map}
use Rattle.mont_base.specs.declared.constants.TheConstants.{MOST_UNITS}
use Rattle.mont_base.specs.Layout.{code_of}
use Rattle.mont_image.proofs.image_writer.write_codes.Given as goal

-- the codes so far are those of the kinds
abbrev pub invariant-loop-unit : goal.invariant-loop-unit
invariant-loop-unit g l = record {
  long : length l.codes ≡ MOST_UNITS;
  told : take l.unit l.codes ≡ map code_of (take l.unit l.kinds);
}
