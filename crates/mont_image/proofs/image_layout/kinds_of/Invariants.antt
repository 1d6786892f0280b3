use Rattle.std.proofs.Common.{◌≡◌, length, take, map}
use Rattle.std.specs.Int.{w64, from_le_bytes}
use Rattle.mont_base.specs.declared.constants.TheConstants.{MOST_UNITS}
use Rattle.mont_image.proofs.Codes.{AreAlike}
use Rattle.mont_image.proofs.image_layout.kinds_of.Given as goal

-- the letters so far are those of the codes
abbrev pub invariant-loop-unit : goal.invariant-loop-unit
invariant-loop-unit l = record {
  long : length l.letters ≡ MOST_UNITS;
  alike : AreAlike (map (from_le_bytes w64) (take l.unit l.words)) (take l.unit l.letters);
}
