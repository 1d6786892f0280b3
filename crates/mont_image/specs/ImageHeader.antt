-- The first five words of an image's text.
use Rattle.std.specs.Prelude.{◌≤◌}
use Rattle.mont_base.specs.declared.constants.TheConstants.{FIRST_CLOCK, LAST, LEAST_SLOTS, MOST_SLOTS}
use Rattle.mont_image.specs.declared.image_text.Header.{Header}
use Rattle.mont_image.specs.ImageText.{most_units}

-- each word is in its range
pub record IsHeader (h : Header) : Type 0 where
  pub some_units : 1 ≤ h.units
  pub few_units : h.units ≤ most_units h.version
  pub some_slots : LEAST_SLOTS ≤ h.slots
  pub few_slots : h.slots ≤ MOST_SLOTS
  pub clock_begun : FIRST_CLOCK ≤ h.clock
  pub clock_last : h.clock ≤ LAST
