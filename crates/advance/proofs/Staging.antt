-- What an advancer keeps beside its seat while its flush has not begun.
use Rattle.std.proofs.Common.{◌≡◌, ℕ, Bool, true, false, refl, subst}
use Rattle.core_steps.specs.declared.parts.AdvPart.{AdvPart}
use Rattle.core_steps.specs.declared.parts.AdvPart.TheVariants as parts
use Rattle.core_steps.specs.Advancing.{is_clocked}
use Rattle.heap_rule.specs.declared.views.AdvKnown.{AdvKnown}
use Rattle.heap_rule.specs.Views.{full_rest}
use Rattle.write_back.specs.declared.flush.Flush.{Flush}
use Rattle.write_back.specs.Flush.{is_flushing}
use Rattle.advance.specs.declared.stage.AdvStage.{AdvStage}
use Rattle.advance.specs.Stage.{HasNotBegun, FlushFitsPart, FitsSeat}

module _ (units clock : ℕ) (stage : AdvStage) (f : Flush) (a : AdvKnown) (s : FitsSeat units clock stage f a) where
  pub not_begun : is_flushing a.part ≡ false → HasNotBegun f a
  not_begun e = subst (λ (b : Bool). FlushFitsPart b f a) e s.flush_fits

  -- where the clock has moved, no list is out
  pub clocked_rests : is_clocked a.part ≡ true → a.turn ≡ full_rest
  clocked_rests clocked = (not_begun (by a.part clocked)).turn
    where
      by : (p : AdvPart) → is_clocked p ≡ true → is_flushing p ≡ false
      by parts.Rest e = absurd (cc)
      by (parts.Checking i) e = absurd (cc)
      by (parts.Flushing d g) e = absurd (cc)
      by (parts.Holding d g v) e = absurd (cc)
      by parts.Clocked e = refl
