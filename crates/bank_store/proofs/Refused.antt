-- Recovery refuses an image that it accepts for want of memory alone.
use Rattle.std.proofs.Common.{◌≡◌, ℕ, List, refl}
use Rattle.mont_base.specs.Image.{IsWellFormed}
use Rattle.mont_base.specs.Layout.{Shape}
use Rattle.image_units.specs.declared.recovery_refusal.RecoverRefusal.{RecoverRefusal}
use Rattle.image_units.specs.declared.recovery_refusal.RecoverRefusal.TheVariants.{Slot, Twice, Object, Memory}
use Rattle.image_units.specs.FirstRefusal.{IsFirstRefusal}
use Rattle.image_units.proofs.Accepted.{malformed}

pub only_memory : (s : Shape) (image : List ℕ) (why : RecoverRefusal) → IsFirstRefusal s image why → IsWellFormed s image → why ≡ Memory
only_memory s image (Slot slot fault) first well = absurd (malformed s image (Slot slot fault) (λ e. absurd (cc)) first well)
only_memory s image (Twice slot other) first well = absurd (malformed s image (Twice slot other) (λ e. absurd (cc)) first well)
only_memory s image (Object unit slot fault) first well = absurd (malformed s image (Object unit slot fault) (λ e. absurd (cc)) first well)
only_memory s image Memory first well = refl
