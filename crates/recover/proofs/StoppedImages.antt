-- Images that recovery accepts are refused for memory alone.
use Rattle.std.proofs.Common.{ℕ, List, refl}
use Rattle.mont_base.specs.Image.{IsWellFormed}
use Rattle.mont_base.specs.Layout.{Shape}
use Rattle.image_units.specs.declared.recovery_refusal.RecoverRefusal.TheVariants.{Slot, Twice, Object, Memory}
use Rattle.image_units.proofs.Accepted.{malformed}
use Rattle.recover.specs.StoppedImages.{IsRefusedForMemory, StoppedStoresAreRecovered, SweptStoresAreRecovered}

for_memory : (s : Shape) (image : List ℕ) → IsWellFormed s image → IsRefusedForMemory s image
for_memory s image well (Slot slot fault) is = absurd (malformed s image (Slot slot fault) (λ e. absurd (cc)) is well)
for_memory s image well (Twice slot other) is =
    absurd (malformed s image (Twice slot other) (λ e. absurd (cc)) is well)
for_memory s image well (Object unit slot fault) is =
    absurd (malformed s image (Object unit slot fault) (λ e. absurd (cc)) is well)
for_memory s image well Memory is = refl

pub stopped_stores_are_recovered : StoppedStoresAreRecovered
stopped_stores_are_recovered s clock base callers t image is permitted = for_memory s image (is.images image permitted).accepted

pub swept_stores_are_recovered : SweptStoresAreRecovered
swept_stores_are_recovered s opened image is = for_memory s image is.accepted
