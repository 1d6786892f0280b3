use Rattle.old_image.proofs.MigratedUnits.{refused_old_images_are_malformed}
use Rattle.old_image.proofs.migration.refused_old_images_are_malformed.Goals as goal

pub returns : goal.returns
returns c = refused_old_images_are_malformed
