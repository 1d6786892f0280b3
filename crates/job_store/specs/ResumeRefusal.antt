-- Which refusal of a run on what an image holds one of a layer below becomes.
use Rattle.image_units.specs.declared.recovery_refusal.RecoverRefusal.{RecoverRefusal}
use Rattle.image_units.specs.declared.recovery_refusal.RecoverRefusal.TheVariants as images
use Rattle.store.specs.declared.open_refusal.OpenRefusal.{OpenRefusal}
use Rattle.store.specs.declared.open_refusal.OpenRefusal.TheVariants as openings
use Rattle.job_store.specs.declared.resume_refusal.ResumeRefusal.{ResumeRefusal}
use Rattle.job_store.specs.declared.resume_refusal.ResumeRefusal.TheVariants.{Image, Index, Memory}

abbrev pub of_image : RecoverRefusal → ResumeRefusal
of_image images.Memory = Memory
of_image (images.Slot slot fault) = Image (images.Slot slot fault)
of_image (images.Twice slot other) = Image (images.Twice slot other)
of_image (images.Object unit slot fault) = Image (images.Object unit slot fault)

abbrev pub of_opening : OpenRefusal → ResumeRefusal
of_opening (openings.Index unit len) = Index unit len
of_opening openings.Memory = Memory
