-- What a run of a job on what an image holds comes to.
use Rattle.std.specs.Prelude.{◌≡◌, ◌≢◌, ℕ, List}
use Rattle.image_units.specs.declared.recovery_refusal.RecoverRefusal.TheVariants as images
use Rattle.job_text.specs.declared.job.Job.{Job}
use Rattle.mont_base.specs.Layout.{Shape}
use Rattle.mont_image.specs.ImageText.{ImageParts}
use Rattle.store.specs.MapBoxes.{HaveEmptyBoxes, IsFirstLack}
use Rattle.job_store.specs.declared.resume_refusal.ResumeRefusal.{ResumeRefusal}
use Rattle.job_store.specs.declared.resume_refusal.ResumeRefusal.TheVariants.{Image, OtherLayout, Index, Memory}
use Rattle.job_store.specs.declared.whole_run.WholeRun.{WholeRun}
use Rattle.job_store.specs.ImageNow.{AreWordsNow, IsAccepted, IsRefused}
use Rattle.job_store.specs.WholeRun.{IsRunFrom}

-- a run on a store that opened with what recovery finds in the image, as it is now
pub record IsRunAfter (j : Job) (p : ImageParts) (w : WholeRun) : Type 0 where
  pub now : List ℕ
  pub words : AreWordsNow p now
  pub run : IsRunFrom j now w

-- recovery accepts the image, and it is of the job's layout
pub record Fits (j : Job) (p : ImageParts) : Type 0 where
  pub accepted : IsAccepted p
  pub layout : p.layout ≡ j.layout

-- So it may be run, with boxes of so many keys.
pub record MayBeResumed (j : Job) (p : ImageParts) (boxes : List ℕ) : Type 0 where
  pub fits : Fits j p
  pub boxed : HaveEmptyBoxes j.layout boxes

-- the image is another layout's, which it tells
pub record IsOfOther (j : Job) (p : ImageParts) (layout : Shape) : Type 0 where
  pub accepted : IsAccepted p
  pub told : layout ≡ p.layout
  pub differs : layout ≢ j.layout

-- The first of these that holds: the image is refused, or is of another layout, or a map unit has
-- no empty box. Memory may run out at any time.
abbrev pub RefusesResume : Job → ImageParts → List ℕ → ResumeRefusal → Type 0
RefusesResume j p boxes (Image why) = (why ≢ images.Memory) × IsRefused p why
RefusesResume j p boxes (OtherLayout layout) = IsOfOther j p layout
RefusesResume j p boxes (Index unit len) = Fits j p × IsFirstLack j.layout boxes unit len
RefusesResume j p boxes Memory = Unit {0}
