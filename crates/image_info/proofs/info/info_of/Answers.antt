use Rattle.std.proofs.Common.{ℕ, ◌-◌, ◌≤◌, length, List, sym, ap, ◌∙◌, subst}
use Rattle.std.specs.Prelude.{slice_index}
use Rattle.mont_base.specs.declared.constants.TheConstants.{LAST}
use Rattle.mont_base.specs.Image.{clock_of}
use Rattle.mont_image.specs.ImageReader.{parts_of}
use Rattle.mont_image.specs.ImageText.{IsTextOf, words_in}
use Rattle.image_units.specs.Found.{all_records}
use Rattle.image_info.specs.AllFaults.{all_faults}
use Rattle.image_info.specs.EpochCounts.{AreEpochs}
use Rattle.image_info.specs.UnitCounts.{AreAllCounts}
use Rattle.image_info.proofs.Accepted.{told_of_accepted}
use Rattle.image_info.proofs.Versions.{version_told}
use Rattle.image_info.proofs.Widened.{wide_last, wide_size}
use Rattle.image_info.proofs.info.info_of.Goals as goal

pub all_records-requires-clause-size : goal.all_records-requires-clause-size
all_records-requires-clause-size c =
    let image = c.in_ok-image.image in
    ap (λ (ws : List ℕ). length ws) (c.deref-2.ensures.value ∙ c.in_ok-wide.ensures)
    ∙ wide_size image.old image.layout image.words image.kept

pub all_records-requires-clause-clock : goal.all_records-requires-clause-clock
all_records-requires-clause-clock c =
    let image = c.in_ok-image.image in
    subst (λ (ws : List ℕ). clock_of ws ≤ LAST) (sym (c.deref-2.ensures.value ∙ c.in_ok-wide.ensures))
    (wide_last image.old image.layout image.words image.kept)

pub all_counts-requires-clause-size : goal.all_counts-requires-clause-size
all_counts-requires-clause-size c =
    let image = c.in_ok-image.image in
    ap (λ (ws : List ℕ). length ws) (c.deref-3.ensures.value ∙ c.in_ok-wide.ensures)
    ∙ wide_size image.old image.layout image.words image.kept

pub all_counts-requires-clause-clock : goal.all_counts-requires-clause-clock
all_counts-requires-clause-clock c =
    let image = c.in_ok-image.image in
    subst (λ (ws : List ℕ). clock_of ws ≤ LAST) (sym (c.deref-3.ensures.value ∙ c.in_ok-wide.ensures))
    (wide_last image.old image.layout image.words image.kept)

pub all_faults-requires-clause-size : goal.all_faults-requires-clause-size
all_faults-requires-clause-size c =
    let image = c.in_ok-image.image in
    ap (λ (ws : List ℕ). length ws) (c.deref-5.ensures.value ∙ c.in_ok-wide.ensures)
    ∙ wide_size image.old image.layout image.words image.kept

pub all_faults-requires-clause-clock : goal.all_faults-requires-clause-clock
all_faults-requires-clause-clock c =
    let image = c.in_ok-image.image in
    subst (λ (ws : List ℕ). clock_of ws ≤ LAST) (sym (c.deref-5.ensures.value ∙ c.in_ok-wide.ensures))
    (wide_last image.old image.layout image.words image.kept)

pub returns-clause-told : goal.returns-clause-told
returns-clause-told c =
    let image = c.in_ok-image.image in
    let text = c.args.bytes.items in
    let s = image.layout in
    let left = ap (λ r. r.left) c.new-source.ensures in
    let spelled : IsTextOf text (parts_of image) =
    subst (λ (t : List ℕ). IsTextOf t (parts_of image)) left c.in_ok-image.ensures.spelled in
    let wide = c.in_ok-wide.ensures in
    record {
      spelled = spelled;
      version = c.version_in-version.ensures ∙ ap (λ (t : List ℕ). slice_index (words_in t) 1) c.deref.ensures.value
          ∙ version_told spelled.version s image.words text spelled.spelled;
      cut = c.saturating_sub.ensures ∙ ap (λ (n : ℕ). n - 2) c.clock.ensures;
      units = subst (λ (ws : List ℕ). AreAllCounts s ws c.in_ok-all_counts.field-0.items) (c.deref-3.ensures.value ∙ wide)
          c.in_ok-all_counts.ensures;
      epochs = subst (λ rs. AreEpochs rs c.in_ok-epoch_counts.field-0.items)
          (c.deref-4.ensures.value ∙ c.in_ok-records.ensures ∙ ap (all_records s) (c.deref-2.ensures.value ∙ wide))
          c.in_ok-epoch_counts.ensures;
      faults = c.in_ok-all_faults.ensures ∙ ap (all_faults image.old s) (c.deref-5.ensures.value ∙ wide);
    }

pub returns-clause-accepted : goal.returns-clause-accepted
returns-clause-accepted c =
    let image = c.in_ok-image.image in
    let left = ap (λ r. r.left) c.new-source.ensures in
    let spelled : IsTextOf c.args.bytes.items (parts_of image) =
    subst (λ (t : List ℕ). IsTextOf t (parts_of image)) left c.in_ok-image.ensures.spelled in
    let law = told_of_accepted image.old image.layout image.words spelled.layout image.kept in
    let are = c.in_ok-all_faults.ensures ∙ ap (all_faults image.old image.layout) (c.deref-5.ensures.value ∙ c.in_ok-wide.ensures) in
    (λ e. law.0 (sym are ∙ e), λ h. are ∙ law.1 h)
