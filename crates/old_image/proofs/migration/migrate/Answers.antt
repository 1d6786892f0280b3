use Rattle.std.proofs.Common.{◌≡◌, ℕ, ◌≤◌, true, List, length, refl, ap, ◌∙◌, sym, subst}
use Rattle.std.proofs.lemmas.Result.{err_from_is_err_and}
use Rattle.mont_base.specs.declared.constants.TheConstants.{LAST}
use Rattle.mont_base.specs.declared.record.Held.{Held}
use Rattle.mont_base.specs.Image.{clock_of}
use Rattle.mont_image.specs.StoredImage.{IsImage}
use Rattle.scan.specs.Scanned.{IsReadable}
use Rattle.image_units.specs.Found.{all_records}
use Rattle.image_units.specs.FoundVersions.{HasNoRepeat, IsRepeatRefusal}
use Rattle.image_units.proofs.UnitParts.{records_rise}
use Rattle.old_image.specs.Migration.{IsUnitRefusal}
use Rattle.old_image.specs.OldRecords.{IsSlotRefusal}
use Rattle.old_image.specs.OldSlots.{widened}
use Rattle.old_image.proofs.Widened.{clock_last, size_wide}
use Rattle.old_image.proofs.MigratedUnits.{clock_now, image_is, keeps, migrates, repeat_refused, slot_refused, slots_are, unit_refused, well_formed}
use Rattle.old_image.proofs.migration.migrate.Goals as goal

pub read_records-requires-clause-size : goal.read_records-requires-clause-size
read_records-requires-clause-size c =
    let s = c.args.image.now.layout in
    let image = c.args.image.now.words in
    let old : IsImage s image true = subst (IsImage s image) c.requires c.args.image.now.kept in
    ap length (c.deref.ensures.value ∙ c.in_ok-wide.ensures) ∙ size_wide s image old

pub read_records-requires-clause-clock : goal.read_records-requires-clause-clock
read_records-requires-clause-clock c =
    let s = c.args.image.now.layout in
    let image = c.args.image.now.words in
    let old : IsImage s image true = subst (IsImage s image) c.requires c.args.image.now.kept in
    subst (λ (ws : List ℕ). clock_of ws ≤ LAST) (sym (c.deref.ensures.value ∙ c.in_ok-wide.ensures)) (clock_last s image old)

pub returns-in_err-records-clause-refused : goal.returns-in_err-records-clause-refused
returns-in_err-records-clause-refused c =
    let s = c.args.image.now.layout in
    let image = c.args.image.now.words in
    let is : c.deref.result.now ≡ widened s image = c.deref.ensures.value ∙ c.in_ok-wide.ensures in
    let failed = err_from_is_err_and c.from_residual-in_err-records.result c.from_residual-in_err-records.ensures.1 in
    let refusal = c.in_err-records.field-0.0 in
    rw (failed.1, failed.2) (slot_refused s (widened s image) refusal
    (subst (λ (ws : List ℕ). IsSlotRefusal s ws refusal) is c.in_err-records.ensures.refused))

pub check_versions-requires : goal.check_versions-requires
check_versions-requires c =
    let s = c.args.image.now.layout in
    let image = c.args.image.now.words in
    let is : c.deref.result.now ≡ widened s image = c.deref.ensures.value ∙ c.in_ok-wide.ensures in
    let records : c.deref-2.result.now ≡ all_records s (widened s image) =
    c.deref-2.ensures.value ∙ c.in_ok-records.ensures.records ∙ ap (all_records s) is in
    records_rise s (widened s image) c.deref-2.result.now records

pub returns-in_err-check_versions-clause-refused : goal.returns-in_err-check_versions-clause-refused
returns-in_err-check_versions-clause-refused c =
    let s = c.args.image.now.layout in
    let image = c.args.image.now.words in
    let is : c.deref.result.now ≡ widened s image = c.deref.ensures.value ∙ c.in_ok-wide.ensures in
    let records : c.deref-2.result.now ≡ all_records s (widened s image) =
    c.deref-2.ensures.value ∙ c.in_ok-records.ensures.records ∙ ap (all_records s) is in
    let readable = subst (IsReadable s) is c.in_ok-records.ensures.readable in
    let failed = err_from_is_err_and c.from_residual-in_err-check_versions.result c.from_residual-in_err-check_versions.ensures.1 in
    let refusal = c.in_err-check_versions.field-0.0 in
    rw (failed.1, failed.2) (repeat_refused s (widened s image) refusal readable
    (subst (λ (rs : List Held). IsRepeatRefusal rs refusal) records c.in_err-check_versions.ensures.refused))

pub migrated_words-requires-clause-kinds : goal.migrated_words-requires-clause-kinds
migrated_words-requires-clause-kinds c =
    let s = c.args.image.now.layout in
    let image = c.args.image.now.words in
    let old : IsImage s image true = subst (IsImage s image) c.requires c.args.image.now.kept in
    old.kinds refl

pub migrated_words-requires-clause-size : goal.migrated_words-requires-clause-size
migrated_words-requires-clause-size c =
    let s = c.args.image.now.layout in
    let image = c.args.image.now.words in
    let old : IsImage s image true = subst (IsImage s image) c.requires c.args.image.now.kept in
    let third : c.deref-3.result.now ≡ widened s image = c.deref-3.ensures.value ∙ c.in_ok-wide.ensures in
    ap length third ∙ size_wide s image old

pub migrated_words-requires-clause-clock : goal.migrated_words-requires-clause-clock
migrated_words-requires-clause-clock c =
    let s = c.args.image.now.layout in
    let image = c.args.image.now.words in
    let old : IsImage s image true = subst (IsImage s image) c.requires c.args.image.now.kept in
    let third : c.deref-3.result.now ≡ widened s image = c.deref-3.ensures.value ∙ c.in_ok-wide.ensures in
    subst (λ (ws : List ℕ). clock_of ws ≤ LAST) (sym third) (clock_last s image old)

pub returns-in_err-words-clause-refused : goal.returns-in_err-words-clause-refused
returns-in_err-words-clause-refused c =
    let s = c.args.image.now.layout in
    let image = c.args.image.now.words in
    let is : c.deref.result.now ≡ widened s image = c.deref.ensures.value ∙ c.in_ok-wide.ensures in
    let third : c.deref-3.result.now ≡ widened s image = c.deref-3.ensures.value ∙ c.in_ok-wide.ensures in
    let records : c.deref-2.result.now ≡ all_records s (widened s image) =
    c.deref-2.ensures.value ∙ c.in_ok-records.ensures.records ∙ ap (all_records s) is in
    let readable = subst (IsReadable s) is c.in_ok-records.ensures.readable in
    let apart = subst HasNoRepeat records c.in_ok-check_versions.ensures.apart in
    let failed = err_from_is_err_and c.from_residual-in_err-words.result c.from_residual-in_err-words.ensures.1 in
    let refusal = c.in_err-words.field-0.0 in
    rw (failed.1, failed.2) (unit_refused s (widened s image) refusal readable apart
    (subst (λ (ws : List ℕ). IsUnitRefusal s ws refusal) third c.in_err-words.ensures.refused))

pub invariant_of-result : goal.invariant_of-result
invariant_of-result c =
    let s = c.args.image.now.layout in
    let image = c.args.image.now.words in
    let old : IsImage s image true = subst (IsImage s image) c.requires c.args.image.now.kept in
    let is : c.deref.result.now ≡ widened s image = c.deref.ensures.value ∙ c.in_ok-wide.ensures in
    let third : c.deref-3.result.now ≡ widened s image = c.deref-3.ensures.value ∙ c.in_ok-wide.ensures in
    let records : c.deref-2.result.now ≡ all_records s (widened s image) =
    c.deref-2.ensures.value ∙ c.in_ok-records.ensures.records ∙ ap (all_records s) is in
    let readable = subst (IsReadable s) is c.in_ok-records.ensures.readable in
    let apart = subst HasNoRepeat records c.in_ok-check_versions.ensures.apart in
    let done = migrates s image c.from_vec.result c.deref-3.result.now c.in_ok-words.ensures.layout old third readable apart
    c.in_ok-words.ensures.kept (c.from_vec.ensures ∙ c.in_ok-words.ensures.words) in
    record { kept = image_is s image c.from_vec.result done }

pub returns-clause-clock : goal.returns-clause-clock
returns-clause-clock c =
    let s = c.args.image.now.layout in
    let image = c.args.image.now.words in
    let old : IsImage s image true = subst (IsImage s image) c.requires c.args.image.now.kept in
    let is : c.deref.result.now ≡ widened s image = c.deref.ensures.value ∙ c.in_ok-wide.ensures in
    let third : c.deref-3.result.now ≡ widened s image = c.deref-3.ensures.value ∙ c.in_ok-wide.ensures in
    let records : c.deref-2.result.now ≡ all_records s (widened s image) =
    c.deref-2.ensures.value ∙ c.in_ok-records.ensures.records ∙ ap (all_records s) is in
    let readable = subst (IsReadable s) is c.in_ok-records.ensures.readable in
    let apart = subst HasNoRepeat records c.in_ok-check_versions.ensures.apart in
    let done = migrates s image c.from_vec.result c.deref-3.result.now c.in_ok-words.ensures.layout old third readable apart
    c.in_ok-words.ensures.kept (c.from_vec.ensures ∙ c.in_ok-words.ensures.words) in
    clock_now s image c.from_vec.result done

pub returns-clause-slots : goal.returns-clause-slots
returns-clause-slots c =
    let s = c.args.image.now.layout in
    let image = c.args.image.now.words in
    let old : IsImage s image true = subst (IsImage s image) c.requires c.args.image.now.kept in
    let is : c.deref.result.now ≡ widened s image = c.deref.ensures.value ∙ c.in_ok-wide.ensures in
    let third : c.deref-3.result.now ≡ widened s image = c.deref-3.ensures.value ∙ c.in_ok-wide.ensures in
    let records : c.deref-2.result.now ≡ all_records s (widened s image) =
    c.deref-2.ensures.value ∙ c.in_ok-records.ensures.records ∙ ap (all_records s) is in
    let readable = subst (IsReadable s) is c.in_ok-records.ensures.readable in
    let apart = subst HasNoRepeat records c.in_ok-check_versions.ensures.apart in
    let done = migrates s image c.from_vec.result c.deref-3.result.now c.in_ok-words.ensures.layout old third readable apart
    c.in_ok-words.ensures.kept (c.from_vec.ensures ∙ c.in_ok-words.ensures.words) in
    slots_are s image c.from_vec.result done

pub returns-clause-accepted : goal.returns-clause-accepted
returns-clause-accepted c =
    let s = c.args.image.now.layout in
    let image = c.args.image.now.words in
    let old : IsImage s image true = subst (IsImage s image) c.requires c.args.image.now.kept in
    let is : c.deref.result.now ≡ widened s image = c.deref.ensures.value ∙ c.in_ok-wide.ensures in
    let third : c.deref-3.result.now ≡ widened s image = c.deref-3.ensures.value ∙ c.in_ok-wide.ensures in
    let records : c.deref-2.result.now ≡ all_records s (widened s image) =
    c.deref-2.ensures.value ∙ c.in_ok-records.ensures.records ∙ ap (all_records s) is in
    let readable = subst (IsReadable s) is c.in_ok-records.ensures.readable in
    let apart = subst HasNoRepeat records c.in_ok-check_versions.ensures.apart in
    let done = migrates s image c.from_vec.result c.deref-3.result.now c.in_ok-words.ensures.layout old third readable apart
    c.in_ok-words.ensures.kept (c.from_vec.ensures ∙ c.in_ok-words.ensures.words) in
    well_formed s image c.from_vec.result done

pub returns-clause-kept : goal.returns-clause-kept
returns-clause-kept c =
    let s = c.args.image.now.layout in
    let image = c.args.image.now.words in
    let old : IsImage s image true = subst (IsImage s image) c.requires c.args.image.now.kept in
    let is : c.deref.result.now ≡ widened s image = c.deref.ensures.value ∙ c.in_ok-wide.ensures in
    let third : c.deref-3.result.now ≡ widened s image = c.deref-3.ensures.value ∙ c.in_ok-wide.ensures in
    let records : c.deref-2.result.now ≡ all_records s (widened s image) =
    c.deref-2.ensures.value ∙ c.in_ok-records.ensures.records ∙ ap (all_records s) is in
    let readable = subst (IsReadable s) is c.in_ok-records.ensures.readable in
    let apart = subst HasNoRepeat records c.in_ok-check_versions.ensures.apart in
    let done = migrates s image c.from_vec.result c.deref-3.result.now c.in_ok-words.ensures.layout old third readable apart
    c.in_ok-words.ensures.kept (c.from_vec.ensures ∙ c.in_ok-words.ensures.words) in
    keeps s image c.from_vec.result done
