use Rattle.std.proofs.Common.{◌≡◌, ℕ, [], ◌∷◌, List, length, subst, ap, ◌∙◌, sym, arith}
use Rattle.std.specs.Prelude.{Some, Err, slice_get}
use Rattle.std.proofs.lemmas.List.{length-append}
use Rattle.mont_base.specs.Image.{records_of}
use Rattle.mont_base.specs.State.{State}
use Rattle.mont_base.specs.Structure.{IsStructure}
use Rattle.mont_base.specs.Versions.{live_objects}
use Rattle.plain.specs.States.{state_of}
use Rattle.plain.proofs.Recovered.{each_more, each_unit}
use Rattle.image_units.specs.declared.found.FoundUnit.{FoundUnit}
use Rattle.mont_image.specs.StoredImage.{IsImage}
use Rattle.image_units.specs.FirstRefusal.{IsFirstRefusal}
use Rattle.image_units.specs.Found.{IsFoundUnit}
use Rattle.image_units.proofs.Accepted.{accepted, made_below, refused_unit}
use Rattle.image_units.proofs.unit_search.build_units.Goals as goal

pub returns-in-Err-clause-refused : goal.returns-in-Err-clause-refused
returns-in-Err-clause-refused c =
    let s = c.args.image.now.layout in
    let words = c.args.image.now.words in
    let unit = c.loop-unit.unit in
    subst (IsFirstRefusal s words) (sym c.of_build.ensures)
    (refused_unit s words unit c.in-Err.refusal c.as_slice.result.now (c.as_slice.ensures ∙ c.in_ok-found.ensures.objects)
    c.requires.scanned.readable c.requires.scanned.apart (omega (arith, c.units-unit-end.ensures.value))
    (made_below s words c.loop-unit.states unit c.loop-unit.invariant.built c.loop-unit.invariant.made)
    (λ slot fault e. c.in-Err.ensures.refused slot fault (ap Err e)))

pub loop-unit-preserved : goal.loop-unit-preserved
loop-unit-preserved c =
    let s = c.args.image.now.layout in
    let words = c.args.image.now.words in
    let unit = c.loop-unit.unit in
    let Made : ℕ → State → Type 0 = λ u state. IsStructure s u (live_objects (records_of s words u)) state in
    let are = c.as_slice.ensures ∙ c.in_ok-found.ensures.objects in
    record {
      many = omega (
        arith,
        c.loop-unit.invariant.many,
        ap length c.in_ok-push.ensures.ok ∙ length-append c.loop-unit.units (c.in_ok-found.found ∷ []),
      );
      built = omega (
        arith,
        c.loop-unit.invariant.built,
        ap length c.in_ok-push-in-Ok.ensures.ok ∙ length-append c.loop-unit.states (c.in-Ok.state ∷ []),
      );
      each = subst (λ (fs : List FoundUnit). (u : ℕ) (f : FoundUnit) → slice_get fs u ≡ Some f → IsFoundUnit s words u f)
          (sym c.in_ok-push.ensures.ok)
          (each_more (IsFoundUnit s words) c.loop-unit.units c.in_ok-found.found c.loop-unit.invariant.each
          (subst (λ (u : ℕ). IsFoundUnit s words u c.in_ok-found.found) (sym c.loop-unit.invariant.many) c.in_ok-found.ensures));
      made = each_unit Made c.loop-unit.states c.push.new.self c.in-Ok.state unit c.loop-unit.invariant.built
          c.in_ok-push-in-Ok.ensures.ok
          (subst (λ os. IsStructure s unit os (state_of c.in-Ok.state)) are c.in-Ok.ensures.built) c.loop-unit.invariant.made;
    }

pub returns-clause-accepted : goal.returns-clause-accepted
returns-clause-accepted c =
    let image = c.args.image.now in
    let made = made_below image.layout image.words c.loop-unit.states c.loop-unit.unit c.loop-unit.invariant.built
    c.loop-unit.invariant.made in
    accepted image.layout image.words c.units-unit-end.ensures.layout
    (subst (IsImage image.layout image.words) c.requires.new image.kept) c.requires.scanned.readable c.requires.scanned.apart
    (λ unit inside. made unit (omega (arith, c.units-unit-end.ensures.value)))
