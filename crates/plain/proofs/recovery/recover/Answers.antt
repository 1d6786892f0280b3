use Rattle.std.proofs.Common.{ℕ, [], ◌∷◌, length, subst, ap, ◌∙◌, sym, arith}
use Rattle.std.proofs.lemmas.List.{length-append}
use Rattle.mont_base.specs.State.{State}
use Rattle.mont_base.specs.Image.{records_of}
use Rattle.mont_base.specs.Structure.{IsStructure}
use Rattle.mont_base.specs.Versions.{live_objects}
use Rattle.plain.specs.Built.{MakesStructure}
use Rattle.plain.specs.States.{state_of}
use Rattle.plain.proofs.Recovered.{each_unit}
use Rattle.plain.proofs.Single.{no_structure}
use Rattle.plain.proofs.recovery.recover.Goals as goal

pub unreachable-requires : goal.unreachable-requires
unreachable-requires c =
    let s = c.args.layout in
    let unit = c.loop-unit.unit in
    let are = c.deref-in-loop-unit.ensures.value ∙ c.in_ok-objects.ensures
    ∙ ap live_objects (c.deref.ensures.value ∙ c.in_ok-held.ensures) in
    let fault = c.in-Err-Object.ensures.refused c.in-Err-Object.field-0-0 c.in-Err-Object.field-0-1 cc in
    no_structure s unit _ _ _ fault (subst (λ os. MakesStructure s unit os) (sym are) (c.requires.defined unit (omega arith)))

pub loop-unit-preserved : goal.loop-unit-preserved
loop-unit-preserved c =
    let P : ℕ → State → Type 0 =
    λ unit state. IsStructure c.args.layout unit (live_objects (records_of c.args.layout c.args.image.now unit)) state in
    let are = c.deref-in-loop-unit.ensures.value ∙ c.in_ok-objects.ensures
    ∙ ap live_objects (c.deref.ensures.value ∙ c.in_ok-held.ensures) in
    record {
      long = omega (arith, ap length c.in_ok-push-in-Ok.ensures.ok ∙ length-append c.loop-unit.units (c.in-Ok.state ∷ []));
      each = each_unit P c.loop-unit.units c.push.new.self c.in-Ok.state c.loop-unit.unit c.loop-unit.invariant.long
          c.in_ok-push-in-Ok.ensures.ok
          (subst (λ os. IsStructure c.args.layout c.loop-unit.unit os (state_of c.in-Ok.state)) are c.in-Ok.ensures.built)
          c.loop-unit.invariant.each;
    }
