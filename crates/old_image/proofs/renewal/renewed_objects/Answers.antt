use Rattle.std.proofs.Common.{ap, ◌∙◌, subst}
use Rattle.mont_base.specs.Versions.{live_objects}
use Rattle.plain.specs.Built.{MakesStructure}
use Rattle.old_image.specs.OldSlots.{objects_in}
use Rattle.old_image.proofs.Units.{IsPlain, kept_plain, plain_is, renewed_plain}
use Rattle.old_image.proofs.renewal.renewed_objects.Goals as goal

pub returns : goal.returns
returns c =
    let s = c.args.layout in
    let unit = c.args.unit in
    let os = objects_in s c.args.wide.now unit in
    let are = c.in_ok-objects.ensures ∙ ap live_objects (c.deref.ensures.value ∙ c.in_ok-records.ensures) in
    let plain : IsPlain c.kind.result = plain_is c.kind.result c.in-Queue.is in
    record {
      renewed = λ kind e. are ∙ renewed_plain s unit os c.kind.result plain c.kind.ensures kind e;
      kept = kept_plain s unit os c.kind.result plain c.kind.ensures
          (subst (MakesStructure s unit) (c.deref-in-Queue.ensures.value ∙ are) c.in_ok-check_objects-in-Queue.ensures.sound);
      refused = tt;
    }
