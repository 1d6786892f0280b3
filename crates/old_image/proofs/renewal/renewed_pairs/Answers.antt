use Rattle.std.proofs.Common.{refl, subst, List}
use Rattle.std.proofs.lemmas.Result.{err_from_is_err_and}
use Rattle.mont_base.specs.declared.record.Object.{Object}
use Rattle.plain.specs.Built.{MakesStructure}
use Rattle.old_image.specs.Renewal.{IsObjectRefusal}
use Rattle.old_image.proofs.Units.{kept_map, pairs_of_all, refused_pairs, refused_spare}
use Rattle.old_image.proofs.renewal.renewed_pairs.Goals as goal

pub returns-in_err-check_objects-clause-refused : goal.returns-in_err-check_objects-clause-refused
returns-in_err-check_objects-clause-refused c =
    let failed = err_from_is_err_and c.from_residual-in_err-check_objects.result c.from_residual-in_err-check_objects.ensures.1 in
    let refusal = c.in_err-check_objects.field-0.0 in
    rw (failed.1, failed.2) (refused_pairs c.args.layout c.args.unit c.requires.old c.requires.map c.args.objects.now
    c.in_ok-front.front.pairs.items c.in_ok-front.front.spare c.in_ok-front.ensures refusal
    (subst (λ (os : List Object). IsObjectRefusal c.args.layout c.args.unit os refusal) c.deref.ensures.value
    c.in_err-check_objects.ensures.refused))

pub returns-in-Some-clause-refused : goal.returns-in-Some-clause-refused
returns-in-Some-clause-refused c = (
  refl,
  refused_spare c.args.layout c.args.unit c.requires.old c.requires.map c.args.objects.now c.in_ok-front.front.pairs.items
      c.in_ok-front.front.spare c.in_ok-front.ensures c.in-Some.slot c.in-Some.is
      (subst (MakesStructure c.args.layout c.args.unit) c.deref.ensures.value c.in_ok-check_objects.ensures.sound),
)

pub returns-in-None-clause-renewed : goal.returns-in-None-clause-renewed
returns-in-None-clause-renewed c =
    pairs_of_all c.args.layout c.args.unit c.requires.old c.requires.map c.args.objects.now c.in_ok-front.front.pairs.items
    c.in_ok-front.front.spare c.in_ok-front.ensures c.in-None.is

pub returns-in-None-clause-kept : goal.returns-in-None-clause-kept
returns-in-None-clause-kept c =
    kept_map c.args.layout c.args.unit c.requires.old c.requires.map c.args.objects.now c.in_ok-front.front.pairs.items
    c.in_ok-front.front.spare c.in_ok-front.ensures c.in-None.is
    (subst (MakesStructure c.args.layout c.args.unit) c.deref.ensures.value c.in_ok-check_objects.ensures.sound)
