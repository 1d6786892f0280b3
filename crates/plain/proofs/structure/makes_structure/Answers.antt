use Rattle.plain.proofs.Single.{no_structure}
use Rattle.plain.proofs.structure.makes_structure.Goals as goal

pub returns-in-Err-Object : goal.returns-in-Err-Object
returns-in-Err-Object c =
    let fault = c.in-Err-Object.ensures.refused c.in-Err-Object.field-0-0 c.in-Err-Object.field-0-1 cc in
    (λ e. cc, λ h. absurd (no_structure c.args.layout c.args.unit c.args.objects.now _ _ fault h))
