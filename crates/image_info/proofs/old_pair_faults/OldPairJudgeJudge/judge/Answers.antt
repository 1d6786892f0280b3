use Rattle.std.proofs.Common.{◌%◌, ◌-◌, ℕ, sym, ap, ◌∙◌}
use Rattle.std.specs.Option.{is_some}
use Rattle.mont_base.specs.declared.record.ObjectFault.TheVariants.{Key}
use Rattle.image_info.proofs.Names.{number_told, told_if}
use Rattle.image_info.proofs.old_pair_faults.OldPairJudgeJudge.judge.Goals as goal

pub returns-clause-fault : goal.returns-clause-fault
returns-clause-fault c lower h =
    let s = c.args.self.now.layout in
    let unit = c.args.self.now.unit in
    let names = sym c.number_pair_in.ensures ∙ c.in-Some.is in
    let kept = ap (λ (units : ℕ). c.in-Some.key % (units - 2)) (sym c.units-maps.ensures.value) ∙ c.if-key-maps.false in
    told_if c.then_some.result _ _ _ Key c.then_some.ensures c.is_some-stood.ensures
    (ap is_some c.in_ok-insert.ensures.old ∙ h.told c.in-Some.key)
    ∙ sym (number_told s unit lower c.in-Some.key _ _ names kept)
