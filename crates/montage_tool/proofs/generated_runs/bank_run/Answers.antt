use Rattle.plain.specs.States.{states_of}
use Rattle.montage_tool.proofs.KeptTotal.{bank_told}
use Rattle.montage_tool.proofs.generated_runs.bank_run.Goals as goal

pub returns-clause-told : goal.returns-clause-told
returns-clause-told g c =
    let report = c.in_ok-report.report in
    bank_told c.args.number _ report.histories report.image_clock (states_of report.contents) c.in_ok-write_bank.field-0.items
    c.in_ok-report.ensures.boxes c.in_ok-report.ensures.run c.in_ok-write_bank.ensures
