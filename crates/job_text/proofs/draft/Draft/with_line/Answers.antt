use Rattle.job_text.proofs.Drafts.{with_line}
use Rattle.job_text.proofs.draft.Draft.with_line.Goals as goal

pub returns : goal.returns
returns c =
    with_line c.args.self (record { caller = c.args.caller; deed = c.args.deed }) c.push.new.self c.requires.draft c.requires.early
    c.requires.may c.in_ok-push.ensures.ok
