use Rattle.std.proofs.Common.{◌≡◌, ℕ, true, false, ◌+◌, sym, ap, ◌∙◌}
use Rattle.job_text.specs.JobText.{BeginsStop}
use Rattle.job_text.proofs.Drafts.{none_goes_on, line_no_stop, stop_begins}
use Rattle.job_text.proofs.draft.Draft.with.Goals as goal

pub returns-in-None-clause-refused : goal.returns-in-None-clause-refused
returns-in-None-clause-refused c =
    let stop = c.begins_stop.ensures.0 c.if-begins_stop.true in (
      ap (λ (n : ℕ). n + 1) c.count-line.ensures,
      (
        stop,
        none_goes_on c.args.self c.args.bytes.now c.requires.draft
            (λ l may is. line_no_stop c.args.self c.args.bytes.now l c.requires.draft may is stop) c.in-None.ensures,
      ),
    )

pub returns-in-None-next_line-clause-refused : goal.returns-in-None-next_line-clause-refused
returns-in-None-next_line-clause-refused c =
    let no_stop : ¬ BeginsStop c.args.bytes.now = λ stop.
    let yes : c.begins_stop.result ≡ true = c.begins_stop.ensures.1 stop in
    let both : true ≡ false = sym yes ∙ c.if-begins_stop.false in
    absurd (cc) in (
      ap (λ (n : ℕ). n + 1) c.count-line.ensures,
      (
        no_stop,
        none_goes_on c.args.self c.args.bytes.now c.requires.draft c.in-None-next_line.ensures
            (λ s may is. no_stop (stop_begins c.args.bytes.now s is)),
      ),
    )
