use Rattle.std.proofs.Common.{List, ℕ, subst, Option, IfSome, ◌≡◌}
use Rattle.job_text.specs.declared.job.Job.{Job}
use Rattle.job_text.specs.Grammar.{IsJob}
use Rattle.job_text.specs.JobText.{job_text}
use Rattle.job_text.specs.Refused.{IsReadOf}
use Rattle.job_text.proofs.Jobs.{accepted_bytes}
use Rattle.job_text.proofs.Reading.{read_of, taken_for}
use Rattle.job_text.proofs.reader.read_job.Goals as goal

pub returns-clause-accepted : goal.returns-clause-accepted
returns-clause-accepted g c = λ j h left.
    let bytes = c.in_ok-text.text.items in
    let front : IsReadOf (job_text j) bytes = subst (λ (known : Option (List ℕ)). IfSome known (λ text. IsReadOf text bytes)) left
    (read_of _ _ bytes c.in_ok-text.ensures.bytes) in
    accepted_bytes j bytes c.parse_job.result h front (rw c.as_slice.ensures.value at c.parse_job.ensures.spelled)
    (rw c.as_slice.ensures.value at c.parse_job.ensures.refused)

pub returns-clause-taken : goal.returns-clause-taken
returns-clause-taken g c =
    let bytes = c.in_ok-text.text.items in
    taken_for IsJob (λ (j : Job). bytes ≡ job_text j) _ _ bytes c.parse_job.result c.in_ok-text.ensures.bytes
    (rw c.as_slice.ensures.value at c.parse_job.ensures.spelled)
