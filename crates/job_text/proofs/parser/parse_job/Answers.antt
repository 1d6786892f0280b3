use Rattle.std.proofs.Common.{◌≡◌, ◌<◌, ◌+◌, ◌==◌, Bool, [], ◌∷◌, ◌++◌, true, false, List, ℕ, sym, subst, ap, ◌∙◌, arith, length}
use Rattle.std.proofs.lemmas.List.{length-append, nil_from_length}
use Rattle.std.proofs.lemmas.Bool.Decides.{nat_tests}
use Rattle.job_text.specs.declared.job.Job.{Job}
use Rattle.job_text.specs.declared.limits.TheConstants.{READ_BYTES}
use Rattle.job_text.specs.Grammar.{IsJob}
use Rattle.job_text.specs.JobText.{job_lines, job_text, IsFirstRefused}
use Rattle.job_text.specs.Refused.{BeginsWith, IsNoLine}
use Rattle.job_text.specs.Draft.{so_far}
use Rattle.job_text.proofs.Verdicts.{refused_line, refused_header}
use Rattle.job_text.proofs.Front.{IsFront, front_start, front_push, job_long}
use Rattle.job_text.proofs.Jobs.{job_from_front}
use Rattle.job_text.proofs.Drafts.{refused_behind}
use Rattle.job_text.proofs.parser.parse_job.Goals as goal

some_rest : (n : ℕ) (b : Bool) → b ≡ (n == 0) → b ≡ false → 0 < n
some_rest n b e h = grind (arith, nat_tests)

no_rest : (n : ℕ) (b : Bool) → b ≡ (n == 0) → b ≡ true → n ≡ 0
no_rest n b e h = grind (arith, nat_tests)

pub returns-in-Err-clause-refused : goal.returns-in-Err-clause-refused
returns-in-Err-clause-refused c = λ more follows. refused_header c.args.text.now more follows c.in-Err.fault c.in-Err.ensures

pub loop-rest-init : goal.loop-rest-init
loop-rest-init c =
    subst (λ (j : Job). IsFront c.args.text.now j c.in-Ok.begun.1.now) (sym c.new-draft.ensures.job)
    (front_start c.args.text.now c.in-Ok.begun.0 c.in-Ok.begun.1.now c.in-Ok.ensures)

pub returns-in-Err-next_line-clause-refused : goal.returns-in-Err-next_line-clause-refused
returns-in-Err-next_line-clause-refused c = λ more follows.
    let j : Job = so_far c.loop-rest.draft in
    let some = some_rest (length c.loop-rest.rest.now) c.is_empty.result c.is_empty.ensures c.loop-rest-test.true in
    let at : c.count-place.result ≡ length (job_lines j) = c.count-place.ensures ∙ sym (job_long j) in
    subst (λ (n : ℕ). IsFirstRefused (c.args.text.now ++ more) (n + 1) c.in-Err-next_line.fault) (sym at)
    (refused_line c.args.text.now j c.loop-rest.rest.now more c.loop-rest.invariant some follows
    c.in-Err-next_line.fault
    (subst (λ (n : ℕ). IsNoLine c.loop-rest.rest.now n c.in-Err-next_line.fault) at c.in-Err-next_line.ensures))

pub loop-rest-smaller : goal.loop-rest-smaller
loop-rest-smaller c =
    let begun = c.in-Ok-next_line.ensures in
    omega (arith, ap length begun.ended.joined, length-append c.in-Ok-next_line.begun.0.now (10 ∷ c.in-Ok-next_line.begun.1.now))

pub returns-in-Err-with-clause-refused : goal.returns-in-Err-with-clause-refused
returns-in-Err-with-clause-refused c =
    let some = some_rest (length c.loop-rest.rest.now) c.is_empty.result c.is_empty.ensures c.loop-rest-test.true in
    let begins = subst (λ (n : ℕ). BeginsWith c.loop-rest.rest.now n c.in-Ok-next_line.begun.0.now c.in-Ok-next_line.begun.1.now)
    c.count-place.ensures c.in-Ok-next_line.ensures in
    refused_behind c.args.text.now c.loop-rest.draft c.loop-rest.rest.now c.in-Ok-next_line.begun.0.now
    c.in-Ok-next_line.begun.1.now c.loop-rest.invariant some begins c.in-Err-with.refusal
    c.in-Err-with.ensures.refused

pub loop-rest-preserved : goal.loop-rest-preserved
loop-rest-preserved c =
    let added = c.in-Ok-with.ensures.added in
    front_push c.args.text.now (so_far c.loop-rest.draft) (so_far c.in-Ok-with.longer) c.loop-rest.rest.now
    c.in-Ok-next_line.begun.0.now c.in-Ok-next_line.begun.1.now c.loop-rest.invariant added.draft added.lines
    c.in-Ok-next_line.ensures.ended

pub returns-clause-spelled : goal.returns-clause-spelled
returns-clause-spelled c =
    let j : Job = so_far c.loop-rest.draft in
    let empty : c.loop-rest.rest.now ≡ [] = nil_from_length c.loop-rest.rest.now
    (no_rest (length c.loop-rest.rest.now) c.is_empty.result c.is_empty.ensures c.loop-rest-test.false) in
    let whole : IsFront c.args.text.now j [] =
    subst (λ (xs : List ℕ). IsFront c.args.text.now j xs) empty c.loop-rest.invariant in
    subst (λ (k : Job). IsJob k × (c.args.text.now ≡ job_text k) × (length c.args.text.now < READ_BYTES))
    (sym c.into_job.ensures) (job_from_front c.args.text.now j whole)
