-- Jobs and their texts.
use Rattle.std.proofs.Common.{◌≡◌, ℕ, ◌<◌, inl, inr, Result, Ok, Err, IfOk, IfErr, MatchResult, List, [], ◌++◌, length, map, sym, ap, ◌∙◌, subst, arith}
use Rattle.std.proofs.lemmas.List.{append-nil}
use Rattle.std.proofs.lemmas.List.{append_cancel_right}
use Rattle.job_text.specs.declared.job.Job.{Job}
use Rattle.job_text.specs.declared.job.JobFault.{JobFault}
use Rattle.job_text.specs.Lines.{spaced, parts_of}
use Rattle.job_text.specs.declared.limits.TheConstants.{READ_BYTES}
use Rattle.job_text.specs.Grammar.{IsJob}
use Rattle.job_text.specs.JobText.{job_lines, job_text, IsFirstRefused}
use Rattle.job_text.specs.declared.job_refusal.JobRefusal.{JobRefusal}
use Rattle.job_text.specs.declared.job_refusal.JobRefusal.TheVariants.{Text, Read, Memory}
use Rattle.job_text.specs.Refused.{IsReadOf, IsRefusal, IsOutside}
use Rattle.job_text.proofs.JobItems.{job_lines_once}
use Rattle.job_text.proofs.Front.{IsFront, few_job_lines, front_parts, no_next}
use Rattle.job_text.proofs.Verdicts.{fine_so_far, front_small}

-- a text that is nothing but such a front is a job's
pub job_from_front : (text : List ℕ) (j : Job) → IsFront text j [] → IsJob j × (text ≡ job_text j)
    × (length text < READ_BYTES)
job_from_front text j f = (
  f.is_job,
  f.joined ∙ append-nil (job_text j),
  omega (arith, front_small text j [] f, few_job_lines j f.is_job),
)

-- the text of a job is nothing but such a front
pub front_from_job : (j : Job) → IsJob j → IsFront (job_text j) j []
front_from_job j t = record { is_job = t; joined = sym (append-nil (job_text j)) }

-- no line of a job's text is refused
pub job_not_refused : (j : Job) (line : ℕ) (fault : JobFault) → IsJob j → IsFirstRefused (job_text j) line fault → ⊥
job_not_refused j line fault t refused =
    let f = front_from_job j t in
    fine_so_far (job_text j) j [] f refused.place (no_next (job_text j) j f refused.place refused.there) fault refused.has_fault

-- two jobs have two texts
pub job_once : (j k : Job) → IsJob j → IsJob k → job_text j ≡ job_text k → j ≡ k
job_once j k t u e =
    let own = front_parts (job_text j) j [] (front_from_job j t) in
    let other = front_parts (job_text k) k [] (front_from_job k u) in
    job_lines_once j k t u
    (append_cancel_right (map spaced (job_lines j)) (map spaced (job_lines k)) (parts_of []) (sym own ∙ ap parts_of e ∙ other))

-- fewer bytes than are read of a text are the whole of it
all_read : (text bytes : List ℕ) → IsReadOf text bytes → length bytes < READ_BYTES → bytes ≡ text
all_read text bytes (more, whole, inl none) small = sym (append-nil bytes) ∙ ap (λ (xs : List ℕ). bytes ++ xs) (sym none) ∙ sym whole
all_read text bytes (more, whole, inr all) small = absurd (omega arith)

-- what is made of the bytes that were read of a job's text
pub accepted_bytes : (j : Job) (bytes : List ℕ) (r : Result Job JobRefusal) → IsJob j → IsReadOf (job_text j) bytes
    → IfOk r (λ k. IsJob k × (bytes ≡ job_text k) × (length bytes < READ_BYTES)) → IfErr r (IsRefusal bytes)
    → MatchResult r (λ k. k ≡ j) IsOutside
accepted_bytes j bytes (Ok k) t read spelled refused =
    job_once k j spelled.0 t (sym spelled.1 ∙ all_read (job_text j) bytes read spelled.2)
accepted_bytes j bytes (Err (Text line fault)) t read spelled refused =
    job_not_refused j line fault t (subst (λ (xs : List ℕ). IsFirstRefused xs line fault) (sym read.1) (refused read.0 read.2))
accepted_bytes j bytes (Err Read) t read spelled refused = tt
accepted_bytes j bytes (Err Memory) t read spelled refused = tt
