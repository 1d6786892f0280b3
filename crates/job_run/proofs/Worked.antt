-- What one caller leaves, by what came of its lines.
use Rattle.std.proofs.Common.{◌≡◌, ℕ, Bool, List, length, map, refl, sym, ap, ◌∙◌, subst}
use Rattle.std.specs.Prelude.{slice_get, All, Some, None, Option}
use Rattle.std.proofs.lemmas.List.{length-map}
use Rattle.std.proofs.lemmas.List.Elements.{All-get_or}
use Rattle.std.proofs.lemmas.Option.{get_or_from_slice_get, slice_get_within}
use Rattle.core_steps.proofs.RowFacts.{all_at, same_item, row_of_map, row_in_map}
use Rattle.heap_rule.specs.declared.rule.Opening.{Opening}
use Rattle.heap_rule.specs.declared.views.CallerKnown.{CallerKnown}
use Rattle.job_text.specs.declared.job.Job.{Job}
use Rattle.job_text.specs.declared.job.Line.{Line}
use Rattle.job_text.specs.declared.outcome.Outcome.{Outcome}
use Rattle.job_text.specs.Report.{lines_of}
use Rattle.job_worker.proofs.Gates.{asked_none}
use Rattle.job_worker.proofs.Later.{goes_same}
use Rattle.job_run.specs.declared.desks.Desk.{Desk}
use Rattle.job_run.specs.Desks.{AreLeft, empty_desk}
use Rattle.job_run.specs.Run.{IsFresh, IsWorked, AreWorked}

-- what holds of all holds of the item at a place
all_gives : {A : Type 0} (Q : A → Type 0) (xs : List A) (i : ℕ) (x : A) → All Q xs → slice_get xs i ≡ Some x → Q x
all_gives Q xs i x all e =
    subst Q (get_or_from_slice_get xs i x x e) (All-get_or Q xs i x (slice_get_within xs i x e) all)

module _ {P : Type 0} (o : Opening) (has : P → Type 0) (held : P → CallerKnown) (cuts : P → ℕ) (endless : P → Bool) where
  -- nothing was begun
  pub untouched : (lines : List Line) (p : P) → has p → IsWorked o has held cuts endless lines p p None
  untouched lines p own = record {
    own = own;
    goes_on = goes_same (held p);
    gate = asked_none cuts endless p;
    worked = tt;
    short = λ e. refl;
  }

  -- nobody has begun
  pub none_begun : (job : Job) (ps news : List P) → news ≡ ps → All (IsFresh has held) ps
      → AreWorked o has held cuts endless job ps news (map (λ _. None) ps)
  none_begun job ps news e fresh = record {
    passes = ap length e;
    callers = length-map ps (λ (_ : P). None);
    each = λ caller old new outcomes a b c.
        let same : old ≡ new = same_item ps caller old new a (ap (λ (v : List P). slice_get v caller) (sym e) ∙ b) in
        let none = row_of_map (λ (_ : P). None) ps caller outcomes c in
        let own = (all_gives (IsFresh has held) ps caller old fresh a).own in
        subst (λ (q : P). IsWorked o has held cuts endless (lines_of job caller) old q outcomes) same
        (subst (λ (d : Option (List Outcome)). IsWorked o has held cuts endless (lines_of job caller) old old d) none.2
        (untouched (lines_of job caller) old own));
  }

  -- ---- desks
  pub fresh_desks : (ps : List P) (desks : List (Desk P)) → desks ≡ map empty_desk ps → All (IsFresh has held) ps
      → All (λ (d : Desk P). IsFresh has held d.pass) desks
  fresh_desks ps desks e fresh =
      subst (λ (v : List (Desk P)). All (λ (d : Desk P). IsFresh has held d.pass) v) (sym e)
      (all_at (λ (d : Desk P). IsFresh has held d.pass) (map empty_desk ps)
      (λ i d there.
      let p = row_of_map empty_desk ps i d there in
      subst (λ (x : Desk P). IsFresh has held x.pass) p.2 (all_gives (IsFresh has held) ps i p.0 fresh p.1)))

  -- what was left on the desks was made of the passes
  pub all_worked : (job : Job) (ps news : List P) (olds left : List (Desk P)) (done : List (Option (List Outcome)))
      → olds ≡ map empty_desk ps → news ≡ map (λ (d : Desk P). d.pass) left → done ≡ map (λ (d : Desk P). d.done) left
      → AreLeft o has held cuts endless job olds left → AreWorked o has held cuts endless job ps news done
  all_worked job ps news olds left done begun passes answers worked =
      let count : length left ≡ length ps = worked.places ∙ ap length begun ∙ length-map ps empty_desk in
      record {
        passes = ap length passes ∙ length-map left (λ (d : Desk P). d.pass) ∙ count;
        callers = ap length answers ∙ length-map left (λ (d : Desk P). d.done) ∙ count;
        each = λ caller old new outcomes a b c.
            let at = row_of_map (λ (d : Desk P). d.pass) left caller new
            (ap (λ (v : List P). slice_get v caller) (sym passes) ∙ b) in
            let found = row_of_map (λ (d : Desk P). d.done) left caller outcomes
            (ap (λ (v : List (Option (List Outcome))). slice_get v caller) (sym answers) ∙ c) in
            let same : found.0 ≡ at.0 = same_item left caller found.0 at.0 found.1 at.1 in
            let was = worked.each caller (empty_desk old) at.0
            (ap (λ (v : List (Desk P)). slice_get v caller) begun ∙ row_in_map empty_desk ps caller old a) at.1 in
            subst (λ (q : P). IsWorked o has held cuts endless (lines_of job caller) old q outcomes) at.2
            (subst (λ (d : Option (List Outcome)). IsWorked o has held cuts endless (lines_of job caller) old at.0.pass d)
            (ap (λ (d : Desk P). d.done) (sym same) ∙ found.2) was);
      }
