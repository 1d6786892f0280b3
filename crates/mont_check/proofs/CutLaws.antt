-- A caller was cut where its last outcome is the cut.
use Rattle.std.proofs.Common.{◌≡◌, ℕ, ◌+◌, ◌-◌, ◌<◌, ◌≤◌, ◌⊎◌, inl, inr, true, List, length, refl, sym, ap, ◌∙◌, subst, arith}
use Rattle.std.specs.Prelude.{◌↔◌, Contains, slice_get, Some}
use Rattle.std.proofs.lemmas.Bool.{cases_lt}
use Rattle.std.proofs.lemmas.Option.{get_or_from_slice_get, same_Some, slice_get-get_or, slice_get_within}
use Rattle.job_text.specs.declared.outcome.Outcome.{Outcome}
use Rattle.job_text.specs.declared.outcome.Outcome.TheVariants.{CutIn}
use Rattle.job_text.specs.Causes.{WasCutIn}
use Rattle.job_text.specs.Outcomes.{is_cut}
use Rattle.job_text.specs.Report.{Report}
use Rattle.mont_check.specs.CutUnits.{AllCutsLast, CutsLast}

-- a cut among outcomes is the last of them
cut_is_last :
    (os : List Outcome) (x : Outcome) → is_cut x ≡ true → CutsLast os → Contains os x → slice_get os (length os - 1) ≡ Some x
cut_is_last os x cut lasts has = by_case (cases_lt (has.0 + 1) (length os))
  where
    by_case : (has.0 + 1 < length os) ⊎ (length os ≤ has.0 + 1) → slice_get os (length os - 1) ≡ Some x
    by_case (inl early) =
        let uncut = lasts has.0 (has.0 + 1) x (omega arith) early in let here = has.2 in absurd cc
    by_case (inr late) =
        let low = has.1 in
        let place : has.0 ≡ length os - 1 = omega arith in
        subst (λ (k : ℕ). slice_get os k ≡ Some x) place (slice_get-get_or os has.0 x has.1 ∙ ap Some has.2)

pub cut_where_last :
    (r : Report) (caller unit : ℕ) (os : List Outcome) → slice_get r.outcomes caller ≡ Some os → AllCutsLast r
    → WasCutIn r caller unit ↔ (slice_get os (length os - 1) ≡ Some (CutIn unit))
cut_where_last r caller unit os known lasts = (
  λ was.
      let same : was.0 ≡ os = same_Some was.0 os (sym was.1 ∙ known) in
      cut_is_last os (CutIn unit) refl (lasts caller os known) (subst (λ (xs : List Outcome). Contains xs (CutIn unit)) same was.2),
  λ last. (
    os,
    known,
    (
      length os - 1,
      slice_get_within os (length os - 1) (CutIn unit) last,
      get_or_from_slice_get os (length os - 1) (CutIn unit) (CutIn unit) last,
    ),
  ),
)
