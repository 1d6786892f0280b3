-- What a note has seen, unit by unit, and the fronts of a caller that hears it.
use Rattle.std.proofs.Common.{◌≡◌, ℕ, zero, suc, ◌<◌, List, [], ◌∷◌, length, take, set, get_or, sym, refl, ap, ◌∙◌, subst, arith}
use Rattle.std.specs.Prelude.{max}
use Rattle.std.proofs.lemmas.List.{length-map}
use Rattle.mont_base.specs.Seen.{FrontFits, FitsHistories}
use Rattle.core_steps.specs.declared.parts.UnitPart.{UnitPart}
use Rattle.core_steps.specs.declared.parts.Note.{Note}
use Rattle.core_steps.specs.Notes.{histories_of, seen_by_note, greater_fronts}
use Rattle.core_steps.proofs.RowFacts.{row_of_map, row_in_map}
use Rattle.plain.proofs.Each.{Each}
use Rattle.core_run.specs.Hearing.{FitsUnit}

pub seen_fits : (units : List UnitPart) (note : Note) → length note.fronts ≡ length units → Each (FitsUnit note) units
    → FitsHistories (histories_of units) (seen_by_note note)
seen_fits units note many each = record {
  units = many ∙ sym (length-map units (λ (p : UnitPart). p.history));
  each = λ u front h at is.
      let p = row_of_map (λ (p : UnitPart). p.history) units u h is in subst (FrontFits note.newest front) p.2 (each u p.0 p.1 front at);
}

pub fits_seen : (units : List UnitPart) (note : Note) → FitsHistories (histories_of units) (seen_by_note note) → Each (FitsUnit note) units
fits_seen units note fits u p is front at = fits.each u front p.history at (row_in_map (λ (p : UnitPart). p.history) units u p is)

pub as_many_fronts : (units : List UnitPart) (note : Note) → FitsHistories (histories_of units) (seen_by_note note)
    → length note.fronts ≡ length units
as_many_fronts units note fits = fits.units ∙ length-map units (λ (p : UnitPart). p.history)

-- ---- the greater of two lists of fronts
pub greater_none : (ns : List ℕ) → greater_fronts ns [] ≡ ns
greater_none [] = refl
greater_none (n ∷ ns) = refl

-- one more front
pub greater_more :
    (ns ms : List ℕ) (i : ℕ) → i < length ms
    → greater_fronts ns (take (suc i) ms)
    ≡ set (greater_fronts ns (take i ms)) i (max (get_or (greater_fronts ns (take i ms)) i 0) (get_or ms i 0))
greater_more [] ms i low = refl
greater_more (n ∷ ns) [] i low = absurd (omega arith)
greater_more (n ∷ ns) (m ∷ ms) zero low = ap (λ (l : List ℕ). max n m ∷ l) (greater_none ns)
greater_more (n ∷ ns) (m ∷ ms) (suc i) low = ap (λ (l : List ℕ). max n m ∷ l) (greater_more ns ms i (omega arith))
