-- How outcomes are spelled: each by words of its own.
use Rattle.std.proofs.Common.{◌≡◌, ◌≢◌, ℕ, ◌+◌, ◌*◌, ◌≤◌, Bool, true, false, IsTrue, Option, Some, None, List, [], ◌∷◌, length, map, get_or, decimal, codes, refl, sym, ap, ◌∙◌, subst, arith, lit≤}
use Rattle.std.specs.List.{All}
use Rattle.std.specs.Option.{is_some, MatchOption}
use Rattle.std.proofs.lemmas.Fmt.{decimal_injective}
use Rattle.std.proofs.lemmas.List.Elements.{All-nil}
use Rattle.mont_base.specs.declared.refusal.Which.{Which}
use Rattle.mont_base.specs.declared.refusal.Which.TheVariants as counts
use Rattle.job_text.specs.declared.outcome.Outcome.{Outcome}
use Rattle.job_text.specs.declared.outcome.Outcome.TheVariants as outcomes
use Rattle.job_text.specs.Operations.{IsNumber}
use Rattle.job_text.specs.ReportText.{outcome_words, count_word}
use Rattle.job_text.specs.ReportRanges.{AreNumbers, IsOutcomeAt}
use Rattle.job_text.specs.ReportRows.{is_of_unit, is_of_clock, MayStand}
use Rattle.job_text.proofs.Counted.{one_number, two_numbers, three_numbers}
use Rattle.job_text.proofs.ReadLines.{IsLinePart}

-- nothing is there
pub at_none : {X : Type 0} (r : Option X) (P : Type 0) (Q : X → Type 0) → is_some r ≡ false → MatchOption r P Q → P
at_none None P Q missing m = m
at_none (Some x) P Q missing m = absurd (cc)

-- no numbers of this count stand after this word
abbrev pub NoneNamed : List (List ℕ) → List ℕ → ℕ → Type 0
NoneNamed ws name n = (ns : List ℕ) → length ns ≡ n → All IsNumber ns → ws ≢ name ∷ map decimal ns

pub none_of_unit : (ws : List (List ℕ)) → NoneNamed ws (codes "at") 2 → NoneNamed ws (codes "stuck") 2 → NoneNamed ws (codes "halted") 2
    → NoneNamed ws (codes "cut") 1 → (o : Outcome) → AreNumbers o → is_of_unit o ≡ true → ws ≢ outcome_words o
none_of_unit ws at stuck halted cut (outcomes.At u n) are is e = at (u ∷ n ∷ []) refl (two_numbers u n are.0 are.1) e
none_of_unit ws at stuck halted cut (outcomes.Stuck u n) are is e = stuck (u ∷ n ∷ []) refl (two_numbers u n are.0 are.1) e
none_of_unit ws at stuck halted cut (outcomes.Halted u n) are is e = halted (u ∷ n ∷ []) refl (two_numbers u n are.0 are.1) e
none_of_unit ws at stuck halted cut (outcomes.CutIn u) are is e = cut (u ∷ []) refl (one_number u are) e
none_of_unit ws at stuck halted cut _ are is e = absurd (cc)

pub none_of_clock : (ws : List (List ℕ)) → NoneNamed ws (codes "synced") 1 → NoneNamed ws (codes "ticked") 1
    → NoneNamed ws (codes "full") 3 → (o : Outcome) → AreNumbers o → is_of_clock o ≡ true → ws ≢ outcome_words o
none_of_clock ws synced ticked full (outcomes.Synced n) are is e = synced (n ∷ []) refl (one_number n are) e
none_of_clock ws synced ticked full (outcomes.Ticked n) are is e = ticked (n ∷ []) refl (one_number n are) e
none_of_clock ws synced ticked full (outcomes.Full a b d) are is e =
    full (a ∷ b ∷ d ∷ []) refl (three_numbers a b d are.0 are.1 are.2) e
none_of_clock ws synced ticked full _ are is e = absurd (cc)

pub none_of_neither : (ws : List (List ℕ)) → NoneNamed ws (codes "clockend") 0 → NoneNamed ws (codes "cut") 0
    → ((w : Which) → ws ≢ codes "countend" ∷ count_word w ∷ []) → (o : Outcome) → is_of_unit o ≡ false → is_of_clock o ≡ false
    → ws ≢ outcome_words o
none_of_neither ws clockend cut count outcomes.ClockEnd unit clock e = clockend [] refl (All-nil IsNumber) e
none_of_neither ws clockend cut count outcomes.Cut unit clock e = cut [] refl (All-nil IsNumber) e
none_of_neither ws clockend cut count (outcomes.CountEnd w) unit clock e = count w e
none_of_neither ws clockend cut count _ unit clock e = absurd (cc)

-- each outcome is of one of the three kinds
pub no_outcome : (ws : List (List ℕ)) → ((o : Outcome) → AreNumbers o → is_of_unit o ≡ true → ws ≢ outcome_words o)
    → ((o : Outcome) → AreNumbers o → is_of_clock o ≡ true → ws ≢ outcome_words o)
    → ((o : Outcome) → is_of_unit o ≡ false → is_of_clock o ≡ false → ws ≢ outcome_words o) → (o : Outcome) → AreNumbers o
    → ws ≢ outcome_words o
no_outcome ws unit clock neither (outcomes.At u n) are = unit (outcomes.At u n) are refl
no_outcome ws unit clock neither (outcomes.Synced n) are = clock (outcomes.Synced n) are refl
no_outcome ws unit clock neither (outcomes.Ticked n) are = clock (outcomes.Ticked n) are refl
no_outcome ws unit clock neither (outcomes.Stuck u n) are = unit (outcomes.Stuck u n) are refl
no_outcome ws unit clock neither outcomes.ClockEnd are = neither outcomes.ClockEnd refl refl
no_outcome ws unit clock neither (outcomes.Full a b d) are = clock (outcomes.Full a b d) are refl
no_outcome ws unit clock neither (outcomes.CountEnd w) are = neither (outcomes.CountEnd w) refl refl
no_outcome ws unit clock neither (outcomes.Halted u n) are = unit (outcomes.Halted u n) are refl
no_outcome ws unit clock neither (outcomes.CutIn u) are = unit (outcomes.CutIn u) are refl
no_outcome ws unit clock neither outcomes.Cut are = neither outcomes.Cut refl refl

same : (m n : ℕ) → IsNumber m → IsNumber n → decimal m ≡ decimal n → m ≡ n
same m n small few e = decimal_injective m n small few e

count_once : (v w : Which) → count_word v ≡ count_word w → v ≡ w
count_once counts.Call counts.Call e = refl
count_once counts.Place counts.Place e = refl
count_once counts.Identity counts.Identity e = refl
count_once counts.Version counts.Version e = refl
count_once counts.Serial counts.Serial e = refl
count_once _ _ e = absurd (cc)

-- a number that tells names apart: their lengths, their first two bytes, and how many words there are
abbrev word_code : List (List ℕ) → ℕ
word_code ws = ((length (get_or ws 0 []) * 256 + get_or (get_or ws 0 []) 0 0) * 256 + get_or (get_or ws 0 []) 1 0) * 8 + length ws

-- no two outcomes have one spelling
outcome_once : (o p : Outcome) → AreNumbers o → AreNumbers p → outcome_words o ≡ outcome_words p → o ≡ p
outcome_once (outcomes.At u n) (outcomes.At v m) a b e =
    let f = same u v a.0 b.0 (let d : decimal u ≡ decimal v = cc in d) in
    let g = same n m a.1 b.1 (let d : decimal n ≡ decimal m = cc in d) in
    cc
outcome_once (outcomes.Synced n) (outcomes.Synced m) a b e = let f = same n m a b (let d : decimal n ≡ decimal m = cc in d) in cc
outcome_once (outcomes.Ticked n) (outcomes.Ticked m) a b e = let f = same n m a b (let d : decimal n ≡ decimal m = cc in d) in cc
outcome_once (outcomes.Stuck u n) (outcomes.Stuck v m) a b e =
    let f = same u v a.0 b.0 (let d : decimal u ≡ decimal v = cc in d) in
    let g = same n m a.1 b.1 (let d : decimal n ≡ decimal m = cc in d) in
    cc
outcome_once outcomes.ClockEnd outcomes.ClockEnd a b e = refl
outcome_once (outcomes.Full u n k) (outcomes.Full v m l) a b e =
    let f = same u v a.0 b.0 (let d : decimal u ≡ decimal v = cc in d) in
    let g = same n m a.1 b.1 (let d : decimal n ≡ decimal m = cc in d) in
    let h = same k l a.2 b.2 (let d : decimal k ≡ decimal l = cc in d) in
    cc
outcome_once (outcomes.CountEnd v) (outcomes.CountEnd w) a b e = let f = count_once v w (let d : count_word v
    ≡ count_word w = cc in d) in cc
outcome_once (outcomes.Halted u n) (outcomes.Halted v m) a b e =
    let f = same u v a.0 b.0 (let d : decimal u ≡ decimal v = cc in d) in
    let g = same n m a.1 b.1 (let d : decimal n ≡ decimal m = cc in d) in
    cc
outcome_once (outcomes.CutIn u) (outcomes.CutIn v) a b e = let f = same u v a b (let d : decimal u ≡ decimal v = cc in d) in cc
outcome_once outcomes.Cut outcomes.Cut a b e = refl
outcome_once _ _ a b e = absurd (omega (arith, ap word_code e))

few_words : (o : Outcome) → length (outcome_words o) ≤ 4
few_words (outcomes.At u n) = lit≤ tt
few_words (outcomes.Synced n) = lit≤ tt
few_words (outcomes.Ticked n) = lit≤ tt
few_words (outcomes.Stuck u n) = lit≤ tt
few_words outcomes.ClockEnd = lit≤ tt
few_words (outcomes.Full a b d) = lit≤ tt
few_words (outcomes.CountEnd w) = lit≤ tt
few_words (outcomes.Halted u n) = lit≤ tt
few_words (outcomes.CutIn u) = lit≤ tt
few_words outcomes.Cut = lit≤ tt

-- the outcome that is spelled may not stand there, so none does
pub none_stands : (ws : List (List ℕ)) (units callers n place : ℕ) (o : Outcome) (b : Bool) → AreNumbers o → ws ≡ outcome_words o
    → b ≡ false
    → (MayStand units callers n place o → IsTrue b) → (p : Outcome) → IsOutcomeAt units callers n place p → ws ≢ outcome_words p
none_stands ws units callers n place o b are spelled fails stands p is e =
    let same : p ≡ o = outcome_once p o is.numbers are (sym e ∙ spelled) in
    let may = stands (subst (MayStand units callers n place) same (is.range, is.last)) in
    absurd (cc)

pub it_stands : (ws : List (List ℕ)) (units callers n place : ℕ) (o : Outcome) (b : Bool) → AreNumbers o → ws ≡ outcome_words o
    → b ≡ true
    → (IsTrue b → MayStand units callers n place o) → IsOutcomeAt units callers n place o × (ws ≡ outcome_words o)
it_stands ws units callers n place o b are spelled holds stands =
    let may = stands holds in
    (record { numbers = are; range = may.0; last = may.1 }, spelled)

pub outcome_part : (units callers n place : ℕ) → IsLinePart (IsOutcomeAt units callers n place) outcome_words
outcome_part units callers n place = record {
  value = outcomes.ClockEnd;
  is = record { numbers = tt; range = tt; last = λ e. absurd (cc) };
  short = λ o is. omega (arith, few_words o);
  once = λ o p is are e. outcome_once o p is.numbers are.numbers e;
}
