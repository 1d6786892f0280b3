-- Events with their runs: taken apart, and one more.
use Rattle.std.proofs.Common.{◌≡◌, suc, ◌+◌, Bool, true, false, cond, List, [], ◌∷◌, ◌++◌, length, refl, sym, ap, arith}
use Rattle.std.specs.List.{filter}
use Rattle.std.proofs.lemmas.List.{length-append}
use Rattle.std.proofs.lemmas.List.Elements.{filter-append}
use Rattle.mont_base.specs.State.{Run}
use Rattle.core_steps.specs.declared.event.Event.{Event}
use Rattle.core_steps.specs.declared.event.Event.TheVariants as events
use Rattle.job_text.specs.Runs.{first_run, runs_behind, kept_run}
use Rattle.job_text.proofs.Runs.{with_run, run_suits as reply_suits}
use Rattle.replay.specs.EventWords.{has_pairs, IsRunBeside}
use Rattle.replay.specs.Schedules.{Move, moves_of, HasRuns}

-- ---- parts of events with their runs
abbrev pub events_in : List Move → List Event
events_in [] = []
events_in (p ∷ ps) = p.0 ∷ events_in ps

abbrev pub runs_in : List Move → List Run
runs_in [] = []
runs_in (p ∷ ps) = with_run (has_pairs p.0) p.1 (runs_in ps)

-- an event without a run has the empty one
abbrev pub Suits : Move → Type 0
Suits m = has_pairs m.0 ≡ false → m.1 ≡ []

pub run_suits : (e : Event) (run : Run) → IsRunBeside e run → Suits (e, run)
run_suits (events.Leave u k o r) run is none = reply_suits r run is none
run_suits (events.Read u k o r) run is none = reply_suits r run is none
run_suits _ run is none = is

-- ---- taken apart
one_pairs : (e : Event) (es : List Event) → has_pairs e ≡ true → length (filter has_pairs (e ∷ es)) ≡ 1 + length (filter has_pairs es)
one_pairs e es is =
    let at : length (filter has_pairs (e ∷ es)) ≡ suc (length (filter has_pairs es)) =
    ap (λ (t : Bool). length (cond t (e ∷ filter has_pairs es) (filter has_pairs es))) is in
    omega (arith, at)

no_pairs : (e : Event) (es : List Event) → has_pairs e ≡ false → length (filter has_pairs (e ∷ es)) ≡ length (filter has_pairs es)
no_pairs e es is = ap (λ (t : Bool). length (cond t (e ∷ filter has_pairs es) (filter has_pairs es))) is

pub events_back : (h : List Event) (rs : List Run) → events_in (moves_of h rs) ≡ h
events_back [] rs = refl
events_back (e ∷ es) rs = ap (λ (t : List Event). e ∷ t) (events_back es (runs_behind (has_pairs e) rs))

pub runs_back : (h : List Event) (rs : List Run) → HasRuns h rs → runs_in (moves_of h rs) ≡ rs
runs_back [] [] has = refl
runs_back [] (r ∷ rs) has = absurd (omega (arith, has))
runs_back (e ∷ es) rs has = by (has_pairs e) refl rs has (λ more h. runs_back es more h)
  where
    by : (b : Bool) → has_pairs e ≡ b → (rs : List Run) → HasRuns (e ∷ es) rs
        → ((more : List Run) → HasRuns es more → runs_in (moves_of es more) ≡ more)
        → with_run b (first_run b rs) (runs_in (moves_of es (runs_behind b rs))) ≡ rs
    by true is [] has again = absurd (omega (arith, has, one_pairs e es is))
    by true is (r ∷ rs) has again =
        ap (λ (t : List Run). r ∷ t) (again rs (omega (arith, has, one_pairs e es is)))
    by false is rs has again = again rs (omega (arith, has, no_pairs e es is))

pub moves_long : (h : List Event) (rs : List Run) → length (moves_of h rs) ≡ length h
moves_long [] rs = refl
moves_long (e ∷ es) rs = ap suc (moves_long es (runs_behind (has_pairs e) rs))

-- ---- one event more
pub moves_push : (es : List Event) (rs : List Run) (e : Event) (run : Run) → HasRuns es rs → Suits (e, run)
    → moves_of (es ++ e ∷ []) (rs ++ kept_run (has_pairs e) run) ≡ moves_of es rs ++ (e, run) ∷ []
moves_push [] (r ∷ rs) e run has suits = absurd (omega (arith, has))
moves_push [] [] e run has suits = by (has_pairs e) refl
  where
    by : (b : Bool) → has_pairs e ≡ b → ◌≡◌ {A = List Move} ((e, first_run b (kept_run b run)) ∷ []) ((e, run) ∷ [])
    by true is = refl
    by false is = λ i. (e, sym (suits is) i) ∷ []
moves_push (x ∷ es) rs e run has suits = by (has_pairs x) refl rs has (λ more h. moves_push es more e run h suits)
  where
    by : (b : Bool) → has_pairs x ≡ b → (rs : List Run) → HasRuns (x ∷ es) rs
        → ((more : List Run) → HasRuns es more
        → moves_of (es ++ e ∷ []) (more ++ kept_run (has_pairs e) run) ≡ moves_of es more ++ (e, run) ∷ [])
        → ◌≡◌ {A = List Move}
        ((x, first_run b (rs ++ kept_run (has_pairs e) run)) ∷ moves_of (es ++ e ∷ []) (runs_behind b (rs ++ kept_run (has_pairs e) run)))
        ((x, first_run b rs) ∷ (moves_of es (runs_behind b rs) ++ (e, run) ∷ []))
    by true is [] has again = absurd (omega (arith, has, one_pairs x es is))
    by true is (r ∷ rs) has again =
        ap (λ (t : List Move). (x, r) ∷ t) (again rs (omega (arith, has, one_pairs x es is)))
    by false is rs has again =
        ap (λ (t : List Move). (x, []) ∷ t) (again rs (omega (arith, has, no_pairs x es is)))

pub has_push : (es : List Event) (rs : List Run) (e : Event) (run : Run) → HasRuns es rs
    → HasRuns (es ++ e ∷ []) (rs ++ kept_run (has_pairs e) run)
has_push es rs e run has =
    omega (
      arith,
      has,
      length-append rs (kept_run (has_pairs e) run),
      ap length (filter-append has_pairs es (e ∷ [])),
      length-append (filter has_pairs es) (filter has_pairs (e ∷ [])),
      kept_long (has_pairs e),
    )
  where
    kept_long : (b : Bool) → length (kept_run b run) ≡ length (cond b (e ∷ []) [])
    kept_long true = refl
    kept_long false = refl
