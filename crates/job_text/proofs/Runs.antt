-- Entries with their runs: taken apart, and put together again.
use Rattle.std.proofs.Common.{◌≡◌, ℕ, suc, zero, ◌+◌, ◌<◌, Bool, true, false, cond, List, [], ◌∷◌, ◌++◌, length, map, get_or, refl, sym, ap, arith}
use Rattle.std.specs.List.{filter}
use Rattle.std.proofs.lemmas.List.{length-append}
use Rattle.std.proofs.lemmas.List.Elements.{filter-append}
use Rattle.mont_base.specs.declared.operation.Entry.{Entry}
use Rattle.mont_base.specs.declared.operation.Reply.{Reply}
use Rattle.mont_base.specs.declared.operation.Reply.TheVariants as replies
use Rattle.mont_base.specs.State.{Run}
use Rattle.job_text.specs.TextParts.{AllFrom}
use Rattle.job_text.specs.Runs.{has_run, is_range, Spelled, first_run, runs_behind, kept_run, spelled, spelled_all, HasRuns, HaveRuns}
use Rattle.job_text.specs.ReportRanges.{IsRunOf, IsSpelled, AreCounted}

-- ---- parts of entries with their runs
abbrev pub entries_in : List Spelled → List Entry
entries_in [] = []
entries_in (p ∷ ps) = p.0 ∷ entries_in ps

abbrev pub with_run : Bool → Run → List Run → List Run
with_run true run runs = run ∷ runs
with_run false run runs = runs

abbrev pub runs_in : List Spelled → List Run
runs_in [] = []
runs_in (p ∷ ps) = with_run (is_range p.0) p.1 (runs_in ps)

-- an entry without a run has the empty one
abbrev pub Suits : Spelled → Type 0
Suits p = has_run p.0.reply ≡ false → p.1 ≡ []

abbrev pub AllSuit : List Spelled → Type 0
AllSuit [] = Unit {0}
AllSuit (p ∷ ps) = Suits p × AllSuit ps

pub run_suits : (r : Reply) (run : Run) → IsRunOf r run → has_run r ≡ false → run ≡ []
run_suits replies.Nothing run is e = is
run_suits (replies.Was v) run is e = is
run_suits (replies.WasText v) run is e = is
run_suits (replies.Count n) run is e = is
run_suits replies.NoEnds run is e = is
run_suits (replies.Key k) run is e = is
run_suits (replies.Pairs n) run is e = absurd (cc)

pub all_suit : (callers k : ℕ) (ps : List Spelled) → AllFrom (λ place p. IsSpelled callers p) k ps → AllSuit ps
all_suit callers k [] all = tt
all_suit callers k (p ∷ ps) all = (run_suits p.0.reply p.1 all.0.1, all_suit callers (k + 1) ps all.1)

-- ---- taken apart
one_range : (e : Entry) (es : List Entry) → is_range e ≡ true → length (filter is_range (e ∷ es)) ≡ 1 + length (filter is_range es)
one_range e es is =
    let at : length (filter is_range (e ∷ es)) ≡ suc (length (filter is_range es)) =
    ap (λ (t : Bool). length (cond t (e ∷ filter is_range es) (filter is_range es))) is in
    omega (arith, at)

no_range : (e : Entry) (es : List Entry) → is_range e ≡ false → length (filter is_range (e ∷ es)) ≡ length (filter is_range es)
no_range e es is = ap (λ (t : Bool). length (cond t (e ∷ filter is_range es) (filter is_range es))) is

pub entries_back : (h : List Entry) (rs : List Run) → entries_in (spelled h rs) ≡ h
entries_back [] rs = refl
entries_back (e ∷ es) rs = ap (λ (t : List Entry). e ∷ t) (entries_back es (runs_behind (is_range e) rs))

pub runs_back : (h : List Entry) (rs : List Run) → HasRuns h rs → runs_in (spelled h rs) ≡ rs
runs_back [] [] has = refl
runs_back [] (r ∷ rs) has = absurd (omega (arith, has))
runs_back (e ∷ es) rs has = by (is_range e) refl rs has (λ more h. runs_back es more h)
  where
    by : (b : Bool) → is_range e ≡ b → (rs : List Run) → HasRuns (e ∷ es) rs
        → ((more : List Run) → HasRuns es more → runs_in (spelled es more) ≡ more)
        → with_run b (first_run b rs) (runs_in (spelled es (runs_behind b rs))) ≡ rs
    by true is [] has again = absurd (omega (arith, has, one_range e es is))
    by true is (r ∷ rs) has again =
        ap (λ (t : List Run). r ∷ t) (again rs (omega (arith, has, one_range e es is)))
    by false is rs has again = again rs (omega (arith, has, no_range e es is))

pub spelled_long : (h : List Entry) (rs : List Run) → length (spelled h rs) ≡ length h
spelled_long [] rs = refl
spelled_long (e ∷ es) rs = ap suc (spelled_long es (runs_behind (is_range e) rs))

-- ---- put together
pub spelled_back : (ps : List Spelled) → AllSuit ps → spelled (entries_in ps) (runs_in ps) ≡ ps
spelled_back [] all = refl
spelled_back (p ∷ ps) all = by (is_range p.0) refl (spelled_back ps all.1)
  where
    by : (b : Bool) → is_range p.0 ≡ b → spelled (entries_in ps) (runs_in ps) ≡ ps
        → ◌≡◌ {A = List Spelled}
        ((p.0, first_run b (with_run b p.1 (runs_in ps))) ∷ spelled (entries_in ps) (runs_behind b (with_run b p.1 (runs_in ps)))) (p ∷ ps)
    by true is again = ap (λ (t : List Spelled). p ∷ t) again
    by false is again = λ i. (p.0, sym (all.0 is) i) ∷ again i

pub has_back : (ps : List Spelled) → HasRuns (entries_in ps) (runs_in ps)
has_back [] = refl
has_back (p ∷ ps) = by (is_range p.0) refl (has_back ps)
  where
    by : (b : Bool) → is_range p.0 ≡ b → HasRuns (entries_in ps) (runs_in ps)
        → length (with_run b p.1 (runs_in ps)) ≡ length (cond b (p.0 ∷ filter is_range (entries_in ps)) (filter is_range (entries_in ps)))
    by true is again = omega (arith, again)
    by false is again = again

-- ---- unit by unit
abbrev pub AllSuitOf : List (List Spelled) → Type 0
AllSuitOf [] = Unit {0}
AllSuitOf (ps ∷ pss) = AllSuit ps × AllSuitOf pss

pub all_suit_of : (callers k : ℕ) (pss : List (List Spelled)) → AllFrom (λ unit h. AreCounted (IsSpelled callers) h) k pss → AllSuitOf pss
all_suit_of callers k [] all = tt
all_suit_of callers k (ps ∷ pss) all = (all_suit callers 0 ps all.0.each, all_suit_of callers (k + 1) pss all.1)

pub histories_back : (hs : List (List Entry)) (rss : List (List Run)) → map entries_in (spelled_all hs rss) ≡ hs
histories_back [] rss = refl
histories_back (h ∷ hs) [] = λ i. entries_back h [] i ∷ histories_back hs [] i
histories_back (h ∷ hs) (rs ∷ rss) = λ i. entries_back h rs i ∷ histories_back hs rss i

pub all_runs_back : (hs : List (List Entry)) (rss : List (List Run)) → HaveRuns hs rss → map runs_in (spelled_all hs rss) ≡ rss
all_runs_back [] [] have = refl
all_runs_back [] (rs ∷ rss) have = absurd have
all_runs_back (h ∷ hs) [] have = absurd have
all_runs_back (h ∷ hs) (rs ∷ rss) have = λ i. runs_back h rs have.0 i ∷ all_runs_back hs rss have.1 i

pub spelled_all_back : (pss : List (List Spelled)) → AllSuitOf pss → spelled_all (map entries_in pss) (map runs_in pss) ≡ pss
spelled_all_back [] all = refl
spelled_all_back (ps ∷ pss) all = λ i. spelled_back ps all.0 i ∷ spelled_all_back pss all.1 i

pub have_back : (pss : List (List Spelled)) → HaveRuns (map entries_in pss) (map runs_in pss)
have_back [] = tt
have_back (ps ∷ pss) = (has_back ps, have_back pss)

pub spelled_all_long : (hs : List (List Entry)) (rss : List (List Run)) → length (spelled_all hs rss) ≡ length hs
spelled_all_long [] rss = refl
spelled_all_long (h ∷ hs) [] = ap suc (spelled_all_long hs [])
spelled_all_long (h ∷ hs) (rs ∷ rss) = ap suc (spelled_all_long hs rss)

pub spelled_at : (hs : List (List Entry)) (rss : List (List Run)) (k : ℕ) (d : List Entry) (p : List Spelled) → k < length hs
    → get_or (spelled_all hs rss) k p ≡ spelled (get_or hs k d) (get_or rss k [])
spelled_at [] rss k d p low = absurd (omega arith)
spelled_at (h ∷ hs) [] zero d p low = refl
spelled_at (h ∷ hs) (rs ∷ rss) zero d p low = refl
spelled_at (h ∷ hs) [] (suc k) d p low = spelled_at hs [] k d p (omega arith)
spelled_at (h ∷ hs) (rs ∷ rss) (suc k) d p low = spelled_at hs rss k d p (omega arith)

-- ---- one entry more, one unit more
pub spelled_push : (es : List Entry) (rs : List Run) (e : Entry) (run : Run) → HasRuns es rs → Suits (e, run)
    → spelled (es ++ e ∷ []) (rs ++ kept_run (is_range e) run) ≡ spelled es rs ++ (e, run) ∷ []
spelled_push [] (r ∷ rs) e run has suits = absurd (omega (arith, has))
spelled_push [] [] e run has suits = by (is_range e) refl
  where
    by : (b : Bool) → is_range e ≡ b → ◌≡◌ {A = List Spelled} ((e, first_run b (kept_run b run)) ∷ []) ((e, run) ∷ [])
    by true is = refl
    by false is = λ i. (e, sym (suits is) i) ∷ []
spelled_push (x ∷ es) rs e run has suits = by (is_range x) refl rs has (λ more h. spelled_push es more e run h suits)
  where
    by : (b : Bool) → is_range x ≡ b → (rs : List Run) → HasRuns (x ∷ es) rs
        → ((more : List Run) → HasRuns es more
        → spelled (es ++ e ∷ []) (more ++ kept_run (is_range e) run) ≡ spelled es more ++ (e, run) ∷ [])
        → ◌≡◌ {A = List Spelled}
        ((x, first_run b (rs ++ kept_run (is_range e) run)) ∷ spelled (es ++ e ∷ []) (runs_behind b (rs ++ kept_run (is_range e) run)))
        ((x, first_run b rs) ∷ (spelled es (runs_behind b rs) ++ (e, run) ∷ []))
    by true is [] has again = absurd (omega (arith, has, one_range x es is))
    by true is (r ∷ rs) has again =
        ap (λ (t : List Spelled). (x, r) ∷ t) (again rs (omega (arith, has, one_range x es is)))
    by false is rs has again =
        ap (λ (t : List Spelled). (x, []) ∷ t) (again rs (omega (arith, has, no_range x es is)))

pub has_push : (es : List Entry) (rs : List Run) (e : Entry) (run : Run) → HasRuns es rs
    → HasRuns (es ++ e ∷ []) (rs ++ kept_run (is_range e) run)
has_push es rs e run has =
    omega (
      arith,
      has,
      length-append rs (kept_run (is_range e) run),
      ap length (filter-append is_range es (e ∷ [])),
      length-append (filter is_range es) (filter is_range (e ∷ [])),
      kept_long (is_range e),
    )
  where
    kept_long : (b : Bool) → length (kept_run b run) ≡ length (cond b (e ∷ []) [])
    kept_long true = refl
    kept_long false = refl

pub have_long : (hs : List (List Entry)) (rss : List (List Run)) → HaveRuns hs rss → length hs ≡ length rss
have_long [] [] have = refl
have_long [] (rs ∷ rss) have = absurd have
have_long (h ∷ hs) [] have = absurd have
have_long (h ∷ hs) (rs ∷ rss) have = ap suc (have_long hs rss have.1)

pub spelled_all_push : (hs : List (List Entry)) (rss : List (List Run)) (h : List Entry) (rs : List Run) → HaveRuns hs rss
    → spelled_all (hs ++ h ∷ []) (rss ++ rs ∷ []) ≡ spelled_all hs rss ++ spelled h rs ∷ []
spelled_all_push [] [] h rs have = refl
spelled_all_push [] (q ∷ rss) h rs have = absurd have
spelled_all_push (g ∷ hs) [] h rs have = absurd have
spelled_all_push (g ∷ hs) (q ∷ rss) h rs have = ap (λ (t : List (List Spelled)). spelled g q ∷ t) (spelled_all_push hs rss h rs have.1)

pub have_push : (hs : List (List Entry)) (rss : List (List Run)) (h : List Entry) (rs : List Run) → HaveRuns hs rss → HasRuns h rs
    → HaveRuns (hs ++ h ∷ []) (rss ++ rs ∷ [])
have_push [] [] h rs have has = (has, tt)
have_push [] (q ∷ rss) h rs have has = absurd have
have_push (g ∷ hs) [] h rs have has = absurd have
have_push (g ∷ hs) (q ∷ rss) h rs have has = (have.0, have_push hs rss h rs have.1 has)
