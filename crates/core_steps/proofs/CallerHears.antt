-- A caller takes a note, or loads the durable clock.
use Rattle.std.proofs.Common.{◌≡◌, ℕ, zero, suc, ◌+◌, ◌<◌, ◌≤◌, max, ◌⊎◌, List, [], ◌∷◌, length, take, set, sym, refl, ap, ◌∙◌, inl, inr, ⊎_elim, arith}
use Rattle.std.specs.Prelude.{slice_get, Option, Some, All, not, nat_le}
use Rattle.std.specs.List.{list_any}
use Rattle.std.proofs.lemmas.Bool.{cond_both, leb-true, cases_lt}
use Rattle.std.proofs.lemmas.List.Elements.{All-weaker, All-append, All-filter}
use Rattle.std.proofs.lemmas.Option.{same_Some, slice_get_within}
use Rattle.mont_base.specs.declared.operation.Entry.{Entry}
use Rattle.mont_base.specs.declared.operation.Receipt.{Receipt}
use Rattle.mont_base.specs.Seen.{FrontFits, FitsHistories}
use Rattle.core_steps.specs.declared.parts.CallerPart.{CallerPart}
use Rattle.core_steps.specs.declared.parts.Mark.{Mark}
use Rattle.core_steps.specs.declared.parts.Note.{Note}
use Rattle.core_steps.specs.Closing.{after_see_durable}
use Rattle.core_steps.specs.CallerClauses.{view_of, IsBehind, IsSynced, CallerFits, CallersFit}
use Rattle.core_steps.specs.Notes.{IsTrueMark, IsTrueOf, greater_fronts, same_mark, joined_marks, after_hear}
use Rattle.core_steps.proofs.RowFacts.{item_at, row_from, row_gives}
use Rattle.core_steps.proofs.CallerFrames.{caller_set}

-- ---- the greater fronts
greater_length : (ns ms : List ℕ) → length (greater_fronts ns ms) ≡ length ns
greater_length [] ms = refl
greater_length (n ∷ ns) [] = refl
greater_length (n ∷ ns) (m ∷ ms) = ap suc (greater_length ns ms)

-- each of them is one of the two
greater_cases : (ns ms : List ℕ) (u f : ℕ) → slice_get (greater_fronts ns ms) u ≡ Some f
    → (slice_get ns u ≡ Some f) ⊎ (slice_get ms u ≡ Some f)
greater_cases [] ms u f e = inl e
greater_cases (n ∷ ns) [] u f e = inl e
greater_cases (n ∷ ns) (m ∷ ms) zero f e = ⊎_elim
    (λ (t : max n m ≡ n). inl (ap Some (sym t) ∙ e))
    (λ (t : max n m ≡ m). inr (ap Some (sym t) ∙ e))
    (either n m)
  where
    -- the greater of two is one of them
    either : (n m : ℕ) → (max n m ≡ n) ⊎ (max n m ≡ m)
    either n m = ⊎_elim (λ (l : n < m). inr (omega arith)) (λ (l : m ≤ n). inl (omega arith)) (cases_lt n m)
greater_cases (n ∷ ns) (m ∷ ms) (suc u) f e = greater_cases ns ms u f e

-- and isn't below the first
greater_reaches : (ns ms : List ℕ) (u n : ℕ) → slice_get ns u ≡ Some n → (f : ℕ) × (slice_get (greater_fronts ns ms) u ≡ Some f) × (n ≤ f)
greater_reaches [] ms u n e = absurd (cc)
greater_reaches (x ∷ xs) [] u n e = (n, e, omega arith)
greater_reaches (x ∷ xs) (y ∷ ys) zero n e = let is = same_Some x n e in (max x y, refl, omega arith)
greater_reaches (x ∷ xs) (y ∷ ys) (suc u) n e = greater_reaches xs ys u n e

-- ---- a caller takes a note
module _ (histories : List (List Entry)) (cuts : List (Option ℕ)) (now durable k : ℕ) (q : CallerPart) (note : Note)
    (fit : CallerFits histories cuts now k q) (true_note : IsTrueOf histories cuts now durable note) where
  -- the caller that took the note
  abbrev heard : CallerPart
  heard = after_hear q note

  -- its receipts stand before the greater fronts
  behind_heard : (r : Receipt) → IsBehind q r → IsBehind heard r
  behind_heard r b =
      let n = row_gives (λ (n : ℕ). r.place < n) (slice_get q.fronts r.unit) b.front in
      let f = greater_reaches q.fronts note.fronts r.unit n.0 n.1 in
      let old = b.newest in record {
        front = row_from (λ (n : ℕ). r.place < n) (slice_get heard.fronts r.unit) f.0 f.1 (omega arith);
        newest = omega arith;
      }

  -- a front fits for a greater epoch too
  front_heard : (low front : ℕ) (h : List Entry) → low ≤ heard.newest → FrontFits low front h → FrontFits heard.newest front h
  front_heard low front h l f = record {
    there = f.there;
    epochs = All-weaker (λ (e : Entry). e.epoch ≤ low) (λ (e : Entry). e.epoch ≤ heard.newest) (λ e m. omega arith) (take front h) f.epochs;
  }

  -- what it then has seen is there
  seen_heard : FitsHistories histories (view_of heard)
  seen_heard = record {
    units = greater_length q.fronts note.fronts ∙ fit.seen.units;
    each = λ u front h at is. ⊎_elim
        (λ (t : slice_get q.fronts u ≡ Some front). front_heard q.newest front h (omega arith) (fit.seen.each u front h t is))
        (λ (t : slice_get note.fronts u ≡ Some front). front_heard note.newest front h (omega arith) (true_note.fits.each u front h t is))
        (greater_cases q.fronts note.fronts u front at);
  }

  -- what it knows to be durable stays
  synced_heard : IsSynced histories heard
  synced_heard = record {
    units = fit.synced.units;
    seen = λ u n m at is.
        let s = fit.seen.units in
        let w = slice_get_within q.synced u n at in
        let y = fit.synced.units in
        let f = item_at q.fronts u (omega arith) in
        let g = greater_reaches q.fronts note.fronts u f.0 f.1 in
        let low = fit.synced.seen u n f.0 at f.1 in
        let same = same_Some g.0 m (sym g.1 ∙ is) in
        omega arith;
    durable = λ u n h at is. All-weaker (λ (e : Entry). e.epoch + 2 ≤ q.durable) (λ (e : Entry). e.epoch + 2 ≤ heard.durable)
        (λ e l. omega arith) (take n h) (fit.synced.durable u n h at is);
  }

  -- its marks are its own and the note's
  marks_heard : All (IsTrueMark cuts) (joined_marks q.marks note.marks)
  marks_heard = All-append (IsTrueMark cuts) q.marks _ fit.marks
      (All-filter (λ (m : Mark). not (list_any (same_mark m) q.marks)) (IsTrueMark cuts) note.marks true_note.marks)

  -- all that is true of it
  caller_heard : CallerFits histories cuts now k heard
  caller_heard = let own = fit.reached in let others = true_note.newest in record {
    calls = fit.calls;
    receipts = fit.receipts;
    order = fit.order;
    behind = All-weaker (IsBehind q) (IsBehind heard) behind_heard q.receipts fit.behind;
    seen = seen_heard;
    reached = omega arith;
    synced = synced_heard;
    cut_in = fit.cut_in;
    marks = marks_heard;
  }

-- the durable clock that the caller then knows was reached
pub durable_heard : (q : CallerPart) (note : Note) (durable : ℕ) → q.durable ≤ durable → note.durable ≤ durable
    → (after_hear q note).durable ≤ durable
durable_heard q note durable l m = omega arith

-- ---- a caller loads the durable clock
module _ (histories : List (List Entry)) (cuts : List (Option ℕ)) (now k d : ℕ) (q : CallerPart) (fit : CallerFits histories cuts now k q)
    (reached : q.durable ≤ d) where
  -- the caller that loaded the clock
  abbrev informed : CallerPart
  informed = after_see_durable q d

  -- what it knew to be durable
  synced_before : IsSynced histories (record q { durable = d })
  synced_before = record {
    units = fit.synced.units;
    seen = fit.synced.seen;
    durable = λ u n h at is. All-weaker (λ (e : Entry). e.epoch + 2 ≤ q.durable) (λ (e : Entry). e.epoch + 2 ≤ d) (λ e l. omega arith)
        (take n h) (fit.synced.durable u n h at is);
  }

  -- or all that it has seen
  synced_all : q.newest + 2 ≤ d → IsSynced histories (record q { durable = d; synced = q.fronts })
  synced_all l = record {
    units = fit.seen.units;
    seen = λ u n m at is. let same = same_Some n m (sym at ∙ is) in omega arith;
    durable = λ u n h at is. All-weaker (λ (e : Entry). e.epoch ≤ q.newest) (λ (e : Entry). e.epoch + 2 ≤ d) (λ e m. omega arith) (take n h)
        (fit.seen.each u n h at is).epochs;
  }

  -- what it then knows to be durable
  synced_informed : IsSynced histories informed
  synced_informed = cond_both (nat_le (q.newest + 2) d) q.fronts q.synced
      (λ fronts. IsSynced histories (record q { durable = d; synced = fronts }))
      (λ e. synced_all (leb-true (q.newest + 2) d e)) (λ e. synced_before)

  -- all that is true of it
  caller_informed : CallerFits histories cuts now k informed
  caller_informed = record {
    calls = fit.calls;
    receipts = fit.receipts;
    order = fit.order;
    behind = All-weaker (IsBehind q) (IsBehind informed) (λ r b. record { front = b.front; newest = b.newest }) q.receipts fit.behind;
    seen = fit.seen;
    reached = fit.reached;
    synced = synced_informed;
    cut_in = fit.cut_in;
    marks = fit.marks;
  }

-- ---- all callers
module _ (histories : List (List Entry)) (cuts : List (Option ℕ)) (now k : ℕ) (callers : List CallerPart) (q : CallerPart) (odd : List ℕ)
    (there : slice_get callers k ≡ Some q) (f : CallersFit histories cuts now callers odd) where
  -- A caller takes a note.
  pub callers_hear : (durable : ℕ) (note : Note) → IsTrueOf histories cuts now durable note
      → CallersFit histories cuts now (set callers k (after_hear q note)) odd
  callers_hear durable note t = caller_set histories cuts now callers odd k q (after_hear q note) there refl refl
      (caller_heard histories cuts now durable k q note (f.each k q there) t) f

  -- A caller loads the durable clock, which isn't below the one that it knows.
  pub callers_see_durable : (d : ℕ) → q.durable ≤ d → CallersFit histories cuts now (set callers k (after_see_durable q d)) odd
  callers_see_durable d l = caller_set histories cuts now callers odd k q (after_see_durable q d) there refl refl
      (caller_informed histories cuts now k d q (f.each k q there) l) f
