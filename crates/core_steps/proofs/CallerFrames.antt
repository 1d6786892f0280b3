-- What the callers know stays true where the clock moves, a unit's part changes, a caller is cut, or
-- the advancer loads an announcement.
use Rattle.std.proofs.Common.{◌≡◌, ℕ, ◌+◌, ◌*◌, ◌<◌, ◌≤◌, ◌≢◌, List, [], ◌∷◌, ◌++◌, length, set, sym, refl, ap, ◌∙◌, subst, ⊎_elim, arith, true}
use Rattle.std.specs.Prelude.{slice_get, Option, Some, None, All, not, ◌&&◌, ◌==◌, ◌%◌, slice_index}
use Rattle.std.specs.List.{Contains, list_any}
use Rattle.std.proofs.lemmas.Bool.{cond_both, and_parts, eqb-true, cases_lt}
use Rattle.std.proofs.lemmas.List.{map-set, length-map, get_or_past}
use Rattle.std.proofs.lemmas.List.Elements.{All-weaker, All-push, Contains-push, Contains-append_left}
use Rattle.std.proofs.lemmas.Option.{slice_get-map, slice_get_within, same_Some, get_or_from_slice_get}
use Rattle.mont_base.specs.declared.operation.Entry.{Entry}
use Rattle.mont_base.specs.declared.operation.Receipt.{Receipt}
use Rattle.core_steps.specs.declared.parts.UnitPart.{UnitPart}
use Rattle.core_steps.specs.declared.parts.CallerPart.{CallerPart}
use Rattle.core_steps.specs.declared.parts.UnitStage.{UnitStage}
use Rattle.core_steps.specs.declared.parts.UnitStage.TheVariants.{Idle, Told, Within, Closing}
use Rattle.core_steps.specs.Announcing.{caller_after_freeze}
use Rattle.core_steps.specs.Advancing.{is_odd, with_odd}
use Rattle.core_steps.specs.CallerClauses.{IsBehind, IsSynced, CallerFits, HasReceipt, IsNamed, IsCut, CallersFit}
use Rattle.core_steps.specs.Notes.{Moment, Grows, left_within, lefts_of, histories_of, cuts_of}
use Rattle.core_steps.specs.Places.{RowHas}
use Rattle.core_steps.specs.Sound.{announced, announcement, Announcements}
use Rattle.core_steps.proofs.Rows.{row_here, row_set, row_same, each_set}
use Rattle.core_steps.proofs.RowFacts.{item_at, row_from, row_gives, row_has_set, zip_of_left}
use Rattle.core_steps.proofs.Growth.{front_stays, as_many_later, view_later, receipt_later, marks_later, grows_by_clock, has_none, grows_by_cut}

-- ---- histories and cut callers, after one unit's part has changed
pub histories_set : (units : List UnitPart) (u : ℕ) (q : UnitPart) → histories_of (set units u q) ≡ set (histories_of units) u q.history
histories_set units u q = map-set (λ (p : UnitPart). p.history) units u q

-- the cut callers
pub cuts_set : (units : List UnitPart) (u : ℕ) (q : UnitPart) → cuts_of (set units u q) ≡ set (cuts_of units) u q.frozen
cuts_set units u q = map-set (λ (p : UnitPart). p.frozen) units u q

-- the epochs within which units are left
pub lefts_set : (units : List UnitPart) (u : ℕ) (q : UnitPart)
    → lefts_of (set units u q) ≡ set (lefts_of units) u (left_within q.frozen q.stage)
lefts_set units u q = map-set (λ (p : UnitPart). left_within p.frozen p.stage) units u q

-- a unit's history
pub history_row : (units : List UnitPart) (u : ℕ) (p : UnitPart) → slice_get units u ≡ Some p
    → slice_get (histories_of units) u ≡ Some p.history
history_row units u p e = rw (slice_get-map, e) refl

-- and the caller that was cut in it
pub cut_row : (units : List UnitPart) (u : ℕ) (p : UnitPart) → slice_get units u ≡ Some p → slice_get (cuts_of units) u ≡ Some p.frozen
cut_row units u p e = rw (slice_get-map, e) refl

-- and the epoch within which it is left
pub left_row : (units : List UnitPart) (u : ℕ) (p : UnitPart) → slice_get units u ≡ Some p
    → slice_get (lefts_of units) u ≡ Some (left_within p.frozen p.stage)
left_row units u p e = rw (slice_get-map, e) refl

-- a part that keeps its history
pub histories_kept : (units : List UnitPart) (u : ℕ) (p q : UnitPart) → slice_get units u ≡ Some p → q.history ≡ p.history
    → histories_of (set units u q) ≡ histories_of units
histories_kept units u p q e same =
    histories_set units u q ∙ row_same (histories_of units) u q.history (history_row units u p e ∙ ap Some (sym same))

-- a part that keeps its cut caller
pub cuts_kept : (units : List UnitPart) (u : ℕ) (p q : UnitPart) → slice_get units u ≡ Some p → q.frozen ≡ p.frozen
    → cuts_of (set units u q) ≡ cuts_of units
cuts_kept units u p q e same =
    cuts_set units u q ∙ row_same (cuts_of units) u q.frozen (cut_row units u p e ∙ ap Some (sym same))

-- a part that is left within the same epoch, if within one
pub lefts_kept : (units : List UnitPart) (u : ℕ) (p q : UnitPart) → slice_get units u ≡ Some p
    → left_within q.frozen q.stage ≡ left_within p.frozen p.stage → lefts_of (set units u q) ≡ lefts_of units
lefts_kept units u p q e same =
    lefts_set units u q
    ∙ row_same (lefts_of units) u (left_within q.frozen q.stage) (left_row units u p e ∙ ap Some (sym same))

-- each unit has a history
pub histories_length : (units : List UnitPart) → length (histories_of units) ≡ length units
histories_length units = length-map units (λ (p : UnitPart). p.history)

-- and a place for a cut caller
pub cuts_length : (units : List UnitPart) → length (cuts_of units) ≡ length units
cuts_length units = length-map units (λ (p : UnitPart). p.frozen)

-- ---- one caller, while histories grow
module _ (old new : Moment) (g : Grows old new) (q : CallerPart) where
  -- a synced front is within the history
  pub synced_later : (k : ℕ) → CallerFits old.histories old.cuts old.now k q → IsSynced new.histories q
  synced_later k f = record {
    units = f.synced.units ∙ sym (as_many_later old new g);
    seen = f.synced.seen;
    durable = λ u n h at is.
        let z = zip_of_left _ new.histories old.histories u h g.histories is in
        let w : u < length old.histories = slice_get_within old.histories u z.0 z.1 in
        let s = f.seen.units in
        let m = item_at q.fronts u (omega arith) in
        let b = f.synced.seen u n m.0 at m.1 in
        let t = (f.seen.each u m.0 z.0 m.1 z.1).there in
        subst (All (λ (e : Entry). e.epoch + 2 ≤ q.durable))
        (sym (front_stays n z.0 h z.2 (omega arith)))
        (f.synced.durable u n z.0 at z.1);
  }

  -- what is true of a caller stays true
  pub caller_later : (k : ℕ) → CallerFits old.histories old.cuts old.now k q → CallerFits new.histories new.cuts new.now k q
  caller_later k f = record {
    calls = f.calls;
    receipts = λ i r e. receipt_later old new g k i r (f.receipts i r e);
    order = f.order;
    behind = f.behind;
    seen = view_later old new g _ f.seen;
    reached = let n = f.reached in let m = g.now in omega arith;
    synced = synced_later k f;
    cut_in = subst (λ (n : ℕ). All (λ (u : ℕ). u < n) q.cuts) (sym (as_many_later old new g)) f.cut_in;
    marks = marks_later old new g q.marks f.marks;
  }

-- ---- one caller's part is changed
module _ (callers : List CallerPart) (k : ℕ) (q t : CallerPart) (there : slice_get callers k ≡ Some q) where
  -- receipts that stay name what they named
  pub named_set :
      ((i : ℕ) (r : Receipt) → slice_get q.receipts i ≡ Some r → slice_get t.receipts i ≡ Some r) → (u place : ℕ) (e : Entry)
      → IsNamed callers u place e → IsNamed (set callers k t) u place e
  named_set stay u place e h =
      let P : CallerPart → Type 0 = λ x. RowHas (slice_get x.receipts e.call) (HasReceipt u place e) in
      row_has_set P callers k e.caller t q there
      (λ h. let r = row_gives (HasReceipt u place e) (slice_get q.receipts e.call) h in
      row_from (HasReceipt u place e) (slice_get t.receipts e.call) r.0 (stay e.call r.0 r.1) r.2) h

  -- and so are cuts that stay known
  pub cut_set :
      ((u : ℕ) → Contains q.cuts u → Contains t.cuts u) → (j u : ℕ) → RowHas (slice_get callers j) (λ x. Contains x.cuts u)
      → RowHas (slice_get (set callers k t) j) (λ x. Contains x.cuts u)
  cut_set stay j u h = row_has_set (λ (x : CallerPart). Contains x.cuts u) callers k j t q there (stay u) h

-- ---- all callers
module _ (histories : List (List Entry)) (cuts : List (Option ℕ)) (now : ℕ) (callers : List CallerPart) (odd : List ℕ) where
  -- the clock rises
  pub callers_later : (later : ℕ) → now ≤ later → CallersFit histories cuts now callers odd → CallersFit histories cuts later callers odd
  callers_later later l f =
      let m : Moment = record { histories = histories; cuts = cuts; lefts = []; now = now; durable = now } in record {
        each = λ k q e. caller_later m _ (grows_by_clock m later later l l) q k (f.each k q e);
        named = f.named;
        cut = f.cut;
        loaded_odd = f.loaded_odd;
      }

  -- a caller's part is changed, and keeps its receipts and its cuts
  pub caller_set :
      (k : ℕ) (q t : CallerPart) → slice_get callers k ≡ Some q → t.receipts ≡ q.receipts → t.cuts ≡ q.cuts
      → CallerFits histories cuts now k t → CallersFit histories cuts now callers odd → CallersFit histories cuts now (set callers k t) odd
  caller_set k q t there receipts known fits f = record {
    each = each_set (CallerFits histories cuts now) callers k t (λ j b n e. f.each j b e) fits;
    named = λ u place e h.
        named_set callers k q t there (λ i r is. ap (λ rs. slice_get rs i) receipts ∙ is) u place e (f.named u place e h);
    cut = λ u j e. cut_set callers k q t there (λ v h. subst (λ vs. Contains vs v) (sym known) h) j u (f.cut u j e);
    loaded_odd = f.loaded_odd;
  }

  -- a caller is cut in a unit in which none was
  module _ (u k : ℕ) (h : List Entry) (q : CallerPart) (unit : slice_get histories u ≡ Some h) (uncut : slice_get cuts u ≡ Some None)
      (there : slice_get callers k ≡ Some q) (f : CallersFit histories cuts now callers odd) where
    -- before the cut
    old : Moment
    old = record { histories = histories; cuts = cuts; lefts = []; now = now; durable = now }

    -- and after it
    new : Moment
    new = record { histories = histories; cuts = set cuts u (Some k); lefts = []; now = now; durable = now }

    cut_grows : Grows old new
    unfolding old new
    cut_grows = grows_by_cut old u k None (has_none cuts u uncut) (λ n e. absurd (cc))

    -- the caller that is cut
    frozen_caller : CallerFits histories (set cuts u (Some k)) now k (caller_after_freeze q u)
    unfolding old new
    frozen_caller =
        let b = caller_later old new cut_grows q k (f.each k q there) in record {
          calls = b.calls;
          receipts = b.receipts;
          order = b.order;
          behind = All-weaker (IsBehind q) (IsBehind (caller_after_freeze q u)) (λ r i. record { front = i.front; newest = i.newest })
              q.receipts b.behind;
          seen = b.seen;
          reached = b.reached;
          synced = record { units = b.synced.units; seen = b.synced.seen; durable = b.synced.durable };
          cut_in = All-push (λ (v : ℕ). v < length histories) q.cuts u b.cut_in (slice_get_within histories u h unit);
          marks = b.marks;
        }

    -- each caller that was cut knows it
    cut_known : (v j : ℕ) → slice_get (set cuts u (Some k)) v ≡ Some (Some j)
        → RowHas (slice_get (set callers k (caller_after_freeze q u)) j) (λ (x : CallerPart). Contains x.cuts v)
    cut_known v j e = ⊎_elim
        (λ (t : (v ≡ u) × (Some k ≡ Some j)).
        row_from (λ (x : CallerPart). Contains x.cuts v) _ (caller_after_freeze q u)
        (ap (slice_get (set callers k (caller_after_freeze q u))) (sym (same_Some k j t.1))
        ∙ row_here callers k (caller_after_freeze q u) q there)
        (subst (Contains (q.cuts ++ u ∷ [])) (sym t.0) (Contains-push q.cuts u)))
        (λ (t : (v ≢ u) × (slice_get cuts v ≡ Some (Some j))).
        cut_set callers k q (caller_after_freeze q u) there (λ w h. Contains-append_left q.cuts (u ∷ []) w h) j v (f.cut v j t.1))
        (row_set cuts u v (Some k) (Some j) e)

    -- all callers after a cut
    pub callers_freeze : CallersFit histories (set cuts u (Some k)) now (set callers k (caller_after_freeze q u)) odd
    unfolding old new
    callers_freeze =
        let g = cut_grows in record {
          each = each_set (CallerFits histories (set cuts u (Some k)) now) callers k (caller_after_freeze q u)
              (λ j b n e. caller_later old new g b j (f.each j b e)) frozen_caller;
          named = λ v place e i. named_set callers k q (caller_after_freeze q u) there (λ n r is. is) v place e (f.named v place e i);
          cut = cut_known;
          loaded_odd = All-weaker (IsCut cuts) (IsCut (set cuts u (Some k))) (λ v c. (c.0, g.cuts v c.0 c.1)) odd f.loaded_odd;
        }

  -- the advancer loads an announcement, which is odd only where a caller was cut
  pub callers_odd :
      (j word : ℕ) → (is_odd word ≡ true → IsCut cuts j) → CallersFit histories cuts now callers odd
      → CallersFit histories cuts now callers (with_odd odd j word)
  callers_odd j word cut f = record {
    each = f.each;
    named = f.named;
    cut = f.cut;
    loaded_odd = cond_both (is_odd word && not (list_any (λ v. v == j) odd)) (odd ++ j ∷ []) odd (All (IsCut cuts))
        (λ e. All-push (IsCut cuts) odd j f.loaded_odd (cut (and_parts (is_odd word) _ e).0)) (λ e. f.loaded_odd);
  }

-- ---- an announcement is odd only where a caller was cut
even_is_not_odd : (e : ℕ) → is_odd (2 * e) ≡ true → ⊥
even_is_not_odd e o = let t = eqb-true ((2 * e) % 2) 1 o in omega arith

-- an announced epoch
odd_announced : (e : ℕ) (frozen : Option ℕ) → is_odd (announced e frozen) ≡ true → (k : ℕ) × (frozen ≡ Some k)
odd_announced e None o = absurd (even_is_not_odd e o)
odd_announced e (Some k) o = (k, refl)

-- and an announcement of any stage
pub odd_where_cut : (stage : UnitStage) (frozen : Option ℕ) → is_odd (announcement stage frozen) ≡ true → (k : ℕ) × (frozen ≡ Some k)
odd_where_cut Idle frozen o = absurd (even_is_not_odd 0 o)
odd_where_cut (Told e) frozen o = odd_announced e frozen o
odd_where_cut (Within e) frozen o = odd_announced e frozen o
odd_where_cut (Closing slot) frozen o = absurd (even_is_not_odd 0 o)

-- what the advancer loads is odd only of such a unit
pub loaded_odd_is_cut : (told : List ℕ) (units : List UnitPart) (j : ℕ) → Announcements told units → is_odd (slice_index told j) ≡ true
    → IsCut (cuts_of units) j
loaded_odd_is_cut told units j a o = ⊎_elim
    (λ (l : j < length units).
    let p = item_at units j l in
    let word = get_or_from_slice_get told j (announcement p.0.stage p.0.frozen) 0 (a.each j p.0 p.1) in
    let k = odd_where_cut p.0.stage p.0.frozen (ap is_odd (sym word) ∙ o) in
    (k.0, cut_row units j p.0 p.1 ∙ ap Some k.1))
    (λ (l : length units ≤ j).
    let n = a.as_many in absurd (even_is_not_odd 0 (ap is_odd (sym (get_or_past told j 0 (omega arith))) ∙ o)))
    (cases_lt j (length units))
