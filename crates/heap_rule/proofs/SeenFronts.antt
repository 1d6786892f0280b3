-- What a caller has seen stands first in what it has seen once it was answered, or took a note.
use Rattle.std.proofs.Common.{◌≡◌, ◌≢◌, ℕ, ◌≤◌, zero, suc, List, [], ◌∷◌, ◌++◌, length, take, set, replicate, cond, Bool, true, false, sym, refl, ap, ◌∙◌, subst, arith, append_assoc}
use Rattle.std.specs.Prelude.{slice_get, slice_index, nat_lt, max, drop, Some}
use Rattle.std.proofs.lemmas.Bool.{le-ltb}
use Rattle.std.proofs.lemmas.List.{append-nil, take-append-drop, take-take}
use Rattle.std.proofs.lemmas.Option.{same_Some}
use mathlib.Core.Logic.{dite}
use native.Mathlib.Decide.{ℕ_discrete}
use Rattle.mont_base.specs.declared.operation.Entry.{Entry}
use Rattle.core_steps.specs.Notes.{BeginsWith, greater_fronts}
use Rattle.core_steps.proofs.Rows.{row_here, row_else}
use Rattle.heap_rule.specs.declared.views.AdvKnown.{AdvKnown}
use Rattle.heap_rule.specs.declared.views.CallerKnown.{CallerKnown}
use Rattle.heap_rule.specs.declared.views.UnitKnown.{UnitKnown}
use Rattle.heap_rule.specs.Views.{longer, longer_each, caller_answered, caller_heard, note_of_unit, note_of_advancer}
use Rattle.heap_rule.specs.SeenEntries.{AreFronts, SeesBoth}
use Rattle.heap_rule.specs.Rule.{seen_in}
use Rattle.heap_rule.specs.Plays.{IsNotBeyond}

-- ---- one unit's
pub begins_same : (whole : List Entry) → BeginsWith whole whole
begins_same whole = ([], sym (append-nil whole))

pub begins_trans : (a b c : List Entry) → BeginsWith a b → BeginsWith b c → BeginsWith a c
begins_trans a b c (r, e) (s, f) = (s ++ r, e ∙ ap (λ (v : List Entry). v ++ r) f ∙ append_assoc c s r)

pub begins_taken : (whole : List Entry) (n : ℕ) → BeginsWith whole (take n whole)
begins_taken whole n = (drop n whole, sym (take-append-drop n whole))

-- the longer of two fronts of one history begins with the one that is the other's front
longer_begins : (front whole : List Entry) → BeginsWith whole front → BeginsWith (longer front whole) front
longer_begins front whole begins = by (nat_lt (length front) (length whole))
  where
    by : (t : Bool) → BeginsWith (cond t whole front) front
    by true = begins
    by false = begins_same front

-- no entry is seen by a note of none
longer_nil : (front : List Entry) → longer front [] ≡ front
longer_nil front = ap (λ (b : Bool). cond b [] front) (le-ltb (length front) 0 (omega arith))

pub longer_none : (entries : List (List Entry)) (units : ℕ) → longer_each entries (replicate units []) ≡ entries
longer_none [] units = refl
longer_none (e ∷ es) zero = refl
longer_none (e ∷ es) (suc n) = λ i. longer_nil e i ∷ longer_none es n i

-- ---- all units'
pub fronts_same : (whole : List (List Entry)) → AreFronts whole whole
fronts_same whole unit front there = record { whole = front; there = there; begins = begins_same front }

pub fronts_trans : (a b c : List (List Entry)) → AreFronts a b → AreFronts b c → AreFronts a c
fronts_trans a b c f g unit front there =
    let m = g unit front there in
    let w = f unit m.whole m.there in
    record { whole = w.whole; there = w.there; begins = begins_trans w.whole m.whole front w.begins m.begins }

-- those of one unit are more
pub fronts_set : (fronts : List (List Entry)) (unit : ℕ) (front whole : List Entry) → slice_get fronts unit ≡ Some front
    → BeginsWith whole front → AreFronts (set fronts unit whole) fronts
fronts_set fronts unit front whole at begins other seen there =
    dite (ℕ_discrete other unit)
    (λ (e : other ≡ unit).
    let same : front ≡ seen = same_Some front seen (sym at ∙ (ap (slice_get fronts) (sym e) ∙ there)) in
    record {
      whole = whole;
      there = ap (slice_get (set fronts unit whole)) e ∙ row_here fronts unit whole front at;
      begins = subst (BeginsWith whole) same begins;
    })
    (λ (e : other ≢ unit).
    record { whole = seen; there = row_else fronts unit other whole e ∙ there; begins = begins_same seen })

-- so are they by a note of one unit
pub fronts_longer : (fronts : List (List Entry)) (units unit : ℕ) (front whole : List Entry) → slice_get fronts unit ≡ Some front
    → BeginsWith whole front → AreFronts (longer_each fronts (set (replicate units []) unit whole)) fronts
fronts_longer [] units unit front whole at begins = absurd (cc)
fronts_longer (f ∷ fs) zero unit front whole at begins = fronts_same (f ∷ fs)
fronts_longer (f ∷ fs) (suc n) zero front whole at begins =
    subst (λ (es : List (List Entry)). AreFronts (longer f whole ∷ es) (f ∷ fs)) (sym (longer_none fs n))
    (fronts_set (f ∷ fs) 0 f (longer f whole) refl
    (longer_begins f whole (subst (BeginsWith whole) (sym (same_Some f front at)) begins)))
fronts_longer (f ∷ fs) (suc n) (suc unit) front whole at begins =
    subst (λ (e : List Entry). AreFronts (e ∷ longer_each fs (set (replicate n []) unit whole)) (f ∷ fs)) (sym (longer_nil f))
    (behind (fronts_longer fs n unit front whole at begins))
  where
    behind : AreFronts (longer_each fs (set (replicate n []) unit whole)) fs
        → AreFronts (f ∷ longer_each fs (set (replicate n []) unit whole)) (f ∷ fs)
    behind a zero seen there = record { whole = f; there = refl; begins = subst (BeginsWith f) (same_Some f seen there) (begins_same f) }
    behind a (suc u) seen there = let s = a u seen there in record { whole = s.whole; there = s.there; begins = s.begins }

-- of two numbers of one unit's entries, those of either stand first among those of the greater
begins_raised : (n m : ℕ) (whole : List Entry) → n ≤ m → BeginsWith (take m whole) (take n whole)
begins_raised n m whole low = subst (BeginsWith (take m whole)) (take-take n m whole low) (begins_taken (take m whole) n)

raised_own : (ns ms : List ℕ) (hs : List (List Entry)) → AreFronts (seen_in (greater_fronts ns ms) hs) (seen_in ns hs)
raised_own [] ms hs unit front there = absurd (cc)
raised_own (n ∷ ns) ms [] unit front there = absurd (cc)
raised_own (n ∷ ns) [] (h ∷ hs) unit front there = fronts_same (seen_in (n ∷ ns) (h ∷ hs)) unit front there
raised_own (n ∷ ns) (m ∷ ms) (h ∷ hs) zero front there = record {
  whole = take (max n m) h;
  there = refl;
  begins = subst (BeginsWith (take (max n m) h)) (same_Some (take n h) front there) (begins_raised n (max n m) h (omega arith));
}
raised_own (n ∷ ns) (m ∷ ms) (h ∷ hs) (suc unit) front there =
    let s = raised_own ns ms hs unit front there in record { whole = s.whole; there = s.there; begins = s.begins }

raised_others : (ns ms : List ℕ) (hs : List (List Entry)) → length ns ≡ length ms
    → AreFronts (seen_in (greater_fronts ns ms) hs) (seen_in ms hs)
raised_others ns [] hs many unit front there = absurd (cc)
raised_others [] (m ∷ ms) hs many unit front there = absurd (omega arith)
raised_others (n ∷ ns) (m ∷ ms) [] many unit front there = absurd (cc)
raised_others (n ∷ ns) (m ∷ ms) (h ∷ hs) many zero front there = record {
  whole = take (max n m) h;
  there = refl;
  begins = subst (BeginsWith (take (max n m) h)) (same_Some (take m h) front there) (begins_raised m (max n m) h (omega arith));
}
raised_others (n ∷ ns) (m ∷ ms) (h ∷ hs) many (suc unit) front there =
    let s = raised_others ns ms hs (omega arith) unit front there in record { whole = s.whole; there = s.there; begins = s.begins }

-- so they do where a caller hears another
pub sees_both : (ns ms : List ℕ) (hs : List (List Entry)) → length ns ≡ length ms
    → SeesBoth (seen_in ns hs) (seen_in ms hs) (seen_in (greater_fronts ns ms) hs)
sees_both ns ms hs many = record { own = raised_own ns ms hs; others = raised_others ns ms hs many }

-- ---- a caller
module _ (q : CallerKnown) (h : UnitKnown) (seen : IsNotBeyond q h) where
  abbrev front : List Entry
  front = take (slice_index q.part.fronts h.unit) h.part.history

  -- that is answered
  pub fronts_answered : (e : Entry) → AreFronts (caller_answered q h e).entries q.entries
  fronts_answered e =
      fronts_set q.entries h.unit front (h.part.history ++ e ∷ []) seen.entries
      (begins_trans (h.part.history ++ e ∷ []) h.part.history front (e ∷ [], refl)
      (begins_taken h.part.history (slice_index q.part.fronts h.unit)))

  -- that takes a note of the unit
  pub fronts_heard : (units : ℕ) → AreFronts (caller_heard q (note_of_unit units h)).entries q.entries
  fronts_heard units =
      fronts_longer q.entries units h.unit front h.part.history seen.entries
      (begins_taken h.part.history (slice_index q.part.fronts h.unit))

-- and one that takes a note of the advancer has seen no entry by it
pub same_entries : (q : CallerKnown) (units : ℕ) (a : AdvKnown) → (caller_heard q (note_of_advancer units a)).entries ≡ q.entries
same_entries q units a = longer_none q.entries units
