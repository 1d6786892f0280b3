-- What stays true while histories grow, and which changes are growth.
use Rattle.std.proofs.Common.{◌≡◌, ℕ, zero, suc, ◌≤◌, List, [], ◌∷◌, ◌++◌, length, set, append-nil, append_assoc, length-append, sym, ap, ◌∙◌, subst, arith}
use Rattle.std.specs.Prelude.{take, slice_get, Option, Some, None, All}
use Rattle.std.specs.List.{AllZip}
use Rattle.std.proofs.lemmas.List.{take-append-le}
use Rattle.std.proofs.lemmas.List.Elements.{All-weaker, length_all_zip}
use Rattle.std.proofs.lemmas.Option.{same_Some}
use Rattle.mont_base.specs.declared.operation.Entry.{Entry}
use Rattle.mont_base.specs.declared.operation.Receipt.{Receipt}
use Rattle.mont_base.specs.Seen.{View, FrontFits, FitsHistories, IsEntryAt, IsReceiptOf}
use Rattle.core_steps.specs.declared.parts.Mark.{Mark}
use Rattle.core_steps.specs.Notes.{Moment, BeginsWith, Grows, IsTrueMark}
use Rattle.core_steps.proofs.RowFacts.{row_before, zip_of_left, zip_of_right}

-- ---- one history
begins_itself : (h : List Entry) → BeginsWith h h
begins_itself h = ([], sym (append-nil h))

-- what grows twice has grown
begins_later : (f g h : List Entry) → BeginsWith h g → BeginsWith g f → BeginsWith h f
begins_later f g h b a = (a.0 ++ b.0, b.1 ∙ ap (λ t. t ++ b.0) a.1 ∙ append_assoc f a.0 b.0)

-- it is at least as long
as_long : (h g : List Entry) → BeginsWith g h → length h ≤ length g
as_long h g b = omega (arith, ap length b.1, length-append h b.0)

-- the entries before a front stay
pub front_stays : (n : ℕ) (h g : List Entry) → BeginsWith g h → n ≤ length h → take n g ≡ take n h
front_stays n h g b l = ap (take n) b.1 ∙ take-append-le n h b.0 l

-- what the front of a caller says of a history it says of the longer one
front_fits_later : (newest front : ℕ) (h g : List Entry) → BeginsWith g h → FrontFits newest front h → FrontFits newest front g
front_fits_later newest front h g b f = record {
  there = let n = f.there in omega (arith, as_long h g b);
  epochs = subst (All (λ (e : Entry). e.epoch ≤ newest)) (sym (front_stays front h g b f.there)) f.epochs;
}

-- ---- the lists of histories
zip_itself : (hs : List (List Entry)) → AllZip BeginsWith hs hs
zip_itself [] = tt
zip_itself (h ∷ hs) = (begins_itself h, zip_itself hs)

-- all histories have grown twice
zip_later : (fs gs hs : List (List Entry)) → AllZip BeginsWith hs gs → AllZip BeginsWith gs fs → AllZip BeginsWith hs fs
zip_later [] [] [] b a = tt
zip_later [] [] (h ∷ hs) b a = absurd b
zip_later [] (g ∷ gs) hs b a = absurd a
zip_later (f ∷ fs) [] hs b a = absurd a
zip_later (f ∷ fs) (g ∷ gs) [] b a = absurd b
zip_later (f ∷ fs) (g ∷ gs) (h ∷ hs) b a = (begins_later f g h b.0 a.0, zip_later fs gs hs b.1 a.1)

-- one history has one entry more
zip_push : (hs : List (List Entry)) (u : ℕ) (h : List Entry) (e : Entry) → slice_get hs u ≡ Some h
    → AllZip BeginsWith (set hs u (h ++ e ∷ [])) hs
zip_push [] u h e is = absurd (cc)
zip_push (g ∷ gs) zero h e is = ((e ∷ [], ap (λ t. t ++ e ∷ []) (sym (same_Some g h is))), zip_itself gs)
zip_push (g ∷ gs) (suc u) h e is = (begins_itself g, zip_push gs u h e is)

-- ---- growth
pub grows_itself : (m : Moment) → Grows m m
grows_itself m =
    record { histories = zip_itself m.histories; cuts = λ u k e. e; lefts = λ u x e. e; now = omega arith; durable = omega arith }

-- growth goes on
pub grows_later : (l m n : Moment) → Grows l m → Grows m n → Grows l n
grows_later l m n g h = record {
  histories = zip_later l.histories m.histories n.histories h.histories g.histories;
  cuts = λ u k e. h.cuts u k (g.cuts u k e);
  lefts = λ u x e. h.lefts u x (g.lefts u x e);
  now = omega arith;
  durable = omega arith;
}

-- an answer
pub grows_by_entry : (m : Moment) (u : ℕ) (h : List Entry) (e : Entry) → slice_get m.histories u ≡ Some h
    → Grows m (record m { histories = set m.histories u (h ++ e ∷ []) })
grows_by_entry m u h e is =
    record {
      histories = zip_push m.histories u h e is;
      cuts = λ v k c. c;
      lefts = λ v x c. c;
      now = omega arith;
      durable = omega arith;
    }

-- no number stands at a place, so one that stands is at another
abbrev HasNone : List (Option ℕ) → ℕ → Type 0
HasNone xs u = (n : ℕ) → slice_get xs u ≡ Some (Some n) → ⊥

some_stays : (xs : List (Option ℕ)) (u v n : ℕ) (x : Option ℕ) → HasNone xs u → slice_get xs v ≡ Some (Some n)
    → slice_get (set xs u x) v ≡ Some (Some n)
some_stays [] u v n x none e = absurd (cc)
some_stays (c ∷ cs) zero zero n x none e = absurd (none n e)
some_stays (c ∷ cs) zero (suc v) n x none e = e
some_stays (c ∷ cs) (suc u) zero n x none e = e
some_stays (c ∷ cs) (suc u) (suc v) n x none e = some_stays cs u v n x none e

pub has_none : (xs : List (Option ℕ)) (u : ℕ) → slice_get xs u ≡ Some None → HasNone xs u
has_none xs u is n e = cc

-- a cut
pub grows_by_cut : (m : Moment) (u k : ℕ) (within : Option ℕ) → HasNone m.cuts u → HasNone m.lefts u
    → Grows m (record m { cuts = set m.cuts u (Some k); lefts = set m.lefts u within })
grows_by_cut m u k within uncut out = record {
  histories = zip_itself m.histories;
  cuts = λ v j e. some_stays m.cuts u v j (Some k) uncut e;
  lefts = λ v x e. some_stays m.lefts u v x within out e;
  now = omega arith;
  durable = omega arith;
}

-- the clocks
pub grows_by_clock : (m : Moment) (now durable : ℕ) → m.now ≤ now → m.durable ≤ durable
    → Grows m (record m { now = now; durable = durable })
grows_by_clock m now durable l k =
    record { histories = zip_itself m.histories; cuts = λ u j e. e; lefts = λ u x e. e; now = l; durable = k }

-- ---- what lasts
module _ (old new : Moment) (g : Grows old new) where
  -- there are as many histories
  pub as_many_later : length new.histories ≡ length old.histories
  as_many_later = length_all_zip BeginsWith new.histories old.histories g.histories

  -- what was seen is still there
  pub view_later : (view : View) → FitsHistories old.histories view → FitsHistories new.histories view
  view_later view f = record {
    units = f.units ∙ sym as_many_later;
    each = λ u front h at is.
        let z = zip_of_left BeginsWith new.histories old.histories u h g.histories is in
        front_fits_later view.newest front z.0 h z.2 (f.each u front z.0 at z.1);
  }

  -- and so is each entry
  pub entry_later : (u place : ℕ) (e : Entry) → IsEntryAt old.histories u place e → IsEntryAt new.histories u place e
  entry_later u place e i =
      let z = zip_of_right BeginsWith new.histories old.histories u i.0 g.histories i.1 in
      (z.0, z.1, ap (λ t. slice_get t place) z.2.1 ∙ row_before i.0 z.2.0 place e i.2)

  -- a receipt is still that of its entry
  pub receipt_later : (k call : ℕ) (r : Receipt) → IsReceiptOf old.histories k call r → IsReceiptOf new.histories k call r
  receipt_later k call r i = record { by = i.by; number = i.number; there = entry_later r.unit r.place r.entry i.there }

  -- a mark stays true
  pub mark_later : (m : Mark) → IsTrueMark old.cuts m → IsTrueMark new.cuts m
  mark_later m t = record { by = t.by; cut = g.cuts m.unit t.by t.cut; named = t.named }

  -- and so do all of them
  pub marks_later : (marks : List Mark) → All (IsTrueMark old.cuts) marks → All (IsTrueMark new.cuts) marks
  marks_later marks = All-weaker (IsTrueMark old.cuts) (IsTrueMark new.cuts) mark_later marks
