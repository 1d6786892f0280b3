-- What splits and joins of seats owe the rule.
use Rattle.std.proofs.Common.{◌≡◌, ◌≢◌, ◌⊎◌, ℕ, List, ◌∷◌, length, set, refl, sym, ap, ◌∙◌, subst, inr, ⊎_elim, arith, cond, eqb, eq-eqb, ne_eqb}
use Rattle.std.specs.Prelude.{Some, None}
use mathlib.Core.Logic.{dite}
use native.Mathlib.Decide.{ℕ_discrete}
use Rattle.atomic_table.specs.Table.{State, Splits, Joins}
use Rattle.atomic_table.proofs.Lists.{set_else}
use Rattle.mont_base.specs.Image.{clock_of}
use Rattle.core_steps.specs.declared.parts.CallerPart.{CallerPart}
use Rattle.core_steps.specs.declared.parts.Part.TheVariants as parts
use Rattle.core_steps.specs.Places.{on_row}
use Rattle.core_steps.specs.Notes.{caller_note}
use Rattle.core_steps.specs.Opened.{opened_at}
use Rattle.core_steps.proofs.SplitLaws.{split_is_true}
use Rattle.heap_rule.specs.declared.rule.Opening.{Opening}
use Rattle.heap_rule.specs.declared.views.AdvKnown.{AdvKnown}
use Rattle.heap_rule.specs.declared.views.CallerKnown.{CallerKnown}
use Rattle.heap_rule.specs.declared.views.Learnt.{Learnt}
use Rattle.heap_rule.specs.declared.views.NoteKnown.{NoteKnown}
use Rattle.heap_rule.specs.declared.views.UnitKnown.{UnitKnown}
use Rattle.heap_rule.specs.declared.views.View.{View}
use Rattle.heap_rule.specs.Views.{Cell, nothing, unit_view, advancer_view, caller_view, note_view, pair_view, heard_view, note_of_advancer, note_of_caller, caller_heard, learnt_more, unit_shown, advancer_shown, without_callers, only_callers, with_units, with_callers, with_notes, copied_caller, shown_caller, heard_advancer}
use Rattle.heap_rule.specs.Rule.{Each, Owners, Board, IsLearnt, FitsUnit, FitsAdvancer, FitsCaller, FitsNote, FitsView, ShowsCore}
use Rattle.heap_rule.proofs.RuleFrames.{each_map, each_zip, each_append, stays, moves_none, Hands, unit_handed, advancer_handed, caller_handed, resplit, rejoin, one_given, given_hit, given_miss}
use Rattle.heap_rule.proofs.CoreFacts.{clean_both}
use Rattle.heap_rule.proofs.HearPlays.{heard_board, heard, heard_moves, caller_fits, advancer_heard, advancer_shows, fronts_count}

-- ---- what one seat had, another has
abbrev redirect : ℕ → ℕ → ℕ → ℕ
redirect from to x = cond (eqb x from) to x

redirect_hit : (from to x : ℕ) → x ≡ from → redirect from to x ≡ to
redirect_hit from to x e = ap (λ b. cond b to x) (eq-eqb x from e)

redirect_miss : (from to x : ℕ) → x ≢ from → redirect from to x ≡ x
redirect_miss from to x n = ap (λ b. cond b to x) (ne_eqb x from n)

redirect_to : (from to x : ℕ) → x ≡ to → redirect from to x ≡ to
redirect_to from to x e = dite (ℕ_discrete x from) (λ h. redirect_hit from to x h) (λ n. redirect_miss from to x n ∙ e)

abbrev all_to : Owners → ℕ → ℕ → Owners
all_to own from to = record {
  unit = λ u. redirect from to (own.unit u);
  advancer = redirect from to own.advancer;
  caller = λ k. redirect from to (own.caller k);
}

hands_all : (own : Owners) (from to : ℕ) → Hands from own (all_to own from to)
hands_all own from to = record {
  unit = λ u off. redirect_miss from to (own.unit u) off;
  advancer = λ off. redirect_miss from to own.advancer off;
  caller = λ k off. redirect_miss from to (own.caller k) off;
}

-- a view goes from one seat to another
view_handed : (b : Board) (own : Owners) (from to : ℕ) (v : View) → FitsView b own from v → FitsView b (all_to own from to) to v
view_handed b own from to v f = record {
  units = each_map (FitsUnit b own from) (FitsUnit b (all_to own from to) to)
      (λ h x. unit_handed b own (all_to own from to) from to h (redirect_hit from to (own.unit h.unit) x.mine) x) v.units f.units;
  advancers = each_map (FitsAdvancer b own from) (FitsAdvancer b (all_to own from to) to)
      (λ a x. advancer_handed b own (all_to own from to) from to a (redirect_hit from to own.advancer x.mine) x) v.advancers f.advancers;
  callers = each_map (FitsCaller b own from) (FitsCaller b (all_to own from to) to)
      (λ q x. caller_handed b own (all_to own from to) from to q (redirect_hit from to
      (own.caller q.caller) x.mine) x) v.callers f.callers;
  notes = f.notes;
}

-- and what the other had stays with it
view_kept : (b : Board) (own : Owners) (from to : ℕ) (v : View) → FitsView b own to v → FitsView b (all_to own from to) to v
view_kept b own from to v f = record {
  units = each_map (FitsUnit b own to) (FitsUnit b (all_to own from to) to)
      (λ h x. unit_handed b own (all_to own from to) to to h (redirect_to from to (own.unit h.unit) x.mine) x) v.units f.units;
  advancers = each_map (FitsAdvancer b own to) (FitsAdvancer b (all_to own from to) to)
      (λ a x. advancer_handed b own (all_to own from to) to to a (redirect_to from to own.advancer x.mine) x) v.advancers f.advancers;
  callers = each_map (FitsCaller b own to) (FitsCaller b (all_to own from to) to)
      (λ q x. caller_handed b own (all_to own from to) to to q (redirect_to from to (own.caller q.caller) x.mine) x) v.callers f.callers;
  notes = f.notes;
}

nothing_fits : (b : Board) (own : Owners) (seat : ℕ) → FitsView b own seat nothing
nothing_fits b own seat = record { units = tt; advancers = tt; callers = tt; notes = tt }

-- ---- splits
-- all of a view goes to a new seat
pub splits_whole : (o : Opening) (seat : ℕ) (v : View) → Splits (ShowsCore o) seat v nothing v
splits_whole o seat v s k at =
    let n : ℕ = length s.views in
    resplit o s k seat nothing v (all_to k.own seat n) (hands_all k.own seat n) (nothing_fits k.board (all_to k.own seat n) seat)
    (view_handed k.board k.own seat n v (k.views seat v at))

-- the callers do
pub splits_callers : (o : Opening) (seat : ℕ) (v : View) → Splits (ShowsCore o) seat v (without_callers v) (only_callers v)
splits_callers o seat v s k at =
    let n : ℕ = length s.views in
    let f = k.views seat v at in
    let now : Owners = record { unit = k.own.unit; advancer = k.own.advancer; caller = λ i. redirect seat n (k.own.caller i) } in
    resplit o s k seat (without_callers v) (only_callers v) now
    (record { unit = λ u off. refl; advancer = λ off. refl; caller = λ i off. redirect_miss seat n (k.own.caller i) off })
    (record {
      units = each_map (FitsUnit k.board k.own seat) (FitsUnit k.board now seat)
          (λ h x. unit_handed k.board k.own now seat seat h x.mine x) v.units f.units;
      advancers = each_map (FitsAdvancer k.board k.own seat) (FitsAdvancer k.board now seat)
          (λ a x. advancer_handed k.board k.own now seat seat a x.mine x) v.advancers f.advancers;
      callers = tt;
      notes = f.notes;
    })
    (record {
      units = tt;
      advancers = tt;
      callers = each_map (FitsCaller k.board k.own seat) (FitsCaller k.board now n)
          (λ q x. caller_handed k.board k.own now seat n q (redirect_hit seat n (k.own.caller q.caller) x.mine) x) v.callers f.callers;
      notes = tt;
    })

-- the first unit does, where no other has its number
pub splits_unit : (o : Opening) (seat : ℕ) (h : UnitKnown) (hs : List UnitKnown) (as_ : List AdvKnown) (qs : List CallerKnown)
    (ns : List NoteKnown)
    → Each (λ (r : UnitKnown). r.unit ≢ h.unit) hs
    → Splits (ShowsCore o) seat (record { units = h ∷ hs; advancers = as_; callers = qs; notes = ns })
    (record { units = hs; advancers = as_; callers = qs; notes = ns }) (unit_view h)
splits_unit o seat h hs as_ qs ns apart s k at =
    let v : View = record { units = h ∷ hs; advancers = as_; callers = qs; notes = ns } in
    let n : ℕ = length s.views in
    let f = k.views seat v at in
    let mine = f.units.0 in
    let now : Owners = record { unit = one_given k.own.unit h.unit n; advancer = k.own.advancer; caller = k.own.caller } in
    resplit o s k seat (record { units = hs; advancers = as_; callers = qs; notes = ns }) (unit_view h) now
    (record {
      unit = λ u off. given_miss k.own.unit h.unit n u (λ same. off (ap k.own.unit same ∙ mine.mine));
      advancer = λ off. refl;
      caller = λ i off. refl;
    })
    (record {
      units = each_zip (λ (r : UnitKnown). r.unit ≢ h.unit) (FitsUnit k.board k.own seat) (FitsUnit k.board now seat)
          (λ r off x. unit_handed k.board k.own now seat seat r (given_miss k.own.unit h.unit n r.unit off
          ∙ x.mine) x) hs apart f.units.1;
      advancers = each_map (FitsAdvancer k.board k.own seat) (FitsAdvancer k.board now seat)
          (λ a x. advancer_handed k.board k.own now seat seat a x.mine x) as_ f.advancers;
      callers = each_map (FitsCaller k.board k.own seat) (FitsCaller k.board now seat)
          (λ q x. caller_handed k.board k.own now seat seat q x.mine x) qs f.callers;
      notes = f.notes;
    })
    (record {
      units = (unit_handed k.board k.own now seat n h (given_hit k.own.unit h.unit n) mine, tt);
      advancers = tt;
      callers = tt;
      notes = tt;
    })

-- and so does the first caller
pub splits_caller : (o : Opening) (seat : ℕ) (hs : List UnitKnown) (as_ : List AdvKnown) (q : CallerKnown) (qs : List CallerKnown)
    (ns : List NoteKnown)
    → Each (λ (r : CallerKnown). r.caller ≢ q.caller) qs
    → Splits (ShowsCore o) seat (record { units = hs; advancers = as_; callers = q ∷ qs; notes = ns })
    (record { units = hs; advancers = as_; callers = qs; notes = ns }) (caller_view q)
splits_caller o seat hs as_ q qs ns apart s k at =
    let v : View = record { units = hs; advancers = as_; callers = q ∷ qs; notes = ns } in
    let n : ℕ = length s.views in
    let f = k.views seat v at in
    let mine = f.callers.0 in
    let now : Owners = record { unit = k.own.unit; advancer = k.own.advancer; caller = one_given k.own.caller q.caller n } in
    resplit o s k seat (record { units = hs; advancers = as_; callers = qs; notes = ns }) (caller_view q) now
    (record {
      unit = λ u off. refl;
      advancer = λ off. refl;
      caller = λ i off. given_miss k.own.caller q.caller n i (λ same. off (ap k.own.caller same ∙ mine.mine));
    })
    (record {
      units = each_map (FitsUnit k.board k.own seat) (FitsUnit k.board now seat)
          (λ h x. unit_handed k.board k.own now seat seat h x.mine x) hs f.units;
      advancers = each_map (FitsAdvancer k.board k.own seat) (FitsAdvancer k.board now seat)
          (λ a x. advancer_handed k.board k.own now seat seat a x.mine x) as_ f.advancers;
      callers = each_zip (λ (r : CallerKnown). r.caller ≢ q.caller) (FitsCaller k.board k.own seat) (FitsCaller k.board now seat)
          (λ r off x. caller_handed k.board k.own now seat seat r (given_miss k.own.caller q.caller n r.caller off
          ∙ x.mine) x) qs apart f.callers.1;
      notes = f.notes;
    })
    (record {
      units = tt;
      advancers = tt;
      callers = (
        caller_handed k.board k.own now seat n q
            (given_hit k.own.caller q.caller n) mine,
        tt,
      );
      notes = tt;
    })

-- a new seat has a note of the caller
pub copies_caller : (o : Opening) (seat : ℕ) (q : CallerKnown)
    → Splits (ShowsCore o) seat (caller_view q) (caller_view q) (note_view (note_of_caller q))
copies_caller o seat q s k at =
    let f = k.views seat (caller_view q) at in
    let g = f.callers.0 in
    let core = k.board.core in
    resplit o s k seat (caller_view q) (note_view (note_of_caller q)) k.own
    (record { unit = λ u off. refl; advancer = λ off. refl; caller = λ i off. refl }) f
    (record {
      units = tt;
      advancers = tt;
      callers = tt;
      notes = (
        record {
          is_true = split_is_true (opened_at (clock_of o.words) k.states) core k.sound (parts.Caller q.caller) (caller_note q.part)
              (ap (λ z. on_row z None (λ (p : CallerPart). Some (caller_note p))) g.part);
          entries = g.entries;
          clean = g.clean;
        },
        tt,
      );
    })

-- ---- joins
module _ (o : Opening) (s : State Cell View) (k : ShowsCore o s) (seat other : ℕ) where
  abbrev Mine : ℕ → Type 0
  Mine j = (j ≡ seat) ⊎ (j ≡ other)

  abbrev joined_own : Owners
  joined_own = all_to k.own other seat

  -- nothing of the core changes
  rejoin_same : (one : View) → FitsView k.board joined_own seat one
      → ShowsCore o (record { words = s.words; homes = s.homes; views = set (set s.views seat one) other nothing })
  rejoin_same one fits = rejoin o s k seat other one k.board joined_own (stays o s k) (moves_none k.own Mine k.board)
      (hands_all k.own other seat) refl k.passed k.homes fits

-- the units of another seat come
pub joins_units : (o : Opening) (seat : ℕ) (v : View) (other : ℕ) (w : View) → Joins (ShowsCore o) seat v other w (with_units v w) nothing
joins_units o seat v other w s k at apart e =
    let one : View = with_units v w in
    let f = view_kept k.board k.own other seat v (k.views seat v at) in
    let g = view_handed k.board k.own other seat w (k.views other w (sym (set_else s.views seat other one apart) ∙ e)) in
    rejoin_same o s k seat other one (record {
      units = each_append (FitsUnit k.board (all_to k.own other seat) seat) v.units w.units f.units g.units;
      advancers = f.advancers;
      callers = f.callers;
      notes = f.notes;
    })

-- and the callers
pub joins_callers : (o : Opening) (seat : ℕ) (v : View) (other : ℕ) (w : View)
    → Joins (ShowsCore o) seat v other w (with_callers v w) nothing
joins_callers o seat v other w s k at apart e =
    let one : View = with_callers v w in
    let f = view_kept k.board k.own other seat v (k.views seat v at) in
    let g = view_handed k.board k.own other seat w (k.views other w (sym (set_else s.views seat other one apart) ∙ e)) in
    rejoin_same o s k seat other one (record {
      units = f.units;
      advancers = f.advancers;
      callers = each_append (FitsCaller k.board (all_to k.own other seat) seat) v.callers w.callers f.callers g.callers;
      notes = f.notes;
    })

-- and the notes
pub joins_notes : (o : Opening) (seat : ℕ) (v : View) (other : ℕ) (w : View)
    → Joins (ShowsCore o) seat v other w (with_notes v w) nothing
joins_notes o seat v other w s k at apart e =
    let one : View = with_notes v w in
    let f = view_kept k.board k.own other seat v (k.views seat v at) in
    let g = view_handed k.board k.own other seat w (k.views other w (sym (set_else s.views seat other one apart) ∙ e)) in
    rejoin_same o s k seat other one (record {
      units = f.units;
      advancers = f.advancers;
      callers = f.callers;
      notes = each_append (FitsNote k.board) v.notes w.notes f.notes g.notes;
    })

-- ---- a note of a caller
module _ (o : Opening) (s : State Cell View) (k : ShowsCore o s) (own : Owners) (seat : ℕ) (q : CallerKnown)
    (g : FitsCaller k.board own seat q) where
  learns : (l : Learnt) → IsLearnt k.board.core l → IsLearnt k.board.core (learnt_more l q.part)
  learns l is =
      let newest = is.newest in
      let durable = is.durable in
      let reached = (k.sound.callers.each q.caller q.part g.part).reached in
      let known = k.sound.clocks.of_callers q.caller q.part g.part in
      record { newest = omega arith; durable = omega arith }

-- the unit takes one
pub joins_shown : (o : Opening) (seat : ℕ) (h : UnitKnown) (other : ℕ) (q : CallerKnown)
    → Joins (ShowsCore o) seat (unit_view h) other (caller_view q) (pair_view (unit_shown h q) q) nothing
joins_shown o seat h other q s k at apart e =
    let one : View = pair_view (unit_shown h q) q in
    let f = (view_kept k.board k.own other seat (unit_view h) (k.views seat (unit_view h) at)).units.0 in
    let g = (view_handed k.board k.own other seat (caller_view q) (k.views other (caller_view q) (sym
    (set_else s.views seat other one apart) ∙ e))).callers.0 in
    rejoin_same o s k seat other one (record {
      units = (
        record {
          mine = f.mine;
          part = f.part;
          turn = f.turn;
          room = f.room;
          learnt = learns o s k (all_to k.own other seat) seat q g h.learnt f.learnt;
          clean = clean_both k.board.core.units h.clean q.clean f.clean g.clean;
        },
        tt,
      );
      advancers = tt;
      callers = (g, tt);
      notes = tt;
    })

-- the advancer takes one
pub joins_shown_advancer : (o : Opening) (seat : ℕ) (a : AdvKnown) (other : ℕ) (q : CallerKnown)
    → Joins (ShowsCore o) seat (advancer_view a) other (caller_view q) (heard_view (advancer_shown a q) q) nothing
joins_shown_advancer o seat a other q s k at apart e =
    let one : View = heard_view (advancer_shown a q) q in
    let f = (view_kept k.board k.own other seat (advancer_view a) (k.views seat (advancer_view a) at)).advancers.0 in
    let g = (view_handed k.board k.own other seat (caller_view q) (k.views other (caller_view q) (sym
    (set_else s.views seat other one apart) ∙ e))).callers.0 in
    rejoin_same o s k seat other one (record {
      units = tt;
      advancers = (
        record {
          mine = f.mine;
          part = f.part;
          clock_is = f.clock_is;
          durable = f.durable;
          odd = f.odd;
          units = f.units;
          room = f.room;
          list_count = f.list_count;
          lists = f.lists;
          turn = f.turn;
          learnt = learns o s k (all_to k.own other seat) seat q g a.learnt f.learnt;
          clean = clean_both k.board.core.units a.clean q.clean f.clean g.clean;
        },
        tt,
      );
      callers = (g, tt);
      notes = tt;
    })

-- ---- a caller takes a note
module _ (o : Opening) (s : State Cell View) (k : ShowsCore o s) (seat other : ℕ) (q : CallerKnown) (n : NoteKnown) (at : ℕ)
    (has : (at ≡ seat) ⊎ (at ≡ other)) (g : FitsCaller k.board k.own at q) (f : FitsNote k.board n) where
  heard_mine : (all_to k.own other seat).caller q.caller ≡ seat
  heard_mine = ⊎_elim
      (λ (e : at ≡ seat). redirect_to other seat (k.own.caller q.caller) (g.mine ∙ e))
      (λ (e : at ≡ other). redirect_hit other seat (k.own.caller q.caller) (g.mine ∙ e)) has

  rejoin_heard : (one : View) → FitsView (heard_board k.board q n) (all_to k.own other seat) seat one
      → ShowsCore o (record { words = s.words; homes = s.homes; views = set (set s.views seat one) other nothing })
  rejoin_heard one fits =
      rejoin o s k seat other one (heard_board k.board q n) (all_to k.own other seat) (heard o s k at q n g f)
      (heard_moves o s k at q n g f (λ j. (j ≡ seat) ⊎ (j ≡ other)) has) (hands_all k.own other seat) refl k.passed k.homes fits

-- of the advancer
pub joins_heard_advancer : (o : Opening) (seat : ℕ) (a : AdvKnown) (other : ℕ) (q : CallerKnown)
    → Joins (ShowsCore o) seat (advancer_view a) other (caller_view q) (heard_advancer (advancer_view a) (caller_view q)) nothing
joins_heard_advancer o seat a other q s k at apart e =
    let n : NoteKnown = note_of_advancer (length q.part.fronts) a in
    let one : View = heard_view a (caller_heard q n) in
    let own : Owners = all_to k.own other seat in
    let f = (k.views seat (advancer_view a) at).advancers.0 in
    let g = (k.views other (caller_view q) (sym (set_else s.views seat other one apart) ∙ e)).callers.0 in
    let note = advancer_shows o s k k.own seat (length q.part.fronts) (fronts_count o s k k.own other q g) a f in
    let kept = (view_kept k.board k.own other seat (advancer_view a) (k.views seat (advancer_view a) at)).advancers.0 in
    rejoin_heard o s k seat other q n other (inr refl) g note one
    (record {
      units = tt;
      advancers = (advancer_heard k.board own seat q n a kept, tt);
      callers = (caller_fits o s k other q n g note own seat (heard_mine o s k seat other q n other (inr refl) g note), tt);
      notes = tt;
    })

-- ---- the same at views that are known
pub joins_shown_as : (o : Opening) (seat : ℕ) (v : View) (other : ℕ) (w : View) (h : UnitKnown) (q : CallerKnown) → v ≡ unit_view h
    → w ≡ caller_view q → Joins (ShowsCore o) seat v other w (shown_caller v w) nothing
joins_shown_as o seat v other w h q e f =
    subst (λ (z : View × View). Joins (ShowsCore o) seat z.0 other z.1 (shown_caller z.0 z.1) nothing) (λ j. (sym e j, sym f j))
    (joins_shown o seat h other q)

pub joins_shown_advancer_as : (o : Opening) (seat : ℕ) (v : View) (other : ℕ) (w : View) (a : AdvKnown) (q : CallerKnown)
    → v ≡ advancer_view a
    → w ≡ caller_view q → Joins (ShowsCore o) seat v other w (shown_caller v w) nothing
joins_shown_advancer_as o seat v other w a q e f =
    subst (λ (z : View × View). Joins (ShowsCore o) seat z.0 other z.1 (shown_caller z.0 z.1) nothing) (λ j. (sym e j, sym f j))
    (joins_shown_advancer o seat a other q)

pub joins_heard_advancer_as : (o : Opening) (seat : ℕ) (v : View) (other : ℕ) (w : View) (a : AdvKnown) (q : CallerKnown)
    → v ≡ advancer_view a
    → w ≡ caller_view q → Joins (ShowsCore o) seat v other w (heard_advancer v w) nothing
joins_heard_advancer_as o seat v other w a q e f =
    subst (λ (z : View × View). Joins (ShowsCore o) seat z.0 other z.1 (heard_advancer z.0 z.1) nothing) (λ j. (sym e j, sym f j))
    (joins_heard_advancer o seat a other q)

pub copies_caller_as : (o : Opening) (seat : ℕ) (v : View) (q : CallerKnown) → v ≡ caller_view q
    → Splits (ShowsCore o) seat v v (copied_caller v)
copies_caller_as o seat v q e = subst (λ (z : View). Splits (ShowsCore o) seat z z (copied_caller z)) (sym e) (copies_caller o seat q)
