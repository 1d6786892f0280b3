-- How the rule is kept: what a step, a split and a join owe it.
use Rattle.std.proofs.Common.{◌≡◌, ◌≢◌, ◌⊎◌, ℕ, zero, suc, ◌-◌, ◌<◌, List, [], ◌∷◌, ◌++◌, length, set, refl, sym, ap, ◌∙◌, subst, ⊎_elim, inl, inr, eqb, eq-eqb, ne_eqb, cond, length-set}
use Rattle.std.specs.Prelude.{slice_get, slice_index, Some}
use mathlib.Core.Option.{some, some-injective, some-ne-none}
use lib.ListN.{get_elem?}
use lib.Seq.{set-get_or}
use Rattle.atomic_table.specs.Table.{State, Act, stepped, homes_after}
use Rattle.atomic_table.proofs.Lists.{at_set}
use Rattle.mont_base.specs.Image.{clock_of}
use Rattle.mont_base.specs.State.{State as Contents}
use Rattle.core_steps.specs.declared.event.Event.{Event}
use Rattle.core_steps.specs.declared.parts.AdvPart.{AdvPart}
use Rattle.core_steps.specs.declared.parts.Core.{Core}
use Rattle.core_steps.specs.declared.parts.UnitPart.{UnitPart}
use Rattle.core_steps.specs.CallerClauses.{view_of}
use Rattle.core_steps.specs.Clock.{clock, durable_clock}
use Rattle.core_steps.specs.Stages.{passed_of}
use Rattle.core_steps.specs.Events.{IsAllowed, after}
use Rattle.core_steps.specs.Flushing.{unit_list}
use Rattle.core_steps.specs.Notes.{moment_of, Grows, seen_by_note}
use Rattle.core_steps.specs.Opened.{recovered, opened_at}
use Rattle.core_steps.specs.Sound.{IsSound}
use Rattle.core_steps.proofs.Growth.{grows_itself}
use Rattle.core_steps.proofs.GrowthSteps.{steps_grow}
use Rattle.core_steps.proofs.NoteLaws.{note_lasts}
use Rattle.core_steps.proofs.Steps.{allowed_law}
use Rattle.heap_rule.specs.declared.rule.Opening.{Opening}
use Rattle.heap_rule.specs.declared.views.AdvKnown.{AdvKnown}
use Rattle.heap_rule.specs.declared.views.CallerKnown.{CallerKnown}
use Rattle.heap_rule.specs.declared.views.NoteKnown.{NoteKnown}
use Rattle.heap_rule.specs.declared.views.UnitKnown.{UnitKnown}
use Rattle.heap_rule.specs.declared.views.View.{View}
use Rattle.heap_rule.specs.Views.{Cell, nothing}
use Rattle.heap_rule.specs.TableWords.{table_words}
use Rattle.heap_rule.specs.Rule.{Each, Owners, Board, HasPassed, Homes, Passed, FitsUnit, FitsAdvancer, FitsCaller, FitsNote, FitsView, IsRun, ShowsCore}
use Rattle.heap_rule.proofs.Growing.{Sweeps, sweeps_itself, clean_still, learnt_still, left_still, entries_still}

pub each_map : {A : Type 0} (P Q : A → Type 0) → ((x : A) → P x → Q x) → (xs : List A) → Each P xs → Each Q xs
each_map P Q f [] h = tt
each_map P Q f (x ∷ xs) h = (f x h.0, each_map P Q f xs h.1)

pub each_zip : {A : Type 0} (P Q R : A → Type 0) → ((x : A) → P x → Q x → R x) → (xs : List A) → Each P xs → Each Q xs → Each R xs
each_zip P Q R f [] h k = tt
each_zip P Q R f (x ∷ xs) h k = (f x h.0 k.0, each_zip P Q R f xs h.1 k.1)

pub each_append : {A : Type 0} (P : A → Type 0) (xs ys : List A) → Each P xs → Each P ys → Each P (xs ++ ys)
each_append P [] ys h k = k
each_append P (x ∷ xs) ys h k = (h.0, each_append P xs ys h.1 k)

-- ---- the core goes on
-- it is reached from the first one, it is sound, and histories and clocks only grew
pub record Reached (o : Opening) (states : List Contents) (c d : Core) : Type 0 where
  pub events : List Event
  pub run : IsRun (recovered o.layout o.words o.callers) events d
  pub sound : IsSound (opened_at (clock_of o.words) states) d
  pub grows : Grows (moment_of c) (moment_of d)

module _ (o : Opening) (s : State Cell View) (k : ShowsCore o s) where
  -- by an allowed step
  pub goes : (d : Core) (e : Event) → IsAllowed k.board.core e → d ≡ after k.board.core e → Reached o k.states k.board.core d
  goes d e may is = record {
    events = e ∷ k.events;
    run = (k.board.core, k.run, may, is);
    sound = subst (IsSound (opened_at (clock_of o.words) k.states)) (sym is)
        (allowed_law (opened_at (clock_of o.words) k.states) k.board.core e k.sound may);
    grows = subst (λ (z : Core). Grows (moment_of k.board.core) (moment_of z)) (sym is)
        (steps_grow (opened_at (clock_of o.words) k.states) k.board.core k.sound e may);
  }

  -- or not at all
  pub stays : Reached o k.states k.board.core k.board.core
  stays = record { events = k.events; run = k.run; sound = k.sound; grows = grows_itself (moment_of k.board.core) }

-- ---- what of a view depends on its own parts
-- the advancer's part stays, and so do the lists of the units that it has passed
pub record AdvStays (c d : Board) : Type 0 where
  pub part : d.core.advancer ≡ c.core.advancer
  pub clock_is : clock d.core ≡ clock c.core
  pub durable : durable_clock d.core ≡ durable_clock c.core
  pub odd : d.core.odd ≡ c.core.odd
  pub full : d.full ≡ c.full
  pub lists : (u : ℕ) (q : UnitPart) → slice_get d.core.units u ≡ Some q → HasPassed c.core u
      → (p : UnitPart) × (slice_get c.core.units u ≡ Some p) × (unit_list (clock c.core - 1) q ≡ unit_list (clock c.core - 1) p)

-- only parts that some seats have may differ
pub record Moves (own : Owners) (mine : ℕ → Type 0) (c d : Board) : Type 0 where
  pub units : (u : ℕ) → (mine (own.unit u) → ⊥) → (slice_get d.core.units u ≡ slice_get c.core.units u) × (d.turn u ≡ c.turn u)
  pub advancer : (mine own.advancer → ⊥) → AdvStays c d
  pub callers : (k : ℕ) → (mine (own.caller k) → ⊥) → slice_get d.core.callers k ≡ slice_get c.core.callers k
  pub count : length d.core.units ≡ length c.core.units
  pub caller_count : length d.core.callers ≡ length c.core.callers
  pub layout : d.core.layout ≡ c.core.layout
  pub sweeps : Sweeps c.core.units d.core.units

pub moves_none : (own : Owners) (mine : ℕ → Type 0) (c : Board) → Moves own mine c c
moves_none own mine c = record {
  units = λ u off. (refl, refl);
  advancer = λ off. record {
    part = refl;
    clock_is = refl;
    durable = refl;
    odd = refl;
    full = refl;
    lists = λ u q at passed. (q, at, refl);
  };
  callers = λ k off. refl;
  count = refl;
  caller_count = refl;
  layout = refl;
  sweeps = sweeps_itself c.core.units;
}

module _ (own : Owners) (mine : ℕ → Type 0) (c d : Board) (m : Moves own mine c d)
    (g : Grows (moment_of c.core) (moment_of d.core)) where
  unit_still : (j : ℕ) → (mine j → ⊥) → (h : UnitKnown) → FitsUnit c own j h → FitsUnit d own j h
  unit_still j off h f =
      let same = m.units h.unit (λ x. off (subst mine f.mine x)) in
      record {
        mine = f.mine;
        part = same.0 ∙ f.part;
        turn = same.1 ∙ f.turn;
        room = ap (λ s. s.slots) m.layout ∙ f.room;
        learnt = learnt_still c.core d.core h.learnt g f.learnt;
        clean = clean_still c.core.units d.core.units h.clean m.sweeps f.clean;
      }

  advancer_still : (j : ℕ) → (mine j → ⊥) → (a : AdvKnown) → FitsAdvancer c own j a → FitsAdvancer d own j a
  advancer_still j off a f =
      let same = m.advancer (λ x. off (subst mine f.mine x)) in
      record {
        mine = f.mine;
        part = same.part ∙ f.part;
        clock_is = same.clock_is ∙ f.clock_is;
        durable = same.durable ∙ f.durable;
        odd = same.odd ∙ f.odd;
        units = m.count ∙ f.units;
        room = ap (λ s. s.slots) m.layout ∙ f.room;
        list_count = f.list_count;
        lists = λ u q at passed.
            let was : HasPassed c.core u = subst (λ (z : ℕ × AdvPart). u < passed_of z.0 z.1) (λ i. (m.count i, same.part i)) passed in
            let old = same.lists u q at was in
            f.lists u old.0 old.1 was ∙ (sym old.2 ∙ ap (λ (n : ℕ). unit_list (n - 1) q) (sym same.clock_is));
        turn = same.full ∙ f.turn;
        learnt = learnt_still c.core d.core a.learnt g f.learnt;
        clean = clean_still c.core.units d.core.units a.clean m.sweeps f.clean;
      }

  caller_still : (states : List Contents) (now : ℕ) → IsSound (opened_at now states) c.core → (j : ℕ) → (mine j → ⊥) → (q : CallerKnown)
      → FitsCaller c own j q → FitsCaller d own j q
  caller_still states now sound j off q f = record {
    mine = f.mine;
    part = m.callers q.caller (λ x. off (subst mine f.mine x)) ∙ f.part;
    entries = entries_still (moment_of c.core) (moment_of d.core) (view_of q.part) q.entries g
        (sound.callers.each q.caller q.part f.part).seen f.entries;
    left = left_still c.core d.core q.within g f.left;
    clean = clean_still c.core.units d.core.units q.clean m.sweeps f.clean;
  }

  pub note_still : (n : NoteKnown) → FitsNote c n → FitsNote d n
  note_still n f = record {
    is_true = note_lasts (moment_of c.core) (moment_of d.core) n.note g f.is_true;
    entries = entries_still (moment_of c.core) (moment_of d.core) (seen_by_note n.note) n.entries g f.is_true.fits f.entries;
    clean = clean_still c.core.units d.core.units n.clean m.sweeps f.clean;
  }

  -- the view of another seat fits still
  pub view_still : (states : List Contents) (now : ℕ) → IsSound (opened_at now states) c.core → (j : ℕ) → (mine j → ⊥) → (v : View)
      → FitsView c own j v → FitsView d own j v
  view_still states now sound j off v f = record {
    units = each_map (FitsUnit c own j) (FitsUnit d own j) (unit_still j off) v.units f.units;
    advancers = each_map (FitsAdvancer c own j) (FitsAdvancer d own j) (advancer_still j off) v.advancers f.advancers;
    callers = each_map (FitsCaller c own j) (FitsCaller d own j) (caller_still states now sound j off) v.callers f.callers;
    notes = each_map (FitsNote c) (FitsNote d) note_still v.notes f.notes;
  }

-- ---- one view changes
views_set : (F : ℕ → View → Type 0) (vs : List View) (seat : ℕ) (w : View)
    → ((j : ℕ) (v : View) → j ≢ seat → get_elem? vs j ≡ some v → F j v) → F seat w
    → (j : ℕ) (v : View) → get_elem? (set vs seat w) j ≡ some v → F j v
views_set F vs seat w others mine j v e =
    ⊎_elim
    (λ (t : (j ≡ seat) × (w ≡ v)). subst (λ (x : ℕ × View). F x.0 x.1) (λ i. (sym t.0 i, t.1 i)) mine)
    (λ (t : (j ≢ seat) × (get_elem? vs j ≡ some v)). others j v t.0 t.1)
    (at_set vs seat j w v e)

module _ (o : Opening) (s : State Cell View) (k : ShowsCore o s) where
  -- A step: the core goes on, a word changes, a list may be taken or given back, and the seat's view
  -- becomes w.
  pub steps : (seat i x : ℕ) (c : List (ℕ × Cell)) (w : View) (a : Act Cell) (d : Board) → Reached o k.states k.board.core d.core
      → Moves k.own (λ j. j ≡ seat) k.board d → set (table_words k.board.core) i x ≡ table_words d.core
      → Passed d → Homes d (homes_after s.homes c a) → FitsView d k.own seat w → ShowsCore o (stepped s i x seat c w a)
  steps seat i x c w a d r moves words passed homes fits = record {
    board = d;
    own = k.own;
    accepted = k.accepted;
    states = k.states;
    base = k.base;
    events = r.events;
    run = r.run;
    sound = r.sound;
    layout = moves.layout ∙ k.layout;
    callers = moves.caller_count ∙ k.callers;
    words = ap (λ (ws : List ℕ). set ws i x) k.words ∙ words;
    passed = passed;
    homes = homes;
    views = views_set (FitsView d k.own) s.views seat w
        (λ j v off e. view_still k.own (λ j. j ≡ seat) k.board d moves r.grows k.states (clock_of o.words) k.sound j off v
        (k.views j v e)) fits;
  }

  -- a load
  pub loads : (seat i : ℕ) (c : List (ℕ × Cell)) (w : View) (a : Act Cell) (d : Board) → Reached o k.states k.board.core d.core
      → Moves k.own (λ j. j ≡ seat) k.board d → table_words k.board.core ≡ table_words d.core
      → Passed d → Homes d (homes_after s.homes c a) → FitsView d k.own seat w
      → ShowsCore o (stepped s i (slice_index s.words i) seat c w a)
  loads seat i c w a d r moves words passed homes fits =
      steps seat i (slice_index s.words i) c w a d r moves
      (subst (λ (ws : List ℕ). set (table_words k.board.core) i (slice_index ws i) ≡ table_words d.core) (sym k.words)
      (set-get_or (table_words k.board.core) i 0 ∙ words)) passed homes fits

-- ---- one place of a function changes
abbrev pub one_given : {A : Type 0} → (ℕ → A) → ℕ → A → ℕ → A
one_given f which to x = cond (eqb x which) to (f x)

pub given_hit : {A : Type 0} (f : ℕ → A) (which : ℕ) (to : A) → one_given f which to which ≡ to
given_hit f which to = ap (λ b. cond b to (f which)) (eq-eqb which which refl)

pub given_miss : {A : Type 0} (f : ℕ → A) (which : ℕ) (to : A) (x : ℕ) → x ≢ which → one_given f which to x ≡ f x
given_miss f which to x n = ap (λ b. cond b to (f x)) (ne_eqb x which n)

-- ---- parts go from one seat to another
-- only what this seat has
pub record Hands (gone : ℕ) (own now : Owners) : Type 0 where
  pub unit : (u : ℕ) → own.unit u ≢ gone → now.unit u ≡ own.unit u
  pub advancer : own.advancer ≢ gone → now.advancer ≡ own.advancer
  pub caller : (k : ℕ) → own.caller k ≢ gone → now.caller k ≡ own.caller k

module _ (b : Board) (own now : Owners) (j i : ℕ) where
  pub unit_handed : (h : UnitKnown) → now.unit h.unit ≡ i → FitsUnit b own j h → FitsUnit b now i h
  unit_handed h is f =
      record { mine = is; part = f.part; turn = f.turn; room = f.room; learnt = f.learnt; clean = f.clean }

  pub advancer_handed : (a : AdvKnown) → now.advancer ≡ i → FitsAdvancer b own j a → FitsAdvancer b now i a
  advancer_handed a is f = record {
    mine = is;
    part = f.part;
    clock_is = f.clock_is;
    durable = f.durable;
    odd = f.odd;
    units = f.units;
    room = f.room;
    list_count = f.list_count;
    lists = f.lists;
    turn = f.turn;
    learnt = f.learnt;
    clean = f.clean;
  }

  pub caller_handed : (q : CallerKnown) → now.caller q.caller ≡ i → FitsCaller b own j q → FitsCaller b now i q
  caller_handed q is f = record { mine = is; part = f.part; entries = f.entries; left = f.left; clean = f.clean }

-- the view of another seat fits
view_elsewhere : (b : Board) (own now : Owners) (gone : ℕ) → Hands gone own now → (j : ℕ) → j ≢ gone → (v : View)
    → FitsView b own j v → FitsView b now j v
view_elsewhere b own now gone m j off v f = record {
  units = each_map (FitsUnit b own j) (FitsUnit b now j)
      (λ h x. unit_handed b own now j j h (m.unit h.unit (λ e. off (sym x.mine ∙ e)) ∙ x.mine) x) v.units f.units;
  advancers = each_map (FitsAdvancer b own j) (FitsAdvancer b now j)
      (λ a x. advancer_handed b own now j j a (m.advancer (λ e. off (sym x.mine ∙ e)) ∙ x.mine) x) v.advancers f.advancers;
  callers = each_map (FitsCaller b own j) (FitsCaller b now j)
      (λ q x. caller_handed b own now j j q (m.caller q.caller (λ e. off (sym x.mine ∙ e)) ∙ x.mine) x) v.callers f.callers;
  notes = f.notes;
}

at_end : (l : List View) (a b : View) (j : ℕ) → get_elem? (l ++ a ∷ []) j ≡ some b → (get_elem? l j ≡ some b) ⊎ ((j ≡ length l) × (a ≡ b))
at_end [] a b zero e = inr (refl, some-injective a b e)
at_end [] a b (suc j) e = absurd (some-ne-none b (sym e))
at_end (x ∷ xs) a b zero e = inl e
at_end (x ∷ xs) a b (suc j) e = ⊎_elim inl (λ t. inr (ap suc t.0, t.1)) (at_end xs a b j e)

module _ (o : Opening) (s : State Cell View) (k : ShowsCore o s) where
  -- a split: the core stays, and the new seat, which is the last, takes over some parts
  pub resplit : (seat : ℕ) (left right : View) (now : Owners) → Hands seat k.own now → FitsView k.board now seat left
      → FitsView k.board now (length s.views) right
      → ShowsCore o (record { words = s.words; homes = s.homes; views = set s.views seat left ++ right ∷ [] })
  resplit seat left right now hands l r = record {
    board = k.board;
    own = now;
    accepted = k.accepted;
    states = k.states;
    base = k.base;
    events = k.events;
    run = k.run;
    sound = k.sound;
    layout = k.layout;
    callers = k.callers;
    words = k.words;
    passed = k.passed;
    homes = k.homes;
    views = λ j v e. ⊎_elim
        (λ h. views_set (FitsView k.board now) s.views seat left
        (λ j v off e. view_elsewhere k.board k.own now seat hands j off v (k.views j v e)) l j v h)
        (λ (t : (j ≡ length (set s.views seat left)) × (right ≡ v)).
        subst (λ (x : ℕ × View). FitsView k.board now x.0 x.1) (λ i. (sym (t.0 ∙ length-set s.views seat left) i, t.1 i)) r)
        (at_end (set s.views seat left) right v j e);
  }

  -- A join: the core may go on in parts of the two seats, and the first takes over all that the other has.
  pub rejoin : (seat other : ℕ) (one : View) (d : Board) (now : Owners) → Reached o k.states k.board.core d.core
      → Moves k.own (λ j. (j ≡ seat) ⊎ (j ≡ other)) k.board d → Hands other k.own now
      → table_words k.board.core ≡ table_words d.core → Passed d → Homes d s.homes → FitsView d now seat one
      → ShowsCore o (record { words = s.words; homes = s.homes; views = set (set s.views seat one) other nothing })
  rejoin seat other one d now r moves hands words passed homes fits = record {
    board = d;
    own = now;
    accepted = k.accepted;
    states = k.states;
    base = k.base;
    events = r.events;
    run = r.run;
    sound = r.sound;
    layout = moves.layout ∙ k.layout;
    callers = moves.caller_count ∙ k.callers;
    words = k.words ∙ words;
    passed = passed;
    homes = homes;
    views = views_set (FitsView d now) (set s.views seat one) other nothing
        (λ j x off e. views_set (λ (j : ℕ) (x : View). j ≢ other → FitsView d now j x) s.views seat one
        (λ j x apart e off. view_elsewhere d k.own now other hands j off x
        (view_still k.own (λ j. (j ≡ seat) ⊎ (j ≡ other)) k.board d moves r.grows k.states (clock_of o.words) k.sound j
        (λ (z : (j ≡ seat) ⊎ (j ≡ other)). ⊎_elim apart off z) x (k.views j x e)))
        (λ _. fits) j x e off)
        (record { units = tt; advancers = tt; callers = tt; notes = tt });
  }
