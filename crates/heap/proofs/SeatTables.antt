-- From what contracts see of a heap and its seats to what their fields have.
use Rattle.std.proofs.Common.{◌≡◌, ℕ, ◌+◌, ◌*◌, ◌<◌, ◌≤◌, refl, ap, sym, ◌∙◌, subst, arith, [], ◌∷◌, ◌++◌, Bool, true, false, cond}
use Rattle.std.specs.Prelude.{◌||◌, nat_le, Some, None}
use Rattle.atomic_table.specs.Seated.{TableId}
use Rattle.atomic_table.specs.Table.{rest}
use Rattle.mont_base.specs.SlotLists.{Roomy}
use Rattle.mont_base.specs.declared.constants.TheConstants.{FIELDS, FIRST_CLOCK, LAST}
use Rattle.mont_base.specs.Layout.{Shape, total_of, word_of}
use Rattle.core_steps.specs.declared.parts.AdvPart.{AdvPart}
use Rattle.core_steps.specs.declared.parts.UnitPart.{UnitPart}
use Rattle.core_steps.specs.declared.parts.UnitStage.{UnitStage}
use Rattle.core_steps.specs.declared.parts.UnitStage.TheVariants.{Idle, Told, Within, Closing}
use Rattle.core_steps.specs.Stages.{is_idle, is_told, is_within, is_announced, is_unfrozen, epoch_of}
use Rattle.core_steps.specs.Announcing.{can_tell, can_confirm}
use Rattle.core_steps.specs.Closing.{CanClose, CanPersistClose}
use Rattle.core_steps.specs.Advancing.{unit_at_hand}
use Rattle.core_steps.proofs.Decisions.{both, le_true}
use Rattle.heap_rule.specs.declared.views.AdvKnown.{AdvKnown}
use Rattle.heap_rule.specs.declared.views.CallerKnown.{CallerKnown}
use Rattle.heap_rule.specs.declared.views.UnitKnown.{UnitKnown}
use Rattle.heap_rule.specs.declared.views.UnitTurn.{UnitTurn}
use Rattle.heap_rule.specs.declared.views.View.{View}
use Rattle.heap_rule.specs.Views.{Cell, Seated, home_turn, listing, list_place, listed_in, list_at, unit_view, advancer_view, the_unit, the_advancer, unit_took, advancer_took, slot_at_hand, field_at_hand, odd_announcement, caller_view, pair_view, with_callers}
use Rattle.heap_rule.specs.TableWords.{announcement_place, durable_place, word_count}
use Rattle.heap.specs.HeapShown.{HeapShown, UnitShown, AdvShown, CallerShown, IsUnit, IsAdvancer}

pub unit_table : (v w : UnitShown) (a b : HeapShown) → v ≡ w → w.table ≡ b.table → a ≡ b → v.table ≡ a.table
unit_table v w a b p q r = ap (λ (x : UnitShown). x.table) p ∙ (q ∙ sym (ap (λ (x : HeapShown). x.table) r))

pub advancer_table : (v w : AdvShown) (a b : HeapShown) → v ≡ w → w.table ≡ b.table → a ≡ b → v.table ≡ a.table
advancer_table v w a b p q r = ap (λ (x : AdvShown). x.table) p ∙ (q ∙ sym (ap (λ (x : HeapShown). x.table) r))

pub caller_table : (v w : CallerShown) (a b : HeapShown) → v ≡ w → w.table ≡ b.table → a ≡ b → v.table ≡ a.table
caller_table v w a b p q r = ap (λ (x : CallerShown). x.table) p ∙ (q ∙ sym (ap (λ (x : HeapShown). x.table) r))

-- a word that is one of the table's, as contracts see it and as the fields have it
pub word_inside : (i : ℕ) (a b : HeapShown) → a ≡ b → i < b.table.words → i < a.table.words
word_inside i a b e l = subst (λ (z : HeapShown). i < z.table.words) (sym e) l

-- the place of a unit's announcement
pub place_announced : (i : ℕ) (v w : UnitShown) (a b : HeapShown) → v ≡ w → a ≡ b → i ≡ announcement_place b.opening.layout w.known.unit
    → i ≡ announcement_place a.opening.layout v.known.unit
place_announced i v w a b p q e = e ∙ (λ j. announcement_place (sym q j).opening.layout (sym p j).known.unit)

-- ---- what a stage that allows a step rules out
told_rests : (s : UnitStage) → (is_idle s || is_told s) ≡ true → is_within s ≡ false
told_rests Idle e = refl
told_rests (Told x) e = refl
told_rests (Within x) e = absurd (cc)
told_rests (Closing slot) e = absurd (cc)

pub tell_rests : (p : UnitPart) (e : ℕ) → can_tell p e ≡ true → is_within p.stage ≡ false
tell_rests p e may = told_rests p.stage (both (is_idle p.stage || is_told p.stage) _ (both (is_unfrozen p) _ may).1).0

-- and the epoch is one
pub tell_first : (p : UnitPart) (e : ℕ) → can_tell p e ≡ true → 1 ≤ e
tell_first p e may =
    let first = le_true FIRST_CLOCK e
    (both (nat_le FIRST_CLOCK e) (nat_le e LAST) (both (is_idle p.stage || is_told p.stage) _ (both (is_unfrozen p) _ may).1).1).0 in
    omega arith

pub tell_last : (p : UnitPart) (e : ℕ) → can_tell p e ≡ true → e ≤ LAST
tell_last p e may = le_true e LAST
    (both (nat_le FIRST_CLOCK e) (nat_le e LAST) (both (is_idle p.stage || is_told p.stage) _ (both (is_unfrozen p) _ may).1).1).1

only_told : (s : UnitStage) → is_told s ≡ true → is_within s ≡ false
only_told Idle e = absurd (cc)
only_told (Told x) e = refl
only_told (Within x) e = absurd (cc)
only_told (Closing slot) e = absurd (cc)

pub confirm_rests : (p : UnitPart) → can_confirm p ≡ true → is_within p.stage ≡ false
confirm_rests p may = only_told p.stage (both (is_unfrozen p) (is_told p.stage) may).1

pub close_label_rests : (p : UnitPart) (slot : ℕ) → CanClose p slot → is_within p.stage ≡ false
close_label_rests p slot may = ap is_within may.stage

pub persist_close_rests : (p : UnitPart) (slot : ℕ) → CanPersistClose p slot → is_within p.stage ≡ false
persist_close_rests p slot may = ap is_within may.stage

-- a unit that takes its announcement back has its list at home with nothing pushed
pub withdraw_rests : (h : UnitKnown) → (is_within h.part.stage ≡ false → h.turn ≡ home_turn)
    → (is_within h.part.stage ≡ true → h.turn ≡ home_turn) → h.turn ≡ home_turn
withdraw_rests h rests within = by (is_within h.part.stage) refl
  where
    by : (b : Bool) → is_within h.part.stage ≡ b → h.turn ≡ home_turn
    by true e = within e
    by false e = rests e

-- ---- slots
pub slot_inside : (slot : ℕ) (a b : HeapShown) → a ≡ b → slot < total_of b.opening.layout → slot < total_of a.opening.layout
slot_inside slot a b e l = subst (λ (z : HeapShown). slot < total_of z.opening.layout) (sym e) l

pub place_durable : (i word : ℕ) (a b : HeapShown) → a ≡ b → i ≡ durable_place b.opening.layout word
    → i ≡ durable_place a.opening.layout word
place_durable i word a b q e = e ∙ ap (λ (z : HeapShown). durable_place z.opening.layout word) (sym q)

-- ---- the advancer
pub place_at_hand : (i : ℕ) (v w : AdvShown) (a b : HeapShown) → v ≡ w → a ≡ b
    → i ≡ announcement_place b.opening.layout (unit_at_hand w.known.part)
    → i ≡ announcement_place a.opening.layout (unit_at_hand v.known.part)
place_at_hand i v w a b p q e = e ∙ (λ j. announcement_place (sym q j).opening.layout (unit_at_hand (sym p j).known.part))

-- the slot and the field at hand, as contracts see them and as the fields have them
pub hand_inside : (slot : ℕ) (v w : AdvShown) (a b : HeapShown) → v ≡ w → a ≡ b → slot ≡ slot_at_hand w.known
    → slot < total_of b.opening.layout → slot_at_hand v.known < total_of a.opening.layout
hand_inside slot v w a b p q is l =
    subst (λ (z : ℕ × HeapShown). z.0 < total_of z.1.opening.layout) (λ j. (
      (is
          ∙ ap (λ (x : AdvShown). slot_at_hand x.known) (sym p)) j,
      sym q j,
    )) l

pub hand_field : (f : ℕ) (part : AdvPart) → f ≡ field_at_hand part → field_at_hand part < FIELDS → f < FIELDS
hand_field f part e l = omega arith

pub hand_word : (slot f : ℕ) (part : AdvPart) (v w : AdvShown) → v ≡ w → slot ≡ slot_at_hand w.known → f ≡ field_at_hand part
    → part ≡ v.known.part
    → word_of slot f ≡ word_of (slot_at_hand v.known) (field_at_hand v.known.part)
hand_word slot f part v w p is e same =
    λ j. word_of ((is ∙ ap (λ (x : AdvShown). slot_at_hand x.known) (sym p)) j) ((e ∙ ap field_at_hand same) j)

pub emptied_turn : (v w : AdvShown) → v ≡ w → w.known.turn.emptied ≡ w.known.units → w.known.turn.out ≡ false
    → v.known.turn ≡ record { emptied = v.known.units; out = false }
emptied_turn v w p e f = subst (λ (x : AdvShown). x.known.turn ≡ record { emptied = x.known.units; out = false }) (sym p)
    (λ j. record { emptied = e j; out = f j })

-- ---- slots of the table that are out with a seat
module _ (t : TableId) (unit epoch entries newest durable : ℕ) (m : Seated) (k : IsUnit t unit epoch entries newest durable m) where
  -- one is out with a unit's seat that has its list out
  one_out : (the_unit m.0).turn.out ≡ true
      → m.1 ≡ (list_place (the_unit m.0).unit (epoch_of (the_unit m.0).part.stage), None) ∷ []
  one_out away = let h : UnitKnown = the_unit m.0 in
      ap (λ (x : Seated). x.1) k.whole ∙ ap (λ b. cond b ((list_place h.unit (epoch_of h.part.stage), None) ∷ []) []) away

  -- the seat once its list was taken
  pub took_slot : (n : Seated) (i : ℕ) → i ≡ list_place unit epoch
      → n ≡ (
        unit_view (unit_took (the_unit m.0)),
        (
          list_place (the_unit m.0).unit (epoch_of (the_unit m.0).part.stage),
          listing (the_unit m.0).room (listed_in (the_unit m.0) ++ (the_unit m.0).turn.pushed),
        ) ∷ m.1,
      )
      → (x : Cell) × (n.1 ≡ (i, x) ∷ rest n.1)
  took_slot n i at is =
      let h : UnitKnown = the_unit m.0 in
      let x : Cell = listing h.room (listed_in h ++ h.turn.pushed) in
      subst (λ (n : Seated). (x : Cell) × (n.1 ≡ (i, x) ∷ rest n.1)) (sym is)
      (x, λ j. (sym (at ∙ (λ j. list_place (k.number j) (k.epoch_is j))) j, x) ∷ m.1)

  -- the seat once the list lies where it is given back from
  pub gave_slot : (i : ℕ) (n : Seated) (l : Roomy) → (the_unit m.0).turn.out ≡ true → i ≡ list_place unit epoch
      → n ≡ (m.0, (i, Some l) ∷ rest m.1)
      → n ≡ (unit_view (the_unit m.0), (list_place (the_unit m.0).unit (epoch_of (the_unit m.0).part.stage), Some l) ∷ [])
  gave_slot i n l away at is =
      is ∙ (λ j. ((k.whole j).0, ((at ∙ (λ j. list_place (k.number j) (k.epoch_is j))) j, Some l) ∷ rest (one_out away j)))

  -- nothing is out with a unit's seat whose list is at home
  none_out : (the_unit m.0).turn ≡ home_turn → m.1 ≡ []
  none_out home = let h : UnitKnown = the_unit m.0 in
      ap (λ (x : Seated). x.1) k.whole
      ∙ ap (λ (t : UnitTurn). cond t.out ((list_place h.unit (epoch_of h.part.stage), None) ∷ []) []) home

  -- the seat once its list was taken and pushed to where it stands
  pub pushed_slot : (i : ℕ) (n : Seated) (l : Roomy) → (the_unit m.0).turn ≡ home_turn → i ≡ list_place unit epoch
      → n ≡ (
        unit_view (unit_took (the_unit m.0)),
        (
          list_place (the_unit m.0).unit (epoch_of (the_unit m.0).part.stage),
          listing (the_unit m.0).room (listed_in (the_unit m.0) ++ (the_unit m.0).turn.pushed),
        ) ∷ m.1,
      )
      → ◌≡◌ {A = Seated} (n.0, (i, Some l) ∷ rest n.1) (
        unit_view (unit_took (the_unit m.0)),
        (list_place (the_unit m.0).unit (epoch_of (the_unit m.0).part.stage), Some l) ∷ [],
      )
  pushed_slot i n l home at is = λ j. (
    (is j).0,
    ((at ∙ (λ j. list_place (k.number j) (k.epoch_is j))) j, Some l) ∷ (ap (λ (x : Seated). rest x.1) is ∙ none_out home) j,
  )

  pub out_slot : (i : ℕ) → (the_unit m.0).turn.out ≡ true → i ≡ list_place unit epoch → (x : Cell) × (m.1 ≡ (i, x) ∷ rest m.1)
  out_slot i away at =
      (None, one_out away ∙ (λ j. (sym (at ∙ (λ j. list_place (k.number j) (k.epoch_is j))) j, None) ∷ rest (sym (one_out away) j)))

module _ (t : TableId) (part : AdvPart) (clock durable emptied : ℕ) (m : Seated) (k : IsAdvancer t part clock durable emptied m) where
  one_full : (the_advancer m.0).turn.out ≡ true
      → m.1 ≡ (list_place (the_advancer m.0).turn.emptied ((the_advancer m.0).clock + 1), None) ∷ []
  one_full away = let a : AdvKnown = the_advancer m.0 in
      ap (λ (x : Seated). x.1) k.whole ∙ ap (λ b. cond b ((list_place a.turn.emptied (a.clock + 1), None) ∷ []) []) away

  pub full_slot : (n : Seated) (i u : ℕ) → i ≡ list_place u (clock + 1) → u ≡ (the_advancer m.0).turn.emptied
      → n ≡ (
        advancer_view (advancer_took (the_advancer m.0)),
        (
          list_place (the_advancer m.0).turn.emptied ((the_advancer m.0).clock + 1),
          listing (the_advancer m.0).room (list_at (the_advancer m.0).lists (the_advancer m.0).turn.emptied),
        ) ∷ m.1,
      )
      → (x : Cell) × (n.1 ≡ (i, x) ∷ rest n.1)
  full_slot n i u at next is =
      let a : AdvKnown = the_advancer m.0 in
      let x : Cell = listing a.room (list_at a.lists a.turn.emptied) in
      subst (λ (n : Seated). (x : Cell) × (n.1 ≡ (i, x) ∷ rest n.1)) (sym is)
      (x, λ j. (sym (at ∙ (λ j. list_place (next j) (k.clock_is j + 1))) j, x) ∷ m.1)

  pub empty_slot : (i u : ℕ) (n : Seated) (l : Roomy) → (the_advancer m.0).turn.out ≡ true → i ≡ list_place u (clock + 1)
      → u ≡ (the_advancer m.0).turn.emptied → n ≡ (m.0, (i, Some l) ∷ rest m.1)
      → l ≡ record { slots = []; room = (the_advancer m.0).room }
      → n ≡ (
        advancer_view (the_advancer m.0),
        (list_place (the_advancer m.0).turn.emptied ((the_advancer m.0).clock + 1), listing (the_advancer m.0).room []) ∷ [],
      )
  empty_slot i u n l away at next is list =
      is ∙ (λ j. ((k.whole j).0, ((at ∙ (λ j. list_place (next j) (k.clock_is j + 1))) j, Some (list j)) ∷ rest (one_full away j)))

  -- nothing is out with the seat while each list is at home
  none_full : (the_advancer m.0).turn.out ≡ false → m.1 ≡ []
  none_full home = let a : AdvKnown = the_advancer m.0 in
      ap (λ (x : Seated). x.1) k.whole ∙ ap (λ b. cond b ((list_place a.turn.emptied (a.clock + 1), None) ∷ []) []) home

  -- the seat once an empty list was taken and stands where it did
  pub stood_slot : (i u : ℕ) (n : Seated) (l : Roomy) → (the_advancer m.0).turn.out ≡ false → i ≡ list_place u (clock + 1)
      → u ≡ (the_advancer m.0).turn.emptied
      → n ≡ (
        advancer_view (advancer_took (the_advancer m.0)),
        (
          list_place (the_advancer m.0).turn.emptied ((the_advancer m.0).clock + 1),
          listing (the_advancer m.0).room (list_at (the_advancer m.0).lists (the_advancer m.0).turn.emptied),
        ) ∷ m.1,
      )
      → l ≡ record { slots = []; room = (the_advancer m.0).room }
      → ◌≡◌ {A = Seated} (n.0, (i, Some l) ∷ rest n.1) (
        advancer_view (advancer_took (the_advancer m.0)),
        (list_place (the_advancer m.0).turn.emptied ((the_advancer m.0).clock + 1), listing (the_advancer m.0).room []) ∷ [],
      )
  stood_slot i u n l home at next is list = λ j. (
    (is j).0,
    ((at ∙ (λ j. list_place (next j) (k.clock_is j + 1))) j, Some (list j))
        ∷ (ap (λ (x : Seated). rest x.1) is ∙ none_full home) j,
  )

  pub out_full : (i u : ℕ) → (the_advancer m.0).turn.out ≡ true → i ≡ list_place u (clock + 1) → u ≡ (the_advancer m.0).turn.emptied
      → (x : Cell) × (m.1 ≡ (i, x) ∷ rest m.1)
  out_full i u away at next =
      (None, one_full away ∙ (λ j. (sym (at ∙ (λ j. list_place (next j) (k.clock_is j + 1))) j, None) ∷ rest (sym (one_full away) j)))

-- ---- seats that go to another and come back
pub pair_words : (n : ℕ) (s : Shape) → n ≡ word_count s → 0 < n
pair_words n s e = omega arith

pub heap_table : (v : TableId) (a b : HeapShown) → v ≡ b.table → a ≡ b → v ≡ a.table
heap_table v a b e q = e ∙ sym (ap (λ (x : HeapShown). x.table) q)

-- the announcement that a cut leaves
pub odd_one : (s : UnitStage) (epoch : ℕ) → epoch ≡ epoch_of s → (is_announced s ≡ true → 1 ≤ epoch) → 1 ≤ epoch
    → 2 * epoch + 1 ≡ odd_announcement s
odd_one Idle epoch e begun some = absurd (omega arith)
odd_one (Told x) epoch e begun some = omega arith
odd_one (Within x) epoch e begun some = omega arith
odd_one (Closing slot) epoch e begun some = absurd (omega arith)

pub odd_none : (s : UnitStage) (epoch : ℕ) → epoch ≡ epoch_of s → (is_announced s ≡ true → 1 ≤ epoch) → epoch ≡ 0
    → 0 ≡ odd_announcement s
odd_none Idle epoch e begun none = refl
odd_none (Told x) epoch e begun none = let some = begun refl in absurd (omega arith)
odd_none (Within x) epoch e begun none = let some = begun refl in absurd (omega arith)
odd_none (Closing slot) epoch e begun none = refl

-- a seat that has taken the caller in
pub joined_pair : (n v w : View) (h : UnitKnown) (q : CallerKnown) → n ≡ with_callers v w → v ≡ unit_view h → w ≡ caller_view q
    → n ≡ pair_view h q
joined_pair n v w h q e f g = e ∙ (λ j. with_callers (f j) (g j))
