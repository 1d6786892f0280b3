-- What a state that an image holds, or a report tells, says of the unit.
use Rattle.std.proofs.Common.{◌≡◌, ℕ, ◌+◌, ◌-◌, ◌<◌, ◌≤◌, ⊎_elim, List, ◌∷◌, length, drop, get_or, Bool, true, false, Option, Some, None, sym, ap, ◌∙◌, subst, arith}
use Rattle.std.specs.Prelude.{◌↔◌, IsTrue, nat_le, slice_get, if◌then◌else◌}
use Rattle.std.proofs.lemmas.Option.{same_Some, slice_get_past, slice_get_within}
use Rattle.std.proofs.lemmas.Bool.{cases_lt}
use Rattle.mont_base.specs.declared.operation.Entry.{Entry}
use Rattle.mont_base.specs.History.{cut_at, state_after}
use Rattle.mont_base.specs.Image.{IsRecovered, clock_of, cut_of, records_of}
use Rattle.mont_base.specs.Layout.{Shape}
use Rattle.mont_base.specs.State.{State, step}
use Rattle.mont_base.specs.Structure.{IsStructure}
use Rattle.mont_base.specs.Versions.{live_objects}
use Rattle.plain.proofs.Lists.{opened}
use Rattle.plain.proofs.Single.{same_structure}
use Rattle.job_text.specs.Faithful.{CutAt}
use Rattle.job_text.specs.Report.{Report}
use Rattle.report_check.specs.HeldContents.{ContentsHold, StructureAt}
use Rattle.report_check.proofs.ListRows.{item_there}

-- ---- the walk to the cut
module _ (s next : State) (x : ℕ) (h : List Entry) (i : ℕ) (e : Entry) (inside : i < length h) (is : e ≡ get_or h i e) where
  here : drop i h ≡ e ∷ drop (i + 1) h
  here = opened h i e inside ∙ ap (λ (d : Entry). d ∷ drop (i + 1) h) (sym is)

  pub within_cut : nat_le e.epoch x ≡ true → next ≡ (step s e.op).state
      → state_after next (cut_at x (drop (i + 1) h)) ≡ state_after s (cut_at x (drop i h))
  within_cut low stepped =
      (λ j. state_after (stepped j) (cut_at x (drop (i + 1) h)))
      ∙ ap (λ (b : Bool). state_after s (if b then e ∷ cut_at x (drop (i + 1) h) else cut_at x (drop (i + 1) h))) (sym low)
      ∙ ap (λ (g : List Entry). state_after s (cut_at x g)) (sym here)

  pub beyond_cut : nat_le e.epoch x ≡ false → state_after s (cut_at x (drop (i + 1) h)) ≡ state_after s (cut_at x (drop i h))
  beyond_cut high =
      ap (λ (b : Bool). state_after s (if b then e ∷ cut_at x (drop (i + 1) h) else cut_at x (drop (i + 1) h))) (sym high)
      ∙ ap (λ (g : List Entry). state_after s (cut_at x g)) (sym here)

-- ---- a unit that is there
module _ (r : Report) (s : Shape) (image : List ℕ) (states : List State) (unit : ℕ) (base : State) (h : List Entry)
    (layout : r.layout ≡ s) (clock : clock_of image ≡ r.image_clock) (found : IsRecovered s image states)
    (opened : slice_get r.base unit ≡ Some base) (kept : slice_get r.histories unit ≡ Some h) (state : State)
    (is : state ≡ state_after base (cut_at (clock_of image - 2) h)) where
  same_base : (b : State) → slice_get r.base unit ≡ Some b → base ≡ b
  same_base b e = same_Some base b (sym opened ∙ e)

  same_history : (g : List Entry) → slice_get r.histories unit ≡ Some g → h ≡ g
  same_history g f = same_Some h g (sym kept ∙ f)

  cut_of_unit : (b : State) (g : List Entry) → slice_get r.base unit ≡ Some b → slice_get r.histories unit ≡ Some g
      → state ≡ state_after b (cut_at (cut_of image) g)
  cut_of_unit b g e f = is ∙ (λ i. state_after (same_base b e i) (cut_at (cut_of image) (same_history g f i)))

  pub structure_of_state : slice_get states unit ≡ Some state → StructureAt r image unit
  structure_of_state held b g e f =
      let P : State → Type 0 = λ v. IsStructure r.layout unit (live_objects (records_of r.layout image unit)) v in
      let Q : Shape → Type 0 = λ t. IsStructure t unit (live_objects (records_of t image unit)) state in
      let own : Q r.layout = subst Q (sym layout) (found.1 unit state held) in
      subst P (cut_of_unit b g e f) own

  pub state_of_structure : StructureAt r image unit → slice_get states unit ≡ Some state
  state_of_structure makes =
      let Q : Shape → Type 0 =
      λ t. IsStructure t unit (live_objects (records_of t image unit)) (state_after base (cut_at (cut_of image) h)) in
      let own : Q s = subst Q layout (makes base h opened kept) in
      let within = slice_get_within s.kinds unit own.kind own.of_unit in
      let many = found.0 in
      let there = item_there states unit (omega (arith, within, many)) in
      let same : there.0 ≡ state_after base (cut_at (cut_of image) h) =
      same_structure s unit (live_objects (records_of s image unit)) there.0 (state_after base (cut_at (cut_of image) h))
      (found.1 unit there.0 there.1) own in
      there.1 ∙ ap Some (same ∙ sym is)

  last : state_after base (cut_at (r.image_clock - 2) h) ≡ state
  last = ap (λ (n : ℕ). state_after base (cut_at (n - 2) h)) (sym clock) ∙ sym is

  pub told_of_state : slice_get r.contents unit ≡ Some state → CutAt r r.base unit
  told_of_state told b g e f =
      told ∙ ap Some (sym last ∙ (λ i. state_after (same_base b e i) (cut_at (r.image_clock - 2) (same_history g f i))))

  pub state_of_told : CutAt r r.base unit → slice_get r.contents unit ≡ Some state
  state_of_told cut = cut base h opened kept ∙ ap Some last

  pub not_held : (IsTrue false ↔ (slice_get states unit ≡ Some state)) → IsTrue false ↔ ContentsHold r image unit
  not_held says = (λ t. absurd cc, λ both. says.1 (state_of_structure both.0))

  pub held_and_told : (b : Bool) → (slice_get states unit ≡ Some state) → (IsTrue b ↔ (slice_get r.contents unit ≡ Some state))
      → IsTrue b ↔ ContentsHold r image unit
  held_and_told b held says = (
    λ yes. (structure_of_state held, told_of_state (says.0 yes)),
    λ both. says.1 (state_of_told both.1),
  )

-- nothing is asked of a unit that isn't there
pub no_base_held : (r : Report) (image : List ℕ) (unit : ℕ) → slice_get r.base unit ≡ None → ContentsHold r image unit
no_base_held r image unit none = (
  λ b g e f. absurd (let t : ◌≡◌ {A = Option State} None (Some b) = sym none ∙ e in cc),
  λ b g e f. absurd (let t : ◌≡◌ {A = Option State} None (Some b) = sym none ∙ e in cc),
)

pub no_history_held : (r : Report) (image : List ℕ) (unit : ℕ) → slice_get r.histories unit ≡ None → ContentsHold r image unit
no_history_held r image unit none = (
  λ b g e f. absurd (let t : ◌≡◌ {A = Option (List Entry)} None (Some g) = sym none ∙ f in cc),
  λ b g e f. absurd (let t : ◌≡◌ {A = Option (List Entry)} None (Some g) = sym none ∙ f in cc),
)

pub contents_past : (r : Report) (image : List ℕ) (i : ℕ) → length r.histories ≤ i → ((u : ℕ) → u < i → ContentsHold r image u)
    → (u : ℕ) → ContentsHold r image u
contents_past r image i past below u = ⊎_elim
    (λ (low : u < i). below u low)
    (λ (high : i ≤ u). no_history_held r image u (slice_get_past r.histories u (omega arith)))
    (cases_lt u i)
