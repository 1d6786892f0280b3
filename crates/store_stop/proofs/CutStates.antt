-- The states that recovery rebuilds from an image which holds one cut of all histories.
use Rattle.std.proofs.Common.{◌≡◌, ℕ, zero, suc, List, [], ◌∷◌, length, ap, sym, ◌∙◌, subst, refl, arith}
use Rattle.std.specs.Prelude.{◌↔◌, slice_get, Some}
use Rattle.std.proofs.lemmas.Option.{same_Some}
use Rattle.mont_base.specs.declared.operation.Entry.{Entry}
use Rattle.mont_base.specs.History.{state_after, cut_at}
use Rattle.mont_base.specs.Image.{IsRecovered, cut_of, records_of}
use Rattle.mont_base.specs.Layout.{Shape, units_of}
use Rattle.mont_base.specs.State.{State}
use Rattle.mont_base.specs.Structure.{IsStructure}
use Rattle.mont_base.specs.Versions.{live_objects}
use Rattle.plain.proofs.Single.{same_structure}
use Rattle.store_stop.specs.Headline.{cut_states}
use Rattle.store_stop.proofs.Items.{same_items}

-- ---- a state for each unit
count_of_cuts : (x : ℕ) (base : List State) (histories : List (List Entry)) → length base ≡ length histories
    → length (cut_states x base histories) ≡ length base
count_of_cuts x [] histories e = refl
count_of_cuts x (b ∷ base) [] e = absurd (omega arith)
count_of_cuts x (b ∷ base) (h ∷ histories) e = ap suc (count_of_cuts x base histories (omega arith))

-- a unit's state is that to which the cut of its history leads
pub record IsCutState (x : ℕ) (base : List State) (histories : List (List Entry)) (unit : ℕ) (state : State) : Type 0 where
  pub opened : State
  pub history : List Entry
  pub based : slice_get base unit ≡ Some opened
  pub told : slice_get histories unit ≡ Some history
  pub leads : state_after opened (cut_at x history) ≡ state

pub cut_state_at : (x : ℕ) (base : List State) (histories : List (List Entry)) (unit : ℕ) (state : State)
    → slice_get (cut_states x base histories) unit ≡ Some state → IsCutState x base histories unit state
cut_state_at x [] histories unit state e = absurd (cc)
cut_state_at x (b ∷ base) [] unit state e = absurd (cc)
cut_state_at x (b ∷ base) (h ∷ histories) zero state e =
    record { opened = b; history = h; based = refl; told = refl; leads = same_Some (state_after b (cut_at x h)) state e }
cut_state_at x (b ∷ base) (h ∷ histories) (suc unit) state e =
    let c = cut_state_at x base histories unit state e in
    record { opened = c.opened; history = c.history; based = c.based; told = c.told; leads = c.leads }

-- ---- an image of which each unit's objects make that state
module _ (s : Shape) (image : List ℕ) (base : List State) (histories : List (List Entry)) (based : length base ≡ units_of s)
    (units : length histories ≡ units_of s)
    (each : (unit : ℕ) (state : State) (h : List Entry) → slice_get base unit ≡ Some state → slice_get histories unit ≡ Some h
    → IsStructure s unit (live_objects (records_of s image unit)) (state_after state (cut_at (cut_of image) h))) where
  abbrev rebuilt_states : List State
  rebuilt_states = cut_states (cut_of image) base histories

  are_recovered : IsRecovered s image rebuilt_states
  are_recovered = (
    count_of_cuts (cut_of image) base histories (based ∙ sym units) ∙ based,
    λ unit state e.
        let c = cut_state_at (cut_of image) base histories unit state e in
        subst (IsStructure s unit (live_objects (records_of s image unit))) c.leads (each unit c.opened c.history c.based c.told),
  )

  -- recovery rebuilds these states, and no others
  pub rebuilds : (states : List State) → IsRecovered s image states ↔ (states ≡ rebuilt_states)
  rebuilds states = (
    λ is. same_items states rebuilt_states (is.0 ∙ sym are_recovered.0)
        (λ unit a b e f.
        same_structure s unit (live_objects (records_of s image unit)) a b (is.1 unit a e) (are_recovered.1 unit b f)),
    λ e. subst (IsRecovered s image) (sym e) are_recovered,
  )
