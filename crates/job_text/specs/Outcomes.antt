-- What an outcome shows, and the order of the outcomes of one caller.
use Rattle.std.specs.Prelude.{◌≡◌, ℕ, ◌+◌, ◌<◌, ◌≤◌, Bool, true, false, ◌&&◌, ◌==◌, List, sum_by, count_by, Option, Some, None}
use Rattle.mont_base.specs.declared.operation.Entry.{Entry}
use Rattle.mont_base.specs.Seen.{IsEntryAt}
use Rattle.job_text.specs.declared.outcome.Outcome.{Outcome}
use Rattle.job_text.specs.declared.outcome.Outcome.TheVariants.{At, Synced, Ticked, Full, CutIn, Cut}

-- the unit and the place of the entry that it names, if it names one
abbrev pub place_of : Outcome → Option (ℕ × ℕ)
place_of (At unit place) = Some (unit, place)
place_of _ = None

-- the epoch of the entry that it names
abbrev pub HasEpoch : List (List Entry) → Outcome → ℕ → Type 0
HasEpoch histories (At unit place) epoch =
    (e : Entry) × IsEntryAt histories unit place e × (e.epoch ≡ epoch)
HasEpoch histories _ epoch = ⊥

-- the clock that a sync or a tick was answered with
abbrev pub clock_of : Outcome → Option ℕ
clock_of (Synced epoch) = Some epoch
clock_of (Ticked epoch) = Some epoch
clock_of _ = None

-- the clock to which it moved the current one
abbrev pub tick_of : Outcome → Option ℕ
tick_of (Ticked epoch) = Some epoch
tick_of _ = None

-- a durable clock that came after all that the caller had done
abbrev pub settled_of : Outcome → Option ℕ
settled_of (Synced epoch) = Some epoch
settled_of (Full need free clock) = Some clock
settled_of _ = None

abbrev pub is_at : Outcome → Bool
is_at (At unit place) = true
is_at _ = false

abbrev pub is_cut : Outcome → Bool
is_cut (CutIn unit) = true
is_cut Cut = true
is_cut _ = false

abbrev pub names_entry : ℕ → ℕ → Outcome → Bool
names_entry unit place (At u n) = (u == unit) && (n == place)
names_entry unit place _ = false

-- so many outcomes name the entry at a place
abbrev pub times_named : List (List Outcome) → ℕ → ℕ → ℕ
times_named outcomes unit place = sum_by (λ os. count_by (names_entry unit place) os) outcomes

-- An earlier and a later outcome of one caller.
pub record InOrder (histories : List (List Entry)) (earlier later : Outcome) : Type 0 where
  -- nothing comes after a cut
  pub uncut : is_cut earlier ≡ false
  -- of the entries, epochs never fall, and the places of one unit rise
  pub epochs : (d e : ℕ) → HasEpoch histories earlier d → HasEpoch histories later e → d ≤ e
  pub places :
      (unit m n : ℕ) → place_of earlier ≡ Some (unit, m) → place_of later ≡ Some (unit, n) → m < n
  -- no entry is of an epoch below a clock that was answered before it
  pub learnt : (d e : ℕ) → clock_of earlier ≡ Some d → HasEpoch histories later e → d ≤ e
  -- a tick moves the clock, and not to below an entry
  pub ticks : (d e : ℕ) → clock_of earlier ≡ Some d → tick_of later ≡ Some e → d < e
  pub reached : (d e : ℕ) → HasEpoch histories earlier d → tick_of later ≡ Some e → d ≤ e
  -- a durable clock never falls, and is two past the entries
  pub clocks : (d e : ℕ) → clock_of earlier ≡ Some d → settled_of later ≡ Some e → d ≤ e
  pub settled : (d e : ℕ) → HasEpoch histories earlier d → settled_of later ≡ Some e → d + 2 ≤ e
