-- The things that live records hold, each by its name with its value, told without an order.
use Rattle.std.specs.Prelude.{◌≡◌, ◌≢◌, ℕ, List, Option, Some, None}
use Rattle.mont_base.specs.declared.record.Held.{Held}
use Rattle.mont_laws.specs.Records.{live_of}

-- what is read of the body of a record, if there is one
abbrev pub held_in : {A : Type 0} → (List ℕ → Option A) → Option Held → Option (Option A)
held_in read None = None
held_in read (Some r) = Some (read r.body)

-- what is read of the body of each live identity
abbrev pub live_things : {A : Type 0} → (List ℕ → Option A) → List Held → ℕ → Option (Option A)
live_things read records identity = held_in read (live_of identity records)

-- live identities, each with the name and the value of a thing, or a fault
abbrev pub Things : Type 0 → Type 0 → Type 0
Things T V = ℕ → Option (Option (T × V))

-- an identity is live and has this
abbrev pub IsHeld : {T V : Type 0} → Things T V → ℕ → T → V → Type 0
IsHeld live identity name value = live identity ≡ Some (Some (name, value))

-- Live identities show which name has which value: each body is read, and no two name one thing.
pub record Shows {T V : Type 0} (live : Things T V) (value_of : T → Option V) : Type 0 where
  pub readable : (i : ℕ) → live i ≢ Some None
  pub found : (i : ℕ) (name : T) (v : V) → IsHeld live i name v → value_of name ≡ Some v
  pub there : (name : T) (v : V) → value_of name ≡ Some v → (i : ℕ) × IsHeld live i name v
  pub once : (i j : ℕ) (name : T) (v w : V) → IsHeld live i name v → IsHeld live j name w → i ≡ j
