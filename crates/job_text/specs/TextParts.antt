-- Parts of a text: their values, the lines of each value, and where other lines leave the part.
use Rattle.std.specs.Prelude.{◌≡◌, ◌≢◌, ℕ, ◌+◌, List, [], ◌∷◌, ◌++◌, length}
use Rattle.std.specs.List.{flat_map, enumerate_from}

-- a line by its words
abbrev pub Row : Type 0
Row = List (List ℕ)

-- Of a part, Is tells its values, and rows the lines of each.

-- some value's lines begin with these
abbrev pub Begins : {X : Type 0} → (X → Type 0) → (X → List Row) → List Row → Type 0
Begins {X} Is rows front = (x : X) × Is x × (after : List Row) × (rows x ≡ front ++ after)

-- Lines that aren't those of the part, which they leave at this place: the lines before it begin
-- the part and aren't all of it, and with the line at it no value's lines begin, or it isn't there.
pub record LeavesAt {X : Type 0} (Is : X → Type 0) (rows : X → List Row) (ls : List Row) (place : ℕ)
    : Type 0 where
  pub before : List Row
  pub after : List Row
  pub joined : ls ≡ before ++ after
  pub counted : length before ≡ place
  pub begins : Begins Is rows before
  pub wrong :
      (row : Row) (behind : List Row) → after ≡ row ∷ behind
      → ¬ Begins Is rows (before ++ row ∷ [])
  pub unfinished : (x : X) (behind : List Row) → Is x → ls ≢ rows x ++ behind

-- ---- one part after another, which may depend on it
abbrev pub BothAre : {A B : Type 0} → (A → Type 0) → (A → B → Type 0) → A × B → Type 0
BothAre Is More p = Is p.0 × More p.0 p.1

abbrev pub both_rows : {A B : Type 0} → (A → List Row) → (A → B → List Row) → A × B → List Row
both_rows rows more p = rows p.0 ++ more p.0 p.1

-- ---- items one after the other, each with its place
abbrev pub rows_from : {X : Type 0} → (ℕ → X → List Row) → ℕ → List X → List Row
rows_from {X} rows place xs = flat_map (λ (p : ℕ × X). rows p.0 p.1) (enumerate_from place xs)

-- each is what it must be at its place
abbrev pub AllFrom : {X : Type 0} → (ℕ → X → Type 0) → ℕ → List X → Type 0
AllFrom Is place [] = Unit {0}
AllFrom Is place (x ∷ xs) = Is place x × AllFrom Is (place + 1) xs
