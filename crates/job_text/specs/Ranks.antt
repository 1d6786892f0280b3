-- How many keys stand after a key, in the orders of maps, vertices and edges.
use Rattle.std.specs.Prelude.{ℕ, zero, suc, ◌+◌, ◌-◌, ◌*◌, ◌^◌, ◌<◌, ◌≤◌, List, [], ◌∷◌, length}
use Rattle.job_text.specs.TextParts.{AllFrom}

-- how many texts there are of at most so many bytes
unfoldable pub texts_of : ℕ → ℕ
texts_of zero = 1
texts_of (suc room) = 256 * texts_of room + 1

-- how many of them stand after a text
unfoldable pub texts_behind : ℕ → List ℕ → ℕ
texts_behind room [] = texts_of room - 1
texts_behind zero (byte ∷ text) = 0
texts_behind (suc room) (byte ∷ text) = (255 - byte) * texts_of room + texts_behind room text

-- how many numbers of 64 bits stand after one
abbrev pub numbers_behind : ℕ → ℕ
numbers_behind n = 2 ^ 64 - 1 - n

-- how many pairs of them stand after one
abbrev pub edges_behind : ℕ × ℕ → ℕ
edges_behind e = numbers_behind e.0 * 2 ^ 64 + numbers_behind e.1

-- Items of which fewer and fewer stand after, the first below a limit.
abbrev pub Falls : {X : Type 0} → (X → ℕ) → ℕ → List X → Type 0
Falls behind limit [] = Unit {0}
Falls behind limit (x ∷ xs) = (behind x < limit) × Falls behind (behind x) xs

-- how many stand after the last of them
abbrev pub limit_after : {X : Type 0} → (X → ℕ) → ℕ → List X → ℕ
limit_after behind limit [] = limit
limit_after behind limit (x ∷ xs) = limit_after behind (behind x) xs

-- A front of a list of n items: fewer and fewer stand after them, and after the last there are
-- enough for the rest.
pub record LeavesRoom {X : Type 0} (Is : ℕ → X → Type 0) (behind : X → ℕ) (all n : ℕ) (xs : List X)
    : Type 0 where
  pub each : AllFrom Is 0 xs
  pub falls : Falls behind all xs
  pub room : n ≤ length xs + limit_after behind all xs

-- an item that may come next, below a limit, with so many others still to come
pub record IsNext {X : Type 0} (Is : X → Type 0) (behind : X → ℕ) (limit left : ℕ) (x : X)
    : Type 0 where
  pub is : Is x
  pub below : behind x < limit
  pub enough : left ≤ behind x
