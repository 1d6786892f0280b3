-- Lists that are read by place.
use Rattle.std.specs.Prelude.{◌≡◌, ℕ, List, slice_get, Option, Some, None}

-- what holds of each item, and of the place where it stands
abbrev pub EachAt : {A : Type 0} → (ℕ → A → Type 0) → List A → Type 0
EachAt {A} P xs = (i : ℕ) (x : A) → slice_get xs i ≡ Some x → P i x

-- what holds of the item that was found, where one was
abbrev pub RowHas : {A : Type 0} → Option A → (A → Type 0) → Type 0
RowHas None P = ⊥
RowHas (Some x) P = P x

-- what the item that was found gives, and the value b where none was
abbrev pub on_row : {A B : Type 0} → Option A → B → (A → B) → B
on_row None b f = b
on_row (Some x) b f = f x
