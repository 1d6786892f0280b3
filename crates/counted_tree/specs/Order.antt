-- How many entries have a key below another one, or at most that one.
use Rattle.std.specs.Prelude.{ℕ, Bool, true, false, List, length}
use Rattle.std.specs.declared.cmp.Ordering.{Ordering}
use Rattle.std.specs.List.{filter}
use Rattle.std.specs.Ordering.{is_lt, is_le}

-- whether a key that compares so with another stands before it, where an equal one does or not
abbrev pub stands_before : Bool → Ordering → Bool
stands_before true order = is_le order
stands_before false order = is_lt order

abbrev pub count_to : {K X : Type 0} → (K → K → Ordering) → Bool → K → List (K × X) → ℕ
count_to {K} {X} R with_equal key entries =
    length (filter (λ (e : K × X). stands_before with_equal (R e.0 key)) entries)

abbrev pub count_below : {K X : Type 0} → (K → K → Ordering) → K → List (K × X) → ℕ
count_below {K} {X} R key entries = length (filter (λ (e : K × X). is_lt (R e.0 key)) entries)

abbrev pub count_up_to : {K X : Type 0} → (K → K → Ordering) → K → List (K × X) → ℕ
count_up_to {K} {X} R key entries = length (filter (λ (e : K × X). is_le (R e.0 key)) entries)
