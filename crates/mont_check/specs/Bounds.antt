-- Numbers that may be missing, and their bounds.
use Rattle.std.specs.Prelude.{◌≡◌, ℕ, ◌+◌, ◌<◌, ◌≤◌, max, min, List, fold, Option, Some, None}

abbrev pub IsAtMost : Option ℕ → ℕ → Type 0
IsAtMost number bound = (n : ℕ) → number ≡ Some n → n ≤ bound

abbrev pub IsBelow : Option ℕ → ℕ → Type 0
IsBelow number bound = (n : ℕ) → number ≡ Some n → n < bound

-- an epoch is durable at this clock
abbrev pub IsSettled : Option ℕ → ℕ → Type 0
IsSettled number bound = (n : ℕ) → number ≡ Some n → n + 2 ≤ bound

-- two numbers joined, where there are two
abbrev pub joined : (ℕ → ℕ → ℕ) → Option ℕ → Option ℕ → Option ℕ
joined join None o = o
joined join (Some m) None = Some m
joined join (Some m) (Some n) = Some (join m n)

-- what the items show, joined
abbrev pub all_joined : {A : Type 0} → (ℕ → ℕ → ℕ) → (A → Option ℕ) → List A → Option ℕ
all_joined join shown xs = fold (λ m x. joined join m (shown x)) None xs

abbrev pub greatest : {A : Type 0} → (A → Option ℕ) → List A → Option ℕ
greatest shown xs = all_joined max shown xs

abbrev pub least : {A : Type 0} → (A → Option ℕ) → List A → Option ℕ
least shown xs = all_joined min shown xs

abbrev pub IsAtLeast : Option ℕ → ℕ → Type 0
IsAtLeast number bound = (n : ℕ) → number ≡ Some n → bound ≤ n
