-- The things of all units: how many there are, and that those so far and of one unit more are among them.
use Rattle.std.proofs.Common.{◌≡◌, ℕ, ◌+◌, ◌^◌, ◌<◌, ◌≤◌, List, [], ◌∷◌, length, get_or, map, take, arith, refl, sym, ap, ◌∙◌}
use Rattle.std.specs.List.{sum_by}
use Rattle.std.proofs.lemmas.List.Sums.{sum_by-cons, sum_by_more_le}
use Rattle.mont_base.specs.State.{State, MapOf, QueueOf, GraphOf, size_of}
use Rattle.big_job.specs.declared.totals.Totals.{Totals}
use Rattle.big_job.specs.Totals.{edges_in, items_in, keys_in, things_in, totals_of, vertices_in}

one_unit : (s : State) → keys_in s + items_in s + vertices_in s + edges_in s ≡ size_of s
one_unit (MapOf m) = omega arith
one_unit (QueueOf items) = omega arith
one_unit (GraphOf g) = omega arith

all_units : (states : List State) → things_in (totals_of states) ≡ sum_by size_of states
all_units [] = refl
all_units (s ∷ states) = omega (
  arith,
  one_unit s,
  all_units states,
  sum_by-cons keys_in s states,
  sum_by-cons items_in s states,
  sum_by-cons vertices_in s states,
  sum_by-cons edges_in s states,
  sum_by-cons size_of s states,
)

module _ (X : Type 0) (of : X → State) where
  sizes_mapped : (xs : List X) → sum_by size_of (map of xs) ≡ sum_by (λ x. size_of (of x)) xs
  sizes_mapped [] = refl
  sizes_mapped (x ∷ xs) = sum_by-cons size_of (of x) (map of xs) ∙ ap (λ n. size_of (of x) + n) (sizes_mapped xs)
      ∙ sym (sum_by-cons (λ y. size_of (of y)) x xs)

  pub no_room : (xs : List X) (i : ℕ) (d : X) (totals : Totals) → totals ≡ totals_of (map of (take i xs))
      → i < length xs → 2 ^ 64 ≤ things_in totals + size_of (of (get_or xs i d)) → 2 ^ 64 ≤ sum_by size_of (map of xs)
  no_room xs i d totals so_far within many = omega (
    arith,
    ap things_in so_far,
    all_units (map of (take i xs)),
    many,
    sizes_mapped (take i xs),
    sizes_mapped xs,
    sum_by_more_le (λ x. size_of (of x)) xs i d within,
  )
