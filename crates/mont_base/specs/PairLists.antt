-- How a list of pairs is kept in place.
use Rattle.std.specs.Prelude.{◌≡◌, ℕ, ◌-◌, ◌≤◌, List, [], ◌++◌, length, take, replicate}
use Rattle.mont_base.specs.declared.constants.TheConstants.{MOST_PAIRS}
use Rattle.mont_base.specs.declared.pair_list.PairList.TheInside.{Inside}
use Rattle.std.proofs.Common.{sym, arith, length-take}

-- pairs of empty texts fill the places after the last pair
abbrev pub padded_pairs : List (List ℕ × List ℕ) → List (List ℕ × List ℕ)
padded_pairs ps = ps ++ replicate (MOST_PAIRS - length ps) ([], [])

pub record PairsStand (len : ℕ) (pairs : List (List ℕ × List ℕ)) : Type 0 where
  pub few : len ≤ MOST_PAIRS
  pub long : length pairs ≡ MOST_PAIRS
  pub behind : pairs ≡ padded_pairs (take len pairs)

pub inverse_of_view :
    (p : Inside) → PairsStand p.len p.pairs → record
    { pairs = padded_pairs (take p.len p.pairs); len = length (take p.len p.pairs) } ≡ p
inverse_of_view p h =
    let count : length (take p.len p.pairs) ≡ p.len =
    omega (arith, length-take p.len p.pairs, h.few, h.long) in
    λ i. record { pairs = sym h.behind i; len = count i }
