-- Words that are read one by one from a place on, and numbers that are raised one by one.
use Rattle.std.proofs.Common.{◌≡◌, ℕ, zero, suc, ◌+◌, ◌<◌, List, [], ◌∷◌, ◌++◌, length, set, get_or, take, drop, ap, sym, refl, ◌∙◌, arith}
use Rattle.std.specs.Prelude.{max}
use mathlib.Core.Option.{some, some-injective, some-ne-none}
use lib.ListN.{get_elem?, length-drop}
use lib.Seq.{take-suc, take-length, drop-length}
use Rattle.std.proofs.lemmas.List.{get_or-drop, append-nil}
use Rattle.core_steps.specs.Notes.{greater_fronts}
use Rattle.heap.proofs.HeardSeats.{length-greater}

-- ---- words
found_there : (ws : List ℕ) (i w : ℕ) → get_elem? ws i ≡ some w → (i < length ws) × (get_or ws i 0 ≡ w)
found_there [] i w e = absurd (some-ne-none w (sym e))
found_there (x ∷ xs) zero w e = (omega arith, some-injective x w e)
found_there (x ∷ xs) (suc i) w e = let r = found_there xs i w e in (let low = r.0 in omega (arith, low), r.1)

-- one more word
pub word_more : (ws read : List ℕ) (first place w : ℕ) → read ≡ take place (drop first ws) → get_elem? ws (first + place) ≡ some w
    → read ++ w ∷ [] ≡ take (place + 1) (drop first ws)
word_more ws read first place w is e =
    let found = found_there ws (first + place) w e in
    let low = found.0 in
    let count = length-drop first ws in
    let more : place + 1 ≡ suc place = omega arith in
    (λ i. is i ++ sym (get_or-drop first ws place 0 ∙ found.1) i ∷ [])
    ∙ (sym (take-suc (drop first ws) place 0 (omega (arith, low, count))) ∙ ap (λ (k : ℕ). take k (drop first ws)) (sym more))

-- ---- numbers
-- one more that is the greater of two
raised_more : (ns ms : List ℕ) (place : ℕ) → length ns ≡ length ms → place < length ns
    → set (take place (greater_fronts ns ms) ++ drop place ns) place
    (max (get_or (take place (greater_fronts ns ms) ++ drop place ns) place 0) (get_or ms place 0))
    ≡ take (suc place) (greater_fronts ns ms) ++ drop (suc place) ns
raised_more [] ms place e low = absurd (omega arith)
raised_more (n ∷ ns) [] place e low = absurd (omega arith)
raised_more (n ∷ ns) (m ∷ ms) zero e low = refl
raised_more (n ∷ ns) (m ∷ ms) (suc place) e low = ap (λ (l : List ℕ). max n m ∷ l) (raised_more ns ms place (omega arith) (omega arith))

pub raised_next : (ns ms now new : List ℕ) (place number other : ℕ) → length ns ≡ length ms → place < length ns
    → now ≡ take place (greater_fronts ns ms) ++ drop place ns → number ≡ get_or now place 0 → other ≡ get_or ms place 0
    → new ≡ set now place (max number other)
    → new ≡ take (place + 1) (greater_fronts ns ms) ++ drop (place + 1) ns
raised_next ns ms now new place number other e low was first second is =
    let more : suc place ≡ place + 1 = omega arith in
    is
    ∙ ((λ i. set now place (max (first i) (second i)))
    ∙ (ap (λ (l : List ℕ). set l place (max (get_or l place 0) (get_or ms place 0))) was
    ∙ (raised_more ns ms place e low ∙ ap (λ (k : ℕ). take k (greater_fronts ns ms) ++ drop k ns) more)))

pub all_raised : (ns ms now : List ℕ) (place : ℕ) → place ≡ length ms → length ns ≡ length ms
    → now ≡ take place (greater_fronts ns ms) ++ drop place ns → now ≡ greater_fronts ns ms
all_raised ns ms now place end e was =
    let count = length-greater ns ms in
    let at : place ≡ length (greater_fronts ns ms) = omega (arith, end, e, count) in
    let behind : place ≡ length ns = omega (arith, end, e) in
    was ∙ ((λ i. take (at i) (greater_fronts ns ms) ++ drop (behind i) ns)
    ∙ ((λ i. take-length (greater_fronts ns ms) i ++ drop-length ns i) ∙ append-nil (greater_fronts ns ms)))
