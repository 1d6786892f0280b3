-- The newest record of an identity, where one more stands after others.
use Rattle.std.proofs.Common.{◌≡◌, ℕ, ◌+◌, ◌<◌, Bool, true, false, List, [], ◌∷◌, ◌++◌, length, take, get_or, refl, sym, ap, ◌∙◌}
use Rattle.std.specs.Prelude.{Some, None, ◌==◌, if◌then◌else◌}
use Rattle.std.proofs.lemmas.List.{take_more, append_assoc}
use Rattle.mont_base.specs.declared.record.Held.{Held}
use Rattle.mont_base.specs.Versions.{later_of, only_of, newest_of}
use Rattle.mont_laws.proofs.Newest.{newest_append}

only_alone : (q : ℕ) (r : Held) → later_of (only_of q r) None ≡ only_of q r
only_alone q r = by (r.label.identity == q)
  where
    by : (t : Bool) → later_of (if t then Some r else None) None ≡ (if t then Some r else None)
    by true = refl
    by false = refl

pub newest_behind : (q : ℕ) (rs ws : List Held) (i : ℕ) (d : Held) → i < length ws
    → newest_of q (rs ++ take (i + 1) ws) ≡ later_of (newest_of q (rs ++ take i ws)) (only_of q (get_or ws i d))
newest_behind q rs ws i d low =
    ap (λ (ts : List Held). newest_of q (rs ++ ts)) (take_more ws i d low)
    ∙ ap (newest_of q) (sym (append_assoc rs (take i ws) (get_or ws i d ∷ [])))
    ∙ newest_append q (rs ++ take i ws) (get_or ws i d ∷ [])
    ∙ ap (later_of (newest_of q (rs ++ take i ws))) (only_alone q (get_or ws i d))
