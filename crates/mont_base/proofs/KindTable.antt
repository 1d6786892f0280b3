-- The table of the kinds: each kind stands in it, with a letter and a code of its own.
use Rattle.std.proofs.Common.{◌≡◌, ◌≢◌, ℕ, Bool, true, false, List, [], ◌∷◌, Option, Some, None, MatchOption, ◌==◌, cond, refl, sym, ap, ◌∙◌}
use Rattle.std.specs.Prelude.{option_map}
use Rattle.std.specs.List.{find}
use Rattle.std.proofs.lemmas.Bool.Decides.{Decides-eqb}
use Rattle.mont_base.specs.declared.kinds.UnitKind.{UnitKind}
use Rattle.mont_base.specs.declared.kinds.UnitKind.TheVariants as kinds
use Rattle.mont_base.specs.Layout.{letter_of, code_of, kinds_all, kind_of_code, same_kind}

abbrev pub Each : (UnitKind → Type 0) → List UnitKind → Type 0
Each P [] = Unit {0}
Each P (k ∷ ks) = P k × Each P ks

-- what holds of all kinds of the table holds of each kind
pub each : (P : UnitKind → Type 0) → Each P kinds_all → (k : UnitKind) → P k
each P h kinds.Map = h.0
each P h kinds.Queue = h.1.0
each P h kinds.Graph = h.1.1.0
each P h kinds.Ordered = h.1.1.1.0

-- ---- a search for a sign
module _ (sign : UnitKind → ℕ) (n : ℕ) where
  abbrev has : UnitKind → Bool
  has k = sign k == n

  some_has : (ks : List UnitKind) (k : UnitKind) → find has ks ≡ Some k → n ≡ sign k
  some_has [] k e = cc
  some_has (j ∷ ks) k e = by (has j) refl (some_has ks k) e
    where
      by : (t : Bool) → has j ≡ t → (find has ks ≡ Some k → n ≡ sign k) → cond t (Some j) (find has ks) ≡ Some k → n ≡ sign k
      by true is rest e = let same : j ≡ k = cc in sym ((Decides-eqb (sign j) n).0 is) ∙ ap sign same
      by false is rest e = rest e

  none_has : (ks : List UnitKind) → find has ks ≡ None → Each (λ k. n ≢ sign k) ks
  none_has [] e = tt
  none_has (j ∷ ks) e = by (has j) refl (none_has ks) e
    where
      by : (t : Bool) → has j ≡ t → (find has ks ≡ None → Each (λ k. n ≢ sign k) ks) → cond t (Some j) (find has ks) ≡ None
          → Each (λ k. n ≢ sign k) (j ∷ ks)
      by true is rest e = cc
      by false is rest e = (λ same. let not_it : false ≡ true = sym is ∙ (Decides-eqb (sign j) n).1 (sym same) in cc, rest e)

  -- it finds the kind that has the sign, if there is one
  pub searched : (o : Option UnitKind) → option_map (λ (k : UnitKind). k) o ≡ find has kinds_all
      → MatchOption o ((k : UnitKind) → n ≢ sign k) (λ k. n ≡ sign k)
  searched None e = each (λ k. n ≢ sign k) (none_has kinds_all (sym e))
  searched (Some k) e = some_has kinds_all k (sym e)

-- ---- codes
pub kind_back : (k : UnitKind) → kind_of_code (code_of k) ≡ Some k
kind_back = each (λ k. kind_of_code (code_of k) ≡ Some k) (refl, (refl, (refl, (refl, tt))))

pub code_back : (code : ℕ) (k : UnitKind) → kind_of_code code ≡ Some k → code ≡ code_of k
code_back code k e = some_has code_of code kinds_all k e

pub no_kind : (code : ℕ) → ((k : UnitKind) → code ≢ code_of k) → kind_of_code code ≡ None
no_kind code none = by (kind_of_code code) refl
  where
    by : (o : Option UnitKind) → kind_of_code code ≡ o → o ≡ None
    by None e = refl
    by (Some k) e = absurd (none k (code_back code k e))

pub same_code : (j k : UnitKind) → code_of j ≡ code_of k → j ≡ k
same_code j k e =
    let found : Some j ≡ Some k = sym (kind_back j) ∙ ap kind_of_code e ∙ kind_back k in
    cc

-- the test tells kinds apart
pub one_kind : (j k : UnitKind) → same_kind j k ≡ true → j ≡ k
one_kind j k e = same_code j k ((Decides-eqb (code_of j) (code_of k)).0 e)

-- ---- letters
letter_found : (k : UnitKind) → find (has letter_of (letter_of k)) kinds_all ≡ Some k
letter_found = each (λ k. find (has letter_of (letter_of k)) kinds_all ≡ Some k) (refl, (refl, (refl, (refl, tt))))

pub same_letter : (j k : UnitKind) → letter_of j ≡ letter_of k → j ≡ k
same_letter j k e =
    let found : Some j ≡ Some k = sym (letter_found j) ∙ ap (λ (n : ℕ). find (has letter_of n) kinds_all) e ∙ letter_found k in
    cc
