-- The names of objects in a sorted map.
use Rattle.std.proofs.Common.{◌≡◌, ℕ, ◌%◌, Bool, true, false, cond, ◌||◌, ◌==◌, List, [], ◌∷◌, ◌++◌, refl, sym, ap, ◌∙◌, arith, eq-eqb}
use Rattle.std.specs.Prelude.{Option, Some, None, Ok, is_some}
use Rattle.std.specs.declared.cmp.Ordering.{Ordering}
use Rattle.std.specs.Cmp.{IsTotalOrder, eq_by_cmp_equiv}
use Rattle.std.specs.Bool.{then_some}
use Rattle.std.specs.Ordering.{eq_by_cmp, nat_cmp}
use Rattle.std.specs.List.{list_any}
use Rattle.std.specs.BTreeMap as tree
use Rattle.std.proofs.lemmas.Bool.Decides.{nat_tests}
use Rattle.std.proofs.lemmas.List.Folds.{list_any-append}
use Rattle.mont_base.specs.declared.record.Object.{Object}
use Rattle.mont_base.specs.declared.record.ObjectFault.{ObjectFault}
use Rattle.mont_base.specs.declared.record.ObjectFault.TheVariants as faults
use Rattle.mont_base.specs.Layout.{Shape}
use Rattle.mont_base.specs.State.{Ends}
use Rattle.mont_base.specs.Structure.{edge_fault, fault_if, names}
use Rattle.mont_image.specs.StoredImage.{maps_in}
use Rattle.old_image.specs.OldStructure.{number_pair_at, number_pair_fault}
use Rattle.image_info.specs.ObjectFaults.{HasNames, JudgesNamed}

module _ {K X : Type 0} {R : K → K → Ordering} (o : IsTotalOrder R) (name : Object → Option (K × X)) where
  has_more : (k : K) (os : List Object) (p : Object) (e : Option (K × X)) → name p ≡ e
      → (list_any (λ (q : Object). names (eq_by_cmp R k) (name q)) os || names (eq_by_cmp R k) e)
      ≡ list_any (λ (q : Object). names (eq_by_cmp R k) (name q)) (os ++ p ∷ [])
  has_more k os p e is =
      let test : Object → Bool = λ q. names (eq_by_cmp R k) (name q) in
      ap (λ (f : Option (K × X)). list_any test os || names (eq_by_cmp R k) f) (sym is)
      ∙ ap (λ (b : Bool). list_any test os || b) (or_false (test p))
      ∙ sym (list_any-append test os (p ∷ []))
    where
      or_false : (b : Bool) → b ≡ (b || false)
      or_false true = refl
      or_false false = refl

  -- an object that names nothing leaves the map as it is
  pub unnamed : (m : tree.BTreeMap K ℕ) (os : List Object) (p : Object) → HasNames R name m os → name p ≡ None
      → HasNames R name m (os ++ p ∷ [])
  unnamed m os p h is = record {
    told = λ k.
        h.told k ∙ or_none (list_any (λ (q : Object). names (eq_by_cmp R k) (name q)) os) ∙ has_more k os p None is;
  }
    where
      or_none : (b : Bool) → b ≡ (b || false)
      or_none true = refl
      or_none false = refl

  -- and one that names an entry adds its name
  pub named : (m n : tree.BTreeMap K ℕ) (os : List Object) (p : Object) (k : K) (v : X) (slot : ℕ) → HasNames R name m os
      → name p ≡ Some (k, v) → ((q : K) → tree.get R n q ≡ cond (eq_by_cmp R k q) (Some slot) (tree.get R m q))
      → HasNames R name n (os ++ p ∷ [])
  named m n os p k v slot h is grown = record {
    told = λ q.
        ap is_some (grown q) ∙ stood (eq_by_cmp R k q) (tree.get R m q)
        ∙ (λ i. h.told q i || (eq_by_cmp_equiv o).symm k q i) ∙ has_more q os p (Some (k, v)) is;
  }
    where
      stood : (b : Bool) (old : Option ℕ) → is_some (cond b (Some slot) old) ≡ (is_some old || b)
      stood true None = refl
      stood true (Some s) = refl
      stood false None = refl
      stood false (Some s) = refl

  -- A fault that is told by whether the name stood is right, and the name is added.
  pub judges : {E : Type 0} (fault_of : List Object → Option ObjectFault) (m n : tree.BTreeMap K ℕ) (p : Object) (k : K) (v : X)
      → (slot : ℕ) (before : Option ℕ) (told : Option ObjectFault) → name p ≡ Some (k, v) → before ≡ tree.get R m k
      → ((q : K) → tree.get R n q ≡ cond (eq_by_cmp R k q) (Some slot) (tree.get R m q))
      → ((lower : List Object) → is_some before ≡ list_any (λ (q : Object). names (eq_by_cmp R k) (name q)) lower
      → told ≡ fault_of lower)
      → JudgesNamed {E = E} R name fault_of m n p (Ok told)
  judges fault_of m n p k v slot before told is old grown tells = record {
    fault = λ lower h. tells lower (ap is_some old ∙ h.told k);
    known = λ lower h. named m n lower p k v slot h is grown;
  }

-- ---- what is told of an object whose name stood, or didn't
pub told_if : (told : Option ObjectFault) (stood seen has : Bool) (fault : ObjectFault) → told ≡ then_some stood fault → stood ≡ seen
    → seen ≡ has → told ≡ fault_if has fault
told_if told stood seen has fault is same known =
    is ∙ through stood ∙ ap (λ (b : Bool). fault_if b fault) (same ∙ known)
  where
    through : (b : Bool) → then_some b fault ≡ fault_if b fault
    through true = refl
    through false = refl

-- an edge to where it begins
pub loop_told : (lower : List Object) (k : Ends) (v : ℕ) (e : Option (Ends × ℕ)) → e ≡ Some (k, v) → k.0 ≡ k.1
    → edge_fault lower e ≡ Some faults.Loop
loop_told lower k v e is same = ap (edge_fault lower) is ∙ rw (eq-eqb k.0 k.1 same) refl

-- a key that is a number, and kept by its unit
pub number_told : (s : Shape) (unit : ℕ) (lower : List Object) (k v : ℕ) (e : Option (ℕ × ℕ)) → e ≡ Some (k, v)
    → k % maps_in s.kinds ≡ unit
    → number_pair_fault s unit lower e
    ≡ fault_if (list_any (λ (o : Object). names (eq_by_cmp nat_cmp k) (number_pair_at o)) lower) faults.Key
number_told s unit lower k v e is kept =
    ap (number_pair_fault s unit lower) is ∙ rw (eq-eqb (k % maps_in s.kinds) unit kept)
    (λ i. fault_if (list_any (λ (o : Object). names (same i) (number_pair_at o)) lower) faults.Key)
  where
    alike : (j : ℕ) → (j == k) ≡ eq_by_cmp nat_cmp k j
    alike j = grind (arith, nat_tests)

    same : (λ (j : ℕ). j == k) ≡ eq_by_cmp nat_cmp k
    same = λ i j. alike j i
