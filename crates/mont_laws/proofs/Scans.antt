-- Objects have no fault where each body is read and no two name one thing.
use Rattle.std.proofs.Common.{◌≡◌, ℕ, List, [], ◌∷◌, ◌++◌, refl, ap, ◌∙◌, Bool, true, false}
use Rattle.std.specs.Prelude.{Option, Some, None}
use Rattle.mont_base.specs.declared.record.Object.{Object}
use Rattle.mont_base.specs.declared.record.ObjectFault.{ObjectFault}
use Rattle.mont_base.specs.Structure.{or_else, at_slot, first_fault, fault_if}
use Rattle.mont_laws.proofs.Listed.{Reads, AllNew, is_named, read_push}

abbrev pub body_of : Object → List ℕ
body_of o = o.body

pub neither_fault : {A : Type 0} (a b : Option A) → or_else a b ≡ None → (a ≡ None) × (b ≡ None)
neither_fault None b e = (refl, e)
neither_fault (Some a) b e = absurd (cc)

no_fault_at : (slot : ℕ) (fault : Option ObjectFault) → at_slot slot fault ≡ None → fault ≡ None
no_fault_at slot None e = refl
no_fault_at slot (Some f) e = absurd (cc)

pub no_fault_if : (t : Bool) (fault : ObjectFault) → fault_if t fault ≡ None → t ≡ false
no_fault_if true fault e = absurd (cc)
no_fault_if false fault e = refl

-- what a test of objects finds: a body that can't be read, or a name that stands in front
pub record Finds {T V : Type 0} (eq : T → T → Bool) (read : List ℕ → Option (T × V))
    (fault_of : List Object → Object → Option ObjectFault) : Type 0 where
  pub unread : (lower : List Object) (o : Object) → read o.body ≡ None → fault_of lower o ≡ None → ⊥
  pub named : (lower : List Object) (front : List (T × V)) (o : Object) (e : T × V) → Reads body_of read lower front
      → read o.body ≡ Some e → fault_of lower o ≡ None → is_named eq e.0 front ≡ false
  pub clear : (lower : List Object) (front : List (T × V)) (o : Object) (e : T × V) → Reads body_of read lower front
      → read o.body ≡ Some e → is_named eq e.0 front ≡ false → fault_of lower o ≡ None

module _ {T V : Type 0} (eq : T → T → Bool) (read : List ℕ → Option (T × V)) (fault_of : List Object → Object → Option ObjectFault)
    (finds : Finds eq read fault_of) where
  pub scan_reads : (os lower : List Object) (front : List (T × V)) → Reads body_of read lower front → first_fault fault_of lower os ≡ None
      → (es : List (T × V)) × Reads body_of read os es × AllNew eq front es
  scan_reads [] lower front h none = ([], tt, tt)
  scan_reads (o ∷ os) lower front h none = by (read o.body) refl
      (λ e is. scan_reads os (lower ++ o ∷ []) (front ++ e ∷ []) (read_push body_of read lower front o e h is) none_behind)
    where
      none_here : fault_of lower o ≡ None
      none_here = no_fault_at o.slot (fault_of lower o)
          (neither_fault (at_slot o.slot (fault_of lower o)) (first_fault fault_of (lower ++ o ∷ []) os) none).0

      none_behind : first_fault fault_of (lower ++ o ∷ []) os ≡ None
      none_behind = (neither_fault (at_slot o.slot (fault_of lower o)) (first_fault fault_of (lower ++ o ∷ []) os) none).1

      by : (r : Option (T × V)) → read o.body ≡ r
          → ((e : T × V) → read o.body ≡ Some e → (es : List (T × V)) × Reads body_of read os es × AllNew eq (front ++ e ∷ []) es)
          → (es : List (T × V)) × Reads body_of read (o ∷ os) es × AllNew eq front es
      by None is rest = absurd (finds.unread lower o is none_here)
      by (Some e) is rest = let b = rest e is in (e ∷ b.0, (is, b.1), (finds.named lower front o e h is none_here, b.2))

  pub reads_scan : (os lower : List Object) (front es : List (T × V)) → Reads body_of read lower front → Reads body_of read os es
      → AllNew eq front es → first_fault fault_of lower os ≡ None
  reads_scan [] lower front es h g new = refl
  reads_scan (o ∷ os) lower front [] h g new = absurd g
  reads_scan (o ∷ os) lower front (e ∷ es) h g new =
      ap (λ (f : Option ObjectFault). or_else (at_slot o.slot f) (first_fault fault_of (lower ++ o ∷ []) os))
      (finds.clear lower front o e h g.0 new.0)
      ∙ reads_scan os (lower ++ o ∷ []) (front ++ e ∷ []) es (read_push body_of read lower front o e h g.0) g.1 new.1
