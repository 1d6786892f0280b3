-- The record that an effect writes is an edit of the thing that it names.
use Rattle.std.proofs.Common.{◌≡◌, ℕ, List, [], ◌∷◌, sym, refl, ap, ◌∙◌, arith, Bool, true, false, inl, inr}
use Rattle.std.specs.Prelude.{Option, Some, None, if◌then◌else◌}
use Rattle.std.specs.List.{AllZip}
use Rattle.std.proofs.lemmas.Option.{same_Some}
use Rattle.mont_base.specs.declared.record.Held.{Held}
use Rattle.mont_base.specs.declared.record.Kind.TheVariants as kinds
use Rattle.mont_base.specs.declared.effect.Thing.{Thing}
use Rattle.mont_base.specs.Versions.{is_delete, newest_of}
use Rattle.mont_laws.specs.Records.{live_if}
use Rattle.mont_laws.specs.Shows.{held_in}
use Rattle.mont_laws.specs.Effects.{IsFirstVersion, IsNextVersion}
use Rattle.mont_laws.proofs.Newest.{IsAbove}
use Rattle.mont_laws.proofs.Shows.{IsEdit}

-- a live record is the newest of its identity, and no anti-payload
pub live_facts : (o : Option Held) (r : Held) → live_if o ≡ Some r → (o ≡ Some r) × (is_delete r.label.kind ≡ false)
live_facts None r e = absurd (cc)
live_facts (Some q) r e = by (is_delete q.label.kind) refl e
  where
    by : (t : Bool) → is_delete q.label.kind ≡ t → (if t then None else Some q) ≡ Some r
        → (Some q ≡ Some r) × (is_delete r.label.kind ≡ false)
    by true f g = absurd (cc)
    by false f g = (g, ap (λ (p : Held). is_delete p.label.kind) (sym (same_Some q r g)) ∙ f)

pub live_from : (o : Option Held) (r : Held) → o ≡ Some r → is_delete r.label.kind ≡ false → live_if o ≡ Some r
live_from o r e f = ap live_if e ∙ rw f refl

-- the next version stands above the newest
pub next_above : {rs : List Held} {w : Held} (thing : Thing) → IsNextVersion rs thing w → IsAbove (newest_of w.label.identity rs) w
next_above {rs} {w} thing next = rw (live_facts (newest_of w.label.identity rs) next.last next.live).0 (omega (arith, next.version))

module _ {T V : Type 0} (read : List ℕ → Option (T × V)) (rs : List Held) (d : T → Option V) (t : T) (w : Held) where
  pub inserted : (v : V) → w.label.kind ≡ kinds.New → IsFirstVersion rs w → read w.body ≡ Some (t, v) → d t ≡ None
      → IsEdit read rs d t (Some v) w
  inserted v kind first body none = record {
    above = rw first.unused tt;
    leaves = rw kind (ap Some body);
    finds = inl (rw first.unused refl, none);
  }

  pub replaced : (thing : Thing) (u v : V) → w.label.kind ≡ kinds.Copy → (next : IsNextVersion rs thing w)
      → read next.last.body ≡ Some (t, u) → read w.body ≡ Some (t, v) → IsEdit read rs d t (Some v) w
  replaced thing u v kind next old body = record {
    above = next_above thing next;
    leaves = rw kind (ap Some body);
    finds = inr (u, ap (held_in read) next.live ∙ ap Some old);
  }

  pub removed : (thing : Thing) (u : V) → w.label.kind ≡ kinds.Delete → (next : IsNextVersion rs thing w)
      → read next.last.body ≡ Some (t, u) → IsEdit read rs d t None w
  removed thing u kind next old = record {
    above = next_above thing next;
    leaves = rw kind refl;
    finds = inr (u, ap (held_in read) next.live ∙ ap Some old);
  }

-- ---- no record, or one
module _ {A B : Type 0} (R : A → B → Type 0) where
  pub no_zip : (ws : List B) → AllZip R [] ws → ws ≡ []
  no_zip [] h = refl
  no_zip (w ∷ ws) h = absurd h

  pub one_zip : (a : A) (ws : List B) → AllZip R (a ∷ []) ws → (w : B) × (ws ≡ w ∷ []) × R a w
  one_zip a [] h = absurd h
  one_zip a (w ∷ []) h = (w, refl, h.0)
  one_zip a (w ∷ z ∷ ws) h = absurd h.1
