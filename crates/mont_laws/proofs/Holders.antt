-- The live record that holds a thing.
use Rattle.std.proofs.Common.{◌≡◌, ℕ, List, sym, refl, ap, ◌∙◌, Bool, true, false}
use Rattle.std.specs.Prelude.{◌≢◌, Option, Some, None, if◌then◌else◌}
use Rattle.std.proofs.lemmas.Option.{same_Some}
use Rattle.mont_base.specs.declared.record.Held.{Held}
use Rattle.mont_laws.specs.Records.{live_of}
use Rattle.mont_laws.specs.Shows.{held_in, live_things}
use Rattle.mont_laws.specs.Structures.{if_fits}

-- what fits is what was there
pub fitted : {A : Type 0} (p : A → Bool) (o : Option A) (a : A) → if_fits p o ≡ Some a → (o ≡ Some a) × (p a ≡ true)
fitted p None a e = absurd (cc)
fitted p (Some b) a e = by (p b) refl e
  where
    by : (t : Bool) → p b ≡ t → (if t then Some b else None) ≡ Some a → (Some b ≡ Some a) × (p a ≡ true)
    by true f g = (g, ap p (sym (same_Some b a g)) ∙ f)
    by false f g = absurd (cc)

-- and what is there and no fault fits
pub sure_fit : {A : Type 0} (p : A → Bool) (o : Option A) (a : A) → o ≡ Some a → if_fits p o ≢ None → if_fits p o ≡ Some a
sure_fit p o a e ne = by (p a) refl
  where
    is : (t : Bool) → p a ≡ t → if_fits p o ≡ (if t then Some a else None)
    is t f = ap (if_fits p) e ∙ ap (λ (b : Bool). if b then Some a else None) f

    by : (t : Bool) → p a ≡ t → if_fits p o ≡ Some a
    by true f = is true f
    by false f = absurd (ne (is false f))

pub live_holder : {A : Type 0} (read : List ℕ → Option A) (rs : List Held) (i : ℕ) (o : Option A) → live_things read rs i ≡ Some o
    → (r : Held) × (live_of i rs ≡ Some r) × (read r.body ≡ o)
live_holder read rs i o e = by (live_of i rs) refl e
  where
    by : (p : Option Held) → live_of i rs ≡ p → held_in read p ≡ Some o → (r : Held) × (live_of i rs ≡ Some r) × (read r.body ≡ o)
    by None f g = absurd (cc)
    by (Some r) f g = (r, f, same_Some (read r.body) o g)

pub held_live : {A : Type 0} (read : List ℕ → Option A) (rs : List Held) (i : ℕ) (r : Held) → live_of i rs ≡ Some r
    → live_things read rs i ≡ Some (read r.body)
held_live read rs i r e = ap (held_in read) e
