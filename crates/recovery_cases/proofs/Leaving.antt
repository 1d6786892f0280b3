-- Images that hold the same, one after the other.
use Rattle.std.proofs.Common.{◌≡◌, ◌⊎◌, ℕ, List, ◌∙◌, subst, inl, inr}
use Rattle.std.specs.Prelude.{Option, Some, None, Result, Ok, Err, IfOk, IfSome}
use Rattle.mont_base.specs.Layout.{Shape}
use Rattle.mont_image.specs.declared.stored_image.Image.{Image}
use Rattle.recover.specs.StoppedWords.{HoldsBase}
use Rattle.recovery_cases.specs.Leftovers.{HoldsSame}

-- of which recovery rebuilds the same
base_behind : (s : Shape) (a b c : List ℕ) → HoldsBase s a b → HoldsBase s b c → HoldsBase s a c
base_behind s a b c h k = record {
  accepted = k.accepted;
  clock_is = k.clock_is ∙ h.clock_is;
  rebuilt = λ states. (λ x. (h.rebuilt states).0 ((k.rebuilt states).0 x), λ x. (k.rebuilt states).1 ((h.rebuilt states).1 x));
}

pub same_behind : (a b c : Image) → HoldsSame a b → HoldsSame b c → HoldsSame a c
same_behind a b c h k = record {
  layout = k.layout ∙ h.layout;
  new = k.new;
  base = base_behind a.layout a.words b.words c.words h.base (subst (λ (s : Shape). HoldsBase s b.words c.words) h.layout k.base);
}

-- it is the image itself, or holds the same
abbrev pub GoesOn : Image → Image → Type 0
GoesOn a b = (b ≡ a) ⊎ HoldsSame a b

pub same_at_last : (a b c : Image) → GoesOn a b → HoldsSame b c → HoldsSame a c
same_at_last a b c (inl e) k = subst (λ (x : Image). HoldsSame x c) e k
same_at_last a b c (inr h) k = same_behind a b c h k

pub at_some : {A : Type 0} (o : Option A) (a : A) (P : A → Type 0) → o ≡ Some a → IfSome o P → P a
at_some o a P is told = subst (λ x. IfSome x P) is told

pub left_behind : {E : Type 0} (r : Result (Option Image) E) (a b : Image) → GoesOn a b
    → IfOk r (λ o. IfSome o (λ x. HoldsSame b x)) → IfOk r (λ o. IfSome o (λ x. HoldsSame a x))
left_behind (Ok (Some x)) a b on same = same_at_last a b x on same
left_behind (Ok None) a b on same = tt
left_behind (Err e) a b on same = tt
