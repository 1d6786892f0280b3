use Rattle.std.proofs.Common.{◌≡◌, ◌≢◌, ℕ, ◌^◌, ◌<◌, List, MatchOption, MatchResult, Option, Some, Result, Ok, Err, decimal, sym, ap, ◌∙◌, subst, arith}
use Rattle.std.specs.Result.{result_ok, OkIff}
use Rattle.std.proofs.lemmas.Fmt.{decimal_injective}
use Rattle.mont_base.specs.declared.kinds.UnitKind.{UnitKind}
use Rattle.mont_base.specs.Layout.{Shape, shape, IsLayout, letters_of}
use Rattle.job_text.proofs.Once.{letters_once}
use Rattle.job_text.proofs.header.layout.Goals as goal

layout_is : {E : Type 0} (letters word : List ℕ) (ks : List UnitKind) (n : ℕ) (r : Result Shape E) → letters ≡ letters_of ks → word
    ≡ decimal n → n < 2 ^ 64 → OkIff r (IsLayout (shape ks n)) (shape ks n)
    → MatchOption (result_ok r) ((s : Shape) → IsLayout s → letters ≡ letters_of s.kinds → word ≢ decimal s.slots)
    (λ s. IsLayout s × (letters ≡ letters_of s.kinds) × (word ≡ decimal s.slots))
layout_is letters word ks n (Ok s) e f small is =
    subst (λ (t : Shape). IsLayout t × (letters ≡ letters_of t.kinds) × (word ≡ decimal t.slots)) (sym is.1) (is.0, e, f)
layout_is letters word ks n (Err bad) e f small is = λ s h g i.
    let kinds : ks ≡ s.kinds = letters_once ks s.kinds (sym e ∙ g) in
    let slots : n ≡ s.slots = decimal_injective n s.slots small (omega (arith, h.few_slots)) (sym f ∙ i) in
    is (subst (λ (m : ℕ). IsLayout (shape ks m)) (sym slots) (subst (λ (l : List UnitKind). IsLayout (shape l s.slots)) (sym kinds) h))

spelled : {E : Type 0} (letters : List ℕ) (ks : List UnitKind) (r : Result (List UnitKind) E) (o : Option (List UnitKind)) (P : E → Type 0)
    → MatchResult r (λ kinds. letters ≡ letters_of kinds) P → o ≡ result_ok r → o ≡ Some ks → letters ≡ letters_of ks
spelled letters ks (Ok ls) o P h e f =
    let both : ◌≡◌ {A = Option (List UnitKind)} (Some ls) (Some ks) = sym e ∙ f in
    let same : ls ≡ ks = cc in
    h ∙ ap letters_of same
spelled letters ks (Err bad) o P h e f = absurd (cc)

pub returns : goal.returns
returns c =
    rw c.ok-2.ensures.value (layout_is c.args.kinds.now c.args.slots.now c.in_ok-kinds.kinds c.in_ok-number.field-0 c.new.result
    (spelled c.args.kinds.now c.in_ok-kinds.kinds c.of_letters.result c.ok.result _ c.of_letters.ensures c.ok.ensures.value
    c.in_ok-kinds.was)
    c.in_ok-number.ensures.1 c.in_ok-number.ensures.0 c.new.ensures)
