-- A record that is due is no live one, and dropping it leaves the live ones.
use Rattle.std.proofs.Common.{◌≡◌, ℕ, ◌≤◌, List, sym, refl, ap, ◌∙◌, arith, Bool, true, false, cond, inl, inr}
use Rattle.std.specs.Prelude.{◌≢◌, ◌==◌, Option, Some, None}
use Rattle.std.specs.List.{Contains}
use Rattle.std.proofs.lemmas.Bool.Decides.{nat_tests}
use Rattle.mont_base.specs.declared.record.Held.{Held}
use Rattle.mont_base.specs.Versions.{is_delete, newest_of}
use Rattle.mont_laws.specs.Records.{AreApart, without_slot, live_of, live_if}
use Rattle.mont_laws.specs.Retiring.{IsDue}
use Rattle.mont_laws.proofs.Apart.{same_slot, apart_filter, stays, stayed}
use Rattle.mont_laws.proofs.Newest.{IsNewest, newest_is, newest_at, no_newest}

module _ (rs : List Held) (r : Held) (epoch : ℕ) (apart : AreApart rs) (there : Contains rs r) (due : IsDue rs r epoch) (i : ℕ) where
  -- without any record of the identity
  newest_none : ((q : Held) → Contains (without_slot r.slot rs) q → q.label.identity ≡ i → ⊥) → newest_of i (without_slot r.slot rs) ≡ None
  newest_none none = by (newest_of i (without_slot r.slot rs)) refl
    where
      by : (o : Option Held) → newest_of i (without_slot r.slot rs) ≡ o → o ≡ None
      by None e = refl
      by (Some q) e = let n = newest_is i (without_slot r.slot rs) q e in absurd (none q n.there n.identity)

  -- the newest is another record
  newest_other : (n : Held) → newest_of i rs ≡ Some n → n.slot ≢ r.slot → newest_of i (without_slot r.slot rs) ≡ Some n
  newest_other n e other =
      let b : IsNewest i rs n = newest_is i rs n e in
      newest_at i (without_slot r.slot rs) n (apart_filter rs apart _) (record {
        there = stays n r.slot rs b.there other;
        identity = b.identity;
        greatest = λ q c is. b.greatest q (stayed q r.slot rs c).0 is;
      })

  -- the newest is the record itself, which is then an anti-payload and alone
  live_itself : (n : Held) → newest_of i rs ≡ Some n → n.slot ≡ r.slot → live_of i (without_slot r.slot rs) ≡ live_of i rs
  live_itself n e is = by due
    where
      by : IsDue rs r epoch → live_of i (without_slot r.slot rs) ≡ live_of i rs
      by (inl d) =
          let b : IsNewest i rs n = newest_is i rs n e in
          let same : n ≡ r = same_slot rs apart n r b.there there is in
          let id : r.label.identity ≡ i = ap (λ (z : Held). z.label.identity) (sym same) ∙ b.identity in
          let most : d.0.label.version ≤ n.label.version = b.greatest d.0 d.1.later.there (d.1.later.identity ∙ id) in
          let version : n.label.version ≡ r.label.version = ap (λ (z : Held). z.label.version) same in
          let later = d.1.later.version in
          absurd (omega arith)
      by (inr d) =
          let b : IsNewest i rs n = newest_is i rs n e in
          let same : n ≡ r = same_slot rs apart n r b.there there is in
          let id : r.label.identity ≡ i = ap (λ (z : Held). z.label.identity) (sym same) ∙ b.identity in
          let gone : newest_of i (without_slot r.slot rs) ≡ None = newest_none (λ q c j.
          let s = stayed q r.slot rs c in
          let one : q ≡ r = d.2 q s.0 (j ∙ sym id) in
          s.1 (ap (λ (z : Held). z.slot) one)) in
          let dead : live_if (Some n) ≡ None =
          ap (λ (t : Bool). cond t None (Some n)) (ap (λ (z : Held). is_delete z.label.kind) same ∙ d.0) in
          ap live_if gone ∙ sym (ap live_if e ∙ dead)

  pub live_stays : live_of i (without_slot r.slot rs) ≡ live_of i rs
  live_stays = by (newest_of i rs) refl
    where
      of : (n : Held) → newest_of i rs ≡ Some n → (t : Bool) → (n.slot == r.slot) ≡ t → live_of i (without_slot r.slot rs) ≡ live_of i rs
      of n e true f = live_itself n e (grind (arith, nat_tests))
      of n e false f = ap live_if (newest_other n e (λ g. absurd (grind (arith, nat_tests))) ∙ sym e)

      by : (o : Option Held) → newest_of i rs ≡ o → live_of i (without_slot r.slot rs) ≡ live_of i rs
      by None e = ap live_if (newest_none (λ q c j. no_newest i rs q e (stayed q r.slot rs c).0 j) ∙ sym e)
      by (Some n) e = of n e (n.slot == r.slot) refl
