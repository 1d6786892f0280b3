-- What the order of closing says of each record, and back.
use Rattle.std.proofs.Common.{◌<◌, ◌≡◌, ℕ, ◌≤◌, List, [], ◌∷◌, sym, refl, ap, ◌∙◌, subst, arith, Bool, true, false, inl, inr, ◌⊎◌, ◌==◌}
use Rattle.std.specs.Prelude.{◌↔◌, Some, All}
use Rattle.std.specs.List.{Contains}
use Rattle.std.proofs.lemmas.Bool.Decides.{nat_tests}
use Rattle.std.proofs.lemmas.List.Elements.{All-head, All-tail, All-cons, All-nil}
use Rattle.std.proofs.lemmas.Option.{same_Some}
use Rattle.mont_base.specs.declared.record.Held.{Held}
use Rattle.mont_base.specs.Versions.{newest_of}
use Rattle.mont_laws.specs.Records.{AreApart, IsLaterVersion, without_slot}
use Rattle.mont_laws.specs.declared.retiring.Retired.{Retired}
use Rattle.mont_laws.specs.Retiring.{IsDue, Retires, IsIn, StandsBefore, IsRetireEpoch, IsRetiredRecord, AreRetired}
use Rattle.mont_laws.proofs.Newest.{IsNewest, newest_is, newest_at, identity_of, version_of, slot_of}
use Rattle.mont_laws.proofs.Apart.{same_slot, same_version, apart_filter, stays, stayed}

-- what is due has the least version of its identity
least : (rs : List Held) (d : Held) (epoch : ℕ) → IsDue rs d epoch → (p : Held) → Contains rs p → p.label.identity ≡ d.label.identity
    → d.label.version ≤ p.label.version
least rs d epoch (inl h) p a id =
    elim (h.1.next p a id) [ inl e ↦ let v = version_of p d e in omega arith | inr l ↦ omega (arith, h.1.later.version) ]
least rs d epoch (inr h) p a id = let v = version_of p d (h.2 p a id) in omega arith

due_epoch : (rs : List Held) (d : Held) (epoch : ℕ) → IsDue rs d epoch → IsRetireEpoch rs d epoch
due_epoch rs d epoch (inl h) = inl (
  h.0,
  record {
    later = h.1.later;
    next = λ p a id. elim (h.1.next p a id) [
      | inl e ↦ let v = version_of p d e in inl (omega arith)
      | inr l ↦ inr l
    ];
  },
  h.2,
)
due_epoch rs d epoch (inr h) = inr (h.0, h.1, λ p a id. let v = version_of p d (h.2 p a id) in omega arith)

module _ (rs : List Held) (d : Held) (epoch : ℕ) (apart : AreApart rs) (here : Contains rs d) (due : IsDue rs d epoch) where
  is_here : (p : Held) → Contains rs p → (p ≡ d) ⊎ Contains (without_slot d.slot rs) p
  is_here p a = by (p.slot == d.slot) refl
    where
      by : (t : Bool) → (p.slot == d.slot) ≡ t → (p ≡ d) ⊎ Contains (without_slot d.slot rs) p
      by true e = inl (same_slot rs apart p d a here (grind (arith, nat_tests)))
      by false e = inr (stays p d.slot rs a (λ f. absurd (grind (arith, nat_tests))))

  -- with the least version there, the others retire as without it
  epoch_with : (r : Held) (e : ℕ) → Contains (without_slot d.slot rs) r → IsRetireEpoch (without_slot d.slot rs) r e → IsRetireEpoch rs r e
  epoch_with r e a (inl h) = inl (
    h.0,
    record {
      later = record { there = (stayed h.0 d.slot rs h.1.later.there).0; identity = h.1.later.identity; version = h.1.later.version };
      next = λ p b id. elim (is_here p b) [
        | inl f ↦ let v = version_of p d f in let l = least rs d epoch due r (stayed r d.slot rs a).0
            (sym id ∙ identity_of p d f) in inl (omega arith)
        | inr c ↦ h.1.next p c id
      ];
    },
    h.2,
  )
  epoch_with r e a (inr h) = inr (
    h.0,
    h.1,
    λ p b id. elim (is_here p b) [
      | inl f ↦ let v = version_of p d f in let l = least rs d epoch due r (stayed r d.slot rs a).0
          (sym id ∙ identity_of p d f) in omega arith
      | inr c ↦ h.2 p c id
    ],
  )

  one_with : (t : Retired) → IsRetiredRecord (without_slot d.slot rs) t → IsRetiredRecord rs t
  one_with t h =
      record {
        retired_record = h.retired_record;
        there = (stayed h.retired_record d.slot rs h.there).0;
        in_slot = h.in_slot;
        epoch = epoch_with h.retired_record t.epoch h.there h.epoch;
      }

  -- no later one names the slot of the first
  not_in : (ts : List Retired) → All (IsRetiredRecord (without_slot d.slot rs)) ts → IsIn d.slot ts → ⊥
  not_in [] h i = i
  not_in (t ∷ ts) h (inl e) = let b = All-head (IsRetiredRecord (without_slot d.slot rs)) t ts h in
      (stayed b.retired_record d.slot rs b.there).1 (b.in_slot ∙ sym e)
  not_in (t ∷ ts) h (inr i) = not_in ts (All-tail (IsRetiredRecord (without_slot d.slot rs)) t ts h) i

  newest_with : (r : Held) → Contains (without_slot d.slot rs) r → newest_of r.label.identity (without_slot d.slot rs) ≡ Some r
      → newest_of r.label.identity rs ≡ Some r
  newest_with r a e =
      let b : IsNewest r.label.identity (without_slot d.slot rs) r = newest_is r.label.identity (without_slot d.slot rs) r e in
      newest_at r.label.identity rs r apart (record {
        there = (stayed r d.slot rs a).0;
        identity = refl;
        greatest =
            λ p c id. elim (is_here p c) [
              | inl f ↦ let v = version_of p d f in let l = least rs d epoch due r (stayed r d.slot rs a).0
                  (sym id ∙ identity_of p d f) in omega arith
              | inr f ↦ b.greatest p f id
            ];
      })

  module _ (t : Retired) (ts : List Retired) (at : d.slot ≡ t.slot) (is : epoch ≡ t.epoch)
      (v : AreRetired (without_slot d.slot rs) ts) where
    order_with : (r q : Held) → IsLaterVersion rs r q → Contains rs r → IsIn q.slot (t ∷ ts) → StandsBefore r.slot q.slot (t ∷ ts)
    order_with r q later a (inl e) =
        let f : q ≡ d = same_slot rs apart q d later.there here (e ∙ sym at) in
        let version = version_of q d f in
        let m = least rs d epoch due r a (sym later.identity ∙ identity_of q d f) in
        absurd (omega (arith, later.version))
    order_with r q later a (inr j) = elim (is_here q later.there) [
      | inl f ↦ absurd (not_in ts v.each (subst (λ (s : ℕ). IsIn s ts) (slot_of q d f) j))
      | inr c ↦ elim (is_here r a) [
        | inl g ↦ inl (slot_of r d g ∙ at, j)
        | inr g ↦ inr (v.order r q (record { there = c; identity = later.identity; version = later.version }) g j)
      ]
    ]

    -- the first one goes before what is said of the others
    retired_with : AreRetired rs (t ∷ ts)
    retired_with = record {
      each = All-cons (IsRetiredRecord rs) t ts
          (record { retired_record = d; there = here; in_slot = at; epoch = subst (IsRetireEpoch rs d) is (due_epoch rs d epoch due) })
          (λ k t lt. one_with _ (v.each k t lt));
      once = (λ i. not_in ts v.each (subst (λ (s : ℕ). IsIn s ts) (sym at) i), v.once);
      left = λ r a. elim (is_here r a) [
        | inl f ↦ inl (inl (slot_of r d f ∙ at))
        | inr b ↦ elim (v.left r b) [ inl i ↦ inl (inr i) | inr c ↦ inr (c.0, newest_with r b c.1) ]
      ];
      order = order_with;
    }

-- The records of one identity retire by rising version, each at the epoch of the next, and only a greatest one that is
-- no anti-payload is left.
pub are_retired : (ts : List Retired) (rs : List Held) → AreApart rs → Retires rs ts → AreRetired rs ts
are_retired [] rs apart h = record {
  each = All-nil (IsRetiredRecord rs);
  once = tt;
  left = λ r a. inr (
    h.kept r a,
    newest_at r.label.identity rs r apart
        (record { there = a; identity = refl; greatest = λ q b id. let v = version_of q r (h.single r a q b id) in omega arith }),
  );
  order = λ r q later a i. absurd i;
}
are_retired (t ∷ ts) rs apart h =
    let rest = are_retired ts (without_slot t.slot rs) (apart_filter rs apart _) h.1 in
    retired_with rs h.0.due_record t.epoch apart h.0.there h.0.due t ts h.0.in_slot refl
    (subst (λ (slot : ℕ). AreRetired (without_slot slot rs) ts) (sym h.0.in_slot) rest)

-- ---- and back: what holds of each record gives the order
before_in : (a b : ℕ) (ts : List Retired) → StandsBefore a b ts → IsIn b ts
before_in a b [] h = absurd h
before_in a b (t ∷ ts) (inl h) = inr h.1
before_in a b (t ∷ ts) (inr h) = inr (before_in a b ts h)

module _ (rs : List Held) (apart : AreApart rs) (t : Retired) (ts : List Retired) (d : Held) (v : AreRetired rs (t ∷ ts))
    (here : Contains rs d) (at : d.slot ≡ t.slot) where
  -- no version of the first one's identity is below it
  first_least : (p : Held) → Contains rs p → p.label.identity ≡ d.label.identity → (p ≡ d) ⊎ (d.label.version < p.label.version)
  first_least p b id = by cases_three
    where
      cases_three : (p.label.version < d.label.version) ⊎ ((p.label.version ≡ d.label.version) ⊎ (d.label.version < p.label.version))
      cases_three = grind arith

      by : (p.label.version < d.label.version) ⊎ ((p.label.version ≡ d.label.version) ⊎ (d.label.version < p.label.version))
          → (p ≡ d) ⊎ (d.label.version < p.label.version)
      by (inl l) = elim (v.order p d (record { there = here; identity = sym id; version = l }) b (inl at)) [
        | inl h ↦ absurd (v.once.0 (subst (λ (s : ℕ). IsIn s ts) at h.1))
        | inr h ↦ absurd (v.once.0 (subst (λ (s : ℕ). IsIn s ts) at (before_in p.slot d.slot ts h)))
      ]
      by (inr h) = elim h [ inl e ↦ inl (same_version rs apart p d b here id e) | inr l ↦ inr l ]

  first_due : (epoch : ℕ) → IsRetireEpoch rs d epoch → IsDue rs d epoch
  first_due epoch (inl h) = inl (
    h.0,
    record {
      later = h.1.later;
      next = λ p b id. elim (first_least p b id) [
        | inl e ↦ inl e
        | inr l ↦ elim (h.1.next p b id) [ inl m ↦ absurd (omega arith) | inr m ↦ inr m ]
      ];
    },
    h.2,
  )
  first_due epoch (inr h) = inr
      (h.0, h.1, λ p b id. elim (first_least p b id) [ inl e ↦ e | inr l ↦ let m = h.2 p b id in absurd (omega arith) ])

  epoch_without : (r : Held) (e : ℕ) → Contains (without_slot d.slot rs) r → IsRetireEpoch rs r e
      → IsRetireEpoch (without_slot d.slot rs) r e
  epoch_without r e a (inl h) = inl (
    h.0,
    record {
      later = record {
        there = stays h.0 d.slot rs h.1.later.there (λ s.
            let f : h.0 ≡ d = same_slot rs apart h.0 d h.1.later.there here s in
            let version = version_of h.0 d f in
            let b = stayed r d.slot rs a in
            elim (first_least r b.0 (sym h.1.later.identity ∙ identity_of h.0 d f)) [
              | inl g ↦ b.1 (slot_of r d g)
              | inr l ↦ absurd (omega (arith, h.1.later.version))
            ]);
        identity = h.1.later.identity;
        version = h.1.later.version;
      };
      next = λ p b id. h.1.next p (stayed p d.slot rs b).0 id;
    },
    h.2,
  )
  epoch_without r e a (inr h) = inr (h.0, h.1, λ p b id. h.2 p (stayed p d.slot rs b).0 id)

  each_without : (us : List Retired) → All (IsRetiredRecord rs) us → (IsIn t.slot us → ⊥)
      → All (IsRetiredRecord (without_slot d.slot rs)) us
  each_without [] h out = All-nil (IsRetiredRecord (without_slot d.slot rs))
  each_without (u ∷ us) h out =
      let b = All-head (IsRetiredRecord rs) u us h in
      let there : Contains (without_slot d.slot rs) b.retired_record =
      stays b.retired_record d.slot rs b.there (λ e. out (inl (sym at ∙ sym e ∙ b.in_slot))) in
      All-cons (IsRetiredRecord (without_slot d.slot rs)) u us
      (record {
        retired_record = b.retired_record;
        there = there;
        in_slot = b.in_slot;
        epoch = epoch_without b.retired_record u.epoch there b.epoch;
      })
      (each_without us (All-tail (IsRetiredRecord rs) u us h) (λ i. out (inr i)))

  newest_without : (r : Held) → Contains (without_slot d.slot rs) r → newest_of r.label.identity rs ≡ Some r
      → newest_of r.label.identity (without_slot d.slot rs) ≡ Some r
  newest_without r a e =
      let b : IsNewest r.label.identity rs r = newest_is r.label.identity rs r e in
      newest_at r.label.identity (without_slot d.slot rs) r (apart_filter rs apart _)
      (record { there = a; identity = refl; greatest = λ p c id. b.greatest p (stayed p d.slot rs c).0 id })

  retired_without : AreRetired (without_slot d.slot rs) ts
  retired_without = record {
    each = each_without ts (All-tail (IsRetiredRecord rs) t ts v.each) v.once.0;
    once = v.once.1;
    left = λ r a.
        let b = stayed r d.slot rs a in
        elim (v.left r b.0) [
          | inl i ↦ elim i [ inl e ↦ absurd (b.1 (e ∙ sym at)) | inr j ↦ inl j ]
          | inr c ↦ inr (c.0, newest_without r a c.1)
        ];
    order = λ r q later a i.
        let c = stayed r d.slot rs a in
        elim (v.order r q (record { there = (stayed q d.slot rs later.there).0; identity = later.identity; version = later.version }) c.0
        (inr i)) [ inl h ↦ absurd (c.1 (h.0 ∙ sym at)) | inr h ↦ h ];
  }

pub retires_from : (ts : List Retired) (rs : List Held) → AreApart rs → AreRetired rs ts → Retires rs ts
retires_from [] rs apart v = record {
  kept = λ r a. elim (v.left r a) [ inl i ↦ absurd i | inr c ↦ c.0 ];
  single = λ r b q a id. elim (v.left q a) [
    | inl i ↦ absurd i
    | inr c ↦ elim (v.left r b) [ inl i ↦ absurd i | inr d ↦ same_Some q r (sym c.1 ∙ ap (λ (i : ℕ). newest_of i rs) id ∙ d.1) ]
  ];
}
retires_from (t ∷ ts) rs apart v =
    let e = All-head (IsRetiredRecord rs) t ts v.each in
    let d : Held = e.retired_record in
    let rest = retires_from ts (without_slot d.slot rs) (apart_filter rs apart _) (retired_without rs apart t ts d v e.there e.in_slot) in (
      record { due_record = d; there = e.there; in_slot = e.in_slot; due = first_due rs apart t ts d v e.there e.in_slot t.epoch e.epoch },
      subst (λ (s : ℕ). Retires (without_slot s rs) ts) e.in_slot rest,
    )

pub retired_alike : (rs : List Held) (ts : List Retired) → AreApart rs → Retires rs ts ↔ AreRetired rs ts
retired_alike rs ts apart = (are_retired ts rs apart, retires_from ts rs apart)
