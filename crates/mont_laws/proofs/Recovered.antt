-- Records that are found retire by rising identity and version.
use Rattle.std.proofs.Common.{◌≡◌, ◌≤◌, List, [], ◌∷◌, ◌++◌, sym, refl, ◌∙◌, subst, arith, Bool, true, false, inl, inr, ◌⊎◌, ◌==◌}
use Rattle.std.specs.Prelude.{◌≢◌, AllPairs, if◌then◌else◌}
use Rattle.std.specs.List.{Contains}
use Rattle.std.proofs.lemmas.Bool.Decides.{nat_tests}
use Rattle.std.proofs.lemmas.List.Elements.{All-contains}
use Rattle.mont_base.specs.declared.record.Held.{Held}
use Rattle.mont_base.specs.Versions.{is_delete}
use Rattle.mont_laws.specs.Records.{AreApart, AreSameRecords, IsAlone, without_slot}
use Rattle.mont_laws.specs.Retiring.{IsDue, Retires, IsBelow, retired_at_own, retired_before, retired_among}
use Rattle.mont_laws.proofs.Members.{no_element, first_element, later_element, element_cases, pairs_head, pairs_tail}
use Rattle.mont_laws.proofs.Apart.{same_slot, apart_filter, stays, stayed}
use Rattle.mont_laws.proofs.Newest.{identity_of, version_of, slot_of}

-- a live record that is alone
abbrev IsLone : List Held → Held → Type 0
IsLone rs r = (is_delete r.label.kind ≡ false) × IsAlone rs r

-- all that isn't among these is live and alone
abbrev Covers : List Held → List Held → Type 0
Covers rs qs = (r : Held) → Contains rs r → Contains qs r ⊎ IsLone rs r

below_first : (d : Held) (qs : List Held) → AllPairs IsBelow (d ∷ qs) → (q : Held) → Contains qs q → IsBelow d q
below_first d qs rising q a = All-contains (IsBelow d) qs q (pairs_head IsBelow d qs rising) a

not_below : (d r : Held) → d ≡ r → IsBelow d r → ⊥
not_below d r e (inl l) = let i = identity_of d r e in absurd (omega arith)
not_below d r e (inr l) = let v = version_of d r e in absurd (omega (arith, l.1))

covers_rest : (rs : List Held) (d : Held) (qs : List Held) → Covers rs (d ∷ qs) → Covers (without_slot d.slot rs) qs
covers_rest rs d qs h r a =
    let b = stayed r d.slot rs a in
    elim (h r b.0) [
      | inl c ↦ elim (element_cases d qs r c) [ inl e ↦ absurd (b.1 (slot_of r d e)) | inr e ↦ inl e ]
      | inr c ↦ inr (c.0, λ q x id. c.1 q (stayed q d.slot rs x).0 id)
    ]

covers_lone : (rs : List Held) (d : Held) (qs : List Held) → IsLone rs d → Covers rs (d ∷ qs) → Covers rs qs
covers_lone rs d qs lone h r a = elim (h r a) [
  | inl c ↦ elim (element_cases d qs r c) [ inl e ↦ inr (subst (IsLone rs) (sym e) lone) | inr e ↦ inl e ]
  | inr c ↦ inr c
]

within_rest : (rs : List Held) (d : Held) (qs : List Held) → AreApart rs → ((r : Held) → Contains (d ∷ qs) r → Contains rs r)
    → ((q : Held) → Contains qs q → IsBelow d q) → (r : Held) → Contains qs r → Contains (without_slot d.slot rs) r
within_rest rs d qs apart back below r a =
    let here = back d (first_element d qs) in
    let there = back r (later_element d qs r a) in
    stays r d.slot rs there (λ e. not_below d r (sym (same_slot rs apart r d there here e)) (below r a))

-- ---- the first of these, with what follows it
module _ (rs : List Held) (d : Held) (qs : List Held) (rising : AllPairs IsBelow (d ∷ qs)) (covers : Covers rs (d ∷ qs))
    (back : (r : Held) → Contains (d ∷ qs) r → Contains rs r) where
  here : Contains rs d
  here = back d (first_element d qs)

  -- the last version of its identity
  last : ((p : Held) → Contains qs p → p.label.identity ≢ d.label.identity) → IsAlone rs d
  last none q a id = elim (covers q a) [
    | inl c ↦ elim (element_cases d qs q c) [ inl e ↦ e | inr e ↦ absurd (none q e id) ]
    | inr c ↦ sym (c.1 d here (sym id))
  ]

  own : ((p : Held) → Contains qs p → p.label.identity ≢ d.label.identity) → Retires (without_slot d.slot rs) (retired_among qs)
      → (IsLone rs d → Retires rs (retired_among qs)) → (t : Bool) → is_delete d.label.kind ≡ t
      → Retires rs ((if t then record { slot = d.slot; epoch = d.label.epoch } ∷ [] else []) ++ retired_among qs)
  own none gone stay true e = (record { due_record = d; there = here; in_slot = refl; due = inr (e, refl, last none) }, gone)
  own none gone stay false e = stay (e, last none)

  module _ (q : Held) (ps : List Held) (is : qs ≡ q ∷ ps) where
    there : Contains qs q
    there = subst (λ (us : List Held). Contains us q) (sym is) (first_element q ps)

    above : (p : Held) → Contains qs p → (p ≡ q) ⊎ IsBelow q p
    above p a = elim (element_cases q ps p (subst (λ (us : List Held). Contains us p) is a)) [
      | inl f ↦ inl f
      | inr f ↦ inr (below_first q ps (subst (AllPairs IsBelow) is (pairs_tail IsBelow d qs rising)) p f)
    ]

    next_least : (p : Held) → Contains rs p → p.label.identity ≡ d.label.identity → q.label.identity ≡ d.label.identity
        → (p ≡ d) ⊎ (q.label.version ≤ p.label.version)
    next_least p a i id = elim (covers p a) [
      | inl c ↦ elim (element_cases d qs p c) [
        | inl f ↦ inl f
        | inr f ↦ elim (above p f) [
          | inl g ↦ let v = version_of p q g in inr (omega arith)
          | inr g ↦ elim g [ inl l ↦ absurd (omega arith) | inr l ↦ inr (omega (arith, l.1)) ]
        ]
      ]
      | inr c ↦ inl (sym (c.1 d here (sym i)))
    ]

    next_due : q.label.identity ≡ d.label.identity → IsDue rs d q.label.epoch
    next_due id = inl (
      q,
      record {
        later = record {
          there = back q (later_element d qs q there);
          identity = id;
          version = elim (below_first d qs rising q there) [ inl l ↦ absurd (omega arith) | inr l ↦ l.1 ];
        };
        next = λ p a i. next_least p a i id;
      },
      refl,
    )

    none_later : q.label.identity ≢ d.label.identity → (p : Held) → Contains qs p → p.label.identity ≢ d.label.identity
    none_later ne p a id = elim (below_first d qs rising q there) [
      | inl l ↦ elim (above p a) [
        | inl g ↦ ne (identity_of q p (sym g) ∙ id)
        | inr g ↦ elim g [ inl m ↦ absurd (omega arith) | inr m ↦ absurd (omega (arith, m.0)) ]
      ]
      | inr l ↦ ne (sym l.0)
    ]

  first_retires : Retires (without_slot d.slot rs) (retired_among qs) → (IsLone rs d → Retires rs (retired_among qs)) → (ps : List Held)
      → qs ≡ ps → Retires rs (retired_before d ps ++ retired_among qs)
  first_retires gone stay [] is = own (λ p a. absurd (no_element p (subst (λ (us : List Held). Contains us p) is a))) gone stay
      (is_delete d.label.kind) refl
  first_retires gone stay (q ∷ ps) is = by (q.label.identity == d.label.identity) refl
    where
      by : (t : Bool) → (q.label.identity == d.label.identity) ≡ t
          → Retires rs ((if t then record { slot = d.slot; epoch = q.label.epoch } ∷ [] else retired_at_own d) ++ retired_among qs)
      by true f = (record { due_record = d; there = here; in_slot = refl; due = next_due q ps is (grind (arith, nat_tests)) }, gone)
      by false f = own (none_later q ps is (λ id. absurd (grind (arith, nat_tests)))) gone stay (is_delete d.label.kind) refl

retires_among : (qs rs : List Held) → AreApart rs → AllPairs IsBelow qs → Covers rs qs → ((r : Held) → Contains qs r → Contains rs r)
    → Retires rs (retired_among qs)
retires_among [] rs apart rising covers back = record {
  kept = λ r a. elim (covers r a) [ inl c ↦ absurd (no_element r c) | inr c ↦ c.0 ];
  single = λ r b q a id. elim (covers r b) [ inl c ↦ absurd (no_element r c) | inr c ↦ c.1 q a id ];
}
retires_among (d ∷ qs) rs apart rising covers back =
    first_retires rs d qs rising covers back
    (retires_among qs (without_slot d.slot rs) (apart_filter rs apart _) (pairs_tail IsBelow d qs rising) (covers_rest rs d qs covers)
    (within_rest rs d qs apart back (below_first d qs rising)))
    (λ lone. retires_among qs rs apart (pairs_tail IsBelow d qs rising) (covers_lone rs d qs lone covers)
    (λ r a. back r (later_element d qs r a)))
    qs refl

-- where these are all the records
pub found_retire : (rs qs : List Held) → AreApart rs → AllPairs IsBelow qs → AreSameRecords rs qs → Retires rs (retired_among qs)
found_retire rs qs apart rising same = retires_among qs rs apart rising (λ r a. inl ((same r).0 a)) (λ r a. (same r).1 a)
