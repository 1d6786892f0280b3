-- What is written and what is closed keeps the order of the retired records.
use Rattle.std.proofs.Common.{◌≡◌, ℕ, ◌<◌, ◌≤◌, List, [], ◌∷◌, ◌++◌, sym, refl, ap, ◌∙◌, subst, arith, Bool, true, false, cond, inl, inr, ◌⊎◌, ◌==◌}
use Rattle.std.specs.Prelude.{◌≢◌, Option, Some, None, not, if◌then◌else◌}
use Rattle.std.specs.List.{Contains}
use Rattle.std.proofs.lemmas.Bool.Decides.{nat_tests}
use Rattle.std.proofs.lemmas.List.Elements.{filter-append, Contains-append_left, Contains-push, Contains-push_cases}
use Rattle.std.proofs.lemmas.Option.{same_Some}
use Rattle.mont_base.specs.declared.record.Held.{Held}
use Rattle.mont_base.specs.Versions.{is_delete, newest_of}
use Rattle.mont_laws.specs.Records.{AreApart, IsObsolete, without_slot}
use Rattle.mont_laws.specs.declared.retiring.Retired.{Retired}
use Rattle.mont_laws.specs.Retiring.{IsDue, IsDueAt, AreAllLive, Retires, retired_by}
use Rattle.mont_laws.proofs.Apart.{same_slot, apart_filter, stays, stayed}
use Rattle.mont_laws.proofs.Newest.{IsNewest, no_newest, newest_is, newest_same, identity_of, version_of, slot_of}

pub due_obsolete : (x epoch : ℕ) (rs : List Held) (r : Held) → epoch ≤ x → IsDue rs r epoch → IsObsolete x rs r
due_obsolete x epoch rs r low (inl h) = inl (h.0, h.1.later, omega (arith, h.2))
due_obsolete x epoch rs r low (inr h) = inr (h.0, h.2)

delete_of : (q r : Held) → q ≡ r → is_delete q.label.kind ≡ is_delete r.label.kind
delete_of q r e = ap (λ (p : Held). is_delete p.label.kind) e

-- a record after all others, or one of these
pub push_cases : (rs : List Held) (w r : Held) → Contains (rs ++ w ∷ []) r → Contains rs r ⊎ (r ≡ w)
push_cases rs w r a = elim (Contains-push_cases rs w r a) [ inl b ↦ inl b | inr e ↦ inr (sym e) ]

without_push : (slot : ℕ) (w : Held) (rs : List Held) → w.slot ≢ slot → without_slot slot (rs ++ w ∷ []) ≡ without_slot slot rs ++ w ∷ []
without_push slot w rs ne = filter-append (λ (r : Held). not (r.slot == slot)) rs (w ∷ []) ∙ by (w.slot == slot) refl
  where
    by : (t : Bool) → (w.slot == slot) ≡ t → without_slot slot rs ++ cond (not t) (w ∷ []) [] ≡ without_slot slot rs ++ w ∷ []
    by true e = absurd (ne (grind (arith, nat_tests)))
    by false e = refl

-- a record that begins an identity, or follows a live one
abbrev pub Succeeds : Option Held → Held → Type 0
Succeeds None w = is_delete w.label.kind ≡ false
Succeeds (Some t) w = (is_delete t.label.kind ≡ false) × (t.label.version < w.label.version)

pub above_all : (o : Option Held) (rs : List Held) (w : Held) → newest_of w.label.identity rs ≡ o → Succeeds o w → (r : Held)
    → Contains rs r → r.label.identity ≡ w.label.identity → r.label.version < w.label.version
above_all None rs w is n r a id = absurd (no_newest w.label.identity rs r is a id)
above_all (Some t) rs w is n r a id = let g = (newest_is w.label.identity rs t is).greatest r a id in omega (arith, n.1)

module _ (w : Held) where
  -- the newest version stays, where it is live, when a record that is due is closed
  newest_stays : (o : Option Held) (rs : List Held) (d : Held) (epoch : ℕ) → AreApart rs → newest_of w.label.identity rs ≡ o
      → Succeeds o w → Contains rs d → IsDue rs d epoch → newest_of w.label.identity (without_slot d.slot rs) ≡ o
  newest_stays o rs d epoch apart is newest a due = sym
      (newest_same w.label.identity rs (without_slot d.slot rs) (apart_filter rs apart _) (has o is newest)
      (λ q b e. (stayed q d.slot rs b).0)) ∙ is
    where
      has : (o : Option Held) → newest_of w.label.identity rs ≡ o → Succeeds o w → (r : Held) → newest_of w.label.identity rs ≡ Some r
          → Contains (without_slot d.slot rs) r
      has None is n r e = let f : None ≡ Some r = sym is ∙ e in absurd (cc)
      has (Some t) is n r e =
          let b : IsNewest w.label.identity rs r = newest_is w.label.identity rs r e in
          let same : t ≡ r = same_Some t r (sym is ∙ e) in
          stays r d.slot rs b.there (λ s.
          let at : r ≡ d = same_slot rs apart r d b.there a s in
          let id : d.label.identity ≡ w.label.identity = identity_of d r (sym at) ∙ b.identity in
          let version = version_of r d at in
          elim due [
            | inl h ↦ let l = b.greatest h.0 h.1.later.there (h.1.later.identity ∙ id) in absurd (omega (arith, h.1.later.version))
            | inr h ↦ let f = delete_of t d (same ∙ at) in let g : true ≡ false = sym h.0 ∙ sym f ∙ n.0 in absurd (cc)
          ])

  -- where it has an identity that is there, it follows the newest version
  found_newest : (o : Option Held) (rs : List Held) (d : Held) → newest_of w.label.identity rs ≡ o → Succeeds o w → Contains rs d
      → w.label.identity ≡ d.label.identity → (t : Held) × IsNewest w.label.identity rs t × (is_delete t.label.kind ≡ false)
      × (t.label.version < w.label.version)
  found_newest None rs d is n a id = absurd (no_newest w.label.identity rs d is a (sym id))
  found_newest (Some t) rs d is n a id = (t, newest_is w.label.identity rs t is, n.0, n.1)

  due_stays : (o : Option Held) (rs : List Held) (d : Held) (epoch : ℕ) → newest_of w.label.identity rs ≡ o → Succeeds o w → Contains rs d
      → IsDue rs d epoch → IsDue (rs ++ w ∷ []) d epoch
  due_stays o rs d epoch is n a (inl h) = inl (
    h.0,
    record {
      later = record {
        there = Contains-append_left rs
            (w ∷ []) h.0 h.1.later.there;
        identity = h.1.later.identity;
        version = h.1.later.version;
      };
      next = λ p b e. elim (push_cases rs w p b) [
        | inl c ↦ h.1.next p c e
        | inr c ↦
            let id : w.label.identity ≡ d.label.identity = identity_of w p (sym c) ∙ e in
            let m = found_newest o rs d is n a id in
            let g = m.1.greatest h.0 h.1.later.there (h.1.later.identity ∙ sym id) in
            let v = version_of p w c in
            inr (omega (arith, m.3))
      ];
    },
    h.2,
  )
  due_stays o rs d epoch is n a (inr h) = inr (
    h.0,
    h.1,
    λ p b e. elim (push_cases rs w p b) [
      | inl c ↦ h.2 p c e
      | inr c ↦
          let id : w.label.identity ≡ d.label.identity = identity_of w p (sym c) ∙ e in
          let m = found_newest o rs d is n a id in
          let f = delete_of m.0 d (h.2 m.0 m.1.there (m.1.identity ∙ id)) in
          let g : true ≡ false = sym h.0 ∙ sym f ∙ m.2 in
          absurd (cc)
    ],
  )

  -- where no record is retired yet, the version before it is the only one
  module _ (rs : List Held) (new : (r : Held) → Contains rs r → r.slot ≢ w.slot) (all : AreAllLive rs) where
    begins_identity : newest_of w.label.identity rs ≡ None → is_delete w.label.kind ≡ false → AreAllLive (rs ++ w ∷ [])
    begins_identity is n = record {
      kept = λ r a. elim (push_cases rs w r a) [ inl b ↦ all.kept r b | inr e ↦ delete_of r w e ∙ n ];
      single = λ r a q b id. elim (push_cases rs w q b) [
        | inl c ↦ elim (push_cases rs w r a) [
          | inl d ↦ all.single r d q c id
          | inr e ↦ absurd (no_newest w.label.identity rs q is c (id ∙ identity_of r w e))
        ]
        | inr e ↦ elim (push_cases rs w r a) [
          | inl d ↦ absurd (no_newest w.label.identity rs r is d (sym id ∙ identity_of q w e))
          | inr f ↦ e ∙ sym f
        ]
      ];
    }

    module _ (t : Held) (b : IsNewest w.label.identity rs t) (later : t.label.version < w.label.version) where
      victim_due : IsDue (rs ++ w ∷ []) t w.label.epoch
      victim_due = inl (
        w,
        record {
          later = record { there = Contains-push rs w; identity = sym b.identity; version = later };
          next = λ p a id. elim (push_cases rs w p a) [
            | inl c ↦ inl (all.single t b.there p c id)
            | inr e ↦ let v = version_of p w e in inr (omega arith)
          ];
        },
        refl,
      )

      -- one that is left is w, or has another identity
      left : (r : Held) → Contains (without_slot t.slot (rs ++ w ∷ [])) r
          → (Contains rs r × (r.label.identity ≢ w.label.identity)) ⊎ (r ≡ w)
      left r a =
          let c = stayed r t.slot (rs ++ w ∷ []) a in
          elim (push_cases rs w r c.0) [
            | inl d ↦ inl (d, λ id. c.1 (slot_of r t (all.single t b.there r d (id ∙ sym b.identity))))
            | inr e ↦ inr e
          ]

      victim_gone : is_delete w.label.kind ≡ false → AreAllLive (without_slot t.slot (rs ++ w ∷ []))
      victim_gone f = record {
        kept = λ r a. elim (left r a) [ inl c ↦ all.kept r c.0 | inr e ↦ delete_of r w e ∙ f ];
        single = λ r c q a id. elim (left q a) [
          | inl d ↦ elim (left r c) [ inl e ↦ all.single r e.0 q d.0 id | inr e ↦ absurd (d.1 (id ∙ identity_of r w e)) ]
          | inr d ↦ elim (left r c) [ inl e ↦ absurd (e.1 (sym id ∙ identity_of q w d)) | inr e ↦ d ∙ sym e ]
        ];
      }

      -- an anti-payload goes right after its victim
      both_gone : AreAllLive (without_slot w.slot (without_slot t.slot (rs ++ w ∷ [])))
      both_gone = record {
        kept = λ r a. let c = stayed r w.slot (without_slot t.slot (rs ++ w ∷ [])) a in
            elim (left r c.0) [ inl d ↦ all.kept r d.0 | inr e ↦ absurd (c.1 (slot_of r w e)) ];
        single = λ r c q a id.
            let x = stayed q w.slot (without_slot t.slot (rs ++ w ∷ [])) a in
            let y = stayed r w.slot (without_slot t.slot (rs ++ w ∷ [])) c in
            elim (left q x.0) [
              | inl d ↦ elim (left r y.0) [ inl e ↦ all.single r e.0 q d.0 id | inr e ↦ absurd (y.1 (slot_of r w e)) ]
              | inr d ↦ absurd (x.1 (slot_of q w d))
            ];
      }

      own_due : is_delete w.label.kind ≡ true → IsDueAt (without_slot t.slot (rs ++ w ∷ []))
          (record { slot = w.slot; epoch = w.label.epoch })
      own_due f = record {
        due_record = w;
        there = stays w t.slot (rs ++ w ∷ []) (Contains-push rs w) (λ e. new t b.there (sym e));
        in_slot = refl;
        due = inr (f, refl, λ q a id. elim (left q a) [ inl c ↦ absurd (c.1 id) | inr e ↦ e ]);
      }

      rest_retires : (f : Bool) → is_delete w.label.kind ≡ f
          → Retires (without_slot t.slot (rs ++ w ∷ [])) (if f then record { slot = w.slot; epoch = w.label.epoch } ∷ [] else [])
      rest_retires false f = victim_gone f
      rest_retires true f = (own_due f, both_gone)

    retires_last : (o : Option Held) → newest_of w.label.identity rs ≡ o → Succeeds o w → Retires (rs ++ w ∷ []) (retired_by o w)
    retires_last None is n = begins_identity is n
    retires_last (Some t) is n =
        let b = newest_is w.label.identity rs t is in (
          record { due_record = t; there = Contains-append_left rs (w ∷ []) t b.there; in_slot = refl; due = victim_due t b n.1 },
          rest_retires t b n.1 (is_delete w.label.kind) refl,
        )

  -- a written record retires what it follows after all others
  pub retires_push : (ts : List Retired) (rs : List Held) (o : Option Held) → AreApart rs → newest_of w.label.identity rs ≡ o
      → Succeeds o w → ((r : Held) → Contains rs r → r.slot ≢ w.slot) → Retires rs ts → Retires (rs ++ w ∷ []) (ts ++ retired_by o w)
  retires_push [] rs o apart is n new all = retires_last rs new all o is n
  retires_push (t ∷ ts) rs o apart is n new h =
      let d : Held = h.0.due_record in
      let a = h.0.there in
      let at : newest_of w.label.identity (without_slot t.slot rs) ≡ o =
      subst (λ (slot : ℕ). newest_of w.label.identity (without_slot slot rs) ≡ o) h.0.in_slot
      (newest_stays o rs d t.epoch apart is n a h.0.due) in
      let rest = retires_push ts (without_slot t.slot rs) o (apart_filter rs apart _) at n (λ r a. new r (stayed r t.slot rs a).0) h.1 in (
        record {
          due_record = d;
          there = Contains-append_left rs
              (w ∷ []) d a;
          in_slot = h.0.in_slot;
          due = due_stays o rs d t.epoch is n a h.0.due;
        },
        subst (λ (qs : List Held). Retires qs (ts ++ retired_by o w))
            (sym (without_push t.slot w rs (λ e. new d a (h.0.in_slot ∙ sym e)))) rest,
      )
