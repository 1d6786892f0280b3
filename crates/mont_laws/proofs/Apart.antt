-- Records that are apart: what no two of them share, and what stays apart.
use Rattle.std.proofs.Common.{◌≡◌, ℕ, ◌<◌, List, [], ◌∷◌, ◌++◌, get_or, sym, refl, arith, Bool, true, false, inl, inr}
use Rattle.std.specs.Prelude.{◌≢◌, ◌==◌, not, filter}
use Rattle.std.specs.List.{Contains}
use Rattle.std.proofs.lemmas.Bool.Decides.{nat_tests}
use Rattle.std.proofs.lemmas.List.Elements.{Contains-get_or}
use Rattle.std.proofs.lemmas.List.Kept.{AllPairs-filter}
use Rattle.std.proofs.lemmas.List.Quantifiers.{all_pairs_push}
use Rattle.mont_base.specs.declared.record.Held.{Held}
use Rattle.mont_base.specs.Image.{DiffersFrom}
use Rattle.mont_laws.specs.Records.{AreApart, without_slot}
use Rattle.mont_laws.proofs.Members.{pair_cases, kept_element, element_kept}

abbrev OtherSlot : Held → Held → Type 0
OtherSlot r q = r.slot ≢ q.slot

module _ (rs : List Held) (apart : AreApart rs) where
  pub same_slot : (q r : Held) → Contains rs q → Contains rs r → q.slot ≡ r.slot → q ≡ r
  same_slot q r a b is = elim (pair_cases OtherSlot rs q r apart.slots a b) [
    | inl e ↦ e
    | inr c ↦ elim c [ inl ne ↦ absurd (ne is) | inr ne ↦ absurd (ne (sym is)) ]
  ]

  pub same_version : (q r : Held) → Contains rs q → Contains rs r → q.label.identity ≡ r.label.identity
      → q.label.version ≡ r.label.version → q ≡ r
  same_version q r a b id is = elim (pair_cases DiffersFrom rs q r apart.versions a b) [
    | inl e ↦ e
    | inr c ↦ elim c [ inl ne ↦ absurd (ne (id, is)) | inr ne ↦ absurd (ne (sym id, sym is)) ]
  ]

  pub apart_filter : (p : Held → Bool) → AreApart (filter p rs)
  apart_filter p = record {
    slots = AllPairs-filter OtherSlot p rs apart.slots;
    versions = AllPairs-filter DiffersFrom p rs apart.versions;
  }

  pub apart_push : (w : Held) → ((r : Held) → Contains rs r → r.slot ≢ w.slot)
      → ((r : Held) → Contains rs r → r.label.identity ≡ w.label.identity → r.label.version < w.label.version) → AreApart (rs ++ w ∷ [])
  apart_push w slots versions = record {
    slots = all_pairs_push OtherSlot rs w apart.slots (λ k d lt. slots (get_or rs k d) (Contains-get_or rs k d lt));
    versions = all_pairs_push DiffersFrom rs w apart.versions
        (λ k d lt both. let l = versions (get_or rs k d) (Contains-get_or rs k d lt) both.0 in let e = both.1 in absurd (omega arith));
  }

-- ---- with the record of a slot dropped
pub stays : (r : Held) (slot : ℕ) (rs : List Held) → Contains rs r → r.slot ≢ slot → Contains (without_slot slot rs) r
stays r slot rs a ne = element_kept (λ (r : Held). not (r.slot == slot)) r rs a (by (r.slot == slot) refl)
  where
    by : (t : Bool) → (r.slot == slot) ≡ t → not t ≡ true
    by true e = absurd (ne (grind (arith, nat_tests)))
    by false e = refl

pub stayed : (r : Held) (slot : ℕ) (rs : List Held) → Contains (without_slot slot rs) r → Contains rs r × (r.slot ≢ slot)
stayed r slot rs a = let b = kept_element (λ (r : Held). not (r.slot == slot)) r rs a in let n = b.1 in
    (b.0, λ e. absurd (grind (arith, nat_tests)))
