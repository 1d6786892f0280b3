-- The live records are those that aren't retired.
use Rattle.std.proofs.Common.{◌≡◌, ℕ, List, [], ◌∷◌, sym, ap, ◌∙◌, arith, true, false, inl, inr}
use Rattle.std.specs.Prelude.{◌↔◌, All}
use Rattle.std.specs.List.{Contains}
use Rattle.std.proofs.lemmas.List.Elements.{All-head, All-tail}
use Rattle.mont_base.specs.declared.record.Held.{Held}
use Rattle.mont_base.specs.Versions.{is_delete, is_live, newest_of}
use Rattle.mont_laws.specs.Records.{AreApart}
use Rattle.mont_laws.specs.declared.retiring.Retired.{Retired}
use Rattle.mont_laws.specs.Retiring.{IsIn, IsRetireEpoch, IsRetiredRecord, AreRetired, Retires}
use Rattle.mont_laws.proofs.Apart.{same_slot}
use Rattle.mont_laws.proofs.Newest.{newest_is, identity_of, version_of}
use Rattle.mont_laws.proofs.Edits.{live_facts, live_from}
use Rattle.mont_laws.proofs.ByVersion.{are_retired}
use Rattle.mont_laws.proofs.LiveObjects.{is_live_of, live_there}

module _ (rs : List Held) where
  -- a slot that is retired is that of a record with a retire epoch
  named : (ts : List Retired) (slot : ℕ) → All (IsRetiredRecord rs) ts → IsIn slot ts
      → (r : Held) × (e : ℕ) × Contains rs r × (r.slot ≡ slot) × IsRetireEpoch rs r e
  named [] slot h i = absurd i
  named (t ∷ ts) slot h (inl e) = let b = All-head (IsRetiredRecord rs) t ts h in
      (b.retired_record, t.epoch, b.there, b.in_slot ∙ sym e, b.epoch)
  named (t ∷ ts) slot h (inr i) = named ts slot (All-tail (IsRetiredRecord rs) t ts h) i

  pub live_unretired : (ts : List Retired) (r : Held) → AreApart rs → AreRetired rs ts → Contains rs r → (is_live rs r ≡ true)
      ↔ (IsIn r.slot ts → ⊥)
  live_unretired ts r apart v a = (
    λ live i.
        let c = live_facts (newest_of r.label.identity rs) r (is_live_of rs apart r a live) in
        let n = named ts r.slot v.each i in
        let same : n.0 ≡ r = same_slot rs apart n.0 r n.2 a n.3 in
        let version = version_of n.0 r same in
        let kind = ap (λ (s : Held). is_delete s.label.kind) same in
        elim n.4 [
          | inl h ↦ let g = (newest_is r.label.identity rs r c.0).greatest h.0 h.1.later.there
              (h.1.later.identity ∙ identity_of n.0 r same) in absurd (omega (arith, h.1.later.version))
          | inr h ↦ let f : true ≡ false = sym h.0 ∙ kind ∙ c.1 in absurd (cc)
        ],
    λ out. elim (v.left r a) [
      | inl i ↦ absurd (out i)
      | inr c ↦ (live_there rs r.label.identity r (live_from (newest_of r.label.identity rs) r c.1 c.0)).1
    ],
  )

pub live_left : (rs : List Held) (ts : List Retired) (r : Held) → AreApart rs → Retires rs ts → Contains rs r → (is_live rs r ≡ true)
    ↔ (IsIn r.slot ts → ⊥)
live_left rs ts r apart h a = live_unretired rs ts r apart (are_retired ts rs apart h) a
