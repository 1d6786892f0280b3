-- The slots that a unit lists for an epoch, before and after records come and go.
use Rattle.std.proofs.Common.{◌≡◌, ℕ, ◌-◌, ◌≤◌, inl, inr, arith, List, [], ◌∷◌, ◌++◌, map, sym, refl, ap, ◌∙◌, append-nil, Bool, true, false}
use Rattle.std.specs.Prelude.{◌≢◌, ◌==◌, filter, All, if◌then◌else◌}
use Rattle.std.specs.List.{Contains}
use Rattle.std.proofs.lemmas.Bool.{eq-eqb, ne_eqb, eqb-true}
use Rattle.std.proofs.lemmas.List.{map-append}
use Rattle.std.proofs.lemmas.List.Elements.{All-head, All-tail, All-contains, filter-append}
use Rattle.mont_base.specs.declared.record.Held.{Held}
use Rattle.mont_base.specs.declared.operation.Entry.{Entry}
use Rattle.mont_laws.specs.Records.{without_slot}
use Rattle.mont_laws.proofs.Members.{first_element, later_element}
use Rattle.core_steps.specs.declared.parts.UnitPart.{UnitPart}
use Rattle.core_steps.specs.CallAnswers.{after_leave}
use Rattle.core_steps.specs.Closing.{IsDueNow, after_persist_close}
use Rattle.core_steps.specs.UnitClauses.{HasVersions}
use Rattle.core_steps.proofs.UnitCloses.{due_lost, due_old}
use Rattle.core_steps.specs.Flushing.{unit_list}
use Rattle.core_steps.proofs.UnitQueues.{filter_whole}

abbrev slot_of : Held → ℕ
slot_of r = r.slot

abbrev of_epoch : ℕ → List Held → List Held
of_epoch x rs = filter (λ (r : Held). r.label.epoch == x) rs

-- records of another epoch add nothing
none_of : (x e : ℕ) (ws : List Held) → All (λ (w : Held). w.label.epoch ≡ e) ws → x ≢ e → of_epoch x ws ≡ []
none_of x e [] at other = refl
none_of x e (w ∷ ws) at other =
    rw (ne_eqb w.label.epoch x (λ same. other (sym same ∙ All-head (λ (w : Held). w.label.epoch ≡ e) w ws at)))
    (none_of x e ws (All-tail (λ (w : Held). w.label.epoch ≡ e) w ws at) other)

-- Leave: the lists of other epochs than that of what was written stay,
pub listed_else : (x e : ℕ) (p : UnitPart) (entry : Entry) → All (λ (w : Held). w.label.epoch ≡ e) p.written → x ≢ e
    → unit_list x (after_leave p entry) ≡ unit_list x p
listed_else x e p entry at other = ap (map slot_of) (filter-append (λ (r : Held). r.label.epoch == x) p.records p.written
    ∙ ap (λ (qs : List Held). of_epoch x p.records ++ qs) (none_of x e p.written at other) ∙ append-nil (of_epoch x p.records))

-- and the list of that epoch has the written slots after its own.
pub listed_there : (e : ℕ) (p : UnitPart) (entry : Entry) → All (λ (w : Held). w.label.epoch ≡ e) p.written
    → unit_list e (after_leave p entry) ≡ unit_list e p ++ map (λ (w : Held). w.slot) p.written
listed_there e p entry at = ap (map slot_of) (filter-append (λ (r : Held). r.label.epoch == e) p.records p.written
    ∙ ap (λ (qs : List Held). of_epoch e p.records ++ qs) (filter_whole (λ (r : Held). r.label.epoch == e) p.written
    (λ w a. eq-eqb w.label.epoch e (All-contains (λ (w : Held). w.label.epoch ≡ e) p.written w at a))))
    ∙ map-append slot_of (of_epoch e p.records) p.written

-- PersistClose: the lists of other epochs than that of the closed slot's record stay.
pub listed_without : (x slot : ℕ) (p : UnitPart) → ((r : Held) → Contains p.records r → r.slot ≡ slot → r.label.epoch ≢ x)
    → unit_list x (after_persist_close p slot) ≡ unit_list x p
listed_without x slot p other = ap (map slot_of) (by p.records other)
  where
    by : (rs : List Held) → ((r : Held) → Contains rs r → r.slot ≡ slot → r.label.epoch ≢ x)
        → of_epoch x (without_slot slot rs) ≡ of_epoch x rs
    by [] other = refl
    by (r ∷ rs) other = at (r.slot == slot) refl (by rs (λ q a. other q (later_element r rs q a)))
      where
        at : (t : Bool) → (r.slot == slot) ≡ t → of_epoch x (without_slot slot rs) ≡ of_epoch x rs
            → of_epoch x (without_slot slot (r ∷ rs)) ≡ of_epoch x (r ∷ rs)
        at true is rest = rw (is, ne_eqb r.label.epoch x (other r (first_element r rs) (eqb-true r.slot slot is))) rest
        at false is rest = rw is (ap (λ (qs : List Held). if r.label.epoch == x then r ∷ qs else qs) rest)

-- So the list of the epoch before the clock stays, since a slot that is closed has no younger record than two epochs.
pub listed_closed : (b d now slot : ℕ) (p : UnitPart) → HasVersions b p.records p.retired → IsDueNow p slot
    → ((r : Held) → Contains p.records r → Contains p.lost slot → r.slot ≢ slot) → b ≤ d → p.durable ≤ d → d ≤ now
    → unit_list (now - 1) (after_persist_close p slot) ≡ unit_list (now - 1) p
listed_closed b d now slot p versions due other begun known behind = listed_without (now - 1) slot p (λ r a is. elim due [
  | inl first ↦ λ same. let old = due_old b d p.durable slot p.records p.retired versions first begun known r a is in absurd (omega arith)
  | inr lost ↦ absurd (other r a (due_lost p.lost slot lost) is)
])
