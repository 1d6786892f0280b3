-- What a step leaves of the sizes, clocks, announcements, registrations and lost slots.
use Rattle.std.proofs.Common.{◌≡◌, ◌≢◌, ℕ, ◌<◌, ◌≤◌, List, [], ◌∷◌, length, set, sym, refl, ap, ◌∙◌, subst, ⊎_elim, length-set, Bool, true, false}
use Rattle.std.specs.Prelude.{slice_get, Some}
use Rattle.std.specs.List.{Contains}
use Rattle.mont_base.specs.Layout.{Shape}
use Rattle.mont_base.specs.State.{State}
use Rattle.core_steps.specs.declared.parts.Core.{Core}
use Rattle.core_steps.specs.declared.parts.UnitPart.{UnitPart}
use Rattle.core_steps.specs.declared.parts.CallerPart.{CallerPart}
use Rattle.core_steps.specs.declared.parts.AdvPart.{AdvPart}
use Rattle.core_steps.specs.declared.parts.AdvPart.TheVariants.{Rest}
use Rattle.core_steps.specs.Clock.{clock, durable_clock}
use Rattle.core_steps.specs.Stages.{Phase, is_announced}
use Rattle.core_steps.specs.Events.{AreNoneLost}
use Rattle.core_steps.specs.Sound.{Base, IsInStore, Sizes, Clocks, announcement, Announcements, StageFits, Registration, IsUnswept, LostWait, IsSoundAt, IsSound}
use Rattle.mont_laws.proofs.Members.{no_element, first_element}
use Rattle.core_steps.proofs.Rows.{each_set, row_here, row_else, row_set}

-- the clocks of a core may be told by what they are known to be
pub sound_at : (base : Base) (now d : ℕ) (c : Core) → clock c ≡ now → durable_clock c ≡ d → IsSoundAt base now d c → IsSound base c
sound_at base now d c is of s = subst (λ (t : ℕ × ℕ). IsSoundAt base t.0 t.1 c) (λ i. (sym is i, sym of i)) s

-- ---- sizes
pub sizes_kept :
    (s : Shape) (cur dur new late : List ℕ) (states : List State) (units later : List UnitPart) (a : AdvPart) → length new ≡ length cur
    → length late ≡ length dur → length later ≡ length units → Sizes s cur dur states units a → Sizes s new late states later a
sizes_kept s cur dur new late states units later a long far many k = record {
  layout = k.layout;
  current = long ∙ k.current;
  durable = far ∙ k.durable;
  unit_count = many ∙ k.unit_count;
  state_count = k.state_count;
  place = subst (λ (n : ℕ). IsInStore n a) (sym many) k.place;
}

-- the advancer moves
pub sizes_moved :
    (s : Shape) (cur dur : List ℕ) (states : List State) (units : List UnitPart) (a b : AdvPart) → IsInStore (length units) b
    → Sizes s cur dur states units a → Sizes s cur dur states units b
sizes_moved s cur dur states units a b place k = record {
  layout = k.layout;
  current = k.current;
  durable = k.durable;
  unit_count = k.unit_count;
  state_count = k.state_count;
  place = place;
}

-- ---- clocks
pub clocks_unit :
    (b now d : ℕ) (phase : Phase) (units : List UnitPart) (callers : List CallerPart) (u : ℕ) (q : UnitPart) → q.durable ≤ d
    → Clocks b now d phase units callers → Clocks b now d phase (set units u q) callers
clocks_unit b now d phase units callers u q known k = record {
  low = k.low;
  begun = k.begun;
  behind = k.behind;
  last = k.last;
  stand = k.stand;
  of_units = each_set (λ (_ : ℕ) (p : UnitPart). p.durable ≤ d) units u q (λ v r apart h. k.of_units v r h) known;
  of_callers = k.of_callers;
}

pub clocks_caller :
    (b now d : ℕ) (phase : Phase) (units : List UnitPart) (callers : List CallerPart) (k : ℕ) (q : CallerPart) → q.durable ≤ d
    → Clocks b now d phase units callers → Clocks b now d phase units (set callers k q)
clocks_caller b now d phase units callers i q known k = record {
  low = k.low;
  begun = k.begun;
  behind = k.behind;
  last = k.last;
  stand = k.stand;
  of_units = k.of_units;
  of_callers = each_set (λ (_ : ℕ) (r : CallerPart). r.durable ≤ d) callers i q (λ j r apart h. k.of_callers j r h) known;
}

-- ---- announcements
pub announcements_unit :
    (told : List ℕ) (units : List UnitPart) (u w : ℕ) (p q : UnitPart) → slice_get units u ≡ Some p → w ≡ announcement q.stage q.frozen
    → Announcements told units → Announcements (set told u w) (set units u q)
announcements_unit told units u w p q at is k = record {
  as_many = length-set told u w ∙ (k.as_many ∙ sym (length-set units u q));
  each = each_set (λ (v : ℕ) (r : UnitPart). slice_get (set told u w) v ≡ Some (announcement r.stage r.frozen)) units u q
      (λ v r apart h. row_else told u v w apart ∙ k.each v r h)
      (row_here told u w (announcement p.stage p.frozen) (k.each u p at) ∙ ap (λ (x : ℕ). Some x) is);
}

-- the unit's announcement stays
pub announcements_same :
    (told : List ℕ) (units : List UnitPart) (u : ℕ) (p q : UnitPart) → slice_get units u ≡ Some p
    → announcement p.stage p.frozen ≡ announcement q.stage q.frozen → Announcements told units → Announcements told (set units u q)
announcements_same told units u p q at is k = record {
  as_many = k.as_many ∙ sym (length-set units u q);
  each = each_set (λ (v : ℕ) (r : UnitPart). slice_get told v ≡ Some (announcement r.stage r.frozen)) units u q
      (λ v r apart h. k.each v r h)
      (k.each u p at ∙ ap (λ (x : ℕ). Some x) is);
}

-- ---- registration
pub registration_unit :
    (b now n : ℕ) (units : List UnitPart) (u : ℕ) (q : UnitPart) → StageFits b now (u < n) q.stage → Registration b now n units
    → Registration b now n (set units u q)
registration_unit b now n units u q fits k =
    each_set (λ (v : ℕ) (r : UnitPart). StageFits b now (v < n) r.stage) units u q (λ v r apart h. k v r h) fits

-- so many units are passed, however they are counted
pub registration_many :
    (b now n m : ℕ) (units : List UnitPart) → n ≡ m → Registration b now n units → Registration b now m units
registration_many b now n m units is k = subst (λ (x : ℕ). Registration b now x units) is k

-- ---- lost slots
none_empty : (slot : ℕ) (lost : List ℕ) → lost ≡ [] → Contains lost slot → ⊥
none_empty slot lost is h = no_element slot (subst (λ (l : List ℕ). Contains l slot) is h)

-- where none is lost, nothing waits
pub lost_none : (units : List UnitPart) (a : AdvPart) → AreNoneLost units → LostWait units a
lost_none units a none u slot p at h = absurd (none_empty slot p.lost (none u p at) h)

empty_from : (lost : List ℕ) → ((slot : ℕ) → Contains lost slot → ⊥) → lost ≡ []
empty_from [] none = refl
empty_from (x ∷ xs) none = absurd (none x (first_element x xs))

-- a unit with an epoch announced shows that none is lost
pub none_lost :
    (units : List UnitPart) (a : AdvPart) (u : ℕ) (p : UnitPart) → LostWait units a → slice_get units u ≡ Some p
    → is_announced p.stage ≡ true → AreNoneLost units
none_lost units a u p wait at announced v r there = empty_from r.lost
    (λ slot h. let e : is_announced p.stage ≡ false = (wait v slot r there h).unannounced u p at in absurd (cc))

-- and so does an advancer that isn't at rest
pub none_lost_moving : (units : List UnitPart) (a : AdvPart) → LostWait units a → (a ≡ Rest → ⊥) → AreNoneLost units
none_lost_moving units a wait moving v r there = empty_from r.lost (λ slot h. moving (wait v slot r there h).advancer)

-- none is lost in a unit's part that has the lost slots of before
pub none_lost_unit :
    (units : List UnitPart) (u : ℕ) (p q : UnitPart) → slice_get units u ≡ Some p → q.lost ≡ p.lost → AreNoneLost units
    → AreNoneLost (set units u q)
none_lost_unit units u p q at same none =
    each_set (λ (_ : ℕ) (r : UnitPart). r.lost ≡ []) units u q (λ v r apart h. none v r h) (same ∙ none u p at)

-- a unit's part with no new lost slot, and no epoch announced where one was lost
pub lost_unit :
    (units : List UnitPart) (a : AdvPart) (u : ℕ) (p q : UnitPart) → slice_get units u ≡ Some p
    → ((slot : ℕ) → Contains q.lost slot → Contains p.lost slot) → (is_announced q.stage ≡ true → AreNoneLost units)
    → LostWait units a → LostWait (set units u q) a
lost_unit units a u p q at fewer announced wait v slot r there h = ⊎_elim
    (λ (t : (v ≡ u) × (q ≡ r)). later u p at slot (fewer slot (subst (λ (x : UnitPart). Contains x.lost slot) (sym t.1) h)))
    (λ (t : (v ≢ u) × (slice_get units v ≡ Some r)). later v r t.1 slot h)
    (row_set units u v q r there)
  where
    still :
        (w : ℕ) (x : UnitPart) (n : ℕ) → slice_get units w ≡ Some x → Contains x.lost n → (b : Bool) → is_announced q.stage ≡ b
        → is_announced q.stage ≡ false
    still w x n is in_lost true e = absurd (none_empty n x.lost (announced e w x is) in_lost)
    still w x n is in_lost false e = e

    later : (w : ℕ) (x : UnitPart) → slice_get units w ≡ Some x → (n : ℕ) → Contains x.lost n → IsUnswept (set units u q) a
    later w x is n in_lost = let k = wait w n x is in_lost in record {
      advancer = k.advancer;
      unannounced = each_set (λ (_ : ℕ) (y : UnitPart). is_announced y.stage ≡ false) units u q
          (λ j y apart there. k.unannounced j y there)
          (still w x n is in_lost (is_announced q.stage) refl);
    }
