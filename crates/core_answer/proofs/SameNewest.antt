-- What is judged on records hangs on the newest record of each identity alone.
use Rattle.std.proofs.Common.{◌≡◌, ℕ, List, [], ◌∷◌, ◌++◌, sym, refl, ap, ◌∙◌}
use Rattle.mont_base.specs.declared.record.Held.{Held}
use Rattle.mont_base.specs.declared.effect.Effect.{Effect}
use Rattle.mont_base.specs.declared.effect.Effect.TheVariants.{Inserts, Replaces, Removes}
use Rattle.mont_base.specs.declared.effect.Thing.{Thing}
use Rattle.mont_base.specs.declared.effect.Thing.TheVariants.{Pair, Item, Vertex, Edge}
use Rattle.mont_base.specs.Layout.{Shape}
use Rattle.mont_base.specs.State.{State}
use Rattle.mont_laws.specs.Records.{live_if, live_of}
use Rattle.mont_laws.specs.Structures.{HasStructure}
use Rattle.mont_laws.specs.Effects.{HasLiveSerial, IsNewSerial, IsLeastSerial, HasNameOf, IsBodyOf, IsFirstVersion, IsNextVersion, Writes, IsEffect, AreEffects}
use Rattle.mont_laws.specs.Retiring.{retired_by, retired_by_all}
use Rattle.mont_laws.proofs.Shown.{structure_moves}
use Rattle.core_answer.specs.Newest.{HaveSameNewest}
use Rattle.core_answer.proofs.Zips.{zip_weaker}

pub same_structure : (s : Shape) (u : ℕ) (rs qs : List Held) → HaveSameNewest rs qs → (state : State) → HasStructure s u rs state
    → HasStructure s u qs state
same_structure s u rs qs same state h = structure_moves s u rs qs (λ i. ap live_if (same i)) state h

-- ---- what is written
module _ (rs qs : List Held) (same : HaveSameNewest rs qs) where
  same_live : (i : ℕ) → live_of i rs ≡ live_of i qs
  same_live i = ap live_if (same i)

  live_serial_back : (serial : ℕ) → HasLiveSerial qs serial → HasLiveSerial rs serial
  live_serial_back serial h = (h.0, h.1, h.2, same_live h.0 ∙ h.3, h.4)

  new_serial : (serial : ℕ) → IsNewSerial rs serial → IsNewSerial qs serial
  new_serial serial new =
      record { some = new.some; last = new.last; above = λ other h. new.above other (live_serial_back other h) }

  least_serial : (serial : ℕ) → IsLeastSerial rs serial → IsLeastSerial qs serial
  least_serial serial least other h = least other (live_serial_back other h)

  name_of : (thing : Thing) (body : List ℕ) → HasNameOf rs thing body → HasNameOf qs thing body
  name_of (Pair key value) body h = h
  name_of (Item item) body h = (h.0, h.1, least_serial h.0 h.2)
  name_of (Vertex vertex attribute) body h = h
  name_of (Edge from to attribute) body h = h

  body_of : (thing : Thing) (body : List ℕ) → IsBodyOf rs thing body → IsBodyOf qs thing body
  body_of (Pair key value) body h = h
  body_of (Item item) body h = (h.0, h.1, new_serial h.0 h.2)
  body_of (Vertex vertex attribute) body h = h
  body_of (Edge from to attribute) body h = h

  first_version : (w : Held) → IsFirstVersion rs w → IsFirstVersion qs w
  first_version w h = record { unused = sym (same w.label.identity) ∙ h.unused; version = h.version }

  next_version : (thing : Thing) (w : Held) → IsNextVersion rs thing w → IsNextVersion qs thing w
  next_version thing w h = record {
    last = h.last;
    live = sym (same_live w.label.identity) ∙ h.live;
    named = name_of thing h.last.body h.named;
    version = h.version;
  }

  writes : (effect : Effect) (w : Held) → Writes rs effect w → Writes qs effect w
  writes (Inserts thing) w h = (h.0, first_version w h.1, body_of thing w.body h.2)
  writes (Replaces thing) w h = (h.0, next_version thing w h.1, body_of thing w.body h.2)
  writes (Removes thing) w h = (h.0, next_version thing w h.1, h.2)

  pub same_effects : (u : ℕ) (effects : List Effect) (written : List Held) → AreEffects u rs effects written
      → AreEffects u qs effects written
  same_effects u =
      zip_weaker (IsEffect u rs) (IsEffect u qs) (λ effect w h. record { of_unit = h.of_unit; writes = writes effect w h.writes })

  -- ---- what is retired
  pub same_retired : (written : List Held) → retired_by_all rs written ≡ retired_by_all qs written
  same_retired [] = refl
  same_retired (w ∷ ws) = λ i. retired_by (same w.label.identity i) w ++ same_retired ws i
