-- What live records tell, where the same are live after steps.
use Rattle.std.proofs.Common.{◌≡◌, ℕ, List, [], ◌∷◌, sym, ap, ◌∙◌}
use Rattle.std.specs.Prelude.{Option, Some}
use Rattle.std.specs.List.{AllZip}
use Rattle.std.specs.FinMap as finite
use Rattle.mont_base.specs.declared.effect.Effect.{Effect}
use Rattle.mont_base.specs.declared.effect.Effect.TheVariants.{Inserts, Replaces, Removes}
use Rattle.mont_base.specs.declared.effect.Thing.{Thing}
use Rattle.mont_base.specs.declared.effect.Thing.TheVariants.{Pair, Item, Vertex, Edge}
use Rattle.mont_base.specs.declared.record.Change.{Change}
use Rattle.mont_base.specs.declared.record.Change.TheVariants.{Insert, Replace, Remove}
use Rattle.mont_base.specs.declared.record.Held.{Held}
use Rattle.mont_base.specs.Layout.{Shape}
use Rattle.mont_base.specs.State.{State, MapOf, QueueOf, GraphOf}
use Rattle.mont_base.specs.Versions.{newest_of}
use Rattle.mont_laws.proofs.Edits.{live_facts}
use Rattle.mont_laws.specs.Effects.{HasLiveSerial, HasNameOf}
use Rattle.mont_laws.specs.Records.{live_of}
use Rattle.mont_laws.specs.Shows.{Shows, live_things, held_in}
use Rattle.mont_laws.specs.Structures.{HasStructure, pair_for, item_for, part_for, attribute_of}
use Rattle.slots.specs.Books.{BooksShown}
use Rattle.slots.specs.Serials.{IsNextSerial}
use Rattle.structure_call.specs.Planning.{NamesThing, IsBodyNext, Makes}

-- a live record is the newest of its identity
pub newest_live : (records : List Held) (identity : ℕ) (r : Held) → live_of identity records ≡ Some r
    → newest_of identity records ≡ Some r
newest_live records identity r is = (live_facts (newest_of identity records) r is).0

module _ (old new : List Held) (live : (identity : ℕ) → live_of identity new ≡ live_of identity old) where
  things_kept : {A : Type 0} (read : List ℕ → Option A) (i : ℕ) → live_things read new i ≡ live_things read old i
  things_kept read i = ap (held_in read) (live i)

  shows_kept : {T V : Type 0} (read : List ℕ → Option (T × V)) (value_of : T → Option V) → Shows (live_things read old) value_of
      → Shows (live_things read new) value_of
  shows_kept read value_of k = record {
    readable = λ i e. k.readable i (sym (things_kept read i) ∙ e);
    found = λ i name v e. k.found i name v (sym (things_kept read i) ∙ e);
    there = λ name v e. let held = k.there name v e in (held.0, things_kept read held.0 ∙ held.1);
    once = λ i j name v w e f. k.once i j name v w (sym (things_kept read i) ∙ e) (sym (things_kept read j) ∙ f);
  }

  -- the same structure
  pub structure_kept : (s : Shape) (unit : ℕ) (state : State) → HasStructure s unit old state → HasStructure s unit new state
  structure_kept s unit (MapOf pairs) k = record { of_unit = k.of_unit; things = shows_kept (pair_for s unit) (finite.get pairs) k.things }
  structure_kept s unit (QueueOf items) k = record {
    of_unit = k.of_unit;
    things = (k.things.0, shows_kept item_for (finite.get k.things.0) k.things.1, k.things.2);
  }
  structure_kept s unit (GraphOf graph) k = record {
    of_unit = k.of_unit;
    things = record { parts = shows_kept part_for (attribute_of graph) k.things.parts; ends = k.things.ends };
  }

  serial_kept : (serial : ℕ) → HasLiveSerial new serial → HasLiveSerial old serial
  serial_kept serial h = (h.0, h.1, h.2, sym (live h.0) ∙ h.3, h.4)

  -- the serial that is next is above those of the same items
  pub next_kept : (serial : ℕ) → IsNextSerial old [] serial → IsNextSerial new [] serial
  next_kept serial k = record {
    before = k.before;
    some = k.some;
    above = λ other there. k.above other (serial_kept other there);
    is = k.is;
  }

  name_kept : (thing : Thing) (body : List ℕ) → HasNameOf old thing body → HasNameOf new thing body
  name_kept (Pair key value) body h = h
  name_kept (Item item) body h = (h.0, h.1, λ other there. h.2 other (serial_kept other there))
  name_kept (Vertex vertex attribute) body h = h
  name_kept (Edge from to attribute) body h = h

  names_kept : (thing : Thing) (slot identity : ℕ) → NamesThing old thing slot identity → NamesThing new thing slot identity
  names_kept thing slot identity k = record {
    live = k.live;
    is = live identity ∙ k.is;
    in_slot = k.in_slot;
    named = name_kept thing k.live.body k.named;
  }

  body_kept : (b : BooksShown) (thing : Thing) (body : List ℕ) → IsBodyNext b old thing body → IsBodyNext b new thing body
  body_kept b (Pair key value) body h = h
  body_kept b (Item item) body h = h
  body_kept b (Vertex vertex attribute) body h = h
  body_kept b (Edge from to attribute) body h = h

  makes_kept : (b : BooksShown) (e : Effect) (c : Change) → Makes b old e c → Makes b new e c
  makes_kept b (Inserts thing) (Insert body) h = body_kept b thing body h
  makes_kept b (Replaces thing) (Replace slot identity body) h =
      (names_kept thing slot identity h.0, body_kept b thing body h.1)
  makes_kept b (Removes thing) (Remove slot identity) h = names_kept thing slot identity h
  makes_kept b _ _ h = absurd h

  -- the same changes make the same effects
  pub all_kept : (b : BooksShown) (es : List Effect) (cs : List Change) → AllZip (Makes b old) es cs → AllZip (Makes b new) es cs
  all_kept b [] [] h = h
  all_kept b [] (c ∷ cs) h = h
  all_kept b (e ∷ es) [] h = h
  all_kept b (e ∷ es) (c ∷ cs) h = (makes_kept b e c h.0, all_kept b es cs h.1)
