-- The effects of each operation can be written.
use Rattle.std.proofs.Common.{◌≡◌, ℕ, ◌+◌, ◌<◌, List, [], ◌∷◌, length, refl, ap, ◌∙◌, arith, Bool, true, false, inl, inr}
use Rattle.std.specs.Prelude.{Option, Some, None}
use Rattle.std.specs.List.{Contains}
use Rattle.std.specs.FinMap as finite
use Rattle.std.proofs.lemmas.List.Elements.{All-nil, All-cons}
use Rattle.mont_base.specs.declared.record.Held.{Held}
use Rattle.mont_base.specs.declared.record.Kind.{Kind}
use Rattle.mont_base.specs.declared.record.Kind.TheVariants as kinds
use Rattle.mont_base.specs.declared.operation.Op.{Op}
use Rattle.mont_base.specs.declared.operation.Op.TheVariants as ops
use Rattle.mont_base.specs.declared.effect.Thing.{Thing}
use Rattle.mont_base.specs.declared.effect.Thing.TheVariants.{Pair}
use Rattle.mont_base.specs.declared.effect.Effect.{Effect}
use Rattle.mont_base.specs.declared.effect.Effect.TheVariants.{Inserts, Replaces, Removes}
use Rattle.mont_base.specs.Layout.{Shape}
use Rattle.mont_base.specs.Versions.{newest_of}
use Rattle.mont_base.specs.Bodies.{pair_in, pair_body, no_body}
use Rattle.mont_base.specs.Structure.{keeps_key}
use Rattle.mont_base.specs.State.{Key, Value, Pairs, set_effects, map_del, map_step}
use Rattle.mont_laws.specs.Records.{live_of}
use Rattle.mont_laws.specs.Shows.{live_things}
use Rattle.mont_laws.specs.Structures.{pair_for, HasPairs}
use Rattle.mont_laws.specs.Effects.{HasNameOf, IsBodyOf, IsEffect, AreEffects, AreWrittenAt}
use Rattle.mont_laws.proofs.Members.{no_element, element_cases}
use Rattle.mont_laws.proofs.Keys.{some_there}
use Rattle.mont_laws.proofs.Newest.{IsNewest, newest_is, identity_of}
use Rattle.mont_laws.proofs.Edits.{live_facts}
use Rattle.mont_laws.proofs.Holders.{fitted, live_holder}

-- an identity above all
unused : (rs : List Held) → (n : ℕ) × ((r : Held) → Contains rs r → r.label.identity < n)
unused [] = (0, λ r a. absurd (no_element r a))
unused (q ∷ rs) =
    let b = unused rs in (
      b.0 + q.label.identity + 1,
      λ r a. elim (element_cases q rs r a) [
        | inl e ↦ let i = identity_of r q e in omega arith
        | inr c ↦ let l = b.1 r c in omega arith
      ],
    )

unused_newest : (rs : List Held) (n : ℕ) → ((r : Held) → Contains rs r → r.label.identity < n) → newest_of n rs ≡ None
unused_newest rs n below = by (newest_of n rs) refl
  where
    by : (o : Option Held) → newest_of n rs ≡ o → o ≡ None
    by None e = refl
    by (Some r) e = let b : IsNewest n rs r = newest_is n rs r e in let l = below r b.there in let i = b.identity in absurd (omega arith)

module _ (unit : ℕ) (rs : List Held) where
  -- an effect can be written in each slot at each epoch
  abbrev pub CanWrite : Effect → Type 0
  CanWrite e = (slot epoch : ℕ) → (w : Held) × IsEffect unit rs e w × (w.slot ≡ slot) × (w.label.epoch ≡ epoch)

  abbrev pub AllCanWrite : List Effect → Type 0
  AllCanWrite [] = Unit {0}
  AllCanWrite (e ∷ es) = CanWrite e × AllCanWrite es

  abbrev record_of : ℕ → ℕ → Kind → ℕ → ℕ → List ℕ → Held
  record_of slot epoch kind identity version body = record {
    slot = slot;
    label = record { epoch = epoch; kind = kind; unit = unit; identity = identity; version = version };
    body = body;
  }

  -- the live record that has the name of a thing
  pub record HasHolder (thing : Thing) : Type 0 where
    pub holder : Held
    pub live : live_of holder.label.identity rs ≡ Some holder
    pub named : HasNameOf rs thing holder.body

  pub insert_can : (thing : Thing) (body : List ℕ) → IsBodyOf rs thing body → CanWrite (Inserts thing)
  insert_can thing body is slot epoch =
      let n = unused rs in (
        record_of slot epoch kinds.New n.0 1 body,
        record { of_unit = refl; writes = (refl, record { unused = unused_newest rs n.0 n.1; version = refl }, is) },
        refl,
        refl,
      )

  pub replace_can : (thing : Thing) (body : List ℕ) → HasHolder thing → IsBodyOf rs thing body → CanWrite (Replaces thing)
  replace_can thing body h is slot epoch = (
    record_of slot epoch kinds.Copy h.holder.label.identity (h.holder.label.version + 1) body,
    record { of_unit = refl; writes = (refl, record { last = h.holder; live = h.live; named = h.named; version = refl }, is) },
    refl,
    refl,
  )

  pub remove_can : (thing : Thing) → HasHolder thing → CanWrite (Removes thing)
  remove_can thing h slot epoch = (
    record_of slot epoch kinds.Delete h.holder.label.identity (h.holder.label.version + 1) no_body,
    record { of_unit = refl; writes = (refl, record { last = h.holder; live = h.live; named = h.named; version = refl }, refl) },
    refl,
    refl,
  )

  pub write_all : (epoch : ℕ) (es : List Effect) (slots : List ℕ) → length slots ≡ length es → AllCanWrite es
      → (ws : List Held) × AreWrittenAt epoch slots ws × AreEffects unit rs es ws
  write_all epoch [] [] long can = ([], record { in_slots = refl; at_epoch = All-nil _ }, tt)
  write_all epoch [] (slot ∷ slots) long can = absurd (omega arith)
  write_all epoch (e ∷ es) [] long can = absurd (omega arith)
  write_all epoch (e ∷ es) (slot ∷ slots) long can =
      let w = can.0 slot epoch in
      let rest = write_all epoch es slots (omega arith) can.1 in (
        w.0 ∷ rest.0,
        record {
          in_slots = λ i. w.2 i ∷ rest.1.in_slots i;
          at_epoch = All-cons (λ (w : Held). w.label.epoch ≡ epoch) w.0 rest.0 w.3 rest.1.at_epoch;
        },
        (w.1, rest.2),
      )

  -- the live record of an identity
  pub holding : {A : Type 0} (read : List ℕ → Option A) (i : ℕ) (a : A) → live_things read rs i ≡ Some (Some a)
      → (r : Held) × (live_of r.label.identity rs ≡ Some r) × (read r.body ≡ Some a)
  holding read i a e =
      let b = live_holder read rs i (Some a) e in
      let id = (newest_is i rs b.0 (live_facts (newest_of i rs) b.0 b.1).0).identity in
      (b.0, ap (λ (j : ℕ). live_of j rs) id ∙ b.1, b.2)

  -- ---- maps
  module _ (s : Shape) (m : Pairs) (shown : HasPairs s unit rs m) where
    pair_holder : (key : Key) (old value : Value) → finite.get m key ≡ Some old → HasHolder (Pair key value)
    pair_holder key old value e =
        let b = shown.there key old e in
        let h = holding (pair_for s unit) b.0 (key, old) b.1 in
        record {
          holder = h.0;
          live = h.1;
          named = (
            old,
            (fitted (λ (p : Key × Value). keeps_key s unit p.0) (pair_in h.0.body) (key, old) h.2).0,
          );
        }

    put_can : (key : Key) (value : Value) (t : Bool) → finite.contains_key m key ≡ t → AllCanWrite (set_effects t (Pair key value))
    put_can key value true e = let b = some_there (finite.get m key) e in
        (replace_can (Pair key value) (pair_body key value) (pair_holder key b.0 value b.1) refl, tt)
    put_can key value false e = (insert_can (Pair key value) (pair_body key value) refl, tt)

    del_can : (key : Key) (o : Option Value) → finite.get m key ≡ o → AllCanWrite (map_del m key o).effects
    del_can key None e = tt
    del_can key (Some value) e = (remove_can (Pair key value) (pair_holder key value value e), tt)

    pub map_can : (op : Op) → AllCanWrite (map_step m op).effects
    map_can (ops.Put key value) = put_can key value (finite.contains_key m key) refl
    map_can (ops.Del key) = del_can key (finite.get m key) refl
    map_can (ops.OPut unit key value) = put_can key value (finite.contains_key m key) refl
    map_can (ops.ODel unit key) = del_can key (finite.get m key) refl
    map_can _ = tt
