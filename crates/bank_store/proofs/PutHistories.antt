-- What a history of a map unit of the bank leaves: numbers under its keys, and room for more.
use Rattle.std.proofs.Common.{◌≡◌, ℕ, zero, suc, ◌+◌, ◌*◌, ◌^◌, ◌<◌, ◌≤◌, Bool, true, false, List, [], length, sym, refl, ap, ◌∙◌, subst, arith}
use Rattle.std.specs.Prelude.{Option, Some, None, All, Any, decimal}
use Rattle.std.specs.FinMap as finite
use Rattle.mont_base.specs.declared.constants.TheConstants.{LAST}
use Rattle.mont_base.specs.declared.effect.Effect.TheVariants.{Inserts, Replaces}
use Rattle.mont_base.specs.declared.effect.Thing.{Thing}
use Rattle.mont_base.specs.declared.effect.Thing.TheVariants.{Pair}
use Rattle.mont_base.specs.declared.operation.Entry.{Entry}
use Rattle.mont_base.specs.declared.operation.Op.TheVariants as ops
use Rattle.mont_base.specs.declared.refusal.Which.{Which}
use Rattle.mont_base.specs.declared.refusal.Which.TheVariants as ends
use Rattle.mont_base.specs.Counting.{IsAtEnd, LacksVersion, changes_made, effects_then}
use Rattle.mont_base.specs.History.{state_after, RepliesFollow}
use Rattle.mont_base.specs.Room.{LacksRoom, room_of}
use Rattle.mont_base.specs.State.{Key, Value, Pairs, State, MapOf, earlier_text, key_cmp, set_effects, step}
use Rattle.shard_map.specs.MovedNumbers.{IsNumber}
use Rattle.bank_store.proofs.NumberHistories.{AreBelow, HasKey, PutsNumber, changes_few, insertions_few, none_below, numbers_below, pairs_after, pairs_behind, uses_few}

same_text : (a b : Option Value) → earlier_text a ≡ earlier_text b → a ≡ b
same_text None None e = refl
same_text None (Some v) e = cc e
same_text (Some v) None e = cc e
same_text (Some v) (Some w) e = cc e

is_number : (found : Option Value) (value : Value) (n : ℕ) → found ≡ Some value → value ≡ decimal n → n < 2 ^ 64 → IsNumber found n
is_number None value n e is low = absurd (cc e)
is_number (Some v) value n e is low = record { is = (let s : v ≡ value = cc e in s ∙ is); short = low }

-- of one effect a version of nothing is at no end
no_version : (b : Bool) (key : Key) (value : Value) (changes : ℕ) → changes < LAST
    → Any (LacksVersion [] changes) (set_effects b (Pair key value)) → ⊥
no_version true key value changes low (zero, x, inside, is, lacks) =
    let none : LacksVersion [] changes (Replaces (Pair key value)) = subst (LacksVersion [] changes) (sym is) lacks in
    omega (arith, low, none)
no_version false key value changes low (zero, x, inside, is, lacks) =
    let none : LacksVersion [] changes (Inserts (Pair key value)) = subst (LacksVersion [] changes) (sym is) lacks in absurd none
no_version true key value changes low (suc k, x, inside, is, lacks) = omega (arith, inside)
no_version false key value changes low (suc k, x, inside, is, lacks) = omega (arith, inside)

module _ (history : List Entry) (puts : All PutsNumber history) (follow : RepliesFollow (MapOf finite.empty) history)
    (few : length history ≤ 2002) where
  abbrev pub there : Pairs
  there = pairs_after finite.empty history

  pub state_is : state_after (MapOf finite.empty) history ≡ MapOf there
  state_is = pairs_behind history finite.empty puts

  below : AreBelow (1000 + 100 * length history) there
  below = numbers_below history finite.empty 1000 (omega (arith, few)) (omega arith) follow puts (none_below 1000)

  -- what a look-up would find
  pub looked_up : (key : Key) (found : Option Value)
      → earlier_text found ≡ (step (state_after (MapOf finite.empty) history) (ops.Get key)).reply → found ≡ finite.get there key
  looked_up key found e =
      same_text found (finite.get there key) (e ∙ ap (λ (s : State). (step s (ops.Get key)).reply) state_is)

  pub number_there : (key : Key) (found : Option Value)
      → earlier_text found ≡ (step (state_after (MapOf finite.empty) history) (ops.Get key)).reply → HasKey there key
      → (n : ℕ) × IsNumber found n × (n ≤ 1000 + 100 * length history)
  number_there key found e has =
      let k = below key has.0 has.1 in
      (k.0, is_number found has.0 k.0 (looked_up key found e ∙ has.1) k.1 (omega (arith, k.2, few)), k.2)

  effects_of : (key : Key) (value : Value)
      → effects_then (MapOf finite.empty) history (ops.Put key value) ≡ set_effects (finite.contains_key there key) (Pair key value)
  effects_of key value = ap (λ (s : State). (step s (ops.Put key value)).effects) state_is

  -- no number is at its end
  pub no_end : (calls : ℕ) (which : Which) (key : Key) (value : Value) → calls ≤ LAST
      → IsAtEnd [] calls which (ops.Put key value) (MapOf finite.empty) history → ⊥
  no_end calls ends.Call key value low at = omega (arith, low, at)
  no_end calls ends.Place key value low at = omega (arith, few, at)
  no_end calls ends.Identity key value low at =
      let n = insertions_few history finite.empty puts in omega (arith, few, n, at.1)
  no_end calls ends.Version key value low at =
      let n = changes_few history finite.empty puts in
      no_version (finite.contains_key there key) key value (changes_made (MapOf finite.empty) history) (omega (arith, few, n))
      (subst (Any (LacksVersion [] (changes_made (MapOf finite.empty) history))) (effects_of key value) at)
  no_end calls ends.Serial key value low at = absurd (cc at.0)

  one_needed : (b : Bool) (t : Thing) → length (set_effects b t) ≡ 1
  one_needed true t = refl
  one_needed false t = refl

  -- there is room for a put
  pub no_lack : (key : Key) (value : Value) (need free clock : ℕ)
      → LacksRoom (length (effects_then (MapOf finite.empty) history (ops.Put key value)))
      (room_of 2048 (MapOf finite.empty) history clock) need free → ⊥
  no_lack key value need free clock lacks =
      let one = ap length (effects_of key value) ∙ one_needed (finite.contains_key there key) (Pair key value) in
      let used = uses_few history finite.empty clock puts in
      let none = finite.len-empty key_cmp Value in
      omega (arith, one, used, none, few, lacks.as_needed, lacks.as_free, lacks.few)
