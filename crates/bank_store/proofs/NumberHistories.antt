-- Histories of a map that put numbers: which numbers are there then, and how much of the unit they use.
use Rattle.std.proofs.Common.{◌≡◌, ℕ, zero, suc, ◌+◌, ◌*◌, ◌^◌, ◌<◌, ◌≤◌, Bool, true, false, cond, List, [], ◌∷◌, length, refl, sym, ap, ◌∙◌, subst, arith, inl, inr}
use Rattle.std.specs.Prelude.{◌⊎◌, All, Option, Some, None, decimal, slice_get, count_by, nat_lt, sum_by}
use Rattle.std.specs.Ordering.{is_eq, eq_by_cmp}
use Rattle.std.specs.Cmp.{tied_itself}
use Rattle.std.specs.Cmp.Lexicographic.{nat_list_cmp_total}
use Rattle.std.specs.FinMap as finite
use Rattle.std.proofs.lemmas.Fmt.{decimal_injective}
use Rattle.std.proofs.lemmas.List.Elements.{All-head, All-tail}
use Rattle.std.proofs.lemmas.Option.{same_Some}
use Rattle.mont_base.specs.declared.effect.Effect.{Effect}
use Rattle.mont_base.specs.declared.effect.Thing.{Thing}
use Rattle.mont_base.specs.declared.effect.Thing.TheVariants.{Pair}
use Rattle.mont_base.specs.declared.operation.Entry.{Entry}
use Rattle.mont_base.specs.declared.operation.Op.{Op}
use Rattle.mont_base.specs.declared.operation.Op.TheVariants as ops
use Rattle.mont_base.specs.declared.operation.Reply.TheVariants.{WasText}
use Rattle.mont_base.specs.Counting.{changes_made, insertions, is_insertion, sum_over}
use Rattle.mont_base.specs.History.{state_after, RepliesFollow}
use Rattle.mont_base.specs.Room.{retired_late, retires, used_slots}
use Rattle.mont_base.specs.State.{Key, Value, Pairs, State, MapOf, key_cmp, earlier_text, pair_put, set_effects, size_of, step}

-- ---- entries that put numbers
-- The number is one of the first, or is little more than the one that was there.
pub record PutsNumber (e : Entry) : Type 0 where
  pub key : Key
  pub number : ℕ
  pub put : e.op ≡ ops.Put key (decimal number)
  pub small : (number ≤ 1000) ⊎ ((had : ℕ) × (e.reply ≡ WasText (decimal had)) × (had < 2 ^ 64) × (number ≤ had + 99))

-- what is there after puts
abbrev put_into : Pairs → Op → Pairs
put_into m (ops.Put key value) = finite.insert m key value
put_into m _ = m

abbrev pub pairs_after : Pairs → List Entry → Pairs
pairs_after m [] = m
pairs_after m (e ∷ es) = pairs_after (put_into m e.op) es

pub pairs_behind : (h : List Entry) (m : Pairs) → All PutsNumber h → state_after (MapOf m) h ≡ MapOf (pairs_after m h)
pairs_behind [] m all = refl
pairs_behind (e ∷ es) m all =
    let p = All-head PutsNumber e es all in
    let one : (step (MapOf m) e.op).state ≡ MapOf (put_into m e.op) =
    ap (λ (o : Op). (step (MapOf m) o).state) p.put ∙ ap (λ (o : Op). MapOf (put_into m o)) (sym p.put) in
    ap (λ (s : State). state_after s es) one ∙ pairs_behind es (put_into m e.op) (All-tail PutsNumber e es all)

-- ---- how great the numbers are
abbrev pub AreBelow : ℕ → Pairs → Type 0
AreBelow most m = (key : Key) (value : Value) → finite.get m key ≡ Some value → (n : ℕ) × (value ≡ decimal n) × (n ≤ most)

told : (found : Option Value) (value : Value) → earlier_text found ≡ WasText value → found ≡ Some value
told None value e = cc
told (Some v) value e = cc

none_is : {A : Type 0} (o : Option A) (a : A) → o ≡ None → o ≡ Some a → ⊥
none_is None a e f = cc
none_is (Some b) a e f = cc

pub none_below : (most : ℕ) → AreBelow most finite.empty
none_below most key value there = absurd (none_is (finite.get finite.empty key) value (finite.get-empty key_cmp key) there)

put_below : (m : Pairs) (key : Key) (most number : ℕ) → AreBelow most m → number ≤ most + 100
    → AreBelow (most + 100) (finite.insert m key (decimal number))
put_below m key most number below low q value there =
    by (eq_by_cmp key_cmp q key) refl (sym (finite.get-insert nat_list_cmp_total m key (decimal number) q) ∙ there)
  where
    by : (b : Bool) → eq_by_cmp key_cmp q key ≡ b → cond (eq_by_cmp key_cmp q key) (Some (decimal number)) (finite.get m q) ≡ Some value
        → (n : ℕ) × (value ≡ decimal n) × (n ≤ most + 100)
    by true e is =
        let found : Some (decimal number) ≡ Some value = ap (λ (c : Bool). cond c (Some (decimal number)) (finite.get m q)) (sym e) ∙ is in
        (number, sym (same_Some (decimal number) value found), low)
    by false e is =
        let k = below q value (ap (λ (c : Bool). cond c (Some (decimal number)) (finite.get m q)) (sym e) ∙ is) in
        (k.0, k.1, omega (arith, k.2))

number_low : (m : Pairs) (e : Entry) (most : ℕ) (p : PutsNumber e) → AreBelow most m → 1000 ≤ most → most < 2 ^ 64
    → e.reply ≡ (step (MapOf m) e.op).reply → p.number ≤ most + 100
number_low m e most p below begun fits reply = by p.small
  where
    by : (p.number ≤ 1000) ⊎ ((had : ℕ) × (e.reply ≡ WasText (decimal had)) × (had < 2 ^ 64) × (p.number ≤ had + 99))
        → p.number ≤ most + 100
    by (inl low) = omega (arith, low, begun)
    by (inr (had, was, short, low)) =
        let answer : earlier_text (finite.get m p.key) ≡ WasText (decimal had) =
        ap (λ (o : Op). (step (MapOf m) o).reply) (sym p.put) ∙ sym reply ∙ was in
        let k = below p.key (decimal had) (told (finite.get m p.key) (decimal had) answer) in
        let same = decimal_injective had k.0 short (omega (arith, k.2, fits)) k.1 in
        omega (arith, low, k.2, same)

pub numbers_below : (h : List Entry) (m : Pairs) (most : ℕ) → most + 100 * length h < 2 ^ 64 → 1000 ≤ most → RepliesFollow (MapOf m) h
    → All PutsNumber h → AreBelow most m → AreBelow (most + 100 * length h) (pairs_after m h)
numbers_below [] m most fits begun follow all below =
    λ key value there. let k = below key value there in (k.0, k.1, omega (arith, k.2))
numbers_below (e ∷ es) m most fits begun follow all below =
    let p = All-head PutsNumber e es all in
    let low = number_low m e most p below begun (omega (arith, fits)) follow.0 in
    let one : put_into m e.op ≡ finite.insert m p.key (decimal p.number) = ap (put_into m) p.put in
    let rest : RepliesFollow (MapOf (put_into m e.op)) es =
    subst (λ (s : State). RepliesFollow s es)
    (ap (λ (o : Op). (step (MapOf m) o).state) p.put ∙ ap (λ (o : Op). MapOf (put_into m o)) (sym p.put)) follow.1 in
    let made : AreBelow (most + 100) (put_into m e.op) =
    subst (AreBelow (most + 100)) (sym one) (put_below m p.key most p.number below low) in
    let all_of : AreBelow (most + 100 + 100 * length es) (pairs_after (put_into m e.op) es) =
    numbers_below es (put_into m e.op) (most + 100) (omega (arith, fits)) (omega (arith, begun)) rest (All-tail PutsNumber e es all) made in
    let much : most + 100 + 100 * length es ≡ most + 100 * length (e ∷ es) = omega arith in
    subst (λ (n : ℕ). AreBelow n (pairs_after (put_into m e.op) es)) much all_of

-- ---- which keys are there
abbrev pub HasKey : Pairs → Key → Type 0
HasKey m key = (value : Value) × (finite.get m key ≡ Some value)

one_kept : (m : Pairs) (o : Op) (key : Key) → HasKey m key → HasKey (put_into m o) key
one_kept m (ops.Put k v) key (value, there) = by (eq_by_cmp key_cmp key k) refl
  where
    by : (b : Bool) → eq_by_cmp key_cmp key k ≡ b → (w : Value) × (finite.get (finite.insert m k v) key ≡ Some w)
    by true e = (v, finite.get-insert nat_list_cmp_total m k v key ∙ ap (λ (c : Bool). cond c (Some v) (finite.get m key)) e)
    by false e = (value, finite.get-insert nat_list_cmp_total m k v key ∙ ap (λ (c : Bool). cond c (Some v) (finite.get m key)) e ∙ there)
one_kept m (ops.Get k) key there = there
one_kept m (ops.Del k) key there = there
one_kept m (ops.Enq u k) key there = there
one_kept m (ops.Deq u) key there = there
one_kept m (ops.Len u) key there = there
one_kept m (ops.AddV u k v) key there = there
one_kept m (ops.DelV u k) key there = there
one_kept m (ops.AddE u k v w) key there = there
one_kept m (ops.DelE u k v) key there = there
one_kept m (ops.Vertex u k) key there = there
one_kept m (ops.Degree u k) key there = there
one_kept m (ops.OPut u k v) key there = there
one_kept m (ops.OGet u k) key there = there
one_kept m (ops.ODel u k) key there = there
one_kept m (ops.OFloor u k) key there = there
one_kept m (ops.ORank u k) key there = there
one_kept m (ops.ORange u k l n) key there = there

pub keys_kept : (h : List Entry) (m : Pairs) (key : Key) → HasKey m key → HasKey (pairs_after m h) key
keys_kept [] m key k = k
keys_kept (e ∷ es) m key k = keys_kept es (put_into m e.op) key (one_kept m e.op key k)

put_there : (m : Pairs) (key : Key) (value : Value) → HasKey (finite.insert m key value) key
put_there m key value = (
  value,
  finite.get-insert nat_list_cmp_total m key value key
      ∙ ap (λ r. cond (is_eq r) (Some value) (finite.get m key)) (tied_itself nat_list_cmp_total key),
)

-- a key that was put is there
pub put_is_there : (h : List Entry) (m : Pairs) (place : ℕ) (e : Entry) (key : Key) (value : Value) → slice_get h place ≡ Some e
    → e.op ≡ ops.Put key value → HasKey (pairs_after m h) key
put_is_there [] m place e key value at put = cc
put_is_there (d ∷ es) m zero e key value at put =
    let op : d.op ≡ ops.Put key value = ap (λ (x : Entry). x.op) (same_Some d e at) ∙ put in
    keys_kept es (put_into m d.op) key (subst (λ (o : Op). HasKey (put_into m o) key) (sym op) (put_there m key value))
put_is_there (d ∷ es) m (suc place) e key value at put = put_is_there es (put_into m d.op) place e key value at put

-- a key under which nothing was put isn't there
abbrev pub PutsElsewhere : Key → Entry → Type 0
PutsElsewhere key e = (other : Key) × (value : Value) × (e.op ≡ ops.Put other value) × (eq_by_cmp key_cmp key other ≡ false)

pub not_put : (h : List Entry) (m : Pairs) (key : Key) → finite.get m key ≡ None → All (PutsElsewhere key) h
    → finite.get (pairs_after m h) key ≡ None
not_put [] m key none all = none
not_put (e ∷ es) m key none all =
    let p = All-head (PutsElsewhere key) e es all in
    let one : finite.get (put_into m e.op) key ≡ None =
    ap (λ (o : Op). finite.get (put_into m o) key) p.2
    ∙ finite.get-insert nat_list_cmp_total m p.0 p.1 key
    ∙ ap (λ (c : Bool). cond c (Some p.1) (finite.get m key)) p.3 ∙ none in
    not_put es (put_into m e.op) key one (All-tail (PutsElsewhere key) e es all)

-- ---- how much of the unit is in use
set_uses : (m : Pairs) (key : Key) (value : Value) → finite.len (finite.insert m key value)
    + sum_by retires (pair_put m key value).effects ≤ finite.len m + 1
set_uses m key value =
    let n = finite.len-insert nat_list_cmp_total m key value in by (finite.contains_key m key) n
  where
    by : (b : Bool) → finite.len (finite.insert m key value) ≡ cond b (finite.len m) (finite.len m + 1)
        → finite.len (finite.insert m key value) + sum_by retires (set_effects b (Pair key value)) ≤ finite.len m + 1
    by true n = omega (arith, n)
    by false n = omega (arith, n)

late_uses : (b : Bool) (n : ℕ) → cond b n 0 ≤ n
late_uses true n = omega arith
late_uses false n = omega arith

pub uses_few : (h : List Entry) (m : Pairs) (x : ℕ) → All PutsNumber h → used_slots (MapOf m) h x ≤ finite.len m + length h
uses_few [] m x all = omega arith
uses_few (e ∷ es) m x all =
    let p = All-head PutsNumber e es all in
    let v = decimal p.number in
    let put : ◌≡◌ {A = State × List Effect} ((step (MapOf m) e.op).state, (step (MapOf m) e.op).effects)
    (MapOf (finite.insert m p.key v), (pair_put m p.key v).effects) = ap (λ (o : Op). (
      (step (MapOf m) o).state,
      (step
          (MapOf m) o).effects,
    )) p.put in
    let rest = uses_few es (finite.insert m p.key v) x (All-tail PutsNumber e es all) in
    let one = set_uses m p.key v in
    let late = late_uses (nat_lt x (e.epoch + 2)) (sum_by retires (pair_put m p.key v).effects) in
    subst (λ (s : State × List Effect). size_of (state_after s.0 es)
    + (cond (nat_lt x (e.epoch + 2)) (sum_by retires s.1) 0 + retired_late x s.0 es) ≤ finite.len m + length (e ∷ es)) (sym put)
    (omega (arith, rest, one, late))

-- each put has one effect
one_effect : (b : Bool) (t : Thing) → length (set_effects b t) ≡ 1
one_effect true t = refl
one_effect false t = refl

few_insertions : (b : Bool) (t : Thing) → count_by is_insertion (set_effects b t) ≤ 1
few_insertions true t = omega arith
few_insertions false t = omega arith

sum_few : (count : List Effect → ℕ) → ((b : Bool) (t : Thing) → count (set_effects b t) ≤ 1) → (h : List Entry) (m : Pairs)
    → All PutsNumber h → sum_over count (MapOf m) h ≤ length h
sum_few count each [] m all = omega arith
sum_few count each (e ∷ es) m all =
    let p = All-head PutsNumber e es all in
    let v = decimal p.number in
    let put : ◌≡◌ {A = State × List Effect} ((step (MapOf m) e.op).state, (step (MapOf m) e.op).effects)
    (MapOf (finite.insert m p.key v), (pair_put m p.key v).effects) = ap (λ (o : Op). (
      (step (MapOf m) o).state,
      (step
          (MapOf m) o).effects,
    )) p.put in
    let rest = sum_few count each es (finite.insert m p.key v) (All-tail PutsNumber e es all) in
    let one = each (finite.contains_key m p.key) (Pair p.key v) in
    subst (λ (s : State × List Effect). count s.1 + sum_over count s.0 es ≤ length (e ∷ es)) (sym put) (omega (arith, rest, one))

pub insertions_few : (h : List Entry) (m : Pairs) → All PutsNumber h → insertions (MapOf m) h ≤ length h
insertions_few h m all = sum_few (count_by is_insertion) few_insertions h m all

pub changes_few : (h : List Entry) (m : Pairs) → All PutsNumber h → changes_made (MapOf m) h ≤ length h
changes_few h m all = sum_few length (λ b t. let n = one_effect b t in omega (arith, n)) h m all
