-- What is found after a crash in each unit, and what the entries of its history within the cut put in and take out.
use Rattle.std.proofs.Common.{◌≡◌, ◌≢◌, ℕ, zero, suc, ◌+◌, Bool, true, false, cond, List, [], ◌∷◌, ◌++◌, length, Some, refl, sym, ap, ◌∙◌, subst, arith}
use Rattle.std.specs.Prelude.{All, sum_by, slice_get, nat_le}
use Rattle.std.proofs.lemmas.List.Elements.{All-head, All-tail}
use Rattle.std.proofs.lemmas.List.Sums.{sum_by-cons}
use Rattle.std.proofs.lemmas.Option.{same_Some}
use Rattle.mont_base.specs.declared.kinds.UnitKind.{UnitKind}
use Rattle.mont_base.specs.declared.kinds.UnitKind.TheVariants as kinds
use Rattle.mont_base.specs.declared.operation.Entry.{Entry}
use Rattle.mont_base.specs.declared.operation.Op.{Op}
use Rattle.mont_base.specs.declared.operation.Op.TheVariants as ops
use Rattle.mont_base.specs.declared.operation.Reply.{Reply}
use Rattle.mont_base.specs.Layout.{Shape, kind_of, same_kind, is_of_kind, named_if, unit_named, units_from, map_units, key_number, unit_of_key}
use Rattle.mont_base.specs.State.{Key, Value, State, MapOf, QueueOf, GraphOf, is_state_of, step, unit_of_op}
use Rattle.mont_base.specs.History.{state_after, RepliesFollow, cut_at}
use Rattle.mont_base.specs.Structure.{IsStructure, structure_of}
use Rattle.mont_base.specs.declared.record.Object.{Object}
use Rattle.mont_base.proofs.KindTable.{one_kind}
use Rattle.mont_laws.proofs.SameKind.{same_kind_after, of_one_kind}
use Rattle.store_stop.specs.Headline.{IsRebuilt}
use Rattle.unit_totals.specs.MapBooks.{amount_in, put_amount, taken_amount, put_in, taken_out}
use Rattle.unit_totals.proofs.Balance.{balance}

-- what an entry counts if its epoch is at most x
abbrev pub within : ℕ → (Entry → ℕ) → Entry → ℕ
within x count e = cond (nat_le e.epoch x) (count e) 0

pub cut_sum : (x : ℕ) (count : Entry → ℕ) (h : List Entry) → sum_by count (cut_at x h) ≡ sum_by (within x count) h
cut_sum x count [] = refl
cut_sum x count (e ∷ es) = by (nat_le e.epoch x) refl (cut_sum x count es)
  where
    by : (b : Bool) → nat_le e.epoch x ≡ b → sum_by count (cut_at x es) ≡ sum_by (within x count) es
        → sum_by count (cut_at x (e ∷ es)) ≡ sum_by (within x count) (e ∷ es)
    by true is rest =
        let c = sum_by-cons count e (cut_at x es) in
        let d = sum_by-cons (within x count) e es in
        rw is (omega (arith, rest, c, rw is at d))
    by false is rest = let d = sum_by-cons (within x count) e es in rw is (omega (arith, rest, rw is at d))

-- the replies of a front follow
front_follows : (s : State) (front rest : List Entry) → RepliesFollow s (front ++ rest) → RepliesFollow s front
front_follows s [] rest f = tt
front_follows s (e ∷ front) rest f = (f.0, front_follows (step s e.op).state front rest f.1)

-- ---- a unit of another kind has no total, and none of its operations counts
record IsUnitFrom (n : ℕ) (kind : UnitKind) (ks : List UnitKind) (u : ℕ) : Type 0 where
  pub place : ℕ
  pub at : u ≡ n + place
  pub is : slice_get ks place ≡ Some kind

units_are : (n : ℕ) (kind : UnitKind) (ks : List UnitKind) (i u : ℕ) → slice_get (units_from n kind ks) i ≡ Some u → IsUnitFrom n kind ks u
units_are n kind [] i u e = absurd (cc)
units_are n kind (k ∷ ks) i u e = by (same_kind k kind) refl i e (λ j f. later (units_are (n + 1) kind ks j u f))
  where
    later : IsUnitFrom (n + 1) kind ks u → IsUnitFrom n kind (k ∷ ks) u
    later it = record { place = suc it.place; at = let a = it.at in omega (arith, a); is = it.is }

    by : (b : Bool) → same_kind k kind ≡ b → (i : ℕ) → slice_get (units_from n kind (k ∷ ks)) i ≡ Some u
        → ((j : ℕ) → slice_get (units_from (n + 1) kind ks) j ≡ Some u → IsUnitFrom n kind (k ∷ ks) u)
        → IsUnitFrom n kind (k ∷ ks) u
    by true t zero f rest =
        let here : n ≡ u = same_Some n u (rw t at f) in
        record { place = 0; at = omega (arith, here); is = ap Some (one_kind k kind t) }
    by true t (suc j) f rest = rest j (rw t at f)
    by false t j f rest = rest j (rw t at f)

map_of_key : (s : Shape) (unit : ℕ) (key : Key) → unit_of_key s key ≡ Some unit → kind_of s unit ≡ Some kinds.Map
map_of_key s unit key e =
    let it = units_are 0 kinds.Map s.kinds (key_number (length (map_units s)) key) unit e in
    let at : unit ≡ it.place = let a = it.at in omega (arith, a) in
    ap (slice_get s.kinds) at ∙ it.is

-- the unit that is named for a kind has it
named_has : (s : Shape) (kind : UnitKind) (named unit : ℕ) → unit_named s kind named ≡ Some unit → kind_of s unit ≡ Some kind
named_has s kind named unit e = by (is_of_kind (kind_of s named) kind) refl e
  where
    by : (b : Bool) → is_of_kind (kind_of s named) kind ≡ b → named_if b named ≡ Some unit → kind_of s unit ≡ Some kind
    by true is f = let same = same_Some named unit f in ap (kind_of s) (sym same) ∙ of_one_kind (kind_of s named) kind is
    by false is f = absurd (cc)

module _ (amount : Value → ℕ) (s : Shape) (unit : ℕ) (no_map : kind_of s unit ≢ Some kinds.Map)
    (no_ordered : kind_of s unit ≢ Some kinds.Ordered) where
  puts_nothing : (op : Op) → unit_of_op s op ≡ Some unit → put_amount amount op ≡ 0
  puts_nothing (ops.Put key value) e = absurd (no_map (map_of_key s unit key e))
  puts_nothing (ops.OPut named key value) e = absurd (no_ordered (named_has s kinds.Ordered named unit e))
  puts_nothing _ e = refl

  takes_nothing : (op : Op) (reply : Reply) → unit_of_op s op ≡ Some unit → taken_amount amount op reply ≡ 0
  takes_nothing (ops.Put key value) reply e = absurd (no_map (map_of_key s unit key e))
  takes_nothing (ops.Del key) reply e = absurd (no_map (map_of_key s unit key e))
  takes_nothing (ops.OPut named key value) reply e = absurd (no_ordered (named_has s kinds.Ordered named unit e))
  takes_nothing (ops.ODel named key) reply e = absurd (no_ordered (named_has s kinds.Ordered named unit e))
  takes_nothing _ reply e = refl

  abbrev OfUnit : Entry → Type 0
  OfUnit e = unit_of_op s e.op ≡ Some unit

  no_sum : (x : ℕ) (count : Entry → ℕ) → ((e : Entry) → OfUnit e → count e ≡ 0) → (h : List Entry) → All OfUnit h
      → sum_by (within x count) h ≡ 0
  no_sum x count none [] of_unit = refl
  no_sum x count none (e ∷ es) of_unit =
      let c = sum_by-cons (within x count) e es in
      let first = zero_within (nat_le e.epoch x) (count e) (none e (All-head OfUnit e es of_unit)) in
      omega (arith, c, first, no_sum x count none es (All-tail OfUnit e es of_unit))
    where
      zero_within : (b : Bool) (n : ℕ) → n ≡ 0 → cond b n 0 ≡ 0
      zero_within true n z = z
      zero_within false n z = refl

-- a state with pairs is one that a map may have
abbrev has_pairs : State → Bool
has_pairs state = is_state_of kinds.Map state

pairs_after : (state : State) (h : List Entry) → has_pairs (state_after state h) ≡ has_pairs state
pairs_after state [] = refl
pairs_after state (e ∷ es) = pairs_after (step state e.op).state es ∙ same_kind_after kinds.Map state e.op

no_total : (amount : Value → ℕ) (state : State) → has_pairs state ≡ false → amount_in amount state ≡ 0
no_total amount (MapOf m) none = absurd (cc)
no_total amount (QueueOf items) none = refl
no_total amount (GraphOf g) none = refl

-- ---- what is rebuilt of a unit accounts for the entries within the cut
module _ (amount : Value → ℕ) (s : Shape) (clock x unit : ℕ) (os : List Object) where
  abbrev Accounts : State → List Entry → State → Type 0
  Accounts opened h state = amount_in amount state + sum_by (within x (taken_out amount)) h
      ≡ amount_in amount opened + sum_by (within x (put_in amount)) h

  -- the state of a unit of this kind has pairs, so a unit whose state has none isn't of it
  not_of : (kind : UnitKind) (state : State) → has_pairs (structure_of kind os) ≡ true → has_pairs state ≡ false
      → IsStructure s unit os state → kind_of s unit ≢ Some kind
  not_of kind state has none made is =
      let own : made.kind ≡ kind = same_Some made.kind kind (sym made.of_unit ∙ is) in
      let has_all = ap has_pairs made.made ∙ ap (λ (k : UnitKind). has_pairs (structure_of k os)) own ∙ has in
      absurd (cc)

  other_accounts : (opened : State) (h : List Entry) (state : State) → has_pairs opened ≡ false
      → IsRebuilt s clock x unit opened h state → IsStructure s unit os state → Accounts opened h state
  other_accounts opened h state other r made =
      let none : has_pairs state ≡ false = ap has_pairs r.leads ∙ pairs_after opened (cut_at x h) ∙ other in
      let no_map = not_of kinds.Map state refl none made in
      let no_ordered = not_of kinds.Ordered state refl none made in
      let put = no_sum amount s unit no_map no_ordered x (put_in amount)
      (λ e. puts_nothing amount s unit no_map no_ordered e.op) h r.legal.of_unit in
      let taken = no_sum amount s unit no_map no_ordered x (taken_out amount)
      (λ e. takes_nothing amount s unit no_map no_ordered e.op e.reply) h r.legal.of_unit in
      let before = no_total amount opened other in
      let behind = no_total amount state none in
      omega (arith, put, taken, before, behind)

  pub accounts : (opened : State) (h : List Entry) (state : State) → IsRebuilt s clock x unit opened h state → IsStructure s unit os state
      → Accounts opened h state
  accounts (MapOf m) h state r made =
      let follows = front_follows (MapOf m) (cut_at x h) r.front.0 (subst (RepliesFollow (MapOf m)) r.front.1 r.legal.replies) in
      let book = balance amount m (cut_at x h) follows in
      let leads = ap (amount_in amount) r.leads in
      omega (arith, book, leads, cut_sum x (put_in amount) h, cut_sum x (taken_out amount) h)
  accounts (QueueOf items) h state r made = other_accounts (QueueOf items) h state refl r made
  accounts (GraphOf g) h state r made = other_accounts (GraphOf g) h state refl r made

-- ---- and so do all units
module _ (amount : Value → ℕ) (x : ℕ) where
  abbrev put_sum : List Entry → ℕ
  put_sum h = sum_by (within x (put_in amount)) h

  abbrev taken_sum : List Entry → ℕ
  taken_sum h = sum_by (within x (taken_out amount)) h

  abbrev EachAccounts : List State → List State → List (List Entry) → Type 0
  EachAccounts states base histories =
      (unit : ℕ) (opened : State) (h : List Entry) (state : State) → slice_get base unit ≡ Some opened
      → slice_get histories unit ≡ Some h → slice_get states unit ≡ Some state
      → amount_in amount state + taken_sum h ≡ amount_in amount opened + put_sum h

  pub all_account : (states base : List State) (histories : List (List Entry)) → length states ≡ length histories
      → length base ≡ length histories → EachAccounts states base histories
      → sum_by (amount_in amount) states + sum_by taken_sum histories ≡ sum_by (amount_in amount) base + sum_by put_sum histories
  all_account [] [] [] e f each = refl
  all_account [] [] (h ∷ hs) e f each = absurd (omega arith)
  all_account [] (b ∷ base) hs e f each = absurd (omega (arith, e, f))
  all_account (a ∷ states) [] hs e f each = absurd (omega (arith, e, f))
  all_account (a ∷ states) (b ∷ base) [] e f each = absurd (omega arith)
  all_account (a ∷ states) (b ∷ base) (h ∷ hs) e f each =
      let here = each 0 b h a refl refl refl in
      let rest = all_account states base hs (omega arith) (omega arith)
      (λ unit opened g state i j k. each (suc unit) opened g state i j k) in
      let c = sum_by-cons (amount_in amount) a states in
      let d = sum_by-cons (amount_in amount) b base in
      let p = sum_by-cons put_sum h hs in
      let t = sum_by-cons taken_sum h hs in
      omega (arith, here, rest, c, d, p, t)
