-- The records that a plan's changes write are its effects.
use Rattle.std.proofs.Common.{◌≡◌, ℕ, ◌+◌, ◌≤◌, Bool, true, false, cond, List, [], ◌∷◌, ◌++◌, length, map, refl, sym, ap, ◌∙◌, ⊎_elim, arith}
use Rattle.std.specs.Prelude.{◌||◌, ◌&&◌, Option, Some, None, count_by}
use Rattle.std.specs.List.{AllZip, list_any}
use Rattle.std.specs.FinMap as finite
use Rattle.std.proofs.lemmas.List.Sums.{sum_by-cons}
use Rattle.mont_base.specs.declared.effect.Effect.{Effect}
use Rattle.mont_base.specs.declared.effect.Effect.TheVariants.{Inserts, Replaces, Removes}
use Rattle.mont_base.specs.declared.effect.Thing.{Thing}
use Rattle.mont_base.specs.declared.effect.Thing.TheVariants.{Pair, Item, Vertex, Edge}
use Rattle.mont_base.specs.declared.kinds.UnitKind.TheVariants as unit_kinds
use Rattle.mont_base.specs.declared.operation.Op.{Op}
use Rattle.mont_base.specs.declared.operation.Op.TheVariants as ops
use Rattle.mont_base.specs.declared.record.Change.{Change}
use Rattle.mont_base.specs.declared.record.Change.TheVariants.{Insert, Replace, Remove}
use Rattle.mont_base.specs.declared.record.Held.{Held}
use Rattle.mont_base.specs.Counting.{is_insertion}
use Rattle.mont_base.specs.Layout.{Shape, kind_of, is_of_kind}
use Rattle.mont_base.specs.State.{State, is_state_of, MapOf, QueueOf, GraphOf, Graph, Ends, Pairs, Key, Value, step, set_effects, map_del, queue_deq, del_vertex, add_edge, del_edge, edge_thing, edges_at, can_join}
use Rattle.mont_base.specs.Versions.{newest_of}
use Rattle.mont_laws.specs.Effects.{IsBodyOf, IsNewSerial, IsEffect, AreEffects}
use Rattle.core_steps.proofs.Decisions.{both, either_true}
use Rattle.slots.specs.WrittenRecords.{record_by, identity_after, version_in, has_serial, inserts, is_insert}
use Rattle.structure_call.specs.Carrying.{records_by}
use Rattle.slots.specs.Books.{BooksShown}
use Rattle.structure_call.proofs.KeptPlans.{newest_live}
use Rattle.structure_call.specs.Planning.{IsBodyNext, NamesThing, Makes}

-- ---- items are inserted into queues alone
abbrev pub is_item : Thing → Bool
is_item (Item item) = true
is_item _ = false

-- what an effect on a unit inserts is an item exactly where the unit is a queue
abbrev pub FitsKind : Bool → Effect → Type 0
FitsKind queue (Inserts thing) = is_item thing ≡ queue
FitsKind queue (Replaces thing) = is_item thing ≡ false
FitsKind queue (Removes thing) = Unit {0}

abbrev pub AllFit : Bool → List Effect → Type 0
AllFit queue [] = Unit {0}
AllFit queue (e ∷ es) = FitsKind queue e × AllFit queue es

set_fits : (there : Bool) (thing : Thing) → is_item thing ≡ false → AllFit false (set_effects there thing)
set_fits true thing e = (e, tt)
set_fits false thing e = (e, tt)

map_del_fits : (m : Pairs) (key : Key) (o : Option Value) → AllFit false (map_del m key o).effects
map_del_fits m key None = tt
map_del_fits m key (Some value) = (tt, tt)

deq_fits : (items : List ℕ) → AllFit true (queue_deq items).effects
deq_fits [] = tt
deq_fits (item ∷ items) = (tt, tt)

edges_fit : (es : List (Ends × ℕ)) (rest : List Effect) → AllFit false rest → AllFit false (map (λ e. Removes (edge_thing e)) es ++ rest)
edges_fit [] rest h = h
edges_fit (e ∷ es) rest h = (tt, edges_fit es rest h)

del_vertex_fits : (g : Graph) (vertex : ℕ) (o : Option ℕ) → AllFit false (del_vertex g vertex o).effects
del_vertex_fits g vertex None = tt
del_vertex_fits g vertex (Some attribute) = edges_fit (edges_at g vertex) (Removes (Vertex vertex attribute) ∷ []) (tt, tt)

add_edge_fits : (g : Graph) (e : Ends) (attribute : ℕ) (joins : Bool) → AllFit false (add_edge g e attribute joins).effects
add_edge_fits g e attribute false = tt
add_edge_fits g e attribute true = set_fits (finite.contains_key g.edges e) (edge_thing (e, attribute)) refl

del_edge_fits : (g : Graph) (e : Ends) (o : Option ℕ) → AllFit false (del_edge g e o).effects
del_edge_fits g e None = tt
del_edge_fits g e (Some attribute) = (tt, tt)

pub step_fits : (state : State) (op : Op) → AllFit (is_state_of unit_kinds.Queue state) (step state op).effects
step_fits (MapOf m) (ops.Put key value) = set_fits (finite.contains_key m key) (Pair key value) refl
step_fits (MapOf m) (ops.Del key) = map_del_fits m key (finite.get m key)
step_fits (MapOf m) (ops.OPut unit key value) = set_fits (finite.contains_key m key) (Pair key value) refl
step_fits (MapOf m) (ops.ODel unit key) = map_del_fits m key (finite.get m key)
step_fits (MapOf m) _ = tt
step_fits (QueueOf items) (ops.Enq unit item) = (refl, tt)
step_fits (QueueOf items) (ops.Deq unit) = deq_fits items
step_fits (QueueOf items) _ = tt
step_fits (GraphOf g) (ops.AddV unit vertex attribute) = set_fits (finite.contains_key g.vertices vertex) (Vertex vertex attribute) refl
step_fits (GraphOf g) (ops.DelV unit vertex) = del_vertex_fits g vertex (finite.get g.vertices vertex)
step_fits (GraphOf g) (ops.AddE unit from to attribute) = add_edge_fits g (from, to) attribute (can_join g.vertices (from, to))
step_fits (GraphOf g) (ops.DelE unit from to) = del_edge_fits g (from, to) (finite.get g.edges (from, to))
step_fits (GraphOf g) _ = tt

-- ---- the record of one change
module _ (b : BooksShown) (unit epoch : ℕ) (kept : List Held) where
  body_fits : (thing : Thing) (body : List ℕ) → (is_item thing ≡ true → IsNewSerial kept b.serial) → IsBodyNext b kept thing body
      → IsBodyOf kept thing body
  body_fits (Pair key value) body new h = h
  body_fits (Item item) body new h = (b.serial, h, new refl)
  body_fits (Vertex vertex attribute) body new h = h
  body_fits (Edge from to attribute) body new h = h

  next_version : (thing : Thing) (slot identity : ℕ) (k : NamesThing kept thing slot identity)
      → version_in (newest_of identity kept) + 1 ≡ k.live.label.version + 1
  next_version thing slot identity k = ap (λ (o : Option Held). version_in o + 1) (newest_live kept identity k.live k.is)

  no_item : (thing : Thing) → is_item thing ≡ false → is_item thing ≡ true → IsNewSerial kept b.serial
  no_item thing other is = absurd (cc)

  -- items find a serial in queues
  effect_by : (queue : Bool) (next slot : ℕ) (e : Effect) (c : Change) → newest_of next kept ≡ None → FitsKind queue e
      → (queue ≡ true → is_insert c ≡ true → IsNewSerial kept b.serial) → Makes b kept e c
      → IsEffect unit kept e (record_by unit next kept c epoch slot)
  effect_by queue next slot (Inserts thing) (Insert body) unused fits new h = record {
    of_unit = refl;
    writes = (
      refl,
      record { unused = unused; version = ap (λ (o : Option Held). version_in o + 1) unused },
      body_fits thing body (λ is. new (sym fits ∙ is) refl) h,
    );
  }
  effect_by queue next slot (Replaces thing) (Replace at identity body) unused fits new h = record {
    of_unit = refl;
    writes = (
      refl,
      record { last = h.0.live; live = h.0.is; named = h.0.named; version = next_version thing at identity h.0 },
      body_fits thing body (no_item thing fits) h.1,
    );
  }
  effect_by queue next slot (Removes thing) (Remove at identity) unused fits new h = record {
    of_unit = refl;
    writes = (refl, record { last = h.live; live = h.is; named = h.named; version = next_version thing at identity h }, refl);
  }
  effect_by queue next slot _ _ unused fits new h = absurd h

-- ---- the records of all
-- numbers go up
after_next : (next : ℕ) (c : Change) → next ≤ identity_after next c
after_next next (Insert body) = omega arith
after_next next (Replace slot identity body) = omega arith
after_next next (Remove slot identity) = omega arith

-- a queue gives each new object a serial
pub has_one : (s : Shape) (unit : ℕ) (c : Change) (cs : List Change) → is_of_kind (kind_of s unit) unit_kinds.Queue ≡ true
    → is_insert c ≡ true → list_any (has_serial s unit) (c ∷ cs) ≡ true
has_one s unit c cs queue new =
    ap (λ (t : Bool). (t && is_insert c) || list_any (has_serial s unit) cs) queue
    ∙ ap (λ (t : Bool). t || list_any (has_serial s unit) cs) new

pub has_more : (s : Shape) (unit : ℕ) (c : Change) (cs : List Change) → list_any (has_serial s unit) cs ≡ true
    → list_any (has_serial s unit) (c ∷ cs) ≡ true
has_more s unit c cs more = by (has_serial s unit c)
  where
    by : (t : Bool) → (t || list_any (has_serial s unit) cs) ≡ true
    by true = refl
    by false = more

-- and only a queue does
pub queue_of : (s : Shape) (unit : ℕ) (cs : List Change) → list_any (has_serial s unit) cs ≡ true
    → is_of_kind (kind_of s unit) unit_kinds.Queue ≡ true
queue_of s unit [] e = absurd (cc)
queue_of s unit (c ∷ cs) e =
    ⊎_elim (λ one. (both (is_of_kind (kind_of s unit) unit_kinds.Queue) (is_insert c) one).0) (queue_of s unit cs)
    (either_true (has_serial s unit c) (list_any (has_serial s unit) cs) e)

module _ (b : BooksShown) (s : Shape) (unit epoch : ℕ) (kept : List Held) (queue : Bool)
    (of_kind : is_of_kind (kind_of s unit) unit_kinds.Queue ≡ queue) where
  pub effects_by : (next : ℕ) (es : List Effect) (cs : List Change) (slots : List ℕ)
      → ((n : ℕ) → next ≤ n → newest_of n kept ≡ None) → AllFit queue es
      → (list_any (has_serial s unit) cs ≡ true → IsNewSerial kept b.serial) → AllZip (Makes b kept) es cs
      → length slots ≡ length cs → AreEffects unit kept es (records_by unit next kept epoch cs slots)
  effects_by next [] [] slots unused fit new h long = tt
  effects_by next [] (c ∷ cs) slots unused fit new h long = absurd h
  effects_by next (e ∷ es) [] slots unused fit new h long = absurd h
  effects_by next (e ∷ es) (c ∷ cs) [] unused fit new h long = absurd (omega arith)
  effects_by next (e ∷ es) (c ∷ cs) (slot ∷ slots) unused fit new h long = (
    effect_by b unit epoch kept queue next slot e c (unused next (omega arith)) fit.0
        (λ is one. new (has_one s unit c cs (of_kind ∙ is) one)) h.0,
    effects_by (identity_after next c) es cs slots (λ n low. let up = after_next next c in unused n (omega arith)) fit.1
        (λ more. new (has_more s unit c cs more)) h.1 (omega arith),
  )

-- as many objects are new as effects are insertions
pub inserts_are : (b : BooksShown) (kept : List Held) (es : List Effect) (cs : List Change) → AllZip (Makes b kept) es cs
    → count_by is_insertion es ≡ inserts cs
inserts_are b kept [] [] h = refl
inserts_are b kept [] (c ∷ cs) h = absurd h
inserts_are b kept (e ∷ es) [] h = absurd h
inserts_are b kept (e ∷ es) (c ∷ cs) h =
    sum_by-cons (λ (x : Effect). cond (is_insertion x) 1 0) e es
    ∙ (ap (λ (t : Bool). cond t 1 0 + count_by is_insertion es) (same e c h.0)
    ∙ ap (λ (n : ℕ). cond (is_insert c) 1 0 + n) (inserts_are b kept es cs h.1))
    ∙ sym (sum_by-cons (λ (x : Change). cond (is_insert x) 1 0) c cs)
  where
    same : (e : Effect) (c : Change) → Makes b kept e c → is_insertion e ≡ is_insert c
    same (Inserts thing) (Insert body) h = refl
    same (Replaces thing) (Replace slot identity body) h = refl
    same (Removes thing) (Remove slot identity) h = refl
    same _ _ h = absurd h

-- nothing is changed where nothing is to be
pub none_made : (b : BooksShown) (kept : List Held) (es : List Effect) → AllZip (Makes b kept) es [] → es ≡ []
none_made b kept [] h = refl
none_made b kept (e ∷ es) h = absurd h
