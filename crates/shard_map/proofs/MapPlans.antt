-- The plan of a map operation is one: the reply is the plain step's, and the change makes its effect.
use Rattle.std.proofs.Common.{◌≡◌, ℕ, ◌⊎◌, inl, inr, List, [], ◌∷◌, refl, sym, ap, ◌∙◌, subst, Bool}
use Rattle.std.specs.Prelude.{Option, Some, None, is_some, IfSome, option_to_list}
use Rattle.std.specs.FinMap as finite
use Rattle.std.specs.List.{AllZip}
use Rattle.std.proofs.lemmas.Option.{same_Some}
use Rattle.mont_base.specs.declared.effect.Thing.TheVariants.{Pair}
use Rattle.mont_base.specs.declared.operation.Op.{Op}
use Rattle.mont_base.specs.declared.operation.Op.TheVariants as ops
use Rattle.mont_base.specs.declared.operation.Reply.{Reply}
use Rattle.mont_base.specs.declared.record.Change.{Change}
use Rattle.mont_base.specs.declared.record.Held.{Held}
use Rattle.mont_base.specs.Bodies.{pair_body, pair_in, key_in, value_in, both}
use Rattle.mont_base.specs.Layout.{Shape, kind_of}
use Rattle.mont_base.specs.State.{Step, MapOf, Key, Value, Pairs, earlier_text, map_step, map_del, pair_put, pair_get, pair_del, set_effects}
use Rattle.mont_base.specs.Structure.{pairs_of, keeps_key}
use Rattle.mont_base.specs.Versions.{live_objects}
use Rattle.mont_laws.specs.Effects.{IsOpOf}
use Rattle.mont_laws.specs.Records.{live_of}
use Rattle.mont_laws.specs.Structures.{HasPairs}
use Rattle.mont_laws.proofs.Holders.{fitted}
use Rattle.heap.specs.HeapShown.{HeapShown}
use Rattle.index_kit.specs.Index.{Places}
use Rattle.slots.specs.Books.{RegionShown, record_in}
use Rattle.structure_call.specs.Planning.{IsPlan, Makes, NamesThing}
use Rattle.structure_call.specs.Standing.{IsStanding}
use Rattle.shard_map.specs.declared.map_plan.Found.{Found}
use Rattle.shard_map.specs.MapCall.{IsEither}
use Rattle.shard_map.specs.MapPlan.{HasValue, key_asked, value_found, setting, removal}
use Rattle.shard_map.specs.MapShard.{IsMapUnit}
use Rattle.shard_map.proofs.KeyFacts.{has_pairs, may_have, no_value, value_kept, at_place, KeptAt, live_record_of, record_there}

-- ---- operations on a key, of a map unit and of an ordered unit
either : {T : Type 0} (f : Op → T) (op of_map : Op) (of_ordered : ℕ → Op) (wanted : T) → f of_map ≡ wanted
    → ((unit : ℕ) → f (of_ordered unit) ≡ wanted) → IsEither op of_map of_ordered → f op ≡ wanted
either f op of_map of_ordered wanted map ordered is = elim is [
  | inl e ↦ ap f e ∙ map
  | inr e ↦ ap f e.1 ∙ ordered e.0
]

-- what is told of the key that an operation asks for is told of the one that it names
module _ (op : Op) (key : Key) (P : Key → Type 0) (told : IfSome (key_asked op) P) where
  of_key : key_asked op ≡ Some key → P key
  of_key asks = subst (λ (o : Option Key). IfSome o P) asks told

  pub of_put : (value : Value) → IsEither op (ops.Put key value) (λ unit. ops.OPut unit key value) → P key
  of_put value which = of_key (either key_asked op (ops.Put key value) (λ unit. ops.OPut unit key value) (Some key) refl (λ _. refl) which)

  pub of_get : IsEither op (ops.Get key) (λ unit. ops.OGet unit key) → P key
  of_get which = of_key (either key_asked op (ops.Get key) (λ unit. ops.OGet unit key) (Some key) refl (λ _. refl) which)

  pub of_del : IsEither op (ops.Del key) (λ unit. ops.ODel unit key) → P key
  of_del which = of_key (either key_asked op (ops.Del key) (λ unit. ops.ODel unit key) (Some key) refl (λ _. refl) which)

module _ (m : Pairs) (op : Op) (key : Key) where
  pub puts : (value : Value) → IsEither op (ops.Put key value) (λ unit. ops.OPut unit key value) → map_step m op ≡ pair_put m key value
  puts value = either (map_step m) op (ops.Put key value) (λ unit. ops.OPut unit key value) (pair_put m key value) refl (λ unit. refl)

  pub gets : IsEither op (ops.Get key) (λ unit. ops.OGet unit key) → map_step m op ≡ pair_get m key
  gets = either (map_step m) op (ops.Get key) (λ unit. ops.OGet unit key) (pair_get m key) refl (λ unit. refl)

  pub dels : IsEither op (ops.Del key) (λ unit. ops.ODel unit key) → map_step m op ≡ pair_del m key
  dels = either (map_step m) op (ops.Del key) (λ unit. ops.ODel unit key) (pair_del m key) refl (λ unit. refl)

-- the second of two that are both there
second_of : {A B : Type 0} (a : Option A) (b : Option B) (p : A × B) → both a b ≡ Some p → b ≡ Some p.1
second_of {A} {B} None b p e = absurd (cc)
second_of {A} {B} (Some x) None p e = absurd (cc)
second_of {A} {B} (Some x) (Some y) p e = ap (λ (q : A × B). Some q.1) (same_Some (x, y) p e)

module _ (r : RegionShown) (places : Places) (unit : IsMapUnit r places) (running : r.books.halted ≡ None) where
  abbrev pub the_pairs : Pairs
  the_pairs = pairs_of (live_objects r.seat.known.part.records)

  pub map_shown : HasPairs r.books.layout r.books.unit r.seat.known.part.records the_pairs
  map_shown = has_pairs r.books.layout r.books.unit r.seat.known.part.records places (unit.indexed running) unit.agrees.1.apart

  -- ---- what is found of a key
  pub nothing_found : (key : Key) → finite.get places key ≡ None → HasValue r key None
  nothing_found key e pairs shown =
      no_value r.books.layout r.books.unit r.seat.known.part.records places (unit.indexed running) pairs shown key e

  -- the live record at a place
  pub record Standing (key : Key) (slot : ℕ) : Type 0 where
    pub identity : ℕ
    pub at : KeptAt r.books.layout r.books.unit r.seat.known.part.records identity key slot
    pub stands : record_in r.seat.known.part.records slot ≡ Some at.kept
    pub same : at.kept.label.identity ≡ identity
    pub read : pair_in at.kept.body ≡ Some (key, at.value)

  pub standing : (key : Key) (slot : ℕ) → finite.get places key ≡ Some slot → Standing key slot
  standing key slot e =
      let b = at_place r.books.layout r.books.unit r.seat.known.part.records places (unit.indexed running) key slot e in
      let k : KeptAt r.books.layout r.books.unit r.seat.known.part.records b.0 key slot = b.1 in
      let live = live_record_of r.seat.known.part.records b.0 k.kept k.live in
      record {
        identity = b.0;
        at = k;
        stands = ap (record_in r.seat.known.part.records) (sym k.in_slot)
            ∙ record_there r.seat.known.part.records k.kept unit.agrees.1.apart live.there;
        same = live.identity;
        read = (fitted (λ (p : Key × Value). keeps_key r.books.layout r.books.unit p.0) (pair_in k.kept.body) (key, k.value) k.holds).0;
      }

  pub no_record : (key : Key) (slot : ℕ) → finite.get places key ≡ Some slot → record_in r.seat.known.part.records slot ≡ None → ⊥
  no_record key slot e none = let b : Standing key slot = standing key slot e in let f = b.stands in absurd (cc)

  value_read : (key : Key) (slot : ℕ) (b : Standing key slot) → value_in b.at.kept.body ≡ Some b.at.value
  value_read key slot b = second_of (key_in b.at.kept.body) (value_in b.at.kept.body) (key, b.at.value) b.read

  pub always_value : (key : Key) (slot : ℕ) (held : Held) → finite.get places key ≡ Some slot
      → record_in r.seat.known.part.records slot ≡ Some held → value_in held.body ≡ None → ⊥
  always_value key slot held e is none =
      let b : Standing key slot = standing key slot e in
      let same : held ≡ b.at.kept = same_Some held b.at.kept (sym is ∙ b.stands) in
      let f = value_read key slot b in
      let g : value_in b.at.kept.body ≡ None = ap (λ (h : Held). value_in h.body) (sym same) ∙ none in
      absurd (cc)

  module _ (key : Key) (slot : ℕ) (held : Held) (value : Value) (e : finite.get places key ≡ Some slot)
      (is : record_in r.seat.known.part.records slot ≡ Some held) (read : value_in held.body ≡ Some value) where
    same_record : (b : Standing key slot) → held ≡ b.at.kept
    same_record b = same_Some held b.at.kept (sym is ∙ b.stands)

    same_value : (b : Standing key slot) → value ≡ b.at.value
    same_value b = same_Some value b.at.value (sym read ∙ ap (λ (h : Held). value_in h.body) (same_record b) ∙ value_read key slot b)

    pub found_value : HasValue r key (Some value)
    found_value pairs shown =
        let b : Standing key slot = standing key slot e in
        value_kept r.books.layout r.books.unit r.seat.known.part.records places (unit.indexed running) pairs shown b.identity key slot b.at
        ∙ ap Some (sym (same_value b))

    pub found_named : NamesThing r.seat.known.part.records (Pair key value) slot held.label.identity
    found_named =
        let b : Standing key slot = standing key slot e in record {
          live = b.at.kept;
          is = ap (λ (i : ℕ). live_of i r.seat.known.part.records)
              (ap (λ (h : Held). h.label.identity) (same_record b) ∙ b.same) ∙ b.at.live;
          in_slot = b.at.in_slot;
          named = (b.at.value, b.read);
        }

  -- ---- what is planned
  module _ (op : Op) (is : IsOpOf r.books.layout r.books.unit op) where
    pub plan_of : (planned : Step) (reply : Reply) (changes : List Change) → map_step the_pairs op ≡ planned → reply ≡ planned.reply
        → AllZip (Makes r.books r.seat.known.part.records) planned.effects changes → IsPlan r op reply changes
    plan_of planned reply changes same replies makes = record {
      of_unit = is;
      state = MapOf the_pairs;
      shown = record { of_unit = may_have (kind_of r.books.layout r.books.unit) the_pairs unit.kind; things = map_shown };
      replies = replies ∙ ap (λ (st : Step). st.reply) (sym same);
      makes =
          subst (λ (st : Step). AllZip (Makes r.books r.seat.known.part.records) st.effects changes) (sym same) makes;
    }

    abbrev pub IsNamed : Key → Option Found → Type 0
    IsNamed key found = IfSome found (λ f. NamesThing r.seat.known.part.records (Pair key f.value) f.slot f.identity)

    pub put_plan : (key : Key) (value : Value) (found : Option Found) (body : List ℕ) → map_step the_pairs op ≡ pair_put the_pairs key value
        → HasValue r key (value_found found) → IsNamed key found → body ≡ pair_body key value
        → IsPlan r op (earlier_text (value_found found)) (setting found body ∷ [])
    put_plan key value None body same v n b =
        let none = v the_pairs map_shown in
        plan_of (pair_put the_pairs key value) _ _ same (ap earlier_text (sym none))
        (subst (λ (t : Bool). AllZip (Makes r.books r.seat.known.part.records) (set_effects t (Pair key value)) (setting None body ∷ []))
        (ap is_some (sym none)) (b, tt))
    put_plan key value (Some f) body same v n b =
        let some = v the_pairs map_shown in
        plan_of (pair_put the_pairs key value) _ _ same (ap earlier_text (sym some))
        (subst (λ (t : Bool). AllZip (Makes r.books r.seat.known.part.records) (set_effects t (Pair key value))
        (setting (Some f) body ∷ []))
        (ap is_some (sym some)) ((record { live = n.live; is = n.is; in_slot = n.in_slot; named = n.named }, b), tt))

    pub get_plan : (key : Key) (found : Option Found) → map_step the_pairs op ≡ pair_get the_pairs key
        → HasValue r key (value_found found) → IsPlan r op (earlier_text (value_found found)) []
    get_plan key found same v = plan_of (pair_get the_pairs key) _ _ same (ap earlier_text (sym (v the_pairs map_shown))) tt

    abbrev changes_of : Option Change → List Change
    changes_of None = []
    changes_of (Some change) = change ∷ []

    pub del_plan : (key : Key) (found : Option Found) → map_step the_pairs op ≡ pair_del the_pairs key
        → HasValue r key (value_found found) → IsNamed key found
        → IsPlan r op (earlier_text (value_found found)) (changes_of (removal found))
    del_plan key None same v n =
        let none = v the_pairs map_shown in
        plan_of (pair_del the_pairs key) _ _ same (ap (λ (o : Option Value). (map_del the_pairs key o).reply) (sym none))
        (subst (λ (o : Option Value). AllZip (Makes r.books r.seat.known.part.records) (map_del the_pairs key o).effects []) (sym none) tt)
    del_plan key (Some f) same v n =
        let some = v the_pairs map_shown in
        plan_of (pair_del the_pairs key) _ _ same (ap (λ (o : Option Value). (map_del the_pairs key o).reply) (sym some))
        (subst (λ (o : Option Value). AllZip (Makes r.books r.seat.known.part.records) (map_del the_pairs key o).effects
        (changes_of (removal (Some f))))
        (sym some) (n, tt))

-- ---- planned by what is found in a unit that a heap's contracts show
module _ (heap : HeapShown) (shown r : RegionShown) (places : Places) (unit : IsMapUnit r places) (same : r ≡ shown)
    (stands : IsStanding heap shown) (op : Op) (is : IsOpOf heap.opening.layout shown.books.unit op) (running : shown.books.halted ≡ None)
  where
    runs : r.books.halted ≡ None
    runs = ap (λ (x : RegionShown). x.books.halted) same ∙ running

    of_region : IsOpOf r.books.layout r.books.unit op
    of_region = subst (λ (x : RegionShown). IsOpOf x.books.layout x.books.unit op) (sym same)
        (subst (λ (s : Shape). IsOpOf s shown.books.unit op) (sym stands.of_heap.layout) is)

    abbrev pairs : Pairs
    pairs = the_pairs r places unit runs

    abbrev pub IsFound : Key → Option Found → Type 0
    IsFound key found = (r.books.halted ≡ None → HasValue r key (value_found found))
        × (r.books.halted ≡ None → IfSome found (λ f. NamesThing r.seat.known.part.records (Pair key f.value) f.slot f.identity))

    pub put_shown : (key : Key) (value : Value) (found : Option Found) (body : List ℕ) (reply : Reply) (change : Change)
        → IsEither op (ops.Put key value) (λ n. ops.OPut n key value) → IsFound key found → body ≡ pair_body key value
        → reply ≡ earlier_text (value_found found) → change ≡ setting found body → IsPlan shown op reply (change ∷ [])
    put_shown key value found body reply change which f b replies changes =
        subst (λ (x : RegionShown). IsPlan x op reply (change ∷ [])) same
        (subst (λ (x : Reply). IsPlan r op x (change ∷ [])) (sym replies)
        (subst (λ (x : Change). IsPlan r op (earlier_text (value_found found)) (x ∷ [])) (sym changes)
        (put_plan r places unit runs op of_region key value found body (puts pairs op key value which) (f.0 runs) (f.1 runs) b)))

    pub get_shown : (key : Key) (found : Option Found) (reply : Reply) → IsEither op (ops.Get key) (λ n. ops.OGet n key)
        → (r.books.halted ≡ None → HasValue r key (value_found found)) → reply ≡ earlier_text (value_found found) → IsPlan shown op reply []
    get_shown key found reply which v replies =
        subst (λ (x : RegionShown). IsPlan x op reply []) same
        (subst (λ (x : Reply). IsPlan r op x []) (sym replies)
        (get_plan r places unit runs op of_region key found (gets pairs op key which) (v runs)))

    pub del_shown : (key : Key) (found : Option Found) (reply : Reply) (changes : List Change)
        → IsEither op (ops.Del key) (λ n. ops.ODel n key) → IsFound key found → reply ≡ earlier_text (value_found found)
        → changes ≡ option_to_list (removal found) → IsPlan shown op reply changes
    del_shown key found reply changes which f replies gives =
        subst (λ (x : RegionShown). IsPlan x op reply changes) same
        (subst (λ (x : Reply). IsPlan r op x changes) (sym replies)
        (subst (λ (cs : List Change). IsPlan r op (earlier_text (value_found found)) cs) (sym gives)
        (del_plan r places unit runs op of_region key found (dels pairs op key which) (f.0 runs) (f.1 runs))))
