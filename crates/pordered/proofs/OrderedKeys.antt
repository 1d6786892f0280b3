-- What the index of an ordered unit tells is what the pairs that the records show tell: they have the same keys, in the same order.
use Rattle.std.proofs.Common.{◌≡◌, ℕ, ◌-◌, [], length, map, min, sym, refl, ap, ◌∙◌, arith, true, false, Bool, length-take}
use Rattle.std.specs.Prelude.{Option, Some, None, MatchOption, is_some, slice_get}
use lib.Dec.{T}
use Rattle.std.specs.Cmp.Lexicographic.{nat_list_cmp_total}
use Rattle.std.specs.FinMap as finite
use Rattle.std.specs.Option.{option_map}
use Rattle.std.specs.Ordering.{is_lt, is_le}
use Rattle.std.proofs.lemmas.Option.{same_Some}
use Rattle.mont_base.specs.declared.operation.Op.{Op}
use Rattle.mont_base.specs.declared.operation.Op.TheVariants as ops
use Rattle.mont_base.specs.declared.operation.Reply.{Reply}
use Rattle.mont_base.specs.declared.operation.Reply.TheVariants as replies
use Rattle.mont_base.specs.declared.record.Held.{Held}
use Rattle.mont_base.specs.Bodies.{pair_in}
use Rattle.mont_base.specs.State.{Key, Value, Pairs, MapOf, key_cmp, answered, map_step, last_of, floor_of, floor_reply, rank_of, range_of, is_between}
use Rattle.mont_laws.specs.Effects.{IsOpOf}
use Rattle.mont_laws.specs.Structures.{HasPairs}
use Rattle.index_kit.specs.Index.{Places}
use Rattle.counted_tree.specs.Order.{count_below}
use Rattle.order_index.specs.declared.stretch.Stretch.{Stretch}
use Rattle.order_index.specs.KeyRanges.{up_to, between, IsStretch}
use Rattle.slots.specs.Books.{RegionShown, record_in}
use Rattle.structure_call.specs.Planning.{IsPlan}
use Rattle.shard_map.specs.MapShard.{IsMapUnit}
use Rattle.shard_map.proofs.KeyFacts.{no_value, value_kept}
use Rattle.shard_map.proofs.MapPlans.{Standing, standing, no_record, the_pairs, map_shown, plan_of}
use Rattle.pordered.proofs.KeysAlike.{key_in, keys_alike, found_at, long_alike, at_alike, last_alike, filter_alike}

told : (b : Bool) → T b → b ≡ true
told true h = refl
told false h = absurd h

pub rising : {X : Type 0} (m : finite.FinMap key_cmp X) → finite.is_sorted key_cmp (finite.entries m) ≡ true
rising m = told _ (finite.entries_sorted m)

same_key : finite.IsAntisymmetric key_cmp
same_key = finite.slice_cmp-IsAntisymmetric finite.nat_cmp-IsAntisymmetric

-- the value of a key is at its place
value_of : {X : Type 0} (m : finite.FinMap key_cmp X) (i : ℕ) (e : Key × X) → slice_get (finite.entries m) i ≡ Some e
    → finite.get m e.0 ≡ Some e.1
value_of m i e is = finite.get-entries m e.0 ∙ found_at key_cmp nat_list_cmp_total (finite.entries m) i e (rising m) is

-- what has no key at a place has nothing there
no_key : {X : Type 0} (o : Option (Key × X)) → None ≡ option_map key_in o → o ≡ None
no_key None e = refl
no_key (Some x) e = cc

module _ (r : RegionShown) (places : Places) (unit : IsMapUnit r places) (running : r.books.halted ≡ None) where
  abbrev Shown : Pairs → Type 0
  Shown pairs = HasPairs r.books.layout r.books.unit r.seat.known.part.records pairs

  module _ (pairs : Pairs) (shown : Shown pairs) where
    value_is : (key : Key) (slot : ℕ) (b : Standing r places unit running key slot) → finite.get pairs key ≡ Some b.at.value
    value_is key slot b = value_kept r.books.layout r.books.unit r.seat.known.part.records places (unit.indexed running) pairs shown
        b.identity
        key slot b.at

    alike : (q : Key) → is_some (finite.get places q) ≡ is_some (finite.get pairs q)
    alike q = by (finite.get places q) refl
      where
        by : (o : Option ℕ) → finite.get places q ≡ o → is_some (finite.get places q) ≡ is_some (finite.get pairs q)
        by None e = ap is_some e ∙ sym (ap is_some
            (no_value r.books.layout r.books.unit r.seat.known.part.records places (unit.indexed running) pairs shown q e))
        by (Some slot) e = ap is_some e ∙ sym (ap is_some (value_is q slot (standing r places unit running q slot e)))

    pub same_keys : map key_in (finite.entries places) ≡ map key_in (finite.entries pairs)
    same_keys = keys_alike nat_list_cmp_total same_key places pairs alike

    -- ---- what the order of the keys tells
    pub rank_is : (key : Key) → count_below key_cmp key (finite.entries places) ≡ rank_of pairs key
    rank_is key = long_alike _ _ (filter_alike (finite.entries places) (finite.entries pairs) same_keys (λ k. is_lt (key_cmp k key)))

    floor_key : (key : Key) → option_map key_in (last_of (up_to key (finite.entries places))) ≡ option_map key_in (floor_of pairs key)
    floor_key key = last_alike _ _ (filter_alike (finite.entries places) (finite.entries pairs) same_keys (λ k. is_le (key_cmp k key)))

    pub floor_none : (key : Key) → None ≡ last_of (up_to key (finite.entries places)) → replies.Nothing ≡ floor_reply (floor_of pairs key)
    floor_none key none = sym (ap floor_reply (no_key (floor_of pairs key) (ap (option_map key_in) none ∙ floor_key key)))

    pub floor_some : (key : Key) (e : Key × ℕ) → Some e ≡ last_of (up_to key (finite.entries places))
        → replies.Key e.0 ≡ floor_reply (floor_of pairs key)
    floor_some key e some = by (floor_of pairs key) (ap (option_map key_in) some ∙ floor_key key)
      where
        by : (o : Option (Key × Value)) → Some e.0 ≡ option_map key_in o → replies.Key e.0 ≡ floor_reply o
        by None h = cc
        by (Some x) h = ap replies.Key (same_Some e.0 x.0 h)

    pub range_long : (from to : Key) → length (between from to (finite.entries places)) ≡ length (between from to (finite.entries pairs))
    range_long from to = long_alike _ _ (filter_alike (finite.entries places) (finite.entries pairs) same_keys (is_between from to))

    pub range_number : (from to : Key) (most : ℕ) (s : Stretch) → IsStretch from to (finite.entries places) s
        → min (s.behind - s.first) most ≡ length (range_of pairs from to most)
    range_number from to most s is =
        let number = range_long from to in
        let taken = length-take most (between from to (finite.entries pairs)) in
        omega (arith, number, taken, is.behind)

    -- ---- the pair of the key at a place
    pub no_pair_at : (place : ℕ) → None ≡ slice_get (finite.entries places) place → None ≡ slice_get (finite.entries pairs) place
    no_pair_at place none = sym (no_key (slice_get (finite.entries pairs) place)
        (ap (option_map key_in) none ∙ at_alike (finite.entries places) (finite.entries pairs) same_keys place))

    pub pair_there : (place : ℕ) (key : Key) (slot : ℕ) (held : Held) → slice_get (finite.entries places) place ≡ Some (key, slot)
        → record_in r.seat.known.part.records slot ≡ Some held → pair_in held.body ≡ slice_get (finite.entries pairs) place
    pair_there place key slot held is stands =
        let b : Standing r places unit running key slot = standing r places unit running key slot (value_of places place (key, slot) is) in
        let same : held ≡ b.at.kept = same_Some held b.at.kept (sym stands ∙ b.stands) in
        ap (λ (h : Held). pair_in h.body) same ∙ b.read
        ∙ by b (slice_get (finite.entries pairs) place) refl
        (sym (ap (option_map key_in) is) ∙ at_alike (finite.entries places) (finite.entries pairs) same_keys place)
      where
        by : (b : Standing r places unit running key slot) (o : Option (Key × Value)) → slice_get (finite.entries pairs) place ≡ o
            → Some key ≡ option_map key_in o → Some (key, b.at.value) ≡ o
        by b None at h = cc
        by b (Some e) at h =
            let named : key ≡ e.0 = same_Some key e.0 h in
            let valued : b.at.value ≡ e.1 = same_Some b.at.value e.1
            (sym (value_is key slot b) ∙ ap (finite.get pairs) named ∙ value_of pairs place e at) in
            λ i. Some (named i, valued i)

  -- a place has a record
  pub held_there : (place : ℕ) (key : Key) (slot : ℕ) → slice_get (finite.entries places) place ≡ Some (key, slot)
      → record_in r.seat.known.part.records slot ≡ None → ⊥
  held_there place key slot is none = no_record r places unit running key slot (value_of places place (key, slot) is) none

  -- ---- plans
  module _ (op : Op) (is : IsOpOf r.books.layout r.books.unit op) where
    abbrev shown_pairs : Pairs
    shown_pairs = the_pairs r places unit running

    -- an operation that is answered alone is planned so
    look_plan : (reply told : Reply) → map_step shown_pairs op ≡ answered (MapOf shown_pairs) told → reply ≡ told → IsPlan r op reply []
    look_plan reply told same replies = plan_of r places unit running op is (answered (MapOf shown_pairs) told) reply [] same replies tt

    pub floor_plan : (u : ℕ) (key : Key) (found : Option (Key × ℕ)) (reply : Reply) → op ≡ ops.OFloor u key
        → found ≡ last_of (up_to key (finite.entries places)) → MatchOption found (reply ≡ replies.Nothing) (λ e. reply ≡ replies.Key e.0)
        → IsPlan r op reply []
    floor_plan u key found reply e from tells =
        look_plan reply (floor_reply (floor_of shown_pairs key)) (ap (map_step shown_pairs) e) (by found from tells)
      where
        by : (o : Option (Key × ℕ)) → o ≡ last_of (up_to key (finite.entries places))
            → MatchOption o (reply ≡ replies.Nothing) (λ x. reply ≡ replies.Key x.0) → reply ≡ floor_reply (floor_of shown_pairs key)
        by None f t = t ∙ floor_none shown_pairs (map_shown r places unit running) key f
        by (Some x) f t = t ∙ floor_some shown_pairs (map_shown r places unit running) key x f

    pub rank_plan : (u : ℕ) (key : Key) (number : ℕ) → op ≡ ops.ORank u key → number ≡ count_below key_cmp key (finite.entries places)
        → IsPlan r op (replies.Count number) []
    rank_plan u key number e counted =
        look_plan (replies.Count number) (replies.Count (rank_of shown_pairs key)) (ap (map_step shown_pairs) e)
        (ap replies.Count (counted ∙ rank_is shown_pairs (map_shown r places unit running) key))

    pub range_plan : (u : ℕ) (from to : Key) (most : ℕ) (s : Stretch) (number : ℕ) → op ≡ ops.ORange u from to most
        → IsStretch from to (finite.entries places) s → number ≡ min (s.behind - s.first) most → IsPlan r op (replies.Pairs number) []
    range_plan u from to most s number e stretched counted =
        look_plan (replies.Pairs number) (replies.Pairs (length (range_of shown_pairs from to most))) (ap (map_step shown_pairs) e)
        (ap replies.Pairs (counted ∙ range_number shown_pairs (map_shown r places unit running) from to most s stretched))
