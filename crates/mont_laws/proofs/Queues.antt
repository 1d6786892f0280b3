-- What queue operations do to the items that records show.
use Rattle.std.proofs.Common.{◌≡◌, ℕ, List, [], ◌∷◌, ◌++◌, append-nil, map, sym, refl, ap, ◌∙◌, subst, arith, Bool}
use Rattle.std.specs.Prelude.{Option, Some, None, T, if◌then◌else◌}
use Rattle.std.specs.Cmp.{nat_cmp_total}
use Rattle.std.specs.Ordering.{nat_cmp, eq_by_cmp}
use Rattle.std.specs.FinMap as finite
use Rattle.std.specs.FinMap.{find, is_sorted}
use Rattle.std.specs.Map.{update}
use Rattle.std.proofs.Math.Path.{fun_ext}
use Rattle.std.proofs.lemmas.List.{map-append}
use Rattle.mont_base.specs.declared.record.Held.{Held}
use Rattle.mont_base.specs.declared.operation.Op.{Op}
use Rattle.mont_base.specs.declared.operation.Op.TheVariants as ops
use Rattle.mont_base.specs.declared.effect.Thing.TheVariants.{Item}
use Rattle.mont_base.specs.declared.effect.Effect.TheVariants.{Inserts, Removes}
use Rattle.mont_base.specs.Layout.{Shape}
use Rattle.mont_base.specs.State.{queue_step, queue_deq}
use Rattle.mont_base.specs.Bodies.{item_in, item_body}
use Rattle.mont_base.specs.Structure.{is_serial}
use Rattle.mont_laws.specs.Records.{live_of}
use Rattle.mont_laws.specs.Shows.{live_things, Shows}
use Rattle.mont_laws.specs.Structures.{item_for, Row, HasRow, HasItems, HasThings}
use Rattle.mont_laws.specs.Effects.{HasLiveSerial, IsEffect, AreEffects}
use Rattle.mont_laws.proofs.Keys.{one_number}
use Rattle.mont_laws.proofs.Bodies.{item_back, item_fits}
use Rattle.mont_laws.proofs.Rows.{first, second, Serials, AllBelow, sorted_push, find_above, push_update, rest_update, first_least}
use Rattle.mont_laws.proofs.Holders.{fitted, sure_fit, live_holder, held_live}
use Rattle.mont_laws.proofs.Shows.{shows_once, IsEdit, shows_edit}
use Rattle.mont_laws.proofs.Edits.{inserted, removed, no_zip, one_zip}

-- what stands at a serial
abbrev pub item_at : Serials → ℕ → Option ℕ
item_at es serial = find nat_cmp serial es

abbrev pub values_of : Serials → List ℕ
values_of es = map (λ (e : ℕ × ℕ). e.1) es

-- the items of live records by rising serial, as a list
pub record ShowsRow (rs : List Held) (es : Serials) : Type 0 where
  pub sorted : T (is_sorted nat_cmp es)
  pub shown : Shows (live_things item_for rs) (item_at es)

pub row_shown : (rs : List Held) (row : Row) → HasRow rs row → ShowsRow rs (finite.entries row)
row_shown rs row h = record {
  sorted = finite.entries_sorted row;
  shown = subst (λ (f : ℕ → Option ℕ). Shows (live_things item_for rs) f) (fun_ext (λ q. finite.get-entries row q)) h;
}

pub items_from : (rs : List Held) (es : Serials) → ShowsRow rs es → HasItems rs (values_of es)
items_from rs es h = (
  finite.from_sorted es,
  subst (λ (f : ℕ → Option ℕ). Shows (live_things item_for rs) f)
      (fun_ext (λ q. sym (finite.get-from_sorted nat_cmp es q h.sorted))) h.shown,
  ap values_of (sym (finite.entries-from_sorted nat_cmp es h.sorted)),
)

module _ (rs : List Held) where
  -- at most one queue is shown
  pub items_once : (xs ys : List ℕ) → HasItems rs xs → HasItems rs ys → xs ≡ ys
  items_once xs ys g h =
      let rows : g.0 ≡ h.0 = finite.same_map nat_cmp_total finite.nat_cmp-IsAntisymmetric g.0 h.0
      (λ q. ap (λ (f : ℕ → Option ℕ). f q) (shows_once (live_things item_for rs) (finite.get g.0) (finite.get h.0) g.1 h.1)) in
      g.2 ∙ ap (λ (row : Row). finite.values row) rows ∙ sym h.2

  module _ (es : Serials) (row : ShowsRow rs es) where
    -- the serials of live items are those that stand there
    pub live_serial : (k x : ℕ) → item_at es k ≡ Some x → HasLiveSerial rs k
    live_serial k x e =
        let b = row.shown.there k x e in
        let r = live_holder item_for rs b.0 (Some (k, x)) b.1 in
        (b.0, r.0, x, r.1, (fitted (λ (e : ℕ × ℕ). is_serial e.0) (item_in r.0.body) (k, x) r.2).0)

    pub serial_found : (i k x : ℕ) (r : Held) → live_of i rs ≡ Some r → item_in r.body ≡ Some (k, x)
        → (item_for r.body ≡ Some (k, x)) × (item_at es k ≡ Some x)
    serial_found i k x r live e =
        let here = held_live item_for rs i r live in
        let fit : item_for r.body ≡ Some (k, x) = sure_fit (λ (e : ℕ × ℕ). is_serial e.0) (item_in r.body) (k, x) e
        (λ n. row.shown.readable i (here ∙ ap Some n)) in
        (fit, row.shown.found i k x (here ∙ ap Some fit))

    edited : (k : ℕ) (o : Option ℕ) (fs : Serials) (w : Held) → update (eq_by_cmp nat_cmp) (item_at es) k o ≡ item_at fs
        → IsEdit item_for rs (item_at es) k o w → Shows (live_things item_for (rs ++ w ∷ [])) (item_at fs)
    edited k o fs w e edit = subst (λ (f : ℕ → Option ℕ). Shows (live_things item_for (rs ++ w ∷ [])) f) e
        (shows_edit (eq_by_cmp nat_cmp) one_number item_for rs (item_at es) k o w row.shown edit)

  unchanged : (unit : ℕ) (items : List ℕ) (ws : List Held) → HasItems rs items → AreEffects unit rs [] ws → HasItems (rs ++ ws) items
  unchanged unit items ws h are = subst (λ (zs : List Held). HasItems zs items)
      (sym (append-nil rs) ∙ ap (λ (zs : List Held). rs ++ zs) (sym (no_zip (IsEffect unit rs) ws are))) h

  enq_leads : (unit x : ℕ) (es : Serials) (w : Held) → ShowsRow rs es → IsEffect unit rs (Inserts (Item x)) w
      → HasItems (rs ++ w ∷ []) (values_of es ++ x ∷ [])
  enq_leads unit x es w row is =
      let h = is.writes in
      let serial : ℕ = h.2.0 in
      let new = h.2.2 in
      let below : AllBelow es serial = λ k y e. new.above k (live_serial es row k y e) in
      let reads : item_for w.body ≡ Some (serial, x) = ap item_for h.2.1
      ∙ item_fits serial x (item_body serial x) new.some new.last (item_back serial x) in
      let edit = inserted item_for rs (item_at es) serial w x h.0 h.1 reads (find_above serial es below) in
      let next : ShowsRow (rs ++ w ∷ []) (es ++ (serial, x) ∷ []) =
      record {
        sorted = sorted_push serial x es below row.sorted;
        shown = edited es row serial (Some x) (es ++ (serial, x) ∷ []) w
            (push_update es serial x below) edit;
      } in
      subst (HasItems (rs ++ w ∷ [])) (map-append (λ (e : ℕ × ℕ). e.1) es ((serial, x) ∷ []))
      (items_from (rs ++ w ∷ []) (es ++ (serial, x) ∷ []) next)

  deq_leads : (unit : ℕ) (e : ℕ × ℕ) (es : Serials) (w : Held) → ShowsRow rs (e ∷ es) → IsEffect unit rs (Removes (Item e.1)) w
      → HasItems (rs ++ w ∷ []) (values_of es)
  deq_leads unit e es w row is =
      let h = is.writes in
      let named = h.1.named in
      let k : ℕ = named.0 in
      let there = serial_found (e ∷ es) row w.label.identity k e.1 h.1.last h.1.live named.1 in
      let here : item_at (e ∷ es) e.0 ≡ Some e.1 = ap (λ (t : Bool). if t then Some e.1 else item_at es e.0)
      ((one_number e.0 e.0).1 refl) in
      let low = named.2 e.0 (live_serial (e ∷ es) row e.0 e.1 here) in
      let high = first_least e es k e.1 row.sorted there.1 in
      let same : k ≡ e.0 = omega arith in
      let edit = removed item_for rs (item_at (e ∷ es)) k w (Item e.1) e.1 h.0 h.1 there.0 in
      let gone = subst (λ (k : ℕ). update (eq_by_cmp nat_cmp) (item_at (e ∷ es)) k None ≡ item_at es) (sym same)
      (rest_update e es (first _ _ row.sorted)) in
      items_from (rs ++ w ∷ []) es (record { sorted = second _ _ row.sorted; shown = edited (e ∷ es) row k None es w gone edit })

  deq_by : (unit : ℕ) (es : Serials) (ws : List Held) → ShowsRow rs es → AreEffects unit rs (queue_deq (values_of es)).effects ws
      → (s : Shape) → HasThings s unit (rs ++ ws) (queue_deq (values_of es)).state
  deq_by unit [] ws row are s = unchanged unit [] ws (items_from rs [] row) are
  deq_by unit (e ∷ es) ws row are s =
      let b = one_zip (IsEffect unit rs) (Removes (Item e.1)) ws are in
      subst (λ (zs : List Held). HasItems (rs ++ zs) (values_of es)) (sym b.1) (deq_leads unit e es b.0 row b.2)

  enq_by : (unit x : ℕ) (es : Serials) (ws : List Held) → ShowsRow rs es → AreEffects unit rs (Inserts (Item x) ∷ []) ws
      → HasItems (rs ++ ws) (values_of es ++ x ∷ [])
  enq_by unit x es ws row are =
      let b = one_zip (IsEffect unit rs) (Inserts (Item x)) ws are in
      subst (λ (zs : List Held). HasItems (rs ++ zs) (values_of es ++ x ∷ [])) (sym b.1) (enq_leads unit x es b.0 row b.2)

  pub queue_leads : (s : Shape) (unit : ℕ) (items : List ℕ) (op : Op) (ws : List Held) → HasItems rs items
      → AreEffects unit rs (queue_step items op).effects ws → HasThings s unit (rs ++ ws) (queue_step items op).state
  queue_leads s unit items (ops.Enq u x) ws h are =
      let row = row_shown rs h.0 h.1 in
      subst (λ (xs : List ℕ). HasItems (rs ++ ws) (xs ++ x ∷ [])) (sym h.2) (enq_by unit x (finite.entries h.0) ws row are)
  queue_leads s unit items (ops.Deq u) ws h are =
      let row = row_shown rs h.0 h.1 in
      subst (λ (xs : List ℕ). HasThings s unit (rs ++ ws) (queue_deq xs).state) (sym h.2)
      (deq_by unit (finite.entries h.0) ws row (subst (λ (xs : List ℕ). AreEffects unit rs (queue_deq xs).effects ws) h.2 are) s)
  queue_leads s unit items (ops.Len u) ws h are = unchanged unit items ws h are
  queue_leads s unit items _ ws h are = unchanged unit items ws h are
