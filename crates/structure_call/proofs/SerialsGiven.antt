-- Each item that comes into a queue is given one serial.
use Rattle.std.proofs.Common.{◌≡◌, ℕ, ◌+◌, ◌≤◌, Bool, true, false, cond, List, [], ◌∷◌, refl, sym, ap, ◌∙◌, arith}
use Rattle.std.specs.Prelude.{◌&&◌, ◌||◌, count_by}
use Rattle.std.specs.List.{AllZip, list_any}
use Rattle.std.proofs.lemmas.List.Sums.{sum_by-cons}
use Rattle.mont_base.specs.declared.effect.Effect.{Effect}
use Rattle.mont_base.specs.declared.effect.Effect.TheVariants.{Inserts, Replaces, Removes}
use Rattle.mont_base.specs.declared.effect.Thing.{Thing}
use Rattle.mont_base.specs.declared.effect.Thing.TheVariants.{Pair, Item, Vertex, Edge}
use Rattle.mont_base.specs.declared.kinds.UnitKind.TheVariants as unit_kinds
use Rattle.mont_base.specs.declared.operation.Op.{Op}
use Rattle.mont_base.specs.declared.record.Change.{Change}
use Rattle.mont_base.specs.declared.record.Change.TheVariants.{Insert, Replace, Remove}
use Rattle.mont_base.specs.declared.record.Held.{Held}
use Rattle.mont_base.specs.Counting.{is_enqueuing, is_insertion}
use Rattle.mont_base.specs.Layout.{kind_of, is_of_kind}
use Rattle.mont_base.specs.State.{State, is_state_of, step}
use Rattle.slots.specs.Books.{BooksShown}
use Rattle.slots.specs.WrittenRecords.{has_serial, serial_in}
use Rattle.structure_call.specs.Carrying.{serial_behind}
use Rattle.structure_call.specs.Planning.{Makes}
use Rattle.structure_call.proofs.ChangeEffects.{FitsKind, AllFit, is_item, step_fits}
use Rattle.structure_call.proofs.Insertions.{few_inserted}

pub counted_first : (p : Effect → Bool) (e : Effect) (es : List Effect) → count_by p (e ∷ es) ≡ cond (p e) 1 0 + count_by p es
counted_first p e es = sum_by-cons (λ (x : Effect). cond (p x) 1 0) e es

item_enqueued : (thing : Thing) → is_enqueuing (Inserts thing) ≡ is_item thing
item_enqueued (Pair key value) = refl
item_enqueued (Item item) = refl
item_enqueued (Vertex vertex attribute) = refl
item_enqueued (Edge from to attribute) = refl

-- items are some of the things that are inserted
fewer : (es : List Effect) → count_by is_enqueuing es ≤ count_by is_insertion es
fewer [] = omega arith
fewer (e ∷ es) =
    let a = counted_first is_enqueuing e es in
    let b = counted_first is_insertion e es in
    let low = by e in
    let more = fewer es in omega (arith, a, b, low, more)
  where
    by : (e : Effect) → cond {A = ℕ} (is_enqueuing e) 1 0 ≤ cond (is_insertion e) 1 0
    by (Inserts (Pair key value)) = omega arith
    by (Inserts (Item item)) = omega arith
    by (Inserts (Vertex vertex attribute)) = omega arith
    by (Inserts (Edge from to attribute)) = omega arith
    by (Replaces thing) = omega arith
    by (Removes thing) = omega arith

and_true : (t : Bool) → (t && true) ≡ t
and_true true = refl
and_true false = refl

and_false : (t : Bool) → (t && false) ≡ false
and_false true = refl
and_false false = refl

module _ (b : BooksShown) (kept : List Held) (queue : Bool) (of_kind : is_of_kind (kind_of b.layout b.unit) unit_kinds.Queue ≡ queue) where
  abbrev has : Change → Bool
  has c = has_serial b.layout b.unit c

  -- an item is given a serial, and nothing else is
  enqueuing_has : (e : Effect) (c : Change) → FitsKind queue e → Makes b kept e c → has c ≡ is_enqueuing e
  enqueuing_has (Inserts thing) (Insert body) fits h =
      and_true (is_of_kind (kind_of b.layout b.unit) unit_kinds.Queue) ∙ of_kind ∙ sym fits ∙ sym (item_enqueued thing)
  enqueuing_has (Replaces thing) (Replace slot identity body) fits h = and_false (is_of_kind (kind_of b.layout b.unit) unit_kinds.Queue)
  enqueuing_has (Removes thing) (Remove slot identity) fits h = and_false (is_of_kind (kind_of b.layout b.unit) unit_kinds.Queue)
  enqueuing_has _ _ fits h = absurd h

  -- which is the next one
  next_given : (e : Effect) (c : Change) → Makes b kept e c → is_enqueuing e ≡ true → serial_in c ≡ b.serial
  next_given (Inserts (Item item)) (Insert body) h is = ap serial_of_body h
    where
      serial_of_body : List ℕ → ℕ
      serial_of_body words = serial_in (Insert words)
  next_given (Inserts (Pair key value)) c h is = absurd (cc)
  next_given (Inserts (Vertex vertex attribute)) c h is = absurd (cc)
  next_given (Inserts (Edge from to attribute)) c h is = absurd (cc)
  next_given (Replaces thing) c h is = absurd (cc)
  next_given (Removes thing) c h is = absurd (cc)
  next_given _ _ h is = absurd h

  -- an item comes in where a change is given a serial
  pub some_enqueued : (es : List Effect) (cs : List Change) → AllFit queue es → AllZip (Makes b kept) es cs
      → list_any has cs ≡ true → 1 ≤ count_by is_enqueuing es
  some_enqueued [] [] fit h adds = absurd (cc)
  some_enqueued [] (c ∷ cs) fit h adds = absurd h
  some_enqueued (e ∷ es) [] fit h adds = absurd h
  some_enqueued (e ∷ es) (c ∷ cs) fit h adds =
      by (is_enqueuing e) (enqueuing_has e c fit.0 h.0) (counted_first is_enqueuing e es) (some_enqueued es cs fit.1 h.1)
    where
      by : (t : Bool) → has c ≡ t → count_by is_enqueuing (e ∷ es) ≡ cond t 1 0 + count_by is_enqueuing es
          → (list_any has cs ≡ true → 1 ≤ count_by is_enqueuing es) → 1 ≤ count_by is_enqueuing (e ∷ es)
      by true is many rest = omega (arith, many)
      by false is many rest =
          let low = rest (sym (ap (λ (t : Bool). t || list_any has cs) is) ∙ adds) in omega (arith, many, low)

  -- the serial that comes next after the first change
  next_behind : (next : ℕ) (e : Effect) (c : Change) (cs : List Change) (t : Bool) → FitsKind queue e → Makes b kept e c
      → is_enqueuing e ≡ t
      → serial_behind b.layout b.unit next (c ∷ cs) ≡ serial_behind b.layout b.unit (cond t (b.serial + 1) next) cs
  next_behind next e c cs true fits h is =
      (λ i. serial_behind b.layout b.unit (cond ((enqueuing_has e c fits h ∙ is) i) (serial_in c + 1) next) cs)
      ∙ (λ i. serial_behind b.layout b.unit (next_given e c h is i + 1) cs)
  next_behind next e c cs false fits h is =
      λ i. serial_behind b.layout b.unit (cond ((enqueuing_has e c fits h ∙ is) i) (serial_in c + 1) next) cs

  none_given : (next : ℕ) (es : List Effect) (cs : List Change) → AllFit queue es → AllZip (Makes b kept) es cs
      → count_by is_enqueuing es ≡ 0 → serial_behind b.layout b.unit next cs ≡ next
  none_given next [] [] fit h none = refl
  none_given next [] (c ∷ cs) fit h none = absurd h
  none_given next (e ∷ es) [] fit h none = absurd h
  none_given next (e ∷ es) (c ∷ cs) fit h none =
      by (is_enqueuing e) refl (counted_first is_enqueuing e es) (none_given next es cs fit.1 h.1)
    where
      by : (t : Bool) → is_enqueuing e ≡ t → count_by is_enqueuing (e ∷ es) ≡ cond t 1 0 + count_by is_enqueuing es
          → (count_by is_enqueuing es ≡ 0 → serial_behind b.layout b.unit next cs ≡ next)
          → serial_behind b.layout b.unit next (c ∷ cs) ≡ next
      by true is many rest = absurd (omega (arith, many, none))
      by false is many rest = next_behind next e c cs false fit.0 h.0 is ∙ rest (omega (arith, many, none))

  one_given : (es : List Effect) (cs : List Change) → AllFit queue es → AllZip (Makes b kept) es cs
      → count_by is_enqueuing es ≤ 1 → serial_behind b.layout b.unit b.serial cs ≡ b.serial + count_by is_enqueuing es
  one_given [] [] fit h few = omega arith
  one_given [] (c ∷ cs) fit h few = absurd h
  one_given (e ∷ es) [] fit h few = absurd h
  one_given (e ∷ es) (c ∷ cs) fit h few =
      by (is_enqueuing e) refl (counted_first is_enqueuing e es) (one_given es cs fit.1 h.1)
    where
      by : (t : Bool) → is_enqueuing e ≡ t → count_by is_enqueuing (e ∷ es) ≡ cond t 1 0 + count_by is_enqueuing es
          → (count_by is_enqueuing es ≤ 1 → serial_behind b.layout b.unit b.serial cs ≡ b.serial + count_by is_enqueuing es)
          → serial_behind b.layout b.unit b.serial (c ∷ cs) ≡ b.serial + count_by is_enqueuing (e ∷ es)
      by true is many more =
          let rest : count_by is_enqueuing es ≡ 0 = omega (arith, many, few) in
          next_behind b.serial e c cs true fit.0 h.0 is ∙ none_given (b.serial + 1) es cs fit.1 h.1 rest
          ∙ omega (arith, many, rest)
      by false is many more =
          next_behind b.serial e c cs false fit.0 h.0 is ∙ more (omega (arith, many, few)) ∙ omega (arith, many)

-- the changes of an operation
pub serial_given : (b : BooksShown) (kept : List Held) (state : State) (op : Op) (cs : List Change)
    → is_of_kind (kind_of b.layout b.unit) unit_kinds.Queue ≡ is_state_of unit_kinds.Queue state
    → AllZip (Makes b kept) (step state op).effects cs
    → serial_behind b.layout b.unit b.serial cs ≡ b.serial + count_by is_enqueuing (step state op).effects
serial_given b kept state op cs of_kind makes =
    let items = fewer (step state op).effects in
    let few = few_inserted state op in
    one_given b kept (is_state_of unit_kinds.Queue state) of_kind (step state op).effects cs (step_fits state op) makes
    (omega (arith, items, few))
