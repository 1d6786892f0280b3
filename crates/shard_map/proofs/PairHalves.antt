-- An operation of one of two units. It is planned, room is made, and it begins, is written and ends
-- after that; what it leaves is told of the unit as it was when it was planned.
use Rattle.std.proofs.Common.{◌≡◌, ℕ, ◌+◌, ◌-◌, ◌≤◌, Bool, true, false, cond, List, [], ◌∷◌, ◌++◌, length, refl, sym, ap, ◌∙◌, subst, arith}
use Rattle.std.specs.Prelude.{◌&&◌, nat_lt, slice_set, All, count_by, Option, Some, None}
use Rattle.std.specs.List.{AllZip, list_any}
use Rattle.std.proofs.lemmas.Bool.Decides.{nat_tests}
use Rattle.std.proofs.lemmas.List.Folds.{list_any_none}
use Rattle.mont_base.specs.declared.constants.TheConstants.{LAST}
use Rattle.mont_base.specs.declared.effect.Effect.{Effect}
use Rattle.mont_base.specs.declared.effect.Effect.TheVariants.{Inserts, Replaces, Removes}
use Rattle.mont_base.specs.declared.effect.Thing.{Thing}
use Rattle.mont_base.specs.declared.effect.Thing.TheVariants.{Pair, Item, Vertex, Edge}
use Rattle.mont_base.specs.declared.operation.Op.{Op}
use Rattle.mont_base.specs.declared.operation.Receipt.{Receipt}
use Rattle.mont_base.specs.declared.operation.Reply.{Reply}
use Rattle.mont_base.specs.declared.record.Change.{Change}
use Rattle.mont_base.specs.declared.record.Change.TheVariants.{Insert, Replace, Remove}
use Rattle.mont_base.specs.declared.record.Held.{Held}
use Rattle.mont_base.specs.declared.refusal.Which.{Which}
use Rattle.mont_base.specs.Bodies.{item_body}
use Rattle.mont_base.specs.Counting.{is_insertion, is_enqueuing}
use Rattle.mont_base.specs.Layout.{Shape}
use Rattle.mont_base.specs.State.{step}
use Rattle.mont_laws.specs.Effects.{IsOpOf, AreEffects}
use Rattle.mont_laws.specs.Structures.{HasStructure}
use Rattle.core_steps.specs.declared.parts.CallerPart.{CallerPart}
use Rattle.core_steps.specs.CallAnswers.{after_answer}
use Rattle.core_steps.specs.Notes.{last_epoch}
use Rattle.heap.specs.HeapShown.{HeapShown, CallerShown}
use Rattle.heap_rule.specs.Plays.{answer_of}
use Rattle.slots.specs.Books.{RegionShown, BooksShown}
use Rattle.slots.specs.WrittenRecords.{ends_version, has_serial, inserts}
use Rattle.op_guard.specs.declared.guard.Guard.{Guard}
use Rattle.op_guard.specs.Guarding.{HasBegun}
use Rattle.op_guard.specs.Regions.{IsReady, KeepsUnit}
use Rattle.op_guard.proofs.Committed.{seen_at}
use Rattle.structure_call.specs.Calling.{HasAnsweredCall}
use Rattle.structure_call.specs.Carrying.{HasCarried, records_by, serial_behind}
use Rattle.structure_call.specs.Planning.{IsPlan, IsBodyNext, Makes, adds_item, first_at_end}
use Rattle.structure_call.proofs.ChangeNumbers.{AreLeft, numbers_left, versions_left}
use Rattle.structure_call.proofs.KeptPlans.{structure_kept, all_kept}
use Rattle.structure_call.proofs.SoundHistories.{shows_before}

-- ---- a plan by the number that the next item is given
module _ (b c : BooksShown) (same : c.serial ≡ b.serial) (records : List Held) where
  body_as : (thing : Thing) (body : List ℕ) → IsBodyNext b records thing body → IsBodyNext c records thing body
  body_as (Pair key value) body h = h
  body_as (Item item) body h = h ∙ ap (λ (serial : ℕ). item_body serial item) (sym same)
  body_as (Vertex vertex attribute) body h = h
  body_as (Edge from to attribute) body h = h

  makes_as : (e : Effect) (change : Change) → Makes b records e change → Makes c records e change
  makes_as (Inserts thing) (Insert body) h = body_as thing body h
  makes_as (Replaces thing) (Replace slot identity body) h = (h.0, body_as thing body h.1)
  makes_as (Removes thing) (Remove slot identity) h = h
  makes_as _ _ h = absurd h

  all_as : (es : List Effect) (cs : List Change) → AllZip (Makes b records) es cs → AllZip (Makes c records) es cs
  all_as [] [] h = h
  all_as [] (change ∷ cs) h = h
  all_as (e ∷ es) [] h = h
  all_as (e ∷ es) (change ∷ cs) h = (makes_as e change h.0, all_as es cs h.1)

-- ---- numbers
none_if : (ends : Bool) (which : Which) (rest : Option Which) → ends ≡ false → rest ≡ None → cond ends (Some which) rest ≡ None
none_if true which rest e f = absurd (cc)
none_if false which rest e f = f

at_most : (n m : ℕ) → n ≤ m → nat_lt m n ≡ false
at_most n m low = grind (arith, nat_tests)

unless : (adds : Bool) (serial : ℕ) → (adds ≡ true → serial ≤ LAST) → (adds && nat_lt LAST serial) ≡ false
unless true serial low = at_most serial LAST (low refl)
unless false serial low = refl

none_any : {A : Type 0} (test : A → Bool) (xs : List A) → All (λ (x : A). test x ≡ false) xs → list_any test xs ≡ false
none_any {A} test xs all = list_any_none test xs all

-- where there are numbers for all, none is at its end
none_at_end : (q : CallerPart) (r : RegionShown) (cs : List Change) → AreLeft q r cs → first_at_end q r cs ≡ None
none_at_end q r cs k =
    none_if (nat_lt LAST q.calls) _ _ (at_most q.calls LAST k.call)
    (none_if (nat_lt LAST r.books.places) _ _ (at_most r.books.places LAST k.place)
    (none_if (nat_lt (LAST + 1 - r.books.identity) (inserts cs)) _ _ (at_most (inserts cs) (LAST + 1 - r.books.identity) k.identities)
    (none_if (list_any (ends_version r.seat.known.part.records) cs) _ _ k.versions
    (none_if (adds_item r.books cs && nat_lt LAST r.books.serial) _ _ (unless (adds_item r.books cs) r.books.serial k.serial) refl))))

-- ---- a unit after room that was made
module _ (heap : HeapShown) (old room : RegionShown) (ready : IsReady heap old) (rested : IsReady heap room)
    (keeps : KeepsUnit old room) where
  same_layout : room.books.layout ≡ old.books.layout
  same_layout = rested.runs.of_heap.layout ∙ sym ready.runs.of_heap.layout

  same_seat : room.seat.known.unit ≡ old.seat.known.unit
  same_seat = sym rested.runs.agrees.0 ∙ keeps.of_unit ∙ ready.runs.agrees.0

  same_places : room.books.places ≡ old.books.places
  same_places = rested.runs.agrees.1.places_are ∙ ap length keeps.history ∙ sym ready.runs.agrees.1.places_are

  -- it is planned as before
  pub plan_behind : (op : Op) (reply : Reply) (cs : List Change) → IsPlan old op reply cs → IsPlan room op reply cs
  plan_behind op reply cs plan = record {
    of_unit = subst (λ (x : Shape × ℕ). IsOpOf x.0 x.1 op) (λ i. (sym same_layout i, sym keeps.of_unit i)) plan.of_unit;
    state = plan.state;
    shown =
        subst (λ (x : Shape × ℕ). HasStructure x.0 x.1 room.seat.known.part.records plan.state)
        (λ i. (sym same_layout i, sym keeps.of_unit i))
        (structure_kept old.seat.known.part.records room.seat.known.part.records keeps.live old.books.layout old.books.unit plan.state
        plan.shown);
    replies = plan.replies;
    makes =
        all_as old.books room.books keeps.serial room.seat.known.part.records (step plan.state op).effects cs
        (all_kept old.seat.known.part.records room.seat.known.part.records keeps.live old.books (step plan.state op).effects cs plan.makes);
  }

  -- and as many numbers are left
  pub none_ends_behind : (q r : CallerPart) (op : Op) (reply : Reply) (cs : List Change) → IsPlan old op reply cs
      → first_at_end q old cs ≡ None → r.calls ≤ LAST → first_at_end r room cs ≡ None
  none_ends_behind q r op reply cs plan none low =
      let left = numbers_left q old cs none in
      let places = left.place in
      let same = same_places in
      let identities = left.identities in
      let identity = keeps.identity in
      let serial = keeps.serial in
      none_at_end r room cs (record {
        call = low;
        place = omega arith;
        identities = omega arith;
        versions = none_any (ends_version room.seat.known.part.records) cs
            (versions_left old.books room.seat.known.part.records old.seat.known.part.records keeps.live (step plan.state op).effects cs
            (all_kept old.seat.known.part.records room.seat.known.part.records keeps.live old.books (step plan.state op).effects cs
            plan.makes) left.versions);
        serial = λ adds.
            let few = left.serial ((λ i. adds_at (sym same_layout i) (sym keeps.of_unit i)) ∙ adds) in omega arith;
      })
    where
      adds_at : Shape → ℕ → Bool
      adds_at s unit = list_any (has_serial s unit) cs

  -- what an answer is to it, is one to the unit as it was
  module _ (new : RegionShown) (q r : CallerShown) (op : Op) (receipt : Receipt) (k : HasAnsweredCall heap room new q r op receipt) where
    pub answered_before : HasAnsweredCall heap old new q r op receipt
    answered_before = record {
      showed = shows_before heap old room keeps.of_unit keeps.history keeps.live k.showed;
      judged = record {
        of_unit = subst (λ (u : ℕ). IsOpOf heap.opening.layout u op) keeps.of_unit k.judged.of_unit;
        state = k.judged.state;
        shown =
            subst (λ (u : ℕ). HasStructure heap.opening.layout u old.seat.known.part.records k.judged.state) keeps.of_unit
            (structure_kept room.seat.known.part.records old.seat.known.part.records (λ identity. sym (keeps.live identity))
            heap.opening.layout room.books.unit k.judged.state k.judged.shown);
        replies = k.judged.replies;
      };
      receipt_is =
          k.receipt_is
          ∙ (λ i. record {
            unit = same_seat i;
            place = length (keeps.history i);
            entry = answer_of q.known op receipt.entry.reply receipt.entry.epoch;
          });
      caller =
          k.caller
          ∙ (λ i. record {
            table = q.table;
            known = record q.known {
              part = after_answer q.known.part (same_seat i) (length (keeps.history i)) receipt.entry;
              entries = slice_set q.known.entries (same_seat i) (keeps.history i ++ receipt.entry ∷ []);
            };
          });
      history = k.history ∙ (λ i. keeps.history i ++ receipt.entry ∷ []);
      seen = seen_at q.known old.seat.known room.seat.known same_seat keeps.history k.seen;
      reached =
          let before = keeps.durable in
          let durable = k.reached.after_durable in
          record {
            first = k.reached.first;
            not_before = k.reached.not_before;
            not_behind = k.reached.not_behind;
            after_entries = subst (λ h. last_epoch h ≤ receipt.entry.epoch) keeps.history k.reached.after_entries;
            after_durable = omega arith;
          };
      wrote = record {
        kept = k.wrote.kept;
        live = λ identity. k.wrote.live identity ∙ keeps.live identity;
        written = k.wrote.written;
        records_are = k.wrote.records_are;
        are_effects =
            subst (λ (u : ℕ). AreEffects u k.wrote.kept (step k.judged.state op).effects k.wrote.written) keeps.of_unit
            k.wrote.are_effects;
        epochs = k.wrote.epochs;
      };
      after =
          subst (λ (u : ℕ). HasStructure heap.opening.layout u new.seat.known.part.records (step k.judged.state op).state) keeps.of_unit
          k.after;
      identity = k.identity ∙ ap (λ (n : ℕ). n + count_by is_insertion (step k.judged.state op).effects) keeps.identity;
      serial = k.serial ∙ ap (λ (n : ℕ). n + count_by is_enqueuing (step k.judged.state op).effects) keeps.serial;
      of_unit = k.of_unit ∙ keeps.of_unit;
      ready = k.ready;
      sound = k.sound;
    }

  pub carried_before : (new : RegionShown) (cs : List Change) (receipt : Receipt) (last : Option ℕ) → HasCarried room new cs receipt last
      → HasCarried old new cs receipt last
  carried_before new cs receipt last k = record {
    kept = k.kept;
    live = λ identity. k.live identity ∙ keeps.live identity;
    slots = k.slots;
    each = k.each;
    last_is = k.last_is;
    records_are =
        k.records_are
        ∙ (λ i. k.kept ++ records_by (keeps.of_unit i) (keeps.identity i) k.kept receipt.entry.epoch cs k.slots);
    identity = k.identity ∙ ap (λ (n : ℕ). n + inserts cs) keeps.identity;
    serial = k.serial ∙ (λ i. serial_behind (same_layout i) (keeps.of_unit i) (keeps.serial i) cs);
  }

-- ---- an operation that has begun, to the caller once another entry of the epoch has answered it
pub begun_next : (heap : HeapShown) (old mid : RegionShown) (q r : CallerShown) (g : Guard) → 1 ≤ length old.books.free
    → r.known.caller ≡ q.known.caller → r.known.part.newest ≡ g.epoch → r.known.part.durable ≡ q.known.part.durable
    → HasBegun heap old mid q 1 g → HasBegun heap old mid r 1 g
begun_next heap old mid q r g room caller newest durable k =
    let behind = k.reached.not_behind in
    record {
      guard_is =
          k.guard_is
          ∙ (λ i. record { unit = old.books.unit; by = sym caller i; epoch = g.epoch; need = 1; written = 0 });
      under_way = k.under_way;
      reached = record {
        first = k.reached.first;
        not_before = omega arith;
        not_behind = omega arith;
        after_entries = k.reached.after_entries;
        after_durable = k.reached.after_durable;
      };
      keeps = k.keeps;
      enough = k.enough;
      reclaimed = λ few. absurd (omega arith);
    }
