-- A call keeps the count of the numbers that were given.
use Rattle.std.proofs.Common.{◌≡◌, ℕ, ◌+◌, ◌-◌, ◌<◌, Bool, true, false, cond, List, [], length, refl, sym, ap, ◌∙◌, subst, arith}
use Rattle.std.specs.Prelude.{◌&&◌, nat_lt, max, Option, Some, None, count_by}
use Rattle.std.specs.List.{AllZip, list_any}
use Rattle.std.proofs.lemmas.List.Folds.{fold-map}
use Rattle.std.proofs.lemmas.Bool.Decides.{nat_tests}
use Rattle.std.proofs.lemmas.Option.{same_Some}
use Rattle.mont_base.specs.declared.constants.TheConstants.{LAST}
use Rattle.mont_base.specs.declared.effect.Effect.{Effect}
use Rattle.mont_base.specs.declared.kinds.UnitKind.TheVariants as kinds
use Rattle.mont_base.specs.declared.operation.Entry.{Entry}
use Rattle.mont_base.specs.declared.operation.Op.{Op}
use Rattle.mont_base.specs.declared.operation.Receipt.{Receipt}
use Rattle.mont_base.specs.declared.operation.Reply.{Reply}
use Rattle.mont_base.specs.declared.record.Change.{Change}
use Rattle.mont_base.specs.declared.record.Held.{Held}
use Rattle.mont_base.specs.declared.refusal.CallRefusal.TheVariants.{Halted, CountEnd, Memory, Full, Cut}
use Rattle.mont_base.specs.declared.refusal.Which.{Which}
use Rattle.mont_base.specs.declared.refusal.Which.TheVariants as ends
use Rattle.mont_base.specs.Counting.{LacksIdentity, LacksVersions, changes_made, enqueued, greatest_by, identity_of, insertions, is_enqueuing, is_insertion, sum_over}
use Rattle.mont_base.specs.History.{state_after}
use Rattle.mont_base.specs.Image.{IsRecovered}
use Rattle.mont_base.specs.Layout.{Shape, kind_of}
use Rattle.mont_base.specs.State.{State, is_state_of, step}
use Rattle.mont_laws.specs.Structures.{HasStructure}
use Rattle.mont_laws.proofs.Counting.{sum_more}
use Rattle.mont_laws.proofs.SameKind.{the_kind, of_one_kind, is_queue_by_state}
use Rattle.mont_laws.proofs.Shown.{one_state}
use Rattle.core_steps.specs.declared.parts.CallerPart.{CallerPart}
use Rattle.heap.specs.HeapShown.{HeapShown, CallerShown}
use Rattle.op_guard.specs.Regions.{KeepsUnit}
use Rattle.slots.specs.RegionBeginning.{greatest, live_serials, serial_at_first}
use Rattle.slots.specs.Books.{BooksShown, RegionShown}
use Rattle.slots.specs.WrittenRecords.{ends_version, inserts}
use Rattle.slots.specs.Serials.{is_queue}
use Rattle.structure_call.specs.Calling.{HasAnsweredCall}
use Rattle.structure_call.specs.CountedNumbers.{HasCounted, IsCountedFrom, AreVersionsWithin, FreshAreCounted, RecoveredAreCounted, AnswersAreCounted, RefusalsAreCounted, LacksSerial, LacksNumber, NumbersEnd, greatest_opened, objects_opened, opened_with, records_opened}
use Rattle.structure_call.specs.Planning.{IsPlan, Makes, adds_item, first_at_end}
use Rattle.structure_call.specs.Standing.{ShowsHistory}
use Rattle.structure_call.proofs.ChangeEffects.{inserts_are, queue_of, step_fits}
use Rattle.structure_call.proofs.Insertions.{few_inserted, some_counted}
use Rattle.structure_call.proofs.NamedThings.{step_names}
use Rattle.structure_call.proofs.SerialsGiven.{some_enqueued}
use Rattle.structure_call.proofs.VersionsWithin.{first_versions, kept_versions, more_versions, versions_end}

-- ---- at first
module _ (heap : HeapShown) (r : RegionShown) where
  abbrev opened : List Held
  opened = records_opened heap r.books.unit

  -- a unit has the records that it was opened with, has answered nothing, and its next numbers are those after the records
  pub counted_at_first : r.books.identity ≡ greatest_opened heap r.books.unit + 1
      → r.books.serial ≡ serial_at_first heap.opening.layout r.books.unit opened → r.seat.known.part.records ≡ opened
      → r.seat.known.part.history ≡ [] → HasCounted heap r
  counted_at_first identity serial records none = λ running states recovered.
      let base = opened_with heap states r.books.unit in
      let inserted : insertions base r.seat.known.part.history ≡ 0 = ap (insertions base) none in
      let added : enqueued base r.seat.known.part.history ≡ 0 = ap (enqueued base) none in
      record {
        identity = omega (arith, identity, inserted);
        versions =
            subst (λ (x : ℕ × List Held). AreVersionsWithin heap.opening.layout r.books.unit (objects_opened heap r.books.unit) x.0 x.1)
            (λ i. (sym (ap (changes_made base) none) i, sym records i)) (first_versions heap.opening.layout r.books.unit opened);
        serial = omega (arith, serial, added);
      }

serial_of_none : (s : Shape) (unit : ℕ) → serial_at_first s unit [] ≡ 1
serial_of_none s unit = by (is_queue s unit)
  where
    by : (t : Bool) → cond t (greatest (live_serials []) + 1) 1 ≡ 1
    by true = refl
    by false = refl

pub fresh_are_counted : FreshAreCounted
fresh_are_counted heap r empty books begins =
    counted_at_first heap r
    (ap (λ (b : BooksShown). b.identity) books ∙ sym (ap (λ (rs : List Held). greatest_by identity_of rs + 1) empty))
    (ap (λ (b : BooksShown). b.serial) books ∙ sym (serial_of_none heap.opening.layout r.books.unit)
    ∙ sym (ap (serial_at_first heap.opening.layout r.books.unit) empty))
    (begins.records_are ∙ sym empty) begins.history

pub recovered_are_counted : RecoveredAreCounted
recovered_are_counted heap r lost books begins =
    counted_at_first heap r
    (ap (λ (b : BooksShown). b.identity) books
    ∙ ap (λ (n : ℕ). n + 1) (fold-map max identity_of 0 (records_opened heap r.books.unit)))
    (ap (λ (b : BooksShown). b.serial) books)
    begins.records_are begins.history

-- ---- after a call
-- a region is the unit's still
module _ (heap : HeapShown) (new : RegionShown) (unit : ℕ) (same : new.books.unit ≡ unit) (states : List State) where
  counted_in : new.books.identity ≡ greatest_opened heap unit + insertions (opened_with heap states unit) new.seat.known.part.history + 1
      → AreVersionsWithin heap.opening.layout unit (objects_opened heap unit)
      (changes_made (opened_with heap states unit) new.seat.known.part.history) new.seat.known.part.records
      → new.books.serial ≡ serial_at_first heap.opening.layout unit (records_opened heap unit)
      + enqueued (opened_with heap states unit) new.seat.known.part.history
      → IsCountedFrom heap new (opened_with heap states new.books.unit)
  counted_in identity versions serial = record {
    identity = subst (λ (u : ℕ). new.books.identity
        ≡ greatest_opened heap u + insertions (opened_with heap states u) new.seat.known.part.history + 1) (sym same) identity;
    versions = subst (λ (u : ℕ). AreVersionsWithin heap.opening.layout u (objects_opened heap u)
        (changes_made (opened_with heap states u) new.seat.known.part.history) new.seat.known.part.records) (sym same) versions;
    serial = subst (λ (u : ℕ). new.books.serial ≡ serial_at_first heap.opening.layout u (records_opened heap u)
        + enqueued (opened_with heap states u) new.seat.known.part.history) (sym same) serial;
  }

module _ (heap : HeapShown) (old new : RegionShown) (q r : CallerShown) (op : Op) (receipt : Receipt)
    (a : HasAnsweredCall heap old new q r op receipt) (states : List State)
    (recovered : IsRecovered heap.opening.layout heap.opening.words states) where
  abbrev base : State
  base = opened_with heap states old.books.unit

  abbrev history : List Entry
  history = old.seat.known.part.history

  -- the state on which it was judged is the one to which the entries had led
  judged_behind : a.judged.state ≡ state_after base history
  judged_behind =
      one_state heap.opening.layout old.books.unit old.seat.known.part.records a.judged.state (state_after base history)
      a.judged.shown (a.showed states recovered)

  -- and what is counted of its effects is counted of one entry more
  counted_more : (count : List Effect → ℕ)
      → sum_over count base new.seat.known.part.history ≡ sum_over count base history + count (step a.judged.state op).effects
  counted_more count =
      let asked : receipt.entry.op ≡ op = ap (λ (x : Receipt). x.entry.op) a.receipt_is in
      ap (sum_over count base) a.history ∙ sum_more count base history receipt.entry
      ∙ (λ i. sum_over count base history + count (step (sym judged_behind i) (asked i)).effects)

  versions_after : AreVersionsWithin heap.opening.layout old.books.unit (objects_opened heap old.books.unit) (changes_made base history)
      old.seat.known.part.records
      → AreVersionsWithin heap.opening.layout old.books.unit (objects_opened heap old.books.unit)
      (changes_made base new.seat.known.part.history) new.seat.known.part.records
  versions_after within =
      subst (λ (x : ℕ × List Held). AreVersionsWithin heap.opening.layout old.books.unit (objects_opened heap old.books.unit) x.0 x.1)
      (λ i. (sym (counted_more length) i, sym a.wrote.records_are i))
      (let kind = the_kind (kind_of heap.opening.layout old.books.unit) a.judged.state a.judged.shown.of_unit in
      more_versions heap.opening.layout old.books.unit (objects_opened heap old.books.unit) (changes_made base history) a.wrote.kept
      (kept_versions heap.opening.layout old.books.unit (objects_opened heap old.books.unit) (changes_made base history)
      old.seat.known.part.records a.wrote.kept a.wrote.live within)
      kind.0 kind.1 (step a.judged.state op).effects a.wrote.written a.wrote.are_effects
      (step_names kind.0 a.judged.state op kind.2 a.judged.of_unit.texts))

  answer_counted : IsCountedFrom heap old base → IsCountedFrom heap new (opened_with heap states new.books.unit)
  answer_counted before =
      let identity = before.identity in
      let serial = before.serial in
      let inserted = counted_more (count_by is_insertion) in
      let added = counted_more (count_by is_enqueuing) in
      let given = a.identity in
      let next = a.serial in
      counted_in heap new old.books.unit a.of_unit states (omega (arith, identity, inserted, given)) (versions_after before.versions)
      (omega (arith, serial, added, next))

pub answers_are_counted : AnswersAreCounted
answers_are_counted heap old new q r op receipt running a counted = λ runs states recovered.
    answer_counted heap old new q r op receipt a states recovered (counted running states recovered)

-- the same records are live, and the same numbers are next
kept_counted : (heap : HeapShown) (old new : RegionShown) → old.books.halted ≡ None → KeepsUnit old new → HasCounted heap old
    → HasCounted heap new
kept_counted heap old new running keeps counted = λ runs states recovered.
    let before = counted running states recovered in
    let base = opened_with heap states old.books.unit in
    let same = keeps.history in
    let identity = before.identity in
    let serial = before.serial in
    let given = keeps.identity in
    let next = keeps.serial in
    let inserted : insertions base new.seat.known.part.history ≡ insertions base old.seat.known.part.history = ap (insertions base) same in
    let added : enqueued base new.seat.known.part.history ≡ enqueued base old.seat.known.part.history = ap (enqueued base) same in
    counted_in heap new old.books.unit keeps.of_unit states (omega (arith, identity, given, inserted))
    (subst (λ (n : ℕ). AreVersionsWithin heap.opening.layout old.books.unit (objects_opened heap old.books.unit) n
    new.seat.known.part.records) (sym (ap (changes_made base) same))
    (kept_versions heap.opening.layout old.books.unit (objects_opened heap old.books.unit)
    (changes_made base old.seat.known.part.history) old.seat.known.part.records new.seat.known.part.records
    (λ identity. keeps.live identity) before.versions))
    (omega (arith, serial, next, added))

pub refusals_are_counted : RefusalsAreCounted
refusals_are_counted heap old new q r op (Halted unit by) running k counted = subst (HasCounted heap) (sym k.2.same) counted
refusals_are_counted heap old new q r op (CountEnd which) running k counted = subst (HasCounted heap) (sym k.ends.1.same) counted
refusals_are_counted heap old new q r op Memory running k counted = subst (HasCounted heap) (sym k.0) counted
refusals_are_counted heap old new q r op (Full need free clock) running k counted =
    kept_counted heap old new running k.leaves.1.keeps counted
refusals_are_counted heap old new q r op (Cut unit) running k counted = λ runs. let by = k.leaves.1.by in absurd (cc)

-- ---- at the end
-- the first number at its end
abbrev IsAtEnd : CallerPart → RegionShown → List Change → Which → Type 0
IsAtEnd q r cs ends.Call = LAST < q.calls
IsAtEnd q r cs ends.Place = LAST < r.books.places
IsAtEnd q r cs ends.Identity = LAST + 1 - r.books.identity < inserts cs
IsAtEnd q r cs ends.Version = list_any (ends_version r.seat.known.part.records) cs ≡ true
IsAtEnd q r cs ends.Serial = (adds_item r.books cs ≡ true) × (LAST < r.books.serial)

here_or_later : (P : Which → Type 0) (b : Bool) (w : Which) (rest : Option Which) (which : Which) → (b ≡ true → P w)
    → (rest ≡ Some which → P which) → cond b (Some w) rest ≡ Some which → P which
here_or_later P true w rest which here later e = subst P (same_Some w which e) (here refl)
here_or_later P false w rest which here later e = later e

is_below : (m n : ℕ) → nat_lt m n ≡ true → m < n
is_below m n e = grind (arith, nat_tests)

serial_ends : (adds : Bool) (serial : ℕ) → (adds && nat_lt LAST serial) ≡ true → (adds ≡ true) × (LAST < serial)
serial_ends true serial e = (refl, is_below LAST serial e)
serial_ends false serial e = absurd (cc)

pub at_end : (q : CallerPart) (r : RegionShown) (cs : List Change) (which : Which) → first_at_end q r cs ≡ Some which → IsAtEnd q r cs which
at_end q r cs which =
    here_or_later (IsAtEnd q r cs) (nat_lt LAST q.calls) ends.Call _ which (is_below LAST q.calls)
    (here_or_later (IsAtEnd q r cs) (nat_lt LAST r.books.places) ends.Place _ which (is_below LAST r.books.places)
    (here_or_later (IsAtEnd q r cs) (nat_lt (LAST + 1 - r.books.identity) (inserts cs)) ends.Identity _ which
    (is_below (LAST + 1 - r.books.identity) (inserts cs))
    (here_or_later (IsAtEnd q r cs) (list_any (ends_version r.seat.known.part.records) cs) ends.Version _ which (λ t. t)
    (here_or_later (IsAtEnd q r cs) (adds_item r.books cs && nat_lt LAST r.books.serial) ends.Serial None which
    (serial_ends (adds_item r.books cs) r.books.serial) (λ none. absurd (cc))))))

module _ (heap : HeapShown) (old : RegionShown) (q : CallerPart) (op : Op) (reply : Reply) (changes : List Change)
    (layout : old.books.layout ≡ heap.opening.layout) (plan : IsPlan old op reply changes) (states : List State)
    (shown : HasStructure heap.opening.layout old.books.unit old.seat.known.part.records
    (state_after (opened_with heap states old.books.unit) old.seat.known.part.history))
    (counted : IsCountedFrom heap old (opened_with heap states old.books.unit)) where
  abbrev opened_base : State
  opened_base = opened_with heap states old.books.unit

  abbrev reached : State
  reached = state_after opened_base old.seat.known.part.history

  planned : plan.state ≡ reached
  planned =
      one_state heap.opening.layout old.books.unit old.seat.known.part.records plan.state reached
      (subst (λ (s : Shape). HasStructure s old.books.unit old.seat.known.part.records plan.state) layout plan.shown) shown

  makes : AllZip (Makes old.books old.seat.known.part.records) (step reached op).effects changes
  makes = subst (λ (s : State). AllZip (Makes old.books old.seat.known.part.records) (step s op).effects changes) planned plan.makes

  lacks_identity : LAST + 1 - old.books.identity < inserts changes
      → LacksIdentity (records_opened heap old.books.unit) opened_base old.seat.known.part.history op
  lacks_identity above =
      let many = inserts_are old.books old.seat.known.part.records (step reached op).effects changes makes in
      let few = few_inserted reached op in
      let here = counted.identity in
      (some_counted is_insertion (step reached op).effects (omega (arith, above, many)), omega (arith, above, many, few, here))

  lacks_versions : list_any (ends_version old.seat.known.part.records) changes ≡ true
      → LacksVersions (records_opened heap old.books.unit) opened_base old.seat.known.part.history op
  lacks_versions ends =
      let kind = the_kind (kind_of heap.opening.layout old.books.unit) reached shown.of_unit in
      versions_end heap.opening.layout old.books.unit (objects_opened heap old.books.unit)
      (changes_made opened_base old.seat.known.part.history) old.seat.known.part.records counted.versions kind.0 kind.1
      old.books (step reached op).effects changes makes (step_names kind.0 reached op kind.2 plan.of_unit.texts) ends

  lacks_serial : adds_item old.books changes ≡ true → LAST < old.books.serial → LacksSerial heap old op opened_base
  lacks_serial adds above =
      let queue : is_queue old.books.layout old.books.unit ≡ true = queue_of old.books.layout old.books.unit changes adds in
      let here : is_queue heap.opening.layout old.books.unit ≡ true
      = ap (λ (s : Shape). is_queue s old.books.unit) (sym layout) ∙ queue in
      let first : serial_at_first heap.opening.layout old.books.unit (records_opened heap old.books.unit)
      ≡ greatest (live_serials (records_opened heap old.books.unit)) + 1
      = ap (λ (t : Bool). cond t (greatest (live_serials (records_opened heap old.books.unit)) + 1) 1) here in
      let serial = counted.serial in
      record {
        of_queue = of_one_kind (kind_of heap.opening.layout old.books.unit) kinds.Queue here;
        adds =
            some_enqueued old.books old.seat.known.part.records (is_state_of kinds.Queue reached)
            (ap (λ (s : Shape). is_queue s old.books.unit) layout
            ∙ is_queue_by_state (kind_of heap.opening.layout old.books.unit) reached shown.of_unit)
            (step reached op).effects changes (step_fits reached op) makes adds;
        none_left = omega (arith, above, serial, first);
      }

  pub lacks_number : (which : Which) → IsAtEnd q old changes which → LacksNumber heap old q op opened_base which
  lacks_number ends.Call k = k
  lacks_number ends.Place k = k
  lacks_number ends.Identity k = lacks_identity k
  lacks_number ends.Version k = lacks_versions k
  lacks_number ends.Serial k = lacks_serial k.0 k.1

pub numbers_end : NumbersEnd
numbers_end heap old new q r op which layout k counted states recovered =
    lacks_number heap old q.known.part op k.reply k.changes layout k.plan states
    (subst (ShowsHistory heap) k.ends.1.same k.ends.1.showed states recovered) (counted k.running states recovered) which
    (at_end q.known.part old k.changes which k.ends.0)
