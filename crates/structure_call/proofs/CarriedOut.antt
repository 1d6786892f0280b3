-- What an operation leaves that was carried out as planned.
use Rattle.std.proofs.Common.{◌≡◌, ℕ, ◌<◌, ◌≤◌, true, List, [], ◌∷◌, ◌++◌, length, append-nil, refl, sym, ap, ◌∙◌, subst, arith}
use Rattle.std.specs.Prelude.{◌≢◌, slice_set, All, Option, Some, None, count_by}
use Rattle.std.specs.List.{AllZip}
use Rattle.std.proofs.lemmas.List.Elements.{All-cons, All-nil, All-contains, Contains-append_left}
use Rattle.mont_base.specs.declared.constants.TheConstants.{LAST}
use Rattle.mont_base.specs.declared.effect.Effect.{Effect}
use Rattle.mont_base.specs.declared.kinds.UnitKind.TheVariants as unit_kinds
use Rattle.mont_base.specs.declared.operation.Entry.{Entry}
use Rattle.mont_base.specs.declared.operation.Op.{Op}
use Rattle.mont_base.specs.declared.operation.Receipt.{Receipt}
use Rattle.mont_base.specs.declared.operation.Reply.{Reply}
use Rattle.mont_base.specs.declared.record.Change.{Change}
use Rattle.mont_base.specs.declared.record.Held.{Held}
use Rattle.mont_base.specs.Counting.{is_enqueuing, is_insertion}
use Rattle.mont_base.specs.Layout.{Shape, kind_of, is_of_kind}
use Rattle.mont_base.specs.State.{is_state_of, step}
use Rattle.mont_base.specs.Versions.{newest_of}
use Rattle.mont_laws.specs.Effects.{IsOpOf, IsNewSerial, AreEffects}
use Rattle.mont_laws.specs.Records.{live_of}
use Rattle.mont_laws.specs.Structures.{HasStructure}
use Rattle.mont_laws.proofs.SameKind.{is_queue_by_state}
use Rattle.mont_laws.proofs.Newest.{newest_is}
use Rattle.mont_laws.proofs.Shown.{effects_lead}
use Rattle.core_steps.specs.declared.parts.UnitPart.{UnitPart}
use Rattle.core_steps.specs.CallAnswers.{IsJudged, CanLeave, CanRead, after_answer}
use Rattle.heap.specs.HeapShown.{HeapShown, CallerShown}
use Rattle.heap.specs.Receipts.{receipt_of}
use Rattle.heap_rule.specs.Plays.{answer_of}
use Rattle.slots.specs.Books.{BooksShown, RegionShown, HasLowerIdentity}
use Rattle.slots.specs.Serials.{IsNextSerial}
use Rattle.slots.specs.WrittenRecords.{record_by, identity_after, has_serial, serial_in}
use Rattle.op_guard.specs.declared.guard.Guard.{Guard}
use Rattle.op_guard.specs.Answered.{HasCommitted, HasRead}
use Rattle.op_guard.specs.Guarding.{HasBegun, IsReachedBy}
use Rattle.op_guard.specs.Regions.{IsReady}
use Rattle.op_guard.proofs.Committed.{seen_at}
use Rattle.structure_call.specs.Calling.{HasAnsweredCall}
use Rattle.structure_call.specs.Carrying.{CanPutAll, HasWrittenAll, HasCarried, records_by, serial_behind}
use Rattle.structure_call.specs.Planning.{IsPlan, Makes, adds_item, first_at_end}
use Rattle.structure_call.proofs.ChangeEffects.{step_fits, effects_by, queue_of, inserts_are, none_made}
use Rattle.structure_call.proofs.ChangeNumbers.{AreLeft, numbers_left, all_live, versions_left, serials_left}
use Rattle.structure_call.proofs.SerialsGiven.{serial_given}
use Rattle.structure_call.proofs.SoundHistories.{sound_shows, shows_before}
use Rattle.structure_call.proofs.KeptPlans.{structure_kept, next_kept, all_kept}

-- the records are of the epoch
epochs_by : (unit next : ℕ) (kept : List Held) (epoch : ℕ) (cs : List Change) (slots : List ℕ)
    → All (λ (w : Held). w.label.epoch ≡ epoch) (records_by unit next kept epoch cs slots)
epochs_by unit next kept epoch [] slots = All-nil (λ (w : Held). w.label.epoch ≡ epoch)
epochs_by unit next kept epoch (c ∷ cs) [] = All-nil (λ (w : Held). w.label.epoch ≡ epoch)
epochs_by unit next kept epoch (c ∷ cs) (slot ∷ slots) =
    All-cons (λ (w : Held). w.label.epoch ≡ epoch) (record_by unit next kept c epoch slot)
    (records_by unit (identity_after next c) kept epoch cs slots) refl (epochs_by unit (identity_after next c) kept epoch cs slots)

-- some are written where something is changed
some_written : (unit next : ℕ) (kept : List Held) (epoch : ℕ) (cs : List Change) (slots : List ℕ) → length slots ≡ length cs
    → cs ≢ [] → records_by unit next kept epoch cs slots ≢ []
some_written unit next kept epoch [] slots long some e = some refl
some_written unit next kept epoch (c ∷ cs) [] long some e = absurd (omega arith)
some_written unit next kept epoch (c ∷ cs) (slot ∷ slots) long some e = absurd (cc)

empty_is : (ws : List Held) → length ws ≡ 0 → ws ≡ []
empty_is [] e = refl
empty_is (w ∷ ws) e = absurd (omega arith)

-- an identity that isn't given yet has no record
none_from : (records written : List Held) (identity n : ℕ) → All (HasLowerIdentity identity) (records ++ written) → identity ≤ n
    → newest_of n records ≡ None
none_from records written identity n numbered low = by (newest_of n records) refl
  where
    by : (o : Option Held) → newest_of n records ≡ o → o ≡ None
    by None e = refl
    by (Some r) e =
        let new = newest_is n records r e in
        let below : r.label.identity < identity = All-contains (HasLowerIdentity identity) (records ++ written) r numbered
        (Contains-append_left records written r new.there) in
        let same = new.identity in absurd (omega arith)

module _ (heap : HeapShown) (old : RegionShown) (q : CallerShown) (op : Op) (reply : Reply) (changes : List Change)
    (ready : IsReady heap old) (plan : IsPlan old op reply changes) (none_ends : first_at_end q.known.part old changes ≡ None) where
  left : AreLeft q.known.part old changes
  left = numbers_left q.known.part old changes none_ends

  abbrev effects : List Effect
  effects = (step plan.state op).effects

  of_kind : is_of_kind (kind_of old.books.layout old.books.unit) unit_kinds.Queue ≡ is_state_of unit_kinds.Queue plan.state
  of_kind = is_queue_by_state (kind_of old.books.layout old.books.unit) plan.state plan.shown.of_unit

  shape : old.books.layout ≡ heap.opening.layout
  shape = ready.runs.of_heap.layout

  op_is : IsOpOf heap.opening.layout old.books.unit op
  op_is = subst (λ (s : Shape). IsOpOf s old.books.unit op) shape plan.of_unit

  -- records with the same live ones show the same state
  shown_by : (records : List Held) → ((identity : ℕ) → live_of identity records ≡ live_of identity old.seat.known.part.records)
      → HasStructure heap.opening.layout old.books.unit records plan.state
  shown_by records live =
      subst (λ (s : Shape). HasStructure s old.books.unit records plan.state) shape
      (structure_kept old.seat.known.part.records records live old.books.layout old.books.unit plan.state plan.shown)

  -- so the operation is judged there as it was planned
  abbrev judged_in : (r : RegionShown) (told : Reply) → r.books.unit ≡ old.books.unit → told ≡ reply
      → ((identity : ℕ) → live_of identity r.seat.known.part.records ≡ live_of identity old.seat.known.part.records)
      → IsJudged heap.opening.layout r.books.unit r.seat.known.part op told
  judged_in r told unit is live = record {
    of_unit = subst (λ (u : ℕ). IsOpOf heap.opening.layout u op) (sym unit) op_is;
    state = plan.state;
    shown = subst (λ (u : ℕ). HasStructure heap.opening.layout u r.seat.known.part.records plan.state) (sym unit)
        (shown_by r.seat.known.part.records live);
    replies = is ∙ plan.replies;
  }

  -- ---- once the operation has begun
  module _ (mid : RegionShown) (guard : Guard) (begun : HasBegun heap old mid q (length changes) guard) where
    abbrev kept : List Held
    kept = mid.seat.known.part.records

    makes : AllZip (Makes old.books kept) effects changes
    makes = all_kept old.seat.known.part.records kept begun.keeps.live old.books effects changes plan.makes

    same_layout : mid.books.layout ≡ old.books.layout
    same_layout = begun.under_way.runs.of_heap.layout ∙ sym ready.runs.of_heap.layout

    -- there is a number for each change
    pub may_put_all : CanPutAll mid.books kept changes
    may_put_all = record {
      names = all_live old.books kept effects changes makes;
      identities = let few = left.identities in let same = begun.keeps.identity in omega arith;
      versions = versions_left old.books kept old.seat.known.part.records begun.keeps.live effects changes makes left.versions;
      serials =
          subst (λ (x : Shape × ℕ). All (λ (c : Change). has_serial x.0 x.1 c ≡ true → serial_in c ≤ LAST) changes)
          (λ i. (sym same_layout i, sym begun.keeps.of_unit i))
          (serials_left old.books kept old.books.layout old.books.unit (is_state_of unit_kinds.Queue plan.state) of_kind effects changes
          (step_fits plan.state op) left.serial makes);
    }

    -- an item gets a new serial
    new_serial : adds_item old.books changes ≡ true → IsNewSerial kept old.books.serial
    new_serial adds =
        let next = next_kept old.seat.known.part.records kept begun.keeps.live old.books.serial
        (subst (λ (ws : List Held). IsNextSerial old.seat.known.part.records ws old.books.serial) ready.rests.written
        (ready.runs.agrees.1.serials (queue_of old.books.layout old.books.unit changes adds))) in
        let some = next.some in
        let same = next.is in
        record {
          some = omega arith;
          last = left.serial adds;
          above = λ other there. let low = next.above other there in omega arith;
        }

    unused : (n : ℕ) → old.books.identity ≤ n → newest_of n kept ≡ None
    unused n low =
        let same = begun.keeps.identity in
        none_from kept mid.seat.known.part.written mid.books.identity n begun.under_way.runs.agrees.1.numbered (omega arith)

    -- ---- and its changes are written
    module _ (done : RegionShown) (g : Guard) (last : Option ℕ) (w : HasWrittenAll heap mid done guard g changes last) where
      abbrev written : ℕ → List Held
      written epoch = records_by old.books.unit old.books.identity kept epoch changes w.slots

      are_effects : (epoch : ℕ) → AreEffects old.books.unit kept effects (written epoch)
      are_effects epoch =
          effects_by old.books old.books.layout old.books.unit epoch kept (is_state_of unit_kinds.Queue plan.state) of_kind
          old.books.identity effects changes w.slots unused (step_fits plan.state op) new_serial makes w.each

      same_epoch : g.epoch ≡ guard.epoch
      same_epoch = ap (λ (x : Guard). x.epoch) w.guard_is

      none_before : mid.seat.known.part.written ≡ []
      none_before =
          empty_is mid.seat.known.part.written (begun.under_way.wrote ∙ ap (λ (x : Guard). x.written) begun.guard_is)

      same_records : done.seat.known.part.records ≡ kept
      same_records = ap (λ (p : UnitPart). p.records) w.part

      same_unit : done.books.unit ≡ old.books.unit
      same_unit = w.of_unit ∙ begun.keeps.of_unit

      written_is : done.seat.known.part.written ≡ written g.epoch
      written_is =
          ap (λ (p : UnitPart). p.written) w.part
          ∙ (λ i. none_before i
          ++ records_by (begun.keeps.of_unit i) (begun.keeps.identity i) kept (sym same_epoch i) changes w.slots)

      same_history : done.seat.known.part.history ≡ old.seat.known.part.history
      same_history = ap (λ (p : UnitPart). p.history) w.part ∙ begun.keeps.history

      -- ---- it may end
      pub may_leave : changes ≢ [] → CanLeave heap.opening.layout done.books.unit done.seat.known.part q.known.part op reply g.epoch
      may_leave some =
          let runs = w.under_way.runs in
          let places = left.place in
          let history = ready.runs.agrees.1.places_are in
          let longer : length done.seat.known.part.history ≡ length old.seat.known.part.history = ap length same_history in
          let newest = begun.reached.not_before in
          let epoch = same_epoch in
          record {
            unfrozen = sym runs.agrees.1.halted_is ∙ runs.running;
            stage = w.under_way.registered.stage;
            whole = w.under_way.registered.whole;
            some = λ e. some_written old.books.unit old.books.identity kept g.epoch changes w.slots w.each some (sym written_is ∙ e);
            judged = judged_in done reply same_unit refl
                (λ identity. ap (live_of identity) same_records ∙ begun.keeps.live identity);
            changes =
                subst (λ (x : ℕ × List Held × List Held). AreEffects x.0 x.1 effects x.2)
                (λ i. (sym same_unit i, sym same_records i, sym written_is i)) (are_effects g.epoch);
            numbers = record { place = omega arith; call = left.call };
            newest = omega arith;
          }

      -- ---- and has ended
      module _ (new : RegionShown) (r : CallerShown) (receipt : Receipt)
          (k : HasCommitted heap done new q r op reply g.epoch receipt) where
        abbrev entry_is : receipt.entry ≡ answer_of q.known op reply g.epoch
        entry_is = ap (λ (x : Receipt). x.entry) k.answered.receipt_is

        same_epoch_now : receipt.entry.epoch ≡ g.epoch
        same_epoch_now = ap (λ (e : Entry). e.epoch) entry_is

        pub reply_is : receipt.entry.reply ≡ reply
        reply_is = ap (λ (e : Entry). e.reply) entry_is

        records_are : new.seat.known.part.records ≡ kept ++ written receipt.entry.epoch
        records_are =
            ap (λ (p : UnitPart). p.records) k.part
            ∙ (λ i. same_records i ++ written_is i)
            ∙ ap (λ (epoch : ℕ). kept ++ written epoch) (sym same_epoch_now)

        same_seat : done.seat.known.unit ≡ old.seat.known.unit
        same_seat = sym w.under_way.runs.agrees.0 ∙ same_unit ∙ ready.runs.agrees.0

        serial_behind_all : new.books.serial ≡ serial_behind old.books.layout old.books.unit old.books.serial changes
        serial_behind_all =
            ap (λ (b : BooksShown). b.serial) k.answered.books ∙ w.serial
            ∙ (λ i. serial_behind (same_layout i) (begun.keeps.of_unit i) (begun.keeps.serial i) changes)

        -- what it leaves
        pub answered_call : HasAnsweredCall heap old new q r op receipt
        answered_call = record {
          showed =
              shows_before heap old done same_unit same_history
              (λ identity. ap (live_of identity) same_records ∙ begun.keeps.live identity)
              (sound_shows heap done w.under_way.runs.agrees.0 k.answered.sound_before);
          judged = judged_in old receipt.entry.reply refl reply_is (λ identity. refl);
          receipt_is =
              k.answered.receipt_is
              ∙ (λ i. record {
                unit = same_seat i;
                place = length (same_history i);
                entry = answer_of q.known op (sym reply_is i) (sym same_epoch_now i);
              });
          caller =
              k.answered.caller
              ∙ (λ i. record {
                table = q.table;
                known = record q.known {
                  part = after_answer q.known.part (same_seat i) (length (same_history i)) receipt.entry;
                  entries = slice_set q.known.entries (same_seat i) (same_history i ++ receipt.entry ∷ []);
                };
              });
          history = ap (λ (p : UnitPart). p.history) k.part ∙ (λ i. same_history i ++ receipt.entry ∷ []);
          seen = seen_at q.known old.seat.known done.seat.known same_seat same_history k.answered.seen;
          reached = subst (IsReachedBy q old) (sym (same_epoch_now ∙ same_epoch)) begun.reached;
          wrote = record {
            kept = kept;
            live = begun.keeps.live;
            written = written receipt.entry.epoch;
            records_are = records_are;
            are_effects = are_effects receipt.entry.epoch;
            epochs = epochs_by old.books.unit old.books.identity kept receipt.entry.epoch changes w.slots;
          };
          after =
              subst (λ (rs : List Held). HasStructure heap.opening.layout old.books.unit rs (step plan.state op).state) (sym records_are)
              (effects_lead heap.opening.layout old.books.unit kept (written receipt.entry.epoch) plan.state op op_is
              (shown_by kept begun.keeps.live) (are_effects receipt.entry.epoch));
          identity =
              ap (λ (b : BooksShown). b.identity) k.answered.books
              ∙ (let here = w.identity in let before = begun.keeps.identity in
              let many = inserts_are old.books kept effects changes makes in omega arith);
          serial = serial_behind_all ∙ serial_given old.books kept plan.state op changes of_kind makes;
          of_unit = ap (λ (b : BooksShown). b.unit) k.answered.books ∙ same_unit;
          ready = k.answered.ready;
          sound = k.answered.sound;
        }

        pub has_carried : HasCarried old new changes receipt last
        has_carried = record {
          kept = kept;
          live = begun.keeps.live;
          slots = w.slots;
          each = w.each;
          last_is = w.last_is;
          records_are = records_are;
          identity =
              ap (λ (b : BooksShown). b.identity) k.answered.books
              ∙ (let here = w.identity in let before = begun.keeps.identity in omega arith);
          serial = serial_behind_all;
        }

  -- ---- an operation that changes nothing
  module _ (none : changes ≡ []) where
    no_effects : effects ≡ []
    no_effects =
        none_made old.books old.seat.known.part.records effects
        (subst (λ (cs : List Change). AllZip (Makes old.books old.seat.known.part.records) effects cs) none plan.makes)

    are_none : AreEffects old.books.unit old.seat.known.part.records effects []
    are_none = subst (λ (es : List Effect). AreEffects old.books.unit old.seat.known.part.records es []) (sym no_effects) tt

    pub may_read : CanRead heap.opening.layout old.books.unit old.seat.known.part q.known.part op reply
    may_read =
        let places = left.place in
        let history = ready.runs.agrees.1.places_are in
        record {
          unfrozen = sym ready.runs.agrees.1.halted_is ∙ ready.runs.running;
          stage = ready.rests.stage;
          judged = judged_in old reply refl refl (λ identity. refl);
          changes = no_effects;
          numbers = record { place = omega arith; call = left.call };
        }

    module _ (new : RegionShown) (r : CallerShown) (receipt : Receipt) (k : HasRead heap old new q r op reply receipt) where
      pub read_reply : receipt.entry.reply ≡ reply
      read_reply = ap (λ (x : Receipt). x.entry.reply) k.answered.receipt_is

      same_records_read : new.seat.known.part.records ≡ old.seat.known.part.records ++ []
      same_records_read = ap (λ (p : UnitPart). p.records) k.part ∙ sym (append-nil old.seat.known.part.records)

      same_identity : new.books.identity ≡ old.books.identity
      same_identity = ap (λ (b : BooksShown). b.identity) k.answered.books

      pub answered_read : HasAnsweredCall heap old new q r op receipt
      answered_read = record {
        showed = sound_shows heap old ready.runs.agrees.0 k.answered.sound_before;
        judged = judged_in old receipt.entry.reply refl read_reply (λ identity. refl);
        receipt_is =
            k.answered.receipt_is
            ∙ ap (λ (told : Reply). receipt_of old.seat.known (answer_of q.known op told receipt.entry.epoch)) (sym read_reply);
        caller = k.answered.caller;
        history = ap (λ (p : UnitPart). p.history) k.part;
        seen = k.answered.seen;
        reached =
            let newest = k.clock.not_before in
            let durable = k.clock.not_behind in
            record {
              first = k.clock.low;
              not_before = omega arith;
              not_behind = omega arith;
              after_entries = k.clock.after_entries;
              after_durable = k.clock.after_durable;
            };
        wrote = record {
          kept = old.seat.known.part.records;
          live = λ identity. refl;
          written = [];
          records_are = same_records_read;
          are_effects = are_none;
          epochs = All-nil (λ (w : Held). w.label.epoch ≡ receipt.entry.epoch);
        };
        after =
            subst (λ (rs : List Held). HasStructure heap.opening.layout old.books.unit rs (step plan.state op).state)
            (sym same_records_read)
            (effects_lead heap.opening.layout old.books.unit old.seat.known.part.records [] plan.state op op_is
            (shown_by old.seat.known.part.records (λ identity. refl)) are_none);
        identity =
            let many : count_by is_insertion effects ≡ 0 = ap (count_by is_insertion) no_effects in
            let same = same_identity in omega arith;
        serial =
            let many : count_by is_enqueuing effects ≡ 0 = ap (count_by is_enqueuing) no_effects in
            let same : new.books.serial ≡ old.books.serial = ap (λ (b : BooksShown). b.serial) k.answered.books in omega arith;
        of_unit = ap (λ (b : BooksShown). b.unit) k.answered.books;
        ready = k.answered.ready;
        sound = k.answered.sound;
      }

      carried_none : HasCarried old new [] receipt None
      carried_none = record {
        kept = old.seat.known.part.records;
        live = λ identity. refl;
        slots = [];
        each = refl;
        last_is = refl;
        records_are = same_records_read;
        identity = let same = same_identity in omega arith;
        serial = ap (λ (b : BooksShown). b.serial) k.answered.books;
      }

      pub carried_read : HasCarried old new changes receipt None
      carried_read = subst (λ (cs : List Change). HasCarried old new cs receipt None) (sym none) carried_none
