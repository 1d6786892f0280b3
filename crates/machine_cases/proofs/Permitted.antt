-- What is judged by the readers of a region holds of the part that its seat shows.
use Rattle.std.proofs.Common.{◌≡◌, ℕ, ◌-◌, ◌+◌, ◌≤◌, List, [], ◌∷◌, map, sym, refl, ap, ◌∙◌, subst, arith, Bool, true, false}
use Rattle.std.specs.Prelude.{◌&&◌, ◌||◌, nat_lt, Option, Some, None, is_none, IsTrue, Ok, Err, OnOk, if◌then◌else◌}
use Rattle.std.specs.declared.result.Result.{Result}
use Rattle.std.specs.List.{list_any}
use Rattle.std.proofs.lemmas.Bool.Decides.{nat_tests}
use Rattle.mont_base.specs.declared.constants.TheConstants.{LAST}
use Rattle.mont_base.specs.declared.effect.Effect.{Effect}
use Rattle.mont_base.specs.declared.operation.Op.{Op}
use Rattle.mont_base.specs.declared.operation.Reply.{Reply}
use Rattle.mont_base.specs.declared.record.Change.{Change}
use Rattle.mont_base.specs.declared.record.Change.TheVariants.{Insert, Replace, Remove}
use Rattle.mont_base.specs.declared.record.Held.{Held}
use Rattle.mont_base.specs.declared.refusal.Which.TheVariants as ends
use Rattle.mont_base.specs.declared.kinds.UnitKind.TheVariants as unit_kinds
use Rattle.mont_base.specs.Layout.{Shape, kind_of, is_of_kind}
use Rattle.mont_base.specs.State.{step}
use Rattle.mont_laws.specs.Effects.{AreEffects}
use Rattle.mont_laws.specs.Records.{live_if}
use Rattle.core_steps.specs.declared.parts.UnitPart.{UnitPart}
use Rattle.core_steps.specs.declared.parts.CallerPart.{CallerPart}
use Rattle.core_steps.specs.declared.parts.UnitStage.{UnitStage}
use Rattle.core_steps.specs.declared.parts.UnitStage.TheVariants.{Idle, Within}
use Rattle.core_steps.specs.CallAnswers.{IsJudged, CanLeave, CanRead}
use Rattle.core_steps.specs.Announcing.{can_look}
use Rattle.core_steps.specs.Stages.{epoch_of, is_idle}
use Rattle.core_answer.specs.Newest.{HaveSameNewest}
use Rattle.core_answer.proofs.SameNewest.{same_structure, same_effects}
use Rattle.slots.specs.declared.books.Written.{Written}
use Rattle.slots.specs.Books.{BooksShown, RegionShown, Agrees, as_written}
use Rattle.slots.specs.WrittenRecords.{NamesLive, CanPut, ends_version, first_end, inserts, is_insert, serial_in}
use Rattle.op_guard.specs.declared.guard.Guard.{Guard}
use Rattle.op_guard.specs.Regions.{IsRunning}
use Rattle.machine_cases.specs.declared.engine.Engine.{Engine}
use Rattle.machine_cases.specs.Permits.{StandsFor}
use Rattle.machine_cases.specs.Working.{IsIdle, IsOperating}

-- ---- a change
-- the live record of an identity is the newest one's
pub same_names : (found records : List Held) (change : Change) → HaveSameNewest found records → NamesLive found change
    → NamesLive records change
same_names found records (Insert body) same named = named
same_names found records (Replace slot identity body) same named =
    record { live = named.live; is = ap live_if (sym (same identity)) ∙ named.is; in_slot = named.in_slot }
same_names found records (Remove slot identity) same named =
    record { live = named.live; is = ap live_if (sym (same identity)) ∙ named.is; in_slot = named.in_slot }

neither : (t : Bool) → (t || false) ≡ false → t ≡ false
neither true e = e
neither false e = e

second : (s t : Bool) → (s && t) ≡ true → t ≡ true
second true t e = e
second false t e = absurd (cc)

-- where no number is at its end, it may be written
pub may_put :
    (b : BooksShown) (records : List Held) (change : Change) → NamesLive records change
    → first_end b records (change ∷ []) false ≡ None → (IsTrue (is_insert change) → serial_in change ≤ LAST) → CanPut b records change
may_put b records change named none serial =
    by (nat_lt LAST b.places) (nat_lt (LAST + 1 - b.identity) (inserts (change ∷ []))) refl
    (list_any (ends_version records) (change ∷ [])) refl none
  where
    counted : (t : Bool) → is_insert change ≡ t → nat_lt (LAST + 1 - b.identity) (inserts (change ∷ [])) ≡ false
        → IsTrue t → b.identity ≤ LAST
    counted true e few t = let one : inserts (change ∷ []) ≡ 1 = grind (arith, nat_tests) in grind (arith, nat_tests)
    counted false e few t = absurd (cc)

    by : (t i : Bool) → nat_lt (LAST + 1 - b.identity) (inserts (change ∷ [])) ≡ i
        → (v : Bool) → list_any (ends_version records) (change ∷ []) ≡ v
        → (if t then Some ends.Place else (if i then Some ends.Identity else (if v then Some ends.Version else None))) ≡ None
        → CanPut b records change
    by true i few v ended e = absurd (cc)
    by false true few v ended e = absurd (cc)
    by false false few true ended e = absurd (cc)
    by false false few false ended e = record {
      names = named;
      identity = counted (is_insert change) refl few;
      version = neither (ends_version records change) ended;
      serial = λ has. serial (second (is_of_kind (kind_of b.layout b.unit) unit_kinds.Queue) (is_insert change) has);
    }

-- ---- an answer
unfrozen : (e : Engine) → IsRunning e.heap e.region → e.region.seat.known.part.frozen ≡ None
unfrozen e runs = sym runs.agrees.1.halted_is ∙ runs.running

-- an idle unit may look at the clock
pub may_look : (e : Engine) → IsIdle e → IsTrue (can_look e.region.seat.known.part)
may_look e idle = subst (λ (x : Option ℕ × UnitStage). IsTrue (is_none x.0 && is_idle x.1))
    (λ i. (sym (unfrozen e idle.ready.runs) i, sym idle.ready.rests.stage i)) refl

-- what is judged on the newest records
abbrev judged : (s : Shape) (u : ℕ) (p real : UnitPart) (op : Op) (reply : Reply) → HaveSameNewest p.records real.records
    → IsJudged s u p op reply
    → IsJudged s u real op reply
judged s u p real op reply same j = record {
  of_unit = j.of_unit;
  state = j.state;
  shown = same_structure s u p.records real.records same j.state j.shown;
  replies = j.replies;
}

may_leave :
    (g : Guard) (e : Engine) (s : Shape) (u : ℕ) (p : UnitPart) (q : CallerPart) (op : Op) (reply : Reply) → IsOperating g e
    → StandsFor (Within g.epoch) e.region p → q.calls ≡ e.pass.ticket.known.part.calls → q.newest ≡ e.pass.ticket.known.part.newest
    → CanLeave s u p q op reply (epoch_of p.stage)
    → CanLeave s u e.region.seat.known.part e.pass.ticket.known.part op reply g.epoch
may_leave g e s u p q op reply operates stands calls newest can =
    let real : UnitPart = e.region.seat.known.part in
    let effects : List Effect = (step can.judged.state op).effects in
    let at : epoch_of p.stage ≡ g.epoch = ap epoch_of stands.stage_is in
    let last = can.newest in
    let numbers = can.numbers.call in
    record {
      unfrozen = unfrozen e operates.under_way.runs;
      stage = operates.under_way.registered.stage;
      whole = operates.under_way.registered.whole;
      some = λ none. can.some (stands.written ∙ none);
      judged = judged s u p real op reply stands.newest can.judged;
      changes = subst (AreEffects u real.records effects) stands.written
          (same_effects p.records real.records stands.newest u effects p.written can.changes);
      numbers = record { place = stands.place; call = omega arith };
      newest = omega arith;
    }

may_read :
    (e : Engine) (s : Shape) (u : ℕ) (p : UnitPart) (q : CallerPart) (op : Op) (reply : Reply) → IsIdle e → StandsFor Idle e.region p
    → q.calls ≡ e.pass.ticket.known.part.calls → CanRead s u p q op reply
    → CanRead s u e.region.seat.known.part e.pass.ticket.known.part op reply
may_read e s u p q op reply idle stands calls can =
    let numbers = can.numbers.call in
    record {
      unfrozen = unfrozen e idle.ready.runs;
      stage = idle.ready.rests.stage;
      judged = judged s u p e.region.seat.known.part op reply stands.newest can.judged;
      changes = can.changes;
      numbers = record { place = stands.place; call = omega arith };
    }

-- what follows from an answer that is Ok follows from what it tells
pub on_ok : {T E P Q : Type 0} (r : Result T E) → (P → Q) → OnOk r P → OnOk r Q
on_ok (Ok x) f h = f h
on_ok (Err x) f h = tt

-- the layout and the unit are those that the readers tell
pub leave_permitted :
    (g : Guard) (e : Engine) (s : Shape) (u : ℕ) (p : UnitPart) (q : CallerPart) (op : Op) (reply : Reply)
    → s ≡ e.heap.opening.layout → u ≡ e.region.books.unit → IsOperating g e → StandsFor (Within g.epoch) e.region p
    → q.calls ≡ e.pass.ticket.known.part.calls → q.newest ≡ e.pass.ticket.known.part.newest → CanLeave s u p q op reply (epoch_of p.stage)
    → CanLeave e.heap.opening.layout e.region.books.unit e.region.seat.known.part e.pass.ticket.known.part op reply g.epoch
leave_permitted g e s u p q op reply layout unit operates stands calls newest can =
    subst (λ (x : Shape × ℕ). CanLeave x.0 x.1 e.region.seat.known.part e.pass.ticket.known.part op reply g.epoch)
    (λ i. (layout i, unit i)) (may_leave g e s u p q op reply operates stands calls newest can)

pub read_permitted :
    (e : Engine) (s : Shape) (u : ℕ) (p : UnitPart) (q : CallerPart) (op : Op) (reply : Reply)
    → s ≡ e.heap.opening.layout → u ≡ e.region.books.unit → IsIdle e → StandsFor Idle e.region p
    → q.calls ≡ e.pass.ticket.known.part.calls → CanRead s u p q op reply
    → CanRead e.heap.opening.layout e.region.books.unit e.region.seat.known.part e.pass.ticket.known.part op reply
read_permitted e s u p q op reply layout unit idle stands calls can =
    subst (λ (x : Shape × ℕ). CanRead x.0 x.1 e.region.seat.known.part e.pass.ticket.known.part op reply)
    (λ i. (layout i, unit i)) (may_read e s u p q op reply idle stands calls can)

-- ---- what was written
pub written_back : (records ws : List Held) → map (λ (w : Written). w.held) (map (as_written records) ws) ≡ ws
written_back records [] = refl
written_back records (w ∷ ws) = ap (λ (l : List Held). w ∷ l) (written_back records ws)

pub stands_for :
    (r : RegionShown) (stage : UnitStage) (p : UnitPart) (found : List Held) (written : List Written) → Agrees r → p.stage ≡ stage
    → p.records ≡ found → HaveSameNewest found r.seat.known.part.records → p.written ≡ map (λ (w : Written). w.held) written
    → written ≡ r.books.written → r.books.places ≤ LAST → StandsFor stage r p
stands_for r stage p found written agrees at records newest held are few =
    let places = agrees.1.places_are in
    record {
      stage_is = at;
      newest = subst (λ (l : List Held). HaveSameNewest l r.seat.known.part.records) (sym records) newest;
      written = held ∙ (ap (map (λ (w : Written). w.held)) (are ∙ agrees.1.written_are)
          ∙ written_back r.seat.known.part.records r.seat.known.part.written);
      place = omega arith;
    }
