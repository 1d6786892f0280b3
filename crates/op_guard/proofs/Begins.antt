-- A unit that registers once it has taken a note of the caller.
use Rattle.std.proofs.Common.{◌≡◌, ℕ, ◌+◌, ◌<◌, ◌≤◌, length, max, refl, ap, sym, ◌∙◌, subst, arith, false}
use Rattle.std.specs.Prelude.{Err, IfErr}
use Rattle.std.specs.declared.result.Result.{Result}
use Rattle.mont_base.specs.Layout.{units_of}
use Rattle.mont_laws.specs.Records.{live_of}
use Rattle.core_steps.specs.Notes.{last_epoch}
use Rattle.core_steps.specs.declared.parts.UnitStage.{UnitStage}
use Rattle.core_steps.specs.declared.parts.UnitStage.TheVariants.{Within}
use Rattle.heap.specs.HeapShown.{HeapShown, UnitShown, CallerShown}
use Rattle.heap_pass.proofs.Cleanness.{are_clean-append}
use Rattle.heap_rule.specs.Plays.{IsClock}
use Rattle.heap_rule.specs.declared.views.Learnt.{Learnt}
use Rattle.heap_rule.specs.declared.views.UnitTurn.{UnitTurn}
use Rattle.heap_rule.specs.Views.{home_turn, learnt_more}
use Rattle.announce.specs.declared.register_refusal.RegisterRefusal.{RegisterRefusal}
use Rattle.announce.specs.Registering.{Comes, HasMoved, IsRegistered, IsRegisteredAt, IsOut, LeavesOut}
use Rattle.slots.specs.Books.{RegionShown, IsAtRest}
use Rattle.slots.specs.Putting.{MayWrite}
use Rattle.op_guard.specs.declared.guard.Guard.{Guard}
use Rattle.op_guard.specs.Regions.{IsRunning, IsReady, KeepsUnit, region_shown}
use Rattle.op_guard.specs.Guarding.{HasBegun, HasClosedFirst, HasLearntOf, HasMadeRoom, HasStayedOut}

-- the region with another seat
abbrev pub region_with : RegionShown → UnitShown → RegionShown
region_with r seat = record { seat = seat; books = r.books }

-- ---- a unit's seat takes a note of the caller
-- an operation may begin as before: it knows as many units to be clean
ready_shown : (heap : HeapShown) (r : RegionShown) (q : CallerShown) → IsReady heap r → IsReady heap (region_shown r q)
ready_shown heap r q ready = record {
  runs = record {
    of_heap = record { table = ready.runs.of_heap.table; layout = ready.runs.of_heap.layout };
    agrees = ready.runs.agrees;
    running = ready.runs.running;
    clean = are_clean-append (units_of heap.opening.layout) r.seat.known.clean q.known.clean ready.runs.clean;
  };
  rests = ready.rests;
  home = ready.home;
}

pub ready_as_shown : (heap : HeapShown) (r now : RegionShown) (q : CallerShown) → now ≡ region_shown r q → IsReady heap r
    → IsReady heap now
ready_as_shown heap r now q is ready = subst (IsReady heap) (sym is) (ready_shown heap r q ready)

-- ---- it registers
-- the guard of an operation of which nothing is written
abbrev pub guard_at : ℕ → ℕ → ℕ → ℕ → Guard
guard_at unit by epoch need = record { unit = unit; by = by; epoch = epoch; need = need; written = 0 }

-- it may make steps at whatever stage
pub runs_at : (heap : HeapShown) (r : RegionShown) (stage : UnitStage) (steps loaded : ℕ) (seat : UnitShown)
    → IsRunning heap r → Comes r.seat seat stage steps loaded → IsRunning heap (region_with r seat)
runs_at heap r stage steps loaded seat runs comes =
    subst (λ (s : UnitShown). IsRunning heap (region_with r s)) (sym comes) (record {
      of_heap = record { table = runs.of_heap.table; layout = runs.of_heap.layout };
      agrees = runs.agrees;
      running = runs.running;
      clean = runs.clean;
    })

-- also where it didn't register
pub runs_out : (heap : HeapShown) (r : RegionShown) (seat : UnitShown) → IsRunning heap r → IsOut r.seat seat
    → IsRunning heap (region_with r seat)
runs_out heap r seat runs out =
    runs_at heap r seat.known.part.stage seat.known.steps seat.known.loaded seat runs out.only

-- and has its list at home
pub home_out : (r : RegionShown) (seat : UnitShown) → r.seat.known.turn ≡ home_turn → IsOut r.seat seat → seat.known.turn.out ≡ false
home_out r seat home out = ap (λ (s : UnitShown). s.known.turn.out) out.only ∙ ap (λ (t : UnitTurn). t.out) home

-- an operation is under way, once the unit is within the epoch
begun_within : (heap : HeapShown) (old r : RegionShown) (q : CallerShown) (need epoch steps : ℕ) (seat : UnitShown)
    → IsReady heap r → KeepsUnit old r → need ≤ length r.books.free → Comes r.seat seat (Within epoch) steps epoch
    → IsClock r.seat.known.learnt r.seat.known.part epoch → q.known.part.newest ≤ epoch → q.known.part.durable ≤ epoch
    → (need ≤ length old.books.free → r.books ≡ old.books)
    → (length old.books.free < need → HasClosedFirst old (region_with r seat) q epoch)
    → HasBegun heap old (region_with r seat) q need (guard_at r.books.unit q.known.caller epoch need)
begun_within heap old r q need epoch steps seat ready keeps room comes clock newest durable same closed =
    let runs = runs_at heap r (Within epoch) steps epoch seat ready.runs comes in
    let low = clock.low in
    let before : old.seat.known.part.durable ≤ r.seat.known.part.durable = keeps.durable in
    let known : r.seat.known.part.durable ≤ epoch = clock.after_durable in
    let entries : last_epoch r.seat.known.part.history ≤ epoch = clock.after_entries in
    record {
      guard_is = ap (λ (u : ℕ). guard_at u q.known.caller epoch need) keeps.of_unit;
      under_way = record {
        runs = runs;
        of_unit = refl;
        registered = subst (λ (s : UnitShown). MayWrite s.known.part epoch) (sym comes) (record {
          stage = refl;
          whole = ready.rests.writing;
          some = omega arith;
          last = clock.high;
        });
        home = ap (λ (s : UnitShown). s.known.turn) comes ∙ ready.home;
        wrote = ap (λ (s : UnitShown). length s.known.part.written) comes ∙ ap length ready.rests.written;
        few = omega arith;
        room = omega arith;
      };
      reached = record {
        first = low;
        not_before = newest;
        not_behind = durable;
        after_entries = subst (λ h. last_epoch h ≤ epoch) keeps.history entries;
        after_durable = omega arith;
      };
      keeps = record {
        of_unit = keeps.of_unit;
        history = ap (λ (s : UnitShown). s.known.part.history) comes ∙ keeps.history;
        live = λ identity. ap (λ (s : UnitShown). live_of identity s.known.part.records) comes ∙ keeps.live identity;
        identity = keeps.identity;
        serial = keeps.serial;
        durable = subst (λ (s : UnitShown). old.seat.known.part.durable ≤ s.known.part.durable) (sym comes) before;
      };
      enough = same;
      reclaimed = closed;
    }

-- after room that was made
pub has_begun : (heap : HeapShown) (old r : RegionShown) (q : CallerShown) (need epoch : ℕ) (seat : UnitShown)
    → IsReady heap r → KeepsUnit old r → r.seat.known.learnt ≡ learnt_more old.seat.known.learnt q.known.part
    → need ≤ length r.books.free → HasMadeRoom old r q need
    → IsRegistered r.seat seat epoch → IsClock r.seat.known.learnt r.seat.known.part epoch
    → HasBegun heap old (region_with r seat) q need (guard_at r.books.unit q.known.caller epoch need)
has_begun heap old r q need epoch seat ready keeps knows room made registered clock =
    let newest : max old.seat.known.learnt.newest q.known.part.newest ≤ epoch =
    subst (λ (l : Learnt). l.newest ≤ epoch) knows clock.not_before in
    let durable : max old.seat.known.learnt.durable q.known.part.durable ≤ epoch =
    subst (λ (l : Learnt). l.durable ≤ epoch) knows clock.not_behind in
    begun_within heap old r q need epoch seat.known.steps seat ready keeps room registered.within clock (omega arith) (omega arith)
    (λ few. ap (λ (s : RegionShown). s.books) (made.enough few))
    (λ few. let k = made.reclaimed few in
    record { emptied = r; clock = k.0; reclaimed = k.1; registered = registered; books = refl })

-- at an epoch that was asked for
pub has_begun_at : (heap : HeapShown) (old : RegionShown) (q : CallerShown) (need epoch : ℕ) (seat : UnitShown)
    → IsReady heap old → HasLearntOf old q → need ≤ length old.books.free → IsRegisteredAt old.seat seat epoch
    → HasBegun heap old (region_with old seat) q need (guard_at old.books.unit q.known.caller epoch need)
has_begun_at heap old q need epoch seat ready learnt room registered =
    let clock = registered.clock in
    let newest = clock.not_before in
    let durable = clock.not_behind in
    let seen = learnt.newest in
    let known = learnt.durable in
    begun_within heap old old q need epoch (old.seat.known.steps + 2) seat ready
    (record { of_unit = refl; history = refl; live = λ identity. refl; identity = refl; serial = refl; durable = omega arith })
    room registered.within clock (omega arith) (omega arith) (λ enough. refl) (λ few. absurd (omega arith))

-- what a refusal leaves of the seat
pub left_out : {T : Type 0} (old new : UnitShown) (epoch : ℕ) (answer : Result T RegisterRefusal) (why : RegisterRefusal)
    → answer ≡ Err why → IfErr answer (λ refusal. LeavesOut old new epoch refusal) → LeavesOut old new epoch why
left_out {T} old new epoch answer why is k =
    subst (λ (x : Result T RegisterRefusal). IfErr x (λ refusal. LeavesOut old new epoch refusal)) is k

-- and where the clock showed another one
pub has_stayed_out : (heap : HeapShown) (old : RegionShown) (epoch clock : ℕ) (seat : UnitShown) → IsReady heap old
    → HasMoved old.seat seat epoch clock → HasStayedOut heap old (region_with old seat) epoch clock
has_stayed_out heap old epoch clock seat ready moved = record {
  ready = record {
    runs = runs_at heap old old.seat.known.part.stage (old.seat.known.steps + 3) clock seat ready.runs moved.as_before;
    rests = subst (λ (s : UnitShown). IsAtRest s.known.part) (sym moved.as_before)
        (record { stage = ready.rests.stage; written = ready.rests.written; writing = ready.rests.writing });
    home = ap (λ (s : UnitShown). s.known.turn) moved.as_before ∙ ready.home;
  };
  books = refl;
  moved = moved;
}

-- the same of what has these values
pub begun_as : (heap : HeapShown) (old r now : RegionShown) (q : CallerShown) (need epoch unit by : ℕ) (seat : UnitShown)
    → now ≡ region_with r seat → unit ≡ r.books.unit → by ≡ q.known.caller
    → HasBegun heap old (region_with r seat) q need (guard_at r.books.unit q.known.caller epoch need)
    → HasBegun heap old now q need (guard_at unit by epoch need)
begun_as heap old r now q need epoch unit by seat now_is unit_is by_is =
    subst (λ (x : RegionShown × ℕ × ℕ). HasBegun heap old x.0 q need (guard_at x.1 x.2 epoch need))
    (λ i. (sym now_is i, sym unit_is i, sym by_is i))
