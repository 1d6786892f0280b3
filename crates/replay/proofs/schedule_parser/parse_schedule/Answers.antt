use Rattle.std.proofs.Common.{◌≡◌, ◌<◌, ◌+◌, ◌==◌, Bool, true, false, ℕ, List, [], ◌∷◌, ◌++◌, length, sym, ap, subst, arith}
use Rattle.std.proofs.lemmas.List.{length-append, nil_from_length}
use Rattle.std.proofs.lemmas.Bool.Decides.{nat_tests}
use Rattle.replay.specs.declared.schedule.Schedule.{Schedule}
use Rattle.replay.specs.Schedules.{schedule_lines}
use Rattle.replay.specs.ScheduleText.{IsFirstRefused}
use Rattle.replay.specs.SchedulesRead.{BeginsWith, IsNoLine}
use Rattle.replay.proofs.Fronts.{lines_long}
use Rattle.replay.proofs.ScheduleFronts.{IsSoFar, no_first_line, no_title, begun, no_next_line, no_event, one_more, whole}
use Rattle.replay.proofs.schedule_parser.parse_schedule.Goals as goal

some_rest : (n : ℕ) (b : Bool) → b ≡ (n == 0) → b ≡ false → 0 < n
some_rest n b e h = grind (arith, nat_tests)

no_rest : (n : ℕ) (b : Bool) → b ≡ (n == 0) → b ≡ true → n ≡ 0
no_rest n b e h = grind (arith, nat_tests)

pub returns-in_default-clause-refused : goal.returns-in_default-clause-refused
returns-in_default-clause-refused c = λ more extends. no_first_line c.args.text.now more extends c.in_default.ensures

pub returns-in_default-read_title-clause-refused : goal.returns-in_default-read_title-clause-refused
returns-in_default-read_title-clause-refused c = λ more extends.
    no_title c.args.text.now more c.in-Some.title.now c.in-Some.rest.now c.in-Some.ensures c.in_default-read_title.ensures

pub loop-rest-init : goal.loop-rest-init
loop-rest-init c =
    let s : Schedule = record { layout = c.in-Some-read_title.named.0; callers = c.in-Some-read_title.named.1; events = []; runs = [] } in
    subst (λ (t : Schedule). IsSoFar c.args.text.now t c.in-Some.rest.now)
    (λ i. record {
      layout = s.layout;
      callers = s.callers;
      events = sym c.new-events.ensures i;
      runs = sym c.new-runs.ensures i;
    })
    (begun c.args.text.now s.layout s.callers c.in-Some.title.now c.in-Some.rest.now c.in-Some.ensures c.in-Some-read_title.ensures.0
    c.in-Some-read_title.ensures.1)

pub returns-in_default-next_line-clause-refused : goal.returns-in_default-next_line-clause-refused
returns-in_default-next_line-clause-refused c = λ more extends.
    let rest = c.loop-rest.rest.now in
    let s : Schedule = record {
      layout = c.in-Some-read_title.named.0;
      callers = c.in-Some-read_title.named.1;
      events = c.loop-rest.events;
      runs = c.loop-rest.runs;
    } in
    let some = some_rest (length rest) c.is_empty.result c.is_empty.ensures c.loop-rest-test.true in
    let at : 1 + c.len-place.result ≡ length (schedule_lines s) = omega (arith, c.len-place.ensures, lines_long s) in
    subst (λ (n : ℕ). IsFirstRefused (c.args.text.now ++ more) (n + 1)) (sym at)
    (no_next_line c.args.text.now s rest more c.loop-rest.invariant some extends
    (subst (λ (n : ℕ). IsNoLine rest n) at c.in_default-next_line.ensures))

pub returns-in_default-read_event-clause-refused : goal.returns-in_default-read_event-clause-refused
returns-in_default-read_event-clause-refused c = λ more extends.
    let rest = c.loop-rest.rest.now in
    let line = c.in-Some-next_line.line.now in
    let after = c.in-Some-next_line.after.now in
    let s : Schedule = record {
      layout = c.in-Some-read_title.named.0;
      callers = c.in-Some-read_title.named.1;
      events = c.loop-rest.events;
      runs = c.loop-rest.runs;
    } in
    let some = some_rest (length rest) c.is_empty.result c.is_empty.ensures c.loop-rest-test.true in
    let at : 1 + c.len-place.result ≡ length (schedule_lines s) = omega (arith, c.len-place.ensures, lines_long s) in
    subst (λ (n : ℕ). IsFirstRefused (c.args.text.now ++ more) (n + 1)) (sym at)
    (no_event c.args.text.now s rest more c.loop-rest.invariant some line after
    (subst (λ (n : ℕ). BeginsWith rest n line after) at c.in-Some-next_line.ensures) c.in_default-read_event.ensures)

pub loop-rest-smaller : goal.loop-rest-smaller
loop-rest-smaller c =
    let begun = c.in-Some-next_line.ensures in
    omega (arith, ap length begun.ended.joined, length-append c.in-Some-next_line.line.now (10 ∷ c.in-Some-next_line.after.now))

pub loop-rest-preserved : goal.loop-rest-preserved
loop-rest-preserved c =
    let rest = c.loop-rest.rest.now in
    let line = c.in-Some-next_line.line.now in
    let after = c.in-Some-next_line.after.now in
    let s : Schedule = record {
      layout = c.in-Some-read_title.named.0;
      callers = c.in-Some-read_title.named.1;
      events = c.loop-rest.events;
      runs = c.loop-rest.runs;
    } in
    let at : 1 + c.len-place.result ≡ length (schedule_lines s) = omega (arith, c.len-place.ensures, lines_long s) in
    subst (λ (t : Schedule). IsSoFar c.args.text.now t after)
    (λ i. record {
      layout = s.layout;
      callers = s.callers;
      events = sym c.in_ok-push.ensures.ok i;
      runs = sym c.in_ok-keep_run.ensures i;
    })
    (one_more c.args.text.now s rest c.loop-rest.invariant (c.in-Some-read_event.event, c.in-Some-read_event.run') line after
    (subst (λ (n : ℕ). BeginsWith rest n line after) at c.in-Some-next_line.ensures) c.in-Some-read_event.ensures.0
    c.in-Some-read_event.ensures.1)

pub returns-clause-spelled : goal.returns-clause-spelled
returns-clause-spelled c =
    let rest = c.loop-rest.rest.now in
    let s : Schedule = record {
      layout = c.in-Some-read_title.named.0;
      callers = c.in-Some-read_title.named.1;
      events = c.loop-rest.events;
      runs = c.loop-rest.runs;
    } in
    let empty : rest ≡ [] = nil_from_length rest (no_rest (length rest) c.is_empty.result c.is_empty.ensures c.loop-rest-test.false) in
    whole c.args.text.now s (subst (λ (xs : List ℕ). IsSoFar c.args.text.now s xs) empty c.loop-rest.invariant)
