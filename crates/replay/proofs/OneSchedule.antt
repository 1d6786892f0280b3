-- A text spells one schedule; what its bytes tell of a source.
use Rattle.std.proofs.Common.{◌≡◌, ℕ, ◌<◌, inl, inr, Option, Some, None, IfSome, Result, Ok, Err, IfOk, IfErr, MatchResult, List, [], ◌∷◌, ◌++◌, length, map, All, sym, ap, ◌∙◌, refl, subst, arith}
use Rattle.std.proofs.lemmas.List.{append-nil, append_cancel_right}
use Rattle.std.proofs.lemmas.List.Elements.{All-head, All-tail}
use Rattle.mont_base.specs.Layout.{Shape}
use Rattle.job_text.specs.Lines.{spaced, parts_of}
use Rattle.job_text.proofs.SeenWords.{IsWord}
use Rattle.job_text.proofs.Once.{words_once}
use Rattle.source_bytes.specs.BytesTaken.{TakesBytes, IsReadOf}
use Rattle.source_bytes.proofs.BytesRead.{lost_all}
use Rattle.replay.specs.declared.schedule.Schedule.{Schedule}
use Rattle.replay.specs.declared.schedule_limits.TheConstants.{SCHEDULE_BYTES}
use Rattle.replay.specs.declared.schedule_refusal.ScheduleRefusal.{ScheduleRefusal}
use Rattle.replay.specs.declared.schedule_refusal.ScheduleRefusal.TheVariants.{Text, Read, Memory}
use Rattle.replay.specs.StepNames.{step_word}
use Rattle.replay.specs.Schedules.{Move, moves, IsMove, IsSchedule, title_words, move_words, schedule_lines}
use Rattle.replay.specs.ScheduleText.{schedule_text, IsFirstRefused}
use Rattle.replay.specs.SchedulesRead.{IsOutside, IsTaken, IsRefusal}
use Rattle.replay.proofs.StepSpelling.{name_of, args_of, event_spelled}
use Rattle.replay.proofs.TitleWords.{title_once}
use Rattle.replay.proofs.Moves.{events_in, runs_in, events_back, runs_back}
use Rattle.replay.proofs.MoveWords.{event_seen, event_once}
use Rattle.replay.proofs.Fronts.{front_parts}
use Rattle.replay.proofs.ScheduleFronts.{title_of, front_of, alone, not_refused}

-- ---- one schedule
pub move_once : (s : Shape) (callers : ℕ) (m n : Move) → IsMove s callers m → IsMove s callers n
    → spaced (move_words m) ≡ spaced (move_words n) → m ≡ n
move_once s callers m n is are same =
    let mine = event_spelled m.0 m.1 is.named in
    let theirs = event_spelled n.0 n.1 are.named in
    let words : step_word (name_of m.0) ∷ args_of m.0 m.1 ≡ step_word (name_of n.0) ∷ args_of n.0 n.1 =
    words_once (step_word (name_of m.0)) (step_word (name_of n.0)) (args_of m.0 m.1) (args_of n.0 n.1)
    (subst (All IsWord) mine (event_seen m.0 m.1 is.named is.run)) (subst (All IsWord) theirs (event_seen n.0 n.1 are.named are.run))
    (ap spaced (sym mine) ∙ same ∙ ap spaced theirs) in
    let once = event_once m.0 n.0 m.1 n.1 is.named are.named is.run are.run (mine ∙ words ∙ sym theirs) in
    λ i. (once.0 i, once.1 i)

moves_once : (s : Shape) (callers : ℕ) (ms ns : List Move) → All (IsMove s callers) ms → All (IsMove s callers) ns
    → map spaced (map move_words ms) ≡ map spaced (map move_words ns) → ms ≡ ns
moves_once s callers [] [] is are same = refl
moves_once s callers [] (n ∷ ns) is are same = absurd (cc)
moves_once s callers (m ∷ ms) [] is are same = absurd (cc)
moves_once s callers (m ∷ ms) (n ∷ ns) is are same =
    let P : Move → Type 0 = IsMove s callers in
    let one : m ≡ n = move_once s callers m n (All-head P m ms is) (All-head P n ns are)
    (let first : spaced (move_words m) ≡ spaced (move_words n) = cc in first) in
    let others : ms ≡ ns = moves_once s callers ms ns (All-tail P m ms is) (All-tail P n ns are)
    (let rest : map spaced (map move_words ms) ≡ map spaced (map move_words ns) = cc in rest) in
    cc

pub schedule_once : (s t : Schedule) → IsSchedule s → IsSchedule t → schedule_text s ≡ schedule_text t → s ≡ t
schedule_once s t is are same =
    let own = front_parts (schedule_text s) (schedule_lines s) [] (front_of (schedule_text s) s [] (alone s is)) in
    let other = front_parts (schedule_text t) (schedule_lines t) [] (front_of (schedule_text t) t [] (alone t are)) in
    let lines : map spaced (schedule_lines s) ≡ map spaced (schedule_lines t) =
    append_cancel_right (map spaced (schedule_lines s)) (map spaced (schedule_lines t)) (parts_of [])
    (sym own ∙ ap parts_of same ∙ other) in
    let first : spaced (title_words s.layout s.callers) ≡ spaced (title_words t.layout t.callers) = cc in
    let behind : map spaced (map move_words (moves s)) ≡ map spaced (map move_words (moves t)) = cc in
    let store = title_once s.layout t.layout s.callers t.callers (title_of s is) (title_of t are) first in
    let theirs : All (IsMove s.layout s.callers) (moves t) =
    subst (λ (n : ℕ). All (IsMove s.layout n) (moves t)) (sym store.1)
    (subst (λ (l : Shape). All (IsMove l t.callers) (moves t)) (sym store.0) are.moves) in
    let made : moves s ≡ moves t = moves_once s.layout s.callers (moves s) (moves t) is.moves theirs behind in
    let events : s.events ≡ t.events = sym (events_back s.events s.runs) ∙ ap events_in made ∙ events_back t.events t.runs in
    let runs : s.runs ≡ t.runs = sym (runs_back s.events s.runs is.runs) ∙ ap runs_in made ∙ runs_back t.events t.runs are.runs in
    λ i. record { layout = store.0 i; callers = store.1 i; events = events i; runs = runs i }

-- ---- what the bytes of a source tell
-- what is read of a text is all of it, where it is less than what is read at most
all_read : (text bytes : List ℕ) → IsReadOf SCHEDULE_BYTES text bytes → length bytes < SCHEDULE_BYTES → text ≡ bytes
all_read text bytes read few = elim (read.2) [
  | inl none ↦ read.1 ∙ ap (λ (xs : List ℕ). bytes ++ xs) none ∙ append-nil bytes
  | inr all ↦ absurd (omega arith)
]

abbrev pub Spelled : List ℕ → Schedule → Type 0
Spelled bytes s = IsSchedule s × (bytes ≡ schedule_text s) × (length bytes < SCHEDULE_BYTES)

pub spelled_bytes : (left : Option (List ℕ)) (bytes : List ℕ) (r : Result Schedule ScheduleRefusal)
    → IfSome left (λ text. IsReadOf SCHEDULE_BYTES text bytes) → IfOk r (Spelled bytes)
    → IfOk r (λ s. IsSchedule s × IfSome left (λ text. text ≡ schedule_text s))
spelled_bytes None bytes (Ok s) read is = (is.0, tt)
spelled_bytes (Some text) bytes (Ok s) read is = (is.0, all_read text bytes read is.2 ∙ is.1)
spelled_bytes left bytes (Err e) read is = tt

refused_text : (bytes : List ℕ) (r : Result Schedule ScheduleRefusal) (line : ℕ) → IfErr r (IsRefusal bytes) → r ≡ Err (Text line)
    → IsRefusal bytes (Text line)
refused_text bytes (Ok s) line refused is = absurd (cc)
refused_text bytes (Err e) line refused is = let same : e ≡ Text line = cc in subst (IsRefusal bytes) same refused

pub refused_bytes : (left : Option (List ℕ)) (bytes : List ℕ) (r : Result Schedule ScheduleRefusal) (line : ℕ)
    → IfSome left (λ text. IsReadOf SCHEDULE_BYTES text bytes) → IfErr r (IsRefusal bytes) → r ≡ Err (Text line)
    → IfSome left (λ text. IsFirstRefused text line)
refused_bytes None bytes r line read refused is = tt
refused_bytes (Some text) bytes r line read refused is =
    subst (λ (xs : List ℕ). IsFirstRefused xs line) (sym read.1) (refused_text bytes r line refused is read.0 read.2)

pub accepted_bytes : (s : Schedule) (bytes : List ℕ) (r : Result Schedule ScheduleRefusal) → IsSchedule s
    → IsReadOf SCHEDULE_BYTES (schedule_text s) bytes → IfOk r (Spelled bytes) → IfErr r (IsRefusal bytes)
    → MatchResult r (λ t. t ≡ s) IsOutside
accepted_bytes s bytes (Ok t) is read spelled refused =
    schedule_once t s spelled.0 is (sym spelled.1 ∙ sym (all_read (schedule_text s) bytes read spelled.2))
accepted_bytes s bytes (Err (Text line)) is read spelled refused =
    absurd (not_refused s line is (subst (λ (xs : List ℕ). IsFirstRefused xs line) (sym read.1) (refused read.0 read.2)))
accepted_bytes s bytes (Err Read) is read spelled refused = tt
accepted_bytes s bytes (Err Memory) is read spelled refused = tt

-- what was taken of the source where its bytes gave this answer
pub taken_bytes : (old new : Option (List ℕ)) (bytes : List ℕ) (r : Result Schedule ScheduleRefusal)
    → TakesBytes SCHEDULE_BYTES old new bytes → IfOk r (Spelled bytes) → IsTaken old new r
taken_bytes old new bytes (Ok s) t is = (lost_all SCHEDULE_BYTES old new bytes t, t.ended is.2)
taken_bytes old new bytes (Err (Text line)) t is = lost_all SCHEDULE_BYTES old new bytes t
taken_bytes old new bytes (Err Read) t is = (bytes, t.few, t.taken)
taken_bytes old new bytes (Err Memory) t is = (bytes, t.few, t.taken)
