use Rattle.std.proofs.Common.{ℕ, List, Option, IfSome, subst}
use Rattle.source_bytes.specs.BytesTaken.{IsReadOf}
use Rattle.source_bytes.proofs.BytesRead.{read_of}
use Rattle.replay.specs.declared.schedule_limits.TheConstants.{SCHEDULE_BYTES}
use Rattle.replay.specs.ScheduleText.{schedule_text}
use Rattle.replay.proofs.OneSchedule.{spelled_bytes, refused_bytes, accepted_bytes, taken_bytes}
use Rattle.replay.proofs.schedule_reader.read_schedule.Goals as goal

pub returns-clause-spelled : goal.returns-clause-spelled
returns-clause-spelled g c =
    let left = g.S.Source.left in
    let bytes = c.in_ok-text.text.items in
    spelled_bytes (left c.args.source.now) bytes c.parse_schedule.result (read_of SCHEDULE_BYTES _ _ bytes c.in_ok-text.ensures.bytes)
    (rw c.as_slice.ensures.value at c.parse_schedule.ensures.spelled)

pub returns-clause-refused : goal.returns-clause-refused
returns-clause-refused g c = λ line is.
    let left = g.S.Source.left in
    let bytes = c.in_ok-text.text.items in
    refused_bytes (left c.args.source.now) bytes c.parse_schedule.result line (read_of SCHEDULE_BYTES _ _ bytes c.in_ok-text.ensures.bytes)
    (rw c.as_slice.ensures.value at c.parse_schedule.ensures.refused) is

pub returns-clause-accepted : goal.returns-clause-accepted
returns-clause-accepted g c = λ s h left.
    let bytes = c.in_ok-text.text.items in
    let front : IsReadOf SCHEDULE_BYTES (schedule_text s) bytes =
    subst (λ (known : Option (List ℕ)). IfSome known (λ text. IsReadOf SCHEDULE_BYTES text bytes)) left
    (read_of SCHEDULE_BYTES _ _ bytes c.in_ok-text.ensures.bytes) in
    accepted_bytes s bytes c.parse_schedule.result h front (rw c.as_slice.ensures.value at c.parse_schedule.ensures.spelled)
    (rw c.as_slice.ensures.value at c.parse_schedule.ensures.refused)

pub returns-clause-taken : goal.returns-clause-taken
returns-clause-taken g c =
    let bytes = c.in_ok-text.text.items in
    taken_bytes _ _ bytes c.parse_schedule.result c.in_ok-text.ensures.bytes
    (rw c.as_slice.ensures.value at c.parse_schedule.ensures.spelled)
