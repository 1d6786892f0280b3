-- The labels of a picture: how an entry and an outcome are spelled in their lanes.
use Rattle.std.specs.Prelude.{ℕ, ◌+◌, List, [], ◌++◌, Bool, true, false, nat_lt, take, drop, codes, decimal, encode_utf8, if◌then◌else◌}
use Rattle.mont_base.specs.declared.kinds.UnitKind.{UnitKind}
use Rattle.mont_base.specs.declared.kinds.UnitKind.TheVariants as kinds
use Rattle.mont_base.specs.declared.operation.Entry.{Entry}
use Rattle.mont_base.specs.declared.operation.Op.{Op}
use Rattle.mont_base.specs.declared.operation.Op.TheVariants as ops
use Rattle.mont_base.specs.declared.operation.Reply.{Reply}
use Rattle.mont_base.specs.declared.operation.Reply.TheVariants as replies
use Rattle.job_text.specs.declared.outcome.Outcome.{Outcome}
use Rattle.job_text.specs.declared.outcome.Outcome.TheVariants as outcomes
use Rattle.job_text.specs.Lines.{spaced}
use Rattle.job_text.specs.Spelling.{op_words, text_word}
use Rattle.job_text.specs.ReportText.{outcome_words}

-- callers by letters
abbrev pub caller_letter : ℕ → ℕ
caller_letter caller = if nat_lt caller 26 then 97 + caller else 63

abbrev pub kind_word : UnitKind → List ℕ
kind_word kinds.Map = codes "map"
kind_word kinds.Queue = codes "queue"
kind_word kinds.Graph = codes "graph"
kind_word kinds.Ordered = codes "ordered"

-- the unit of a map's operation is that of its key; every other operation names it
abbrev pub names_unit : Op → Bool
names_unit (ops.Put key value) = false
names_unit (ops.Get key) = false
names_unit (ops.Del key) = false
names_unit _ = true

-- the words of an operation without its unit, which the lane tells
abbrev pub without_unit : Bool → List (List ℕ) → List (List ℕ)
without_unit true words = take 1 words ++ drop 2 words
without_unit false words = words

abbrev pub asked_label : Op → List ℕ
asked_label op = spaced (without_unit (names_unit op) (op_words op))

-- a reply after an arrow, where it says something; of a range's run how many pairs it has
abbrev pub answered_label : Reply → List ℕ
answered_label replies.Nothing = []
answered_label (replies.Was value) = codes " -> " ++ decimal value
answered_label (replies.WasText value) = codes " -> " ++ text_word value
answered_label (replies.Count number) = codes " -> " ++ decimal number
answered_label replies.NoEnds = codes " -> no ends"
answered_label (replies.Key key) = codes " -> " ++ text_word key
answered_label (replies.Pairs number) = codes " -> " ++ decimal number ++ codes " pairs"

-- who asked, what was asked, what was answered
abbrev pub entry_label : Entry → List ℕ
entry_label e =
    encode_utf8 (caller_letter e.caller) ++ codes ": " ++ asked_label e.op
    ++ answered_label e.reply

abbrev pub is_carried_out : Outcome → Bool
is_carried_out (outcomes.At unit place) = true
is_carried_out (outcomes.Synced epoch) = true
is_carried_out (outcomes.Ticked epoch) = true
is_carried_out _ = false

-- an outcome as reports spell it, with a mark where the line wasn't carried out
abbrev pub outcome_label : Outcome → List ℕ
outcome_label o = (if is_carried_out o then [] else codes "! ") ++ spaced (outcome_words o)
