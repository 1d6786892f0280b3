-- The lines of a report as parts that are read: the values of each part and their lines.
use Rattle.std.specs.Prelude.{◌≡◌, ℕ, ◌+◌, ◌*◌, ◌^◌, ◌<◌, ◌≤◌, Bool, true, false, List, [], ◌∷◌, ◌++◌, length, codes, decimal, Option, Some, None, Result, MatchResult}
use Rattle.mont_base.specs.declared.constants.TheConstants.{TEXT_BYTES}
use Rattle.mont_base.specs.declared.kinds.UnitKind.{UnitKind}
use Rattle.mont_base.specs.declared.operation.Reply.{Reply}
use Rattle.mont_base.specs.declared.operation.Reply.TheVariants as replies
use Rattle.mont_base.specs.Layout.{Shape, IsLayout}
use Rattle.mont_base.specs.State.{State, Key, Value, Ends}
use Rattle.job_text.specs.declared.limits.TheConstants.{MOST_CALLERS}
use Rattle.job_text.specs.declared.outcome.Outcome.{Outcome}
use Rattle.job_text.specs.declared.outcome.Outcome.TheVariants as outcomes
use Rattle.job_text.specs.declared.report_refusal.ReportRefusal.{ReportRefusal}
use Rattle.job_text.specs.Operations.{IsNumber}
use Rattle.job_text.specs.ReportText.{report_header_words, graph_words, contents_lines}
use Rattle.job_text.specs.ReportRanges.{AreContents, InRange, is_cut}
use Rattle.job_text.specs.Readings.{Unread, Reads, Refuses}
use Rattle.job_text.specs.Ranks.{texts_of, texts_behind, numbers_behind, edges_behind, LeavesRoom}
use Rattle.job_text.specs.TextParts.{Row, AllFrom, rows_from}

-- a value of the part was read, or what was there leaves the part
abbrev pub Tells : {X : Type 0} → (X → Type 0) → (X → List Row) → Unread → Unread
    → Result X ReportRefusal → Type 0
Tells Is rows old new result =
    MatchResult result (λ x. Reads Is rows old new x) (λ e. Refuses Is rows old e)

-- a part of one line
abbrev pub line_of_row : {X : Type 0} → (X → Row) → X → List Row
line_of_row row x = row x ∷ []

-- ---- heads
-- layout and callers
abbrev pub IsTitle : Shape × ℕ → Type 0
IsTitle p = IsLayout p.0 × (1 ≤ p.1) × (p.1 ≤ MOST_CALLERS)

abbrev pub title_words : Shape × ℕ → Row
title_words p = report_header_words p.0 p.1

abbrev pub clock_words : List ℕ → ℕ → Row
clock_words word clock = word ∷ decimal clock ∷ []

abbrev pub count_words : List ℕ → ℕ → ℕ → Row
count_words word place count = word ∷ decimal place ∷ decimal count ∷ []

abbrev pub graph_counts : ℕ → ℕ × ℕ → Row
graph_counts unit p = graph_words unit p.0 p.1

abbrev pub end_words : Unit {0} → Row
end_words end = codes "end" ∷ []

-- ---- keys, of each of which so many stand after it
abbrev pub pair_behind : Key × Value → ℕ
pair_behind p = texts_behind TEXT_BYTES p.0

abbrev pub vertex_behind : ℕ × ℕ → ℕ
vertex_behind v = numbers_behind v.0

abbrev pub edge_behind : Ends × ℕ → ℕ
edge_behind e = edges_behind e.0

-- how many there are
abbrev pub all_pairs : ℕ
all_pairs = texts_of TEXT_BYTES

abbrev pub all_vertices : ℕ
all_vertices = 2 ^ 64

abbrev pub all_edges : ℕ
all_edges = 2 ^ 64 * 2 ^ 64

-- how many stand after the last key, if there is one
abbrev pub behind_last : {K : Type 0} → (K → ℕ) → ℕ → Option K → ℕ
behind_last behind all None = all
behind_last behind all (Some key) = behind key

-- a key below the limit, after which enough are left
abbrev pub MayFollow : {K : Type 0} → (K → ℕ) → ℕ → ℕ → K → Type 0
MayFollow behind limit left key = (behind key < limit) × (left ≤ behind key)

-- ---- outcomes
-- the unit and the caller that it names are there, and it is the last of n if it is a cut
abbrev pub MayStand : ℕ → ℕ → ℕ → ℕ → Outcome → Type 0
MayStand units callers n place o = InRange units callers o × (is_cut o ≡ true → place + 1 ≡ n)

-- it names a unit
abbrev pub is_of_unit : Outcome → Bool
is_of_unit (outcomes.At unit place) = true
is_of_unit (outcomes.Stuck unit epoch) = true
is_of_unit (outcomes.Halted unit by) = true
is_of_unit (outcomes.CutIn unit) = true
is_of_unit _ = false

-- it tells a clock and no unit
abbrev pub is_of_clock : Outcome → Bool
is_of_clock (outcomes.Synced epoch) = true
is_of_clock (outcomes.Ticked epoch) = true
is_of_clock (outcomes.Full need free clock) = true
is_of_clock _ = false

-- ---- replies
-- a reply of one word
abbrev pub is_short : Reply → Bool
is_short replies.Nothing = true
is_short replies.NoEnds = true
is_short _ = false

-- ---- lists
-- n items, each what it must be at its place
abbrev pub AllOf : {X : Type 0} → (ℕ → X → Type 0) → ℕ → List X → Type 0
AllOf Is n xs = AllFrom Is 0 xs × (length xs ≡ n)

-- n keys with their values, of each of which fewer stand after it
abbrev pub AllRising : {X : Type 0} → (X → Type 0) → (X → ℕ) → ℕ → ℕ → List X → Type 0
AllRising Is behind all n xs = LeavesRoom (λ place. Is) behind all n xs × (length xs ≡ n)

-- a line for each
abbrev pub RowsOf : {X : Type 0} → (X → Row) → List X → List Row
RowsOf row xs = rows_from (λ place. line_of_row row) 0 xs

-- a clock after a word, and the contents then
abbrev pub IsStart : List UnitKind → ℕ × List State → Type 0
IsStart ks p = IsNumber p.0 × AreContents ks p.1

abbrev pub start_rows : List UnitKind → List ℕ → ℕ × List State → List Row
start_rows ks word p = (clock_words word p.0 ∷ []) ++ contents_lines ks p.1
