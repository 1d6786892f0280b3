-- The text of a report.
use Rattle.std.specs.Prelude.{ℕ, List, [], ◌∷◌, ◌++◌, length, map, codes, decimal, slice_get, Option, Some}
use Rattle.std.specs.List.{flat_map, enumerate_from}
use Rattle.std.specs.FinMap as finite
use Rattle.mont_base.specs.declared.kinds.UnitKind.{UnitKind}
use Rattle.mont_base.specs.declared.kinds.UnitKind.TheVariants as kinds
use Rattle.mont_base.specs.declared.operation.Op.{Op}
use Rattle.mont_base.specs.declared.operation.Reply.{Reply}
use Rattle.mont_base.specs.Layout.{Shape, letters_of}
use Rattle.mont_base.specs.State.{State, MapOf, QueueOf, GraphOf, Ends, Run}
use Rattle.job_text.specs.declared.outcome.Outcome.{Outcome}
use Rattle.job_text.specs.declared.outcome.Outcome.TheVariants as outcomes
use Rattle.mont_base.specs.declared.refusal.Which.{Which}
use Rattle.mont_base.specs.declared.refusal.Which.TheVariants as counts
use Rattle.job_text.specs.Lines.{text_of}
use Rattle.job_text.specs.Spelling.{op_words, reply_words, pair_words, run_words}
use Rattle.job_text.specs.JobText.{store_words}
use Rattle.job_text.specs.Report.{Report}
use Rattle.job_text.specs.Runs.{Spelled, spelled_all}

abbrev pub report_header_words : Shape → ℕ → List (List ℕ)
report_header_words s callers = codes "montage-report" ∷ store_words s callers

-- ---- contents: pairs, the items of a queue, the parts of a graph, one a line
abbrev pub item_words : ℕ → List (List ℕ)
item_words item = decimal item ∷ []

abbrev pub vertex_words : ℕ × ℕ → List (List ℕ)
vertex_words v = decimal v.0 ∷ decimal v.1 ∷ []

abbrev pub edge_words : Ends × ℕ → List (List ℕ)
edge_words e = decimal e.0.0 ∷ decimal e.0.1 ∷ decimal e.1 ∷ []

-- a map and an ordered unit both keep pairs
abbrev pub pairs_name : Option UnitKind → List ℕ
pairs_name (Some kinds.Ordered) = codes "ordered"
pairs_name _ = codes "map"

abbrev pub pairs_words : Option UnitKind → ℕ → ℕ → List (List ℕ)
pairs_words kind unit count = pairs_name kind ∷ decimal unit ∷ decimal count ∷ []

abbrev pub queue_words : ℕ → ℕ → List (List ℕ)
queue_words unit count = codes "queue" ∷ decimal unit ∷ decimal count ∷ []

abbrev pub graph_words : ℕ → ℕ → ℕ → List (List ℕ)
graph_words unit vertices edges =
    codes "graph" ∷ decimal unit ∷ decimal vertices ∷ decimal edges ∷ []

-- pairs by rising key, a queue from first to last, a graph by rising vertex and edge
abbrev pub state_lines : Option UnitKind → ℕ → State → List (List (List ℕ))
state_lines kind unit (MapOf m) =
    pairs_words kind unit (finite.len m) ∷ map pair_words (finite.entries m)
state_lines kind unit (QueueOf items) = queue_words unit (length items) ∷ map item_words items
state_lines kind unit (GraphOf g) =
    graph_words unit (finite.len g.vertices) (finite.len g.edges)
    ∷ (map vertex_words (finite.entries g.vertices) ++ map edge_words (finite.entries g.edges))

-- a unit of a store of these kinds
abbrev pub unit_lines : List UnitKind → ℕ → State → List (List (List ℕ))
unit_lines ks unit state = state_lines (slice_get ks unit) unit state

abbrev pub contents_lines : List UnitKind → List State → List (List (List ℕ))
contents_lines ks states =
    flat_map (λ (p : ℕ × State). unit_lines ks p.0 p.1) (enumerate_from 0 states)

-- ---- histories and outcomes
-- an operation, `=`, and its reply with the run
abbrev pub answer_words : Op → Reply → Run → List (List ℕ)
answer_words op reply run = op_words op ++ codes "=" ∷ (reply_words reply ++ run_words run)

-- an entry with its run
abbrev pub entry_words : ℕ → Spelled → List (List ℕ)
entry_words place p =
    decimal place ∷ decimal p.0.caller ∷ decimal p.0.call ∷ decimal p.0.epoch
    ∷ answer_words p.0.op p.0.reply p.1

abbrev pub history_lines : ℕ → List Spelled → List (List (List ℕ))
history_lines unit h =
    (codes "unit" ∷ decimal unit ∷ decimal (length h) ∷ [])
    ∷ map (λ (p : ℕ × Spelled). entry_words p.0 p.1) (enumerate_from 0 h)

abbrev pub histories_lines : List (List Spelled) → List (List (List ℕ))
histories_lines histories =
    flat_map (λ (p : ℕ × List Spelled). history_lines p.0 p.1) (enumerate_from 0 histories)

-- a number that would rise above its last value
abbrev pub count_word : Which → List ℕ
count_word counts.Call = codes "call"
count_word counts.Place = codes "place"
count_word counts.Identity = codes "identity"
count_word counts.Version = codes "version"
count_word counts.Serial = codes "serial"

abbrev pub outcome_words : Outcome → List (List ℕ)
outcome_words (outcomes.At unit place) = codes "at" ∷ decimal unit ∷ decimal place ∷ []
outcome_words (outcomes.Synced epoch) = codes "synced" ∷ decimal epoch ∷ []
outcome_words (outcomes.Ticked epoch) = codes "ticked" ∷ decimal epoch ∷ []
outcome_words (outcomes.Stuck unit epoch) = codes "stuck" ∷ decimal unit ∷ decimal epoch ∷ []
outcome_words outcomes.ClockEnd = codes "clockend" ∷ []
outcome_words (outcomes.Full need free clock) =
    codes "full" ∷ decimal need ∷ decimal free ∷ decimal clock ∷ []
outcome_words (outcomes.CountEnd which) = codes "countend" ∷ count_word which ∷ []
outcome_words (outcomes.Halted unit by) = codes "halted" ∷ decimal unit ∷ decimal by ∷ []
outcome_words (outcomes.CutIn unit) = codes "cut" ∷ decimal unit ∷ []
outcome_words outcomes.Cut = codes "cut" ∷ []

abbrev pub caller_lines : ℕ → List Outcome → List (List (List ℕ))
caller_lines caller os =
    (codes "caller" ∷ decimal caller ∷ decimal (length os) ∷ []) ∷ map outcome_words os

abbrev pub outcomes_lines : List (List Outcome) → List (List (List ℕ))
outcomes_lines outcomes =
    flat_map (λ (p : ℕ × List Outcome). caller_lines p.0 p.1) (enumerate_from 0 outcomes)

-- ---- the whole
abbrev pub base_lines : List UnitKind → ℕ → List State → List (List (List ℕ))
base_lines ks clock base = (codes "base" ∷ decimal clock ∷ []) ∷ contents_lines ks base

abbrev pub image_lines : List UnitKind → ℕ → List State → List (List (List ℕ))
image_lines ks clock contents = (codes "image" ∷ decimal clock ∷ []) ∷ contents_lines ks contents

abbrev pub report_lines : Report → List (List (List ℕ))
report_lines r =
    (report_header_words r.layout r.callers ∷ [])
    ++ base_lines r.layout.kinds r.base_clock r.base
    ++ histories_lines (spelled_all r.histories r.runs)
    ++ outcomes_lines r.outcomes
    ++ image_lines r.layout.kinds r.image_clock r.contents
    ++ ((codes "end" ∷ []) ∷ [])

-- the one text of a report
abbrev pub report_text : Report → List ℕ
report_text r = text_of (report_lines r)

-- ---- contents alone, as they are found at a clock
abbrev pub contents_header_words : Shape → ℕ → List (List ℕ)
contents_header_words s clock =
    codes "montage-contents" ∷ codes "3" ∷ letters_of s.kinds ∷ decimal s.slots ∷ decimal clock ∷ []

abbrev pub contents_text : Shape → ℕ → List State → List ℕ
contents_text s clock states =
    text_of
    ((contents_header_words s clock ∷ []) ++ contents_lines s.kinds states
    ++ ((codes "end" ∷ []) ∷ []))
