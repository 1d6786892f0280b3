use Rattle.std.proofs.Common.{ℕ, List, Some, subst}
use Rattle.std.specs.FinMap.{entries}
use Rattle.std.proofs.lemmas.Result.{MatchResult-weaker}
use Rattle.mont_base.specs.State.{MapOf, Pairs}
use Rattle.job_text.specs.Operations.{IsNumber}
use Rattle.job_text.specs.Readings.{Reads, Refuses}
use Rattle.job_text.specs.ReportText.{pairs_name, state_lines}
use Rattle.job_text.specs.ReportRanges.{IsPair, AreCounted}
use Rattle.job_text.specs.ReportRows.{line_of_row, count_words}
use Rattle.job_text.proofs.ReadLines.{at_exit}
use Rattle.job_text.proofs.RowParts.{count_part}
use Rattle.job_text.proofs.ListParts.{sized_reads, sized_refuses_head, sized_refuses_rest}
use Rattle.job_text.proofs.ContentsParts.{PairsOf, pairs_rows, pairs_size, some_pairs, map_is, map_back, map_rows}
use Rattle.job_text.proofs.contents_reader.next_map.Goals as goal

pub returns-in_err-count : goal.returns-in_err-count
returns-in_err-count c =
    at_exit c.from_residual.result c.in_err-count.field-0.0 _
    (Refuses (λ (m : Pairs). AreCounted IsPair (entries m)) (λ m. state_lines (Some c.args.kind) c.args.unit
    (MapOf m)) c.args.lines.now) c.from_residual.ensures.1
    (sized_refuses_head (count_words (pairs_name (Some c.args.kind)) c.args.unit) (count_part (pairs_name (Some c.args.kind)) c.args.unit)
    PairsOf pairs_rows pairs_size
    (λ n m is. is.1)
    (λ (m : Pairs). AreCounted IsPair (entries m)) (λ m. state_lines (Some c.args.kind) c.args.unit (MapOf m)) map_is map_back
    (map_rows (Some c.args.kind) c.args.unit) some_pairs
    c.args.lines.now _
    (subst (λ (w : List ℕ). Refuses IsNumber (line_of_row (count_words w c.args.unit)) c.args.lines.now c.in_err-count.field-0.0)
    c.pairs_name.ensures c.in_err-count.ensures))

pub returns : goal.returns
returns c =
    let count = subst (λ (w : List ℕ). Reads IsNumber (line_of_row (count_words w c.args.unit)) c.args.lines.now c.next_count.new.lines
    c.in_ok-count.count) c.pairs_name.ensures c.in_ok-count.ensures in
    MatchResult-weaker c.next_pairs.result c.next_pairs.ensures
    (λ m read.
    sized_reads (count_words (pairs_name (Some c.args.kind)) c.args.unit) (count_part (pairs_name (Some c.args.kind)) c.args.unit) PairsOf
    pairs_rows pairs_size
    (λ n m is. is.1)
    (λ (m : Pairs). AreCounted IsPair (entries m)) (λ m. state_lines (Some c.args.kind) c.args.unit (MapOf m)) map_is map_back (map_rows
    (Some c.args.kind) c.args.unit) _ _ _
    c.in_ok-count.count m count read)
    (λ e refuses.
    sized_refuses_rest (count_words (pairs_name (Some c.args.kind)) c.args.unit) (count_part (pairs_name (Some c.args.kind)) c.args.unit)
    PairsOf pairs_rows pairs_size
    (λ n m is. is.1)
    (λ (m : Pairs). AreCounted IsPair (entries m)) (λ m. state_lines (Some c.args.kind) c.args.unit (MapOf m)) map_is map_back (map_rows
    (Some c.args.kind) c.args.unit) _ _
    c.in_ok-count.count e count refuses)
