use Rattle.std.proofs.Common.{◌≡◌, ◌+◌, ◌-◌, ◌≤◌, length, ap, sym, subst, arith}
use Rattle.std.specs.FinMap.{entries}
use Rattle.std.proofs.lemmas.Cmp.{nat_list_cmp_total}
use Rattle.std.proofs.lemmas.List.{length_push}
use Rattle.mont_base.specs.declared.constants.TheConstants.{TEXT_BYTES}
use Rattle.mont_base.specs.State.{Pairs}
use Rattle.mont_base.specs.Texts.{IsText, text_cmp}
use Rattle.job_text.specs.Ranks.{limit_after, texts_behind}
use Rattle.job_text.specs.Readings.{Refuses}
use Rattle.job_text.specs.Spelling.{pair_words}
use Rattle.job_text.specs.ReportRanges.{IsPair}
use Rattle.job_text.specs.ReportRows.{AllRising, RowsOf, pair_behind, all_pairs}
use Rattle.job_text.proofs.ReadLines.{at_exit}
use Rattle.job_text.proofs.RowParts.{pair_once}
use Rattle.job_text.proofs.KeyRanks.{text_rank, some_pair, many_pairs}
use Rattle.job_text.proofs.MapParts.{SoFar, map_start, map_item, list_refuses, map_refuses, entries_none}
use Rattle.job_text.proofs.contents_reader.next_pairs.Goals as goal

pub loop-place-init : goal.loop-place-init
loop-place-init c =
    let few : c.args.count ≤ all_pairs = omega (arith, c.ranges.count.fits, many_pairs) in
    let none = entries_none c.new-state.result c.new-state.ensures in (
      subst (SoFar text_cmp IsText (texts_behind TEXT_BYTES) all_pairs text_rank nat_list_cmp_total IsPair
          (λ e is. is.0) pair_words pair_once some_pair
          c.args.count few c.args.lines.now c.args.lines.now) (sym none)
          (map_start text_cmp IsText (texts_behind TEXT_BYTES) all_pairs text_rank nat_list_cmp_total IsPair
          (λ e is. is.0) pair_words pair_once some_pair
          c.args.count few c.args.lines.now),
      ap length none,
      ap (limit_after pair_behind all_pairs) none,
      tt,
    )

pub returns-in_err-key : goal.returns-in_err-key
returns-in_err-key c =
    let few : c.args.count ≤ all_pairs = omega (arith, c.ranges.count.fits, many_pairs) in
    let i = c.loop-place.invariant in
    let low = c.loop-place-test.true in
    at_exit c.from_residual.result c.in_err-key.field-0.0 _
    (Refuses (λ (m : Pairs). AllRising IsPair pair_behind all_pairs c.args.count (entries m)) (λ (m : Pairs). RowsOf pair_words
    (entries m))
    c.args.lines.now) c.from_residual.ensures.1
    (map_refuses text_cmp IsText (texts_behind TEXT_BYTES) all_pairs text_rank nat_list_cmp_total IsPair
    (λ e is. is.0) pair_words pair_once some_pair
    c.args.count few c.args.lines.now _
    (list_refuses text_cmp IsText (texts_behind TEXT_BYTES) all_pairs text_rank nat_list_cmp_total IsPair
    (λ e is. is.0) pair_words pair_once
    some_pair c.args.count few c.args.lines.now c.loop-place.lines (entries c.loop-place.state) c.loop-place.last
    (c.args.count - c.loop-place.place - 1) _ i.0 i.2 (omega (arith, i.1)) (omega (arith, i.1, low)) c.in_err-key.ensures))

pub loop-place-preserved : goal.loop-place-preserved
loop-place-preserved c =
    let few : c.args.count ≤ all_pairs = omega (arith, c.ranges.count.fits, many_pairs) in
    let i = c.loop-place.invariant in
    let low = c.loop-place-test.true in
    let t = map_item text_cmp IsText (texts_behind TEXT_BYTES) all_pairs text_rank nat_list_cmp_total IsPair
    (λ e is. is.0) pair_words pair_once
    some_pair c.args.count few c.args.lines.now c.loop-place.lines c.next_pair.new.lines c.loop-place.state c.loop-place.last
    c.in_ok-key.key
    c.in_ok-key.value (c.args.count - c.loop-place.place - 1) i.0 i.2 (omega (arith, i.1)) c.in_ok-key.ensures in
    subst
    (λ (m : Pairs).
    SoFar text_cmp IsText (texts_behind TEXT_BYTES) all_pairs text_rank nat_list_cmp_total IsPair
    (λ e is. is.0) pair_words pair_once some_pair
    c.args.count few c.args.lines.now c.next_pair.new.lines (entries m)
    × (length (entries m) ≡ c.loop-place.place + 1)
    × (limit_after pair_behind all_pairs (entries m) ≡ texts_behind TEXT_BYTES c.in_ok-key.key)
    × IsText c.in_ok-key.key)
    (sym c.in_ok-insert.ensures.ok)
    (t.1, omega (arith, ap length t.0, length_push (entries c.loop-place.state) (c.in_ok-key.key, c.in_ok-key.value), i.1), t.2, t.3)
