use Rattle.std.proofs.Common.{◌≡◌, ◌∙◌, ◌-◌, Some, ap, arith, refl, sym}
use Rattle.std.specs.Prelude.{option_map}
use Rattle.std.proofs.lemmas.Option.{slice_get-map}
use Rattle.mont_base.specs.History.{cut_at, state_after}
use Rattle.mont_base.specs.Image.{clock_of}
use Rattle.plain.specs.States.{state_of, states_of}
use Rattle.job_text.specs.PlainReport.{report_of}
use Rattle.report_check.proofs.ContentLaws.{held_and_told, not_held}
use Rattle.report_check.proofs.other_contents.is_same_at.Goals as goal

pub returns-then-not-holds_state : goal.returns-then-not-holds_state
returns-then-not-holds_state c =
    let cut : c.saturating_sub-cut.result ≡ clock_of c.args.image.now.words - 2 = omega arith in
    not_held (report_of c.args.report.now) c.args.image.now.layout c.args.image.now.words (states_of c.args.found.now) c.args.unit
    (state_of c.in-Some.base.now) c.as_slice.result.now c.requires.layout c.requires.clock c.requires.found
    (slice_get-map state_of c.args.report.now.base.units c.args.unit ∙ ap (option_map state_of) c.in-Some.ensures)
    (c.in-Some-get.ensures ∙ ap Some (sym c.as_slice.ensures)) (state_of c.in_ok-state.state)
    (c.in_ok-state.ensures ∙ ap (λ n. state_after (state_of c.in-Some.base.now) (cut_at n c.as_slice.result.now)) cut)
    c.if-not-holds_state.ensures

pub returns : goal.returns
returns c =
    let cut : c.saturating_sub-cut.result ≡ clock_of c.args.image.now.words - 2 = omega arith in
    held_and_told (report_of c.args.report.now) c.args.image.now.layout c.args.image.now.words (states_of c.args.found.now) c.args.unit
    (state_of c.in-Some.base.now) c.as_slice.result.now c.requires.layout c.requires.clock c.requires.found
    (slice_get-map state_of c.args.report.now.base.units c.args.unit ∙ ap (option_map state_of) c.in-Some.ensures)
    (c.in-Some-get.ensures ∙ ap Some (sym c.as_slice.ensures)) (state_of c.in_ok-state.state)
    (c.in_ok-state.ensures ∙ ap (λ n. state_after (state_of c.in-Some.base.now) (cut_at n c.as_slice.result.now)) cut)
    c.holds_state-2.result (c.if-not-holds_state.ensures.0 refl) c.holds_state-2.ensures
