use Rattle.std.proofs.Common.{None, refl, sym, subst}
use Rattle.mont_image.specs.ImageText.{image_text}
use Rattle.montage_tool.specs.Devices.{sink_seen, source_seen}
use Rattle.montage_tool.specs.Forms.{AsksImage}
use Rattle.montage_tool.proofs.ServedForms.{err_status, first_seen, never_first, quiet_one, quiet_two, serves_bank, serves_big, serves_check, serves_crash, serves_recover, serves_replay, serves_resume, serves_resume_to, serves_run, stays_quiet, stays_unasked}
use Rattle.montage_tool.proofs.top_call.serve_form.Goals as goal

pub returns-in-Run-clause-serves : goal.returns-in-Run-clause-serves
returns-in-Run-clause-serves g c =
    let made = c.fresh_run-run.ensures in
    let left = g.I.Source.left c.args.image.now in
    serves_run _ _ _ c.send_report.result (λ m. m.report.items) (λ m. image_text m.image.layout m.image.words) c.fresh_run-run.result
    (quiet_one (sink_seen g.O.Sink) c.fresh_run-run.result c.send_report.result c.args.out.now c.send_report.new.out _ _ refl refl refl
    c.send_report.ensures.refused)
    (made.made left) (made.refused left) made.source made.whole refl c.args.form c.in-Run.is
    (c.send_report.ensures.made (sink_seen g.K.Sink c.args.image_out.now))

pub returns-in-Run-clause-out : goal.returns-in-Run-clause-out
returns-in-Run-clause-out g c =
    let kept = sink_seen g.K.Sink c.args.image_out.now in
    stays_quiet (λ m. record { text = m.report.items; image = None }) c.fresh_run-run.result c.send_report.result
    (sink_seen g.O.Sink c.args.out.now) (sink_seen g.O.Sink c.send_report.new.out) kept kept (c.send_report.ensures.made kept)
    c.args.out.now c.send_report.new.out c.send_report.ensures.refused

pub returns-in-Crash-clause-serves : goal.returns-in-Crash-clause-serves
returns-in-Crash-clause-serves g c =
    let made = c.fresh_run-run-in-Crash.ensures in
    let left = g.I.Source.left c.args.image.now in
    serves_crash _ _ _ c.send_both.result (λ m. m.report.items) (λ m. image_text m.image.layout m.image.words)
    c.fresh_run-run-in-Crash.result
    (quiet_two (sink_seen g.O.Sink) (sink_seen g.K.Sink) c.fresh_run-run-in-Crash.result c.send_both.result c.args.out.now
    c.send_both.new.out c.args.image_out.now c.send_both.new.image_out _ _ refl refl refl refl c.send_both.ensures.refused)
    (made.made left) (made.refused left) made.source made.whole refl c.args.form c.in-Crash.is c.send_both.ensures.made

pub returns-in-Resume-clause-serves : goal.returns-in-Resume-clause-serves
returns-in-Resume-clause-serves g c =
    let made = c.resumed_run-run.ensures in
    serves_resume _ _ _ c.send_report-in-Resume.result (λ m. m.report.items) (λ m. image_text m.image.layout m.image.words)
    c.resumed_run-run.result
    (quiet_one (sink_seen g.O.Sink) c.resumed_run-run.result c.send_report-in-Resume.result c.args.out.now
    c.send_report-in-Resume.new.out _ _ refl refl refl c.send_report-in-Resume.ensures.refused)
    made.made made.refused made.job made.whole made.image
    (first_seen (source_seen g.I.Source) c.resumed_run-run.result c.args.image.now c.resumed_run-run.new.image made.first) c.args.form
    c.in-Resume.is (c.send_report-in-Resume.ensures.made (sink_seen g.K.Sink c.args.image_out.now))

pub returns-in-Resume-clause-image : goal.returns-in-Resume-clause-image
returns-in-Resume-clause-image g c =
    let kept = sink_seen g.K.Sink c.args.image_out.now in
    λ which.
    stays_unasked (λ m. record { text = m.report.items; image = None }) c.resumed_run-run.result c.send_report-in-Resume.result
    (sink_seen g.O.Sink c.args.out.now) (sink_seen g.O.Sink c.send_report-in-Resume.new.out) kept kept
    (c.send_report-in-Resume.ensures.made kept) c.args.image.now c.resumed_run-run.new.image c.args.form
    (subst AsksImage (sym c.in-Resume.is) tt)
    (err_status c.resumed_run-run.result c.send_report-in-Resume.result c.args.out.now c.send_report-in-Resume.new.out
    c.send_report-in-Resume.ensures.refused)
    c.resumed_run-run.ensures.first which

pub returns-in-Resume-clause-out : goal.returns-in-Resume-clause-out
returns-in-Resume-clause-out g c =
    let kept = sink_seen g.K.Sink c.args.image_out.now in
    stays_quiet (λ m. record { text = m.report.items; image = None }) c.resumed_run-run.result c.send_report-in-Resume.result
    (sink_seen g.O.Sink c.args.out.now) (sink_seen g.O.Sink c.send_report-in-Resume.new.out) kept kept
    (c.send_report-in-Resume.ensures.made kept) c.args.out.now c.send_report-in-Resume.new.out c.send_report-in-Resume.ensures.refused

pub returns-in-ResumeTo-clause-serves : goal.returns-in-ResumeTo-clause-serves
returns-in-ResumeTo-clause-serves g c =
    let made = c.resumed_run-run-in-ResumeTo.ensures in
    serves_resume_to _ _ _ c.send_both-in-ResumeTo.result (λ m. m.report.items) (λ m. image_text m.image.layout m.image.words)
    c.resumed_run-run-in-ResumeTo.result
    (quiet_two (sink_seen g.O.Sink) (sink_seen g.K.Sink) c.resumed_run-run-in-ResumeTo.result c.send_both-in-ResumeTo.result
    c.args.out.now c.send_both-in-ResumeTo.new.out c.args.image_out.now c.send_both-in-ResumeTo.new.image_out _ _ refl refl refl refl
    c.send_both-in-ResumeTo.ensures.refused)
    made.made made.refused made.job made.whole made.image
    (first_seen (source_seen g.I.Source) c.resumed_run-run-in-ResumeTo.result c.args.image.now c.resumed_run-run-in-ResumeTo.new.image
    made.first) c.args.form c.in-ResumeTo.is c.send_both-in-ResumeTo.ensures.made

pub returns-in-Recover-clause-serves : goal.returns-in-Recover-clause-serves
returns-in-Recover-clause-serves g c =
    let made = c.contents_of.ensures in
    serves_recover _ _ _ c.send_text.result (λ t. t.items) (λ t. t.items) c.contents_of.result
    (quiet_one (sink_seen g.O.Sink) c.contents_of.result c.send_text.result c.args.out.now c.send_text.new.out _ _ refl refl refl
    c.send_text.ensures.refused)
    c.args.form c.in-Recover.workers c.in-Recover.is made.told made.refused made.source refl
    (c.send_text.ensures.made (sink_seen g.K.Sink c.args.image_out.now))

pub returns-in-Recover-clause-image : goal.returns-in-Recover-clause-image
returns-in-Recover-clause-image g c =
    let kept = sink_seen g.K.Sink c.args.image_out.now in
    let left = g.I.Source.left c.args.image.now in
    λ which.
    stays_unasked (λ t. record { text = t.items; image = None }) c.contents_of.result c.send_text.result
    (sink_seen g.O.Sink c.args.out.now) (sink_seen g.O.Sink c.send_text.new.out) kept kept (c.send_text.ensures.made kept)
    c.args.image.now c.contents_of.new.image c.args.form (subst AsksImage (sym c.in-Recover.is) tt)
    (err_status c.contents_of.result c.send_text.result c.args.out.now c.send_text.new.out c.send_text.ensures.refused)
    (never_first left c.contents_of.result c.args.image.now c.contents_of.new.image c.contents_of.ensures.refused) which

pub returns-in-Recover-clause-out : goal.returns-in-Recover-clause-out
returns-in-Recover-clause-out g c =
    let kept = sink_seen g.K.Sink c.args.image_out.now in
    stays_quiet (λ t. record { text = t.items; image = None }) c.contents_of.result c.send_text.result
    (sink_seen g.O.Sink c.args.out.now) (sink_seen g.O.Sink c.send_text.new.out) kept kept (c.send_text.ensures.made kept)
    c.args.out.now c.send_text.new.out c.send_text.ensures.refused

pub returns-in-Check-clause-serves : goal.returns-in-Check-clause-serves
returns-in-Check-clause-serves g c =
    let made = c.verdict_of.ensures in
    serves_check _ _ _ c.send_text-in-Check.result (λ t. t.items) (λ t. t.items) c.verdict_of.result
    (quiet_one (sink_seen g.O.Sink) c.verdict_of.result c.send_text-in-Check.result c.args.out.now c.send_text-in-Check.new.out _ _ refl
    refl refl c.send_text-in-Check.ensures.refused)
    c.args.form c.in-Check.is made.told made.refused made.job made.whole made.image
    (first_seen (source_seen g.I.Source) c.verdict_of.result c.args.image.now c.verdict_of.new.image made.first)
    (c.send_text-in-Check.ensures.made (sink_seen g.K.Sink c.args.image_out.now))

pub returns-in-Check-clause-image : goal.returns-in-Check-clause-image
returns-in-Check-clause-image g c =
    let kept = sink_seen g.K.Sink c.args.image_out.now in
    λ which.
    stays_unasked (λ t. record { text = t.items; image = None }) c.verdict_of.result c.send_text-in-Check.result
    (sink_seen g.O.Sink c.args.out.now) (sink_seen g.O.Sink c.send_text-in-Check.new.out) kept kept
    (c.send_text-in-Check.ensures.made kept) c.args.image.now c.verdict_of.new.image c.args.form (subst AsksImage (sym c.in-Check.is) tt)
    (err_status c.verdict_of.result c.send_text-in-Check.result c.args.out.now c.send_text-in-Check.new.out
    c.send_text-in-Check.ensures.refused)
    c.verdict_of.ensures.first which

pub returns-in-Check-clause-out : goal.returns-in-Check-clause-out
returns-in-Check-clause-out g c =
    let kept = sink_seen g.K.Sink c.args.image_out.now in
    stays_quiet (λ t. record { text = t.items; image = None }) c.verdict_of.result c.send_text-in-Check.result
    (sink_seen g.O.Sink c.args.out.now) (sink_seen g.O.Sink c.send_text-in-Check.new.out) kept kept
    (c.send_text-in-Check.ensures.made kept) c.args.out.now c.send_text-in-Check.new.out c.send_text-in-Check.ensures.refused

pub returns-in-Replay-clause-serves : goal.returns-in-Replay-clause-serves
returns-in-Replay-clause-serves g c =
    let made = c.replayed_text.ensures in
    serves_replay _ _ _ c.send_text-in-Replay.result (λ t. t.items) (λ t. t.items) c.replayed_text.result
    (quiet_one (sink_seen g.O.Sink) c.replayed_text.result c.send_text-in-Replay.result c.args.out.now c.send_text-in-Replay.new.out _ _
    refl refl refl c.send_text-in-Replay.ensures.refused)
    c.args.form c.in-Replay.is made.told made.refused made.source made.whole refl
    (c.send_text-in-Replay.ensures.made (sink_seen g.K.Sink c.args.image_out.now))

pub returns-in-Replay-clause-out : goal.returns-in-Replay-clause-out
returns-in-Replay-clause-out g c =
    let kept = sink_seen g.K.Sink c.args.image_out.now in
    stays_quiet (λ t. record { text = t.items; image = None }) c.replayed_text.result c.send_text-in-Replay.result
    (sink_seen g.O.Sink c.args.out.now) (sink_seen g.O.Sink c.send_text-in-Replay.new.out) kept kept
    (c.send_text-in-Replay.ensures.made kept) c.args.out.now c.send_text-in-Replay.new.out c.send_text-in-Replay.ensures.refused

pub returns-in-Big-clause-serves : goal.returns-in-Big-clause-serves
returns-in-Big-clause-serves g c =
    let made = c.big_run-text.ensures in
    serves_big _ _ _ c.send_text-in-Big.result (λ t. t.items) (λ t. t.items) c.big_run-text.result
    (quiet_one (sink_seen g.O.Sink) c.big_run-text.result c.send_text-in-Big.result c.args.out.now c.send_text-in-Big.new.out _ _ refl refl
    refl c.send_text-in-Big.ensures.refused) refl refl (c.send_text-in-Big.ensures.made (sink_seen g.K.Sink c.args.image_out.now))
    c.args.form c.in-Big.number c.in-Big.is made.told made.refused

pub returns-in-Big-clause-out : goal.returns-in-Big-clause-out
returns-in-Big-clause-out g c =
    let kept = sink_seen g.K.Sink c.args.image_out.now in
    stays_quiet (λ t. record { text = t.items; image = None }) c.big_run-text.result c.send_text-in-Big.result
    (sink_seen g.O.Sink c.args.out.now) (sink_seen g.O.Sink c.send_text-in-Big.new.out) kept kept (c.send_text-in-Big.ensures.made kept)
    c.args.out.now c.send_text-in-Big.new.out c.send_text-in-Big.ensures.refused

pub returns-in-Bank-clause-serves : goal.returns-in-Bank-clause-serves
returns-in-Bank-clause-serves g c =
    let made = c.bank_run-text.ensures in
    serves_bank _ _ _ c.send_text-in-Bank.result (λ t. t.items) (λ t. t.items) c.bank_run-text.result
    (quiet_one (sink_seen g.O.Sink) c.bank_run-text.result c.send_text-in-Bank.result c.args.out.now c.send_text-in-Bank.new.out _ _ refl
    refl refl c.send_text-in-Bank.ensures.refused) refl refl (c.send_text-in-Bank.ensures.made (sink_seen g.K.Sink c.args.image_out.now))
    c.args.form c.in-Bank.number c.in-Bank.is made.told made.refused

pub returns-in-Bank-clause-out : goal.returns-in-Bank-clause-out
returns-in-Bank-clause-out g c =
    let kept = sink_seen g.K.Sink c.args.image_out.now in
    stays_quiet (λ t. record { text = t.items; image = None }) c.bank_run-text.result c.send_text-in-Bank.result
    (sink_seen g.O.Sink c.args.out.now) (sink_seen g.O.Sink c.send_text-in-Bank.new.out) kept kept (c.send_text-in-Bank.ensures.made kept)
    c.args.out.now c.send_text-in-Bank.new.out c.send_text-in-Bank.ensures.refused
