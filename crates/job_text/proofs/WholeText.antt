-- What the reader of whole reports answers, from what it found.
use Rattle.std.proofs.Common.{◌≡◌, ◌≢◌, ℕ, ◌+◌, List, [], ◌∷◌, ◌++◌, Result, Ok, Err, refl, sym, ap, ◌∙◌, subst, arith}
use Rattle.std.proofs.lemmas.List.{append_assoc, append-nil, append_cancel_left}
use Rattle.std.specs.Result.{IsErrAnd}
use Rattle.job_text.specs.declared.report_refusal.ReportRefusal.{ReportRefusal}
use Rattle.job_text.specs.declared.report_refusal.ReportRefusal.TheVariants.{Text, Memory}
use Rattle.job_text.specs.Report.{Report}
use Rattle.job_text.specs.Lines.{text_of}
use Rattle.job_text.specs.TextParts.{LeavesAt}
use Rattle.job_text.specs.Readings.{lines_in, Unread, Reads}
use Rattle.job_text.specs.ReportText.{report_lines, report_text}
use Rattle.job_text.specs.ReportRanges.{IsReport, IsFirstWrong}
use Rattle.job_text.proofs.CleanLines.{AllClean, clean_lines}
use Rattle.job_text.proofs.Leaves.{IsOnce}

module _ (clean : (r : Report) → IsReport r → AllClean (report_lines r)) (once : IsOnce IsReport report_lines) where
  -- the lines of a report's text
  lines_of_text : (r : Report) → IsReport r → (text : List ℕ) → text ≡ report_text r → lines_in text ≡ report_lines r ++ []
  lines_of_text r is text e =
      ap lines_in (e ∙ sym (append-nil (text_of (report_lines r)))) ∙ clean_lines (report_lines r) [] (clean r is)

  pub wrong_line : (text : List ℕ) (line place : ℕ) → line ≡ 0 + place + 1 → LeavesAt IsReport report_lines (lines_in text) place
      → IsFirstWrong text line
  wrong_line text line place is l = record {
    before = l.before;
    after = l.after;
    lines = l.joined;
    counted = omega (arith, l.counted);
    begins = l.begins;
    wrong = l.wrong;
    no_report = λ r it e. l.unfinished r [] it (lines_of_text r it text e);
  }

  -- bytes after a whole report
  pub wrong_behind : (text : List ℕ) (new : Unread) (r : Report) (line : ℕ)
      → Reads IsReport report_lines (record { bytes = text; taken = 0 }) new r
      → new.bytes ≢ [] → line ≡ new.taken + 1 → IsFirstWrong text line
  wrong_behind text new r line read more is = record {
    before = report_lines r;
    after = lines_in new.bytes;
    lines = read.lines;
    counted = omega (arith, read.taken);
    begins = (r, read.is, [], sym (append-nil (report_lines r)));
    wrong = λ row behind at b.
        let whole : report_lines b.0 ++ [] ≡ report_lines r ++ (row ∷ b.2) =
        append-nil (report_lines b.0) ∙ b.3 ∙ append_assoc (report_lines r) (row ∷ []) b.2 in
        let same = once b.0 r [] (row ∷ b.2) b.1 read.is whole in
        let rest : report_lines r ++ [] ≡ report_lines r ++ (row ∷ b.2) =
        subst (λ (s : Report). report_lines s ++ [] ≡ report_lines r ++ (row ∷ b.2)) same whole in
        let none = append_cancel_left (report_lines r) [] (row ∷ b.2) rest in
        absurd (cc);
    no_report = λ s it e.
        let whole : report_lines s ++ [] ≡ report_lines r ++ lines_in new.bytes = sym (lines_of_text s it text e) ∙ read.lines in
        let same = once s r [] (lines_in new.bytes) it read.is whole in
        let both : text_of (report_lines r) ++ [] ≡ text_of (report_lines r) ++ new.bytes =
        append-nil (text_of (report_lines r)) ∙ ap report_text (sym same) ∙ sym e ∙ read.bytes in
        more (sym (append_cancel_left (text_of (report_lines r)) [] new.bytes both));
  }

  -- a text is the text of one report
  pub same_report : (text : List ℕ) (new : Unread) (r s : Report)
      → Reads IsReport report_lines (record { bytes = text; taken = 0 }) new r
      → IsReport s → text ≡ report_text s → r ≡ s
  same_report text new r s read it e =
      once r s (lines_in new.bytes) [] read.is it (sym read.lines ∙ lines_of_text s it text e)

pub named_error : {X : Type 0} (r : Result X ReportRefusal) (e : ReportRefusal) → IsErrAnd r (λ d. d ≡ e) → (line : ℕ)
    → r ≡ Err (Text line) → e ≡ Text line
named_error (Ok x) e is line at = absurd is
named_error (Err d) e is line at = sym is ∙ (let same : d ≡ Text line = cc in same)

pub only_memory : (P : Type 0) (e : ReportRefusal) → ((line : ℕ) → e ≡ Text line → P) → (P → ⊥) → e ≡ Memory
only_memory P (Text line) told none = absurd (none (told line refl))
only_memory P Memory told none = refl
