-- A report is written part by part.
use Rattle.std.proofs.Common.{◌≡◌, List, ℕ, [], ◌∷◌, ◌++◌, codes, sym, ap, ◌∙◌}
use Rattle.std.proofs.lemmas.List.{append-nil}
use Rattle.std.proofs.lemmas.Grind.{flat_map-append}
use Rattle.mont_base.specs.declared.operation.Entry.{Entry}
use Rattle.job_text.specs.declared.outcome.Outcome.{Outcome}
use Rattle.job_text.specs.Lines.{text_of, line_of}
use Rattle.job_text.specs.Report.{Report}
use Rattle.mont_base.specs.Layout.{Shape}
use Rattle.mont_base.specs.State.{State, Run}
use Rattle.mont_base.specs.declared.kinds.UnitKind.{UnitKind}
use Rattle.job_text.specs.Runs.{spelled_all}
use Rattle.job_text.specs.ReportText.{report_header_words, base_lines, histories_lines, outcomes_lines, image_lines, report_text, contents_lines, contents_header_words, contents_text}

-- one part more
next : (ls ms : List (List (List ℕ))) (was now : List ℕ) → was ≡ text_of ls → now ≡ was ++ text_of ms → now ≡ text_of (ls ++ ms)
next ls ms was now before step = step ∙ ap (λ bs. bs ++ text_of ms) before ∙ sym (flat_map-append line_of ls ms)

-- the first line
first : (words : List (List ℕ)) (start now : List ℕ) → start ≡ [] → now ≡ start ++ line_of words → now ≡ text_of (words ∷ [])
first words start now empty step = step ∙ ap (λ bs. bs ++ line_of words) empty ∙ sym (append-nil (line_of words))

-- the parts are written one after the other, the lists of the report under other names
module _ (r : Report) (kinds : List UnitKind) (histories : List (List Entry)) (runs : List (List Run)) (outcomes : List (List Outcome))
    (same_kinds : kinds ≡ r.layout.kinds) (same_histories : histories ≡ r.histories) (same_runs : runs ≡ r.runs)
    (same_outcomes : outcomes ≡ r.outcomes) where
  pub report_written : (start header base units callers image end : List ℕ) → start ≡ [] → header
      ≡ start ++ line_of (report_header_words r.layout r.callers) → base ≡ header ++ text_of (base_lines kinds r.base_clock r.base) → units
      ≡ base ++ text_of (histories_lines (spelled_all histories runs)) → callers ≡ units ++ text_of (outcomes_lines outcomes) → image
      ≡ callers ++ text_of (image_lines kinds r.image_clock r.contents) → end ≡ image ++ codes "end\n" → end ≡ report_text r
  report_written start header base units callers image end empty e1 e2 e3 e4 e5 e6 =
      let h = report_header_words r.layout r.callers ∷ [] in
      let b = h ++ base_lines r.layout.kinds r.base_clock r.base in
      let k = b ++ histories_lines (spelled_all r.histories r.runs) in
      let o = k ++ outcomes_lines r.outcomes in
      let i = o ++ image_lines r.layout.kinds r.image_clock r.contents in
      let t1 = first (report_header_words r.layout r.callers) start header empty e1 in
      let t2 = next h (base_lines r.layout.kinds r.base_clock r.base) header base t1
      (e2 ∙ ap (λ ks. header ++ text_of (base_lines ks r.base_clock r.base)) same_kinds) in
      let t3 = next b (histories_lines (spelled_all r.histories r.runs)) base units t2
      (e3 ∙ (λ j. base ++ text_of (histories_lines (spelled_all (same_histories j) (same_runs j))))) in
      let t4 = next k (outcomes_lines r.outcomes) units callers t3 (e4 ∙ ap (λ xs. units ++ text_of (outcomes_lines xs)) same_outcomes) in
      let t5 = next o (image_lines r.layout.kinds r.image_clock r.contents) callers image t4
      (e5 ∙ ap (λ ks. callers ++ text_of (image_lines ks r.image_clock r.contents)) same_kinds) in
      next i ((codes "end" ∷ []) ∷ []) image end t5 e6

-- contents alone: a first line, the units, and the last line
pub contents_written : (s : Shape) (clock : ℕ) (kinds : List UnitKind) (states units : List State) (start header body end : List ℕ)
    → kinds ≡ s.kinds → units ≡ states → start ≡ []
    → header ≡ start ++ line_of (contents_header_words s clock) → body ≡ header ++ text_of (contents_lines kinds units) → end
    ≡ body ++ codes "end\n" → end ≡ contents_text s clock states
contents_written s clock kinds states units start header body end same_kinds same empty e1 e2 e3 =
    let h = contents_header_words s clock ∷ [] in
    let t1 = first (contents_header_words s clock) start header empty e1 in
    let t2 = next h (contents_lines s.kinds states) header body t1
    (e2 ∙ (λ j. header ++ text_of (contents_lines (same_kinds j) (same j)))) in
    next (h ++ contents_lines s.kinds states) ((codes "end" ∷ []) ∷ []) body end t2 e3
