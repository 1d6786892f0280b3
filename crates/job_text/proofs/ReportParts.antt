-- A report as parts of its text, one after the other.
use Rattle.std.proofs.Common.{◌≡◌, ℕ, List, ◌++◌, length, map, codes, refl, sym, ap, ◌∙◌, subst, arith, lit<}
use Rattle.mont_base.specs.declared.operation.Entry.{Entry}
use Rattle.mont_base.specs.Layout.{Shape}
use Rattle.mont_base.specs.State.{State, Run}
use Rattle.mont_base.specs.declared.kinds.UnitKind.{UnitKind}
use Rattle.job_text.specs.declared.outcome.Outcome.{Outcome}
use Rattle.job_text.specs.declared.report_refusal.ReportRefusal.{ReportRefusal}
use Rattle.job_text.specs.Operations.{IsNumber}
use Rattle.job_text.specs.Report.{Report}
use Rattle.job_text.specs.Runs.{Spelled, spelled_all, HaveRuns}
use Rattle.job_text.specs.TextParts.{Row, BothAre, both_rows}
use Rattle.job_text.specs.Readings.{Unread, Reads, Refuses}
use Rattle.job_text.specs.ReportText.{report_lines, contents_lines, histories_lines, outcomes_lines}
use Rattle.job_text.specs.ReportRanges.{IsReport, IsSpelled, AreCounted, AreHistories, AreOutcomes, AreContents}
use Rattle.job_text.specs.ReportRows.{line_of_row, AllOf, IsTitle, title_words, clock_words, end_words, IsStart, start_rows}
use Rattle.job_text.proofs.Leaves.{IsOnce, both_once}
use Rattle.job_text.proofs.ReadLines.{line_once, reads_other, refuses_other, reads_both, refuses_first, refuses_second}
use Rattle.job_text.proofs.RowParts.{title_part, clock_part, end_part}
use Rattle.job_text.proofs.HistoryParts.{FewCallers, some_histories, histories_once, some_callers, callers_once}
use Rattle.job_text.proofs.ContentsParts.{some_contents, contents_once}
use Rattle.job_text.proofs.Runs.{entries_in, runs_in, all_suit_of, spelled_all_back, have_back, histories_back, all_runs_back}

-- ---- a clock and the contents then
pub start_once : (ks : List UnitKind) (word : List ℕ) → IsOnce (IsStart ks) (start_rows ks word)
start_once ks word = both_once IsNumber (line_of_row (clock_words word)) (λ (n : ℕ). AreContents ks) (λ (n : ℕ). contents_lines ks)
    (line_once IsNumber (clock_words word) (clock_part word)) (λ n is. contents_once ks)

pub some_start : (ks : List UnitKind) → (p : ℕ × List State) × IsStart ks p
some_start ks = let ss = some_contents ks in ((0, ss.0), (lit< tt, ss.1))

-- ---- the parts
few_of : (p : Shape × ℕ) → IsTitle p → FewCallers p.1
few_of p is = let some = is.1 in let few = is.2 in (some, omega arith)

abbrev pub BaseOf : Shape × ℕ → ℕ × List State → Type 0
BaseOf p b = IsStart p.0.kinds b

abbrev pub HistoriesOf : (Shape × ℕ) × (ℕ × List State) → List (List Spelled) → Type 0
HistoriesOf p hs = AllOf (λ unit h. AreCounted (IsSpelled p.0.1) h) (length p.0.0.kinds) hs

abbrev pub CallersOf : ((Shape × ℕ) × (ℕ × List State)) × List (List Spelled) → List (List Outcome) → Type 0
CallersOf p oss = AllOf (λ caller os. AreOutcomes (length p.0.0.0.kinds) p.0.0.1 os) p.0.0.1 oss

abbrev pub ImageOf : (((Shape × ℕ) × (ℕ × List State)) × List (List Spelled)) × List (List Outcome) → ℕ × List State → Type 0
ImageOf p i = IsStart p.0.0.0.0.kinds i

abbrev pub to_title : Shape × ℕ → List Row
to_title = line_of_row title_words

abbrev pub UpToBase : (Shape × ℕ) × (ℕ × List State) → Type 0
UpToBase = BothAre IsTitle BaseOf

abbrev pub to_base : (Shape × ℕ) × (ℕ × List State) → List Row
to_base = both_rows to_title (λ (p : Shape × ℕ). start_rows p.0.kinds (codes "base"))

abbrev pub UpToHistories : ((Shape × ℕ) × (ℕ × List State)) × List (List Spelled) → Type 0
UpToHistories = BothAre UpToBase HistoriesOf

abbrev pub to_histories : ((Shape × ℕ) × (ℕ × List State)) × List (List Spelled) → List Row
to_histories = both_rows to_base (λ (p : (Shape × ℕ) × (ℕ × List State)). histories_lines)

abbrev pub FrontParts : Type 0
FrontParts = (((Shape × ℕ) × (ℕ × List State)) × List (List Spelled)) × List (List Outcome)

abbrev pub UpToCallers : FrontParts → Type 0
UpToCallers = BothAre UpToHistories CallersOf

abbrev pub to_callers : FrontParts → List Row
to_callers = both_rows to_histories (λ (p : ((Shape × ℕ) × (ℕ × List State)) × List (List Spelled)). outcomes_lines)

abbrev pub UpToImage : FrontParts × (ℕ × List State) → Type 0
UpToImage = BothAre UpToCallers ImageOf

abbrev pub to_image : FrontParts × (ℕ × List State) → List Row
to_image = both_rows to_callers (λ (p : FrontParts). start_rows p.0.0.0.0.kinds (codes "image"))

abbrev pub EndOf : FrontParts × (ℕ × List State) → Unit {0} → Type 0
EndOf p e = Unit {0}

abbrev pub UpToEnd : (FrontParts × (ℕ × List State)) × Unit {0} → Type 0
UpToEnd = BothAre UpToImage EndOf

abbrev pub to_end : (FrontParts × (ℕ × List State)) × Unit {0} → List Row
to_end = both_rows to_image (λ (p : FrontParts × (ℕ × List State)). line_of_row end_words)

once_to_title : IsOnce IsTitle to_title
once_to_title = line_once IsTitle title_words title_part

once_to_base : IsOnce UpToBase to_base
once_to_base = both_once IsTitle to_title BaseOf (λ p. start_rows p.0.kinds (codes "base")) once_to_title
    (λ p is. start_once p.0.kinds (codes "base"))

once_to_histories : IsOnce UpToHistories to_histories
once_to_histories = both_once UpToBase to_base HistoriesOf (λ p. histories_lines) once_to_base
    (λ p is. histories_once p.0.1 (few_of p.0 is.0) (length p.0.0.kinds))

once_to_callers : IsOnce UpToCallers to_callers
once_to_callers = both_once UpToHistories to_histories CallersOf (λ p. outcomes_lines) once_to_histories
    (λ p is. callers_once (length p.0.0.0.kinds) p.0.0.1 p.0.0.1)

once_to_image : IsOnce UpToImage to_image
once_to_image = both_once UpToCallers to_callers ImageOf (λ p. start_rows p.0.0.0.0.kinds (codes "image")) once_to_callers
    (λ p is. start_once p.0.0.0.0.kinds (codes "image"))

-- ---- the whole
report_of_parts : (p : (FrontParts × (ℕ × List State)) × Unit {0}) → UpToEnd p → (r : Report) × IsReport r × (report_lines r ≡ to_end p)
report_of_parts p is =
    let t = p.0.0.0.0.0 in
    let b = p.0.0.0.0.1 in
    let hs = p.0.0.0.1 in
    let r : Report = record {
      layout = t.0;
      callers = t.1;
      base_clock = b.0;
      base = b.1;
      histories = map entries_in hs;
      runs = map runs_in hs;
      outcomes = p.0.0.1;
      image_clock = p.0.1.0;
      contents = p.0.1.1;
    } in
    let it = is.0.0.0.0.0 in
    let ib = is.0.0.0.0.1 in
    let whole : spelled_all (map entries_in hs) (map runs_in hs) ≡ hs =
    spelled_all_back hs (all_suit_of t.1 0 hs is.0.0.0.1.0) in (
      r,
      record {
        layout = it.0;
        some_callers = it.1;
        few_callers = it.2;
        base_clock = ib.0;
        base = ib.1;
        histories = subst (AreHistories t.1 (length t.0.kinds)) (sym whole) is.0.0.0.1;
        runs = have_back hs;
        outcomes = is.0.0.1.0;
        callers = is.0.0.1.1;
        image_clock = is.0.1.0;
        contents = is.0.1.1;
      },
      ap (λ (xs : List (List Spelled)). to_end ((((((t, b), xs), p.0.0.1), p.0.1), tt))) whole,
    )

parts_of_report : (r : Report) → IsReport r → (p : (FrontParts × (ℕ × List State)) × Unit {0}) × UpToEnd p × (to_end p ≡ report_lines r)
parts_of_report r is = (
  (
    (
      ((((r.layout, r.callers), (r.base_clock, r.base)), spelled_all r.histories r.runs), r.outcomes),
      (r.image_clock, r.contents),
    ),
    tt,
  ),
  ((
    (
      ((((is.layout, is.some_callers, is.few_callers), (is.base_clock, is.base)), is.histories), (is.outcomes, is.callers)),
      (is.image_clock, is.contents),
    ),
    tt,
  )),
  refl,
)

module _ (old : Unread) where
  up6 : (e : ReportRefusal) → Refuses UpToEnd to_end old e → Refuses IsReport report_lines old e
  up6 e r = refuses_other UpToEnd to_end IsReport report_lines report_of_parts parts_of_report old e r

  up5 : (e : ReportRefusal) → Refuses UpToImage to_image old e → Refuses IsReport report_lines old e
  up5 e r = up6 e (refuses_first UpToImage to_image EndOf (λ p. line_of_row end_words) (λ p is. (tt, tt)) old e r)

  up4 : (e : ReportRefusal) → Refuses UpToCallers to_callers old e → Refuses IsReport report_lines old e
  up4 e r = up5 e (refuses_first UpToCallers to_callers ImageOf (λ p. start_rows p.0.0.0.0.kinds (codes "image"))
      (λ p is. some_start p.0.0.0.0.kinds) old e r)

  up3 : (e : ReportRefusal) → Refuses UpToHistories to_histories old e → Refuses IsReport report_lines old e
  up3 e r = up4 e (refuses_first UpToHistories to_histories CallersOf (λ p. outcomes_lines) (λ p is. some_callers
      (length p.0.0.0.kinds) p.0.0.1 p.0.0.1) old e r)

  up2 : (e : ReportRefusal) → Refuses UpToBase to_base old e → Refuses IsReport report_lines old e
  up2 e r = up3 e (refuses_first UpToBase to_base HistoriesOf (λ p. histories_lines)
      (λ p is. some_histories p.0.1 (few_of p.0 is.0) (length p.0.0.kinds)) old e r)

  pub refuses_title : (e : ReportRefusal) → Refuses IsTitle to_title old e → Refuses IsReport report_lines old e
  refuses_title e r = up2 e (refuses_first IsTitle to_title BaseOf (λ p. start_rows p.0.kinds (codes "base")) (λ p is. some_start
      p.0.kinds) old e r)

  module _ (a : Unread) (t : Shape × ℕ) (first : Reads IsTitle to_title old a t) where
    pub refuses_base : (e : ReportRefusal) → Refuses (BaseOf t) (start_rows t.0.kinds (codes "base")) a e → Refuses IsReport report_lines
        old e
    refuses_base e r = up2 e (refuses_second IsTitle to_title BaseOf (λ p. start_rows p.0.kinds (codes "base")) once_to_title old a t e
        first r)

    module _ (b : Unread) (base : ℕ × List State) (second : Reads (BaseOf t) (start_rows t.0.kinds (codes "base")) a b base) where
      two : Reads UpToBase to_base old b (t, base)
      two = reads_both IsTitle to_title BaseOf (λ p. start_rows p.0.kinds (codes "base")) old a b t base first second

      pub refuses_histories : (e : ReportRefusal) → Refuses (HistoriesOf (t, base)) histories_lines b e
          → Refuses IsReport report_lines old e
      refuses_histories e r =
          up3 e (refuses_second UpToBase to_base HistoriesOf (λ p. histories_lines) once_to_base old b (t, base) e two r)

      module _ (d : Unread) (histories : List (List Entry)) (runs : List (List Run)) (have : HaveRuns histories runs)
          (third : Reads (HistoriesOf (t, base)) histories_lines b d (spelled_all histories runs)) where
        abbrev hs : List (List Spelled)
        hs = spelled_all histories runs

        three : Reads UpToHistories to_histories old d ((t, base), hs)
        three = reads_both UpToBase to_base HistoriesOf (λ p. histories_lines) old b d (t, base) hs two third

        pub refuses_callers : (e : ReportRefusal) → Refuses (CallersOf ((t, base), hs)) outcomes_lines d e
            → Refuses IsReport report_lines old e
        refuses_callers e r =
            up4 e (refuses_second UpToHistories to_histories CallersOf (λ p. outcomes_lines) once_to_histories old d
            ((t, base), hs) e three r)

        module _ (f : Unread) (oss : List (List Outcome)) (fourth : Reads (CallersOf ((t, base), hs)) outcomes_lines d f oss) where
          four : Reads UpToCallers to_callers old f (((t, base), hs), oss)
          four = reads_both UpToHistories to_histories CallersOf (λ p. outcomes_lines) old d f ((t, base), hs) oss three fourth

          pub refuses_image : (e : ReportRefusal) → Refuses (ImageOf (((t, base), hs), oss)) (start_rows t.0.kinds (codes "image")) f e
              → Refuses IsReport report_lines old e
          refuses_image e r = up5 e (refuses_second UpToCallers to_callers ImageOf (λ p. start_rows p.0.0.0.0.kinds (codes "image"))
              once_to_callers old f
              (((t, base), hs), oss) e four r)

          module _ (g : Unread) (image : ℕ × List State) (fifth : Reads (ImageOf (((t, base), hs), oss)) (start_rows
              t.0.kinds (codes "image")) f g image) where
            five : Reads UpToImage to_image old g ((((t, base), hs), oss), image)
            five = reads_both UpToCallers to_callers ImageOf (λ p. start_rows p.0.0.0.0.kinds (codes "image")) old f g
                (((t, base), hs), oss) image four fifth

            pub refuses_end : (e : ReportRefusal) → Refuses (λ _. Unit {0}) (line_of_row end_words) g e
                → Refuses IsReport report_lines old e
            refuses_end e r = up6 e (refuses_second UpToImage to_image EndOf (λ p. line_of_row end_words) once_to_image old g
                ((((t, base), hs), oss), image) e five r)

            pub reads_report : (new : Unread) → Reads (λ _. Unit {0}) (line_of_row end_words) g new tt
                → Reads IsReport report_lines old new
                (record {
                  layout = t.0;
                  callers = t.1;
                  base_clock = base.0;
                  base = base.1;
                  histories = histories;
                  runs = runs;
                  outcomes = oss;
                  image_clock = image.0;
                  contents = image.1;
                })
            reads_report new last =
                let parts = reads_both UpToImage to_image EndOf (λ p. line_of_row end_words) old g new
                ((((t, base), hs), oss), image) tt five last in
                reads_other UpToEnd to_end IsReport report_lines old new (((((t, base), hs), oss), image), tt) _ parts
                (record {
                  layout = first.is.0;
                  some_callers = first.is.1;
                  few_callers = first.is.2;
                  base_clock = second.is.0;
                  base = second.is.1;
                  histories = third.is;
                  runs = have;
                  outcomes = fourth.is.0;
                  callers = fourth.is.1;
                  image_clock = fifth.is.0;
                  contents = fifth.is.1;
                }) refl

pub report_once : IsOnce IsReport report_lines
unfolding parts_of_report
report_once x y a b is are e =
    let p = parts_of_report x is in
    let q = parts_of_report y are in
    let same = both_once UpToImage to_image EndOf (λ p. line_of_row end_words) once_to_image (λ p is. line_once
    (λ _. Unit {0}) end_words end_part) p.0 q.0 a b p.1 q.1
    (ap (λ (rs : List Row). rs ++ a) p.2 ∙ e ∙ ap (λ (rs : List Row). rs ++ b) (sym q.2)) in
    joined_same same
  where
    joined_same : (parts_of_report x is).0 ≡ (parts_of_report y are).0 → x ≡ y
    joined_same s =
        let spelled : spelled_all x.histories x.runs ≡ spelled_all y.histories y.runs = ap (λ t. t.0.0.0.1) s in
        let histories : x.histories ≡ y.histories =
        sym (histories_back x.histories x.runs) ∙ ap (map entries_in) spelled ∙ histories_back y.histories y.runs in
        let runs : x.runs ≡ y.runs =
        sym (all_runs_back x.histories x.runs is.runs) ∙ ap (map runs_in) spelled ∙ all_runs_back y.histories y.runs are.runs in
        λ i. record {
          layout = (s i).0.0.0.0.0.0;
          callers = (s i).0.0.0.0.0.1;
          base_clock = (s i).0.0.0.0.1.0;
          base = (s i).0.0.0.0.1.1;
          histories = histories i;
          runs = runs i;
          outcomes = (s i).0.0.1;
          image_clock = (s i).0.1.0;
          contents = (s i).0.1.1;
        }
