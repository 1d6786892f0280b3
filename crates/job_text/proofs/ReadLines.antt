-- Lines that are read of a text, one by one and part by part.
use Rattle.std.proofs.Common.{◌≡◌, ◌≢◌, ℕ, suc, ◌+◌, ◌-◌, ◌<◌, ◌≤◌, ◌==◌, List, [], ◌∷◌, ◌++◌, length, map, take, Result, Ok, Err, MatchResult, Bor, refl, sym, ap, ◌∙◌, subst, arith}
use Rattle.std.specs.Result.{IsErrAnd}
use Rattle.std.proofs.lemmas.List.{append_assoc, append-nil, length-append}
use Rattle.std.proofs.lemmas.List.Splits.{slice_split_at, slice_split_none, length-slice_split, join_with_byte-slice_split}
use Rattle.std.proofs.lemmas.Grind.{flat_map-append}
use Rattle.job_text.specs.declared.report_refusal.ReportRefusal.{ReportRefusal}
use Rattle.job_text.specs.declared.report_refusal.ReportRefusal.TheVariants.{Text, Memory}
use Rattle.job_text.specs.Lines.{spaced, line_of, text_of, parts_of}
use Rattle.job_text.specs.Parts.{Lacks, IsSplit}
use Rattle.job_text.specs.LineWords.{words_of}
use Rattle.job_text.specs.TextParts.{Row, LeavesAt, BothAre, both_rows, rows_from, AllFrom}
use Rattle.job_text.specs.Readings.{lines_in, Unread, Reads, Refuses, TakesLine, HasNoLine, TakesRow, HasNoRow}
use Rattle.job_text.specs.ReportRows.{line_of_row}
use Rattle.job_text.specs.declared.split_words.TheConstants.{MOST_WORDS}
use Rattle.job_text.proofs.Leaves.{IsOnce, leaves_other, leaves_first, leaves_second, leaves_item, rows_push}

-- ---- the lines of a text
whole_parts : (line : List ℕ) (parts : List (List ℕ)) → 1 ≤ length parts
    → map words_of (take (length (line ∷ parts) - 1) (line ∷ parts)) ≡ words_of line ∷ map words_of (take (length parts - 1) parts)
whole_parts line parts some =
    let many : length (line ∷ parts) - 1 ≡ suc (length parts - 1) = omega arith in
    ap (λ (n : ℕ). map words_of (take n (line ∷ parts))) many

pub lines_split : (text line after : List ℕ) → IsSplit 10 text line after → lines_in text ≡ words_of line ∷ lines_in after
lines_split text line after split =
    let parts : parts_of text ≡ line ∷ parts_of after =
    ap parts_of split.joined ∙ slice_split_at (λ b. b == 10) line 10 after split.first refl in
    ap (λ (ps : List (List ℕ)). map words_of (take (length ps - 1) ps)) parts
    ∙ whole_parts line (parts_of after) (omega (arith, length-slice_split (λ b. b == 10) after))

pub lines_lacking : (text : List ℕ) → Lacks 10 text → lines_in text ≡ []
lines_lacking text lacks =
    ap (λ (ps : List (List ℕ)). map words_of (take (length ps - 1) ps)) (slice_split_none (λ b. b == 10) text lacks)

pub takes_line : (old new : Unread) (line after : List ℕ) → IsSplit 10 old.bytes line after → new.bytes ≡ after
    → new.taken ≡ old.taken + 1 → TakesLine old new line
takes_line old new line after split rest count = record {
  bytes = split.joined ∙ ap (λ bs. line ++ 10 ∷ bs) (sym rest);
  lines = lines_split old.bytes line after split ∙ ap (λ bs. words_of line ∷ lines_in bs) (sym rest);
  taken = count;
}

pub takes_row : (old new : Unread) (line : List ℕ) (row : Row) → TakesLine old new line → row ≡ words_of line → TakesRow old new row
takes_row old new line row takes words = record {
  bytes = takes.bytes
      ∙ ap (λ (bs : List ℕ). bs ++ 10 ∷ new.bytes) (sym (join_with_byte-slice_split 32 line) ∙ ap spaced (sym words))
      ∙ sym (append_assoc (spaced row) (10 ∷ []) new.bytes);
  lines = takes.lines ∙ ap (λ (r : Row). r ∷ lines_in new.bytes) (sym words);
  taken = takes.taken;
}

pub no_row : (old : Unread) (e : ReportRefusal) → HasNoLine old e → HasNoRow old e
no_row old e none = record {
  refused = none.1;
  long = λ row rest there. absurd (let empty = none.0 in cc);
}

pub long_row : (old new : Unread) (line : List ℕ) → TakesLine old new line → MOST_WORDS < length (words_of line)
    → HasNoRow old (Text new.taken)
long_row old new line takes long = record {
  refused = ap Text takes.taken;
  long = λ row rest there.
      let both : words_of line ∷ lines_in new.bytes ≡ row ∷ rest = sym takes.lines ∙ there in
      let same : words_of line ≡ row = cc in
      subst (λ (r : Row). MOST_WORDS < length r) same long;
}

-- ---- a part of one line
-- What a part of one line must be: it has a value, no line of it has too many words, and no two
-- values have one line.
pub record IsLinePart {X : Type 0} (Is : X → Type 0) (row : X → Row) : Type 0 where
  pub value : X
  pub is : Is value
  pub short : (x : X) → Is x → length (row x) ≤ MOST_WORDS
  pub once : (x y : X) → Is x → Is y → row x ≡ row y → x ≡ y

module _ {X : Type 0} (Is : X → Type 0) (row : X → Row) where
  pub line_once : IsLinePart Is row → IsOnce Is (line_of_row row)
  line_once part x y a b is are e = part.once x y is are (let same : row x ∷ a ≡ row y ∷ b = e in cc)

  pub reads_line : (old new : Unread) (r : Row) (x : X) → TakesRow old new r → Is x → r ≡ row x → Reads Is (line_of_row row) old new x
  reads_line old new r x takes is same = record {
    is = is;
    bytes = takes.bytes ∙ ap (λ (t : Row). line_of t ++ new.bytes) same
        ∙ ap (λ (bs : List ℕ). bs ++ new.bytes) (sym (append-nil (line_of (row x))));
    lines = takes.lines ∙ ap (λ (t : Row). t ∷ lines_in new.bytes) same;
    taken = takes.taken;
  }

  leaves_here : IsLinePart Is row → (ls : List Row) → ((r : Row) (rest : List Row) → ls ≡ r ∷ rest → (y : X) → Is y → r ≢ row y)
      → LeavesAt Is (line_of_row row) ls 0
  leaves_here part ls none = record {
    before = [];
    after = ls;
    joined = refl;
    counted = refl;
    begins = (part.value, part.is, line_of_row row part.value, refl);
    wrong = λ r behind e b. none r behind e b.0 b.1 (let same : row b.0 ∷ [] ≡ r ∷ b.2 = b.3 in cc);
    unfinished = λ y behind are e. none (row y) behind e y are refl;
  }

  -- there is no line, or it has too many words
  pub refuses_none : IsLinePart Is row → (old : Unread) (e : ReportRefusal) → HasNoRow old e → Refuses Is (line_of_row row) old e
  refuses_none part old e none =
      subst (Refuses Is (line_of_row row) old) (sym none.refused) (
        0,
        omega arith,
        leaves_here part (lines_in old.bytes)
            (λ r rest there y are same.
            let long = none.long r rest there in
            let short = part.short y are in
            omega (arith, ap length same)),
      )

  -- it spells no value
  pub refuses_line : IsLinePart Is row → (old new : Unread) (r : Row) (e : ReportRefusal) → TakesRow old new r → e ≡ Text new.taken
      → ((y : X) → Is y → r ≢ row y) → Refuses Is (line_of_row row) old e
  refuses_line part old new r e takes is none =
      subst (Refuses Is (line_of_row row) old) (sym is) (
        0,
        omega (arith, takes.taken),
        leaves_here part (lines_in old.bytes)
            (λ s rest there y are same.
            none y are ((let first : r ∷ lines_in new.bytes ≡ s ∷ rest = sym takes.lines ∙ there in
            let front : r ≡ s = cc in front) ∙ same)),
      )

-- the same where the words are known by another name
module _ {X : Type 0} (Is : X → Type 0) (row : X → Row) (part : IsLinePart Is row) (old new : Unread) (items slice : List (Bor (List ℕ)))
    (takes : TakesRow old new (map (λ word. word.now) items)) (same : slice ≡ items) where
  pub reads_words : (x : X) → Is x × (map (λ word. word.now) slice ≡ row x) → Reads Is (line_of_row row) old new x
  reads_words x spelled = reads_line Is row old new _ x takes spelled.0 (ap (map (λ word. word.now)) (sym same) ∙ spelled.1)

  pub refuses_words : (e : ReportRefusal) → e ≡ Text new.taken → ((x : X) → Is x → map (λ word. word.now) slice ≢ row x)
      → Refuses Is (line_of_row row) old e
  refuses_words e is none =
      refuses_line Is row part old new _ e takes is (λ x are spelled. none x are (ap (map (λ word. word.now)) same ∙ spelled))

-- ---- the same part by other values
module _ {X Y : Type 0} (Is : X → Type 0) (rows : X → List Row) (Js : Y → Type 0) (others : Y → List Row) where
  pub reads_other : (old new : Unread) (x : X) (y : Y) → Reads Is rows old new x → Js y → others y ≡ rows x → Reads Js others old new y
  reads_other old new x y r is same = record {
    is = is;
    bytes = r.bytes ∙ ap (λ (rs : List Row). text_of rs ++ new.bytes) (sym same);
    lines = r.lines ∙ ap (λ (rs : List Row). rs ++ lines_in new.bytes) (sym same);
    taken = r.taken ∙ ap (λ (rs : List Row). old.taken + length rs) (sym same);
  }

  pub refuses_other : ((x : X) → Is x → (y : Y) × Js y × (others y ≡ rows x)) → ((y : Y) → Js y → (x : X) × Is x × (rows x ≡ others y))
      → (old : Unread) (e : ReportRefusal) → Refuses Is rows old e → Refuses Js others old e
  refuses_other to back old (Text line) r = (r.0, r.1, leaves_other Is rows Js others to back (lines_in old.bytes) r.0 r.2)
  refuses_other to back old Memory r = tt

-- ---- one part after another
module _ {A B : Type 0} (Is : A → Type 0) (rows : A → List Row) (More : A → B → Type 0) (more : A → B → List Row) where
  pub reads_both : (old mid new : Unread) (a : A) (b : B) → Reads Is rows old mid a → Reads (More a) (more a) mid new b
      → Reads (BothAre Is More) (both_rows rows more) old new (a, b)
  reads_both old mid new a b first second = record {
    is = (first.is, second.is);
    bytes = first.bytes ∙ ap (λ bs. text_of (rows a) ++ bs) second.bytes
        ∙ sym (append_assoc (text_of (rows a)) (text_of (more a b)) new.bytes)
        ∙ ap (λ bs. bs ++ new.bytes) (sym (flat_map-append line_of (rows a) (more a b)));
    lines = first.lines ∙ ap (λ rs. rows a ++ rs) second.lines ∙ sym (append_assoc (rows a) (more a b) (lines_in new.bytes));
    taken = omega (arith, second.taken, first.taken, length-append (rows a) (more a b));
  }

  pub refuses_first : ((a : A) → Is a → (b : B) × More a b) → (old : Unread) (e : ReportRefusal) → Refuses Is rows old e
      → Refuses (BothAre Is More) (both_rows rows more) old e
  refuses_first some old (Text line) r = (r.0, r.1, leaves_first Is rows More more some (lines_in old.bytes) r.0 r.2)
  refuses_first some old Memory r = tt

  pub refuses_second : IsOnce Is rows → (old mid : Unread) (a : A) (e : ReportRefusal) → Reads Is rows old mid a
      → Refuses (More a) (more a) mid e → Refuses (BothAre Is More) (both_rows rows more) old e
  refuses_second once old mid a (Text line) first r = (
    length (rows a) + r.0,
    omega (arith, r.1, first.taken),
    leaves_second Is rows More more once a first.is (lines_in old.bytes) (lines_in mid.bytes) r.0 first.lines r.2,
  )
  refuses_second once old mid a Memory first r = tt

-- ---- items one after the other
module _ {X : Type 0} (rows : ℕ → X → List Row) (Room : List X → Type 0) where
  pub reads_start : (old : Unread) → Room [] → Reads Room (rows_from rows 0) old old []
  reads_start old room = record { is = room; bytes = refl; lines = refl; taken = omega arith }

  pub reads_item : (old mid new : Unread) (xs : List X) (x : X) → Reads Room (rows_from rows 0) old mid xs
      → Reads (λ (y : X). Room (xs ++ y ∷ [])) (rows (length xs)) mid new x → Reads Room (rows_from rows 0) old new (xs ++ x ∷ [])
  reads_item old mid new xs x before next = record {
    is = next.is;
    bytes = before.bytes ∙ ap (λ bs. text_of (rows_from rows 0 xs) ++ bs) next.bytes
        ∙ sym (append_assoc (text_of (rows_from rows 0 xs)) (text_of (rows (length xs) x)) new.bytes)
        ∙ ap (λ bs. bs ++ new.bytes)
        (sym (flat_map-append line_of (rows_from rows 0 xs) (rows (length xs) x)) ∙ ap text_of (sym (rows_push rows xs x)));
    lines = before.lines ∙ ap (λ rs. rows_from rows 0 xs ++ rs) next.lines
        ∙ sym (append_assoc (rows_from rows 0 xs) (rows (length xs) x) (lines_in new.bytes))
        ∙ ap (λ rs. rs ++ lines_in new.bytes) (sym (rows_push rows xs x));
    taken = next.taken ∙ ap (λ (n : ℕ). n + length (rows (length xs) x)) before.taken
        ∙ (let long : length (rows_from rows 0 (xs ++ x ∷ [])) ≡ length (rows_from rows 0 xs) + length (rows (length xs) x) =
        ap length (rows_push rows xs x) ∙ length-append (rows_from rows 0 xs) (rows (length xs) x) in omega arith);
  }

  module _ (Is : ℕ → X → Type 0) (once : (k : ℕ) → IsOnce (Is k) (rows k)) (n : ℕ) (each : (xs : List X) → Room xs → AllFrom Is 0 xs)
      (front : (xs ys : List X) → Room (xs ++ ys) → Room xs)
      (more : (xs : List X) → Room xs → length xs < n → (x : X) × Room (xs ++ x ∷ [])) where
    pub refuses_item : (old mid : Unread) (xs : List X) (e : ReportRefusal) → Reads Room (rows_from rows 0) old mid xs → length xs < n
        → Refuses (λ (y : X). Room (xs ++ y ∷ [])) (rows (length xs)) mid e
        → Refuses (λ (ys : List X). Room ys × (length ys ≡ n)) (rows_from rows 0) old e
    refuses_item old mid xs (Text line) before low r = (
      length (rows_from rows 0 xs) + r.0,
      omega (arith, r.1, before.taken),
      leaves_item Is rows once n Room each front more xs before.is low (lines_in old.bytes) (lines_in mid.bytes) r.0 before.lines r.2,
    )
    refuses_item old mid xs Memory before low r = tt

-- ---- the exit of a `?`
pub at_exit : {X E : Type 0} (r : Result X E) (e : E) (P : X → Type 0) (Q : E → Type 0) → IsErrAnd r (λ d. d ≡ e) → Q e
    → MatchResult r P Q
at_exit (Ok x) e P Q is q = absurd is
at_exit (Err d) e P Q is q = subst Q (sym is) q
