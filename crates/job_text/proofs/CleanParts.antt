-- The lines of reports have no words with a space or a line feed in them.
use Rattle.std.proofs.Common.{Option, Some, ℕ, ◌+◌, ◌^◌, ◌<◌, ◌≤◌, Bool, true, false, List, [], ◌∷◌, ◌++◌, length, map, codes, decimal, refl, sym, subst, arith, lit<}
use Rattle.std.specs.List.{All}
use Rattle.std.specs.FinMap.{entries, len, len-entries}
use Rattle.std.proofs.lemmas.List.Elements.{All-cons, All-nil, All-append}
use Rattle.mont_base.specs.declared.kinds.UnitKind.{UnitKind}
use Rattle.mont_base.specs.declared.kinds.UnitKind.TheVariants as kinds
use Rattle.mont_base.specs.declared.operation.Reply.{Reply}
use Rattle.mont_base.specs.declared.operation.Reply.TheVariants as replies
use Rattle.mont_base.specs.declared.refusal.Which.{Which}
use Rattle.mont_base.specs.declared.refusal.Which.TheVariants as counts
use Rattle.mont_base.specs.Layout.{letters_of}
use Rattle.mont_base.specs.State.{State, MapOf, QueueOf, GraphOf, Run}
use Rattle.job_text.specs.declared.outcome.Outcome.{Outcome}
use Rattle.job_text.specs.declared.outcome.Outcome.TheVariants as outcomes
use Rattle.job_text.specs.Operations.{IsNumber}
use Rattle.job_text.specs.Spelling.{text_word, op_words, reply_words, pair_words, run_words}
use Rattle.job_text.specs.Report.{Report}
use Rattle.job_text.specs.Runs.{Spelled, spelled_all}
use Rattle.job_text.specs.TextParts.{Row, rows_from, AllFrom}
use Rattle.job_text.specs.ReportText.{report_lines, state_lines, unit_lines, contents_lines, answer_words, entry_words, history_lines, histories_lines, outcome_words, count_word, caller_lines, outcomes_lines, item_words, vertex_words, edge_words}
use Rattle.job_text.specs.ReportRanges.{IsReport, IsStateOf, IsUnit, AreCounted, IsSpelled, IsReply, is_of_key, AreNumbers, IsOutcomeAt, AreOutcomes, IsPair, IsVertex, IsEdge}
use Rattle.job_text.specs.ReportRows.{line_of_row}
use Rattle.job_text.proofs.TextWords.{IsSeen, text_seen}
use Rattle.job_text.proofs.SeenWords.{IsWord, words_lack, spaced_lacks, seen_tested, decimal_seen, op_seen}
use Rattle.job_text.proofs.LineWords.{words_spaced}
use Rattle.job_text.proofs.ListParts.{plain_rows, placed_rows}
use Rattle.job_text.proofs.CleanLines.{IsClean, AllClean, clean_append}

two_words : (w v : List ℕ) → IsWord w → IsWord v → All IsWord (w ∷ v ∷ [])
two_words w v h i = All-cons IsWord w (v ∷ []) h (All-cons IsWord v [] i (All-nil IsWord))

three_words : (w v u : List ℕ) → IsWord w → IsWord v → IsWord u → All IsWord (w ∷ v ∷ u ∷ [])
three_words w v u h i j = All-cons IsWord w (v ∷ u ∷ []) h (two_words v u i j)

four_words : (w v u t : List ℕ) → IsWord w → IsWord v → IsWord u → IsWord t → All IsWord (w ∷ v ∷ u ∷ t ∷ [])
four_words w v u t h i j k = All-cons IsWord w (v ∷ u ∷ t ∷ []) h (three_words v u t i j k)

clean : (w : List ℕ) (ws : Row) → All IsWord (w ∷ ws) → IsClean (w ∷ ws)
clean w ws seen = record { words = words_spaced w ws (words_lack 32 (lit< tt) (w ∷ ws) seen); whole = spaced_lacks (w ∷ ws) seen }

-- the lines of items, where those of each are clean
clean_rows : {X : Type 0} (Is : ℕ → X → Type 0) (rows : ℕ → X → List Row) → ((k : ℕ) (x : X) → Is k x → AllClean (rows k x))
    → (k : ℕ) (xs : List X)
    → AllFrom Is k xs → AllClean (rows_from rows k xs)
clean_rows Is rows each k [] all = tt
clean_rows Is rows each k (x ∷ xs) all =
    clean_append (rows k x) (rows_from rows (k + 1) xs) (each k x all.0) (clean_rows Is rows each (k + 1) xs all.1)

one_line : (row : Row) → IsClean row → AllClean (row ∷ [])
one_line row is = (is, tt)

clean_map : {X : Type 0} (Is : X → Type 0) (row : X → Row) → ((x : X) → Is x → IsClean (row x)) → (xs : List X)
    → AllFrom (λ (place : ℕ). Is) 0 xs
    → AllClean (map row xs)
clean_map Is row each xs all =
    subst AllClean (plain_rows row 0 xs)
    (clean_rows (λ (place : ℕ). Is) (λ (place : ℕ). line_of_row row) (λ k x is. one_line (row x) (each x is)) 0 xs all)

-- ---- heads
counted : (word : List ℕ) (place n : ℕ) → IsWord word → IsNumber place → IsNumber n → IsClean (word ∷ decimal place ∷ decimal n ∷ [])
counted word place n seen small few = clean word (decimal place ∷ decimal n ∷ []) (three_words _ _ _ seen (decimal_seen place small)
    (decimal_seen n few))

letter_seen : (ks : List UnitKind) → IsWord (letters_of ks)
letter_seen [] = All-nil IsSeen
letter_seen (kinds.Map ∷ ks) = All-cons IsSeen _ _ (omega arith, omega arith) (letter_seen ks)
letter_seen (kinds.Queue ∷ ks) = All-cons IsSeen _ _ (omega arith, omega arith) (letter_seen ks)
letter_seen (kinds.Graph ∷ ks) = All-cons IsSeen _ _ (omega arith, omega arith) (letter_seen ks)
letter_seen (kinds.Ordered ∷ ks) = All-cons IsSeen _ _ (omega arith, omega arith) (letter_seen ks)

-- ---- contents
clean_state : (unit : ℕ) → IsNumber unit → (kind : UnitKind) (s : State) → IsStateOf kind s → AllClean (state_lines (Some kind) unit s)
clean_state unit small kinds.Map (MapOf m) is = (
  counted (codes "map") unit (len m) (seen_tested (codes "map") refl) small (subst IsNumber (sym (len-entries m)) is.count),
  clean_map IsPair pair_words (λ p h. clean _ _ (two_words _ _ (text_seen p.0) (text_seen p.1))) (entries m) is.each,
)
clean_state unit small kinds.Ordered (MapOf m) is = (
  counted (codes "ordered") unit (len m) (seen_tested (codes "ordered") refl) small (subst IsNumber (sym (len-entries m)) is.count),
  clean_map IsPair pair_words (λ p h. clean _ _ (two_words _ _ (text_seen p.0) (text_seen p.1))) (entries m) is.each,
)
clean_state unit small kinds.Queue (QueueOf items) is = (
  counted (codes "queue") unit (length items) (seen_tested (codes "queue") refl) small is.count,
  clean_map IsNumber item_words (λ n h. clean _ _ (All-cons IsWord (decimal n) [] (decimal_seen n h) (All-nil IsWord))) items is.each,
)
clean_state unit small kinds.Graph (GraphOf g) is = (
  clean _ _ (four_words _ _ _ _ (seen_tested (codes "graph") refl) (decimal_seen unit small)
      (decimal_seen (len g.vertices) (subst IsNumber (sym (len-entries g.vertices)) is.0.count))
      (decimal_seen (len g.edges) (subst IsNumber (sym (len-entries g.edges)) is.1.count))),
  clean_append (map vertex_words (entries g.vertices)) (map edge_words (entries g.edges))
      (clean_map IsVertex vertex_words (λ v h. clean _ _ (two_words _ _ (decimal_seen v.0 h.0) (decimal_seen v.1 h.1)))
      (entries g.vertices) is.0.each)
      (clean_map IsEdge edge_words
      (λ e h. clean _ _ (three_words _ _ _ (decimal_seen e.0.0 h.0) (decimal_seen e.0.1 h.1) (decimal_seen e.1 h.2)))
      (entries g.edges) is.1.each),
)
clean_state unit small kinds.Map (QueueOf items) is = absurd is
clean_state unit small kinds.Map (GraphOf g) is = absurd is
clean_state unit small kinds.Ordered (QueueOf items) is = absurd is
clean_state unit small kinds.Ordered (GraphOf g) is = absurd is
clean_state unit small kinds.Queue (MapOf m) is = absurd is
clean_state unit small kinds.Queue (GraphOf g) is = absurd is
clean_state unit small kinds.Graph (MapOf m) is = absurd is
clean_state unit small kinds.Graph (QueueOf items) is = absurd is

-- ---- entries
reply_seen : (k : Bool) (r : Reply) → IsReply k r → All IsWord (reply_words r)
reply_seen k replies.Nothing is = All-cons IsWord (codes "none") [] (seen_tested (codes "none") refl) (All-nil IsWord)
reply_seen true (replies.Was v) is = absurd is
reply_seen false (replies.Was v) is = two_words _ _ (seen_tested (codes "was") refl) (decimal_seen v is)
reply_seen true (replies.WasText v) is = two_words _ _ (seen_tested (codes "was") refl) (text_seen v)
reply_seen false (replies.WasText v) is = absurd is
reply_seen true (replies.Count n) is = two_words _ _ (seen_tested (codes "count") refl) (decimal_seen n is)
reply_seen false (replies.Count n) is = two_words _ _ (seen_tested (codes "count") refl) (decimal_seen n is)
reply_seen k replies.NoEnds is = All-cons IsWord (codes "noends") [] (seen_tested (codes "noends") refl) (All-nil IsWord)
reply_seen k (replies.Key key) is = two_words _ _ (seen_tested (codes "key") refl) (text_seen key)
reply_seen true (replies.Pairs n) is = two_words _ _ (seen_tested (codes "pairs") refl) (decimal_seen n (omega (arith, is)))
reply_seen false (replies.Pairs n) is = two_words _ _ (seen_tested (codes "pairs") refl) (decimal_seen n (omega (arith, is)))

run_seen : (run : Run) → All IsWord (run_words run)
run_seen [] = All-nil IsWord
run_seen (p ∷ run) =
    All-cons IsWord (text_word p.0) (text_word p.1 ∷ run_words run) (text_seen p.0)
    (All-cons IsWord (text_word p.1) (run_words run) (text_seen p.1) (run_seen run))

entry_clean : (callers place : ℕ) (p : Spelled) → callers < 2 ^ 64 → IsSpelled callers p → IsNumber place → IsClean (entry_words place p)
entry_clean callers place p few spelled small =
    let e = p.0 in
    let is = spelled.0 in
    let low = is.caller in
    let answer : Row = answer_words e.op e.reply p.1 in
    clean (decimal place) (decimal e.caller ∷ decimal e.call ∷ decimal e.epoch ∷ answer)
    (All-cons IsWord (decimal place) (decimal e.caller ∷ decimal e.call ∷ decimal e.epoch ∷ answer) (decimal_seen place small)
    (All-cons IsWord (decimal e.caller) (decimal e.call ∷ decimal e.epoch ∷ answer) (decimal_seen e.caller (omega arith))
    (All-cons IsWord (decimal e.call) (decimal e.epoch ∷ answer) (decimal_seen e.call is.call)
    (All-cons IsWord (decimal e.epoch) answer (decimal_seen e.epoch is.epoch)
    (All-append IsWord (op_words e.op) (codes "=" ∷ (reply_words e.reply ++ run_words p.1)) (op_seen e.op is.op)
    (All-cons IsWord (codes "=") (reply_words e.reply ++ run_words p.1) (seen_tested (codes "=") refl)
    (All-append IsWord (reply_words e.reply) (run_words p.1) (reply_seen (is_of_key e.op) e.reply is.reply) (run_seen p.1))))))))

-- places below the length of a list that can be told
placed : {X : Type 0} (Is : ℕ → X → Type 0) (n k : ℕ) (xs : List X) → k + length xs ≤ n → AllFrom Is k xs
    → AllFrom (λ j x. Is j x × (j < n)) k xs
placed Is n k [] low all = tt
placed Is n k (x ∷ xs) low all = ((all.0, omega arith), placed Is n (k + 1) xs (omega arith) all.1)

history_clean : (callers unit : ℕ) (h : List Spelled) → callers < 2 ^ 64 → IsNumber unit → AreCounted (IsSpelled callers) h
    → AllClean (history_lines unit h)
history_clean callers unit h few small is =
    let count = is.count in (
      counted (codes "unit") unit (length h) (seen_tested (codes "unit") refl) small count,
      subst AllClean (placed_rows entry_words 0 h)
          (clean_rows (λ j e. IsSpelled callers e × (j < 2 ^ 64)) (λ (place : ℕ). line_of_row (entry_words place))
          (λ k e t. one_line (entry_words k e) (entry_clean callers k e few t.0 t.1)) 0 h
          (placed (λ j e. IsSpelled callers e) (2 ^ 64) 0 h (omega arith) is.each)),
    )

count_seen : (w : Which) → IsWord (count_word w)
count_seen counts.Call = seen_tested (codes "call") refl
count_seen counts.Place = seen_tested (codes "place") refl
count_seen counts.Identity = seen_tested (codes "identity") refl
count_seen counts.Version = seen_tested (codes "version") refl
count_seen counts.Serial = seen_tested (codes "serial") refl

outcome_clean : (o : Outcome) → AreNumbers o → IsClean (outcome_words o)
outcome_clean (outcomes.At u n) is = clean _ _ (three_words _ _ _ (seen_tested (codes "at") refl) (decimal_seen u is.0)
    (decimal_seen n is.1))
outcome_clean (outcomes.Synced n) is = clean _ _ (two_words _ _ (seen_tested (codes "synced") refl) (decimal_seen n is))
outcome_clean (outcomes.Ticked n) is = clean _ _ (two_words _ _ (seen_tested (codes "ticked") refl) (decimal_seen n is))
outcome_clean (outcomes.Stuck u n) is = clean _ _ (three_words _ _ _ (seen_tested (codes "stuck") refl) (decimal_seen u is.0)
    (decimal_seen n is.1))
outcome_clean outcomes.ClockEnd is = clean _ _ (All-cons IsWord (codes "clockend") [] (seen_tested (codes "clockend") refl)
    (All-nil IsWord))
outcome_clean (outcomes.Full a b d) is =
    clean _ _ (four_words _ _ _ _ (seen_tested (codes "full") refl) (decimal_seen a is.0) (decimal_seen b is.1) (decimal_seen d is.2))
outcome_clean (outcomes.CountEnd w) is = clean _ _ (two_words _ _ (seen_tested (codes "countend") refl) (count_seen w))
outcome_clean (outcomes.Halted u n) is = clean _ _ (three_words _ _ _ (seen_tested (codes "halted") refl) (decimal_seen u is.0)
    (decimal_seen n is.1))
outcome_clean (outcomes.CutIn u) is = clean _ _ (two_words _ _ (seen_tested (codes "cut") refl) (decimal_seen u is))
outcome_clean outcomes.Cut is = clean _ _ (All-cons IsWord (codes "cut") [] (seen_tested (codes "cut") refl) (All-nil IsWord))

caller_clean : (units callers caller : ℕ) (os : List Outcome) → IsNumber caller → AreOutcomes units callers os
    → AllClean (caller_lines caller os)
caller_clean units callers caller os small is = (
  counted (codes "caller") caller (length os) (seen_tested (codes "caller") refl) small is.count,
  subst AllClean (plain_rows outcome_words 0 os)
      (clean_rows (IsOutcomeAt units callers (length os)) (λ (place : ℕ). line_of_row outcome_words)
      (λ k o t. one_line (outcome_words o) (outcome_clean o t.numbers)) 0 os is.each),
)

contents_clean : (ks : List UnitKind) (ss : List State) → length ss ≤ 16 → AllFrom (IsUnit ks) 0 ss → AllClean (contents_lines ks ss)
contents_clean ks ss few all =
    clean_rows (λ j s. IsUnit ks j s × (j < 16)) (unit_lines ks)
    (λ k s t. let low = t.1 in
    subst (λ (kind : Option UnitKind). AllClean (state_lines kind k s)) (sym t.0.1) (clean_state k (omega arith) t.0.0 s t.0.2)) 0 ss
    (placed (IsUnit ks) 16 0 ss (omega arith) all)

start_clean : (word : List ℕ) (clock : ℕ) (ks : List UnitKind) (ss : List State) → IsWord word → IsNumber clock → length ss ≤ 16
    → AllFrom (IsUnit ks) 0 ss → AllClean ((word ∷ decimal clock ∷ []) ∷ contents_lines ks ss)
start_clean word clock ks ss seen small few all = (
  clean _ _ (two_words _ _ seen
      (decimal_seen clock small)),
  contents_clean ks ss few all,
)

first_clean : (ks : List UnitKind) (slots callers : ℕ) → IsNumber slots → IsNumber callers
    → AllClean ((codes "montage-report" ∷ codes "3" ∷ letters_of ks ∷ decimal slots ∷ decimal callers ∷ []) ∷ [])
first_clean ks slots callers small few = (
  clean (codes "montage-report") (codes "3" ∷ letters_of ks ∷ decimal slots ∷ decimal callers ∷ [])
      (All-cons IsWord (codes "montage-report") (codes "3" ∷ letters_of ks ∷ decimal slots ∷ decimal callers ∷ [])
      (seen_tested (codes "montage-report") refl)
      (four_words _ _ _ _ (seen_tested (codes "3") refl) (letter_seen ks) (decimal_seen slots small) (decimal_seen callers few))),
  tt,
)

end_clean : AllClean ((codes "end" ∷ []) ∷ [])
end_clean = (clean _ _ (All-cons IsWord (codes "end") [] (seen_tested (codes "end") refl) (All-nil IsWord)), tt)

pub report_clean : (r : Report) → IsReport r → AllClean (report_lines r)
report_clean r is =
    let few = is.layout.kinds.few in
    let slots = is.layout.few_slots in
    let callers = is.few_callers in
    clean_append (((codes "montage-report" ∷ codes "3" ∷ letters_of r.layout.kinds ∷ decimal r.layout.slots ∷ decimal r.callers ∷ [])
    ∷ [])
    ++ ((codes "base" ∷ decimal r.base_clock ∷ []) ∷ contents_lines r.layout.kinds r.base) ++ histories_lines (spelled_all r.histories
    r.runs) ++ outcomes_lines r.outcomes
    ++ ((codes "image" ∷ decimal r.image_clock ∷ []) ∷ contents_lines r.layout.kinds r.contents))
    ((codes "end" ∷ []) ∷ [])
    (clean_append (((codes "montage-report" ∷ codes "3" ∷ letters_of r.layout.kinds ∷ decimal r.layout.slots ∷ decimal r.callers ∷ [])
    ∷ [])
    ++ ((codes "base" ∷ decimal r.base_clock ∷ []) ∷ contents_lines r.layout.kinds r.base) ++ histories_lines (spelled_all r.histories
    r.runs) ++ outcomes_lines r.outcomes)
    ((codes "image" ∷ decimal r.image_clock ∷ []) ∷ contents_lines r.layout.kinds r.contents)
    (clean_append (((codes "montage-report" ∷ codes "3" ∷ letters_of r.layout.kinds ∷ decimal r.layout.slots ∷ decimal r.callers ∷ [])
    ∷ [])
    ++ ((codes "base" ∷ decimal r.base_clock ∷ []) ∷ contents_lines r.layout.kinds r.base) ++ histories_lines (spelled_all r.histories
    r.runs))
    (outcomes_lines r.outcomes)
    (clean_append (((codes "montage-report" ∷ codes "3" ∷ letters_of r.layout.kinds ∷ decimal r.layout.slots ∷ decimal r.callers ∷ [])
    ∷ [])
    ++ ((codes "base" ∷ decimal r.base_clock ∷ []) ∷ contents_lines r.layout.kinds r.base))
    (histories_lines (spelled_all r.histories r.runs))
    (clean_append (((codes "montage-report" ∷ codes "3" ∷ letters_of r.layout.kinds ∷ decimal r.layout.slots ∷ decimal r.callers ∷ [])
    ∷ []))
    ((codes "base" ∷ decimal r.base_clock ∷ []) ∷ contents_lines r.layout.kinds r.base)
    (first_clean r.layout.kinds r.layout.slots r.callers (omega arith) (omega arith))
    (start_clean (codes "base") r.base_clock r.layout.kinds r.base (seen_tested (codes "base") refl) is.base_clock (omega
    (arith, is.base.1)) is.base.0))
    (clean_rows (λ j h. AreCounted (IsSpelled r.callers) h × (j < 16)) history_lines
    (λ k h t. let low = t.1 in history_clean r.callers k h (omega arith) (omega arith) t.0) 0 (spelled_all r.histories r.runs)
    (placed (λ j h. AreCounted (IsSpelled r.callers) h) 16 0 (spelled_all r.histories r.runs) (omega (arith, is.histories.1))
    is.histories.0)))
    (clean_rows (λ j os. AreOutcomes (length r.layout.kinds) r.callers os × (j < 16)) caller_lines
    (λ k os t. let low = t.1 in caller_clean (length r.layout.kinds) r.callers k os (omega arith) t.0) 0 r.outcomes
    (placed (λ j os. AreOutcomes (length r.layout.kinds) r.callers os) 16 0 r.outcomes (omega (arith, is.callers)) is.outcomes)))
    (start_clean (codes "image") r.image_clock r.layout.kinds r.contents (seen_tested (codes "image") refl) is.image_clock (omega
    (arith, is.contents.1))
    is.contents.0))
    end_clean
