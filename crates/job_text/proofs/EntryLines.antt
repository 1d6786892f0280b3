-- The lines of entries, as they are written one after the other.
use Rattle.std.proofs.Common.{◌≡◌, ℕ, ◌+◌, ◌<◌, ◌≤◌, List, [], ◌∷◌, ◌++◌, length, map, get_or, drop, codes, decimal, refl, sym, ap, ◌∙◌}
use Rattle.std.specs.List.{flat_map, enumerate_from}
use Rattle.std.proofs.lemmas.List.{append_assoc, append-nil, drop_all, drop_more}
use Rattle.mont_base.specs.declared.operation.Entry.{Entry}
use Rattle.mont_base.specs.declared.operation.Op.{Op}
use Rattle.mont_base.specs.declared.operation.Reply.{Reply}
use Rattle.mont_base.specs.declared.operation.Reply.TheVariants as replies
use Rattle.mont_base.specs.State.{Run}
use Rattle.job_text.specs.Operations.{name_word}
use Rattle.job_text.specs.Lines.{spaced, line_of, text_of}
use Rattle.job_text.specs.Spelling.{op_words, reply_words, run_words}
use Rattle.job_text.specs.Runs.{Spelled, is_range, first_run, runs_behind, spelled}
use Rattle.job_text.specs.ReportText.{entry_words, history_lines}
use Rattle.job_text.specs.ReportRows.{line_of_row}
use Rattle.job_text.specs.TextParts.{Row, rows_from}
use Rattle.job_text.proofs.OpSpelling.{name_of, args_of, op_spelled}
use Rattle.job_text.proofs.RunWords.{spaced_behind}
use Rattle.job_text.proofs.ListParts.{placed_rows}
use Rattle.job_text.proofs.NumberRows.{words_joined}

-- the words of an entry but those of its run
abbrev pub front_words : ℕ → Entry → Row
front_words place e =
    decimal place ∷ decimal e.caller ∷ decimal e.call ∷ decimal e.epoch ∷ (op_words e.op ++ codes "=" ∷ reply_words e.reply)

entry_spaced : (place : ℕ) (e : Entry) (run : Run) → spaced (entry_words place (e, run))
    ≡ spaced (front_words place e) ++ flat_map (λ word. 32 ∷ word) (run_words run)
entry_spaced place e run =
    ap (λ (ws : Row). spaced (decimal place ∷ decimal e.caller ∷ decimal e.call ∷ decimal e.epoch ∷ ws))
    (sym (append_assoc (op_words e.op) (codes "=" ∷ reply_words e.reply) (run_words run)))
    ∙ spaced_behind (decimal place)
    (decimal e.caller ∷ decimal e.call ∷ decimal e.epoch ∷ (op_words e.op ++ codes "=" ∷ reply_words e.reply)) (run_words run)

two_parts : (w : List ℕ) (ws : Row) (v : List ℕ) (vs : Row) → spaced ((w ∷ ws) ++ v ∷ vs) ≡ spaced (w ∷ ws) ++ 32 ∷ spaced (v ∷ vs)
two_parts w [] v vs = refl
two_parts w (u ∷ ws) v vs =
    ap (λ (t : List ℕ). w ++ 32 ∷ t) (two_parts u ws v vs) ∙ sym (append_assoc w (32 ∷ spaced (u ∷ ws)) (32 ∷ spaced (v ∷ vs)))

-- the words of an operation and of a reply, with `=` between them
asked_answered : (o : Op) (r : Reply) → spaced (op_words o ++ codes "=" ∷ reply_words r)
    ≡ spaced (op_words o) ++ 32 ∷ 61 ∷ 32 ∷ spaced (reply_words r)
asked_answered o r =
    ap (λ (ws : Row). spaced (ws ++ codes "=" ∷ reply_words r)) (op_spelled o)
    ∙ two_parts (name_word (name_of o)) (args_of o) (codes "=") (reply_words r)
    ∙ (λ i. spaced (sym (op_spelled o) i) ++ 32 ∷ reply_behind r i)
  where
    reply_behind : (r : Reply) → spaced (codes "=" ∷ reply_words r) ≡ 61 ∷ 32 ∷ spaced (reply_words r)
    reply_behind replies.Nothing = refl
    reply_behind (replies.Was v) = refl
    reply_behind (replies.WasText v) = refl
    reply_behind (replies.Count n) = refl
    reply_behind replies.NoEnds = refl
    reply_behind (replies.Key k) = refl
    reply_behind (replies.Pairs n) = refl

behind_first : (a : List ℕ) (o : Op) (r : Reply) → spaced (a ∷ (op_words o ++ codes "=" ∷ reply_words r))
    ≡ a ++ 32 ∷ spaced (op_words o ++ codes "=" ∷ reply_words r)
behind_first a o r =
    ap (λ (ws : Row). spaced (a ∷ (ws ++ codes "=" ∷ reply_words r))) (op_spelled o)
    ∙ ap (λ (ws : Row). a ++ 32 ∷ spaced (ws ++ codes "=" ∷ reply_words r)) (sym (op_spelled o))

front_spaced : (place : ℕ) (e : Entry) → spaced (front_words place e)
    ≡ decimal place ++ 32 ∷ (decimal e.caller ++ 32 ∷ (decimal e.call ++ 32 ∷ (decimal e.epoch
    ++ 32 ∷ (spaced (op_words e.op) ++ 32 ∷ 61 ∷ 32 ∷ spaced (reply_words e.reply)))))
front_spaced place e =
    ap (λ (t : List ℕ). decimal place ++ 32 ∷ (decimal e.caller ++ 32 ∷ (decimal e.call ++ 32 ∷ t)))
    (behind_first (decimal e.epoch) e.op e.reply ∙ ap (λ (t : List ℕ). decimal e.epoch ++ 32 ∷ t) (asked_answered e.op e.reply))

-- the numbers and the words after them were written
pub front_joined : (place : ℕ) (e : Entry) (start numbers head front : List ℕ)
    → numbers ≡ spaced (decimal place ∷ decimal e.caller ∷ decimal e.call ∷ decimal e.epoch ∷ []) ++ 32 ∷ []
    → head ≡ start ++ numbers → front ≡ head ++ (spaced (op_words e.op) ++ 32 ∷ 61 ∷ 32 ∷ spaced (reply_words e.reply))
    → front ≡ start ++ spaced (front_words place e)
front_joined place e start numbers head front are first second =
    let rest = spaced (op_words e.op) ++ 32 ∷ 61 ∷ 32 ∷ spaced (reply_words e.reply) in
    second ∙ ap (λ (t : List ℕ). t ++ rest) first ∙ append_assoc start numbers rest
    ∙ ap (λ (t : List ℕ). start ++ t)
    (ap (λ (t : List ℕ). t ++ rest) are
    ∙ words_joined (decimal place) (decimal e.caller) (decimal e.call) (decimal e.epoch) rest ∙ sym (front_spaced place e))

-- the words, those of the run, and the line feed were written
pub entry_line : (place : ℕ) (e : Entry) (run : Run) (start front words whole : List ℕ) → front ≡ start ++ spaced (front_words place e)
    → words ≡ front ++ flat_map (λ word. 32 ∷ word) (run_words run) → whole ≡ words ++ 10 ∷ []
    → whole ≡ start ++ line_of (entry_words place (e, run))
entry_line place e run start front words whole first second third =
    third
    ∙ ap (λ (t : List ℕ). t ++ 10 ∷ [])
    (second ∙ ap (λ (t : List ℕ). t ++ flat_map (λ word. 32 ∷ word) (run_words run)) first
    ∙ append_assoc start (spaced (front_words place e)) (flat_map (λ word. 32 ∷ word) (run_words run))
    ∙ ap (λ (t : List ℕ). start ++ t) (sym (entry_spaced place e run)))
    ∙ append_assoc start (spaced (entry_words place (e, run))) (10 ∷ [])

abbrev lines_at : ℕ → List Spelled → List Row
lines_at place h = rows_from (λ place. line_of_row (entry_words place)) place h

-- one entry more
pub entry_step : (whole : List ℕ) (h : List Entry) (runs behind : List Run) (place : ℕ) (e : Entry) (run : Run) (was now : List ℕ)
    → place < length h → e ≡ get_or h place e → run ≡ first_run (is_range e) runs → behind ≡ runs_behind (is_range e) runs
    → was ++ text_of (lines_at place (spelled (drop place h) runs)) ≡ whole → now ≡ was ++ line_of (entry_words place (e, run))
    → now ++ text_of (lines_at (place + 1) (spelled (drop (place + 1) h) behind)) ≡ whole
entry_step whole h runs behind place e run was now low at first rest before step =
    let es = drop (place + 1) h in
    let next = spelled es (runs_behind (is_range e) runs) in
    let here : spelled (drop place h) runs ≡ (e, run) ∷ next =
    ap (λ (xs : List Entry). spelled xs runs) (drop_more h place e low ∙ ap (λ (x : Entry). x ∷ es) (sym at))
    ∙ ap (λ (r : Run). (e, r) ∷ next) (sym first) in
    (λ i. step i ++ text_of (lines_at (place + 1) (spelled es (rest i))))
    ∙ append_assoc was (line_of (entry_words place (e, run))) (text_of (lines_at (place + 1) next))
    ∙ ap (λ (xs : List Spelled). was ++ text_of (lines_at place xs)) (sym here) ∙ before

-- all of them
pub entries_done : (start now : List ℕ) (h : List Entry) (runs left : List Run) (place : ℕ) → length h ≤ place
    → now ++ text_of (lines_at place (spelled (drop place h) left)) ≡ start ++ text_of (lines_at 0 (spelled h runs))
    → now ≡ start ++ text_of (map (λ (p : ℕ × Spelled). entry_words p.0 p.1) (enumerate_from 0 (spelled h runs)))
entries_done start now h runs left place past done =
    sym (append-nil now) ∙ ap (λ (xs : List Entry). now ++ text_of (lines_at place (spelled xs left))) (sym (drop_all place h past))
    ∙ done ∙ ap (λ (rs : List Row). start ++ text_of rs) (placed_rows entry_words 0 (spelled h runs))

-- a history after its first line
pub history_written : (unit : ℕ) (h : List Spelled) (n : ℕ) (start head whole : List ℕ) → n ≡ length h
    → head ≡ start ++ (codes "unit " ++ (decimal unit ++ (32 ∷ decimal n ++ 10 ∷ [])))
    → whole ≡ head ++ text_of (map (λ (p : ℕ × Spelled). entry_words p.0 p.1) (enumerate_from 0 h))
    → whole ≡ start ++ text_of (history_lines unit h)
history_written unit h n start head whole long first second =
    let lines = text_of (map (λ (p : ℕ × Spelled). entry_words p.0 p.1) (enumerate_from 0 h)) in
    let words = codes "unit" ∷ decimal unit ∷ decimal (length h) ∷ [] in
    let behind : decimal unit ++ (32 ∷ decimal (length h) ++ 10 ∷ []) ≡ (decimal unit ++ 32 ∷ decimal (length h)) ++ 10 ∷ [] =
    sym (append_assoc (decimal unit) (32 ∷ decimal (length h)) (10 ∷ [])) in
    let line : head ≡ start ++ line_of words =
    first ∙ ap (λ (m : ℕ). start ++ (codes "unit " ++ (decimal unit ++ (32 ∷ decimal m ++ 10 ∷ [])))) long
    ∙ ap (λ (t : List ℕ). start ++ (codes "unit " ++ t)) behind in
    second ∙ ap (λ (t : List ℕ). t ++ lines) line ∙ append_assoc start (line_of words) lines
