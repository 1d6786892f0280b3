use Rattle.std.proofs.Common.{◌+◌, Bool, subst, List, ℕ, ◌∷◌, ◌++◌, length, codes, sym, ap, ◌∙◌, arith}
use Rattle.std.proofs.lemmas.List.{length-append, length-map}
use Rattle.job_text.specs.Spelling.{op_words, reply_words, run_words}
use Rattle.job_text.specs.ReportRanges.{IsReply, is_of_key}
use Rattle.job_text.proofs.OpSpelling.{first_words}
use Rattle.job_text.proofs.AnswerWords.{parted, joined_words, no_name_here, counted_here}
use Rattle.job_text.proofs.Once.{op_once}
use Rattle.job_text.proofs.entry_reader.answer_of.Goals as goal

pub returns-in_err-of_word : goal.returns-in_err-of_word
returns-in_err-of_word c =
    rw c.from_residual-in_err-of_word.ensures
    (λ o r run ok fits of e. no_name_here _ _ _ c.in_ok-name.ensures.cases.0 c.in_err-of_word.ensures o _ e)

pub returns-then-words-count : goal.returns-then-words-count
returns-then-words-count c = λ o r run ok fits of e.
    let more = codes "=" ∷ (reply_words r ++ run_words run) in
    let count = counted_here _ _ _ c.in_ok-name.ensures.cases.0 c.in_ok-of_word.field-0 o more c.in_ok-of_word.ensures e in
    omega (
      arith,
      count,
      c.if-words-count.true,
      c.args_count-count.ensures,
      ap length e,
      length-map c.args.words.now (λ word. word.now),
      length-append (op_words o) more,
    )

pub returns-in_err-told : goal.returns-in_err-told
returns-in_err-told c =
    rw c.from_residual-in_err-told.ensures
    (λ o r run ok fits of e.
    let more = codes "=" ∷ (reply_words r ++ run_words run) in
    let count = counted_here _ _ _ c.in_ok-name.ensures.cases.0 c.in_ok-of_word.field-0 o more c.in_ok-of_word.ensures e in
    c.in_err-told.ensures (reply_words r ++ run_words run)
    (parted c.args.words.now _ (op_words o) more e (count ∙ ap (λ (n : ℕ). 1 + n) (sym c.args_count-count.ensures))).1)

pub returns-in_err-reply : goal.returns-in_err-reply
returns-in_err-reply c =
    rw c.from_residual-in_err-reply.ensures
    (λ o r run ok fits of e.
    let more = codes "=" ∷ (reply_words r ++ run_words run) in
    let count = counted_here _ _ _ c.in_ok-name.ensures.cases.0 c.in_ok-of_word.field-0 o more c.in_ok-of_word.ensures e in
    let parts = parted c.args.words.now _ (op_words o) more e (count ∙ ap (λ (n : ℕ). 1 + n) (sym c.args_count-count.ensures)) in
    let same = op_once c.in_ok-op.op o c.in_ok-op.ensures.0 ok (sym c.in_ok-op.ensures.1 ∙ parts.0) in
    c.in_err-reply.ensures r run
    (subst (λ (k : Bool). IsReply k r) (ap is_of_key (sym same) ∙ sym c.is_of_key.ensures) fits) of
    (first_words _ _ _ _ (sym c.in_ok-told.ensures ∙ parts.1)).1)

pub returns : goal.returns
returns c =
    let reply = c.in_ok-reply.ensures in (
      c.in_ok-op.ensures.0,
      subst (λ (k : Bool). IsReply k c.in_ok-reply.reply) c.is_of_key.ensures reply.0,
      reply.1,
      joined_words c.args.words.now _ _ _ (omega (arith, c.if-words-count.false)) c.in_ok-op.ensures.1
          (c.in_ok-told.ensures ∙ ap (λ (t : List (List ℕ)). codes "=" ∷ t) reply.2),
    )
