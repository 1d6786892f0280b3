use Rattle.std.proofs.Common.{length, sym, ap, ◌∙◌, arith}
use Rattle.std.proofs.lemmas.Bool.{eqb-true, eqb-false}
use Rattle.std.proofs.lemmas.List.{length_push}
use Rattle.job_text.proofs.RunWords.{too_many, no_key, no_value, one_more, none_left, one_left}
use Rattle.job_text.proofs.run_reader.read_run.Goals as goal

pub returns-then-len : goal.returns-then-len
returns-then-len c = λ other is few.
    let i = c.loop-rest.invariant in
    too_many _ c.loop-rest.run c.loop-rest.rest.now i.0 i.2 (omega (arith, c.in-len2-up.len_at_least))
    (sym c.len.ensures.value ∙ c.if-len.true) other is few

pub returns-in_err-key : goal.returns-in_err-key
returns-in_err-key c =
    let i = c.loop-rest.invariant in
    rw c.from_residual.ensures
    (λ other is few.
    no_key _ c.loop-rest.run c.loop-rest.rest.now i.0 i.2 (omega (arith, c.in-len2-up.len_at_least)) _ c.in_err-key.ensures other is)

pub returns-in_err-value : goal.returns-in_err-value
returns-in_err-value c =
    let i = c.loop-rest.invariant in
    rw c.from_residual-in_err-value.ensures
    (λ other is few.
    no_value _ c.loop-rest.run c.loop-rest.rest.now i.0 i.2 (omega (arith, c.in-len2-up.len_at_least)) _ c.in_err-value.ensures other is)

pub loop-rest-preserved : goal.loop-rest-preserved
loop-rest-preserved c =
    let i = c.loop-rest.invariant in
    let more = one_more _ c.loop-rest.run c.loop-rest.rest.now i.0 i.2 (omega (arith, c.in-len2-up.len_at_least)) _ _
    c.in_ok-key.key c.in_ok-value.value c.push.new.self c.in_ok-key.ensures.0 c.in_ok-value.ensures.0 c.in_ok-key.ensures.1
    c.in_ok-value.ensures.1 c.push.ensures in (
      more.0,
      omega (
        arith,
        ap length c.push.ensures,
        length_push c.loop-rest.run (c.in_ok-key.key, c.in_ok-value.value),
        c.len.ensures.value,
        i.1,
        c.if-len.false,
      ),
      more.1,
    )

pub returns-then-is_empty : goal.returns-then-is_empty
returns-then-is_empty c =
    let i = c.loop-rest.invariant in (
      i.0,
      i.1,
      none_left _ c.loop-rest.run c.loop-rest.rest.now i.0 i.2
          (eqb-true (length c.loop-rest.rest.now) 0 (sym c.is_empty.ensures ∙ c.if-is_empty.true)),
    )

pub returns-else-is_empty : goal.returns-else-is_empty
returns-else-is_empty c = λ other is few.
    let i = c.loop-rest.invariant in
    let some = eqb-false (length c.loop-rest.rest.now) 0 (sym c.is_empty.ensures ∙ c.if-is_empty.false) in
    one_left _ c.loop-rest.run c.loop-rest.rest.now i.0 i.2 (omega (arith, c.in_default.len_below, some)) other is
