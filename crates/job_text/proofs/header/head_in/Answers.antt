use Rattle.job_text.proofs.HeadWords.{head_parts, tail_from_parts}
use Rattle.job_text.proofs.header.head_in.Goals as goal

pub returns-in_err-mask-in-len5 : goal.returns-in_err-mask-in-len5
returns-in_err-mask-in-len5 c = rw c.from_residual-in_err-mask-in-len5.ensures (λ h is same.
    let parts = head_parts c.args.words.now _ h c.in-len5.len_at_least c.in-len5.len_below same in
    c.in_err-mask-in-len5.ensures h.mask is.mask parts.mask)

pub returns-in_ok-mask-in-len5 : goal.returns-in_ok-mask-in-len5
returns-in_ok-mask-in-len5 c = (
  record {
    layout = c.in_ok-layout-in-len5.ensures.0;
    some_callers = c.in_ok-number_within-in-len5.ensures.0;
    few_callers = c.in_ok-number_within-in-len5.ensures.1;
    few_attempts = c.in_ok-number_within-in-len5-2.ensures.1;
    mask = c.in_ok-mask-in-len5.ensures.0;
  },
  tail_from_parts c.args.words.now _ (record {
    layout = c.in_ok-layout-in-len5.field-0;
    callers = c.in_ok-number_within-in-len5.field-0;
    attempts = c.in_ok-number_within-in-len5-2.field-0;
    mask = c.in_ok-mask-in-len5.field-0;
  }) c.in-len5.len_at_least c.in-len5.len_below (record {
    kinds = c.in_ok-layout-in-len5.ensures.1;
    slots = c.in_ok-layout-in-len5.ensures.2;
    callers = c.in_ok-number_within-in-len5.ensures.2;
    attempts = c.in_ok-number_within-in-len5-2.ensures.2;
    mask = c.in_ok-mask-in-len5.ensures.1;
  }),
)
