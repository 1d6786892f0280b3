use Rattle.job_text.proofs.lines.next_head.Goals as goal

pub returns-in-Some : goal.returns-in-Some
returns-in-Some c = record {
  line = c.in_ok-line.line.now;
  begins = c.in_ok-line.ensures;
  is_head = c.in-Some.ensures.0;
  spelled = c.in-Some.ensures.1;
}

pub returns-in-None : goal.returns-in-None
returns-in-None c = record {
  line = c.in_ok-line.line.now;
  after = c.in_ok-line.after.now;
  begins = c.in_ok-line.ensures;
  none = λ h is same. c.in-None.ensures h is same;
}
