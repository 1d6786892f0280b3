use Rattle.image_info.proofs.showing.text_of.Goals as goal

pub returns-clause-told : goal.returns-clause-told
returns-clause-told c = record {
  info = c.in_ok-info.info;
  holds = c.in_ok-info.ensures.told;
  accepted = c.in_ok-info.ensures.accepted;
  lines = c.in_ok-info_text.ensures;
}
