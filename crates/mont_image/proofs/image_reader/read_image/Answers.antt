use Rattle.mont_image.proofs.Texts.{is_answer, is_spelled, is_accepted, is_taken, is_few}
use Rattle.mont_image.proofs.image_reader.read_image.Goals as goal

pub returns-clause-answer : goal.returns-clause-answer
returns-clause-answer g c = is_answer _ _ c.read_text.result (c.read_text.ensures.read, c.read_text.ensures.refused)

pub returns-clause-spelled : goal.returns-clause-spelled
returns-clause-spelled g c = is_spelled _ _ c.read_text.result (c.read_text.ensures.read, c.read_text.ensures.refused)

pub returns-clause-accepted : goal.returns-clause-accepted
returns-clause-accepted g c = λ parts. is_accepted parts _ _ c.read_text.result (c.read_text.ensures.read, c.read_text.ensures.refused)

pub returns-clause-taken : goal.returns-clause-taken
returns-clause-taken g c = is_taken _ _ c.read_text.result (c.read_text.ensures.read, c.read_text.ensures.refused)

pub returns-clause-few : goal.returns-clause-few
returns-clause-few g c = is_few _ _ c.read_text.result (c.read_text.ensures.read, c.read_text.ensures.refused)
