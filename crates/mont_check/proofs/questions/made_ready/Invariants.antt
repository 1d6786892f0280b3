use Rattle.std.proofs.Common.{take}
use Rattle.mont_check.specs.Questions.{AreReady}
use Rattle.mont_check.proofs.questions.made_ready.Given as goal

abbrev pub invariant-loop-question : goal.invariant-loop-question
invariant-loop-question l = AreReady l.history l.points (take l.question-index l.questions) l.asked.items
