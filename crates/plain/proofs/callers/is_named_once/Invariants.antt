use Rattle.std.proofs.Common.{◌≡◌, ◌+◌, drop}
use Rattle.plain.specs.Callers.{named}
use Rattle.plain.proofs.callers.is_named_once.Given as goal

-- what is left to name it, and what may still do so
abbrev pub invariant-loop-of_caller : goal.invariant-loop-of_caller
invariant-loop-of_caller l = named l.unit l.place l.receipts + l.left ≡ named l.unit l.place (drop l.of_caller-index l.receipts) + 1
