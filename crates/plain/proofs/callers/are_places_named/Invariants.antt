use Rattle.plain.specs.Callers.{ArePlacesNamed}
use Rattle.plain.proofs.callers.are_places_named.Given as goal

abbrev pub invariant-loop-place : goal.invariant-loop-place
invariant-loop-place l = ArePlacesNamed l.receipts l.unit l.place
