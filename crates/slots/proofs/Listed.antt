-- The slots of what was written, as the books and as the unit's part have them.
use Rattle.std.proofs.Common.{◌≡◌, ℕ, List, [], ◌∷◌, map, refl, ap, ◌∙◌}
use Rattle.mont_base.specs.declared.record.Held.{Held}
use Rattle.heap_rule.specs.Views.{slots_written}
use Rattle.slots.specs.declared.books.Written.{Written}
use Rattle.slots.specs.Books.{RegionShown, Agrees, as_written}

same_slots : (records ws : List Held) → map (λ (w : Written). w.held.slot) (map (as_written records) ws) ≡ map (λ (w : Held). w.slot) ws
same_slots records [] = refl
same_slots records (w ∷ ws) = ap (λ (l : List ℕ). w.slot ∷ l) (same_slots records ws)

pub written_slots : (r : RegionShown) → Agrees r → map (λ (w : Written). w.held.slot) r.books.written ≡ slots_written r.seat.known.part
written_slots r agrees =
    ap (map (λ (w : Written). w.held.slot)) agrees.1.written_are ∙ same_slots r.seat.known.part.records r.seat.known.part.written
