-- What the advancer's seat shows once the announcement of a unit was loaded.
use Rattle.std.specs.Prelude.{◌≡◌, ℕ, List}
use Rattle.heap_rule.specs.declared.rule.Opening.{Opening}
use Rattle.heap_rule.specs.declared.views.AdvKnown.{AdvKnown}
use Rattle.heap_rule.specs.Plays.{IsListOf}
use Rattle.heap_rule.specs.Views.{Seated, advancer_checked, advancer_view, the_advancer}
use Rattle.heap.specs.HeapShown.{AdvShown}

-- Where the word lets it pass, it remembers the unit's list for the epoch before the clock, as it
-- is when that word is announced.
abbrev pub RemembersList : Opening → AdvShown → AdvShown → ℕ → Type 0
RemembersList o old new word =
    (list : List ℕ)
    × (new ≡ record { table = old.table; known = advancer_checked old.known word list })
    × IsListOf o old.known word list

-- the same of the seat's view
abbrev pub ShowsList : Opening → Seated → Seated → ℕ → Type 0
ShowsList o old new word =
    let a : AdvKnown = the_advancer old.0 in
    (list : List ℕ)
    × (new ≡ (advancer_view (advancer_checked a word list), old.1))
    × IsListOf o a word list
