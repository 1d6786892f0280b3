-- The records of a unit that is sound show the state to which its history leads.
use Rattle.std.proofs.Common.{◌≡◌, ℕ, List, sym, subst}
use Rattle.mont_base.specs.declared.operation.Entry.{Entry}
use Rattle.mont_base.specs.Image.{clock_of}
use Rattle.mont_base.specs.History.{state_after}
use Rattle.mont_base.specs.State.{State}
use Rattle.mont_laws.specs.Records.{live_of}
use Rattle.mont_laws.specs.Structures.{HasStructure}
use Rattle.core_steps.specs.Opened.{opened_at}
use Rattle.core_steps.specs.Sound.{base_state}
use Rattle.heap.specs.HeapShown.{HeapShown}
use Rattle.heap_rule.proofs.ShownHistories.{sound_units_show_histories}
use Rattle.slots.specs.Books.{RegionShown}
use Rattle.slots.specs.Reclaiming.{IsSound}
use Rattle.structure_call.specs.Standing.{ShowsHistory}
use Rattle.structure_call.proofs.KeptPlans.{structure_kept}

-- the state to which entries of a unit lead
abbrev led_to : HeapShown → List State → ℕ → List Entry → State
led_to heap states unit history = state_after (base_state (opened_at (clock_of heap.opening.words) states) unit) history

pub sound_shows : (heap : HeapShown) (r : RegionShown) → r.books.unit ≡ r.seat.known.unit → IsSound heap r → ShowsHistory heap r
sound_shows heap r unit sound = λ states recovered.
    subst (λ (u : ℕ). HasStructure heap.opening.layout u r.seat.known.part.records (led_to heap states u r.seat.known.part.history))
    (sym unit)
    (sound_units_show_histories heap.opening sound.0 sound.1.0 r.seat.known states sound.1.1 recovered)

-- so they did when the same was live and the history was the same
pub shows_before : (heap : HeapShown) (old r : RegionShown) → r.books.unit ≡ old.books.unit
    → r.seat.known.part.history ≡ old.seat.known.part.history
    → ((identity : ℕ) → live_of identity r.seat.known.part.records ≡ live_of identity old.seat.known.part.records)
    → ShowsHistory heap r → ShowsHistory heap old
shows_before heap old r unit history live shows = λ states recovered.
    structure_kept r.seat.known.part.records old.seat.known.part.records (λ identity. sym (live identity)) heap.opening.layout
    old.books.unit (led_to heap states old.books.unit old.seat.known.part.history)
    (subst (λ (x : ℕ × List Entry). HasStructure heap.opening.layout x.0 r.seat.known.part.records (led_to heap states x.0 x.1))
    (λ i. (unit i, history i)) (shows states recovered))
