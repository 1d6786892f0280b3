-- What contracts see of a note that was copied, and what its fields have to do with its view.
use Rattle.std.specs.Prelude.{◌≡◌, ℕ, ◌*◌, List, [], length}
use Rattle.atomic_table.specs.Seated.{TableId}
use Rattle.heap_rule.specs.declared.views.NoteKnown.{NoteKnown}
use Rattle.heap_rule.specs.Views.{Seated, note_view, the_note}

pub record NewsShown : Type 0 where
  pub table : TableId
  pub known : NoteKnown

pub record IsNews
    (table : TableId) (fronts : List ℕ) (newest durable : ℕ) (me : Seated) : Type 0 where
  pub whole : me ≡ (note_view (the_note me.0), [])
  pub fronts_are : fronts ≡ (the_note me.0).note.fronts
  pub newest_is : newest ≡ (the_note me.0).note.newest
  pub durable_is : durable ≡ (the_note me.0).note.durable
  pub slots : table.slots ≡ 2 * length fronts
