-- What the records of a sound unit show.
use Rattle.mont_base.specs.Image.{clock_of}
use Rattle.core_steps.specs.Opened.{opened_at}
use Rattle.core_steps.specs.Sound.{base_state}
use Rattle.core_steps.specs.Stages.{limit_of}
use Rattle.core_steps.proofs.UnitAnswers.{shown_whole}
use Rattle.heap_rule.specs.SoundUnits.{SoundUnitsShowHistories}

pub sound_units_show_histories : SoundUnitsShowHistories
sound_units_show_histories o now durable h states sound recovered =
    let fits = sound.fits states recovered in
    shown_whole o.layout durable h.unit (base_state (opened_at (clock_of o.words) states) h.unit) h.part.records h.part.history
    fits.objects (limit_of now h.part.stage) fits.reached
