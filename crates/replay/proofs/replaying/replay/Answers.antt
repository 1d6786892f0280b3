use Rattle.std.proofs.Common.{◌≡◌, ◌++◌, ℕ, List, map, Err, Vec, Global, refl, sym, ap, ◌∙◌, subst}
use Rattle.std.specs.List.{enumerate_from}
use Rattle.std.proofs.lemmas.Grind.{flat_map-append}
use Rattle.mont_base.specs.Image.{IsRecovered}
use Rattle.core_steps.specs.declared.parts.Core.{Core}
use Rattle.core_steps.specs.Sound.{IsSound}
use Rattle.job_text.specs.Lines.{line_of, text_of}
use Rattle.job_text.proofs.ReadLines.{at_exit}
use Rattle.mont_base.specs.Layout.{Shape}
use Rattle.replay.specs.declared.replay_refusal.ReplayRefusal.{ReplayRefusal}
use Rattle.replay.specs.declared.replay_refusal.ReplayRefusal.TheVariants.{NotAllowed, Memory}
use Rattle.replay.specs.Replays.{fresh_core, last_core, nothing, reached, core_words, end_lines, cut_states}
use Rattle.replay.proofs.Reaching.{all_or_none}
use Rattle.replay.proofs.RecoveredMemories.{last_layout, last_sound, durable_permitted, current_permitted, recovered}
use Rattle.replay.proofs.replaying.replay.Goals as goal

-- a refusal that names no line is want of memory
only_memory : (e : ReplayRefusal) → ((line : ℕ) → e ≡ NotAllowed line → ⊥) → e ≡ Memory
only_memory (NotAllowed line) none = absurd (none line refl)
only_memory Memory none = refl

pub returns-in_err-core-clause-accepted : goal.returns-in_err-core-clause-accepted
returns-in_err-core-clause-accepted c = λ all.
    at_exit c.from_residual.result c.in_err-core.field-0.0 (λ _. Unit {0}) (λ (e : ReplayRefusal). e ≡ Memory) c.from_residual.ensures.1
    (only_memory c.in_err-core.field-0.0 (λ line is. all_or_none c.args.schedule.now line all
    (c.in_err-core.ensures.refused line (ap Err is))))

pub write_memories-requires : goal.write_memories-requires
write_memories-requires c =
    let s = c.args.schedule.now in
    subst (λ (k : Core). IsSound (nothing k.layout) k) (sym c.in_ok-core.ensures.core)
    (last_sound s c.units-units.ensures.layout c.in_ok-core.ensures.allowed)

pub returns-clause-told : goal.returns-clause-told
returns-clause-told c =
    let s = c.args.schedule.now in
    let core = last_core s in
    let sound : IsSound (nothing core.layout) core = last_sound s c.units-units.ensures.layout c.in_ok-core.ensures.allowed in
    let lines = map core_words (enumerate_from 1 (reached (fresh_core s) s.events)) in
    record {
      allowed = c.in_ok-core.ensures.allowed;
      text =
          ap (λ (v : Vec ℕ Global). v.items) c.into_bytes.ensures.value
          ∙ c.in_ok-write_memories.ensures
          ∙ (λ i. c.in_ok-core.ensures.text i ++ text_of (end_lines (c.in_ok-core.ensures.core i)))
          ∙ ap (λ (bs : List ℕ). (bs ++ text_of lines) ++ text_of (end_lines core)) c.new-text.ensures.bytes
          ∙ sym (flat_map-append line_of lines (end_lines core));
      durable =
          subst (λ (l : Shape). IsRecovered l core.dur (cut_states core core.dur)) (last_layout s)
          (recovered core sound core.dur (durable_permitted core sound));
      current =
          subst (λ (l : Shape). IsRecovered l core.cur (cut_states core core.cur)) (last_layout s)
          (recovered core sound core.cur (current_permitted core sound));
    }
