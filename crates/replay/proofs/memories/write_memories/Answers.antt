use Rattle.std.proofs.Common.{◌≡◌, ◌++◌, List, ℕ, map, codes, sym, ap, ◌∙◌, subst}
use Rattle.std.specs.String.{string_bytes}
use Rattle.mont_base.specs.Image.{IsWellFormed, IsRecovered}
use Rattle.plain.specs.States.{state_of, states_of}
use Rattle.plain.proofs.Single.{recovered_once}
use Rattle.job_text.specs.Lines.{text_of}
use Rattle.job_text.specs.ReportText.{contents_lines}
use Rattle.replay.specs.Replays.{cut_states}
use Rattle.replay.proofs.RecoveredMemories.{durable_permitted, current_permitted, well_formed, recovered, lines_told}
use Rattle.replay.proofs.memories.write_memories.Goals as goal

pub recover-requires : goal.recover-requires
recover-requires c =
    let core = c.args.core.now in
    subst (IsWellFormed core.layout) (sym c.as_slice.ensures)
    (well_formed core c.requires core.dur (durable_permitted core c.requires))

pub recover-requires-2 : goal.recover-requires-2
recover-requires-2 c =
    let core = c.args.core.now in
    subst (IsWellFormed core.layout) (sym c.as_slice-2.ensures)
    (well_formed core c.requires core.cur (current_permitted core c.requires))

pub returns : goal.returns
returns c =
    let core = c.args.core.now in
    let kinds = c.kinds-kinds.ensures.value in
    let durable : map state_of c.as_slice-3.result.now ≡ cut_states core core.dur =
    ap (map state_of) c.as_slice-3.ensures
    ∙ recovered_once core.layout core.dur (states_of c.in_ok-durable.durable) (cut_states core core.dur)
    (subst (λ (image : List ℕ). IsRecovered core.layout image (states_of c.in_ok-durable.durable)) c.as_slice.ensures
    c.in_ok-durable.ensures)
    (recovered core c.requires core.dur (durable_permitted core c.requires)) in
    let current : map state_of c.as_slice-4.result.now ≡ cut_states core core.cur =
    ap (map state_of) c.as_slice-4.ensures
    ∙ recovered_once core.layout core.cur (states_of c.in_ok-current.current) (cut_states core core.cur)
    (subst (λ (image : List ℕ). IsRecovered core.layout image (states_of c.in_ok-current.current)) c.as_slice-2.ensures
    c.in_ok-current.ensures)
    (recovered core c.requires core.cur (current_permitted core c.requires)) in
    let first =
    c.in_ok-write_units.ensures
    ∙ (λ i. string_bytes c.push_str.new.self ++ text_of (contents_lines (kinds i) (durable i)))
    ∙ ap (λ (bs : List ℕ). bs ++ text_of (contents_lines core.layout.kinds (cut_states core core.dur))) c.in_ok-push_str.ensures.bytes in
    let second =
    c.in_ok-write_units-2.ensures
    ∙ (λ i. string_bytes c.push_str-2.new.self ++ text_of (contents_lines (kinds i) (current i)))
    ∙ ap (λ (bs : List ℕ). bs ++ text_of (contents_lines core.layout.kinds (cut_states core core.cur)))
    (c.in_ok-push_str-2.ensures.bytes ∙ ap (λ (bs : List ℕ). bs ++ codes "current\n") first) in
    lines_told (string_bytes c.args.text.now) (string_bytes c.push_str-3.new.self)
    (contents_lines core.layout.kinds (cut_states core core.dur))
    (contents_lines core.layout.kinds (cut_states core core.cur))
    (c.in_ok-push_str-3.ensures.bytes ∙ ap (λ (bs : List ℕ). bs ++ codes "end\n") second)
