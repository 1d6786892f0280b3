use Rattle.std.proofs.Common.{[], take, get_or, ap, sym, ◌∙◌, subst}
use Rattle.std.specs.BTreeMap as tree
use Rattle.std.proofs.lemmas.List.{take_all}
use Rattle.mont_base.specs.declared.record.Held.{Held}
use Rattle.mont_base.specs.declared.record.Kind.TheVariants as kinds
use Rattle.image_units.specs.FoundVersions.{HasNoRepeat, IsFirstRepeat, version_of}
use Rattle.image_units.proofs.FirstRepeats.{found, first_repeat, no_repeat_more, seen_more, unseen, version_cmp}
use Rattle.image_units.proofs.found_versions.check_versions.Goals as goal

some_held : Held
some_held = record { slot = 0; label = record { epoch = 0; kind = kinds.New; unit = 0; identity = 0; version = 0 }; body = [] }

pub returns-in-Some-clause-refused : goal.returns-in-Some-clause-refused
unfolding some_held
returns-in-Some-clause-refused c =
    let records = c.args.records.now in
    let i = c.loop-held.held-index in
    let here = get_or records i some_held in
    let seen = tree.get version_cmp c.loop-held.seen in
    let told = sym (c.loop-held.invariant.seen (version_of here)) ∙ ap seen (sym c.version_of.ensures)
    ∙ sym c.in_ok-other.ensures.old ∙ c.in-Some.is in
    let e = found (version_of here) (take i records) c.in-Some.other told in
    subst (IsFirstRepeat records here.slot) e.3
    (first_repeat records c.requires i some_held c.loop-held-test.true c.loop-held.invariant.apart e.0 e.1 e.2)

pub loop-held-preserved : goal.loop-held-preserved
unfolding some_held
loop-held-preserved c =
    let records = c.args.records.now in
    let i = c.loop-held.held-index in
    let old = tree.get version_cmp c.loop-held.seen in
    let new = tree.get version_cmp c.insert.new.self in
    let key = c.version_of.result in
    let none = sym c.in_ok-other.ensures.old ∙ c.in_default.is in
    let none_seen = unseen records c.requires i some_held c.loop-held-test.true old new key c.version_of.ensures
    c.loop-held.invariant.seen none in
    record {
      seen = seen_more records c.requires i some_held c.loop-held-test.true old new key c.version_of.ensures
          c.loop-held.invariant.seen none c.in_ok-other.ensures.updates.0;
      apart = no_repeat_more records c.requires i some_held c.loop-held-test.true c.loop-held.invariant.apart none_seen;
    }

pub returns-clause-apart : goal.returns-clause-apart
returns-clause-apart c =
    subst HasNoRepeat (take_all c.loop-held.held-index c.args.records.now c.loop-held-test.false) c.loop-held.invariant.apart
