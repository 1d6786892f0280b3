use Rattle.std.proofs.Common.{ℕ, cond, [], get_or, take, sym, ap, ◌∙◌, append-nil}
use Rattle.std.specs.Prelude.{Some, None}
use Rattle.std.specs.Ordering.{eq_by_cmp}
use Rattle.std.specs.BTreeMap as tree
use Rattle.std.proofs.lemmas.List.{take_more}
use Rattle.mont_base.specs.declared.record.Held.{Held}
use Rattle.mont_base.specs.declared.record.Kind.TheVariants as kinds
use Rattle.image_units.specs.declared.image_fault.ImageFault.TheVariants as faults
use Rattle.image_units.specs.FoundVersions.{version_of}
use Rattle.image_units.proofs.FirstRepeats.{version_cmp}
use Rattle.image_info.specs.AllFaults.{repeat_fault}
use Rattle.image_info.proofs.Behind.{behind_more}
use Rattle.image_info.proofs.Repeated.{lowest_new, lowest_old, lowest_slot, repeat_told, same_test}
use Rattle.image_info.proofs.repeat_faults.push_repeats.Goals as goal
use Rattle.image_info.proofs.repeat_faults.push_repeats.Goals.{in-Some+in_ok-push-in-Some, in-None+in_ok-insert-in-None}

some_held : Held
some_held = record { slot = 0; label = record { epoch = 0; kind = kinds.New; unit = 0; identity = 0; version = 0 }; body = [] }

pub loop-held-preserved : goal.loop-held-preserved
unfolding some_held
loop-held-preserved c =
    let records = c.args.records.now in
    let i = c.loop-held.held-index in
    let here = get_or records i some_held in
    let front = take i records in
    let more = sym (take_more records i some_held c.loop-held-test.true) in
    let so_far = c.loop-held.invariant in
    let lowest = sym (so_far.seen (version_of here)) ∙ sym (ap (tree.get version_cmp c.loop-held.seen) c.version_of.ensures)
    ∙ sym c.get.ensures.value ∙ sym c.copied.ensures in
    let push = behind_more repeat_fault c.args.faults.now.items c.loop-held.faults.items c.match-copied.faults.items records i some_held in
    elim c.match-copied.branch [
      | in-Some+in_ok-push-in-Some w ↦
          let old = lowest ∙ w.in-Some.is in
          record {
            seen = λ v. ap (λ m. tree.get version_cmp m v) w.seen-is ∙ so_far.seen v ∙ sym (lowest_old front here v w.in-Some.other old)
                ∙ ap (lowest_slot v) more;
            told = push (Some (faults.Twice here.slot w.in-Some.other)) c.loop-held-test.true so_far.told
                (repeat_told front here (Some w.in-Some.other) old) (ap (λ v. v.items) w.faults-is ∙ w.in_ok-push-in-Some.ensures.items);
          }
      | in-None+in_ok-insert-in-None w ↦
          let new = lowest ∙ w.in-None.is in
          record {
            seen = λ v.
                let same = ap (λ (k : ℕ × ℕ × ℕ). eq_by_cmp version_cmp k v) w.version_of-in-None.ensures ∙ same_test v here in
                ap (λ m. tree.get version_cmp m v) w.seen-is ∙ w.in_ok-insert-in-None.ensures.updates.0 v
                ∙ (λ k. cond (same k) (Some here.slot) (so_far.seen v k)) ∙ sym (lowest_new front here v new) ∙ ap (lowest_slot v) more;
            told = push None c.loop-held-test.true so_far.told (repeat_told front here None new)
                (ap (λ v. v.items) w.faults-is ∙ sym (append-nil c.loop-held.faults.items));
          }
    ]
