use Rattle.std.proofs.Common.{◌≢◌, List, sym, subst, ◌∙◌}
use Rattle.std.specs.List.{Contains}
use Rattle.mont_base.specs.declared.record.Held.{Held}
use Rattle.core_answer.proofs.storing.looks_free.Goals as goal

-- no record of the list is in the slot
abbrev NoneIn : goal.Else-is_in_no_record → List Held → Type 0
NoneIn c records = (r : Held) → Contains records r → r.slot ≢ c.args.slot

pub returns-then-is_in_no_record : goal.returns-then-is_in_no_record
returns-then-is_in_no_record c = (
  λ t. record {
    of_unit = sym c.unit_of_slot.ensures ∙ c.if-unit_of_slot-unit.false;
    no_record = λ r there. c.is_in_no_record.ensures.0 c.if-is_in_no_record.true r
        (subst (λ (rs : List Held). Contains rs r) (sym c.as_slice.ensures) there);
    closed = (c.is_closed.ensures.0 t).0;
    was_closed = (c.is_closed.ensures.0 t).1;
  },
  λ free. c.is_closed.ensures.1 (free.closed, free.was_closed),
)

pub returns-else-is_in_no_record : goal.returns-else-is_in_no_record
returns-else-is_in_no_record c = (
  λ t. absurd (cc),
  λ free. c.is_in_no_record.ensures.1 (subst (NoneIn c) (sym c.as_slice.ensures) free.no_record),
)
