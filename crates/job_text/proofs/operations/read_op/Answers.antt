use Rattle.std.proofs.Common.{ℕ, List, Bor, map, ap, ◌∙◌}
use Rattle.job_text.specs.declared.op_name.OpName.TheVariants as names
use Rattle.job_text.specs.Operations.{name_word}
use Rattle.job_text.proofs.OpSpelling.{no_name, named_alone, no_enq, no_deq, no_len, no_addv, no_delv, no_adde, no_dele, no_vertex, no_degree, no_oput_unit, no_oget, no_odel, no_ofloor, no_orank, no_orange}
use Rattle.job_text.proofs.operations.read_op.Goals as goal

abbrev all : List (Bor (List ℕ)) → List (List ℕ)
all words = map (λ word. word.now) words

pub returns-in_err-of_word : goal.returns-in_err-of_word
returns-in_err-of_word c = rw c.from_residual-in_err-of_word.ensures
    (no_name (all c.args.words.now) _ _ (ap all c.in_ok-name.ensures.cases.0) c.in_err-of_word.ensures)

pub returns-in_err-unit-in-Enq : goal.returns-in_err-unit-in-Enq
returns-in_err-unit-in-Enq c = rw c.from_residual-in_err-unit-in-Enq.ensures (named_alone (all c.args.words.now) _ _ names.Enq
    (ap all c.in_ok-name.ensures.cases.0) (c.in_ok-of_word.ensures ∙ ap name_word c.in-Enq.is) (no_enq _ c.in_err-unit-in-Enq.ensures))

pub returns-in_err-unit-in-Deq : goal.returns-in_err-unit-in-Deq
returns-in_err-unit-in-Deq c = rw c.from_residual-in_err-unit-in-Deq.ensures (named_alone (all c.args.words.now) _ _ names.Deq
    (ap all c.in_ok-name.ensures.cases.0) (c.in_ok-of_word.ensures ∙ ap name_word c.in-Deq.is) (no_deq _ c.in_err-unit-in-Deq.ensures))

pub returns-in_err-unit-in-Len : goal.returns-in_err-unit-in-Len
returns-in_err-unit-in-Len c = rw c.from_residual-in_err-unit-in-Len.ensures (named_alone (all c.args.words.now) _ _ names.Len
    (ap all c.in_ok-name.ensures.cases.0) (c.in_ok-of_word.ensures ∙ ap name_word c.in-Len.is) (no_len _ c.in_err-unit-in-Len.ensures))

pub returns-in_err-unit-in-AddV : goal.returns-in_err-unit-in-AddV
returns-in_err-unit-in-AddV c = rw c.from_residual-in_err-unit-in-AddV.ensures (named_alone (all c.args.words.now) _ _ names.AddV
    (ap all c.in_ok-name.ensures.cases.0) (c.in_ok-of_word.ensures ∙ ap name_word c.in-AddV.is) (no_addv _ c.in_err-unit-in-AddV.ensures))

pub returns-in_err-unit-in-DelV : goal.returns-in_err-unit-in-DelV
returns-in_err-unit-in-DelV c = rw c.from_residual-in_err-unit-in-DelV.ensures (named_alone (all c.args.words.now) _ _ names.DelV
    (ap all c.in_ok-name.ensures.cases.0) (c.in_ok-of_word.ensures ∙ ap name_word c.in-DelV.is) (no_delv _ c.in_err-unit-in-DelV.ensures))

pub returns-in_err-unit-in-AddE : goal.returns-in_err-unit-in-AddE
returns-in_err-unit-in-AddE c = rw c.from_residual-in_err-unit-in-AddE.ensures (named_alone (all c.args.words.now) _ _ names.AddE
    (ap all c.in_ok-name.ensures.cases.0) (c.in_ok-of_word.ensures ∙ ap name_word c.in-AddE.is) (no_adde _ c.in_err-unit-in-AddE.ensures))

pub returns-in_err-unit-in-DelE : goal.returns-in_err-unit-in-DelE
returns-in_err-unit-in-DelE c = rw c.from_residual-in_err-unit-in-DelE.ensures (named_alone (all c.args.words.now) _ _ names.DelE
    (ap all c.in_ok-name.ensures.cases.0) (c.in_ok-of_word.ensures ∙ ap name_word c.in-DelE.is) (no_dele _ c.in_err-unit-in-DelE.ensures))

pub returns-in_err-unit-in-Vertex : goal.returns-in_err-unit-in-Vertex
returns-in_err-unit-in-Vertex c = rw c.from_residual-in_err-unit-in-Vertex.ensures (named_alone (all c.args.words.now) _ _ names.Vertex
    (ap all c.in_ok-name.ensures.cases.0) (c.in_ok-of_word.ensures ∙ ap name_word c.in-Vertex.is)
    (no_vertex _ c.in_err-unit-in-Vertex.ensures))

pub returns-in_err-unit-in-Degree : goal.returns-in_err-unit-in-Degree
returns-in_err-unit-in-Degree c = rw c.from_residual-in_err-unit-in-Degree.ensures (named_alone (all c.args.words.now) _ _ names.Degree
    (ap all c.in_ok-name.ensures.cases.0) (c.in_ok-of_word.ensures ∙ ap name_word c.in-Degree.is)
    (no_degree _ c.in_err-unit-in-Degree.ensures))

pub returns-in_err-unit-in-OGet : goal.returns-in_err-unit-in-OGet
returns-in_err-unit-in-OGet c = rw c.from_residual-in_err-unit-in-OGet.ensures (named_alone (all c.args.words.now) _ _ names.OGet
    (ap all c.in_ok-name.ensures.cases.0) (c.in_ok-of_word.ensures ∙ ap name_word c.in-OGet.is)
    (no_oget _ c.in_err-unit-in-OGet.ensures))

pub returns-in_err-unit-in-ODel : goal.returns-in_err-unit-in-ODel
returns-in_err-unit-in-ODel c = rw c.from_residual-in_err-unit-in-ODel.ensures (named_alone (all c.args.words.now) _ _ names.ODel
    (ap all c.in_ok-name.ensures.cases.0) (c.in_ok-of_word.ensures ∙ ap name_word c.in-ODel.is)
    (no_odel _ c.in_err-unit-in-ODel.ensures))

pub returns-in_err-unit-in-OFloor : goal.returns-in_err-unit-in-OFloor
returns-in_err-unit-in-OFloor c = rw c.from_residual-in_err-unit-in-OFloor.ensures (named_alone (all c.args.words.now) _ _ names.OFloor
    (ap all c.in_ok-name.ensures.cases.0) (c.in_ok-of_word.ensures ∙ ap name_word c.in-OFloor.is)
    (no_ofloor _ c.in_err-unit-in-OFloor.ensures))

pub returns-in_err-unit-in-ORank : goal.returns-in_err-unit-in-ORank
returns-in_err-unit-in-ORank c = rw c.from_residual-in_err-unit-in-ORank.ensures (named_alone (all c.args.words.now) _ _ names.ORank
    (ap all c.in_ok-name.ensures.cases.0) (c.in_ok-of_word.ensures ∙ ap name_word c.in-ORank.is)
    (no_orank _ c.in_err-unit-in-ORank.ensures))

pub returns-in_err-unit-in-ORange : goal.returns-in_err-unit-in-ORange
returns-in_err-unit-in-ORange c = rw c.from_residual-in_err-unit-in-ORange.ensures (named_alone (all c.args.words.now) _ _ names.ORange
    (ap all c.in_ok-name.ensures.cases.0) (c.in_ok-of_word.ensures ∙ ap name_word c.in-ORange.is)
    (no_orange _ c.in_err-unit-in-ORange.ensures))

pub returns-in_err-unit-in-OPut : goal.returns-in_err-unit-in-OPut
returns-in_err-unit-in-OPut c = rw c.from_residual-in_err-unit-in-OPut.ensures (named_alone (all c.args.words.now) _ _ names.OPut
    (ap all c.in_ok-name.ensures.cases.0) (c.in_ok-of_word.ensures ∙ ap name_word c.in-OPut.is)
    (no_oput_unit _ c.in_err-unit-in-OPut.ensures))
