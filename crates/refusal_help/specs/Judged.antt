-- Lines that may stand by their words, and the first thing that is wrong with the others.
use Rattle.std.specs.Prelude.{◌≡◌, ◌≢◌, ◌⊎◌, ℕ, List, [], ◌∷◌, codes, length, nat_lt, slice_get, Option, Some, None, if◌then◌else◌}
use Rattle.refusal_help.specs.declared.cause.Cause.{Cause}
use Rattle.refusal_help.specs.declared.cause.Cause.TheVariants as causes
use Rattle.refusal_help.specs.declared.given.Given.{Given}
use Rattle.refusal_help.specs.declared.operation.Operation.{Operation}
use Rattle.refusal_help.specs.declared.wanted.Wanted.{Wanted}
use Rattle.refusal_help.specs.declared.wanted.Wanted.TheVariants as wants
use Rattle.refusal_help.specs.declared.wanted.Figure.TheVariants as figures
use Rattle.refusal_help.specs.declared.wanted.Fixed.TheVariants as fixed
use Rattle.refusal_help.specs.declared.form.Form.{Form}
use Rattle.refusal_help.specs.declared.form.Form.TheVariants as forms
use Rattle.refusal_help.specs.Table.{args_of, form_args, form_word, operation_word}
use Rattle.refusal_help.specs.LineBytes.{IsClean, IsLineFault}
use Rattle.refusal_help.specs.Words.{nothing_given}
use Rattle.refusal_help.specs.Lines.{words_of, AreWords, IsWordCause}

-- ---- a line by its words
-- its bytes may stand, and its words are of this sort
abbrev pub IsSoundBy : (List (List ℕ) → Type 0) → List ℕ → Type 0
IsSoundBy Are line = IsClean line × Are (words_of line)

-- the bytes are looked at first, and then the words
abbrev pub IsCauseBy : (List (List ℕ) → Cause → Type 0) → List ℕ → Cause → Type 0
IsCauseBy Is line cause = IsLineFault line cause ⊎ (IsClean line × Is (words_of line) cause)

-- a line whose words are to be these
abbrev pub IsSound : Given → List Wanted → List ℕ → Type 0
IsSound g wants line = IsSoundBy (AreWords g wants) line

abbrev pub IsCause : Given → List Wanted → List ℕ → Cause → Type 0
IsCause g wants line cause = IsCauseBy (IsWordCause g wants) line cause

-- ---- lines of jobs
abbrev pub job_header_wants : List Wanted
job_header_wants =
    wants.Word fixed.JobTitle ∷ wants.Word fixed.JobVersion ∷ wants.Kinds
    ∷ wants.Number figures.Slots ∷ wants.Number figures.Callers ∷ wants.Number figures.Attempts
    ∷ wants.Mask ∷ []

abbrev pub stop_wants : List Wanted
stop_wants = wants.Word fixed.Stop ∷ wants.Number figures.Gate ∷ wants.Number figures.Steps ∷ []

-- what a caller asks, and what that wants, where the word names something that there is
abbrev pub call_wants : Option Operation → List Wanted
call_wants None = wants.Number figures.Caller ∷ wants.Deed ∷ []
call_wants (Some operation) =
    wants.Number figures.Caller ∷ wants.Deed ∷ args_of operation

-- the operation that the word at a place names, if it names one
abbrev pub Names : List (List ℕ) → ℕ → Option Operation → Type 0
Names words at None =
    (operation : Operation) → slice_get words at ≢ Some (operation_word operation)
Names words at (Some operation) = slice_get words at ≡ Some (operation_word operation)

abbrev pub BeginStop : List (List ℕ) → Type 0
BeginStop words = slice_get words 0 ≡ Some (codes "stop")

abbrev pub AreCallWants : List (List ℕ) → List Wanted → Type 0
AreCallWants words wants =
    (operation : Option Operation) × Names words 1 operation × (wants ≡ call_wants operation)

-- what the words of a line are to be, by its first two
abbrev pub AreJobWants : List (List ℕ) → List Wanted → Type 0
AreJobWants words wants =
    (BeginStop words × (wants ≡ stop_wants)) ⊎ ((¬ BeginStop words) × AreCallWants words wants)

-- a stop line stands after lines of callers
abbrev pub IsLate : Given → List (List ℕ) → Type 0
IsLate g words = BeginStop words × (g.gate ≡ None)

abbrev pub AreJobWords : Given → List (List ℕ) → Type 0
AreJobWords g words =
    (¬ IsLate g words)
    × ((wants : List Wanted) × AreJobWants words wants × AreWords g wants words)

abbrev pub IsJobWordCause : Given → List (List ℕ) → Cause → Type 0
IsJobWordCause g words cause =
    (IsLate g words × (cause ≡ causes.LateStop))
    ⊎ ((¬ IsLate g words)
    × ((wants : List Wanted) × AreJobWants words wants × IsWordCause g wants words cause))

abbrev pub IsJobLine : Given → List ℕ → Type 0
IsJobLine g line = IsSoundBy (AreJobWords g) line

abbrev pub IsJobCause : Given → List ℕ → Cause → Type 0
IsJobCause g line cause = IsCauseBy (IsJobWordCause g) line cause

-- ---- the first line of a schedule
abbrev pub title_wants : List Wanted
title_wants =
    wants.Word fixed.ScheduleTitle ∷ wants.Word fixed.ScheduleVersion ∷ wants.Kinds
    ∷ wants.Number figures.Slots ∷ wants.Number figures.Callers ∷ []

-- ---- the command line
-- the form that the first word names, if it names one
abbrev pub NamesForm : List (List ℕ) → Option Form → Type 0
NamesForm words None = (form : Form) → slice_get words 0 ≢ Some (form_word form)
NamesForm words (Some form) = slice_get words 0 ≡ Some (form_word form)

-- what words are to be; after `resume FILE` a second file may stand
abbrev pub form_wants : Option Form → ℕ → List Wanted
form_wants None count = wants.Form ∷ []
form_wants (Some forms.Resume) count =
    if nat_lt 2 count then wants.Form ∷ wants.File ∷ wants.File ∷ [] else wants.Form ∷ wants.File ∷ []
form_wants (Some form) count = wants.Form ∷ form_args form

abbrev pub AreCommandWants : List (List ℕ) → List Wanted → Type 0
AreCommandWants words wants =
    (form : Option Form) × NamesForm words form × (wants ≡ form_wants form (length words))

abbrev pub AreCommand : List (List ℕ) → Type 0
AreCommand words =
    (wants : List Wanted) × AreCommandWants words wants × AreWords nothing_given wants words

abbrev pub IsCommandCause : List (List ℕ) → Cause → Type 0
IsCommandCause words cause =
    (wants : List Wanted) × AreCommandWants words wants
    × IsWordCause nothing_given wants words cause
