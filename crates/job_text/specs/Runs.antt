-- The runs of ranges beside the entries of histories: a history keeps how many pairs a range gave,
-- and its runs keep which.
use Rattle.std.specs.Prelude.{◌≡◌, Bool, true, false, List, [], ◌∷◌, length, filter}
use Rattle.mont_base.specs.declared.operation.Entry.{Entry}
use Rattle.mont_base.specs.declared.operation.Reply.{Reply}
use Rattle.mont_base.specs.declared.operation.Reply.TheVariants as replies
use Rattle.mont_base.specs.State.{Run}

-- a reply beside which there is a run
abbrev pub has_run : Reply → Bool
has_run (replies.Pairs number) = true
has_run _ = false

abbrev pub is_range : Entry → Bool
is_range e = has_run e.reply

-- an entry as it is spelled: with its run, which is empty where its reply has none
abbrev pub Spelled : Type 0
Spelled = Entry × Run

-- the run of the first entry, and those of the others
abbrev pub first_run : Bool → List Run → Run
first_run true (run ∷ runs) = run
first_run _ _ = []

abbrev pub runs_behind : Bool → List Run → List Run
runs_behind true (run ∷ runs) = runs
runs_behind _ runs = runs

-- what is kept of a run
abbrev pub kept_run : Bool → Run → List Run
kept_run true run = run ∷ []
kept_run false run = []

-- the entries of a unit with their runs
abbrev pub spelled : List Entry → List Run → List Spelled
spelled [] runs = []
spelled (e ∷ es) runs =
    (e, first_run (is_range e) runs) ∷ spelled es (runs_behind (is_range e) runs)

abbrev pub spelled_all : List (List Entry) → List (List Run) → List (List Spelled)
spelled_all [] runs = []
spelled_all (h ∷ hs) [] = spelled h [] ∷ spelled_all hs []
spelled_all (h ∷ hs) (rs ∷ runs) = spelled h rs ∷ spelled_all hs runs

-- a unit has a run for each range in its history
abbrev pub HasRuns : List Entry → List Run → Type 0
HasRuns h runs = length runs ≡ length (filter is_range h)

-- and so has each unit
abbrev pub HaveRuns : List (List Entry) → List (List Run) → Type 0
HaveRuns [] [] = Unit {0}
HaveRuns (h ∷ hs) (rs ∷ runs) = HasRuns h rs × HaveRuns hs runs
HaveRuns _ _ = ⊥
