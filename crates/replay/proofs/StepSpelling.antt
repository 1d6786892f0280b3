-- How events are spelled: by a name, and what stands after it.
use Rattle.std.proofs.Common.{◌≡◌, ◌≢◌, ℕ, ◌+◌, ◌*◌, ◌==◌, List, [], ◌∷◌, length, map, All, codes, decimal, slice_index_or, cond, sym, ap, ◌∙◌, refl, arith}
use Rattle.std.proofs.lemmas.List.Elements.{All-nil}
use Rattle.mont_base.specs.declared.operation.Op.{Op}
use Rattle.mont_base.specs.declared.operation.Reply.{Reply}
use Rattle.mont_base.specs.State.{Run}
use Rattle.core_steps.specs.declared.event.Event.{Event}
use Rattle.core_steps.specs.declared.event.Event.TheVariants as events
use Rattle.core_steps.specs.declared.parts.Part.{Part}
use Rattle.core_steps.specs.declared.parts.Part.TheVariants as parts
use Rattle.job_text.specs.Operations.{IsOp, IsNumber}
use Rattle.job_text.specs.ReportText.{answer_words}
use Rattle.job_text.specs.ReportRanges.{IsReply, IsRunOf, is_of_key}
use Rattle.job_text.proofs.OpSpelling.{first_words}
use Rattle.job_text.proofs.Counted.{one_number, two_numbers}
use Rattle.job_text.proofs.AnswerWords.{four_numbers}
use Rattle.replay.specs.declared.step_name.StepName.{StepName}
use Rattle.replay.specs.declared.step_name.StepName.TheVariants as names
use Rattle.replay.specs.StepNames.{step_word, IsNumbered}
use Rattle.replay.specs.EventWords.{part_words, event_words, IsPartName, IsNamed, IsRunBeside}
use Rattle.replay.specs.Schedules.{Move, move_words}

-- moves of notes and lists have no name, and are named by any
abbrev pub name_of : Event → StepName
name_of (events.Look unit) = names.Look
name_of (events.Tell unit epoch) = names.Tell
name_of (events.Confirm unit) = names.Confirm
name_of (events.Store unit slot field value) = names.Store
name_of (events.Leave unit caller op reply) = names.Leave
name_of (events.Read unit caller op reply) = names.Read
name_of (events.Withdraw unit) = names.Withdraw
name_of (events.Freeze unit caller) = names.Freeze
name_of (events.LoadDurable part) = names.Durable
name_of (events.CloseLabel unit slot) = names.Close
name_of (events.PersistClose unit) = names.PersistClose
name_of events.Check = names.Check
name_of events.LoadWord = names.LoadWord
name_of events.PersistWord = names.PersistWord
name_of events.SetClock = names.SetClock
name_of events.PersistClock = names.PersistClock
name_of _ = names.Check

abbrev pub args_of : Event → Run → List (List ℕ)
args_of (events.Look unit) run = decimal unit ∷ []
args_of (events.Tell unit epoch) run = decimal unit ∷ decimal epoch ∷ []
args_of (events.Confirm unit) run = decimal unit ∷ []
args_of (events.Store unit slot field value) run = decimal unit ∷ decimal slot ∷ decimal field ∷ decimal value ∷ []
args_of (events.Leave unit caller op reply) run = decimal unit ∷ decimal caller ∷ answer_words op reply run
args_of (events.Read unit caller op reply) run = decimal unit ∷ decimal caller ∷ answer_words op reply run
args_of (events.Withdraw unit) run = decimal unit ∷ []
args_of (events.Freeze unit caller) run = decimal unit ∷ decimal caller ∷ []
args_of (events.LoadDurable part) run = part_words part
args_of (events.CloseLabel unit slot) run = decimal unit ∷ decimal slot ∷ []
args_of (events.PersistClose unit) run = decimal unit ∷ []
args_of events.Check run = []
args_of events.LoadWord run = []
args_of events.PersistWord run = []
args_of events.SetClock run = []
args_of events.PersistClock run = []
args_of _ run = []

pub event_spelled : (e : Event) (run : Run) → IsNamed e → event_words e run ≡ step_word (name_of e) ∷ args_of e run
event_spelled (events.Look unit) run h = refl
event_spelled (events.Tell unit epoch) run h = refl
event_spelled (events.Confirm unit) run h = refl
event_spelled (events.Store unit slot field value) run h = refl
event_spelled (events.Leave unit caller op reply) run h = refl
event_spelled (events.Read unit caller op reply) run h = refl
event_spelled (events.Withdraw unit) run h = refl
event_spelled (events.Freeze unit caller) run h = refl
event_spelled (events.LoadDurable part) run h = refl
event_spelled (events.CloseLabel unit slot) run h = refl
event_spelled (events.PersistClose unit) run h = refl
event_spelled events.Check run h = refl
event_spelled events.LoadWord run h = refl
event_spelled events.PersistWord run h = refl
event_spelled events.SetClock run h = refl
event_spelled events.PersistClock run h = refl
event_spelled (events.Split part) run h = absurd h
event_spelled (events.Join part note) run h = absurd h
event_spelled (events.Exchange part) run h = absurd h

-- ---- a word is one name
-- some bytes of a word and its length, as one number
word_number : List ℕ → ℕ
word_number w =
    slice_index_or w 0 0 + 256 * slice_index_or w 1 0 + 65536 * length w + 16777216 * slice_index_or w 10 0

named : ℕ → StepName
named n =
    cond (n == word_number (codes "look")) names.Look
    (cond (n == word_number (codes "tell")) names.Tell
    (cond (n == word_number (codes "confirm")) names.Confirm
    (cond (n == word_number (codes "store")) names.Store
    (cond (n == word_number (codes "leave")) names.Leave
    (cond (n == word_number (codes "read")) names.Read
    (cond (n == word_number (codes "withdraw")) names.Withdraw
    (cond (n == word_number (codes "freeze")) names.Freeze
    (cond (n == word_number (codes "durable")) names.Durable
    (cond (n == word_number (codes "close")) names.Close
    (cond (n == word_number (codes "persistclose")) names.PersistClose
    (cond (n == word_number (codes "check")) names.Check
    (cond (n == word_number (codes "loadword")) names.LoadWord
    (cond (n == word_number (codes "persistword")) names.PersistWord
    (cond (n == word_number (codes "setclock")) names.SetClock names.PersistClock))))))))))))))

named_back : (n : StepName) → named (word_number (step_word n)) ≡ n
unfolding named word_number
named_back names.Look = refl
named_back names.Tell = refl
named_back names.Confirm = refl
named_back names.Store = refl
named_back names.Leave = refl
named_back names.Read = refl
named_back names.Withdraw = refl
named_back names.Freeze = refl
named_back names.Durable = refl
named_back names.Close = refl
named_back names.PersistClose = refl
named_back names.Check = refl
named_back names.LoadWord = refl
named_back names.PersistWord = refl
named_back names.SetClock = refl
named_back names.PersistClock = refl

pub step_once : (m n : StepName) → step_word m ≡ step_word n → m ≡ n
step_once m n same = sym (named_back m) ∙ ap (λ w. named (word_number w)) same ∙ named_back n

-- ---- words after a name spell the events of that name
-- such words spell no event of a name
abbrev pub NoneNamed : StepName → List (List ℕ) → Type 0
NoneNamed n args = (e : Event) (run : Run) → IsNamed e → IsRunBeside e run → name_of e ≡ n → args ≢ args_of e run

pub named_alone : (ws : List (List ℕ)) (word : List ℕ) (args : List (List ℕ)) (n : StepName) → ws ≡ word ∷ args → word ≡ step_word n
    → NoneNamed n args → (e : Event) (run : Run) → IsNamed e → IsRunBeside e run → ws ≢ event_words e run
named_alone ws word args n whole is none e run h beside same =
    let parts = first_words word (step_word (name_of e)) args (args_of e run) (sym whole ∙ same ∙ event_spelled e run h) in
    none e run h beside (step_once (name_of e) n (sym parts.0 ∙ is)) parts.1

pub no_name : (ws : List (List ℕ)) (word : List ℕ) (args : List (List ℕ)) → ws ≡ word ∷ args
    → ((n : StepName) → word ≢ step_word n) → (e : Event) (run : Run) → IsNamed e → ws ≢ event_words e run
no_name ws word args whole none e run h same =
    let parts = first_words word (step_word (name_of e)) args (args_of e run) (sym whole ∙ same ∙ event_spelled e run h) in
    none (name_of e) parts.0

pub no_words : (ws : List (List ℕ)) → ws ≡ [] → (e : Event) (run : Run) → IsNamed e → ws ≢ event_words e run
no_words ws none e run h same = let e : [] ≡ step_word (name_of e) ∷ args_of e run = sym none ∙ same ∙ event_spelled e run h in cc

-- ---- numbers alone
pub numbered_alone : (name n : StepName) (args : List (List ℕ)) → name ≡ n → NoneNamed n args
    → (m : Move) → IsNamed m.0 → IsRunBeside m.0 m.1 → step_word name ∷ args ≢ move_words m
numbered_alone name n args is none m h beside =
    named_alone (step_word name ∷ args) (step_word name) args n refl (ap step_word is) none m.0 m.1 h beside

abbrev pub NoNumbers : ℕ → List (List ℕ) → Type 0
NoNumbers count args = (ns : List ℕ) → length ns ≡ count → All IsNumber ns → args ≢ map decimal ns

pub no_look : (args : List (List ℕ)) → NoNumbers 1 args → NoneNamed names.Look args
no_look args none (events.Look unit) run h beside n same = none (unit ∷ []) refl (one_number unit h) same
no_look args none _ run h beside n same = absurd (cc)

pub no_tell : (args : List (List ℕ)) → NoNumbers 2 args → NoneNamed names.Tell args
no_tell args none (events.Tell unit epoch) run h beside n same = none (unit ∷ epoch ∷ []) refl (two_numbers unit epoch h.0 h.1) same
no_tell args none _ run h beside n same = absurd (cc)

pub no_confirm : (args : List (List ℕ)) → NoNumbers 1 args → NoneNamed names.Confirm args
no_confirm args none (events.Confirm unit) run h beside n same = none (unit ∷ []) refl (one_number unit h) same
no_confirm args none _ run h beside n same = absurd (cc)

pub no_store : (args : List (List ℕ)) → NoNumbers 4 args → NoneNamed names.Store args
no_store args none (events.Store unit slot field value) run h beside n same =
    none (unit ∷ slot ∷ field ∷ value ∷ []) refl (four_numbers unit slot field value h.0 h.1 h.2 h.3) same
no_store args none _ run h beside n same = absurd (cc)

pub no_withdraw : (args : List (List ℕ)) → NoNumbers 1 args → NoneNamed names.Withdraw args
no_withdraw args none (events.Withdraw unit) run h beside n same = none (unit ∷ []) refl (one_number unit h) same
no_withdraw args none _ run h beside n same = absurd (cc)

pub no_freeze : (args : List (List ℕ)) → NoNumbers 2 args → NoneNamed names.Freeze args
no_freeze args none (events.Freeze unit caller) run h beside n same = none (unit ∷ caller ∷ []) refl (two_numbers unit caller h.0 h.1) same
no_freeze args none _ run h beside n same = absurd (cc)

pub no_close : (args : List (List ℕ)) → NoNumbers 2 args → NoneNamed names.Close args
no_close args none (events.CloseLabel unit slot) run h beside n same = none (unit ∷ slot ∷ []) refl (two_numbers unit slot h.0 h.1) same
no_close args none _ run h beside n same = absurd (cc)

pub no_persistclose : (args : List (List ℕ)) → NoNumbers 1 args → NoneNamed names.PersistClose args
no_persistclose args none (events.PersistClose unit) run h beside n same = none (unit ∷ []) refl (one_number unit h) same
no_persistclose args none _ run h beside n same = absurd (cc)

pub no_check : (args : List (List ℕ)) → NoNumbers 0 args → NoneNamed names.Check args
no_check args none events.Check run h beside n same = none ([]) refl (All-nil IsNumber) same
no_check args none (events.Split part) run h beside n same = absurd h
no_check args none (events.Join part note) run h beside n same = absurd h
no_check args none (events.Exchange part) run h beside n same = absurd h
no_check args none _ run h beside n same = absurd (cc)

pub no_loadword : (args : List (List ℕ)) → NoNumbers 0 args → NoneNamed names.LoadWord args
no_loadword args none events.LoadWord run h beside n same = none ([]) refl (All-nil IsNumber) same
no_loadword args none _ run h beside n same = absurd (cc)

pub no_persistword : (args : List (List ℕ)) → NoNumbers 0 args → NoneNamed names.PersistWord args
no_persistword args none events.PersistWord run h beside n same = none ([]) refl (All-nil IsNumber) same
no_persistword args none _ run h beside n same = absurd (cc)

pub no_setclock : (args : List (List ℕ)) → NoNumbers 0 args → NoneNamed names.SetClock args
no_setclock args none events.SetClock run h beside n same = none ([]) refl (All-nil IsNumber) same
no_setclock args none _ run h beside n same = absurd (cc)

pub no_persistclock : (args : List (List ℕ)) → NoNumbers 0 args → NoneNamed names.PersistClock args
no_persistclock args none events.PersistClock run h beside n same = none ([]) refl (All-nil IsNumber) same
no_persistclock args none _ run h beside n same = absurd (cc)

-- ---- answers and parts
abbrev pub NoAnswer : List (List ℕ) → Type 0
NoAnswer args = (u k : ℕ) (o : Op) (r : Reply) (run : Run) → IsNumber u → IsNumber k → IsOp o → IsReply (is_of_key o) r → IsRunOf r run
    → args ≢ decimal u ∷ decimal k ∷ answer_words o r run

pub no_leave : (args : List (List ℕ)) → NoAnswer args → NoneNamed names.Leave args
no_leave args none (events.Leave u k o r) run h beside n same = none u k o r run h.0 h.1 h.2 h.3 beside same
no_leave args none _ run h beside n same = absurd (cc)

pub no_read : (args : List (List ℕ)) → NoAnswer args → NoneNamed names.Read args
no_read args none (events.Read u k o r) run h beside n same = none u k o r run h.0 h.1 h.2 h.3 beside same
no_read args none _ run h beside n same = absurd (cc)

pub no_durable : (args : List (List ℕ)) → ((p : Part) → IsPartName p → args ≢ part_words p) → NoneNamed names.Durable args
no_durable args none (events.LoadDurable part) run h beside n same = none part h same
no_durable args none _ run h beside n same = absurd (cc)

-- ---- parts
other_length : (w v : List ℕ) (ws vs : List (List ℕ)) → w ∷ ws ≡ v ∷ vs → length w ≢ length v → ⊥
other_length w v ws vs e differ = differ (ap length (first_words w v ws vs e).0)

pub no_unit : (ws rest : List (List ℕ)) → ws ≡ codes "unit" ∷ rest → NoNumbers 1 rest → (p : Part) → IsPartName p → ws ≢ part_words p
no_unit ws rest own none (parts.Unit u) h same =
    none (u ∷ []) refl (one_number u h) (first_words (codes "unit") (codes "unit") rest (decimal u ∷ []) (sym own ∙ same)).1
no_unit ws rest own none (parts.Caller k) h same =
    other_length (codes "unit") (codes "caller") rest (decimal k ∷ []) (sym own ∙ same) (λ e. omega (arith, e))
no_unit ws rest own none parts.Advancer h same = h

pub no_caller : (ws : List (List ℕ)) → ((rest : List (List ℕ)) → ws ≢ codes "unit" ∷ rest)
    → ((ns : List ℕ) → length ns ≡ 1 → All IsNumber ns → ws ≢ codes "caller" ∷ map decimal ns)
    → (p : Part) → IsPartName p → ws ≢ part_words p
no_caller ws no_units none (parts.Unit u) h same = no_units (decimal u ∷ []) same
no_caller ws no_units none (parts.Caller k) h same = none (k ∷ []) refl (one_number k h) same
no_caller ws no_units none parts.Advancer h same = h

-- a name that is none of these three
pub others_numbered : (n : StepName) → (n ≡ names.Leave → ⊥) → (n ≡ names.Read → ⊥) → (n ≡ names.Durable → ⊥) → IsNumbered n
others_numbered names.Leave l r d = l refl
others_numbered names.Read l r d = r refl
others_numbered names.Durable l r d = d refl
others_numbered _ l r d = tt
