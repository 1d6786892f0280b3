-- The words of events can be seen, are few, and spell one event.
use Rattle.std.proofs.Common.{◌≡◌, ℕ, ◌+◌, ◌≤◌, Bool, true, false, List, [], ◌∷◌, ◌++◌, length, All, codes, decimal, refl, sym, ap, ◌∙◌, subst, arith, lit≤, lit<}
use Rattle.std.proofs.lemmas.List.Elements.{All-cons, All-nil, All-append}
use Rattle.std.proofs.lemmas.Fmt.{decimal_injective}
use Rattle.mont_base.specs.declared.operation.Op.{Op}
use Rattle.mont_base.specs.declared.operation.Reply.{Reply}
use Rattle.mont_base.specs.declared.operation.Reply.TheVariants as replies
use Rattle.mont_base.specs.State.{Run}
use Rattle.core_steps.specs.declared.event.Event.{Event}
use Rattle.core_steps.specs.declared.event.Event.TheVariants as events
use Rattle.core_steps.specs.declared.parts.Part.{Part}
use Rattle.core_steps.specs.declared.parts.Part.TheVariants as parts
use Rattle.job_text.specs.declared.split_words.TheConstants.{MOST_WORDS}
use Rattle.job_text.specs.Spelling.{op_words, reply_words, run_words, text_word}
use Rattle.job_text.specs.Operations.{IsOp, IsNumber}
use Rattle.job_text.specs.ReportText.{answer_words, entry_words}
use Rattle.job_text.specs.ReportRanges.{IsReply, IsRunOf, is_of_key}
use Rattle.job_text.proofs.TextWords.{text_seen}
use Rattle.job_text.proofs.SeenWords.{IsWord, words_lack, seen_tested, decimal_seen, op_seen}
use Rattle.job_text.proofs.LineWords.{words_from_line}
use Rattle.job_text.specs.Lines.{spaced}
use Rattle.job_text.specs.LineWords.{words_of}
use Rattle.job_text.proofs.OpSpelling.{first_words}
use Rattle.job_text.proofs.AnswerWords.{answer_once, entry_part}
use Rattle.replay.specs.declared.step_name.StepName.TheVariants as names
use Rattle.replay.specs.StepNames.{step_word}
use Rattle.replay.specs.EventWords.{part_words, event_words, IsPartName, IsNamed, IsRunBeside}
use Rattle.replay.proofs.StepSpelling.{name_of, args_of, event_spelled, step_once}

-- ---- replies and runs
two_seen : (w v : List ℕ) → IsWord w → IsWord v → All IsWord (w ∷ v ∷ [])
two_seen w v h i = All-cons IsWord w (v ∷ []) h (All-cons IsWord v [] i (All-nil IsWord))

reply_seen : (k : Bool) (r : Reply) → IsReply k r → All IsWord (reply_words r)
reply_seen k replies.Nothing is = All-cons IsWord (codes "none") [] (seen_tested (codes "none") refl) (All-nil IsWord)
reply_seen true (replies.Was v) is = absurd is
reply_seen false (replies.Was v) is = two_seen _ _ (seen_tested (codes "was") refl) (decimal_seen v is)
reply_seen true (replies.WasText v) is = two_seen _ _ (seen_tested (codes "was") refl) (text_seen v)
reply_seen false (replies.WasText v) is = absurd is
reply_seen k (replies.Count n) is = two_seen _ _ (seen_tested (codes "count") refl) (decimal_seen n is)
reply_seen k replies.NoEnds is = All-cons IsWord (codes "noends") [] (seen_tested (codes "noends") refl) (All-nil IsWord)
reply_seen k (replies.Key key) is = two_seen _ _ (seen_tested (codes "key") refl) (text_seen key)
reply_seen k (replies.Pairs n) is = two_seen _ _ (seen_tested (codes "pairs") refl) (decimal_seen n (omega (arith, is)))

run_seen : (run : Run) → All IsWord (run_words run)
run_seen [] = All-nil IsWord
run_seen (p ∷ run) =
    All-cons IsWord (text_word p.0) (text_word p.1 ∷ run_words run) (text_seen p.0)
    (All-cons IsWord (text_word p.1) (run_words run) (text_seen p.1) (run_seen run))

answer_seen : (u k : ℕ) (o : Op) (r : Reply) (run : Run) → IsNumber u → IsNumber k → IsOp o → IsReply (is_of_key o) r
    → All IsWord (decimal u ∷ decimal k ∷ answer_words o r run)
answer_seen u k o r run h i is fits =
    All-cons IsWord (decimal u) (decimal k ∷ answer_words o r run) (decimal_seen u h)
    (All-cons IsWord (decimal k) (answer_words o r run) (decimal_seen k i)
    (All-append IsWord (op_words o) (codes "=" ∷ (reply_words r ++ run_words run)) (op_seen o is)
    (All-cons IsWord (codes "=") (reply_words r ++ run_words run) (seen_tested (codes "=") refl)
    (All-append IsWord (reply_words r) (run_words run) (reply_seen (is_of_key o) r fits) (run_seen run)))))

-- ---- words that can be seen
part_seen : (p : Part) → IsPartName p → All IsWord (part_words p)
part_seen (parts.Unit u) is = two_seen _ _ (seen_tested (codes "unit") refl) (decimal_seen u is)
part_seen (parts.Caller k) is = two_seen _ _ (seen_tested (codes "caller") refl) (decimal_seen k is)
part_seen parts.Advancer is = absurd is

abbrev pub AllSeen : Event → Run → Type 0
AllSeen e run = All IsWord (event_words e run)

pub event_seen : (e : Event) (run : Run) → IsNamed e → IsRunBeside e run → AllSeen e run
event_seen (events.Look unit) run h beside = All-cons IsWord (codes "look") (decimal unit ∷ []) (seen_tested (codes "look") refl)
    (All-cons IsWord (decimal unit) ([]) (decimal_seen unit h)
    (All-nil IsWord))
event_seen (events.Tell unit epoch) run h beside = All-cons IsWord (codes "tell") (decimal unit ∷ decimal epoch ∷ [])
    (seen_tested (codes "tell") refl)
    (All-cons IsWord (decimal unit) (decimal epoch ∷ []) (decimal_seen unit h.0)
    (All-cons IsWord (decimal epoch) ([]) (decimal_seen epoch h.1)
    (All-nil IsWord)))
event_seen (events.Confirm unit) run h beside = All-cons IsWord (codes "confirm") (decimal unit ∷ []) (seen_tested (codes "confirm") refl)
    (All-cons IsWord (decimal unit) ([]) (decimal_seen unit h)
    (All-nil IsWord))
event_seen (events.Store unit slot field value) run h beside = All-cons IsWord (codes "store")
    (decimal unit ∷ decimal slot ∷ decimal field ∷ decimal value ∷ []) (seen_tested (codes "store") refl)
    (All-cons IsWord (decimal unit) (decimal slot ∷ decimal field ∷ decimal value ∷ []) (decimal_seen unit h.0)
    (All-cons IsWord (decimal slot) (decimal field ∷ decimal value ∷ []) (decimal_seen slot h.1)
    (All-cons IsWord (decimal field) (decimal value ∷ []) (decimal_seen field h.2)
    (All-cons IsWord (decimal value) ([]) (decimal_seen value h.3)
    (All-nil IsWord)))))
event_seen (events.Leave unit caller op reply) run h beside = All-cons IsWord (codes "leave")
    (decimal unit ∷ decimal caller ∷ answer_words op reply run)
    (seen_tested (codes "leave") refl) (answer_seen unit caller op reply run h.0 h.1 h.2 h.3)
event_seen (events.Read unit caller op reply) run h beside = All-cons IsWord (codes "read")
    (decimal unit ∷ decimal caller ∷ answer_words op reply run)
    (seen_tested (codes "read") refl) (answer_seen unit caller op reply run h.0 h.1 h.2 h.3)
event_seen (events.Withdraw unit) run h beside = All-cons IsWord (codes "withdraw") (decimal unit ∷ [])
    (seen_tested (codes "withdraw") refl)
    (All-cons IsWord (decimal unit) ([]) (decimal_seen unit h)
    (All-nil IsWord))
event_seen (events.Freeze unit caller) run h beside = All-cons IsWord (codes "freeze") (decimal unit ∷ decimal caller ∷ [])
    (seen_tested (codes "freeze") refl)
    (All-cons IsWord (decimal unit) (decimal caller ∷ []) (decimal_seen unit h.0)
    (All-cons IsWord (decimal caller) ([]) (decimal_seen caller h.1)
    (All-nil IsWord)))
event_seen (events.LoadDurable part) run h beside = All-cons IsWord (codes "durable") (part_words part)
    (seen_tested (codes "durable") refl) (part_seen part h)
event_seen (events.CloseLabel unit slot) run h beside = All-cons IsWord (codes "close") (decimal unit ∷ decimal slot ∷ [])
    (seen_tested (codes "close") refl)
    (All-cons IsWord (decimal unit) (decimal slot ∷ []) (decimal_seen unit h.0)
    (All-cons IsWord (decimal slot) ([]) (decimal_seen slot h.1)
    (All-nil IsWord)))
event_seen (events.PersistClose unit) run h beside = All-cons IsWord (codes "persistclose") (decimal unit ∷ [])
    (seen_tested (codes "persistclose") refl)
    (All-cons IsWord (decimal unit) ([]) (decimal_seen unit h)
    (All-nil IsWord))
event_seen events.Check run h beside = All-cons IsWord (codes "check") ([]) (seen_tested (codes "check") refl)
    (All-nil IsWord)
event_seen events.LoadWord run h beside = All-cons IsWord (codes "loadword") ([]) (seen_tested (codes "loadword") refl)
    (All-nil IsWord)
event_seen events.PersistWord run h beside = All-cons IsWord (codes "persistword") ([]) (seen_tested (codes "persistword") refl)
    (All-nil IsWord)
event_seen events.SetClock run h beside = All-cons IsWord (codes "setclock") ([]) (seen_tested (codes "setclock") refl)
    (All-nil IsWord)
event_seen events.PersistClock run h beside = All-cons IsWord (codes "persistclock") ([]) (seen_tested (codes "persistclock") refl)
    (All-nil IsWord)
event_seen (events.Split part) run h beside = absurd h
event_seen (events.Join part note) run h beside = absurd h
event_seen (events.Exchange part) run h beside = absurd h

-- ---- and are few
few_answer : (o : Op) (r : Reply) (run : Run) → IsOp o → IsReply (is_of_key o) r → IsRunOf r run → 4 + length
    (answer_words o r run) ≤ MOST_WORDS
few_answer o r run is fits of =
    let short : length (entry_words 0 (record { caller = 0; call = 0; op = o; reply = r; epoch = 0 }, run)) ≤ MOST_WORDS =
    (entry_part 1 0 (lit≤ tt, lit< tt)).short (record { caller = 0; call = 0; op = o; reply = r; epoch = 0 }, run)
    (record { caller = lit< tt; call = lit< tt; op = is; reply = fits; epoch = lit< tt }, of) in
    omega (arith, short)

part_few : (p : Part) → length (part_words p) ≤ 2
part_few (parts.Unit u) = lit≤ tt
part_few (parts.Caller k) = lit≤ tt
part_few parts.Advancer = lit≤ tt

pub few_event_words : (e : Event) (run : Run) → IsNamed e → IsRunBeside e run → length (event_words e run) ≤ MOST_WORDS
few_event_words (events.Look unit) run h beside = lit≤ tt
few_event_words (events.Tell unit epoch) run h beside = lit≤ tt
few_event_words (events.Confirm unit) run h beside = lit≤ tt
few_event_words (events.Store unit slot field value) run h beside = lit≤ tt
few_event_words (events.Leave unit caller op reply) run h beside = omega (arith, few_answer op reply run h.2 h.3 beside)
few_event_words (events.Read unit caller op reply) run h beside = omega (arith, few_answer op reply run h.2 h.3 beside)
few_event_words (events.Withdraw unit) run h beside = lit≤ tt
few_event_words (events.Freeze unit caller) run h beside = lit≤ tt
few_event_words (events.LoadDurable part) run h beside = omega (arith, part_few part)
few_event_words (events.CloseLabel unit slot) run h beside = lit≤ tt
few_event_words (events.PersistClose unit) run h beside = lit≤ tt
few_event_words events.Check run h beside = lit≤ tt
few_event_words events.LoadWord run h beside = lit≤ tt
few_event_words events.PersistWord run h beside = lit≤ tt
few_event_words events.SetClock run h beside = lit≤ tt
few_event_words events.PersistClock run h beside = lit≤ tt
few_event_words (events.Split part) run h beside = absurd h
few_event_words (events.Join part note) run h beside = absurd h
few_event_words (events.Exchange part) run h beside = absurd h

-- ---- one event and one run
same_name : (e f : Event) (a b : Run) → IsNamed e → IsNamed f → event_words e a ≡ event_words f b → name_of e ≡ name_of f
same_name e f a b h i same = step_once (name_of e) (name_of f)
    (first_words (step_word (name_of e)) (step_word (name_of f)) (args_of e a) (args_of f b)
    (sym (event_spelled e a h) ∙ same ∙ event_spelled f b i)).0

same_args : (e f : Event) (a b : Run) → IsNamed e → IsNamed f → event_words e a ≡ event_words f b → args_of e a ≡ args_of f b
same_args e f a b h i same =
    (first_words (step_word (name_of e)) (step_word (name_of f)) (args_of e a) (args_of f b)
    (sym (event_spelled e a h) ∙ same ∙ event_spelled f b i)).1

part_once : (p q : Part) → IsPartName p → IsPartName q → part_words p ≡ part_words q → p ≡ q
part_once (parts.Unit u) (parts.Unit v) h i e = let n : u ≡ v = decimal_injective u v h i (let d : decimal u ≡ decimal v = cc in d) in cc
part_once (parts.Caller u) (parts.Caller v) h i e = let n : u ≡ v =
    decimal_injective u v h i (let d : decimal u ≡ decimal v = cc in d) in cc
part_once (parts.Unit u) (parts.Caller v) h i e = let w : codes "unit" ≡ codes "caller" = cc in absurd (omega (arith, ap length w))
part_once (parts.Caller u) (parts.Unit v) h i e = let w : codes "caller" ≡ codes "unit" = cc in absurd (omega (arith, ap length w))
part_once parts.Advancer q h i e = absurd h
part_once (parts.Unit u) parts.Advancer h i e = absurd i
part_once (parts.Caller u) parts.Advancer h i e = absurd i

pub event_once : (e f : Event) (a b : Run) → IsNamed e → IsNamed f → IsRunBeside e a → IsRunBeside f b
    → event_words e a ≡ event_words f b → (e ≡ f) × (a ≡ b)
event_once (events.Look unit) (events.Look v) a b h i of too e =
    let args : decimal unit ∷ [] ≡ decimal v ∷ [] = same_args (events.Look unit) (events.Look v) a b h i e in
    let n0 : unit ≡ v = decimal_injective unit v h i (let d : decimal unit ≡ decimal v = cc in d) in
    (cc, of ∙ sym too)
event_once (events.Look unit) f a b h i of too e =
    let n : names.Look ≡ name_of f = same_name (events.Look unit) f a b h i e in absurd (cc)
event_once (events.Tell unit epoch) (events.Tell v x) a b h i of too e =
    let args : decimal unit ∷ decimal epoch ∷ [] ≡ decimal v ∷ decimal x ∷ [] =
    same_args (events.Tell unit epoch) (events.Tell v x) a b h i e in
    let n0 : unit ≡ v = decimal_injective unit v h.0 i.0 (let d : decimal unit ≡ decimal v = cc in d) in
    let n1 : epoch ≡ x = decimal_injective epoch x h.1 i.1 (let d : decimal epoch ≡ decimal x = cc in d) in
    (cc, of ∙ sym too)
event_once (events.Tell unit epoch) f a b h i of too e =
    let n : names.Tell ≡ name_of f = same_name (events.Tell unit epoch) f a b h i e in absurd (cc)
event_once (events.Confirm unit) (events.Confirm v) a b h i of too e =
    let args : decimal unit ∷ [] ≡ decimal v ∷ [] = same_args (events.Confirm unit) (events.Confirm v) a b h i e in
    let n0 : unit ≡ v = decimal_injective unit v h i (let d : decimal unit ≡ decimal v = cc in d) in
    (cc, of ∙ sym too)
event_once (events.Confirm unit) f a b h i of too e =
    let n : names.Confirm ≡ name_of f = same_name (events.Confirm unit) f a b h i e in absurd (cc)
event_once (events.Store unit slot field value) (events.Store v t g w) a b h i of too e =
    let args : decimal unit ∷ decimal slot ∷ decimal field ∷ decimal value ∷ [] ≡ decimal v ∷ decimal t ∷ decimal g ∷ decimal w ∷ [] =
    same_args (events.Store unit slot field value) (events.Store v t g w) a b h i e in
    let n0 : unit ≡ v = decimal_injective unit v h.0 i.0 (let d : decimal unit ≡ decimal v = cc in d) in
    let n1 : slot ≡ t = decimal_injective slot t h.1 i.1 (let d : decimal slot ≡ decimal t = cc in d) in
    let n2 : field ≡ g = decimal_injective field g h.2 i.2 (let d : decimal field ≡ decimal g = cc in d) in
    let n3 : value ≡ w = decimal_injective value w h.3 i.3 (let d : decimal value ≡ decimal w = cc in d) in
    (cc, of ∙ sym too)
event_once (events.Store unit slot field value) f a b h i of too e =
    let n : names.Store ≡ name_of f = same_name (events.Store unit slot field value) f a b h i e in absurd (cc)
event_once (events.Leave unit caller op reply) (events.Leave v j p s) a b h i of too e =
    let args = same_args (events.Leave unit caller op reply) (events.Leave v j p s) a b h i e in
    let one = first_words (decimal unit) (decimal v) (decimal caller ∷ answer_words op reply a) (decimal j ∷ answer_words p s b) args in
    let two = first_words (decimal caller) (decimal j) (answer_words op reply a) (answer_words p s b) one.1 in
    let n : unit ≡ v = decimal_injective unit v h.0 i.0 one.0 in
    let m : caller ≡ j = decimal_injective caller j h.1 i.1 two.0 in
    let told = answer_once op p reply s a b h.2 i.2 h.3 i.3 of too two.1 in
    let o : op ≡ p = told.0 in
    let r : reply ≡ s = told.1 in
    (cc, told.2)
event_once (events.Leave unit caller op reply) f a b h i of too e =
    let n : names.Leave ≡ name_of f = same_name (events.Leave unit caller op reply) f a b h i e in absurd (cc)
event_once (events.Read unit caller op reply) (events.Read v j p s) a b h i of too e =
    let args = same_args (events.Read unit caller op reply) (events.Read v j p s) a b h i e in
    let one = first_words (decimal unit) (decimal v) (decimal caller ∷ answer_words op reply a) (decimal j ∷ answer_words p s b) args in
    let two = first_words (decimal caller) (decimal j) (answer_words op reply a) (answer_words p s b) one.1 in
    let n : unit ≡ v = decimal_injective unit v h.0 i.0 one.0 in
    let m : caller ≡ j = decimal_injective caller j h.1 i.1 two.0 in
    let told = answer_once op p reply s a b h.2 i.2 h.3 i.3 of too two.1 in
    let o : op ≡ p = told.0 in
    let r : reply ≡ s = told.1 in
    (cc, told.2)
event_once (events.Read unit caller op reply) f a b h i of too e =
    let n : names.Read ≡ name_of f = same_name (events.Read unit caller op reply) f a b h i e in absurd (cc)
event_once (events.Withdraw unit) (events.Withdraw v) a b h i of too e =
    let args : decimal unit ∷ [] ≡ decimal v ∷ [] = same_args (events.Withdraw unit) (events.Withdraw v) a b h i e in
    let n0 : unit ≡ v = decimal_injective unit v h i (let d : decimal unit ≡ decimal v = cc in d) in
    (cc, of ∙ sym too)
event_once (events.Withdraw unit) f a b h i of too e =
    let n : names.Withdraw ≡ name_of f = same_name (events.Withdraw unit) f a b h i e in absurd (cc)
event_once (events.Freeze unit caller) (events.Freeze v j) a b h i of too e =
    let args : decimal unit ∷ decimal caller ∷ [] ≡ decimal v ∷ decimal j ∷ [] =
    same_args (events.Freeze unit caller) (events.Freeze v j) a b h i e in
    let n0 : unit ≡ v = decimal_injective unit v h.0 i.0 (let d : decimal unit ≡ decimal v = cc in d) in
    let n1 : caller ≡ j = decimal_injective caller j h.1 i.1 (let d : decimal caller ≡ decimal j = cc in d) in
    (cc, of ∙ sym too)
event_once (events.Freeze unit caller) f a b h i of too e =
    let n : names.Freeze ≡ name_of f = same_name (events.Freeze unit caller) f a b h i e in absurd (cc)
event_once (events.LoadDurable part) (events.LoadDurable q) a b h i of too e =
    let same : part ≡ q = part_once part q h i (same_args (events.LoadDurable part) (events.LoadDurable q) a b h i e) in
    (cc, of ∙ sym too)
event_once (events.LoadDurable part) f a b h i of too e =
    let n : names.Durable ≡ name_of f = same_name (events.LoadDurable part) f a b h i e in absurd (cc)
event_once (events.CloseLabel unit slot) (events.CloseLabel v t) a b h i of too e =
    let args : decimal unit ∷ decimal slot ∷ [] ≡ decimal v ∷ decimal t ∷ [] =
    same_args (events.CloseLabel unit slot) (events.CloseLabel v t) a b h i e in
    let n0 : unit ≡ v = decimal_injective unit v h.0 i.0 (let d : decimal unit ≡ decimal v = cc in d) in
    let n1 : slot ≡ t = decimal_injective slot t h.1 i.1 (let d : decimal slot ≡ decimal t = cc in d) in
    (cc, of ∙ sym too)
event_once (events.CloseLabel unit slot) f a b h i of too e =
    let n : names.Close ≡ name_of f = same_name (events.CloseLabel unit slot) f a b h i e in absurd (cc)
event_once (events.PersistClose unit) (events.PersistClose v) a b h i of too e =
    let args : decimal unit ∷ [] ≡ decimal v ∷ [] = same_args (events.PersistClose unit) (events.PersistClose v) a b h i e in
    let n0 : unit ≡ v = decimal_injective unit v h i (let d : decimal unit ≡ decimal v = cc in d) in
    (cc, of ∙ sym too)
event_once (events.PersistClose unit) f a b h i of too e =
    let n : names.PersistClose ≡ name_of f = same_name (events.PersistClose unit) f a b h i e in absurd (cc)
event_once events.Check events.Check a b h i of too e =
    (refl, of ∙ sym too)
event_once events.Check (events.Split part) a b h i of too e = absurd i
event_once events.Check (events.Join part note) a b h i of too e = absurd i
event_once events.Check (events.Exchange part) a b h i of too e = absurd i
event_once events.Check f a b h i of too e =
    let n : names.Check ≡ name_of f = same_name events.Check f a b h i e in absurd (cc)
event_once events.LoadWord events.LoadWord a b h i of too e =
    (refl, of ∙ sym too)
event_once events.LoadWord f a b h i of too e =
    let n : names.LoadWord ≡ name_of f = same_name events.LoadWord f a b h i e in absurd (cc)
event_once events.PersistWord events.PersistWord a b h i of too e =
    (refl, of ∙ sym too)
event_once events.PersistWord f a b h i of too e =
    let n : names.PersistWord ≡ name_of f = same_name events.PersistWord f a b h i e in absurd (cc)
event_once events.SetClock events.SetClock a b h i of too e =
    (refl, of ∙ sym too)
event_once events.SetClock f a b h i of too e =
    let n : names.SetClock ≡ name_of f = same_name events.SetClock f a b h i e in absurd (cc)
event_once events.PersistClock events.PersistClock a b h i of too e =
    (refl, of ∙ sym too)
event_once events.PersistClock f a b h i of too e =
    let n : names.PersistClock ≡ name_of f = same_name events.PersistClock f a b h i e in absurd (cc)
event_once (events.Split part) f a b h i of too e = absurd h
event_once (events.Join part note) f a b h i of too e = absurd h
event_once (events.Exchange part) f a b h i of too e = absurd h

-- the words of a line that spells this
pub words_are : (line : List ℕ) (e : Event) (run : Run) → IsNamed e → IsRunBeside e run → line ≡ spaced (event_words e run)
    → words_of line ≡ event_words e run
words_are line e run h beside same =
    let own = event_spelled e run h in
    words_from_line line (step_word (name_of e)) (args_of e run)
    (words_lack 32 (omega arith) (step_word (name_of e) ∷ args_of e run) (subst (All IsWord) own (event_seen e run h beside)))
    (same ∙ ap spaced own)
    ∙ sym own
