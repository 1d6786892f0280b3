-- How an operation and its reply are spelled, and the lines of entries.
use Rattle.std.proofs.Common.{◌≡◌, ◌≢◌, ℕ, ◌+◌, ◌-◌, ◌*◌, ◌^◌, ◌≤◌, ◌<◌, Bool, true, false, not, Bor, List, [], ◌∷◌, ◌++◌, length, map, take, drop, get_or, decimal, codes, refl, sym, ap, ◌∙◌, subst, arith, lit≤, lit<}
use Rattle.std.specs.List.{All}
use Rattle.std.proofs.lemmas.List.{map-append, length-append, length-map, length-take-le, length-drop, take-append-drop, take_all}
use Rattle.std.proofs.lemmas.List.Elements.{All-cons, All-head, All-tail}
use Rattle.std.proofs.lemmas.Fmt.{decimal_injective}
use Rattle.mont_base.specs.declared.operation.Op.{Op}
use Rattle.mont_base.specs.declared.operation.Op.TheVariants as ops
use Rattle.mont_base.specs.declared.operation.Reply.{Reply}
use Rattle.mont_base.specs.declared.operation.Reply.TheVariants as replies
use Rattle.mont_base.specs.State.{Run}
use Rattle.job_text.specs.declared.op_name.OpName.{OpName}
use Rattle.job_text.specs.Spelling.{op_words, reply_words, run_words, text_word}
use Rattle.job_text.specs.Operations.{IsOp, IsNumber, name_word, args_count}
use Rattle.job_text.specs.ReportText.{entry_words, answer_words}
use Rattle.job_text.specs.ReportRanges.{IsReply, IsRunOf, IsSpelled, is_of_key}
use Rattle.job_text.specs.TextParts.{Row}
use Rattle.job_text.proofs.TextWords.{text_word_once}
use Rattle.job_text.proofs.OpSpelling.{name_of, args_of, op_spelled, name_once, first_words, args_counted}
use Rattle.job_text.proofs.SeenWords.{few_op_words}
use Rattle.job_text.proofs.Once.{op_once}
use Rattle.job_text.proofs.Counted.{three_numbers}
use Rattle.job_text.proofs.ReadLines.{IsLinePart}
use Rattle.job_text.proofs.RunWords.{AllPairs, run_words_long, run_once}

-- ---- lists with others after them
pub same_front : {X : Type 0} (xs ys us vs : List X) → length xs ≡ length ys → xs ++ us ≡ ys ++ vs → (xs ≡ ys) × (us ≡ vs)
same_front [] [] us vs long e = (refl, e)
same_front [] (y ∷ ys) us vs long e = absurd (omega (arith, long))
same_front (x ∷ xs) [] us vs long e = absurd (omega (arith, long))
same_front (x ∷ xs) (y ∷ ys) us vs long e =
    let first : x ≡ y = cc in
    let rest : xs ++ us ≡ ys ++ vs = cc in
    let more = same_front xs ys us vs (omega (arith, long)) rest in
    ((let same : xs ≡ ys = more.0 in cc), more.1)

abbrev pub Nows : List (Bor (List ℕ)) → Row
Nows ws = map (λ word. word.now) ws

-- ---- entries
few_reply_words : (r : Reply) → length (reply_words r) ≤ 2
few_reply_words replies.Nothing = lit≤ tt
few_reply_words (replies.Was v) = lit≤ tt
few_reply_words (replies.WasText v) = lit≤ tt
few_reply_words (replies.Count n) = lit≤ tt
few_reply_words replies.NoEnds = lit≤ tt
few_reply_words (replies.Key k) = lit≤ tt
few_reply_words (replies.Pairs n) = lit≤ tt

few_run_words : (k : Bool) (r : Reply) (run : Run) → IsReply k r → IsRunOf r run → length (run_words run) ≤ 32
few_run_words k replies.Nothing run is of = omega (arith, ap (λ (t : Run). length (run_words t)) of)
few_run_words k (replies.Was v) run is of = omega (arith, ap (λ (t : Run). length (run_words t)) of)
few_run_words k (replies.WasText v) run is of = omega (arith, ap (λ (t : Run). length (run_words t)) of)
few_run_words k (replies.Count n) run is of = omega (arith, ap (λ (t : Run). length (run_words t)) of)
few_run_words k replies.NoEnds run is of = omega (arith, ap (λ (t : Run). length (run_words t)) of)
few_run_words k (replies.Key key) run is of = omega (arith, ap (λ (t : Run). length (run_words t)) of)
few_run_words true (replies.Pairs n) run is of = omega (arith, run_words_long run, of.1, is)
few_run_words false (replies.Pairs n) run is of = omega (arith, run_words_long run, of.1, is)

-- the first word of a reply as one number
reply_mark : Row → ℕ
reply_mark ws = length (get_or ws 0 []) * 1000 + get_or (get_or ws 0 []) 0 0

pub reply_once : (k : Bool) (r s : Reply) (a b : Run) → IsReply k r → IsReply k s → IsRunOf r a → IsRunOf s b
    → reply_words r ++ run_words a ≡ reply_words s ++ run_words b → (r ≡ s) × (a ≡ b)
unfolding reply_mark
reply_once k replies.Nothing replies.Nothing a b is are of too e = (refl, of ∙ sym too)
reply_once true (replies.Was v) (replies.Was w) a b is are of too e = absurd is
reply_once false (replies.Was v) (replies.Was w) a b is are of too e =
    let same = decimal_injective v w is are (let d : decimal v ≡ decimal w = cc in d) in (cc, of ∙ sym too)
reply_once true (replies.WasText v) (replies.WasText w) a b is are of too e =
    let same = text_word_once v w is are (let d : text_word v ≡ text_word w = cc in d) in (cc, of ∙ sym too)
reply_once false (replies.WasText v) (replies.WasText w) a b is are of too e = absurd is
reply_once true (replies.Was v) (replies.WasText w) a b is are of too e = absurd is
reply_once false (replies.Was v) (replies.WasText w) a b is are of too e = absurd are
reply_once true (replies.WasText v) (replies.Was w) a b is are of too e = absurd are
reply_once false (replies.WasText v) (replies.Was w) a b is are of too e = absurd is
reply_once k (replies.Count v) (replies.Count w) a b is are of too e =
    let same = decimal_injective v w is are (let d : decimal v ≡ decimal w = cc in d) in (cc, of ∙ sym too)
reply_once k replies.NoEnds replies.NoEnds a b is are of too e = (refl, of ∙ sym too)
reply_once k (replies.Key v) (replies.Key w) a b is are of too e =
    let same = text_word_once v w is are (let d : text_word v ≡ text_word w = cc in d) in (cc, of ∙ sym too)
reply_once k (replies.Pairs v) (replies.Pairs w) a b is are of too e =
    let same = decimal_injective v w (omega (arith, is)) (omega (arith, are)) (let d : decimal v ≡ decimal w = cc in d) in
    (cc, run_once 0 0 a b of.0 too.0 (let d : run_words a ≡ run_words b = cc in d))
reply_once k _ _ a b is are of too e = absurd (omega (arith, ap reply_mark e))

-- words that begin as those of pairs are those of pairs
pub pairs_told : (k : Bool) (r : Reply) (run : Run) (number : ℕ) (other : Run) → IsReply k r → IsRunOf r run → IsNumber number
    → AllPairs 0 other → codes "pairs" ∷ decimal number ∷ run_words other ≡ reply_words r ++ run_words run → length other ≡ number
unfolding reply_mark
pairs_told k (replies.Pairs n) run number other is of small all e =
    let same = decimal_injective number n small (omega (arith, is)) (let d : decimal number ≡ decimal n = cc in d) in
    ap length (run_once 0 0 other run all of.0 (let d : run_words other ≡ run_words run = cc in d)) ∙ of.1 ∙ sym same
pairs_told k _ run number other is of small all e = absurd (omega (arith, ap reply_mark e))

-- ---- an operation and its reply are told by their words
-- as many words as its first word tells
pub op_counted : (o : Op) (n : OpName) (word : List ℕ) (rest more : Row) → word ∷ rest ≡ op_words o ++ more → word ≡ name_word n
    → length (op_words o) ≡ 1 + args_count n
op_counted o n word rest more e is =
    let parts = first_words word (name_word (name_of o)) rest (args_of o ++ more)
    (e ∙ ap (λ (ws : Row). ws ++ more) (op_spelled o)) in
    args_counted o ∙ ap (λ (m : OpName). 1 + args_count m) (name_once (name_of o) n (sym parts.0 ∙ is))

same_count : (o p : Op) (us vs : Row) → op_words o ++ us ≡ op_words p ++ vs → length (op_words o) ≡ length (op_words p)
same_count o p us vs e =
    op_counted o (name_of p) (name_word (name_of o)) (args_of o ++ us) us (sym (ap (λ (ws : Row). ws ++ us) (op_spelled o)))
    (first_words (name_word (name_of o)) (name_word (name_of p)) (args_of o ++ us) (args_of p ++ vs)
    (sym (ap (λ (ws : Row). ws ++ us) (op_spelled o)) ∙ e ∙ ap (λ (ws : Row). ws ++ vs) (op_spelled p))).0
    ∙ sym (args_counted p)

pub answer_once : (o p : Op) (r s : Reply) (a b : Run) → IsOp o → IsOp p → IsReply (is_of_key o) r → IsReply (is_of_key p) s
    → IsRunOf r a → IsRunOf s b → answer_words o r a ≡ answer_words p s b → (o ≡ p) × (r ≡ s) × (a ≡ b)
answer_once o p r s a b is are fits suits of too e =
    let mine = codes "=" ∷ (reply_words r ++ run_words a) in
    let theirs = codes "=" ∷ (reply_words s ++ run_words b) in
    let parts = same_front (op_words o) (op_words p) mine theirs (same_count o p mine theirs e) e in
    let same = op_once o p is are parts.0 in
    let behind = first_words (codes "=") (codes "=") (reply_words r ++ run_words a) (reply_words s ++ run_words b) parts.1 in
    let reply = reply_once (is_of_key p) r s a b (subst (λ (q : Op). IsReply (is_of_key q) r) same fits) suits of too behind.1 in
    (same, reply.0, reply.1)

pub entry_part : (callers place : ℕ) → (1 ≤ callers) × (callers < 2 ^ 64) → IsLinePart (IsSpelled callers) (entry_words place)
entry_part callers place some = record {
  value = (record { caller = 0; call = 0; op = ops.Len 0; reply = replies.Nothing; epoch = 0 }, []);
  is = (
    record { caller = (let one = some.0 in omega arith); call = lit< tt; op = lit< tt; reply = tt; epoch = lit< tt },
    refl,
  );
  short = λ p is.
      omega (
        arith,
        few_op_words p.0.op,
        few_reply_words p.0.reply,
        few_run_words (is_of_key p.0.op) p.0.reply p.1 is.0.reply is.1,
        length-append (op_words p.0.op) (codes "=" ∷ (reply_words p.0.reply ++ run_words p.1)),
        length-append (reply_words p.0.reply) (run_words p.1),
      );
  once = λ p q is are words.
      let d = p.0 in
      let e = q.0 in
      let caller : d.caller ≡ e.caller = decimal_injective d.caller e.caller
      (let low = is.0.caller in let few = some.1 in omega arith) (let low = are.0.caller in let few = some.1 in omega arith)
      (let w : decimal d.caller ≡ decimal e.caller = cc in w) in
      let call : d.call ≡ e.call = decimal_injective d.call e.call is.0.call are.0.call (let w : decimal d.call
      ≡ decimal e.call = cc in w) in
      let epoch : d.epoch ≡ e.epoch = decimal_injective d.epoch e.epoch is.0.epoch are.0.epoch (let w : decimal d.epoch
      ≡ decimal e.epoch = cc in w) in
      let answer = answer_once d.op e.op d.reply e.reply p.1 q.1 is.0.op are.0.op is.0.reply are.0.reply is.1 are.1
      (let w : answer_words d.op d.reply p.1 ≡ answer_words e.op e.reply q.1 = cc in w) in
      λ i. (
        record { caller = caller i; call = call i; op = answer.0 i; reply = answer.1 i; epoch = epoch i },
        answer.2 i,
      );
}

-- ---- tests of words
pub differ_if : {A : Type 0} (x y : A) (p b : Bool) → ((p ≡ true → x ≡ y) × (x ≡ y → p ≡ true)) → b ≡ not p → b ≡ true → x ≢ y
differ_if x y p b tells is holds same = let both = tells.1 same in absurd (cc)

pub agree_if : {A : Type 0} (x y : A) (p b : Bool) → ((p ≡ true → x ≡ y) × (x ≡ y → p ≡ true)) → b ≡ not p → b ≡ false → x ≡ y
agree_if x y true b tells is fails = tells.0 refl
agree_if x y false b tells is fails = absurd (cc)

-- ---- the four numbers of an entry and what stands after them
pub entry_parts : (ws : List (Bor (List ℕ))) (a b d f : List ℕ) (rest : Row) → Nows ws ≡ a ∷ b ∷ d ∷ f ∷ rest
    → (Nows (take 4 ws) ≡ a ∷ b ∷ d ∷ f ∷ []) × (Nows (take (length ws - 4) (drop 4 ws)) ≡ rest)
entry_parts [] a b d f rest e = absurd (cc)
entry_parts (w ∷ []) a b d f rest e = absurd (cc)
entry_parts (w ∷ x ∷ []) a b d f rest e = absurd (cc)
entry_parts (w ∷ x ∷ y ∷ []) a b d f rest e = absurd (cc)
entry_parts (w ∷ x ∷ y ∷ z ∷ ws) a b d f rest e =
    let one : w.now ≡ a = cc in
    let two : x.now ≡ b = cc in
    let three : y.now ≡ d = cc in
    let four : z.now ≡ f = cc in
    let more : Nows ws ≡ rest = cc in
    (cc, ap Nows (take_all (length (w ∷ x ∷ y ∷ z ∷ ws) - 4) ws (omega arith)) ∙ more)

pub four_numbers : (a b d f : ℕ) → IsNumber a → IsNumber b → IsNumber d → IsNumber f → All IsNumber (a ∷ b ∷ d ∷ f ∷ [])
four_numbers a b d f one two three four = All-cons IsNumber a (b ∷ d ∷ f ∷ []) one (three_numbers b d f two three four)

pub leading_numbers : (ns : List ℕ) (a b d f : ℕ) (x y : ℕ) → All IsNumber ns
    → map decimal ns ≡ decimal a ∷ decimal b ∷ decimal d ∷ decimal f ∷ []
    → IsNumber a → IsNumber b → (get_or ns 0 x ≡ a) × (get_or ns 1 y ≡ b)
leading_numbers [] a b d f x y all e one two = absurd (cc)
leading_numbers (m ∷ []) a b d f x y all e one two = absurd (cc)
leading_numbers (m ∷ n ∷ ns) a b d f x y all e one two = (
  decimal_injective m a (All-head IsNumber m (n ∷ ns) all) one (let same : decimal m ≡ decimal a = cc in same),
  decimal_injective n b (All-head IsNumber n ns (All-tail IsNumber m (n ∷ ns) all)) two (let same : decimal n ≡ decimal b = cc in same),
)

-- ---- the words of an entry after its numbers
-- the first words, as many as these, and those after them
pub parted : (ws : List (Bor (List ℕ))) (n : ℕ) (xs ys : Row) → Nows ws ≡ xs ++ ys → length xs ≡ n
    → (Nows (take n ws) ≡ xs) × (Nows (take (length ws - n) (drop n ws)) ≡ ys)
parted ws n xs ys e long =
    let whole = ap length e in
    let low : n ≤ length ws = omega (arith, whole, long, length-map ws (λ word. word.now), length-append xs ys) in
    let both : Nows (take n ws) ++ Nows (drop n ws) ≡ xs ++ ys =
    sym (map-append (λ word. word.now) (take n ws) (drop n ws)) ∙ ap Nows (take-append-drop n ws) ∙ e in
    let parts = same_front (Nows (take n ws)) xs (Nows (drop n ws)) ys
    (length-map (take n ws) (λ word. word.now) ∙ length-take-le n ws low ∙ sym long) both in
    (parts.0, ap Nows (all_behind ws n low) ∙ parts.1)
  where
    all_behind : (ws : List (Bor (List ℕ))) (n : ℕ) → n ≤ length ws → take (length ws - n) (drop n ws) ≡ drop n ws
    all_behind ws n low = take_all (length ws - n) (drop n ws) (omega (arith, length-drop n ws))

pub joined_words : (ws : List (Bor (List ℕ))) (n : ℕ) (xs ys : Row) → n ≤ length ws → Nows (take n ws) ≡ xs
    → Nows (take (length ws - n) (drop n ws)) ≡ ys → Nows ws ≡ xs ++ ys
joined_words ws n xs ys low first second =
    sym (ap Nows (take-append-drop n ws)) ∙ map-append (λ word. word.now) (take n ws) (drop n ws)
    ∙ (λ i. first i ++ (ap Nows (sym (take_all (length ws - n) (drop n ws) (omega (arith, length-drop n ws)))) ∙ second) i)

-- whose first word is this, and names an operation
module _ (ws : List (Bor (List ℕ))) (word : Bor (List ℕ)) (behind : List (Bor (List ℕ))) (first : ws ≡ word ∷ behind) where
  pub no_name_here : ((n : OpName) → word.now ≢ name_word n) → (o : Op) (more : Row) → Nows ws ≢ op_words o ++ more
  no_name_here none o more e =
      none (name_of o)
      (first_words word.now (name_word (name_of o)) (Nows behind) (args_of o ++ more)
      (ap Nows (sym first) ∙ e ∙ ap (λ (t : Row). t ++ more) (op_spelled o))).0

  pub counted_here : (n : OpName) (o : Op) (more : Row) → word.now ≡ name_word n → Nows ws ≡ op_words o ++ more
      → length (op_words o) ≡ 1 + args_count n
  counted_here n o more is e = op_counted o n word.now (Nows behind) more (ap Nows (sym first) ∙ e) is
