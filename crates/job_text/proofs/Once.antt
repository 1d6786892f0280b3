-- Each line of a job spells one thing.
use Rattle.std.proofs.Common.{◌≡◌, ℕ, suc, zero, ◌*◌, ◌/◌, ◌%◌, ◌^◌, ◌<◌, ◌≤◌, ◌==◌, true, false, List, [], ◌∷◌, ◌++◌, length, get_or, All, codes, decimal, sym, ap, ◌∙◌, refl, arith}
use Rattle.std.proofs.lemmas.List.{length-append, append_cancel_left}
use Rattle.std.proofs.lemmas.Fmt.{decimal_injective}
use Rattle.std.proofs.Math.Nat.{pow-succ', pow-le-pow_right}
use Rattle.mont_base.specs.declared.kinds.UnitKind.{UnitKind}
use Rattle.mont_base.specs.declared.operation.Op.{Op}
use Rattle.mont_base.specs.declared.operation.Op.TheVariants as ops
use Rattle.mont_base.specs.Layout.{shape, letter_of, letters_of}
use Rattle.mont_base.proofs.KindTable.{same_letter}
use Rattle.job_text.specs.declared.op_name.OpName.TheVariants as names
use Rattle.job_text.specs.declared.header.Head.{Head}
use Rattle.job_text.specs.declared.job.Line.{Line}
use Rattle.job_text.specs.declared.job.Stop.{Stop}
use Rattle.job_text.specs.declared.job.Deed.{Deed}
use Rattle.job_text.specs.declared.job.Deed.TheVariants.{Call, Tick, Sync}
use Rattle.job_text.specs.Lines.{spaced}
use Rattle.job_text.specs.LineWords.{words_of}
use Rattle.job_text.specs.Spelling.{text_word, hex_digit, hex_digits, op_words}
use Rattle.job_text.specs.Operations.{IsOp, IsNumber, name_word}
use Rattle.job_text.specs.Grammar.{IsHead, IsAsked}
use Rattle.job_text.specs.JobText.{head_words, head_tail, stop_words, line_words, deed_words}
use Rattle.job_text.proofs.TextWords.{text_word_once, digit_once}
use Rattle.job_text.proofs.OpSpelling.{name_of, args_of, op_spelled, name_once, first_words}
use Rattle.job_text.proofs.SeenWords.{IsWord, words_lack, line_seen, stop_seen, head_tail_seen}
use Rattle.job_text.proofs.LineWords.{words_spaced}

-- words that can be seen are told by the line that they make
pub words_once : (w v : List ℕ) (ws vs : List (List ℕ)) → All IsWord (w ∷ ws) → All IsWord (v ∷ vs) → spaced (w ∷ ws) ≡ spaced (v ∷ vs)
    → w ∷ ws ≡ v ∷ vs
words_once w v ws vs h i same =
    sym (words_spaced w ws (words_lack 32 (omega arith) (w ∷ ws) h)) ∙ ap words_of same
    ∙ words_spaced v vs (words_lack 32 (omega arith) (v ∷ vs) i)

-- ---- operations
same_name : (o p : Op) → op_words o ≡ op_words p → name_of o ≡ name_of p
same_name o p e = name_once (name_of o) (name_of p)
    (first_words (name_word (name_of o)) (name_word (name_of p)) (args_of o) (args_of p) (sym (op_spelled o) ∙ e ∙ op_spelled p)).0

same_args : (o p : Op) → op_words o ≡ op_words p → args_of o ≡ args_of p
same_args o p e =
    (first_words (name_word (name_of o)) (name_word (name_of p)) (args_of o) (args_of p) (sym (op_spelled o) ∙ e ∙ op_spelled p)).1

pub op_once : (o p : Op) → IsOp o → IsOp p → op_words o ≡ op_words p → o ≡ p
op_once (ops.Put k v) (ops.Put m n) h i e =
    let args : text_word k ∷ text_word v ∷ [] ≡ text_word m ∷ text_word n ∷ [] = same_args (ops.Put k v) (ops.Put m n) e in
    let key : k ≡ m = text_word_once k m h.0 i.0 (cc) in
    let value : v ≡ n = text_word_once v n h.1 i.1 (cc) in
    cc
op_once (ops.Put k v) p h i e = let n : names.Put ≡ name_of p = same_name (ops.Put k v) p e in absurd (cc)
op_once (ops.Get k) (ops.Get m) h i e =
    let args : text_word k ∷ [] ≡ text_word m ∷ [] = same_args (ops.Get k) (ops.Get m) e in
    let key : k ≡ m = text_word_once k m h i (cc) in
    cc
op_once (ops.Get k) p h i e = let n : names.Get ≡ name_of p = same_name (ops.Get k) p e in absurd (cc)
op_once (ops.Del k) (ops.Del m) h i e =
    let args : text_word k ∷ [] ≡ text_word m ∷ [] = same_args (ops.Del k) (ops.Del m) e in
    let key : k ≡ m = text_word_once k m h i (cc) in
    cc
op_once (ops.Del k) p h i e = let n : names.Del ≡ name_of p = same_name (ops.Del k) p e in absurd (cc)
op_once (ops.Enq a b) (ops.Enq c d) h i e =
    let args : decimal a ∷ decimal b ∷ [] ≡ decimal c ∷ decimal d ∷ [] = same_args (ops.Enq a b) (ops.Enq c d) e in
    let first : a ≡ c = decimal_injective a c h.0 i.0 (cc) in
    let second : b ≡ d = decimal_injective b d h.1 i.1 (cc) in
    cc
op_once (ops.Enq a b) p h i e = let n : names.Enq ≡ name_of p = same_name (ops.Enq a b) p e in absurd (cc)
op_once (ops.Deq a) (ops.Deq c) h i e =
    let args : decimal a ∷ [] ≡ decimal c ∷ [] = same_args (ops.Deq a) (ops.Deq c) e in
    let first : a ≡ c = decimal_injective a c h i (cc) in
    cc
op_once (ops.Deq a) p h i e = let n : names.Deq ≡ name_of p = same_name (ops.Deq a) p e in absurd (cc)
op_once (ops.Len a) (ops.Len c) h i e =
    let args : decimal a ∷ [] ≡ decimal c ∷ [] = same_args (ops.Len a) (ops.Len c) e in
    let first : a ≡ c = decimal_injective a c h i (cc) in
    cc
op_once (ops.Len a) p h i e = let n : names.Len ≡ name_of p = same_name (ops.Len a) p e in absurd (cc)
op_once (ops.AddV a b c) (ops.AddV x y z) h i e =
    let args : decimal a ∷ decimal b ∷ decimal c ∷ [] ≡ decimal x ∷ decimal y ∷ decimal z ∷ [] =
    same_args (ops.AddV a b c) (ops.AddV x y z) e in
    let first : a ≡ x = decimal_injective a x h.0 i.0 (cc) in
    let second : b ≡ y = decimal_injective b y h.1 i.1 (cc) in
    let third : c ≡ z = decimal_injective c z h.2 i.2 (cc) in
    cc
op_once (ops.AddV a b c) p h i e = let n : names.AddV ≡ name_of p = same_name (ops.AddV a b c) p e in absurd (cc)
op_once (ops.DelV a b) (ops.DelV c d) h i e =
    let args : decimal a ∷ decimal b ∷ [] ≡ decimal c ∷ decimal d ∷ [] = same_args (ops.DelV a b) (ops.DelV c d) e in
    let first : a ≡ c = decimal_injective a c h.0 i.0 (cc) in
    let second : b ≡ d = decimal_injective b d h.1 i.1 (cc) in
    cc
op_once (ops.DelV a b) p h i e = let n : names.DelV ≡ name_of p = same_name (ops.DelV a b) p e in absurd (cc)
op_once (ops.AddE a b c d) (ops.AddE w x y z) h i e =
    let args : decimal a ∷ decimal b ∷ decimal c ∷ decimal d ∷ [] ≡ decimal w ∷ decimal x ∷ decimal y ∷ decimal z ∷ [] =
    same_args (ops.AddE a b c d) (ops.AddE w x y z) e in
    let first : a ≡ w = decimal_injective a w h.0 i.0 (cc) in
    let second : b ≡ x = decimal_injective b x h.1 i.1 (cc) in
    let third : c ≡ y = decimal_injective c y h.2 i.2 (cc) in
    let fourth : d ≡ z = decimal_injective d z h.3 i.3 (cc) in
    cc
op_once (ops.AddE a b c d) p h i e = let n : names.AddE ≡ name_of p = same_name (ops.AddE a b c d) p e in absurd (cc)
op_once (ops.DelE a b c) (ops.DelE x y z) h i e =
    let args : decimal a ∷ decimal b ∷ decimal c ∷ [] ≡ decimal x ∷ decimal y ∷ decimal z ∷ [] =
    same_args (ops.DelE a b c) (ops.DelE x y z) e in
    let first : a ≡ x = decimal_injective a x h.0 i.0 (cc) in
    let second : b ≡ y = decimal_injective b y h.1 i.1 (cc) in
    let third : c ≡ z = decimal_injective c z h.2 i.2 (cc) in
    cc
op_once (ops.DelE a b c) p h i e = let n : names.DelE ≡ name_of p = same_name (ops.DelE a b c) p e in absurd (cc)
op_once (ops.Vertex a b) (ops.Vertex c d) h i e =
    let args : decimal a ∷ decimal b ∷ [] ≡ decimal c ∷ decimal d ∷ [] = same_args (ops.Vertex a b) (ops.Vertex c d) e in
    let first : a ≡ c = decimal_injective a c h.0 i.0 (cc) in
    let second : b ≡ d = decimal_injective b d h.1 i.1 (cc) in
    cc
op_once (ops.Vertex a b) p h i e = let n : names.Vertex ≡ name_of p = same_name (ops.Vertex a b) p e in absurd (cc)
op_once (ops.Degree a b) (ops.Degree c d) h i e =
    let args : decimal a ∷ decimal b ∷ [] ≡ decimal c ∷ decimal d ∷ [] = same_args (ops.Degree a b) (ops.Degree c d) e in
    let first : a ≡ c = decimal_injective a c h.0 i.0 (cc) in
    let second : b ≡ d = decimal_injective b d h.1 i.1 (cc) in
    cc
op_once (ops.Degree a b) p h i e = let n : names.Degree ≡ name_of p = same_name (ops.Degree a b) p e in absurd (cc)
op_once (ops.OPut a k v) (ops.OPut b m n) h i e =
    let args : decimal a ∷ text_word k ∷ text_word v ∷ [] ≡ decimal b ∷ text_word m ∷ text_word n ∷ [] =
    same_args (ops.OPut a k v) (ops.OPut b m n) e in
    let unit : a ≡ b = decimal_injective a b h.0 i.0 (cc) in
    let key : k ≡ m = text_word_once k m h.1 i.1 (cc) in
    let value : v ≡ n = text_word_once v n h.2 i.2 (cc) in
    cc
op_once (ops.OPut a k v) p h i e = let n : names.OPut ≡ name_of p = same_name (ops.OPut a k v) p e in absurd (cc)
op_once (ops.OGet a k) (ops.OGet b m) h i e =
    let args : decimal a ∷ text_word k ∷ [] ≡ decimal b ∷ text_word m ∷ [] = same_args (ops.OGet a k) (ops.OGet b m) e in
    let unit : a ≡ b = decimal_injective a b h.0 i.0 (cc) in
    let key : k ≡ m = text_word_once k m h.1 i.1 (cc) in
    cc
op_once (ops.OGet a k) p h i e = let n : names.OGet ≡ name_of p = same_name (ops.OGet a k) p e in absurd (cc)
op_once (ops.ODel a k) (ops.ODel b m) h i e =
    let args : decimal a ∷ text_word k ∷ [] ≡ decimal b ∷ text_word m ∷ [] = same_args (ops.ODel a k) (ops.ODel b m) e in
    let unit : a ≡ b = decimal_injective a b h.0 i.0 (cc) in
    let key : k ≡ m = text_word_once k m h.1 i.1 (cc) in
    cc
op_once (ops.ODel a k) p h i e = let n : names.ODel ≡ name_of p = same_name (ops.ODel a k) p e in absurd (cc)
op_once (ops.OFloor a k) (ops.OFloor b m) h i e =
    let args : decimal a ∷ text_word k ∷ [] ≡ decimal b ∷ text_word m ∷ [] = same_args (ops.OFloor a k) (ops.OFloor b m) e in
    let unit : a ≡ b = decimal_injective a b h.0 i.0 (cc) in
    let key : k ≡ m = text_word_once k m h.1 i.1 (cc) in
    cc
op_once (ops.OFloor a k) p h i e = let n : names.OFloor ≡ name_of p = same_name (ops.OFloor a k) p e in absurd (cc)
op_once (ops.ORank a k) (ops.ORank b m) h i e =
    let args : decimal a ∷ text_word k ∷ [] ≡ decimal b ∷ text_word m ∷ [] = same_args (ops.ORank a k) (ops.ORank b m) e in
    let unit : a ≡ b = decimal_injective a b h.0 i.0 (cc) in
    let key : k ≡ m = text_word_once k m h.1 i.1 (cc) in
    cc
op_once (ops.ORank a k) p h i e = let n : names.ORank ≡ name_of p = same_name (ops.ORank a k) p e in absurd (cc)
op_once (ops.ORange a k v x) (ops.ORange b m n y) h i e =
    let args : decimal a ∷ text_word k ∷ text_word v ∷ decimal x ∷ [] ≡ decimal b ∷ text_word m ∷ text_word n ∷ decimal y ∷ [] =
    same_args (ops.ORange a k v x) (ops.ORange b m n y) e in
    let unit : a ≡ b = decimal_injective a b h.0 i.0 (cc) in
    let from : k ≡ m = text_word_once k m h.1 i.1 (cc) in
    let to : v ≡ n = text_word_once v n h.2 i.2 (cc) in
    let few = h.4 in
    let less = i.4 in
    let most : x ≡ y = decimal_injective x y (omega arith) (omega arith) (cc) in
    cc
op_once (ops.ORange a k v x) p h i e = let n : names.ORange ≡ name_of p = same_name (ops.ORange a k v x) p e in absurd (cc)

-- ---- what lines ask
-- one word alone is no operation
pub no_single : (o : Op) (word : List ℕ) → op_words o ≡ word ∷ [] → ⊥
no_single (ops.Put k v) word e = cc
no_single (ops.Get k) word e = cc
no_single (ops.Del k) word e = cc
no_single (ops.Enq a b) word e = cc
no_single (ops.Deq a) word e = cc
no_single (ops.Len a) word e = cc
no_single (ops.AddV a b c) word e = cc
no_single (ops.DelV a b) word e = cc
no_single (ops.AddE a b c d) word e = cc
no_single (ops.DelE a b c) word e = cc
no_single (ops.Vertex a b) word e = cc
no_single (ops.Degree a b) word e = cc
no_single (ops.OPut a k v) word e = cc
no_single (ops.OGet a k) word e = cc
no_single (ops.ODel a k) word e = cc
no_single (ops.OFloor a k) word e = cc
no_single (ops.ORank a k) word e = cc
no_single (ops.ORange a k v n) word e = cc

tick_or_sync : codes "tick" ∷ [] ≡ codes "sync" ∷ [] → ⊥
tick_or_sync e =
    let first : true ≡ false = ap (λ (ws : List (List ℕ)). get_or (get_or ws 0 []) 0 0 == 116) e in
    absurd (cc)

pub deed_once : (d e : Deed) → IsAsked d → IsAsked e → deed_words d ≡ deed_words e → d ≡ e
deed_once (Call o) (Call p) h i same = ap Call (op_once o p h i same)
deed_once (Call o) Tick h i same = absurd (no_single o (codes "tick") same)
deed_once (Call o) Sync h i same = absurd (no_single o (codes "sync") same)
deed_once Tick (Call p) h i same = absurd (no_single p (codes "tick") (sym same))
deed_once Tick Tick h i same = refl
deed_once Tick Sync h i same = absurd (tick_or_sync same)
deed_once Sync (Call p) h i same = absurd (no_single p (codes "sync") (sym same))
deed_once Sync Tick h i same = absurd (tick_or_sync (sym same))
deed_once Sync Sync h i same = refl

pub line_once : (l m : Line) → IsNumber l.caller → IsNumber m.caller → IsAsked l.deed → IsAsked m.deed → spaced (line_words l)
    ≡ spaced (line_words m) → l ≡ m
line_once l m small other h i same =
    let words : decimal l.caller ∷ deed_words l.deed ≡ decimal m.caller ∷ deed_words m.deed =
    words_once (decimal l.caller) (decimal m.caller) (deed_words l.deed) (deed_words m.deed) (line_seen l small h)
    (line_seen m other i) same in
    let parts = first_words (decimal l.caller) (decimal m.caller) (deed_words l.deed) (deed_words m.deed) words in
    let caller : l.caller ≡ m.caller = decimal_injective l.caller m.caller small other parts.0 in
    let asked : l.deed ≡ m.deed = deed_once l.deed m.deed h i parts.1 in
    λ k. record { caller = caller k; deed = asked k }

pub stop_once : (s t : Stop) → IsNumber s.who → IsNumber s.steps → IsNumber t.who → IsNumber t.steps → spaced (stop_words s)
    ≡ spaced (stop_words t) → s ≡ t
stop_once s t a b c d same =
    let words : stop_words s ≡ stop_words t =
    words_once (codes "stop") (codes "stop") (decimal s.who ∷ decimal s.steps ∷ []) (decimal t.who ∷ decimal t.steps ∷ [])
    (stop_seen s a b) (stop_seen t c d) same in
    let who : s.who ≡ t.who = decimal_injective s.who t.who a c (cc) in
    let steps : s.steps ≡ t.steps = decimal_injective s.steps t.steps b d (cc) in
    λ k. record { who = who k; steps = steps k }

-- ---- headers
pub letters_once : (ks ls : List UnitKind) → letters_of ks ≡ letters_of ls → ks ≡ ls
letters_once [] [] e = refl
letters_once [] (l ∷ ls) e = absurd (cc)
letters_once (k ∷ ks) [] e = absurd (cc)
letters_once (k ∷ ks) (l ∷ ls) e =
    let letter : letter_of k ≡ letter_of l = cc in
    let kind : k ≡ l = same_letter k l letter in
    let rest : letters_of ks ≡ letters_of ls = cc in
    let more : ks ≡ ls = letters_once ks ls rest in
    cc

-- how many numbers so many digits spell
abbrev pub places : ℕ → ℕ
places zero = 1
places (suc count) = 16 * places count

places_pow : (count : ℕ) → places count ≡ 16 ^ count
places_pow zero = refl
places_pow (suc count) = ap (λ (n : ℕ). 16 * n) (places_pow count) ∙ sym (pow-succ' 16 count)

-- where one digit more is at most the last, all fit
pub places_room : (count : ℕ) → count < 16 → 16 * places count ≤ 2 ^ 64
places_room count few =
    let top : 16 ^ count ≤ 16 ^ 15 = pow-le-pow_right {n = 16} (omega arith) {i = count} {j = 15} (omega arith) in
    let most : 16 ^ count ≤ 1152921504606846976 = top in
    omega (arith, places_pow count)

pub last_parts : {X : Type 0} (xs ys : List X) (x y : X) → xs ++ x ∷ [] ≡ ys ++ y ∷ [] → (xs ≡ ys) × (x ≡ y)
last_parts [] [] x y e = (refl, cc)
last_parts [] (b ∷ bs) x y e = absurd (omega (arith, ap length e, length-append bs (y ∷ [])))
last_parts (a ∷ cs) [] x y e = absurd (omega (arith, ap length e, length-append cs (x ∷ [])))
last_parts (a ∷ cs) (b ∷ bs) x y e =
    let rest : cs ++ x ∷ [] ≡ bs ++ y ∷ [] = cc in
    let same : a ≡ b = cc in
    let more = last_parts cs bs x y rest in
    let front : cs ≡ bs = more.0 in
    (cc, more.1)

pub hex_once : (count m n : ℕ) → m < places count → n < places count → hex_digits count m ≡ hex_digits count n → m ≡ n
hex_once zero m n h i e = omega arith
hex_once (suc count) m n h i e =
    let parts = last_parts (hex_digits count (m / 16)) (hex_digits count (n / 16)) (hex_digit (m % 16)) (hex_digit (n % 16)) e in
    let high : m / 16 ≡ n / 16 = hex_once count (m / 16) (n / 16) (omega arith) (omega arith) parts.0 in
    let low : m % 16 ≡ n % 16 = digit_once (m % 16) (n % 16) (omega arith) (omega arith) parts.1 in
    omega arith

pub mask_once : (m n : ℕ) → IsNumber m → IsNumber n → hex_digits 16 m ≡ hex_digits 16 n → m ≡ n
mask_once m n h i e = hex_once 16 m n h i e

pub head_once : (h g : Head) → IsHead h → IsHead g → spaced (head_words h) ≡ spaced (head_words g) → h ≡ g
head_once h g is too same =
    let front : spaced (head_tail h) ≡ spaced (head_tail g) =
    append_cancel_left (codes "montage-job 3 ") (spaced (head_tail h)) (spaced (head_tail g)) same in
    let words : head_tail h ≡ head_tail g =
    words_once (letters_of h.layout.kinds) (letters_of g.layout.kinds)
    (decimal h.layout.slots ∷ decimal h.callers ∷ decimal h.attempts ∷ hex_digits 16 h.mask ∷ [])
    (decimal g.layout.slots ∷ decimal g.callers ∷ decimal g.attempts ∷ hex_digits 16 g.mask ∷ [])
    (head_tail_seen h is) (head_tail_seen g too) front in
    let kinds : h.layout.kinds ≡ g.layout.kinds = letters_once h.layout.kinds g.layout.kinds (cc) in
    let slots : h.layout.slots ≡ g.layout.slots =
    decimal_injective h.layout.slots g.layout.slots (omega (arith, is.layout.few_slots)) (omega (arith, too.layout.few_slots)) (cc) in
    let callers : h.callers ≡ g.callers =
    decimal_injective h.callers g.callers (omega (arith, is.few_callers)) (omega (arith, too.few_callers)) (cc) in
    let attempts : h.attempts ≡ g.attempts =
    decimal_injective h.attempts g.attempts (omega (arith, is.few_attempts)) (omega (arith, too.few_attempts)) (cc) in
    let mask : h.mask ≡ g.mask = mask_once h.mask g.mask is.mask too.mask (cc) in
    λ k. record { layout = shape (kinds k) (slots k); callers = callers k; attempts = attempts k; mask = mask k }
