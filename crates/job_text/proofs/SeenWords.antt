-- The words of jobs have bytes that can be seen, and are few and short.
use Rattle.std.proofs.Common.{◌≡◌, ◌≢◌, None, slice_get, ℕ, suc, zero, ◌+◌, ◌/◌, ◌%◌, ◌^◌, ◌<◌, ◌≤◌, Bool, true, false, ◌&&◌, ◌==◌, leb, List, [], ◌∷◌, ◌++◌, length, All, codes, decimal, ap, refl, arith, lit<, lit≤}
use Rattle.std.proofs.lemmas.List.{length-append, length-map}
use Rattle.std.proofs.lemmas.List.Elements.{All-nil, All-cons, All-head, All-tail, All-push, All-weaker, All-map}
use Rattle.std.proofs.lemmas.Bool.{and_parts, leb-true, ne_eqb}
use Rattle.std.proofs.lemmas.Fmt.{decimal_by_steps, decimal_digit, length-decimal-le}
use Rattle.mont_base.specs.declared.kinds.UnitKind.{UnitKind}
use Rattle.mont_base.specs.declared.kinds.UnitKind.TheVariants as kinds
use Rattle.mont_base.specs.declared.operation.Op.{Op}
use Rattle.mont_base.specs.declared.operation.Op.TheVariants as ops
use Rattle.mont_base.specs.Layout.{Shape, letter_of, letters_of, is_of_kind, named_if, unit_named}
use Rattle.mont_base.specs.State.{unit_of_op, unit_aimed, range_aim, can_range}
use Rattle.job_text.specs.declared.header.Head.{Head}
use Rattle.job_text.specs.declared.job.Line.{Line}
use Rattle.job_text.specs.declared.job.Stop.{Stop}
use Rattle.job_text.specs.declared.job.Deed.{Deed}
use Rattle.job_text.specs.declared.job.Deed.TheVariants.{Call, Tick, Sync}
use Rattle.job_text.specs.declared.limits.TheConstants.{LINE_BYTES}
use Rattle.job_text.specs.Lines.{spaced}
use Rattle.job_text.specs.Spelling.{text_word, hex_digit, hex_digits, op_words}
use Rattle.job_text.specs.Operations.{IsOp, IsNumber}
use Rattle.job_text.specs.Grammar.{IsHead, IsStop, IsLine, IsAsked, HasUnit}
use Rattle.job_text.specs.JobText.{head_words, head_tail, stop_words, line_words, deed_words}
use Rattle.job_text.specs.Parts.{Lacks}
use Rattle.job_text.proofs.Splits.{Lacks-append, Lacks-cons}
use Rattle.job_text.proofs.Digits.{decimal_short}
use Rattle.job_text.proofs.TextWords.{IsSeen, text_seen, text_long, digit_seen}

abbrev pub IsWord : List ℕ → Type 0
IsWord word = All IsSeen word

seen_lacks : (byte : ℕ) → byte < 33 → (b : ℕ) → IsSeen b → (b == byte) ≡ false
seen_lacks byte low b seen = ne_eqb b byte (λ is. omega (arith, seen))

-- what can be seen is no space and no line feed
pub word_lacks : (byte : ℕ) → byte < 33 → (word : List ℕ) → IsWord word → Lacks byte word
word_lacks byte low word seen = All-weaker IsSeen (λ b. (b == byte) ≡ false) (seen_lacks byte low) word seen

pub words_lack : (byte : ℕ) → byte < 33 → (ws : List (List ℕ)) → All IsWord ws → All (Lacks byte) ws
words_lack byte low ws seen = All-weaker IsWord (Lacks byte) (word_lacks byte low) ws seen

pub spaced_lacks : (ws : List (List ℕ)) → All IsWord ws → Lacks 10 (spaced ws)
spaced_lacks [] seen = All-nil (λ b. (b == 10) ≡ false)
spaced_lacks (w ∷ []) seen = word_lacks 10 (lit< tt) w (All-head IsWord w [] seen)
spaced_lacks (w ∷ v ∷ vs) seen =
    Lacks-append 10 w (32 ∷ spaced (v ∷ vs)) (word_lacks 10 (lit< tt) w (All-head IsWord w (v ∷ vs) seen))
    (Lacks-cons 10 32 (spaced (v ∷ vs)) refl (spaced_lacks (v ∷ vs) (All-tail IsWord w (v ∷ vs) seen)))

-- ---- words that are written out
abbrev seen : List ℕ → Bool
seen [] = true
seen (b ∷ bs) = (leb 33 b && leb b 126) && seen bs

pub seen_tested : (word : List ℕ) → seen word ≡ true → IsWord word
seen_tested [] e = All-nil IsSeen
seen_tested (b ∷ bs) e =
    let parts = and_parts _ _ e in
    let range = and_parts _ _ parts.0 in
    All-cons IsSeen b bs (leb-true 33 b range.0, leb-true b 126 range.1) (seen_tested bs parts.1)

-- ---- numbers
pub decimal_seen : (n : ℕ) → n < 2 ^ 64 → IsWord (decimal n)
decimal_seen n small =
    decimal_by_steps (λ m ds. IsWord ds)
    (λ m h. All-cons IsSeen (48 + m) [] (omega arith, omega arith) (All-nil IsSeen))
    (λ m ds h more. All-push IsSeen ds (48 + m % 10) more (omega arith, omega arith))
    n small

pub hex_seen : (count n : ℕ) → IsWord (hex_digits count n)
hex_seen zero n = All-nil IsSeen
hex_seen (suc count) n =
    All-push IsSeen (hex_digits count (n / 16)) (hex_digit (n % 16)) (hex_seen count (n / 16)) (digit_seen (n % 16) (omega arith))

letter_seen : (kind : UnitKind) → IsSeen (letter_of kind)
letter_seen kinds.Map = (lit≤ tt, lit≤ tt)
letter_seen kinds.Queue = (lit≤ tt, lit≤ tt)
letter_seen kinds.Graph = (lit≤ tt, lit≤ tt)
letter_seen kinds.Ordered = (lit≤ tt, lit≤ tt)

letters_seen : (ks : List UnitKind) → IsWord (letters_of ks)
letters_seen ks = All-map IsSeen letter_of ks (λ k d within. letter_seen _)

-- ---- operations and lines
pub two_words : (w v : List ℕ) → IsWord w → IsWord v → All IsWord (w ∷ v ∷ [])
two_words w v h i = All-cons IsWord w (v ∷ []) h (All-cons IsWord v [] i (All-nil IsWord))

three_words : (w v u : List ℕ) → IsWord w → IsWord v → IsWord u → All IsWord (w ∷ v ∷ u ∷ [])
three_words w v u h i j = All-cons IsWord w (v ∷ u ∷ []) h (two_words v u i j)

pub four_words : (w v u t : List ℕ) → IsWord w → IsWord v → IsWord u → IsWord t → All IsWord (w ∷ v ∷ u ∷ t ∷ [])
four_words w v u t h i j k = All-cons IsWord w (v ∷ u ∷ t ∷ []) h (three_words v u t i j k)

pub op_seen : (o : Op) → IsOp o → All IsWord (op_words o)
op_seen (ops.Put key value) h = three_words _ _ _ (seen_tested (codes "put") refl) (text_seen key) (text_seen value)
op_seen (ops.Get key) h = two_words _ _ (seen_tested (codes "get") refl) (text_seen key)
op_seen (ops.Del key) h = two_words _ _ (seen_tested (codes "del") refl) (text_seen key)
op_seen (ops.Enq unit item) h = three_words _ _ _ (seen_tested (codes "enq") refl) (decimal_seen unit h.0) (decimal_seen item h.1)
op_seen (ops.Deq unit) h = two_words _ _ (seen_tested (codes "deq") refl) (decimal_seen unit h)
op_seen (ops.Len unit) h = two_words _ _ (seen_tested (codes "len") refl) (decimal_seen unit h)
op_seen (ops.AddV unit vertex attr) h =
    four_words _ _ _ _ (seen_tested (codes "addv") refl) (decimal_seen unit h.0) (decimal_seen vertex h.1) (decimal_seen attr h.2)
op_seen (ops.DelV unit vertex) h = three_words _ _ _ (seen_tested (codes "delv") refl) (decimal_seen unit h.0) (decimal_seen vertex h.1)
op_seen (ops.AddE unit from to attr) h =
    All-cons IsWord (codes "adde") (decimal unit ∷ decimal from ∷ decimal to ∷ decimal attr ∷ []) (seen_tested (codes "adde") refl)
    (four_words _ _ _ _ (decimal_seen unit h.0) (decimal_seen from h.1) (decimal_seen to h.2) (decimal_seen attr h.3))
op_seen (ops.DelE unit from to) h =
    four_words _ _ _ _ (seen_tested (codes "dele") refl) (decimal_seen unit h.0) (decimal_seen from h.1) (decimal_seen to h.2)
op_seen (ops.Vertex unit vertex) h =
    three_words _ _ _ (seen_tested (codes "vertex") refl) (decimal_seen unit h.0) (decimal_seen vertex h.1)
op_seen (ops.Degree unit vertex) h =
    three_words _ _ _ (seen_tested (codes "degree") refl) (decimal_seen unit h.0) (decimal_seen vertex h.1)
op_seen (ops.OPut unit key value) h =
    four_words _ _ _ _ (seen_tested (codes "oput") refl) (decimal_seen unit h.0) (text_seen key) (text_seen value)
op_seen (ops.OGet unit key) h = three_words _ _ _ (seen_tested (codes "oget") refl) (decimal_seen unit h.0) (text_seen key)
op_seen (ops.ODel unit key) h = three_words _ _ _ (seen_tested (codes "odel") refl) (decimal_seen unit h.0) (text_seen key)
op_seen (ops.OFloor unit key) h = three_words _ _ _ (seen_tested (codes "ofloor") refl) (decimal_seen unit h.0) (text_seen key)
op_seen (ops.ORank unit key) h = three_words _ _ _ (seen_tested (codes "orank") refl) (decimal_seen unit h.0) (text_seen key)
op_seen (ops.ORange unit from to most) h =
    All-cons IsWord (codes "orange") (decimal unit ∷ text_word from ∷ text_word to ∷ decimal most ∷ []) (seen_tested (codes "orange") refl)
    (four_words _ _ _ _ (decimal_seen unit h.0) (text_seen from) (text_seen to) (decimal_seen most (let few = h.4 in omega arith)))

-- a unit of the store has a number of two digits at most
named_low : (ks : List UnitKind) (kind : UnitKind) (unit : ℕ) → is_of_kind (slice_get ks unit) kind ≡ true → unit < length ks
named_low [] kind unit is = absurd (cc)
named_low (k ∷ ks) kind zero is = omega arith
named_low (k ∷ ks) kind (suc unit) is = let low = named_low ks kind unit is in omega arith

unit_low : (s : Shape) (kind : UnitKind) (unit : ℕ) → length s.kinds ≤ 16 → unit_named s kind unit ≢ None → unit < 16
unit_low s kind unit few there = by (is_of_kind (slice_get s.kinds unit) kind) refl
  where
    by : (b : Bool) → is_of_kind (slice_get s.kinds unit) kind ≡ b → unit < 16
    by true is = let low = named_low s.kinds kind unit is in omega arith
    by false is = absurd (there (ap (λ (t : Bool). named_if t unit) is))

range_low : (s : Shape) (may : Bool) (unit : ℕ) → length s.kinds ≤ 16 → unit_aimed s (range_aim may unit) ≢ None → unit < 16
range_low s true unit few there = unit_low s kinds.Ordered unit few there
range_low s false unit few there = absurd (there refl)

pub two_digits : (n : ℕ) → n < 100 → length (decimal n) ≤ 2
two_digits n low = length-decimal-le 2 n (omega arith) (omega arith) (omega arith)

pub op_long : (s : Shape) → length s.kinds ≤ 16 → (o : Op) → IsOp o → unit_of_op s o ≢ None → length (spaced (op_words o)) ≤ 158
op_long s few (ops.Put key value) h there = simp length-append (omega (arith, text_long key h.0, text_long value h.1))
op_long s few (ops.Get key) h there = simp length-append (omega (arith, text_long key h))
op_long s few (ops.Del key) h there = simp length-append (omega (arith, text_long key h))
op_long s few (ops.Enq unit item) h there = simp length-append (omega (arith, decimal_short unit h.0, decimal_short item h.1))
op_long s few (ops.Deq unit) h there = simp length-append (omega (arith, decimal_short unit h))
op_long s few (ops.Len unit) h there = simp length-append (omega (arith, decimal_short unit h))
op_long s few (ops.AddV unit vertex attr) h there =
    simp length-append (omega (arith, decimal_short unit h.0, decimal_short vertex h.1, decimal_short attr h.2))
op_long s few (ops.DelV unit vertex) h there = simp length-append (omega (arith, decimal_short unit h.0, decimal_short vertex h.1))
op_long s few (ops.AddE unit from to attr) h there =
    simp length-append
    (omega (arith, decimal_short unit h.0, decimal_short from h.1, decimal_short to h.2, decimal_short attr h.3))
op_long s few (ops.DelE unit from to) h there =
    simp length-append (omega (arith, decimal_short unit h.0, decimal_short from h.1, decimal_short to h.2))
op_long s few (ops.Vertex unit vertex) h there = simp length-append (omega (arith, decimal_short unit h.0, decimal_short vertex h.1))
op_long s few (ops.Degree unit vertex) h there = simp length-append (omega (arith, decimal_short unit h.0, decimal_short vertex h.1))
op_long s few (ops.OPut unit key value) h there =
    let low = unit_low s kinds.Ordered unit few there in
    simp length-append (omega (arith, two_digits unit (omega arith), text_long key h.1, text_long value h.2))
op_long s few (ops.OGet unit key) h there = simp length-append (omega (arith, decimal_short unit h.0, text_long key h.1))
op_long s few (ops.ODel unit key) h there = simp length-append (omega (arith, decimal_short unit h.0, text_long key h.1))
op_long s few (ops.OFloor unit key) h there = simp length-append (omega (arith, decimal_short unit h.0, text_long key h.1))
op_long s few (ops.ORank unit key) h there = simp length-append (omega (arith, decimal_short unit h.0, text_long key h.1))
op_long s few (ops.ORange unit from to most) h there =
    let low = range_low s (can_range most) unit few there in
    let less = h.4 in
    simp length-append (omega (
      arith,
      two_digits unit (omega arith),
      text_long from h.1,
      text_long to h.2,
      two_digits most (omega arith),
    ))

pub deed_seen : (d : Deed) → IsAsked d → All IsWord (deed_words d)
deed_seen (Call op) h = op_seen op h
deed_seen Tick h = All-cons IsWord (codes "tick") [] (seen_tested (codes "tick") refl) (All-nil IsWord)
deed_seen Sync h = All-cons IsWord (codes "sync") [] (seen_tested (codes "sync") refl) (All-nil IsWord)

deed_long : (s : Shape) → length s.kinds ≤ 16 → (d : Deed) → IsAsked d → HasUnit s d → length (spaced (deed_words d)) ≤ 158
deed_long s few (Call op) h there = op_long s few op h there
deed_long s few Tick h there = lit≤ tt
deed_long s few Sync h there = lit≤ tt

some_deed_word : (d : Deed) (c : List ℕ) → spaced (c ∷ deed_words d) ≡ c ++ 32 ∷ spaced (deed_words d)
some_deed_word (Call (ops.Put key value)) c = refl
some_deed_word (Call (ops.Get key)) c = refl
some_deed_word (Call (ops.Del key)) c = refl
some_deed_word (Call (ops.Enq unit item)) c = refl
some_deed_word (Call (ops.Deq unit)) c = refl
some_deed_word (Call (ops.Len unit)) c = refl
some_deed_word (Call (ops.AddV unit vertex attr)) c = refl
some_deed_word (Call (ops.DelV unit vertex)) c = refl
some_deed_word (Call (ops.AddE unit from to attr)) c = refl
some_deed_word (Call (ops.DelE unit from to)) c = refl
some_deed_word (Call (ops.Vertex unit vertex)) c = refl
some_deed_word (Call (ops.Degree unit vertex)) c = refl
some_deed_word (Call (ops.OPut unit key value)) c = refl
some_deed_word (Call (ops.OGet unit key)) c = refl
some_deed_word (Call (ops.ODel unit key)) c = refl
some_deed_word (Call (ops.OFloor unit key)) c = refl
some_deed_word (Call (ops.ORank unit key)) c = refl
some_deed_word (Call (ops.ORange unit from to most)) c = refl
some_deed_word Tick c = refl
some_deed_word Sync c = refl

-- an operation has five words at most
pub few_op_words : (o : Op) → length (op_words o) ≤ 5
few_op_words (ops.Put key value) = lit≤ tt
few_op_words (ops.Get key) = lit≤ tt
few_op_words (ops.Del key) = lit≤ tt
few_op_words (ops.Enq unit item) = lit≤ tt
few_op_words (ops.Deq unit) = lit≤ tt
few_op_words (ops.Len unit) = lit≤ tt
few_op_words (ops.AddV unit vertex attr) = lit≤ tt
few_op_words (ops.DelV unit vertex) = lit≤ tt
few_op_words (ops.AddE unit from to attr) = lit≤ tt
few_op_words (ops.DelE unit from to) = lit≤ tt
few_op_words (ops.Vertex unit vertex) = lit≤ tt
few_op_words (ops.Degree unit vertex) = lit≤ tt
few_op_words (ops.OPut unit key value) = lit≤ tt
few_op_words (ops.OGet unit key) = lit≤ tt
few_op_words (ops.ODel unit key) = lit≤ tt
few_op_words (ops.OFloor unit key) = lit≤ tt
few_op_words (ops.ORank unit key) = lit≤ tt
few_op_words (ops.ORange unit from to most) = lit≤ tt

pub few_deed_words : (d : Deed) → length (deed_words d) ≤ 5
few_deed_words (Call op) = few_op_words op
few_deed_words Tick = lit≤ tt
few_deed_words Sync = lit≤ tt

pub line_parts : (l : Line) → spaced (line_words l) ≡ decimal l.caller ++ 32 ∷ spaced (deed_words l.deed)
line_parts l = some_deed_word l.deed (decimal l.caller)

pub line_seen : (l : Line) → IsNumber l.caller → IsAsked l.deed → All IsWord (line_words l)
line_seen l small h = All-cons IsWord (decimal l.caller) (deed_words l.deed) (decimal_seen l.caller small) (deed_seen l.deed h)

pub stop_seen : (s : Stop) → IsNumber s.who → IsNumber s.steps → All IsWord (stop_words s)
stop_seen s who steps = three_words _ _ _ (seen_tested (codes "stop") refl) (decimal_seen s.who who) (decimal_seen s.steps steps)

pub head_spelled : (h : Head) → spaced (head_words h) ≡ codes "montage-job 3 " ++ spaced (head_tail h)
head_spelled h = refl

pub head_tail_seen : (h : Head) → IsHead h → All IsWord (head_tail h)
head_tail_seen h is =
    All-cons IsWord (letters_of h.layout.kinds)
    (decimal h.layout.slots ∷ decimal h.callers ∷ decimal h.attempts ∷ hex_digits 16 h.mask ∷ [])
    (letters_seen h.layout.kinds)
    (four_words _ _ _ _ (decimal_seen h.layout.slots (omega (arith, is.layout.few_slots)))
    (decimal_seen h.callers (omega (arith, is.few_callers)))
    (decimal_seen h.attempts (omega (arith, is.few_attempts))) (hex_seen 16 h.mask))

-- ---- each line of a job is short, and has no line feed
abbrev pub IsShortLine : List ℕ → Type 0
IsShortLine line = Lacks 10 line × (length line ≤ LINE_BYTES)

pub caller_digit : (h : Head) (l : Line) → IsHead h → IsLine h l → decimal l.caller ≡ (48 + l.caller) ∷ []
caller_digit h l is line = decimal_digit l.caller (omega (arith, is.few_callers, line.caller))

pub line_short : (h : Head) (l : Line) → IsHead h → IsLine h l → IsShortLine (spaced (line_words l))
line_short h l is line = (
  spaced_lacks (line_words l) (line_seen l (omega (arith, is.few_callers, line.caller)) line.asked),
  omega (
    arith,
    ap length (line_parts l),
    length-append (decimal l.caller) (32 ∷ spaced (deed_words l.deed)),
    ap length (caller_digit h l is line),
    deed_long h.layout is.layout.kinds.few l.deed line.asked line.unit,
  ),
)

pub stop_short : (h : Head) (s : Stop) → IsHead h → IsStop h s → IsShortLine (spaced (stop_words s))
stop_short h s is stop =
    let who : s.who < 2 ^ 64 = omega (arith, is.few_callers, stop.who) in
    let steps : s.steps < 2 ^ 64 = omega (arith, stop.few_steps) in (
      spaced_lacks (stop_words s) (stop_seen s who steps),
      simp length-append (omega (arith, decimal_short s.who who, decimal_short s.steps steps)),
    )

pub long_hex : (count n : ℕ) → length (hex_digits count n) ≡ count
long_hex zero n = refl
long_hex (suc count) n = omega (arith, length-append (hex_digits count (n / 16)) (hex_digit (n % 16) ∷ []), long_hex count (n / 16))

pub head_short : (h : Head) → IsHead h → IsShortLine (spaced (head_words h))
head_short h is =
    let slots : h.layout.slots < 2 ^ 64 = omega (arith, is.layout.few_slots) in
    let callers : h.callers < 2 ^ 64 = omega (arith, is.few_callers) in
    let attempts : h.attempts < 2 ^ 64 = omega (arith, is.few_attempts) in
    let kinds : length (letters_of h.layout.kinds) ≤ 16 = omega (arith, length-map h.layout.kinds letter_of, is.layout.kinds.few) in (
      Lacks-append 10 (codes "montage-job 3 ") (spaced (head_tail h))
          (Lacks-append 10 (codes "montage-job") (codes " 3 ")
          (word_lacks 10 (lit< tt) (codes "montage-job") (seen_tested (codes "montage-job") refl))
          (Lacks-cons 10 32 (codes "3 ") refl (Lacks-cons 10 51 (codes " ") refl
          (Lacks-cons 10 32 [] refl (All-nil (λ b. (b == 10) ≡ false))))))
          (spaced_lacks (head_tail h) (head_tail_seen h is)),
      simp length-append (omega (
        arith,
        kinds,
        decimal_short h.layout.slots slots,
        decimal_short h.callers callers,
        decimal_short h.attempts attempts,
        long_hex 16 h.mask,
      )),
    )
