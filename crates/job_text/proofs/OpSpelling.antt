-- How operations are spelled: by a name, and what stands after it.
use Rattle.std.proofs.Common.{◌≡◌, ◌≢◌, ℕ, ◌≤◌, ◌+◌, ◌*◌, ◌==◌, List, [], ◌∷◌, length, map, All, codes, decimal, slice_index_or, cond, sym, ap, ◌∙◌, refl}
use Rattle.std.proofs.lemmas.List.Elements.{All-cons, All-nil}
use Rattle.mont_base.specs.declared.constants.TheConstants.{MOST_PAIRS}
use Rattle.mont_base.specs.declared.operation.Op.{Op}
use Rattle.mont_base.specs.declared.operation.Op.TheVariants as ops
use Rattle.mont_base.specs.Texts.{IsText}
use Rattle.job_text.specs.declared.op_name.OpName.{OpName}
use Rattle.job_text.specs.declared.op_name.OpName.TheVariants as names
use Rattle.job_text.specs.Spelling.{text_word, op_words}
use Rattle.job_text.specs.Operations.{IsOp, IsNumber, name_word, args_count}

abbrev pub name_of : Op → OpName
name_of (ops.Put key value) = names.Put
name_of (ops.Get key) = names.Get
name_of (ops.Del key) = names.Del
name_of (ops.Enq unit item) = names.Enq
name_of (ops.Deq unit) = names.Deq
name_of (ops.Len unit) = names.Len
name_of (ops.AddV unit vertex attr) = names.AddV
name_of (ops.DelV unit vertex) = names.DelV
name_of (ops.AddE unit from to attr) = names.AddE
name_of (ops.DelE unit from to) = names.DelE
name_of (ops.Vertex unit vertex) = names.Vertex
name_of (ops.Degree unit vertex) = names.Degree
name_of (ops.OPut unit key value) = names.OPut
name_of (ops.OGet unit key) = names.OGet
name_of (ops.ODel unit key) = names.ODel
name_of (ops.OFloor unit key) = names.OFloor
name_of (ops.ORank unit key) = names.ORank
name_of (ops.ORange unit from to most) = names.ORange

abbrev pub args_of : Op → List (List ℕ)
args_of (ops.Put key value) = text_word key ∷ text_word value ∷ []
args_of (ops.Get key) = text_word key ∷ []
args_of (ops.Del key) = text_word key ∷ []
args_of (ops.Enq unit item) = decimal unit ∷ decimal item ∷ []
args_of (ops.Deq unit) = decimal unit ∷ []
args_of (ops.Len unit) = decimal unit ∷ []
args_of (ops.AddV unit vertex attr) = decimal unit ∷ decimal vertex ∷ decimal attr ∷ []
args_of (ops.DelV unit vertex) = decimal unit ∷ decimal vertex ∷ []
args_of (ops.AddE unit from to attr) = decimal unit ∷ decimal from ∷ decimal to ∷ decimal attr ∷ []
args_of (ops.DelE unit from to) = decimal unit ∷ decimal from ∷ decimal to ∷ []
args_of (ops.Vertex unit vertex) = decimal unit ∷ decimal vertex ∷ []
args_of (ops.Degree unit vertex) = decimal unit ∷ decimal vertex ∷ []
args_of (ops.OPut unit key value) = decimal unit ∷ text_word key ∷ text_word value ∷ []
args_of (ops.OGet unit key) = decimal unit ∷ text_word key ∷ []
args_of (ops.ODel unit key) = decimal unit ∷ text_word key ∷ []
args_of (ops.OFloor unit key) = decimal unit ∷ text_word key ∷ []
args_of (ops.ORank unit key) = decimal unit ∷ text_word key ∷ []
args_of (ops.ORange unit from to most) = decimal unit ∷ text_word from ∷ text_word to ∷ decimal most ∷ []

pub op_spelled : (o : Op) → op_words o ≡ name_word (name_of o) ∷ args_of o
op_spelled (ops.Put key value) = refl
op_spelled (ops.Get key) = refl
op_spelled (ops.Del key) = refl
op_spelled (ops.Enq unit item) = refl
op_spelled (ops.Deq unit) = refl
op_spelled (ops.Len unit) = refl
op_spelled (ops.AddV unit vertex attr) = refl
op_spelled (ops.DelV unit vertex) = refl
op_spelled (ops.AddE unit from to attr) = refl
op_spelled (ops.DelE unit from to) = refl
op_spelled (ops.Vertex unit vertex) = refl
op_spelled (ops.Degree unit vertex) = refl
op_spelled (ops.OPut unit key value) = refl
op_spelled (ops.OGet unit key) = refl
op_spelled (ops.ODel unit key) = refl
op_spelled (ops.OFloor unit key) = refl
op_spelled (ops.ORank unit key) = refl
op_spelled (ops.ORange unit from to most) = refl

-- ---- a word is one name
-- the first five bytes as one number
front_number : List ℕ → ℕ
front_number w =
    slice_index_or w 0 0 + 256 * slice_index_or w 1 0 + 65536 * slice_index_or w 2 0 + 16777216 * slice_index_or w 3 0
    + 4294967296 * slice_index_or w 4 0

named : ℕ → OpName
named n =
    cond (n == front_number (codes "put")) names.Put
    (cond (n == front_number (codes "get")) names.Get
    (cond (n == front_number (codes "del")) names.Del
    (cond (n == front_number (codes "enq")) names.Enq
    (cond (n == front_number (codes "deq")) names.Deq
    (cond (n == front_number (codes "len")) names.Len
    (cond (n == front_number (codes "addv")) names.AddV
    (cond (n == front_number (codes "delv")) names.DelV
    (cond (n == front_number (codes "adde")) names.AddE
    (cond (n == front_number (codes "dele")) names.DelE
    (cond (n == front_number (codes "vertex")) names.Vertex
    (cond (n == front_number (codes "degree")) names.Degree
    (cond (n == front_number (codes "oput")) names.OPut
    (cond (n == front_number (codes "oget")) names.OGet
    (cond (n == front_number (codes "odel")) names.ODel
    (cond (n == front_number (codes "ofloor")) names.OFloor
    (cond (n == front_number (codes "orank")) names.ORank names.ORange))))))))))))))))

named_back : (n : OpName) → named (front_number (name_word n)) ≡ n
unfolding named front_number
named_back names.Put = refl
named_back names.Get = refl
named_back names.Del = refl
named_back names.Enq = refl
named_back names.Deq = refl
named_back names.Len = refl
named_back names.AddV = refl
named_back names.DelV = refl
named_back names.AddE = refl
named_back names.DelE = refl
named_back names.Vertex = refl
named_back names.Degree = refl
named_back names.OPut = refl
named_back names.OGet = refl
named_back names.ODel = refl
named_back names.OFloor = refl
named_back names.ORank = refl
named_back names.ORange = refl

pub name_once : (m n : OpName) → name_word m ≡ name_word n → m ≡ n
name_once m n same = sym (named_back m) ∙ ap (λ w. named (front_number w)) same ∙ named_back n

-- ---- words after a name spell the operations of that name
pub first_words : (w v : List ℕ) (ws vs : List (List ℕ)) → w ∷ ws ≡ v ∷ vs → (w ≡ v) × (ws ≡ vs)
first_words w v ws vs e = (cc, cc)

pub named_alone : (ws : List (List ℕ)) (word : List ℕ) (args : List (List ℕ)) (n : OpName) → ws ≡ word ∷ args → word ≡ name_word n
    → ((o : Op) → IsOp o → name_of o ≡ n → args ≢ args_of o) → (o : Op) → IsOp o → ws ≢ op_words o
named_alone ws word args n whole is none o h same =
    let parts = first_words word (name_word (name_of o)) args (args_of o) (sym whole ∙ same ∙ op_spelled o) in
    none o h (name_once (name_of o) n (sym parts.0 ∙ is)) parts.1

pub no_name : (ws : List (List ℕ)) (word : List ℕ) (args : List (List ℕ)) → ws ≡ word ∷ args
    → ((n : OpName) → word ≢ name_word n) → (o : Op) → IsOp o → ws ≢ op_words o
no_name ws word args whole none o h same =
    let parts = first_words word (name_word (name_of o)) args (args_of o) (sym whole ∙ same ∙ op_spelled o) in
    none (name_of o) parts.0

pub no_words : (ws : List (List ℕ)) → ws ≡ [] → (o : Op) → IsOp o → ws ≢ op_words o
no_words ws none o h same = let e : [] ≡ name_word (name_of o) ∷ args_of o = sym none ∙ same ∙ op_spelled o in cc

one : (a : ℕ) → IsNumber a → All IsNumber (a ∷ [])
one a h = All-cons IsNumber a [] h (All-nil IsNumber)

pub two : (a b : ℕ) → IsNumber a → IsNumber b → All IsNumber (a ∷ b ∷ [])
two a b h i = All-cons IsNumber a (b ∷ []) h (one b i)

three : (a b c : ℕ) → IsNumber a → IsNumber b → IsNumber c → All IsNumber (a ∷ b ∷ c ∷ [])
three a b c h i j = All-cons IsNumber a (b ∷ c ∷ []) h (two b c i j)

-- such words spell no operation of a name
abbrev NoneNamed : OpName → List (List ℕ) → Type 0
NoneNamed n args = (o : Op) → IsOp o → name_of o ≡ n → args ≢ args_of o

abbrev NoNumbers : ℕ → List (List ℕ) → Type 0
NoNumbers count args = (ns : List ℕ) → length ns ≡ count → All IsNumber ns → args ≢ map decimal ns

abbrev NoText : List (List ℕ) → Type 0
NoText args = (t : List ℕ) → IsText t → args ≢ text_word t ∷ []

abbrev NoTexts : List (List ℕ) → Type 0
NoTexts args = (s t : List ℕ) → IsText s → IsText t → args ≢ text_word s ∷ text_word t ∷ []

pub no_put : (args : List (List ℕ)) → NoTexts args → NoneNamed names.Put args
no_put args none (ops.Put key value) h n same = none key value h.0 h.1 same
no_put args none _ h n same = absurd (cc)

pub no_get : (args : List (List ℕ)) → NoText args → NoneNamed names.Get args
no_get args none (ops.Get key) h n same = none key h same
no_get args none _ h n same = absurd (cc)

pub no_del : (args : List (List ℕ)) → NoText args → NoneNamed names.Del args
no_del args none (ops.Del key) h n same = none key h same
no_del args none _ h n same = absurd (cc)

pub no_enq : (args : List (List ℕ)) → NoNumbers 2 args → NoneNamed names.Enq args
no_enq args none (ops.Enq unit item) h n same = none (unit ∷ item ∷ []) refl (two unit item h.0 h.1) same
no_enq args none _ h n same = absurd (cc)

pub no_deq : (args : List (List ℕ)) → NoNumbers 1 args → NoneNamed names.Deq args
no_deq args none (ops.Deq unit) h n same = none (unit ∷ []) refl (one unit h) same
no_deq args none _ h n same = absurd (cc)

pub no_len : (args : List (List ℕ)) → NoNumbers 1 args → NoneNamed names.Len args
no_len args none (ops.Len unit) h n same = none (unit ∷ []) refl (one unit h) same
no_len args none _ h n same = absurd (cc)

pub no_addv : (args : List (List ℕ)) → NoNumbers 3 args → NoneNamed names.AddV args
no_addv args none (ops.AddV unit vertex attr) h n same =
    none (unit ∷ vertex ∷ attr ∷ []) refl (three unit vertex attr h.0 h.1 h.2) same
no_addv args none _ h n same = absurd (cc)

pub no_delv : (args : List (List ℕ)) → NoNumbers 2 args → NoneNamed names.DelV args
no_delv args none (ops.DelV unit vertex) h n same = none (unit ∷ vertex ∷ []) refl (two unit vertex h.0 h.1) same
no_delv args none _ h n same = absurd (cc)

pub no_adde : (args : List (List ℕ)) → NoNumbers 4 args → NoneNamed names.AddE args
no_adde args none (ops.AddE unit from to attr) h n same =
    none (unit ∷ from ∷ to ∷ attr ∷ []) refl (All-cons IsNumber unit (from ∷ to ∷ attr ∷ []) h.0 (three from to attr h.1 h.2 h.3)) same
no_adde args none _ h n same = absurd (cc)

pub no_dele : (args : List (List ℕ)) → NoNumbers 3 args → NoneNamed names.DelE args
no_dele args none (ops.DelE unit from to) h n same = none (unit ∷ from ∷ to ∷ []) refl (three unit from to h.0 h.1 h.2) same
no_dele args none _ h n same = absurd (cc)

pub no_vertex : (args : List (List ℕ)) → NoNumbers 2 args → NoneNamed names.Vertex args
no_vertex args none (ops.Vertex unit vertex) h n same = none (unit ∷ vertex ∷ []) refl (two unit vertex h.0 h.1) same
no_vertex args none _ h n same = absurd (cc)

pub no_degree : (args : List (List ℕ)) → NoNumbers 2 args → NoneNamed names.Degree args
no_degree args none (ops.Degree unit vertex) h n same = none (unit ∷ vertex ∷ []) refl (two unit vertex h.0 h.1) same
no_degree args none _ h n same = absurd (cc)

-- ---- of ordered units
abbrev NoKey : List (List ℕ) → Type 0
NoKey args = (n : ℕ) (t : List ℕ) → IsNumber n → IsText t → args ≢ decimal n ∷ text_word t ∷ []

abbrev NoRange : List (List ℕ) → Type 0
NoRange args = (n : ℕ) (s t : List ℕ) (most : ℕ) → IsNumber n → IsText s → IsText t → 1 ≤ most → most ≤ MOST_PAIRS
    → args ≢ decimal n ∷ text_word s ∷ text_word t ∷ decimal most ∷ []

pub no_oput_unit : (args : List (List ℕ)) → ((n : ℕ) (rest : List (List ℕ)) → IsNumber n → args ≢ decimal n ∷ rest)
    → NoneNamed names.OPut args
no_oput_unit args none (ops.OPut unit key value) h n same = none unit (text_word key ∷ text_word value ∷ []) h.0 same
no_oput_unit args none _ h n same = absurd (cc)

pub no_oput : (args : List (List ℕ)) (own : ℕ) (rest : List (List ℕ)) → IsNumber own → args ≡ decimal own ∷ rest → NoTexts rest
    → NoneNamed names.OPut args
no_oput args own rest number whole none (ops.OPut unit key value) h n same =
    let behind = first_words (decimal own) (decimal unit) rest (text_word key ∷ text_word value ∷ []) (sym whole ∙ same) in
    none key value h.1 h.2 behind.1
no_oput args own rest number whole none _ h n same = absurd (cc)

pub no_orange : (args : List (List ℕ)) → NoRange args → NoneNamed names.ORange args
no_orange args none (ops.ORange unit from to most) h n same = none unit from to most h.0 h.1 h.2 h.3 h.4 same
no_orange args none _ h n same = absurd (cc)

pub no_oget : (args : List (List ℕ)) → NoKey args → NoneNamed names.OGet args
no_oget args none (ops.OGet unit key) h n same = none unit key h.0 h.1 same
no_oget args none _ h n same = absurd (cc)

pub no_odel : (args : List (List ℕ)) → NoKey args → NoneNamed names.ODel args
no_odel args none (ops.ODel unit key) h n same = none unit key h.0 h.1 same
no_odel args none _ h n same = absurd (cc)

pub no_ofloor : (args : List (List ℕ)) → NoKey args → NoneNamed names.OFloor args
no_ofloor args none (ops.OFloor unit key) h n same = none unit key h.0 h.1 same
no_ofloor args none _ h n same = absurd (cc)

pub no_orank : (args : List (List ℕ)) → NoKey args → NoneNamed names.ORank args
no_orank args none (ops.ORank unit key) h n same = none unit key h.0 h.1 same
no_orank args none _ h n same = absurd (cc)

-- as many words stand after a name as its operations have
pub args_counted : (o : Op) → length (op_words o) ≡ 1 + args_count (name_of o)
args_counted (ops.Put key value) = refl
args_counted (ops.Get key) = refl
args_counted (ops.Del key) = refl
args_counted (ops.Enq unit item) = refl
args_counted (ops.Deq unit) = refl
args_counted (ops.Len unit) = refl
args_counted (ops.AddV unit vertex attr) = refl
args_counted (ops.DelV unit vertex) = refl
args_counted (ops.AddE unit from to attr) = refl
args_counted (ops.DelE unit from to) = refl
args_counted (ops.Vertex unit vertex) = refl
args_counted (ops.Degree unit vertex) = refl
args_counted (ops.OPut unit key value) = refl
args_counted (ops.OGet unit key) = refl
args_counted (ops.ODel unit key) = refl
args_counted (ops.OFloor unit key) = refl
args_counted (ops.ORank unit key) = refl
args_counted (ops.ORange unit from to most) = refl
