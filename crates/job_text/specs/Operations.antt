-- Which operations texts can ask for, and by which word each is named.
use Rattle.std.specs.Prelude.{ℕ, ◌<◌, ◌≤◌, ◌^◌, List, codes}
use Rattle.mont_base.specs.declared.constants.TheConstants.{MOST_PAIRS}
use Rattle.mont_base.specs.declared.operation.Op.{Op}
use Rattle.mont_base.specs.declared.operation.Op.TheVariants as ops
use Rattle.mont_base.specs.Texts.{IsText}
use Rattle.job_text.specs.declared.op_name.OpName.{OpName}
use Rattle.job_text.specs.declared.op_name.OpName.TheVariants as names

abbrev pub IsNumber : ℕ → Type 0
IsNumber n = n < 2 ^ 64

-- keys and values are texts, a range is of 1 to 16 pairs, and all else are numbers of 64 bits
abbrev pub IsOp : Op → Type 0
IsOp (ops.Put key value) = IsText key × IsText value
IsOp (ops.Get key) = IsText key
IsOp (ops.Del key) = IsText key
IsOp (ops.Enq unit item) = IsNumber unit × IsNumber item
IsOp (ops.Deq unit) = IsNumber unit
IsOp (ops.Len unit) = IsNumber unit
IsOp (ops.AddV unit vertex attr) = IsNumber unit × IsNumber vertex × IsNumber attr
IsOp (ops.DelV unit vertex) = IsNumber unit × IsNumber vertex
IsOp (ops.AddE unit from to attr) = IsNumber unit × IsNumber from × IsNumber to × IsNumber attr
IsOp (ops.DelE unit from to) = IsNumber unit × IsNumber from × IsNumber to
IsOp (ops.Vertex unit vertex) = IsNumber unit × IsNumber vertex
IsOp (ops.Degree unit vertex) = IsNumber unit × IsNumber vertex
IsOp (ops.OPut unit key value) = IsNumber unit × IsText key × IsText value
IsOp (ops.OGet unit key) = IsNumber unit × IsText key
IsOp (ops.ODel unit key) = IsNumber unit × IsText key
IsOp (ops.OFloor unit key) = IsNumber unit × IsText key
IsOp (ops.ORank unit key) = IsNumber unit × IsText key
IsOp (ops.ORange unit from to most) =
    IsNumber unit × IsText from × IsText to × (1 ≤ most) × (most ≤ MOST_PAIRS)

-- the first word of an operation
abbrev pub name_word : OpName → List ℕ
name_word names.Put = codes "put"
name_word names.Get = codes "get"
name_word names.Del = codes "del"
name_word names.Enq = codes "enq"
name_word names.Deq = codes "deq"
name_word names.Len = codes "len"
name_word names.AddV = codes "addv"
name_word names.DelV = codes "delv"
name_word names.AddE = codes "adde"
name_word names.DelE = codes "dele"
name_word names.Vertex = codes "vertex"
name_word names.Degree = codes "degree"
name_word names.OPut = codes "oput"
name_word names.OGet = codes "oget"
name_word names.ODel = codes "odel"
name_word names.OFloor = codes "ofloor"
name_word names.ORank = codes "orank"
name_word names.ORange = codes "orange"

-- how many words stand after it
abbrev pub args_count : OpName → ℕ
args_count names.Put = 2
args_count names.Get = 1
args_count names.Del = 1
args_count names.Enq = 2
args_count names.Deq = 1
args_count names.Len = 1
args_count names.AddV = 3
args_count names.DelV = 2
args_count names.AddE = 4
args_count names.DelE = 3
args_count names.Vertex = 2
args_count names.Degree = 2
args_count names.OPut = 3
args_count names.OGet = 2
args_count names.ODel = 2
args_count names.OFloor = 2
args_count names.ORank = 2
args_count names.ORange = 4
