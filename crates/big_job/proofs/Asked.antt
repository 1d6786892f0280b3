-- What each line of the generated job asks is what words can ask, of a unit that there is.
use Rattle.std.proofs.Common.{◌≢◌, ℕ, zero, suc, ◌+◌, ◌*◌, ◌/◌, ◌%◌, ◌^◌, ◌<◌, Bool, true, false, cond, arith, lit<}
use Rattle.std.proofs.lemmas.List.{get_or_default}
use Rattle.std.proofs.lemmas.Fmt.{length-decimal-le, IsAscii-decimal}
use Rattle.std.specs.Prelude.{None}
use Rattle.std.specs.Fmt.{decimal}
use Rattle.mont_base.specs.declared.operation.Op.{Op}
use Rattle.mont_base.specs.declared.operation.Op.TheVariants.{Put, Get, Del, Enq, AddV, AddE}
use Rattle.mont_base.specs.Texts.{IsText}
use Rattle.mont_base.specs.State.{unit_of_op}
use Rattle.job_text.specs.Operations.{IsOp}
use Rattle.job_text.proofs.Grammars.{key_has_unit}
use Rattle.big_job.specs.CallerWords.{word_after}
use Rattle.big_job.specs.GeneratedLines.{graph_op, op_at, op_of}
use Rattle.big_job.specs.Generated.{generated_head}

pick : {X : Type 0} (P : X → Type 0) (b : Bool) (x y : X) → P x → P y → P (cond b x y)
pick P true x y px py = px
pick P false x y px py = py

-- what holds of each operation that a line may ask, made of this word
record OfEach (P : Op → Type 0) (word : ℕ) : Type 0 where
  put : (key : ℕ) → key < 2 ^ 64 → P (Put (decimal key) (decimal word))
  get : (key : ℕ) → key < 2 ^ 64 → P (Get (decimal key))
  del : (key : ℕ) → key < 2 ^ 64 → P (Del (decimal key))
  enq : P (Enq 4 word)
  addv : (vertex : ℕ) → vertex < 2 ^ 64 → P (AddV 5 vertex word)
  adde : (from to : ℕ) → from < 2 ^ 64 → to < 2 ^ 64 → P (AddE 5 from to word)

of_graph : (P : Op → Type 0) (caller ten word : ℕ) → caller < 4 → ten < 5000 → OfEach P word → P (graph_op caller ten word)
of_graph P caller ten word low few each =
    pick P _ _ _ (each.addv _ (omega arith)) (each.adde _ _ (omega arith) (omega arith))

-- a caller's key, which is small
of_key : ℕ → ℕ → ℕ
of_key caller t = 4 * (t % 200) + caller

of_line : (P : Op → Type 0) (caller ten place word : ℕ) → caller < 4 → ten < 5000 → OfEach P word → P (op_at caller ten place word)
unfolding of_key
of_line P caller ten place word low few each =
    pick P _ _ _ (each.put (of_key caller (4 * ten + place)) (omega arith))
    (pick P _ _ _ (each.get (of_key caller (4 * ten)) (omega arith))
    (pick P _ _ _ (each.del (of_key caller (4 * ten + 1)) (omega arith))
    (pick P _ _ _ each.enq
    (pick P _ _ _ (each.get (of_key caller (4 * ten + 1)) (omega arith))
    (pick P _ _ _ (of_graph P caller ten word low few each) (each.get (of_key caller (4 * ten + 2)) (omega arith)))))))

text_of_number : (n : ℕ) → n < 2 ^ 64 → IsText (decimal n)
text_of_number n small = record {
  short = omega (arith, length-decimal-le 20 n (omega arith) (omega arith) small);
  bytes = λ i d within. omega (arith, IsAscii-decimal n small i, get_or_default (decimal n) i d 0 within);
}

pub asked : (caller line word : ℕ) → caller < 4 → line < 5000 → word < 2 ^ 64 → IsOp (op_of caller line word)
asked caller line word low few small =
    of_line IsOp caller (line / 10) (line % 10) word low (omega arith)
    (record {
      put = λ key key_small. (text_of_number key key_small, text_of_number word small);
      get = λ key key_small. text_of_number key key_small;
      del = λ key key_small. text_of_number key key_small;
      enq = (omega arith, small);
      addv = λ vertex vertex_small. (omega arith, vertex_small, small);
      adde = λ from to from_small to_small. (omega arith, from_small, to_small, small);
    })

-- an operation has a unit in the layout of the job
HasUnit : Op → Type 0
HasUnit op = unit_of_op generated_head.layout op ≢ None

pub has_unit : (caller line word : ℕ) → caller < 4 → line < 5000 → unit_of_op generated_head.layout (op_of caller line word) ≢ None
unfolding HasUnit
has_unit caller line word low few =
    of_line HasUnit caller (line / 10) (line % 10) word low (omega arith)
    (record {
      put = λ key key_small. key_has_unit generated_head.layout (decimal key) (lit< tt);
      get = λ key key_small. key_has_unit generated_head.layout (decimal key) (lit< tt);
      del = λ key key_small. key_has_unit generated_head.layout (decimal key) (lit< tt);
      enq = λ e. cc;
      addv = λ vertex small e. cc;
      adde = λ from to small also e. cc;
    })

pub word_small : (first steps : ℕ) → first < 2 ^ 64 → word_after first steps < 2 ^ 64
word_small first zero small = small
word_small first (suc steps) small = omega arith
