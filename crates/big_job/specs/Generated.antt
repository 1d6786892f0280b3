-- The generated job of a number.
use Rattle.std.specs.Prelude.{ℕ, ◌+◌, List, [], map}
use Rattle.std.specs.List.{flat_map, range_with_len}
use Rattle.mont_base.specs.Kinds.{old_kinds}
use Rattle.job_text.specs.declared.header.Head.{Head}
use Rattle.job_text.specs.declared.job.Job.{Job}
use Rattle.job_text.specs.declared.job.Line.{Line}
use Rattle.job_text.specs.declared.job.Deed.TheVariants.{Call}
use Rattle.job_text.specs.Grammar.{job_of}
use Rattle.big_job.specs.CallerWords.{first_word, word_after}
use Rattle.big_job.specs.GeneratedLines.{op_of}

-- a line of a caller is made of the word that comes one step further than that of the line before
abbrev pub line_of_caller : ℕ → ℕ → ℕ → Line
line_of_caller number caller line =
    record {
      caller = caller;
      deed = Call (op_of caller line (word_after (first_word number caller) (line + 1)));
    }

-- the first lines of a caller
unfoldable pub first_lines : ℕ → ℕ → ℕ → List Line
first_lines number caller count = map (line_of_caller number caller) (range_with_len 0 count)

-- the lines of the first callers, one caller after the other
unfoldable pub lines_of_callers : ℕ → ℕ → ℕ → List Line
lines_of_callers number count callers =
    flat_map (λ caller. first_lines number caller count) (range_with_len 0 callers)

-- a map for each of four callers, a queue and a graph
abbrev pub generated_head : Head
generated_head = record {
  layout = record { kinds = old_kinds 4; slots = 2048 };
  callers = 4;
  attempts = 100;
  mask = 0;
}

abbrev pub generated_job : ℕ → Job
generated_job number = job_of generated_head [] (lines_of_callers number 5000 4)
