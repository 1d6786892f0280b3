-- How a run ends that draws nothing: its exit status, and its line.
use Rattle.std.specs.Prelude.{ℕ, List, ◌++◌, codes, decimal}
use Rattle.report_picture.specs.declared.trouble.Trouble.{Trouble}
use Rattle.report_picture.specs.declared.trouble.Trouble.TheVariants.{Words, Read, Write, Line, Memory}

abbrev pub exit_code_of : Trouble → ℕ
exit_code_of Words = 2
exit_code_of Read = 5
exit_code_of Write = 6
exit_code_of (Line line) = 10
exit_code_of Memory = 7

-- without its line feed
abbrev pub trouble_line : Trouble → List ℕ
trouble_line Words = codes "picture: bad words"
trouble_line Read = codes "picture: read fault"
trouble_line Write = codes "picture: write fault"
trouble_line (Line line) = codes "picture: report line " ++ decimal line
trouble_line Memory = codes "picture: out of memory"
