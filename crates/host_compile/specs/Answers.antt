-- What is read of an answer.
use Rattle.std.specs.Prelude.{ℕ, ℤ, pos, negsuc, List, [], Option, None, Some, Ok, Err}
use Rattle.pawn_front.specs.declared.compiled.Warning.{Warning}
use Rattle.pawn_front.specs.declared.fault.CompileFault.{CompileFault}
use Rattle.pawn_front.specs.declared.fault.CompileFault.TheVariants as fault
use Rattle.host_compile.specs.Sources.{Answer}

-- the program's status that a fault leads to
abbrev pub status_by : CompileFault → ℤ
status_by (fault.Refused kind file line) = pos 1
status_by fault.NoSource = pos 3
status_by (fault.TooLarge file) = pos 4
status_by fault.Files = pos 5
status_by fault.Memory = pos 15

-- 0 where there is a file, and -1 before the first answer
abbrev pub status_of : Option Answer → ℤ
status_of None = negsuc 0
status_of (Some (Ok it)) = pos 0
status_of (Some (Err fault)) = status_by fault

-- the bytes of the file, if there is one
abbrev pub bytes_of : Option Answer → List ℕ
bytes_of None = []
bytes_of (Some (Ok it)) = it.bytes
bytes_of (Some (Err fault)) = []

-- the warnings of its source
abbrev pub warnings_of : Option Answer → List Warning
warnings_of None = []
warnings_of (Some (Ok it)) = it.warnings
warnings_of (Some (Err fault)) = []

-- ---- refusals

-- the number of the rule that is broken, or 0
abbrev pub rule_by : CompileFault → ℕ
rule_by (fault.Refused kind file line) = kind
rule_by fault.NoSource = 0
rule_by (fault.TooLarge file) = 0
rule_by fault.Files = 0
rule_by fault.Memory = 0

-- the name of the file that breaks it or is too large
abbrev pub file_by : CompileFault → List ℕ
file_by (fault.Refused kind file line) = file
file_by fault.NoSource = []
file_by (fault.TooLarge file) = file
file_by fault.Files = []
file_by fault.Memory = []

-- the number of the line that breaks it, or 0
abbrev pub line_by : CompileFault → ℕ
line_by (fault.Refused kind file line) = line
line_by fault.NoSource = 0
line_by (fault.TooLarge file) = 0
line_by fault.Files = 0
line_by fault.Memory = 0

-- of an answer
abbrev pub rule_of : Option Answer → ℕ
rule_of None = 0
rule_of (Some (Ok it)) = 0
rule_of (Some (Err fault)) = rule_by fault

-- the same of the file
abbrev pub file_of : Option Answer → List ℕ
file_of None = []
file_of (Some (Ok it)) = []
file_of (Some (Err fault)) = file_by fault

-- and of the line
abbrev pub line_of : Option Answer → ℕ
line_of None = 0
line_of (Some (Ok it)) = 0
line_of (Some (Err fault)) = line_by fault
