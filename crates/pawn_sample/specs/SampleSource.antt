-- The source of the sample program of so many functions: each changes an array of its own file and
-- adds up what it finds there, and main calls all of them ten times.
use Rattle.std.specs.Prelude.{◌++◌, ℕ, zero, suc, List, [], codes}
use Rattle.std.specs.Fmt.{decimal}

-- the lines of the numbers below a count, in order
abbrev pub lines_below : (ℕ → List ℕ) → ℕ → List ℕ
lines_below line zero = []
lines_below line (suc n) = lines_below line n ++ line n

-- a number between two texts
abbrev pub numbered : List ℕ → ℕ → List ℕ → List ℕ
numbered front n back = front ++ (decimal n ++ back)

-- the head of a function by its number
abbrev pub head_text : ℕ → List ℕ
head_text n = numbered (codes "f") n (codes "(x) { ")

-- its body: what it does to the array from its number and its parameter on, and what it returns
abbrev pub body_text : ℕ → List ℕ
body_text n =
    numbered (codes "new s = ") n
    (codes "; for (new i = 0; i < 16; i++) { a[i] += x + i; s += a[i] % 7; } return s; }\n")

-- the line of a function by its number
abbrev pub function_line : ℕ → List ℕ
function_line n = head_text n ++ body_text n

-- the line of its call
abbrev pub call_line : ℕ → List ℕ
call_line n = numbered (codes "t += f") n (codes "(r);\n")

-- the lines of main, which calls so many functions in each of its rounds
abbrev pub main_lines : ℕ → List ℕ
main_lines functions =
    codes "main() {\nnew t = 0;\nfor (new r = 0; r < 10; r++) {\n"
    ++ (lines_below call_line functions ++ codes "}\nreturn t;\n}\n")

-- the whole
abbrev pub sample_source : ℕ → List ℕ
sample_source functions =
    codes "new a[16];\n" ++ (lines_below function_line functions ++ main_lines functions)
