-- Scripts that keep their form: each number, length and count in its range, each byte below 256.
use Rattle.std.specs.Prelude.{ℕ, List, ◌≢◌, ◌<◌, ◌≤◌, ◌≤ℤ◌, pos, FitsSigned, All, IfSome, length}
use Rattle.std.specs.Prelude.{map, nat_eq}
use Rattle.std.specs.Int.{w32}
use Rattle.std.specs.List.{IsDistinct}
use Rattle.std.specs.Cmp.Lexicographic.{pointwise}
use Rattle.host_script.specs.declared.script.TheConstants.{NAME_LIMIT, FORM_LIMIT, CELL_LIMIT}
use Rattle.host_script.specs.declared.script.TheConstants.{ARGUMENT_LIMIT, ANSWER_LIMIT}
use Rattle.host_script.specs.declared.script.Script.{Script}
use Rattle.host_script.specs.declared.script.Native.{Native}
use Rattle.host_script.specs.declared.script.Form.{Form}
use Rattle.host_script.specs.declared.script.Form.TheVariants.{Cell, Ref, Text, Cells}
use Rattle.host_script.specs.declared.script.Write.{Write}
use Rattle.host_script.specs.declared.script.Answer.{Answer}
use Rattle.host_script.specs.declared.script.Answer.TheVariants.{Given, Error}

-- an array has one cell or more, but not too many
abbrev pub IsForm : Form → Type 0
IsForm Cell = Unit {0}
IsForm Ref = Unit {0}
IsForm Text = Unit {0}
IsForm (Cells count) = (1 ≤ count) × (count ≤ CELL_LIMIT)

-- a native's is some bytes, but not too many
pub record IsName (name : List ℕ) : Type 0 where
  pub some : 1 ≤ length name
  pub few : length name ≤ NAME_LIMIT
  pub bytes : All (λ byte. byte < 256) name

-- what a script lists
pub record IsNative (native : Native) : Type 0 where
  pub name : IsName native.name
  pub count : length native.forms ≤ FORM_LIMIT
  pub forms : All IsForm native.forms
  pub rest : IfSome native.rest IsForm
  pub result : IfSome native.result (FitsSigned w32)

-- an argument by its number, and what it gets
pub record IsWrite (write : Write) : Type 0 where
  pub arg : write.arg ≤ ARGUMENT_LIMIT
  pub cells : All (FitsSigned w32) write.cells

-- errors from 2 to 127 but the sleep
abbrev pub IsAnswer : Answer → Type 0
IsAnswer (Given result writes) = FitsSigned w32 result × All IsWrite writes
IsAnswer (Error code) = (pos 2 ≤ℤ code) × (code ≤ℤ pos 127) × (code ≢ pos 12)

-- no native is listed twice
pub record IsScript (script : Script) : Type 0 where
  pub natives : All IsNative script.natives
  pub once : IsDistinct (pointwise nat_eq) (map (λ (native : Native). native.name) script.natives)
  pub answers : All IsAnswer script.answers
  pub count : length script.answers ≤ ANSWER_LIMIT
