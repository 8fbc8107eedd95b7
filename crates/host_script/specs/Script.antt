-- Native scripts: which native a name means, the forms of its arguments, and what it answers.
use Rattle.std.specs.Prelude.{ℕ, zero, suc, ◌+◌, ℤ, pos, negsuc, List, [], ◌∷◌, Option, None, Some}
use Rattle.std.specs.Prelude.{option_map, find, map, replicate, slice_get, nat_eq, nat_lt, true}
use Rattle.std.specs.Prelude.{if◌then◌else◌}
use Rattle.std.specs.Int.{w32, cast_unsigned, to_be_bytes}
use Rattle.std.specs.List.{flat_map}
use Rattle.std.specs.Cmp.Lexicographic.{pointwise}
use Rattle.host_script.specs.declared.script.Script.{Script}
use Rattle.host_script.specs.declared.script.Native.{Native}
use Rattle.host_script.specs.declared.script.Form.{Form}
use Rattle.host_script.specs.declared.script.Form.TheVariants.{Cell}
use Rattle.host_script.specs.declared.script.Answer.{Answer}
use Rattle.host_script.specs.declared.script.Answer.TheVariants.{Given}

-- every native sees cells and answers 0
abbrev pub plain : Script
plain = record { others = true; natives = []; answers = [] }

-- a native that isn't listed sees cells and answers 0
abbrev pub unlisted : List ℕ → Native
unlisted name = record { name = name; forms = []; rest = Some Cell; result = Some (pos 0) }

-- what a script lists for a name, where it lists the name
abbrev pub listed_or : Option Native → List ℕ → Native
listed_or None name = unlisted name
listed_or (Some native) name = native

-- the native that a name means
abbrev pub native_of : Script → List ℕ → Native
native_of script name =
    listed_or (find (λ native. pointwise nat_eq native.name name) script.natives) name

-- a form for each of so many arguments, where the native takes so many
abbrev pub forms_from : List Form → Option Form → ℕ → Option (List Form)
forms_from [] rest zero = Some []
forms_from [] None (suc count) = None
forms_from [] (Some form) (suc count) = Some (replicate (suc count) form)
forms_from (form ∷ forms) rest zero = None
forms_from (form ∷ forms) rest (suc count) =
    option_map (λ others. form ∷ others) (forms_from forms rest count)

-- of a call of a native with so many arguments
abbrev pub forms_of : Native → ℕ → Option (List Form)
forms_of native count = forms_from native.forms native.rest count

-- what a native answers, and the script's position after it
pub record Turn : Type 0 where
  pub answer : Answer
  pub position : ℕ

-- past the last answer a native answers 0, and the position stays
abbrev pub turn_at : Option Answer → ℕ → Turn
turn_at None position = record { answer = Given (pos 0) []; position = position }
turn_at (Some answer) position = record { answer = answer; position = position + 1 }

-- by the result that is the native's own, if it has one
abbrev pub turn_by : Option ℤ → Script → ℕ → Turn
turn_by (Some result) script position = record { answer = Given result []; position = position }
turn_by None script position = turn_at (slice_get script.answers position) position

-- a native with a result answers it; another one takes the script's next answer
abbrev pub turn_of : Script → Native → ℕ → Turn
turn_of script native position = turn_by native.result script position

-- ---- texts

-- the bytes of a cell, the most significant first
abbrev pub bytes_of : ℤ → List ℤ
bytes_of cell = map pos (to_be_bytes w32 (cast_unsigned w32 cell))

-- up to the zero that ends it, or none where there is no zero
abbrev pub before_zero : List ℤ → Option (List ℤ)
before_zero [] = None
before_zero (pos zero ∷ cells) = Some []
before_zero (pos (suc n) ∷ cells) = option_map (λ others. pos (suc n) ∷ others) (before_zero cells)
before_zero (negsuc n ∷ cells) = option_map (λ others. negsuc n ∷ others) (before_zero cells)

-- the characters of a text that begins at these cells: packed exactly where the first cell, without
-- sign, is above 0x00FFFFFF
abbrev pub characters : List ℤ → Option (List ℤ)
characters [] = None
characters (cell ∷ cells) =
    if nat_lt 0xFFFFFF (cast_unsigned w32 cell)
    then before_zero (flat_map bytes_of (cell ∷ cells))
    else before_zero (cell ∷ cells)
