-- The answers of a script: a result and writes, or an error alone.
use Rattle.std.specs.Prelude.{ℕ, ℤ, pos, List, [], ◌∷◌, ◌++◌, codes, Option, Some, None}
use Rattle.std.specs.Prelude.{if◌then◌else◌}
use Rattle.std.specs.Ordering.{int_eq}
use Rattle.serde_json.specs.Data.{Data}
use Rattle.serde_json.specs.Find.{get, as_array, as_object}
use Rattle.host_script.specs.declared.script.TheConstants.{ARGUMENT_LIMIT, ANSWER_LIMIT}
use Rattle.host_script.specs.declared.script.Answer.{Answer}
use Rattle.host_script.specs.declared.script.Answer.TheVariants.{Given, Error}
use Rattle.host_script.specs.declared.script.Write.{Write}
use Rattle.script_reader.specs.declared.fault.Field.TheVariants as field
use Rattle.script_reader.specs.declared.fault.ScriptFault.TheVariants.{Range}
use Rattle.script_reader.specs.Verdict.{Verdict, Stands, broken, after, also, each}
use Rattle.script_reader.specs.Rules.{fields_rule, optional, required, typed, counted, whole_rule}
use Rattle.script_reader.specs.Rules.{cell_rule, natural_rule}

-- ---- writes

-- one cell more
unfoldable pub cell_step : List ℤ → Data → Verdict (List ℤ)
cell_step done d = after (cell_rule field.Cells d) (λ cell. Stands (done ++ cell ∷ []))

-- a list of cells
unfoldable pub cells_rule : Data → Verdict (List ℤ)
cells_rule d = typed field.Cells (each cell_step []) (as_array d)

-- an argument's number, and what goes there
abbrev pub write_with : ℕ → List ℤ → Write
write_with arg cells = record { arg = arg; cells = cells }

-- both fields must be there
unfoldable pub write_rule : Data → Verdict Write
write_rule d =
    after (fields_rule field.Writes (codes "arg" ∷ codes "cells" ∷ []) (as_object d)) (λ _.
    also (also (Stands write_with)
    (required field.Writes (natural_rule field.Arg ARGUMENT_LIMIT) (get (codes "arg") d)))
    (required field.Writes cells_rule (get (codes "cells") d)))

-- one write more
unfoldable pub write_step : List Write → Data → Verdict (List Write)
write_step done d = after (write_rule d) (λ write. Stands (done ++ write ∷ []))

-- a list of writes
unfoldable pub writes_rule : Data → Verdict (List Write)
writes_rule d = typed field.Writes (each write_step []) (as_array d)

-- ---- answers

-- from 2 to 127, and not the sleep
unfoldable pub error_rule : Data → Verdict Answer
error_rule d = after (whole_rule field.Error (pos 2) (pos 127) d) (λ code.
    if int_eq code (pos 12) then broken (Range field.Error) else Stands (Error code))

-- an answer that is no error
abbrev pub given_with : ℤ → List Write → Answer
given_with result writes = Given result writes

-- by its error, if it has one, which stands alone
abbrev pub answer_by : Data → Option Data → Verdict Answer
answer_by d None =
    also (also (Stands given_with)
    (optional (pos 0) (cell_rule field.Result) (get (codes "result") d)))
    (optional [] writes_rule (get (codes "writes") d))
answer_by d (Some error) =
    after (fields_rule field.Error (codes "error" ∷ []) (as_object d)) (λ _. error_rule error)

-- an answer is an object
unfoldable pub answer_rule : Data → Verdict Answer
answer_rule d =
    after (fields_rule field.Answers (codes "result" ∷ codes "writes" ∷ codes "error" ∷ [])
    (as_object d)) (λ _.
    answer_by d (get (codes "error") d))

-- one answer more
unfoldable pub answer_step : List Answer → Data → Verdict (List Answer)
answer_step done d = after (answer_rule d) (λ answer. Stands (done ++ answer ∷ []))

-- a list of answers, not too long
unfoldable pub answers_rule : Data → Verdict (List Answer)
answers_rule d =
    typed field.Answers (counted field.Answers ANSWER_LIMIT (each answer_step [])) (as_array d)
