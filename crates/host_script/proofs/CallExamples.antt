-- Calls of a native that sees one cell, on a side that has values alone: the script's position is
-- behind an answer that ends the run, and stays where none was taken.
use Rattle.std.proofs.Common.{◌≡◌, ℕ, ℤ, pos, List, [], ◌∷◌, None, false, codes, refl}
use Rattle.host_script.specs.declared.script.Script.{Script}
use Rattle.host_script.specs.declared.script.Form.{Form}
use Rattle.host_script.specs.declared.script.Form.TheVariants as form
use Rattle.host_script.specs.declared.script.Answer.{Answer}
use Rattle.host_script.specs.declared.script.Answer.TheVariants.{Given, Error}
use Rattle.host_script.specs.declared.event.Seen.TheVariants as seen
use Rattle.host_script.specs.declared.event.Event.TheVariants as event
use Rattle.host_script.specs.NativeCall.{Sight, Sees, Blind, Sought, Called, Ends_there, Answers}
use Rattle.host_script.specs.NativeCall.{Lost, Fault, native_call}

-- a value is seen as a cell, and as nothing else
abbrev see : ℤ → Form → Sight (Sought ℕ)
see v form.Cell = Sees (record { seen = seen.Cell v; hold = None })
see v form.Ref = Blind Lost
see v form.Text = Blind Lost
see v (form.Cells count) = Blind Lost

-- the native p with one argument of a form, and the script's answers
abbrev script : Form → List Answer → Script
script it answers = record {
  others = false;
  natives = record { name = codes "p"; forms = it ∷ []; rest = None; result = None } ∷ [];
  answers = answers;
}

abbrev called : Form → List Answer → List ℤ → Called ℕ
called it answers arguments = native_call (script it answers) see (codes "p") arguments 0

given : called form.Cell (Given (pos 5) [] ∷ []) (pos 1 ∷ [])
    ≡ Answers (event.Native (codes "p") (seen.Cell (pos 1) ∷ []) (pos 5)) (pos 5) 1 []
given = refl

past_the_last : called form.Cell [] (pos 1 ∷ [])
    ≡ Answers (event.Native (codes "p") (seen.Cell (pos 1) ∷ []) (pos 0)) (pos 0) 0 []
past_the_last = refl

error_is_taken : called form.Cell (Error (pos 7) ∷ []) (pos 1 ∷ []) ≡ Ends_there (Fault (pos 7)) 1
error_is_taken = refl

-- no write goes to a cell, not even one of no cells
forbidden_write_is_taken : called form.Cell
    (Given (pos 0) (record { arg = 0; cells = [] } ∷ []) ∷ []) (pos 1 ∷ [])
    ≡ Ends_there (Fault (pos 10)) 1
forbidden_write_is_taken = refl

number_takes_none : called form.Cell (Given (pos 5) [] ∷ []) [] ≡ Ends_there (Fault (pos 10)) 0
number_takes_none = refl

unseen_takes_none : called form.Ref (Error (pos 7) ∷ []) (pos 1 ∷ []) ≡ Ends_there Lost 0
unseen_takes_none = refl
