-- What an answer in its ranges gives and writes are cells.
use Rattle.std.proofs.Common.{ℕ, ℤ, List, [], ◌∷◌, Option, None, Some, Bool, true, false, length}
use Rattle.std.proofs.Common.{slice_get, nat_le, if◌then◌else◌}
use Rattle.std.specs.Prelude.{All}
use Rattle.std.proofs.lemmas.List.Elements.{All-head, All-tail}
use Rattle.pawn_cells.specs.Cells.{IsCell}
use Rattle.host_script.specs.declared.script.Script.{Script}
use Rattle.host_script.specs.declared.script.Form.{Form}
use Rattle.host_script.specs.declared.script.Answer.{Answer}
use Rattle.host_script.specs.declared.script.Answer.TheVariants.{Given, Error}
use Rattle.host_script.specs.declared.script.Write.{Write}
use Rattle.host_script.specs.Ranges.{IsWrite, IsAnswer}
use Rattle.host_script.specs.Script.{Turn, native_of, forms_of, turn_of}
use Rattle.host_script.specs.NativeCall.{Sight, Sees, Blind, Hold, Sought, Put, see_all, put_into}
use Rattle.host_script.specs.NativeCall.{put_for, with_put, puts_of, answered, called_by}
use Rattle.host_script.specs.NativeCall.{called_with, called_on, native_call}
use Rattle.pawn_meaning.specs.Natives.{Held, Spot}
use Rattle.gen_sim.proofs.NativeLaws.{PutsFit, AnswerFits}

abbrev OneFits : Option (Put Spot) → Type 0
OneFits None = Unit {0}
OneFits (Some x) = All IsCell x.values

abbrev AllFit : Option (List (Put Spot)) → Type 0
AllFit None = Unit {0}
AllFit (Some xs) = PutsFit xs

into_by : (h : Hold Spot) (values : List ℤ) (b : Bool) → All IsCell values
    → OneFits (if b then Some (record { to = h.at; values = values }) else None)
into_by h values true f = f
into_by h values false f = tt

into_fits : (h : Option (Hold Spot)) (values : List ℤ) → All IsCell values
    → OneFits (put_into h values)
into_fits None values f = tt
into_fits (Some h) values f = into_by h values (nat_le (length values) h.cells) f

for_fits : (x : Option (Sought Spot)) (values : List ℤ) → All IsCell values
    → OneFits (put_for x values)
for_fits None values f = tt
for_fits (Some x) values f = into_fits x.hold values f

with_fits : (x : Option (Put Spot)) (xs : Option (List (Put Spot))) → OneFits x → AllFit xs
    → AllFit (with_put x xs)
with_fits None xs f g = tt
with_fits (Some x) None f g = tt
with_fits (Some x) (Some xs) f g = (f, g)

puts_fit : (xs : List (Sought Spot)) (writes : List Write) → All IsWrite writes
    → AllFit (puts_of xs writes)
puts_fit xs [] h = tt
puts_fit xs (write ∷ writes) h =
    with_fits (put_for (slice_get xs write.arg) write.cells) (puts_of xs writes)
    (for_fits (slice_get xs write.arg) write.cells (All-head IsWrite write writes h).cells)
    (puts_fit xs writes (All-tail IsWrite write writes h))

answered_fits : (name : List ℕ) (xs : List (Sought Spot)) (result : ℤ) (position : ℕ)
    (o : Option (List (Put Spot))) → IsCell result → AllFit o
    → AnswerFits (answered name xs result position o)
answered_fits name xs result position None f g = tt
answered_fits name xs result position (Some puts) f g = (f, g)

by_fits : (name : List ℕ) (xs : List (Sought Spot)) (answer : Answer) (position : ℕ)
    → IsAnswer answer → AnswerFits (called_by name xs answer position)
by_fits name xs (Given result writes) position h =
    answered_fits name xs result position (puts_of xs writes) h.0 (puts_fit xs writes h.1)
by_fits name xs (Error code) position h = tt

with_sight_fits : (name : List ℕ) (position : ℕ) (turn : Turn) (o : Sight (List (Sought Spot)))
    → IsAnswer turn.answer → AnswerFits (called_with name position turn o)
with_sight_fits name position turn (Sees xs) h = by_fits name xs turn.answer turn.position h
with_sight_fits name position turn (Blind trap) h = tt

on_fits : (see : Held → Form → Sight (Sought Spot)) (name : List ℕ) (held : List Held)
    (position : ℕ) (turn : Turn) (o : Option (List Form)) → IsAnswer turn.answer
    → AnswerFits (called_on see name held position turn o)
on_fits see name held position turn None h = tt
on_fits see name held position turn (Some forms) h =
    with_sight_fits name position turn (see_all see held forms) h

-- where the answer whose turn it is keeps its ranges
pub answer_fits : (script : Script) (see : Held → Form → Sight (Sought Spot)) (name : List ℕ)
    (held : List Held) (position : ℕ)
    → IsAnswer (turn_of script (native_of script name) position).answer
    → AnswerFits (native_call script see name held position)
answer_fits script see name held position h =
    on_fits see name held position (turn_of script (native_of script name) position)
    (forms_of (native_of script name) (length held)) h
