-- A call of a native keeps a state in its form.
use Rattle.std.proofs.Common.{◌/◌, ℕ, ℤ, List, [], ◌∷◌, Bool, true, false, cond, All, Option}
use Rattle.std.proofs.Common.{None, Some, IfSome, length, slice_get, nat_le}
use Rattle.std.proofs.lemmas.List.Elements.{All-nil, All-head, All-tail}
use Rattle.pawn_cells.specs.Cells.{IsCell}
use Rattle.host_script.specs.declared.script.Script.{Script}
use Rattle.host_script.specs.declared.script.Write.{Write}
use Rattle.host_script.specs.declared.script.Form.{Form}
use Rattle.host_script.specs.declared.script.Answer.{Answer}
use Rattle.host_script.specs.declared.script.Answer.TheVariants.{Given, Error}
use Rattle.host_script.specs.Ranges.{IsWrite, IsAnswer, IsScript}
use Rattle.host_script.specs.Script.{Turn, native_of, forms_of, turn_of}
use Rattle.host_script.specs.NativeCall as call
use Rattle.host_script.specs.NativeCall.{Sight, Sees, Blind, Hold, Sought, Put, Called, Ends_there}
use Rattle.host_script.specs.NativeCall.{Answers, see_all, put_into, put_for, puts_of, called_by}
use Rattle.host_script.specs.NativeCall.{called_with, called_on, native_call}
use Rattle.amx_ops.specs.declared.amx.Amx.{Amx}
use Rattle.amx_ops.specs.State.{State}
use Rattle.amx_ops.specs.States.{IsState}
use Rattle.amx_ops.specs.Keeps.{reached}
use Rattle.amx_ops.specs.Moves.{Config, look, with_write, with_writes, answered, asked}
use Rattle.amx_ops.proofs.AnswerLaws.{turn_is}
use Rattle.amx_ops.proofs.NativeSizes.{IsCalled, with_put_is, call_is, length-written}
use Rattle.amx_ops.proofs.StateLaws.{cells-put, with_pri, with_cells}

-- ---- what it writes: cells

abbrev HasCells : Put ℕ → Type 0
HasCells put = All IsCell put.values

put_by : (to : ℕ) (values : List ℤ) (b : Bool) → All IsCell values
    → IfSome (cond b (Some (record { to = to; values = values })) None) HasCells
put_by to values true c = c
put_by to values false c = tt

put_into_cells : (o : Option (Hold ℕ)) (values : List ℤ) → All IsCell values
    → IfSome (put_into o values) HasCells
put_into_cells None values c = tt
put_into_cells (Some hold) values c = put_by hold.at values (nat_le (length values) hold.cells) c

put_for_cells : (o : Option (Sought ℕ)) (values : List ℤ) → All IsCell values
    → IfSome (put_for o values) HasCells
put_for_cells None values c = tt
put_for_cells (Some sought) values c = put_into_cells sought.hold values c

puts_cells : (seen : List (Sought ℕ)) (writes : List Write) → All IsWrite writes
    → IfSome (puts_of seen writes) (All HasCells)
puts_cells seen [] g = All-nil HasCells
puts_cells seen (write ∷ writes) g =
    with_put_is HasCells (put_for (slice_get seen write.arg) write.cells) (puts_of seen writes)
    (put_for_cells (slice_get seen write.arg) write.cells (All-head IsWrite write writes g).cells)
    (puts_cells seen writes (All-tail IsWrite write writes g))

-- ---- the call

abbrev Gives : Called ℕ → Type 0
Gives (Ends_there trap position) = Unit {0}
Gives (Answers event result position puts) = IsCell result × All HasCells puts

answered_gives : (name : List ℕ) (seen : List (Sought ℕ)) (result : ℤ) (position : ℕ)
    (o : Option (List (Put ℕ))) → IsCell result → IfSome o (All HasCells)
    → Gives (call.answered name seen result position o)
answered_gives name seen result position None c h = tt
answered_gives name seen result position (Some puts) c h = (c, h)

called_by_gives : (name : List ℕ) (seen : List (Sought ℕ)) (answer : Answer) (position : ℕ)
    → IsAnswer answer → Gives (called_by name seen answer position)
called_by_gives name seen (Given result writes) position g =
    answered_gives name seen result position (puts_of seen writes) g.0
    (puts_cells seen writes g.1)
called_by_gives name seen (Error code) position g = tt

called_with_gives : (name : List ℕ) (position : ℕ) (turn : Turn)
    (sight : Sight (List (Sought ℕ))) → IsAnswer turn.answer
    → Gives (called_with name position turn sight)
called_with_gives name position turn (Sees seen) g =
    called_by_gives name seen turn.answer turn.position g
called_with_gives name position turn (Blind trap) g = tt

called_on_gives : (s : State) (name : List ℕ) (cells : List ℤ) (position : ℕ) (turn : Turn)
    (o : Option (List Form)) → IsAnswer turn.answer
    → Gives (called_on (look s) name cells position turn o)
called_on_gives s name cells position turn None g = tt
called_on_gives s name cells position turn (Some forms) g =
    called_with_gives name position turn (see_all (look s) cells forms) g

call_gives : (script : Script) (s : State) (name : List ℕ) (cells : List ℤ) (position : ℕ)
    → IsScript script → Gives (native_call script (look s) name cells position)
call_gives script s name cells position h =
    called_on_gives s name cells position (turn_of script (native_of script name) position)
    (forms_of (native_of script name) (length cells)) (turn_is script name position h)

-- ---- the state then

cells-written : (puts : List (Put ℕ)) (cells : List ℤ) → All HasCells puts → All IsCell cells
    → All IsCell (with_writes puts cells)
cells-written [] cells h c = c
cells-written (put ∷ puts) cells h c =
    cells-written puts (with_write put cells) (All-tail HasCells put puts h)
    (cells-put cells put.values (put.to / 4) _ c (All-head HasCells put puts h))

module _ (amx : Amx) where
  answered_keeps : (called : Called ℕ) (s : State) (c : Config) → IsCalled (length s.cells) called
      → Gives called → IsState amx s → IsState amx (reached (answered called s c)).state
  answered_keeps (Ends_there trap position) s c g f h = h
  answered_keeps (Answers event result position puts) s c g f h =
      with_pri amx (record s { cells = with_writes puts s.cells }) result f.0
      (with_cells amx s (with_writes puts s.cells) (cells-written puts s.cells f.1 h.cells)
      (length-written puts s.cells g) h)

  pub asked_keeps : (script : Script) (name : List ℕ) (o : Option (List ℤ)) (s : State) (c : Config)
      → IsScript script → IsState amx s
      → IsState amx (reached (asked script name o s c)).state
  asked_keeps script name None s c g h = h
  asked_keeps script name (Some cells) s c g h =
      answered_keeps (native_call script (look s) name cells c.position) s c
      (call_is script s name cells c.position) (call_gives script s name cells c.position g) h
