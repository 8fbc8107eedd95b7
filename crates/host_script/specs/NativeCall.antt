-- One call of a native, for the meaning of a source and for the machine alike. A side brings how it
-- sees an argument of a form and where a place lies; all else is here, in this order: the number of
-- arguments, all of them seen, the answer, its error, its writes tested, the writes and the event.
-- An answer is taken once all arguments were seen, also where it ends the run: then the script's
-- position is the one behind that answer.
use Rattle.std.specs.Prelude.{ℕ, ℤ, pos, List, [], ◌∷◌, Option, None, Some, length, map, slice_get}
use Rattle.std.specs.Prelude.{nat_le, if◌then◌else◌}
use Rattle.host_script.specs.declared.script.Script.{Script}
use Rattle.host_script.specs.declared.script.Form.{Form}
use Rattle.host_script.specs.declared.script.Answer.{Answer}
use Rattle.host_script.specs.declared.script.Answer.TheVariants.{Given, Error}
use Rattle.host_script.specs.declared.script.Write.{Write}
use Rattle.host_script.specs.declared.event.Seen.{Seen}
use Rattle.host_script.specs.declared.event.Event.{Event}
use Rattle.host_script.specs.declared.event.Event.TheVariants as event
use Rattle.host_script.specs.Script.{Turn, native_of, forms_of, turn_of}

-- how a native call ends a run: at a stray access, or in an AMX error
pub data Trap : Type 0 where
  Lost : Trap
  Fault : ℤ → Trap

-- an argument is seen, or the call ends
pub data Sight (A : Type 0) : Type 0 where
  Sees : A → Sight A
  Blind : Trap → Sight A

-- a place where an answer may write, and how many cells
pub record Hold (P : Type 0) : Type 0 where
  pub at : P
  pub cells : ℕ

-- what was seen of an argument, and where it may be written to
pub record Sought (P : Type 0) : Type 0 where
  pub seen : Seen
  pub hold : Option (Hold P)

-- cells that go to a place
pub record Put (P : Type 0) : Type 0 where
  pub to : P
  pub values : List ℤ

-- a call ends the run, with the script's position behind it, or gives an event, a result, that
-- position, and what it writes
pub data Called (P : Type 0) : Type 0 where
  Ends_there : Trap → ℕ → Called P
  Answers : Event → ℤ → ℕ → List (Put P) → Called P

-- error 10: the native
abbrev pub native_error : Trap
native_error = Fault (pos 10)

-- an argument that was seen goes on to what follows
abbrev pub with_sight : {A B : Type 0} → Sight A → (A → Sight B) → Sight B
with_sight (Sees a) go = go a
with_sight (Blind trap) go = Blind trap

-- each argument by its form, until one can't be seen
abbrev pub see_all : {A P : Type 0} → (A → Form → Sight (Sought P)) → List A → List Form
    → Sight (List (Sought P))
see_all see [] forms = Sees []
see_all see (argument ∷ arguments) [] = Sees []
see_all see (argument ∷ arguments) (form ∷ forms) =
    with_sight (see argument form)
    (λ sought. with_sight (see_all see arguments forms) (λ others. Sees (sought ∷ others)))

-- a write of at most so many cells as the argument has
abbrev pub put_into : {P : Type 0} → Option (Hold P) → List ℤ → Option (Put P)
put_into None values = None
put_into (Some hold) values =
    if nat_le (length values) hold.cells then Some (record { to = hold.at; values = values })
    else None

-- of an argument by its number, which may not be there
abbrev pub put_for : {P : Type 0} → Option (Sought P) → List ℤ → Option (Put P)
put_for None values = None
put_for (Some sought) values = put_into sought.hold values

-- one write before others, all of them allowed
abbrev pub with_put : {P : Type 0} → Option (Put P) → Option (List (Put P)) → Option (List (Put P))
with_put None others = None
with_put (Some put) None = None
with_put (Some put) (Some others) = Some (put ∷ others)

-- all writes of an answer, where each is allowed
abbrev pub puts_of : {P : Type 0} → List (Sought P) → List Write → Option (List (Put P))
puts_of arguments [] = Some []
puts_of arguments (write ∷ writes) =
    with_put (put_for (slice_get arguments write.arg) write.cells) (puts_of arguments writes)

-- a write that isn't allowed ends the run, and its answer is taken all the same
abbrev pub answered : {P : Type 0} → List ℕ → List (Sought P) → ℤ → ℕ → Option (List (Put P))
    → Called P
answered name arguments result position None = Ends_there native_error position
answered name arguments result position (Some puts) =
    Answers (event.Native name (map (λ sought. sought.seen) arguments) result) result position puts

-- what an answer does; one that is an error is taken too
abbrev pub called_by : {P : Type 0} → List ℕ → List (Sought P) → Answer → ℕ → Called P
called_by name arguments (Given result writes) position =
    answered name arguments result position (puts_of arguments writes)
called_by name arguments (Error code) position = Ends_there (Fault code) position

-- with an argument that can't be seen no answer is taken
abbrev pub called_with : {P : Type 0} → List ℕ → ℕ → Turn → Sight (List (Sought P)) → Called P
called_with name position turn (Sees arguments) = called_by name arguments turn.answer turn.position
called_with name position turn (Blind trap) = Ends_there trap position

-- with a number of arguments that the native doesn't take no answer is taken
abbrev pub called_on : {A P : Type 0} → (A → Form → Sight (Sought P)) → List ℕ → List A → ℕ → Turn
    → Option (List Form) → Called P
called_on see name arguments position turn None = Ends_there native_error position
called_on see name arguments position turn (Some forms) =
    called_with name position turn (see_all see arguments forms)

-- the call of a native by its name at a position of the script
abbrev pub native_call : {A P : Type 0} → Script → (A → Form → Sight (Sought P)) → List ℕ → List A
    → ℕ → Called P
native_call script see name arguments position =
    let native = native_of script name in
    called_on see name arguments position (turn_of script native position)
    (forms_of native (length arguments))

-- the script's position behind a call
abbrev pub position_after : {P : Type 0} → Called P → ℕ
position_after (Ends_there trap position) = position
position_after (Answers event result position puts) = position
