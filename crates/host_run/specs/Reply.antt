-- What is answered to the call of a native, before anything is written.
use Rattle.std.specs.Prelude.{◌≡◌, ◌<◌, ℕ, ℤ, List, Some, Result, Ok, Err, All, true, length, map}
use Rattle.std.specs.Prelude.{option_map}
use Rattle.std.specs.Borrow.{Bor}
use Rattle.host_script.specs.declared.script.Form.{Form}
use Rattle.host_script.specs.declared.script.Write.{Write}
use Rattle.host_script.specs.declared.script.Answer.{Answer}
use Rattle.host_script.specs.declared.script.Answer.TheVariants.{Given, Error}
use Rattle.host_script.specs.declared.event.Event.TheVariants as event
use Rattle.host_script.specs.NativeCall.{Fault, Called, Ends_there, Answers}
use Rattle.amx_ops.specs.State.{State}
use Rattle.amx_ops.specs.Moves.{arguments}
use Rattle.host_run.specs.declared.calls.Reply.{Reply}
use Rattle.host_run.specs.declared.guest.Guest.{Guest}
use Rattle.host_run.specs.Guest.{form_at}
use Rattle.host_run.specs.Sights.{arguments_of, all_seen, sought, put_of, IsRoomFor}

-- an answer that was taken: a result with writes, or an error
abbrev pub IsTaken : Answer → Result (ℤ × Bor (List Write)) ℤ → Type 0
IsTaken answer (Ok taken) = answer ≡ Given taken.0 taken.1.now
IsTaken answer (Err code) = answer ≡ Error code

-- a native answers, with arguments that are seen and writes for which there is room
pub record IsAnswered (name : List ℕ) (form : ℕ → Form) (s : State) (called : Called ℕ)
    (at count : ℕ) (result : ℤ) (writes : List Write) : Type 0 where
  pub counted : option_map length (arguments s) ≡ Some count
  pub visible : all_seen s form 0 (arguments_of s) ≡ true
  pub answers : called ≡ Answers
      (event.Native name (map (λ it. it.seen) (sought s form 0 (arguments_of s))) result) result at
      (map (put_of (arguments_of s)) writes)
  pub there : All (λ write. write.arg < count) writes
  pub room : All (IsRoomFor s (arguments_of s)) writes

-- or its call ends in an error
abbrev pub Replies : List ℕ → Guest → State → Called ℕ → ℕ → Result Reply ℤ → Type 0
Replies name guest s called at (Ok reply) =
    IsAnswered name (form_at guest.forms.now guest.rest) s called at reply.count reply.result
    reply.writes.now
Replies name guest s called at (Err code) = called ≡ Ends_there (Fault code) at
