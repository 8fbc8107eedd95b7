-- Sleeps under several bounds, and natives with each form of argument, computed.
use Rattle.std.proofs.Common.{◌≡◌, ℕ, ℤ, pos, List, [], ◌∷◌, None, false, codes, refl}
use Rattle.host_script.specs.Script.{plain}
use Rattle.host_script.specs.declared.script.Script.{Script}
use Rattle.host_script.specs.declared.script.Form.{Form}
use Rattle.host_script.specs.declared.script.Form.TheVariants as form
use Rattle.host_script.specs.declared.script.Answer.{Answer}
use Rattle.host_script.specs.declared.script.Answer.TheVariants as answer
use Rattle.host_script.specs.declared.event.Seen.TheVariants as seen
use Rattle.host_script.specs.declared.event.Event.TheVariants as event
use Rattle.host_script.specs.declared.event.End.{End}
use Rattle.host_script.specs.declared.event.End.TheVariants as end
use Rattle.amx_ops.specs.declared.amx.Amx.{Amx}
use Rattle.amx_ops.specs.Table.{row_at}
use Rattle.amx_ops.specs.Runs.{Steps, Asleep, Over_by, segment, Traced}
use Rattle.amx_ops.specs.Moves.{Config}
use Rattle.amx_ops.specs.Trace.{trace_from}

abbrev file_of : List ℤ → Amx
file_of code = record {
  flags = 0;
  version = 8;
  code = code;
  store = pos 7 ∷ pos 0x48690000 ∷ pos 72 ∷ pos 0 ∷ [];
  room = 40;
  entry = pos 8;
  publics = [];
  natives = record { address = pos 0; name = codes "p" } ∷ [];
  libraries = [];
  variables = [];
  tags = [];
}

-- HALT 0; CONST.pri 5, HALT 12, ZERO.pri, HALT 0
abbrev sleeper : Amx
sleeper =
    file_of (pos 120 ∷ pos 0 ∷ pos 11 ∷ pos 5 ∷ pos 120 ∷ pos 12 ∷ pos 89 ∷ pos 120 ∷ pos 0 ∷ [])

abbrev slept : List ℕ → Traced Config End
slept bounds = trace_from sleeper 40 plain (pos 8) 10 bounds

one_bound_is_asleep : (slept []).stop ≡ Asleep
unfolding segment row_at
one_bound_is_asleep = refl

second_bound_goes_on : (slept (10 ∷ [])).stop ≡ Over_by (end.Done (pos 0))
unfolding segment row_at
second_bound_goes_on = refl

-- of both segments together
steps_are_of_all : (slept (10 ∷ [])).steps ≡ 4
unfolding segment row_at
steps_are_of_all = refl

second_bound_is_used_up : (slept (1 ∷ [])).stop ≡ Steps
unfolding segment row_at
second_bound_is_used_up = refl

sleep_is_shown : (slept []).config.events ≡ event.Slept (pos 5) (pos 0) ∷ []
unfolding segment row_at
sleep_is_shown = refl

-- ---- one native of one argument

abbrev script : Form → List Answer → Script
script f answers = record {
  others = false;
  natives = record { name = codes "p"; forms = f ∷ []; rest = None; result = None } ∷ [];
  answers = answers;
}

-- HALT 0; PUSH.C v, PUSH.C 4, SYSREQ.C 0, LOAD.pri 0, HALT 0
abbrev caller : ℤ → Amx
caller v =
    file_of (pos 120 ∷ pos 0 ∷ pos 39 ∷ v ∷ pos 39 ∷ pos 4 ∷ pos 123 ∷ pos 0 ∷ pos 1 ∷ pos 0
    ∷ pos 120 ∷ pos 0 ∷ [])

abbrev called : Form → List Answer → ℤ → Traced Config End
called f answers v = trace_from (caller v) 40 (script f answers) (pos 8) 10 []

cell_is_seen : (called form.Cell [] (pos 3)).config.events
    ≡ event.Native (codes "p") (seen.Cell (pos 3) ∷ []) (pos 0) ∷ []
unfolding segment row_at
cell_is_seen = refl

reference_is_seen : (called form.Ref [] (pos 0)).config.events
    ≡ event.Native (codes "p") (seen.Ref (pos 7) ∷ []) (pos 0) ∷ []
unfolding segment row_at
reference_is_seen = refl

cells_are_seen : (called (form.Cells 2) [] (pos 8)).config.events
    ≡ event.Native (codes "p") (seen.Cells (pos 72 ∷ pos 0 ∷ []) ∷ []) (pos 0) ∷ []
unfolding segment row_at
cells_are_seen = refl

packed_text_is_seen : (called form.Text [] (pos 4)).config.events
    ≡ event.Native (codes "p") (seen.Text (pos 72 ∷ pos 105 ∷ []) ∷ []) (pos 0) ∷ []
unfolding segment row_at
packed_text_is_seen = refl

text_is_seen : (called form.Text [] (pos 8)).config.events
    ≡ event.Native (codes "p") (seen.Text (pos 72 ∷ []) ∷ []) (pos 0) ∷ []
unfolding segment row_at
text_is_seen = refl

reference_is_aligned : (called form.Ref [] (pos 2)).stop ≡ Over_by (end.Error (pos 10))
unfolding segment row_at
reference_is_aligned = refl

-- an answer writes to the argument, and gives its result
abbrev writing : Answer
writing = answer.Given (pos 9) (record { arg = 0; cells = pos 11 ∷ [] } ∷ [])

write_is_done : (called form.Ref (writing ∷ []) (pos 0)).stop ≡ Over_by (end.Done (pos 11))
unfolding segment row_at
write_is_done = refl

write_to_a_cell_is_refused : (called form.Cell (writing ∷ []) (pos 0)).stop
    ≡ Over_by (end.Error (pos 10))
unfolding segment row_at
write_to_a_cell_is_refused = refl

refused_write_took_its_answer : (called form.Cell (writing ∷ []) (pos 0)).config.position ≡ 1
unfolding segment row_at
refused_write_took_its_answer = refl

scripts_error : (called form.Cell (answer.Error (pos 20) ∷ []) (pos 0)).stop
    ≡ Over_by (end.Error (pos 20))
unfolding segment row_at
scripts_error = refl

error_took_its_answer : (called form.Cell (answer.Error (pos 20) ∷ []) (pos 0)).config.position ≡ 1
unfolding segment row_at
error_took_its_answer = refl

-- HALT 0; PUSH.C 0, SYSREQ.C 0
wrong_number : (trace_from (file_of (pos 120 ∷ pos 0 ∷ pos 39 ∷ pos 0 ∷ pos 123 ∷ pos 0 ∷ [])) 40
    (script form.Cell (writing ∷ [])) (pos 8) 10 []).stop
    ≡ Over_by (end.Error (pos 10))
unfolding segment row_at
wrong_number = refl

wrong_number_took_no_answer : (trace_from
    (file_of (pos 120 ∷ pos 0 ∷ pos 39 ∷ pos 0 ∷ pos 123 ∷ pos 0 ∷ [])) 40
    (script form.Cell (writing ∷ [])) (pos 8) 10 []).config.position ≡ 0
unfolding segment row_at
wrong_number_took_no_answer = refl
