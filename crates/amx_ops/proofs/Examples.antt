-- Traces of small files, computed.
use Rattle.std.proofs.Common.{◌≡◌, ℕ, ℤ, pos, List, [], ◌∷◌, codes, map, refl}
use Rattle.host_script.specs.Script.{plain}
use Rattle.host_script.specs.declared.event.Seen.TheVariants.{Cell}
use Rattle.host_script.specs.declared.event.Event.TheVariants as event
use Rattle.host_script.specs.declared.event.End.TheVariants as end
use Rattle.amx_ops.specs.declared.amx.Amx.{Amx}
use Rattle.amx_ops.specs.Runs.{Steps, Over_by, segment}
use Rattle.amx_ops.specs.Table.{row_at}
use Rattle.amx_ops.specs.Trace.{trace_from}
use Rattle.amx_ops.proofs.Made.{amx_of}

abbrev pub file_of : List ℤ → List (List ℕ) → Amx
file_of code names =
    amx_of 0 8 code [] 4096 (pos 8) []
    (map (λ name. record { address = pos 0; name = name }) names) [] [] []

-- HALT 0; PROC, ZERO.pri, RETN
abbrev pub empty_main : List ℤ
empty_main = pos 120 ∷ pos 0 ∷ pos 46 ∷ pos 89 ∷ pos 48 ∷ []

empty_main_is_done : (trace_from (file_of empty_main []) 4096 plain (pos 8) 10000000 []).stop
    ≡ Over_by (end.Done (pos 0))
unfolding segment row_at
empty_main_is_done = refl

-- the bound falls before the end
two_steps_are_not_enough : (trace_from (file_of empty_main []) 4096 plain (pos 8) 2 []).stop ≡ Steps
unfolding segment row_at
two_steps_are_not_enough = refl

-- the start finds no room, and PROC leaves no margin
no_room_to_start : (trace_from (file_of empty_main []) 1 plain (pos 8) 10 []).stop
    ≡ Over_by (end.Error (pos 3))
unfolding segment row_at
no_room_to_start = refl

no_margin : (trace_from (file_of empty_main []) 18 plain (pos 8) 10 []).stop
    ≡ Over_by (end.Error (pos 3))
unfolding segment row_at
no_margin = refl

-- HALT 0; PUSH.C 1
push_without_room : (trace_from (file_of (pos 120 ∷ pos 0 ∷ pos 39 ∷ pos 1 ∷ []) []) 2 plain
    (pos 8) 10 []).stop ≡ Over_by (end.Error (pos 3))
unfolding segment row_at
push_without_room = refl

-- HALT 0; PROC, PUSH.C 7, PUSH.C 4, SYSREQ.C 0, STACK 8, ZERO.alt, CONST.pri 3, HALT 1
abbrev call_then_exit : List ℤ
call_then_exit =
    pos 120 ∷ pos 0 ∷ pos 46 ∷ pos 39 ∷ pos 7 ∷ pos 39 ∷ pos 4 ∷ pos 123 ∷ pos 0 ∷ pos 44 ∷ pos 8
    ∷ pos 90 ∷ pos 11 ∷ pos 3 ∷ pos 120 ∷ pos 1 ∷ []

native_then_exit : (trace_from (file_of call_then_exit (codes "p" ∷ [])) 4096 plain
    (pos 8) 100 []).config.events
    ≡ event.Native (codes "p") (Cell (pos 7) ∷ []) (pos 0) ∷ []
unfolding segment row_at
native_then_exit = refl

exit_has_its_value : (trace_from (file_of call_then_exit (codes "p" ∷ [])) 4096 plain
    (pos 8) 100 []).stop ≡ Over_by (end.Exit (pos 3) (pos 0))
unfolding segment row_at
exit_has_its_value = refl
