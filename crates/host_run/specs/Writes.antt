-- The writes of an answer, to the addresses that a call's arguments are.
use Rattle.std.specs.Prelude.{ℤ, pos, List, map}
use Rattle.std.specs.List.{slice_index_or}
use Rattle.host_script.specs.declared.script.Write.{Write}
use Rattle.amx_ops.specs.State.{State}
use Rattle.amx_ops.specs.Moves.{with_writes}
use Rattle.amx_machine.specs.Machine.{Machine}
use Rattle.host_run.specs.Sights.{arguments_of, put_of}

-- the arguments that writes go to
abbrev pub addresses_of : State → List Write → List ℤ
addresses_of s writes =
    map (λ (write : Write). slice_index_or (arguments_of s) write.arg (pos 0)) writes

-- the machine with writes done
abbrev pub written : List Write → Machine → Machine
written writes m =
    record m {
      state = record m.state
          { cells = with_writes (map (put_of (arguments_of m.state)) writes) m.state.cells };
    }
