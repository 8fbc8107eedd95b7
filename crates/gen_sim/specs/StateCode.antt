-- The code of `state` and `sleep`. The automaton's cell is written first, and then its entry
-- function is called, where there is one that serves the state.
use Rattle.std.specs.Prelude.{◌+◌, ◌*◌, ℕ, pos, List, [], ◌∷◌, ◌++◌, Option, None, Some}
use Rattle.std.specs.Prelude.{slice_get}
use Rattle.pawn_cells.specs.Cells.{cell_of}
use Rattle.pawn_meaning.specs.Program.{Program}
use Rattle.pawn_meaning.specs.Calls.{enter_of, entry_for}
use Rattle.amx_ops.specs.declared.op.Op.TheVariants as op
use Rattle.gen_sim.specs.Pieces.{total, objects_from}
use Rattle.gen_sim.specs.Items.{Item, CallOf}
use Rattle.gen_sim.specs.SimpleCode.{taking}
use Rattle.gen_sim.specs.JumpCode.{cond_code}

-- the entry function that a switch to a state calls
abbrev pub entry_of : Program → (automaton state : ℕ) → Option ℕ
entry_of program automaton state =
    entry_for program automaton state (enter_of (slice_get program.automata automaton))

-- the number of an automaton's cell: the automata are behind the objects
abbrev pub automaton_cell : Program → ℕ → ℕ
automaton_cell program automaton = total (objects_from 0 program.objects) + automaton

-- a call without arguments, where there is an entry function
abbrev pub enter_code : Option ℕ → List Item
enter_code None = []
enter_code (Some f) = taking op.PushC (pos 0) ∷ CallOf f ∷ []

-- the cell is 0 for no state, else one more than the state's number
abbrev pub switched_code : Program → (automaton state : ℕ) → List Item
switched_code program automaton state =
    taking op.ConstPri (pos (state + 1))
    ∷ taking op.StorPri (pos (4 * automaton_cell program automaton))
    ∷ enter_code (entry_of program automaton state)

-- the automaton switches only where the condition isn't 0
abbrev pub state_code : Program → (begin automaton state : ℕ) → List Item → List Item
state_code program begin automaton state condition =
    cond_code begin condition (switched_code program automaton state) []

-- HALT 12 sleeps with the value in PRI and the tag in ALT
abbrev pub sleep_code : ℕ → List Item → List Item
sleep_code tag value = value ++ (taking op.ConstAlt (cell_of tag) ∷ taking op.Halt (pos 12) ∷ [])
