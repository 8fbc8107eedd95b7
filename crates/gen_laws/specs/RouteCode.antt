-- The code of a function with a route: PROC, and SWITCH by the automaton's cell; behind the case
-- table HALT 13, for no body, and then the bodies.
use Rattle.std.specs.Prelude.{◌+◌, ◌*◌, ℕ, zero, suc, ℤ, pos, List, [], ◌∷◌, ◌++◌, Option, None}
use Rattle.std.specs.Prelude.{Some, length}
use Rattle.pawn_meaning.specs.Program.{Slot, Body, Route, Function, Program}
use Rattle.amx_ops.specs.declared.op.Op.TheVariants as op
use Rattle.gen_sim.specs.Items.{Item, past}
use Rattle.gen_sim.specs.SimpleCode.{alone, taking}
use Rattle.gen_sim.specs.StateCode.{automaton_cell}
use Rattle.gen_laws.specs.SwitchCode.{table_item}
use Rattle.gen_laws.specs.BodyCode.{body_items}

-- ---- bodies one behind another

-- all of them in their order
abbrev pub bodies_items : Program → List Slot → ℕ → List Body → List Item
bodies_items program params at [] = []
bodies_items program params at (body ∷ bodies) =
    let one = body_items program params at body in
    one ++ bodies_items program params (past at one) bodies

-- where one of them begins, by its number
abbrev pub body_begin : Program → List Slot → ℕ → List Body → ℕ → ℕ
body_begin program params at [] number = at
body_begin program params at (body ∷ bodies) zero = at
body_begin program params at (body ∷ bodies) (suc number) =
    body_begin program params (past at (body_items program params at body)) bodies number

-- ---- the table

-- a state's cell is one more than its number
abbrev pub route_table : (ℕ → ℕ) → List (ℕ × ℕ) → List ℤ
route_table address [] = []
route_table address (case ∷ cases) =
    pos (case.0 + 1) ∷ pos (address case.1) ∷ route_table address cases

-- where a number of a body leads, or none
abbrev pub leads_to : (ℕ → ℕ) → ℕ → Option ℕ → ℕ
leads_to address fail None = fail
leads_to address fail (Some number) = address number

-- ---- the function

-- behind PROC and LOAD.pri stands SWITCH, and behind its table HALT
abbrev pub fail_at : ℕ → Route → ℕ
fail_at begin route = begin + 4 + 8 + 8 + 4 * (3 + 2 * length route.cases)

-- where the first body begins, behind that HALT
abbrev pub bodies_at : ℕ → Route → ℕ
bodies_at begin route = fail_at begin route + 8

-- where a body begins in the file, by its number
abbrev pub address_of : Program → Function → ℕ → Route → ℕ → ℕ
address_of program function begin route number =
    body_begin program function.params (bodies_at begin route) function.bodies number

-- the automaton's cell goes to PRI, and SWITCH finds its body
abbrev pub chosen_code : Program → Function → ℕ → Route → List Item
chosen_code program function begin route =
    let address = address_of program function begin route in
    taking op.LoadPri (pos (4 * automaton_cell program route.automaton))
    ∷ taking op.Switch (pos (begin + 4 + 8 + 8))
    ∷ table_item (length route.cases) (leads_to address (fail_at begin route) route.fallback)
    (route_table address route.cases)
    ∷ taking op.Halt (pos 13)
    ∷ bodies_items program function.params (bodies_at begin route) function.bodies

-- PROC is common to all bodies
abbrev pub route_items : Program → Function → ℕ → Route → List Item
route_items program function begin route = alone op.Proc ∷ chosen_code program function begin route
