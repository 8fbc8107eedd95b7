-- Code whose parts are told where other parts end: these have the same length, wherever the jumps
-- lead, so they are taken once with any exits, and then with the true ones.
use Rattle.std.specs.Prelude.{◌+◌, ℕ, ℤ, List, ◌++◌, true}
use Rattle.pawn_meaning.specs.Program.{Cases}
use Rattle.gen_sim.specs.Items.{Item, past}
use Rattle.gen_sim.specs.Here.{Exits}
use Rattle.gen_sim.specs.FlowCode.{else_at, if_code}
use Rattle.gen_sim.specs.LoopCode.{step_at, loop_test, loop_exits, loop_code}
use Rattle.gen_sim.specs.LoopCode.{test_at, until_exits, until_code}
use Rattle.gen_laws.specs.SwitchCode.{cases_at, switch_code}

-- the exits of a loop whose end isn't known yet
abbrev pub unknown : Exits
unknown = record { looped = true; broke = 0; continued = 0 }

-- a body by its exits, and a step and a test by their addresses
abbrev pub closed_loop : ℕ → (test : ℕ → List Item) → (Exits → List Item)
    → (step : ℕ → List Item) → List Item
closed_loop top test body step =
    let more = step (step_at top (body unknown)) in
    let told = test (loop_test top (body unknown) more) in
    loop_code top told (body (loop_exits top told (body unknown) more)) more

-- a body by its exits, and a test by its address
abbrev pub closed_until : ℕ → (Exits → List Item) → (ℕ → List Item) → List Item
closed_until top body test =
    let more = test (test_at top (body unknown)) in
    until_code top (body (until_exits top (body unknown) more)) more

-- a condition by where its jumps lead, and two parts by their addresses
abbrev pub closed_if : ℕ → (condition : ℕ → List Item) → (first second : ℕ → List Item)
    → List Item
closed_if begin condition first second =
    let p = past begin (condition 0) in
    let one = first p in
    let other = else_at p one in
    if_code begin (condition other) one (second other)

-- without `else`
abbrev pub closed_only : ℕ → (condition : ℕ → List Item) → (first : ℕ → List Item) → List Item
closed_only begin condition first =
    let p = past begin (condition 0) in
    let one = first p in
    condition (past p one) ++ one

-- cases by the address behind the whole, and what stands behind them by its own
abbrev pub closed_switch : ℕ → Cases → (value : List Item) → (table : List ℤ) → (ℕ → List Item)
    → (ℕ → List Item) → List Item
closed_switch p cases value table items other =
    let default = past (cases_at p cases) (items 0) in
    switch_code p cases default value table (items (past default (other default)) ++ other default)
