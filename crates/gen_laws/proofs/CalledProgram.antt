-- Each call in the code of a valid program is of one of its functions.
use Rattle.std.proofs.Common.{◌+◌, ◌^◌, ◌<◌, ℕ, suc, List, [], ◌∷◌, Option, None, Some, length}
use Rattle.std.proofs.Common.{false, arith, Bool, true}
use Rattle.std.specs.Prelude.{All}
use Rattle.std.proofs.lemmas.Option.{slice_get_within}
use Rattle.pawn_meaning.specs.Program.{Slot, Body, Route, Function, Automaton, Program}
use Rattle.pawn_meaning.specs.Valid.{IsValidBody, IsValidFunction, IsValid}
use Rattle.pawn_meaning.specs.ValidExprs.{Takes}
use Rattle.gen_sim.specs.Items.{past}
use Rattle.gen_laws.specs.GoesOn.{never_goes_on}
use Rattle.gen_laws.specs.StmtCode.{stmt_items}
use Rattle.gen_laws.specs.BodyCode.{body_here, end_code, body_items}
use Rattle.gen_laws.specs.RouteCode.{bodies_items, bodies_at}
use Rattle.gen_laws.specs.FunctionCode.{one_of, function_by, function_items}
use Rattle.gen_laws.specs.FileCode.{functions_items, program_items}
use Rattle.gen_laws.specs.Called.{AreCalled}
use Rattle.gen_laws.proofs.CalledItems.{both_called}
use Rattle.gen_laws.proofs.CalledStmts.{stmt_called}

module _ (program : Program) (valid : IsValid program)
    (few : All (λ (it : Automaton). length it.states < 2 ^ 31) program.automata) where
  -- one of the program's functions
  abbrev IsFunction : ℕ → Type 0
  IsFunction f = f < length program.functions

  known : (f : ℕ) (params : List Slot) → Takes program f params → IsFunction f
  known f params h = slice_get_within program.functions f h.function h.there

  end_called : (b : Bool) → AreCalled IsFunction (end_code b)
  end_called true = tt
  end_called false = tt

  body_called : (params : List Slot) (body : Body) → IsValidBody program params body → (begin : ℕ)
      → AreCalled IsFunction (body_items program params begin body)
  body_called params body sound begin =
      let here = body_here program params body in
      both_called IsFunction (stmt_items here begin body.stmt) (end_code (never_goes_on body.stmt))
      (stmt_called IsFunction body.stmt here false sound.stmt
      (record { valid = valid; few = few; slots_are = sound.slots }) known begin)
      (end_called (never_goes_on body.stmt))

  bodies_called : (params : List Slot) (bodies : List Body)
      → All (IsValidBody program params) bodies → (begin : ℕ)
      → AreCalled IsFunction (bodies_items program params begin bodies)
  bodies_called params [] sound begin = tt
  bodies_called params (body ∷ bodies) sound begin =
      let one = body_items program params begin body in
      both_called IsFunction one (bodies_items program params (past begin one) bodies)
      (body_called params body (sound 0 body (omega arith)) begin)
      (bodies_called params bodies (λ i d h. sound (suc i) d (omega (arith, h))) (past begin one))

  one_called : (function : Function) (bodies : List Body)
      → All (IsValidBody program function.params) bodies → (begin : ℕ)
      → AreCalled IsFunction (one_of program function begin bodies)
  one_called function [] sound begin = tt
  one_called function (body ∷ bodies) sound begin =
      body_called function.params body (sound 0 body (omega arith)) (begin + 4)

  called_by : (function : Function) → IsValidFunction program function
      → (begin : ℕ) (d : Option Route) → AreCalled IsFunction (function_by program function begin d)
  called_by function sound begin None = one_called function function.bodies sound.bodies begin
  called_by function sound begin (Some route) =
      bodies_called function.params function.bodies sound.bodies (bodies_at begin route)

  functions_called : (functions : List Function) → All (IsValidFunction program) functions
      → (begin : ℕ) → AreCalled IsFunction (functions_items program begin functions)
  functions_called [] sound begin = tt
  functions_called (function ∷ functions) sound begin =
      let one = function_items program begin function in
      both_called IsFunction one (functions_items program (past begin one) functions)
      (called_by function (sound 0 function (omega arith)) begin function.dispatch)
      (functions_called functions (λ i d h. sound (suc i) d (omega (arith, h))) (past begin one))

  pub program_called : AreCalled IsFunction (program_items program)
  program_called = functions_called program.functions valid.functions 8
