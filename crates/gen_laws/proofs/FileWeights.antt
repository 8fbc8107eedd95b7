-- The code of a program is within its lean weight, and so within its weight.
use Rattle.std.proofs.Common.{◌+◌, ◌≤◌, ℕ, List, [], ◌∷◌, Option, None, Some, arith, length-append}
use Rattle.std.proofs.Common.{Bool, true, false}
use Rattle.std.specs.Prelude.{pos, sum_by}
use Rattle.std.proofs.lemmas.List.Sums.{sum_by-cons}
use Rattle.pawn_meaning.specs.Program.{Slot, Body, Route, Function, Program}
use Rattle.pawn_meaning.specs.Weight.{stmt_weight, route_weight, function_weight, weight, lean}
use Rattle.pawn_meaning.specs.Weight.{folds}
use Rattle.gen_sim.specs.Items.{item_cells, past}
use Rattle.gen_sim.proofs.ItemLaws.{count-append}
use Rattle.amx_ops.specs.declared.op.Op.TheVariants as op
use Rattle.gen_sim.specs.SimpleCode.{taking}
use Rattle.gen_laws.proofs.Counts.{count}
use Rattle.gen_laws.proofs.LeanLaws.{lean_below}
use Rattle.gen_laws.specs.GoesOn.{never_goes_on}
use Rattle.gen_laws.specs.StmtCode.{stmt_items}
use Rattle.gen_laws.proofs.StmtWeights.{stmt_light}
use Rattle.gen_laws.specs.BodyCode.{body_here, end_code, body_items}
use Rattle.gen_laws.specs.RouteCode.{bodies_items, route_table, bodies_at, address_of}
use Rattle.gen_laws.proofs.RouteLaws.{length_route}
use Rattle.gen_laws.specs.FunctionCode.{one_of, function_by, function_items}
use Rattle.gen_laws.specs.FileCode.{functions_items, program_items}

module _ (program : Program) where
  abbrev bodies_weight : List Body → ℕ
  bodies_weight bodies = sum_by (λ (body : Body). stmt_weight folds body.stmt) bodies

  end_count : (b : Bool) → count (end_code b) ≤ 2
  end_count true = omega arith
  end_count false = omega arith

  body_light : (params : List Slot) (begin : ℕ) (body : Body)
      → count (body_items program params begin body) + 18 ≤ stmt_weight folds body.stmt
  body_light params begin body =
      let here = body_here program params body in
      omega (
        arith,
        count-append (stmt_items here begin body.stmt) (end_code (never_goes_on body.stmt)),
        end_count (never_goes_on body.stmt),
        stmt_light body.stmt here begin,
      )

  bodies_light : (params : List Slot) (begin : ℕ) (bodies : List Body)
      → count (bodies_items program params begin bodies) ≤ bodies_weight bodies
  bodies_light params begin [] = omega arith
  bodies_light params begin (body ∷ bodies) =
      let one = body_items program params begin body in
      omega (
        arith,
        count-append one (bodies_items program params (past begin one) bodies),
        sum_by-cons (λ (it : Body). stmt_weight folds it.stmt) body bodies,
        body_light params begin body,
        bodies_light params (past begin one) bodies,
      )

  one_light : (function : Function) (begin : ℕ) (bodies : List Body)
      → count (one_of program function begin bodies) ≤ bodies_weight bodies
  one_light function begin [] = omega arith
  one_light function begin (body ∷ bodies) =
      omega (
        arith,
        sum_by-cons (λ (it : Body). stmt_weight folds it.stmt) body bodies,
        body_light function.params (begin + 4) body,
      )

  light_by : (function : Function) (begin : ℕ) (d : Option Route)
      → count (function_by program function begin d) ≤ route_weight d
      + bodies_weight function.bodies
  light_by function begin None = omega (arith, one_light function begin function.bodies)
  light_by function begin (Some route) =
      let address = address_of program function begin route in
      let bodies = bodies_items program function.params (bodies_at begin route) function.bodies in
      omega (
        arith,
        length_route address route.cases,
        length-append (route_table address route.cases)
            (item_cells (taking op.Halt (pos 13) ∷ bodies)),
        bodies_light function.params (bodies_at begin route) function.bodies,
      )

  functions_light : (begin : ℕ) (functions : List Function)
      → count (functions_items program begin functions) ≤ sum_by (function_weight folds) functions
  functions_light begin [] = omega arith
  functions_light begin (function ∷ functions) =
      let one = function_items program begin function in
      omega (
        arith,
        count-append one (functions_items program (past begin one) functions),
        sum_by-cons (function_weight folds) function functions,
        light_by function begin function.dispatch,
        functions_light (past begin one) functions,
      )

  pub program_lean : count (program_items program) ≤ lean program + 2
  program_lean = omega (arith, functions_light 8 program.functions)

  pub program_light : count (program_items program) ≤ weight program + 2
  program_light = omega (arith, program_lean, lean_below program)
