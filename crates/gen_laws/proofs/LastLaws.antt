-- The last instruction of a program's code is RETN or HALT, and no sleep.
use Rattle.std.proofs.Common.{◌≡◌, ◌+◌, ◌*◌, ℕ, suc, pos, List, [], ◌∷◌, ◌++◌, Option, None, Some}
use Rattle.std.proofs.Common.{Bool, true, false, length, sym, subst, arith, append_assoc, append-nil}
use Rattle.std.specs.Prelude.{All, IfSome, IfNone}
use Rattle.pawn_meaning.specs.Program.{Slot, Body, Route, Function, Program}
use Rattle.pawn_meaning.specs.Valid.{IsValidFunction}
use Rattle.amx_ops.specs.declared.op.Op.TheVariants as op
use Rattle.amx_ops.specs.Instructions.{Placed, placed}
use Rattle.gen_agrees.specs.Shape.{last_of, IsSleep}
use Rattle.gen_sim.specs.Items.{Item, size, past, AreWritten}
use Rattle.gen_sim.specs.SimpleCode.{alone, taking}
use Rattle.gen_laws.proofs.FaultLaws.{stand}
use Rattle.gen_sim.specs.StateCode.{automaton_cell}
use Rattle.gen_laws.specs.SwitchCode.{table_item}
use Rattle.gen_laws.specs.GoesOn.{never_goes_on}
use Rattle.gen_laws.specs.StmtCode.{stmt_items}
use Rattle.gen_laws.specs.BodyCode.{body_here, end_code, body_items, single_items}
use Rattle.gen_laws.specs.RouteCode.{bodies_items, route_table, leads_to, fail_at, bodies_at}
use Rattle.gen_laws.specs.RouteCode.{address_of, route_items}
use Rattle.gen_laws.specs.FunctionCode.{one_of, function_by, function_items}
use Rattle.gen_laws.specs.FileCode.{functions_items, entry_of, program_items, code_of}
use Rattle.gen_laws.proofs.StandLaws.{placed_are}

thirteen : pos 13 ≡ pos 12 → ⊥
thirteen h = cc

zero_is : pos 0 ≡ pos 12 → ⊥
zero_is h = cc

abbrev pub NoSleep : Placed → Type 0
NoSleep it = ¬ IsSleep it.instr

module _ (entry : ℕ → ℕ) where
  -- whatever stands before them
  abbrev Ends : List Item → Type 0
  Ends items =
      (is : List Item) (begin : ℕ) → IfSome (last_of (stand entry begin (is ++ items))) NoSleep

  returns_end : (b : Bool) (is : List Item) (begin : ℕ)
      → IfSome (last_of (stand entry begin (is ++ end_code b))) NoSleep
  returns_end true [] begin = λ s. zero_is s.1
  returns_end false [] begin = λ s. zero_is s.1
  returns_end true (i ∷ []) begin = λ s. zero_is s.1
  returns_end false (i ∷ []) begin = λ s. zero_is s.1
  returns_end b (i ∷ j ∷ is) begin = returns_end b (j ∷ is) (begin + 4 * size i)

  halts_end : (is : List Item) (begin : ℕ)
      → IfSome (last_of (stand entry begin (is ++ taking op.Halt (pos 13) ∷ []))) NoSleep
  halts_end [] begin = λ s. thirteen s.1
  halts_end (i ∷ []) begin = λ s. thirteen s.1
  halts_end (i ∷ j ∷ is) begin = halts_end (j ∷ is) (begin + 4 * size i)

  behind : (a b : List Item) → Ends b → Ends (a ++ b)
  behind a b p =
      λ is begin. subst (λ l. IfSome (last_of (stand entry begin l)) NoSleep) (append_assoc is a b)
      (p (is ++ a) begin)

  alone_one : (a : List Item) → Ends a → Ends (a ++ [])
  alone_one a p = subst (λ l. Ends l) (sym (append-nil a)) p

  module _ (program : Program) where
    body_ends : (params : List Slot) (begin : ℕ) (body : Body)
        → Ends (body_items program params begin body)
    body_ends params begin body =
        behind (stmt_items (body_here program params body) begin body.stmt)
        (end_code (never_goes_on body.stmt)) (returns_end (never_goes_on body.stmt))

    single_ends : (params : List Slot) (begin : ℕ) (body : Body)
        → Ends (single_items program params begin body)
    single_ends params begin body =
        behind (alone op.Proc ∷ []) (body_items program params (begin + 4) body)
        (body_ends params (begin + 4) body)

    bodies_end : (params : List Slot) (begin : ℕ) (body : Body) (bodies : List Body)
        → Ends (bodies_items program params begin (body ∷ bodies))
    bodies_end params begin body [] =
        alone_one (body_items program params begin body) (body_ends params begin body)
    bodies_end params begin body (other ∷ bodies) =
        let one = body_items program params begin body in
        behind one (bodies_items program params (past begin one) (other ∷ bodies))
        (bodies_end params (past begin one) other bodies)

    halt_then : (params : List Slot) (begin : ℕ) (bodies : List Body)
        → Ends (taking op.Halt (pos 13) ∷ bodies_items program params begin bodies)
    halt_then params begin [] = halts_end
    halt_then params begin (body ∷ bodies) =
        behind (taking op.Halt (pos 13) ∷ []) (bodies_items program params begin (body ∷ bodies))
        (bodies_end params begin body bodies)

    route_ends : (function : Function) (begin : ℕ) (route : Route)
        → Ends (route_items program function begin route)
    route_ends function begin route =
        let address = address_of program function begin route in
        behind (
        alone op.Proc
        ∷ taking op.LoadPri (pos (4 * automaton_cell program route.automaton))
        ∷ taking op.Switch (pos (begin + 4 + 8 + 8))
        ∷ table_item (length route.cases) (leads_to address (fail_at begin route) route.fallback)
        (route_table address route.cases)
        ∷ []
        ) (taking op.Halt (pos 13) ∷ bodies_items program function.params
        (bodies_at begin route) function.bodies)
        (halt_then function.params (bodies_at begin route) function.bodies)

    one_ends : (function : Function) (begin : ℕ) (bodies : List Body) → length bodies ≡ 1
        → Ends (one_of program function begin bodies)
    one_ends function begin [] h = absurd (omega (arith, h))
    one_ends function begin (body ∷ bodies) h = single_ends function.params begin body

    ends_by : (function : Function) (begin : ℕ) (d : Option Route)
        → IfNone d (length function.bodies ≡ 1) → Ends (function_by program function begin d)
    ends_by function begin None h = one_ends function begin function.bodies h
    ends_by function begin (Some route) h = route_ends function begin route

    functions_end : (begin : ℕ) (function : Function) (functions : List Function)
        → All (IsValidFunction program) (function ∷ functions)
        → Ends (functions_items program begin (function ∷ functions))
    functions_end begin function [] valid =
        alone_one (function_items program begin function)
        (ends_by function begin function.dispatch (valid 0 function (omega arith)).one_body)
    functions_end begin function (other ∷ functions) valid =
        let one = function_items program begin function in
        behind one (functions_items program (past begin one) (other ∷ functions))
        (functions_end (past begin one) other functions
        (λ i d h. valid (suc i) d (omega (arith, h))))

    stand_ends : (functions : List Function) → All (IsValidFunction program) functions
        → IfSome (last_of (stand entry 0
        (taking op.Halt (pos 0) ∷ functions_items program 8 functions))) NoSleep
    stand_ends [] valid = λ s. zero_is s.1
    stand_ends (function ∷ functions) valid =
        functions_end 8 function functions valid (taking op.Halt (pos 0) ∷ []) 0

pub program_ends : (program : Program) → All (IsValidFunction program) program.functions
    → AreWritten (program_items program)
    → IfSome (last_of (placed (code_of program))) (λ it. ¬ IsSleep it.instr)
program_ends program valid whole =
    subst (λ ps. IfSome (last_of ps) (λ it. ¬ IsSleep it.instr))
    (sym (placed_are (entry_of program) (program_items program) whole))
    (stand_ends (entry_of program) program program.functions valid)
