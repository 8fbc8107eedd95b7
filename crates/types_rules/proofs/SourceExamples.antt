-- Whole sources by computation: which rules they break, and the programs of some.
use Rattle.std.specs.Prelude.{◌≡◌, pos, [], ◌∷◌, map, codes, false, Option, None, Some, refl}
use Rattle.pawn_token.specs.Signs.{sign_spelling}
use Rattle.pawn_token.specs.declared.sign.Sign.TheVariants as sign
use Rattle.pawn_tree.specs.declared.name.Name as n
use Rattle.pawn_tree.specs.declared.declaration.HeadName.TheVariants as called
use Rattle.pawn_tree.specs.Expressions as e
use Rattle.pawn_tree.specs.Expressions.{Expr}
use Rattle.pawn_tree.specs.Variables as v
use Rattle.pawn_tree.specs.Variables.{Var}
use Rattle.pawn_tree.specs.Statements as s
use Rattle.pawn_tree.specs.Statements.{Stmt, Range}
use Rattle.pawn_meaning.specs.Program as code
use Rattle.types_rules.specs.Rule.{thread}
use Rattle.types_rules.specs.Tests.{sent}
use Rattle.types_rules.specs.Scope.{found}
use Rattle.types_rules.specs.Operators.{operator_rule}
use Rattle.types_rules.specs.Given.{plain_given}
use Rattle.types_rules.specs.Defaults.{args_of}
use Rattle.types_rules.specs.Calls.{call_rule}
use Rattle.types_rules.specs.Constants.{constant_rule}
use Rattle.types_rules.specs.Points.{behind_vars}
use Rattle.types_rules.specs.Locals.{locals, vars_parts}
use Rattle.types_rules.specs.Params.{params, params_parts, behind_params}
use Rattle.types_rules.specs.Groups.{grouped}
use Rattle.types_rules.specs.Automata.{classified, entered}
use Rattle.types_rules.specs.Paths.{heads}
use Rattle.types_rules.specs.Sources.{functions_from, natives_from}
use Rattle.types_rules.specs.Sources.{operators_from, function_entries}
use Rattle.types_rules.specs.Sources.{native_entries}
use Rattle.types_rules.specs.Declarations.{globals, declarations}
use Rattle.types_rules.specs.Publics.{sorted, publics_from}
use Rattle.types_rules.specs.Programs as programs
use Rattle.types_rules.specs.TypedTrees.{typed}
use Rattle.types_rules.proofs.Samples.{at, name, number, var, call}
use Rattle.types_rules.proofs.Spellings.{param, function_with, function, state, in_states, block}
use Rattle.types_rules.proofs.Spellings.{nothing, main, variable, new, global, native, faults}
use Rattle.types_rules.proofs.Spellings.{warnings_in, program_in}

-- no source; `main() { new a; new a; }`; `main() { break; }`; `f(x) { if (x) return; return 1; }
-- main() { }`
refused : map faults (
    [] ∷ (main (block (new 3 (variable None (codes "a") None ∷ [])
    ∷ new 4 (variable None (codes "a") None ∷ []) ∷ [])) ∷ [])
    ∷ (main (block (s.Break (at 3) ∷ [])) ∷ [])
    ∷ (function 2 (codes "f") (param [] (codes "x") None ∷ [])
    (block (s.If (at 3) (var 3 (codes "x")) (s.Return (at 4) None) s.no_stmt
    ∷ s.Return (at 5) (Some (number 5 1)) ∷ []))
    ∷ main nothing ∷ [])
    ∷ [])
    ≡ ((71, 1) ∷ []) ∷ ((51, 4) ∷ []) ∷ ((63, 3) ∷ []) ∷ ((64, 4) ∷ (64, 5) ∷ []) ∷ []
unfolding found thread constant_rule behind_vars locals vars_parts params_parts params behind_params
    grouped classified entered heads functions_from natives_from operators_from function_entries
    native_entries globals declarations sorted publics_from programs.program_functions
    programs.tags_from sent sign_spelling
refused = refl

-- `f() <a> { } main() state b;`; `f() <a> { } main() state q:a;`; `f() <a> { } f(x) <b> { } main()
-- { }`; `f() <a> { } f() <a> { } main() { }`; `f() { } f() <a> { } main() { }`; `entry() { }
-- main() { }`
automata_refused : map faults (
    (in_states 2 (codes "f") (codes "a" ∷ []) nothing
    ∷ main (s.State (at 4) None (state (codes "b"))) ∷ [])
    ∷ (in_states 2 (codes "f") (codes "a" ∷ []) nothing
    ∷ main (s.State (at 4) None
    (record { automaton = Some (name 4 (codes "q")); state = name 5 (codes "a") })) ∷ [])
    ∷ (in_states 2 (codes "f") (codes "a" ∷ []) nothing
    ∷ function_with 3 None (called.Name (name 3 (codes "f"))) (param [] (codes "x") None ∷ [])
    (Some (state (codes "b") ∷ [])) nothing
    ∷ main nothing ∷ [])
    ∷ (in_states 2 (codes "f") (codes "a" ∷ []) nothing
    ∷ in_states 3 (codes "f") (codes "a" ∷ []) nothing ∷ main nothing ∷ [])
    ∷ (function 2 (codes "f") [] nothing ∷ in_states 3 (codes "f") (codes "a" ∷ []) nothing
    ∷ main nothing ∷ [])
    ∷ (function 2 (codes "entry") [] nothing ∷ main nothing ∷ [])
    ∷ [])
    ≡ ((41, 4) ∷ []) ∷ ((40, 4) ∷ []) ∷ ((65, 3) ∷ []) ∷ ((42, 3) ∷ []) ∷ ((44, 2) ∷ [])
    ∷ ((44, 2) ∷ []) ∷ []
unfolding found thread constant_rule behind_vars locals vars_parts params_parts params behind_params
    grouped classified entered heads functions_from natives_from operators_from function_entries
    native_entries globals declarations sorted publics_from programs.program_functions
    programs.tags_from sent sign_spelling
automata_refused = refl

-- ---- programs

-- `native p(v); new g = 3; main() { p(g); }`: one object, one native
called_native : program_in (typed (
    native 2 (codes "p") (param [] (codes "v") None ∷ []) ∷ native 3 (codes "q") []
    ∷ global 4 (variable None (codes "g") (Some (v.Value (number 4 3))) ∷ [])
    ∷ main (block (s.Do (at 5) (call 5 (codes "p") (e.Value (var 6 (codes "g")) ∷ [])) ∷ [])) ∷ [])
    (pos 4096))
    ≡ Some (record {
      objects = record { sizes = 1 ∷ []; constant = false; first = pos 3 ∷ [] } ∷ [];
      functions = record {
        params = [];
        tag = 0;
        dispatch = None;
        bodies = record {
          slots = [];
          stmt = code.Block (code.then_stmt (code.Do (code.Native 0
              (code.then_arg (code.Value (code.Read (code.Global 0))) code.no_args)))
              code.no_stmts);
        } ∷ [];
      } ∷ [];
      natives = codes "p" ∷ [];
      automata = [];
      tags = [];
      publics = [];
      entry = Some 0;
      dynamic = pos 4096;
    })
unfolding found thread constant_rule behind_vars locals vars_parts params_parts params behind_params
    grouped classified entered heads functions_from natives_from operators_from function_entries
    native_entries globals declarations sorted publics_from programs.program_functions
    programs.tags_from sent sign_spelling call_rule args_of plain_given
called_native = refl

-- line 2 `Fixed:f() return Fixed:3;`, line 3 `g() return 4;`, line 4 `Fixed:operator+(Fixed:a, b)
-- return a;`, line 5 `main() { new Fixed:x = g() + f(); new Fixed:y = 1; }`: the operator is
-- exchanged, and `1` warns
abbrev fixed : Option n.Name
fixed = Some (name 0 (codes "Fixed"))

warnings : warnings_in (typed (
    function_with 2 fixed (called.Name (name 2 (codes "f"))) [] None
    (s.Return (at 2) (Some (e.Tagged (at 2) (codes "Fixed") (number 2 3))))
    ∷ function 3 (codes "g") [] (s.Return (at 3) (Some (number 3 4)))
    ∷ function_with 4 fixed (called.Operator (at 4) sign.Plus)
    (param (name 0 (codes "Fixed") ∷ []) (codes "a") None ∷ param [] (codes "b") None ∷ []) None
    (s.Return (at 4) (Some (var 4 (codes "a"))))
    ∷ function 5 (codes "main") [] (block (
    new 6 (variable fixed (codes "x") (Some (v.Value
    (e.Binary (at 6) sign.Plus (call 6 (codes "g") []) (call 6 (codes "f") [])))) ∷ [])
    ∷ new 7 (variable fixed (codes "y") (Some (v.Value (number 8 1))) ∷ []) ∷ []))
    ∷ []) (pos 4096)) ≡ 8 ∷ []
unfolding found thread constant_rule behind_vars locals vars_parts params_parts params behind_params
    grouped classified entered heads functions_from natives_from operators_from function_entries
    native_entries globals declarations sorted publics_from programs.program_functions
    programs.tags_from sent sign_spelling call_rule args_of plain_given operator_rule
warnings = refl
