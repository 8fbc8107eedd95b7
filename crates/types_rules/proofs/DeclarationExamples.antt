-- Declarations by computation: names of the file, enumerations, heads, user operators, public
-- functions, automata.
use Rattle.std.specs.Prelude.{◌≡◌, ℕ, pos, negsuc, List, [], ◌∷◌, map, codes, true, false, Option}
use Rattle.std.specs.Prelude.{None, Some, refl}
use Rattle.std.specs.Int.{int_wrap}
use Rattle.pawn_token.specs.Signs.{sign_spelling}
use Rattle.pawn_token.specs.declared.sign.Sign.{Sign}
use Rattle.pawn_token.specs.declared.sign.Sign.TheVariants as sign
use Rattle.pawn_tree.specs.declared.name.Name as n
use Rattle.pawn_tree.specs.declared.declaration.HeadName.TheVariants as called
use Rattle.pawn_tree.specs.declared.expression.SizeofOperand.TheVariants as size_operand
use Rattle.pawn_tree.specs.declared.expression.TagofOperand.TheVariants as tag_operand
use Rattle.pawn_tree.specs.Expressions as e
use Rattle.pawn_tree.specs.Expressions.{Expr}
use Rattle.pawn_tree.specs.Variables as v
use Rattle.pawn_tree.specs.Variables.{Var}
use Rattle.pawn_tree.specs.Statements as s
use Rattle.pawn_tree.specs.Statements.{Stmt, Range}
use Rattle.pawn_tree.specs.Declarations as d
use Rattle.pawn_tree.specs.Declarations.{Decl, Head, Param, Tree}
use Rattle.pawn_meaning.specs.Program as code
use Rattle.names_rules.specs.Verdict.{faults_of}
use Rattle.types_rules.specs.Rule.{thread}
use Rattle.types_rules.specs.Tests.{sent}
use Rattle.types_rules.specs.Scope.{found}
use Rattle.types_rules.specs.NamesAndNumbers.{sizeof_rule, tagof_rule}
use Rattle.types_rules.specs.Operators.{operator_rule}
use Rattle.pawn_cells.specs.Operators as cells
use Rattle.types_rules.specs.Given.{plain_given, rest_rule}
use Rattle.types_rules.specs.Defaults.{args_of}
use Rattle.types_rules.specs.Calls.{call_rule}
use Rattle.types_rules.specs.Constants.{constant_rule}
use Rattle.types_rules.specs.Points.{behind_vars}
use Rattle.types_rules.specs.Locals.{locals, vars_parts}
use Rattle.types_rules.specs.Params.{params, params_parts, behind_params}
use Rattle.types_rules.specs.Groups.{grouped}
use Rattle.types_rules.specs.Automata.{classified, entered}
use Rattle.types_rules.specs.Enums.{behind_items, items_rule, items_parts}
use Rattle.types_rules.specs.Paths.{heads}
use Rattle.types_rules.specs.Sources.{functions_from, natives_from}
use Rattle.types_rules.specs.Sources.{operators_from, function_entries}
use Rattle.types_rules.specs.Sources.{native_entries}
use Rattle.types_rules.specs.Declarations.{globals, declarations}
use Rattle.types_rules.specs.Publics.{sorted, publics_from}
use Rattle.types_rules.specs.Programs as programs
use Rattle.types_rules.specs.TypedTrees.{typed}
use Rattle.types_rules.proofs.Samples.{at, name, number, var, call}
use Rattle.types_rules.proofs.Spellings.{head, param, function_with, function, state, in_states}
use Rattle.types_rules.proofs.Spellings.{block, nothing, main, variable, new, global, native}
use Rattle.types_rules.proofs.Spellings.{kind_and_line, faults, warnings_in, program_in}

-- ---- names of the file

abbrev forward : ℕ → List ℕ → List Param → Decl
forward token bytes params =
    d.Forward (at token) false (head token None (called.Name (name token bytes)) params)

abbrev constant : ℕ → Option n.Name → List ℕ → Expr → Decl
constant token tag bytes value =
    d.Constant (at token) (record { tag = tag; name = name token bytes; value = value })

abbrev item : List ℕ → Option Expr → d.Item
item bytes value = record { name = name 0 bytes; value = value }

abbrev enum : ℕ → List ℕ → List d.Item → Decl
enum token bytes items = d.Enum (at token) (Some (name token bytes)) items

abbrev does : Expr → Stmt
does it = s.Do (at 9) it

-- `forward f(); main() { }`; `forward f(); main() f();`; `const true = 5; main() { }`; `enum T {
-- a, b = T } main() { }`; `new x; x() { } main() { }`; `native main();`; `main(x) { }`; `const c =
-- f(1, 2); f() { } main() { }`; `const c = f(); f() { } main() { }`; `const c = zz; const k = c;
-- main() { }`
names : map faults (
    (forward 2 (codes "f") [] ∷ main nothing ∷ [])
    ∷ (forward 2 (codes "f") [] ∷ main (does (call 9 (codes "f") [])) ∷ [])
    ∷ (constant 2 None (codes "true") (number 2 5) ∷ main nothing ∷ [])
    ∷ (enum 2 (codes "T")
    (item (codes "a") None ∷ item (codes "b") (Some (var 3 (codes "T"))) ∷ []) ∷ main nothing ∷ [])
    ∷ (global 2 (variable None (codes "x") None ∷ []) ∷ function 3 (codes "x") [] nothing
    ∷ main nothing ∷ [])
    ∷ (native 2 (codes "main") [] ∷ [])
    ∷ (function 2 (codes "main") (param [] (codes "x") None ∷ []) nothing ∷ [])
    ∷ (constant 2 None (codes "c")
    (call 3 (codes "f") (e.Value (number 3 1) ∷ e.Value (number 3 2) ∷ []))
    ∷ function 4 (codes "f") [] nothing ∷ main nothing ∷ [])
    ∷ (constant 2 None (codes "c") (call 3 (codes "f") []) ∷ function 4 (codes "f") [] nothing
    ∷ main nothing ∷ [])
    ∷ (constant 2 None (codes "c") (var 3 (codes "zz"))
    ∷ constant 4 None (codes "k") (var 5 (codes "c")) ∷ main nothing ∷ [])
    ∷ [])
    ≡ [] ∷ ((50, 9) ∷ []) ∷ ((51, 2) ∷ []) ∷ ((50, 3) ∷ []) ∷ ((51, 3) ∷ []) ∷ ((71, 1) ∷ [])
    ∷ ((65, 2) ∷ []) ∷ ((61, 3) ∷ [])
    ∷ ((57, 2) ∷ []) ∷ ((50, 3) ∷ []) ∷ []
unfolding found thread constant_rule sizeof_rule behind_vars locals vars_parts params_parts params
    behind_params grouped classified entered heads functions_from natives_from operators_from
    function_entries native_entries globals declarations behind_items items_rule items_parts
    sorted publics_from programs.program_functions programs.tags_from sent sign_spelling
    call_rule args_of plain_given rest_rule cells.binary operator_rule int_wrap
names = refl

abbrev body_in : Option code.Program → List (List code.Body)
body_in None = []
body_in (Some it) = map (λ (function : code.Function). function.bodies) it.functions

abbrev bodies : Tree → List (List code.Body)
bodies tree = body_in (program_in (typed tree (pos 4096)))

-- `enum T { a, b = 5, c } main() return T;`
after_the_last : bodies (
    enum 2 (codes "T") (item (codes "a") None ∷ item (codes "b") (Some (number 3 5))
    ∷ item (codes "c") None ∷ [])
    ∷ main (s.Return (at 4) (Some (var 5 (codes "T")))) ∷ [])
    ≡ (record { slots = []; stmt = code.Return (code.Const (pos 7)) } ∷ []) ∷ []
unfolding found thread constant_rule sizeof_rule behind_vars locals vars_parts params_parts params
    behind_params grouped classified entered heads functions_from natives_from operators_from
    function_entries native_entries globals declarations behind_items items_rule items_parts
    sorted publics_from programs.program_functions programs.tags_from sent sign_spelling
    call_rule args_of plain_given rest_rule cells.binary operator_rule int_wrap
after_the_last = refl

-- `const Fixed:c = 1;` warns, and the value of an enumeration doesn't: `enum Fx { a = 5 }`
tests : map (λ tree. warnings_in (typed tree (pos 4096))) (
    (constant 2 (Some (name 2 (codes "Fixed"))) (codes "c") (number 3 1) ∷ main nothing ∷ [])
    ∷ (enum 2 (codes "Fx") (item (codes "a") (Some (number 3 5)) ∷ []) ∷ main nothing ∷ []) ∷ [])
    ≡ (3 ∷ []) ∷ [] ∷ []
unfolding found thread constant_rule sizeof_rule behind_vars locals vars_parts params_parts params
    behind_params grouped classified entered heads functions_from natives_from operators_from
    function_entries native_entries globals declarations behind_items items_rule items_parts
    sorted publics_from programs.program_functions programs.tags_from sent sign_spelling
    call_rule args_of plain_given rest_rule cells.binary operator_rule int_wrap
tests = refl

-- ---- heads

-- `forward f(a); f(b) { }`; `forward f(a = 1); f(a = (1)) { }`; `f(c, d = c) { }` behind `const c
-- = 1;`
heads_compared : map faults (
    (forward 2 (codes "f") (param [] (codes "a") None ∷ [])
    ∷ function 3 (codes "f") (param [] (codes "b") None ∷ []) nothing ∷ main nothing ∷ [])
    ∷ (forward 2 (codes "f") (param [] (codes "a") (Some (number 2 1)) ∷ [])
    ∷ function 3 (codes "f") (param [] (codes "a") (Some (e.Paren (at 3) (number 3 1))) ∷ [])
    nothing ∷ main nothing ∷ [])
    ∷ (constant 2 None (codes "c") (number 2 1)
    ∷ function 3 (codes "f")
    (param [] (codes "c") None ∷ param [] (codes "d") (Some (var 4 (codes "c"))) ∷ []) nothing
    ∷ main nothing ∷ [])
    ∷ [])
    ≡ ((65, 3) ∷ []) ∷ [] ∷ ((57, 3) ∷ []) ∷ []
unfolding found thread constant_rule sizeof_rule behind_vars locals vars_parts params_parts params
    behind_params grouped classified entered heads functions_from natives_from operators_from
    function_entries native_entries globals declarations behind_items items_rule items_parts
    sorted publics_from programs.program_functions programs.tags_from sent sign_spelling
    call_rule args_of plain_given rest_rule cells.binary operator_rule int_wrap
heads_compared = refl

-- ---- user operators

abbrev fixed_tag : List n.Name
fixed_tag = name 0 (codes "Fixed") ∷ []

abbrev operator : ℕ → Option n.Name → Sign → List Param → Decl
operator token tag sign params =
    function_with token tag (called.Operator (at token) sign) params None nothing

-- without a tag; of three operands; with a default; `operator;`; a native one; one twice
operators_refused : map faults (
    (operator 2 None sign.Plus (param [] (codes "a") None ∷ param [] (codes "b") None ∷ [])
    ∷ main nothing ∷ [])
    ∷ (operator 2 None sign.Plus
    (param fixed_tag (codes "a") None ∷ param [] (codes "b") None ∷ param [] (codes "c") None ∷ [])
    ∷ main nothing ∷ [])
    ∷ (operator 2 None sign.Minus (param fixed_tag (codes "a") (Some (number 2 1)) ∷ [])
    ∷ main nothing ∷ [])
    ∷ (operator 2 None sign.Semicolon (param fixed_tag (codes "a") None ∷ []) ∷ main nothing ∷ [])
    ∷ (d.Native (at 2) (head 2 None (called.Operator (at 2) sign.Minus)
    (param fixed_tag (codes "a") None ∷ [])) ∷ main nothing ∷ [])
    ∷ (operator 2 None sign.Minus (param fixed_tag (codes "a") None ∷ [])
    ∷ operator 3 None sign.Minus (param fixed_tag (codes "b") None ∷ []) ∷ main nothing ∷ [])
    ∷ [])
    ≡ ((66, 2) ∷ []) ∷ ((66, 2) ∷ []) ∷ ((66, 2) ∷ []) ∷ ((66, 2) ∷ []) ∷ ((66, 2) ∷ [])
    ∷ ((51, 3) ∷ (65, 3) ∷ []) ∷ []
unfolding found thread constant_rule sizeof_rule behind_vars locals vars_parts params_parts params
    behind_params grouped classified entered heads functions_from natives_from operators_from
    function_entries native_entries globals declarations behind_items items_rule items_parts
    sorted publics_from programs.program_functions programs.tags_from sent sign_spelling
    call_rule args_of plain_given rest_rule cells.binary operator_rule int_wrap
operators_refused = refl

-- `Fixed:operator=(x) return Fixed:x; f(Fixed:x) { } main() { new Fixed:y = 3; f(4); }`: both
-- values are converted
conversions : bodies (
    function_with 2 (Some (name 2 (codes "Fixed"))) (called.Operator (at 2) sign.Assign)
    (param [] (codes "x") None ∷ []) None
    (s.Return (at 2) (Some (e.Tagged (at 2) (codes "Fixed") (var 2 (codes "x")))))
    ∷ function 3 (codes "f") (param fixed_tag (codes "x") None ∷ []) nothing
    ∷ main (block (new 4 (variable (Some (name 4 (codes "Fixed"))) (codes "y")
    (Some (v.Value (number 4 3))) ∷ [])
    ∷ does (call 9 (codes "f") (e.Value (number 9 4) ∷ [])) ∷ [])) ∷ [])
    ≡ (record { slots = code.ScalarSlot ∷ []; stmt = code.Return (code.Read (code.Own 0)) } ∷ [])
    ∷ (record { slots = code.ScalarSlot ∷ []; stmt = code.Block code.no_stmts } ∷ [])
    ∷ (record {
      slots = code.ScalarSlot ∷ [];
      stmt = code.Block (
          code.then_stmt (code.Local 0 (code.OperateOne 0 (code.Const (pos 3))))
          (code.then_stmt (code.Do (code.Call 1
          (code.then_arg (code.Value (code.OperateOne 0 (code.Const (pos 4)))) code.no_args)))
          code.no_stmts));
    } ∷ []) ∷ []
unfolding found thread constant_rule sizeof_rule behind_vars locals vars_parts params_parts params
    behind_params grouped classified entered heads functions_from natives_from operators_from
    function_entries native_entries globals declarations behind_items items_rule items_parts
    sorted publics_from programs.program_functions programs.tags_from sent sign_spelling
    call_rule args_of plain_given rest_rule cells.binary operator_rule int_wrap
conversions = refl

-- ---- public functions

abbrev publics_in : Option code.Program → List code.Public
publics_in None = []
publics_in (Some it) = it.publics

-- `forward public f(); f() { } @a() { } main() { }`: in the order of their names
publics : publics_in (program_in (typed (
    d.Forward (at 2) true (head 2 None (called.Name (name 2 (codes "f"))) [])
    ∷ function 3 (codes "f") [] nothing ∷ function 4 (codes "@a") [] nothing ∷ main nothing ∷ [])
    (pos 4096)))
    ≡ record { name = codes "@a"; function = 1 } ∷ record { name = codes "f"; function = 0 } ∷ []
unfolding found thread constant_rule sizeof_rule behind_vars locals vars_parts params_parts params
    behind_params grouped classified entered heads functions_from natives_from operators_from
    function_entries native_entries globals declarations behind_items items_rule items_parts
    sorted publics_from programs.program_functions programs.tags_from sent sign_spelling
    call_rule args_of plain_given rest_rule cells.binary operator_rule int_wrap
publics = refl

-- ---- automata

abbrev automata_in : Option code.Program → List code.Automaton
automata_in None = []
automata_in (Some it) = it.automata

abbrev dispatch_in : Option code.Program → List (Option code.Route)
dispatch_in None = []
dispatch_in (Some it) = map (λ (function : code.Function). function.dispatch) it.functions

-- `f() <a> return 1; f() <> return 2; entry() <a> { } main() state a;`
abbrev states : Option code.Program
states = program_in (typed (
    in_states 2 (codes "f") (codes "a" ∷ []) (s.Return (at 2) (Some (number 2 1)))
    ∷ in_states 3 (codes "f") [] (s.Return (at 3) (Some (number 3 2)))
    ∷ in_states 4 (codes "entry") (codes "a" ∷ []) nothing
    ∷ main (s.State (at 5) None (state (codes "a"))) ∷ []) (pos 4096))

known : automata_in states ≡ record { name = []; states = codes "a" ∷ []; enter = Some 1 } ∷ []
unfolding found thread constant_rule sizeof_rule behind_vars locals vars_parts params_parts params
    behind_params grouped classified entered heads functions_from natives_from operators_from
    function_entries native_entries globals declarations behind_items items_rule items_parts
    sorted publics_from programs.program_functions programs.tags_from sent sign_spelling
    call_rule args_of plain_given rest_rule cells.binary operator_rule int_wrap
known = refl

routes : dispatch_in states
    ≡ Some (record { automaton = 0; cases = (0, 0) ∷ []; fallback = Some 1 })
    ∷ Some (record { automaton = 0; cases = (0, 0) ∷ []; fallback = None }) ∷ None ∷ []
unfolding found thread constant_rule sizeof_rule behind_vars locals vars_parts params_parts params
    behind_params grouped classified entered heads functions_from natives_from operators_from
    function_entries native_entries globals declarations behind_items items_rule items_parts
    sorted publics_from programs.program_functions programs.tags_from sent sign_spelling
    call_rule args_of plain_given rest_rule cells.binary operator_rule int_wrap
routes = refl

abbrev sized : ℕ → List ℕ → Expr
sized token bytes = e.Sizeof (at token) (size_operand.Name (name token bytes) 0)

-- `f() <a, a> { }`; `f() <a:s, b:s> { }`; `f() <> { } f() <> { }`; `f() <a> { } main() f();` with
-- `entry();`, `sizeof entry;`
classifiers : map faults (
    (in_states 2 (codes "f") (codes "a" ∷ codes "a" ∷ []) nothing ∷ main nothing ∷ [])
    ∷ (function_with 2 None (called.Name (name 2 (codes "f"))) []
    (Some (record { automaton = Some (name 2 (codes "a")); state = name 2 (codes "s") }
    ∷ record { automaton = Some (name 2 (codes "b")); state = name 2 (codes "s") } ∷ [])) nothing
    ∷ main nothing ∷ [])
    ∷ (in_states 2 (codes "f") [] nothing ∷ in_states 3 (codes "f") [] nothing ∷ main nothing ∷ [])
    ∷ (in_states 2 (codes "entry") (codes "a" ∷ []) nothing
    ∷ main (does (call 9 (codes "entry") [])) ∷ [])
    ∷ (in_states 2 (codes "entry") (codes "a" ∷ []) nothing
    ∷ main (does (sized 9 (codes "entry"))) ∷ []) ∷ [])
    ≡ ((42, 2) ∷ []) ∷ ((44, 2) ∷ []) ∷ ((43, 3) ∷ []) ∷ ((50, 9) ∷ []) ∷ ((53, 9) ∷ []) ∷ []
unfolding found thread constant_rule sizeof_rule behind_vars locals vars_parts params_parts params
    behind_params grouped classified entered heads functions_from natives_from operators_from
    function_entries native_entries globals declarations behind_items items_rule items_parts
    sorted publics_from programs.program_functions programs.tags_from sent sign_spelling
    call_rule args_of plain_given rest_rule cells.binary operator_rule int_wrap
classifiers = refl

-- `10 / tagof entry`, and the body of an entry function for a state of an automaton
abbrev by_tag : Decl
by_tag =
    constant 4 None (codes "c") (e.Binary (at 5) sign.Slash (number 5 10)
    (e.Tagof (at 6) (tag_operand.Name (name 6 (codes "entry")))))

abbrev enters : ℕ → Option n.Name → List ℕ → Stmt → Decl
enters token tag automaton body =
    function_with token tag (called.Name (name token (codes "entry"))) []
    (Some (record { automaton = Some (name token automaton); state = name token (codes "s") } ∷ []))
    body

abbrev gives_fixed : Stmt
gives_fixed = s.Return (at 9) (Some (e.Tagged (at 9) (codes "Fixed") (number 9 1)))

-- the name `entry` is of the first entry function, whose tag is 0 here: `entry() <a:s> { }
-- Fixed:entry() <b:s> return Fixed:1; const c = 10 / tagof entry; main() { }`; and with `Fixed`
-- first
first_entered : map faults (
    (enters 2 None (codes "a") nothing
    ∷ enters 3 (Some (name 3 (codes "Fixed"))) (codes "b") gives_fixed ∷ by_tag ∷ main nothing ∷ [])
    ∷ (enters 2 (Some (name 2 (codes "Fixed"))) (codes "b") gives_fixed
    ∷ enters 3 None (codes "a") nothing ∷ by_tag ∷ main nothing ∷ []) ∷ [])
    ≡ ((67, 5) ∷ []) ∷ [] ∷ []
unfolding found thread constant_rule sizeof_rule tagof_rule behind_vars locals vars_parts
    params_parts params behind_params grouped classified entered heads functions_from natives_from
    operators_from function_entries native_entries globals declarations behind_items items_rule
    items_parts sorted publics_from programs.program_functions programs.tags_from sent
    sign_spelling call_rule args_of plain_given rest_rule cells.binary operator_rule
    int_wrap
first_entered = refl

-- ---- a node that breaks a rule, by which a part of it falls

abbrev array : List ℕ → Expr → Var
array bytes size =
    record { tag = None; name = name 0 bytes; dims = v.Cells size ∷ []; init = None }

abbrev rows : List ℕ → Param
rows bytes = d.Plain false false [] (name 0 bytes) (v.Open ∷ v.Open ∷ []) None

abbrev two_arrays : List Var
two_arrays = array (codes "a") (var 5 (codes "x")) ∷ array (codes "b") (sized 5 (codes "a")) ∷ []

-- `f(p[][]) { f(1); } main() { }`; `f(p[][], k = sizeof p) { } main() { }`; `f(k = f(1)) { } main()
-- { }`, whose call isn't judged; and behind `new x;`:
-- `new a[x], b[sizeof a]; main() { }`, the same in a block, `enum T { a = x, b = a } main() { }`,
-- `main() for (new a[x]; a[0]; ) ;`
by_themselves : map faults (
    (function 2 (codes "f") (rows (codes "p") ∷ [])
    (does (call 9 (codes "f") (e.Value (number 9 1) ∷ []))) ∷ main nothing ∷ [])
    ∷ (function 2 (codes "f")
    (rows (codes "p") ∷ param [] (codes "k") (Some (sized 3 (codes "p"))) ∷ []) nothing
    ∷ main nothing ∷ [])
    ∷ (function 2 (codes "f")
    (param [] (codes "k") (Some (call 3 (codes "f") (e.Value (number 3 1) ∷ []))) ∷ []) nothing
    ∷ main nothing ∷ [])
    ∷ (global 2 (variable None (codes "x") None ∷ []) ∷ global 4 two_arrays ∷ main nothing ∷ [])
    ∷ (global 2 (variable None (codes "x") None ∷ []) ∷ main (block (new 4 two_arrays ∷ [])) ∷ [])
    ∷ (global 2 (variable None (codes "x") None ∷ [])
    ∷ enum 3 (codes "T")
    (item (codes "a") (Some (var 4 (codes "x"))) ∷ item (codes "b") (Some (var 5 (codes "a"))) ∷ [])
    ∷ main nothing ∷ [])
    ∷ (global 2 (variable None (codes "x") None ∷ [])
    ∷ main (s.For (at 4) (s.New (array (codes "a") (var 5 (codes "x")) ∷ []))
    (Some (e.Index (at 6) (var 6 (codes "a")) (number 7 0))) None (s.Empty (at 8))) ∷ [])
    ∷ [])
    ≡ ((57, 2) ∷ []) ∷ ((57, 2) ∷ []) ∷ ((57, 2) ∷ []) ∷ ((57, 4) ∷ []) ∷ ((57, 4) ∷ [])
    ∷ ((57, 3) ∷ [])
    ∷ ((57, 4) ∷ []) ∷ []
unfolding found thread constant_rule sizeof_rule behind_vars locals vars_parts params_parts params
    behind_params grouped classified entered heads functions_from natives_from operators_from
    function_entries native_entries globals declarations behind_items items_rule items_parts
    sorted publics_from programs.program_functions programs.tags_from sent sign_spelling
    call_rule args_of plain_given rest_rule cells.binary operator_rule int_wrap
by_themselves = refl

-- ---- the room

rooms : map (λ room. map kind_and_line (faults_of (typed (main nothing ∷ []) room)))
    (negsuc 0 ∷ pos 0 ∷ pos 16777216 ∷ pos 16777217 ∷ [])
    ≡ ((70, 1) ∷ []) ∷ [] ∷ [] ∷ ((70, 1) ∷ []) ∷ []
unfolding found thread constant_rule sizeof_rule behind_vars locals vars_parts params_parts params
    behind_params grouped classified entered heads functions_from natives_from operators_from
    function_entries native_entries globals declarations behind_items items_rule items_parts
    sorted publics_from programs.program_functions programs.tags_from sent sign_spelling
    call_rule args_of plain_given rest_rule cells.binary operator_rule int_wrap
rooms = refl
