-- The plain view of the program that code holds, node by node.
use Rattle.std.specs.Prelude.{List, [], ◌∷◌, map, option_map, Option, Some, None}
use Rattle.std.specs.declared.alloc.Global.{Global}
use Rattle.std.specs.declared.boxed.Box.{Box}
use Rattle.pawn_arrays.specs.Sizes.{sizes}
use Rattle.pawn_meaning.specs.Program.{Scalar, Array, Expr, Links, no_links, then_link, Arg, Args}
use Rattle.pawn_meaning.specs.Program.{no_args, then_arg, Perhaps, Stmt, Else, no_else, otherwise}
use Rattle.pawn_meaning.specs.Program.{Cases, no_cases, then_case, Stmts, no_stmts, then_stmt, Slot}
use Rattle.pawn_meaning.specs.Program.{StaticObject, Body, Route, Function, Automaton, Tag, Public}
use Rattle.pawn_meaning.specs.Program.{Program}
use Rattle.pawn_meaning.specs.Program as plain
use Rattle.pawn_meaning.specs.declared.node.Scalar as held_scalar
use Rattle.pawn_meaning.specs.declared.node.Array as held_array
use Rattle.pawn_meaning.specs.declared.node.Expr as held
use Rattle.pawn_meaning.specs.declared.node.Link as held_link
use Rattle.pawn_meaning.specs.declared.node.Arg as held_arg
use Rattle.pawn_meaning.specs.declared.node.Stmt as held_stmt
use Rattle.pawn_meaning.specs.declared.node.Case as held_case
use Rattle.pawn_meaning.specs.declared.program.Slot as held_slot
use Rattle.pawn_meaning.specs.declared.program.Slot.TheVariants as slot
use Rattle.pawn_meaning.specs.declared.program.Object as held_object
use Rattle.pawn_meaning.specs.declared.program.Body as held_body
use Rattle.pawn_meaning.specs.declared.program.Route as held_route
use Rattle.pawn_meaning.specs.declared.program.Function as held_function
use Rattle.pawn_meaning.specs.declared.program.Automaton as held_automaton
use Rattle.pawn_meaning.specs.declared.program.Tag as held_tag
use Rattle.pawn_meaning.specs.declared.program.Public as held_public
use Rattle.pawn_meaning.specs.declared.program.Program as held_program

-- ---- expressions

-- places, arrays, expressions, arguments, and what lists of these hold
abbrev mutual
  -- a place of one cell or one packed character
  pub scalar_view : held_scalar.Scalar → Scalar
  scalar_view (held_scalar.Global o) = plain.Global o
  scalar_view (held_scalar.Slot s) = plain.Own s
  scalar_view (held_scalar.Through s) = plain.Through s
  scalar_view (held_scalar.Element' p a q e) = plain.Element (array_view a) (expr_view e)
  scalar_view (held_scalar.Char' p a q e) = plain.Char (array_view a) (expr_view e)

  -- of an array
  pub array_view : held_array.Array → Array
  array_view (held_array.Object o) = plain.Object o
  array_view (held_array.SlotArray s) = plain.SlotArray s
  array_view (held_array.ParamArray s known) = plain.ParamArray s known
  array_view (held_array.Row' p a q e) = plain.Row (array_view a) (expr_view e)
  array_view (held_array.From' p a q e) = plain.From (array_view a) (expr_view e)

  -- of an expression
  pub expr_view : held.Expr → Expr
  expr_view (held.Const v) = plain.Const v
  expr_view (held.Read p) = plain.Read (scalar_view p)
  expr_view (held.Unary' op p e) = plain.Unary op (expr_view e)
  expr_view (held.Binary' op p l q r) = plain.Binary op (expr_view l) (expr_view r)
  expr_view (held.Chain' p e k row) = plain.Chain (expr_view e) (links_row_view row)
  expr_view (held.And' p l q r) = plain.And (expr_view l) (expr_view r)
  expr_view (held.Or' p l q r) = plain.Or (expr_view l) (expr_view r)
  expr_view (held.Cond' p c q a r b) = plain.Cond (expr_view c) (expr_view a) (expr_view b)
  expr_view (held.Assign' at p e) = plain.Assign (scalar_view at) (expr_view e)
  expr_view (held.Update' at op p e) = plain.Update (scalar_view at) op (expr_view e)
  expr_view (held.UpdateBy' at f swapped p e convert) =
      plain.UpdateBy (scalar_view at) f swapped (expr_view e) convert
  expr_view (held.Step at delta prefix) = plain.Step (scalar_view at) delta prefix
  expr_view (held.StepBy at f prefix) = plain.StepBy (scalar_view at) f prefix
  expr_view (held.Copy' p to q from cells) = plain.Copy (array_view to) (array_view from) cells
  expr_view (held.Operate' f p l q r swapped) = plain.Operate f (expr_view l) (expr_view r) swapped
  expr_view (held.OperateOne' f p e) = plain.OperateOne f (expr_view e)
  expr_view (held.Call' f k row) = plain.Call f (args_row_view row)
  expr_view (held.Native' n k row) = plain.Native n (args_row_view row)
  expr_view (held.Seq' p a q b) = plain.Seq (expr_view a) (expr_view b)

  -- of an argument
  pub arg_view : held_arg.Arg → Arg
  arg_view (held_arg.Value e) = plain.Value (expr_view e)
  arg_view (held_arg.Ref p) = plain.Ref (scalar_view p)
  arg_view (held_arg.Whole a) = plain.Whole (array_view a)
  arg_view (held_arg.Temp e) = plain.Temp (expr_view e)

  -- of arguments, as a node holds them
  pub args_row_view : {n : _} → held.Row_of-Arg n → Args
  args_row_view held.end_of-Arg = no_args
  args_row_view (held.more_of-Arg a row) = then_arg (arg_view a) (args_row_view row)

  -- of comparisons, as a node holds them
  pub links_row_view : {n : _} → held.Row_of-Link n → Links
  links_row_view held.end_of-Link = no_links
  links_row_view (held.more_of-Link op e f swapped row) =
      then_link op (expr_view e) f swapped (links_row_view row)

-- the arguments that a list holds
abbrev pub args_view : List held_arg.Arg → Args
args_view [] = no_args
args_view (a ∷ args) = then_arg (arg_view a) (args_view args)

-- the comparisons that a list holds
abbrev pub links_view : List held_link.Link → Links
links_view [] = no_links
links_view (link ∷ links) =
    then_link link.op (expr_view link.operand) link.function link.swapped (links_view links)

-- an expression that may be absent
abbrev pub perhaps_view : Option held.Expr → Perhaps
perhaps_view None = plain.Absent
perhaps_view (Some e) = plain.Present (expr_view e)

-- ---- statements

-- statements, and what lists of these hold
abbrev mutual
  -- statements in boxes become parts, and rows become lists
  pub stmt_view : held_stmt.Stmt → Stmt
  stmt_view (held_stmt.Block' k row) = plain.Block (stmts_row_view row)
  stmt_view (held_stmt.Local s e) = plain.Local s (expr_view e)
  stmt_view (held_stmt.LocalArray s o) = plain.LocalArray s o
  stmt_view (held_stmt.Do e) = plain.Do (expr_view e)
  stmt_view (held_stmt.If' c p a b) = plain.If (expr_view c) (stmt_view a) (else_row_view b)
  stmt_view (held_stmt.While' c p s) = plain.While (expr_view c) (stmt_view s)
  stmt_view (held_stmt.DoWhile' p s c) = plain.DoWhile (stmt_view s) (expr_view c)
  stmt_view (held_stmt.For' k row c step p s) =
      plain.For (stmts_row_view row) (perhaps_view c) (perhaps_view step) (stmt_view s)
  stmt_view (held_stmt.Switch' e k row d) =
      plain.Switch (expr_view e) (cases_row_view row) (else_row_view d)
  stmt_view (held_stmt.Return e) = plain.Return (expr_view e)
  stmt_view held_stmt.Break = plain.Break
  stmt_view held_stmt.Continue = plain.Continue
  stmt_view (held_stmt.Exit e tag) = plain.Exit (expr_view e) tag
  stmt_view (held_stmt.Sleep e tag) = plain.Sleep (expr_view e) tag
  stmt_view (held_stmt.Assert e) = plain.Assert (expr_view e)
  stmt_view (held_stmt.State automaton state c) = plain.State automaton state (perhaps_view c)
  stmt_view held_stmt.Empty = plain.Empty

  -- of a statement that may be absent, as a node holds it
  pub else_row_view : held_stmt.Held-Stmt-If-2 → Else
  else_row_view held_stmt.None' = no_else
  else_row_view (held_stmt.Some' p s) = otherwise (stmt_view s)

  -- of statements, as a node holds them
  pub stmts_row_view : {n : _} → held_stmt.Row_of-Stmt n → Stmts
  stmts_row_view held_stmt.end_of-Stmt = no_stmts
  stmts_row_view (held_stmt.more_of-Stmt s row) = then_stmt (stmt_view s) (stmts_row_view row)

  -- of cases, as a node holds them
  pub cases_row_view : {n : _} → held_stmt.Row_of-Case n → Cases
  cases_row_view held_stmt.end_of-Case = no_cases
  cases_row_view (held_stmt.more_of-Case ranges s row) =
      then_case (ranges) (stmt_view s) (cases_row_view row)

-- the statements that a list holds
abbrev pub stmts_view : List held_stmt.Stmt → Stmts
stmts_view [] = no_stmts
stmts_view (s ∷ stmts) = then_stmt (stmt_view s) (stmts_view stmts)

-- a statement that may be absent
abbrev pub else_view : Option (Box held_stmt.Stmt Global) → Else
else_view None = no_else
else_view (Some s) = otherwise (stmt_view s.value)

-- the cases that a list holds
abbrev pub cases_view : List held_case.Case → Cases
cases_view [] = no_cases
cases_view (case ∷ cases) = then_case case.ranges (stmt_view case.stmt) (cases_view cases)

-- ---- tables

-- a slot
abbrev pub slot_view : held_slot.Slot → Slot
slot_view slot.Scalar = plain.ScalarSlot
slot_view slot.Reference = plain.ReferenceSlot
slot_view (slot.Array shape) = plain.ArraySlot (sizes shape)
slot_view (slot.Open inner) = plain.OpenSlot inner

-- a global, static or literal
abbrev pub object_view : held_object.Object → StaticObject
object_view object =
    record { sizes = sizes object.shape; constant = object.constant; first = object.first }

-- a body
abbrev pub body_view : held_body.Body → Body
body_view body = record { slots = map slot_view body.slots; stmt = stmt_view body.stmt }

-- a route
abbrev pub route_view : held_route.Route → Route
route_view route = record {
  automaton = route.automaton;
  cases = map (λ case. (case.0, case.1)) route.cases;
  fallback = route.fallback;
}

-- a function
abbrev pub function_view : held_function.Function → Function
function_view function = record {
  params = map slot_view function.params;
  tag = function.tag;
  dispatch = option_map route_view function.dispatch;
  bodies = map body_view function.bodies;
}

-- a automaton
abbrev pub automaton_view : held_automaton.Automaton → Automaton
automaton_view automaton =
    record { name = automaton.name; states = automaton.states; enter = automaton.enter }

-- a tag
abbrev pub tag_view : held_tag.Tag → Tag
tag_view tag = record { number = tag.number; name = tag.name }

-- a public function
abbrev pub public_view : held_public.Public → Public
public_view item = record { name = item.name; function = item.function }

-- a program
abbrev pub program_view : held_program.Program → Program
program_view program = record {
  objects = map object_view program.objects;
  functions = map function_view program.functions;
  natives = program.natives;
  automata = map automaton_view program.automata;
  tags = map tag_view program.tags;
  publics = map public_view program.publics;
  entry = program.entry;
  dynamic = program.dynamic;
}
