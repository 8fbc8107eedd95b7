-- Trees by computation: which declaration is meant, what constants are worth, and which nodes break
-- a rule.
use Rattle.std.specs.Prelude.{◌≡◌, ℕ, ℤ, pos, negsuc, false, List, [], ◌∷◌, Option, Some, None, map}
use Rattle.std.specs.Prelude.{codes, refl}
use Rattle.std.specs.Int.{int_wrap}
use Rattle.pawn_cells.specs.Operators.{binary}
use Rattle.pawn_token.specs.declared.sign.Sign.TheVariants as sign
use Rattle.pawn_tree.specs.declared.name.At.{At}
use Rattle.pawn_tree.specs.declared.name.Name as n
use Rattle.pawn_tree.specs.declared.name.StateName as state
use Rattle.pawn_tree.specs.declared.variable.Storage.TheVariants as storage
use Rattle.pawn_tree.specs.declared.declaration.HeadName.TheVariants as called
use Rattle.pawn_tree.specs.declared.expression.SizeofOperand.TheVariants as sized
use Rattle.pawn_tree.specs.declared.expression.TagofOperand.TheVariants as operand
use Rattle.pawn_tree.specs.Expressions as e
use Rattle.pawn_tree.specs.Expressions.{Expr}
use Rattle.pawn_tree.specs.Variables as v
use Rattle.pawn_tree.specs.Variables.{Var, Variables}
use Rattle.pawn_tree.specs.Statements as s
use Rattle.pawn_tree.specs.Statements.{Stmt}
use Rattle.pawn_tree.specs.Declarations as d
use Rattle.pawn_tree.specs.Declarations.{Head, Decl, Item, Param, Tree}
use Rattle.names_rules.specs.Verdict.{Fault}
use Rattle.names_rules.specs.Resolves.{Names}
use Rattle.names_rules.specs.TreeMarks.{tree_marks}
use Rattle.names_rules.specs.Around.{around_of}
use Rattle.names_rules.specs.Uses as u
use Rattle.names_rules.specs.Values as w
use Rattle.names_rules.specs.Faults.{faults}

-- ---- short spellings: a token's line is its number here, so that a place tells the token

abbrev at : ℕ → At
at token = record { token = token; place = record { file = 0; line = token } }

abbrev name : ℕ → List ℕ → n.Name
name token bytes = record { at = at token; bytes = bytes }

abbrev number : ℕ → ℕ → Expr
number token value = e.Number (at token) (pos value)

abbrev use_of : ℕ → List ℕ → Expr
use_of token bytes = e.Name (at token) bytes

abbrev variable : ℕ → List ℕ → List v.Dim → Option v.Init → Var
variable token bytes dims init =
    record { tag = None; name = name token bytes; dims = dims; init = init }

abbrev plain : ℕ → List ℕ → Var
plain token bytes = variable token bytes [] None

abbrev given : ℕ → List ℕ → Expr → Var
given token bytes value = variable token bytes [] (Some (v.Value value))

abbrev news : List Var → Variables
news vars = record { storage = storage.New; constant = false; vars = vars }

abbrev global : ℕ → Var → Decl
global token x = d.Variables (at token) (news (x ∷ []))

abbrev constant : ℕ → ℕ → List ℕ → Expr → Decl
constant node token bytes value =
    d.Constant (at node) (record { tag = None; name = name token bytes; value = value })

abbrev head : ℕ → List ℕ → List Param → Head
head token bytes params =
    record { tag = None; name = called.Name (name token bytes); params = params }

abbrev function_in : Option (List state.StateName) → ℕ → List ℕ → List Param → Stmt → Decl
function_in states token bytes params body =
    d.Function (at token) (record {
      is_static = false;
      is_stock = false;
      is_public = false;
      head = head token bytes params;
      states = states;
      body = body;
    })

abbrev function : ℕ → List ℕ → List Param → Stmt → Decl
function token bytes params body = function_in None token bytes params body

abbrev parameter : ℕ → List ℕ → List v.Dim → Option Expr → Param
parameter token bytes dims value = d.Plain false false [] (name token bytes) dims value

abbrev block : ℕ → List Stmt → Stmt
block token list = s.Block (at token) (s.stmts list)

abbrev local : ℕ → List Var → Stmt
local token vars = s.Local (at token) (news vars)

abbrev assign : ℕ → Expr → Expr → Stmt
assign token x y = s.Do (at token) (e.Assign (at token) sign.Assign x y)

abbrev call : ℕ → List ℕ → Stmt
call token bytes = s.Do (at token) (e.Call (at token) bytes e.no_args false)

abbrev item : ℕ → List ℕ → Option Expr → Item
item token bytes value = record { name = name token bytes; value = value }

abbrev names : Tree → Names
names tree =
    record {
      uses = u.uses (around_of tree) (tree_marks tree);
      values = w.values (around_of tree) (tree_marks tree);
    }

abbrev pairs : List (ℕ × ℕ) → List (ℕ × ℤ) → Names
pairs uses values = record { uses = uses; values = values }

abbrev fault : ℕ → ℕ → List Fault
fault kind token = record { kind = kind; place = record { file = 0; line = token } } ∷ []

-- ---- blocks

-- main() { new a = 1, b = a; { new a; a = b; } }
abbrev hides : Tree
hides = function 0 (codes "main") [] (block 3 (
    local 4 (given 5 (codes "a") (number 7 1) ∷ given 9 (codes "b") (use_of 11 (codes "a")) ∷ [])
    ∷ block 13 (local 14 (plain 15 (codes "a") ∷ [])
    ∷ assign 17 (use_of 17 (codes "a")) (use_of 19 (codes "b")) ∷ []) ∷ [])) ∷ []

hides_whole : faults hides ≡ []
hides_whole = refl

hides_names : names hides ≡ pairs ((11, 5) ∷ (17, 15) ∷ (19, 9) ∷ []) []
hides_names = refl

-- main() { x = 1; }
undeclared : faults (function 0 (codes "main") []
    (block 3 (assign 4 (use_of 4 (codes "x")) (number 6 1) ∷ [])) ∷ []) ≡ fault 50 4
undeclared = refl

-- new a = a;
own_value : faults (global 0 (given 1 (codes "a") (use_of 3 (codes "a"))) ∷ []) ≡ fault 50 3
own_value = refl

-- main() { { new a; } a = 1; }
closed : faults (function 0 (codes "main") []
    (block 3 (block 4 (local 5 (plain 6 (codes "a") ∷ []) ∷ [])
    ∷ assign 9 (use_of 9 (codes "a")) (number 11 1) ∷ [])) ∷ []) ≡ fault 50 9
closed = refl

-- main() { new a; new a; }
twice : faults (function 0 (codes "main") []
    (block 3 (local 4 (plain 5 (codes "a") ∷ []) ∷ local 7 (plain 8 (codes "a") ∷ []) ∷ [])) ∷ [])
    ≡ fault 51 7
twice = refl

-- main() for (new i;;) { new i; }
loop : faults (function 0 (codes "main") []
    (s.For (at 3) (s.New (plain 6 (codes "i") ∷ [])) None None
    (block 10 (local 11 (plain 12 (codes "i") ∷ []) ∷ []))) ∷ []) ≡ []
loop = refl

-- f(a, b = a) { new a; }
abbrev parameters : Tree
parameters =
    function 0 (codes "f") (parameter 2 (codes "a") [] None
    ∷ parameter 4 (codes "b") [] (Some (use_of 6 (codes "a"))) ∷ [])
    (block 8 (local 9 (plain 10 (codes "a") ∷ []) ∷ [])) ∷ []

parameters_whole : faults parameters ≡ []
parameters_whole = refl

parameters_names : names parameters ≡ pairs ((6, 2) ∷ []) []
parameters_names = refl

-- f(n = sizeof a, a[]) { }
later_parameter : faults (function 0 (codes "f")
    (parameter 2 (codes "n") [] (Some (e.Sizeof (at 4) (sized.Name (name 5 (codes "a")) 0)))
    ∷ parameter 7 (codes "a") (v.Open ∷ []) None ∷ []) (block 11 []) ∷ []) ≡ fault 50 4
later_parameter = refl

-- ---- functions

-- forward f(); main() f();
only_forward : faults (d.Forward (at 0) false (head 1 (codes "f") [])
    ∷ function 5 (codes "main") [] (call 8 (codes "f")) ∷ []) ≡ fault 50 8
only_forward = refl

-- forward f(); main() f(); f() { }
first_head : names (d.Forward (at 0) false (head 1 (codes "f") [])
    ∷ function 5 (codes "main") [] (call 8 (codes "f"))
    ∷ function 12 (codes "f") [] (block 15 []) ∷ []) ≡ pairs ((8, 1) ∷ []) []
first_head = refl

-- f() { } f() { }
two_bodies : faults (function 0 (codes "f") [] (block 3 []) ∷ function 5 (codes "f") [] (block 8 [])
    ∷ []) ≡ fault 51 5
two_bodies = refl

-- f() <s> { } f() <> { }
two_classified : faults (function_in
    (Some (record { automaton = None; state = name 4 (codes "s") } ∷ [])) 0 (codes "f") []
    (block 6 [])
    ∷ function_in (Some []) 8 (codes "f") [] (block 13 []) ∷ []) ≡ []
two_classified = refl

-- new f; f() { }
variable_and_function : faults
    (global 0 (plain 1 (codes "f")) ∷ function 3 (codes "f") [] (block 6 []) ∷ []) ≡ fault 51 3
variable_and_function = refl

-- ---- predefined constants

-- const true = 5;
declares_true : faults (constant 0 1 (codes "true") (number 3 5) ∷ []) ≡ fault 51 0
declares_true = refl

-- main() { new true; true = cellmax; }
abbrev hides_true : Tree
hides_true = function 0 (codes "main") [] (block 3 (local 4 (plain 5 (codes "true") ∷ [])
    ∷ assign 7 (use_of 7 (codes "true")) (use_of 9 (codes "cellmax")) ∷ [])) ∷ []

hides_true_whole : faults hides_true ≡ []
hides_true_whole = refl

hides_true_names : names hides_true ≡ pairs ((7, 5) ∷ []) []
hides_true_names = refl

-- ---- values

-- enum T { a, b = 5, c }
abbrev enumeration : Tree
enumeration =
    d.Enum (at 0) (Some (name 1 (codes "T")))
    (item 3 (codes "a") None ∷ item 5 (codes "b") (Some (number 7 5)) ∷ item 9 (codes "c") None
    ∷ []) ∷ []

enumeration_whole : faults enumeration ≡ []
enumeration_whole = refl

enumeration_names : names enumeration
    ≡ pairs [] ((1, pos 7) ∷ (3, pos 0) ∷ (5, pos 5) ∷ (9, pos 6) ∷ [])
unfolding int_wrap
enumeration_names = refl

-- enum T { a, b = T }
own_label : map (λ x. x.kind) (faults
    (d.Enum (at 0) (Some (name 1 (codes "T")))
    (item 3 (codes "a") None ∷ item 5 (codes "b") (Some (use_of 7 (codes "T"))) ∷ []) ∷ []))
    ≡ 50 ∷ 50 ∷ 50 ∷ []
own_label = refl

-- const c = -7 / 2;
rounds_down : names (constant 0 1 (codes "c")
    (e.Binary (at 3) sign.Slash (e.Prefix (at 3) sign.Minus (number 4 7)) (number 6 2)) ∷ [])
    ≡ pairs [] ((1, negsuc 3) ∷ [])
unfolding binary int_wrap
rounds_down = refl

-- const c = 0 && 1 / 0;
by_zero : faults (constant 0 1 (codes "c")
    (e.Binary (at 3) sign.LogicalAnd (number 3 0)
    (e.Binary (at 5) sign.Slash (number 5 1) (number 7 0))) ∷ []) ≡ fault 67 5
unfolding binary
by_zero = refl

-- new x; main() { x = x / 0; }
no_constant : faults (global 0 (plain 1 (codes "x")) ∷ function 3 (codes "main") [] (block 6
    (assign 7 (use_of 7 (codes "x"))
    (e.Binary (at 9) sign.Slash (use_of 9 (codes "x")) (number 11 0)) ∷ [])) ∷ []) ≡ []
no_constant = refl

-- new x; const c = x;
variable_value : faults (global 0 (plain 1 (codes "x"))
    ∷ constant 3 4 (codes "c") (use_of 6 (codes "x")) ∷ []) ≡ fault 57 3
variable_value = refl

-- ---- sizes

abbrev size_of : ℕ → ℕ → List ℕ → Expr
size_of node token bytes = e.Sizeof (at node) (sized.Name (name token bytes) 0)

-- new n; new a[n]; and the same with const c = sizeof a;
abbrev unknown_size : Tree
unknown_size =
    global 0 (plain 1 (codes "n"))
    ∷ global 3 (variable 4 (codes "a") (v.Cells (use_of 6 (codes "n")) ∷ []) None) ∷ []

unknown_size_whole : faults unknown_size ≡ []
unknown_size_whole = refl

wanted_size : faults (global 0 (plain 1 (codes "n"))
    ∷ global 3 (variable 4 (codes "a") (v.Cells (use_of 6 (codes "n")) ∷ []) None)
    ∷ constant 9 10 (codes "c") (size_of 12 13 (codes "a")) ∷ []) ≡ fault 57 3
wanted_size = refl

-- new a[] = {7, 7, 7}; const c = sizeof a;
listed_size : names (global 0 (variable 1 (codes "a") (v.Open ∷ [])
    (Some (v.Braces (at 5) (v.inits
    (v.Value (number 6 7) ∷ v.Value (number 8 7) ∷ v.Value (number 10 7) ∷ [])) false)))
    ∷ constant 13 14 (codes "c") (size_of 16 17 (codes "a")) ∷ [])
    ≡ pairs ((17, 1) ∷ []) ((14, pos 3) ∷ [])
listed_size = refl

-- new a[10 char]; const c = sizeof a;
character_size : names (global 0 (variable 1 (codes "a") (v.Chars (number 3 10) ∷ []) None)
    ∷ constant 7 8 (codes "c") (size_of 10 11 (codes "a")) ∷ [])
    ≡ pairs ((11, 1) ∷ []) ((8, pos 3) ∷ [])
character_size = refl

-- ---- tags and operators

abbrev fixed : ℕ → Option n.Name
fixed token = Some (name token (codes "Fixed"))

-- const Fixed:a = 1; const b = tagof a;
tag_value : names (d.Constant (at 0)
    (record { tag = fixed 1; name = name 3 (codes "a"); value = number 5 1 })
    ∷ constant 7 8 (codes "b") (e.Tagof (at 10) (operand.Name (name 11 (codes "a")))) ∷ [])
    ≡ pairs ((11, 3) ∷ []) ((3, pos 1) ∷ (8, pos 2) ∷ [])
tag_value = refl

abbrev fixed_parameter : ℕ → List ℕ → Param
fixed_parameter token bytes =
    d.Plain false false (name token (codes "Fixed") ∷ []) (name token bytes) [] None

-- const Fixed:a = 1; const b = a + a; operator+(Fixed:l, Fixed:r) return l;
abbrev defined_sum : Tree
defined_sum =
    d.Constant (at 0) (record { tag = fixed 1; name = name 3 (codes "a"); value = number 5 1 })
    ∷ constant 7 8 (codes "b") (e.Binary (at 10) sign.Plus (use_of 10 (codes "a"))
    (use_of 12 (codes "a")))
    ∷ d.Function (at 14) (record {
      is_static = false;
      is_stock = false;
      is_public = false;
      head =
          record {
            tag = None;
            name = called.Operator (at 14) sign.Plus;
            params = fixed_parameter 17 (codes "l") ∷ fixed_parameter 20 (codes "r") ∷ [];
          };
      states = None;
      body = s.Return (at 24) (Some (use_of 25 (codes "l")));
    }) ∷ []

defined_sum_faults : faults defined_sum ≡ fault 57 7
defined_sum_faults = refl
