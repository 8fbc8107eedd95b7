-- Heads by computation: which rules they break, their parameters, and which are equal.
use Rattle.std.specs.Prelude.{◌≡◌, ℕ, pos, List, [], ◌∷◌, map, codes, Bool, true, false, Option}
use Rattle.std.specs.Prelude.{None, Some, refl}
use Rattle.std.specs.Int.{int_wrap}
use Rattle.pawn_cells.specs.Operators as cells
use Rattle.pawn_token.specs.declared.sign.Sign.TheVariants as sign
use Rattle.pawn_tree.specs.declared.declaration.HeadName.TheVariants as called
use Rattle.pawn_tree.specs.declared.expression.SizeofOperand.TheVariants as sized
use Rattle.pawn_tree.specs.Expressions as e
use Rattle.pawn_tree.specs.Expressions.{Expr}
use Rattle.pawn_tree.specs.Variables.{Dim, Open, Cells}
use Rattle.pawn_tree.specs.Declarations as d
use Rattle.pawn_tree.specs.Declarations.{Head, Param}
use Rattle.names_rules.specs.Verdict.{Verdict, Fault, Stands, Breaks, faults_of}
use Rattle.types_rules.specs.Around as head_types
use Rattle.types_rules.specs.Around.{Default, NoDefault, Always, SizeOf, TagOf}
use Rattle.types_rules.specs.Scope.{found}
use Rattle.types_rules.specs.NamesAndNumbers.{sizeof_rule, text_rule}
use Rattle.types_rules.specs.Operators.{operator_rule}
use Rattle.types_rules.specs.Constants.{constant_rule}
use Rattle.types_rules.specs.Params.{Headed, params, head_rule}
use Rattle.types_rules.specs.SameHeads.{same_params}
use Rattle.types_rules.proofs.Samples.{at, name, number, var, text, binary, scope, around}

abbrev plain : List ℕ → Option Expr → Param
plain bytes value = d.Plain false false [] (name 2 bytes) [] value

abbrev array : Bool → List ℕ → List Dim → Option Expr → Param
array reference bytes dims value = d.Plain false reference [] (name 2 bytes) dims value

abbrev size_of : List ℕ → Expr
size_of bytes = e.Sizeof (at 3) (sized.Name (name 4 bytes) 0)

abbrev headed : List Param → Verdict Headed
headed all =
    head_rule around (at 1) scope
    (record { tag = None; name = called.Name (name 1 (codes "z")); params = all })

abbrev kinds : List Param → List ℕ
kinds all = map (λ (fault : Fault). fault.kind) (faults_of (headed all))

abbrev defaults_in : Verdict Headed → List Default
defaults_in (Stands it) = map (λ (param : head_types.Param). param.default) it.params
defaults_in (Breaks found) = []

abbrev defaults : List Param → List Default
defaults all = defaults_in (headed all)

-- `(p, p)`, `(p[][])`, `(&p[])`, `(p[] = 1)`, `(p[0])`, `(p[1][1][1][1])`, `(n, q = n)` hides the
-- constant, `(q = zz)`, `(q = "a")`, `(q = sizeof p, p[])`
refused : map kinds (
    (plain (codes "p") None ∷ plain (codes "p") None ∷ [])
    ∷ (array false (codes "p") (Open ∷ Open ∷ []) None ∷ [])
    ∷ (array true (codes "p") (Open ∷ []) None ∷ [])
    ∷ (array false (codes "p") (Open ∷ []) (Some (number 3 1)) ∷ [])
    ∷ (array false (codes "p") (Cells (number 3 0) ∷ []) None ∷ [])
    ∷ (array false (codes "p")
    (Cells (number 3 1) ∷ Cells (number 3 1) ∷ Cells (number 3 1) ∷ Cells (number 3 1) ∷ []) None
    ∷ [])
    ∷ (plain (codes "n") None ∷ plain (codes "q") (Some (var 3 (codes "n"))) ∷ [])
    ∷ (plain (codes "q") (Some (var 3 (codes "zz"))) ∷ [])
    ∷ (plain (codes "q") (Some (text 3 (codes "a"))) ∷ [])
    ∷ (plain (codes "q") (Some (size_of (codes "p"))) ∷ array false (codes "p") (Open ∷ []) None
    ∷ []) ∷ [])
    ≡ (51 ∷ []) ∷ (57 ∷ []) ∷ (58 ∷ []) ∷ (57 ∷ []) ∷ (68 ∷ []) ∷ (55 ∷ []) ∷ (57 ∷ []) ∷ (50 ∷ [])
    ∷ (57 ∷ []) ∷ (50 ∷ []) ∷ []
unfolding params found constant_rule sizeof_rule text_rule
refused = refl

-- `(p[], q = sizeof p)`, `(p[], q = (sizeof p))` and `(p[], q = sizeof p + 1)`, which is the
-- constant 1; `(q = sizeof a)`
computed : map defaults (
    (array false (codes "p") (Open ∷ []) None ∷ plain (codes "q") (Some (size_of (codes "p"))) ∷ [])
    ∷ (array false (codes "p") (Open ∷ []) None
    ∷ plain (codes "q") (Some (e.Paren (at 2) (size_of (codes "p")))) ∷ [])
    ∷ (array false (codes "p") (Open ∷ []) None
    ∷ plain (codes "q") (Some (binary 3 sign.Plus (size_of (codes "p")) (number 6 1))) ∷ [])
    ∷ (plain (codes "q") (Some (size_of (codes "a"))) ∷ []) ∷ [])
    ≡ (NoDefault ∷ SizeOf 0 ∷ []) ∷ (NoDefault ∷ SizeOf 0 ∷ [])
    ∷ (NoDefault ∷ Always (pos 1) 0 ∷ []) ∷ (Always (pos 3) 0 ∷ []) ∷ []
unfolding params found constant_rule sizeof_rule operator_rule cells.binary int_wrap
computed = refl

abbrev params_in : Verdict Headed → List head_types.Param
params_in (Stands it) = it.params
params_in (Breaks found) = []

abbrev same : List Param → List Param → Bool
same x y = same_params (params_in (headed x)) (params_in (headed y))

-- the names of parameters count, and the values of defaults
equal : same (plain (codes "p") (Some (number 3 1)) ∷ [])
    (plain (codes "p") (Some (e.Paren (at 3) (number 4 1))) ∷ []) ≡ true
unfolding params found constant_rule
equal = refl

other_name : same (plain (codes "p") None ∷ []) (plain (codes "q") None ∷ []) ≡ false
unfolding params found constant_rule
other_name = refl

other_value : same (plain (codes "p") (Some (number 3 1)) ∷ [])
    (plain (codes "p") (Some (number 3 2)) ∷ []) ≡ false
unfolding params found constant_rule
other_value = refl
