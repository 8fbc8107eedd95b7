-- A scope to try expressions in, and short spellings. A token's line is its number here.
use Rattle.std.specs.Prelude.{ℕ, ℤ, pos, List, [], ◌∷◌, map, codes, true, false, Option, None, Some}
use Rattle.pawn_token.specs.declared.sign.Sign.{Sign}
use Rattle.pawn_tree.specs.declared.name.At.{At}
use Rattle.pawn_tree.specs.declared.name.Name as n
use Rattle.pawn_tree.specs.Expressions as e
use Rattle.pawn_tree.specs.Expressions.{Expr, Arg}
use Rattle.pawn_tags.specs.declared.op.Op.TheVariants as op
use Rattle.pawn_meaning.specs.Program as code
use Rattle.names_rules.specs.Verdict.{Verdict, Fault, Stands, Breaks, faults_of}
use Rattle.types_rules.specs.Typed.{Typed, Form}
use Rattle.types_rules.specs.Around.{Around, Param, Default, NoDefault, Always, SizeOf}
use Rattle.types_rules.specs.Scope.{Scope, Entry, Meaning, Constant, Variable, Array, Function}
use Rattle.types_rules.specs.Scope.{Native, Taken, Unknown}
use Rattle.types_rules.specs.Expressions.{expr}

-- ---- spellings

abbrev pub at : ℕ → At
at token = record { token = token; place = record { file = 0; line = token } }

abbrev pub name : ℕ → List ℕ → n.Name
name token bytes = record { at = at token; bytes = bytes }

abbrev pub number : ℕ → ℕ → Expr
number token value = e.Number (at token) (pos value)

abbrev pub var : ℕ → List ℕ → Expr
var token bytes = e.Name (at token) bytes

abbrev pub text : ℕ → List ℕ → Expr
text token bytes = e.Text (at token) bytes false

-- an operator between operands, of which the first begins at a token
abbrev pub binary : ℕ → Sign → Expr → Expr → Expr
binary token sign l r = e.Binary (at token) sign l r

abbrev pub index : ℕ → Expr → Expr → Expr
index token a i = e.Index (at token) a i

abbrev pub call : ℕ → List ℕ → List Arg → Expr
call token f arguments = e.Call (at token) f (e.args arguments) false

-- ---- a scope

abbrev pub declares : List ℕ → Meaning → Entry
declares bytes it = record { name = bytes; means = it }

-- variables x and k, of which k is constant, y of tag Fixed, arrays a (3) and m (2, 3), an open
-- array o, a constant n, functions f and g, a name that a forward alone has, and one whose
-- declaration is broken
abbrev pub scope : Scope
scope = (
    declares (codes "x") (Variable (code.Global 0) 0 false)
    ∷ declares (codes "k") (Variable (code.Global 1) 0 true)
    ∷ declares (codes "y") (Variable (code.Own 0) 2 false)
    ∷ declares (codes "a") (Array (code.Object 2) (record { first = Some 3; inner = [] }) 0 false)
    ∷ declares (codes "m")
    (Array (code.Object 3) (record { first = Some 2; inner = 3 ∷ [] }) 0 false)
    ∷ declares (codes "o")
    (Array (code.ParamArray 1 false) (record { first = None; inner = [] }) 0 false)
    ∷ declares (codes "n") (Constant (pos 5) 0)
    ∷ declares (codes "f") (Function 0 0)
    ∷ declares (codes "g") (Function 1 2)
    ∷ declares (codes "h") (Function 2 0)
    ∷ declares (codes "w") (Native 0 0)
    ∷ declares (codes "forward") Taken
    ∷ declares (codes "broken") Unknown
    ∷ []) ∷ []

abbrev pub plain : List ℕ → Default → Param
plain bytes default =
    record {
      name = bytes;
      constant = false;
      reference = false;
      tags = 0
          ∷ [];
      extent = None;
      default = default;
    }

-- f(p, q = 2), g(&p), h(p[], q = sizeof p), native w(...)
abbrev pub around : Around
around = record {
  tags = codes "_" ∷ codes "bool" ∷ codes "Fixed" ∷ [];
  operators = (record { op = op.Add; left = 2; right = 0 }, 1) ∷ [];
  functions =
      record {
        number = 0;
        tag = 0;
        head =
            Some (record {
              params = plain (codes "p") NoDefault
                  ∷ plain (codes "q") (Always (pos 2) 0) ∷ [];
              rest = None;
            });
      }
      ∷ record {
        number = 1;
        tag = 2;
        head = Some (record {
          params =
              record {
                name = codes "p";
                constant = false;
                reference = true;
                tags = 0
                    ∷ [];
                extent = None;
                default = NoDefault;
              } ∷ [];
          rest = None;
        });
      }
      ∷ record {
        number = 2;
        tag = 0;
        head = Some (record {
          params = record {
            name = codes "p";
            constant = false;
            reference = false;
            tags = 0 ∷ [];
            extent = Some (record { first = None; inner = [] });
            default = NoDefault;
          } ∷ plain (codes "q") (SizeOf 0) ∷ [];
          rest = None;
        });
      }
      ∷ [];
  natives =
      record { number = 0; tag = 0; head = Some (record { params = []; rest = Some (0 ∷ []) }) }
      ∷ [];
}

-- ---- what is asked of a verdict

-- an expression, behind four objects
abbrev pub typed : Expr → Verdict Typed
typed it = expr around scope 4 it

-- the rules that it breaks
abbrev pub kinds : Expr → List ℕ
kinds it = map (λ (fault : Fault). fault.kind) (faults_of (typed it))

abbrev pub worth_in : Verdict Typed → Option ℤ
worth_in (Stands it) = it.value
worth_in (Breaks found) = None

-- its value as a constant
abbrev pub worth : Expr → Option ℤ
worth it = worth_in (typed it)

abbrev pub form_in : Verdict Typed → Option Form
form_in (Stands it) = Some it.form
form_in (Breaks found) = None

-- what it is
abbrev pub form : Expr → Option Form
form it = form_in (typed it)

abbrev pub warned_in : Verdict Typed → List ℕ
warned_in (Stands it) = map (λ (here : At). here.token) it.warned
warned_in (Breaks found) = []

-- the tokens that it warns of
abbrev pub warned : Expr → List ℕ
warned it = warned_in (typed it)
