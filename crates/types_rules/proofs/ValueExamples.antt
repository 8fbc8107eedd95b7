-- Sizes and first cells by computation, and which rules they break.
use Rattle.std.specs.Prelude.{◌≡◌, ℕ, ℤ, pos, List, [], ◌∷◌, map, codes, true, false, Option, None}
use Rattle.std.specs.Prelude.{Some, refl}
use Rattle.std.specs.Int.{int_wrap}
use Rattle.pawn_token.specs.declared.sign.Sign.TheVariants as sign
use Rattle.pawn_tree.specs.Expressions.{Expr}
use Rattle.pawn_tree.specs.Expressions as e
use Rattle.pawn_tree.specs.Variables.{Dim, Open, Cells, Chars, Init, Value, Braces, inits}
use Rattle.names_rules.specs.Verdict.{Verdict, Fault, Stands, Breaks, faults_of}
use Rattle.types_rules.specs.Scope.{found}
use Rattle.types_rules.specs.NamesAndNumbers.{text_rule}
use Rattle.types_rules.specs.Texts.{packed_cells}
use Rattle.types_rules.specs.Operators.{negate_rule}
use Rattle.types_rules.specs.Constants.{constant_rule}
use Rattle.types_rules.specs.FirstValues.{further}
use Rattle.types_rules.specs.Arrays.{ArrayValue, array_value}
use Rattle.types_rules.specs.Cells.{static_value}
use Rattle.types_rules.proofs.Samples.{at, number, var, text, scope, around}

-- ---- short spellings: all stands at one token

abbrev cells : ℕ → Dim
cells size = Cells (number 1 size)

abbrev one : ℕ → Init
one v = Value (number 1 v)

abbrev list : List Init → Init
list values = Braces (at 1) (inits values) false

abbrev on : List Init → Init
on values = Braces (at 1) (inits values) true

abbrev words : List ℕ → Init
words bytes = Value (text 1 bytes)

-- an array without a tag
abbrev array : Dim → List Dim → Option Init → Verdict ArrayValue
array dim dims init = array_value around scope (at 1) 0 dim dims init

abbrev kinds : Verdict ArrayValue → List ℕ
kinds it = map (λ (fault : Fault). fault.kind) (faults_of it)

abbrev cells_in : Verdict ArrayValue → Option (List ℤ)
cells_in (Stands it) = Some it.cells
cells_in (Breaks found) = None

abbrev sizes_in : Verdict ArrayValue → Option (List ℕ)
sizes_in (Stands it) = Some it.sizes
sizes_in (Breaks found) = None

-- `[5] = {2, 4, ...}`, `[3] = {7, ...}`, `[4] = {1, 2}`, `[] = "ab"`, `[2][3] = {"ab", {1}}`, `[2]`
first_cells : map cells_in (
    array (cells 5) [] (Some (on (one 2 ∷ one 4 ∷ [])))
    ∷ array (cells 3) [] (Some (on (one 7 ∷ [])))
    ∷ array (cells 4) [] (Some (list (one 1 ∷ one 2 ∷ [])))
    ∷ array Open [] (Some (words (codes "ab")))
    ∷ array (cells 2) (cells 3 ∷ []) (Some (list (words (codes "ab") ∷ list (one 1 ∷ []) ∷ [])))
    ∷ array (cells 2) [] None ∷ [])
    ≡ Some (pos 2 ∷ pos 4 ∷ pos 6 ∷ pos 8 ∷ pos 10 ∷ []) ∷ Some (pos 7 ∷ pos 7 ∷ pos 7 ∷ [])
    ∷ Some (pos 1 ∷ pos 2 ∷ pos 0 ∷ pos 0 ∷ []) ∷ Some (pos 97 ∷ pos 98 ∷ pos 0 ∷ [])
    ∷ Some (pos 97 ∷ pos 98 ∷ pos 0 ∷ pos 1 ∷ pos 0 ∷ pos 0 ∷ []) ∷ Some (pos 0 ∷ pos 0 ∷ []) ∷ []
unfolding text_rule found constant_rule further int_wrap
first_cells = refl

-- `[] = {1, 2, 3}`, `[][2] = {{1}, {2}, {3}}`, `[5 char]`, `[1 char][2]`
sizes : map sizes_in (
    array Open [] (Some (list (one 1 ∷ one 2 ∷ one 3 ∷ [])))
    ∷ array Open (cells 2 ∷ [])
    (Some (list (list (one 1 ∷ []) ∷ list (one 2 ∷ []) ∷ list (one 3 ∷ []) ∷ [])))
    ∷ array (Chars (number 1 5)) [] None ∷ array (Chars (number 1 1)) (cells 2 ∷ []) None ∷ [])
    ≡ Some (3 ∷ []) ∷ Some (3 ∷ 2 ∷ []) ∷ Some (2 ∷ []) ∷ Some (1 ∷ 2 ∷ []) ∷ []
unfolding text_rule found constant_rule further int_wrap
sizes = refl

-- `[2] = {1, 2, 3}`, `[2] = 5`, `[2] = {{1}}`, `[2][2] = {1}`, `[2][2] = "ab"`, `[2] = {"a"}`,
-- `[]`, `[] = {1, ...}`, `[2][]`, `[0]`, `[0 char]`, `[-1]`, `[x]`, `[2][2][2][2]`,
-- `[1024][1024]`, `[2][2] = {{1, 2, 3}}`, `[2][2] = {{1}, ...}`
refused : map kinds (
    array (cells 2) [] (Some (list (one 1 ∷ one 2 ∷ one 3 ∷ [])))
    ∷ array (cells 2) [] (Some (one 5))
    ∷ array (cells 2) [] (Some (list (list (one 1 ∷ []) ∷ [])))
    ∷ array (cells 2) (cells 2 ∷ []) (Some (list (one 1 ∷ [])))
    ∷ array (cells 2) (cells 2 ∷ []) (Some (words (codes "ab")))
    ∷ array (cells 2) [] (Some (list (words (codes "a") ∷ [])))
    ∷ array Open [] None ∷ array Open [] (Some (on (one 1 ∷ []))) ∷ array (cells 2) (Open ∷ []) None
    ∷ array (cells 0) [] None ∷ array (Chars (number 1 0)) [] None
    ∷ array (Cells (e.Prefix (at 1) sign.Minus (number 1 1))) [] None
    ∷ array (Cells (var 1 (codes "x"))) [] None
    ∷ array (cells 2) (cells 2 ∷ cells 2 ∷ cells 2 ∷ []) None
    ∷ array (cells 1024) (cells 1024 ∷ []) None
    ∷ array (cells 2) (cells 2 ∷ []) (Some (list (list (one 1 ∷ one 2 ∷ one 3 ∷ []) ∷ [])))
    ∷ array (cells 2) (cells 2 ∷ []) (Some (on (list (one 1 ∷ []) ∷ []))) ∷ [])
    ≡ (55 ∷ []) ∷ (55 ∷ []) ∷ (55 ∷ []) ∷ (55 ∷ []) ∷ (55 ∷ []) ∷ (57 ∷ []) ∷ (57 ∷ []) ∷ (57 ∷ [])
    ∷ (57 ∷ [])
    ∷ (68 ∷ []) ∷ (68 ∷ []) ∷ (68 ∷ []) ∷ (57 ∷ []) ∷ (55 ∷ []) ∷ (68 ∷ []) ∷ (55 ∷ []) ∷ (55 ∷ [])
    ∷ []
unfolding text_rule found constant_rule further negate_rule int_wrap
refused = refl

-- a variable of one cell: `= {1}`, `= "ab"`, `= a`, `= x`, `= n`, and without a value
abbrev static_kinds : Option Init → List ℕ
static_kinds init =
    map (λ (fault : Fault). fault.kind) (faults_of (static_value around scope (at 1) 0 init))

cells_refused : map static_kinds (
    Some (list (one 1 ∷ [])) ∷ Some (words (codes "ab")) ∷ Some (Value (var 1 (codes "a")))
    ∷ Some (Value (var 1 (codes "x"))) ∷ Some (Value (var 1 (codes "n"))) ∷ None ∷ [])
    ≡ (53 ∷ []) ∷ (54 ∷ []) ∷ (54 ∷ []) ∷ (57 ∷ []) ∷ [] ∷ [] ∷ []
unfolding text_rule found constant_rule
cells_refused = refl

-- a packed text: its first character stands in the most significant byte
packed : packed_cells (codes "abcd") ≡ pos 1633837924 ∷ pos 0 ∷ []
unfolding packed_cells
packed = refl
