-- The marks of each node stand behind those before it.
use Rattle.std.proofs.Common.{Bool, ℕ, List, [], ◌∷◌, ◌++◌, Option, Some, None, refl, sym, ◌∙◌, ap}
use Rattle.std.proofs.Common.{append_assoc}
use Rattle.std.specs.List.{Contains}
use Rattle.std.proofs.lemmas.List.Elements.{Contains-append_left}
use Rattle.pawn_cells.specs.declared.place.Place.{Place}
use Rattle.pawn_tree.specs.declared.name.At.{At}
use Rattle.pawn_tree.specs.declared.name.Name as n
use Rattle.pawn_tree.specs.declared.expression.SizeofOperand.{SizeofOperand}
use Rattle.pawn_tree.specs.declared.expression.SizeofOperand.TheVariants as sized
use Rattle.pawn_tree.specs.declared.expression.TagofOperand.{TagofOperand}
use Rattle.pawn_tree.specs.declared.expression.TagofOperand.TheVariants as tagged
use Rattle.pawn_tree.specs.Expressions as e
use Rattle.pawn_tree.specs.Expressions.{Expr, Arg, Args, Link, Links}
use Rattle.pawn_tree.specs.Variables as v
use Rattle.pawn_tree.specs.Variables.{Dim, Init, Inits, Var}
use Rattle.pawn_tree.specs.Statements as s
use Rattle.pawn_tree.specs.Statements.{ConstantOf, First, Range, Stmt, Stmts, MaybeStmt, Case}
use Rattle.pawn_tree.specs.Statements.{Cases}
use Rattle.pawn_tree.specs.Declarations as d
use Rattle.pawn_tree.specs.Declarations.{Item, Param, Head, Decl}
use Rattle.names_rules.specs.Verdict.{Fault}
use Rattle.names_rules.specs.Mark.{Mark, Opens, Mentions}
use Rattle.names_rules.specs.Lists.{all_marks, maybe_marks}
use Rattle.names_rules.specs.ExpressionMarks.{occurs, sizeof_marks, tagof_marks, expr_marks}
use Rattle.names_rules.specs.ExpressionMarks.{arg_marks, args_marks, link_marks, links_marks}
use Rattle.names_rules.specs.VariableMarks.{tag_marks, dim_marks, init_marks, inits_marks}
use Rattle.names_rules.specs.VariableMarks.{var_parts, var_marks}
use Rattle.names_rules.specs.StatementMarks.{constant_marks, first_marks, range_marks, stmt_marks}
use Rattle.names_rules.specs.StatementMarks.{stmts_marks, case_marks, cases_marks, other_marks}
use Rattle.names_rules.specs.TreeMarks.{item_marks, label_marks, items_marks, param_marks}
use Rattle.names_rules.specs.TreeMarks.{head_marks, decl_marks}
use Rattle.names_rules.specs.Around.{Around}
use Rattle.names_rules.specs.Faults.{mark_faults, marks_faults}
use Rattle.names_rules.specs.Extends.{Extends, NodesExtend}

-- ---- marks behind marks

pub nothing : (before : List Mark) → Extends before before
nothing before = record { more = []; same = refl }

-- one more mark
pub one : (mark : Mark) {before now : List Mark} → Extends before now → Extends before (mark ∷ now)
one mark x = record { more = mark ∷ x.more; same = ap (λ marks. mark ∷ marks) x.same }

pub further : {before now later : List Mark} → Extends before now → Extends now later
    → Extends before later
further {before} {now} {later} x y = record {
  more = y.more ++ x.more;
  same = y.same ∙ ap (λ marks. y.more ++ marks) x.same ∙ sym (append_assoc y.more x.more before);
}

-- the marks of a part stand behind those before it
pub record Adds {A : Type 0} (marks : A → List Mark → List Mark) : Type 0 where
  pub adds : (x : A) (before : List Mark) → Extends before (marks x before)

pub all_extend : {A : Type 0} {marks : A → List Mark → List Mark} → Adds marks
    → (xs : List A) (before : List Mark) → Extends before (all_marks marks xs before)
all_extend part [] before = nothing before
all_extend part (x ∷ xs) before = further (part.adds x before) (all_extend part xs _)

pub maybe_extends : {A : Type 0} {marks : A → List Mark → List Mark} → Adds marks
    → (x : Option A) (before : List Mark) → Extends before (maybe_marks marks x before)
maybe_extends part None before = nothing before
maybe_extends part (Some x) before = part.adds x before

-- ---- expressions

sizeof_extends : (at : At) (x : SizeofOperand) (before : List Mark)
    → Extends before (sizeof_marks at x before)
sizeof_extends at (sized.Name name brackets) before = one _ (nothing before)
sizeof_extends at (sized.Text text brackets) before = nothing before

tagof_extends : (at : At) (x : TagofOperand) (before : List Mark)
    → Extends before (tagof_marks at x before)
tagof_extends at (tagged.Name name) before = one _ (nothing before)
tagof_extends at (tagged.Tag name) before = one _ (nothing before)

mutual
  pub expr_extends : (x : Expr) (before : List Mark) → Extends before (expr_marks x before)
  expr_extends (e.Number at value) before = nothing before
  expr_extends (e.Text at bytes packed) before = nothing before
  expr_extends (e.Name at name) before = one _ (nothing before)
  expr_extends (e.Paren at x) before = expr_extends x before
  expr_extends (e.Sizeof at x) before = sizeof_extends at x before
  expr_extends (e.Tagof at x) before = tagof_extends at x before
  expr_extends (e.Prefix at sign x) before = expr_extends x before
  expr_extends (e.Tagged at tag x) before =
      further (one (Mentions tag) (nothing before)) (expr_extends x _)
  expr_extends (e.Postfix at sign x) before = expr_extends x before
  expr_extends (e.Index at x y) before = further (expr_extends x before) (expr_extends y _)
  expr_extends (e.Character at x y) before = further (expr_extends x before) (expr_extends y _)
  expr_extends (e.Binary at sign x y) before = further (expr_extends x before) (expr_extends y _)
  expr_extends (e.Chain at x links) before = further (expr_extends x before) (links_extend links _)
  expr_extends (e.Choice at x y z) before =
      further (expr_extends x before) (further (expr_extends y _) (expr_extends z _))
  expr_extends (e.Assign at sign x y) before = further (expr_extends x before) (expr_extends y _)
  expr_extends (e.Call at name args bare) before =
      further (one (occurs name at at) (nothing before)) (args_extend args _)

  pub arg_extends : (x : Arg) (before : List Mark) → Extends before (arg_marks x before)
  arg_extends (e.Value x) before = expr_extends x before
  arg_extends (e.Default at) before = nothing before
  arg_extends (e.Named name x) before = expr_extends x before

  pub args_extend : (xs : Args) (before : List Mark) → Extends before (args_marks xs before)
  args_extend e.no_args before = nothing before
  args_extend (e.then_arg x xs) before = further (arg_extends x before) (args_extend xs _)

  pub link_extends : (x : Link) (before : List Mark) → Extends before (link_marks x before)
  link_extends (e.Compare sign x) before = expr_extends x before

  pub links_extend : (xs : Links) (before : List Mark) → Extends before (links_marks xs before)
  links_extend e.no_links before = nothing before
  links_extend (e.then_link x xs) before = further (link_extends x before) (links_extend xs _)

expr_adds : Adds expr_marks
expr_adds = record { adds = expr_extends }

-- ---- variables

tag_adds : Adds tag_marks
tag_adds = record { adds = λ tag before. one _ (nothing before) }

dim_extends : (x : Dim) (before : List Mark) → Extends before (dim_marks x before)
dim_extends v.Open before = nothing before
dim_extends (v.Cells x) before = expr_extends x before
dim_extends (v.Chars x) before = expr_extends x before

dim_adds : Adds dim_marks
dim_adds = record { adds = dim_extends }

mutual
  pub init_extends : (x : Init) (before : List Mark) → Extends before (init_marks x before)
  init_extends (v.Value x) before = expr_extends x before
  init_extends (v.Braces at xs rest) before = inits_extend xs before

  pub inits_extend : (xs : Inits) (before : List Mark) → Extends before (inits_marks xs before)
  inits_extend v.no_inits before = nothing before
  inits_extend (v.then_init x xs) before = further (init_extends x before) (inits_extend xs _)

init_adds : Adds init_marks
init_adds = record { adds = init_extends }

parts_extend : (x : Var) (before : List Mark) → Extends before (var_parts x before)
parts_extend x before =
    further (maybe_extends tag_adds x.tag before)
    (further (all_extend dim_adds x.dims _) (maybe_extends init_adds x.init _))

pub var_adds : (place : Place) (outside : Bool) → Adds (var_marks place outside)
var_adds place outside = record { adds = λ x before. one _ (parts_extend x before) }

-- ---- statements

constant_extends : (place : Place) (outside : Bool) (x : ConstantOf) (before : List Mark)
    → Extends before (constant_marks place outside x before)
constant_extends place outside x before =
    one _ (further (maybe_extends tag_adds x.tag before) (expr_extends x.value _))

first_extends : (at : At) (x : First) (before : List Mark)
    → Extends before (first_marks at x before)
first_extends at s.Nothing before = nothing before
first_extends at (s.New vars) before = all_extend (var_adds at.place _) vars before
first_extends at (s.Value x) before = expr_extends x before

range_adds : Adds range_marks
range_adds =
    record {
      adds = λ x before. further (expr_extends x.first before)
          (maybe_extends expr_adds x.last _);
    }

mutual
  pub stmt_extends : (x : Stmt) (before : List Mark) → Extends before (stmt_marks x before)
  stmt_extends (s.Empty at) before = nothing before
  stmt_extends (s.Do at x) before = expr_extends x before
  stmt_extends (s.Block at xs) before =
      one _ (further (one Opens (nothing before)) (stmts_extend xs _))
  stmt_extends (s.If at x body other) before =
      further (expr_extends x before) (further (stmt_extends body _) (other_extends other _))
  stmt_extends (s.While at x body) before = further (expr_extends x before) (stmt_extends body _)
  stmt_extends (s.DoWhile at body x) before = further (stmt_extends body before) (expr_extends x _)
  stmt_extends (s.For at first test step body) before =
      one _ (further (one Opens (nothing before)) (further (first_extends at first _)
      (further (maybe_extends expr_adds test _)
      (further (maybe_extends expr_adds step _) (stmt_extends body _)))))
  stmt_extends (s.Switch at x cases other) before =
      further (expr_extends x before) (further (cases_extend cases _) (other_extends other _))
  stmt_extends (s.Return at x) before = maybe_extends expr_adds x before
  stmt_extends (s.Exit at x) before = maybe_extends expr_adds x before
  stmt_extends (s.Sleep at x) before = maybe_extends expr_adds x before
  stmt_extends (s.Assert at x) before = expr_extends x before
  stmt_extends (s.Break at) before = nothing before
  stmt_extends (s.Continue at) before = nothing before
  stmt_extends (s.State at x name) before = maybe_extends expr_adds x before
  stmt_extends (s.Local at x) before = all_extend (var_adds at.place _) x.vars before
  stmt_extends (s.Constant at x) before = constant_extends at.place _ x before

  pub stmts_extend : (xs : Stmts) (before : List Mark) → Extends before (stmts_marks xs before)
  stmts_extend s.no_stmts before = nothing before
  stmts_extend (s.then_stmt x xs) before = further (stmt_extends x before) (stmts_extend xs _)

  pub case_extends : (x : Case) (before : List Mark) → Extends before (case_marks x before)
  case_extends (s.Values at ranges body) before =
      further (all_extend range_adds ranges before) (stmt_extends body _)

  pub cases_extend : (xs : Cases) (before : List Mark) → Extends before (cases_marks xs before)
  cases_extend s.no_cases before = nothing before
  cases_extend (s.then_case x xs) before = further (case_extends x before) (cases_extend xs _)

  pub other_extends : (x : MaybeStmt) (before : List Mark) → Extends before (other_marks x before)
  other_extends s.no_stmt before = nothing before
  other_extends (s.one_stmt x) before = stmt_extends x before

-- ---- declarations

item_extends : (place : Place) (tag last : Option n.Name) (x : Item) (before : List Mark)
    → Extends before (item_marks place tag last x before)
item_extends place tag last x before = one _ (maybe_extends expr_adds x.value before)

label_extends : (place : Place) (tag last : Option n.Name) (count : ℕ) (before : List Mark)
    → Extends before (label_marks place tag last count before)
label_extends place None last count before = nothing before
label_extends place (Some name) None count before = nothing before
label_extends place (Some name) (Some last) count before = one _ (nothing before)

items_extend : (place : Place) (tag last : Option n.Name) (count : ℕ) (xs : List Item)
    (before : List Mark) → Extends before (items_marks place tag last count xs before)
items_extend place tag last count [] before = label_extends place tag last count before
items_extend place tag last count (x ∷ xs) before =
    further (item_extends place tag last x before) (items_extend place tag _ _ xs _)

param_extends : (place : Place) (x : Param) (before : List Mark)
    → Extends before (param_marks place x before)
param_extends place (d.Plain constant reference tags name dims value) before =
    one _ (further (all_extend tag_adds tags before)
    (further (all_extend dim_adds dims _) (maybe_extends expr_adds value _)))
param_extends place (d.Rest at tags) before = all_extend tag_adds tags before

head_extends : (place : Place) (x : Head) (before : List Mark)
    → Extends before (head_marks place x before)
head_extends place x before =
    further (maybe_extends tag_adds x.tag before)
    (further (one Opens (nothing _))
    (all_extend (record { adds = param_extends place }) x.params _))

pub decl_extends : (x : Decl) (before : List Mark) → Extends before (decl_marks x before)
decl_extends (d.Variables at x) before = all_extend (var_adds at.place _) x.vars before
decl_extends (d.Constant at x) before = constant_extends at.place _ x before
decl_extends (d.Enum at name items) before =
    further (maybe_extends tag_adds name before) (items_extend at.place name None 0 items _)
decl_extends (d.Native at x) before = one _ (head_extends at.place x before)
decl_extends (d.Forward at is_public x) before = one _ (head_extends at.place x before)
decl_extends (d.Function at x) before =
    one _ (further (head_extends at.place x.head before) (stmt_extends x.body _))

pub nodes_extend : NodesExtend
nodes_extend = record { expr = expr_extends; stmt = stmt_extends; decl = decl_extends }

-- ---- faults

stay_behind : (around : Around) (more before : List Mark) (fault : Fault)
    → Contains (marks_faults around before) fault
    → Contains (marks_faults around (more ++ before)) fault
stay_behind around [] before fault x = x
stay_behind around (mark ∷ more) before fault x =
    Contains-append_left (marks_faults around (more ++ before))
    (mark_faults around (more ++ before) mark) fault (stay_behind around more before fault x)

pub faults_stay : (around : Around) (before now : List Mark) (fault : Fault) → Extends before now
    → Contains (marks_faults around before) fault → Contains (marks_faults around now) fault
faults_stay around before now fault behind x =
    rw behind.same (stay_behind around behind.more before fault x)
