-- Expressions in statements: plain, and valid where their literals sit among the objects.
use Rattle.std.proofs.Common.{◌≡◌, ◌+◌, ℕ, List, ◌++◌, Bool, true, false, Option, None, Some, refl}
use Rattle.std.proofs.Common.{ap, subst, arith}
use Rattle.std.specs.Prelude.{if◌then◌else◌, length}
use Rattle.std.specs.List.{list_any}
use Rattle.std.proofs.lemmas.List.{length-append}
use Rattle.std.specs.Prelude.{nat_eq}
use Rattle.pawn_tree.specs.declared.name.At.{At}
use Rattle.pawn_tree.specs.Expressions as tree
use Rattle.pawn_tags.specs.Overloads.{function_of}
use Rattle.pawn_tags.specs.declared.op.Op.TheVariants as op
use Rattle.pawn_meaning.specs.Program.{Expr, StaticObject}
use Rattle.pawn_meaning.specs.Scope as program
use Rattle.pawn_meaning.specs.ValidExprs.{IsOperator, IsValidExpr}
use Rattle.types_rules.specs.Typed.{Typed, Form, cell_in, cell}
use Rattle.types_rules.specs.Typed as typed
use Rattle.types_rules.specs.Around.{Around, first_tag}
use Rattle.types_rules.specs.Scope.{Scope}
use Rattle.types_rules.specs.Tests.{converter, converter_to, sent_by, sent}
use Rattle.types_rules.proofs.VerdictLaws.{Holds, stands_itself, breaks_holds}
use Rattle.types_rules.specs.Literals.{literals, link_literals, literals_of_link, arg_literals}
use Rattle.types_rules.specs.Literals.{literals_of_arg}
use Rattle.types_rules.specs.Expressions.{expr}
use Rattle.types_laws.specs.Known.{KnowsAround}
use Rattle.types_laws.specs.Placed.{IsPlaced, ArePlacedLinks, IsPlacedLink, ArePlacedArgs}
use Rattle.types_laws.specs.Placed.{IsPlacedArg}
use Rattle.types_laws.specs.ValidExpressions.{IsValidForm, ExpressionsAreValid}
use Rattle.types_laws.specs.Written.{IsWritten, AreWrittenLinks, IsWrittenLink, AreWrittenArgs}
use Rattle.types_laws.specs.Written.{IsWrittenArg}
use Rattle.types_laws.specs.Texts.{texts, link_texts, texts_of_link, arg_texts, texts_of_arg}
use Rattle.types_laws.specs.Plain.{HasTags}
use Rattle.types_laws.proofs.RuleValues.{Plain}
use Rattle.types_laws.proofs.ExpressionValues.{expr_plain}
use Rattle.types_laws.specs.Sits.{Sits}
use Rattle.types_laws.specs.Seen.{IsSeenPath}
use Rattle.types_laws.proofs.ListPartLaws.{sits_left, sits_right, sits_at}
use Rattle.types_laws.proofs.SeenLaws.{knows_path, plain_path, numbered}

-- ---- there are as many texts as are counted

two_count : (xs ys : List StaticObject) (m n : ℕ) → length xs ≡ m → length ys ≡ n
    → length (xs ++ ys) ≡ m + n
two_count xs ys m n p q = rw (length-append xs ys, p, q) refl

mutual
  pub texts_count : (e : tree.Expr) → length (texts e) ≡ literals e
  texts_count (tree.Number at v) = refl
  texts_count (tree.Text at bytes packed) = refl
  texts_count (tree.Name at name) = refl
  texts_count (tree.Paren at e) = texts_count e
  texts_count (tree.Sizeof at operand) = refl
  texts_count (tree.Tagof at operand) = refl
  texts_count (tree.Prefix at sign e) = texts_count e
  texts_count (tree.Tagged at tag e) = texts_count e
  texts_count (tree.Postfix at sign e) = texts_count e
  texts_count (tree.Index at a i) =
      two_count (texts a) (texts i) _ _ (texts_count a) (texts_count i)
  texts_count (tree.Character at a i) =
      two_count (texts a) (texts i) _ _ (texts_count a) (texts_count i)
  texts_count (tree.Binary at sign l r) =
      two_count (texts l) (texts r) _ _ (texts_count l) (texts_count r)
  texts_count (tree.Chain at e links) =
      two_count (texts e) (link_texts links) _ _ (texts_count e) (links_count links)
  texts_count (tree.Choice at c a b) =
      two_count (texts c) (texts a ++ texts b) _ _ (texts_count c)
      (two_count (texts a) (texts b) _ _ (texts_count a) (texts_count b))
  texts_count (tree.Assign at sign l r) =
      two_count (texts l) (texts r) _ _ (texts_count l) (texts_count r)
  texts_count (tree.Call at name args bare) = args_count args

  links_count : (links : tree.Links) → length (link_texts links) ≡ link_literals links
  links_count tree.no_links = refl
  links_count (tree.then_link link more) =
      two_count (texts_of_link link) (link_texts more) _ _ (link_count link) (links_count more)

  link_count : (link : tree.Link) → length (texts_of_link link) ≡ literals_of_link link
  link_count (tree.Compare sign e) = texts_count e

  args_count : (args : tree.Args) → length (arg_texts args) ≡ arg_literals args
  args_count tree.no_args = refl
  args_count (tree.then_arg arg more) =
      two_count (texts_of_arg arg) (arg_texts more) _ _ (arg_count arg) (args_count more)

  arg_count : (arg : tree.Arg) → length (texts_of_arg arg) ≡ literals_of_arg arg
  arg_count (tree.Value e) = texts_count e
  arg_count (tree.Default at) = refl
  arg_count (tree.Named name e) = texts_count e

-- ---- where the texts sit among the objects, an expression is placed

module _ (scope : program.Scope) (cx : Around) (Calls : List ℕ → Type 0) (path : Scope)
    (seen : IsSeenPath scope cx Calls path) where
  abbrev Fits : ℕ → List StaticObject → Type 0
  Fits before ls = Sits scope.program.objects before ls

  right : (before : ℕ) (xs ys : List StaticObject) (n : ℕ) → length xs ≡ n
      → Fits before (xs ++ ys) → Fits (before + n) ys
  right before xs ys n e h =
      sits_at scope.program.objects (before + length xs) (before + n) ys (ap (λ m. before + m) e)
      (sits_right scope.program.objects before xs ys h)

  left : (before : ℕ) (xs ys : List StaticObject) → Fits before (xs ++ ys) → Fits before xs
  left before xs ys h = sits_left scope.program.objects before xs ys h

  mutual
    pub placed : (before : ℕ) (e : tree.Expr) → IsWritten Calls e → Fits before (texts e)
        → IsPlaced scope.program cx path before e
    placed before (tree.Number at v) w h = w
    placed before (tree.Text at bytes packed) w h = h.0
    placed before (tree.Name at name) w h = tt
    placed before (tree.Paren at e) w h = placed before e w h
    placed before (tree.Sizeof at operand) w h = w
    placed before (tree.Tagof at operand) w h = tt
    placed before (tree.Prefix at sign e) w h = placed before e w h
    placed before (tree.Tagged at tag e) w h = placed before e w h
    placed before (tree.Postfix at sign e) w h = placed before e w h
    placed before (tree.Index at a i) w h = (
      placed before a w.0 (left before (texts a) (texts i) h),
      placed (before + literals a) i w.1
          (right before (texts a) (texts i) _ (texts_count a) h),
    )
    placed before (tree.Character at a i) w h = (
      placed before a w.0 (left before (texts a) (texts i) h),
      placed (before + literals a) i w.1
          (right before (texts a) (texts i) _ (texts_count a) h),
    )
    placed before (tree.Binary at sign l r) w h = (
      placed before l w.0 (left before (texts l) (texts r) h),
      placed (before + literals l) r w.1
          (right before (texts l) (texts r) _ (texts_count l) h),
    )
    placed before (tree.Chain at e links) w h = (
      w.0,
      placed before e w.1 (left before (texts e) (link_texts links) h),
      links_placed (before + literals e) links w.2
          (right before (texts e) (link_texts links) _ (texts_count e) h),
    )
    placed before (tree.Choice at c a b) w h =
        let behind = right before (texts c) (texts a ++ texts b) _ (texts_count c) h in (
          placed before c w.0 (left before (texts c) (texts a ++ texts b) h),
          placed (before + literals c) a w.1
              (left (before + literals c) (texts a) (texts b) behind),
          placed (before + (literals c + literals a)) b w.2
              (sits_at scope.program.objects (before + literals c + literals a)
              (before + (literals c + literals a)) (texts b) (omega arith)
              (right (before + literals c) (texts a) (texts b) _ (texts_count a) behind)),
        )
    placed before (tree.Assign at sign l r) w h = (
      placed before l w.0 (left before (texts l) (texts r) h),
      placed (before + literals l) r w.1
          (right before (texts l) (texts r) _ (texts_count l) h),
    )
    placed before (tree.Call at name args bare) w h =
        (numbered cx Calls scope path name seen w.0, args_placed before args w.1 h)

    links_placed : (before : ℕ) (links : tree.Links) → AreWrittenLinks Calls links
        → Fits before (link_texts links) → ArePlacedLinks scope.program cx path before links
    links_placed before tree.no_links w h = tt
    links_placed before (tree.then_link link more) w h = (
      link_placed before link w.0 (left before (texts_of_link link) (link_texts more) h),
      links_placed (before + literals_of_link link) more w.1
          (right before (texts_of_link link) (link_texts more) _ (link_count link) h),
    )

    link_placed : (before : ℕ) (link : tree.Link) → IsWrittenLink Calls link
        → Fits before (texts_of_link link) → IsPlacedLink scope.program cx path before link
    link_placed before (tree.Compare sign e) w h = placed before e w h

    args_placed : (before : ℕ) (args : tree.Args) → AreWrittenArgs Calls args
        → Fits before (arg_texts args) → ArePlacedArgs scope.program cx path before args
    args_placed before tree.no_args w h = tt
    args_placed before (tree.then_arg arg more) w h = (
      arg_placed before arg w.0 (left before (texts_of_arg arg) (arg_texts more) h),
      args_placed (before + literals_of_arg arg) more w.1
          (right before (texts_of_arg arg) (arg_texts more) _ (arg_count arg) h),
    )

    arg_placed : (before : ℕ) (arg : tree.Arg) → IsWrittenArg Calls arg
        → Fits before (texts_of_arg arg) → IsPlacedArg scope.program cx path before arg
    arg_placed before (tree.Value e) w h = placed before e w h
    arg_placed before (tree.Default at) w h = tt
    arg_placed before (tree.Named name e) w h = placed before e w h

-- ---- what an expression that stands is

pub record Fine (scope : program.Scope) (before : ℕ) (ls : List StaticObject)
    (x : Typed) : Type 0 where
  pub plain : Plain ls x
  pub valid : Sits scope.program.objects before x.literals → IsValidForm scope x.form

module _ (law : ExpressionsAreValid) (scope : program.Scope) (cx : Around) (Calls : List ℕ → Type 0)
    (known : KnowsAround scope.program cx) (tags : HasTags cx) where
  pub expr_fine : (path : Scope) → IsSeenPath scope cx Calls path → (before : ℕ) (e : tree.Expr)
      → IsWritten Calls e → Holds (Fine scope before (texts e)) (expr cx path before e)
  expr_fine path seen before e w = record {
    of = λ x stands.
        let p : Plain (texts e) x =
        (expr_plain Calls cx tags path (plain_path cx Calls scope path seen) before e w).of x
        stands in
        record {
          plain = p;
          valid = λ fits.
              law scope cx path before e x known
              (knows_path cx Calls scope path seen)
              (placed scope cx Calls path seen before e w
              (subst (λ (l : List StaticObject). Sits scope.program.objects before l)
              p.literals fits)) stands;
        };
  }

  -- ---- on its way to a target

  unless_some : {A : Type 0} (c : Bool) (b : Option A) (x : A)
      → (if c then None else b) ≡ Some x → b ≡ Some x
  unless_some true b x e = absurd (let no : ⊥ = cc in no)
  unless_some false b x e = e

  converts : (formal : List ℕ) (actual f : ℕ) → converter_to cx formal actual ≡ Some f
      → IsOperator scope 1 f
  converts formal actual f e =
      let to =
      unless_some (list_any (nat_eq actual) formal)
      (converter cx actual (first_tag formal)) f e in
      known.operators op.Assign actual (first_tag formal) f
      (unless_some (nat_eq actual (first_tag formal))
      (function_of cx.operators op.Assign actual (first_tag formal)) f to)

  sent_by_valid : (formal : List ℕ) (actual : ℕ) (at : At) (e : Expr) (by : Option ℕ)
      → ((f : ℕ) → by ≡ Some f → IsOperator scope 1 f) → IsValidExpr scope e
      → IsValidExpr scope (sent_by cx formal actual at e by).code
  sent_by_valid formal actual at e None k h = h
  sent_by_valid formal actual at e (Some f) k h = (k f refl, h)

  pub sent_valid : (formal : List ℕ) (actual : ℕ) (at : At) (e : Expr) → IsValidExpr scope e
      → IsValidExpr scope (sent cx formal actual at e).code
  unfolding sent
  sent_valid formal actual at e h =
      sent_by_valid formal actual at e (converter_to cx formal actual) (converts formal actual) h

-- one cell of an expression is valid where that is
pub record CellOf (scope : program.Scope) (x : Typed) (e : Expr) : Type 0 where
  pub valid : IsValidForm scope x.form → IsValidExpr scope e

record CellIn (scope : program.Scope) (form : Form) (e : Expr) : Type 0 where
  pub valid : IsValidForm scope form → IsValidExpr scope e

cell_in_valid : (scope : program.Scope) (at : At) (form : Form)
    → Holds (CellIn scope form) (cell_in at form)
cell_in_valid scope at (typed.Value e) = stands_itself _ _ (record { valid = λ h. h })
cell_in_valid scope at (typed.Place p constant) = stands_itself _ _ (record { valid = λ h. h })
cell_in_valid scope at (typed.Whole a reach constant) = breaks_holds _ _
cell_in_valid scope at (typed.Literal object size) = breaks_holds _ _

pub cell_valid : (scope : program.Scope) (at : At) (x : Typed) → Holds (CellOf scope x) (cell at x)
cell_valid scope at x = record {
  of = λ e stands. record { valid = ((cell_in_valid scope at x.form).of e stands).valid };
}
