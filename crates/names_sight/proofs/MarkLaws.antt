-- One more mark stands in front of those before it; the marks of nodes that hold lists; the
-- constants of an enumeration, one by one.
use Rattle.std.proofs.Common.{◌≡◌, ◌+◌, ◌<◌, ◌≤◌, ℕ, suc, Bool, List, [], ◌∷◌, ◌++◌, map, reverse}
use Rattle.std.proofs.Common.{length, drop, get_or, Option, Some, None, option_map, refl, sym, ap}
use Rattle.std.proofs.Common.{◌∙◌, arith}
use Rattle.std.proofs.lemmas.List.{reverse-append, drop_all, drop_more}
use Rattle.std.specs.declared.boxed.Box.{Box}
use Rattle.std.specs.declared.alloc.Global.{Global}
use Rattle.pawn_cells.specs.declared.place.Place.{Place}
use Rattle.pawn_tree.specs.declared.name.At.{At}
use Rattle.pawn_tree.specs.declared.name.Name.{Name}
use Rattle.pawn_tree.specs.declared.expression.Expr as held
use Rattle.pawn_tree.specs.declared.expression.Arg.{Arg}
use Rattle.pawn_tree.specs.declared.expression.Link.{Link}
use Rattle.pawn_tree.specs.declared.variable.Init as held_init
use Rattle.pawn_tree.specs.declared.statement.Stmt as held_stmt
use Rattle.pawn_tree.specs.declared.statement.Case.{Case}
use Rattle.pawn_tree.specs.declared.declaration.Item.{Item}
use Rattle.pawn_tree.specs.Expressions.{args, links}
use Rattle.pawn_tree.specs.Variables.{inits}
use Rattle.pawn_tree.specs.Statements.{stmts, cases, maybe_stmt}
use Rattle.pawn_tree.specs.View.{expr_view, arg_view, link_view, init_view, stmt_view, case_view}
use Rattle.pawn_tree.specs.View.{item_view}
use Rattle.pawn_tree.proofs.ViewLaws.{call_view, chain_view, braces_view, block_view, switch_view}
use Rattle.names_rules.specs.Mark as plain
use Rattle.names_rules.specs.ExpressionMarks.{occurs, expr_marks, args_marks, links_marks}
use Rattle.names_rules.specs.VariableMarks.{init_marks, inits_marks}
use Rattle.names_rules.specs.StatementMarks.{stmt_marks, stmts_marks, cases_marks, other_marks}
use Rattle.names_rules.specs.TreeMarks.{item_marks, items_marks, label_marks}
use Rattle.names_sight.specs.declared.mark.Mark.{Mark}
use Rattle.names_sight.specs.MarkView.{mark_view, marks_view}

pub one_more : (marks : List Mark) (mark : Mark)
    → marks_view (marks ++ mark ∷ []) ≡ mark_view mark ∷ marks_view marks
one_more marks mark = ap (λ some. map mark_view some) (reverse-append marks (mark ∷ []))

-- ---- nodes that hold lists

pub call_marks : (at : At) (name : List ℕ) (xs : List Arg) (bare : Bool) (before : List plain.Mark)
    → expr_marks (expr_view (held.Call at name xs bare)) before
    ≡ args_marks (args (map arg_view xs)) (occurs name at at ∷ before)
call_marks at name xs bare before = ap (λ x. expr_marks x before) (call_view at name xs bare)

pub chain_marks : (at : At) (x : Box held.Expr Global) (xs : List Link) (before : List plain.Mark)
    → expr_marks (expr_view (held.Chain at x xs)) before
    ≡ links_marks (links (map link_view xs)) (expr_marks (expr_view x.value) before)
chain_marks at x xs before = ap (λ y. expr_marks y before) (chain_view at x xs)

pub braces_marks : (at : At) (xs : List held_init.Init) (rest : Bool) (before : List plain.Mark)
    → init_marks (init_view (held_init.Braces at xs rest)) before
    ≡ inits_marks (inits (map init_view xs)) before
braces_marks at xs rest before = ap (λ x. init_marks x before) (braces_view at xs rest)

pub block_marks : (at : At) (xs : List held_stmt.Stmt) (before : List plain.Mark)
    → stmt_marks (stmt_view (held_stmt.Block at xs)) before
    ≡ plain.Closes ∷ stmts_marks (stmts (map stmt_view xs)) (plain.Opens ∷ before)
block_marks at xs before = ap (λ x. stmt_marks x before) (block_view at xs)

pub switch_marks : (at : At) (x : held.Expr) (xs : List Case)
    (other : Option (Box held_stmt.Stmt Global)) (before : List plain.Mark)
    → stmt_marks (stmt_view (held_stmt.Switch at x xs other)) before
    ≡ other_marks (maybe_stmt (option_map (λ b. stmt_view b.value) other))
    (cases_marks (cases (map case_view xs)) (expr_marks (expr_view x) before))
switch_marks at x xs other before = ap (λ y. stmt_marks y before) (switch_view at x xs other)

-- ---- enumerations

module _ (place : Place) (name : Option Name) (items : List Item) (begin : List plain.Mark) where
  -- so many are behind, and the last of them has this name
  pub record ItemsPassed (i : ℕ) (last : Option Name) (now : List plain.Mark) : Type 0 where
    pub same : items_marks place name None 0 (map item_view items) begin
        ≡ items_marks place name last i (map item_view (drop i items)) now

  pub items_begin : ItemsPassed 0 None begin
  items_begin = record { same = refl }

  pub item_goes_on : {i : ℕ} {last : Option Name} {now : List plain.Mark} (x : Item)
      → ItemsPassed i last now → i < length items → x ≡ get_or items i x
      → ItemsPassed (i + 1) (Some x.name) (item_marks place name last (item_view x) now)
  item_goes_on {i} {last} {now} x passed lt e =
      let next : suc i ≡ i + 1 = omega arith in
      record {
        same =
            passed.same ∙ ap (λ rest. items_marks place name last i (map item_view rest) now)
            (drop_more items i x lt)
            ∙ ap (λ y. items_marks place name last i (map item_view (y ∷ drop (i + 1) items)) now)
            (sym e)
            ∙ ap (λ n. items_marks place name (Some x.name) n (map item_view (drop (i + 1) items))
            (item_marks place name last (item_view x) now)) next;
      }

  pub items_end : {i : ℕ} {last : Option Name} {now : List plain.Mark} → ItemsPassed i last now
      → length items ≤ i
      → items_marks place name None 0 (map item_view items) begin
      ≡ label_marks place name last i now
  items_end {i} {last} {now} passed le =
      passed.same ∙ ap (λ rest. items_marks place name last i (map item_view rest) now)
      (drop_all i items le)
