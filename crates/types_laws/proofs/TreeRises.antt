-- The pairs of occurrences and declarations of a tree that spells tokens rise.
use Rattle.std.proofs.Common.{◌<◌, ◌≤◌, ℕ, suc, Bool, List, [], ◌∷◌, ◌++◌, Option, Some, None, sym}
use Rattle.std.proofs.Common.{subst, append-nil, arith}
use Rattle.pawn_token.specs.declared.sign.Sign.TheVariants as sign
use Rattle.pawn_cells.specs.declared.place.Place.{Place}
use Rattle.pawn_lex.specs.declared.token.Token.{Token}
use Rattle.pawn_tree.specs.declared.name.Name as n
use Rattle.pawn_tree.specs.Statements.{ConstantOf}
use Rattle.pawn_tree.specs.Declarations.{Item, Tree}
use Rattle.tree_rules.specs.Tokens.{tag_at, behind_sign}
use Rattle.tree_rules.specs.Lists.{Many, no_more, one_more, Behind, Several, several}
use Rattle.tree_rules.specs.Variables.{IsConstant, constant}
use Rattle.tree_rules.specs.Declarations.{IsItem, item_of, IsEnum, enum_of}
use Rattle.tree_rules.specs.Spells.{Spells}
use Rattle.names_rules.specs.Mark.{Mark, Opens, Closes, Mentions, Uses, Declares, Declaration, Use}
use Rattle.names_rules.specs.Lists.{maybe_marks}
use Rattle.names_rules.specs.VariableMarks.{tag_marks}
use Rattle.names_rules.specs.StatementMarks.{constant_marks}
use Rattle.names_rules.specs.TreeMarks.{label_marks, item_marks, items_marks, tree_marks}
use Rattle.names_rules.specs.Known.{Known}
use Rattle.names_rules.specs.Around.{Around}
use Rattle.names_rules.specs.Found.{meaning}
use Rattle.names_rules.specs.Uses.{uses, pair_of, declared_at}
use Rattle.types_laws.specs.Rising.{AreRising}
use Rattle.types_laws.proofs.Up.{Up, none_up, up_on, up_more, rising}
use Rattle.types_laws.proofs.Grows.{Grows, Spans, many_order, led_orders, maybe_tag_rises}
use Rattle.types_laws.proofs.Grows.{maybe_name_rises, end_on, sign_on}
use Rattle.types_laws.proofs.Rises.{Below, Rises, none_rise, opens_rise, closes_rise, declares_rise}
use Rattle.types_laws.proofs.Rises.{rises_grow}
use Rattle.types_laws.proofs.Nodes.{expr_rises, whole_orders, decl_orders}

-- ---- constants and enumerations

-- what blocks and declarations change nothing of
pub record Keeps (P : List Mark → ℕ → Type 0) : Type 0 where
  pub opens : {marks : List Mark} {m : ℕ} → P marks m → P (Opens ∷ marks) m
  pub closes : {marks : List Mark} {m : ℕ} → P marks m → P (Closes ∷ marks) m
  pub declares : (it : Declaration) {marks : List Mark} {m : ℕ} → P marks m
      → P (Declares it ∷ marks) m

module _ (ts : List Token) {P : List Mark → ℕ → Type 0} (grows : Grows ts P) (keeps : Keeps P) where
  on : {marks : List Mark} {m k : ℕ} → P marks m → m ≤ k → P marks k
  on = grows.on

  constant_rises : (place : Place) (outside : Bool) {h i j : ℕ} {x : ConstantOf}
      → IsConstant ts h x i j → (before : List Mark) → P before i
      → P (constant_marks place outside x before) j
  constant_rises place outside {i = i} (constant c c2 x e) before r =
      keeps.declares _ (end_on grows
      (expr_rises ts grows x.is_expr _ (on (maybe_tag_rises grows i r) (omega arith))) e)

  item_rises : (place : Place) (tag last : Option n.Name) {h i j : ℕ} {x : Item} → IsItem ts h x i j
      → (before : List Mark) → P before i → P (item_marks place tag last x before) j
  item_rises place tag last (item_of c x) before r =
      keeps.declares _ (led_orders grows (whole_orders ts grows) x before (on r (omega arith)))

  label_rises : (place : Place) (tag last : Option n.Name) (count : ℕ) {m : ℕ} (before : List Mark)
      → P before m → P (label_marks place tag last count before) m
  label_rises place None last count before r = r
  label_rises place (Some tag) None count before r = r
  label_rises place (Some tag) (Some last) count before r = keeps.declares _ r

  more_items_rise : (place : Place) (tag : Option n.Name) {more : ℕ → Bool} {h i j : ℕ}
      {xs : List Item} (last : Option n.Name) (count : ℕ)
      → Many more (Behind (IsItem ts)) h xs i j → (before : List Mark) → P before i
      → P (items_marks place tag last count xs before) j
  more_items_rise place tag last count (no_more f) before r =
      label_rises place tag last count before r
  more_items_rise place tag last count (one_more {x = x} t it m) before r =
      more_items_rise place tag (Some x.name) (suc count) m _
      (item_rises place tag last it before (on r (omega arith)))

  items_rise : (place : Place) (tag : Option n.Name) {more : ℕ → Bool} {h i j : ℕ} {xs : List Item}
      → Several more (IsItem ts) (Behind (IsItem ts)) h xs i j → (before : List Mark) → P before i
      → P (items_marks place tag None 0 xs before) j
  items_rise place tag (several x m) before r =
      more_items_rise place tag _ _ m _ (item_rises place tag None x before r)

  enum_rises : (place : Place) {h i j : ℕ} {name : Option n.Name} {xs : List Item}
      → IsEnum ts h name xs i j → (before : List Mark) → P before i
      → P (items_marks place name None 0 xs (maybe_marks tag_marks name before)) j
  enum_rises place {i = i} (enum_of {k = k} c m c2) before r =
      let b : k ≤ behind_sign ts sign.Comma k = sign_on ts sign.Comma k in
      let d : suc (behind_sign ts sign.Comma k)
      ≤ behind_sign ts sign.Semicolon (suc (behind_sign ts sign.Comma k)) =
      sign_on ts sign.Semicolon (suc (behind_sign ts sign.Comma k)) in
      on (items_rise place _ m _ (on (maybe_name_rises grows i r) (omega arith))) (omega arith)

  -- so it is kept by declarations and statements
  pub keeps_spans : Spans ts P
  keeps_spans = record {
    opens = keeps.opens;
    closes = keeps.closes;
    variable = λ place outside x before r. keeps.declares _ r;
    parameter = λ place constant reference tags name dims value before r. keeps.declares _ r;
    constant = constant_rises;
    enum = enum_rises;
  }

rises_keep : Keeps Rises
rises_keep =
    record { opens = opens_rise; closes = closes_rise; declares = λ it r. declares_rise it r }

-- ---- pairs

declared_up : {pairs : List (ℕ × ℕ)} (token : ℕ) (declared : Option ℕ) → Up 0 pairs token
    → Up 0 (pairs ++ declared_at token declared) (suc token)
declared_up {pairs} token None x =
    subst (λ all. Up 0 all (suc token)) (sym (append-nil pairs)) (up_on x (omega arith))
declared_up token (Some declared) x = up_more (token, declared) x (omega arith)

pair_up : {pairs : List (ℕ × ℕ)} (it : Use) (known : Option Known) → Up 0 pairs it.token
    → Up 0 (pairs ++ pair_of it known) (suc it.token)
pair_up {pairs} it None x =
    subst (λ all. Up 0 all (suc it.token)) (sym (append-nil pairs)) (up_on x (omega arith))
pair_up it (Some known) x = declared_up it.token known.token x

uses_up : (around : Around) (marks : List Mark) (end : ℕ) → Below marks end
    → Up 0 (uses around marks) end
uses_up around [] end x = none_up (omega arith)
uses_up around (Opens ∷ before) end x = uses_up around before end x
uses_up around (Closes ∷ before) end x = uses_up around before end x
uses_up around (Mentions tag ∷ before) end x = uses_up around before end x
uses_up around (Uses it ∷ before) end x =
    let lt : it.token < end = x.0 in
    up_on (pair_up it (meaning around before it.name) (uses_up around before it.token x.1))
    (omega arith)
uses_up around (Declares it ∷ before) end x = uses_up around before end x

pub uses_rise : (ts : List Token) (tree : Tree) (around : Around) → Spells ts tree
    → AreRising 0 (uses around (tree_marks tree))
uses_rise ts tree around spells =
    let all =
    many_order {ts = ts} rises_grow
    (decl_orders ts rises_grow (keeps_spans ts rises_grow rises_keep)) spells.decls []
    none_rise in
    rising (uses_up around (tree_marks tree) _ all.rises)
