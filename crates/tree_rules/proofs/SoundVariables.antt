-- What the parser gives for variables and constants stands in the grammar.
use Rattle.std.proofs.Common.{◌≡◌, ℕ, zero, suc, ◌≤◌, Bool, true, List, Some, arith, ⊎_elim}
use Rattle.pawn_token.specs.declared.sign.Sign.TheVariants as sign
use Rattle.pawn_token.specs.declared.key.Key.TheVariants as key
use Rattle.pawn_lex.specs.declared.token.Token.{Token}
use Rattle.pawn_tree.specs.declared.variable.Storage.{Storage}
use Rattle.pawn_tree.specs.Expressions.{Expr}
use Rattle.pawn_tree.specs.Variables.{Dim, Init}
use Rattle.tree_rules.specs.declared.word.Word.TheVariants as w
use Rattle.tree_rules.specs.Tokens.{word, sees, sees_key}
use Rattle.tree_rules.specs.Lists.{Many, no_more, one_more, Behind, Several, several, Listed}
use Rattle.tree_rules.specs.Expressions.{Whole, Condition}
use Rattle.tree_rules.specs.Expressions as g
use Rattle.tree_rules.specs.Variables.{IsDim, AreDims, further_init, IsInit, AreInits, MoreInits}
use Rattle.tree_rules.specs.Variables.{IsVar, AreVariables, IsConstant}
use Rattle.tree_rules.specs.Variables as v
use Rattle.tree_rules.specs.Readers.{Got, Reader}
use Rattle.tree_rules.specs.ReadExpressions.{Sub, expr}
use Rattle.tree_rules.specs.ReadVariables as p
use Rattle.tree_rules.proofs.Steps.{none_some, bind_some, guard_some, if_cases}
use Rattle.tree_rules.proofs.Base.{sees_true, sees_key_true, name_true}
use Rattle.tree_rules.proofs.ListLaws.{IsPart, IsSound, got_part, node_part, all_sound}
use Rattle.tree_rules.proofs.ListLaws.{several_sound, behind_sound, led_sound}
use Rattle.tree_rules.proofs.SoundParts.{ExprSound}
use Rattle.tree_rules.proofs.Sound.{expr_sound}

module _ (ts : List Token) (sub : Sub) (n : ℕ) (sound : ExprSound ts sub n) where
  pub expression_sound : (b : Bool) (level : ℕ) → 2 ≤ level → level ≤ 15
      → IsSound (Whole ts b level) n (p.expression ts sub b level)
  expression_sound b level l u = record {
    gives = λ i x e.
        let y = bind_some _ _ _ e in let r = sound.read _ _ _ _ l u y.is in
        got_part (Whole ts b level) n i _ _ _ x y.next
        (record { own = y.first.level; is_expr = r.is_expr; up_to = r.up_to; ends = r.ends })
        r.low;
  }

  pub condition_sound : IsSound (Condition ts) n (p.condition ts sub)
  unfolding p.condition
  condition_sound = record {
    gives = λ i x e.
        let h = guard_some _ _ _ e in let y = bind_some _ _ _ h.1 in
        let h2 = guard_some _ _ _ y.next in
        let r = (expression_sound true 15 (omega arith) (omega arith)).gives _ _ y.is in
        got_part (Condition ts) n i _ _ _ x h2.1
        (g.condition (sees_true ts _ i h.0) r.stands (sees_true ts _ _ h2.0)) r.low;
  }

  dim_end_sound : (i : ℕ) (y : Got Expr) (x : Got Dim) → word ts i ≡ w.Sign sign.OpenBracket
      → IsPart (Whole ts true 13) n (suc i) y → p.dim_end ts sub y ≡ Some x
      → IsPart (IsDim ts) n i x
  unfolding p.dim_end
  dim_end_sound i y x c r e = ⊎_elim
      (λ t. let h = guard_some _ _ _ t.1 in got_part (IsDim ts) n i _ _ _ x h.1
      (v.chars_dim c r.stands (sees_key_true ts _ _ t.0) (sees_true ts _ _ h.0)) r.low)
      (λ f. let h = guard_some _ _ _ f.1 in got_part (IsDim ts) n i _ _ _ x h.1
      (v.cells_dim c r.stands (sees_true ts _ _ h.0)) r.low)
      (if_cases (sees_key ts key.Char y.stop) _ _ x e)

  dim_sound : (i : ℕ) (x : Got Dim) → sees ts sign.OpenBracket i ≡ true → p.dim ts sub i ≡ Some x
      → IsPart (IsDim ts) n i x
  unfolding p.dim
  dim_sound i x c e = ⊎_elim
      (λ t. got_part (IsDim ts) n i _ _ _ x t.1
      (v.open_dim (sees_true ts _ i c) (sees_true ts _ _ t.0)) (omega arith))
      (λ f. let y = bind_some _ _ _ f.1 in
      dim_end_sound i y.first x (sees_true ts _ i c)
      ((expression_sound true 13 (omega arith) (omega arith)).gives _ _ y.is) y.next)
      (if_cases (sees ts sign.CloseBracket (suc i)) _ _ x e)

  pub dims_sound : IsSound (AreDims ts) n (p.dims ts sub)
  unfolding p.dims
  dims_sound =
      record {
        gives = λ i x e. all_sound
            (record { gives = λ j y t f. dim_sound j y t f }) _ i x e;
      }

  pub constant_sound : IsSound (IsConstant ts) n (p.constant ts sub)
  unfolding p.constant
  constant_sound = record {
    gives = λ i x e.
        let h = guard_some _ _ _ e in let h2 = guard_some _ _ _ h.1 in
        let y = bind_some _ _ _ h2.1 in let k = bind_some _ _ _ y.next in
        let r = (expression_sound true 13 (omega arith) (omega arith)).gives _ _ y.is in
        got_part (IsConstant ts) n i _ _ _ x k.next
        (v.constant (name_true ts _ h.0) (sees_true ts _ _ h2.0) r.stands k.is) r.low;
  }

from_inits : {ts : List Token} {h i j : ℕ} {xs : List Init}
    → Many (further_init ts) (Behind (IsInit ts)) h xs i j → MoreInits ts h xs i j
from_inits (no_more f) = v.no_inits f
from_inits (one_more t x m) = v.one_init t x (from_inits m)

are_inits : {ts : List Token} {h i j : ℕ} {xs : List Init}
    → Several (further_init ts) (IsInit ts) (Behind (IsInit ts)) h xs i j → AreInits ts h xs i j
are_inits (several x m) = v.first_init x (from_inits m)

module _ (ts : List Token) (sub : Sub) (next : Reader Init) (d : ℕ)
    (sound : ExprSound ts sub (suc d)) (sounds : IsSound (IsInit ts) d next) where
  braces_end_sound : (i : ℕ) (xs : Got (List Init)) (x : Got Init)
      → word ts i ≡ w.Sign sign.OpenBrace → AreInits ts xs.height xs.tree (suc i) xs.stop
      → p.braces_end ts sub next d i xs ≡ Some x → IsPart (IsInit ts) (suc d) i x
  unfolding p.braces_end
  braces_end_sound i xs x c r e = ⊎_elim
      (λ t. let h = guard_some _ _ _ t.1 in let h2 = guard_some _ _ _ h.1 in
      node_part (IsInit ts) d i _ _ _ x h2.1
      (v.braces_rest c r (sees_true ts _ _ t.0) (sees_true ts _ _ h.0) (sees_true ts _ _ h2.0)))
      (λ f. let h = guard_some _ _ _ f.1 in node_part (IsInit ts) d i _ _ _ x h.1
      (v.braces c r (sees_true ts _ _ h.0)))
      (if_cases (sees ts sign.Comma xs.stop) _ _ x e)

  init_by_sound : IsSound (IsInit ts) (suc d) (p.init_by ts sub next d)
  unfolding p.init_by p.braces
  init_by_sound = record {
    gives = λ i x e. ⊎_elim
        (λ t. let y = bind_some _ _ _ t.1 in
        let r = (several_sound ts sounds (behind_sound sounds)).gives _ _ y.is in
        braces_end_sound i y.first x (sees_true ts _ i t.0) (are_inits r.stands) y.next)
        (λ f. let y = bind_some _ _ _ f.1 in
        let r =
        (expression_sound ts sub (suc d) sound true 14 (omega arith)
        (omega arith)).gives _ _ y.is in
        got_part (IsInit ts) (suc d) i _ _ _ x y.next (v.init_value r.stands) r.low)
        (if_cases (sees ts sign.OpenBrace i) _ _ x e);
  }

pub init_sound : (ts : List Token) (n : ℕ) → IsSound (IsInit ts) n (p.init ts n)
unfolding p.init
init_sound ts zero = record { gives = λ i x e. absurd (none_some e) }
init_sound ts (suc d) =
    init_by_sound ts (expr ts (suc d)) (p.init ts d) d (expr_sound ts (suc d)) (init_sound ts d)

module _ (ts : List Token) (d : ℕ) where
  pub var_sound : IsSound (IsVar ts) d (p.var ts d)
  unfolding p.var
  var_sound = record {
    gives = λ i x e.
        let h = guard_some _ _ _ e in let y = bind_some _ _ _ h.1 in
        let z = bind_some _ _ _ y.next in
        let r = (dims_sound ts (expr ts d) d (expr_sound ts d)).gives _ _ y.is in
        let r2 = (led_sound ts sign.Assign (init_sound ts d)).gives _ _ z.is in
        let low = r.low in let low2 = r2.low in
        got_part (IsVar ts) d i _ _ _ x z.next (v.var (name_true ts _ h.0) r.stands r2.stands)
        (omega arith);
  }

  pub vars_sound : IsSound (Listed ts (IsVar ts)) d (p.vars ts d)
  unfolding p.vars
  vars_sound =
      record { gives = λ i x e. (several_sound ts var_sound (behind_sound var_sound)).gives i x e }

  pub variables_sound : (st : Storage) → IsSound (AreVariables ts st) d (p.variables ts d st)
  unfolding p.variables
  variables_sound st = record {
    gives = λ i x e.
        let y = bind_some _ _ _ e in let k = bind_some _ _ _ y.next in
        let r = vars_sound.gives _ _ y.is in
        got_part (AreVariables ts st) d i _ _ _ x k.next (v.variables r.stands k.is) r.low;
  }
