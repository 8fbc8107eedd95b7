-- What the lesser readers of expressions give is of the grammar.
use Rattle.std.proofs.Common.{◌≡◌, ℕ, suc, ◌≤◌, ◌<◌, max, Bool, true, false, ◌&&◌, if◌then◌else◌}
use Rattle.std.proofs.Common.{List, ◌++◌, Some, refl, subst, arith, ⊎_elim}
use Rattle.std.proofs.lemmas.Bool.{leb-true}
use Rattle.pawn_token.specs.declared.sign.Sign.{Sign}
use Rattle.pawn_token.specs.declared.sign.Sign.TheVariants as sign
use Rattle.pawn_lex.specs.declared.token.Token.{Token}
use Rattle.pawn_tree.specs.Expressions.{Expr, Arg, Link}
use Rattle.pawn_tree.specs.declared.expression.SizeofOperand.{SizeofOperand}
use Rattle.pawn_tree.specs.declared.expression.TagofOperand.{TagofOperand}
use Rattle.tree_rules.specs.declared.word.Word.{Word}
use Rattle.tree_rules.specs.declared.word.Word.TheVariants as w
use Rattle.tree_rules.specs.declared.joint.Joint.{Joint}
use Rattle.tree_rules.specs.declared.joint.Joint.TheVariants as joint
use Rattle.tree_rules.specs.Tokens.{word, is_blank_word, is_tag}
use Rattle.tree_rules.specs.Levels.{joint_of, is_compare, binds, compares}
use Rattle.tree_rules.specs.Lists.{Many, no_more, one_more}
use Rattle.tree_rules.specs.Expressions.{IsExpr, IsSizeof, IsTagof, IsLink, AreLinks, AreMore}
use Rattle.tree_rules.specs.Expressions.{Brackets}
use Rattle.tree_rules.specs.Expressions as g
use Rattle.tree_rules.specs.Readers.{Got}
use Rattle.tree_rules.specs.ReadExpressions.{Parsed, part, Sub, operation}
use Rattle.tree_rules.specs.ReadExpressions as p
use Rattle.tree_rules.proofs.Steps.{none_some, some_inj, false_true, guard_some, if_cases}
use Rattle.tree_rules.proofs.Base.{sees_true, name_true, left_level}

pub record IsRead (ts : List Token) (n : ℕ) (b : Bool) (level i : ℕ) (x : Parsed) : Type 0 where
  pub is_expr : IsExpr ts b x.level x.height x.tree i x.stop
  pub low : x.height ≤ n
  pub up_to : x.level ≤ level
  pub ends : level < binds ts b x.stop

pub record ExprSound (ts : List Token) (sub : Sub) (n : ℕ) : Type 0 where
  pub read : (b : Bool) (level i : ℕ) (x : Parsed) → 2 ≤ level → level ≤ 15 → sub b level i ≡ Some x
      → IsRead ts n b level i x

-- where the loop stands
pub record IsMade (ts : List Token) (d : ℕ) (b : Bool) (level i : ℕ) (x : Parsed) : Type 0 where
  pub is_expr : IsExpr ts b x.level x.height x.tree i x.stop
  pub low : x.height ≤ suc d
  pub up_to : x.level ≤ level

pub made : (ts : List Token) (d : ℕ) (b : Bool) (level i : ℕ) (x : Expr) (s under stop : ℕ)
    (y : Parsed)
    → operation d x s under stop ≡ Some y
    → IsExpr ts b s (suc under) x i stop → s ≤ level → IsMade ts d b level i y
made ts d b level i x s under stop y e is up =
    let h = guard_some _ _ _ e in let l : under ≤ d = leb-true _ _ h.0 in
    subst (λ z. IsMade ts d b level i z) (some_inj _ _ h.1)
    (record { is_expr = is; low = omega arith; up_to = up })

-- a node without others below it
pub leaf : (ts : List Token) (d : ℕ) (b : Bool) (level i : ℕ) (x : Expr) (s stop : ℕ) (y : Parsed)
    → Some (part x s 1 stop) ≡ Some y
    → IsExpr ts b s 1 x i stop → s ≤ level → IsMade ts d b level i y
leaf ts d b level i x s stop y e is up =
    subst (λ z. IsMade ts d b level i z) (some_inj _ _ e)
    (record { is_expr = is; low = omega arith; up_to = up })

-- ---- what `sizeof` and `tagof` take

pair_true : (ts : List Token) (i : ℕ) → p.pair ts i ≡ true
    → (word ts i ≡ w.Sign sign.OpenBracket) × (word ts (suc i) ≡ w.Sign sign.CloseBracket)
pair_true ts i e = let l = first_true _ _ e in (sees_true ts _ i l.0, sees_true ts _ (suc i) l.1)
  where
    first_true : (a c : Bool) → (a && c) ≡ true → (a ≡ true) × (c ≡ true)
    first_true true c e = (refl, e)
    first_true false c e = absurd (false_true e)

record IsPairs (ts : List Token) (i n : ℕ) : Type 0 where
  few : n ≤ 2
  brackets : Brackets ts n i

pairs_by : (ts : List Token) (i : ℕ) (a c : Bool) → p.pair ts i ≡ a → p.pair ts (suc (suc i)) ≡ c
    → IsPairs ts i (if a then (if c then 2 else 1) else 0)
pairs_by ts i false c e f = record { few = omega arith; brackets = tt }
pairs_by ts i true false e f =
    let x = pair_true ts i e in record { few = omega arith; brackets = (x.0, x.1, tt) }
pairs_by ts i true true e f =
    let x = pair_true ts i e in let y = pair_true ts (suc (suc i)) f in
    record { few = omega arith; brackets = (x.0, x.1, (y.0, y.1, tt)) }

pairs_are : (ts : List Token) (i : ℕ) → IsPairs ts i (p.pairs ts i)
unfolding p.pairs
pairs_are ts i = pairs_by ts i _ _ refl refl

sizeof_by_sound : (ts : List Token) (i : ℕ) (x : Got SizeofOperand) (v : Word) → word ts i ≡ v
    → p.sizeof_by ts i v ≡ Some x → IsSizeof ts x.tree i x.stop
sizeof_by_sound ts i x w.Name c e =
    let k = pairs_are ts (suc i) in
    subst (λ z. IsSizeof ts z.tree i z.stop) (some_inj _ _ e) (g.sizeof_name c k.few k.brackets)
sizeof_by_sound ts i x w.Text c e =
    let k = pairs_are ts (suc i) in
    subst (λ z. IsSizeof ts z.tree i z.stop) (some_inj _ _ e) (g.sizeof_text c k.few k.brackets)
sizeof_by_sound ts i x _ c e = absurd (none_some e)

pub sizeof_of_sound : (ts : List Token) (i : ℕ) (x : Got SizeofOperand) → p.sizeof_of ts i ≡ Some x
    → IsSizeof ts x.tree i x.stop
unfolding p.sizeof_of
sizeof_of_sound ts i x e = sizeof_by_sound ts i x _ refl e

pub and_true : (a c : Bool) → (a && c) ≡ true → (a ≡ true) × (c ≡ true)
and_true true c e = (refl, e)
and_true false c e = absurd (false_true e)

pub tagof_of_sound : (ts : List Token) (b : Bool) (i : ℕ) (x : Got TagofOperand)
    → p.tagof_of ts b i ≡ Some x → IsTagof ts b x.tree i x.stop
unfolding p.tagof_of
tagof_of_sound ts b i x e = ⊎_elim
    (λ t.
    subst (λ z. IsTagof ts b z.tree i z.stop) (some_inj _ _ t.1) (g.tagof_tag t.0))
    (λ f. let h = guard_some _ _ _ f.1 in subst (λ z. IsTagof ts b z.tree i z.stop)
    (some_inj _ _ h.1) (g.tagof_name (name_true ts i h.0)))
    (if_cases (b && is_tag ts i) _ _ x e)

-- ---- the lists of expressions

pub from_links : {ts : List Token} {b : Bool} {h i j : ℕ} {ls : List Link}
    → Many (compares ts) (IsLink ts b) h ls i j → AreLinks ts b h ls i j
from_links (no_more f) = g.no_links f
from_links (one_more t l m) = g.one_link t l (from_links m)

pub record AddedArgs (ts : List Token) (n : ℕ) (named : Bool) (done : List Arg) (h i : ℕ)
    (y : Got (List Arg)) : Type 0 where
  pub added : List Arg
  pub height : ℕ
  pub stands : AreMore ts named height added i y.stop
  pub items : y.tree ≡ done ++ added
  pub is_height : y.height ≡ max h height
  pub low : height ≤ n

pub compare_true : (j : Joint) → is_compare j ≡ true → j ≡ joint.Compare
compare_true joint.Compare e = refl
compare_true _ e = absurd (false_true e)

pub question_sign : (c : Sign) → joint_of c ≡ joint.Question → c ≡ sign.Question
question_sign sign.Question e = refl
question_sign _ e = cc

pub bracket_sign : (c : Sign) → joint_of c ≡ joint.Bracket → c ≡ sign.OpenBracket
bracket_sign sign.OpenBracket e = refl
bracket_sign _ e = cc

pub brace_sign : (c : Sign) → joint_of c ≡ joint.Brace → c ≡ sign.OpenBrace
brace_sign sign.OpenBrace e = refl
brace_sign _ e = cc

pub one_up : (first : Bool) (level : ℕ) → (if first then 16 else 1) ≤ level → 1 ≤ level
one_up true level l = omega arith
one_up false level l = l

pub blank_by : (v : Word) → is_blank_word v ≡ true → v ≡ w.Blank
blank_by w.Blank e = refl
blank_by _ e = absurd (false_true e)

pub level_some : {ts : List Token} {b : Bool} {s h i j : ℕ} {x : Expr}
    → IsExpr ts b s h x i j → 1 ≤ s
level_some (g.binary {p = q} {c = c} x u k j y v) =
    let o = left_level c q j in let l = o.least in omega arith
level_some _ = omega arith
