-- What may be said of marks up to a token so that it goes from the first token of each node up to
-- the one behind it: what each mark has to keep.
use Rattle.std.proofs.Common.{◌≡◌, ◌≤◌, ℕ, suc, Bool, true, false, ◌&&◌, if◌then◌else◌, List, []}
use Rattle.std.proofs.Common.{◌∷◌, Option, Some, None, refl, arith}
use Rattle.pawn_cells.specs.declared.place.Place.{Place}
use Rattle.pawn_token.specs.declared.sign.Sign.{Sign}
use Rattle.pawn_token.specs.declared.key.Key.{Key}
use Rattle.pawn_token.specs.declared.key.Key.TheVariants as key
use Rattle.pawn_token.specs.declared.sign.Sign.TheVariants as sign
use Rattle.pawn_lex.specs.declared.token.Token.{Token}
use Rattle.pawn_tree.specs.declared.name.At.{At}
use Rattle.pawn_tree.specs.declared.name.Name as n
use Rattle.pawn_tree.specs.Expressions.{Expr}
use Rattle.pawn_tree.specs.Variables.{Dim, Var}
use Rattle.pawn_tree.specs.Statements.{ConstantOf}
use Rattle.pawn_tree.specs.Declarations.{Item, Plain}
use Rattle.tree_rules.specs.declared.word.Word.{Word}
use Rattle.tree_rules.specs.declared.word.Word.TheVariants as w
use Rattle.tree_rules.specs.Tokens.{at, name_at, spelling, sees, sees_key, is_tag, is_label}
use Rattle.tree_rules.specs.Tokens.{is_name, word, tag_at, behind_tag, behind_key, behind_sign}
use Rattle.tree_rules.specs.Ends.{ending}
use Rattle.tree_rules.specs.Variables.{IsConstant}
use Rattle.tree_rules.specs.Declarations.{maybe_name, behind_name, behind_reference, IsLabel}
use Rattle.tree_rules.specs.Declarations.{label_of, AreTags, no_tags, one_tag, tag_set, IsEnum}
use Rattle.tree_rules.specs.Lists.{Part, Many, no_more, one_more, Behind, Several, several, UpTo}
use Rattle.tree_rules.specs.Lists.{none_up_to, some_up_to, Led, left_out, led}
use Rattle.names_rules.specs.Mark.{Mark, Opens, Closes, Mentions}
use Rattle.names_rules.specs.Lists.{all_marks, maybe_marks}
use Rattle.names_rules.specs.ExpressionMarks.{occurs, expr_marks}
use Rattle.names_rules.specs.VariableMarks.{tag_marks, dim_marks, var_parts, var_marks}
use Rattle.names_rules.specs.StatementMarks.{constant_marks}
use Rattle.names_rules.specs.TreeMarks.{items_marks, param_marks}

-- ---- what is kept

-- by the marks of an expression
pub record Grows (ts : List Token) (P : List Mark → ℕ → Type 0) : Type 0 where
  pub on : {marks : List Mark} {m k : ℕ} → P marks m → m ≤ k → P marks k
  pub mention : {marks : List Mark} {i : ℕ} → is_label (word ts i) ≡ true → P marks i
      → P (Mentions (spelling ts i) ∷ marks) (suc i)
  pub occur : (name : List ℕ) (node : At) {marks : List Mark} {i : ℕ} → P marks i
      → P (occurs name (at ts i) node ∷ marks) (suc i)

-- and by those of a declaration or a statement
pub record Spans (ts : List Token) (P : List Mark → ℕ → Type 0) : Type 0 where
  pub opens : {marks : List Mark} {m : ℕ} → P marks m → P (Opens ∷ marks) m
  pub closes : {marks : List Mark} {m : ℕ} → P marks m → P (Closes ∷ marks) m
  pub variable : (place : Place) (outside : Bool) (x : Var) (before : List Mark) {m : ℕ}
      → P (var_parts x before) m → P (var_marks place outside x before) m
  pub parameter : (place : Place) (constant reference : Bool) (tags : List n.Name) (name : n.Name)
      (dims : List Dim) (value : Option Expr) (before : List Mark) {m : ℕ}
      → P (maybe_marks expr_marks value
      (all_marks dim_marks dims (all_marks tag_marks tags before))) m
      → P (param_marks place (Plain constant reference tags name dims value) before) m
  pub constant : (place : Place) (outside : Bool) {h i j : ℕ} {x : ConstantOf}
      → IsConstant ts h x i j → (before : List Mark) → P before i
      → P (constant_marks place outside x before) j
  pub enum : (place : Place) {h i j : ℕ} {name : Option n.Name} {xs : List Item}
      → IsEnum ts h name xs i j → (before : List Mark) → P before i
      → P (items_marks place name None 0 xs (maybe_marks tag_marks name before)) j

-- ---- parts

-- it goes from a part's beginning up to its end
pub record Orders (P : List Mark → ℕ → Type 0) {A : Type 0} (part : Part A)
    (marks : A → List Mark → List Mark) : Type 0 where
  pub orders : {h i j : ℕ} {x : A} → part h x i j → (before : List Mark) → P before i
      → P (marks x before) j

module _ {ts : List Token} {P : List Mark → ℕ → Type 0}
    (grows : Grows ts P) {A : Type 0} {marks : A → List Mark → List Mark} where
  pub many_order : {more : ℕ → Bool} {part : Part A} {h i j : ℕ} {xs : List A} → Orders P part marks
      → Many more part h xs i j
      → (before : List Mark) → P before i → P (all_marks marks xs before) j
  many_order p (no_more f) before r = r
  many_order p (one_more t x m) before r = many_order p m _ (p.orders x before r)

  pub behind_orders : {part : Part A} → Orders P part marks → Orders P (Behind part) marks
  behind_orders p = record { orders = λ x before r. p.orders x before (grows.on r (omega arith)) }

  pub several_order : {more : ℕ → Bool} {part : Part A} {h i j : ℕ} {xs : List A}
      → Orders P part marks → Several more part (Behind part) h xs i j
      → (before : List Mark) → P before i → P (all_marks marks xs before) j
  several_order p (several x m) before r = many_order (behind_orders p) m _ (p.orders x before r)

  pub led_orders : {c : Sign} {part : Part A} {h i j : ℕ} {x : Option A} → Orders P part marks
      → Led ts c part h x i j
      → (before : List Mark) → P before i → P (maybe_marks marks x before) j
  led_orders p (left_out f) before r = r
  led_orders p (led c x) before r = p.orders x before (grows.on r (omega arith))

  pub up_to_orders : {c : Sign} {part : Part A} {h i j : ℕ} {xs : List A} → Orders P part marks
      → UpTo ts c part h xs i j
      → (before : List Mark) → P before i → P (all_marks marks xs before) j
  up_to_orders p (none_up_to e) before r = r
  up_to_orders p (some_up_to f m e) before r = several_order p m before r

-- a part ends behind its beginning, or at it
pub record Goes {A : Type 0} (part : Part A) : Type 0 where
  pub goes : {h i j : ℕ} {x : A} → part h x i j → i ≤ j

pub many_goes : {A : Type 0} {more : ℕ → Bool} {part : Part A} {h i j : ℕ} {xs : List A} → Goes part
    → Many more part h xs i j → i ≤ j
many_goes p (no_more f) = omega arith
many_goes p (one_more t x m) = let a = p.goes x in let b = many_goes p m in omega arith

pub behind_goes : {A : Type 0} {part : Part A} → Goes part → Goes (Behind part)
behind_goes p = record { goes = λ x. let a = p.goes x in omega arith }

pub several_goes : {A : Type 0} {more : ℕ → Bool} {part : Part A} {h i j : ℕ} {xs : List A}
    → Goes part → Several more part (Behind part) h xs i j → i ≤ j
several_goes p (several x m) =
    let a = p.goes x in let b = many_goes (behind_goes p) m in omega arith

pub up_to_goes : {A : Type 0} {ts : List Token} {c : Sign} {part : Part A} {h i j : ℕ} {xs : List A}
    → Goes part → UpTo ts c part h xs i j → i ≤ j
up_to_goes p (none_up_to e) = omega arith
up_to_goes p (some_up_to f m e) = several_goes p m

-- ---- tokens behind what may be left out

one_on : (b : Bool) (i : ℕ) → i ≤ (if b then suc i else i)
one_on true i = omega arith
one_on false i = omega arith

pub sign_on : (ts : List Token) (c : Sign) (i : ℕ) → i ≤ behind_sign ts c i
unfolding behind_sign
sign_on ts c i = one_on (sees ts c i) i

pub name_on : (ts : List Token) (i : ℕ) → i ≤ behind_name ts i
unfolding behind_name
name_on ts i = one_on (is_name (word ts i)) i

pub key_on : (ts : List Token) (k : Key) (i : ℕ) → i ≤ behind_key ts k i
unfolding behind_key
key_on ts k i = one_on (sees_key ts k i) i

two_on : (b : Bool) (i : ℕ) → i ≤ (if b then suc (suc i) else i)
two_on true i = omega arith
two_on false i = omega arith

pub behind_tag_on : (ts : List Token) (i : ℕ) → i ≤ behind_tag ts i
unfolding behind_tag
behind_tag_on ts i = two_on (is_tag ts i) i

ending_by : (i k : ℕ) (semicolon over : Bool)
    → (if semicolon then Some (suc i) else (if over then Some i else None)) ≡ Some k → i ≤ k
ending_by i k true over e = let p : suc i ≡ k = grind (arith, e) in omega arith
ending_by i k false true e = let p : i ≡ k = grind (arith, e) in omega arith
ending_by i k false false e = absurd (grind (arith, e))

pub ending_on : (ts : List Token) (i k : ℕ) → ending ts i ≡ Some k → i ≤ k
unfolding ending
ending_on ts i k e = ending_by i k _ _ e

pub reference_on : (ts : List Token) (i : ℕ) → i ≤ behind_reference ts i
unfolding behind_reference
reference_on ts i =
    let a : i ≤ behind_key ts key.Const i = key_on ts key.Const i in
    let b : behind_key ts key.Const i ≤ behind_sign ts sign.Ampersand (behind_key ts key.Const i) =
    sign_on ts sign.Ampersand (behind_key ts key.Const i) in
    omega arith

-- ---- tags and ends

left_true : (a b : Bool) → (a && b) ≡ true → a ≡ true
left_true true b e = refl
left_true false b e = absurd (let never : ⊥ = cc in never)

right_true : (a b : Bool) → (a && b) ≡ true → b ≡ true
right_true true b e = e
right_true false b e = absurd (let never : ⊥ = cc in never)

name_label : (it : Word) → is_name it ≡ true → is_label it ≡ true
name_label w.Name e = refl
name_label w.Blank e = absurd (let never : ⊥ = cc in never)
name_label w.Number e = absurd (let never : ⊥ = cc in never)
name_label w.Text e = absurd (let never : ⊥ = cc in never)
name_label w.Absent e = absurd (let never : ⊥ = cc in never)
name_label (w.Key k) e = absurd (let never : ⊥ = cc in never)
name_label (w.Sign c) e = absurd (let never : ⊥ = cc in never)

-- a tag is a name, or `_`
pub tag_label : (ts : List Token) (i : ℕ) → is_tag ts i ≡ true → is_label (word ts i) ≡ true
unfolding is_tag
tag_label ts i e = left_true (is_label (word ts i)) _ e

-- also where tags may stand
pub allowed_label : (ts : List Token) (tags : Bool) (i : ℕ) → (tags && is_tag ts i) ≡ true
    → is_label (word ts i) ≡ true
allowed_label ts tags i e = tag_label ts i (right_true tags (is_tag ts i) e)

module _ {ts : List Token} {P : List Mark → ℕ → Type 0} (grows : Grows ts P) where
  -- a tag, where one stands
  pub maybe_tag_rises : (i : ℕ) {marks : List Mark} → P marks i
      → P (maybe_marks tag_marks (tag_at ts i) marks) (behind_tag ts i)
  unfolding tag_at behind_tag
  maybe_tag_rises i {marks = marks} r = by (is_tag ts i) refl
    where
      by : (b : Bool) → is_tag ts i ≡ b
          → P (maybe_marks tag_marks (if b then Some (name_at ts i) else None) marks)
          (if b then suc (suc i) else i)
      by true e = grows.on (grows.mention (tag_label ts i e) r) (omega arith)
      by false e = r

  -- the name of an enumeration, where one stands
  pub maybe_name_rises : (i : ℕ) {marks : List Mark} → P marks i
      → P (maybe_marks tag_marks (maybe_name ts i) marks) (behind_name ts i)
  unfolding maybe_name behind_name
  maybe_name_rises i {marks = marks} r = by (is_name (word ts i)) refl
    where
      by : (b : Bool) → is_name (word ts i) ≡ b
          → P (maybe_marks tag_marks (if b then Some (name_at ts i) else None) marks)
          (if b then suc i else i)
      by true e = grows.mention (name_label (word ts i) e) r
      by false e = r

  label_rises : {h i j : ℕ} {x : n.Name} → IsLabel ts h x i j → (before : List Mark) → P before i
      → P (tag_marks x before) j
  label_rises (label_of e) before r = grows.mention e r

  -- the tags of a parameter
  pub tags_rise : {i j : ℕ} {xs : List n.Name} → AreTags ts xs i j → (before : List Mark)
      → P before i → P (all_marks tag_marks xs before) j
  tags_rise (no_tags f f2) before r = r
  tags_rise {i = i} (one_tag t) before r =
      grows.on (grows.mention (tag_label ts i t) r) (omega arith)
  tags_rise (tag_set c m c2 c3) before r =
      grows.on (several_order grows (record { orders = label_rises }) m before
      (grows.on r (omega arith))) (omega arith)

  pub end_on : {i k : ℕ} {marks : List Mark} → P marks i → ending ts i ≡ Some k → P marks k
  end_on r e = grows.on r (ending_on ts _ _ e)
