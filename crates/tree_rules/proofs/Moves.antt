-- How an expression begins, and that it takes at least one token.
use Rattle.std.proofs.Common.{◌≡◌, ℕ, zero, suc, ◌-◌, ◌≤◌, ◌<◌, Bool, true, false, not, ◌&&◌, List}
use Rattle.std.proofs.Common.{length, refl, sym, ◌∙◌, ap, arith}
use Rattle.pawn_token.specs.declared.sign.Sign.{Sign}
use Rattle.pawn_token.specs.declared.sign.Sign.TheVariants as sign
use Rattle.pawn_token.specs.declared.key.Key.{Key}
use Rattle.pawn_token.specs.declared.key.Key.TheVariants as key
use Rattle.pawn_lex.specs.declared.token.Token.{Token}
use Rattle.pawn_tree.specs.Expressions.{Expr, Arg, Link}
use Rattle.pawn_tree.specs.declared.expression.SizeofOperand.{SizeofOperand}
use Rattle.pawn_tree.specs.declared.expression.TagofOperand.{TagofOperand}
use Rattle.tree_rules.specs.declared.word.Word.{Word}
use Rattle.tree_rules.specs.declared.word.Word.TheVariants as w
use Rattle.tree_rules.specs.Tokens.{word, sees, sees_key, is_blank_word, is_label, is_tag}
use Rattle.tree_rules.specs.Levels.{is_prefix, compares}
use Rattle.tree_rules.specs.Lists.{Many, no_more, one_more}
use Rattle.tree_rules.specs.Expressions.{IsExpr, number, text, name, paren, call, index}
use Rattle.tree_rules.specs.Expressions.{character, postfix, prefix, tagged, sizeof, sizeof_in}
use Rattle.tree_rules.specs.Expressions.{tagof, tagof_in, binary, chain, choice, assign, IsSizeof}
use Rattle.tree_rules.specs.Expressions.{sizeof_name, sizeof_text, behind_brackets, IsTagof}
use Rattle.tree_rules.specs.Expressions.{tagof_name, tagof_tag, IsLink, link, AreLinks, no_links}
use Rattle.tree_rules.specs.Expressions.{one_link, IsValue, value_arg, default_arg, IsNamed}
use Rattle.tree_rules.specs.Expressions.{named_arg, AreArgs, no_args, first_value, first_named}
use Rattle.tree_rules.specs.Expressions.{AreMore, no_more_args, more_value, more_named, Whole}
use Rattle.tree_rules.proofs.Steps.{false_true}
use Rattle.tree_rules.proofs.Base.{is_real, inside, there, tag_label, sees_true, sees_key_true}
use Rattle.tree_rules.proofs.ListLaws.{Advances}

-- what an expression begins with: `_` where it is a tag
abbrev pub opens_by : Word → Bool → Bool
opens_by w.Number tag = true
opens_by w.Text tag = true
opens_by w.Name tag = true
opens_by w.Blank tag = tag
opens_by (w.Key key.Sizeof) tag = true
opens_by (w.Key key.Tagof) tag = true
opens_by (w.Sign sign.OpenParenthesis) tag = true
opens_by (w.Sign c) tag = is_prefix c
opens_by _ tag = false

abbrev pub opens : List Token → ℕ → Bool
opens ts i = opens_by (word ts i) (is_tag ts i)

opens_prefix : (c : Sign) (tag : Bool) → is_prefix c ≡ true → opens_by (w.Sign c) tag ≡ true
opens_prefix sign.Exclamation tag e = refl
opens_prefix sign.Tilde tag e = refl
opens_prefix sign.Minus tag e = refl
opens_prefix sign.Increment tag e = refl
opens_prefix sign.Decrement tag e = refl
opens_prefix _ tag e = absurd (false_true e)

opens_label : (v : Word) (tag : Bool) → is_label v ≡ true → tag ≡ true → opens_by v tag ≡ true
opens_label w.Name tag l e = refl
opens_label w.Blank tag l e = e
opens_label _ tag l e = absurd (false_true l)

and_second : (a b : Bool) → (a && b) ≡ true → b ≡ true
and_second true b e = e
and_second false b e = absurd (false_true e)

opens_at : (ts : List Token) (i : ℕ) (v : Word) → word ts i ≡ v → opens_by v (is_tag ts i) ≡ true
    → opens ts i ≡ true
opens_at ts i v c e = ap (λ x. opens_by x (is_tag ts i)) c ∙ e

pub begins : {ts : List Token} {b : Bool} {q h i j : ℕ} {x : Expr} → IsExpr ts b q h x i j
    → opens ts i ≡ true
begins {ts = ts} {i = i} (number c) = opens_at ts i _ c refl
begins {ts = ts} {i = i} (text c) = opens_at ts i _ c refl
begins {ts = ts} {i = i} (name c) = opens_at ts i _ c refl
begins {ts = ts} {i = i} (paren c s l c2) = opens_at ts i _ c refl
begins {ts = ts} {i = i} (call c k a c2) = opens_at ts i _ c refl
begins (index s l c f y l2 c2) = begins s
begins (character s l c f y l2 c2) = begins s
begins (postfix s l c j f) = begins s
begins {ts = ts} {i = i} (prefix {c = k} c p s l) = opens_at ts i _ c (opens_prefix k _ p)
begins {ts = ts} {i = i} (tagged {b = b} t s l) =
    let e = and_second b _ t in opens_label _ _ (tag_label ts i e) e
begins {ts = ts} {i = i} (sizeof c s) = opens_at ts i _ c refl
begins {ts = ts} {i = i} (sizeof_in c c2 s c3) = opens_at ts i _ c refl
begins {ts = ts} {i = i} (tagof c s) = opens_at ts i _ c refl
begins {ts = ts} {i = i} (tagof_in c c2 s c3) = opens_at ts i _ c refl
begins (binary s l c j y l2) = begins s
begins (chain s l f ls) = begins s
begins (choice s l c y l2 c2 z l3) = begins s
begins (assign s l c j y l2) = begins s

-- what no expression begins with
pub by_contra : (b : Bool) → (b ≡ true → ⊥) → b ≡ false
by_contra true f = absurd (f refl)
by_contra false f = refl

pub not_sign : (ts : List Token) (c : Sign) (i : ℕ) → opens ts i ≡ true
    → opens_by (w.Sign c) (is_tag ts i) ≡ false → sees ts c i ≡ false
not_sign ts c i o f =
    by_contra _ (λ e. false_true (sym f
    ∙ sym (ap (λ v. opens_by v (is_tag ts i)) (sees_true ts c i e)) ∙ o))

pub not_key : (ts : List Token) (k : Key) (i : ℕ) → opens ts i ≡ true
    → opens_by (w.Key k) (is_tag ts i) ≡ false → sees_key ts k i ≡ false
not_key ts k i o f =
    by_contra _ (λ e. false_true (sym f
    ∙ sym (ap (λ v. opens_by v (is_tag ts i)) (sees_key_true ts k i e)) ∙ o))

-- `_` is then a tag
blank_tag_by : (v : Word) (tag : Bool) → opens_by v tag ≡ true
    → (is_blank_word v && not tag) ≡ false
blank_tag_by w.Blank true e = refl
blank_tag_by w.Blank false e = absurd (false_true e)
blank_tag_by _ tag e = refl

pub blank_tag : (ts : List Token) (i : ℕ) → opens ts i ≡ true
    → (is_blank_word (word ts i) && not (is_tag ts i)) ≡ false
blank_tag ts i o = blank_tag_by _ _ o

opens_real : (v : Word) (tag : Bool) → opens_by v tag ≡ true → is_real v ≡ true
opens_real w.Absent tag e = absurd (false_true e)
opens_real _ tag e = refl

pub opens_inside : (ts : List Token) (i : ℕ) → opens ts i ≡ true → i < length ts
opens_inside ts i o = inside ts i (opens_real _ _ o)

-- ---- the tokens that it takes

on_brackets : (n i : ℕ) → i ≤ behind_brackets n i
on_brackets zero i = omega arith
on_brackets (suc n) i = let l = on_brackets n (suc (suc i)) in omega arith

sizeof_moves : {ts : List Token} {x : SizeofOperand} {i j : ℕ} → IsSizeof ts x i j → i < j
sizeof_moves {i = i} (sizeof_name {n = n} c f b) = let l = on_brackets n (suc i) in omega arith
sizeof_moves {i = i} (sizeof_text {n = n} c f b) = let l = on_brackets n (suc i) in omega arith

tagof_moves : {ts : List Token} {b : Bool} {x : TagofOperand} {i j : ℕ} → IsTagof ts b x i j → i < j
tagof_moves (tagof_name c) = omega arith
tagof_moves (tagof_tag c) = omega arith

mutual
  pub moves : {ts : List Token} {b : Bool} {q h i j : ℕ} {x : Expr} → IsExpr ts b q h x i j → i < j
  moves (number c) = omega arith
  moves (text c) = omega arith
  moves (name c) = omega arith
  moves (paren c s l c2) = let m = moves s in omega arith
  moves (call c k a c2) = let m = args_moves a in omega arith
  moves (index s l c f y l2 c2) = let m = moves s in let n = moves y in omega arith
  moves (character s l c f y l2 c2) = let m = moves s in let n = moves y in omega arith
  moves (postfix s l c j f) = let m = moves s in omega arith
  moves (prefix c p s l) = let m = moves s in omega arith
  moves (tagged t s l) = let m = moves s in omega arith
  moves (sizeof c s) = let m = sizeof_moves s in omega arith
  moves (sizeof_in c c2 s c3) = let m = sizeof_moves s in omega arith
  moves (tagof c s) = let m = tagof_moves s in omega arith
  moves (tagof_in c c2 s c3) = let m = tagof_moves s in omega arith
  moves (binary s l c j y l2) = let m = moves s in let n = moves y in omega arith
  moves (chain s l f ls) =
      let m = moves s in let n = link_moves f in let o = links_moves ls in omega arith
  moves (choice s l c y l2 c2 z l3) =
      let m = moves s in let n = moves y in let o = moves z in omega arith
  moves (assign s l c j y l2) = let m = moves s in let n = moves y in omega arith

  link_moves : {ts : List Token} {b : Bool} {h i j : ℕ} {x : Link} → IsLink ts b h x i j → i < j
  link_moves (link c j s l e) = let m = moves s in omega arith

  links_moves : {ts : List Token} {b : Bool} {h i j : ℕ} {xs : List Link}
      → AreLinks ts b h xs i j → i ≤ j
  links_moves (no_links f) = omega arith
  links_moves (one_link t l m) = let a = link_moves l in let b = links_moves m in omega arith

  value_moves : {ts : List Token} {h i j : ℕ} {x : Arg} → IsValue ts h x i j → i < j
  value_moves (value_arg s l e) = moves s
  value_moves (default_arg c t) = omega arith

  named_moves : {ts : List Token} {h i j : ℕ} {x : Arg} → IsNamed ts h x i j → i < j
  named_moves (named_arg c c2 c3 s l e) = let m = moves s in omega arith

  args_moves : {ts : List Token} {h i j : ℕ} {xs : List Arg} → AreArgs ts h xs i j → i ≤ j
  args_moves (no_args c) = omega arith
  args_moves (first_value v m) = let a = value_moves v in let b = more_moves m in omega arith
  args_moves (first_named v m) = let a = named_moves v in let b = more_moves m in omega arith

  pub more_moves : {ts : List Token} {named : Bool} {h i j : ℕ} {xs : List Arg}
      → AreMore ts named h xs i j → i ≤ j
  more_moves (no_more_args f) = omega arith
  more_moves (more_value c v m) = let a = value_moves v in let b = more_moves m in omega arith
  more_moves (more_named c v m) = let a = named_moves v in let b = more_moves m in omega arith

pub value_arg_moves : {ts : List Token} {h i j : ℕ} {x : Arg} → IsValue ts h x i j → i < j
value_arg_moves v = value_moves v

pub more_count : {ts : List Token} {named : Bool} {h i j : ℕ} {xs : List Arg}
    → AreMore ts named h xs i j → length xs ≤ length ts - i
more_count (no_more_args f) = omega arith
more_count {ts = ts} {i = i} (more_value c v m) =
    let a = value_moves v in let b = there ts i _ c refl in let n = more_count m in omega arith
more_count {ts = ts} {i = i} (more_named c v m) =
    let a = named_moves v in let b = there ts i _ c refl in let n = more_count m in omega arith

pub whole_steps : {ts : List Token} {b : Bool} {level h i j : ℕ} {x : Expr}
    → Whole ts b level h x i j → (i < j) × (i < length ts)
whole_steps {ts = ts} {i = i} w = (moves w.is_expr, opens_inside ts i (begins w.is_expr))

pub whole_advances : (ts : List Token) (b : Bool) (level : ℕ) → Advances ts (Whole ts b level)
whole_advances ts b level = record { steps = λ w. whole_steps w }

link_steps : {ts : List Token} {b : Bool} {h i j : ℕ} {x : Link} → IsLink ts b h x i j
    → (i < j) × (i < length ts)
link_steps {ts = ts} {i = i} (link c j s l e) =
    let m = moves s in (omega arith, there ts i _ c refl)

pub link_advances : (ts : List Token) (b : Bool) → Advances ts (IsLink ts b)
link_advances ts b = record { steps = λ l. link_steps l }

pub to_links : {ts : List Token} {b : Bool} {h i j : ℕ} {ls : List Link} → AreLinks ts b h ls i j
    → Many (compares ts) (IsLink ts b) h ls i j
to_links (no_links f) = no_more f
to_links (one_link t l m) = one_more t l (to_links m)
