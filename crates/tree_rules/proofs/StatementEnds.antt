-- Where a statement ends, no argument of a call without parentheses begins.
use Rattle.std.proofs.Common.{◌≡◌, ℕ, suc, ◌-◌, Bool, true, false, not, ◌&&◌, if◌then◌else◌, ◌⊎◌}
use Rattle.std.proofs.Common.{inl, inr, List, Some, None, refl, sym, ◌∙◌, ap, ⊎_elim}
use Rattle.pawn_token.specs.declared.sign.Sign.{Sign}
use Rattle.pawn_token.specs.declared.sign.Sign.TheVariants as sign
use Rattle.pawn_lex.specs.declared.token.Token.{Token}
use Rattle.pawn_tree.specs.Expressions.{Expr}
use Rattle.tree_rules.specs.declared.word.Word.{Word}
use Rattle.tree_rules.specs.declared.word.Word.TheVariants as w
use Rattle.tree_rules.specs.Tokens.{word, sees, is_sign, is_name, is_first, is_strict, is_tag}
use Rattle.tree_rules.specs.Levels.{calls}
use Rattle.tree_rules.specs.Ends.{ending, stops}
use Rattle.tree_rules.specs.Expressions.{IsExpr, number, text, name, paren, call, index, character}
use Rattle.tree_rules.specs.Expressions.{postfix, prefix, tagged, sizeof, sizeof_in, tagof}
use Rattle.tree_rules.specs.Expressions.{tagof_in, binary, chain, choice, assign, link, Whole}
use Rattle.tree_rules.specs.Statements.{is_bare, opens_bare}
use Rattle.tree_rules.proofs.Steps.{none_some, false_true}
use Rattle.tree_rules.proofs.Base.{sees_true}
use Rattle.tree_rules.proofs.Moves.{opens, opens_by}

-- ---- what stands behind a statement's name

absurd_name : (ts : List Token) (i : ℕ) {v : Word} → word ts i ≡ v → is_name v ≡ false
    → word ts i ≡ w.Name → ⊥
absurd_name ts i c f n = false_true (sym f ∙ ap is_name (sym c ∙ n))

and_first : (a c : Bool) → (a && c) ≡ true → a ≡ true
and_first true c e = refl
and_first false c e = absurd (false_true e)

and_second : (a c : Bool) → (a && c) ≡ true → c ≡ true
and_second true c e = e
and_second false c e = absurd (false_true e)

calls_word : (ts : List Token) (i : ℕ) → calls ts i ≡ true → word ts i ≡ w.Sign sign.OpenParenthesis
unfolding calls
calls_word ts i e = sees_true ts _ i (and_first _ _ e)

tag_colon : (ts : List Token) (i : ℕ) → is_tag ts i ≡ true → word ts (suc i) ≡ w.Sign sign.Colon
unfolding is_tag
tag_colon ts i e = sees_true ts _ (suc i) (and_first _ _ (and_second _ _ e))

second_on : (ts : List Token) (i m : ℕ) (v : Word)
    → (m ≡ suc i) ⊎ (opens_bare (word ts (suc i)) ≡ false) → word ts m ≡ v → opens_bare v ≡ false
    → opens_bare (word ts (suc i)) ≡ false
second_on ts i m v s c f =
    ⊎_elim (λ e. ap (λ k. opens_bare (word ts k)) (sym e) ∙ ap opens_bare c ∙ f) (λ g. g) s

-- behind the name that it begins with an expression ends, or has a sign
pub second : {ts : List Token} {b : Bool} {q h i j : ℕ} {x : Expr} → IsExpr ts b q h x i j
    → word ts i ≡ w.Name → (j ≡ suc i) ⊎ (opens_bare (word ts (suc i)) ≡ false)
second {ts = ts} {i = i} (number c) n = absurd (absurd_name ts i c refl n)
second {ts = ts} {i = i} (text c) n = absurd (absurd_name ts i c refl n)
second {ts = ts} {i = i} (name c) n = inl refl
second {ts = ts} {i = i} (paren c s l c2) n = absurd (absurd_name ts i c refl n)
second {ts = ts} {i = i} (call c k a c2) n = inr (ap opens_bare (calls_word ts (suc i) k))
second {ts = ts} {i = i} (index s l c f y l2 c2) n = inr (second_on ts i _ _ (second s n) c refl)
second {ts = ts} {i = i} (character s l c f y l2 c2) n =
    inr (second_on ts i _ _ (second s n) c refl)
second {ts = ts} {i = i} (postfix s l c j f) n = inr (second_on ts i _ _ (second s n) c refl)
second {ts = ts} {i = i} (prefix c t s l) n = absurd (absurd_name ts i c refl n)
second {ts = ts} {i = i} (tagged {b = b} t s l) n =
    inr (ap opens_bare (tag_colon ts i (and_second b _ t)))
second {ts = ts} {i = i} (sizeof c s) n = absurd (absurd_name ts i c refl n)
second {ts = ts} {i = i} (sizeof_in c c2 s c3) n = absurd (absurd_name ts i c refl n)
second {ts = ts} {i = i} (tagof c s) n = absurd (absurd_name ts i c refl n)
second {ts = ts} {i = i} (tagof_in c c2 s c3) n = absurd (absurd_name ts i c refl n)
second {ts = ts} {i = i} (binary s l c j y l2) n = inr (second_on ts i _ _ (second s n) c refl)
second {ts = ts} {i = i} (chain s l (link c j y l2 e) ls) n =
    inr (second_on ts i _ _ (second s n) c refl)
second {ts = ts} {i = i} (choice s l c y l2 c2 z l3) n =
    inr (second_on ts i _ _ (second s n) c refl)
second {ts = ts} {i = i} (assign s l c j y l2) n = inr (second_on ts i _ _ (second s n) c refl)

ending_bare_by : (first strict : Bool) (v : Word) (i k : ℕ)
    → (if is_sign sign.Semicolon v then Some (suc i)
    else (if not strict && stops first v then Some i else None)) ≡ Some k
    → (opens_bare v && not first) ≡ false
ending_bare_by true strict w.Name i k e = refl
ending_bare_by true strict w.Blank i k e = refl
ending_bare_by true strict w.Number i k e = refl
ending_bare_by true strict w.Text i k e = refl
ending_bare_by false true w.Name i k e = absurd (none_some e)
ending_bare_by false true w.Blank i k e = absurd (none_some e)
ending_bare_by false true w.Number i k e = absurd (none_some e)
ending_bare_by false true w.Text i k e = absurd (none_some e)
ending_bare_by false false w.Name i k e = absurd (none_some e)
ending_bare_by false false w.Blank i k e = absurd (none_some e)
ending_bare_by false false w.Number i k e = absurd (none_some e)
ending_bare_by false false w.Text i k e = absurd (none_some e)
ending_bare_by first strict _ i k e = refl

-- where a statement ends no argument begins
ending_bare : (ts : List Token) (i k : ℕ) → ending ts i ≡ Some k → is_bare ts i ≡ false
unfolding ending is_bare sees
ending_bare ts i k e = ending_bare_by (is_first ts i) (is_strict ts (i - 1)) (word ts i) i k e

not_bare_by : (a c : Bool) → a ≡ false → (a && c) ≡ false
not_bare_by false c e = refl
not_bare_by true c e = absurd (false_true (sym e))

not_bare : (ts : List Token) (i : ℕ) → opens_bare (word ts i) ≡ false → is_bare ts i ≡ false
unfolding is_bare
not_bare ts i f = not_bare_by _ _ f

pub no_bare : {ts : List Token} {b : Bool} {level h i j k : ℕ} {x : Expr} → Whole ts b level h x i j
    → ending ts j ≡ Some k → word ts i ≡ w.Name → is_bare ts (suc i) ≡ false
no_bare {ts = ts} {i = i} {j = j} {k = k} x e n =
    ⊎_elim (λ s. ap (is_bare ts) (sym s) ∙ ending_bare ts j k e) (λ f. not_bare ts (suc i) f)
    (second x.is_expr n)

-- ---- what `return` gives

ending_none_by : (strict tag : Bool) (v : Word) (i : ℕ) → opens_by v tag ≡ true
    → (if is_sign sign.Semicolon v then Some (suc i)
    else (if not strict && stops false v then Some i else None)) ≡ None
ending_none_by true tag (w.Sign sign.Semicolon) i o = absurd (false_true o)
ending_none_by false tag (w.Sign sign.Semicolon) i o = absurd (false_true o)
ending_none_by true tag (w.Sign sign.CloseBrace) i o = absurd (false_true o)
ending_none_by false tag (w.Sign sign.CloseBrace) i o = absurd (false_true o)
ending_none_by true tag w.Absent i o = absurd (false_true o)
ending_none_by false tag w.Absent i o = absurd (false_true o)
ending_none_by true tag _ i o = refl
ending_none_by false tag _ i o = refl

pub ending_none : (ts : List Token) (i : ℕ) → is_first ts i ≡ false → opens ts i ≡ true
    → ending ts i ≡ None
unfolding ending sees
ending_none ts i f o = rw f (ending_none_by (is_strict ts (i - 1)) (is_tag ts i) (word ts i) i o)
