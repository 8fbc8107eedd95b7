-- Each expression of the grammar is what the parser gives.
use Rattle.std.proofs.Common.{◌≡◌, ℕ, zero, suc, ◌+◌, ◌-◌, ◌≤◌, ◌<◌, max, Bool, true, false, not}
use Rattle.std.proofs.Common.{◌&&◌, List, [], ◌∷◌, ◌++◌, length, Some, refl, sym, ◌∙◌, ap, arith}
use Rattle.std.proofs.Common.{append_assoc}
use Rattle.std.proofs.lemmas.Bool.{le-leb, lt-ltb, le-ltb}
use Rattle.std.proofs.lemmas.List.{append-nil}
use Rattle.std.proofs.lemmas.Bool.Decides.{nat_tests}
use Rattle.pawn_token.specs.declared.sign.Sign.{Sign}
use Rattle.pawn_token.specs.declared.sign.Sign.TheVariants as sign
use Rattle.pawn_lex.specs.declared.token.Token.{Token}
use Rattle.pawn_tree.specs.Expressions.{Expr, Arg, Link}
use Rattle.pawn_tree.specs.declared.expression.SizeofOperand.{SizeofOperand}
use Rattle.pawn_tree.specs.declared.expression.TagofOperand.{TagofOperand}
use Rattle.pawn_tree.specs.declared.expression.TagofOperand.TheVariants as tagof_operand
use Rattle.tree_rules.specs.declared.word.Word.{Word}
use Rattle.tree_rules.specs.declared.word.Word.TheVariants as w
use Rattle.tree_rules.specs.declared.joint.Joint.TheVariants as joint
use Rattle.tree_rules.specs.Tokens.{word, name_at, sees, is_sign, is_first, is_label, is_tag}
use Rattle.tree_rules.specs.Levels.{joint_of, joint_at, level_of, binds, calls}
use Rattle.tree_rules.specs.Expressions.{IsExpr, number, text, name, paren, call, index}
use Rattle.tree_rules.specs.Expressions.{character, postfix, prefix, tagged, sizeof, sizeof_in}
use Rattle.tree_rules.specs.Expressions.{tagof, tagof_in, binary, chain, choice, assign, IsSizeof}
use Rattle.tree_rules.specs.Expressions.{sizeof_name, sizeof_text, Brackets, behind_brackets}
use Rattle.tree_rules.specs.Expressions.{IsTagof, tagof_name, tagof_tag, IsLink, link, IsValue}
use Rattle.tree_rules.specs.Expressions.{value_arg, default_arg, IsNamed, named_arg, AreArgs}
use Rattle.tree_rules.specs.Expressions.{no_args, first_value, first_named, AreMore, no_more_args}
use Rattle.tree_rules.specs.Expressions.{more_value, more_named}
use Rattle.tree_rules.specs.Readers.{got, ◌>>=◌}
use Rattle.tree_rules.specs.ReadExpressions.{Parsed, part, Sub}
use Rattle.tree_rules.specs.ReadExpressions as p
use Rattle.tree_rules.proofs.Steps.{false_true}
use Rattle.tree_rules.proofs.Base.{true_sees, sees_true, IsLeft, sees_other, label_no_sign}
use Rattle.tree_rules.proofs.Base.{tag_label, no_tag, no_tag_word, binds_at, binds_joint}
use Rattle.tree_rules.proofs.Base.{left_level, edge, edge_next, edge_left, edge_over}
use Rattle.tree_rules.proofs.Base.{edge_postfix}
use Rattle.tree_rules.proofs.ListLaws.{IsComplete, many_complete, many_count, max_zero, max_assoc}
use Rattle.tree_rules.proofs.Moves.{begins, not_sign, blank_tag, more_count, link_advances}
use Rattle.tree_rules.proofs.Moves.{to_links}

pub record ExprComplete (ts : List Token) (sub : Sub) (n : ℕ) : Type 0 where
  pub all : {b : Bool} {q h i k : ℕ} {x : Expr} → (level : ℕ) → IsExpr ts b q h x i k → h ≤ n
      → q ≤ level → level < binds ts b k → sub b level i ≡ Some (part x q h k)

record Reaches (ts : List Token) (sub : Sub) (d : ℕ) (b : Bool) (level i : ℕ)
    (x : Parsed) : Type 0 where
  fuel : ℕ
  enough : suc d < fuel + x.height
  same : p.whole ts sub d b level i ≡ p.climb ts sub d b level i fuel x

-- ---- what `sizeof` and `tagof` take

pair_is : (ts : List Token) (i : ℕ) → word ts i ≡ w.Sign sign.OpenBracket
    → word ts (suc i) ≡ w.Sign sign.CloseBracket → p.pair ts i ≡ true
pair_is ts i c c2 = rw (true_sees ts _ i c, true_sees ts _ (suc i) c2) refl

pair_not : (ts : List Token) (i : ℕ) → sees ts sign.OpenBracket i ≡ false → p.pair ts i ≡ false
pair_not ts i f = rw f refl

pairs_is : (ts : List Token) (n i : ℕ) → n ≤ 2 → Brackets ts n i
    → sees ts sign.OpenBracket (behind_brackets n i) ≡ false → p.pairs ts i ≡ n
unfolding p.pairs
pairs_is ts zero i few b f = rw (pair_not ts i f) refl
pairs_is ts (suc zero) i few b f = rw (pair_is ts i b.0 b.1, pair_not ts (suc (suc i)) f) refl
pairs_is ts (suc (suc zero)) i few b f =
    let c = b.2 in rw (pair_is ts i b.0 b.1, pair_is ts (suc (suc i)) c.0 c.1) refl
pairs_is ts (suc (suc (suc n))) i few b f = absurd (omega arith)

sizeof_of_complete : {ts : List Token} {x : SizeofOperand} {i j : ℕ} → IsSizeof ts x i j
    → sees ts sign.OpenBracket j ≡ false → p.sizeof_of ts i ≡ Some (got x 0 j)
unfolding p.sizeof_of
sizeof_of_complete {ts = ts} {i = i} (sizeof_name {n = n} c few b) f =
    rw (c, pairs_is ts n (suc i) few b f) refl
sizeof_of_complete {ts = ts} {i = i} (sizeof_text {n = n} c few b) f =
    rw (c, pairs_is ts n (suc i) few b f) refl

sizeof_no_paren : {ts : List Token} {x : SizeofOperand} {i j : ℕ} → IsSizeof ts x i j
    → sees ts sign.OpenParenthesis i ≡ false
sizeof_no_paren {ts = ts} {i = i} (sizeof_name c few b) = sees_other ts _ i _ c refl
sizeof_no_paren {ts = ts} {i = i} (sizeof_text c few b) = sees_other ts _ i _ c refl

tagof_of_name : (ts : List Token) (b : Bool) (i : ℕ) → word ts i ≡ w.Name
    → (b && is_tag ts i) ≡ false → p.tagof_of ts b i
    ≡ Some (got (tagof_operand.Name (name_at ts i)) 0 (suc i))
unfolding p.tagof_of
tagof_of_name ts b i c f = rw (f, c) refl

tagof_of_tag : (ts : List Token) (b : Bool) (i : ℕ) → (b && is_tag ts i) ≡ true
    → p.tagof_of ts b i ≡ Some (got (tagof_operand.Tag (name_at ts i)) 0 (suc (suc i)))
unfolding p.tagof_of
tagof_of_tag ts b i t = rw t refl

-- behind it an expression goes on, or a sign stands
tagof_on : {ts : List Token} {b : Bool} {x : TagofOperand} {i j : ℕ} → IsTagof ts b x i j
    → 1 ≤ binds ts b j → p.tagof_of ts b i ≡ Some (got x 0 j)
tagof_on {ts = ts} {b = b} {i = i} (tagof_name c) low = tagof_of_name ts b i c (no_tag ts b i low)
tagof_on {ts = ts} {b = b} {i = i} (tagof_tag t) low = tagof_of_tag ts b i t

tagof_before : {ts : List Token} {b : Bool} {x : TagofOperand} {i j : ℕ} (v : Word)
    → IsTagof ts b x i j → word ts j ≡ v → is_sign sign.Colon v ≡ false
    → p.tagof_of ts b i ≡ Some (got x 0 j)
tagof_before {ts = ts} {b = b} {i = i} v (tagof_name c) e f =
    tagof_of_name ts b i c (no_tag_word ts b i v e f)
tagof_before {ts = ts} {b = b} {i = i} v (tagof_tag t) e f = tagof_of_tag ts b i t

and_second : (a b : Bool) → (a && b) ≡ true → b ≡ true
and_second true b e = e
and_second false b e = absurd (false_true e)

tagof_no_paren : {ts : List Token} {b : Bool} {x : TagofOperand} {i j : ℕ} → IsTagof ts b x i j
    → sees ts sign.OpenParenthesis i ≡ false
tagof_no_paren {ts = ts} {i = i} (tagof_name c) = sees_other ts _ i _ c refl
tagof_no_paren {ts = ts} {b = b} {i = i} (tagof_tag t) =
    sees_other ts sign.OpenParenthesis i _ refl
    (label_no_sign sign.OpenParenthesis _ (tag_label ts i (and_second b _ t)))

-- ---- the lists of expressions

module _ (ts : List Token) (sub : Sub) (n : ℕ) (complete : ExprComplete ts sub n) where
  pub value_complete : {h i j : ℕ} {x : Arg} → IsValue ts h x i j → h ≤ n
      → p.value_arg ts sub i ≡ Some (got x h j)
  unfolding p.value_arg
  value_complete {i = i} (value_arg {s = q} s l e) low =
      rw (blank_tag ts i (begins s), complete.all 14 s low l e) refl
  value_complete {i = i} (default_arg c t) low = rw (c, t) refl

  value_no_dot : {h i j : ℕ} {x : Arg} → IsValue ts h x i j → sees ts sign.Dot i ≡ false
  value_no_dot {i = i} (value_arg s l e) = not_sign ts sign.Dot i (begins s) refl
  value_no_dot {i = i} (default_arg c t) = sees_other ts sign.Dot i _ c refl

  value_no_close : {h i j : ℕ} {x : Arg} → IsValue ts h x i j
      → sees ts sign.CloseParenthesis i ≡ false
  value_no_close {i = i} (value_arg s l e) = not_sign ts sign.CloseParenthesis i (begins s) refl
  value_no_close {i = i} (default_arg c t) = sees_other ts sign.CloseParenthesis i _ c refl

  value_is_arg : {h i j : ℕ} {x : Arg} → IsValue ts h x i j → h ≤ n
      → p.arg ts sub false i ≡ Some (got x h j)
  unfolding p.arg
  value_is_arg v low = rw (value_no_dot v, value_complete v low) refl

  named_dot : {h i j : ℕ} {x : Arg} → IsNamed ts h x i j → word ts i ≡ w.Sign sign.Dot
  named_dot (named_arg c c2 c3 s l e) = c

  named_is_arg : {h i j : ℕ} {x : Arg} → (named : Bool) → IsNamed ts h x i j → h ≤ n
      → p.arg ts sub named i ≡ Some (got x h j)
  unfolding p.arg p.named_arg
  named_is_arg {i = i} named (named_arg c c2 c3 s l e) low =
      rw (
        true_sees ts sign.Dot i c,
        c2,
        true_sees ts sign.Assign (suc (suc i)) c3,
        complete.all 14 s low l e,
      ) refl

  pub more_complete : {named : Bool} {h i j : ℕ} {xs : List Arg} → AreMore ts named h xs i j → h ≤ n
      → (fuel : ℕ) → length xs < fuel → (done : List Arg) (g : ℕ)
      → p.more_args ts sub fuel named done g i ≡ Some (got (done ++ xs) (max g h) j)
  unfolding p.more_args
  more_complete m low zero few done g = absurd (omega arith)
  more_complete (no_more_args f) low (suc fuel) few done g =
      rw (f, append-nil done, ← max_zero g) refl
  more_complete {i = i} (more_value {h = h} {j = j} {h2 = h2} {k = k} {x = x} {xs = xs} c v m) low
      (suc fuel) few done g =
      rw (
        true_sees ts sign.Comma i c,
        value_is_arg v (omega arith),
        value_no_dot v,
        more_complete {named = false} {h = h2} {i = j} {j = k} {xs = xs} m (omega arith) fuel
            (omega arith) (done ++ x ∷ []) (max g h),
        append_assoc done (x ∷ []) xs,
        max_assoc g h h2,
      ) refl
  more_complete {named = named} {i = i}
      (more_named {h = h} {j = j} {h2 = h2} {k = k} {x = x} {xs = xs} c v m) low
      (suc fuel) few done g =
      rw (
        true_sees ts sign.Comma i c,
        named_is_arg named v (omega arith),
        true_sees ts sign.Dot (suc i) (named_dot v),
        more_complete {named = true} {h = h2} {i = j} {j = k} {xs = xs} m (omega arith) fuel
            (omega arith) (done ++ x ∷ []) (max g h),
        append_assoc done (x ∷ []) xs,
        max_assoc g h h2,
      ) refl

  args_complete : {h i j : ℕ} {xs : List Arg} → AreArgs ts h xs i j → h ≤ n
      → p.call_args ts sub i ≡ Some (got xs h j)
  unfolding p.call_args
  args_complete {i = i} (no_args c) low = rw (true_sees ts sign.CloseParenthesis i c) refl
  args_complete {i = i} (first_value {h = h} {x = x} v m) low = let few = more_count m in
      rw (
        value_no_close v,
        value_is_arg v (omega arith),
        value_no_dot v,
        more_complete m (omega arith) (suc (length ts)) (omega arith) (x ∷ []) h,
      ) refl
  args_complete {i = i} (first_named {h = h} {x = x} v m) low = let few = more_count m in
      rw (
        sees_other ts sign.CloseParenthesis i _ (named_dot v) refl,
        named_is_arg false v (omega arith),
        true_sees ts sign.Dot i (named_dot v),
        more_complete m (omega arith) (suc (length ts)) (omega arith) (x ∷ []) h,
      ) refl

  link_complete : {b : Bool} {h i j : ℕ} {x : Link} → IsLink ts b h x i j → h ≤ n
      → p.link ts sub b i ≡ Some (got x h j)
  unfolding p.link p.link_by
  link_complete (link c j s l e) low = rw (c, complete.all 8 s low l e) refl

  links_complete : (b : Bool) → IsComplete (IsLink ts b) n (p.link ts sub b)
  links_complete b = record { all = λ l low. link_complete l low }

link_at : {ts : List Token} {b : Bool} {h i j : ℕ} {x : Link} → IsLink ts b h x i j
    → level_of b (is_first ts i) joint.Compare ≡ binds ts b i
link_at {ts = ts} {b = b} {i = i} (link c j s l e) = sym (binds_joint ts b i _ _ c j)

record IsCompare (ts : List Token) (i : ℕ) : Type 0 where
  sign_of : Sign
  is : word ts i ≡ w.Sign sign_of
  joint_is : joint_of sign_of ≡ joint.Compare

link_is : {ts : List Token} {b : Bool} {h i j : ℕ} {x : Link} → IsLink ts b h x i j → IsCompare ts i
link_is (link {c = c} k j s l e) = record { sign_of = c; is = k; joint_is = j }

low_in : {d : ℕ} (h : ℕ) → suc h ≤ suc d → h ≤ d
low_in h low = omega arith

calls_word : (ts : List Token) (i : ℕ) → calls ts i ≡ true → word ts i ≡ w.Sign sign.OpenParenthesis
unfolding calls
calls_word ts i e = sees_true ts _ i (and_first _ _ e)
  where
    and_first : (a c : Bool) → (a && c) ≡ true → a ≡ true
    and_first true c e = refl
    and_first false c e = absurd (false_true e)

calls_by : (b first : Bool) (v : Word) → 1 ≤ level_of b first (joint_at v)
    → (is_sign sign.OpenParenthesis v && not first) ≡ false
calls_by b true (w.Sign sign.OpenParenthesis) low = refl
calls_by b false (w.Sign sign.OpenParenthesis) low = absurd (omega arith)
calls_by b first _ low = refl

calls_not : (ts : List Token) (b : Bool) (i : ℕ) → 1 ≤ binds ts b i → calls ts i ≡ false
unfolding calls binds sees
calls_not ts b i low = calls_by b (is_first ts i) (word ts i) low

bracket_by : (b first : Bool) (v : Word) → 3 ≤ level_of b first (joint_at v)
    → is_sign sign.OpenBracket v ≡ false
bracket_by b true (w.Sign sign.OpenBracket) low = absurd (omega arith)
bracket_by b false (w.Sign sign.OpenBracket) low = absurd (omega arith)
bracket_by b first _ low = refl

no_bracket : (ts : List Token) (b : Bool) (i : ℕ) → 3 ≤ binds ts b i
    → sees ts sign.OpenBracket i ≡ false
unfolding binds sees
no_bracket ts b i low = bracket_by b (is_first ts i) (word ts i) low

left_on : (r n : ℕ) → IsLeft r → edge r ≤ n → r - 1 < n
left_on r n o on = let l = edge_up r in let a = o.least in omega arith
  where
    edge_up : (p : ℕ) → p ≤ edge p
    edge_up p = grind (arith, nat_tests)

pub none_low : {ts : List Token} {b : Bool} {q h i j : ℕ} {x : Expr} → IsExpr ts b q h x i j
    → h ≤ 0 → ⊥
none_low (binary s l c j y l2) low = omega arith
none_low _ low = omega arith

-- ---- operands and operators

module _ (ts : List Token) (sub : Sub) (d : ℕ) (complete : ExprComplete ts sub d) where
  starting : (b : Bool) (level i : ℕ) (x : Parsed) → 1 ≤ x.height
      → p.operand_by ts sub d b i (word ts i) ≡ Some x → Reaches ts sub d b level i x
  unfolding p.whole
  starting b level i x some e =
      record {
        fuel = suc d;
        enough = omega arith;
        same = ap (λ o. o >>= p.climb ts sub d b level i (suc d)) e;
      }

  grown_by : (b : Bool) (level i : ℕ) (t y : Parsed) (fuel : ℕ) → suc d < fuel + t.height
      → p.whole ts sub d b level i ≡ p.climb ts sub d b level i fuel t
      → binds ts b t.stop ≤ level → p.grow ts sub d b i t (word ts t.stop) ≡ Some y → t.height ≤ d
      → t.height < y.height → Reaches ts sub d b level i y
  unfolding p.climb
  grown_by b level i t y zero enough same l e low up = absurd (omega arith)
  grown_by b level i t y (suc n) enough same l e low up =
      record { fuel = n; enough = omega arith; same = same ∙ rw (le-ltb _ _ l, e) refl }

  grown : (b : Bool) (level i : ℕ) (t y : Parsed) → Reaches ts sub d b level i t
      → binds ts b t.stop ≤ level → p.grow ts sub d b i t (word ts t.stop) ≡ Some y → t.height ≤ d
      → t.height < y.height → Reaches ts sub d b level i y
  grown b level i t y r l e low up = grown_by b level i t y r.fuel r.enough r.same l e low up

  label_operand : (b : Bool) (i : ℕ) (x : Parsed) → (b && is_tag ts i) ≡ true → (v : Word)
      → word ts i ≡ v → is_label v ≡ true → p.tagged ts sub d b i ≡ Some x
      → p.operand_by ts sub d b i v ≡ Some x
  unfolding p.operand_by p.named
  label_operand b i x t w.Name c l e = rw (t, e) refl
  label_operand b i x t w.Blank c l e = rw (t, e) refl
  label_operand b i x t _ c l e = absurd (false_true l)

  reaches : {b : Bool} {q h i j : ℕ} {x : Expr} → IsExpr ts b q h x i j → (level : ℕ) → h ≤ suc d
      → q ≤ level → edge q ≤ binds ts b j → Reaches ts sub d b level i (part x q h j)
  unfolding p.operand_by p.named p.signed p.paren p.prefix p.tagged p.sizeof p.tagof p.call p.grow
      p.grow_by p.postfix p.index p.character p.binary p.chain p.choice p.assign
  reaches {b = b} (number c) level low up on = starting b level _ _ (omega arith) (rw c refl)
  reaches {b = b} (text c) level low up on = starting b level _ _ (omega arith) (rw c refl)
  reaches {b = b} {i = i} (name c) level low up on =
      starting b level _ _ (omega arith) (rw (c, no_tag ts b i on, calls_not ts b (suc i) on) refl)
  reaches {b = b} {i = i} (paren {j = j} c s l c2) level low up on =
      let e = binds_at ts true j _ c2 in
      starting b level _ _ (omega arith)
      (rw (
        c,
        complete.all 15 s (omega arith) l (omega arith),
        true_sees ts _ j c2,
        le-leb _ _ (low_in _ low),
      ) refl)
  reaches {b = b} {i = i} (call {j = j} c k a c2) level low up on =
      starting b level _ _ (omega arith)
      (rw (
        c,
        no_tag_word ts b i _ (calls_word ts (suc i) k) refl,
        k,
        args_complete ts sub d complete a (omega arith),
        true_sees ts _ j c2,
        le-leb _ _ (low_in _ low),
      ) refl)
  reaches {b = b} {i = i} (prefix {c = k} c t s l) level low up on =
      starting b level _ _ (omega arith)
      (rw (c, t, complete.all 2 s (omega arith) l (omega arith), le-leb _ _ (low_in _ low))
      refl)
  reaches {b = b} {i = i} (tagged t s l) level low up on =
      starting b level _ _ (omega arith)
      (label_operand b i _ t _ refl (tag_label ts i (and_second b _ t))
      (rw (complete.all 2 s (omega arith) l (omega arith), le-leb _ _ (low_in _ low)) refl))
  reaches {b = b} {i = i} (sizeof {j = j} c s) level low up on =
      starting b level _ _ (omega arith)
      (rw (c, sizeof_no_paren s, sizeof_of_complete s (no_bracket ts b j on)) refl)
  reaches {b = b} {i = i} (sizeof_in {j = j} c c2 s c3) level low up on =
      starting b level _ _ (omega arith)
      (rw (
        c,
        true_sees ts _ (suc i) c2,
        sizeof_of_complete s (sees_other ts _ j _ c3 refl),
        true_sees ts _ j c3,
      ) refl)
  reaches {b = b} {i = i} (tagof c s) level low up on =
      starting b level _ _ (omega arith) (rw (c, tagof_no_paren s, tagof_on s (omega arith)) refl)
  reaches {b = b} {i = i} (tagof_in {j = j} c c2 s c3) level low up on =
      starting b level _ _ (omega arith)
      (rw (c, true_sees ts _ (suc i) c2, tagof_before _ s c3 refl, true_sees ts _ j c3) refl)
  reaches {b = b} (postfix {s = q} {m = m} {c = k} s l c j f) level low up on =
      let e = binds_joint ts b m k _ c j in
      let g = edge_postfix q l in
      let t : level_of b (is_first ts m) joint.Step ≡ 1 = ap (λ x. level_of b x joint.Step) f in
      grown b level _ _ _ (reaches s level (omega arith) (omega arith) (omega arith)) (omega arith)
      (rw (c, j, le-leb _ _ l, le-leb _ _ (low_in _ low)) refl) (omega arith) (omega arith)
  reaches {b = b} (index {s = q} {m = m} {j = j} s l c f y l2 c2) level low up on =
      let e = binds_at ts b m _ c in let g = edge_postfix q l in
      let t : level_of b (is_first ts m) joint.Bracket ≡ 1 =
      ap (λ x. level_of b x joint.Bracket) f in
      let e2 = binds_at ts true j _ c2 in
      grown b level _ _ _ (reaches s level (omega arith) (omega arith) (omega arith)) (omega arith)
      (rw (
        c,
        f,
        le-leb _ _ l,
        complete.all 15 y (omega arith) l2 (omega arith),
        true_sees ts _ j c2,
        le-leb _ _ (low_in _ low),
      ) refl) (omega arith) (omega arith)
  reaches {b = b} (character {s = q} {m = m} {j = j} s l c f y l2 c2) level low up on =
      let e = binds_at ts b m _ c in let g = edge_postfix q l in
      let t : level_of b (is_first ts m) joint.Brace ≡ 1 = ap (λ x. level_of b x joint.Brace) f in
      let e2 = binds_at ts true j _ c2 in
      grown b level _ _ _ (reaches s level (omega arith) (omega arith) (omega arith)) (omega arith)
      (rw (
        c,
        le-leb _ _ l,
        complete.all 15 y (omega arith) l2 (omega arith),
        true_sees ts _ j c2,
        le-leb _ _ (low_in _ low),
      ) refl) (omega arith) (omega arith)
  reaches {b = b} (binary {s = q} {m = m} {p = r} {c = k} s l c j y l2) level low up on =
      let e = binds_joint ts b m k _ c j in
      let o = left_level k r j in let least = o.least in let g = edge_left q r o l in
      grown b level _ _ _ (reaches s level (omega arith) (omega arith) (omega arith)) (omega arith)
      (rw (
        c,
        j,
        le-leb _ _ l,
        complete.all (r - 1) y (omega arith) (omega arith)
            (left_on r _ o on),
        le-leb _ _ (low_in _ low),
      ) refl) (omega arith) (omega arith)
  reaches {b = b} (choice {s = q} {m = m} {n = n} s l c y l2 c2 z l3) level low up on =
      let e = binds_at ts b m _ c in let e2 = binds_at ts false n _ c2 in
      let g = edge_over q 12 l in
      grown b level _ _ _ (reaches s level (omega arith) (omega arith) (omega arith)) (omega arith)
      (rw (
        c,
        le-leb _ _ l,
        complete.all 13 y (omega arith) l2 (omega arith),
        true_sees ts _ n c2,
        complete.all 13 z (omega arith) l3 (omega arith),
        le-leb _ _ (low_in _ low),
      ) refl)
      (omega arith) (omega arith)
  reaches {b = b} (assign {s = q} {m = m} {c = k} s l c j y l2) level low up on =
      let e = binds_joint ts b m k _ c j in let g = edge_postfix q l in
      grown b level _ _ _ (reaches s level (omega arith) (omega arith) (omega arith)) (omega arith)
      (rw (
        c,
        j,
        le-leb _ _ l,
        complete.all 14 y (omega arith) l2 (omega arith),
        le-leb _ _ (low_in _ low),
      ) refl) (omega arith) (omega arith)
  reaches {b = b} (chain {s = q} {m = m} {h2 = h2} {l = k} s l f ls) level low up on =
      let g = edge_over q 8 l in let a = link_is f in
      let e = binds_joint ts b m _ _ a.is a.joint_is in
      let many = to_links ls in let few = many_count (link_advances ts b) many in
      grown b level _ _ _ (reaches s level (omega arith) (omega arith) (omega arith)) (omega arith)
      (rw (
        a.is,
        a.joint_is,
        le-leb _ _ l,
        link_complete ts sub d complete f (omega arith),
        many_complete (links_complete ts sub d complete b) many (omega arith) (suc (length ts))
            (omega arith) (k ∷ []) h2,
        le-leb _ _ (low_in _ low),
      ) refl) (omega arith) (omega arith)

  finish : (b : Bool) (level i : ℕ) (x : Parsed) (fuel : ℕ) → suc d < fuel + x.height
      → p.whole ts sub d b level i ≡ p.climb ts sub d b level i fuel x → x.height ≤ suc d
      → level < binds ts b x.stop
      → p.whole ts sub d b level i ≡ Some x
  unfolding p.climb
  finish b level i x zero enough same low ends = absurd (omega arith)
  finish b level i x (suc n) enough same low ends = same ∙ rw (lt-ltb _ _ ends) refl

  whole_complete : {b : Bool} {q h i k : ℕ} {x : Expr} → (level : ℕ) → IsExpr ts b q h x i k
      → h ≤ suc d → q ≤ level → level < binds ts b k
      → p.whole ts sub d b level i ≡ Some (part x q h k)
  whole_complete {b = b} {q = q} level s low up on =
      let f = edge_next q in let r = reaches s level low up (omega arith) in
      finish b level _ _ r.fuel r.enough r.same low on

pub expr_complete : (ts : List Token) (n : ℕ) → ExprComplete ts (p.expr ts n) n
unfolding p.expr
expr_complete ts zero = record { all = λ level s low up on. absurd (none_low s low) }
expr_complete ts (suc d) =
    record {
      all = λ level s low up on. whole_complete ts (p.expr ts d) d
          (expr_complete ts d) level s low up on;
    }
