-- Each tree that spells a source is what the parser gives.
use Rattle.std.proofs.Common.{◌≡◌, ℕ, zero, suc, ◌+◌, ◌≤◌, ◌<◌, Bool, true, false, ◌||◌}
use Rattle.std.proofs.Common.{if◌then◌else◌, List, length, Option, Some, refl, sym, ◌∙◌, ap, arith}
use Rattle.std.proofs.lemmas.Bool.{le-leb}
use Rattle.pawn_token.specs.declared.sign.Sign.{Sign}
use Rattle.pawn_token.specs.declared.sign.Sign.TheVariants as sign
use Rattle.pawn_token.specs.declared.key.Key.{Key}
use Rattle.pawn_token.specs.declared.key.Key.TheVariants as key
use Rattle.pawn_lex.specs.declared.token.Token.{Token}
use Rattle.pawn_tree.specs.declared.name.Name.{Name}
use Rattle.pawn_tree.specs.declared.name.StateName.{StateName}
use Rattle.pawn_tree.specs.declared.variable.Storage.{Storage}
use Rattle.pawn_tree.specs.declared.declaration.HeadName.{HeadName}
use Rattle.pawn_tree.specs.Expressions.{Expr}
use Rattle.pawn_tree.specs.Variables.{Variables}
use Rattle.pawn_tree.specs.Declarations.{Item, Param, Head, Decl, Tree}
use Rattle.pawn_tree.specs.Declarations as decls
use Rattle.tree_rules.specs.declared.modifiers.Modifiers.{Modifiers}
use Rattle.tree_rules.specs.declared.word.Word.{Word}
use Rattle.tree_rules.specs.declared.word.Word.TheVariants as w
use Rattle.tree_rules.specs.Tokens.{word, at, sees, sees_key, is_key, is_name, is_label, is_tag}
use Rattle.tree_rules.specs.Tokens.{behind_tag, behind_key, behind_sign}
use Rattle.tree_rules.specs.Lists.{Part, UpTo, none_up_to, some_up_to, Led, left_out, led}
use Rattle.tree_rules.specs.Expressions.{Whole}
use Rattle.tree_rules.specs.Variables.{file_storage, AreVariables}
use Rattle.tree_rules.specs.Statements.{IsStateName}
use Rattle.tree_rules.specs.Declarations.{IsItem, item_of, IsEnum, enum_of, IsLabel, label_of}
use Rattle.tree_rules.specs.Declarations.{AreTags, no_tags, one_tag, tag_set, IsParam}
use Rattle.tree_rules.specs.Declarations.{plain_param, rest_param, IsHeadName, name_of}
use Rattle.tree_rules.specs.Declarations.{operator_of, IsHead, head_of, begins_head, IsClassifier}
use Rattle.tree_rules.specs.Declarations.{no_classifier, classifier, AreModifiers, no_modifier}
use Rattle.tree_rules.specs.Declarations.{static_word, stock_word, public_word, IsDecl}
use Rattle.tree_rules.specs.Declarations.{variables_decl, constant_decl, enum_decl, native_decl}
use Rattle.tree_rules.specs.Declarations.{forward_decl, function_decl, behind_name}
use Rattle.tree_rules.specs.Declarations.{behind_reference, is_function, is_modifier, none_yet}
use Rattle.tree_rules.specs.Spells.{Spells}
use Rattle.tree_rules.specs.Readers.{got}
use Rattle.tree_rules.specs.ReadExpressions.{expr}
use Rattle.tree_rules.specs.ReadVariables.{expression}
use Rattle.tree_rules.specs.ReadStatements.{state_name}
use Rattle.tree_rules.specs.ReadDeclarations.{Words}
use Rattle.tree_rules.specs.ReadDeclarations as p
use Rattle.tree_rules.proofs.Steps.{none_some, some_inj, false_true}
use Rattle.tree_rules.proofs.Base.{is_real, inside, true_sees, sees_other, true_sees_key}
use Rattle.tree_rules.proofs.Base.{sees_key_true, sees_other_key, there, ending_on, tag_label}
use Rattle.tree_rules.proofs.Base.{is_equal}
use Rattle.tree_rules.proofs.ListLaws.{IsComplete, Advances, all_complete, several_complete}
use Rattle.tree_rules.proofs.ListLaws.{several_steps, behind_complete, behind_advances}
use Rattle.tree_rules.proofs.ListLaws.{many_count, led_complete, up_to_complete}
use Rattle.tree_rules.proofs.Moves.{by_contra, whole_steps}
use Rattle.tree_rules.proofs.Complete.{expr_complete}
use Rattle.tree_rules.proofs.CompleteVariables.{expression_complete, dims_complete, dims_on}
use Rattle.tree_rules.proofs.CompleteVariables.{constant_complete, variables_complete}
use Rattle.tree_rules.proofs.CompleteVariables.{variables_moves, constant_moves, behind_tag_on}
use Rattle.tree_rules.proofs.CompleteVariables.{behind_key_on}
use Rattle.tree_rules.proofs.CompleteStatements.{state_name_all, state_name_steps}
use Rattle.tree_rules.proofs.CompleteStatements.{statement_complete, stmt_moves}

-- ---- heads

label_all : {ts : List Token} {h i j : ℕ} {x : Name} → IsLabel ts h x i j
    → p.label ts i ≡ Some (got x h j)
unfolding p.label
label_all (label_of c) = rw c refl

label_complete : (ts : List Token) (n : ℕ) → IsComplete (IsLabel ts) n (p.label ts)
label_complete ts n = record { all = λ x l. label_all x }

label_real : (v : Word) → is_label v ≡ true → is_real v ≡ true
label_real w.Absent e = absurd (false_true e)
label_real _ e = refl

label_steps : {ts : List Token} {h i j : ℕ} {x : Name} → IsLabel ts h x i j
    → (i < j) × (i < length ts)
label_steps {ts = ts} {i = i} (label_of c) = (omega arith, inside ts i (label_real _ c))

label_advances : (ts : List Token) → Advances ts (IsLabel ts)
label_advances ts = record { steps = λ x. label_steps x }

brace_no_tag : (ts : List Token) (i : ℕ) → word ts i ≡ w.Sign sign.OpenBrace → is_tag ts i ≡ false
brace_no_tag ts i c = by_contra _ (λ t. false_true (sym (ap is_label c) ∙ tag_label ts i t))

tags_all : {ts : List Token} {i j : ℕ} {xs : List Name} → AreTags ts xs i j
    → p.tags ts i ≡ Some (got xs 0 j)
unfolding p.tags p.labels
tags_all (no_tags f g) = rw (f, g) refl
tags_all (one_tag t) = rw t refl
tags_all {ts = ts} {i = i} (tag_set {h = h} {j = j} c l c2 c3) =
    rw (
      brace_no_tag ts i c,
      true_sees ts _ i c,
      (several_complete ts {n = h} (label_complete ts h) (behind_complete (label_complete ts h))
          (behind_advances (label_advances ts))).all l (omega arith),
      true_sees ts _ j c2,
      true_sees ts _ (suc j) c3,
    ) refl

tags_move : {ts : List Token} {i j : ℕ} {xs : List Name} → AreTags ts xs i j → i ≤ j
tags_move (no_tags f g) = omega arith
tags_move (one_tag t) = omega arith
tags_move {ts = ts} (tag_set c l c2 c3) =
    let s = several_steps (label_advances ts) (behind_advances (label_advances ts)) l in
    let m = s.0 in omega arith

named_head_all : {ts : List Token} {i j : ℕ} {x : HeadName} → IsHeadName ts x i j
    → p.named_head ts i ≡ Some (got x 0 j)
unfolding p.named_head
named_head_all {ts = ts} {i = i} (name_of c) =
    rw (sees_other_key ts key.Operator i _ c refl, c) refl
named_head_all {ts = ts} {i = i} (operator_of c c2) = rw (true_sees_key ts _ i c, c2) refl

named_head_moves : {ts : List Token} {i j : ℕ} {x : HeadName} → IsHeadName ts x i j → i < j
named_head_moves (name_of c) = omega arith
named_head_moves (operator_of c c2) = omega arith

named_head_inside : {ts : List Token} {i j : ℕ} {x : HeadName} → IsHeadName ts x i j → i < length ts
named_head_inside {ts = ts} {i = i} (name_of c) = there ts i _ c refl
named_head_inside {ts = ts} {i = i} (operator_of c c2) = there ts i _ c refl

state_names_complete : (ts : List Token) (n : ℕ) → IsComplete (IsStateName ts) n (state_name ts)
state_names_complete ts n = record { all = λ x l. state_name_all x }

state_name_advances : (ts : List Token) → Advances ts (IsStateName ts)
state_name_advances ts = record { steps = λ x. state_name_steps x }

up_to_stop : {A : Type 0} {ts : List Token} {c : Sign} {part : Part A} {h i j : ℕ} {xs : List A}
    → UpTo ts c part h xs i j → word ts j ≡ w.Sign c
up_to_stop (none_up_to e) = e
up_to_stop (some_up_to f p e) = e

up_to_moves : {A : Type 0} {ts : List Token} {c : Sign} {part : Part A} {h i j : ℕ} {xs : List A}
    → Advances ts part → UpTo ts c part h xs i j → i ≤ j
up_to_moves a (none_up_to e) = omega arith
up_to_moves a (some_up_to f m e) =
    let s = several_steps a (behind_advances a) m in let l = s.0 in omega arith

classifier_all : {ts : List Token} {i j : ℕ} {x : Option (List StateName)} → IsClassifier ts x i j
    → p.classifier ts i ≡ Some (got x 0 j)
unfolding p.classifier p.state_names
classifier_all (no_classifier f) = rw f refl
classifier_all {ts = ts} {i = i} (classifier {h = h} c m) =
    rw (
      true_sees ts _ i c,
      (up_to_complete ts sign.Greater {n = h} (state_names_complete ts h)
          (state_name_advances ts)).all m (omega arith),
    ) refl

classifier_moves : {ts : List Token} {i j : ℕ} {x : Option (List StateName)}
    → IsClassifier ts x i j → i ≤ j
classifier_moves (no_classifier f) = omega arith
classifier_moves {ts = ts} (classifier c m) =
    let l = up_to_moves (state_name_advances ts) m in omega arith

-- ---- the words before a function

not_modifier : (ts : List Token) (k : Key) (i : ℕ) → is_modifier (word ts i) ≡ false
    → is_modifier (w.Key k) ≡ true → sees_key ts k i ≡ false
not_modifier ts k i f t =
    by_contra _ (λ e. false_true (sym f ∙ ap is_modifier (sees_key_true ts k i e) ∙ t))

abbrev unset : Bool → ℕ
unset b = if b then 0 else 1

abbrev free : Modifiers → ℕ
free m = unset m.is_static + (unset m.is_stock + unset m.is_public)

modifiers_all : {ts : List Token} {m all : Modifiers} {i j : ℕ} → AreModifiers ts m all i j
    → (n : ℕ) → free m < n → p.modifiers ts n m i ≡ Some (record { all = all; stop = j })
unfolding p.modifiers
modifiers_all m zero few = absurd (omega arith)
modifiers_all {ts = ts} {i = i} (no_modifier f) (suc n) few =
    rw (
      not_modifier ts key.Static i f refl,
      not_modifier ts key.Stock i f refl,
      not_modifier ts key.Public i f refl,
    ) refl
modifiers_all {ts = ts} {i = i} (static_word c f m) (suc n) few = let u = ap unset f in
    rw (true_sees_key ts _ i c, f) (modifiers_all m n (omega arith))
modifiers_all {ts = ts} {i = i} (stock_word c f m) (suc n) few = let u = ap unset f in
    rw (sees_other_key ts key.Static i _ c refl, true_sees_key ts _ i c, f)
    (modifiers_all m n (omega arith))
modifiers_all {ts = ts} {i = i} (public_word c f m) (suc n) few = let u = ap unset f in
    rw (
      sees_other_key ts key.Static i _ c refl,
      sees_other_key ts key.Stock i _ c refl,
      true_sees_key ts _ i c,
      f,
    ) (modifiers_all m n (omega arith))

modifiers_move : {ts : List Token} {m all : Modifiers} {i j : ℕ} → AreModifiers ts m all i j → i ≤ j
modifiers_move (no_modifier f) = omega arith
modifiers_move (static_word c f m) = let l = modifiers_move m in omega arith
modifiers_move (stock_word c f m) = let l = modifiers_move m in omega arith
modifiers_move (public_word c f m) = let l = modifiers_move m in omega arith

begins_name : {ts : List Token} {i j : ℕ} {x : HeadName} → IsHeadName ts x i j
    → word ts j ≡ w.Sign sign.OpenParenthesis → begins_head ts i ≡ true
begins_name {ts = ts} {i = i} (name_of c) c2 =
    rw (sees_other_key ts key.Operator i _ c refl, c, true_sees ts _ (suc i) c2) refl
begins_name {ts = ts} {i = i} (operator_of c c2) c3 = rw (true_sees_key ts _ i c) refl

head_begins : {ts : List Token} {native : Bool} {h i j : ℕ} {x : Head} → IsHead ts native h x i j
    → begins_head ts (behind_tag ts i) ≡ true
head_begins (head_of n c ps) = begins_name n c

or_second : (a b : Bool) → b ≡ true → (a || b) ≡ true
or_second true b e = refl
or_second false b e = e

or_first : (a b : Bool) → a ≡ true → (a || b) ≡ true
or_first true b e = refl
or_first false b e = absurd (false_true e)

function_at : {ts : List Token} {m all : Modifiers} {native : Bool} {h i j k : ℕ} {x : Head}
    → AreModifiers ts m all i j → IsHead ts native h x j k → is_function ts i ≡ true
unfolding is_function
function_at (no_modifier f) h = or_second _ _ (head_begins h)
function_at (static_word c f m) h = or_first _ _ (ap is_modifier c)
function_at (stock_word c f m) h = or_first _ _ (ap is_modifier c)
function_at (public_word c f m) h = or_first _ _ (ap is_modifier c)

-- what a head begins with
abbrev heads : Word → Bool
heads v = is_label v || is_key key.Operator v

head_word_by : (ts : List Token) (i : ℕ) (b : Bool) {j : ℕ} {x : HeadName} → is_tag ts i ≡ b
    → IsHeadName ts x (if b then suc (suc i) else i) j → heads (word ts i) ≡ true
head_word_by ts i true t n = or_first _ _ (tag_label ts i t)
head_word_by ts i false t (name_of c) = ap heads c
head_word_by ts i false t (operator_of c c2) = ap heads c

head_word : {ts : List Token} {native : Bool} {h i j : ℕ} {x : Head} → IsHead ts native h x i j
    → heads (word ts i) ≡ true
unfolding behind_tag
head_word {ts = ts} {i = i} (head_of n c ps) = head_word_by ts i (is_tag ts i) refl n

head_inside : {ts : List Token} {native : Bool} {h i j : ℕ} {x : Head} → IsHead ts native h x i j
    → i < length ts
head_inside {ts = ts} {i = i} (head_of n c ps) =
    let o = behind_tag_on ts i in let l = named_head_inside n in omega arith

low_in : {d : ℕ} (h : ℕ) → suc h ≤ suc d → h ≤ d
low_in h low = omega arith

module _ (ts : List Token) (d : ℕ) where
  behind_sign_on : (c : Sign) (i : ℕ) → i ≤ behind_sign ts c i
  unfolding behind_sign
  behind_sign_on c i = sign_on (sees ts c i) i
    where
      sign_on : (b : Bool) (i : ℕ) → i ≤ (if b then suc i else i)
      sign_on true i = omega arith
      sign_on false i = omega arith

  behind_name_on : (i : ℕ) → i ≤ behind_name ts i
  unfolding behind_name
  behind_name_on i = name_on (is_name (word ts i)) i
    where
      name_on : (b : Bool) (i : ℕ) → i ≤ (if b then suc i else i)
      name_on true i = omega arith
      name_on false i = omega arith

  value_all : IsComplete (Whole ts true 13) d (expression ts (expr ts d) true 13)
  value_all = expression_complete ts (expr ts d) d (expr_complete ts d) true 13

  led_on : {h i j : ℕ} {x : Option Expr} → Led ts sign.Assign (Whole ts true 13) h x i j → i ≤ j
  led_on (left_out f) = omega arith
  led_on (led c x) = let s = whole_steps x in let l = s.0 in omega arith

  item_all : {h i j : ℕ} {x : Item} → IsItem ts h x i j → h ≤ d → p.item ts d i ≡ Some (got x h j)
  unfolding p.item
  item_all (item_of c x) l = rw (c, (led_complete ts sign.Assign value_all).all x l) refl

  item_complete : IsComplete (IsItem ts) d (p.item ts d)
  item_complete = record { all = λ x l. item_all x l }

  item_steps : {h i j : ℕ} {x : Item} → IsItem ts h x i j → (i < j) × (i < length ts)
  item_steps {i = i} (item_of c x) = let o = led_on x in (omega arith, there ts i _ c refl)

  item_advances : Advances ts (IsItem ts)
  item_advances = record { steps = λ x. item_steps x }

  enum_all : {h i k : ℕ} {name : Option Name} {xs : List Item} → IsEnum ts h name xs (suc i) k
      → h ≤ d → p.enumeration ts d i ≡ Some (got (decls.Enum (at ts i) name xs) (suc h) k)
  unfolding p.enumeration p.items
  enum_all (enum_of c m c2) l =
      rw (
        true_sees ts _ _ c,
        (several_complete ts item_complete (behind_complete item_complete)
            (behind_advances item_advances)).all m l,
        true_sees ts _ _ c2,
        le-leb _ _ l,
      ) refl

  enum_moves : {h i k : ℕ} {name : Option Name} {xs : List Item} → IsEnum ts h name xs i k → i ≤ k
  enum_moves {i = i} (enum_of {k = k} c m c2) =
      let a = behind_name_on i in
      let s = several_steps item_advances (behind_advances item_advances) m in let l = s.0 in
      let b = behind_sign_on sign.Comma k in
      let e = behind_sign_on sign.Semicolon (suc (behind_sign ts sign.Comma k)) in omega arith

  param_all : {native : Bool} {h i j : ℕ} {x : Param} → IsParam ts native h x i j → h ≤ d
      → p.param ts d native i ≡ Some (got x h j)
  unfolding p.param p.plain
  param_all {i = i} (plain_param {j = j} t c ds v) l =
      rw (
        tags_all t,
        sees_other ts sign.Ellipsis j _ c refl,
        c,
        (dims_complete ts (expr ts d) d (expr_complete ts d)).all ds (omega arith),
        (led_complete ts sign.Assign value_all).all v (omega arith),
      ) refl
  param_all {i = i} (rest_param {j = j} same t c c2) l =
      rw (same, tags_all t, true_sees ts _ j c, is_equal i i refl, true_sees ts _ (suc j) c2) refl

  param_complete : (native : Bool) → IsComplete (IsParam ts native) d (p.param ts d native)
  param_complete native = record { all = λ x l. param_all x l }

  reference_on : (i : ℕ) → i ≤ behind_reference ts i
  unfolding behind_reference
  reference_on i =
      let a = behind_key_on ts key.Const i in
      let b = behind_sign_on sign.Ampersand (behind_key ts key.Const i) in omega arith

  param_steps : {native : Bool} {h i j : ℕ} {x : Param} → IsParam ts native h x i j
      → (i < j) × (i < length ts)
  param_steps {i = i} (plain_param {j = j} t c ds v) =
      let a = reference_on i in let b = tags_move t in
      let o = dims_on ds in let o2 = led_on v in
      let l = there ts j _ c refl in (omega arith, omega arith)
  param_steps {i = i} (rest_param {j = j} same t c c2) =
      let b = tags_move t in let l = there ts j _ c refl in (omega arith, omega arith)

  param_advances : (native : Bool) → Advances ts (IsParam ts native)
  param_advances native = record { steps = λ x. param_steps x }

  head_all : {native : Bool} {h i j : ℕ} {x : Head} → IsHead ts native h x i j → h ≤ d
      → p.head ts d native i ≡ Some (got x h j)
  unfolding p.head p.params
  head_all {native = native} (head_of {j = j} n c ps) l =
      rw (
        named_head_all n,
        true_sees ts _ j c,
        (up_to_complete ts sign.CloseParenthesis (param_complete native)
            (param_advances native)).all ps l,
      ) refl

  head_moves : {native : Bool} {h i j : ℕ} {x : Head} → IsHead ts native h x i j → i < j
  head_moves {native = native} {i = i} (head_of n c ps) =
      let o = behind_tag_on ts i in let a = named_head_moves n in
      let b = up_to_moves (param_advances native) ps in omega arith

  decl_other : (i : ℕ) (v : Word) → heads v ≡ true → p.decl_by ts d i v ≡ p.function ts d i
  unfolding p.decl_by
  decl_other i w.Name e = refl
  decl_other i w.Blank e = refl
  decl_other i (w.Key key.Operator) e = refl
  decl_other i _ e = absurd (false_true e)

  by_function : {all : Modifiers} {h i j k : ℕ} {x : Head} → AreModifiers ts none_yet all i j
      → IsHead ts false h x j k → p.decl_by ts d i (word ts i) ≡ p.function ts d i
  unfolding p.decl_by
  by_function {i = i} (no_modifier f) h = decl_other i _ (head_word h)
  by_function (static_word c f m) h = rw (c, function_at m h) refl
  by_function (stock_word c f m) h = rw (c, function_at m h) refl
  by_function (public_word c f m) h = rw c refl

  declared_all : (k : Key) (st : Storage) (i : ℕ) {h j : ℕ} {x : Variables}
      → file_storage k ≡ Some st → is_function ts (suc i) ≡ false
      → AreVariables ts st h x (suc i) j → h ≤ d
      → p.decl_by ts d i (w.Key k) ≡ Some (got (decls.Variables (at ts i) x) (suc h) j)
  unfolding p.decl_by p.declared
  declared_all key.New st i s f v l =
      rw (some_inj _ _ s, f, (variables_complete ts d st).all v l, le-leb _ _ l) refl
  declared_all key.Static st i s f v l =
      rw (some_inj _ _ s, f, (variables_complete ts d st).all v l, le-leb _ _ l) refl
  declared_all key.Stock st i s f v l =
      rw (some_inj _ _ s, f, (variables_complete ts d st).all v l, le-leb _ _ l) refl
  declared_all _ st i s f v l = absurd (none_some s)

  decl_all : {h i j : ℕ} {x : Decl} → IsDecl ts h x i j → h ≤ suc d
      → p.decl ts d i ≡ Some (got x h j)
  unfolding p.decl p.decl_by p.constant_decl p.native_decl p.forward_decl p.function p.function_rest
  decl_all {i = i} (variables_decl {c = k} {st = st} c s f v) l =
      ap (p.decl_by ts d i) c ∙ declared_all k st i s f v (low_in _ l)
  decl_all (constant_decl c x) l =
      rw (
        c,
        (constant_complete ts (expr ts d) d (expr_complete ts d)).all x (low_in _ l),
        le-leb _ _ (low_in _ l),
      ) refl
  decl_all {i = i} (enum_decl c x) l = ap (p.decl_by ts d i) c ∙ enum_all x (low_in _ l)
  decl_all (native_decl c x e) l = rw (c, head_all x (low_in _ l), e, le-leb _ _ (low_in _ l)) refl
  decl_all (forward_decl c x e) l = rw (c, head_all x (low_in _ l), e, le-leb _ _ (low_in _ l)) refl
  decl_all {i = i} (function_decl m x c s) l =
      by_function m x ∙ rw (
        modifiers_all m 4 (omega arith),
        head_all x (omega arith),
        classifier_all c,
        (statement_complete ts d).all s (omega arith),
        le-leb _ _ (low_in _ l),
      )
      refl

  decl_moves : {h i j : ℕ} {x : Decl} → IsDecl ts h x i j → (i < j) × (i < length ts)
  decl_moves {i = i} (variables_decl c s f v) =
      let m = variables_moves v in (omega arith, there ts i _ c refl)
  decl_moves {i = i} (constant_decl c x) =
      let m = constant_moves x in (omega arith, there ts i _ c refl)
  decl_moves {i = i} (enum_decl c x) = let m = enum_moves x in (omega arith, there ts i _ c refl)
  decl_moves {i = i} {j = k} (native_decl {j = j} c x e) =
      let m = head_moves x in let o = ending_on ts j k e in (omega arith, there ts i _ c refl)
  decl_moves {i = i} {j = k} (forward_decl {j = j} c x e) =
      let a = behind_key_on ts key.Public (suc i) in
      let m = head_moves x in let o = ending_on ts j k e in (omega arith, there ts i _ c refl)
  decl_moves {i = i} (function_decl m x c s) =
      let a = modifiers_move m in let b = head_moves x in
      let g = classifier_moves c in let e = stmt_moves s in
      let l = head_inside x in (omega arith, omega arith)

decl_complete : (ts : List Token) (d : ℕ) → IsComplete (IsDecl ts) (suc d) (p.decl ts d)
decl_complete ts d = record { all = λ x l. decl_all ts d x l }

decl_advances : (ts : List Token) → Advances ts (IsDecl ts)
decl_advances ts = record { steps = λ x. decl_moves ts 0 x }

pub unit_complete : (ts : List Token) (d : ℕ) (tree : Tree) (spells : Spells ts tree)
    → spells.height ≤ suc d → p.unit_to ts d ≡ Some (got tree spells.height (length ts))
unfolding p.unit_to
unit_complete ts d tree spells l =
    let few = many_count (decl_advances ts) spells.decls in
    all_complete (decl_complete ts d) spells.decls l (suc (length ts)) (omega arith)
