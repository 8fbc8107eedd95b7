-- What the parser gives for a source spells it.
use Rattle.std.proofs.Common.{◌≡◌, ℕ, zero, suc, ◌≤◌, Bool, true, false, ◌&&◌, List, length}
use Rattle.std.proofs.Common.{Option, Some, refl, sym, ◌∙◌, subst, arith, ⊎_elim}
use Rattle.pawn_token.specs.declared.sign.Sign.{Sign}
use Rattle.pawn_token.specs.declared.sign.Sign.TheVariants as sign
use Rattle.pawn_token.specs.declared.key.Key.{Key}
use Rattle.pawn_token.specs.declared.key.Key.TheVariants as key
use Rattle.pawn_lex.specs.declared.token.Token.{Token}
use Rattle.pawn_tree.specs.declared.name.Name.{Name}
use Rattle.pawn_tree.specs.declared.name.StateName.{StateName}
use Rattle.pawn_tree.specs.declared.variable.Storage.{Storage}
use Rattle.pawn_tree.specs.declared.variable.Storage.TheVariants as storage
use Rattle.pawn_tree.specs.declared.declaration.HeadName.{HeadName}
use Rattle.pawn_tree.specs.Declarations.{Item, Param, Head, Decl, Tree}
use Rattle.pawn_tree.specs.Declarations as decls
use Rattle.tree_rules.specs.declared.modifiers.Modifiers.{Modifiers}
use Rattle.tree_rules.specs.declared.word.Word.{Word}
use Rattle.tree_rules.specs.declared.word.Word.TheVariants as w
use Rattle.tree_rules.specs.Tokens.{word, at, sees, sees_key, is_tag}
use Rattle.tree_rules.specs.Lists.{Part, Many, no_more, one_more, UpTo, none_up_to, some_up_to}
use Rattle.tree_rules.specs.Expressions.{Whole}
use Rattle.tree_rules.specs.Variables.{file_storage}
use Rattle.tree_rules.specs.Declarations.{IsItem, further_item, IsEnum, IsLabel, AreTags, IsParam}
use Rattle.tree_rules.specs.Declarations.{IsHeadName, IsHead, IsClassifier, AreModifiers, IsDecl}
use Rattle.tree_rules.specs.Declarations.{behind_name, behind_reference, is_function, is_modifier}
use Rattle.tree_rules.specs.Declarations.{none_yet}
use Rattle.tree_rules.specs.Declarations as g
use Rattle.tree_rules.specs.Spells.{are_left}
use Rattle.tree_rules.specs.Readers.{Got, got}
use Rattle.tree_rules.specs.ReadExpressions.{expr}
use Rattle.tree_rules.specs.ReadVariables.{expression}
use Rattle.tree_rules.specs.ReadDeclarations.{Words}
use Rattle.tree_rules.specs.ReadDeclarations as p
use Rattle.tree_rules.proofs.Steps.{none_some, some_inj, false_true, bind_some, guard_some}
use Rattle.tree_rules.proofs.Steps.{if_cases, not_true, not_false}
use Rattle.tree_rules.proofs.Base.{sees_true, sees_key_true, true_sees_key, name_true, equal_is}
use Rattle.tree_rules.proofs.ListLaws.{IsPart, IsSound, anywhere, got_part, node_part, all_sound}
use Rattle.tree_rules.proofs.ListLaws.{several_sound, behind_sound, led_sound, up_to_sound}
use Rattle.tree_rules.proofs.Sound.{expr_sound}
use Rattle.tree_rules.proofs.SoundVariables.{expression_sound, dims_sound, constant_sound}
use Rattle.tree_rules.proofs.SoundVariables.{variables_sound}
use Rattle.tree_rules.proofs.SoundStatements.{state_name_sound, statement_sound}

and_true : (a c : Bool) → (a && c) ≡ true → (a ≡ true) × (c ≡ true)
and_true true c e = (refl, e)
and_true false c e = absurd (false_true e)

-- ---- heads

label_sound : (ts : List Token) (n : ℕ) → IsSound (IsLabel ts) n (p.label ts)
unfolding p.label
label_sound ts n =
    record {
      gives = λ i x e. let h = guard_some _ _ _ e in got_part (IsLabel ts) n i _ _ _ x h.1
          (g.label_of h.0) (omega arith);
    }

tags_sound : (ts : List Token) (i : ℕ) (x : Got (List Name)) → p.tags ts i ≡ Some x
    → AreTags ts x.tree i x.stop
unfolding p.tags p.labels
tags_sound ts i x e = ⊎_elim
    (λ t. subst (λ z. AreTags ts z.tree i z.stop) (some_inj _ _ t.1) (g.one_tag t.0))
    (λ f. ⊎_elim
    (λ t. let y = bind_some _ _ _ t.1 in let h = guard_some _ _ _ y.next in
    let h2 = guard_some _ _ _ h.1 in
    let r =
    (several_sound ts (label_sound ts 0) (behind_sound (label_sound ts 0))).gives _
    _ y.is in
    subst (λ z. AreTags ts z.tree i z.stop) (some_inj _ _ h2.1)
    (g.tag_set (sees_true ts _ i t.0) r.stands (sees_true ts _ _ h.0) (sees_true ts _ _ h2.0)))
    (λ o. subst (λ z. AreTags ts z.tree i z.stop) (some_inj _ _ o.1) (g.no_tags f.0 o.0))
    (if_cases (sees ts sign.OpenBrace i) _ _ x f.1))
    (if_cases (is_tag ts i) _ _ x e)

operator_sound : (ts : List Token) (i : ℕ) (x : Got HeadName) (v : Word)
    → word ts i ≡ w.Key key.Operator → word ts (suc i) ≡ v → p.operator_by ts i v ≡ Some x
    → IsHeadName ts x.tree i x.stop
operator_sound ts i x (w.Sign c) k l e =
    subst (λ z. IsHeadName ts z.tree i z.stop) (some_inj _ _ e) (g.operator_of k l)
operator_sound ts i x _ k l e = absurd (none_some e)

named_head_sound : (ts : List Token) (i : ℕ) (x : Got HeadName) → p.named_head ts i ≡ Some x
    → IsHeadName ts x.tree i x.stop
unfolding p.named_head
named_head_sound ts i x e = ⊎_elim
    (λ t. operator_sound ts i x _ (sees_key_true ts _ i t.0) refl t.1)
    (λ f. let h = guard_some _ _ _ f.1 in subst (λ z. IsHeadName ts z.tree i z.stop)
    (some_inj _ _ h.1) (g.name_of (name_true ts i h.0)))
    (if_cases (sees_key ts key.Operator i) _ _ x e)

up_to_stop : {A : Type 0} {ts : List Token} {c : Sign} {part : Part A} {h i j : ℕ} {xs : List A}
    → UpTo ts c part h xs i j → word ts j ≡ w.Sign c
up_to_stop (none_up_to e) = e
up_to_stop (some_up_to f p e) = e

classifier_sound : (ts : List Token) (i : ℕ) (x : Got (Option (List StateName)))
    → p.classifier ts i ≡ Some x → IsClassifier ts x.tree i x.stop
unfolding p.classifier p.state_names
classifier_sound ts i x e = ⊎_elim
    (λ t. let y = bind_some _ _ _ t.1 in
    let r = (up_to_sound ts sign.Greater (state_name_sound ts 0)).gives _ _ y.is in
    subst (λ z. IsClassifier ts z.tree i z.stop) (some_inj _ _ y.next)
    (g.classifier (sees_true ts _ i t.0) r.stands))
    (λ f. subst (λ z. IsClassifier ts z.tree i z.stop) (some_inj _ _ f.1) (g.no_classifier f.0))
    (if_cases (sees ts sign.Less i) _ _ x e)

no_words : (ts : List Token) (i : ℕ) (v : Word) → word ts i ≡ v → sees_key ts key.Static i ≡ false
    → sees_key ts key.Stock i ≡ false → sees_key ts key.Public i ≡ false → is_modifier v ≡ false
no_words ts i (w.Key key.Static) c a b d = absurd (false_true (sym a ∙ true_sees_key ts _ i c))
no_words ts i (w.Key key.Stock) c a b d = absurd (false_true (sym b ∙ true_sees_key ts _ i c))
no_words ts i (w.Key key.Public) c a b d = absurd (false_true (sym d ∙ true_sees_key ts _ i c))
no_words ts i _ c a b d = refl

modifiers_sound : (ts : List Token) (n : ℕ) (m : Modifiers) (i : ℕ) (x : Words)
    → p.modifiers ts n m i ≡ Some x → AreModifiers ts m x.all i x.stop
unfolding p.modifiers
modifiers_sound ts zero m i x e = absurd (none_some e)
modifiers_sound ts (suc n) m i x e = ⊎_elim
    (λ t. let h = guard_some _ _ _ t.1 in g.static_word (sees_key_true ts _ i t.0) (not_true _ h.0)
    (modifiers_sound ts n _ (suc i) x h.1))
    (λ f. ⊎_elim
    (λ t. let h = guard_some _ _ _ t.1 in g.stock_word (sees_key_true ts _ i t.0) (not_true _ h.0)
    (modifiers_sound ts n _ (suc i) x h.1))
    (λ f2. ⊎_elim
    (λ t. let h = guard_some _ _ _ t.1 in g.public_word (sees_key_true ts _ i t.0) (not_true _ h.0)
    (modifiers_sound ts n _ (suc i) x h.1))
    (λ f3. subst (λ z. AreModifiers ts m z.all i z.stop) (some_inj _ _ f3.1)
    (g.no_modifier (no_words ts i _ refl f.0 f2.0 f3.0)))
    (if_cases (sees_key ts key.Public i) _ _ x f2.1))
    (if_cases (sees_key ts key.Stock i) _ _ x f.1))
    (if_cases (sees_key ts key.Static i) _ _ x e)

module _ (ts : List Token) (d : ℕ) where
  value_sound : IsSound (Whole ts true 13) d (expression ts (expr ts d) true 13)
  value_sound =
      expression_sound ts (expr ts d) d (expr_sound ts d) true 13 (omega arith) (omega arith)

  item_sound : IsSound (IsItem ts) d (p.item ts d)
  unfolding p.item
  item_sound = record {
    gives = λ i x e.
        let h = guard_some _ _ _ e in let y = bind_some _ _ _ h.1 in
        let r = (led_sound ts sign.Assign value_sound).gives _ _ y.is in
        got_part (IsItem ts) d i _ _ _ x y.next (g.item_of (name_true ts i h.0) r.stands) r.low;
  }

  enum_sound : (i : ℕ) (x : Got Decl) → word ts i ≡ w.Key key.Enum → p.enumeration ts d i ≡ Some x
      → IsPart (IsDecl ts) (suc d) i x
  unfolding p.enumeration p.items
  enum_sound i x c e =
      let h = guard_some _ _ _ e in let y = bind_some _ _ _ h.1 in
      let h2 = guard_some _ _ _ y.next in
      let r = (several_sound ts item_sound (behind_sound item_sound)).gives _ _ y.is in
      node_part (IsDecl ts) d i _ _ _ x h2.1
      (g.enum_decl c (g.enum_of (sees_true ts _ _ h.0) r.stands (sees_true ts _ _ h2.0)))

  plain_sound : (native : Bool) (i : ℕ) (t : Got (List Name)) (x : Got Param)
      → AreTags ts t.tree (behind_reference ts i) t.stop → p.plain ts d i t ≡ Some x
      → IsPart (IsParam ts native) d i x
  unfolding p.plain
  plain_sound native i t x tags e =
      let h = guard_some _ _ _ e in let y = bind_some _ _ _ h.1 in let z = bind_some _ _ _ y.next in
      let r = (dims_sound ts (expr ts d) d (expr_sound ts d)).gives _ _ y.is in
      let r2 = (led_sound ts sign.Assign value_sound).gives _ _ z.is in
      let low = r.low in let low2 = r2.low in
      got_part (IsParam ts native) d i _ _ _ x z.next
      (g.plain_param tags (name_true ts _ h.0) r.stands r2.stands) (omega arith)

  rest_sound : (native : Bool) (i : ℕ) (t : Got (List Name)) (x : Got Param) → native ≡ true
      → behind_reference ts i ≡ i → AreTags ts t.tree (behind_reference ts i) t.stop
      → word ts t.stop ≡ w.Sign sign.Ellipsis → word ts (suc t.stop) ≡ w.Sign sign.CloseParenthesis
      → Some (got (decls.Rest (at ts t.stop) t.tree) 0 (suc t.stop)) ≡ Some x
      → IsPart (IsParam ts native) d i x
  rest_sound true i t x n same tags c c2 e =
      got_part (IsParam ts true) d i _ _ _ x e
      (g.rest_param same (subst (λ k. AreTags ts t.tree k t.stop) same tags) c c2) (omega arith)
  rest_sound false i t x n same tags c c2 e = absurd (false_true n)

  param_sound : (native : Bool) → IsSound (IsParam ts native) d (p.param ts d native)
  unfolding p.param
  param_sound native = record {
    gives = λ i x e.
        let t = bind_some _ _ _ e in let tags = tags_sound ts _ t.first t.is in ⊎_elim
        (λ r. let h = guard_some _ _ _ r.1 in let a = and_true _ _ h.0 in
        let h2 = guard_some _ _ _ h.1 in
        rest_sound native i t.first x a.0 (equal_is _ _ a.1) tags (sees_true ts _ _ r.0)
        (sees_true ts _ _ h2.0) h2.1)
        (λ f. plain_sound native i t.first x tags f.1)
        (if_cases (sees ts sign.Ellipsis t.first.stop) _ _ x t.next);
  }

  head_sound : (native : Bool) → IsSound (IsHead ts native) d (p.head ts d native)
  unfolding p.head p.params
  head_sound native = record {
    gives = λ i x e.
        let y = bind_some _ _ _ e in let h = guard_some _ _ _ y.next in
        let z = bind_some _ _ _ h.1 in
        let r = (up_to_sound ts sign.CloseParenthesis (param_sound native)).gives _ _ z.is in
        got_part (IsHead ts native) d i _ _ _ x z.next
        (g.head_of (named_head_sound ts _ y.first y.is) (sees_true ts _ _ h.0) r.stands) r.low;
  }

  native_sound : (i : ℕ) (x : Got Decl) → word ts i ≡ w.Key key.Native
      → p.native_decl ts d i ≡ Some x → IsPart (IsDecl ts) (suc d) i x
  unfolding p.native_decl
  native_sound i x c e =
      let y = bind_some _ _ _ e in let k = bind_some _ _ _ y.next in
      let r = (head_sound true).gives _ _ y.is in
      node_part (IsDecl ts) d i _ _ _ x k.next (g.native_decl c r.stands k.is)

  forward_sound : (i : ℕ) (x : Got Decl) → word ts i ≡ w.Key key.Forward
      → p.forward_decl ts d i ≡ Some x → IsPart (IsDecl ts) (suc d) i x
  unfolding p.forward_decl
  forward_sound i x c e =
      let y = bind_some _ _ _ e in let k = bind_some _ _ _ y.next in
      let r = (head_sound false).gives _ _ y.is in
      node_part (IsDecl ts) d i _ _ _ x k.next (g.forward_decl c r.stands k.is)

  function_rest_sound : (i j : ℕ) (all : Modifiers) (y : Got Head) (x : Got Decl)
      → AreModifiers ts none_yet all i j → IsPart (IsHead ts false) d j y
      → p.function_rest ts d i all y ≡ Some x
      → IsPart (IsDecl ts) (suc d) i x
  unfolding p.function_rest
  function_rest_sound i j all y x m r e =
      let c = bind_some _ _ _ e in let b = bind_some _ _ _ c.next in
      let r2 = ((statement_sound ts d).reads false).gives _ _ b.is in
      node_part (IsDecl ts) d i _ _ _ x b.next
      (g.function_decl m r.stands (classifier_sound ts _ c.first c.is) r2.stands)

  function_sound : IsSound (IsDecl ts) (suc d) (p.function ts d)
  unfolding p.function
  function_sound = record {
    gives = λ i x e.
        let m = bind_some _ _ _ e in let y = bind_some _ _ _ m.next in
        function_rest_sound i m.first.stop m.first.all y.first x
        (modifiers_sound ts _ _ i m.first m.is) ((head_sound false).gives _ _ y.is) y.next;
  }

  declared_sound : (st : Storage) (k : Key) (i : ℕ) (x : Got Decl) → word ts i ≡ w.Key k
      → file_storage k ≡ Some st → is_function ts (suc i) ≡ false → p.declared ts d st i ≡ Some x
      → IsPart (IsDecl ts) (suc d) i x
  unfolding p.declared
  declared_sound st k i x c s f e =
      let y = bind_some _ _ _ e in let r = (variables_sound ts d st).gives _ _ y.is in
      node_part (IsDecl ts) d i _ _ _ x y.next (g.variables_decl c s f r.stands)

  constant_decl_sound : (i : ℕ) (x : Got Decl) → word ts i ≡ w.Key key.Const
      → p.constant_decl ts d i ≡ Some x → IsPart (IsDecl ts) (suc d) i x
  unfolding p.constant_decl
  constant_decl_sound i x c e =
      let y = bind_some _ _ _ e in
      let r = (constant_sound ts (expr ts d) d (expr_sound ts d)).gives _ _ y.is in
      node_part (IsDecl ts) d i _ _ _ x y.next (g.constant_decl c r.stands)

  decl_by_sound : (i : ℕ) (x : Got Decl) (v : Word) → word ts i ≡ v → p.decl_by ts d i v ≡ Some x
      → IsPart (IsDecl ts) (suc d) i x
  unfolding p.decl_by
  decl_by_sound i x (w.Key key.New) c e =
      let h = guard_some _ _ _ e in
      declared_sound storage.New key.New i x c refl (not_true _ h.0) h.1
  decl_by_sound i x (w.Key key.Static) c e =
      ⊎_elim (λ t. function_sound.gives i x t.1)
      (λ f. declared_sound storage.Static key.Static i x c refl f.0 f.1) (if_cases _ _ _ x e)
  decl_by_sound i x (w.Key key.Stock) c e =
      ⊎_elim (λ t. function_sound.gives i x t.1)
      (λ f. declared_sound storage.Stock key.Stock i x c refl f.0 f.1) (if_cases _ _ _ x e)
  decl_by_sound i x (w.Key key.Const) c e = constant_decl_sound i x c e
  decl_by_sound i x (w.Key key.Enum) c e = enum_sound i x c e
  decl_by_sound i x (w.Key key.Native) c e = native_sound i x c e
  decl_by_sound i x (w.Key key.Forward) c e = forward_sound i x c e
  decl_by_sound i x _ c e = function_sound.gives i x e

  decl_sound : IsSound (IsDecl ts) (suc d) (p.decl ts d)
  unfolding p.decl
  decl_sound = record { gives = λ i x e. decl_by_sound i x _ refl e }

pub record IsUnit (ts : List Token) (y : Got Tree) : Type 0 where
  pub spells : Many (are_left ts) (IsDecl ts) y.height y.tree 0 (length ts)
  pub low : y.height ≤ 1024

unit_stop : {ts : List Token} {h i j : ℕ} {tree : Tree} → Many (are_left ts) (IsDecl ts) h tree i j
    → are_left ts j ≡ false
unit_stop (no_more f) = f
unit_stop (one_more t p m) = unit_stop m

pub unit_sound : (ts : List Token) (y : Got Tree) → p.unit ts ≡ Some y → IsUnit ts y
unfolding p.unit_to are_left
unit_sound ts y e =
    let r = all_sound (anywhere (decl_sound ts 1023)) _ 0 y e in
    let stop : y.stop ≡ length ts = equal_is _ _ (not_false _ (unit_stop r.stands)) in
    record {
      spells = subst (λ j. Many (are_left ts) (IsDecl ts) y.height y.tree 0 j) stop r.stands;
      low = r.low;
    }
