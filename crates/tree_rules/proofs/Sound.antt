-- What the parser gives is an expression of the grammar.
use Rattle.std.proofs.Common.{◌≡◌, ℕ, zero, suc, ◌≤◌, max, Bool, true, false, not, ◌&&◌}
use Rattle.std.proofs.Common.{if◌then◌else◌, List, [], ◌∷◌, ◌++◌, Some, refl, sym, ◌∙◌, ap, subst}
use Rattle.std.proofs.Common.{arith, append_assoc, ⊎_elim}
use Rattle.std.proofs.lemmas.Bool.{leb-true, ltb-true, ltb-false}
use Rattle.std.proofs.lemmas.List.{append-nil}
use denote.Enum.Bare.{same_true}
use Rattle.pawn_token.specs.declared.sign.Sign.{Sign}
use Rattle.pawn_token.specs.declared.sign.Sign.TheVariants as sign
use Rattle.pawn_token.specs.declared.key.Key.TheVariants as key
use Rattle.pawn_token.specs.contracts.sign.Sign as signs
use Rattle.pawn_lex.specs.declared.token.Token.{Token}
use Rattle.pawn_tree.specs.Expressions.{Arg, Link, links}
use Rattle.pawn_tree.specs.Expressions as node
use Rattle.tree_rules.specs.declared.word.Word.{Word}
use Rattle.tree_rules.specs.declared.word.Word.TheVariants as w
use Rattle.tree_rules.specs.declared.joint.Joint.{Joint}
use Rattle.tree_rules.specs.declared.joint.Joint.TheVariants as joint
use Rattle.tree_rules.specs.Tokens.{word, sees, at, is_first, is_blank_word, is_tag}
use Rattle.tree_rules.specs.Levels.{joint_of, level_of, is_prefix, joint_at, is_compare, binds}
use Rattle.tree_rules.specs.Levels.{calls, compares}
use Rattle.tree_rules.specs.Expressions.{IsLink, IsValue, IsNamed, AreArgs}
use Rattle.tree_rules.specs.Expressions as g
use Rattle.tree_rules.specs.Readers.{Got}
use Rattle.tree_rules.specs.ReadExpressions.{Parsed, Sub, operation}
use Rattle.tree_rules.specs.ReadExpressions as p
use Rattle.tree_rules.proofs.Steps.{none_some, some_inj, false_true, bind_some, guard_some}
use Rattle.tree_rules.proofs.Steps.{if_cases, not_true}
use Rattle.tree_rules.proofs.Base.{sees_true, binds_joint, name_true, left_level}
use Rattle.tree_rules.proofs.ListLaws.{IsPart, many_sound, Added, max_zero, max_assoc, part_at}
use Rattle.tree_rules.proofs.SoundParts.{IsRead, ExprSound, IsMade, made, leaf, sizeof_of_sound}
use Rattle.tree_rules.proofs.SoundParts.{and_true, tagof_of_sound, from_links, AddedArgs}
use Rattle.tree_rules.proofs.SoundParts.{compare_true, question_sign, bracket_sign, brace_sign}
use Rattle.tree_rules.proofs.SoundParts.{one_up, blank_by, level_some}

module _ (ts : List Token) (sub : Sub) (n : ℕ) (sound : ExprSound ts sub n) where
  pub value_sound : (i : ℕ) (x : Got Arg) → p.value_arg ts sub i ≡ Some x
      → IsPart (IsValue ts) n i x
  unfolding p.value_arg
  value_sound i x e = ⊎_elim
      (λ t. let a = and_true _ _ t.0 in
      subst (λ z. IsPart (IsValue ts) n i z) (some_inj _ _ t.1)
      (record { stands = g.default_arg (blank_by _ a.0) (not_true _ a.1); low = omega arith }))
      (λ f. let y = bind_some _ _ _ f.1 in
      let r = sound.read _ _ _ _ (omega arith) (omega arith) y.is in
      subst (λ z. IsPart (IsValue ts) n i z) (some_inj _ _ y.next)
      (record { stands = g.value_arg r.is_expr r.up_to r.ends; low = r.low }))
      (if_cases (is_blank_word (word ts i) && not (is_tag ts i)) _ _ x e)

  named_arg_sound : (i : ℕ) (x : Got Arg) → word ts i ≡ w.Sign sign.Dot
      → p.named_arg ts sub i ≡ Some x → IsPart (IsNamed ts) n i x
  unfolding p.named_arg
  named_arg_sound i x c e =
      let a = guard_some _ _ _ e in let f = guard_some _ _ _ a.1 in
      let y = bind_some _ _ _ f.1 in let r = sound.read _ _ _ _ (omega arith) (omega arith) y.is in
      subst (λ z. IsPart (IsNamed ts) n i z) (some_inj _ _ y.next)
      (record {
        stands = g.named_arg c (name_true ts _ a.0)
            (sees_true ts _ _ f.0) r.is_expr r.up_to r.ends;
        low = r.low;
      })

  -- an argument, and whether it is named
  data IsArg (named : Bool) (i : ℕ) (x : Got Arg) : Type 0 where
    is_named : sees ts sign.Dot i ≡ true → IsPart (IsNamed ts) n i x → IsArg named i x
    is_value : sees ts sign.Dot i ≡ false → named ≡ false → IsPart (IsValue ts) n i x
        → IsArg named i x

  arg_sound : (named : Bool) (i : ℕ) (x : Got Arg) → p.arg ts sub named i ≡ Some x → IsArg named i x
  unfolding p.arg
  arg_sound named i x e = ⊎_elim
      (λ t. is_named t.0 (named_arg_sound i x (sees_true ts _ i t.0) t.1))
      (λ f. let a = guard_some _ _ _ f.1 in is_value f.0 (not_true _ a.0) (value_sound i x a.1))
      (if_cases (sees ts sign.Dot i) _ _ x e)

  join : (named next : Bool) (done : List Arg) (h i : ℕ) (y : Got (List Arg))
      → word ts i ≡ w.Sign sign.Comma → (x : Got Arg) → IsArg named (suc i) x
      → sees ts sign.Dot (suc i) ≡ next
      → AddedArgs ts n next (done ++ x.tree ∷ []) (max h x.height) x.stop y
      → AddedArgs ts n named done h i y
  join named true done h i y c x (is_named t a) s rest = let low = a.low in let low2 = rest.low in
      record {
        added = x.tree ∷ rest.added;
        height = max x.height rest.height;
        stands = g.more_named c a.stands rest.stands;
        items = rest.items ∙ append_assoc done (x.tree ∷ []) rest.added;
        is_height = rest.is_height ∙ max_assoc h x.height rest.height;
        low = omega arith;
      }
  join named false done h i y c x (is_named t a) s rest = absurd (false_true (sym s ∙ t))
  join false false done h i y c x (is_value f k a) s rest =
      let low = a.low in let low2 = rest.low in
      record {
        added = x.tree ∷ rest.added;
        height = max x.height rest.height;
        stands = g.more_value c a.stands rest.stands;
        items = rest.items ∙ append_assoc done (x.tree ∷ []) rest.added;
        is_height = rest.is_height ∙ max_assoc h x.height rest.height;
        low = omega arith;
      }
  join named true done h i y c x (is_value f k a) s rest = absurd (false_true (sym f ∙ s))
  join true next done h i y c x (is_value f k a) s rest = absurd (false_true (sym k))

  pub more_args_sound : (fuel : ℕ) (named : Bool) (done : List Arg) (h i : ℕ) (y : Got (List Arg))
      → p.more_args ts sub fuel named done h i ≡ Some y → AddedArgs ts n named done h i y
  unfolding p.more_args
  more_args_sound zero named done h i y e = absurd (none_some e)
  more_args_sound (suc fuel) named done h i y e = ⊎_elim
      (λ t. let x = bind_some _ _ _ t.1 in
      join named _ done h i y (sees_true ts _ i t.0) x.first
      (arg_sound named (suc i) x.first x.is) refl (more_args_sound fuel _ _ _ _ y x.next))
      (λ f. subst (λ z. AddedArgs ts n named done h i z) (some_inj _ _ f.1)
      (record {
        added = [];
        height = 0;
        stands = g.no_more_args f.0;
        items = sym (append-nil done);
        is_height = max_zero h;
        low = omega arith;
      }))
      (if_cases (sees ts sign.Comma i) _ _ y e)

  first_arg : (next : Bool) (i : ℕ) (x : Got Arg) (y : Got (List Arg)) → IsArg false i x
      → sees ts sign.Dot i ≡ next → AddedArgs ts n next (x.tree ∷ []) x.height x.stop y
      → IsPart (AreArgs ts) n i y
  first_arg true i x y (is_named t a) s rest =
      let low = a.low in let low2 = rest.low in let is = rest.is_height in
      record {
        stands = part_at (AreArgs ts) _ _ _ _ i y.stop rest.is_height rest.items
            (g.first_named a.stands rest.stands);
        low = omega arith;
      }
  first_arg false i x y (is_named t a) s rest = absurd (false_true (sym s ∙ t))
  first_arg false i x y (is_value f k a) s rest =
      let low = a.low in let low2 = rest.low in let is = rest.is_height in
      record {
        stands = part_at (AreArgs ts) _ _ _ _ i y.stop rest.is_height rest.items
            (g.first_value a.stands rest.stands);
        low = omega arith;
      }
  first_arg true i x y (is_value f k a) s rest = absurd (false_true (sym f ∙ s))

  args_sound : (i : ℕ) (y : Got (List Arg)) → p.call_args ts sub i ≡ Some y
      → IsPart (AreArgs ts) n i y
  unfolding p.call_args
  args_sound i y e = ⊎_elim
      (λ t. subst (λ z. IsPart (AreArgs ts) n i z) (some_inj _ _ t.1)
      (record { stands = g.no_args (sees_true ts _ i t.0); low = omega arith }))
      (λ f. let x = bind_some _ _ _ f.1 in first_arg _ i x.first y
      (arg_sound false i x.first x.is) refl (more_args_sound _ _ _ _ _ y x.next))
      (if_cases (sees ts sign.CloseParenthesis i) _ _ y e)

  link_by_sound : (b : Bool) (i : ℕ) (x : Got Link) (v : Word) → word ts i ≡ v
      → is_compare (joint_at v) ≡ true → p.link_by ts sub b i v ≡ Some x
      → IsPart (IsLink ts b) n i x
  unfolding p.link_by
  link_by_sound b i x (w.Sign c) k t e =
      let y = bind_some _ _ _ e in let r = sound.read _ _ _ _ (omega arith) (omega arith) y.is in
      subst (λ z. IsPart (IsLink ts b) n i z) (some_inj _ _ y.next)
      (record { stands = g.link k (compare_true _ t) r.is_expr r.up_to r.ends; low = r.low })
  link_by_sound b i x _ k t e = absurd (none_some e)

  link_sound : (b : Bool) (i : ℕ) (x : Got Link) → compares ts i ≡ true → p.link ts sub b i ≡ Some x
      → IsPart (IsLink ts b) n i x
  unfolding p.link compares
  link_sound b i x t e = link_by_sound b i x _ refl t e

module _ (ts : List Token) (sub : Sub) (d : ℕ) (sound : ExprSound ts sub d) where
  paren_sound : (b : Bool) (level i : ℕ) (x : Parsed) → 2 ≤ level
      → word ts i ≡ w.Sign sign.OpenParenthesis → p.paren ts sub d i ≡ Some x
      → IsMade ts d b level i x
  unfolding p.paren
  paren_sound b level i x l c e =
      let y = bind_some _ _ _ e in let h = guard_some _ _ _ y.next in
      let r = sound.read _ _ _ _ (omega arith) (omega arith) y.is in
      made ts d b level i _ _ _ _ x h.1 (g.paren c r.is_expr r.up_to (sees_true ts _ _ h.0))
      (omega arith)

  sizeof_sound : (b : Bool) (level i : ℕ) (x : Parsed) → 2 ≤ level → word ts i ≡ w.Key key.Sizeof
      → p.sizeof ts sub d i ≡ Some x → IsMade ts d b level i x
  unfolding p.sizeof
  sizeof_sound b level i x l c e = ⊎_elim
      (λ t. let y = bind_some _ _ _ t.1 in let h = guard_some _ _ _ y.next in
      leaf ts d b level i _ _ _ x h.1
      (g.sizeof_in c (sees_true ts _ _ t.0) (sizeof_of_sound ts _ _ y.is)
      (sees_true ts _ _ h.0)) l)
      (λ f. let y = bind_some _ _ _ f.1 in leaf ts d b level i _ _ _ x y.next
      (g.sizeof c (sizeof_of_sound ts _ _ y.is)) l)
      (if_cases (sees ts sign.OpenParenthesis (suc i)) _ _ x e)

  tagof_sound : (b : Bool) (level i : ℕ) (x : Parsed) → 2 ≤ level → word ts i ≡ w.Key key.Tagof
      → p.tagof ts sub d b i ≡ Some x → IsMade ts d b level i x
  unfolding p.tagof
  tagof_sound b level i x l c e = ⊎_elim
      (λ t. let y = bind_some _ _ _ t.1 in let h = guard_some _ _ _ y.next in
      leaf ts d b level i _ _ _ x h.1
      (g.tagof_in c (sees_true ts _ _ t.0) (tagof_of_sound ts _ _ _ y.is)
      (sees_true ts _ _ h.0)) l)
      (λ f. let y = bind_some _ _ _ f.1 in leaf ts d b level i _ _ _ x y.next
      (g.tagof c (tagof_of_sound ts _ _ _ y.is)) l)
      (if_cases (sees ts sign.OpenParenthesis (suc i)) _ _ x e)

  prefix_sound : (b : Bool) (level i : ℕ) (c : Sign) (x : Parsed) → 2 ≤ level → word ts i ≡ w.Sign c
      → is_prefix c ≡ true → p.prefix ts sub d b i c ≡ Some x → IsMade ts d b level i x
  unfolding p.prefix
  prefix_sound b level i c x l k t e =
      let y = bind_some _ _ _ e in let r = sound.read _ _ _ _ (omega arith) (omega arith) y.is in
      made ts d b level i _ _ _ _ x y.next (g.prefix k t r.is_expr r.up_to) l

  tagged_sound : (b : Bool) (level i : ℕ) (x : Parsed) → 2 ≤ level → (b && is_tag ts i) ≡ true
      → p.tagged ts sub d b i ≡ Some x → IsMade ts d b level i x
  unfolding p.tagged
  tagged_sound b level i x l t e =
      let y = bind_some _ _ _ e in let r = sound.read _ _ _ _ (omega arith) (omega arith) y.is in
      made ts d b level i _ _ _ _ x y.next (g.tagged t r.is_expr r.up_to) l

  call_sound : (b : Bool) (level i : ℕ) (x : Parsed) → 2 ≤ level → word ts i ≡ w.Name
      → calls ts (suc i) ≡ true → p.call ts sub d i ≡ Some x → IsMade ts d b level i x
  unfolding p.call
  call_sound b level i x l c k e =
      let y = bind_some _ _ _ e in let h = guard_some _ _ _ y.next in
      let a = args_sound ts sub d sound _ _ y.is in
      made ts d b level i _ _ _ _ x h.1 (g.call c k a.stands (sees_true ts _ _ h.0)) (omega arith)

  named_sound : (b : Bool) (level i : ℕ) (x : Parsed) → 2 ≤ level → word ts i ≡ w.Name
      → p.named ts sub d b i ≡ Some x → IsMade ts d b level i x
  unfolding p.named
  named_sound b level i x l c e = ⊎_elim
      (λ t. tagged_sound b level i x l t.0 t.1)
      (λ f. ⊎_elim
      (λ t. call_sound b level i x l c t.0 t.1)
      (λ o. leaf ts d b level i _ _ _ x o.1 (g.name c) (omega arith))
      (if_cases (calls ts (suc i)) _ _ x f.1))
      (if_cases (b && is_tag ts i) _ _ x e)

  signed_sound : (b : Bool) (level i : ℕ) (c : Sign) (x : Parsed) → 2 ≤ level → word ts i ≡ w.Sign c
      → p.signed ts sub d b i c ≡ Some x → IsMade ts d b level i x
  unfolding p.signed
  signed_sound b level i c x l k e = ⊎_elim
      (λ t. prefix_sound b level i c x l k t.0 t.1)
      (λ f. let h = guard_some _ _ _ f.1 in paren_sound b level i x l
      (k ∙ ap (λ s. w.Sign s) (sym (same_true signs.the_type tt sign.OpenParenthesis c h.0)))
      h.1)
      (if_cases (is_prefix c) _ _ x e)

  operand_sound : (b : Bool) (level i : ℕ) (x : Parsed) → 2 ≤ level → (v : Word) → word ts i ≡ v
      → p.operand_by ts sub d b i v ≡ Some x → IsMade ts d b level i x
  unfolding p.operand_by
  operand_sound b level i x l w.Number c e =
      leaf ts d b level i _ _ _ x e (g.number c) (omega arith)
  operand_sound b level i x l w.Text c e = leaf ts d b level i _ _ _ x e (g.text c) (omega arith)
  operand_sound b level i x l w.Name c e = named_sound b level i x l c e
  operand_sound b level i x l w.Blank c e =
      let h = guard_some _ _ _ e in tagged_sound b level i x l h.0 h.1
  operand_sound b level i x l (w.Key key.Sizeof) c e = sizeof_sound b level i x l c e
  operand_sound b level i x l (w.Key key.Tagof) c e = tagof_sound b level i x l c e
  operand_sound b level i x l (w.Sign s) c e = signed_sound b level i s x l c e
  operand_sound b level i x l _ c e = absurd (none_some e)

  -- ---- operators behind what was read

  postfix_sound : (b : Bool) (level i : ℕ) (c : Sign) (t x : Parsed) → 1 ≤ level
      → IsMade ts d b level i t → word ts t.stop ≡ w.Sign c → joint_of c ≡ joint.Step
      → is_first ts t.stop ≡ false
      → p.postfix ts sub d i c t ≡ Some x → IsMade ts d b level i x
  unfolding p.postfix
  postfix_sound b level i c t x l m k j f e =
      let h = guard_some _ _ _ e in
      made ts d b level i _ _ _ _ x h.1 (g.postfix m.is_expr (leb-true _ _ h.0) k j f) l

  index_sound : (b : Bool) (level i : ℕ) (t x : Parsed) → 1 ≤ level → IsMade ts d b level i t
      → word ts t.stop ≡ w.Sign sign.OpenBracket → p.index ts sub d i t ≡ Some x
      → IsMade ts d b level i x
  unfolding p.index
  index_sound b level i t x l m k e =
      let h = guard_some _ _ _ e in let a = and_true _ _ h.0 in
      let y = bind_some _ _ _ h.1 in let r = sound.read _ _ _ _ (omega arith) (omega arith) y.is in
      let h2 = guard_some _ _ _ y.next in
      made ts d b level i _ _ _ _ x h2.1
      (g.index m.is_expr (leb-true _ _ a.1) k (not_true _ a.0) r.is_expr r.up_to
      (sees_true ts _ _ h2.0)) l

  character_sound : (b : Bool) (level i : ℕ) (t x : Parsed) → 1 ≤ level → IsMade ts d b level i t
      → word ts t.stop ≡ w.Sign sign.OpenBrace → is_first ts t.stop ≡ false
      → p.character ts sub d i t ≡ Some x → IsMade ts d b level i x
  unfolding p.character
  character_sound b level i t x l m k f e =
      let h = guard_some _ _ _ e in let y = bind_some _ _ _ h.1 in
      let r = sound.read _ _ _ _ (omega arith) (omega arith) y.is in
      let h2 = guard_some _ _ _ y.next in
      made ts d b level i _ _ _ _ x h2.1
      (g.character m.is_expr (leb-true _ _ h.0) k f r.is_expr r.up_to (sees_true ts _ _ h2.0)) l

  binary_sound : (b : Bool) (level i q : ℕ) (c : Sign) (t x : Parsed) → q ≤ level
      → IsMade ts d b level i t → word ts t.stop ≡ w.Sign c → joint_of c ≡ joint.Left q
      → p.binary ts sub d b i q c t ≡ Some x → IsMade ts d b level i x
  unfolding p.binary
  binary_sound b level i q c t x l m k j e =
      let o = left_level c q j in let least = o.least in let most = o.most in
      let h = guard_some _ _ _ e in let y = bind_some _ _ _ h.1 in
      let r = sound.read _ _ _ _ (omega arith) (omega arith) y.is in
      let up = r.up_to in
      made ts d b level i _ _ _ _ x y.next
      (g.binary m.is_expr (leb-true _ _ h.0) k j r.is_expr (omega arith)) l

  choice_sound : (b : Bool) (level i : ℕ) (t x : Parsed) → 13 ≤ level → IsMade ts d b level i t
      → word ts t.stop ≡ w.Sign sign.Question → p.choice ts sub d b i t ≡ Some x
      → IsMade ts d b level i x
  unfolding p.choice
  choice_sound b level i t x l m k e =
      let h = guard_some _ _ _ e in let y = bind_some _ _ _ h.1 in
      let r = sound.read _ _ _ _ (omega arith) (omega arith) y.is in
      let h2 = guard_some _ _ _ y.next in
      let z = bind_some _ _ _ h2.1 in
      let r2 = sound.read _ _ _ _ (omega arith) (omega arith) z.is in
      made ts d b level i _ _ _ _ x z.next
      (g.choice m.is_expr (leb-true _ _ h.0) k r.is_expr r.up_to
      (sees_true ts _ _ h2.0) r2.is_expr r2.up_to) l

  assign_sound : (b : Bool) (level i : ℕ) (c : Sign) (t x : Parsed) → 14 ≤ level
      → IsMade ts d b level i t → word ts t.stop ≡ w.Sign c → joint_of c ≡ joint.Assign
      → p.assign ts sub d b i c t ≡ Some x → IsMade ts d b level i x
  unfolding p.assign
  assign_sound b level i c t x l m k j e =
      let h = guard_some _ _ _ e in let y = bind_some _ _ _ h.1 in
      let r = sound.read _ _ _ _ (omega arith) (omega arith) y.is in
      made ts d b level i _ _ _ _ x y.next
      (g.assign m.is_expr (leb-true _ _ h.0) k j r.is_expr r.up_to) l

  chain_sound : (b : Bool) (level i : ℕ) (t x : Parsed) → 9 ≤ level → IsMade ts d b level i t
      → compares ts t.stop ≡ true → p.chain ts sub d b i t ≡ Some x → IsMade ts d b level i x
  unfolding p.chain
  chain_sound b level i t x l m k e =
      let h = guard_some _ _ _ e in let y = bind_some _ _ _ h.1 in
      let f = link_sound ts sub d sound b _ _ k y.is in
      let z = bind_some _ _ _ y.next in
      let a =
      many_sound (record { gives = λ j v t e. link_sound ts sub d sound b j v t e }) _ _ _ _
      _ z.is in
      chain_made b level i t x y.first z.first l m (leb-true _ _ h.0) f a z.next
    where
      chain_made : (b : Bool) (level i : ℕ) (t x : Parsed) (y : Got Link) (z : Got (List Link))
          → 9 ≤ level → IsMade ts d b level i t → t.level ≤ 8 → IsPart (IsLink ts b) d t.stop y
          → Added (compares ts) (IsLink ts b) d (y.tree ∷ []) y.height y.stop z
          → operation d (node.Chain (at ts i) t.tree (links z.tree)) 9
          (max t.height z.height) z.stop ≡ Some x → IsMade ts d b level i x
      chain_made b level i t x y z l m u f a o =
          made ts d b level i _ _ _ _ x o
          (rw (a.items, a.is_height) (g.chain m.is_expr u f.stands (from_links a.stands))) l

  step_first : (first : Bool) (level : ℕ) → level ≤ 15 → (if first then 16 else 1) ≤ level
      → first ≡ false
  step_first true level m l = absurd (omega arith)
  step_first false level m l = refl

  grow_by_sound : (b : Bool) (level i : ℕ) (t x : Parsed) (c : Sign) (j : Joint)
      → word ts t.stop ≡ w.Sign c → joint_of c ≡ j → level ≤ 15
      → level_of b (is_first ts t.stop) j ≤ level
      → IsMade ts d b level i t → p.grow_by ts sub d b i t c j ≡ Some x → IsMade ts d b level i x
  unfolding p.grow_by compares
  grow_by_sound b level i t x c (joint.Left q) k j u l m e =
      binary_sound b level i q c t x l m k j e
  grow_by_sound b level i t x c joint.Compare k j u l m e =
      chain_sound b level i t x l m (ap (λ v. is_compare (joint_at v)) k ∙ ap is_compare j) e
  grow_by_sound b level i t x c joint.Question k j u l m e =
      choice_sound b level i t x l m (k ∙ ap (λ s. w.Sign s) (question_sign c j)) e
  grow_by_sound b level i t x c joint.Assign k j u l m e = assign_sound b level i c t x l m k j e
  grow_by_sound b level i t x c joint.Step k j u l m e =
      let f = step_first _ _ u l in postfix_sound b level i c t x (one_up _ _ l) m k j f e
  grow_by_sound b level i t x c joint.Bracket k j u l m e =
      let up = m.up_to in let s = level_some m.is_expr in
      index_sound b level i t x (omega arith) m (k ∙ ap (λ s. w.Sign s) (bracket_sign c j)) e
  grow_by_sound b level i t x c joint.Brace k j u l m e =
      let f = step_first _ _ u l in
      character_sound b level i t x (one_up _ _ l) m (k ∙ ap (λ s. w.Sign s) (brace_sign c j)) f e
  grow_by_sound b level i t x c joint.Parenthesis k j u l m e = absurd (none_some e)
  grow_by_sound b level i t x c joint.Colon k j u l m e = absurd (none_some e)
  grow_by_sound b level i t x c joint.Nothing k j u l m e = absurd (none_some e)

  grow_sound : (b : Bool) (level i : ℕ) (t x : Parsed) (v : Word) → word ts t.stop ≡ v → level ≤ 15
      → binds ts b t.stop ≤ level → IsMade ts d b level i t → p.grow ts sub d b i t v ≡ Some x
      → IsMade ts d b level i x
  unfolding p.grow
  grow_sound b level i t x (w.Sign c) k u l m e =
      let a = binds_joint ts b t.stop c _ k refl in
      grow_by_sound b level i t x c _ k refl u (omega arith) m e
  grow_sound b level i t x _ k u l m e = absurd (none_some e)

  climb_sound : (b : Bool) (level i n : ℕ) (t x : Parsed) → level ≤ 15 → IsMade ts d b level i t
      → p.climb ts sub d b level i n t ≡ Some x → IsRead ts (suc d) b level i x
  unfolding p.climb
  climb_sound b level i zero t x u m e = absurd (none_some e)
  climb_sound b level i (suc n) t x u m e = ⊎_elim
      (λ h. subst (λ z. IsRead ts (suc d) b level i z) (some_inj _ _ h.1)
      (record { is_expr = m.is_expr; low = m.low; up_to = m.up_to; ends = ltb-true _ _ h.0 }))
      (λ f. let y = bind_some _ _ _ f.1 in climb_sound b level i n y.first x u
      (grow_sound b level i t y.first _ refl u (ltb-false _ _ f.0) m y.is) y.next)
      (if_cases _ _ _ x e)

  whole_sound : (b : Bool) (level i : ℕ) (x : Parsed) → 2 ≤ level → level ≤ 15
      → p.whole ts sub d b level i ≡ Some x → IsRead ts (suc d) b level i x
  unfolding p.whole
  whole_sound b level i x l u e =
      let y = bind_some _ _ _ e in
      climb_sound b level i _ y.first x u (operand_sound b level i y.first l _ refl y.is) y.next

pub expr_sound : (ts : List Token) (n : ℕ) → ExprSound ts (p.expr ts n) n
unfolding p.expr
expr_sound ts zero = record { read = λ b level i x l u e. absurd (none_some e) }
expr_sound ts (suc d) =
    record {
      read = λ b level i x l u e. whole_sound ts (p.expr ts d) d
          (expr_sound ts d) b level i x l u e;
    }
