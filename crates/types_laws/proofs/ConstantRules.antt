-- A constant expression has no call in it, so it stands for the same whatever heads calls have.
use Rattle.std.proofs.Common.{◌≡◌, ◌⊎◌, inl, inr, ℕ, ℤ, List, [], ◌∷◌, ◌++◌, Bool, true, false}
use Rattle.std.proofs.Common.{Option, None, Some, refl, ap, ◌∙◌}
use Rattle.std.specs.Prelude.{option_map, flat_map}
use Rattle.pawn_token.specs.declared.sign.Sign.{Sign}
use Rattle.pawn_token.specs.declared.sign.Sign.TheVariants as sign
use Rattle.pawn_cells.specs.Operators as cells
use Rattle.pawn_cells.specs.declared.operator.Operator.{Operator}
use Rattle.pawn_cells.specs.declared.operator.Prefix.{Prefix}
use Rattle.pawn_cells.specs.declared.operator.Prefix.TheVariants as before
use Rattle.pawn_cells.specs.declared.operator.Comparison.{Comparison}
use Rattle.pawn_tree.specs.declared.name.At.{At}
use Rattle.pawn_tags.specs.Overloads.{Overloads}
use Rattle.pawn_tags.specs.declared.operators.Choice.{Choice}
use Rattle.pawn_tags.specs.declared.op.Op.TheVariants as op
use Rattle.pawn_meaning.specs.Program.{Scalar, Array, Expr, Links, Chain}
use Rattle.pawn_meaning.specs.Scope.{Extent}
use Rattle.names_rules.specs.Verdict.{Verdict, Stands, Breaks, after, both}
use Rattle.names_rules.specs.Signs.{Between, Operates, Decides, Takes, Nothing}
use Rattle.types_rules.specs.Rule.{pair}
use Rattle.types_rules.specs.Typed.{Typed, Form, Held, cell, array}
use Rattle.types_rules.specs.Typed as typed
use Rattle.types_rules.specs.Around.{Around, Callable, Head}
use Rattle.types_rules.specs.Scope.{found}
use Rattle.types_rules.specs.Operators.{value_of_both, built_in, bool_tag, divides_by_zero, chosen}
use Rattle.types_rules.specs.Operators.{operate, operator_rule, logical_rule, comma_rule}
use Rattle.types_rules.specs.Operators.{between_rule, chosen_for_one, operate_one, unary_value}
use Rattle.types_rules.specs.Operators.{not_rule, negate_rule, invert_rule}
use Rattle.types_rules.specs.Prefixes.{prefix_rule, postfix_rule}
use Rattle.types_rules.specs.Indexes.{indexed_part, index_rule, character_in, character_rule}
use Rattle.types_rules.specs.Choices.{value_of_choice, choice_rule}
use Rattle.types_rules.specs.Chains.{Compared, link_choice, link_code, links_code, link_warned}
use Rattle.types_rules.specs.Chains.{links_warned, link_tag, chain_tag, link_value, and_more}
use Rattle.types_rules.specs.Chains.{links_value, chain_value, chain_rule}
use Rattle.types_rules.specs.Assignments.{target, unless_constant, assign_cell, copied_cells}
use Rattle.types_rules.specs.Assignments.{literal_cells, known_line, copy_from, assign_to, set_rule}
use Rattle.types_rules.specs.Assignments.{updated, update_rule, update_by, assign_rule, step_rule}
use Rattle.types_rules.specs.Signs.{updater_of}
use Rattle.types_rules.proofs.VerdictLaws.{Holds, stands_itself, breaks_holds, holds_after}
use Rattle.types_rules.proofs.VerdictLaws.{holds_both, holds_all}
use Rattle.types_rules.specs.Filling.{Offer, fill}
use Rattle.types_rules.specs.Defaults.{args_of}
use Rattle.types_rules.specs.Calls.{Callee, args_in, call_by, call_rule}
use Rattle.types_laws.proofs.Facts.{if_holds, holds_as}

-- ---- verdicts that stand alike

-- what stands by one verdict stands by the other
abbrev pub Same : {A : Type 0} → Verdict A → Verdict A → Type 0
Same w v = Holds (λ x. v ≡ Stands x) w

pub itself : {A : Type 0} (w : Verdict A) → Same w w
itself w = record { of = λ x e. e }

pub after_is : {A B : Type 0} (w : Verdict A) (rule : A → Verdict B) (x : A) → w ≡ Stands x
    → after w rule ≡ rule x
after_is w rule x e = ap (λ v. after v rule) e

pub both_is : {A B C : Type 0} (v : Verdict A) (w : Verdict B) (rule : A → B → Verdict C) (x : A)
    (y : B) → v ≡ Stands x → w ≡ Stands y → both v w rule ≡ rule x y
both_is v w rule x y e f =
    ap (λ z. both z w rule) e ∙ ap (λ z. both (Stands x) z rule) f

pub same_after : {A B : Type 0} {w v : Verdict A} {rule other : A → Verdict B} → Same w v
    → ((x : A) → Same (rule x) (other x)) → Same (after w rule) (after v other)
same_after {w = Stands x} {v = v} {other = other} h k = record {
  of = λ y e. after_is v other x (h.of x refl) ∙ (k x).of y e;
}
same_after {w = Breaks found} h k = breaks_holds _ _

pub same_both : {A B C : Type 0} {v : Verdict A} {w : Verdict B} {v2 : Verdict A}
    {w2 : Verdict B} {rule other : A → B → Verdict C}
    → Same v v2 → Same w w2 → ((x : A) (y : B) → Same (rule x y) (other x y))
    → Same (both v w rule) (both v2 w2 other)
same_both {v = Stands x} {w = Stands y} {v2 = v2} {w2 = w2} {other = other} h k go = record {
  of = λ z e. both_is v2 w2 other x y (h.of x refl) (k.of y refl) ∙ (go x y).of z e;
}
same_both {v = Stands x} {w = Breaks found} h k go = breaks_holds _ _
same_both {v = Breaks found} h k go = breaks_holds _ _

-- ---- constant expressions and texts

abbrev pub HasValue : Option ℤ → Type 0
HasValue None = ⊥
HasValue (Some v) = Unit {0}

abbrev pub IsText : Form → Type 0
IsText (typed.Value e) = ⊥
IsText (typed.Place p constant) = ⊥
IsText (typed.Whole a reach constant) = ⊥
IsText (typed.Literal object size) = Unit {0}

abbrev pub HaveValues : List Compared → Type 0
HaveValues [] = Unit {0}
HaveValues (link ∷ more) = HasValue link.operand.value × HaveValues more

abbrev pub IsConst : Typed → Type 0
IsConst x = HasValue x.value ⊎ IsText x.form

-- neither a constant nor a text
pub record IsNeither (z : Typed) : Type 0 where
  pub value : HasValue z.value → ⊥
  pub text : IsText z.form → ⊥

neither : (z : Typed) → IsNeither z → IsConst z → ⊥
neither z n (inl v) = n.value v
neither z n (inr t) = n.text t

pub record NeverConst (z : Typed) : Type 0 where
  pub never : IsConst z → ⊥

stands_never : (z : Typed) → (HasValue z.value → ⊥) → (IsText z.form → ⊥)
    → Holds NeverConst (Stands z)
stands_never z v t =
    stands_itself _ z (record { never = neither z (record { value = v; text = t }) })

no : ⊥ → ⊥
no x = x

both_back : (make : ℤ → ℤ → Option ℤ) (x y : Option ℤ) → HasValue (value_of_both make x y)
    → HasValue x × HasValue y
both_back make None y h = absurd h
both_back make (Some a) None h = absurd h
both_back make (Some a) (Some b) h = (tt, tt)

mapped_back : (make : ℤ → ℤ) (x : Option ℤ) → HasValue (option_map make x) → HasValue x
mapped_back make None h = absurd h
mapped_back make (Some a) h = tt

choice_back : (c a b : Option ℤ) → HasValue (value_of_choice c a b)
    → HasValue c × HasValue a × HasValue b
choice_back None a b h = absurd h
choice_back (Some c) None b h = absurd h
choice_back (Some c) (Some a) None h = absurd h
choice_back (Some c) (Some a) (Some b) h = (tt, tt, tt)

module _ (names : List (List ℕ)) (operators : Overloads) (fs ns fs2 ns2 : List Callable) where
  -- what is known around, with these heads and with others
  abbrev pub first : Around
  first = record { tags = names; operators = operators; functions = fs; natives = ns }

  abbrev pub second : Around
  second = record { tags = names; operators = operators; functions = fs2; natives = ns2 }

  module _ (at : At) where
    -- ---- rules that never make a constant

    part_text : (held : Held) (e : Expr) (inner : List ℕ) → IsText (indexed_part held e inner) → ⊥
    part_text held e [] h = h
    part_text held e (size ∷ inner) h = h

    pub index_never : (x i : Typed) → Holds NeverConst (index_rule at x i)
    unfolding index_rule
    index_never x i =
        holds_both (holds_all (array at x)) (holds_all (cell at i)) (λ held e t u.
        if_holds _ (breaks_holds _ _)
        (stands_never _ no (part_text held e held.extent.inner)))

    character_in_never : (x i : Typed) (held : Held) (e : Expr) (inner : List ℕ)
        → Holds NeverConst (character_in at x i held e inner)
    character_in_never x i held e (size ∷ inner) = breaks_holds _ _
    character_in_never x i held e [] = if_holds _ (breaks_holds _ _) (stands_never _ no no)

    pub character_never : (x i : Typed) → Holds NeverConst (character_rule at x i)
    unfolding character_rule
    character_never x i =
        holds_both (holds_all (array at x)) (holds_all (cell at i)) (λ held e t u.
        character_in_never x i held e held.extent.inner)

    step_never : (cx : Around) (up prefix : Bool) (x : Typed)
        → Holds NeverConst (step_rule cx at up prefix x)
    unfolding step_rule
    step_never cx up prefix x =
        holds_after (holds_all (target at x)) (λ a t. stands_never _ no no)

    pub postfix_never : (s : Sign) (x : Typed) → Holds NeverConst (postfix_rule first at s x)
    postfix_never sign.Increment x = step_never first true false x
    postfix_never sign.Decrement x = step_never first false false x
    postfix_never _ x = breaks_holds _ _

    assign_cell_never : (x y : Typed) → Holds NeverConst (assign_cell first at x y)
    assign_cell_never x y =
        holds_both (holds_all (target at x)) (holds_all (cell at y))
        (λ a e t u. stands_never _ no no)

    copy_never : (x y : Typed) (to : Array) (reach : Extent) (form : Form)
        → Holds NeverConst (copy_from first at x y to reach form)
    copy_never x y to reach (typed.Value e) = breaks_holds _ _
    copy_never x y to reach (typed.Place a constant) = breaks_holds _ _
    copy_never x y to reach (typed.Whole from other constant) =
        holds_after (holds_all (copied_cells at (known_line reach) (known_line other)))
        (λ n t. stands_never _ no no)
    copy_never x y to reach (typed.Literal object size) =
        holds_after (holds_all (literal_cells at (known_line reach) size))
        (λ n t. stands_never _ no no)

    assign_to_never : (x y : Typed) (form : Form)
        → Holds NeverConst (assign_to first at x y form)
    assign_to_never x y (typed.Value e) = assign_cell_never x y
    assign_to_never x y (typed.Place a constant) = assign_cell_never x y
    assign_to_never x y (typed.Literal object size) = breaks_holds _ _
    assign_to_never x y (typed.Whole a reach constant) =
        holds_after (holds_all (unless_constant at constant a))
        (λ to t. copy_never x y to reach y.form)

    updated_never : (it : Operator) (x y : Typed) (a : Scalar) (e : Expr) (by : Option Choice)
        → Holds NeverConst (updated first at it x y a e by)
    updated_never it x y a e (Some by) = stands_never _ no no
    updated_never it x y a e None = if_holds _ (breaks_holds _ _) (stands_never _ no no)

    update_by_never : (it : Between) (x y : Typed) → Holds NeverConst (update_by first at it x y)
    unfolding update_rule
    update_by_never (Operates it user) x y =
        holds_both (holds_all (target at x)) (holds_all (cell at y)) (λ a e t u.
        updated_never it x y a e (chosen first user x.tag y.tag))
    update_by_never (Decides it) x y = breaks_holds _ _
    update_by_never Takes x y = breaks_holds _ _
    update_by_never Nothing x y = breaks_holds _ _

    pub assign_never : (s : Sign) (x y : Typed) → Holds NeverConst (assign_rule first at s x y)
    unfolding set_rule
    assign_never sign.Assign x y = assign_to_never x y x.form
    assign_never s x y = update_by_never (updater_of s) x y

    call_by_never : (callee : Callee) (all : List Offer) (head : Option Head)
        → Holds NeverConst (call_by first at callee all head)
    call_by_never callee all None = stands_never _ no no
    call_by_never callee all (Some head) =
        holds_after (holds_all (fill first at head all)) (λ it t.
        holds_after (holds_all (args_of first at head.params it.slots head.params it.slots
        (args_in it.rest))) (λ args u. stands_never _ no no))

    pub call_never : (callee : Callee) (all : List Offer)
        → Holds NeverConst (call_rule first at callee all)
    unfolding call_rule
    call_never callee all = call_by_never callee all callee.head

    -- ---- rules that make constants of constants

    const_value : (z : Typed) → (IsText z.form → ⊥) → IsConst z → HasValue z.value
    const_value z k (inl v) = v
    const_value z k (inr t) = absurd (k t)

    -- of two parts
    pub record OfTwo (x y : Typed) (w : Verdict Typed) (z : Typed) : Type 0 where
      pub back : IsConst z → HasValue x.value × HasValue y.value
      pub same : IsConst z → w ≡ Stands z

    record Back (x y : Typed) (z : Typed) : Type 0 where
      pub back : IsConst z → HasValue x.value × HasValue y.value

    two_of : (x y : Typed) (w : Verdict Typed) → Holds (Back x y) w → Holds (OfTwo x y w) w
    two_of x y w h =
        record { of = λ z e. record { back = (h.of z e).back; same = λ c. e } }

    back_of : (x y z : Typed) → (IsText z.form → ⊥)
        → (HasValue z.value → HasValue x.value × HasValue y.value)
        → Holds (Back x y) (Stands z)
    back_of x y z t k = stands_itself _ z (record { back = λ c. k (const_value z t c) })

    never_two : (x y : Typed) (w : Verdict Typed) (z : Typed) → (HasValue z.value → ⊥)
        → (IsText z.form → ⊥) → Holds (OfTwo x y w) (Stands z)
    never_two x y w z v t =
        let n = neither z (record { value = v; text = t }) in
        stands_itself _ z (record { back = λ c. absurd (n c); same = λ c. absurd (n c) })

    moved_two : (x y : Typed) (w v : Verdict Typed) (z : Typed) → v ≡ w → OfTwo x y w z
        → OfTwo x y v z
    moved_two x y w v z e p = record { back = p.back; same = λ c. e ∙ p.same c }

    operate_two : (it : Operator) (x y : Typed) (l r : Expr) (by : Option Choice)
        → Holds (OfTwo x y (operate second at it x y l r by)) (operate first at it x y l r by)
    operate_two it x y l r None =
        two_of x y (built_in second at it x y l r) (if_holds (divides_by_zero it y.value)
        (breaks_holds _ _) (back_of x y _ no (both_back (cells.binary it) x.value y.value)))
    operate_two it x y l r (Some by) = never_two x y _ _ no no

    pub between_two : (it : Between) (x y : Typed)
        → Holds (OfTwo x y (between_rule second at it x y)) (between_rule first at it x y)
    unfolding operator_rule logical_rule comma_rule
    between_two (Operates it user) x y =
        holds_both {P = λ l. cell at x ≡ Stands l} {Q = λ r. cell at y ≡ Stands r}
        (itself (cell at x)) (itself (cell at y)) (λ l r e f.
        holds_as (operate_two it x y l r (chosen first user x.tag y.tag)) (λ z p.
        moved_two x y _ _ z (both_is (cell at x) (cell at y) _ l r e f) p))
    between_two (Decides it) x y =
        two_of x y _ (holds_both (holds_all (cell at x)) (holds_all (cell at y)) (λ l r t u.
        back_of x y _ no (both_back _ x.value y.value)))
    between_two Takes x y =
        two_of x y _ (holds_both (holds_all (cell at x)) (holds_all (cell at y)) (λ l r t u.
        back_of x y _ no (both_back _ x.value y.value)))
    between_two Nothing x y = breaks_holds _ _

    -- of one part
    pub record OfOne (x : Typed) (w : Verdict Typed) (z : Typed) : Type 0 where
      pub back : IsConst z → HasValue x.value
      pub same : IsConst z → w ≡ Stands z

    never_one : (x : Typed) (w : Verdict Typed) (z : Typed) → NeverConst z → OfOne x w z
    never_one x w z n = record { back = λ c. absurd (n.never c); same = λ c. absurd (n.never c) }

    operate_one_of : (x : Typed) (e : Expr) (it : Prefix) (tag : ℕ) (by : Option Choice)
        → OfOne x (Stands (operate_one second at x e (unary_value at it tag x e) by))
        (operate_one first at x e (unary_value at it tag x e) by)
    operate_one_of x e it tag None = record {
      back =
          λ c. mapped_back (cells.prefix it) x.value (const_value (unary_value at it tag x e) no c);
      same = λ c. refl;
    }
    operate_one_of x e it tag (Some by) =
        never_one x _ (operate_one first at x e (unary_value at it tag x e) (Some by)) (record {
          never = neither (operate_one first at x e (unary_value at it tag x e) (Some by))
              (record { value = no; text = no });
        })

    moved_one : (x : Typed) (w v : Verdict Typed) (z : Typed) → v ≡ w → OfOne x w z → OfOne x v z
    moved_one x w v z e p = record { back = p.back; same = λ c. e ∙ p.same c }

    pub prefix_one : (s : Sign) (x : Typed)
        → Holds (OfOne x (prefix_rule second at s x)) (prefix_rule first at s x)
    unfolding not_rule negate_rule invert_rule
    prefix_one sign.Exclamation x =
        holds_after {P = λ l. cell at x ≡ Stands l} (itself (cell at x)) (λ l e.
        stands_itself _ _ (moved_one x _ _ _ (after_is (cell at x) _ l e)
        (operate_one_of x l before.Not bool_tag (chosen_for_one first op.Not x.tag))))
    prefix_one sign.Minus x =
        holds_after {P = λ l. cell at x ≡ Stands l} (itself (cell at x)) (λ l e.
        stands_itself _ _ (moved_one x _ _ _ (after_is (cell at x) _ l e)
        (operate_one_of x l before.Negate x.tag (chosen_for_one first op.Neg x.tag))))
    prefix_one sign.Tilde x =
        holds_after {P = λ l. cell at x ≡ Stands l} (itself (cell at x)) (λ l e.
        stands_itself _ _ (moved_one x _ _ _ (after_is (cell at x) _ l e)
        (operate_one_of x l before.Invert x.tag None)))
    prefix_one sign.Increment x =
        holds_as (step_never first true true x) (λ z n. never_one x _ z n)
    prefix_one sign.Decrement x =
        holds_as (step_never first false true x) (λ z n. never_one x _ z n)
    prefix_one _ x = breaks_holds _ _

    -- of three parts
    pub record OfThree (x y u : Typed) (w : Verdict Typed) (z : Typed) : Type 0 where
      pub back : IsConst z → HasValue x.value × HasValue y.value × HasValue u.value
      pub same : IsConst z → w ≡ Stands z

    three_of : (x y u : Typed) (w : Verdict Typed) (z : Typed) → (IsText z.form → ⊥)
        → (HasValue z.value → HasValue x.value × HasValue y.value × HasValue u.value)
        → w ≡ Stands z → Holds (OfThree x y u w) (Stands z)
    three_of x y u w z t k e =
        stands_itself _ z (record { back = λ c. k (const_value z t c); same = λ c. e })

    pub choice_three : (x y u : Typed)
        → Holds (OfThree x y u (choice_rule second at x y u)) (choice_rule first at x y u)
    unfolding choice_rule
    choice_three x y u =
        holds_both {P = λ l. cell at x ≡ Stands l}
        {Q = λ r. pair (cell at y) (cell at u) ≡ Stands r}
        (itself (cell at x)) (itself (pair (cell at y) (cell at u))) (λ l r e f.
        three_of x y u _ _ no (choice_back x.value y.value u.value)
        (both_is (cell at x) (pair (cell at y) (cell at u)) _ l r e f))

    -- ---- chains

    code_same : (left : ℕ) (links : List Compared)
        → links_code second at left links ≡ links_code first at left links
    unfolding links_code
    code_same left [] = refl
    code_same left (link ∷ more) =
        ap (λ rest. both (cell at link.operand) rest (λ e rest2.
        Stands (link_code link.sign e (link_choice first left link) rest2)))
        (code_same link.operand.tag more)

    warned_same : (left : ℕ) (links : List Compared)
        → links_warned second left links ≡ links_warned first left links
    unfolding links_warned
    warned_same left [] = refl
    warned_same left (link ∷ more) =
        ap (λ rest. link_warned first left link.operand (link_choice first left link) ++ rest)
        (warned_same link.operand.tag more)

    value_same : (left : ℕ) (links : List Compared)
        → links_value second left links ≡ links_value first left links
    unfolding links_value
    value_same left [] = refl
    value_same left (link ∷ more) =
        ap (λ rest. and_more (link_value link.sign link.operand.value (link_choice first left link))
        rest)
        (value_same link.operand.tag more)

    abbrev HasLinks : Option (List (Comparison × ℤ)) → Type 0
    HasLinks None = ⊥
    HasLinks (Some all) = Unit {0}

    abbrev HasLink : Option (Comparison × ℤ) → Type 0
    HasLink None = ⊥
    HasLink (Some link) = Unit {0}

    abbrev IsBuiltIn : Option Choice → Type 0
    IsBuiltIn None = Unit {0}
    IsBuiltIn (Some by) = ⊥

    chain_back : (first_value : Option ℤ) (all : Option (List (Comparison × ℤ)))
        → HasValue (chain_value first_value all) → HasValue first_value × HasLinks all
    chain_back None all h = absurd h
    chain_back (Some v) None h = absurd h
    chain_back (Some v) (Some all) h = (tt, tt)

    more_back : (link : Option (Comparison × ℤ)) (rest : Option (List (Comparison × ℤ)))
        → HasLinks (and_more link rest) → HasLink link × HasLinks rest
    more_back None rest h = absurd h
    more_back (Some link) None h = absurd h
    more_back (Some link) (Some rest) h = (tt, tt)

    link_back : (s : Comparison) (v : Option ℤ) (by : Option Choice) → HasLink (link_value s v by)
        → HasValue v × IsBuiltIn by
    link_back s None by h = absurd h
    link_back s (Some v) (Some by) h = absurd h
    link_back s (Some v) None h = (tt, tt)

    links_back : (left : ℕ) (links : List Compared) → HasLinks (links_value first left links)
        → HaveValues links
    unfolding links_value
    links_back left [] h = tt
    links_back left (link ∷ more) h =
        let p = more_back (link_value link.sign link.operand.value (link_choice first left link))
        (links_value first link.operand.tag more) h in (
          (link_back link.sign link.operand.value (link_choice first left link) p.0).0,
          links_back link.operand.tag more p.1,
        )

    link_tag_same : (by : Option Choice) → IsBuiltIn by → link_tag second by ≡ link_tag first by
    link_tag_same None h = refl
    link_tag_same (Some by) h = absurd h

    tag_same : (left : ℕ) (links : List Compared) → HasLinks (links_value first left links)
        → chain_tag second left links ≡ chain_tag first left links
    unfolding links_value
    tag_same left [] h = refl
    tag_same left (link ∷ []) h =
        let p = more_back (link_value link.sign link.operand.value (link_choice first left link))
        (links_value first link.operand.tag []) h in
        link_tag_same (link_choice first left link)
        (link_back link.sign link.operand.value (link_choice first left link) p.0).1
    tag_same left (link ∷ next ∷ more) h = refl

    pub record OfChain (x : Typed) (links : List Compared) (w : Verdict Typed)
        (z : Typed) : Type 0 where
      pub back : IsConst z → HasValue x.value × HaveValues links
      pub same : IsConst z → w ≡ Stands z

    pub chain_of : (x : Typed) (links : List Compared)
        → Holds (OfChain x links (chain_rule second at x links)) (chain_rule first at x links)
    unfolding chain_rule
    chain_of x links =
        holds_both {P = λ l. cell at x ≡ Stands l}
        {Q = λ r. links_code first at x.tag links ≡ Stands r}
        (itself (cell at x)) (itself (links_code first at x.tag links)) (λ l r e f.
        stands_itself _ _ (record {
          back = λ c.
              let p = chain_back x.value (links_value first x.tag links)
              (const_value (chained first x links l r) no c) in
              (p.0, links_back x.tag links p.1);
          same = λ c.
              let p = chain_back x.value (links_value first x.tag links)
              (const_value (chained first x links l r) no c) in
              both_is (cell at x) (links_code second at x.tag links) _ l r e
              (code_same x.tag links ∙ f)
              ∙ ap Stands (chained_same x links l r p.1);
        }))
      where
        chained : Around → Typed → List Compared → Expr → Links → Typed
        chained cx x links l r = record {
          at = at;
          form = typed.Value (Chain l r);
          tag = chain_tag cx x.tag links;
          value = chain_value x.value (links_value cx x.tag links);
          literals = x.literals
              ++ flat_map (λ (link : Compared). link.operand.literals) links;
          warned = x.warned ++ links_warned cx x.tag links;
        }

        chained_same : (x : Typed) (links : List Compared) (l : Expr) (r : Links)
            → HasLinks (links_value first x.tag links)
            → chained second x links l r ≡ chained first x links l r
        chained_same x links l r h =
            rw (tag_same x.tag links h, value_same x.tag links, warned_same x.tag links) refl
