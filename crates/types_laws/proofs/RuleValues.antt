-- What the rules of names and operators make is plain.
use Rattle.std.proofs.Common.{◌≡◌, ◌^◌, ◌<◌, ◌≤◌, ℕ, zero, suc, ℤ, pos, List, [], ◌∷◌, ◌++◌, Bool}
use Rattle.std.proofs.Common.{true, false, Option, None, Some, refl, sym, ap₂, ◌∙◌, subst, arith}
use Rattle.std.specs.Prelude.{if◌then◌else◌, length, map, unwrap_or, option_map, slice_get, nat_eq}
use Rattle.std.specs.Prelude.{nat_le, flat_map, IfSome}
use Rattle.std.specs.Str.{bytes_eq}
use Rattle.std.proofs.lemmas.Bool.{leb-true}
use Rattle.std.proofs.lemmas.List.{length-append}
use Rattle.pawn_token.specs.declared.sign.Sign.{Sign}
use Rattle.pawn_token.specs.declared.sign.Sign.TheVariants as sign
use Rattle.pawn_cells.specs.Cells.{IsCell}
use Rattle.pawn_cells.specs.Operators as cells
use Rattle.pawn_cells.specs.declared.operator.Operator.{Operator}
use Rattle.pawn_cells.specs.declared.operator.Operator.TheVariants as between
use Rattle.pawn_cells.specs.declared.operator.Prefix.{Prefix}
use Rattle.pawn_arrays.specs.Sizes.{cell_limit}
use Rattle.pawn_tree.specs.declared.name.At.{At}
use Rattle.pawn_tree.specs.declared.expression.SizeofOperand.{SizeofOperand}
use Rattle.pawn_tree.specs.declared.expression.SizeofOperand.TheVariants as sizeof
use Rattle.pawn_tree.specs.declared.expression.TagofOperand.{TagofOperand}
use Rattle.pawn_tags.specs.declared.operators.Choice.{Choice}
use Rattle.pawn_tags.specs.declared.op.Op.TheVariants as op
use Rattle.pawn_tags.specs.Tags.{untagged, number_of}
use Rattle.pawn_meaning.specs.Program.{Scalar, Array, Expr, StaticObject}
use Rattle.pawn_meaning.specs.Scope.{Extent}
use Rattle.names_rules.specs.Verdict.{Stands}
use Rattle.names_rules.specs.Signs.{Between, Operates, Decides, Takes, Nothing}
use Rattle.types_rules.specs.Rule.{pair}
use Rattle.types_rules.specs.Typed.{Typed, Form, Held, cell, array}
use Rattle.types_rules.specs.Typed as typed
use Rattle.types_rules.specs.Around.{Around, Callable, tag_number, function_tag}
use Rattle.types_rules.specs.Scope.{Meaning, Constant, Variable, Function, Native, Entering, Taken}
use Rattle.types_rules.specs.Scope.{Unknown, Scope, found}
use Rattle.types_rules.specs.Scope as means
use Rattle.types_rules.specs.Texts.{packed_cells, text_cells, text_object}
use Rattle.types_rules.specs.NamesAndNumbers.{constant_value, text_rule, name_rule}
use Rattle.types_rules.specs.NamesAndNumbers.{size_or_zero, size_at}
use Rattle.types_rules.specs.NamesAndNumbers.{size_or_broken, size_of_cell, size_of}
use Rattle.types_rules.specs.NamesAndNumbers.{size_in, sizeof_rule}
use Rattle.types_rules.specs.NamesAndNumbers.{tag_in, tagof_rule}
use Rattle.types_rules.specs.Operators.{bool_tag, unary_value, operator_tag, divides_by_zero}
use Rattle.types_rules.specs.Operators.{chosen, operate, operator_rule, logical_rule, comma_rule}
use Rattle.types_rules.specs.Operators.{between_rule, chosen_for_one, operate_one, not_rule}
use Rattle.types_rules.specs.Operators.{negate_rule, invert_rule}
use Rattle.types_rules.specs.Prefixes.{prefix_rule, postfix_rule}
use Rattle.types_rules.specs.Indexes.{indexed_part, index_rule, character_in, character_rule}
use Rattle.types_rules.specs.Choices.{value_of_choice, choice_rule}
use Rattle.types_rules.specs.Chains.{Compared, link_choice, links_code, links_value, chain_value}
use Rattle.types_rules.specs.Chains.{link_tag, chain_tag, chain_rule}
use Rattle.types_rules.specs.Assignments.{target, unless_constant, assign_cell, copied_cells}
use Rattle.types_rules.specs.Assignments.{literal_cells, known_line, copy_from, assign_to, set_rule}
use Rattle.types_rules.specs.Assignments.{updated, update_rule, update_by, assign_rule, step_rule}
use Rattle.types_rules.specs.Signs.{updater_of}
use Rattle.types_rules.proofs.VerdictLaws.{Holds, stands_itself, breaks_holds, holds_after}
use Rattle.types_rules.proofs.VerdictLaws.{holds_both, holds_all}
use Rattle.types_laws.specs.Meant.{AreCells}
use Rattle.types_laws.specs.Placed.{IsShort}
use Rattle.types_laws.specs.Objects.{Each, IsGoodObject}
use Rattle.types_laws.specs.Written.{AreBytes}
use Rattle.types_laws.specs.Plain.{IsTag, IsValue, IsPlainMeaning, IsPlainPath, HasTags}
use Rattle.pawn_cells.proofs.CellLaws.{cell_of_cell, small_cell, truth_cell}
use Rattle.types_laws.proofs.Facts.{if_holds, when_holds, each_append, each_all}
use Rattle.types_laws.proofs.Facts.{prefix_cell, binary_value}
use Rattle.types_laws.proofs.Facts.{logical_cell, both_value, mapped_value, position_within}

-- a literal is one of the objects
abbrev pub HasText : Form → List StaticObject → Type 0
HasText (typed.Value e) ls = Unit {0}
HasText (typed.Place p constant) ls = Unit {0}
HasText (typed.Whole a reach constant) ls = Unit {0}
HasText (typed.Literal object size) ls = 1 ≤ length ls

-- with these literals
pub record Plain (ls : List StaticObject) (x : Typed) : Type 0 where
  pub literals : x.literals ≡ ls
  pub objects : Each IsGoodObject x.literals
  pub value : IsValue x.value
  pub tag : IsTag x.tag
  pub text : HasText x.form x.literals

-- what is made of one part, or of two
pub one : {ls : List StaticObject} (x : Typed) (y : Typed) → Plain ls x → HasText y.form y.literals
    → y.literals ≡ x.literals
    → IsValue y.value → IsTag y.tag → Holds (Plain ls) (Stands y)
one x y p f e v t = stands_itself _ y (record {
  literals = e ∙ p.literals;
  objects = subst (λ (l : List StaticObject). Each IsGoodObject l) (sym e) p.objects;
  value = v;
  tag = t;
  text = f;
})

pub two : (ms ns : List StaticObject) (x y z : Typed) → Plain ms x → Plain ns y
    → HasText z.form z.literals → z.literals ≡ x.literals ++ y.literals → IsValue z.value
    → IsTag z.tag
    → Plain (ms ++ ns) z
two ms ns x y z p q f e v t = record {
  literals = e ∙ ap₂ (λ (l m : List StaticObject). l ++ m) p.literals q.literals;
  objects = subst (λ (l : List StaticObject). Each IsGoodObject l) (sym e)
      (each_append IsGoodObject x.literals y.literals p.objects q.objects);
  value = v;
  tag = t;
  text = f;
}

bare : (x : Typed) → HasText x.form x.literals → x.literals ≡ [] → IsValue x.value → IsTag x.tag
    → Holds (Plain []) (Stands x)
bare x f e v t = stands_itself _ x (record {
  literals = e;
  objects = subst (λ (l : List StaticObject). Each IsGoodObject l) (sym e) tt;
  value = v;
  tag = t;
  text = f;
})

pub small_tag : (n : ℕ) → n < 2 ^ 32 → IsTag n
small_tag n h = h

-- ---- tags

module _ (cx : Around) (tags : HasTags cx) where
  named_tag : (it : Option ℕ) → ((i : ℕ) → it ≡ Some i → i < length cx.tags)
      → IsTag (unwrap_or it untagged)
  named_tag None k = omega arith
  named_tag (Some i) k = omega (arith, k i refl, tags.names)

  pub tag_number_small : (name : List ℕ) → IsTag (tag_number cx name)
  tag_number_small name =
      named_tag (number_of cx.tags name) (λ i e. position_within (bytes_eq name) cx.tags i e)

  called_tag : (it : Option Callable) → ((x : Callable) → it ≡ Some x → IsTag x.tag)
      → IsTag (unwrap_or (option_map (λ (x : Callable). x.tag) it) untagged)
  called_tag None k = omega arith
  called_tag (Some x) k = k x refl

  pub function_tag_small : (f : ℕ) → IsTag (function_tag cx f)
  function_tag_small f = called_tag (slice_get cx.functions f) (tags.functions f)

-- ---- texts

packed_are : (bytes : List ℕ) → Each IsCell (packed_cells bytes)
unfolding packed_cells
packed_are [] = (small_cell 0 (omega arith), tt)
packed_are (a ∷ []) = (cell_of_cell _, tt)
packed_are (a ∷ b ∷ []) = (cell_of_cell _, tt)
packed_are (a ∷ b ∷ c ∷ []) = (cell_of_cell _, tt)
packed_are (a ∷ b ∷ c ∷ d ∷ more) = (cell_of_cell _, packed_are more)

plain_are : (bytes : List ℕ) → AreBytes bytes → Each IsCell (map pos bytes)
plain_are [] h = tt
plain_are (byte ∷ more) h = (small_cell byte (omega (arith, h.0)), plain_are more h.1)

text_are : (packed : Bool) (bytes : List ℕ) → AreBytes bytes
    → Each IsCell (text_cells packed bytes)
text_are true bytes h = packed_are bytes
text_are false bytes h =
    each_append IsCell (map pos bytes) (pos 0 ∷ []) (plain_are bytes h)
    (small_cell 0 (omega arith), tt)

packed_some : (bytes : List ℕ) → 1 ≤ length (packed_cells bytes)
unfolding packed_cells
packed_some [] = omega arith
packed_some (a ∷ []) = omega arith
packed_some (a ∷ b ∷ []) = omega arith
packed_some (a ∷ b ∷ c ∷ []) = omega arith
packed_some (a ∷ b ∷ c ∷ d ∷ more) = omega arith

text_some : (packed : Bool) (bytes : List ℕ) → 1 ≤ length (text_cells packed bytes)
text_some true bytes = packed_some bytes
text_some false bytes = omega (arith, length-append (map pos bytes) (pos 0 ∷ []))

text_good : (packed : Bool) (bytes : List ℕ) → AreBytes bytes
    → length (text_cells packed bytes) ≤ cell_limit → IsGoodObject (text_object packed bytes)
text_good packed bytes h most = record {
  valid = record {
    sizes = (omega arith, omega arith);
    count = omega arith;
    cells = each_all IsCell (text_cells packed bytes) (text_are packed bytes h);
  };
  within = record {
    least = each_all (λ size. 1 ≤ size) (length (text_cells packed bytes) ∷ [])
        (text_some packed bytes, tt);
    most = omega (arith, most);
  };
}

pub text_plain : (object : ℕ) (at : At) (bytes : List ℕ) (packed : Bool) → AreBytes bytes
    → Holds (Plain (text_object packed bytes ∷ [])) (text_rule object at bytes packed)
unfolding text_rule
text_plain object at bytes packed h =
    when_holds (nat_le (length (text_cells packed bytes)) cell_limit) (λ within.
    stands_itself _ _ (record {
      literals = refl;
      objects = (text_good packed bytes h (leb-true _ _ within), tt);
      value = tt;
      tag = small_tag 0 (omega arith);
      text = omega arith;
    }))
    (breaks_holds _ _)

-- ---- names

pub number_plain : (at : At) (v : ℤ) (tag : ℕ) → IsCell v → IsTag tag
    → Holds (Plain []) (Stands (constant_value at v tag))
number_plain at v tag h t = bare _ tt refl h t

name_by : (at : At) (it : Option Meaning) → ((m : Meaning) → it ≡ Some m → IsPlainMeaning m)
    → Holds (Plain []) (name_rule at it)
name_by at None k = breaks_holds _ _
name_by at (Some (Constant v tag)) k =
    let p = k (Constant v tag) refl in bare _ tt refl p.0 p.1
name_by at (Some (Variable p tag constant)) k = bare _ tt refl tt (k (Variable p tag constant) refl)
name_by at (Some (means.Array a reach tag constant)) k =
    let p = k (means.Array a reach tag constant) refl in bare _ tt refl tt p.1
name_by at (Some (Function f tag)) k = breaks_holds _ _
name_by at (Some (Native n tag)) k = breaks_holds _ _
name_by at (Some (Entering tag)) k = breaks_holds _ _
name_by at (Some Taken) k = breaks_holds _ _
name_by at (Some Unknown) k = breaks_holds _ _

record SizeCell (size : ℕ) : Type 0 where
  pub cell : IsCell (pos size)

first_cell : (first : Option ℕ) → IfSome first (λ size. IsCell (pos size))
    → IsCell (pos (size_or_zero first))
first_cell None h = small_cell 0 (omega arith)
first_cell (Some size) h = h

inner_cell : (at : At) (it : Option ℕ) → ((size : ℕ) → it ≡ Some size → IsCell (pos size))
    → Holds SizeCell (size_or_broken at it)
inner_cell at None k = breaks_holds _ _
inner_cell at (Some size) k = stands_itself _ size (record { cell = k size refl })

size_at_cell : (at : At) (reach : Extent) (dimension : ℕ) → AreCells reach
    → Holds SizeCell (size_or_broken at (size_at reach dimension))
size_at_cell at reach zero h =
    stands_itself _ _ (record { cell = first_cell reach.first h.first })
size_at_cell at reach (suc n) h =
    inner_cell at (slice_get reach.inner n) (λ size e. h.inner n size e)

one_cell : (at : At) (dimension : ℕ) → Holds SizeCell (size_of_cell at dimension)
one_cell at dimension =
    if_holds (nat_eq dimension 0)
    (stands_itself SizeCell 1 (record { cell = small_cell 1 (omega arith) }))
    (breaks_holds _ _)

size_of_cell_is : (at : At) (dimension : ℕ) (it : Option Meaning)
    → ((m : Meaning) → it ≡ Some m → IsPlainMeaning m) → Holds SizeCell (size_of at dimension it)
size_of_cell_is at dimension None k = breaks_holds _ _
size_of_cell_is at dimension (Some (Constant v tag)) k = one_cell at dimension
size_of_cell_is at dimension (Some (Variable p tag constant)) k = one_cell at dimension
size_of_cell_is at dimension (Some (means.Array a reach tag constant)) k =
    let p = k (means.Array a reach tag constant) refl in size_at_cell at reach dimension p.0
size_of_cell_is at dimension (Some (Function f tag)) k = breaks_holds _ _
size_of_cell_is at dimension (Some (Native n tag)) k = breaks_holds _ _
size_of_cell_is at dimension (Some (Entering tag)) k = breaks_holds _ _
size_of_cell_is at dimension (Some Taken) k = breaks_holds _ _
size_of_cell_is at dimension (Some Unknown) k = breaks_holds _ _

module _ (path : Scope) (known : IsPlainPath path) where
  pub name_plain : (at : At) (name : List ℕ) → Holds (Plain []) (name_rule at (found path name))
  name_plain at name = name_by at (found path name) (known.meant name)

  size_in_cell : (at : At) (operand : SizeofOperand) → IsShort operand
      → Holds SizeCell (size_in path at operand)
  size_in_cell at (sizeof.Name name dimension) h =
      size_of_cell_is at dimension (found path name.bytes) (known.meant name.bytes)
  size_in_cell at (sizeof.Text text dimension) h =
      if_holds (nat_eq dimension 0) (stands_itself SizeCell _ (record { cell = h }))
      (breaks_holds _ _)

  pub sizeof_plain : (at : At) (operand : SizeofOperand) → IsShort operand
      → Holds (Plain []) (sizeof_rule path at operand)
  unfolding sizeof_rule
  sizeof_plain at operand h =
      holds_after (size_in_cell at operand h)
      (λ size p. bare _ tt refl p.cell (small_tag 0 (omega arith)))

  pub tagof_plain : (cx : Around) (at : At) (operand : TagofOperand)
      → Holds (Plain []) (tagof_rule cx path at operand)
  unfolding tagof_rule
  tagof_plain cx at operand =
      holds_after (holds_all (tag_in cx path at operand))
      (λ tag t. bare _ tt refl (cell_of_cell tag) (small_tag 0 (omega arith)))

-- ---- operators

part_text : (held : Held) (e : Expr) (inner : List ℕ) (ls : List StaticObject)
    → HasText (indexed_part held e inner) ls
part_text held e [] ls = tt
part_text held e (size ∷ inner) ls = tt

module _ (cx : Around) (tags : HasTags cx) (at : At) where
  operator_small : (it : Operator) (tag : ℕ) → IsTag tag → IsTag (operator_tag it tag)
  operator_small between.Equal tag h = small_tag 1 (omega arith)
  operator_small between.NotEqual tag h = small_tag 1 (omega arith)
  operator_small _ tag h = h

  module _ (ms ns : List StaticObject) (x y : Typed) (p : Plain ms x) (q : Plain ns y) where
    made : (z : Typed) → HasText z.form z.literals → z.literals ≡ x.literals ++ y.literals
        → IsValue z.value → IsTag z.tag
        → Holds (Plain (ms ++ ns)) (Stands z)
    made z f e v t = stands_itself _ z (two ms ns x y z p q f e v t)

    operate_plain : (it : Operator) (l r : Expr) (by : Option Choice)
        → Holds (Plain (ms ++ ns)) (operate cx at it x y l r by)
    operate_plain it l r None =
        if_holds (divides_by_zero it y.value) (breaks_holds _ _)
        (made _ tt refl (both_value (cells.binary it) x.value y.value
        (binary_value it) p.value q.value)
        (operator_small it x.tag p.tag))
    operate_plain it l r (Some by) = made _ tt refl tt (function_tag_small cx tags by.function)

    pub between_plain : (it : Between) → Holds (Plain (ms ++ ns)) (between_rule cx at it x y)
    unfolding operator_rule logical_rule comma_rule
    between_plain (Operates it user) =
        holds_both (holds_all (cell at x)) (holds_all (cell at y)) (λ l r t u.
        operate_plain it l r (chosen cx user x.tag y.tag))
    between_plain (Decides it) =
        holds_both (holds_all (cell at x)) (holds_all (cell at y)) (λ l r t u.
        made _ tt refl (both_value _ x.value y.value
        (λ a b c d. logical_cell it a b) p.value q.value)
        (small_tag 1 (omega arith)))
    between_plain Takes =
        holds_both (holds_all (cell at x)) (holds_all (cell at y)) (λ l r t u.
        made _ tt refl (both_value _ x.value y.value (λ a b c d. d) p.value q.value) q.tag)
    between_plain Nothing = breaks_holds _ _

    -- ---- indexes

    pub index_plain : Holds (Plain (ms ++ ns)) (index_rule at x y)
    unfolding index_rule
    index_plain =
        holds_both (holds_all (array at x)) (holds_all (cell at y)) (λ held e t u.
        if_holds _ (breaks_holds _ _) (made _ (part_text held e held.extent.inner _) refl tt p.tag))

    character_in_plain : (held : Held) (e : Expr) (inner : List ℕ)
        → Holds (Plain (ms ++ ns)) (character_in at x y held e inner)
    character_in_plain held e (size ∷ inner) = breaks_holds _ _
    character_in_plain held e [] = if_holds _ (breaks_holds _ _) (made _ tt refl tt p.tag)

    pub character_plain : Holds (Plain (ms ++ ns)) (character_rule at x y)
    unfolding character_rule
    character_plain =
        holds_both (holds_all (array at x)) (holds_all (cell at y)) (λ held e t u.
        character_in_plain held e held.extent.inner)

    -- ---- assignments

    assign_cell_plain : Holds (Plain (ms ++ ns)) (assign_cell cx at x y)
    assign_cell_plain =
        holds_both (holds_all (target at x)) (holds_all (cell at y)) (λ a e t u.
        made _ tt refl tt p.tag)

    copy_plain : (to : Array) (reach : Extent) (form : Form)
        → Holds (Plain (ms ++ ns)) (copy_from cx at x y to reach form)
    copy_plain to reach (typed.Value e) = breaks_holds _ _
    copy_plain to reach (typed.Place a constant) = breaks_holds _ _
    copy_plain to reach (typed.Whole from other constant) =
        holds_after (holds_all (copied_cells at (known_line reach) (known_line other)))
        (λ cells t. made _ tt refl tt p.tag)
    copy_plain to reach (typed.Literal object size) =
        holds_after (holds_all (literal_cells at (known_line reach) size))
        (λ cells t. made _ tt refl tt p.tag)

    assign_to_plain : (form : Form) → Holds (Plain (ms ++ ns)) (assign_to cx at x y form)
    assign_to_plain (typed.Value e) = assign_cell_plain
    assign_to_plain (typed.Place a constant) = assign_cell_plain
    assign_to_plain (typed.Literal object size) = breaks_holds _ _
    assign_to_plain (typed.Whole a reach constant) =
        holds_after (holds_all (unless_constant at constant a))
        (λ to t. copy_plain to reach y.form)

    updated_plain : (it : Operator) (a : Scalar) (e : Expr) (by : Option Choice)
        → Holds (Plain (ms ++ ns)) (updated cx at it x y a e by)
    updated_plain it a e (Some by) = made _ tt refl tt p.tag
    updated_plain it a e None = if_holds _ (breaks_holds _ _) (made _ tt refl tt p.tag)

    update_by_plain : (it : Between) → Holds (Plain (ms ++ ns)) (update_by cx at it x y)
    unfolding update_rule
    update_by_plain (Operates it user) =
        holds_both (holds_all (target at x)) (holds_all (cell at y)) (λ a e t u.
        updated_plain it a e (chosen cx user x.tag y.tag))
    update_by_plain (Decides it) = breaks_holds _ _
    update_by_plain Takes = breaks_holds _ _
    update_by_plain Nothing = breaks_holds _ _

    pub assign_plain : (s : Sign) → Holds (Plain (ms ++ ns)) (assign_rule cx at s x y)
    unfolding set_rule
    assign_plain sign.Assign = assign_to_plain x.form
    assign_plain s = update_by_plain (updater_of s)

  -- ---- one operand

  module _ (ls : List StaticObject) (x : Typed) (p : Plain ls x) where
    pub kept : (z : Typed) → HasText z.form z.literals → z.literals ≡ x.literals → IsValue z.value
        → IsTag z.tag
        → Holds (Plain ls) (Stands z)
    kept z f e v t = one x z p f e v t

    operate_one_plain : (e : Expr) (built : Typed) (by : Option Choice) → Plain ls built
        → Holds (Plain ls) (Stands (operate_one cx at x e built by))
    operate_one_plain e built None q = stands_itself _ _ q
    operate_one_plain e built (Some by) q =
        kept _ tt refl tt (function_tag_small cx tags by.function)

    unary_plain : (e : Expr) (it : Prefix)
        (tag : ℕ) → IsTag tag
        → Plain ls (unary_value at it tag x e)
    unary_plain e it tag t = record {
      literals = p.literals;
      objects = p.objects;
      value = mapped_value (cells.prefix it) x.value (prefix_cell it);
      tag = t;
      text = tt;
    }

    step_plain : (up prefix : Bool) → Holds (Plain ls) (step_rule cx at up prefix x)
    unfolding step_rule
    step_plain up prefix = holds_after (holds_all (target at x)) (λ a t. kept _ tt refl tt p.tag)

    pub prefix_plain : (s : Sign) → Holds (Plain ls) (prefix_rule cx at s x)
    unfolding not_rule negate_rule invert_rule
    prefix_plain sign.Exclamation =
        holds_after (holds_all (cell at x)) (λ e t.
        operate_one_plain e _ (chosen_for_one cx op.Not x.tag)
        (unary_plain e _ bool_tag (small_tag 1 (omega arith))))
    prefix_plain sign.Minus =
        holds_after (holds_all (cell at x)) (λ e t.
        operate_one_plain e _ (chosen_for_one cx op.Neg x.tag) (unary_plain e _ x.tag p.tag))
    prefix_plain sign.Tilde =
        holds_after (holds_all (cell at x)) (λ e t.
        stands_itself _ _ (unary_plain e _ x.tag p.tag))
    prefix_plain sign.Increment = step_plain true true
    prefix_plain sign.Decrement = step_plain false true
    prefix_plain _ = breaks_holds _ _

    pub postfix_plain : (s : Sign) → Holds (Plain ls) (postfix_rule cx at s x)
    postfix_plain sign.Increment = step_plain true false
    postfix_plain sign.Decrement = step_plain false false
    postfix_plain _ = breaks_holds _ _

  -- ---- `? :` and chains

  chosen_value : (c a b : Option ℤ) → IsValue a → IsValue b → IsValue (value_of_choice c a b)
  chosen_value None a b p q = tt
  chosen_value (Some c) None b p q = tt
  chosen_value (Some c) (Some a) None p q = tt
  chosen_value (Some c) (Some a) (Some b) p q = either_cell (cells.is_true c) a b p q
    where
      either_cell : (t : Bool) (a b : ℤ) → IsCell a → IsCell b → IsCell (if t then a else b)
      either_cell true a b p q = p
      either_cell false a b p q = q

  pub choice_plain : (ls ms ns : List StaticObject) (x y z : Typed) → Plain ls x → Plain ms y
      → Plain ns z → Holds (Plain (ls ++ (ms ++ ns))) (choice_rule cx at x y z)
  unfolding choice_rule
  choice_plain ls ms ns x y z p q r =
      holds_both (holds_all (cell at x)) (holds_all (pair (cell at y) (cell at z))) (λ c parts t u.
      stands_itself _ _ (record {
        literals = ap₂ (λ (l m : List StaticObject). l ++ m) p.literals
            (ap₂ (λ (l m : List StaticObject). l ++ m) q.literals r.literals);
        objects = each_append IsGoodObject x.literals (y.literals ++ z.literals) p.objects
            (each_append IsGoodObject y.literals z.literals q.objects r.objects);
        value = chosen_value x.value y.value z.value q.value r.value;
        tag = q.tag;
        text = tt;
      }))

  chain_cell : (first : Option ℤ) (links : _) → IsValue (chain_value first links)
  chain_cell None links = tt
  chain_cell (Some v) None = tt
  chain_cell (Some v) (Some links) = truth_cell _

  link_small : (by : Option Choice) → IsTag (link_tag cx by)
  link_small None = small_tag 1 (omega arith)
  link_small (Some by) = function_tag_small cx tags by.function

  chain_small : (left : ℕ) (links : List Compared) → IsTag (chain_tag cx left links)
  chain_small left [] = small_tag 1 (omega arith)
  chain_small left (link ∷ []) = link_small (link_choice cx left link)
  chain_small left (link ∷ second ∷ more) = small_tag 1 (omega arith)

  abbrev pub operands_literals : List Compared → List StaticObject
  operands_literals links = flat_map (λ (it : Compared). it.operand.literals) links

  pub chain_plain : (ls ms : List StaticObject) (x : Typed) (links : List Compared) → Plain ls x
      → operands_literals links ≡ ms → Each IsGoodObject (operands_literals links)
      → Holds (Plain (ls ++ ms)) (chain_rule cx at x links)
  unfolding chain_rule
  chain_plain ls ms x links p e good =
      holds_both (holds_all (cell at x)) (holds_all (links_code cx at x.tag links)) (λ c more t u.
      stands_itself _ _ (record {
        literals = ap₂ (λ (l m : List StaticObject). l ++ m) p.literals e;
        objects = each_append IsGoodObject x.literals (operands_literals links) p.objects good;
        value = chain_cell x.value (links_value cx x.tag links);
        tag = chain_small x.tag links;
        text = tt;
      }))
