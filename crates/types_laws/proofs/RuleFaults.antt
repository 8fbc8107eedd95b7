-- The rules of names and operators break only with a fault.
use Rattle.std.proofs.Common.{◌≡◌, ℕ, List, [], ◌∷◌, Bool, true, false, Option, None, Some, refl}
use Rattle.pawn_token.specs.declared.sign.Sign.{Sign}
use Rattle.pawn_token.specs.declared.sign.Sign.TheVariants as sign
use Rattle.pawn_cells.specs.declared.operator.Operator.{Operator}
use Rattle.pawn_tree.specs.declared.name.At.{At}
use Rattle.pawn_tree.specs.declared.expression.SizeofOperand.{SizeofOperand}
use Rattle.pawn_tree.specs.declared.expression.SizeofOperand.TheVariants as sizeof
use Rattle.pawn_tree.specs.declared.expression.TagofOperand.{TagofOperand}
use Rattle.pawn_tree.specs.declared.expression.TagofOperand.TheVariants as tagof
use Rattle.pawn_tags.specs.declared.operators.Choice.{Choice}
use Rattle.pawn_meaning.specs.Program.{Scalar, Array, Expr}
use Rattle.pawn_meaning.specs.Scope.{Extent}
use Rattle.names_rules.specs.Signs.{Between, Operates, Decides, Takes, Nothing, Link, Compares}
use Rattle.names_rules.specs.Signs.{No_link}
use Rattle.types_rules.specs.Typed.{Typed, Form, Held, cell_in, cell, array_in, array_or_broken}
use Rattle.types_rules.specs.Typed.{array}
use Rattle.types_rules.specs.Typed as typed
use Rattle.types_rules.specs.Around.{Around}
use Rattle.types_rules.specs.Scope.{Meaning, Constant, Variable, Function, Native, Entering, Taken}
use Rattle.types_rules.specs.Scope.{Unknown, Scope, found}
use Rattle.types_rules.specs.Scope as means
use Rattle.types_rules.specs.NamesAndNumbers.{text_rule, name_rule, size_or_broken, size_of}
use Rattle.types_rules.specs.NamesAndNumbers.{size_in, sizeof_rule, tag_of_meaning, tag_in}
use Rattle.types_rules.specs.NamesAndNumbers.{tagof_rule, size_at}
use Rattle.types_rules.specs.Operators.{operate, operator_rule, logical_rule, comma_rule}
use Rattle.types_rules.specs.Operators.{between_rule, not_rule, negate_rule, invert_rule, chosen}
use Rattle.types_rules.specs.Prefixes.{prefix_rule, postfix_rule}
use Rattle.types_rules.specs.Indexes.{index_rule, character_in, character_rule}
use Rattle.types_rules.specs.Choices.{choice_rule}
use Rattle.types_rules.specs.Chains.{Compared, compared, links_code, chain_rule}
use Rattle.types_rules.specs.Assignments.{unless_constant, target_in, target, assign_cell}
use Rattle.types_rules.specs.Assignments.{cells_or_broken, copied_cells, literal_cells, known_line}
use Rattle.types_rules.specs.Assignments.{copy_from, assign_to, set_rule, updated, update_rule}
use Rattle.types_rules.specs.Assignments.{update_by, assign_rule, step_rule}
use Rattle.types_rules.specs.Signs.{updater_of}
use Rattle.types_laws.proofs.Blames.{Blames, stood, blamed, when, blames_after, blames_both}
use Rattle.types_laws.proofs.Blames.{blames_pair}
use Rattle.types_laws.proofs.PathLaws.{AllMeant}

-- ---- what surroundings ask

cell_in_blames : (at : At) (form : Form) → Blames (cell_in at form)
cell_in_blames at (typed.Value e) = stood _
cell_in_blames at (typed.Place p constant) = stood _
cell_in_blames at (typed.Whole a extent constant) = blamed _ _
cell_in_blames at (typed.Literal object cells) = blamed _ _

pub cell_blames : (at : At) (x : Typed) → Blames (cell at x)
cell_blames at x = cell_in_blames at x.form

held_blames : (at : At) (it : Option Held) → Blames (array_or_broken at it)
held_blames at None = blamed _ _
held_blames at (Some held) = stood held

array_blames : (at : At) (x : Typed) → Blames (array at x)
array_blames at x = held_blames at (array_in x.form)

constant_blames : {A : Type 0} (at : At) (constant : Bool) (x : A)
    → Blames (unless_constant at constant x)
constant_blames at true x = blamed _ _
constant_blames at false x = stood x

target_in_blames : (at : At) (form : Form) → Blames (target_in at form)
target_in_blames at (typed.Value e) = blamed _ _
target_in_blames at (typed.Place p constant) = constant_blames at constant p
target_in_blames at (typed.Whole a extent constant) = blamed _ _
target_in_blames at (typed.Literal object cells) = blamed _ _

target_blames : (at : At) (x : Typed) → Blames (target at x)
target_blames at x = target_in_blames at x.form

-- ---- names

-- nothing that a name means is unknown
abbrev pub IsKnown : Meaning → Type 0
IsKnown it = it ≡ Unknown → ⊥

pub text_blames : (object : ℕ) (at : At) (bytes : List ℕ) (packed : Bool)
    → Blames (text_rule object at bytes packed)
unfolding text_rule
text_blames object at bytes packed = when _ (stood _) (blamed _ _)

name_by : (at : At) (it : Option Meaning) → ((m : Meaning) → it ≡ Some m → IsKnown m)
    → Blames (name_rule at it)
name_by at None k = blamed _ _
name_by at (Some (Constant v tag)) k = stood _
name_by at (Some (Variable p tag constant)) k = stood _
name_by at (Some (means.Array a reach tag constant)) k = stood _
name_by at (Some (Function f tag)) k = blamed _ _
name_by at (Some (Native n tag)) k = blamed _ _
name_by at (Some (Entering tag)) k = blamed _ _
name_by at (Some Taken) k = blamed _ _
name_by at (Some Unknown) k = absurd (k Unknown refl refl)

size_or_blames : (at : At) (it : Option ℕ) → Blames (size_or_broken at it)
size_or_blames at None = blamed _ _
size_or_blames at (Some size) = stood size

size_of_blames : (at : At) (dimension : ℕ) (it : Option Meaning)
    → ((m : Meaning) → it ≡ Some m → IsKnown m) → Blames (size_of at dimension it)
size_of_blames at dimension None k = blamed _ _
size_of_blames at dimension (Some (Constant v tag)) k = when _ (stood _) (blamed _ _)
size_of_blames at dimension (Some (Variable p tag constant)) k = when _ (stood _) (blamed _ _)
size_of_blames at dimension (Some (means.Array a reach tag constant)) k =
    size_or_blames at (size_at reach dimension)
size_of_blames at dimension (Some (Function f tag)) k = blamed _ _
size_of_blames at dimension (Some (Native n tag)) k = blamed _ _
size_of_blames at dimension (Some (Entering tag)) k = blamed _ _
size_of_blames at dimension (Some Taken) k = blamed _ _
size_of_blames at dimension (Some Unknown) k = absurd (k Unknown refl refl)

tag_of_meaning_blames : (at : At) (it : Option Meaning) → ((m : Meaning) → it ≡ Some m → IsKnown m)
    → Blames (tag_of_meaning at it)
tag_of_meaning_blames at None k = blamed _ _
tag_of_meaning_blames at (Some (Constant v tag)) k = stood tag
tag_of_meaning_blames at (Some (Variable p tag constant)) k = stood tag
tag_of_meaning_blames at (Some (means.Array a reach tag constant)) k = stood tag
tag_of_meaning_blames at (Some (Function f tag)) k = stood tag
tag_of_meaning_blames at (Some (Native n tag)) k = stood tag
tag_of_meaning_blames at (Some (Entering tag)) k = stood tag
tag_of_meaning_blames at (Some Taken) k = blamed _ _
tag_of_meaning_blames at (Some Unknown) k = absurd (k Unknown refl refl)

module _ (path : Scope) (known : AllMeant IsKnown path) where
  pub name_blames : (at : At) (name : List ℕ) → Blames (name_rule at (found path name))
  name_blames at name = name_by at (found path name) (known.meant name)

  size_in_blames : (at : At) (operand : SizeofOperand) → Blames (size_in path at operand)
  size_in_blames at (sizeof.Name name dimension) =
      size_of_blames at dimension (found path name.bytes) (known.meant name.bytes)
  size_in_blames at (sizeof.Text text dimension) = when _ (stood _) (blamed _ _)

  pub sizeof_blames : (at : At) (operand : SizeofOperand) → Blames (sizeof_rule path at operand)
  unfolding sizeof_rule
  sizeof_blames at operand = blames_after (size_in_blames at operand) (λ size e. stood _)

  tag_in_blames : (cx : Around) (at : At) (operand : TagofOperand)
      → Blames (tag_in cx path at operand)
  tag_in_blames cx at (tagof.Name name) =
      tag_of_meaning_blames at (found path name.bytes) (known.meant name.bytes)
  tag_in_blames cx at (tagof.Tag name) = stood _

  pub tagof_blames : (cx : Around) (at : At) (operand : TagofOperand)
      → Blames (tagof_rule cx path at operand)
  unfolding tagof_rule
  tagof_blames cx at operand = blames_after (tag_in_blames cx at operand) (λ tag e. stood _)

-- ---- operators

module _ (cx : Around) (at : At) where
  operate_blames : (it : Operator) (x y : Typed) (l r : Expr) (by : Option Choice)
      → Blames (operate cx at it x y l r by)
  operate_blames it x y l r None = when _ (blamed _ _) (stood _)
  operate_blames it x y l r (Some by) = stood _

  pub between_blames : (it : Between) (x y : Typed) → Blames (between_rule cx at it x y)
  unfolding operator_rule logical_rule comma_rule
  between_blames (Operates it user) x y =
      blames_both (cell_blames at x) (λ l e. cell_blames at y)
      (λ l r e e2. operate_blames it x y l r (chosen cx user x.tag y.tag))
  between_blames (Decides it) x y =
      blames_both (cell_blames at x) (λ l e. cell_blames at y) (λ l r e e2. stood _)
  between_blames Takes x y =
      blames_both (cell_blames at x) (λ l e. cell_blames at y) (λ l r e e2. stood _)
  between_blames Nothing x y = blamed _ _

  step_blames : (up prefix : Bool) (x : Typed) → Blames (step_rule cx at up prefix x)
  unfolding step_rule
  step_blames up prefix x = blames_after (target_blames at x) (λ p e. stood _)

  pub prefix_blames : (s : Sign) (x : Typed) → Blames (prefix_rule cx at s x)
  unfolding not_rule negate_rule invert_rule
  prefix_blames sign.Exclamation x = blames_after (cell_blames at x) (λ c e. stood _)
  prefix_blames sign.Minus x = blames_after (cell_blames at x) (λ c e. stood _)
  prefix_blames sign.Tilde x = blames_after (cell_blames at x) (λ c e. stood _)
  prefix_blames sign.Increment x = step_blames true true x
  prefix_blames sign.Decrement x = step_blames false true x
  prefix_blames _ x = blamed _ _

  pub postfix_blames : (s : Sign) (x : Typed) → Blames (postfix_rule cx at s x)
  postfix_blames sign.Increment x = step_blames true false x
  postfix_blames sign.Decrement x = step_blames false false x
  postfix_blames _ x = blamed _ _

  -- ---- indexes

  pub index_blames : (x i : Typed) → Blames (index_rule at x i)
  unfolding index_rule
  index_blames x i =
      blames_both (array_blames at x) (λ held e. cell_blames at i)
      (λ held c e e2. when _ (blamed _ _) (stood _))

  character_in_blames : (x i : Typed) (held : Held) (e : Expr) (inner : List ℕ)
      → Blames (character_in at x i held e inner)
  character_in_blames x i held e [] = when _ (blamed _ _) (stood _)
  character_in_blames x i held e (size ∷ inner) = blamed _ _

  pub character_blames : (x i : Typed) → Blames (character_rule at x i)
  unfolding character_rule
  character_blames x i =
      blames_both (array_blames at x) (λ held e. cell_blames at i)
      (λ held c e e2. character_in_blames x i held c held.extent.inner)

  -- ---- `? :` and chains

  pub choice_blames : (x y z : Typed) → Blames (choice_rule cx at x y z)
  unfolding choice_rule
  choice_blames x y z =
      blames_both (cell_blames at x)
      (λ c e. blames_pair (cell_blames at y) (cell_blames at z)) (λ c parts e e2. stood _)

  pub compared_blames : (it : Link) (x : Typed) → Blames (compared at it x)
  compared_blames No_link x = blamed _ _
  compared_blames (Compares s user) x = stood _

  links_blame : (left : ℕ) (links : List Compared) → Blames (links_code cx at left links)
  unfolding links_code
  links_blame left [] = stood _
  links_blame left (link ∷ more) =
      blames_both (cell_blames at link.operand) (λ c e. links_blame link.operand.tag more)
      (λ c rest e e2. stood _)

  pub chain_blames : (x : Typed) (links : List Compared) → Blames (chain_rule cx at x links)
  unfolding chain_rule
  chain_blames x links =
      blames_both (cell_blames at x) (λ c e. links_blame x.tag links) (λ c more e e2. stood _)

  -- ---- assignments

  assign_cell_blames : (x y : Typed) → Blames (assign_cell cx at x y)
  assign_cell_blames x y =
      blames_both (target_blames at x) (λ p e. cell_blames at y) (λ p c e e2. stood _)

  cells_or_blames : (b : Bool) (cells : ℕ) → Blames (cells_or_broken at b cells)
  cells_or_blames true cells = stood cells
  cells_or_blames false cells = blamed _ _

  copied_blames : (to from : Option ℕ) → Blames (copied_cells at to from)
  copied_blames None from = blamed _ _
  copied_blames (Some to) None = blamed _ _
  copied_blames (Some to) (Some from) = cells_or_blames _ from

  literal_blames : (to : Option ℕ) (from : ℕ) → Blames (literal_cells at to from)
  literal_blames None from = blamed _ _
  literal_blames (Some to) from = cells_or_blames _ from

  copy_blames : (x y : Typed) (to : Array) (extent : Extent) (form : Form)
      → Blames (copy_from cx at x y to extent form)
  copy_blames x y to extent (typed.Value e) = blamed _ _
  copy_blames x y to extent (typed.Place p constant) = blamed _ _
  copy_blames x y to extent (typed.Whole from reach constant) =
      blames_after (copied_blames (known_line extent) (known_line reach)) (λ cells e. stood _)
  copy_blames x y to extent (typed.Literal object size) =
      blames_after (literal_blames (known_line extent) size) (λ cells e. stood _)

  assign_to_blames : (x y : Typed) (form : Form) → Blames (assign_to cx at x y form)
  assign_to_blames x y (typed.Value e) = assign_cell_blames x y
  assign_to_blames x y (typed.Place p constant) = assign_cell_blames x y
  assign_to_blames x y (typed.Literal object cells) = blamed _ _
  assign_to_blames x y (typed.Whole a extent constant) =
      blames_after (constant_blames at constant a) (λ to e. copy_blames x y to extent y.form)

  updated_blames : (it : Operator) (x y : Typed) (p : Scalar) (c : Expr) (by : Option Choice)
      → Blames (updated cx at it x y p c by)
  updated_blames it x y p c (Some by) = stood _
  updated_blames it x y p c None = when _ (blamed _ _) (stood _)

  update_by_blames : (it : Between) (x y : Typed) → Blames (update_by cx at it x y)
  unfolding update_rule
  update_by_blames (Operates it user) x y =
      blames_both (target_blames at x) (λ p e. cell_blames at y)
      (λ p c e e2. updated_blames it x y p c (chosen cx user x.tag y.tag))
  update_by_blames (Decides it) x y = blamed _ _
  update_by_blames Takes x y = blamed _ _
  update_by_blames Nothing x y = blamed _ _

  pub assign_blames : (s : Sign) (x y : Typed) → Blames (assign_rule cx at s x y)
  unfolding set_rule
  assign_blames sign.Assign x y = assign_to_blames x y x.form
  assign_blames s x y = update_by_blames (updater_of s) x y
