-- Cells, arrays, names, `sizeof`, `tagof` and indexes that stand are valid.
use Rattle.std.proofs.Common.{◌≡◌, ◌≤◌, ℕ, zero, suc, pos, List, [], ◌∷◌, Bool, Option, None, Some}
use Rattle.std.proofs.Common.{refl, sym, ◌∙◌, subst, ap, arith}
use Rattle.std.specs.Prelude.{length, slice_get, nat_eq, nat_le, is_some, IfSome}
use Rattle.std.proofs.lemmas.Bool.{leb-true}
use Rattle.pawn_cells.specs.Cells.{IsCell}
use Rattle.pawn_arrays.specs.Sizes.{cell_limit}
use Rattle.pawn_tree.specs.declared.name.At.{At}
use Rattle.pawn_tree.specs.declared.expression.SizeofOperand.{SizeofOperand}
use Rattle.pawn_tree.specs.declared.expression.SizeofOperand.TheVariants as sizeof
use Rattle.pawn_tree.specs.declared.expression.TagofOperand.{TagofOperand}
use Rattle.pawn_meaning.specs.Program.{Object, Expr, StaticObject}
use Rattle.pawn_meaning.specs.Scope.{Extent, extent, known_extent, object_extent, row_extent}
use Rattle.pawn_meaning.specs.Scope.{IsLine}
use Rattle.pawn_meaning.specs.Scope as program
use Rattle.pawn_meaning.specs.ValidExprs.{IsValidExpr}
use Rattle.names_rules.specs.Verdict.{Stands}
use Rattle.types_rules.specs.Typed.{Typed, Form, Held, cell_in, cell, array_in, array_or_broken}
use Rattle.types_rules.specs.Typed.{array, line}
use Rattle.types_rules.specs.Typed as typed
use Rattle.types_rules.specs.Around.{Around}
use Rattle.types_rules.specs.Scope.{Meaning, Constant, Variable, Function, Native, Entering, Taken}
use Rattle.types_rules.specs.Scope.{Unknown, Scope, found}
use Rattle.types_rules.specs.Scope as means
use Rattle.types_rules.specs.Texts.{text_cells, text_object}
use Rattle.types_rules.specs.NamesAndNumbers.{text_rule, name_rule, size_or_zero}
use Rattle.types_rules.specs.NamesAndNumbers.{size_at, size_or_broken}
use Rattle.types_rules.specs.NamesAndNumbers.{size_of_cell, size_of, size_in}
use Rattle.types_rules.specs.NamesAndNumbers.{sizeof_rule, tag_in, tagof_rule}
use Rattle.types_rules.specs.Indexes.{is_outside, characters, part_extent, indexed_part, index_rule}
use Rattle.types_rules.specs.Indexes.{character_in, character_rule}
use Rattle.types_rules.proofs.VerdictLaws.{Holds, stands_itself, breaks_holds, holds_after}
use Rattle.types_rules.proofs.VerdictLaws.{holds_both, holds_all}
use Rattle.types_laws.specs.Meant.{AreCells, IsReached, IsMeant, KnowsPath}
use Rattle.types_laws.specs.Placed.{IsShort}
use Rattle.types_laws.specs.ValidExpressions.{IsValidForm}
use Rattle.pawn_cells.proofs.CellLaws.{cell_of_cell, small_cell}
use Rattle.types_laws.proofs.Facts.{if_holds, when_holds}

pub record SizeCell (size : ℕ) : Type 0 where
  pub cell : IsCell (pos size)

pub record Sound (scope : program.Scope) (x : Typed) : Type 0 where
  pub form : IsValidForm scope x.form

pub record SoundCell (scope : program.Scope) (e : Expr) : Type 0 where
  pub code : IsValidExpr scope e

pub record SoundHeld (scope : program.Scope) (it : Held) : Type 0 where
  pub reached : IsReached scope it.array it.extent

-- ---- sizes

pub first_size_cell : (first : Option ℕ) → IfSome first (λ size. IsCell (pos size))
    → IsCell (pos (size_or_zero first))
first_size_cell None h = small_cell 0 (omega arith)
first_size_cell (Some size) h = h

inner_sound : (at : At) (it : Option ℕ) → ((size : ℕ) → it ≡ Some size → IsCell (pos size))
    → Holds SizeCell (size_or_broken at it)
inner_sound at None k = breaks_holds _ _
inner_sound at (Some size) k = stands_itself _ size (record { cell = k size refl })

size_at_sound : (at : At) (reach : Extent) (dimension : ℕ) → AreCells reach
    → Holds SizeCell (size_or_broken at (size_at reach dimension))
size_at_sound at reach zero h =
    stands_itself _ _ (record { cell = first_size_cell reach.first h.first })
size_at_sound at reach (suc n) h =
    inner_sound at (slice_get reach.inner n) (λ size e. h.inner n size e)

one_sound : (at : At) (dimension : ℕ) → Holds SizeCell (size_of_cell at dimension)
one_sound at dimension =
    if_holds (nat_eq dimension 0)
    (stands_itself SizeCell 1 (record { cell = small_cell 1 (omega arith) }))
    (breaks_holds _ _)

module _ (scope : program.Scope) where
  size_of_sound : (at : At) (dimension : ℕ) (it : Option Meaning)
      → ((m : Meaning) → it ≡ Some m → IsMeant scope m) → Holds SizeCell (size_of at dimension it)
  size_of_sound at dimension None k = breaks_holds _ _
  size_of_sound at dimension (Some (Constant v tag)) k = one_sound at dimension
  size_of_sound at dimension (Some (Variable p tag constant)) k = one_sound at dimension
  size_of_sound at dimension (Some (means.Array a reach tag constant)) k =
      size_at_sound at reach dimension (k (means.Array a reach tag constant) refl).cells
  size_of_sound at dimension (Some (Function f tag)) k = breaks_holds _ _
  size_of_sound at dimension (Some (Native n tag)) k = breaks_holds _ _
  size_of_sound at dimension (Some (Entering tag)) k = breaks_holds _ _
  size_of_sound at dimension (Some Taken) k = breaks_holds _ _
  size_of_sound at dimension (Some Unknown) k = breaks_holds _ _

  size_in_sound : (path : Scope) (at : At) (operand : SizeofOperand) → KnowsPath scope path
      → IsShort operand → Holds SizeCell (size_in path at operand)
  size_in_sound path at (sizeof.Name name dimension) known short =
      size_of_sound at dimension (found path name.bytes) (known.meant name.bytes)
  size_in_sound path at (sizeof.Text text dimension) known short =
      if_holds (nat_eq dimension 0) (stands_itself SizeCell _ (record { cell = short }))
      (breaks_holds _ _)

  pub stands : (x : Typed) → IsValidForm scope x.form → Holds (Sound scope) (Stands x)
  stands x p = stands_itself _ x (record { form = p })

  pub sizeof_sound : (path : Scope) (at : At) (operand : SizeofOperand) → KnowsPath scope path
      → IsShort operand → Holds (Sound scope) (sizeof_rule path at operand)
  unfolding sizeof_rule
  sizeof_sound path at operand known short =
      holds_after (size_in_sound path at operand known short) (λ size p. stands _ p.cell)

  pub tagof_sound : (cx : Around) (path : Scope) (at : At) (operand : TagofOperand)
      → Holds (Sound scope) (tagof_rule cx path at operand)
  unfolding tagof_rule
  tagof_sound cx path at operand =
      holds_after (holds_all (tag_in cx path at operand)) (λ tag t. stands _ (cell_of_cell tag))

  -- ---- texts and names

  literal_reached : (object cells : ℕ) (it : StaticObject)
      → slice_get scope.program.objects object ≡ Some it → it.sizes ≡ cells ∷ []
      → IsCell (pos cells) → IsReached scope (Object object) (line cells)
  literal_reached object cells it e s h =
      let there : extent scope (Object object) ≡ Some (line cells) =
      ap object_extent e ∙ ap known_extent s in
      record {
        array = ap (λ (reach : Option Extent). is_some reach) there;
        reaches = there;
        cells = record { first = h; inner = λ i size no. absurd (let never : ⊥ = cc in never) };
      }

  pub text_sound : (object : ℕ) (at : At) (bytes : List ℕ) (packed : Bool)
      → slice_get scope.program.objects object ≡ Some (text_object packed bytes)
      → Holds (Sound scope) (text_rule object at bytes packed)
  unfolding text_rule
  text_sound object at bytes packed e =
      when_holds (nat_le (length (text_cells packed bytes)) cell_limit) (λ within.
      let most : length (text_cells packed bytes) ≤ cell_limit = leb-true _ _ within in
      stands _ (literal_reached object (length (text_cells packed bytes))
      (text_object packed bytes) e refl
      (small_cell (length (text_cells packed bytes)) (omega (arith, most)))))
      (breaks_holds _ _)

  pub name_sound : (at : At) (it : Option Meaning)
      → ((m : Meaning) → it ≡ Some m → IsMeant scope m) → Holds (Sound scope) (name_rule at it)
  name_sound at None k = breaks_holds _ _
  name_sound at (Some (Constant v tag)) k = stands _ (k (Constant v tag) refl)
  name_sound at (Some (Variable p tag constant)) k = stands _ (k (Variable p tag constant) refl)
  name_sound at (Some (means.Array a reach tag constant)) k =
      stands _ (k (means.Array a reach tag constant) refl)
  name_sound at (Some (Function f tag)) k = breaks_holds _ _
  name_sound at (Some (Native n tag)) k = breaks_holds _ _
  name_sound at (Some (Entering tag)) k = breaks_holds _ _
  name_sound at (Some Taken) k = breaks_holds _ _
  name_sound at (Some Unknown) k = breaks_holds _ _

  -- ---- what surroundings ask

  cell_in_sound : (at : At) (form : Form) → IsValidForm scope form
      → Holds (SoundCell scope) (cell_in at form)
  cell_in_sound at (typed.Value e) p = stands_itself _ _ (record { code = p })
  cell_in_sound at (typed.Place a constant) p = stands_itself _ _ (record { code = p })
  cell_in_sound at (typed.Whole a reach constant) p = breaks_holds _ _
  cell_in_sound at (typed.Literal object cells) p = breaks_holds _ _

  pub cell_sound : (at : At) (x : Typed) → Sound scope x → Holds (SoundCell scope) (cell at x)
  cell_sound at x p = cell_in_sound at x.form p.form

  array_in_sound : (at : At) (form : Form) → IsValidForm scope form
      → Holds (SoundHeld scope) (array_or_broken at (array_in form))
  array_in_sound at (typed.Value e) p = breaks_holds _ _
  array_in_sound at (typed.Place a constant) p = breaks_holds _ _
  array_in_sound at (typed.Whole a reach constant) p = stands_itself _ _ (record { reached = p })
  array_in_sound at (typed.Literal object cells) p = stands_itself _ _ (record { reached = p })

  pub array_sound : (at : At) (x : Typed) → Sound scope x → Holds (SoundHeld scope) (array at x)
  array_sound at x p = array_in_sound at x.form p.form

  -- ---- indexes

  is_line : (held : Held) → held.extent.inner ≡ [] → SoundHeld scope held
      → IsLine (extent scope held.array)
  is_line held same h =
      subst (λ (reach : Option Extent). IsLine reach) (sym h.reached.reaches) same

  row_cells : (reach : Extent) (size : ℕ) (inner : List ℕ) → reach.inner ≡ size ∷ inner
      → AreCells reach → AreCells (part_extent size inner)
  row_cells reach size inner same h = record {
    first = h.inner 0 size (ap (λ (l : List ℕ). slice_get l 0) same);
    inner = λ i s e. h.inner (suc i) s (ap (λ (l : List ℕ). slice_get l (suc i)) same ∙ e);
  }

  part_sound : (held : Held) (e : Expr) (inner : List ℕ) → held.extent.inner ≡ inner
      → SoundHeld scope held → IsValidExpr scope e → IsValidForm scope (indexed_part held e inner)
  part_sound held e [] same h p = (is_line held same h, h.reached.array, p)
  part_sound held e (size ∷ inner) same h p =
      let rows : ¬ (held.extent.inner ≡ []) = λ none. let no : ⊥ = cc in no in
      record {
        array = (
          subst (λ (reach : Option Extent). program.HasRows reach)
              (sym h.reached.reaches) rows,
          h.reached.array,
          p,
        );
        reaches = ap row_extent h.reached.reaches ∙ ap known_extent same;
        cells = row_cells held.extent size inner same h.reached.cells;
      }

  pub index_sound : (at : At) (x i : Typed) → Sound scope x → Sound scope i
      → Holds (Sound scope) (index_rule at x i)
  unfolding index_rule
  index_sound at x i p q =
      holds_both (array_sound at x p) (cell_sound at i q) (λ held e s t.
      if_holds (is_outside held.extent.first i.value) (breaks_holds _ _)
      (stands _ (part_sound held e held.extent.inner refl s t.code)))

  character_in_sound : (at : At) (x i : Typed) (held : Held) (e : Expr) (inner : List ℕ)
      → held.extent.inner ≡ inner → SoundHeld scope held → IsValidExpr scope e
      → Holds (Sound scope) (character_in at x i held e inner)
  character_in_sound at x i held e (size ∷ inner) same h p = breaks_holds _ _
  character_in_sound at x i held e [] same h p =
      if_holds (is_outside (characters held.extent.first) i.value) (breaks_holds _ _)
      (stands _ (is_line held same h, h.reached.array, p))

  pub character_sound : (at : At) (x i : Typed) → Sound scope x → Sound scope i
      → Holds (Sound scope) (character_rule at x i)
  unfolding character_rule
  character_sound at x i p q =
      holds_both (array_sound at x p) (cell_sound at i q) (λ held e s t.
      character_in_sound at x i held e held.extent.inner refl s t.code)
