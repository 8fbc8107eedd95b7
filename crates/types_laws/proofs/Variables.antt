-- Variables and constants of a block: they are valid where they stand, and what stands behind them
-- sees what their names mean.
use Rattle.std.proofs.Common.{◌≡◌, inr, ◌+◌, ℕ, List, [], ◌∷◌, ◌++◌, Bool, false, Option, None}
use Rattle.std.proofs.Common.{Some, refl, sym, ap, ◌∙◌, subst, arith}
use Rattle.std.specs.Prelude.{length}
use Rattle.std.proofs.lemmas.List.{append_assoc, append-nil, length-append}
use Rattle.pawn_tree.specs.declared.name.At.{At}
use Rattle.pawn_tree.specs.declared.name.Name as n
use Rattle.pawn_tree.specs.declared.variable.Storage.{Storage}
use Rattle.pawn_tree.specs.declared.variable.Storage.TheVariants as storage
use Rattle.pawn_tree.specs.Variables.{Dim, Init, Value, Braces, Var}
use Rattle.pawn_tree.specs.Statements.{ConstantOf}
use Rattle.pawn_meaning.specs.Program.{ScalarSlot, SlotArray, Own, Global}
use Rattle.pawn_meaning.specs.Program as code
use Rattle.pawn_meaning.specs.Scope.{Extent}
use Rattle.pawn_meaning.specs.Scope as program
use Rattle.pawn_meaning.specs.Valid.{numbers_from}
use Rattle.pawn_meaning.specs.ValidExprs.{IsValidExpr}
use Rattle.pawn_meaning.specs.ValidStmts.{slots_made_by}
use Rattle.names_rules.specs.Verdict.{Verdict, Stands, Breaks, after}
use Rattle.types_rules.specs.Around.{Around}
use Rattle.types_rules.specs.Scope.{Scope, Meaning, Entry}
use Rattle.types_rules.specs.Scope as means
use Rattle.types_rules.proofs.VerdictLaws.{Holds, stands_itself, breaks_holds, holds_after}
use Rattle.types_rules.proofs.VerdictLaws.{holds_both, holds_all, holds_also, holds_unless}
use Rattle.types_rules.specs.Constants as constants
use Rattle.types_rules.specs.FirstValues as values
use Rattle.types_rules.specs.Arrays.{Shaped, ArrayValue, shaped, array_value}
use Rattle.types_rules.specs.FirstValues.{cells_or_zeros}
use Rattle.types_rules.specs.Cells.{LocalValue, local_value, static_value}
use Rattle.types_rules.specs.Counts.{slots_of_storage, literals_of_init, objects_by}
use Rattle.types_rules.specs.Points.{Point, beyond, declared, tag_of, extent_of, array_means}
use Rattle.types_rules.specs.Points.{constant_means, array_place, var_by, behind_var, behind_vars}
use Rattle.types_rules.specs.Points.{behind_constant}
use Rattle.types_rules.specs.Stood.{Stood, stood_behind, nothing_stood, stmts_in}
use Rattle.types_rules.specs.Locals.{fresh_name, new_cell, new_array, static_cell, local_cell}
use Rattle.types_rules.specs.Locals.{array_by, local_by, locals, vars_parts, local_vars}
use Rattle.types_rules.specs.Locals.{local_constant}
use Rattle.types_laws.specs.Known.{KnowsAround}
use Rattle.types_laws.specs.ValidExpressions.{ExpressionsAreValid}
use Rattle.types_laws.specs.Objects.{Each, IsGoodObject}
use Rattle.types_laws.specs.Written.{IsAnyName, IsWritten, IsWrittenDim, IsWrittenInit}
use Rattle.types_laws.specs.Written.{IsWrittenVar}
use Rattle.types_laws.specs.Plain.{IsTag, HasTags}
use Rattle.pawn_cells.proofs.CellLaws.{small_cell}
use Rattle.types_laws.proofs.Facts.{each_append}
use Rattle.types_laws.proofs.RuleValues.{tag_number_small}
use Rattle.types_laws.proofs.ArrayValues.{PlainConstant, GoodArray, GoodCells, constant_plain}
use Rattle.types_laws.proofs.ArrayValues.{array_value_good, static_good, array_object, cell_object}
use Rattle.types_laws.specs.Sits.{Sits}
use Rattle.types_laws.specs.Seen.{IsSeen, IsSeenPath}
use Rattle.types_laws.specs.ValidStatements.{IsGoodSlot}
use Rattle.types_laws.proofs.ListPartLaws.{made_last, sits_left, sits_right, sits_at}
use Rattle.types_laws.proofs.ListPartLaws.{numbers_joined, made_append, all_made_append}
use Rattle.types_laws.proofs.ListPartLaws.{valid_append}
use Rattle.types_laws.proofs.SeenLaws.{seen_more, seen_with, plain_path}
use Rattle.types_laws.proofs.Expressions.{expr_fine, sent_valid, cell_valid, texts_count}
use Rattle.types_laws.proofs.Bodies.{Place, scope_at, Here, SoundStatements, StandsSound}
use Rattle.types_laws.proofs.Bodies.{scalar_good, object_there, slot_there, cell_there}

module _ (law : ExpressionsAreValid) (place : Place) (cx : Around) (Calls : List ℕ → Type 0)
    (known : KnowsAround place.program cx) (tags : HasTags cx) where
  pub tag_small : (tag : Option n.Name) → IsTag (tag_of cx tag)
  tag_small None = omega arith
  tag_small (Some tag) = tag_number_small cx tags tag.bytes

  -- one more name
  pub here_with : (made : List ℕ) (point : Point) (objects slots : ℕ) (more : List ℕ) (it : Entry)
      → Here place cx Calls made point
      → IsSeen (scope_at place (made ++ more)) cx Calls it.name it.means
      → Here place cx Calls (made ++ more) (declared (beyond point objects slots) (it ∷ []))
  here_with made point objects slots more it here h = record {
    path = seen_with cx Calls (scope_at place (made ++ more)) point.scope it
        (seen_more cx Calls (scope_at place made) more point.scope here.path) h;
    low = omega (arith, here.low);
  }

  -- ---- first values

  record LocalFine (made : List ℕ) (before n : ℕ) (it : LocalValue) : Type 0 where
    pub objects : Each IsGoodObject it.literals
    pub count : length it.literals ≡ n
    pub valid : Sits place.program.objects before it.literals
        → IsValidExpr (scope_at place made) it.code

  local_value_fine : (made : List ℕ) (path : Scope) → IsSeenPath (scope_at place made) cx Calls path
      → (before : ℕ) (at : At) (tag : ℕ) (init : Option Init) → IsWrittenInit Calls init
      → Holds (LocalFine made before (literals_of_init init))
      (local_value cx path before at tag init)
  local_value_fine made path seen before at tag None w =
      stands_itself _ _ (record {
        objects = tt;
        count = refl;
        valid = λ fits. small_cell 0 (omega arith);
      })
  local_value_fine made path seen before at tag (Some (Value it)) w =
      holds_after (expr_fine law (scope_at place made) cx Calls known tags path seen before it w)
      (λ x p. holds_after (cell_valid (scope_at place made) at x) (λ c q.
      stands_itself _ _ (record {
        objects = p.plain.objects;
        count = ap length p.plain.literals ∙ texts_count it;
        valid = λ fits.
            sent_valid law (scope_at place made) cx Calls known tags (tag ∷ []) x.tag x.at c
            (q.valid (p.valid fits));
      })))
  local_value_fine made path seen before at tag (Some (Braces braces xs goes_on)) w =
      breaks_holds _ _

  module _ (at : At) (in_loop : Bool) where
    -- the point behind a variable with these dimensions
    abbrev behind_by : Point → Storage → Bool → Var → List Dim → Point
    behind_by point kind constant x dims =
        declared (beyond point (objects_by kind dims x.init) (slots_of_storage kind))
        (record { name = x.name.bytes; means = var_by cx point at kind constant x dims } ∷ [])

    new_cell_sound : (point : Point) (constant : Bool) (x : Var) (it : LocalValue) (made : List ℕ)
        → Here place cx Calls made point
        → LocalFine made point.objects (literals_of_init x.init) it
        → Sits place.program.objects point.objects it.literals
        → Sits place.slots point.slots (ScalarSlot ∷ [])
        → SoundStatements place cx Calls made point in_loop
        (declared (beyond point (literals_of_init x.init) 1)
        (record {
          name = x.name.bytes;
          means = means.Variable (Own point.slots) (tag_of cx x.tag) constant;
        } ∷ []))
        (new_cell point it)
    new_cell_sound point constant x it made here p fits slots = record {
      valid = ((refl, here.low, slots.0, p.valid fits), tt);
      all_made = refl;
      slots = (scalar_good, tt);
      objects = p.objects;
      behind = here_with made point (literals_of_init x.init) 1 (point.slots ∷ []) _ here
          ((slots.0, inr (made_last made point.slots)), tag_small x.tag);
      at_objects = ap (λ m. point.objects + m) (sym p.count);
      at_slots = refl;
    }

    new_cell_holds : (point : Point) (constant : Bool) (x : Var) → IsWrittenInit Calls x.init
        → Holds (StandsSound place cx Calls in_loop point
        (declared (beyond point (literals_of_init x.init) 1)
        (record {
          name = x.name.bytes;
          means = means.Variable (Own point.slots) (tag_of cx x.tag) constant;
        } ∷ [])))
        (after (local_value cx point.scope point.objects at (tag_of cx x.tag) x.init)
        (λ it. Stands (new_cell point it)))
    new_cell_holds point constant x w =
        holds_after {P = λ it. (made : List ℕ) → Here place cx Calls made point
        → LocalFine made point.objects (literals_of_init x.init) it}
        (record {
          of = λ it e made here.
              (local_value_fine made point.scope here.path point.objects at (tag_of cx x.tag) x.init
              w).of it e;
        })
        (λ it p. stands_itself _ (new_cell point it) (record {
          sound = λ made here fits slots.
              new_cell_sound point constant x it made here (p made here) fits slots;
        }))

    -- ---- variables that are objects

    static_cell_sound : (point : Point) (constant : Bool) (x : Var) (it : values.First)
        (made : List ℕ) → Here place cx Calls made point → GoodCells 1 it
        → Sits place.program.objects point.objects
        (record { sizes = 1 ∷ []; constant = constant; first = it.cells } ∷ [])
        → SoundStatements place cx Calls made point in_loop
        (declared (beyond point 1 0)
        (record {
          name = x.name.bytes;
          means = means.Variable (Global point.objects) (tag_of cx x.tag) constant;
        } ∷ []))
        (static_cell constant it)
    static_cell_sound point constant x it made here p fits = record {
      valid = tt;
      all_made = refl;
      slots = tt;
      objects = (cell_object it constant p, tt);
      behind = here_with made point 1 0 [] _ here
          (cell_there _ _ fits.0 refl, tag_small x.tag);
      at_objects = refl;
      at_slots = refl;
    }

    static_cell_holds : (Named : List ℕ → Type 0) (point : Point) (constant : Bool) (x : Var)
        → IsWrittenInit Named x.init
        → Holds (StandsSound place cx Calls in_loop point
        (declared (beyond point 1 0)
        (record {
          name = x.name.bytes;
          means = means.Variable (Global point.objects) (tag_of cx x.tag) constant;
        } ∷ [])))
        (after (static_value cx point.scope at (tag_of cx x.tag) x.init)
        (λ it. Stands (static_cell constant it)))
    static_cell_holds Named point constant x w =
        holds_after {P = λ it. (made : List ℕ) → Here place cx Calls made point → GoodCells 1 it}
        (record {
          of = λ it e made here.
              (static_good cx tags point.scope
              (plain_path cx Calls (scope_at place made) point.scope here.path) at
              (tag_of cx x.tag) Named x.init w).of it e;
        })
        (λ it p. stands_itself _ (static_cell constant it) (record {
          sound = λ made here fits slots.
              static_cell_sound point constant x it made here (p made here) fits;
        }))

    -- ---- arrays

    array_means_is : (a : code.Array) (tag : ℕ) (constant : Bool) (w : Verdict Shaped)
        (cells : Shaped → Verdict values.First)
        → Holds (λ (it : ArrayValue). array_means a tag constant w
        ≡ means.Array a (extent_of it.sizes) tag constant)
        (after w (λ it. after (cells it) (λ values.
        Stands (record {
          sizes = it.sizes;
          cells = values.cells;
          warned = it.warned ++ values.warned;
        }))))
    array_means_is a tag constant (Stands it) cells =
        holds_after (holds_all (cells it)) (λ v t. stands_itself _ _ refl)
    array_means_is a tag constant (Breaks found) cells = breaks_holds _ _

    seen_array : (made : List ℕ) (name : List ℕ) (m : Meaning) (a : code.Array) (reach : Extent)
        (tag : ℕ) (constant : Bool) → m ≡ means.Array a reach tag constant
        → IsSeen (scope_at place made) cx Calls name (means.Array a reach tag constant)
        → IsSeen (scope_at place made) cx Calls name m
    seen_array made name m a reach tag constant e h =
        subst (λ (it : Meaning). IsSeen (scope_at place made) cx Calls name it) (sym e) h

    slot_array_sound : (point : Point) (constant : Bool) (x : Var) (m : Meaning) (it : ArrayValue)
        (made : List ℕ) → Here place cx Calls made point
        → m ≡ means.Array (SlotArray point.slots) (extent_of it.sizes) (tag_of cx x.tag) constant
        → GoodArray it → Sits place.program.objects point.objects (new_array point it).objects
        → Sits place.slots point.slots (new_array point it).slots
        → SoundStatements place cx Calls made point in_loop
        (declared (beyond point 1 1) (record { name = x.name.bytes; means = m } ∷ []))
        (new_array point it)
    slot_array_sound point constant x m it made here e p fits slots = record {
      valid = (
        (
          refl,
          record {
            object = record { sizes = it.sizes; constant = false; first = it.cells };
            there = fits.0;
            slot = slots.0;
            local = here.low;
          },
        ),
        tt,
      );
      all_made = refl;
      slots = (record { valid = p.shape.dims; within = p.shape.within }, tt);
      objects = (array_object it false p, tt);
      behind = here_with made point 1 1 (point.slots ∷ []) _ here
          (seen_array (made ++ point.slots ∷ []) x.name.bytes m _ _ _ constant e (
            (
              slot_there (scope_at place made) point.slots it.sizes slots.0 p.shape.dims,
              made_last made point.slots,
            ),
            p.shape.reach,
            tag_small x.tag,
          ));
      at_objects = refl;
      at_slots = refl;
    }

    array_sound : (point : Point) (kind : Storage) (constant : Bool) (x : Var) (m : Meaning)
        (it : ArrayValue) (made : List ℕ) → Here place cx Calls made point
        → m ≡ means.Array (array_place kind point) (extent_of it.sizes) (tag_of cx x.tag) constant
        → GoodArray it
        → Sits place.program.objects point.objects (array_by cx point kind constant it).objects
        → Sits place.slots point.slots (array_by cx point kind constant it).slots
        → SoundStatements place cx Calls made point in_loop
        (declared (beyond point 1 (slots_of_storage kind))
        (record { name = x.name.bytes; means = m } ∷ []))
        (array_by cx point kind constant it)
    array_sound point storage.New constant x m it made here e p fits slots =
        slot_array_sound point constant x m it made here e p fits slots
    array_sound point storage.Stock constant x m it made here e p fits slots =
        slot_array_sound point constant x m it made here e p fits slots
    array_sound point storage.Static constant x m it made here e p fits slots = record {
      valid = tt;
      all_made = refl;
      slots = tt;
      objects = (array_object it constant p, tt);
      behind = here_with made point 1 0 [] _ here
          (seen_array (made ++ []) x.name.bytes m _ _ _ constant e (
            object_there (scope_at place made) point.objects _ fits.0 p.shape.dims,
            p.shape.reach,
            tag_small x.tag,
          ));
      at_objects = refl;
      at_slots = refl;
    }

    array_holds : (Named : List ℕ → Type 0) (point : Point) (kind : Storage) (constant : Bool)
        (x : Var) (dim : Dim)
        (dims : List Dim) → IsWrittenDim dim
        → Each IsWrittenDim dims
        → IsWrittenInit Named x.init
        → Holds (StandsSound place cx Calls in_loop point
        (behind_by point kind constant x (dim ∷ dims)))
        (after (array_value cx point.scope at (tag_of cx x.tag) dim dims x.init)
        (λ it. Stands (array_by cx point kind constant it)))
    array_holds Named point kind constant x dim dims h hs w =
        let m : Meaning = array_means (array_place kind point) (tag_of cx x.tag) constant
        (shaped cx point.scope at dim dims x.init) in
        holds_after {P = λ it. (m
        ≡ means.Array (array_place kind point) (extent_of it.sizes) (tag_of cx x.tag) constant)
        × ((made : List ℕ) → Here place cx Calls made point → GoodArray it)}
        (record {
          of = λ it e. (
            (array_means_is (array_place kind point) (tag_of cx x.tag) constant
                (shaped cx point.scope at dim dims x.init)
                (λ s. cells_or_zeros cx point.scope at (tag_of cx x.tag) s.sizes x.init)).of it e,
            λ made here.
                (array_value_good cx tags point.scope
                (plain_path cx Calls (scope_at place made) point.scope here.path) at
                (tag_of cx x.tag) Named dim dims x.init h hs w).of it e,
          );
        })
        (λ it p. stands_itself _ (array_by cx point kind constant it) (record {
          sound = λ made here fits slots.
              array_sound point kind constant x m it made here p.0 (p.1 made here) fits slots;
        }))

    -- ---- all variables

    cell_holds : (point : Point) (kind : Storage) (constant : Bool) (x : Var)
        → IsWrittenInit Calls x.init
        → Holds (StandsSound place cx Calls in_loop point (behind_by point kind constant x []))
        (local_cell cx point at kind constant x)
    cell_holds point storage.New constant x w = new_cell_holds point constant x w
    cell_holds point storage.Stock constant x w = new_cell_holds point constant x w
    cell_holds point storage.Static constant x w =
        static_cell_holds Calls point constant x w

    pub var_holds : (point : Point) (kind : Storage) (constant : Bool) (x : Var) (dims : List Dim)
        → Each IsWrittenDim dims → IsWrittenInit Calls x.init
        → Holds (StandsSound place cx Calls in_loop point (behind_by point kind constant x dims))
        (local_by cx point at kind constant x dims)
    var_holds point kind constant x [] h w = cell_holds point kind constant x w
    var_holds point kind constant x (dim ∷ dims) h w =
        array_holds Calls point kind constant x dim dims h.0 h.1 w

    -- an object calls nothing, whatever names its first value calls
    pub static_holds : (Named : List ℕ → Type 0) (point : Point) (constant : Bool) (x : Var)
        (dims : List Dim) → Each IsWrittenDim dims → IsWrittenInit Named x.init
        → Holds (StandsSound place cx Calls in_loop point
        (behind_by point storage.Static constant x dims))
        (local_by cx point at storage.Static constant x dims)
    static_holds Named point constant x [] h w = static_cell_holds Named point constant x w
    static_holds Named point constant x (dim ∷ dims) h w =
        array_holds Named point storage.Static constant x dim dims h.0 h.1 w

  -- ---- one behind another

  pub nothing_sound : (in_loop : Bool) (point : Point)
      → StandsSound place cx Calls in_loop point point nothing_stood
  nothing_sound in_loop point = record {
    sound = λ made here fits slots. record {
      valid = tt;
      all_made = refl;
      slots = tt;
      objects = tt;
      behind = subst (λ (m : List ℕ). Here place cx Calls m point) (sym (append-nil made)) here;
      at_objects = omega arith;
      at_slots = omega arith;
    };
  }

  pub behind_sound : (in_loop : Bool) (point mid to : Point) (y more : Stood)
      → StandsSound place cx Calls in_loop point mid y
      → StandsSound place cx Calls in_loop mid to more
      → StandsSound place cx Calls in_loop point to (stood_behind y more)
  behind_sound in_loop point mid to y more p q = record {
    sound = λ made here fits slots.
        let a : SoundStatements place cx Calls made point in_loop mid y =
        p.sound made here (sits_left place.program.objects point.objects y.objects
        more.objects fits)
        (sits_left place.slots point.slots y.slots more.slots slots) in
        let b : SoundStatements place cx Calls (made ++ slots_made_by (stmts_in y.stmts)) mid
        in_loop to more =
        q.sound (made ++ slots_made_by (stmts_in y.stmts)) a.behind
        (sits_at place.program.objects (point.objects + length y.objects) mid.objects more.objects
        (sym a.at_objects)
        (sits_right place.program.objects point.objects y.objects more.objects fits))
        (sits_at place.slots (point.slots + length y.slots) mid.slots more.slots (sym a.at_slots)
        (sits_right place.slots point.slots y.slots more.slots slots)) in
        record {
          valid = valid_append (scope_at place made) in_loop y.stmts more.stmts a.valid b.valid;
          all_made = all_made_append y.stmts more.stmts
              ∙ numbers_joined _ _ point.slots (length y.slots) (length more.slots) a.all_made
              (b.all_made ∙ ap (λ m. numbers_from m (length more.slots)) a.at_slots)
              ∙ ap (λ m. numbers_from point.slots m) (sym (length-append y.slots more.slots));
          slots = each_append IsGoodSlot y.slots more.slots a.slots b.slots;
          objects = each_append IsGoodObject y.objects more.objects a.objects b.objects;
          behind = subst (λ (m : List ℕ). Here place cx Calls m to)
              (append_assoc made (slots_made_by (stmts_in y.stmts))
              (slots_made_by (stmts_in more.stmts))
              ∙ ap (λ (m : List ℕ). made ++ m) (sym (made_append y.stmts more.stmts))) b.behind;
          at_objects = omega (
            arith,
            a.at_objects,
            b.at_objects,
            length-append y.objects more.objects,
          );
          at_slots = omega (arith, a.at_slots, b.at_slots, length-append y.slots more.slots);
        };
  }

  module _ (at : At) (in_loop : Bool) where
    pub vars_holds : (point : Point) (kind : Storage) (constant : Bool) (vars : List Var)
        → Each (IsWrittenVar Calls) vars
        → Holds (StandsSound place cx Calls in_loop point
        (behind_vars cx point at kind constant vars))
        (locals cx point at kind constant vars)
    unfolding locals behind_vars
    vars_holds point kind constant [] w =
        stands_itself _ nothing_stood (nothing_sound in_loop point)
    vars_holds point kind constant (x ∷ xs) w =
        holds_both (holds_also (fresh_name point.scope at x.name.bytes)
        (var_holds at in_loop point kind constant x x.dims w.0.dims w.0.init))
        (vars_holds (behind_var cx point at kind constant x) kind constant xs w.1) (λ y more p q.
        stands_itself _ (stood_behind y more)
        (behind_sound in_loop point (behind_var cx point at kind constant x)
        (behind_vars cx (behind_var cx point at kind constant x) at kind constant xs) y more p q))

    pub local_vars_holds : (point : Point) (kind : Storage) (constant : Bool) (vars : List Var)
        → Each (IsWrittenVar Calls) vars
        → Holds (StandsSound place cx Calls in_loop point
        (behind_vars cx point at kind constant vars))
        (local_vars cx point at kind constant vars)
    local_vars_holds point kind constant vars w =
        holds_unless (vars_parts cx point at kind constant vars)
        (vars_holds point kind constant vars w)

    -- ---- constants

    seen_constant : (made : List ℕ) (name : List ℕ) (tag : ℕ) (w : Verdict constants.Constant)
        (it : constants.Constant) → w ≡ Stands it → PlainConstant it → IsTag tag
        → IsSeen (scope_at place made) cx Calls name (constant_means tag w)
    seen_constant made name tag w it e p t =
        subst (λ (v : Verdict constants.Constant).
        IsSeen (scope_at place made) cx Calls name (constant_means tag v)) (sym e) (p.value, t)

    pub constant_holds : (point : Point) (it : ConstantOf) → IsWritten IsAnyName it.value
        → Holds (StandsSound place cx Calls in_loop point (behind_constant cx point at it))
        (local_constant cx point at it)
    constant_holds point it w =
        holds_also (fresh_name point.scope at it.name.bytes)
        (holds_after {P = λ c. constants.constant cx point.scope at it.value ≡ Stands c}
        (record { of = λ c e. e }) (λ c e. stands_itself _ _ (record {
          sound = λ made here fits slots. record {
            valid = tt;
            all_made = refl;
            slots = tt;
            objects = tt;
            behind = subst (λ (m : List ℕ). Here place cx Calls m (behind_constant cx point at it))
                (sym (append-nil made)) (record {
                  path = seen_with cx Calls (scope_at place made) point.scope _ here.path
                      (seen_constant made it.name.bytes (tag_of cx it.tag)
                      (constants.constant cx point.scope at it.value) c e
                      ((constant_plain cx tags point.scope
                      (plain_path cx Calls (scope_at place made) point.scope here.path) at IsAnyName
                      it.value w).of c e)
                      (tag_small it.tag));
                  low = here.low;
                });
            at_objects = omega arith;
            at_slots = omega arith;
          };
        })))
