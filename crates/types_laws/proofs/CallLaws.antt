-- Calls that stand are valid.
use Rattle.std.proofs.Common.{◌≡◌, ◌<◌, ℕ, suc, zero, ℤ, pos, List, [], ◌∷◌, Bool, true, false}
use Rattle.std.proofs.Common.{Option, None, Some, refl, sym, subst, ap, arith}
use Rattle.std.specs.Prelude.{if◌then◌else◌, length, map, slice_get}
use Rattle.pawn_cells.specs.Cells.{IsCell, cell_of}
use Rattle.pawn_tree.specs.declared.name.At.{At}
use Rattle.pawn_tags.specs.Tags.{untagged}
use Rattle.pawn_meaning.specs.Program.{Expr, Const, Arg, Value, Temp, Args, no_args, then_arg, Slot}
use Rattle.pawn_meaning.specs.Scope.{Extent}
use Rattle.pawn_meaning.specs.Scope as program
use Rattle.pawn_meaning.specs.ValidExprs.{IsOperator, ArgAgrees, ArgsAgree, IsValidExpr, IsValidArg}
use Rattle.pawn_meaning.specs.ValidExprs.{AreValidArgs}
use Rattle.types_rules.specs.Around.{Around, Callable, Head, Param, NoDefault, Always, SizeOf}
use Rattle.types_rules.specs.Around.{TagOf}
use Rattle.types_rules.specs.Around as around
use Rattle.types_rules.specs.Scope.{Meaning, Constant, Variable, Function, Entering, Taken, Unknown}
use Rattle.types_rules.specs.Scope.{Scope, found}
use Rattle.types_rules.specs.Scope as means
use Rattle.types_rules.specs.Tests.{converter_to}
use Rattle.types_rules.proofs.VerdictLaws.{Holds, stands_itself, breaks_holds, holds_after}
use Rattle.types_rules.proofs.VerdictLaws.{holds_both}
use Rattle.types_rules.specs.Filling.{Offer, Filled, Argument, Default}
use Rattle.types_rules.specs.Defaults.{size_given, tag_given, own_tag, converted, default_arg}
use Rattle.types_rules.specs.Defaults.{default_of, arg_of, args_of}
use Rattle.types_rules.specs.Calls.{Callee, callable, callee_rule, call_code, args_in, judged}
use Rattle.types_rules.specs.Calls.{call_by, call_rule}
use Rattle.types_laws.specs.Known.{slot_by, slot_of, IsDefault, HasDefaults, KnowsAround}
use Rattle.types_laws.specs.Placed.{IsNumbered}
use Rattle.pawn_cells.proofs.CellLaws.{cell_of_cell, small_cell}
use Rattle.types_laws.proofs.BasicLaws.{Sound, stands}
use Rattle.types_laws.proofs.AssignmentLaws.{converter_to_takes}
use Rattle.types_laws.proofs.FillingLaws.{IsFilled, AreFilled, AreValidRest, AreSoundOffers}
use Rattle.types_laws.proofs.FillingLaws.{fill_sound}

pub record SoundArg (scope : program.Scope) (slot : Slot) (arg : Arg) : Type 0 where
  pub valid : IsValidArg scope arg
  pub agrees : ArgAgrees scope slot arg

record SoundArgs (scope : program.Scope) (params : List Param) (others args : Args) : Type 0 where
  pub valid : AreValidArgs scope args
  pub agrees : others ≡ no_args → ArgsAgree scope (map slot_of params) args

-- what is called takes arguments that agree with its parameters
pub record SoundHead (scope : program.Scope) (it : Callee) (head : Head) : Type 0 where
  pub defaults : HasDefaults head
  pub takes : (args : Args) → AreValidArgs scope args
      → (head.rest ≡ None → ArgsAgree scope (map slot_of head.params) args)
      → IsValidExpr scope (call_code it.is_native it.number args)

-- where its head is known
pub record SoundCallee (scope : program.Scope) (it : Callee) : Type 0 where
  pub sound : (head : Head) → it.head ≡ Some head → SoundHead scope it head

-- ---- what is called

abbrev callee_of : Bool → Callable → Callee
callee_of is_native it =
    record { is_native = is_native; number = it.number; tag = it.tag; head = it.head }

module _ (scope : program.Scope) (cx : Around) (known : KnowsAround scope.program cx) where
  function_headed : (f : ℕ) (it : Callable) (head : Head) → slice_get cx.functions f ≡ Some it
      → it.head ≡ Some head → SoundHead scope (callee_of false it) head
  function_headed f it head e same =
      let facts = known.functions f it head e same in
      record {
        defaults = facts.0;
        takes = λ args valid agrees.
            (map slot_of head.params, facts.1.takes, agrees facts.1.no_rest, valid);
      }

  function_sound : (at : At) (f : ℕ) (it : Option Callable) → slice_get cx.functions f ≡ it
      → Holds (SoundCallee scope) (callable at false it)
  function_sound at f None e = breaks_holds _ _
  function_sound at f (Some it) e =
      stands_itself _ (callee_of false it)
      (record { sound = λ head same. function_headed f it head e same })

  native_headed : (n : ℕ) (it : Callable) (head : Head) → slice_get cx.natives n ≡ Some it
      → it.number < length scope.program.natives → it.head ≡ Some head
      → SoundHead scope (callee_of true it) head
  native_headed n it head e lt same =
      record {
        defaults = known.natives n it head e same;
        takes = λ args valid agrees. (lt, valid);
      }

  native_sound : (at : At) (n : ℕ) (it : Option Callable) → slice_get cx.natives n ≡ it
      → ((x : Callable) → it ≡ Some x → x.number < length scope.program.natives)
      → Holds (SoundCallee scope) (callable at true it)
  native_sound at n None e k = breaks_holds _ _
  native_sound at n (Some it) e k =
      stands_itself _ (callee_of true it)
      (record { sound = λ head same. native_headed n it head e (k it refl) same })

  means_sound : (at : At) (path : Scope) (name : List ℕ) (it : Option Meaning)
      → found path name ≡ it → IsNumbered scope.program cx path name
      → Holds (SoundCallee scope) (callee_rule cx at it)
  means_sound at path name None e n = breaks_holds _ _
  means_sound at path name (Some (Constant v tag)) e n = breaks_holds _ _
  means_sound at path name (Some (Variable p tag constant)) e n = breaks_holds _ _
  means_sound at path name (Some (means.Array a reach tag constant)) e n = breaks_holds _ _
  means_sound at path name (Some (Function f tag)) e n =
      function_sound at f (slice_get cx.functions f) refl
  means_sound at path name (Some (means.Native k tag)) e n =
      native_sound at k (slice_get cx.natives k) refl (λ x same. n.number_in k tag x e same)
  means_sound at path name (Some (Entering tag)) e n = breaks_holds _ _
  means_sound at path name (Some Taken) e n = breaks_holds _ _
  means_sound at path name (Some Unknown) e n = breaks_holds _ _

  pub callee_sound : (at : At) (path : Scope) (name : List ℕ)
      → IsNumbered scope.program cx path name
      → Holds (SoundCallee scope) (callee_rule cx at (found path name))
  callee_sound at path name n = means_sound at path name (found path name) refl n

  -- ---- defaults

  converted_valid : (v : ℤ) (by : Option ℕ) → ((f : ℕ) → by ≡ Some f → IsOperator scope 1 f)
      → IsCell v → IsValidExpr scope (converted v by)
  converted_valid v None k h = h
  converted_valid v (Some f) k h = (k f refl, h)

  default_by : (b : Bool) (v : ℤ) (e : Expr) → IsCell v → IsValidExpr scope e
      → SoundArg scope (slot_by b None) (if b then Temp (Const v) else Value e)
  default_by true v e h p = record { valid = h; agrees = tt }
  default_by false v e h p = record { valid = p; agrees = tt }

  default_sound : (param : Param) (v : ℤ) (tag : ℕ) → param.extent ≡ None → IsCell v
      → SoundArg scope (slot_of param) (default_arg cx param v tag)
  default_sound param v tag none h =
      subst (λ (reach : Option Extent). SoundArg scope (slot_by param.reference reach)
      (default_arg cx param v tag)) (sym none)
      (default_by param.reference v (converted v (converter_to cx param.tags tag)) h
      (converted_valid v (converter_to cx param.tags tag)
      (converter_to_takes scope cx known param.tags tag) h))

  -- a size that was given is a cell
  given_size : (param : Param) (it : Option Filled) → IsFilled scope param it
      → IsCell (pos (size_given (Some it)))
  given_size param None h = small_cell 1 (omega arith)
  given_size param (Some Default) h = small_cell 1 (omega arith)
  given_size param (Some (Argument given)) h = h.size

  filled_size : (params : List Param) (slots : List (Option Filled)) (p : ℕ)
      → AreFilled scope params slots → IsCell (pos (size_given (slice_get slots p)))
  filled_size params [] p h = small_cell 1 (omega arith)
  filled_size [] (it ∷ more) p h = absurd h
  filled_size (param ∷ params) (it ∷ more) zero h = given_size param it h.0
  filled_size (param ∷ params) (it ∷ more) (suc p) h = filled_size params more p h.1

  -- ---- all arguments in order

  module _ (at : At) (all : List Param) (slots : List (Option Filled))
      (filled : AreFilled scope all slots) where
    default_of_sound : (param : Param) (default : around.Default) → IsDefault param.extent default
        → Holds (SoundArg scope (slot_of param)) (default_of cx at all slots param default)
    default_of_sound param NoDefault h = breaks_holds _ _
    default_of_sound param (Always v tag) h =
        stands_itself _ _ (default_sound param v tag h.0 h.1)
    default_of_sound param (SizeOf p) h =
        stands_itself _ _ (default_sound param (pos (size_given (slice_get slots p))) untagged h
        (filled_size all slots p filled))
    default_of_sound param (TagOf p) h =
        stands_itself _ _ (default_sound param
        (cell_of (tag_given (own_tag all p) (slice_get slots p))) untagged h
        (cell_of_cell (tag_given (own_tag all p) (slice_get slots p))))

    arg_sound : (param : Param) (it : Option Filled) → IsDefault param.extent param.default
        → IsFilled scope param it
        → Holds (SoundArg scope (slot_of param)) (arg_of cx at all slots param it)
    arg_sound param None d h = default_of_sound param param.default d
    arg_sound param (Some Default) d h = default_of_sound param param.default d
    arg_sound param (Some (Argument given)) d h =
        stands_itself _ given.code (record { valid = h.valid; agrees = h.agrees })

    args_sound : (params : List Param) (their : List (Option Filled)) (others : Args)
        → ((i : ℕ) (param : Param) → slice_get params i ≡ Some param
        → IsDefault param.extent param.default)
        → AreFilled scope params their → AreValidArgs scope others
        → Holds (SoundArgs scope params others) (args_of cx at all slots params their others)
    unfolding args_of
    args_sound [] their others d h v =
        stands_itself _ others (record {
          valid = v;
          agrees = λ none. subst (λ (it : Args). ArgsAgree scope [] it) (sym none) tt;
        })
    args_sound (param ∷ more) [] others d h v = breaks_holds _ _
    args_sound (param ∷ more) (it ∷ their) others d h v =
        holds_both (arg_sound param it (d 0 param refl) h.0)
        (args_sound more their others (λ i p e. d (suc i) p e) h.1 v) (λ arg args s t.
        stands_itself _ (then_arg arg args) (record {
          valid = (s.valid, t.valid);
          agrees = λ none. (s.agrees, t.agrees none);
        }))

  rest_args : (rest : List Arg) → AreValidRest scope rest → AreValidArgs scope (args_in rest)
  rest_args [] h = tt
  rest_args (arg ∷ more) h = (h.0, rest_args more h.1)

  -- ---- calls

  judged_sound : (at : At) (callee : Callee) (offers : List Offer) (head : Head)
      → SoundHead scope callee head → AreSoundOffers scope offers
      → Holds (Sound scope) (judged cx at callee offers head)
  judged_sound at callee offers head c o =
      holds_after (fill_sound scope cx known at head offers o) (λ done f.
      holds_after (args_sound at head.params done.slots f.slots head.params
      done.slots (args_in done.rest) c.defaults.defaults f.slots (rest_args done.rest f.rest))
      (λ args t.
      stands scope _ (c.takes args t.valid (λ none.
      t.agrees (ap args_in (f.no_rest none))))))

  call_by_sound : (at : At) (callee : Callee) (offers : List Offer) (head : Option Head)
      → callee.head ≡ head → SoundCallee scope callee → AreSoundOffers scope offers
      → Holds (Sound scope) (call_by cx at callee offers head)
  call_by_sound at callee offers None same c o = stands scope _ (small_cell 0 (omega arith))
  call_by_sound at callee offers (Some head) same c o =
      judged_sound at callee offers head (c.sound head same) o

  pub call_sound : (at : At) (callee : Callee) (offers : List Offer) → SoundCallee scope callee
      → AreSoundOffers scope offers → Holds (Sound scope) (call_rule cx at callee offers)
  unfolding call_rule
  call_sound at callee offers c o = call_by_sound at callee offers callee.head refl c o
