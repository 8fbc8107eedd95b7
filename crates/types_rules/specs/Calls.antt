-- Calls (Language Guide, "Functions").
use Rattle.std.specs.Prelude.{ℕ, pos, List, [], ◌∷◌, flat_map, Bool, true, false, Option, None}
use Rattle.std.specs.Prelude.{Some, slice_get}
use Rattle.pawn_tree.specs.declared.name.At.{At}
use Rattle.pawn_meaning.specs.Program.{StaticObject, Expr, Const, Call, Native, Arg, Args, no_args}
use Rattle.pawn_meaning.specs.Program.{then_arg}
use Rattle.types_rules.specs.declared.fault.TheConstants.{UNDEFINED}
use Rattle.names_rules.specs.Verdict.{Verdict, Stands, after}
use Rattle.types_rules.specs.Rule.{broken, fallen}
use Rattle.types_rules.specs.Typed.{Typed, Value}
use Rattle.types_rules.specs.Around.{Around, Callable, Head}
use Rattle.types_rules.specs.Scope.{Meaning, Constant, Variable, Array, Function, Entering, Taken}
use Rattle.types_rules.specs.Scope.{Unknown}
use Rattle.types_rules.specs.Scope as means
use Rattle.types_rules.specs.Filling.{Offer, Positional, Skipped, Filling, fill}
use Rattle.types_rules.specs.Filling as filling
use Rattle.types_rules.specs.Defaults.{args_of}

-- what is called: whether it is a native, its number, the tag of what it gives, and its head,
-- unless that is broken or isn't known yet
pub record Callee : Type 0 where
  pub is_native : Bool
  pub number : ℕ
  pub tag : ℕ
  pub head : Option Head

-- the function or native that a name is known as
abbrev pub callable : At → Bool → Option Callable → Verdict Callee
callable at is_native None = broken UNDEFINED at
callable at is_native (Some it) =
    Stands (record { is_native = is_native; number = it.number; tag = it.tag; head = it.head })

-- only a function or a native is called by its name
abbrev pub callee_rule : Around → At → Option Meaning → Verdict Callee
callee_rule cx at None = broken UNDEFINED at
callee_rule cx at (Some (Constant v tag)) = broken UNDEFINED at
callee_rule cx at (Some (Variable p tag constant)) = broken UNDEFINED at
callee_rule cx at (Some (Array a extent tag constant)) = broken UNDEFINED at
callee_rule cx at (Some (Function f tag)) = callable at false (slice_get cx.functions f)
callee_rule cx at (Some (means.Native n tag)) = callable at true (slice_get cx.natives n)
callee_rule cx at (Some (Entering tag)) = broken UNDEFINED at
callee_rule cx at (Some Taken) = broken UNDEFINED at
callee_rule cx at (Some Unknown) = fallen

-- a call of a native or of a function
abbrev pub call_code : Bool → ℕ → Args → Expr
call_code true number args = Native number args
call_code false number args = Call number args

-- the arguments that a list holds
abbrev pub args_in : List Arg → Args
args_in [] = no_args
args_in (arg ∷ more) = then_arg arg (args_in more)

-- a call that stands: its value has the function's tag, and is no constant
abbrev pub typed_call : At → Callee → Filling → Args → Typed
typed_call at callee filling args = record {
  at = at;
  form = Value (call_code callee.is_native callee.number args);
  tag = callee.tag;
  value = None;
  literals = filling.literals;
  warned = filling.warned;
}

-- by the head of what is called
abbrev pub judged : Around → At → Callee → List Offer → Head → Verdict Typed
judged cx at callee offers head =
    after (fill cx at head offers) (λ filling.
    after (args_of cx at head.params filling.slots head.params filling.slots
    (args_in filling.rest)) (λ args.
    Stands (typed_call at callee filling args)))

-- ---- without a head

-- those of a value; `_` has none
abbrev pub offer_literals : Offer → List StaticObject
offer_literals (Positional x) = x.literals
offer_literals Skipped = []
offer_literals (filling.Named name x) = x.literals

-- what a value warns of; `_` warns of nothing
abbrev pub offer_warned : Offer → List At
offer_warned (Positional x) = x.warned
offer_warned Skipped = []
offer_warned (filling.Named name x) = x.warned

-- arguments for a head that is broken or isn't known yet aren't judged: what is known of the call
-- is its tag, and that it isn't constant. No program has it, since the declaration of such a head
-- is judged where all heads are known
abbrev pub unjudged : At → ℕ → List Offer → Typed
unjudged at tag offers = record {
  at = at;
  form = Value (Const (pos 0));
  tag = tag;
  value = None;
  literals = flat_map offer_literals offers;
  warned = flat_map offer_warned offers;
}

-- ---- a call with what is offered to it

-- a call by the callee's head, which is unknown where that doesn't stand
abbrev pub call_by : Around → At → Callee → List Offer → Option Head → Verdict Typed
call_by cx at callee offers None = Stands (unjudged at callee.tag offers)
call_by cx at callee offers (Some head) = judged cx at callee offers head

-- a call with the arguments as they stand
unfoldable pub call_rule : Around → At → Callee → List Offer → Verdict Typed
call_rule cx at callee offers = call_by cx at callee offers callee.head
