-- The arguments of a call in their order, each put to its parameter (Language Guide, "Functions",
-- on positional and named arguments).
use Rattle.std.specs.Prelude.{ℕ, ◌+◌, List, [], ◌∷◌, ◌++◌, Option, None, Some, map, position}
use Rattle.std.specs.Prelude.{slice_get, slice_set}
use Rattle.std.specs.Str.{bytes_eq}
use Rattle.pawn_tree.specs.declared.name.At.{At}
use Rattle.pawn_meaning.specs.Program.{Arg, StaticObject}
use Rattle.types_rules.specs.declared.fault.TheConstants.{UNDEFINED, ARGUMENT_MISSING}
use Rattle.types_rules.specs.declared.fault.TheConstants.{ARGUMENT_TWICE, TOO_MANY_ARGUMENTS}
use Rattle.names_rules.specs.Verdict.{Verdict, Stands, after}
use Rattle.types_rules.specs.Rule.{broken, thread}
use Rattle.types_rules.specs.Typed.{Typed}
use Rattle.types_rules.specs.Around.{Around, Param, Head}
use Rattle.types_rules.specs.Given.{Given, given_rule, rest_rule}

-- an argument as it stands in the call
pub data Offer : Type 0 where
  Positional : Typed → Offer
  Skipped : Offer
  Named : List ℕ → Typed → Offer

-- an argument in its slot: in the program, and what `sizeof` and `tagof` of the parameter are with
-- it
pub record Argued : Type 0 where
  pub code : Arg
  pub size : ℕ
  pub tag : ℕ

-- an argument as it is kept for its parameter
abbrev pub in_slot : Given → Argued
in_slot given = record { code = given.code; size = given.size; tag = given.tag }

-- what a parameter got: an argument, or `_`
pub data Filled : Type 0 where
  Argument : Argued → Filled
  Default : Filled

-- the arguments so far: how many were positional, what each parameter got, those of `...`, and the
-- literals and warnings in token order
pub record Filling : Type 0 where
  pub next : ℕ
  pub slots : List (Option Filled)
  pub rest : List Arg
  pub literals : List StaticObject
  pub warned : List At

-- no parameter got anything
abbrev pub nothing_filled : Head → Filling
nothing_filled head =
    record {
      next = 0;
      slots = map
          (λ param. None) head.params;
      rest = [];
      literals = [];
      warned = [];
    }

-- ---- a slot is filled

-- a parameter takes one argument at most, and no argument stands behind the last parameter
abbrev pub put_in : At → ℕ → Filled → List (Option Filled) → Option (Option Filled)
    → Verdict (List (Option Filled))
put_in at i it slots None = broken TOO_MANY_ARGUMENTS at
put_in at i it slots (Some None) = Stands (slice_set slots i (Some it))
put_in at i it slots (Some (Some old)) = broken ARGUMENT_TWICE at

-- the parameter with a number gets something, once
abbrev pub put : At → ℕ → Filled → List (Option Filled) → Verdict (List (Option Filled))
put at i it slots = put_in at i it slots (slice_get slots i)

-- with one more argument, which was typed so
abbrev pub argued : Filling → Typed → Given → List (Option Filled) → ℕ → Filling
argued done x given slots next = record {
  next = next;
  slots = slots;
  rest = done.rest;
  literals = done.literals ++ x.literals;
  warned = done.warned ++ given.warned;
}

module _ (cx : Around) (at : At) (head : Head) where
  -- an argument for the parameter with a number
  abbrev pub for_param : Filling → ℕ → Param → Typed → ℕ → Verdict Filling
  for_param done i param x next =
      after (given_rule cx at param x) (λ given.
      after (put at i (Argument (in_slot given)) done.slots)
      (λ slots. Stands (argued done x given slots next)))

  -- behind all parameters an argument belongs to `...`
  abbrev pub for_rest : Filling → Option (List ℕ) → Typed → Verdict Filling
  for_rest done None x = broken TOO_MANY_ARGUMENTS at
  for_rest done (Some tags) x =
      let given : Given = rest_rule cx tags x in
      Stands (record {
        next = done.next + 1;
        slots = done.slots;
        rest = done.rest ++ given.code ∷ [];
        literals = done.literals ++ x.literals;
        warned = done.warned ++ given.warned;
      })

  -- the next parameter takes an argument, else the further arguments do
  abbrev pub positional : Filling → Option Param → Typed → Verdict Filling
  positional done None x = for_rest done head.rest x
  positional done (Some param) x = for_param done done.next param x (done.next + 1)

  -- `_` gives a parameter its default, and `...` has none
  abbrev pub skipped_rest : Option (List ℕ) → Verdict Filling
  skipped_rest None = broken TOO_MANY_ARGUMENTS at
  skipped_rest (Some tags) = broken ARGUMENT_MISSING at

  -- `_` leaves the next parameter its default
  abbrev pub skipped : Filling → Option Param → Verdict Filling
  skipped done None = skipped_rest head.rest
  skipped done (Some param) =
      after (put at done.next Default done.slots)
      (λ slots. Stands (record done { next = done.next + 1; slots = slots }))

  -- the parameter with a name
  abbrev pub named_param : Filling → ℕ → Option Param → Typed → Verdict Filling
  named_param done i None x = broken UNDEFINED at
  named_param done i (Some param) x = for_param done i param x done.next

  -- an argument with a name goes to the parameter of that name
  abbrev pub named : Filling → Option ℕ → Typed → Verdict Filling
  named done None x = broken UNDEFINED at
  named done (Some i) x = named_param done i (slice_get head.params i) x

  -- the place of a name among the head's parameters
  abbrev pub number_of_param : List ℕ → Option ℕ
  number_of_param name = position (λ (param : Param). bytes_eq param.name name) head.params

  -- behind one more argument
  abbrev pub offer_step : Filling → Offer → Verdict Filling
  offer_step done (Positional x) = positional done (slice_get head.params done.next) x
  offer_step done Skipped = skipped done (slice_get head.params done.next)
  offer_step done (Named name x) = named done (number_of_param name) x

  -- all arguments of a call
  abbrev pub fill : List Offer → Verdict Filling
  fill offers = thread offer_step (nothing_filled head) offers
