-- The arguments of a call so far, as the rules of calls see them.
use Rattle.std.specs.Prelude.{List, Option, map, option_map}
use Rattle.pawn_meaning.specs.View.{arg_view, object_view}
use Rattle.types_rules.specs.Filling as plain
use Rattle.check_nodes.specs.TypedView.{typed_view}
use Rattle.check_calls.specs.declared.filling.Offer.{Offer}
use Rattle.check_calls.specs.declared.filling.Offer.TheVariants as offer
use Rattle.check_calls.specs.declared.filling.Filled.{Filled}
use Rattle.check_calls.specs.declared.filling.Filled.TheVariants as filled
use Rattle.check_calls.specs.declared.filling.Filling.{Filling}
use Rattle.check_calls.specs.GivenView.{argued_view}

-- an argument as it stands in the call
abbrev pub offer_view : Offer → plain.Offer
offer_view (offer.Positional x) = plain.Positional (typed_view x)
offer_view offer.Skipped = plain.Skipped
offer_view (offer.Named name x) = plain.Named name.now (typed_view x)

-- what a parameter was given: an argument, or its default
abbrev pub filled_view : Filled → plain.Filled
filled_view (filled.Argument it) = plain.Argument (argued_view it)
filled_view filled.Default = plain.Default

-- what all parameters were given so far
abbrev pub slots_view : List (Option Filled) → List (Option plain.Filled)
slots_view slots = map (option_map filled_view) slots

-- what all arguments so far come to
abbrev pub filling_view : Filling → plain.Filling
filling_view it = record {
  next = it.next;
  slots = slots_view it.slots.items;
  rest = map arg_view it.rest;
  literals = map object_view it.made.literals;
  warned = it.made.warned;
}
