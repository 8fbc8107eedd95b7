-- Enumerations (Language Guide, "Constants", "Enumerations"): constants that count up from 0 or
-- from the value given, and the enumeration's name as the value after the last.
use Rattle.std.specs.Prelude.{ℕ, ℤ, pos, List, [], ◌∷◌, ◌++◌, Option, None, Some, option_map}
use Rattle.pawn_cells.specs.Cells.{add}
use Rattle.pawn_tree.specs.declared.name.At.{At}
use Rattle.pawn_tree.specs.declared.name.Name as n
use Rattle.pawn_tree.specs.Expressions.{Expr}
use Rattle.pawn_tree.specs.Declarations.{Item}
use Rattle.names_rules.specs.Verdict.{Verdict, Stands, Breaks, after, both}
use Rattle.types_rules.specs.Rule.{unless_faults}
use Rattle.types_rules.specs.Around.{Around}
use Rattle.types_rules.specs.Scope.{Scope, Meaning, Unknown, Entry, with_entries}
use Rattle.types_rules.specs.Scope as means
use Rattle.types_rules.specs.Constants as constants
use Rattle.types_rules.specs.VariableParts.{Judged, judged, with_part, maybe_judged, expr_part}

-- the path behind constants, and the value of the next one where it is known
pub record Counted : Type 0 where
  pub scope : Scope
  pub next : Option ℤ

-- no value of an expression that breaks a rule
abbrev pub value_of : Verdict constants.Constant → Option ℤ
value_of (Stands it) = Some it.value
value_of (Breaks found) = None

-- a constant without a known value means nothing that stands
abbrev pub means_value : ℕ → Option ℤ → Meaning
means_value tag None = Unknown
means_value tag (Some v) = means.Constant v tag

-- the name of a constant, with its tag
abbrev pub entry : List ℕ → ℕ → Option ℤ → Entry
entry name tag v = record { name = name; means = means_value tag v }

module _ (cx : Around) (at : At) (tag : ℕ) where
  -- the value of a constant: its own, else the next one
  abbrev pub item_value : Counted → Option Expr → Option ℤ
  item_value done None = done.next
  item_value done (Some e) = value_of (constants.constant cx done.scope at e)

  -- behind a constant with a value: the next one is 1 more, wrapped
  abbrev pub counted_behind : Counted → List ℕ → Option ℤ → Counted
  counted_behind done name v = record {
    scope = with_entries done.scope (entry name tag v ∷ []);
    next = option_map (λ value. add value (pos 1)) v;
  }

  -- behind one constant of the enumeration
  abbrev pub behind_item : Counted → Item → Counted
  behind_item done it = counted_behind done it.name.bytes (item_value done it.value)

  -- each constant is known to those behind it
  unfoldable pub behind_items : Counted → List Item → Counted
  behind_items done [] = done
  behind_items done (it ∷ more) = behind_items (behind_item done it) more

  -- what the values warn of, which aren't tested themselves
  abbrev pub item_rule : Counted → Option Expr → Verdict (List At)
  item_rule done None = Stands []
  item_rule done (Some e) = after (constants.constant cx done.scope at e) (λ it. Stands it.warned)

  -- the same for all constants, each known to those behind it
  unfoldable pub items_rule : Counted → List Item → Verdict (List At)
  items_rule done [] = Stands []
  items_rule done (it ∷ more) =
      both (item_rule done it.value) (items_rule (behind_item done it) more)
      (λ x y. Stands (x ++ y))

  -- the expressions in them
  unfoldable pub items_parts : Counted → List Item → Verdict Judged
  items_parts done [] = Stands judged
  items_parts done (it ∷ more) =
      with_part (maybe_judged (expr_part cx done.scope) it.value)
      (items_parts (behind_item done it) more)

-- before the first constant of an enumeration
abbrev pub nothing_counted : Scope → Counted
nothing_counted scope = record { scope = scope; next = Some (pos 0) }

-- an enumeration with a name declares one constant more: the value after its last one
abbrev pub with_enum_name : Option n.Name → ℕ → Counted → Scope
with_enum_name None tag done = done.scope
with_enum_name (Some name) tag done = with_entries done.scope (entry name.bytes tag done.next ∷ [])

-- the path behind an enumeration, whose name is known behind its constants
abbrev pub behind_enum : Around → Scope → At → ℕ → Option n.Name → List Item → Scope
behind_enum cx scope at tag name items =
    with_enum_name name tag (behind_items cx at tag (nothing_counted scope) items)

-- what an enumeration warns of, judged where no expression in it has a fault
abbrev pub enum_rule : Around → Scope → At → ℕ → List Item → Verdict (List At)
enum_rule cx scope at tag items =
    unless_faults (items_parts cx at tag (nothing_counted scope) items)
    (items_rule cx at tag (nothing_counted scope) items)
