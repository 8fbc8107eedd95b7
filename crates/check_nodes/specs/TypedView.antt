-- A typed expression, as the rules of typing see it.
use Rattle.std.specs.Prelude.{map}
use Rattle.pawn_meaning.specs.View.{scalar_view, array_view, object_view}
use Rattle.types_rules.specs.Typed as plain
use Rattle.check_nodes.specs.declared.typed.Form.{Form}
use Rattle.check_nodes.specs.declared.typed.Form.TheVariants as form
use Rattle.check_nodes.specs.declared.typed.Typed.{Typed}
use Rattle.check_nodes.specs.ExtentView.{extent_view}
use Rattle.check_nodes.specs.CodeView.{code_view}

-- what an expression is to its surroundings
abbrev pub form_view : Form → plain.Form
form_view (form.Value e) = plain.Value (code_view e)
form_view (form.Place place constant) = plain.Place (scalar_view place) constant
form_view (form.Whole whole extent constant) =
    plain.Whole (array_view whole) (extent_view extent) constant
form_view (form.Literal object cells) = plain.Literal object cells

-- the expression with its tag, its value, its literals and its warnings
abbrev pub typed_view : Typed → plain.Typed
typed_view x = record {
  at = x.at;
  form = form_view x.form;
  tag = x.tag;
  value = x.value;
  literals = map object_view x.made.literals;
  warned = x.made.warned;
}
