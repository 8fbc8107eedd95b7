-- Parameters as the rules of heads see them.
use Rattle.std.specs.Prelude.{map}
use Rattle.pawn_meaning.specs.View.{slot_view}
use Rattle.types_rules.specs.Params as plain
use Rattle.types_rules.specs.ParamDefaults as defaults
use Rattle.check_nodes.specs.ContextView.{default_view, param_view}
use Rattle.check_nodes.specs.ExtentView.{extent_view}
use Rattle.check_heads.specs.declared.defaults.Defaulted.{Defaulted}
use Rattle.check_heads.specs.declared.headed.Headed.{Headed}
use Rattle.check_heads.specs.declared.reaches.Reach.{Reach}

-- how far an array reaches
abbrev pub reach_view : Reach → plain.Reach
reach_view it = record { extent = extent_view it.extent; warned = it.warned }

-- a default
abbrev pub defaulted_view : Defaulted → defaults.Defaulted
defaulted_view it = record { default = default_view it.default; warned = it.warned }

-- a list of parameters
abbrev pub headed_view : Headed → plain.Headed
headed_view it = record {
  params = map param_view it.params;
  slots = map slot_view it.slots;
  rest = it.rest;
  warned = it.warned;
}
