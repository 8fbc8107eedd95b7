-- What is known of the whole source, as the rules of typing see it.
use Rattle.std.specs.Prelude.{map, option_map}
use Rattle.types_rules.specs.Around as plain
use Rattle.check_nodes.specs.declared.context.ParamDefault.{ParamDefault}
use Rattle.check_nodes.specs.declared.context.ParamDefault.TheVariants as default
use Rattle.check_nodes.specs.declared.context.Param.{Param}
use Rattle.check_nodes.specs.declared.context.Head.{Head}
use Rattle.check_nodes.specs.declared.context.Callable.{Callable}
use Rattle.check_nodes.specs.declared.context.Context.{Context}
use Rattle.check_nodes.specs.ExtentView.{extent_view}

-- none, a constant, or the size or tag of another parameter's argument
abbrev pub default_view : ParamDefault → plain.Default
default_view default.Nothing = plain.NoDefault
default_view (default.Always value tag) = plain.Always value tag
default_view (default.SizeOf number) = plain.SizeOf number
default_view (default.TagOf number) = plain.TagOf number

-- the name, `const`, `&`, tags, sizes and default
abbrev pub param_view : Param → plain.Param
param_view x = record {
  name = x.name;
  constant = x.constant;
  reference = x.reference;
  tags = x.tags;
  extent = option_map extent_view x.extent;
  default = default_view x.default;
}

-- the parameters of a function, and the tags of `...` if it has that
abbrev pub head_view : Head → plain.Head
head_view x = record { params = map param_view x.params; rest = x.rest }

-- a function or native that can be called
abbrev pub callable_view : Callable → plain.Callable
callable_view x =
    record { number = x.number; tag = x.tag; head = option_map head_view x.head }

-- tags, operators, functions and natives
abbrev pub around_view : Context → plain.Around
around_view cx = record {
  tags = cx.tags;
  operators = cx.operators;
  functions = map callable_view cx.functions;
  natives = map callable_view cx.natives;
}
