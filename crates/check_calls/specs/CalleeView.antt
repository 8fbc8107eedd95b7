-- What is called, as the rules of calls see it.
use Rattle.std.specs.Prelude.{option_map}
use Rattle.types_rules.specs.Calls as plain
use Rattle.check_nodes.specs.ContextView.{head_view}
use Rattle.check_calls.specs.declared.calls.Callee.{Callee}

-- a function or a native, with its head if that is known
abbrev pub callee_view : Callee → plain.Callee
callee_view it = record {
  is_native = it.is_native;
  number = it.number;
  tag = it.tag;
  head = option_map (λ head. head_view head.now) it.head;
}
