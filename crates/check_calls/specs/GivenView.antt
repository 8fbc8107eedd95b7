-- Arguments, as the rules of calls see them.
use Rattle.std.specs.declared.alloc.Global.{Global}
use Rattle.std.specs.declared.boxed.Box.{Box}
use Rattle.pawn_meaning.specs.Program.{Arg}
use Rattle.pawn_meaning.specs.View.{array_view, arg_view}
use Rattle.pawn_meaning.specs.declared.node.Arg as held
use Rattle.types_rules.specs.Given as plain
use Rattle.types_rules.specs.Filling as filling
use Rattle.check_calls.specs.declared.given.Argued.{Argued}
use Rattle.check_calls.specs.declared.given.Given.{Given}
use Rattle.check_calls.specs.declared.given.Passed.{Passed}

-- an argument without its box
abbrev pub arg_code : Box held.Arg Global → Arg
arg_code it = arg_view it.value

-- the code of an argument, and what `sizeof` and `tagof` of its parameter are
abbrev pub argued_view : Argued → filling.Argued
argued_view it = record { code = arg_code it.code; size = it.size; tag = it.tag }

-- the same with what the argument warns of
abbrev pub given_view : Given → plain.Given
given_view it = record {
  code = arg_code it.argued.code;
  size = it.argued.size;
  tag = it.argued.tag;
  warned = it.made.warned;
}

-- an array that is passed, with its size
abbrev pub passed_view : Passed → plain.PassedArray
passed_view it = record { array = array_view it.array; size = it.size }
