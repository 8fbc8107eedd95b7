-- What the definitions see of a heading that code holds.
use Rattle.pawn_tree.specs.View.{head_view}
use Rattle.types_rules.specs.Headings as plain
use Rattle.check_source.specs.KeyView.{states_view}
use Rattle.check_source.specs.declared.headings.Role.{Role}
use Rattle.check_source.specs.declared.headings.Role.TheVariants as role
use Rattle.check_source.specs.declared.headings.Heading.{Heading}

-- what stands behind a head
abbrev pub role_view : Role → plain.Role
role_view role.Native = plain.IsNative
role_view role.Forward = plain.IsForward
role_view role.Body = plain.IsBody

-- a heading
abbrev pub heading_view : Heading → plain.Heading
heading_view it = record {
  at = it.at;
  role = role_view it.role;
  is_public = it.is_public;
  head = head_view it.head.now;
  states = states_view it.states;
}
