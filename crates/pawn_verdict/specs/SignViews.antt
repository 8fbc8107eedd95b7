-- What signs stand for, as code and as the definitions have it.
use Rattle.names_rules.specs.Signs as plain
use Rattle.pawn_verdict.specs.declared.signs.Between.{Between}
use Rattle.pawn_verdict.specs.declared.signs.Between.TheVariants as between
use Rattle.pawn_verdict.specs.declared.signs.LinkSign.{LinkSign}
use Rattle.pawn_verdict.specs.declared.signs.LinkSign.TheVariants as link

-- a sign between two operands
abbrev pub between_view : Between → plain.Between
between_view (between.Operates operator op) = plain.Operates operator op
between_view (between.Decides logical) = plain.Decides logical
between_view between.Takes = plain.Takes
between_view between.Nothing = plain.Nothing

-- a sign of a comparison
abbrev pub link_view : LinkSign → plain.Link
link_view (link.Compares comparison op) = plain.Compares comparison op
link_view link.Nothing = plain.No_link
