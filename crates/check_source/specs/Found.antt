-- What the tables of keys have of a key.
use Rattle.std.specs.Prelude.{ℕ, List, Option, None}
use Rattle.std.specs.Borrow.{Bor}
use Rattle.std.specs.Map.{lookup}
use Rattle.std.specs.Str.{bytes_eq}
use Rattle.pawn_tags.specs.Overloads.{is_for}
use Rattle.types_rules.specs.Keys.{Key, Named, Operates, Enters, Misshapen}
use Rattle.check_source.specs.declared.tables.Tables.{Tables}

-- what a table has of a name
abbrev pub stands_at : List ℕ → List (Bor (List ℕ) × ℕ) → Option ℕ
stands_at name table = lookup (λ key. bytes_eq name key.now) table

-- and all tables of a key
abbrev pub found_in : Tables → Key → Option ℕ
found_in tables (Named name) = stands_at name tables.named.entries
found_in tables (Operates it) = lookup (is_for it.op it.left it.right) tables.operators.entries
found_in tables (Enters name) = stands_at name tables.entering.entries
found_in tables Misshapen = None
