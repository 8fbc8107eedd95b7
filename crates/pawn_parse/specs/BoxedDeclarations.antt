-- The view of a declaration in a box.
use Rattle.std.specs.declared.boxed.Box.{Box}
use Rattle.std.specs.declared.alloc.Global.{Global}
use Rattle.pawn_tree.specs.Declarations.{Decl}
use Rattle.pawn_tree.specs.declared.declaration.Decl as held
use Rattle.pawn_tree.specs.View.{decl_view}

-- a declaration without its box
abbrev pub boxed_decl : Box held.Decl Global → Decl
boxed_decl x = decl_view x.value
