-- What typing gives for statements.
use Rattle.std.specs.Prelude.{List, [], ◌∷◌, ◌++◌, Bool}
use Rattle.pawn_tree.specs.declared.name.At.{At}
use Rattle.pawn_meaning.specs.Program.{Stmt, Block, Local, LocalArray, Empty, Stmts, no_stmts}
use Rattle.pawn_meaning.specs.Program.{then_stmt, Slot, StaticObject}

-- a `return`, and whether it gives a value
pub record Returned : Type 0 where
  pub at : At
  pub gives : Bool

-- the statements, the slots and objects that they make, their returns, and what they warn of, all
-- in token order
pub record Stood : Type 0 where
  pub stmts : List Stmt
  pub slots : List Slot
  pub objects : List StaticObject
  pub returns : List Returned
  pub warned : List At

-- statements that make nothing of their own
abbrev pub stood : List Stmt → List StaticObject → List At → Stood
stood stmts objects warned =
    record { stmts = stmts; slots = []; objects = objects; returns = []; warned = warned }

-- no statement
abbrev pub nothing_stood : Stood
nothing_stood = stood [] [] []

-- statements behind others
abbrev pub stood_behind : Stood → Stood → Stood
stood_behind x y = record {
  stmts = x.stmts ++ y.stmts;
  slots = x.slots ++ y.slots;
  objects = x.objects ++ y.objects;
  returns = x.returns ++ y.returns;
  warned = x.warned ++ y.warned;
}

-- the same parts with another statement
abbrev pub as_stmt : Stmt → Stood → Stood
as_stmt stmt x = record x { stmts = stmt ∷ [] }

-- the statements that a list holds
abbrev pub stmts_in : List Stmt → Stmts
stmts_in [] = no_stmts
stmts_in (s ∷ more) = then_stmt s (stmts_in more)

-- one statement where the program has room for one: a variable stands in a block
abbrev pub one : List Stmt → Stmt
one [] = Empty
one (Local s e ∷ []) = Block (then_stmt (Local s e) no_stmts)
one (LocalArray s o ∷ []) = Block (then_stmt (LocalArray s o) no_stmts)
one (s ∷ []) = s
one (s ∷ next ∷ more) = Block (stmts_in (s ∷ next ∷ more))

-- what stands, as one statement
abbrev pub one_of : Stood → Stmt
one_of x = one x.stmts
