-- An element of a parameter's array, of a row or of a rest has no instruction of its own.
use Rattle.std.proofs.Common.{◌≡◌, ℕ, Bool, Option, None, Some, refl}
use Rattle.pawn_meaning.specs.Program.{Array, ParamArray, Row, From, Expr}
use Rattle.pawn_meaning.specs.Scope.{Scope}
use Rattle.gen_sim.specs.DirectCode.{element_of}

pub none_of_param : (scope : Scope) (s : ℕ) (known : Bool) (i : Option ℕ)
    → element_of scope (ParamArray s known) i ≡ None
none_of_param scope s known None = refl
none_of_param scope s known (Some i) = refl

pub none_of_row : (scope : Scope) (a : Array) (e : Expr) (i : Option ℕ)
    → element_of scope (Row a e) i ≡ None
none_of_row scope a e None = refl
none_of_row scope a e (Some i) = refl

pub none_of_rest : (scope : Scope) (a : Array) (e : Expr) (i : Option ℕ)
    → element_of scope (From a e) i ≡ None
none_of_rest scope a e None = refl
none_of_rest scope a e (Some i) = refl
