-- What the parts of a valid program are.
use Rattle.std.proofs.Common.{◌≡◌, ◌<◌, ℕ, List, [], ◌∷◌, Bool, true, false, Option, None, Some}
use Rattle.std.proofs.Common.{All, IfSome, length, slice_get, refl, sym, subst, arith, append-nil}
use Rattle.std.proofs.lemmas.Option.{slice_get_within, slice_get-get_or, get_or_from_slice_get}
use Rattle.std.proofs.lemmas.List.Elements.{All-get_or}
use Rattle.pawn_meaning.specs.Program.{Perhaps, Stmt, For, no_stmts, Slot, Route, Function}
use Rattle.pawn_meaning.specs.Program.{Program}
use Rattle.pawn_meaning.specs.Memory.{Memory}
use Rattle.pawn_meaning.specs.Calls.{body_at, body_by, routed}
use Rattle.pawn_meaning.specs.Scope.{Scope}
use Rattle.pawn_meaning.specs.ValidExprs.{IsValidPerhaps}
use Rattle.pawn_meaning.specs.ValidStmts.{IsValidStmt}
use Rattle.pawn_meaning.specs.Valid.{IsValidBody}

-- what holds of all holds of one that is there
pub if_there : {X : Type 0} (P : X → Type 0) (xs : List X) (i : ℕ) → All P xs
    → (o : Option X) → slice_get xs i ≡ o → IfSome o P
if_there P xs i all None e = tt
if_there P xs i all (Some x) e =
    subst P (get_or_from_slice_get xs i x x e)
    (All-get_or P xs i x (slice_get_within xs i x e) all)

-- below the length something is there
pub past_none : {X : Type 0} (xs : List X) (i : ℕ) → i < length xs → slice_get xs i ≡ None → ⊥
past_none [] i h e = absurd (omega (arith, h))
past_none (x ∷ xs) i h e = absurd (cc (slice_get-get_or (x ∷ xs) i x h, e))

module _ (program : Program) where
  abbrev pub scope : List Slot → ℕ → List ℕ → Scope
  scope slots params made =
      record { program = program; slots = slots; params = params; made = made }

  valid_routed : (function : Function) (params : List Slot) (number : Option ℕ)
      → All (IsValidBody program params) function.bodies
      → IfSome (body_at function number) (IsValidBody program params)
  valid_routed function params None all = tt
  valid_routed function params (Some n) all =
      if_there (IsValidBody program params) function.bodies n all
      (slice_get function.bodies n) refl

  pub valid_body : (function : Function) (params : List Slot) (dispatch : Option Route)
      (m : Memory)
      → All (IsValidBody program params) function.bodies
      → IfSome (body_by function dispatch m) (IsValidBody program params)
  valid_body function params None m all =
      if_there (IsValidBody program params) function.bodies 0 all
      (slice_get function.bodies 0) refl
  valid_body function params (Some route) m all =
      valid_routed function params (routed route (slice_get m.states route.automaton)) all

  -- a loop's next pass, in the scope behind what it does first
  pub next_pass : (slots : List Slot) (params : ℕ) (made : List ℕ) (in_loop in_list : Bool)
      (c step : Perhaps) (s : Stmt) → IsValidPerhaps (scope slots params made) c
      → IsValidPerhaps (scope slots params made) step
      → IsValidStmt (scope slots params made) true false s
      → IsValidStmt (scope slots params made) in_loop in_list (For no_stmts c step s)
  next_pass slots params made in_loop in_list c step s hc hstep hs =
      let P : List ℕ → Type 0 = λ l. IsValidPerhaps (scope slots params l) c
      × IsValidPerhaps (scope slots params l) step
      × IsValidStmt (scope slots params l) true false s in
      let all = subst P (sym (append-nil made)) (hc, hstep, hs) in
      (tt, all.0, all.1, all.2)
