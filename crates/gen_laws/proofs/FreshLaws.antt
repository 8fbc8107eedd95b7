-- New slots, and what validity says of the parts of a statement.
use Rattle.std.proofs.Common.{◌≡◌, ◌+◌, ◌^◌, ◌<◌, ◌⊎◌, inl, inr, ⊎_elim, ℕ, List}
use Rattle.std.proofs.Common.{[], ◌∷◌, ◌++◌, Option, None, Some, Bool, true, false, length}
use Rattle.std.proofs.Common.{slice_get, if◌then◌else◌, refl, sym, subst, arith}
use Rattle.std.specs.Prelude.{Any, IfSome}
use Rattle.pawn_meaning.specs.Program.{Stmt, Block, Local, LocalArray, Do, If, While, DoWhile, For}
use Rattle.pawn_meaning.specs.Program.{Switch, Return, Break, Continue, Exit, Sleep, Assert, State}
use Rattle.pawn_meaning.specs.Program.{Empty, Stmts, no_stmts, then_stmt, ArraySlot, Program}
use Rattle.pawn_meaning.specs.Scope.{Scope, with_made}
use Rattle.pawn_meaning.specs.Valid.{AreSizes, IsSlot, IsValidAutomaton}
use Rattle.pawn_meaning.specs.ValidExprs.{Takes}
use Rattle.pawn_meaning.specs.ValidStmts.{slots_made, slots_made_by, all_slots_made}
use Rattle.pawn_meaning.specs.ValidStmts.{all_slots_made_by, IsValidStmt, IsLocalArray, IsStateOf}
use Rattle.pawn_meaning.specs.Calls.{serves, enter_of, entry_for}
use Rattle.gen_sim.specs.Fits.{AreOnce}
use Rattle.gen_sim.proofs.LocalScopes.{any_here, any_there, any_cases}
use Rattle.gen_sim.specs.StateCode.{entry_of}
use Rattle.gen_laws.specs.Fresh.{Fresh, Ready}
use Rattle.gen_laws.proofs.ElementLaws.{got}

-- ---- some element of two lists

module _ {A : Type 0} (P : A → Type 0) where
  any_none : Any P [] → ⊥
  any_none h = absurd (omega (arith, h.2))

  any_first : (xs ys : List A) → Any P xs → Any P (xs ++ ys)
  any_first [] ys h = absurd (any_none h)
  any_first (x ∷ xs) ys h =
      ⊎_elim (λ p. any_here P x (xs ++ ys) p) (λ a. any_there P x (xs ++ ys) (any_first xs ys a))
      (any_cases P x xs h)

  any_rest : (xs ys : List A) → Any P ys → Any P (xs ++ ys)
  any_rest [] ys h = h
  any_rest (x ∷ xs) ys h = any_there P x (xs ++ ys) (any_rest xs ys h)

  deeper : (x : A) (xs ys : List A) → Any P xs ⊎ Any P ys → Any P (x ∷ xs) ⊎ Any P ys
  deeper x xs ys (inl h) = inl (any_there P x xs h)
  deeper x xs ys (inr h) = inr h

  any_cut : (xs ys : List A) → Any P (xs ++ ys) → Any P xs ⊎ Any P ys
  any_cut [] ys h = inr h
  any_cut (x ∷ xs) ys h =
      ⊎_elim (λ p. inl (any_here P x xs p)) (λ a. deeper x xs ys (any_cut xs ys a))
      (any_cases P x (xs ++ ys) h)

-- a slot is one of several
abbrev pub Has : List ℕ → ℕ → Type 0
Has slots s = Any (λ made. made ≡ s) slots

once_first : (xs ys : List ℕ) → AreOnce (xs ++ ys) → AreOnce xs
once_first [] ys h = tt
once_first (x ∷ xs) ys h = (λ a. h.0 (any_first (λ m. m ≡ x) xs ys a), once_first xs ys h.1)

once_rest : (xs ys : List ℕ) → AreOnce (xs ++ ys) → AreOnce ys
once_rest [] ys h = h
once_rest (x ∷ xs) ys h = once_rest xs ys h.1

once_apart : (xs ys : List ℕ) → AreOnce (xs ++ ys) → (s : ℕ) → Has xs s → Has ys s → ⊥
once_apart [] ys h s a b = any_none (λ m. m ≡ s) a
once_apart (x ∷ xs) ys h s a b =
    ⊎_elim (λ e. h.0 (any_rest (λ m. m ≡ x) xs ys (subst (λ z. Any (λ m. m ≡ z) ys) (sym e) b)))
    (λ c. once_apart xs ys h.1 s c b) (any_cases (λ m. m ≡ s) x xs a)

-- ---- new slots

pub fresh_first : {scope : Scope} (xs ys : List ℕ) → Fresh scope (xs ++ ys) → Fresh scope xs
fresh_first xs ys f =
    record { new = λ s a. f.new s (any_first (λ m. m ≡ s) xs ys a); once = once_first xs ys f.once }

pub fresh_rest : {scope : Scope} (xs ys : List ℕ) → Fresh scope (xs ++ ys) → Fresh scope ys
fresh_rest xs ys f =
    record { new = λ s a. f.new s (any_rest (λ m. m ≡ s) xs ys a); once = once_rest xs ys f.once }

pub fresh_behind : (scope : Scope) (made xs ys : List ℕ) → ((s : ℕ) → Has made s → Has xs s)
    → Fresh scope (xs ++ ys) → Fresh (with_made made scope) ys
fresh_behind scope made xs ys within f = record {
  new = λ s a m.
      ⊎_elim (λ h. f.new s (any_rest (λ n. n ≡ s) xs ys a) h)
      (λ h. once_apart xs ys f.once s (within s h) a)
      (any_cut (λ n. n ≡ s) scope.made made m);
  once = once_rest xs ys f.once;
}

pub made_within : (s : Stmt) (n : ℕ) → Has (slots_made s) n → Has (all_slots_made s) n
made_within (Block stmts) n h = absurd (any_none (λ m. m ≡ n) h)
made_within (Local s e) n h = h
made_within (LocalArray s o) n h = h
made_within (Do e) n h = h
made_within (If c a b) n h = absurd (any_none (λ m. m ≡ n) h)
made_within (While c s) n h = absurd (any_none (λ m. m ≡ n) h)
made_within (DoWhile s c) n h = absurd (any_none (λ m. m ≡ n) h)
made_within (For first c step s) n h = absurd (any_none (λ m. m ≡ n) h)
made_within (Switch e cases d) n h = absurd (any_none (λ m. m ≡ n) h)
made_within (Return e) n h = h
made_within Break n h = h
made_within Continue n h = h
made_within (Exit e tag) n h = h
made_within (Sleep e tag) n h = h
made_within (Assert e) n h = h
made_within (State automaton state c) n h = h
made_within Empty n h = h

pub made_within_by : (stmts : Stmts) (n : ℕ) → Has (slots_made_by stmts) n
    → Has (all_slots_made_by stmts) n
made_within_by no_stmts n h = h
made_within_by (then_stmt s stmts) n h =
    ⊎_elim (λ a. any_first (λ m. m ≡ n) (all_slots_made s) (all_slots_made_by stmts)
    (made_within s n a))
    (λ a. any_rest (λ m. m ≡ n) (all_slots_made s) (all_slots_made_by stmts)
    (made_within_by stmts n a))
    (any_cut (λ m. m ≡ n) (slots_made s) (slots_made_by stmts) h)

pub fresh_one : {scope : Scope} (s : ℕ) → Fresh scope (s ∷ [])
    → ¬ (Any (λ made. made ≡ s) scope.made)
fresh_one s f = f.new s (any_here (λ m. m ≡ s) s [] refl)

-- a statement outside a list makes no slot
pub makes_none : (scope : Scope) (in_loop : Bool) (s : Stmt) → IsValidStmt scope in_loop false s
    → slots_made s ≡ []
makes_none scope in_loop (Block stmts) h = refl
makes_none scope in_loop (Local s e) h = cc
makes_none scope in_loop (LocalArray s o) h = cc
makes_none scope in_loop (Do e) h = refl
makes_none scope in_loop (If c a b) h = refl
makes_none scope in_loop (While c s) h = refl
makes_none scope in_loop (DoWhile s c) h = refl
makes_none scope in_loop (For first c step s) h = refl
makes_none scope in_loop (Switch e cases d) h = refl
makes_none scope in_loop (Return e) h = refl
makes_none scope in_loop Break h = refl
makes_none scope in_loop Continue h = refl
makes_none scope in_loop (Exit e tag) h = refl
makes_none scope in_loop (Sleep e tag) h = refl
makes_none scope in_loop (Assert e) h = refl
makes_none scope in_loop (State automaton state c) h = refl
makes_none scope in_loop Empty h = refl

-- the sizes of a local array
pub record Sized (sizes : List ℕ) : Type 0 where
  pub first : ℕ
  pub inner : List ℕ
  pub is : sizes ≡ first ∷ inner

sized_by : (sizes : List ℕ) → AreSizes sizes → Sized sizes
sized_by [] h = absurd (omega (arith, h.0))
sized_by (k ∷ ks) h = record { first = k; inner = ks; is = refl }

pub array_sized : (scope : Scope) (s o : ℕ) → Ready scope.program scope.slots
    → (h : IsLocalArray scope s o) → Sized h.object.sizes
array_sized scope s o ready h =
    sized_by h.object.sizes (got IsSlot scope.slots s
    (ArraySlot h.object.sizes) ready.slots_are h.slot)

-- the entry function of an automaton takes nothing
served : (P : ℕ → Type 0) (f : ℕ) (b : Bool) → P f → IfSome (if b then Some f else None) P
served P f true h = h
served P f false h = tt

entry_takes : (program : Program) (P : ℕ → Type 0) (automaton state : ℕ) (enter : Option ℕ)
    → IfSome enter P → IfSome (entry_for program automaton state enter) P
entry_takes program P automaton state None h = tt
entry_takes program P automaton state (Some f) h =
    served P f (serves (slice_get program.functions f) automaton state) h

pub state_takes : (scope : Scope) (automaton state : ℕ) → Ready scope.program scope.slots
    → IsStateOf scope automaton state
    → IfSome (entry_of scope.program automaton state) (λ f. Takes scope.program f [])
state_takes scope automaton state ready h =
    subst (λ o. IfSome (entry_for scope.program automaton state (enter_of o))
    (λ f. Takes scope.program f [])) (sym h.there)
    (entry_takes scope.program (λ f. Takes scope.program f []) automaton state h.it.enter
    (got (IsValidAutomaton scope.program) scope.program.automata automaton h.it ready.valid.automata
    h.there))

pub state_small : (scope : Scope) (automaton state : ℕ) → Ready scope.program scope.slots
    → IsStateOf scope automaton state → state + 1 < 2 ^ 31
state_small scope automaton state ready h =
    let few : length h.it.states < 2 ^ 31 =
    got (λ it. length it.states < 2 ^ 31) scope.program.automata automaton h.it ready.few
    h.there in
    omega (arith, few, h.state_in)
