-- Parts of lists, numbers in order, and lists of statements.
use Rattle.std.proofs.Common.{◌≡◌, ◌+◌, ℕ, zero, suc, List, [], ◌∷◌, ◌++◌, Bool, refl, sym, ap, ap₂}
use Rattle.std.proofs.Common.{◌∙◌, subst, arith}
use Rattle.std.specs.Prelude.{length, slice_get, Some}
use Rattle.std.specs.List.{Any}
use Rattle.std.proofs.lemmas.List.{append_assoc, append-nil, length-append}
use Rattle.pawn_meaning.specs.Program.{Stmt, Block, Local, LocalArray, Do, If, While, DoWhile, For}
use Rattle.pawn_meaning.specs.Program.{Switch, Return, Break, Continue, Exit, Sleep, Assert, State}
use Rattle.pawn_meaning.specs.Program.{Empty}
use Rattle.pawn_meaning.specs.Scope as program
use Rattle.pawn_meaning.specs.Scope.{with_made}
use Rattle.pawn_meaning.specs.Valid.{numbers_from}
use Rattle.pawn_meaning.specs.ValidStmts.{slots_made, slots_made_by, all_slots_made}
use Rattle.pawn_meaning.specs.ValidStmts.{all_slots_made_by, IsValidStmt, AreValidStmts}
use Rattle.types_rules.specs.Stood.{stmts_in, one}
use Rattle.types_laws.specs.Sits.{Sits}

-- ---- parts

pub sits_left : {A : Type 0} (all : List A) (place : ℕ) (xs ys : List A)
    → Sits all place (xs ++ ys) → Sits all place xs
sits_left all place [] ys h = tt
sits_left all place (x ∷ xs) ys h = (h.0, sits_left all (place + 1) xs ys h.1)

pub sits_at : {A : Type 0} (all : List A) (m n : ℕ) (xs : List A) → m ≡ n → Sits all m xs
    → Sits all n xs
sits_at all m n xs e h = subst (λ (place : ℕ). Sits all place xs) e h

pub sits_right : {A : Type 0} (all : List A) (place : ℕ) (xs ys : List A)
    → Sits all place (xs ++ ys) → Sits all (place + length xs) ys
sits_right all place [] ys h = sits_at all place (place + 0) ys (omega arith) h
sits_right all place (x ∷ xs) ys h =
    sits_at all (place + 1 + length xs) (place + suc (length xs)) ys (omega arith)
    (sits_right all (place + 1) xs ys h.1)

-- each part sits where it begins
pub sits_there : {A : Type 0} (before xs after : List A)
    → Sits (before ++ (xs ++ after)) (length before) xs
sits_there before [] after = tt
sits_there before (x ∷ xs) after = (
  there before x (xs ++ after),
  sits_more xs (append_assoc before (x ∷ []) (xs ++ after)) (length-append before (x ∷ []))
      (sits_there (before ++ x ∷ []) xs after),
)
  where
    there : {A : Type 0} (before : List A) (x : A) (xs : List A)
        → slice_get (before ++ x ∷ xs) (length before) ≡ Some x
    there [] x xs = refl
    there (y ∷ before) x xs = there before x xs

    sits_more : {A : Type 0} {all rest : List A} {m n : ℕ} (more : List A) → all ≡ rest → m ≡ n
        → Sits all m more → Sits rest n more
    sits_more {rest = rest} {m = m} more e f h =
        subst (λ n. Sits rest n more) f (subst (λ l. Sits l m more) e h)

-- ---- numbers

pub numbers_append : (first m n : ℕ)
    → numbers_from first (m + n) ≡ numbers_from first m ++ numbers_from (first + m) n
numbers_append first zero n =
    let e : zero + n ≡ n = omega arith in
    let f : first + zero ≡ first = omega arith in
    rw (e, f) refl
numbers_append first (suc m) n =
    let e : suc m + n ≡ suc (m + n) = omega arith in
    let f : first + suc m ≡ first + 1 + m = omega arith in
    rw (e, f) (ap (λ (l : List ℕ). first ∷ l) (numbers_append (first + 1) m n))

pub numbers_joined : (xs ys : List ℕ) (first m n : ℕ) → xs ≡ numbers_from first m
    → ys ≡ numbers_from (first + m) n → xs ++ ys ≡ numbers_from first (m + n)
numbers_joined xs ys first m n p q =
    ap₂ (λ (k l : List ℕ). k ++ l) p q ∙ sym (numbers_append first m n)

-- the number at the end
pub made_last : (made : List ℕ) (s : ℕ) → Any (λ n. n ≡ s) (made ++ s ∷ [])
made_last [] s = (0, s, omega arith, refl, refl)
made_last (m ∷ made) s =
    let p = made_last made s in (suc p.0, p.1, omega (arith, p.2), p.3, p.4)

-- ---- statements

pub one_valid : (scope : program.Scope) (in_loop : Bool) (all : List Stmt)
    → AreValidStmts scope in_loop (stmts_in all) → (in_list : Bool)
    → IsValidStmt scope in_loop in_list (one all)
one_valid scope in_loop [] h in_list = tt
one_valid scope in_loop (Block stmts ∷ []) h in_list = h.0
one_valid scope in_loop (Local s e ∷ []) h in_list = h
one_valid scope in_loop (LocalArray s o ∷ []) h in_list = h
one_valid scope in_loop (Do e ∷ []) h in_list = h.0
one_valid scope in_loop (If c a b ∷ []) h in_list = h.0
one_valid scope in_loop (While c s ∷ []) h in_list = h.0
one_valid scope in_loop (DoWhile s c ∷ []) h in_list = h.0
one_valid scope in_loop (For first c step s ∷ []) h in_list = h.0
one_valid scope in_loop (Switch e cases d ∷ []) h in_list = h.0
one_valid scope in_loop (Return e ∷ []) h in_list = h.0
one_valid scope in_loop (Break ∷ []) h in_list = h.0
one_valid scope in_loop (Continue ∷ []) h in_list = h.0
one_valid scope in_loop (Exit e tag ∷ []) h in_list = h.0
one_valid scope in_loop (Sleep e tag ∷ []) h in_list = h.0
one_valid scope in_loop (Assert e ∷ []) h in_list = h.0
one_valid scope in_loop (State automaton state c ∷ []) h in_list = h.0
one_valid scope in_loop (Empty ∷ []) h in_list = h.0
one_valid scope in_loop (s ∷ next ∷ more) h in_list = h

pub one_made : (all : List Stmt) → all_slots_made (one all) ≡ all_slots_made_by (stmts_in all)
one_made [] = refl
one_made (Local s e ∷ []) = refl
one_made (LocalArray s o ∷ []) = refl
one_made (Block stmts ∷ []) = sym (append-nil (all_slots_made (Block stmts)))
one_made (Do e ∷ []) = refl
one_made (If c a b ∷ []) = sym (append-nil (all_slots_made (If c a b)))
one_made (While c s ∷ []) = sym (append-nil (all_slots_made (While c s)))
one_made (DoWhile s c ∷ []) = sym (append-nil (all_slots_made (DoWhile s c)))
one_made (For first c step s ∷ []) = sym (append-nil (all_slots_made (For first c step s)))
one_made (Switch e cases d ∷ []) = sym (append-nil (all_slots_made (Switch e cases d)))
one_made (Return e ∷ []) = refl
one_made (Break ∷ []) = refl
one_made (Continue ∷ []) = refl
one_made (Exit e tag ∷ []) = refl
one_made (Sleep e tag ∷ []) = refl
one_made (Assert e ∷ []) = refl
one_made (State automaton state c ∷ []) = refl
one_made (Empty ∷ []) = refl
one_made (s ∷ next ∷ more) = refl

pub made_append : (xs ys : List Stmt)
    → slots_made_by (stmts_in (xs ++ ys))
    ≡ slots_made_by (stmts_in xs) ++ slots_made_by (stmts_in ys)
made_append [] ys = refl
made_append (x ∷ xs) ys =
    ap (λ (l : List ℕ). slots_made x ++ l) (made_append xs ys)
    ∙ sym (append_assoc (slots_made x) (slots_made_by (stmts_in xs)) (slots_made_by (stmts_in ys)))

pub all_made_append : (xs ys : List Stmt)
    → all_slots_made_by (stmts_in (xs ++ ys))
    ≡ all_slots_made_by (stmts_in xs) ++ all_slots_made_by (stmts_in ys)
all_made_append [] ys = refl
all_made_append (x ∷ xs) ys =
    ap (λ (l : List ℕ). all_slots_made x ++ l) (all_made_append xs ys)
    ∙ sym (append_assoc (all_slots_made x) (all_slots_made_by (stmts_in xs))
    (all_slots_made_by (stmts_in ys)))

-- behind others a list of statements sees what they make
pub valid_append : (scope : program.Scope) (in_loop : Bool) (xs ys : List Stmt)
    → AreValidStmts scope in_loop (stmts_in xs)
    → AreValidStmts (with_made (slots_made_by (stmts_in xs)) scope) in_loop (stmts_in ys)
    → AreValidStmts scope in_loop (stmts_in (xs ++ ys))
valid_append scope in_loop [] ys h k =
    subst (λ (made : List ℕ). AreValidStmts (record scope { made = made }) in_loop (stmts_in ys))
    (append-nil scope.made) k
valid_append scope in_loop (x ∷ xs) ys h k = (
  h.0,
  valid_append (with_made (slots_made x) scope) in_loop xs ys h.1
      (subst (λ (made : List ℕ). AreValidStmts (record scope { made = made }) in_loop (stmts_in ys))
      (sym (append_assoc scope.made (slots_made x) (slots_made_by (stmts_in xs)))) k),
)
