-- Effects on registers of two states that differ in dead cells alone.
use Rattle.std.proofs.Common.{◌≡◌, ◌+◌, ◌*◌, ◌%◌, ◌==◌, ℕ, ℤ, pos, negsuc, ◌∷◌, [], Bool}
use Rattle.std.proofs.Common.{true, false, cond, List, length, get_or, nat_le, nat_lt, refl, sym}
use Rattle.std.proofs.Common.{ap, subst}
use Rattle.pawn_cells.specs.Cells.{bits_of, cell_of, is_zero}
use Rattle.amx_ops.specs.declared.amx.Amx.{Amx}
use Rattle.amx_ops.specs.Instructions.{is_start}
use Rattle.amx_ops.specs.State.{State, Turned, with_margin, first_hea}
use Rattle.amx_ops.specs.Effects.{at_next, jump, jump_if, divide, stack_to, heap_to, when_multiple}
use Rattle.amx_ops.specs.Effects.{register, set_register, returned, ask}
use Rattle.amx_machine.specs.Unseen.{Spares}
use Rattle.amx_machine.proofs.UnseenParts.{Alike, Rows, Pair, base, goes, still, asks, errs, guard}

module _ {amx : Amx} {s : State} {d : List ℤ} (p : Pair amx s d) where
  abbrev t : State
  t = record s { cells = d }

  pub either : (b : Bool) (x y u w : Turned) → Alike s d x u → Alike s d y w
      → Alike s d (cond b x y) (cond b u w)
  either true x y u w f g = f
  either false x y u w f g = g

  -- ---- jumps

  pub jump_alike : (at : ℕ) (a : State) (y : List ℤ) → Rows s d a.cells y → Spares s a
      → Alike s d (jump amx at a) (jump amx at (record a { cells = y }))
  jump_alike at a y r k =
      guard p (is_start amx.code at) (is_start amx.code at) (at_next at a)
      (at_next at (record a { cells = y })) (pos 6) refl (λ e. goes p r k)

  pub jumps : (b : Bool) (at q : ℕ) → Alike s d (jump_if b at q s) (jump_if b at q t)
  jumps true at q = still p refl refl
  jumps false at q = still p refl refl

  pub returned_alike : (frm cip count n : ℕ)
      → Alike s d (returned amx frm cip count (record s { stk = n }))
      (returned amx frm cip count (record s { stk = n; cells = d }))
  returned_alike frm cip count n =
      guard p (count % 4 == 0) (count % 4 == 0) _ _ (pos 5) refl
      (λ a. guard p (nat_le (n + count) (4 * length s.cells)) (nat_le (n + count) (4 * length d)) _ _
      (pos 7) (ap (λ m. nat_le (n + count) (4 * m)) (sym p.size))
      (λ b. guard p (is_start amx.code cip) (is_start amx.code cip) _ _ (pos 6) refl
      (λ c. still p refl refl)))

  -- ---- registers

  pub register_same : (q n : ℕ) → register amx q n s ≡ register amx q n t
  register_same q n =
      ap (λ m. get_or (pos 0 ∷ cell_of (4 * length amx.code) ∷ cell_of s.hea ∷ cell_of (4 * m)
      ∷ cell_of s.stk ∷ cell_of s.frm ∷ cell_of q ∷ []) n (pos 0)) (sym p.size)

  pub register_alike : (q n : ℕ)
      → Alike s d (at_next q (record s { pri = register amx q n s }))
      (at_next q (record t { pri = register amx q n t }))
  register_alike q n =
      subst (λ x. Alike s d (at_next q (record s { pri = register amx q n s }))
      (at_next q (record t { pri = x }))) (register_same q n) (still p refl refl)

  pub divide_alike : (f g : ℤ → ℤ → ℤ) (a b : ℤ) (q : ℕ)
      → Alike s d (divide f g a b q s) (divide f g a b q t)
  divide_alike f g a b q = either (is_zero b) _ _ _ _ (errs p) (still p refl refl)

  pub margin_alike : (a : State) (y : List ℤ) (go : State → Turned)
      → Alike s d (go a) (go (record a { cells = y }))
      → Alike s d (with_margin a go) (with_margin (record a { cells = y }) go)
  margin_alike a y go f =
      guard p (nat_le (a.hea + 64) a.stk) (nat_le (a.hea + 64) a.stk) _ _ (pos 3) refl (λ e. f)

  pub stack_alike : (z : ℤ) (q : ℕ) (x : ℤ)
      → Alike s d (stack_to z q (record s { alt = x })) (stack_to z q (record s { alt = x; cells = d }))
  stack_alike (pos n) q x =
      guard p (nat_le n (4 * length s.cells)) (nat_le n (4 * length d)) _ _ (pos 7)
      (ap (λ m. nat_le n (4 * m)) (sym p.size))
      (λ e. margin_alike (record s { stk = n; alt = x }) d (at_next q) (still p refl refl))
  stack_alike (negsuc n) q x = errs p

  pub heap_alike : (z : ℤ) (q : ℕ) (x : ℤ)
      → Alike s d (heap_to amx z q (record s { alt = x })) (heap_to amx z q (record s { alt = x; cells = d }))
  heap_alike (pos n) q x =
      guard p (nat_le (first_hea amx) n) (nat_le (first_hea amx) n) _ _ (pos 8) refl
      (λ e. margin_alike (record s { hea = n; alt = x }) d (at_next q) (still p refl refl))
  heap_alike (negsuc n) q x = errs p

  multiple_alike : (v : ℤ) (a u : Turned) → Alike s d a u → Alike s d (when_multiple v a) (when_multiple v u)
  multiple_alike v a u f =
      guard p (bits_of v % 4 == 0) (bits_of v % 4 == 0) a u (pos 5) refl (λ e. f)

  pub set_alike : (q n : ℕ) → Alike s d (set_register amx q n s) (set_register amx q n t)
  set_alike q n =
      either (n == 2) _ _ _ _ (multiple_alike s.pri _ _ (heap_alike s.pri q s.alt))
      (either (n == 4) _ _ _ _ (multiple_alike s.pri _ _ (stack_alike s.pri q s.alt))
      (either (n == 5) _ _ _ _ (still p refl refl)
      (jump_alike (bits_of s.pri) s d (base p) (λ k x y. refl))))

  -- ---- the host

  pub ask_alike : (n q : ℕ) → Alike s d (ask amx n (record s { cip = q })) (ask amx n (record t { cip = q }))
  ask_alike n q =
      guard p (nat_lt n (length amx.natives)) (nat_lt n (length amx.natives)) _ _ (pos 19) refl
      (λ e. asks p (base p) (λ k x y. refl))
