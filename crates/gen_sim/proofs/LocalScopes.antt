-- A scope with a local more, and the view with it.
use Rattle.std.proofs.Common.{◌≡◌, ◌≢◌, ◌<◌, ◌≤◌, ◌⊎◌, inl, inr, ℕ, zero, suc, List, [], ◌∷◌, ◌++◌}
use Rattle.std.proofs.Common.{length, slice_get, refl, sym, ap, subst, ◌∙◌, arith}
use Rattle.std.specs.Prelude.{Any, get_or}
use Rattle.pawn_meaning.specs.Program.{Slot, ScalarSlot, ReferenceSlot, ArraySlot, OpenSlot}
use Rattle.pawn_meaning.specs.Program.{Program}
use Rattle.pawn_meaning.specs.Scope.{Scope, IsMade, with_made}
use Rattle.pawn_meaning.specs.Memory.{Local}
use Rattle.gen_sim.specs.Pieces.{Thing}
use Rattle.gen_sim.specs.View.{View, innermost}
use Rattle.gen_sim.specs.Next.{with_local}
use Rattle.gen_sim.proofs.MemLaws.{placed_above}
use Rattle.gen_sim.specs.Fits.{own_sizes, locals_of, AreOnce, ParamFits, Fits}

-- ---- some element of a list with one more at its end

pub any_here : {A : Type 0} (P : A → Type 0) (x : A) (xs : List A) → P x → Any P (x ∷ xs)
any_here P x xs p = (zero, x, omega arith, refl, p)

pub any_there : {A : Type 0} (P : A → Type 0) (x : A) (xs : List A) → Any P xs → Any P (x ∷ xs)
any_there P x xs h = (suc h.0, h.1, omega (arith, h.2), h.3, h.4)

pub any_cases : {A : Type 0} (P : A → Type 0) (x : A) (xs : List A) → Any P (x ∷ xs)
    → P x ⊎ Any P xs
any_cases {A} P x xs h = by_place h.0 h.1 h.2 h.3 h.4
  where
    by_place : (k : ℕ) (y : A) → k < length (x ∷ xs) → get_or (x ∷ xs) k y ≡ y → P y
        → P x ⊎ Any P xs
    by_place zero y l e p = inl (subst P (sym e) p)
    by_place (suc k) y l e p = inr (k, y, omega (arith, l), e, p)

any_none : {A : Type 0} (P : A → Type 0) → Any P [] → ⊥
any_none P h = absurd (omega (arith, h.2))

any_last : {A : Type 0} (P : A → Type 0) (xs : List A) (y : A) → Any P (xs ++ y ∷ [])
    → Any P xs ⊎ P y
any_last P [] y h = by_end (any_cases P y [] h)
  where
    by_end : P y ⊎ Any P [] → Any P [] ⊎ P y
    by_end (inl p) = inr p
    by_end (inr p) = inl p
any_last {A} P (x ∷ xs) y h = by_end (any_cases P x (xs ++ y ∷ []) h) (λ k. any_last P xs y k)
  where
    deeper : Any P xs ⊎ P y → Any P (x ∷ xs) ⊎ P y
    deeper (inl p) = inl (any_there P x xs p)
    deeper (inr p) = inr p

    by_end : P x ⊎ Any P (xs ++ y ∷ []) → (Any P (xs ++ y ∷ []) → Any P xs ⊎ P y)
        → Any P (x ∷ xs) ⊎ P y
    by_end (inl p) further = inl (any_here P x xs p)
    by_end (inr p) further = deeper (further p)

-- ---- locals with one more

newest_first : (frame : ℕ) (slots : List Slot) (made : List ℕ) (s : ℕ)
    → locals_of frame slots (made ++ s ∷ [])
    ≡ Thing (Local frame s) (own_sizes (slice_get slots s)) ∷ locals_of frame slots made
newest_first frame slots [] s = refl
newest_first frame slots (m ∷ made) s =
    ap (λ ps. ps ++ Thing (Local frame m) (own_sizes (slice_get slots m)) ∷ [])
    (newest_first frame slots made s)

once_more : (made : List ℕ) (s : ℕ) → AreOnce made → ¬ (Any (λ m. m ≡ s) made)
    → AreOnce (made ++ s ∷ [])
once_more [] s h new = (λ a. any_none (λ m. m ≡ s) a, tt)
once_more (m ∷ made) s h new = (
  λ a. other (any_last (λ n. n ≡ m) made s a),
  once_more made s h.1 (λ a. new (any_there (λ n. n ≡ s) m made a)),
)
  where
    other : Any (λ n. n ≡ m) made ⊎ (s ≡ m) → ⊥
    other (inl a) = h.0 a
    other (inr e) = new (any_here (λ n. n ≡ s) m made (sym e))

module _ (program : Program) (room : ℕ) where
  -- a parameter stays where it is
  param_fits : (v : View) (slot : ℕ) (sizes : List ℕ) (s : ℕ) (kind : Slot) → s ≢ slot
      → ParamFits program room v s kind
      → ParamFits program room (with_local v slot sizes) s kind
  param_fits v slot sizes s ScalarSlot other h =
      (h.0, placed_above (Thing (Local (innermost v) slot) sizes ∷ []) (inr other, tt) h.1, h.2)
  param_fits v slot sizes s ReferenceSlot other h = h
  param_fits v slot sizes s (ArraySlot inner) other h = h
  param_fits v slot sizes s (OpenSlot inner) other h = h

  -- a slot that was not made yet, and is no parameter
  pub local_fits : (scope : Scope) (v : View) (slot : ℕ) → Fits program room scope v
      → scope.params ≤ slot → ¬ (IsMade scope slot)
      → Fits program room (with_made (slot ∷ []) scope)
      (with_local v slot (own_sizes (slice_get scope.slots slot)))
  local_fits scope v slot h above new = record {
    rest = h.rest;
    locals =
        ap (λ ps. Thing (Local (innermost v) slot) (own_sizes (slice_get scope.slots slot)) ∷ ps)
        h.locals
        ∙ ap (λ ps. ps ++ h.rest) (sym (newest_first (innermost v) scope.slots scope.made slot));
    once = once_more scope.made slot h.once new;
    behind_params = λ s made. by_last s (any_last (λ m. m ≡ s) scope.made slot made);
    frame = h.frame;
    params = λ s kind below is.
        param_fits v slot (own_sizes (slice_get scope.slots slot)) s kind
        (λ e. absurd (omega (arith, e, below, above))) (h.params s kind below is);
    nowhere_else = h.nowhere_else;
    deep = h.deep;
  }
    where
      by_last : (s : ℕ) → Any (λ m. m ≡ s) scope.made ⊎ (slot ≡ s) → scope.params ≤ s
      by_last s (inl a) = h.behind_params s a
      by_last s (inr e) = omega (arith, e, above)
