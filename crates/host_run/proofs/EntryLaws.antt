-- The number of an entry has its address.
use Rattle.std.proofs.Common.{◌≡◌, ◌<◌, ℕ, zero, suc, ℤ, pos, negsuc, List, [], ◌∷◌, Bool}
use Rattle.std.proofs.Common.{true, false, Option, None, Some, length, slice_get, option_map}
use Rattle.std.proofs.Common.{cond, IfSome, refl, sym, subst, arith}
use Rattle.std.specs.Prelude.{bytes_eq}
use Rattle.pawn_cells.specs.Cells.{equal}
use Rattle.amx_ops.specs.declared.amx.Amx.{Amx}
use Rattle.host_run.specs.declared.entry.TheConstants.{MAIN}
use Rattle.host_run.specs.Entry.{public_named, IsEntryOf}

get_some : {A : Type 0} (xs : List A) (n : ℕ) → n < length xs → (x : A) × (slice_get xs n ≡ Some x)
get_some [] n h = absurd (omega (arith, h))
get_some (x ∷ xs) zero h = (x, refl)
get_some (x ∷ xs) (suc n) h = get_some xs n (omega (arith, h))

module _ (amx : Amx) (name : List ℕ) where
  abbrev found : Option ℕ
  found = public_named amx.publics name

  pub main_by : (b : Bool) (o : Option ℤ) → equal amx.entry (negsuc 0) ≡ b
      → bytes_eq name MAIN ≡ true → o ≡ cond b None (Some (negsuc 0))
      → IsEntryOf amx name o
  main_by true o h e is =
      let P : Option ℤ → Type 0 = IsEntryOf amx name in subst P (sym is) (rw (e, h) refl)
  main_by false o h e is =
      let P : Option ℤ → Type 0 = IsEntryOf amx name in
      subst P (sym is) (amx.entry, rw (e, h) refl, rw h refl)

  pub public_by : (f : Option ℕ) (o : Option ℤ) → found ≡ f → IfSome f (λ n. n < length amx.publics)
      → bytes_eq name MAIN ≡ false
      → o ≡ option_map pos f → IsEntryOf amx name o
  public_by None o h w e is =
      let P : Option ℤ → Type 0 = IsEntryOf amx name in subst P (sym is) (rw (e, h) refl)
  public_by (Some n) o h w e is =
      let P : Option ℤ → Type 0 = IsEntryOf amx name in
      let it = get_some amx.publics n w in
      subst P (sym is) (it.0.address, rw (e, h, it.1) refl, rw it.1 refl)
