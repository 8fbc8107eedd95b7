-- What holds of a view holds of it with temporary arguments more.
use Rattle.std.proofs.Common.{◌≡◌, ◌+◌, ◌≤◌, ℕ, zero, suc, ℤ, List, [], ◌∷◌, length, sum, refl, sym}
use Rattle.std.proofs.Common.{ap, subst, ◌∙◌, arith}
use Rattle.pawn_meaning.specs.Program.{Slot, ScalarSlot, ReferenceSlot, ArraySlot, OpenSlot}
use Rattle.pawn_meaning.specs.Program.{Program, Arg, Value, Ref, Whole, Temp, Args, no_args}
use Rattle.pawn_meaning.specs.Program.{then_arg}
use Rattle.pawn_meaning.specs.Scope.{Scope}
use Rattle.pawn_meaning.specs.ValidExprs.{ArgsAgree}
use Rattle.pawn_meaning.specs.Memory.{Local, Temporary}
use Rattle.pawn_meaning.specs.Natives.{Held}
use Rattle.pawn_meaning.specs.Need.{count_of}
use Rattle.gen_sim.specs.Pieces.{Thing, data_pieces, temporaries}
use Rattle.gen_sim.specs.Places.{Placed}
use Rattle.gen_sim.specs.View.{View, depth, innermost, all_cells, used}
use Rattle.gen_sim.specs.Next.{with_temporary, HoldArguments}
use Rattle.gen_sim.proofs.PieceLaws.{total-append}
use Rattle.gen_sim.proofs.MemLaws.{placed_behind}
use Rattle.gen_sim.proofs.DataLaws.{temporaries_count}
use Rattle.gen_sim.proofs.ViewLaws.{earlier_apart, more_low, temporary_arguments}
use Rattle.gen_sim.specs.Fits.{ParamFits, Fits}
use Rattle.gen_sim.specs.Results.{is_temporary, temporaries_in, with_temporaries}
use Rattle.gen_sim.proofs.TemporaryLaws.{with_temporaries_is}

module _ (program : Program) (room : ℕ) where
  -- ---- fits

  param_fits : (v : View) (s : ℕ) (kind : Slot) → 1 ≤ depth v → ParamFits program room v s kind
      → ParamFits program room (with_temporary v) s kind
  param_fits v s ScalarSlot deep h = (
    h.0,
    subst (λ l. Placed (all_cells program room) l v.high
        (Thing (Local (innermost v) s) (1 ∷ [])) h.0) (sym (more_low program room v))
        (placed_behind (Thing (Temporary v.temps) (1 ∷ []) ∷ []) (
          earlier_apart (depth v) v.temps (Local (innermost v) s) (1 ∷ []) (1 ∷ [])
              (omega (arith, deep)),
          tt,
        ) h.1),
    h.2,
  )
  param_fits v s ReferenceSlot deep h = h
  param_fits v s (ArraySlot sizes) deep h = h
  param_fits v s (OpenSlot inner) deep h = h

  temporary_fits : (scope : Scope) (v : View) → Fits program room scope v
      → Fits program room scope (with_temporary v)
  temporary_fits scope v h = record {
    rest = h.rest;
    locals = h.locals;
    once = h.once;
    behind_params = h.behind_params;
    frame = h.frame;
    params = λ s kind below is. param_fits v s kind h.deep (h.params s kind below is);
    nowhere_else = h.nowhere_else;
    deep = h.deep;
  }

  pub temporaries_fit : (n : ℕ) (scope : Scope) (v : View) → Fits program room scope v
      → Fits program room scope (with_temporaries n v)
  temporaries_fit zero scope v h = h
  temporaries_fit (suc n) scope v h =
      temporary_fits scope (with_temporaries n v) (temporaries_fit n scope v h)

  -- ---- arguments that were evaluated

  pub arguments_stay : (n : ℕ) (v : View) (held : List Held) (cells : List ℤ)
      → HoldArguments program room v held cells
      → HoldArguments program room (with_temporaries n v) held cells
  arguments_stay zero v held cells h = h
  arguments_stay (suc n) v held cells h =
      temporary_arguments program room (with_temporaries n v) held cells
      (arguments_stay n v held cells h)

  -- ---- cells in use

  pub used_more : (n : ℕ) (v : View) (pending : List ℤ)
      → used program room (with_temporaries n v) pending ≡ used program room v pending + n
  used_more n v pending =
      ap (λ u. used program room u pending) (with_temporaries_is n v)
      ∙ omega (
        arith,
        total-append (data_pieces program) (temporaries (n + v.temps)),
        total-append (data_pieces program) (temporaries v.temps),
        temporaries_count (n + v.temps),
        temporaries_count v.temps,
      )

pub needs_stay : (n : ℕ) (v : View) → sum (with_temporaries n v).needs ≡ sum v.needs
needs_stay n v = ap (λ (u : View). sum u.needs) (with_temporaries_is n v)

pub more_of : (n k : ℕ) (v : View)
    → with_temporaries n (with_temporaries k v) ≡ with_temporaries (n + k) v
more_of zero k v = let e : k ≡ 0 + k = omega arith in ap (λ m. with_temporaries m v) e
more_of (suc n) k v =
    let e : suc (n + k) ≡ suc n + k = omega arith in
    ap (λ u. with_temporary u) (more_of n k v) ∙ ap (λ m. with_temporaries m v) e

-- ---- counts

pub agree_count : (scope : Scope) (kinds : List Slot) (args : Args) → ArgsAgree scope kinds args
    → length kinds ≡ count_of args
agree_count scope [] no_args h = refl
agree_count scope [] (then_arg a args) h = elim h [ ]
agree_count scope (k ∷ kinds) no_args h = elim h [ ]
agree_count scope (k ∷ kinds) (then_arg a args) h = ap suc (agree_count scope kinds args h.1)

one_at_most : (a : Arg) → is_temporary a ≤ 1
one_at_most (Value e) = omega arith
one_at_most (Ref p) = omega arith
one_at_most (Whole a) = omega arith
one_at_most (Temp e) = omega arith

pub temporaries_few : (args : Args) → temporaries_in args ≤ count_of args
temporaries_few no_args = omega arith
temporaries_few (then_arg a args) = omega (arith, one_at_most a, temporaries_few args)
