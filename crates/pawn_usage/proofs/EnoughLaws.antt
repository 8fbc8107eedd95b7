-- With the cells of the greatest chain and some to spare the stack is never short.
use Rattle.std.proofs.Common.{◌≡◌, ◌⊎◌, inl, inr, ◌+◌, ◌≤◌, ℕ, zero, suc, List, [], ◌∷◌}
use Rattle.std.proofs.Common.{◌++◌, Some, false, sym, ap, subst, ◌∙◌, arith}
use Rattle.std.proofs.Common.{slice_get, map}
use Rattle.std.specs.Prelude.{Contains, reverse, option_map}
use Rattle.std.proofs.lemmas.Option.{slice_get-map, slice_get_within, get_or_from_slice_get}
use Rattle.std.proofs.lemmas.List.Elements.{Contains-append_left, Contains-append_right}
use Rattle.std.proofs.lemmas.List.Elements.{Contains-push}
use Rattle.host_script.specs.declared.script.Script.{Script}
use Rattle.pawn_meaning.specs.Program.{Program, Public}
use Rattle.pawn_meaning.specs.World as world
use Rattle.pawn_meaning.specs.Told.{meaning, scene_of}
use Rattle.pawn_meaning.specs.Extends.{Rises}
use Rattle.pawn_meaning.proofs.LaterTurns.{turns_never_fall_lem}
use Rattle.amx_ops.specs.declared.amx.Amx.{Amx}
use Rattle.amx_ops.specs.Trace.{Entry, Main}
use Rattle.amx_ops.specs.Trace as trace
use Rattle.gen_agrees.specs.Agrees.{Agrees, function_of}
use Rattle.gen_agrees.specs.AgreesOn.{Mark, is_cut, IsLost, IsShort}
use Rattle.pawn_usage.specs.Called.{at_most_one}
use Rattle.pawn_usage.specs.Chains.{starts, chain_need}
use Rattle.pawn_usage.specs.IsUsage.{IsBound}
use Rattle.pawn_usage.specs.SpareCells.{spare_cells}
use Rattle.pawn_usage.specs.UsageIsEnough.{IsEnough, EndsByScript, UsageIsEnough}
use Rattle.pawn_usage.proofs.ChainLaws.{IsLive, live_is_chain, need_reverse}
use Rattle.pawn_usage.proofs.LiveCalls.{whole_told}

-- ---- no mark of a meaning has a greater peak than its end

peaks_rise : (t p : ℕ) (es : List world.Entry) (t' p' : ℕ) → Rises t p es t' p' → p ≤ p'
peaks_rise t p [] t' p' r = r.1
peaks_rise t p (e ∷ es) t' p' r = omega (arith, r.1, peaks_rise e.turns e.peak es t' p' r.2)

mark_below : (t p : ℕ) (es : List world.Entry) (last : Mark) (n : ℕ) (mark : Mark)
    → Rises t p es last.turns last.peak
    → slice_get
    (map (λ (entry : world.Entry).
    record { turns = entry.turns; peak = entry.peak; is_cut = false }) es ++ last ∷ []) n
    ≡ Some mark → mark.peak ≤ last.peak
mark_below t p [] last zero mark r e =
    let same : last ≡ mark = cc in omega (arith, ap (λ (m : Mark). m.peak) same)
mark_below t p [] last (suc n) mark r e = absurd (let no : ⊥ = cc in no)
mark_below t p (x ∷ es) last zero mark r e =
    let same : record { turns = x.turns; peak = x.peak; is_cut = false } ≡ mark = cc in
    omega (
      arith,
      ap (λ (m : Mark). m.peak) same,
      peaks_rise x.turns x.peak es last.turns last.peak r.2,
    )
mark_below t p (x ∷ es) last (suc n) mark r e = mark_below x.turns x.peak es last n mark r.2 e

-- ---- meanings

module _ (program : Program) (cells : ℕ) (chain : List ℕ) (bound : IsBound program cells chain) where
  live_below : (live : List ℕ) → IsLive program live → chain_need program live ≤ cells
  live_below live h =
      omega (
        arith,
        need_reverse program live,
        bound.greatest (reverse live) (live_is_chain program live h),
      )

  pub enough : (script : Script) (f : ℕ) → Contains (starts program) f
      → IsEnough program cells script f
  enough script f start = record {
    peaks = λ limit. peak limit;
    never_short = λ count room h short. not_short count room h short;
  }
    where
      peak : (limit : ℕ) → (meaning program script f limit).peak ≤ cells
      peak limit = (whole_told (scene_of program script limit) f start).peak_is cells live_below

      not_short : (count room : ℕ) → cells + spare_cells ≤ room
          → IsShort (meaning program script f) count room → ⊥
      not_short count room h short =
          let told = meaning program script f short.limit in
          let last : Mark =
          record { turns = told.turns; peak = told.peak; is_cut = is_cut told.last } in
          absurd (omega (
            arith,
            h,
            short.deep,
            mark_below 0 0 told.entries last count short.mark
                (turns_never_fall_lem program script f short.limit) short.next,
            peak short.limit,
          ))

-- ---- files

public_start : (publics : List Public) (n f : ℕ)
    → option_map (λ (it : Public). it.function) (slice_get publics n) ≡ Some f
    → Contains (map (λ (it : Public). it.function) publics) f
public_start publics n f e =
    let functions = map (λ (it : Public). it.function) publics in
    let at : slice_get functions n ≡ Some f =
    slice_get-map (λ (it : Public). it.function) publics n ∙ e in
    (n, slice_get_within functions n f at, get_or_from_slice_get functions n f f at)

entry_start : (program : Program) (entry : Entry) (f : ℕ) → function_of program entry ≡ Some f
    → Contains (starts program) f
entry_start program Main f e =
    Contains-append_left (at_most_one program.entry)
    (map (λ (item : Public). item.function) program.publics) f
    (subst (λ o. Contains (at_most_one o) f) (sym e) (Contains-push [] f))
entry_start program (trace.Public n) f e =
    Contains-append_right (at_most_one program.entry)
    (map (λ (item : Public). item.function) program.publics) f
    (public_start program.publics n f e)

ends_by_script : (program : Program) (cells : ℕ) (chain : List ℕ) → IsBound program cells chain
    → (amx : Amx) → Agrees program amx → EndsByScript program amx cells
ends_by_script program cells chain bound amx agrees script room entry f address bound_on bounds
    keeps serves within function_is address_is room_enough over =
    by_stack ((agrees.runs script room entry f address bound_on bounds keeps serves within
    function_is address_is).stack over)
  where
    by_stack : {count : ℕ} {A : Type 0} → IsLost (meaning program script f) count
        ⊎ (A ⊎ IsShort (meaning program script f) count room)
        → IsLost (meaning program script f) count ⊎ A
    by_stack (inl lost) = inl lost
    by_stack (inr (inl is)) = inr is
    by_stack {count} (inr (inr short)) =
        absurd ((enough program cells chain bound script f
        (entry_start program entry f function_is)).never_short count room room_enough short)

pub usage_is_enough_lem : UsageIsEnough
usage_is_enough_lem = record {
  meanings = λ program cells chain bound script f start.
      enough program cells chain bound script f start;
  files = λ program cells chain bound amx agrees.
      ends_by_script program cells chain bound amx agrees;
}
