-- A load, a start and all segments of a trace keep a state in its form.
use Rattle.std.proofs.Common.{◌≡◌, ◌+◌, ◌-◌, ◌*◌, ◌/◌, ◌^◌, ◌<◌, ◌≤◌, ◌++◌, ℕ, zero, suc, ℤ, pos}
use Rattle.std.proofs.Common.{negsuc, List, [], ◌∷◌, Bool, true, false, cond, All, Option, None}
use Rattle.std.proofs.Common.{Some, IfSome, map, length, replicate, set, slice_get, option_map}
use Rattle.std.proofs.Common.{option_and_then, nat_le, refl, subst, arith, length-append, leb-true}
use Rattle.std.proofs.Common.{is_some}
use Rattle.std.proofs.lemmas.Bool.{false≢true}
use Rattle.std.proofs.lemmas.List.{length-replicate}
use Rattle.std.proofs.lemmas.List.Elements.{All-cons, All-head, All-tail, All-append, All-replicate}
use Rattle.pawn_cells.specs.Cells.{IsCell, bits_of, cell_of, equal}
use Rattle.host_script.specs.declared.script.Script.{Script}
use Rattle.host_script.specs.Ranges.{IsScript}
use Rattle.amx_ops.specs.declared.amx.Amx.{Amx}
use Rattle.amx_ops.specs.declared.amx.Record.{Record}
use Rattle.amx_ops.specs.declared.instr.Instr.{Instr}
use Rattle.amx_ops.specs.Writable.{memory_limit}
use Rattle.amx_ops.specs.Instructions.{fetched, is_start}
use Rattle.amx_ops.specs.Valid.{Entry as Entry_fault, unless, entry_fault, publics_fault}
use Rattle.amx_ops.specs.State.{State, Turned, Goes, Errs, Halts, Asks}
use Rattle.amx_ops.specs.States.{IsState}
use Rattle.amx_ops.specs.Step.{step}
use Rattle.amx_ops.specs.Runs as run
use Rattle.amx_ops.specs.Runs.{Moved, Stop, Steps, Asleep, Over_by, Segmented, segment, joined}
use Rattle.amx_ops.specs.Moves.{Config, move, moved, halted_by, name_of, arguments}
use Rattle.amx_ops.specs.Table.{is_number}
use Rattle.amx_ops.specs.Trace.{Entry, Main, Public, address_of, loaded, pushed_by, pushed_all}
use Rattle.amx_ops.specs.Trace.{fresh, start_at}
use Rattle.amx_ops.specs.Keeps.{IsRunnable, Leaves, reached, KeepsStates}
use Rattle.pawn_cells.proofs.CellLaws.{cell_of_cell, bits_fit, small_cell}
use Rattle.amx_ops.proofs.FetchLaws.{both_none, fetched_within}
use Rattle.amx_ops.proofs.StateLaws.{pushed}
use Rattle.amx_ops.proofs.StepLaws.{steps}
use Rattle.amx_ops.proofs.NativeLaws.{asked_keeps}
use Rattle.amx_ops.proofs.RunLaws.{segment-zero, segment-goes, segment-sleeps, segment-ends}

loaded_is : (amx : Amx) (room : ℕ) → IsRunnable amx → 4 * (length amx.store + room) ≤ memory_limit
    → IsState amx (loaded amx room)
loaded_is amx room r h =
    let size : length (amx.store ++ replicate room (pos 0)) ≡ length amx.store + room =
    omega (arith, length-append amx.store (replicate room (pos 0)), length-replicate room (pos 0))
    in
    record {
      pri = small_cell 0 (omega arith);
      alt = small_cell 0 (omega arith);
      frm = omega arith;
      cip = omega arith;
      cells =
          All-append IsCell amx.store (replicate room (pos 0)) r.store
          (All-replicate IsCell room (pos 0) (small_cell 0 (omega arith)));
      size = omega arith;
      whole = (omega arith, omega arith);
      order = (omega arith, omega arith, omega arith);
    }

-- ---- starts

pushed_some : (amx : Amx) (v : ℤ) (s : State) (b : Bool) → nat_le (s.hea + 4) s.stk ≡ b → IsCell v
    → IsState amx s
    → IfSome (cond b (Some (record s { stk = s.stk - 4; cells = set s.cells ((s.stk - 4) / 4) v }))
    None) (IsState amx)
pushed_some amx v s true e c h = pushed amx s v (leb-true (s.hea + 4) s.stk e) c h
pushed_some amx v s false e c h = tt

pushed_by_is : (amx : Amx) (v : ℤ) (o : Option State) → IsCell v → IfSome o (IsState amx)
    → IfSome (pushed_by v o) (IsState amx)
pushed_by_is amx v None c h = tt
pushed_by_is amx v (Some s) c h = pushed_some amx v s (nat_le (s.hea + 4) s.stk) refl c h

pushed_all_is : (amx : Amx) (vs : List ℤ) (s : State) → All IsCell vs → IsState amx s
    → IfSome (pushed_all vs s) (IsState amx)
pushed_all_is amx [] s c h = h
pushed_all_is amx (v ∷ vs) s c h =
    pushed_by_is amx v (pushed_all vs s) (All-head IsCell v vs c)
    (pushed_all_is amx vs s (All-tail IsCell v vs c) h)

fresh_is : (amx : Amx) (address : ℤ) (s : State) → bits_of address < 2 ^ 32 → IsState amx s
    → IsState amx (fresh amx address s)
fresh_is amx address s c h =
    let a = h.order in
    record {
      pri = small_cell 0 (omega arith);
      alt = small_cell 0 (omega arith);
      frm = omega arith;
      cip = c;
      cells = h.cells;
      size = h.size;
      whole = (omega arith, omega arith);
      order = (omega arith, omega arith, omega arith);
    }

some_is : (amx : Amx) (o : Option State) (t : State) → IfSome o (IsState amx) → o ≡ Some t
    → IsState amx t
some_is amx o t h e = subst (λ x. IfSome x (IsState amx)) e h

starts_at_is : (amx : Amx) (address : ℤ) (arguments : List ℤ) (s t : State)
    → bits_of address < 2 ^ 32 → All IsCell arguments → IsState amx s
    → start_at amx address arguments s ≡ Some t → IsState amx t
starts_at_is amx address arguments s t c g h e =
    let count = cell_of (4 * length arguments) in
    some_is amx (start_at amx address arguments s) t
    (pushed_all_is amx (pos 0 ∷ count ∷ arguments) (fresh amx address s)
    (All-cons IsCell (pos 0) (count ∷ arguments) (small_cell 0 (omega arith))
    (All-cons IsCell count arguments (cell_of_cell (4 * length arguments)) g))
    (fresh_is amx address s c h)) e

-- ---- the address of an entry is one in the code

start_by : (code : List ℤ) (a : ℕ) (o : Option Instr) → fetched code a ≡ o → All IsCell code
    → is_some o ≡ true → a ≤ 4 * length code
start_by code a None e h k = absurd (false≢true k)
start_by code a (Some i) e h k = omega (arith, (fetched_within code a i h e).ends)

leads_by : (b : Bool) (n : ℤ) → unless b (Entry_fault n) ≡ None → b ≡ true
leads_by true n e = refl
leads_by false n e = absurd (let no : ⊥ = cc in no)

address_fits : (code : List ℤ) (n address : ℤ) → All IsCell code → 4 * length code ≤ memory_limit
    → entry_fault code n address ≡ None → bits_of address < 2 ^ 32
address_fits code n (pos a) h size e =
    omega (arith, start_by code a (fetched code a) refl h (leads_by (is_start code a) n e))
address_fits code n (negsuc a) h size e = absurd (let no : ⊥ = cc in no)

main_by : (b : Bool) (code : List ℤ) (entry : ℤ) (address : ℤ) → All IsCell code
    → 4 * length code ≤ memory_limit
    → cond b None (entry_fault code (negsuc 0) entry) ≡ None
    → cond b None (Some entry) ≡ Some address → bits_of address < 2 ^ 32
main_by true code entry address h size e k = absurd (let no : ⊥ = cc in no)
main_by false code entry address h size e k =
    let same : entry ≡ address = cc in
    subst (λ a. bits_of a < 2 ^ 32) same (address_fits code (negsuc 0) entry h size e)

public_by : (code : List ℤ) (publics : List Record) (first n : ℕ) (address : ℤ) → All IsCell code
    → 4 * length code ≤ memory_limit
    → publics_fault code first (map (λ (it : Record). it.address) publics) ≡ None
    → option_map (λ (it : Record). it.address) (slice_get publics n) ≡ Some address
    → bits_of address < 2 ^ 32
public_by code [] first n address h size e k = absurd (let no : ⊥ = cc in no)
public_by code (it ∷ publics) first zero address h size e k =
    let same : it.address ≡ address = cc in
    subst (λ a. bits_of a < 2 ^ 32) same
    (address_fits code (pos first) it.address h size
    (both_none (entry_fault code (pos first) it.address) _ e).0)
public_by code (it ∷ publics) first (suc n) address h size e k =
    public_by code publics (first + 1) n address h size
    (both_none (entry_fault code (pos first) it.address) _ e).1 k

entry_fits : (amx : Amx) (entry : Entry) (address : ℤ) → IsRunnable amx
    → address_of amx entry ≡ Some address → bits_of address < 2 ^ 32
entry_fits amx Main address r e =
    main_by (equal amx.entry (negsuc 0)) amx.code amx.entry address r.code r.size
    (both_none _ _ (both_none _ _ r.valid).1).0 e
entry_fits amx (Public n) address r e =
    public_by amx.code amx.publics 0 n address r.code r.size
    (both_none _ _ (both_none _ _ r.valid).1).1 e

starts_by : (amx : Amx) (arguments : List ℤ) (s t : State) (o : Option ℤ)
    → ((address : ℤ) → o ≡ Some address → bits_of address < 2 ^ 32)
    → All IsCell arguments → IsState amx s
    → option_and_then (λ address. start_at amx address arguments s) o ≡ Some t → IsState amx t
starts_by amx arguments s t None f g h e = absurd (let no : ⊥ = cc in no)
starts_by amx arguments s t (Some address) f g h e =
    starts_at_is amx address arguments s t (f address refl) g h e

-- ---- moves

halted_is : (amx : Amx) (v : ℤ) (a b d : Bool) (s : State) (c : Config) → IsState amx s
    → IsState amx (reached (halted_by v a b d s c)).state
halted_is amx v true b d s c h = h
halted_is amx v false true d s c h = h
halted_is amx v false false true s c h = h
halted_is amx v false false false s c h = h

moved_is : (amx : Amx) (script : Script) (c : Config) (t : Turned) → IsScript script
    → IsState amx c.state → Leaves amx t
    → IsState amx (reached (moved amx script c t)).state
moved_is amx script c (Goes s) g h l = l
moved_is amx script c (Errs code) g h l = h
moved_is amx script c (Halts v s) g h l =
    halted_is amx v (is_number 0 v) (is_number 1 v) (is_number 12 v) s c l.0
moved_is amx script c (Asks n s) g h l =
    asked_keeps amx script (name_of amx.natives n) (arguments s) s c g l

-- ---- segments, and all of them together

module _ {C E : Type 0} (mv : C → Moved C E) (P : C → Type 0)
    (keeps : (c : C) → P c → P (reached (mv c))) where
  goes : (c : C) (m : Moved C E) → mv c ≡ m → P c → P (reached m)
  goes c m e h = subst (λ x. P (reached x)) e (keeps c h)

  segment_by : (n k : ℕ) (c : C) (m : Moved C E) → mv c ≡ m → P c
      → ((d : C) → P d → P (segment mv n (k + 1) d).config)
      → P (segment mv (suc n) k c).config
  segment_by n k c (run.Goes d) e h f =
      rw (segment-goes mv n k c d e) (f d (goes c (run.Goes d) e h))
  segment_by n k c (run.Sleeps d) e h f =
      rw (segment-sleeps mv n k c d e) (goes c (run.Sleeps d) e h)
  segment_by n k c (run.Ends x d) e h f =
      rw (segment-ends mv n k c d x e) (goes c (run.Ends x d) e h)

  segment_is : (n k : ℕ) (c : C) → P c → P (segment mv n k c).config
  segment_is zero k c h = rw (segment-zero mv k c) h
  segment_is (suc n) k c h = segment_by n k c (mv c) refl h (λ d. segment_is n (k + 1) d)

  joined_by : (bound next : ℕ) (bounds : List ℕ) (c : C) (stop : Stop E)
      → (segment mv bound 0 c).stop ≡ stop → P c
      → ((d : C) → P d → P (joined mv next bounds d).config)
      → P (joined mv bound (next ∷ bounds) c).config
  joined_by bound next bounds c Steps e h f = rw (e, joined) (segment_is bound 0 c h)
  joined_by bound next bounds c Asleep e h f =
      rw (e, joined) (f (segment mv bound 0 c).config (segment_is bound 0 c h))
  joined_by bound next bounds c (Over_by x) e h f = rw (e, joined) (segment_is bound 0 c h)

  joined_is : (bound : ℕ) (bounds : List ℕ) (c : C) → P c → P (joined mv bound bounds c).config
  joined_is bound [] c h = segment_is bound 0 c h
  joined_is bound (next ∷ bounds) c h =
      joined_by bound next bounds c (segment mv bound 0 c).stop refl h
      (λ d. joined_is next bounds d)

pub keeps_states : KeepsStates
keeps_states = record {
  loads = loaded_is;
  starts =
      λ amx entry arguments s t r g h e. starts_by amx arguments s t (address_of amx entry)
      (λ address k. entry_fits amx entry address r k) g h e;
  starts_at =
      λ amx address arguments s t c g h e. starts_at_is amx address arguments s t
      (bits_fit address c) g h e;
  steps = λ amx s r h. steps amx r s h;
  answers = λ amx script name s c g h. asked_keeps amx script name (arguments s) s c g h;
  traces = λ amx script bound bounds c r g h.
      joined_is (move amx script) (λ d. IsState amx d.state)
      (λ d k. moved_is amx script d (step amx d.state) g k (steps amx r d.state k)) bound
      bounds c h;
}
