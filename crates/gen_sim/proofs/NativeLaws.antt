-- SYSREQ.C does what a native call means, with references that are seen and written through.
use Rattle.std.proofs.Common.{◌≡◌, ◌+◌, ◌*◌, ◌/◌, ◌%◌, ◌<◌, ℕ, ℤ, pos, List, [], ◌∷◌, ◌++◌, Option}
use Rattle.std.proofs.Common.{None, Some, true, ◌==◌, length, nat_le, nat_lt, refl, sym, ap, subst}
use Rattle.std.proofs.Common.{◌∙◌, arith, append_assoc, le-leb, lt-ltb, eq-eqb, length-append}
use Rattle.std.proofs.lemmas.List.{map-append}
use Rattle.std.proofs.Math.Seq.{drop-append_seam, take-append_seam}
use Rattle.std.specs.Prelude.{All}
use Rattle.pawn_cells.specs.Cells.{IsCell}
use Rattle.host_script.specs.declared.event.Event.{Event}
use Rattle.host_script.specs.declared.event.End.TheVariants as end
use Rattle.host_script.specs.NativeCall.{Lost, Fault, Put, Called, Ends_there, Answers, native_call}
use Rattle.pawn_meaning.specs.Program.{Program}
use Rattle.pawn_meaning.specs.Memory.{Memory, Object, put, write_cells, needs_of}
use Rattle.pawn_meaning.specs.World.{Entry, World, said}
use Rattle.pawn_meaning.specs.Run.{Stops}
use Rattle.pawn_meaning.specs.Meaning as meaning
use Rattle.pawn_meaning.specs.Told.{events_of}
use Rattle.pawn_meaning.specs.Natives.{Held, Spot, see, with_writes, finished, after_call}
use Rattle.pawn_meaning.specs.Natives.{call_native}
use Rattle.amx_ops.specs.declared.op.Op.TheVariants as op
use Rattle.amx_ops.specs.Instructions.{fetched}
use Rattle.amx_ops.specs.Written.{read_as}
use Rattle.amx_ops.specs.State.{State, stp}
use Rattle.amx_ops.specs.Moves as moves
use Rattle.amx_ops.specs.Moves.{Config, look, arguments, answered, asked, name_of, moved, move}
use Rattle.gen_sim.proofs.Sim.{stays, gives, stops, grown, goes_one, ends_one}
use Rattle.gen_sim.specs.Pieces.{Piece, image, vectors}
use Rattle.gen_sim.specs.Mem.{row, Mem}
use Rattle.gen_sim.specs.View.{View, all_cells, low}
use Rattle.gen_sim.specs.Next.{HoldsArgument, HoldArguments}
use Rattle.gen_sim.specs.Stands.{refers_at, Stands, With}
use Rattle.gen_sim.proofs.PieceLaws.{length_image}
use Rattle.gen_sim.proofs.ObjectLaws.{object_needs, object_heap, refers_same}
use Rattle.gen_sim.proofs.MemLaws.{count_cells, same_mem}
use Rattle.gen_sim.proofs.ChangeLaws.{image_row, there_low, top_is}
use Rattle.gen_sim.proofs.WorldLaws.{written, object_write}
use Rattle.gen_sim.specs.Site.{Site, IsSite, DoesAt}
use Rattle.gen_sim.specs.Items.{with}
use Rattle.gen_sim.proofs.NearNative.{Near, NearPuts, Alike, native_near}
use Rattle.gen_sim.proofs.SeenLaws.{SpotAt, spot_closed, see_near}
use Rattle.gen_sim.proofs.StepLaws.{move_is}

-- ---- writes

-- the values of writes are cells
abbrev pub PutsFit : List (Put Spot) → Type 0
PutsFit [] = Unit {0}
PutsFit (x ∷ xs) = All IsCell x.values × PutsFit xs

-- what an answer gives and writes is, as a script that keeps its ranges has it
abbrev pub AnswerFits : Called Spot → Type 0
AnswerFits (Ends_there trap position) = Unit {0}
AnswerFits (Answers event result position puts) = IsCell result × PutsFit puts

none_stays : (puts : List (Put Spot)) → with_writes puts None ≡ None
none_stays [] = refl
none_stays (x ∷ xs) = refl

module _ (program : Program) (room : ℕ) (v : View) (pending : List ℤ) (sees : Memory)
    (looks : State) where
  -- the memory behind writes
  record AfterWrites (m n : Memory) (t : State) : Type 0 where
    mem : Mem (all_cells program room) (low program room v) pending v.high n t
    params : (k slot : ℕ) → refers_at k slot n ≡ refers_at k slot m
    needs : needs_of n.frames ≡ needs_of m.frames
    temps : length n.heap ≡ length m.heap

  abbrev NearAll : List (Put Spot) → List (Put ℕ) → Type 0
  NearAll xs ys =
      NearPuts (see sees) (look looks) (HoldsArgument program room v) (SpotAt program room v)
      (spot_closed program room v) xs ys

  write_one : (m n : Memory) (s : State)
      → Mem (all_cells program room) (low program room v) pending v.high m s
      → (spot : Spot) (address : ℕ) (values : List ℤ)
      → SpotAt program room v (length values) spot address → All IsCell values
      → write_cells spot.object spot.at values m ≡ Some n
      → AfterWrites m n (record s { cells = put values (address / 4) s.cells })
  write_one m n s mem spot address values h f e =
      let r = written spot.object spot.at values m n e in
      let y : Object = record r.object { cells = put values spot.at r.object.cells } in
      let i : address / 4 ≡ h.first + (length (vectors h.sizes) + spot.at) =
      omega (arith, h.address_is) in
      record {
        mem =
            object_write mem h.placed n spot.at values e
            (record s { cells = put values (address / 4) s.cells })
            (ap (λ k. put values k s.cells) i) refl refl f;
        params =
            λ k slot. subst (λ z. refers_at k slot z ≡ refers_at k slot m) (sym r.new)
            (refers_same m spot.object y r.object k slot r.is);
        needs =
            subst (λ z. needs_of z.frames ≡ needs_of m.frames) (sym r.new)
            (object_needs m spot.object y);
        temps =
            subst (λ z. length z.heap ≡ length m.heap) (sym r.new) (object_heap m spot.object y);
      }

  clash : (n : Memory) → None ≡ Some n → ⊥
  clash n z = cc

  -- a first write, and the others behind it
  first_write : (x : Put Spot) (y : Put ℕ) (xs : List (Put Spot)) (ys : List (Put ℕ))
      → NearAll (x ∷ xs) (y ∷ ys) → PutsFit (x ∷ xs) → (m n : Memory) (s : State)
      → Mem (all_cells program room) (low program room v) pending v.high m s
      → ((one : Memory) (t : State) → Mem (all_cells program room)
      (low program room v) pending v.high one t → with_writes xs (Some one) ≡ Some n
      → AfterWrites one n (record t { cells = moves.with_writes ys t.cells }))
      → (o : Option Memory) → write_cells x.to.object x.to.at x.values m ≡ o
      → with_writes xs o ≡ Some n
      → AfterWrites m n (record s { cells = moves.with_writes (y ∷ ys) s.cells })
  first_write x y xs ys a f m n s mem others None o e = absurd (clash n (sym (none_stays xs) ∙ e))
  first_write x y xs ys a f m n s mem others (Some one) o e =
      let first = write_one m one s mem x.to y.to x.values a.0.to f.0 o in
      let t : State = record s { cells = put x.values (y.to / 4) s.cells } in
      let rest = others one t first.mem e in
      let same : moves.with_writes ys (put x.values (y.to / 4) s.cells)
      ≡ moves.with_writes ys (put y.values (y.to / 4) s.cells) =
      ap (λ z. moves.with_writes ys (put z (y.to / 4) s.cells)) a.0.values_are in
      record {
        mem =
            subst (λ cells. Mem (all_cells program room) (low program room v) pending v.high n
            (record s { cells = cells })) same rest.mem;
        params = λ k slot. rest.params k slot ∙ first.params k slot;
        needs = rest.needs ∙ first.needs;
        temps = rest.temps ∙ first.temps;
      }

  writes_do : (puts : List (Put Spot)) (others : List (Put ℕ)) → NearAll puts others → PutsFit puts
      → (m n : Memory) (s : State)
      → Mem (all_cells program room) (low program room v) pending v.high m s
      → with_writes puts (Some m) ≡ Some n
      → AfterWrites m n (record s { cells = moves.with_writes others s.cells })
  writes_do [] [] a f m n s mem e =
      let same : m ≡ n = cc in
      subst (λ z. AfterWrites m z s) same
      (record { mem = mem; params = λ k slot. refl; needs = refl; temps = refl })
  writes_do [] (y ∷ ys) a f m n s mem e = elim a [ ]
  writes_do (x ∷ xs) [] a f m n s mem e = elim a [ ]
  writes_do (x ∷ xs) (y ∷ ys) a f m n s mem e =
      first_write x y xs ys a f m n s mem (λ one t mem1 e1. writes_do xs ys a.1 f.1 one n t mem1 e1)
      (write_cells x.to.object x.to.at x.values m) refl e

-- ---- the arguments

regroup : (a f vs p h : List ℤ) (x : ℤ)
    → a ++ ((f ++ (x ∷ (vs ++ p))) ++ h) ≡ (a ++ (f ++ x ∷ [])) ++ (vs ++ (p ++ h))
regroup a f vs p h x =
    ap (λ l. a ++ l) (append_assoc f (x ∷ (vs ++ p)) h ∙ ap (λ l. f ++ x ∷ l) (append_assoc vs p h)
    ∙ sym (append_assoc f (x ∷ []) (vs ++ (p ++ h))))
    ∙ sym (append_assoc a (f ++ x ∷ []) (vs ++ (p ++ h)))

pub arguments_are : {N : ℕ} {low_ones : List Piece} (n : ℕ)
    (vs pending : List ℤ) {high : List Piece} {m : Memory} {s : State}
    → Mem N low_ones (pos n ∷ (vs ++ pending)) high m s → n ≡ 4 * length vs → arguments s ≡ Some vs
arguments_are {low_ones = low_ones} n vs pending {high} {m} {s} mem h =
    let top = top_is mem in
    let all = length-append mem.free (pos n ∷ (vs ++ pending)) in
    let both = length-append vs pending in
    let a : nat_lt s.stk (stp s) ≡ true =
    lt-ltb _ _ (omega (arith, mem.stk, count_cells mem, mem.size, all)) in
    let b : (n % 4 == 0) ≡ true = eq-eqb _ _ (omega (arith, h)) in
    let d : nat_le (s.stk + 4 + n) (stp s) ≡ true =
    le-leb _ _ (omega (arith, mem.stk, count_cells mem, mem.size, all, both, h)) in
    let zl =
    length_image m low_ones (there_low m low_ones
    (mem.free ++ (pos n ∷ (vs ++ pending))) high mem.there) in
    let i : s.stk / 4 + 1 ≡ length (image m low_ones ++ (mem.free ++ pos n ∷ [])) =
    omega (
      arith,
      mem.stk,
      length-append (image m low_ones) (mem.free ++ pos n ∷ []),
      length-append mem.free (pos n ∷ []),
      zl,
    ) in
    let k : n / 4 ≡ length vs = omega (arith, h) in
    let split : image m (row low_ones (mem.free ++ (pos n ∷ (vs ++ pending))) high)
    ≡ (image m low_ones ++ (mem.free ++ pos n ∷ [])) ++ (vs ++ (pending ++ image m high)) =
    image_row m low_ones (mem.free ++ (pos n ∷ (vs ++ pending))) high
    ∙ regroup (image m low_ones) mem.free vs pending (image m high) (pos n) in
    rw (
      top,
      a,
      b,
      d,
      i,
      k,
      mem.cells,
      split,
      drop-append_seam (image m low_ones ++ (mem.free ++ pos n ∷ []))
          (vs ++ (pending ++ image m high)),
      take-append_seam vs (pending ++ image m high),
    ) refl

-- ---- the call

one_more : (event : Event) (entries : List Entry) (turns peak : ℕ) (events : List Event)
    → events ≡ events_of entries
    → events ++ event ∷ [] ≡ events_of
    (entries ++ record { event = event; turns = turns; peak = peak } ∷ [])
one_more event entries turns peak events e =
    ap (λ l. l ++ event ∷ []) e ∙ sym
    (map-append (λ (entry : Entry). entry.event) entries
    (record { event = event; turns = turns; peak = peak } ∷ []))

module _ (x : Site) (v : View) (pending : List ℤ) (p : ℕ) (w : World) (c : Config)
    (s : Stands x.program x.room v pending p w c) where
  abbrev behind : State
  behind = record c.state { cip = p + 8 }

  abbrev NearHere : Called Spot → Called ℕ → Type 0
  NearHere a b =
      Near (see w.memory) (look c.state) (HoldsArgument x.program x.room v)
      (SpotAt x.program x.room v) (spot_closed x.program x.room v) a b

  lost_at : (position : ℕ) → DoesAt x 1 w c (Stops end.Stray (record w { position = position }))
      (With x.program x.room v pending (p + 8))
  lost_at position =
      stops (move x.amx x.script) (length x.amx.code) x.room
      (grown (move x.amx x.script) (length x.amx.code) x.room (omega arith)
      (stays (move x.amx x.script) (length x.amx.code) x.room c
      (record w { position = position }) s.said tt))

  called : (a : Called Spot) (b : Called ℕ) → NearHere a b → AnswerFits a
      → move x.amx x.script c ≡ answered b behind c
      → DoesAt x 1 w c (after_call a w) (With x.program x.room v pending (p + 8))
  called (Ends_there Lost position) b n f e = lost_at position
  called (Ends_there (Fault code) position) b n f e =
      stops (move x.amx x.script) (length x.amx.code) x.room
      (ends_one (move x.amx x.script) (length x.amx.code) x.room c
      (record c { state = behind; position = position }) (record w { position = position })
      (end.Error code)
      (e ∙ ap (λ z. answered z behind c) n) s.said)
  called (Answers event result position puts) b n f e =
      by_memory (with_writes puts (Some w.memory)) refl
    where
      by_memory : (o : Option Memory) → with_writes puts (Some w.memory) ≡ o
          → DoesAt x 1 w c (finished event result position o w)
          (With x.program x.room v pending (p + 8))
      by_memory None o =
          stops (move x.amx x.script) (length x.amx.code) x.room
          (grown (move x.amx x.script) (length x.amx.code) x.room (omega arith)
          (stays (move x.amx x.script) (length x.amx.code) x.room c w s.said tt))
      by_memory (Some m) o =
          let t : State =
          record behind { pri = result; cells = moves.with_writes n.0 c.state.cells } in
          let d : Config =
          record { state = t; position = position; events = c.events ++ event ∷ [] } in
          let y : World = said event (record w { memory = m; position = position }) in
          let r =
          writes_do x.program x.room v pending w.memory c.state puts n.0 n.2 f.1 w.memory m
          c.state s.mem o in
          let more : d.events ≡ events_of y.entries =
          one_more event w.entries w.turns w.peak c.events s.said in
          gives (move x.amx x.script) (length x.amx.code) x.room
          (goes_one (move x.amx x.script) (length x.amx.code) x.room c d y
          (e ∙ ap (λ z. answered z behind c) n.1) more (record {
            stands = record {
              mem = same_mem r.mem t refl refl refl;
              frame = s.frame;
              at = refl;
              said = more;
              position = refl;
              needs = r.needs ∙ s.needs;
              most = s.most;
              laid = s.laid;
              params = λ k slot. r.params k slot ∙ s.params k slot;
              temps = r.temps ∙ s.temps;
            };
            value = refl;
            fits = f.0;
          }))

-- the count and the arguments lie on the stack, each as it was evaluated
module _ (x : Site) (site : IsSite x) (v : View) (held : List Held) (cells pending : List ℤ) (p : ℕ)
    (w : World) (c : Config)
    (s : Stands x.program x.room v (pos (4 * length cells) ∷ (cells ++ pending)) p w c) where
  alike : (held : List Held) (cells : List ℤ) → HoldArguments x.program x.room v held cells
      → Alike (see w.memory) (look c.state) (HoldsArgument x.program x.room v)
      (SpotAt x.program x.room v) (spot_closed x.program x.room v) held cells
  alike [] [] h = tt
  alike [] (y ∷ ys) h = h
  alike (a ∷ others) [] h = h
  alike (a ∷ others) (y ∷ ys) h = (h.0, alike others ys h.1)

  pub sysreq_does : (n : ℕ) → n < 2147483648 → HoldArguments x.program x.room v held cells
      → fetched x.amx.code p ≡ Some (read_as (with op.SysreqC (pos n)))
      → AnswerFits (native_call x.script (see w.memory)
      (meaning.name_of x.program n) held w.position)
      → DoesAt x 1 w c (call_native x.script (meaning.name_of x.program n) held w)
      (With x.program x.room v (pos (4 * length cells) ∷ (cells ++ pending)) (p + 8))
  sysreq_does n small hold f fits =
      let t : State = record c.state { cip = p + 8 } in
      let name : List ℕ = meaning.name_of x.program n in
      let goes = move_is x c p (with op.SysreqC (pos n)) s.at f
      ∙ ap (λ o. asked x.script (name_of x.amx.natives n) o t c)
      (arguments_are (4 * length cells) cells pending (same_mem s.mem t refl refl refl) refl)
      ∙ ap (λ l. answered (native_call x.script (look t) l cells c.position) t c) (site.natives n)
      ∙ ap (λ k. answered (native_call x.script (look t) name cells k) t c) s.position in
      called x v (pos (4 * length cells) ∷ (cells ++ pending)) p w c s
      (native_call x.script (see w.memory) name held w.position)
      (native_call x.script (look t) name cells w.position)
      (native_near (see w.memory) (look t) (HoldsArgument x.program x.room v)
      (SpotAt x.program x.room v) (spot_closed x.program x.room v)
      (λ a y g l. see_near x.program x.room v (pos (4 * length cells) ∷ (cells ++ pending)) p w c s
      a y g l) x.script name held cells w.position (alike held cells hold)) fits goes
