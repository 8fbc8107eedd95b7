-- Calls of functions and of natives do what they mean, where the codes of their arguments do.
use Rattle.std.proofs.Common.{◌≡◌, ◌+◌, ◌*◌, ◌<◌, ◌≤◌, ℕ, ℤ, pos, List, [], ◌∷◌, ◌++◌, Some, length}
use Rattle.std.proofs.Common.{sum, refl, sym, ap, subst, ◌∙◌, arith, length-append}
use Rattle.pawn_meaning.specs.Program.{Slot, Call, Native, Args}
use Rattle.pawn_meaning.specs.Scope.{Scope}
use Rattle.pawn_meaning.specs.ValidExprs.{Takes}
use Rattle.pawn_meaning.specs.Memory.{cut_heap}
use Rattle.pawn_meaning.specs.World.{World}
use Rattle.pawn_meaning.specs.Run.{Run, ◌>>=◌, then_do, give, change, with_heap}
use Rattle.pawn_meaning.specs.Natives.{Held, see, call_native}
use Rattle.pawn_meaning.specs.Later.{Grows}
use Rattle.pawn_meaning.specs.Need.{count_of, args_load}
use Rattle.pawn_meaning.specs.Meaning.{arguments, call, name_of}
use Rattle.pawn_meaning.proofs.Grows.{after_grows, give_grows, change_grows, native_grows}
use Rattle.amx_ops.specs.declared.op.Op.TheVariants as op
use Rattle.amx_ops.specs.Moves.{Config}
use Rattle.gen_sim.specs.View.{View, kept, used}
use Rattle.gen_sim.specs.Stands.{Stands, With}
use Rattle.gen_sim.specs.Site.{Site, IsSite, DoesAt, scene_at}
use Rattle.gen_sim.specs.Items.{Item, CallOf, item_cells, past, with}
use Rattle.gen_sim.specs.Fits.{Fits}
use Rattle.gen_sim.specs.Results.{ArgumentsAt, temporaries_in, with_temporaries}
use Rattle.gen_sim.specs.Code.{with_turns, CallsWithin}
use Rattle.gen_sim.specs.Contract.{ValueCode, ArgumentsCode}
use Rattle.gen_sim.proofs.CallLaws.{small_fits}
use Rattle.gen_sim.proofs.AnswerLaws.{answer_fits}
use Rattle.gen_sim.proofs.NativeLaws.{sysreq_does}
use Rattle.gen_sim.proofs.StepLaws.{given}
use Rattle.gen_sim.specs.Lies.{Lies}
use Rattle.gen_sim.specs.SimpleCode.{taking}
use Rattle.gen_sim.proofs.ItemSteps.{next_lies, one_item, item_pushes}
use Rattle.gen_sim.proofs.NodesPartLaws.{then_nothing, then_items}
use Rattle.gen_sim.specs.CallCode.{give_back_code, call_code, native_code}
use Rattle.gen_sim.proofs.OperatorCalls.{call_grows, call_does}
use Rattle.gen_sim.proofs.CalledScopes.{hold_count, suit_count}
use Rattle.gen_sim.proofs.TemporaryViews.{used_more, needs_stay, temporaries_few}
use Rattle.amx_ops.proofs.AnswerLaws.{turn_is}
use Rattle.gen_sim.proofs.GiveBack.{drops, gives_back}

-- ---- arguments, a call with them, and what is given back

module _ (scope : Scope) (kinds : List Slot) (args : Args) (counted : length kinds ≡ count_of args)
    (begin : ℕ) (items last : List Item)
    (part : ArgumentsCode scope kinds args begin items) where
  abbrev count : ℕ
  count = count_of args

  abbrev temps : ℕ
  temps = temporaries_in args

  -- the count is pushed behind the arguments, and `last` does a run with them and drops them
  abbrev pub LastDoes : Site → ℕ → View → List ℤ → (List Held → Run ℤ) → Type 0
  LastDoes x turns v pending run =
      (held : List Held) (q : ℕ) (u : World) (t : Config)
      → (h : ArgumentsAt x.program x.room v kinds temps pending q held u t)
      → Lies x (q + 8) last → (n : Config)
      → Stands x.program x.room (with_temporaries temps v)
      (pos (4 * length h.cells) ∷ (h.cells ++ pending)) (q + 8) u n
      → DoesAt x (length (item_cells last)) u n (run held u)
      (With x.program x.room (with_temporaries temps v) pending (past (q + 8) last))

  pub with_arguments : (x : Site) (site : IsSite x) (same : x.program ≡ scope.program) (turns : ℕ)
      (calls : CallsWithin x turns) (v : View)
      → Fits x.program x.room scope v → (pending : List ℤ)
      → used x.program x.room v pending + (2 * count + 1 + args_load args) ≤ kept x.program x.room
      + sum v.needs
      → (run : List Held → Run ℤ) → ((held : List Held) → Grows (run held))
      → LastDoes x turns v pending run
      → (w : World) (c : Config) → Stands x.program x.room v pending begin w c
      → Lies x begin ((items ++ taking op.PushC (pos (4 * count)) ∷ last) ++ give_back_code temps)
      → DoesAt x (length (item_cells
      ((items ++ taking op.PushC (pos (4 * count)) ∷ last) ++ give_back_code temps))) w c
      (with_heap (arguments (scene_at x) (with_turns x turns) args >>= run) w)
      (With x.program x.room v pending
      (past begin ((items ++ taking op.PushC (pos (4 * count)) ∷ last)
      ++ give_back_code temps)))
  with_arguments x site same turns calls v fits pending deep run grows does w c s l =
      let fewer = with_turns x turns in
      let all = items ++ taking op.PushC (pos (4 * count)) ∷ last in
      let few = temporaries_few args in
      let cut : ℕ → ℤ → Run ℤ = λ n y. change (λ m. Some (cut_heap n m)) >>= (λ _. give y) in
      let after = with_temporaries temps v in
      subst (λ n. DoesAt x (length (item_cells (all ++ give_back_code temps))) w c
      (then_do ((arguments (scene_at x) fewer args >>= run) w) (cut n))
      (With x.program x.room v pending (past begin (all ++ give_back_code temps))))
      (sym s.temps)
      (then_items x begin all (give_back_code temps)
      (With x.program x.room after pending (past begin all))
      (With x.program x.room v pending) w l
      ((arguments (scene_at x) fewer args >>= run) w) (cut v.temps)
      (λ y u. (after_grows (change_grows (λ m. Some (cut_heap v.temps m))) (λ _. give_grows y)).at
      u)
      (λ j. then_items x begin items (taking op.PushC (pos (4 * count)) ∷ last)
      (ArgumentsAt x.program x.room v kinds temps pending (past begin items))
      (With x.program x.room after pending) w j (arguments (scene_at x) fewer args w) run
      (λ held u. (grows held).at u)
      (λ k. part.does x site same turns calls v fits k.lie k.starts pending
      (omega (arith, deep)) w c s)
      (λ k held u t h.
      let cells =
      hold_count x.program x.room after held h.cells h.hold ∙ suit_count kinds held h.suit
      ∙ counted in
      let joined = length-append h.cells pending in
      let more = used_more x.program x.room temps v (h.cells ++ pending) in
      item_pushes x (with op.PushC (pos (4 * count))) h.stands k (pos (4 * count)) refl
      (small_fits (4 * count) (omega (
        arith,
        cells,
        joined,
        h.stands.mem.size,
        length-append h.stands.mem.free (h.cells ++ pending),
        h.stands.laid.small,
      )))
      (omega (arith, deep, more, needs_stay temps v, joined, cells, few)) ((grows held).at u)
      (λ n b e f. does held (past begin items) u t h
      (next_lies x (past begin items) (taking op.PushC (pos (4 * count))) last k) n
      (subst (λ z. Stands x.program x.room after (pos (4 * z) ∷ (h.cells ++ pending))
      (past begin items + 8) u n) (sym cells) b))))
      (λ j y u t a. gives_back x site v pending s.laid (omega (arith, deep)) temps y
      (past begin all) u t a j))

-- the temporary arguments are within the need
temporaries_fit : (x : Site) (args : Args) (v : View) (pending : List ℤ)
    → used x.program x.room v pending + (2 * count_of args + args_load args)
    ≤ kept x.program x.room + sum v.needs
    → used x.program x.room (with_temporaries (temporaries_in args) v) pending
    ≤ kept x.program x.room + sum (with_temporaries (temporaries_in args) v).needs
temporaries_fit x args v pending deep =
    omega (
      arith,
      deep,
      used_more x.program x.room (temporaries_in args) v pending,
      needs_stay (temporaries_in args) v,
      temporaries_few args,
    )

-- ---- nodes

module _ (scope : Scope) (begin : ℕ) where
  pub call_node_does : (f : ℕ) (params : List Slot) (args : Args) (items : List Item)
      → Takes scope.program f params → length params ≡ count_of args
      → ArgumentsCode scope params args begin items
      → ValueCode scope (Call f args) begin
      (call_code f (count_of args) (temporaries_in args) items)
  call_node_does f params args items takes counted part = record {
    does = λ x site same turns calls v fits lie starts pending deep w c s.
        let few = temporaries_few args in
        with_arguments scope params args counted begin items
        (CallOf f ∷ []) part x site same turns calls v fits pending deep
        (call (scene_at x) (with_turns x turns) f) (λ held. call_grows x turns f held)
        (λ held q u t h l n b.
        let after = with_temporaries (temporaries_in args) v in
        let cells =
        hold_count x.program x.room after held h.cells h.hold
        ∙ suit_count params held h.suit ∙ counted in
        let joined = length-append h.cells pending in
        call_does scope x same turns calls f params takes after held h.cells pending
        (q + 8) u n h.suit h.hold l
        (omega (
          arith,
          deep,
          used_more x.program x.room (temporaries_in args) v
              (h.cells ++ pending),
          used_more x.program x.room (temporaries_in args) v
              (pos (4 * length h.cells) ∷ (h.cells ++ pending)),
          needs_stay (temporaries_in args) v,
          joined,
          cells,
          few,
        ))
        (temporaries_fit x args v pending (omega (arith, deep))) b)
        w c s (record { lie = lie; starts = starts });
  }

  pub native_node_does : (n : ℕ) (kinds : List Slot) (args : Args) (items : List Item)
      → n < length scope.program.natives → length kinds ≡ count_of args
      → ArgumentsCode scope kinds args begin items
      → ValueCode scope (Native n args) begin
      (native_code n (count_of args) (temporaries_in args) items)
  native_node_does n kinds args items numbered counted part = record {
    does = λ x site same turns calls v fits lie starts pending deep w c s.
        let last =
        taking op.SysreqC (pos n) ∷ taking op.Stack (pos (4 * (count_of args + 1))) ∷ [] in
        let small : n < 2147483648 =
        omega (arith, numbered, ap (λ p. length p.natives) same, site.numbered) in
        with_arguments scope kinds args counted begin items last part x site same turns calls v fits
        pending deep
        (call_native x.script (name_of x.program n))
        (λ held. native_grows x.script (name_of x.program n) held)
        (λ held q u t h l i b.
        let after = with_temporaries (temporaries_in args) v in
        let cells =
        hold_count x.program x.room after held h.cells h.hold ∙ suit_count kinds held h.suit
        ∙ counted in
        let answers =
        answer_fits x.script (see u.memory) (name_of x.program n) held u.position
        (turn_is x.script (name_of x.program n) u.position site.script_keeps) in
        subst (λ o. DoesAt x (length (item_cells last)) u i o
        (With x.program x.room after pending (past (q + 8) last)))
        (then_nothing (call_native x.script (name_of x.program n) held u))
        (then_items x (q + 8) (taking op.SysreqC (pos n) ∷ [])
        (taking op.Stack (pos (4 * (count_of args + 1))) ∷ [])
        (With x.program x.room after (pos (4 * length h.cells) ∷ (h.cells ++ pending)) (q + 8 + 8))
        (With x.program x.room after pending) u l
        (call_native x.script (name_of x.program n) held u) (λ y. give y)
        (λ y m. (give_grows y).at m)
        (λ j. one_item x (with op.SysreqC (pos n)) [] u
        (sysreq_does x site after held h.cells pending
        (q + 8) u i b n small h.hold j.lie.0 answers))
        (λ j y m k a. drops x [] (pos (4 * length h.cells) ∷ h.cells) a.stands
        (4 * (count_of args + 1)) (omega (arith, cells)) j
        (temporaries_fit x args v pending (omega (arith, deep))) ((give_grows y).at m)
        (λ g r e. given x r (record { stands = r; value = e ∙ a.value; fits = a.fits })))))
        w c s (record { lie = lie; starts = starts });
  }
