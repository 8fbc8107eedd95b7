-- A call with its arguments pushed, and operators of the user's own on one or two values.
use Rattle.std.proofs.Common.{◌≡◌, ◌+◌, ◌*◌, ◌≤◌, ℕ, ℤ, pos, List, [], ◌∷◌, ◌++◌, Bool, true, false}
use Rattle.std.proofs.Common.{Option, None, Some, length, replicate, sum, slice_get, refl, sym, ap}
use Rattle.std.proofs.Common.{subst, ◌∙◌, arith}
use Rattle.std.specs.Prelude.{IfSome}
use Rattle.pawn_cells.specs.Cells.{IsCell}
use Rattle.pawn_meaning.specs.Program.{Slot, ScalarSlot}
use Rattle.pawn_meaning.specs.Scope.{Scope}
use Rattle.pawn_meaning.specs.ValidExprs.{Takes, IsOperator}
use Rattle.pawn_meaning.specs.World.{World}
use Rattle.pawn_meaning.specs.Natives.{Held, Value}
use Rattle.pawn_meaning.specs.Later.{Grows}
use Rattle.pawn_meaning.specs.Meaning.{call, call_one, call_two, converted}
use Rattle.pawn_meaning.proofs.Grows.{after_grows, give_grows, look_grows, turn_grows}
use Rattle.pawn_meaning.proofs.RunLaws.{runs_grow_lem}
use Rattle.amx_ops.specs.declared.op.Op.TheVariants as op
use Rattle.amx_ops.specs.State.{push}
use Rattle.amx_ops.specs.Effects.{at_next}
use Rattle.amx_ops.specs.Moves.{Config, move}
use Rattle.pawn_cells.proofs.CellLaws.{small_cell}
use Rattle.gen_sim.proofs.Sim.{wider}
use Rattle.gen_sim.specs.View.{View, kept, used}
use Rattle.gen_sim.specs.Next.{HoldArguments}
use Rattle.gen_sim.specs.Stands.{Stands, With}
use Rattle.gen_sim.specs.Site.{Site, DoesAt, scene_at}
use Rattle.gen_sim.specs.Items.{CallOf, item_cells, past, with}
use Rattle.gen_sim.specs.Results.{SuitAll}
use Rattle.gen_sim.specs.Code.{with_turns, CallsWithin}
use Rattle.gen_sim.proofs.BodyLaws.{enter_function_grows}
use Rattle.gen_sim.proofs.StepLaws.{given}
use Rattle.gen_sim.specs.Lies.{Lies}
use Rattle.gen_sim.specs.SimpleCode.{alone, taking}
use Rattle.gen_sim.proofs.ItemSteps.{next_lies, item_pushes}
use Rattle.gen_sim.specs.CallCode.{one_code, two_code, convert_code}

-- ---- calls only grow

pub call_grows : (x : Site) (turns f : ℕ) (held : List Held)
    → Grows (call (scene_at x) (with_turns x turns) f held)
call_grows x turns f held =
    after_grows (look_grows (λ m. slice_get x.program.functions f))
    (λ function. after_grows (turn_grows x.limit)
    (λ _. enter_function_grows (with_turns x turns)
    (λ s. runs_grow_lem.nestings (scene_at x) turns s) f function held))

pub one_grows : (x : Site) (turns f : ℕ) (a : ℤ)
    → Grows (call_one (scene_at x) (with_turns x turns) f a)
one_grows x turns f a = call_grows x turns f (Value a ∷ [])

pub two_grows : (x : Site) (turns f : ℕ) (swapped : Bool) (a b : ℤ)
    → Grows (call_two (scene_at x) (with_turns x turns) f swapped a b)
two_grows x turns f true a b = call_grows x turns f (Value b ∷ Value a ∷ [])
two_grows x turns f false a b = call_grows x turns f (Value a ∷ Value b ∷ [])

pub converted_grows : (x : Site) (turns : ℕ) (f : Option ℕ) (a : ℤ)
    → Grows (converted (scene_at x) (with_turns x turns) f a)
converted_grows x turns None a = give_grows a
converted_grows x turns (Some f) a = call_grows x turns f (Value a ∷ [])

-- ---- CALL

module _ (scope : Scope) (x : Site) (same : x.program ≡ scope.program) (turns : ℕ)
    (calls : CallsWithin x turns) where
  pub call_does : (f : ℕ) (params : List Slot) → Takes scope.program f params
      → (v : View) (held : List Held) (cells waits : List ℤ) (p : ℕ) (w : World) (c : Config)
      → SuitAll params held → HoldArguments x.program x.room v held cells → Lies x p (CallOf f ∷ [])
      → used x.program x.room v (pos (4 * length cells) ∷ (cells ++ waits)) ≤ kept x.program x.room
      + sum v.needs + 15
      → used x.program x.room v waits ≤ kept x.program x.room + sum v.needs
      → Stands x.program x.room v (pos (4 * length cells) ∷ (cells ++ waits)) p w c
      → DoesAt x (length (item_cells (CallOf f ∷ []))) w c
      (call (scene_at x) (with_turns x turns) f held w) (With x.program x.room v waits (p + 8))
  call_does f params takes v held cells waits p w c suit hold l few deep s =
      let there : slice_get x.program.functions f ≡ Some takes.function =
      ap (λ q. slice_get q.functions f) same ∙ takes.there in
      wider (move x.amx x.script) (length x.amx.code) x.room (omega arith)
      (calls turns (omega arith) f takes.function v held cells waits p w c there
      (subst (λ ps. SuitAll ps held) (sym takes.params_are) suit) hold
      l.lie.2 l.starts l.lie.0 few deep s)

  module _ (v : View) (waits : List ℤ)
      (deep : used x.program x.room v waits ≤ kept x.program x.room + sum v.needs) where
    -- on one value
    pub one_does : (f : ℕ) → IsOperator scope 1 f → (a : ℤ) → IsCell a
        → (p : ℕ) (w : World) (c : Config) → Stands x.program x.room v waits p w c → c.state.pri ≡ a
        → Lies x p (one_code f)
        → DoesAt x (length (item_cells (one_code f))) w c
        (call_one (scene_at x) (with_turns x turns) f a w)
        (With x.program x.room v waits (past p (one_code f)))
    one_does f takes a fa p w c s pri l =
        let l1 = next_lies x p (alone op.PushPri) (taking op.PushC (pos 4) ∷ CallOf f ∷ []) l in
        let l2 = next_lies x (p + 4) (taking op.PushC (pos 4)) (CallOf f ∷ []) l1 in
        let later = (call_grows x turns f (Value a ∷ [])).at w in
        item_pushes x (with op.PushPri (pos 0)) s l a
        (ap (λ z. push c.state z (at_next (p + 4))) pri) fa (omega (arith, deep)) later
        (λ t1 s1 e1 g1. item_pushes x (with op.PushC (pos 4)) s1 l1 (pos 4) refl
        (small_cell 4 (omega arith)) (omega (arith, deep)) later
        (λ t2 s2 e2 g2. call_does f (replicate 1 ScalarSlot) takes v (Value a ∷ []) (a ∷ []) waits
        (p + 4 + 8) w t2 (tt, tt) (refl, tt) l2
        (omega (arith, deep)) deep s2))

    -- on two, the left one in ALT and the right one in PRI
    pub two_does : (f : ℕ) → IsOperator scope 2 f → (swapped : Bool) (a b : ℤ) → IsCell a → IsCell b
        → (p : ℕ) (w : World) (c : Config)
        → Stands x.program x.room v waits p w c → c.state.alt ≡ a → c.state.pri ≡ b
        → Lies x p (two_code f swapped)
        → DoesAt x (length (item_cells (two_code f swapped))) w c
        (call_two (scene_at x) (with_turns x turns) f swapped a b w)
        (With x.program x.room v waits (past p (two_code f swapped)))
    two_does f takes true a b fa fb p w c s alt pri l =
        let l1 =
        next_lies x p (alone op.PushAlt)
        (alone op.PushPri ∷ taking op.PushC (pos 8) ∷ CallOf f ∷ []) l in
        let l2 =
        next_lies x (p + 4) (alone op.PushPri)
        (taking op.PushC (pos 8) ∷ CallOf f ∷ []) l1 in
        let l3 = next_lies x (p + 4 + 4) (taking op.PushC (pos 8)) (CallOf f ∷ []) l2 in
        let later = (call_grows x turns f (Value b ∷ Value a ∷ [])).at w in
        item_pushes x (with op.PushAlt (pos 0)) s l a
        (ap (λ z. push c.state z (at_next (p + 4))) alt) fa (omega (arith, deep)) later
        (λ t1 s1 e1 g1. item_pushes x (with op.PushPri (pos 0)) s1 l1 b
        (ap (λ z. push t1.state z (at_next (p + 4 + 4))) (e1 ∙ pri)) fb
        (omega (arith, deep)) later
        (λ t2 s2 e2 g2. item_pushes x (with op.PushC (pos 8)) s2 l2 (pos 8) refl
        (small_cell 8 (omega arith)) (omega (arith, deep)) later
        (λ t3 s3 e3 g3. call_does f (replicate 2 ScalarSlot) takes v (Value b ∷ Value a ∷ [])
        (b ∷ a ∷ []) waits (p + 4 + 4 + 8) w t3 (tt, (tt, tt)) (refl, (refl, tt)) l3
        (omega (arith, deep)) deep s3)))
    two_does f takes false a b fa fb p w c s alt pri l =
        let l1 =
        next_lies x p (alone op.PushPri)
        (alone op.PushAlt ∷ taking op.PushC (pos 8) ∷ CallOf f ∷ []) l in
        let l2 =
        next_lies x (p + 4) (alone op.PushAlt)
        (taking op.PushC (pos 8) ∷ CallOf f ∷ []) l1 in
        let l3 = next_lies x (p + 4 + 4) (taking op.PushC (pos 8)) (CallOf f ∷ []) l2 in
        let later = (call_grows x turns f (Value a ∷ Value b ∷ [])).at w in
        item_pushes x (with op.PushPri (pos 0)) s l b
        (ap (λ z. push c.state z (at_next (p + 4))) pri) fb (omega (arith, deep)) later
        (λ t1 s1 e1 g1. item_pushes x (with op.PushAlt (pos 0)) s1 l1 a
        (ap (λ z. push t1.state z (at_next (p + 4 + 4))) (g1 ∙ alt)) fa
        (omega (arith, deep)) later
        (λ t2 s2 e2 g2. item_pushes x (with op.PushC (pos 8)) s2 l2 (pos 8) refl
        (small_cell 8 (omega arith)) (omega (arith, deep)) later
        (λ t3 s3 e3 g3. call_does f (replicate 2 ScalarSlot) takes v (Value a ∷ Value b ∷ [])
        (a ∷ b ∷ []) waits (p + 4 + 4 + 8) w t3 (tt, (tt, tt)) (refl, (refl, tt)) l3
        (omega (arith, deep)) deep s3)))

    -- converted, where there is one that does
    pub converted_does : (f : Option ℕ) → IfSome f (IsOperator scope 1)
        → (a : ℤ) (p : ℕ) (w : World) (c : Config) → With x.program x.room v waits p a w c
        → Lies x p (convert_code f)
        → DoesAt x (length (item_cells (convert_code f))) w c
        (converted (scene_at x) (with_turns x turns) f a w)
        (With x.program x.room v waits (past p (convert_code f)))
    converted_does None takes a p w c s l = given x s.stands s
    converted_does (Some f) takes a p w c s l = one_does f takes a s.fits p w c s.stands s.value l
