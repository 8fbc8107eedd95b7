-- A run and its resumes write what the trace over their bounds shows.
use Rattle.std.proofs.Common.{◌≡◌, ◌+◌, ◌++◌, ℕ, zero, suc, ℤ, pos, negsuc, List, [], ◌∷◌, Bool}
use Rattle.std.proofs.Common.{true, false, None, Some, IsTrue, refl, sym, ap, ◌∙◌, subst}
use Rattle.std.proofs.Common.{true≢false}
use Rattle.std.specs.List.{flat_map}
use Rattle.std.proofs.lemmas.Bool.{eqb-true}
use Rattle.std.proofs.lemmas.List.{append-nil}
use Rattle.std.proofs.lemmas.Grind.{flat_map-append}
use Rattle.host_script.specs.declared.script.Script.{Script}
use Rattle.host_script.specs.declared.event.Event.{Event}
use Rattle.host_script.specs.declared.event.End.{End}
use Rattle.host_script.specs.NativeCall.{Called, Ends_there, Answers, native_call}
use Rattle.host_script.specs.Ranges.{IsScript}
use Rattle.host_script.specs.Text.{event_text}
use Rattle.amx_ops.specs.declared.amx.Amx.{Amx}
use Rattle.amx_ops.specs.Instructions.{is_start}
use Rattle.amx_ops.specs.Keeps.{IsRunnable, Leaves}
use Rattle.amx_ops.specs.Table.{is_number}
use Rattle.amx_ops.specs.State as state
use Rattle.amx_ops.specs.State.{State, Turned, swept}
use Rattle.amx_ops.specs.States.{IsState, IsRestorable}
use Rattle.amx_ops.specs.Step.{step}
use Rattle.amx_ops.specs.Moves.{Config, move, moved, asked, answered, arguments, halted_by, name_of}
use Rattle.amx_ops.specs.Moves.{look}
use Rattle.amx_ops.specs.Runs.{Moved, Goes, Sleeps, Ends, Stop, Steps, Asleep, Over_by, Segmented}
use Rattle.amx_ops.specs.Runs.{segment, Traced, traced, joined}
use Rattle.amx_ops.specs.Runs.{behind as trace_behind}
use Rattle.amx_ops.specs.Cuts.{showing}
use Rattle.amx_ops.proofs.KeepsLaws.{keeps_states}
use Rattle.amx_ops.proofs.RunLaws.{segment-zero, segment-goes, segment-sleeps, segment-ends}
use Rattle.amx_ops.proofs.ShownLaws.{trace_is_one_iteration_lem}
use Rattle.amx_image.specs.Resumed.{begun, IsHandedOn, Written, written, behind, Writes}
use Rattle.amx_image.specs.Resumed.{ImagesKeepTheTrace}
use Rattle.amx_image.proofs.ImageLaws.{same_address, cip_agrees, one_state}

-- ---- at a sleep what is dead is 0

is_twelve : (z : ℤ) → is_number 12 z ≡ true → z ≡ pos 12
is_twelve (pos n) h = ap pos (sym (eqb-true 12 n h))
is_twelve (negsuc n) h = absurd (true≢false (sym h))

-- a move that falls asleep leaves zeros
abbrev Clean : Moved Config End → Type 0
Clean (Goes d) = Unit {0}
Clean (Sleeps d) = swept d.state ≡ d.state
Clean (Ends e d) = Unit {0}

halted_clean : (v : ℤ) (a b d : Bool) (s : State) (c : Config) → is_number 12 v ≡ d
    → (v ≡ pos 12 → swept s ≡ s) → Clean (halted_by v a b d s c)
halted_clean v true b d s c e h = tt
halted_clean v false true d s c e h = tt
halted_clean v false false true s c e h = h (is_twelve v e)
halted_clean v false false false s c e h = tt

answered_clean : (called : Called ℕ) (s : State) (c : Config) → Clean (answered called s c)
answered_clean (Ends_there trap position) s c = tt
answered_clean (Answers event result position puts) s c = tt

asked_clean : (script : Script) (name : List ℕ) (s : State) (c : Config)
    → Clean (asked script name (arguments s) s c)
asked_clean script name s c = elim (arguments s) as (λ o. Clean (asked script name o s c)) [
  | None ↦ tt
  | Some cells ↦ answered_clean (native_call script (look s) name cells c.position) s c
]

moved_clean : (amx : Amx) (script : Script) (c : Config) (t : Turned) → Leaves amx t
    → Clean (moved amx script c t)
moved_clean amx script c (state.Goes s) l = tt
moved_clean amx script c (state.Errs code) l = tt
moved_clean amx script c (state.Halts v s) l =
    halted_clean v (is_number 0 v) (is_number 1 v) (is_number 12 v) s c refl l.1
moved_clean amx script c (state.Asks n s) l = asked_clean script (name_of amx.natives n) s c

-- ---- one file and one script

module _ (amx : Amx) (script : Script) where
  abbrev made : ℕ → Config → Segmented Config End
  made bound c = segment (move amx script) bound 0 c

  -- what the trace over some bounds writes
  abbrev whole : ℕ → List ℕ → Config → Written
  whole bound bounds c = let t = joined (move amx script) bound bounds c in written t.config t.stop

  -- ---- a segment that falls asleep leaves zeros

  abbrev Rests : Segmented Config End → Type 0
  Rests m =
      elim m.stop [
        | Steps ↦ Unit {0}
        | Asleep ↦ swept m.config.state ≡ m.config.state
        | Over_by e ↦ Unit {0}
      ]

  module _ (runs : IsRunnable amx) (keeps : IsScript script) where
    went : (c d : Config) → move amx script c ≡ Goes d → IsState amx c.state → IsState amx d.state
    went c d e h =
        subst (λ (m : Segmented Config End). IsState amx m.config.state)
        (segment-goes (move amx script) 0 0 c d e ∙ segment-zero (move amx script) 1 d)
        (keeps_states.traces amx script 1 [] c runs keeps h)

    fell : (c d : Config) → move amx script c ≡ Sleeps d → IsState amx c.state
        → swept d.state ≡ d.state
    fell c d e h =
        subst Clean e (moved_clean amx script c (step amx c.state)
        (keeps_states.steps amx c.state runs h))

    rests_by : (n k : ℕ) (c : Config) (m : Moved Config End) → move amx script c ≡ m
        → IsState amx c.state
        → ((d : Config) → IsState amx d.state → Rests (segment (move amx script) n (k + 1) d))
        → Rests (segment (move amx script) (suc n) k c)
    rests_by n k c (Goes d) e h f =
        subst Rests (sym (segment-goes (move amx script) n k c d e)) (f d (went c d e h))
    rests_by n k c (Sleeps d) e h f =
        subst Rests (sym (segment-sleeps (move amx script) n k c d e)) (fell c d e h)
    rests_by n k c (Ends x d) e h f =
        subst Rests (sym (segment-ends (move amx script) n k c d x e)) tt

    rests : (n k : ℕ) (c : Config) → IsState amx c.state → Rests (segment (move amx script) n k c)
    rests zero k c h = subst Rests (sym (segment-zero (move amx script) k c)) tt
    rests (suc n) k c h = rests_by n k c (move amx script c) refl h (λ d. rests n (k + 1) d)

    clean_at : (m : Segmented Config End) → Rests m → m.stop ≡ Asleep
        → swept m.config.state ≡ m.config.state
    clean_at m r e =
        let of : Stop End → Type 0 =
        λ s. elim s [
          | Steps ↦ Unit {0}
          | Asleep ↦ swept m.config.state ≡ m.config.state
          | Over_by x ↦ Unit {0}
        ] in
        subst of e r

    -- where its image could be read, it can be set to its own state
    saved_restorable : (bound : ℕ) (c : Config) (digest : List ℕ) (s : State) (position : ℕ)
        → IsState amx c.state → (made bound c).stop ≡ Asleep
        → IsHandedOn amx digest (made bound c).config s position
        → IsRestorable amx (made bound c).config.state
    saved_restorable bound c digest s position h e i =
        let is : IsState amx (made bound c).config.state =
        keeps_states.traces amx script bound [] c runs keeps h in
        let same : s.cip ≡ (made bound c).config.state.cip =
        same_address s.cip (made bound c).config.state.cip i.restorable.state.cip is.cip
        (cip_agrees i.read_as i.saved_as s (made bound c).config.state position
        (made bound c).config.position digest i.bytes i.read i.saved_in) in
        record {
          state = is;
          starts = subst (λ n. IsTrue (is_start amx.code n)) same i.restorable.starts;
          clean = clean_at (made bound c) (rests bound 0 c h) e;
        }

  -- ---- what was shown before

  abbrev lines_before : List Event → Written → Written
  lines_before events w = record { lines = flat_map event_text events ++ w.lines; stop = w.stop }

  -- what a segment and those behind it write, by why it stopped
  abbrev picked : ℕ → List ℕ → Segmented Config End → Stop End → Written
  picked next bounds m stop = elim stop [
    | Steps ↦ written m.config m.stop
    | Asleep ↦ whole next bounds m.config
    | Over_by e ↦ written m.config m.stop
  ]

  abbrev whole_by : ℕ → List ℕ → Segmented Config End → Written
  whole_by next bounds m = picked next bounds m m.stop

  -- the trace's segment in the same words
  abbrev joined_by : ℕ → ℕ → List ℕ → Segmented Config End → Traced Config End
  joined_by bound next bounds m = elim m.stop [
    | Steps ↦ traced bound m
    | Asleep ↦ trace_behind m.steps (joined (move amx script) next bounds m.config)
    | Over_by e ↦ traced bound m
  ]

  joined_is : (bound next : ℕ) (bounds : List ℕ) (stop : Stop End) (c : Config) (steps : ℕ)
      → (let m : Segmented Config End = record { stop = stop; config = c; steps = steps } in
      written (joined_by bound next bounds m).config (joined_by bound next bounds m).stop
      ≡ whole_by next bounds m)
  joined_is bound next bounds Steps c steps = refl
  joined_is bound next bounds Asleep c steps = refl
  joined_is bound next bounds (Over_by x) c steps = refl

  whole_is_by : (bound next : ℕ) (bounds : List ℕ) (c : Config)
      → whole bound (next ∷ bounds) c ≡ whole_by next bounds (made bound c)
  whole_is_by bound next bounds c =
      joined_is bound next bounds (made bound c).stop (made bound c).config (made bound c).steps

  whole_is : (bound next : ℕ) (bounds : List ℕ) (c : Config) (stop : Stop End)
      → (made bound c).stop ≡ stop
      → whole bound (next ∷ bounds) c ≡ picked next bounds (made bound c) stop
  whole_is bound next bounds c stop e =
      whole_is_by bound next bounds c ∙ ap (picked next bounds (made bound c)) e

  written_before : (events : List Event) (c : Config) (stop : Stop End)
      → written (showing events c) stop ≡ lines_before events (written c stop)
  written_before events c stop =
      ap (λ (ls : List ℕ). record { lines = ls; stop = stop })
      (flat_map-append event_text events c.events)

  by_stop : (events : List Event) (next : ℕ) (bounds : List ℕ) (stop : Stop End) (c : Config)
      (steps : ℕ)
      → whole next bounds (showing events c) ≡ lines_before events (whole next bounds c)
      → whole_by next bounds (record { stop = stop; config = showing events c; steps = steps })
      ≡ lines_before events (whole_by next bounds
      (record { stop = stop; config = c; steps = steps }))
  by_stop events next bounds Steps c steps h = written_before events c Steps
  by_stop events next bounds Asleep c steps h = h
  by_stop events next bounds (Over_by x) c steps h = written_before events c (Over_by x)

  resumed : (bound : ℕ) (events : List Event) (c : Config)
      → made bound (showing events c)
      ≡ record {
        stop = (made bound c).stop;
        config = showing events (made bound c).config;
        steps = (made bound c).steps;
      }
  resumed bound events c = trace_is_one_iteration_lem.resumed amx script bound events c

  whole_before : (events : List Event) (bound : ℕ) (bounds : List ℕ) (c : Config)
      → whole bound bounds (showing events c) ≡ lines_before events (whole bound bounds c)
  whole_before events bound [] c =
      ap (λ (m : Segmented Config End). written m.config m.stop) (resumed bound events c)
      ∙ written_before events (made bound c).config (made bound c).stop
  whole_before events bound (next ∷ bounds) c =
      let m = made bound c in
      whole_is_by bound next bounds (showing events c)
      ∙ ap (whole_by next bounds) (resumed bound events c)
      ∙ by_stop events next bounds m.stop m.config m.steps
      (whole_before events next bounds m.config)
      ∙ ap (lines_before events) (sym (whole_is_by bound next bounds c))

  -- ---- images

  handed : (digest : List ℕ) (saved : Config) (s : State) (position : ℕ)
      → IsRestorable amx saved.state → IsHandedOn amx digest saved s position
      → begun s position ≡ begun saved.state saved.position
  handed digest saved s position r i =
      let o =
      one_state amx i.read_as i.saved_as s saved.state position saved.position digest
      i.bytes i.restorable r i.read i.saved_in in
      ap (λ u. begun u position) o.1 ∙ ap (begun saved.state) o.2

  goes_on : (digest : List ℕ) (next : ℕ) (bounds : List ℕ) (saved : Config) (s : State)
      (position : ℕ) (rest : Written)
      → IsRestorable amx saved.state → IsHandedOn amx digest saved s position
      → rest ≡ whole next bounds (begun s position)
      → behind saved rest ≡ whole next bounds saved
  goes_on digest next bounds saved s position rest r i e =
      let same : showing saved.events (begun saved.state saved.position) ≡ saved =
      ap (λ (es : List Event). record saved { events = es }) (append-nil saved.events) in
      ap (behind saved) (e ∙ ap (whole next bounds) (handed digest saved s position r i))
      ∙ sym (whole_before saved.events next bounds (begun saved.state saved.position))
      ∙ ap (whole next bounds) same

  module _ (runs : IsRunnable amx) (keeps : IsScript script) (digest : List ℕ) where
    abbrev WritesBy : ℕ → List ℕ → Written → Segmented Config End → Stop End → Type 0
    WritesBy next bounds all m stop = elim stop [
      | Steps ↦ all ≡ written m.config m.stop
      | Asleep ↦
          (s : State) × (position : ℕ) × (rest : Written)
          × IsHandedOn amx digest m.config s position
          × Writes amx script digest (begun s position) next bounds rest
          × (all ≡ behind m.config rest)
      | Over_by e ↦ all ≡ written m.config m.stop
    ]

    traces_by : (bound next : ℕ) (bounds : List ℕ) (c : Config) (all : Written) (stop : Stop End)
        → (made bound c).stop ≡ stop → IsState amx c.state
        → WritesBy next bounds all (made bound c) stop
        → ((s : State) (position : ℕ) (rest : Written) → IsState amx s
        → Writes amx script digest (begun s position) next bounds rest
        → rest ≡ whole next bounds (begun s position))
        → all ≡ whole bound (next ∷ bounds) c
    traces_by bound next bounds c all Steps e h w f = w ∙ sym (whole_is bound next bounds c Steps e)
    traces_by bound next bounds c all (Over_by x) e h w f =
        w ∙ sym (whole_is bound next bounds c (Over_by x) e)
    traces_by bound next bounds c all Asleep e h w f =
        let i = w.3 in
        let r = saved_restorable runs keeps bound c digest w.0 w.1 h e i in
        w.5
        ∙ goes_on digest next bounds (made bound c).config w.0 w.1 w.2 r i
        (f w.0 w.1 w.2 i.restorable.state w.4)
        ∙ sym (whole_is bound next bounds c Asleep e)

    traces : (bound : ℕ) (bounds : List ℕ) (c : Config) (all : Written) → IsState amx c.state
        → Writes amx script digest c bound bounds all → all ≡ whole bound bounds c
    traces bound [] c all h w = w
    traces bound (next ∷ bounds) c all h w =
        traces_by bound next bounds c all (made bound c).stop refl h w
        (λ s position rest. traces next bounds (begun s position) rest)

pub kept : ImagesKeepTheTrace
kept = record {
  segments =
      λ amx script bound digest saved s position r i. ap (segment (move amx script) bound 0)
      (handed amx script digest saved s position r i);
  traces =
      λ amx script bound bounds digest c all runs keeps h w. traces amx script runs keeps digest
      bound bounds c all h w;
}
