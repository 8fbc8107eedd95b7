-- A trace over several bounds: where it goes on and where it ends, and what was shown before it.
use Rattle.std.proofs.Common.{◌≡◌, ◌≢◌, ◌∙◌, ◌++◌, ℕ, List, [], ◌∷◌, refl, sym, ap, append-nil}
use Rattle.host_script.specs.declared.script.Script.{Script}
use Rattle.host_script.specs.declared.event.Event.{Event}
use Rattle.host_script.specs.declared.event.End.{End}
use Rattle.amx_ops.specs.declared.amx.Amx.{Amx}
use Rattle.amx_ops.specs.Cuts.{showing}
use Rattle.amx_ops.specs.Moves.{Config, move}
use Rattle.amx_ops.specs.Runs.{Moved, Segmented, Traced, Stop, Steps, Asleep, Over_by, segment}
use Rattle.amx_ops.specs.Runs.{traced, behind, joined}
use Rattle.amx_ops.proofs.ShownLaws.{trace_is_one_iteration_lem}

module _ {C E : Type 0} (go : C → Moved C E) (bound : ℕ) (c : C) where
  abbrev first : Segmented C E
  first = segment go bound 0 c

  module _ (next : ℕ) (bounds : List ℕ) where
    abbrev by : Stop E → Traced C E
    by stop = elim stop [
      | Steps ↦ traced bound first
      | Asleep ↦ behind first.steps (joined go next bounds first.config)
      | Over_by e ↦ traced bound first
    ]

    -- behind a sleep it goes on
    pub joined_asleep : first.stop ≡ Asleep
        → joined go bound (next ∷ bounds) c
        ≡ behind first.steps (joined go next bounds first.config)
    joined_asleep is = ap by is

    joined_by : (stop : Stop E) → first.stop ≡ stop → stop ≢ Asleep
        → joined go bound (next ∷ bounds) c ≡ traced bound first
    joined_by Steps is ne = ap by is
    joined_by Asleep is ne = absurd (ne refl)
    joined_by (Over_by e) is ne = ap by is

  -- else it ends
  pub joined_ends : (bounds : List ℕ) → first.stop ≢ Asleep
      → joined go bound bounds c ≡ traced bound first
  joined_ends [] ne = refl
  joined_ends (next ∷ bounds) ne = joined_by next bounds first.stop refl ne

-- ---- what was shown before

-- it changes nothing of why a trace stopped, and stands in front of what the trace shows
pub record IsShownBehind (es : List Event) (a b : Traced Config End) : Type 0 where
  pub stop : b.stop ≡ a.stop
  pub config : b.config ≡ showing es a.config

module _ (amx : Amx) (script : Script) (es : List Event) where
  abbrev go : Config → Moved Config End
  go = move amx script

  abbrev Resumes : ℕ → List ℕ → Config → Type 0
  Resumes bound bounds c =
      IsShownBehind es (joined go bound bounds c) (joined go bound bounds (showing es c))

  abbrev shown_after : Segmented Config End → Segmented Config End
  shown_after s = record { stop = s.stop; config = showing es s.config; steps = s.steps }

  resumed : (bound : ℕ) (c : Config)
      → segment go bound 0 (showing es c) ≡ shown_after (segment go bound 0 c)
  resumed bound c = trace_is_one_iteration_lem.resumed amx script bound es c

  stops_same : (bound : ℕ) (c : Config) (stop : Stop End) → (segment go bound 0 c).stop ≡ stop
      → (segment go bound 0 (showing es c)).stop ≡ stop
  stops_same bound c stop is = ap (λ (s : Segmented Config End). s.stop) (resumed bound c) ∙ is

  at_end : (bound : ℕ) (bounds : List ℕ) (c : Config) → (segment go bound 0 c).stop ≢ Asleep
      → Resumes bound bounds c
  at_end bound bounds c ne =
      let here = joined_ends go bound c bounds ne in
      let there =
      joined_ends go bound (showing es c) bounds
      (λ e. ne (sym (stops_same bound c _ refl) ∙ e)) in
      record {
        stop =
            ap (λ (t : Traced Config End). t.stop) there ∙ stops_same bound c _ refl
            ∙ sym (ap (λ (t : Traced Config End). t.stop) here);
        config =
            ap (λ (t : Traced Config End). t.config) there
            ∙ ap (λ (s : Segmented Config End). s.config) (resumed bound c)
            ∙ ap (λ (t : Traced Config End). showing es t.config) (sym here);
      }

  at_sleep : (bound next : ℕ) (bounds : List ℕ) (c : Config) → (segment go bound 0 c).stop ≡ Asleep
      → Resumes next bounds (segment go bound 0 c).config → Resumes bound (next ∷ bounds) c
  at_sleep bound next bounds c is rest =
      let here = joined_asleep go bound c next bounds is in
      let there =
      joined_asleep go bound (showing es c) next bounds (stops_same bound c Asleep is) in
      let same = ap (λ (s : Segmented Config End). s.config) (resumed bound c) in
      record {
        stop =
            ap (λ (t : Traced Config End). t.stop) there
            ∙ ap (λ (d : Config). (joined go next bounds d).stop) same ∙ rest.stop
            ∙ sym (ap (λ (t : Traced Config End). t.stop) here);
        config =
            ap (λ (t : Traced Config End). t.config) there
            ∙ ap (λ (d : Config). (joined go next bounds d).config) same ∙ rest.config
            ∙ ap (λ (t : Traced Config End). showing es t.config) (sym here);
      }

  by_stop : (bound next : ℕ) (bounds : List ℕ) (c : Config) (stop : Stop End)
      → (segment go bound 0 c).stop ≡ stop
      → ((d : Config) → Resumes next bounds d) → Resumes bound (next ∷ bounds) c
  by_stop bound next bounds c Steps is rest =
      at_end bound (next ∷ bounds) c (λ e. absurd (cc (is, e)))
  by_stop bound next bounds c Asleep is rest =
      at_sleep bound next bounds c is (rest (segment go bound 0 c).config)
  by_stop bound next bounds c (Over_by x) is rest =
      at_end bound (next ∷ bounds) c (λ e. absurd (cc (is, e)))

  pub joined_resumed : (bounds : List ℕ) (bound : ℕ) (c : Config) → Resumes bound bounds c
  joined_resumed [] bound c = record {
    stop = ap (λ (s : Segmented Config End). s.stop) (resumed bound c);
    config = ap (λ (s : Segmented Config End). s.config) (resumed bound c);
  }
  joined_resumed (next ∷ bounds) bound c =
      by_stop bound next bounds c (segment go bound 0 c).stop refl
      (λ d. joined_resumed bounds next d)

-- a trace keeps what was shown before it
pub joined_grows : (amx : Amx) (script : Script) (bound : ℕ) (bounds : List ℕ) (c : Config)
    → (more : List Event) × ((joined (move amx script) bound bounds c).config.events
    ≡ c.events ++ more)
joined_grows amx script bound bounds c =
    let bare : Config = record c { events = [] } in
    let same : c ≡ showing c.events bare =
    ap (λ es. record c { events = es }) (sym (append-nil c.events)) in
    let it = joined_resumed amx script c.events bounds bound bare in
    let t = joined (move amx script) bound bounds bare in (
      t.config.events,
      ap (λ (d : Config). (joined (move amx script) bound bounds d).config.events)
          same ∙ ap (λ (d : Config). d.events) it.config,
    )
