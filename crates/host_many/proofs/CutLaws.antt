-- Steps in parts are those of the whole, and of a trace over its segments.
use Rattle.std.proofs.Common.{◌≡◌, ◌≢◌, ◌+◌, ◌++◌, ◌∙◌, ℕ, zero, suc, ℤ, List, [], ◌∷◌, Option, None}
use Rattle.std.proofs.Common.{Some, map, refl, sym, ap, ap₂, subst, append-nil, append_assoc, arith}
use Rattle.std.proofs.lemmas.List.{map-append}
use Rattle.host_script.specs.Text.{event_text}
use Rattle.host_script.specs.declared.script.Script.{Script}
use Rattle.host_script.specs.declared.event.Event.{Event}
use Rattle.host_script.specs.declared.event.End.{End}
use Rattle.host_script.specs.declared.event.End.TheVariants as end
use Rattle.amx_ops.specs.declared.amx.Amx.{Amx}
use Rattle.amx_ops.specs.Cuts.{showing}
use Rattle.amx_ops.specs.Moves.{Config, move}
use Rattle.amx_ops.specs.Runs.{Moved, Goes, Sleeps, Ends, Segmented, Traced, Stop, Steps, Asleep}
use Rattle.amx_ops.specs.Runs.{Over_by, segment, traced, behind, joined}
use Rattle.amx_ops.specs.State.{State}
use Rattle.amx_ops.specs.Trace.{begun, loaded, start_at, trace_from, trace_by}
use Rattle.amx_ops.proofs.RunLaws.{segment-zero, segment-goes, segment-sleeps, segment-ends}
use Rattle.amx_ops.proofs.ShownLaws.{trace_is_one_iteration_lem}
use Rattle.host_run.specs.declared.entry.TheConstants.{MAIN}
use Rattle.host_run.specs.Entry.{address_named}
use Rattle.host_run.proofs.JoinedLaws.{joined_asleep, joined_ends}
use Rattle.host_many.specs.declared.standing.Standing.{Standing}
use Rattle.host_many.specs.declared.standing.Standing.TheVariants.{Idle, Runs, Over}
use Rattle.host_many.specs.declared.turn.Turn.{Turn}
use Rattle.host_many.specs.declared.turn.Turn.TheVariants.{Start, Go}
use Rattle.host_many.specs.Guests.{new_guest}
use Rattle.host_many.specs.Own.{Guest, Told, own, turned, gone, gone_by, segment_from, stop_lines}
use Rattle.host_many.specs.Own.{begun_by, entered_at, standing_by, behind_lines}
use Rattle.host_many.specs.Cuts.{StepsAddUp, Bounds, summed, summed_from, trace_lines, main_lines}
use Rattle.host_many.specs.Cuts.{CutsPrintTheTrace}

-- ---- segments one behind another

module _ (go : Config → Moved Config End) where
  more_by : (a b k : ℕ) (c : Config) (m : Moved Config End) → go c ≡ m
      → ((d : Config) → (segment go a (k + 1) d).stop ≡ Steps
      → segment go (a + b) (k + 1) d ≡ segment go b (k + 1 + a) (segment go a (k + 1) d).config)
      → (segment go (suc a) k c).stop ≡ Steps
      → segment go (suc (a + b)) k c ≡ segment go b (k + suc a) (segment go (suc a) k c).config
  more_by a b k c (Goes d) e rest is =
      let here = segment-goes go a k c d e in
      let n : k + 1 + a ≡ k + suc a = omega arith in
      segment-goes go (a + b) k c d e
      ∙ rest d (ap (λ (s : Segmented Config End). s.stop) (sym here) ∙ is)
      ∙ ap₂ (λ n x. segment go b n x) n (ap (λ (s : Segmented Config End). s.config) (sym here))
  more_by a b k c (Sleeps d) e rest is =
      absurd (cc (ap (λ (s : Segmented Config End). s.stop) (segment-sleeps go a k c d e), is))
  more_by a b k c (Ends x d) e rest is =
      absurd (cc (ap (λ (s : Segmented Config End). s.stop) (segment-ends go a k c d x e), is))

  -- more steps behind those that were all used up
  more : (a b k : ℕ) (c : Config) → (segment go a k c).stop ≡ Steps
      → segment go (a + b) k c ≡ segment go b (k + a) (segment go a k c).config
  more zero b k c is =
      let n : zero + b ≡ b = omega arith in
      let m : k ≡ k + zero = omega arith in
      ap (λ i. segment go i k c) n ∙ ap (λ i. segment go b i c) m
      ∙ ap (λ (s : Segmented Config End). segment go b (k + zero) s.config)
      (sym (segment-zero go k c))
  more (suc a) b k c is =
      let n : suc a + b ≡ suc (a + b) = omega arith in
      ap (λ i. segment go i k c) n
      ∙ more_by a b k c (go c) refl (λ d. more a b (k + 1) d) is

  -- the same but for the count of steps
  record IsAlike (a b : Segmented Config End) : Type 0 where
    pub stop : a.stop ≡ b.stop
    pub config : a.config ≡ b.config

  alike_by : (n j k : ℕ) (c : Config) (m : Moved Config End) → go c ≡ m
      → ((d : Config) → IsAlike (segment go n (j + 1) d) (segment go n (k + 1) d))
      → IsAlike (segment go (suc n) j c) (segment go (suc n) k c)
  alike_by n j k c (Goes d) e rest =
      rw (segment-goes go n j c d e, segment-goes go n k c d e) (rest d)
  alike_by n j k c (Sleeps d) e rest =
      rw (segment-sleeps go n j c d e, segment-sleeps go n k c d e)
      (record { stop = refl; config = refl })
  alike_by n j k c (Ends x d) e rest =
      rw (segment-ends go n j c d x e, segment-ends go n k c d x e)
      (record { stop = refl; config = refl })

  -- how many were done before changes nothing else
  alike : (n j k : ℕ) (c : Config) → IsAlike (segment go n j c) (segment go n k c)
  alike zero j k c =
      rw (segment-zero go j c, segment-zero go k c) (record { stop = refl; config = refl })
  alike (suc n) j k c =
      alike_by n j k c (go c) refl (λ d. alike n (j + 1) (k + 1) d)

  -- steps that go on where a bound was used up
  behind_all : (a b : ℕ) (c d : Config) → (segment go a 0 c).stop ≡ Steps
      → (segment go a 0 c).config ≡ d → IsAlike (segment go (a + b) 0 c) (segment go b 0 d)
  behind_all a b c d stop config =
      let whole = more a b 0 c stop ∙ ap (segment go b (0 + a)) config in
      let it = alike b (0 + a) 0 d in
      record {
        stop = ap (λ (s : Segmented Config End). s.stop) whole ∙ it.stop;
        config = ap (λ (s : Segmented Config End). s.config) whole ∙ it.config;
      }

-- ---- what was shown before

abbrev bare : Config → Config
bare c = record c { events = [] }

-- it stands in front of what a segment shows
from_here : (amx : Amx) (script : Script) (n : ℕ) (c : Config)
    → segment (move amx script) n 0 c
    ≡ (let s = segment (move amx script) n 0 (bare c) in
    record { stop = s.stop; config = showing c.events s.config; steps = s.steps })
from_here amx script n c =
    ap (λ es. segment (move amx script) n 0 (record c { events = es })) (sym (append-nil c.events))
    ∙ trace_is_one_iteration_lem.resumed amx script n c.events (bare c)

-- ---- a guest's steps

-- one that runs there
abbrev at : Guest → Config → Guest
at g c = record g { state = c.state; position = c.position; standing = Runs }

module _ (g : Guest) where
  abbrev go : Config → Moved Config End
  go = move g.amx g.script

  abbrev part : ℕ → Config → Segmented Config End
  part n c = segment go n 0 (bare c)

  abbrev whole : ℕ → Config → Segmented Config End
  whole n c = segment go n 0 c

  stop_is : (n : ℕ) (c : Config) → (whole n c).stop ≡ (part n c).stop
  stop_is n c = ap (λ (s : Segmented Config End). s.stop) (from_here g.amx g.script n c)

  config_is : (n : ℕ) (c : Config) → (whole n c).config ≡ showing c.events (part n c).config
  config_is n c = ap (λ (s : Segmented Config End). s.config) (from_here g.amx g.script n c)

  -- its lines behind those before
  abbrev events_lines : Config → List (List ℕ)
  events_lines c = map event_text c.events

  lines_is : (n : ℕ) (c : Config)
      → events_lines (whole n c).config ++ stop_lines (whole n c).stop
      ≡ events_lines c ++ (gone_by (at g c) (part n c)).lines
  lines_is n c =
      let s = part n c in
      ap₂ (λ (d : Config) stop. events_lines d ++ stop_lines stop) (config_is n c) (stop_is n c)
      ∙ ap (λ ls. ls ++ stop_lines s.stop) (map-append event_text c.events s.config.events)
      ∙ append_assoc (events_lines c) (map event_text s.config.events) (stop_lines s.stop)

  -- where it runs on, it stands where the whole does
  runs_on : (n : ℕ) (c : Config) → standing_by (part n c).stop ≡ Runs
      → (gone_by (at g c) (part n c)).guest ≡ at g (whole n c).config
  runs_on n c runs =
      ap (λ standing. record g {
        state = (part n c).config.state;
        position = (part n c).config.position;
        standing = standing;
      }) runs
      ∙ ap (at g) (sym (config_is n c))

-- ---- two parts

two_parts : (g : Guest) (machine a b : ℕ) (c : Config) → (part g a c).stop ≡ Steps
    → own (at g c) (Go machine a ∷ Go machine b ∷ []) ≡ turned (Go machine (a + b)) (at g c)
two_parts g machine a b c is =
    let d = (part g a c).config in
    let both = behind_all (move g.amx g.script) a b (bare c) d is refl in
    let first = gone_by (at g c) (part g a c) in
    let standing : standing_by (part g a c).stop ≡ Runs = ap standing_by is in
    let next : first.guest ≡ at g d =
    ap (λ st. record g { state = d.state; position = d.position; standing = st }) standing in
    let second = gone_by (at g d) (part g b d) in
    let lines : first.lines ++ (second.lines ++ [])
    ≡ map event_text (part g (a + b) c).config.events
    ++ stop_lines (part g (a + b) c).stop =
    ap₂ (λ x y. x ++ y)
    (ap (λ stop. map event_text d.events ++ stop_lines stop) is
    ∙ append-nil (map event_text d.events)) (append-nil second.lines)
    ∙ sym (lines_is g b d)
    ∙ ap₂ (λ (x : Config) stop. map event_text x.events ++ stop_lines stop)
    (sym both.config) (sym both.stop) in
    let guest : second.guest ≡ (turned (Go machine (a + b)) (at g c)).guest =
    ap₂ (λ (x : Config) stop. record g {
      state = x.state;
      position = x.position;
      standing = standing_by stop;
    }) (sym (config_is g b d) ∙ sym both.config) (sym (stop_is g b d) ∙ sym both.stop) in
    ap (λ (x : Guest). behind_lines first.lines (own x (Go machine b ∷ []))) next
    ∙ ap₂ (λ ls x. record { lines = ls; guest = x }) lines guest

pub steps_add_up : StepsAddUp
steps_add_up g machine a b runs is =
    let c : Config = record { state = g.state; position = g.position; events = [] } in
    let same : at g c ≡ g = ap (λ standing. record g { standing = standing }) (sym runs) in
    subst (λ x. own x (Go machine a ∷ Go machine b ∷ []) ≡ turned (Go machine (a + b)) x) same
    (two_parts g machine a b c is)

-- ---- a whole run

-- steps for one machine
abbrev goes : ℕ → List ℕ → List Turn
goes machine steps = map (λ n. Go machine n) steps

gone_other : (n : ℕ) (g : Guest) (standing : Standing) → (standing ≡ Runs → ⊥)
    → gone n standing g ≡ record { lines = []; guest = g }
gone_other n g Idle ne = refl
gone_other n g Runs ne = absurd (ne refl)
gone_other n g Over ne = refl

-- one that doesn't run prints nothing
quiet : (machine : ℕ) (steps : List ℕ) (g : Guest) → (g.standing ≡ Runs → ⊥)
    → (own g (goes machine steps)).lines ≡ []
quiet machine [] g ne = refl
quiet machine (n ∷ steps) g ne =
    ap (λ (t : Told). t.lines ++ (own t.guest (goes machine steps)).lines)
    (gone_other n g g.standing ne)
    ∙ quiet machine steps g ne

not_running : (e : End) → standing_by (Over_by e) ≡ Runs → ⊥
not_running (end.Done value) is = absurd (cc is)
not_running (end.Exit value tag) is = absurd (cc is)
not_running (end.Error code) is = absurd (cc is)
not_running end.Stray is = absurd (cc is)

module _ (g : Guest) (machine : ℕ) where
  -- it goes on over these steps from a configuration that a segment reached
  abbrev Prints : List ℕ → Type 0
  Prints steps = (so_far : ℕ) (c d : Config) → (whole g so_far c).stop ≡ Steps
      → (whole g so_far c).config ≡ d
      → (let bounds = summed (go g) d so_far steps in
      trace_lines (joined (go g) bounds.first bounds.others c)
      ≡ events_lines g d ++ (own (at g d) (goes machine steps)).lines)

  module _ (n : ℕ) (steps : List ℕ) (so_far : ℕ) (c d : Config)
      (stop : (whole g so_far c).stop ≡ Steps) (config : (whole g so_far c).config ≡ d)
      (rest : Prints steps) where
    abbrev made : Segmented Config End
    made = whole g n d

    abbrev told : Told
    told = gone_by (at g d) (part g n d)

    both : IsAlike (go g) (whole g (so_far + n) c) made
    both = behind_all (go g) so_far n c d stop config

    abbrev bounds_by : Stop End → Bounds
    bounds_by s = elim s [
      | Steps ↦ summed (go g) made.config (so_far + n) steps
      | Asleep ↦ (let rest = summed (go g) made.config 0 steps in
          record { first = so_far + n; others = rest.first ∷ rest.others })
      | Over_by e ↦ record { first = so_far + n; others = [] }
    ]

    abbrev lines_by : Bounds → List (List ℕ)
    lines_by bounds = trace_lines (joined (go g) bounds.first bounds.others c)

    parted : events_lines g d ++ (own (at g d) (goes machine (n ∷ steps))).lines
        ≡ (events_lines g made.config ++ stop_lines made.stop)
        ++ (own told.guest (goes machine steps)).lines
    parted =
        sym (append_assoc (events_lines g d) told.lines (own told.guest (goes machine steps)).lines)
        ∙ ap (λ ls. ls ++ (own told.guest (goes machine steps)).lines) (sym (lines_is g n d))

    -- a stop that has no line, behind which it runs on
    runs_then : stop_lines made.stop ≡ [] → standing_by (part g n d).stop ≡ Runs
        → events_lines g d ++ (own (at g d) (goes machine (n ∷ steps))).lines
        ≡ events_lines g made.config ++ (own (at g made.config) (goes machine steps)).lines
    runs_then none runs =
        parted
        ∙ ap₂ (λ ls (x : Guest). (events_lines g made.config ++ ls)
        ++ (own x (goes machine steps)).lines) none (runs_on g n d runs)
        ∙ ap (λ ls. ls ++ (own (at g made.config) (goes machine steps)).lines)
        (append-nil (events_lines g made.config))

    steps_used : made.stop ≡ Steps → lines_by (bounds_by made.stop)
        ≡ events_lines g d ++ (own (at g d) (goes machine (n ∷ steps))).lines
    steps_used is =
        ap (λ s. lines_by (bounds_by s)) is
        ∙ rest (so_far + n) c made.config (both.stop ∙ is) both.config
        ∙ sym (runs_then (ap stop_lines is) (ap standing_by (sym (stop_is g n d) ∙ is)))

    asleep : made.stop ≡ Asleep → lines_by (bounds_by made.stop)
        ≡ events_lines g d ++ (own (at g d) (goes machine (n ∷ steps))).lines
    asleep is =
        let next = summed (go g) made.config 0 steps in
        let zero_steps = segment-zero (go g) 0 made.config in
        ap (λ s. lines_by (bounds_by s)) is
        ∙ ap trace_lines (joined_asleep (go g) (so_far + n) c next.first next.others
        (both.stop ∙ is))
        ∙ ap (λ x. trace_lines (joined (go g) next.first next.others x)) both.config
        ∙ rest 0 made.config made.config
        (ap (λ (s : Segmented Config End). s.stop) zero_steps)
        (ap (λ (s : Segmented Config End). s.config) zero_steps)
        ∙ sym (runs_then (ap stop_lines is) (ap standing_by (sym (stop_is g n d) ∙ is)))

    over : (e : End) → made.stop ≡ Over_by e → lines_by (bounds_by made.stop)
        ≡ events_lines g d ++ (own (at g d) (goes machine (n ∷ steps))).lines
    over e is =
        let ended : standing_by (part g n d).stop ≡ standing_by (Over_by e) =
        ap standing_by (sym (stop_is g n d) ∙ is) in
        ap (λ s. lines_by (bounds_by s)) is
        ∙ ap₂ (λ (x : Config) s. events_lines g x ++ stop_lines s) both.config both.stop
        ∙ sym (append-nil (events_lines g made.config ++ stop_lines made.stop))
        ∙ ap (λ ls. (events_lines g made.config ++ stop_lines made.stop) ++ ls)
        (sym (quiet machine steps told.guest (λ runs. not_running e (sym ended ∙ runs))))
        ∙ sym parted

    by_stop : (s : Stop End) → made.stop ≡ s → lines_by (bounds_by made.stop)
        ≡ events_lines g d ++ (own (at g d) (goes machine (n ∷ steps))).lines
    by_stop Steps is = steps_used is
    by_stop Asleep is = asleep is
    by_stop (Over_by e) is = over e is

  prints : (steps : List ℕ) → Prints steps
  prints [] so_far c d stop config =
      ap₂ (λ (x : Config) s. events_lines g x ++ stop_lines s) config stop
  prints (n ∷ steps) so_far c d stop config =
      by_stop n steps so_far c d stop config (prints steps) (whole g n d).stop refl

-- ---- from a start

module _ (amx : Amx) (script : Script) (machine : ℕ) (steps : List ℕ) (address : ℤ) where
  abbrev idle : Guest
  idle = new_guest amx script

  abbrev PrintsFrom : Option State → Type 0
  PrintsFrom found =
      let bounds = summed_from amx script found steps in
      (begun_by idle found).lines
      ++ (own (begun_by idle found).guest (goes machine steps)).lines
      ≡ trace_lines (trace_by amx script (loaded amx amx.room) found bounds.first bounds.others)

  by_start : (found : Option State) → PrintsFrom found
  by_start None =
      ap (λ ls. (begun_by idle None).lines ++ ls)
      (quiet machine steps idle (λ is. absurd (cc is)))
  by_start (Some s) =
      let zero_steps = segment-zero (go idle) 0 (begun s) in
      sym (prints idle machine steps 0 (begun s) (begun s)
      (ap (λ (it : Segmented Config End). it.stop) zero_steps)
      (ap (λ (it : Segmented Config End). it.config) zero_steps))

pub cuts_print_the_trace : CutsPrintTheTrace
cuts_print_the_trace amx script machine steps address there =
    let g = new_guest amx script in
    ap (λ found. (entered_at g found).lines
    ++ (own (entered_at g found).guest (goes machine steps)).lines) there
    ∙ by_start amx script machine steps address (start_at amx address [] (loaded amx amx.room))
