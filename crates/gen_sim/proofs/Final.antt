-- From the simulation to the four parts of agreement. Nothing here knows of trees or instructions:
-- it takes a simulation for each bound on turns, and how the meanings for two bounds are related.
use Rattle.std.proofs.Common.{◌≡◌, ◌≢◌, ◌⊎◌, inl, inr, ◌+◌, ◌*◌, ◌<◌, ◌≤◌, ℕ, pos, false, List}
use Rattle.std.proofs.Common.{◌++◌, Some, length, slice_get, refl, sym, ap, subst, ◌∙◌, arith}
use Rattle.std.proofs.Common.{mul-le-mul_left, length-append}
use Rattle.std.proofs.lemmas.List.{map-append, length-map}
use Rattle.host_script.specs.declared.event.Event.{Event}
use Rattle.host_script.specs.declared.event.End.{End}
use Rattle.host_script.specs.declared.event.End.TheVariants.{Done, Exit, Error, Stray}
use Rattle.pawn_meaning.specs.Program.{Program}
use Rattle.pawn_meaning.specs.World.{Entry, World, first_world}
use Rattle.pawn_meaning.specs.Run.{Outcome, Gives, Stops, More}
use Rattle.pawn_meaning.specs.Told.{Ended, Told, told_of, events_of}
use Rattle.pawn_meaning.specs.Later.{Later, world_of, Below}
use Rattle.pawn_meaning.proofs.RunLaws.{runs_grow_lem}
use Rattle.amx_ops.specs.Runs.{Moved, iterate, Stop, Steps, Asleep, Over_by, Traced}
use Rattle.amx_ops.specs.Moves.{Config}
use Rattle.amx_ops.specs.Cuts.{Leads, Enough, IsCut}
use Rattle.gen_agrees.specs.AgreesOn.{IsPrefix, Mark, marks, Is, IsLost, IsShort, Shows}
use Rattle.gen_agrees.specs.AgreesOn.{ShowsUpToStray, AgreesOn}
use Rattle.gen_sim.proofs.Fronts.{same_prefix, prefix_on, finished}
use Rattle.gen_sim.proofs.Outcomes.{entries_are, next_on_way, cut_is_last, more_is_above}
use Rattle.gen_sim.proofs.Iterations.{over_end, over_config, over_past, both_over, over_front}
use Rattle.gen_sim.proofs.Iterations.{on_front, running_over}
use Rattle.gen_sim.specs.Does.{nothing, Running, Closed, how_of, Short, Reach, Does, Then}
use Rattle.gen_sim.proofs.Orders.{either}

events_append : (es fs : List Entry) → events_of (es ++ fs) ≡ events_of es ++ events_of fs
events_append es fs = map-append (λ (entry : Entry). entry.event) es fs

later_prefix : (w x : World) → Later w x → IsPrefix (events_of w.entries) (events_of x.entries)
later_prefix w x l =
    record {
      rest = events_of l.new;
      all_is = sym (events_append w.entries l.new)
          ∙ ap events_of (sym l.entries);
    }

prefix_length : (es fs : List Event) → IsPrefix es fs → length es ≤ length fs
prefix_length es fs p = omega (arith, length-append es p.rest, ap length p.all_is)

count_of_events : (w : World) → length (events_of w.entries) ≡ length w.entries
count_of_events w = length-map w.entries (λ (entry : Entry). entry.event)

module _ (mv : Config → Moved Config End) (cells room : ℕ) (start : Config)
    (front : (n : ℕ) (c : Config) → IsPrefix c.events (finished (iterate mv n c)).events)
    (program : Program) (outs : ℕ → Outcome ⊥)
    (sims : (m : ℕ) → Does mv cells room cells 0 start (outs m) nothing)
    (below : (t m : ℕ) (h : t ≤ m) → Below t m h (outs t) (outs m))
    (grows : (m : ℕ) → Later (first_world program) (world_of (outs m))) where
  abbrev means : ℕ → Told
  means m = told_of (outs m)

  -- ---- what the trace came to, beside the meaning for one bound on turns

  -- an outcome with its end, as the trace has it
  pub record Same (m : ℕ) (stop : Stop End) (x : Config) : Type 0 where
    pub end : End
    pub world : World
    pub is : outs m ≡ Stops end world
    pub stops : stop ≡ Over_by end
    pub shown : x.events ≡ events_of world.entries

  -- error 3 on the way
  pub record Shorted (m : ℕ) (stop : Stop End) (x : Config) : Type 0 where
    pub world : World
    pub later : Later world (world_of (outs m))
    pub deep : room < world.peak + 16
    pub stops : stop ≡ Over_by (Error (pos 3))
    pub shown : x.events ≡ events_of world.entries

  -- not over, and the meaning goes as far at least
  pub record Ahead (m : ℕ) (stop : Stop End) (x : Config) : Type 0 where
    pub open_still : (e : End) → stop ≡ Over_by e → ⊥
    pub first : IsPrefix x.events (events_of (world_of (outs m)).entries)

  -- the meaning came to a stray access before
  pub record Astray (m : ℕ) (x : Config) : Type 0 where
    pub world : World
    pub is : outs m ≡ Stops Stray world
    pub first : IsPrefix (events_of world.entries) x.events

  abbrev pub Verdict : ℕ → Stop End → Config → Type 0
  Verdict m stop x = Same m stop x ⊎ (Shorted m stop x ⊎ (Ahead m stop x ⊎ Astray m x))

  not_over : (e : End) → Steps ≡ Over_by e → ⊥
  not_over e p = cc

  not_over' : (e : End) → Asleep ≡ Over_by e → ⊥
  not_over' e p = cc

  ahead_of : (m : ℕ) (stop : Stop End) (x c : Config) (y : World)
      → ((e : End) → stop ≡ Over_by e → ⊥) → IsPrefix x.events c.events
      → c.events ≡ events_of y.entries
      → Later y (world_of (outs m)) → Verdict m stop x
  ahead_of m stop x c y o p said later = inr (inr (inl (record {
    open_still = o;
    first =
        prefix_on (subst (λ l. IsPrefix x.events l) said p)
        (later_prefix y (world_of (outs m)) later);
  })))

  -- error 3 of the machine
  short_verdict : (m T : ℕ) (stop : Stop End) (x : Config) → Leads mv T start stop x
      → Short mv cells room cells 0 start (world_of (outs m)) → Verdict m stop x
  short_verdict m T (Over_by f) x leads short =
      let r = short.reach in
      let both = both_over mv start r.steps T (Error (pos 3)) f r.config x r.by leads in
      inr (inl (record {
        world = short.at;
        later = short.later;
        deep = short.deep;
        stops = ap Over_by (sym (over_end _ _ _ _ both));
        shown = ap (λ c. c.events) (sym (over_config _ _ _ _ both)) ∙ r.said;
      }))
  short_verdict m T Steps x leads short =
      let r = short.reach in
      elim (either r.steps T) [
        | inl before ↦
            absurd (over_past mv start r.steps T (Error (pos 3)) r.config x r.by leads before)
        | inr after ↦
            ahead_of m Steps x r.config short.at not_over
            (over_front mv start front r.steps T
            (Error (pos 3)) r.config x r.by leads after) r.said short.later
      ]
  short_verdict m T Asleep x leads short =
      let r = short.reach in
      elim (either r.steps T) [
        | inl before ↦
            absurd (over_past mv start r.steps T (Error (pos 3)) r.config x r.by leads before)
        | inr after ↦
            ahead_of m Asleep x r.config short.at not_over'
            (over_front mv start front r.steps T
            (Error (pos 3)) r.config x r.by leads after) r.said short.later
      ]

  -- the meaning's own end
  closed_verdict : (m T : ℕ) (stop : Stop End) (x : Config) (e : End) (w : World)
      → outs m ≡ Stops e w → Leads mv T start stop x
      → Reach mv cells room cells 0 start w (Closed e) (λ t. Unit {0}) → Verdict m stop x
  closed_verdict m T (Over_by f) x e w is leads r =
      let both = both_over mv start r.steps T e f r.config x r.by leads in
      inl (record {
        end = e;
        world = w;
        is = is;
        stops = ap Over_by (sym (over_end _ _ _ _ both));
        shown = ap (λ c. c.events) (sym (over_config _ _ _ _ both)) ∙ r.said;
      })
  closed_verdict m T Steps x e w is leads r =
      elim (either r.steps T) [
        | inl before ↦ absurd (over_past mv start r.steps T e r.config x r.by leads before)
        | inr after ↦
            ahead_of m Steps x r.config w not_over
            (over_front mv start front r.steps T e r.config x r.by leads after) r.said
            (rw is (runs_grow_lem.same w))
      ]
  closed_verdict m T Asleep x e w is leads r =
      elim (either r.steps T) [
        | inl before ↦ absurd (over_past mv start r.steps T e r.config x r.by leads before)
        | inr after ↦
            ahead_of m Asleep x r.config w not_over'
            (over_front mv start front r.steps T e r.config x r.by leads after) r.said
            (rw is (runs_grow_lem.same w))
      ]

  -- where the trace hasn't ended
  stray_open : (m T : ℕ) (stop : Stop End) (x : Config) (w : World) → outs m ≡ Stops Stray w
      → ((e : End) → stop ≡ Over_by e → ⊥) → Leads mv T start Steps x
      → Reach mv cells room cells 0 start w Running (λ t. Unit {0}) → Verdict m stop x
  stray_open m T stop x w is unended leads r =
      elim (either r.steps T) [
        | inl before ↦
            inr (inr (inr (record {
              world = w;
              is = is;
              first = subst (λ l. IsPrefix l x.events) r.said
                  (on_front mv start front r.steps T r.config x r.by leads before);
            })))
        | inr after ↦
            ahead_of m stop x r.config w unended
            (on_front mv start front T r.steps x r.config leads r.by
            (omega (arith, after))) r.said (rw is (runs_grow_lem.same w))
      ]

  stray_verdict : (m T : ℕ) (stop : Stop End) (x : Config) (w : World) → outs m ≡ Stops Stray w
      → Leads mv T start stop x
      → Reach mv cells room cells 0 start w Running (λ t. Unit {0}) → Verdict m stop x
  stray_verdict m T (Over_by f) x w is leads r =
      inr (inr (inr (record {
        world = w;
        is = is;
        first = subst (λ l. IsPrefix l x.events) r.said
            (running_over mv start front r.steps T f r.config x r.by leads).1;
      })))
  stray_verdict m T Steps x w is leads r = stray_open m T Steps x w is not_over leads r
  stray_verdict m T Asleep x w is leads r = stray_open m T Asleep x w is not_over' leads r

  -- the bound on turns, which took more steps than the trace did
  more_verdict : (m T : ℕ) (stop : Stop End) (x : Config) (w : World) → outs m ≡ More w
      → T < w.turns → Leads mv T start stop x
      → Reach mv cells room cells 0 start w Running (λ t. Unit {0}) → Verdict m stop x
  more_verdict m T (Over_by f) x w is h leads r =
      absurd (omega (
        arith,
        (running_over mv start front r.steps T f r.config x r.by leads).0,
        h,
        r.least,
      ))
  more_verdict m T Steps x w is h leads r =
      ahead_of m Steps x r.config w not_over
      (on_front mv start front T r.steps x r.config leads r.by
      (omega (arith, h, r.least))) r.said (rw is (runs_grow_lem.same w))
  more_verdict m T Asleep x w is h leads r =
      ahead_of m Asleep x r.config w not_over'
      (on_front mv start front T r.steps x r.config leads r.by
      (omega (arith, h, r.least))) r.said (rw is (runs_grow_lem.same w))

  stops_verdict : (m T : ℕ) (stop : Stop End) (x : Config) (e : End) (w : World)
      → outs m ≡ Stops e w → Leads mv T start stop x
      → Reach mv cells room cells 0 start w (how_of e) (λ t. Unit {0}) → Verdict m stop x
  stops_verdict m T stop x (Done v) w is leads r = closed_verdict m T stop x (Done v) w is leads r
  stops_verdict m T stop x (Exit v tag) w is leads r =
      closed_verdict m T stop x (Exit v tag) w is leads r
  stops_verdict m T stop x (Error code) w is leads r =
      closed_verdict m T stop x (Error code) w is leads r
  stops_verdict m T stop x Stray w is leads r = stray_verdict m T stop x w is leads r

  verdict_by : (m T : ℕ) (stop : Stop End) (x : Config) (o : Outcome ⊥) → outs m ≡ o → T < m
      → Leads mv T start stop x → Then mv cells room cells 0 start o nothing
      → Below m m (omega arith) o o → Verdict m stop x
  verdict_by m T stop x (Gives a w) is h leads sim b = elim a [ ]
  verdict_by m T stop x (Stops e w) is h leads (inl short) b =
      short_verdict m T stop x leads (rw is short)
  verdict_by m T stop x (Stops e w) is h leads (inr r) b = stops_verdict m T stop x e w is leads r
  verdict_by m T stop x (More w) is h leads (inl short) b =
      short_verdict m T stop x leads (rw is short)
  verdict_by m T stop x (More w) is h leads (inr r) b =
      more_verdict m T stop x w is (omega (arith, h, b.0)) leads r

  verdict : (T : ℕ) (stop : Stop End) (x : Config) → Leads mv T start stop x
      → Verdict (T + 1) stop x
  verdict T stop x leads =
      verdict_by (T + 1) T stop x (outs (T + 1)) refl (omega arith) leads (sims (T + 1)).does
      (below (T + 1) (T + 1) (omega arith))

  -- ---- the parts

  told_is : (m : ℕ) (e : End) (w : World) → outs m ≡ Stops e w → (means m).last ≡ Ended e
  told_is m e w is = ap (λ o. (told_of o).last) is

  events_by : (m : ℕ) → events_of (means m).entries ≡ events_of (world_of (outs m)).entries
  events_by m = ap events_of (entries_are (outs m))

  lost_by : (m : ℕ) (x : Config) → Astray m x → IsLost means (length x.events)
  lost_by m x a = record {
    limit = m;
    is_stray = told_is m Stray a.world a.is;
    within =
        omega (
          arith,
          prefix_length _ _ a.first,
          count_of_events a.world,
          ap (λ o. length
              (told_of o).entries) a.is,
        );
  }

  same_is : (m : ℕ) (stop : Stop End) (x : Config) (s : Same m stop x) → Is means x.events s.end
  same_is m stop x s = record {
    limit = m;
    events_are = ap (λ o. events_of (told_of o).entries) s.is ∙ sym s.shown;
    end_is = told_is m s.end s.world s.is;
  }

  prefix_by : (m : ℕ) (stop : Stop End) (x : Config) → Verdict m stop x
      → Shows means x.events ⊎ ShowsUpToStray means x.events
  prefix_by m stop x (inl s) =
      inl (record {
        limit = m;
        first = subst (λ l. IsPrefix x.events l)
            (s.shown ∙ ap (λ o. events_of (told_of o).entries) (sym s.is)) (same_prefix x.events);
      })
  prefix_by m stop x (inr (inl s)) =
      inl (record {
        limit = m;
        first = rw (events_by m, s.shown)
            (later_prefix s.world (world_of (outs m)) s.later);
      })
  prefix_by m stop x (inr (inr (inl a))) =
      inl (record { limit = m; first = rw (events_by m) a.first })
  prefix_by m stop x (inr (inr (inr a))) =
      inr (record {
        limit = m;
        is_stray = told_is m Stray a.world a.is;
        first = subst (λ l. IsPrefix l x.events)
            (ap (λ o. events_of (told_of o).entries) (sym a.is)) a.first;
      })

  over_end_is : (e f : End) → Over_by e ≡ Over_by f → e ≡ f
  over_end_is e f p = cc

  end_by : (m : ℕ) (stop : Stop End) (x : Config) → Verdict m stop x → (e : End)
      → stop ≡ Over_by e → e ≢ Error (pos 3) → IsLost means (length x.events) ⊎ Is means x.events e
  end_by m stop x (inl s) e p never =
      inr (subst (λ f. Is means x.events f) (over_end_is s.end e (sym s.stops ∙ p))
      (same_is m stop x s))
  end_by m stop x (inr (inl s)) e p never =
      elim (never (over_end_is e (Error (pos 3)) (sym p ∙ s.stops))) [ ]
  end_by m stop x (inr (inr (inl a))) e p never = elim (a.open_still e p) [ ]
  end_by m stop x (inr (inr (inr a))) e p never = inl (lost_by m x a)

  -- the mark right behind the events of a world whose live calls need too much
  deep_mark : (m : ℕ) (x : Config) (w : World) → Later w (world_of (outs m)) → room < w.peak + 16
      → x.events ≡ events_of w.entries
      → IsShort means (length x.events) room
  deep_mark m x w l deep shown =
      let n = next_on_way (outs m) w l in
      let count : length x.events ≡ length w.entries = ap length shown ∙ count_of_events w in
      record {
        limit = m;
        mark = n.mark;
        next = rw (count, entries_are (outs m), l.entries) n.next;
        deep = omega (arith, deep, n.peak);
      }

  stack_by : (m : ℕ) (stop : Stop End) (x : Config) → Verdict m stop x
      → stop ≡ Over_by (Error (pos 3))
      → IsLost means (length x.events) ⊎ (Is means x.events (Error (pos 3)) ⊎ IsShort means
      (length x.events) room)
  stack_by m stop x (inl s) p =
      inr (inl (subst (λ f. Is means x.events f)
      (over_end_is s.end (Error (pos 3)) (sym s.stops ∙ p)) (same_is m stop x s)))
  stack_by m stop x (inr (inl s)) p = inr (inr (deep_mark m x s.world s.later s.deep s.shown))
  stack_by m stop x (inr (inr (inl a))) p = elim (a.open_still (Error (pos 3)) p) [ ]
  stack_by m stop x (inr (inr (inr a))) p = inl (lost_by m x a)

  -- ---- steps

  -- at most so many steps, with so many turns
  few_steps : (d u t bound T : ℕ) → d + cells * 0 ≤ cells + cells * u → u ≤ t → bound ≤ T → T < d
      → bound < cells * (t + 1)
  few_steps d u t bound T most h b c = omega (arith, most, mul-le-mul_left cells h, b, c)

  -- where the stack was short on the way
  short_steps : (t bound T : ℕ) (x : Config) (w : World) → Short mv cells room cells 0 start w
      → w.turns ≤ t → bound ≤ T → Leads mv T start Steps x
      → IsLost means (length x.events) ⊎ (bound < cells * (t + 1))
  short_steps t bound T x w short h b leads =
      let r = short.reach in
      elim (either r.steps T) [
        | inl before ↦
            absurd (over_past mv start r.steps T (Error (pos 3)) r.config x r.by leads before)
        | inr after ↦
            inr (few_steps r.steps short.at.turns t bound T r.most
            (omega (arith, runs_grow_lem.turns short.at w short.later, h)) b after)
      ]

  -- with the meaning for a bound that is at most the mark's turns
  steps_with : (q t bound T : ℕ) (x : Config) (o : Outcome ⊥) → outs q ≡ o → q ≤ t → bound ≤ T
      → Leads mv T start Steps x → Then mv cells room cells 0 start o nothing
      → Below q q (omega arith) o o → ((w : World) → outs q ≡ More w
      → length w.entries ≤ length x.events → ⊥)
      → IsLost means (length x.events) ⊎ (bound < cells * (t + 1))
  steps_with q t bound T x (Gives a w) is h b leads sim bel never = elim a [ ]
  steps_with q t bound T x (Stops e w) is h b leads (inl short) bel never =
      short_steps t bound T x w short (omega (arith, bel.0, h)) b leads
  steps_with q t bound T x (Stops (Done v) w) is h b leads (inr r) bel never =
      elim (either r.steps T) [
        | inl before ↦ absurd (over_past mv start r.steps T (Done v) r.config x r.by leads before)
        | inr after ↦
            inr (few_steps r.steps w.turns t bound T r.most (omega (arith, bel.0, h)) b after)
      ]
  steps_with q t bound T x (Stops (Exit v tag) w) is h b leads (inr r) bel never =
      elim (either r.steps T) [
        | inl before ↦
            absurd (over_past mv start r.steps T (Exit v tag) r.config x r.by leads before)
        | inr after ↦
            inr (few_steps r.steps w.turns t bound T r.most (omega (arith, bel.0, h)) b after)
      ]
  steps_with q t bound T x (Stops (Error code) w) is h b leads (inr r) bel never =
      elim (either r.steps T) [
        | inl before ↦
            absurd (over_past mv start r.steps T (Error code) r.config x r.by leads before)
        | inr after ↦
            inr (few_steps r.steps w.turns t bound T r.most (omega (arith, bel.0, h)) b after)
      ]
  steps_with q t bound T x (Stops Stray w) is h b leads (inr r) bel never =
      elim (either r.steps T) [
        | inl before ↦
            inl (lost_by q x (record {
              world = w;
              is = is;
              first = subst (λ l. IsPrefix l x.events) r.said
                  (on_front mv start front r.steps T r.config x r.by leads before);
            }))
        | inr after ↦
            inr (few_steps r.steps w.turns t bound T r.most (omega (arith, bel.0, h)) b after)
      ]
  steps_with q t bound T x (More w) is h b leads (inl short) bel never =
      short_steps t bound T x w short (omega (arith, bel.0, h)) b leads
  steps_with q t bound T x (More w) is h b leads (inr r) bel never =
      elim (either r.steps T) [
        | inl before ↦
            absurd (never w is (omega (
              arith,
              prefix_length _ _
                  (on_front mv start front r.steps T r.config x r.by leads before),
              ap length r.said,
              count_of_events w,
            )))
        | inr after ↦
            inr (few_steps r.steps w.turns t bound T r.most (omega (arith, bel.0, h)) b after)
      ]

  no_more : (q m n : ℕ) (mark : Mark) (w : World) (h : q ≤ m) → Below q m h (More w) (outs m)
      → mark.turns ≤ q → slice_get (marks (means m)) n ≡ Some mark
      → mark.is_cut ≡ false → length w.entries ≤ n → ⊥
  no_more q m n mark w h (turns, inl same) most e never c =
      cut_is_last (outs m) n mark w same e never c
  no_more q m n mark w h (turns, inr l) most e never c =
      absurd (omega (arith, turns, most, more_is_above (outs m) n mark w l e c))

  steps_by : (bound T : ℕ) (x : Config) → bound ≤ T → Leads mv T start Steps x
      → (m : ℕ) (mark : Mark) → slice_get (marks (means m)) (length x.events) ≡ Some mark
      → mark.is_cut ≡ false → IsLost means (length x.events) ⊎ (bound < cells * (mark.turns + 1))
  steps_by bound T x b leads m mark e never =
      elim (either mark.turns m) [
        | inl within ↦
            steps_with mark.turns mark.turns bound T x (outs mark.turns) refl
            (omega arith) b leads (sims mark.turns).does
            (below mark.turns mark.turns (omega arith))
            (λ w is c. no_more mark.turns m (length x.events) mark w within
            (subst (λ o. Below mark.turns m within o (outs m)) is (below mark.turns m within))
            (omega arith) e never c)
        | inr above ↦
            steps_with m mark.turns bound T x (outs m) refl (omega (arith, above)) b leads
            (sims m).does (below m m (omega arith))
            (λ w is c. cut_is_last (outs m) (length x.events) mark w is e never c)
      ]

  enough_is : (stop : Stop End) (bound T : ℕ) → Enough stop bound T → stop ≡ Steps → bound ≤ T
  enough_is Steps bound T h e = h
  enough_is Asleep bound T h e = absurd (let clash : ⊥ = cc in clash)
  enough_is (Over_by x) bound T h e = absurd (let clash : ⊥ = cc in clash)

  -- a trace that is one iteration agrees with the meaning
  pub agrees : (bounds : List ℕ) (t : Traced Config End) → IsCut mv start bounds t
      → AgreesOn means cells room t
  agrees bounds t cut =
      let v = verdict t.steps t.stop t.config cut.leads in
      record {
        prefix = prefix_by (t.steps + 1) t.stop t.config v;
        end = end_by (t.steps + 1) t.stop t.config v;
        stack = stack_by (t.steps + 1) t.stop t.config v;
        steps = λ is m mark e never.
            steps_by t.bound t.steps t.config (enough_is t.stop t.bound t.steps cut.enough is)
            (subst (λ stop. Leads mv t.steps start stop t.config) is cut.leads) m mark e
            never;
      }
