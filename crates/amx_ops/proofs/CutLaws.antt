-- A trace over bounds is one iteration, cut at sleeps and at bounds.
use Rattle.std.proofs.Common.{◌≡◌, ◌+◌, ◌≤◌, ℕ, zero, suc, List, [], ◌∷◌, length, sum, refl, sym}
use Rattle.std.proofs.Common.{ap, subst, ◌∙◌, arith}
use Rattle.std.proofs.lemmas.List.Sums.{sum_by-cons}
use Rattle.amx_ops.specs.Runs.{Moved, Goes, Sleeps, Ends, Finish, Cut, Over, iterate, Stop, Steps}
use Rattle.amx_ops.specs.Runs.{Asleep, Over_by, Segmented, segment, Traced, traced, behind, joined}
use Rattle.amx_ops.specs.Runs.{sleeps}
use Rattle.amx_ops.specs.Cuts.{Leads, Enough, SleepsSo, IsCut}
use Rattle.amx_ops.proofs.RunLaws.{iterate-zero, iterate-goes, iterate-sleeps, iterate-ends}
use Rattle.amx_ops.proofs.RunLaws.{segment-zero, segment-goes, segment-sleeps, segment-ends}
use Rattle.amx_ops.proofs.RunLaws.{sleeps-zero, sleeps-goes, sleeps-sleeps, sleeps-ends}

sum-cons : (bound : ℕ) (bounds : List ℕ) → sum (bound ∷ bounds) ≡ bound + sum bounds
sum-cons bound bounds = sum_by-cons (λ n. n) bound bounds

-- a segment has one sleep where it stops asleep, else none
abbrev pub SleptOnce : {E : Type 0} → Stop E → ℕ → Type 0
SleptOnce Steps count = count ≡ 0
SleptOnce Asleep count = count ≡ 1
SleptOnce (Over_by e) count = count ≡ 0

module _ {C E : Type 0} (move : C → Moved C E) where
  -- what a segment of at most n moves came to, with k done before
  pub record IsSegment (n k : ℕ) (c : C) (s : Segmented C E) : Type 0 where
    pub count : ℕ
    pub steps : s.steps ≡ k + count
    pub leads : Leads move count c s.stop s.config
    pub enough : Enough s.stop n count
    pub slept : SleptOnce s.stop (sleeps move count c)
    pub within : count ≤ n

  -- one move more in front, which went on or slept
  leads_after : (n : ℕ) (c d : C) (stop : Stop E) (x : C)
      → ((k : ℕ) → iterate move (suc k) c ≡ iterate move k d) → Leads move n d stop x
      → Leads move (suc n) c stop x
  leads_after n c d Steps x e l = λ k. ap (λ j. iterate move j c) (omega arith) ∙ e (n + k) ∙ l k
  leads_after n c d Asleep x e l = λ k. ap (λ j. iterate move j c) (omega arith) ∙ e (n + k) ∙ l k
  leads_after n c d (Over_by end) x e l =
      λ k. ap (λ j. iterate move j c) (omega arith) ∙ e (n + k) ∙ l k

  enough_after : (stop : Stop E) (bound count : ℕ) → Enough stop bound count
      → Enough stop (suc bound) (suc count)
  enough_after Steps bound count h = omega (arith, h)
  enough_after Asleep bound count h = tt
  enough_after (Over_by end) bound count h = tt

  segment_by : (n k : ℕ) (c : C) (m : Moved C E) → move c ≡ m
      → ((d : C) → IsSegment n (k + 1) d (segment move n (k + 1) d))
      → IsSegment (suc n) k c (segment move (suc n) k c)
  segment_by n k c (Goes d) e rest = rw (segment-goes move n k c d e) (record {
    count = suc (rest d).count;
    steps = omega (arith, (rest d).steps);
    leads =
        leads_after (rest d).count c d (segment move n (k + 1) d).stop
        (segment move n (k + 1) d).config (λ j. iterate-goes move j c d e) (rest d).leads;
    enough = enough_after (segment move n (k + 1) d).stop n (rest d).count (rest d).enough;
    slept =
        subst (SleptOnce (segment move n (k + 1) d).stop)
        (sym (sleeps-goes move (rest d).count c d e)) (rest d).slept;
    within = omega (arith, (rest d).within);
  })
  segment_by n k c (Sleeps d) e rest = rw (segment-sleeps move n k c d e) (record {
    count = 1;
    steps = refl;
    leads = λ j. ap (λ i. iterate move i c) (omega arith) ∙ iterate-sleeps move j c d e;
    enough = tt;
    slept = sleeps-sleeps move 0 c d e ∙ ap suc (sleeps-zero move d);
    within = omega arith;
  })
  segment_by n k c (Ends x d) e rest = rw (segment-ends move n k c d x e) (record {
    count = 1;
    steps = refl;
    leads = λ j. ap (λ i. iterate move i c) (omega arith) ∙ iterate-ends move j c d x e;
    enough = tt;
    slept = sleeps-ends move 0 c d x e;
    within = omega arith;
  })

  pub segment_is : (n k : ℕ) (c : C) → IsSegment n k c (segment move n k c)
  segment_is zero k c = rw (segment-zero move k c) (record {
    count = 0;
    steps = omega arith;
    leads = λ j. ap (λ i. iterate move i c) (omega arith);
    enough = omega arith;
    slept = sleeps-zero move c;
    within = omega arith;
  })
  segment_is (suc n) k c = segment_by n k c (move c) refl (λ d. segment_is n (k + 1) d)

  leads_more : (n : ℕ) (c d : C) (m : ℕ) (stop : Stop E) (x : C)
      → ((k : ℕ) → iterate move (n + k) c ≡ iterate move k d) → Leads move m d stop x
      → Leads move (n + m) c stop x
  leads_more n c d m Steps x e l = λ k. ap (λ j. iterate move j c) (omega arith) ∙ e (m + k) ∙ l k
  leads_more n c d m Asleep x e l = λ k. ap (λ j. iterate move j c) (omega arith) ∙ e (m + k) ∙ l k
  leads_more n c d m (Over_by end) x e l =
      λ k. ap (λ j. iterate move j c) (omega arith) ∙ e (m + k) ∙ l k

  enough_more : (stop : Stop E) (bound n m : ℕ) → Enough stop bound m → Enough stop bound (n + m)
  enough_more Steps bound n m h = omega (arith, h)
  enough_more Asleep bound n m h = tt
  enough_more (Over_by end) bound n m h = tt

  -- the sleeps of two runs, the first of which doesn't end
  sleeps_by : (n : ℕ) (c d : C) (m : ℕ) (x : Moved C E) → move c ≡ x
      → ((k : ℕ) → iterate move (suc (n + k)) c ≡ iterate move k d)
      → ((y : C) → ((k : ℕ) → iterate move (n + k) y ≡ iterate move k d)
      → sleeps move (n + m) y ≡ sleeps move n y + sleeps move m d)
      → sleeps move (suc (n + m)) c ≡ sleeps move (suc n) c + sleeps move m d
  sleeps_by n c d m (Goes y) e l rest =
      sleeps-goes move (n + m) c y e ∙ rest y (λ k. sym (iterate-goes move (n + k) c y e) ∙ l k)
      ∙ ap (λ j. j + sleeps move m d) (sym (sleeps-goes move n c y e))
  sleeps_by n c d m (Sleeps y) e l rest =
      omega (
        arith,
        sleeps-sleeps move (n + m) c y e,
        rest y (λ k. sym (iterate-sleeps move (n + k) c y e) ∙ l k),
        sleeps-sleeps move n c y e,
      )
  sleeps_by n c d m (Ends x y) e l rest =
      elim (never (sym (iterate-zero move d) ∙ sym (l 0) ∙ iterate-ends move (n + 0) c y x e)) [ ]
    where
      never : {d y : C} {x : E} → Cut d ≡ Over x y → ⊥
      never p = cc

  same_sleeps : (m : ℕ) (c d : C) → ◌≡◌ {A = Finish C E} (Cut c) (Cut d)
      → sleeps move m c ≡ sleeps move m d
  same_sleeps m c d e = let f : c ≡ d = cc in ap (λ x. sleeps move m x) f

  sleeps_on : (n : ℕ) (c d : C) (m : ℕ) → ((k : ℕ) → iterate move (n + k) c ≡ iterate move k d)
      → sleeps move (n + m) c ≡ sleeps move n c + sleeps move m d
  sleeps_on zero c d m l =
      rw (sleeps-zero move c) (ap (λ j. sleeps move j c) (omega arith)
      ∙ same_sleeps m c d (sym (iterate-zero move c) ∙ l 0 ∙ iterate-zero move d) ∙ omega arith)
  sleeps_on (suc n) c d m l =
      ap (λ j. sleeps move j c) (omega arith)
      ∙ sleeps_by n c d m (move c) refl (λ k. ap (λ j. iterate move j c) (omega arith) ∙ l k)
      (λ y h. sleeps_on n y d m h)

  so_more : (stop : Stop E) (count next bounds : ℕ) → next ≡ suc count → SleepsSo stop count bounds
      → SleepsSo stop next (suc bounds)
  so_more Steps count next bounds e h = omega (arith, e, h)
  so_more Asleep count next bounds e h = omega (arith, e, h)
  so_more (Over_by x) count next bounds e h = omega (arith, e, h)

  so_alone : (stop : Stop E) (count : ℕ) → SleptOnce stop count → SleepsSo stop count 1
  so_alone Steps count h = omega (arith, h)
  so_alone Asleep count h = h
  so_alone (Over_by x) count h = omega (arith, h)

  counted : (bound : ℕ) (c : C) (s : Segmented C E) (is : IsSegment bound 0 c s)
      → s.steps ≡ is.count
  counted bound c s is = omega (arith, is.steps)

  -- a segment alone
  alone_cut : (bound : ℕ) (c : C) (s : Segmented C E) → IsSegment bound 0 c s
      → IsCut move c (bound ∷ []) (traced bound s)
  alone_cut bound c s is = rw (counted bound c s is) (record {
    leads = is.leads;
    enough = is.enough;
    sleeps_so = so_alone s.stop (sleeps move is.count c) is.slept;
    within = omega (arith, is.within, sum-cons bound []);
  })

  -- one that didn't sleep, with further bounds
  last_cut : (bound : ℕ) (bounds : List ℕ) (c : C) (s : Segmented C E) → IsSegment bound 0 c s
      → sleeps move s.steps c ≡ 0
      → ((stop : Stop E) → s.stop ≡ stop → SleepsSo stop 0 (suc (length bounds)))
      → IsCut move c (bound ∷ bounds) (traced bound s)
  last_cut bound bounds c s is none so = record {
    leads = subst (λ n. Leads move n c s.stop s.config) (sym (counted bound c s is)) is.leads;
    enough = subst (λ n. Enough s.stop bound n) (sym (counted bound c s is)) is.enough;
    sleeps_so = subst (λ n. SleepsSo s.stop n (suc (length bounds))) (sym none) (so s.stop refl);
    within = omega (arith, is.within, is.steps, sum-cons bound bounds);
  }

  -- one that slept, and what follows it
  after_sleep : (bound : ℕ) (bounds : List ℕ) (c : C) (s : Segmented C E) → IsSegment bound 0 c s
      → s.stop ≡ Asleep
      → (t : Traced C E) → IsCut move s.config bounds t
      → IsCut move c (bound ∷ bounds) (behind s.steps t)
  after_sleep bound bounds c s is asleep t cut =
      let l : Leads move is.count c Asleep s.config =
      subst (λ stop. Leads move is.count c stop s.config) asleep is.leads in
      let once : sleeps move is.count c ≡ 1 =
      subst (λ stop. SleptOnce stop (sleeps move is.count c)) asleep is.slept in
      rw (counted bound c s is) (record {
        leads = leads_more is.count c s.config t.steps t.stop t.config l cut.leads;
        enough = enough_more t.stop t.bound is.count t.steps cut.enough;
        sleeps_so =
            so_more t.stop (sleeps move t.steps s.config) (sleeps move (is.count + t.steps) c)
            (length bounds)
            (omega (arith, sleeps_on is.count c s.config t.steps l, once)) cut.sleeps_so;
        within = omega (arith, is.within, cut.within, sum-cons bound bounds);
      })

  none_slept : (bound : ℕ) (c : C) (s : Segmented C E) (is : IsSegment bound 0 c s)
      → sleeps move is.count c ≡ 0 → sleeps move s.steps c ≡ 0
  none_slept bound c s is e = ap (λ n. sleeps move n c) (counted bound c s is) ∙ e

  joined_by : (bound next : ℕ) (bounds : List ℕ) (c : C) (s : Segmented C E) → IsSegment bound 0 c s
      → ((d : C) → IsCut move d (next ∷ bounds) (joined move next bounds d)) → (stop : Stop E)
      → s.stop ≡ stop
      → IsCut move c (bound ∷ next ∷ bounds) (elim stop [
        | Steps ↦ traced bound s
        | Asleep ↦ behind s.steps (joined move next bounds s.config)
        | Over_by e ↦ traced bound s
      ])
  joined_by bound next bounds c s is rest Steps e =
      last_cut bound (next ∷ bounds) c s is
      (none_slept bound c s is (subst (λ stop. SleptOnce stop (sleeps move is.count c)) e
      is.slept))
      (λ stop f. subst (λ x. SleepsSo x 0 (suc (suc (length bounds)))) (sym e ∙ f) (omega arith))
  joined_by bound next bounds c s is rest Asleep e =
      after_sleep bound (next ∷ bounds) c s is e (joined move next bounds s.config) (rest s.config)
  joined_by bound next bounds c s is rest (Over_by x) e =
      last_cut bound (next ∷ bounds) c s is
      (none_slept bound c s is (subst (λ stop. SleptOnce stop (sleeps move is.count c)) e
      is.slept))
      (λ stop f. subst (λ y. SleepsSo y 0 (suc (suc (length bounds)))) (sym e ∙ f) (omega arith))

  pub joined_cut : (bound : ℕ) (bounds : List ℕ) (c : C)
      → IsCut move c (bound ∷ bounds) (joined move bound bounds c)
  joined_cut bound [] c = alone_cut bound c (segment move bound 0 c) (segment_is bound 0 c)
  joined_cut bound (next ∷ bounds) c =
      joined_by bound next bounds c (segment move bound 0 c) (segment_is bound 0 c)
      (λ d. joined_cut next bounds d) (segment move bound 0 c).stop refl
