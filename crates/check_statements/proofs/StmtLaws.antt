-- A statement by what its parts told, each at its place.
use Rattle.std.proofs.Common.{◌≡◌, ℕ, Bool, true, List, [], ◌∷◌, Option, refl, sym, ap, ◌∙◌}
use Rattle.std.proofs.Common.{subst}
use Rattle.pawn_tree.specs.declared.name.At.{At}
use Rattle.pawn_tree.specs.Expressions.{Expr}
use Rattle.pawn_tree.specs.Statements as tree
use Rattle.names_rules.specs.Verdict.{Verdict, Stands, Breaks, faults_of, after, both}
use Rattle.pawn_verdict.specs.declared.fault.CheckFault.{CheckFault}
use Rattle.pawn_verdict.specs.Answers.{Fails}
use Rattle.pawn_verdict.proofs.VerdictLaws.{fails_after, fails_first, fails_second}
use Rattle.types_rules.specs.Rule.{pair, each, unless_faults}
use Rattle.types_rules.specs.Typed.{Typed}
use Rattle.types_rules.specs.Literals.{literals}
use Rattle.types_rules.specs.VariableParts.{Judged}
use Rattle.types_rules.specs.Counts.{literals_of, objects_in, slots_in, objects_in_cases}
use Rattle.types_rules.specs.Counts.{slots_in_cases}
use Rattle.types_rules.specs.Points.{Point, beyond, inside}
use Rattle.types_rules.specs.Stood.{Stood}
use Rattle.types_rules.specs.Statements as rules
use Rattle.types_rules.specs.Statements.{Other, CasePart, if_rule, while_rule, do_while_rule}
use Rattle.types_rules.specs.Switches.{ends}
use Rattle.check_locals.specs.Tells.{told}
use Rattle.check_locals.proofs.ToldLaws.{fails_unless}
use Rattle.check_nodes.specs.ContextView.{around_view}
use Rattle.check_source.specs.AutomataView.{automata_view}
use Rattle.check_switches.specs.Switching.{switch_in}
use Rattle.check_statements.proofs.QuietLaws.{for_judged}
use Rattle.check_statements.specs.declared.setting.Setting.{Setting}
use Rattle.check_statements.specs.SimpleJudging.{part_in, maybe_part_in}
use Rattle.check_statements.specs.SimpleJudging.{first_part_in, first_done_in}
use Rattle.check_statements.specs.SimpleJudging.{behind_first_in}
use Rattle.check_statements.specs.BodyJudging.{use_in, stmt_in, otherwise_in, cases_in, one_case_in}
use Rattle.check_statements.specs.BodyJudging.{for_by_in}

-- ---- the rules of a `switch` hang on no automata and no result

module _ (it : Setting) (at : At) where
  cased_same : (tag : ℕ) (parts : List CasePart)
      → rules.cased (around_view it.cx.now) (automata_view it.automata.now) it.result at tag parts
      ≡ rules.cased (around_view it.cx.now) [] 0 at tag parts
  unfolding rules.cased
  cased_same tag [] = refl
  cased_same tag (x ∷ more) = rw (cased_same tag more) refl

  switch_same : (x : Typed) (parts : List CasePart) (other : Other)
      → rules.switch_by (around_view it.cx.now) (automata_view it.automata.now) it.result at x parts
      other ≡ switch_in (around_view it.cx.now) at x parts other
  switch_same x parts other = rw (cased_same x.tag parts) refl

both_same : {A B C : Type 0} (v : Verdict A) (w : Verdict B) (one other : A → B → Verdict C)
    → ((x : A) (y : B) → one x y ≡ other x y) → both v w one ≡ both v w other
both_same (Stands x) (Stands y) one other h = h x y
both_same (Stands x) (Breaks faults) one other h = refl
both_same (Breaks faults) w one other h = refl

module _ (it : Setting) (in_loop : Bool) (p : Point) (at : At) where
  -- ---- if

  abbrev if_end : Typed → Stood × Other → Verdict Stood
  if_end x parts = after (use_in it at x) (λ c. Stands (if_rule c parts.0 parts.1))

  module _ (c : Expr) (s : tree.Stmt) (o : tree.MaybeStmt) where
    if_body : (p1 : Point) (y : Verdict Stood) → p1 ≡ beyond p (literals c) 0
        → stmt_in it p1 in_loop s ≡ y → stmt_in it (beyond p (literals c) 0) in_loop s ≡ y
    if_body p1 y b h = subst (λ q. stmt_in it q in_loop s ≡ y) b h

    if_place : (p1 p2 : Point) → p1 ≡ beyond p (literals c) 0
        → p2 ≡ beyond p1 (objects_in s) (slots_in s)
        → p2 ≡ beyond (beyond p (literals c) 0) (objects_in s) (slots_in s)
    if_place p1 p2 b d = d ∙ ap (λ q. beyond q (objects_in s) (slots_in s)) b

    pub if_told_is : (p1 p2 : Point) (x : Verdict Typed) (y : Verdict Stood) (z : Verdict Other)
        → part_in it p c ≡ x
        → p1 ≡ beyond p (literals c) 0 → stmt_in it p1 in_loop s ≡ y
        → p2 ≡ beyond p1 (objects_in s) (slots_in s) → otherwise_in it p2 in_loop o ≡ z
        → stmt_in it p in_loop (tree.If at c s o) ≡ both x (pair y z) if_end
    if_told_is p1 p2 x y z h b k d m =
        ap (λ (v : Verdict Typed). both v
        (pair (stmt_in it (beyond p (literals c) 0) in_loop s)
        (otherwise_in it (beyond (beyond p (literals c) 0) (objects_in s) (slots_in s))
        in_loop o)) if_end) h
        ∙ ap (λ (v : Verdict Stood). both x
        (pair v (otherwise_in it (beyond (beyond p (literals c) 0) (objects_in s) (slots_in s))
        in_loop o)) if_end) (if_body p1 y b k)
        ∙ ap (λ (v : Verdict Other). both x (pair y v) if_end)
        (subst (λ q. otherwise_in it q in_loop o ≡ z) (if_place p1 p2 b d) m)

    pub if_fails_first : (fault : CheckFault) → Fails (faults_of (part_in it p c)) fault
        → Fails (faults_of (stmt_in it p in_loop (tree.If at c s o))) fault
    if_fails_first fault h = fails_first (part_in it p c) _ _ fault h

    pub if_fails_body : (p1 : Point) (fault : CheckFault) → p1 ≡ beyond p (literals c) 0
        → Fails (faults_of (stmt_in it p1 in_loop s)) fault
        → Fails (faults_of (stmt_in it p in_loop (tree.If at c s o))) fault
    if_fails_body p1 fault b h =
        fails_second (part_in it p c) _ if_end fault
        (fails_first (stmt_in it (beyond p (literals c) 0) in_loop s) _ _ fault
        (subst (λ q. Fails (faults_of (stmt_in it q in_loop s)) fault) b h))

    pub if_fails_other : (p1 p2 : Point) (fault : CheckFault) → p1 ≡ beyond p (literals c) 0
        → p2 ≡ beyond p1 (objects_in s) (slots_in s)
        → Fails (faults_of (otherwise_in it p2 in_loop o)) fault
        → Fails (faults_of (stmt_in it p in_loop (tree.If at c s o))) fault
    if_fails_other p1 p2 fault b d h =
        fails_second (part_in it p c) _ if_end fault
        (fails_second (stmt_in it (beyond p (literals c) 0) in_loop s) _ _ fault
        (subst (λ q. Fails (faults_of (otherwise_in it q in_loop o)) fault)
        (if_place p1 p2 b d) h))

  -- ---- while, do

  abbrev while_end : Typed → Stood → Verdict Stood
  while_end x y = after (use_in it at x) (λ c. Stands (while_rule c y))

  abbrev do_end : Stood → Typed → Verdict Stood
  do_end x y = after (use_in it at y) (λ c. Stands (do_while_rule x c))

  module _ (c : Expr) (s : tree.Stmt) where
    pub while_told_is : (p1 : Point) (x : Verdict Typed) (y : Verdict Stood) → part_in it p c ≡ x
        → p1 ≡ beyond p (literals c) 0 → stmt_in it p1 true s ≡ y
        → stmt_in it p in_loop (tree.While at c s) ≡ both x y while_end
    while_told_is p1 x y h b k =
        ap (λ (v : Verdict Typed). both v (stmt_in it (beyond p (literals c) 0) true s) while_end) h
        ∙ ap (λ (v : Verdict Stood). both x v while_end) (subst (λ q. stmt_in it q true s ≡ y) b k)

    pub while_fails_first : (fault : CheckFault) → Fails (faults_of (part_in it p c)) fault
        → Fails (faults_of (stmt_in it p in_loop (tree.While at c s))) fault
    while_fails_first fault h = fails_first (part_in it p c) _ while_end fault h

    pub while_fails_body : (p1 : Point) (fault : CheckFault) → p1 ≡ beyond p (literals c) 0
        → Fails (faults_of (stmt_in it p1 true s)) fault
        → Fails (faults_of (stmt_in it p in_loop (tree.While at c s))) fault
    while_fails_body p1 fault b h =
        fails_second (part_in it p c) (stmt_in it (beyond p (literals c) 0) true s) while_end fault
        (subst (λ q. Fails (faults_of (stmt_in it q true s)) fault) b h)

    pub do_told_is : (p1 : Point) (y : Verdict Stood) (x : Verdict Typed) → stmt_in it p true s ≡ y
        → p1 ≡ beyond p (objects_in s) (slots_in s) → part_in it p1 c ≡ x
        → stmt_in it p in_loop (tree.DoWhile at s c) ≡ both y x do_end
    do_told_is p1 y x h b k =
        ap (λ (v : Verdict Stood). both v (part_in it (beyond p (objects_in s) (slots_in s)) c)
        do_end) h
        ∙ ap (λ (v : Verdict Typed). both y v do_end) (subst (λ q. part_in it q c ≡ x) b k)

    pub do_fails_first : (fault : CheckFault) → Fails (faults_of (stmt_in it p true s)) fault
        → Fails (faults_of (stmt_in it p in_loop (tree.DoWhile at s c))) fault
    do_fails_first fault h = fails_first (stmt_in it p true s) _ do_end fault h

    pub do_fails_part : (p1 : Point) (fault : CheckFault)
        → p1 ≡ beyond p (objects_in s) (slots_in s) → Fails (faults_of (part_in it p1 c)) fault
        → Fails (faults_of (stmt_in it p in_loop (tree.DoWhile at s c))) fault
    do_fails_part p1 fault b h =
        fails_second (stmt_in it p true s) (part_in it (beyond p (objects_in s) (slots_in s)) c)
        do_end fault
        (subst (λ q. Fails (faults_of (part_in it q c)) fault) b h)

  -- ---- switch

  abbrev switch_end : Typed → List CasePart × Other → Verdict Stood
  switch_end x parts = switch_in (around_view it.cx.now) at x parts.0 parts.1

  module _ (e : Expr) (cs : tree.Cases) (o : tree.MaybeStmt) where
    switch_is : stmt_in it p in_loop (tree.Switch at e cs o)
        ≡ both (part_in it p e) (pair (cases_in it (beyond p (literals e) 0) in_loop cs)
        (otherwise_in it (beyond (beyond p (literals e) 0) (objects_in_cases cs)
        (slots_in_cases cs)) in_loop o)) switch_end
    switch_is = both_same _ _ _ _ (λ x parts. switch_same it at x parts.0 parts.1)

    switch_place : (p1 p2 : Point) → p1 ≡ beyond p (literals e) 0
        → p2 ≡ beyond p1 (objects_in_cases cs) (slots_in_cases cs)
        → p2 ≡ beyond (beyond p (literals e) 0) (objects_in_cases cs) (slots_in_cases cs)
    switch_place p1 p2 b d = d ∙ ap (λ q. beyond q (objects_in_cases cs) (slots_in_cases cs)) b

    pub switch_told_is : (p1 p2 : Point) (x : Verdict Typed) (y : Verdict (List CasePart))
        (z : Verdict Other) → part_in it p e ≡ x
        → p1 ≡ beyond p (literals e) 0 → cases_in it p1 in_loop cs ≡ y
        → p2 ≡ beyond p1 (objects_in_cases cs) (slots_in_cases cs)
        → otherwise_in it p2 in_loop o ≡ z
        → stmt_in it p in_loop (tree.Switch at e cs o) ≡ both x (pair y z) switch_end
    switch_told_is p1 p2 x y z h b k d m =
        switch_is ∙ ap (λ (v : Verdict Typed). both v
        (pair (cases_in it (beyond p (literals e) 0) in_loop cs)
        (otherwise_in it (beyond (beyond p (literals e) 0) (objects_in_cases cs)
        (slots_in_cases cs)) in_loop o)) switch_end) h
        ∙ ap (λ (v : Verdict (List CasePart)). both x
        (pair v (otherwise_in it (beyond (beyond p (literals e) 0) (objects_in_cases cs)
        (slots_in_cases cs)) in_loop o)) switch_end)
        (subst (λ q. cases_in it q in_loop cs ≡ y) b k)
        ∙ ap (λ (v : Verdict Other). both x (pair y v) switch_end)
        (subst (λ q. otherwise_in it q in_loop o ≡ z) (switch_place p1 p2 b d) m)

    pub switch_fails_first : (fault : CheckFault) → Fails (faults_of (part_in it p e)) fault
        → Fails (faults_of (stmt_in it p in_loop (tree.Switch at e cs o))) fault
    switch_fails_first fault h =
        subst (λ v. Fails (faults_of v) fault) (sym switch_is)
        (fails_first (part_in it p e) _ switch_end fault h)

    pub switch_fails_cases : (p1 : Point) (fault : CheckFault) → p1 ≡ beyond p (literals e) 0
        → Fails (faults_of (cases_in it p1 in_loop cs)) fault
        → Fails (faults_of (stmt_in it p in_loop (tree.Switch at e cs o))) fault
    switch_fails_cases p1 fault b h =
        subst (λ v. Fails (faults_of v) fault) (sym switch_is)
        (fails_second (part_in it p e) _ switch_end fault
        (fails_first (cases_in it (beyond p (literals e) 0) in_loop cs) _ _ fault
        (subst (λ q. Fails (faults_of (cases_in it q in_loop cs)) fault) b h)))

    pub switch_fails_other : (p1 p2 : Point) (fault : CheckFault) → p1 ≡ beyond p (literals e) 0
        → p2 ≡ beyond p1 (objects_in_cases cs) (slots_in_cases cs)
        → Fails (faults_of (otherwise_in it p2 in_loop o)) fault
        → Fails (faults_of (stmt_in it p in_loop (tree.Switch at e cs o))) fault
    switch_fails_other p1 p2 fault b d h =
        subst (λ v. Fails (faults_of v) fault) (sym switch_is)
        (fails_second (part_in it p e) _ switch_end fault
        (fails_second (cases_in it (beyond p (literals e) 0) in_loop cs) _ _ fault
        (subst (λ q. Fails (faults_of (otherwise_in it q in_loop o)) fault)
        (switch_place p1 p2 b d) h)))

-- ---- for

module _ (it : Setting) (in_loop : Bool) (p : Point) (at : At) (first : tree.First)
    (c step : Option Expr) (s : tree.Stmt) where
  abbrev for_end : Stood → (Option Typed × Option Typed) × Stood → Verdict Stood
  for_end x parts = for_by_in it at x parts.0.0 parts.0.1 parts.1

  -- the places of the parts
  abbrev begun : Point
  begun = behind_first_in it (inside p) at first

  abbrev tested : Point
  tested = beyond begun (literals_of c) 0

  abbrev stepped : Point
  stepped = beyond tested (literals_of step) 0

  abbrev parts : Verdict ((Option Typed × Option Typed) × Stood)
  parts =
      pair (pair (maybe_part_in it begun c) (maybe_part_in it tested step))
      (stmt_in it stepped true s)

  abbrev node : Verdict Stood
  node = both (first_done_in it (inside p) at first) parts for_end

  tested_is : (p1 p2 : Point) → p1 ≡ begun → p2 ≡ beyond p1 (literals_of c) 0 → p2 ≡ tested
  tested_is p1 p2 b d = d ∙ ap (λ q. beyond q (literals_of c) 0) b

  stepped_is : (p2 p3 : Point) → p2 ≡ tested → p3 ≡ beyond p2 (literals_of step) 0 → p3 ≡ stepped
  stepped_is p2 p3 b d = d ∙ ap (λ q. beyond q (literals_of step) 0) b

  -- what the parts told, each at its place
  pub record ForSo {X Y W : Type 0} (a : X → Judged) (b : Y → Option Typed) (d : W → Stood)
      (p0 p1 p2 p3 : Point)
      (x : Option X) (y z : Option Y) (w : Option W) : Type 0 where
    pub entered : p0 ≡ inside p
    pub first_told : first_part_in it p0 at first ≡ told a x
    pub first_place : p1 ≡ behind_first_in it p0 at first
    pub c_told : maybe_part_in it p1 c ≡ told b y
    pub c_place : p2 ≡ beyond p1 (literals_of c) 0
    pub step_told : maybe_part_in it p2 step ≡ told b z
    pub step_place : p3 ≡ beyond p2 (literals_of step) 0
    pub s_told : stmt_in it p3 true s ≡ told d w

  pub for_so : {X Y W : Type 0} {a : X → Judged} {b : Y → Option Typed} {d : W → Stood}
      {p0 p1 p2 p3 : Point} {x : Option X} {y z : Option Y} {w : Option W}
      → p0 ≡ inside p → first_part_in it p0 at first ≡ told a x
      → p1 ≡ behind_first_in it p0 at first → maybe_part_in it p1 c ≡ told b y
      → p2 ≡ beyond p1 (literals_of c) 0 → maybe_part_in it p2 step ≡ told b z
      → p3 ≡ beyond p2 (literals_of step) 0 → stmt_in it p3 true s ≡ told d w
      → ForSo a b d p0 p1 p2 p3 x y z w
  for_so e f g h i j k l = record {
    entered = e;
    first_told = f;
    first_place = g;
    c_told = h;
    c_place = i;
    step_told = j;
    step_place = k;
    s_told = l;
  }

  module _ {X Y W : Type 0} (a : X → Judged) (b : Y → Option Typed) (d : W → Stood)
      (p0 p1 p2 p3 : Point)
      (x : Option X) (y z : Option Y) (w : Option W) (h : ForSo a b d p0 p1 p2 p3 x y z w) where
    begun_is : p1 ≡ begun
    begun_is = h.first_place ∙ ap (λ q. behind_first_in it q at first) h.entered

    parts_are : parts ≡ pair (pair (told b y) (told b z)) (told d w)
    parts_are =
        let t : p2 ≡ tested = tested_is p1 p2 begun_is h.c_place in
        let u : p3 ≡ stepped = stepped_is p2 p3 t h.step_place in
        ap (λ (v : Verdict (Option Typed)). pair (pair v (maybe_part_in it tested step))
        (stmt_in it stepped true s)) (subst
        (λ q. maybe_part_in it q c ≡ told b y) begun_is h.c_told)
        ∙ ap (λ (v : Verdict (Option Typed)). pair (pair (told b y) v) (stmt_in it stepped true s))
        (subst (λ q. maybe_part_in it q step ≡ told b z) t h.step_told)
        ∙ ap (λ (v : Verdict Stood). pair (pair (told b y) (told b z)) v)
        (subst (λ q. stmt_in it q true s ≡ told d w) u h.s_told)

    judged_is : stmt_in it p in_loop (tree.For at first c step s)
        ≡ both (first_done_in it (inside p) at first)
        (pair (pair (told b y) (told b z)) (told d w)) for_end
    judged_is =
        ap (λ (v : Verdict Judged). unless_faults (pair v parts) node)
        (subst (λ q. first_part_in it q at first ≡ told a x) h.entered h.first_told)
        ∙ ap (λ (v : Verdict ((Option Typed × Option Typed) × Stood)). unless_faults
        (pair (told a x) v) (both (first_done_in it (inside p) at first) v for_end)) parts_are
        ∙ for_judged a b b d x y z w (both (first_done_in it (inside p) at first)
        (pair (pair (told b y) (told b z)) (told d w)) for_end)

    pub for_told_is : (p4 : Point) (v : Verdict Stood) → p4 ≡ inside p
        → first_done_in it p4 at first ≡ v
        → stmt_in it p in_loop (tree.For at first c step s)
        ≡ both v (pair (pair (told b y) (told b z)) (told d w)) for_end
    for_told_is p4 v e k =
        judged_is ∙ ap (λ (u : Verdict Stood). both u
        (pair (pair (told b y) (told b z)) (told d w)) for_end)
        (subst (λ q. first_done_in it q at first ≡ v) e k)

    pub for_fails_done : (p4 : Point) (fault : CheckFault) → p4 ≡ inside p
        → Fails (faults_of (first_done_in it p4 at first)) fault
        → Fails (faults_of (stmt_in it p in_loop (tree.For at first c step s))) fault
    for_fails_done p4 fault e k =
        subst (λ (v : Verdict Stood). Fails (faults_of v) fault) (sym judged_is)
        (fails_first (first_done_in it (inside p) at first) _ for_end fault
        (subst (λ q. Fails (faults_of (first_done_in it q at first)) fault) e k))

  pub for_fails_first : (p0 : Point) (fault : CheckFault) → p0 ≡ inside p
      → Fails (faults_of (first_part_in it p0 at first)) fault
      → Fails (faults_of (stmt_in it p in_loop (tree.For at first c step s))) fault
  for_fails_first p0 fault e h =
      fails_unless (pair (first_part_in it (inside p) at first) parts) node fault
      (fails_first (first_part_in it (inside p) at first) parts _ fault
      (subst (λ q. Fails (faults_of (first_part_in it q at first)) fault) e h))

  in_parts : (fault : CheckFault) → Fails (faults_of parts) fault
      → Fails (faults_of (stmt_in it p in_loop (tree.For at first c step s))) fault
  in_parts fault h =
      fails_unless (pair (first_part_in it (inside p) at first) parts) node fault
      (fails_second (first_part_in it (inside p) at first) parts _ fault h)

  pub for_fails_c : (p0 p1 : Point) (fault : CheckFault) → p0 ≡ inside p
      → p1 ≡ behind_first_in it p0 at first
      → Fails (faults_of (maybe_part_in it p1 c)) fault
      → Fails (faults_of (stmt_in it p in_loop (tree.For at first c step s))) fault
  for_fails_c p0 p1 fault e b h =
      in_parts fault (fails_first (pair (maybe_part_in it begun c) (maybe_part_in it tested step))
      _ _ fault
      (fails_first (maybe_part_in it begun c) _ _ fault
      (subst (λ q. Fails (faults_of (maybe_part_in it q c)) fault)
      (b ∙ ap (λ q. behind_first_in it q at first) e) h)))

  pub for_fails_step : (p0 p1 p2 : Point) (fault : CheckFault) → p0 ≡ inside p
      → p1 ≡ behind_first_in it p0 at first → p2 ≡ beyond p1 (literals_of c) 0
      → Fails (faults_of (maybe_part_in it p2 step)) fault
      → Fails (faults_of (stmt_in it p in_loop (tree.For at first c step s))) fault
  for_fails_step p0 p1 p2 fault e b d h =
      in_parts fault (fails_first (pair (maybe_part_in it begun c) (maybe_part_in it tested step))
      _ _ fault
      (fails_second (maybe_part_in it begun c) (maybe_part_in it tested step) _ fault
      (subst (λ q. Fails (faults_of (maybe_part_in it q step)) fault)
      (tested_is p1 p2 (b ∙ ap (λ q. behind_first_in it q at first) e) d) h)))

  pub for_fails_body : (p0 p1 p2 p3 : Point) (fault : CheckFault) → p0 ≡ inside p
      → p1 ≡ behind_first_in it p0 at first → p2 ≡ beyond p1 (literals_of c) 0
      → p3 ≡ beyond p2 (literals_of step) 0
      → Fails (faults_of (stmt_in it p3 true s)) fault
      → Fails (faults_of (stmt_in it p in_loop (tree.For at first c step s))) fault
  for_fails_body p0 p1 p2 p3 fault e b d g h =
      in_parts fault (fails_second (pair (maybe_part_in it begun c) (maybe_part_in it tested step))
      (stmt_in it stepped true s) _ fault
      (subst (λ q. Fails (faults_of (stmt_in it q true s)) fault)
      (stepped_is p2 p3 (tested_is p1 p2 (b ∙ ap (λ q. behind_first_in it q at first) e) d) g) h))

-- ---- parts of statements

module _ (it : Setting) (in_loop : Bool) (p : Point) where
  pub other_fails : (s : tree.Stmt) (fault : CheckFault)
      → Fails (faults_of (stmt_in it p in_loop s)) fault
      → Fails (faults_of (otherwise_in it p in_loop (tree.one_stmt s))) fault
  other_fails s fault h = fails_after (stmt_in it p in_loop s) _ fault h

  pub case_fails_first : (at : At) (ranges : List tree.Range) (s : tree.Stmt) (fault : CheckFault)
      → Fails (faults_of (each (ends (around_view it.cx.now) p.scope) ranges)) fault
      → Fails (faults_of (one_case_in it p in_loop (tree.Values at ranges s))) fault
  case_fails_first at ranges s fault h =
      fails_first (each (ends (around_view it.cx.now) p.scope) ranges)
      (stmt_in it p in_loop s) _ fault h

  pub case_fails_second : (at : At) (ranges : List tree.Range) (s : tree.Stmt) (fault : CheckFault)
      → Fails (faults_of (stmt_in it p in_loop s)) fault
      → Fails (faults_of (one_case_in it p in_loop (tree.Values at ranges s))) fault
  case_fails_second at ranges s fault h =
      fails_second (each (ends (around_view it.cx.now) p.scope) ranges)
      (stmt_in it p in_loop s) _ fault h

pub block_judged_fails : (v : Verdict Stood) (fault : CheckFault) → Fails (faults_of v) fault
    → Fails (faults_of (after v (λ x. Stands (rules.block_rule x)))) fault
block_judged_fails v fault h = fails_after v _ fault h
