-- A `switch` by its value, its cases and what is done where none fits.
use Rattle.std.proofs.Common.{◌≡◌, List, [], ◌∷◌, ◌++◌, map, Option, refl, sym, ap, ◌∙◌}
use Rattle.std.specs.declared.boxed.Box.{Box}
use Rattle.std.specs.declared.alloc.Global.{Global}
use Rattle.pawn_meaning.specs.Program as code
use Rattle.pawn_meaning.specs.View.{cases_view, else_view, slot_view}
use Rattle.pawn_meaning.specs.View.{object_view}
use Rattle.pawn_meaning.specs.declared.node.Stmt as held_stmt
use Rattle.check_nodes.specs.CodeView.{code_view}
use Rattle.check_locals.specs.declared.used.Used as held_used
use Rattle.check_locals.specs.declared.stood.Parts.{Parts}
use Rattle.check_locals.specs.StoodView.{stood_of, used_view, returned_view}
use Rattle.check_switches.specs.declared.switches.Cases.{Cases}
use Rattle.check_switches.specs.CaseView.{cased_view}
use Rattle.names_rules.specs.Verdict.{Verdict, Stands, Breaks, faults_of, after, both}
use Rattle.pawn_verdict.specs.declared.fault.CheckFault.{CheckFault}
use Rattle.pawn_verdict.specs.Answers.{Fails}
use Rattle.types_rules.specs.Stood.{Stood}
use Rattle.types_rules.specs.Statements.{Used, Cased, Other, switch_rule}
use Rattle.types_rules.specs.Switches.{apart}
use Rattle.pawn_tree.specs.declared.name.At.{At}
use Rattle.check_switches.specs.Cased.{bare, bare_verdict}

abbrev ending : At → Other → Used → Cased → Verdict Stood
ending at other e it = after (apart at it.ranges) (λ ranges. Stands (switch_rule e it other))

-- the rule takes nothing of the statements of cases
pub bare_enough : (at : At) (other : Other) (v : Verdict Used) (w : Verdict Cased)
    → both v w (ending at other) ≡ both v (bare_verdict w) (ending at other)
bare_enough at other (Stands e) (Stands it) = refl
bare_enough at other (Stands e) (Breaks faults) = refl
bare_enough at other (Breaks fs) (Stands it) = refl
bare_enough at other (Breaks fs) (Breaks faults) = refl

stood_eq : (x y : Stood) → x.stmts ≡ y.stmts → x.slots ≡ y.slots → x.objects ≡ y.objects
    → x.returns ≡ y.returns → x.warned ≡ y.warned → x ≡ y
stood_eq x y a b c d e = rw (a, b, c, d, e) refl

-- the statement with what its parts make
pub switch_is : (e : held_used.Used) (it : Cases) (other : Other)
    (o : Option (Box held_stmt.Stmt Global)) (po inner all : Parts)
    → else_view o ≡ other.other
    → map slot_view po.slots ≡ other.stood.slots
    → map object_view po.made.literals ≡ other.stood.objects
    → map returned_view po.returns ≡ other.stood.returns → po.made.warned ≡ other.stood.warned
    → map slot_view inner.slots ≡ map slot_view it.parts.slots ++ map slot_view po.slots
    → map object_view inner.made.literals
    ≡ map object_view it.parts.made.literals ++ map object_view po.made.literals
    → map returned_view inner.returns
    ≡ map returned_view it.parts.returns ++ map returned_view po.returns
    → inner.made.warned ≡ it.parts.made.warned ++ po.made.warned
    → all.slots ≡ inner.slots
    → map object_view all.made.literals
    ≡ map object_view e.made.literals ++ map object_view inner.made.literals
    → all.returns ≡ inner.returns → all.made.warned ≡ e.made.warned ++ inner.made.warned
    → stood_of (code.Switch (code_view e.expr) (cases_view it.cases) (else_view o) ∷ []) all
    ≡ switch_rule (used_view e) (cased_view it) other
switch_is e it other o po inner all h s1 o1 r1 w1 s2 o2 r2 w2 s3 o3 r3 w3 =
    stood_eq
    (stood_of (code.Switch (code_view e.expr) (cases_view it.cases) (else_view o) ∷ []) all)
    (switch_rule (used_view e) (cased_view it) other)
    (ap (λ x. code.Switch (code_view e.expr) (cases_view it.cases) x ∷ []) h)
    (ap (λ xs. map slot_view xs) s3 ∙ s2 ∙ ap (λ xs. map slot_view it.parts.slots ++ xs) s1)
    (o3 ∙ ap (λ xs. map object_view e.made.literals ++ xs)
    (o2 ∙ ap (λ xs. map object_view it.parts.made.literals ++ xs) o1))
    (ap (λ xs. map returned_view xs) r3 ∙ r2
    ∙ ap (λ xs. map returned_view it.parts.returns ++ xs) r1)
    (w3 ∙ ap (λ xs. e.made.warned ++ xs) (w2 ∙ ap (λ xs. it.parts.made.warned ++ xs) w1))
