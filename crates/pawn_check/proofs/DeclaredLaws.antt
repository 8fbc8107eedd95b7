-- Heads and declarations, by what is known around them and where they begin.
use Rattle.std.proofs.Common.{◌≡◌, List, [], Option, sym, ap, subst, ◌∙◌}
use Rattle.pawn_tree.specs.Declarations.{Decl, Tree}
use Rattle.names_rules.specs.Verdict.{Verdict, Breaks, faults_of}
use Rattle.types_rules.specs.Around.{Around, Head}
use Rattle.types_rules.specs.Points.{Point}
use Rattle.types_rules.specs.Paths as paths
use Rattle.types_rules.specs.Sources.{Source, source_of, stated, around_with, around_of, beginning}
use Rattle.types_rules.specs.Sources.{without_heads}
use Rattle.types_rules.specs.Declarations.{Done, declarations}
use Rattle.pawn_verdict.specs.Answers.{Fails}
use Rattle.pawn_verdict.specs.declared.fault.CheckFault.{CheckFault}
use Rattle.pawn_verdict.specs.declared.fault.CheckFault.TheVariants as check
use Rattle.check_nodes.specs.PartAnswers.{FailsPart, part_of}
use Rattle.check_nodes.specs.declared.fault.PartFault.{PartFault}
use Rattle.check_nodes.specs.declared.fault.PartFault.TheVariants.{Fallen}
use Rattle.types_laws.specs.Faulted.{DeclarationsHaveFaults}
use Rattle.check_declarations.proofs.LeanLaws.{lean, declarations_alike}
use Rattle.pawn_check.specs.TreeParts.{heads, declared}

pub heads_are : (source : Source) (tree : Tree) (cx : Around) (point : Point) (decls : List Decl)
    → cx ≡ without_heads source → point ≡ beginning source → decls ≡ tree
    → paths.heads cx point decls ≡ heads source tree
heads_are source tree cx point decls e p d = λ j. paths.heads (e j) (p j) (d j)

pub around_is : (source : Source) (tree : Tree) (cx : Around) (known : List (Option Head))
    → cx ≡ around_with source (stated source source.headings known) → known ≡ heads source tree
    → cx ≡ around_of source tree
around_is source tree cx known e k =
    e ∙ ap (λ (hs : List (Option Head)). around_with source (stated source source.headings hs)) k

-- the source is held without the headings and the names that are called
pub declared_is : (source : Source) (tree : Tree) (held : Source) (cx : Around) (point : Point)
    (decls : List Decl)
    → cx ≡ around_of source tree → point ≡ beginning source → decls ≡ tree
    → held ≡ record (lean source) { tags = cx.tags }
    → declarations held cx point decls ≡ declared source tree
declared_is source tree held cx point decls e p d l =
    let same : held ≡ lean source = l ∙ (λ j. record (lean source) { tags = (e j).tags }) in
    (λ j. declarations (same j) (e j) (p j) (d j))
    ∙ sym (declarations_alike source (around_of source tree) (beginning source) tree)

-- what doesn't stand has a fault
pub never_fallen : (source : Source) (tree : Tree) (v : Verdict Done) (fault : PartFault)
    → DeclarationsHaveFaults → source ≡ source_of tree
    → v ≡ declared source tree → FailsPart v fault → fault ≡ Fallen → ⊥
never_fallen source tree v fault law e is h f =
    let fell : FailsPart v Fallen = subst (λ (x : PartFault). FailsPart v x) f h in
    law tree (sym (is ∙ ap (λ (s : Source). declared s tree) e) ∙ fell.cause)

pub fails_of : (v w : Verdict Done) (fault : PartFault) (found : CheckFault) → v ≡ w
    → part_of found ≡ fault → FailsPart v fault
    → Fails (faults_of w) found
fails_of v w fault (check.Source kind place) e is h =
    let told : FailsPart v (part_of (check.Source kind place)) =
    subst (λ (x : PartFault). FailsPart v x) (sym is) h in
    subst (λ (x : Verdict Done). Fails (faults_of x) (check.Source kind place)) e
    (record { cause = told.cause })
fails_of v w fault check.Memory e is h = record { cause = tt }
