-- One mark more: what code finds out of it by what it keeps is what the definitions say.
use Rattle.std.proofs.Common.{◌≡◌, ℕ, ℤ, List, [], ◌∷◌, Option, Some, None, refl, sym, ap, ◌∙◌}
use Rattle.std.proofs.Common.{subst}
use Rattle.names_rules.specs.Verdict.{Verdict}
use Rattle.names_rules.specs.Known.{Known, Kind, Cells, Worth, Function}
use Rattle.names_rules.specs.Mark.{Mark, Use, Declaration}
use Rattle.names_rules.specs.Around.{Around, everywhere}
use Rattle.names_rules.specs.Found.{meaning, declared, kind_of}
use Rattle.names_rules.specs.Here.{is_here}
use Rattle.names_rules.specs.Path.{path_of}
use Rattle.names_rules.specs.Faults.{use_faults}
use Rattle.names_rules.specs.Uses.{pair_of, declared_at}
use Rattle.names_rules.proofs.PathLaws as scopes
use Rattle.names_sight.specs.declared.context.Context.{Context}
use Rattle.names_sight.specs.Scopes.{innermost_has}
use Rattle.names_sight.specs.Means.{around_view, elsewhere_view, means_view}
use Rattle.names_sight.specs.Narrower.{AreNarrower, NarrowerKind, NarrowerMeant}
use Rattle.pawn_names.specs.Behind.{IsPath, Knows}
use Rattle.pawn_names.proofs.NarrowLaws.{same_narrower, bare, sort_narrower}
use Rattle.pawn_names.proofs.PathLaws.{path_means, path_has_name}

-- ---- what is the same is narrower

same_sizes : (sizes : List (Verdict ℤ)) → AreNarrower sizes sizes
same_sizes [] = tt
same_sizes (size ∷ sizes) = (same_narrower size, same_sizes sizes)

same_kind : (kind : Kind) → NarrowerKind kind kind
same_kind (Cells sizes) = same_sizes sizes
same_kind (Worth worth) = same_narrower worth
same_kind Function = tt

pub same_meant : (known : Option Known) → NarrowerMeant known known
same_meant None = tt
same_meant (Some known) = record { token = refl; tag = refl; kind = same_kind known.kind }

-- ---- behind some marks

module _ (around : Around) (marks : List Mark) (cx : Context) (knows : Knows around cx)
    (path : IsPath cx.known cx.scopes (path_of around marks)) where
  -- what code knows of a name is narrower
  pub means_narrower : (name : List ℕ)
      → NarrowerMeant (means_view cx name) (meaning around marks name)
  means_narrower name =
      let k : NarrowerMeant (elsewhere_view cx name) (everywhere around name) =
      subst (λ known. NarrowerMeant known (everywhere around name)) (sym (knows.elsewhere name))
      (same_meant (everywhere around name)) in
      subst (λ known. NarrowerMeant (means_view cx name) known)
      (sym (scopes.path_finds around marks name))
      (path_means around cx.known (elsewhere_view cx name) cx.scopes
      (path_of around marks) name path k)

  pub here_is : (name : List ℕ) → innermost_has cx.scopes name ≡ is_here marks name
  here_is name =
      path_has_name cx.known cx.scopes (path_of around marks) name path
      ∙ sym (scopes.path_has around marks name)

  pub around_is : around_view cx ≡ bare around
  around_is = rw (knows.tags, knows.overloads) refl

  -- what a declaration declares
  pub declared_narrower : (it : Declaration)
      → NarrowerKind (kind_of (around_view cx) (means_view cx) it.place it.sort)
      (declared around marks it).kind
  declared_narrower it =
      subst (λ a. NarrowerKind (kind_of a (means_view cx) it.place it.sort)
      (declared around marks it).kind) (sym around_is)
      (sort_narrower around it.place (means_view cx) (meaning around marks) means_narrower it.sort)

-- ---- occurrences

pub use_is : (it : Use) (kept known : Option Known) → NarrowerMeant kept known
    → (use_faults it known ≡ use_faults it kept) × (pair_of it known ≡ pair_of it kept)
use_is it None None h = (refl, refl)
use_is it (Some kept) (Some known) h =
    (refl, ap (λ token. declared_at it.token token) (sym h.token))
use_is it None (Some known) h = absurd h
use_is it (Some kept) None h = absurd h
