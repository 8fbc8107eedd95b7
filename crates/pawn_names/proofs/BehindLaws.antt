-- One mark more: what code has found out behind it, and which faults it may answer.
use Rattle.std.proofs.Common.{◌≡◌, ℕ, List, [], ◌∷◌, ◌++◌, Option, Some, None, option_map, refl}
use Rattle.std.proofs.Common.{sym, ap, subst, ◌∙◌}
use Rattle.std.specs.Option.{option_or}
use Rattle.pawn_cells.specs.Constants.{predefined}
use Rattle.names_rules.specs.Verdict.{Fault}
use Rattle.names_rules.specs.Known as plain
use Rattle.names_rules.specs.Mark.{Mark, Opens, Closes, Mentions, Uses, Declares, Use, Declaration}
use Rattle.names_rules.specs.Overloads.{tag_number}
use Rattle.names_rules.specs.Around.{Around, constant}
use Rattle.names_rules.specs.Found.{meaning, declared, kind_of}
use Rattle.names_rules.specs.Here.{is_here}
use Rattle.names_rules.specs.Path.{path_of}
use Rattle.names_rules.specs.Faults.{use_faults, again_faults, value_faults, mark_faults}
use Rattle.names_rules.specs.Faults.{marks_faults}
use Rattle.names_rules.specs.Uses as u
use Rattle.names_rules.specs.Values as v
use Rattle.names_rules.proofs.FaultLaws.{no_mark_faults}
use Rattle.pawn_verdict.specs.declared.fault.CheckFault.{CheckFault}
use Rattle.names_sight.specs.declared.known.Kind.{Kind}
use Rattle.names_sight.specs.declared.known.Known.{Known}
use Rattle.names_sight.specs.declared.context.Context.{Context}
use Rattle.pawn_verdict.specs.Answers.{Fails}
use Rattle.names_sight.specs.Changes as changes
use Rattle.names_sight.specs.Changes.{IsNow}
use Rattle.names_sight.specs.FileTable.{function_in}
use Rattle.names_sight.specs.Means.{around_view, means_view}
use Rattle.names_sight.specs.Scopes.{Numbered, innermost_has}
use Rattle.names_sight.specs.Views.{kind_view, known_view, head_view}
use Rattle.pawn_verdict.proofs.VerdictLaws.{fails_left, fails_right}
use Rattle.names_sight.specs.Narrower.{NarrowerKind, NarrowerKnown}
use Rattle.pawn_names.specs.declared.resolver.Resolver.{Resolver}
use Rattle.pawn_names.specs.Behind.{Knows, IsPath, IsBehind}
use Rattle.pawn_names.specs.StepAnswers.{IsTokenOf}
use Rattle.pawn_names.proofs.PathLaws.{path_with, path_out}
use Rattle.pawn_names.proofs.StepLaws.{means_narrower, here_is, declared_narrower, use_is}
use Rattle.pawn_names.proofs.DeclareLaws.{kind_twice, value_fails, kept_whole, kept_values}

-- ---- what is known everywhere stays

knows_on : (around : Around) (x y : Context) (known : List Known) (scopes : Numbered)
    → Knows around x → IsNow x y known scopes → Knows around y
knows_on around x y known scopes h n = record {
  tags = n.tags ∙ h.tags;
  overloads = n.operators ∙ h.overloads;
  elsewhere =
      λ name. ap (λ names. option_or (option_map head_view (function_in names name))
      (option_map constant (predefined name))) n.names
      ∙ h.elsewhere name;
}

path_now : (around : Around) (marks : List Mark) (y : Context) (known : List Known)
    (scopes : Numbered)
    → y.known ≡ known → y.scopes ≡ scopes → IsPath known scopes (path_of around marks)
    → IsPath y.known y.scopes (path_of around marks)
path_now around marks y known scopes k s h = rw (k, s) h

nothing_more : (xs ys : List Fault) → xs ≡ [] → ys ≡ [] → xs ++ ys ≡ []
nothing_more xs ys x y = rw (x, y) refl

module _ (around : Around) (marks : List Mark) (x y : Resolver) (h : IsBehind around marks x) where
  -- ---- blocks and tags

  pub opens_done : changes.Enters x.context y.context → y.uses ≡ x.uses
      → y.values.items ≡ x.values.items → IsBehind around (Opens ∷ marks) y
  opens_done n e v = record {
    knows = knows_on around x.context y.context _ _ h.knows n;
    path = path_now around (Opens ∷ marks) y.context _ _ n.known_now n.scopes_now (tt, h.path);
    uses = e ∙ h.uses;
    values = v ∙ h.values;
    whole = no_mark_faults around marks Opens h.whole refl;
  }

  pub closes_done : changes.Leaves x.context y.context → y.uses ≡ x.uses
      → y.values.items ≡ x.values.items → IsBehind around (Closes ∷ marks) y
  closes_done n e v = record {
    knows = knows_on around x.context y.context _ _ h.knows n;
    path =
        path_now around (Closes ∷ marks) y.context _ _ n.known_now n.scopes_now
        (path_out x.context.known x.context.scopes (path_of around marks) h.path);
    uses = e ∙ h.uses;
    values = v ∙ h.values;
    whole = no_mark_faults around marks Closes h.whole refl;
  }

  -- ---- occurrences

  use_found : (it : Use) (kept : Option plain.Known) (token : Option ℕ) → IsTokenOf kept token
      → (use_faults it kept ≡ []) × (u.pair_of it kept ≡ u.declared_at it.token token)
  use_found it None token k = absurd k
  use_found it (Some known) token k = (refl, ap (λ t. u.declared_at it.token t) k)

  pub use_done : (it : Use) (token : Option ℕ) → IsTokenOf (means_view x.context it.name) token
      → y.context ≡ x.context → y.uses ≡ x.uses ++ u.declared_at it.token token
      → y.values.items ≡ x.values.items
      → IsBehind around (Uses it ∷ marks) y
  use_done it token k c e v =
      let same = use_is it (means_view x.context it.name) (meaning around marks it.name)
      (means_narrower around marks x.context h.knows h.path it.name) in
      let found = use_found it (means_view x.context it.name) token k in
      record {
        knows = rw c h.knows;
        path = rw c h.path;
        uses = e ∙ ap (λ uses. uses ++ u.declared_at it.token token) h.uses
            ∙ ap (λ pairs. u.uses around marks ++ pairs) (sym (same.1 ∙ found.1));
        values = v ∙ h.values;
        whole = no_mark_faults around marks (Uses it) h.whole (same.0 ∙ found.0);
      }

module _ (around : Around) (marks : List Mark) (x : Resolver) (h : IsBehind around marks x) where
  pub use_fails : (it : Use) (fault : CheckFault)
      → Fails (use_faults it (means_view x.context it.name)) fault
      → Fails (marks_faults around (Uses it ∷ marks)) fault
  use_fails it fault k =
      let same = use_is it (means_view x.context it.name) (meaning around marks it.name)
      (means_narrower around marks x.context h.knows h.path it.name) in
      fails_right (marks_faults around marks) (mark_faults around marks (Uses it)) fault
      (subst (λ these. Fails these fault) (sym same.0) k)

  -- ---- declarations

  again_is : (it : Declaration) → again_faults it (innermost_has x.context.scopes it.name.bytes)
      ≡ again_faults it (is_here marks it.name.bytes)
  again_is it = ap (again_faults it) (here_is around marks x.context h.knows h.path it.name.bytes)

  pub again_fails : (it : Declaration) (fault : CheckFault)
      → Fails (again_faults it (innermost_has x.context.scopes it.name.bytes)) fault
      → Fails (marks_faults around (Declares it ∷ marks)) fault
  again_fails it fault k =
      fails_right (marks_faults around marks) (mark_faults around marks (Declares it)) fault
      (fails_left (again_faults it (is_here marks it.name.bytes))
      (value_faults (declared around marks it).kind) fault
      (subst (λ these. Fails these fault) (again_is it) k))

  pub kind_fails : (it : Declaration) (fault : CheckFault)
      → Fails (value_faults (kind_of (around_view x.context)
      (means_view x.context) it.place it.sort)) fault
      → Fails (marks_faults around (Declares it ∷ marks)) fault
  kind_fails it fault k =
      fails_right (marks_faults around marks) (mark_faults around marks (Declares it)) fault
      (fails_right (again_faults it (is_here marks it.name.bytes))
      (value_faults (declared around marks it).kind) fault
      (value_fails _ _ fault (declared_narrower around marks x.context h.knows h.path it) k))

  pub declare_done : (y : Resolver) (it : Declaration) (known : Known)
      → again_faults it (innermost_has x.context.scopes it.name.bytes) ≡ []
      → NarrowerKind (kind_view known.kind)
      (kind_of (around_view x.context) (means_view x.context) it.place it.sort)
      → known.token ≡ it.name.at.token → known.tag ≡ tag_number x.context.tags it.tag
      → y.values.items ≡ v.with_kind it (kind_view known.kind) x.values.items → y.uses ≡ x.uses
      → changes.Declares x.context y.context it.name.bytes known
      → IsBehind around (Declares it ∷ marks) y
  declare_done y it known again kept token tag values uses n =
      let all : NarrowerKind (kind_view known.kind) (declared around marks it).kind =
      kind_twice _ _ _ kept (declared_narrower around marks x.context h.knows h.path it) in
      let narrower : NarrowerKnown (known_view known) (declared around marks it) = record {
        token = ap Some token;
        tag = tag ∙ ap (λ tags. tag_number tags it.tag) h.knows.tags;
        kind = all;
      } in
      record {
        knows = knows_on around x.context y.context _ _ h.knows n;
        path = path_now around (Declares it ∷ marks) y.context _ _ n.known_now n.scopes_now
            (path_with x.context.known known x.context.scopes (path_of around marks)
            (record { name = it.name.bytes; known = declared around marks it }) h.path narrower);
        uses = uses ∙ h.uses;
        values = values ∙ ap (v.with_kind it (kind_view known.kind)) h.values
            ∙ sym (kept_values it known.kind (declared around marks it).kind
            (v.values around marks) all);
        whole = no_mark_faults around marks (Declares it) h.whole
            (nothing_more _ _ (sym (again_is it) ∙ again)
            (kept_whole known.kind (declared around marks it).kind all));
      }

  -- the same, by what code makes known
  pub declared_so : (y : Resolver) (it : Declaration) (kind : Kind) (known : Known) (name : List ℕ)
      → known ≡ record {
        token = it.name.at.token;
        tag = tag_number x.context.tags it.tag;
        kind = kind;
      } → name ≡ it.name.bytes
      → again_faults it (innermost_has x.context.scopes it.name.bytes) ≡ []
      → NarrowerKind (kind_view kind)
      (kind_of (around_view x.context) (means_view x.context) it.place it.sort)
      → y.values.items ≡ v.with_kind it (kind_view kind) x.values.items → y.uses ≡ x.uses
      → changes.Declares x.context y.context name known
      → IsBehind around (Declares it ∷ marks) y
  declared_so y it kind known name is e again kept values uses n =
      declare_done y it (record {
        token = it.name.at.token;
        tag = tag_number x.context.tags it.tag;
        kind = kind;
      }) again kept refl refl values uses
      (subst (λ k. changes.Declares x.context y.context it.name.bytes k) is
      (subst (λ b. changes.Declares x.context y.context b known) e n))

  pub mentions_done : (tag : List ℕ) → IsBehind around (Mentions tag ∷ marks) x
  mentions_done tag = record {
    knows = h.knows;
    path = h.path;
    uses = h.uses;
    values = h.values;
    whole = no_mark_faults around marks (Mentions tag) h.whole refl;
  }
