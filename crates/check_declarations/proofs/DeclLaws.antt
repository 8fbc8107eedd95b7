-- Declarations of the file, one by one.
use Rattle.std.proofs.Common.{◌≡◌, ◌+◌, ◌<◌, ◌≤◌, ℕ, Bool, List, [], ◌∷◌, ◌++◌, length, drop}
use Rattle.std.proofs.Common.{get_or, map, Option, refl, sym, ap, ◌∙◌, append_assoc, append-nil}
use Rattle.std.proofs.lemmas.List.{drop_all}
use Rattle.pawn_tree.specs.declared.name.At.{At}
use Rattle.pawn_tree.specs.declared.variable.Storage.TheVariants as storage
use Rattle.pawn_tree.specs.declared.variable.Var as held_var
use Rattle.pawn_tree.specs.declared.declaration.Decl as held
use Rattle.pawn_tree.specs.Variables.{Var}
use Rattle.pawn_tree.specs.Declarations.{Decl}
use Rattle.pawn_tree.specs.View.{decl_view, var_view}
use Rattle.names_rules.specs.Verdict.{Verdict, Stands, Breaks, Fault, after, both, faults_of}
use Rattle.types_rules.specs.Around.{Around, Head}
use Rattle.pawn_verdict.specs.declared.fault.CheckFault.{CheckFault}
use Rattle.pawn_verdict.specs.Answers.{Fails}
use Rattle.types_rules.specs.Points.{Point, behind_var, behind_vars}
use Rattle.types_rules.specs.Locals.{local_by}
use Rattle.types_rules.specs.Stood.{Stood}
use Rattle.types_rules.specs.Sources.{Source}
use Rattle.types_rules.specs.Declarations.{Done, done_behind, nothing_done, objects_done, globals}
use Rattle.types_rules.specs.Declarations.{decl_rule, declarations}
use Rattle.types_rules.specs.Paths.{behind_decl, heads, heads_of}
use Rattle.check_nodes.proofs.ThreadLaws.{next}
use Rattle.check_locals.specs.Rows.{joined, Walked}
use Rattle.check_locals.proofs.RowLaws.{walked_begins, walked_more, walked_fails, walked_all}

-- ---- putting them together

pub done_assoc : (x y z : Done) → done_behind x (done_behind y z) ≡ done_behind (done_behind x y) z
done_assoc x y z = rw (
  append_assoc x.objects y.objects z.objects,
  append_assoc x.bodies y.bodies z.bodies,
  append_assoc x.warned y.warned z.warned,
) refl

none_first : (x : Done) → done_behind nothing_done x ≡ x
none_first x = refl

none_last : (x : Done) → done_behind x nothing_done ≡ x
none_last x = rw (append-nil x.objects, append-nil x.bodies, append-nil x.warned) refl

-- ---- a list whose elements stand behind those before them

module _ {T H : Type 0} (view : H → T) (this : Point → T → Verdict Done) (past : Point → T → Point)
    (all : Point → List T → Verdict Done) (end : Point → List T → Point) where
  -- how the verdict and the path of a list are made
  pub record Rows : Type 0 where
    pub none : (p : Point) → all p [] ≡ Stands nothing_done
    pub more : (p : Point) (x : T) (xs : List T)
        → all p (x ∷ xs) ≡ joined done_behind (this p x) (all (past p x) xs)
    pub end_none : (p : Point) → end p [] ≡ p
    pub end_more : (p : Point) (x : T) (xs : List T) → end p (x ∷ xs) ≡ end (past p x) xs

  -- so many elements are told, and the rest stands behind them
  pub record Told (old : Point) (list : List H) (i : ℕ) (now : Point) (done : Verdict Done)
      : Type 0 where
    pub walked : Walked done_behind (all old (map view list)) done
        (all now (map view (drop i list)))
    pub ends : end old (map view list) ≡ end now (map view (drop i list))

  pub told_begins : (old : Point) (list : List H) → Told old list 0 old (Stands nothing_done)
  told_begins old list = record {
    walked = walked_begins done_behind nothing_done none_first (all old (map view list));
    ends = refl;
  }

  module _ (law : Rows) (old : Point) (list : List H) (i : ℕ) (p : Point)
      (done : Verdict Done) where
    in_front : (x : H) → i < length list → x ≡ get_or list i x → all p (map view (drop i list))
        ≡ joined done_behind (this p (view x))
        (all (past p (view x)) (map view (drop (i + 1) list)))
    in_front x lt e =
        ap (λ (xs : List H). all p (map view xs)) (next list i x lt e)
        ∙ law.more p (view x) (map view (drop (i + 1) list))

    led : (x : H) → Told old list i p done → i < length list → x ≡ get_or list i x
        → Walked done_behind (all old (map view list)) done
        (joined done_behind (this p (view x))
        (all (past p (view x)) (map view (drop (i + 1) list))))
    led x so_far lt e = record {
      same = so_far.walked.same
          ∙ ap (λ (w : Verdict Done). joined done_behind done w) (in_front x lt e);
    }

    pub told_more : (x : H) (it now : Verdict Done) (q : Point) → Told old list i p done
        → i < length list → x ≡ get_or list i x → this p (view x) ≡ it → q ≡ past p (view x)
        → now ≡ joined done_behind done it → Told old list (i + 1) q now
    told_more x it now q so_far lt e h is k = record {
      walked = walked_more done_behind done_assoc _ done it
          (all q (map view (drop (i + 1) list))) now
          (record { same = (led x so_far lt e).same ∙ rw (h, is) refl }) k;
      ends = so_far.ends
          ∙ ap (λ (xs : List H). end p (map view xs)) (next list i x lt e)
          ∙ law.end_more p (view x) (map view (drop (i + 1) list))
          ∙ ap (λ (at : Point). end at (map view (drop (i + 1) list))) (sym is);
    }

    pub told_fails : (x : H) (fault : CheckFault) → Told old list i p done
        → i < length list → x ≡ get_or list i x → Fails (faults_of (this p (view x))) fault
        → Fails (faults_of (all old (map view list))) fault
    told_fails x fault so_far lt e h =
        walked_fails done_behind _ done (this p (view x))
        (all (past p (view x)) (map view (drop (i + 1) list))) fault (led x so_far lt e) h

    pub told_all : Told old list i p done → length list ≤ i
        → (all old (map view list) ≡ done) × (p ≡ end old (map view list))
    told_all so_far le = (
      walked_all done_behind nothing_done none_last _ done (record {
        same = so_far.walked.same ∙ ap (λ (w : Verdict Done). joined done_behind done w)
            (ap (λ (xs : List H). all p (map view xs)) (drop_all i list le) ∙ law.none p);
      }),
      sym (so_far.ends ∙ ap (λ (xs : List H). end p (map view xs)) (drop_all i list le)
          ∙ law.end_none p),
    )

-- ---- variables of the file

module _ (source : Source) (cx : Around) (at : At) (constant : Bool) where
  -- the objects of a variable
  abbrev pub one_global : Point → Var → Verdict Done
  one_global p x =
      after (local_by cx p at storage.Static constant x x.dims) (λ it. Stands (objects_done it))

  -- behind a variable
  abbrev pub past_global : Point → Var → Point
  past_global p x = behind_var cx p at storage.Static constant x

  -- the objects of variables
  abbrev pub all_globals : Point → List Var → Verdict Done
  all_globals p xs = globals source cx p at constant xs

  -- behind variables
  abbrev pub end_globals : Point → List Var → Point
  end_globals p xs = behind_vars cx p at storage.Static constant xs

  moved : (v : Verdict Stood) (w : Verdict Done)
      → both v w (λ y more. Stands (done_behind (objects_done y) more))
      ≡ joined done_behind (after v (λ it. Stands (objects_done it))) w
  moved (Stands x) w = refl
  moved (Breaks faults) w = refl

  pub globals_are : Rows var_view one_global past_global all_globals end_globals
  unfolding globals behind_vars
  globals_are = record {
    none = λ p. refl;
    more = λ p x xs. moved (local_by cx p at storage.Static constant x x.dims)
        (globals source cx (past_global p x) at constant xs);
    end_none = λ p. refl;
    end_more = λ p x xs. refl;
  }

-- the path behind them alone
module _ (cx : Around) (at : At) (constant : Bool) (old : Point) (list : List held_var.Var) where
  pub record Placed (i : ℕ) (p : Point) : Type 0 where
    pub ends : behind_vars cx old at storage.Static constant (map var_view list)
        ≡ behind_vars cx p at storage.Static constant (map var_view (drop i list))

  pub placed_begins : Placed 0 old
  placed_begins = record { ends = refl }

  pub placed_more : (i : ℕ) (p q : Point) (x : held_var.Var) → Placed i p → i < length list
      → x ≡ get_or list i x → q ≡ behind_var cx p at storage.Static constant (var_view x)
      → Placed (i + 1) q
  unfolding behind_vars
  placed_more i p q x so_far lt e is = record {
    ends = so_far.ends
        ∙ ap (λ (xs : List held_var.Var).
        behind_vars cx p at storage.Static constant (map var_view xs))
        (next list i x lt e)
        ∙ ap (λ (place : Point). behind_vars cx place at storage.Static constant
        (map var_view (drop (i + 1) list))) (sym is);
  }

  pub placed_all : (i : ℕ) (p : Point) → Placed i p → length list ≤ i
      → p ≡ behind_vars cx old at storage.Static constant (map var_view list)
  unfolding behind_vars
  placed_all i p so_far le =
      sym (so_far.ends
      ∙ ap (λ (xs : List held_var.Var).
      behind_vars cx p at storage.Static constant (map var_view xs))
      (drop_all i list le))

-- ---- declarations

module _ (source : Source) (cx : Around) where
  -- the path behind declarations
  unfoldable pub behind_decls : Point → List Decl → Point
  behind_decls p [] = p
  behind_decls p (decl ∷ more) = behind_decls (behind_decl cx p decl) more

  pub decls_are : Rows decl_view (λ p x. decl_rule source cx p x)
      (λ p x. behind_decl cx p x) (λ p xs. declarations source cx p xs) behind_decls
  unfolding declarations behind_decls
  decls_are = record {
    none = λ p. refl;
    more = λ p x xs. refl;
    end_none = λ p. refl;
    end_more = λ p x xs. refl;
  }

-- ---- heads

module _ (cx : Around) (old : Point) (list : List held.Decl) where
  -- the heads of so many declarations, and those behind them
  pub record Headed (i : ℕ) (p : Point) (done : List (Option Head)) : Type 0 where
    pub same : heads cx old (map decl_view list)
        ≡ done ++ heads cx p (map decl_view (drop i list))

  pub headed_begins : Headed 0 old []
  headed_begins = record { same = refl }

  pub headed_more : (i : ℕ) (p q : Point) (done now : List (Option Head)) (x : held.Decl)
      → Headed i p done → i < length list → x ≡ get_or list i x
      → now ≡ done ++ heads_of cx p (decl_view x) → q ≡ behind_decl cx p (decl_view x)
      → Headed (i + 1) q now
  unfolding heads
  headed_more i p q done now x so_far lt e h is =
      let rest : List (Option Head) = heads cx q (map decl_view (drop (i + 1) list)) in
      record {
        same = so_far.same
            ∙ ap (λ (xs : List held.Decl). done ++ heads cx p (map decl_view xs))
            (next list i x lt e)
            ∙ ap (λ (at : Point). done ++ (heads_of cx p (decl_view x)
            ++ heads cx at (map decl_view (drop (i + 1) list)))) (sym is)
            ∙ sym (append_assoc done (heads_of cx p (decl_view x)) rest)
            ∙ ap (λ (xs : List (Option Head)). xs ++ rest) (sym h);
      }

  pub headed_all : (i : ℕ) (p : Point) (done : List (Option Head)) → Headed i p done
      → length list ≤ i → done ≡ heads cx old (map decl_view list)
  unfolding heads
  headed_all i p done so_far le =
      sym (so_far.same
      ∙ ap (λ (xs : List held.Decl). done ++ heads cx p (map decl_view xs)) (drop_all i list le)
      ∙ append-nil done)
