-- Bodies that stand beside those that are written: each has the number of its function.
use Rattle.std.proofs.Common.{◌≡◌, ℕ, suc, List, [], ◌∷◌, ◌++◌, Bool, true, false, Option, refl}
use Rattle.std.proofs.Common.{sym, ap, ◌∙◌, subst, cond}
use Rattle.std.specs.Prelude.{length, nat_eq, unwrap_or}
use Rattle.pawn_tree.specs.declared.name.At.{At}
use Rattle.pawn_tree.specs.Declarations as tree
use Rattle.pawn_tree.specs.Declarations.{Variables, Constant, Enum, Native, Forward, Function, Tree}
use Rattle.pawn_tree.specs.Declarations.{FunctionOf}
use Rattle.pawn_meaning.specs.Program.{Slot}
use Rattle.names_rules.specs.Verdict.{Verdict, Stands, Breaks}
use Rattle.types_rules.specs.Around.{Around}
use Rattle.types_rules.specs.Scope.{Scope}
use Rattle.types_rules.proofs.VerdictLaws.{Holds, stands_itself, breaks_holds, holds_after}
use Rattle.types_rules.proofs.VerdictLaws.{holds_both, holds_all, holds_also, holds_unless}
use Rattle.types_rules.specs.Points.{Point}
use Rattle.types_rules.specs.Params.{Headed, head_rule, params}
use Rattle.types_rules.specs.Groups.{Written, written, body_key, number_of}
use Rattle.types_rules.specs.Paths.{behind_decl}
use Rattle.types_rules.specs.Sources.{Source}
use Rattle.types_rules.specs.Declarations.{Bodied, Done, nothing_done, shaped_key, native_name}
use Rattle.types_rules.specs.Declarations.{function_key, function_with, function_rule, declarations}
use Rattle.types_laws.proofs.BareLaws.{globals_bare, bare_bare, constant_bare, enum_bare}
use Rattle.types_laws.proofs.BareLaws.{shaped_is}
use Rattle.types_laws.proofs.Facts.{if_holds}
use Rattle.types_rules.specs.Programs.{bodies_of}
use Rattle.types_laws.proofs.GroupLaws.{IsShaped, AreShaped, HavePlaces, place, number_is}
use Rattle.types_laws.proofs.GroupLaws.{keys_of}
use Rattle.types_laws.proofs.GroupBodies.{placed_at}

module _ (source : Source) where
  -- a body beside what is written
  pub record FitsBody (it : Written) (b : Bodied) : Type 0 where
    pub number : b.number
        ≡ unwrap_or (number_of source.groups (body_key source.tags source.fallback it)) 0
    pub params : it.function.head.params ≡ [] → b.params ≡ []
    pub shaped : IsShaped (body_key source.tags source.fallback it)

  abbrev pub Fits : List Written → List Bodied → Type 0
  Fits [] [] = Unit {0}
  Fits [] (b ∷ more) = ⊥
  Fits (it ∷ more) [] = ⊥
  Fits (it ∷ more) (b ∷ rest) = FitsBody it b × Fits more rest

  none_slots : (cx : Around) (at : At) (scope : Scope) (ps : List tree.Param) (h : Headed) → ps ≡ []
      → params cx at scope 0 ps ≡ Stands h → h.slots ≡ []
  unfolding params
  none_slots cx at scope [] h e s = sym (ap (λ (v : Verdict Headed). slots_in v) s)
    where
      slots_in : Verdict Headed → List Slot
      slots_in (Stands it) = it.slots
      slots_in (Breaks found) = []
  none_slots cx at scope (p ∷ ps) h e s = absurd (let no : ⊥ = cc in no)

  module _ (cx : Around) where
    record OneBody (of : FunctionOf) (d : Done) : Type 0 where
      pub body : Bodied
      pub is : d.bodies ≡ body ∷ []
      pub number : body.number ≡ unwrap_or (number_of source.groups (function_key source cx of)) 0
      pub params : of.head.params ≡ [] → body.params ≡ []

    function_one : (point : Point) (at : At) (of : FunctionOf)
        → Holds (OneBody of) (function_with source cx point at of (function_key source cx of))
    function_one point at of =
        holds_unless _ (holds_both {P = λ h. head_rule cx at point.scope of.head ≡ Stands h}
        (record { of = λ h e. e }) (holds_all _) (λ h x p t.
        if_holds _ (stands_itself _ _ (record {
          body = _;
          is = refl;
          number = refl;
          params = λ e. none_slots cx at ([] ∷ point.scope) of.head.params h e p;
        })) (breaks_holds _ _)))

    fit_function : (point : Point) (at : At) (of : FunctionOf)
        → Holds (λ d. OneBody of d × IsShaped (function_key source cx of))
        (function_rule source cx point at of)
    fit_function point at of =
        holds_after (function_one point at of) (λ d p.
        holds_after (shaped_is at (function_key source cx of)) (λ k q. stands_itself _ _ (p, q)))

    joined : (all : List Written) (x y : List Bodied) → x ≡ [] → Fits all y → Fits all (x ++ y)
    joined all x y e h = subst (λ (l : List Bodied). Fits all (l ++ y)) (sym e) h

    with_body : (at : At) (of : FunctionOf) (x y : Done) (all : List Written) → OneBody of x
        → IsShaped (function_key source cx of) → Fits all y.bodies
        → Fits (record { at = at; function = of } ∷ all) (x.bodies ++ y.bodies)
    with_body at of x y all p shaped h =
        subst (λ (l : List Bodied). Fits (record { at = at; function = of } ∷ all) (l ++ y.bodies))
        (sym p.is)
        (record { number = p.number; params = p.params; shaped = shaped }, h)

    pub bodies_fit : (point : Point) (all : Tree)
        → Holds (λ d. Fits (written all) d.bodies) (declarations source cx point all)
    unfolding declarations
    bodies_fit point [] = stands_itself _ nothing_done tt
    bodies_fit point (Variables at of ∷ more) =
        holds_both (holds_unless _ (globals_bare source cx point at of.constant of.vars))
        (bodies_fit (behind_decl cx point (Variables at of)) more)
        (λ x y p q. stands_itself _ _ (joined _ x.bodies y.bodies p.bodies q))
    bodies_fit point (Constant at of ∷ more) =
        holds_both (constant_bare source cx point at of)
        (bodies_fit (behind_decl cx point (Constant at of)) more)
        (λ x y p q. stands_itself _ _ (joined _ x.bodies y.bodies p.bodies q))
    bodies_fit point (Enum at name items ∷ more) =
        holds_both (enum_bare source cx point at name items)
        (bodies_fit (behind_decl cx point (Enum at name items)) more)
        (λ x y p q. stands_itself _ _ (joined _ x.bodies y.bodies p.bodies q))
    bodies_fit point (Native at head ∷ more) =
        holds_both (holds_also (native_name at head.name) (bare_bare source cx point at head))
        (bodies_fit (behind_decl cx point (Native at head)) more)
        (λ x y p q. stands_itself _ _ (joined _ x.bodies y.bodies p.bodies q))
    bodies_fit point (Forward at is_public head ∷ more) =
        holds_both (holds_also (shaped_key at _) (bare_bare source cx point at head))
        (bodies_fit (behind_decl cx point (Forward at is_public head)) more)
        (λ x y p q. stands_itself _ _ (joined _ x.bodies y.bodies p.bodies q))
    bodies_fit point (Function at of ∷ more) =
        holds_both (fit_function point at of)
        (bodies_fit (behind_decl cx point (Function at of)) more)
        (λ x y p q. stands_itself _ _ (with_body at of x y _ p.0 p.1 q))

  pub fits_shaped : (all : List Written) (bodies : List Bodied) → Fits all bodies
      → AreShaped (keys_of source.tags source.fallback all)
  fits_shaped [] bodies h = tt
  fits_shaped (it ∷ more) [] h = absurd h
  fits_shaped (it ∷ more) (b ∷ rest) h = (h.0.shaped, fits_shaped more rest h.1)

  -- ---- those of one function

  fits_by : (it : Written) (more : List Written) (b : Bodied) (rest : List Bodied) (s t : Bool)
      → s ≡ t → FitsBody it b → Fits more rest
      → Fits (cond s (it ∷ more) more) (cond t (b ∷ rest) rest)
  fits_by it more b rest true true e h k = (h, k)
  fits_by it more b rest false false e h k = k
  fits_by it more b rest true false e h k = absurd (let no : ⊥ = cc in no)
  fits_by it more b rest false true e h k = absurd (let no : ⊥ = cc in no)

  pub fits_length : (all : List Written) (bodies : List Bodied) → Fits all bodies
      → length bodies ≡ length all
  fits_length [] [] h = refl
  fits_length [] (b ∷ more) h = absurd h
  fits_length (it ∷ more) [] h = absurd h
  fits_length (it ∷ more) (b ∷ rest) h = ap suc (fits_length more rest h.1)

  abbrev owned : ℕ → List Written → List Written
  owned f all = placed_at source.tags source.fallback source.groups f all

  pub fits_placed : (f : ℕ) (all : List Written) (bodies : List Bodied) → Fits all bodies
      → HavePlaces source.groups (keys_of source.tags source.fallback all)
      → Fits (owned f all) (bodies_of bodies f)
  fits_placed f [] [] h p = tt
  fits_placed f [] (b ∷ more) h p = absurd h
  fits_placed f (it ∷ more) [] h p = absurd h
  fits_placed f (it ∷ more) (b ∷ rest) h p =
      let key = body_key source.tags source.fallback it in
      let same : b.number ≡ place source.groups key =
      h.0.number ∙ ap (λ (z : Option ℕ). unwrap_or z 0) (number_is source.groups key p.0) in
      fits_by it (owned f more) b (bodies_of rest f) (nat_eq (place source.groups key) f)
      (nat_eq b.number f) (ap (λ m. nat_eq m f) (sym same)) h.0 (fits_placed f more rest h.1 p.1)
