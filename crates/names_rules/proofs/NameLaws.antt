-- The names outside all functions: those of a declaration stand behind those before it, and names
-- that stand twice stay where others follow. The lists of names one by one.
use Rattle.std.proofs.Common.{◌≡◌, ◌+◌, ◌<◌, ℕ, List, [], ◌∷◌, ◌++◌, Option, Some, None, map}
use Rattle.std.proofs.Common.{length, drop, get_or, refl, ap, ◌∙◌, sym, append_assoc}
use Rattle.std.specs.List.{Contains}
use Rattle.std.proofs.lemmas.List.{drop_more}
use Rattle.pawn_cells.specs.declared.place.Place.{Place}
use Rattle.pawn_tree.specs.declared.name.Name as n
use Rattle.pawn_tree.specs.declared.declaration.HeadName.{HeadName}
use Rattle.pawn_tree.specs.declared.declaration.HeadName.TheVariants as called
use Rattle.pawn_tree.specs.Variables.{Var}
use Rattle.pawn_tree.specs.Declarations.{Item, Head, Decl, Variables, Constant, Enum, Native}
use Rattle.pawn_tree.specs.Declarations.{Forward, Function}
use Rattle.names_rules.specs.Verdict.{Fault}
use Rattle.names_rules.specs.FileNames.{FileName, Role, var_names, item_names, label_names}
use Rattle.names_rules.specs.FileNames.{called_names, decl_names, decls_names, twice_faults}
use Rattle.names_rules.proofs.FaultLaws.{twice_stays}

-- the latest first, so that those that follow stand in front
pub record Follows (before now : List FileName) : Type 0 where
  pub more : List FileName
  pub same : now ≡ more ++ before

pub follows_nothing : (before : List FileName) → Follows before before
follows_nothing before = record { more = []; same = refl }

pub follows_one : (x : FileName) (before : List FileName) → Follows before (x ∷ before)
follows_one x before = record { more = x ∷ []; same = refl }

pub follows_both : {before now later : List FileName} → Follows before now → Follows now later
    → Follows before later
follows_both {before} {now} {later} x y = record {
  more = y.more ++ x.more;
  same = y.same ∙ ap (λ names. y.more ++ names) x.same ∙ sym (append_assoc y.more x.more before);
}

-- ---- each declaration

pub vars_follow : (place : Place) (xs : List Var) (before : List FileName)
    → Follows before (var_names place xs before)
vars_follow place [] before = follows_nothing before
vars_follow place (x ∷ xs) before = follows_both (follows_one _ before) (vars_follow place xs _)

pub items_follow : (place : Place) (xs : List Item) (before : List FileName)
    → Follows before (item_names place xs before)
items_follow place [] before = follows_nothing before
items_follow place (x ∷ xs) before = follows_both (follows_one _ before) (items_follow place xs _)

pub label_follows : (place : Place) (x : Option n.Name) (before : List FileName)
    → Follows before (label_names place x before)
label_follows place None before = follows_nothing before
label_follows place (Some name) before = follows_one _ before

pub called_follow : (place : Place) (head : Head) (role : Role) (x : HeadName)
    (before : List FileName) → Follows before (called_names place head role x before)
called_follow place head role (called.Name name) before = follows_one _ before
called_follow place head role (called.Operator at sign) before = follows_nothing before

pub decl_follows : (x : Decl) (before : List FileName) → Follows before (decl_names x before)
decl_follows (Variables at x) before = vars_follow at.place x.vars before
decl_follows (Constant at x) before = follows_one _ before
decl_follows (Enum at name items) before =
    follows_both (items_follow at.place items before) (label_follows at.place name _)
decl_follows (Native at head) before = called_follow at.place head _ head.name before
decl_follows (Forward at is_public head) before = called_follow at.place head _ head.name before
decl_follows (Function at x) before = called_follow at.place x.head _ x.head.name before

pub decls_follow : (xs : List Decl) (before : List FileName)
    → Follows before (decls_names xs before)
decls_follow [] before = follows_nothing before
decls_follow (x ∷ xs) before = follows_both (decl_follows x before) (decls_follow xs _)

pub twice_stays_behind : {before now : List FileName} (fault : Fault) → Follows before now
    → Contains (twice_faults before) fault → Contains (twice_faults now) fault
twice_stays_behind {before} {now} fault follows x =
    rw follows.same (twice_stays follows.more before fault x)

-- ---- one by one

module _ {H : Type 0} (view : H → Var) (place : Place) where
  pub next_var : (xs : List H) (i : ℕ) (x : H) (now : List FileName) → i < length xs
      → var_names place (map view (drop i xs)) now
      ≡ var_names place (map view (get_or xs i x ∷ drop (i + 1) xs)) now
  next_var xs i x now lt = ap (λ rest. var_names place (map view rest) now) (drop_more xs i x lt)

module _ {H : Type 0} (view : H → Item) (place : Place) where
  pub next_item : (xs : List H) (i : ℕ) (x : H) (now : List FileName) → i < length xs
      → item_names place (map view (drop i xs)) now
      ≡ item_names place (map view (get_or xs i x ∷ drop (i + 1) xs)) now
  next_item xs i x now lt = ap (λ rest. item_names place (map view rest) now) (drop_more xs i x lt)

module _ {H : Type 0} (view : H → Decl) where
  pub next_decl : (xs : List H) (i : ℕ) (x : H) (now : List FileName) → i < length xs
      → decls_names (map view (drop i xs)) now
      ≡ decls_names (map view (get_or xs i x ∷ drop (i + 1) xs)) now
  next_decl xs i x now lt = ap (λ rest. decls_names (map view rest) now) (drop_more xs i x lt)
