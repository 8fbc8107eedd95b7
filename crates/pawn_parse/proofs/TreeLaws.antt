-- What the grammar's laws say of the code's answers.
use Rattle.std.proofs.Common.{◌≡◌, ℕ, ◌<◌, ◌≤◌, List, Option, Some, None, Result, Ok, Err, length}
use Rattle.std.proofs.Common.{sym, ◌∙◌, ap, subst, arith}
use Rattle.pawn_lex.specs.declared.token.Token.{Token}
use Rattle.pawn_tree.specs.Declarations.{Tree}
use Rattle.pawn_tree.specs.declared.declaration.Tree as held
use Rattle.tree_rules.specs.Brackets.{IsShallow, IsTooDeep}
use Rattle.tree_rules.specs.Spells.{IsParse}
use Rattle.tree_rules.specs.Readers.{Got}
use Rattle.tree_rules.specs.ReadDeclarations.{unit}
use Rattle.tree_rules.specs.OneTree.{AtMostOneTree}
use Rattle.tree_rules.specs.UnitGives.{Gives, UnitIsSpelled, UnitIsComplete}
use Rattle.pawn_parse.specs.declared.parse_fault.ParseFault.{ParseFault}
use Rattle.pawn_parse.specs.declared.parse_fault.ParseFault.TheVariants.{TooDeep, Syntax, Memory}
use Rattle.pawn_parse.specs.Parses.{HasNoTree, Parses, Finds}

pub parsed : UnitIsSpelled → {ts us : List Token} (x : Got Tree) → us ≡ ts → unit us ≡ Some x
    → IsShallow ts → IsParse ts x.tree
parsed law {ts = ts} {us = us} x same e shallow =
    let f : unit ts ≡ Some x = ap unit (sym same) ∙ e in
    let r = law ts x f in record { spells = r.0; low = r.1; shallow = shallow }

pub refused : UnitIsComplete → {ts us : List Token} → us ≡ ts → unit us ≡ None → IsShallow ts
    → HasNoTree ts
refused law {ts = ts} {us = us} same e shallow =
    let f : unit ts ≡ None = ap unit (sym same) ∙ e in
    record {
      shallow = shallow;
      none = λ tree spells low. subst (Gives tree) f
          (law ts tree spells low);
    }

pub refused_at : UnitIsComplete → {ts us : List Token} (at : ℕ) → us ≡ ts
    → (unit us ≡ None) × (at ≤ length us) → IsShallow ts → HasNoTree ts × (at ≤ length ts)
refused_at law at same p shallow =
    (refused law same p.0 shallow, subst (λ x. at ≤ length x) same p.1)

pub never_deep : {ts us : List Token} (n : ℕ) → us ≡ ts → IsTooDeep us n → (tree : Tree)
    → IsParse ts tree → ⊥
never_deep n same p tree is =
    let q = subst (λ x. IsTooDeep x n) same p in
    let low = is.shallow n q.inside in let deep = q.deep in omega arith

finds_in : AtMostOneTree → (ts : List Token) (r : Result held.Tree ParseFault) → Parses ts r
    → (tree : Tree) → IsParse ts tree → Finds tree r
finds_in law ts (Ok found) p tree is = law ts _ tree p.spells is.spells
finds_in law ts (Err (TooDeep n)) p tree is =
    let low = is.shallow n p.inside in let deep = p.deep in absurd (omega arith)
finds_in law ts (Err (Syntax n)) p tree is = p.0.none tree is.spells is.low
finds_in law ts (Err Memory) p tree is = tt

pub moved : {ts us : List Token} (r : Result held.Tree ParseFault) → us ≡ ts → Parses us r
    → Parses ts r
moved r same p = subst (λ x. Parses x r) same p

pub finds : AtMostOneTree → {ts us : List Token} (r : Result held.Tree ParseFault) → us ≡ ts
    → Parses us r → (tree : Tree) → IsParse ts tree → Finds tree r
finds law r same p tree is = finds_in law _ r (moved r same p) tree is
