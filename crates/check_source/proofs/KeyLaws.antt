-- Keys as code finds them.
use Rattle.std.proofs.Common.{◌≡◌, ◌≤◌, ◌∙◌, ℕ, List, [], ◌∷◌, map, length}
use Rattle.std.proofs.Common.{get_or, Option, Some, None, refl, sym, ap, arith}
use Rattle.std.proofs.lemmas.List.{length-map}
use Rattle.pawn_token.specs.declared.sign.Sign.{Sign}
use Rattle.pawn_tree.specs.declared.name.StateName.{StateName}
use Rattle.pawn_tree.specs.declared.declaration.Param.{Param}
use Rattle.pawn_tree.specs.View.{param_view}
use Rattle.names_rules.specs.Overloads.{op_of, plain_tag, plain_tags, with_tag}
use Rattle.pawn_tags.specs.declared.op.Op.{Op}
use Rattle.pawn_tags.specs.declared.op.Op.TheVariants as op
use Rattle.pawn_tags.specs.declared.op.Signature.{Signature}
use Rattle.types_rules.specs.Clauses.{named_or}
use Rattle.types_rules.specs.Keys.{entered_automaton, signature_of}
use Rattle.names_sight.specs.Operators.{right_of}
use Rattle.check_source.specs.Signatures.{signature_by}

-- the automaton of a classifier is that of its first state
pub entered_first : (fallback : List ℕ) (states : List StateName) (first : StateName)
    → 1 ≤ length states → first ≡ get_or states 0 first
    → entered_automaton fallback (Some states) ≡ named_or [] first.automaton
entered_first fallback [] first h is = absurd (omega (arith, h))
entered_first fallback (x ∷ more) first h is =
    ap (λ (s : StateName). named_or [] s.automaton) (sym is)

pub signature_is : (sign : Op) (result : ℕ) (tags : Option (List ℕ))
    → signature_by sign (right_of sign result) tags ≡ signature_of (Some sign) result tags
signature_is op.Add result tags = refl
signature_is op.Sub result tags = refl
signature_is op.Mul result tags = refl
signature_is op.Div result tags = refl
signature_is op.Rem result tags = refl
signature_is op.Inc result tags = refl
signature_is op.Dec result tags = refl
signature_is op.Eq result tags = refl
signature_is op.Neq result tags = refl
signature_is op.Less result tags = refl
signature_is op.Greater result tags = refl
signature_is op.LessEq result tags = refl
signature_is op.GreaterEq result tags = refl
signature_is op.Not result tags = refl
signature_is op.Neg result tags = refl
signature_is op.Assign result tags = refl

-- by what code has of a head
pub signature_found : (found : Option Signature) (it : Op) (right tag result count : ℕ)
    (names : List (List ℕ)) (params held : List Param) (sign : Sign)
    → found ≡ signature_by it right (plain_tags names (map param_view held)) → held ≡ params
    → right ≡ right_of it tag → tag ≡ result
    → Some it ≡ op_of sign count → count ≡ length params
    → found ≡ signature_of (op_of sign (length (map param_view params))) result
    (plain_tags names (map param_view params))
signature_found found it right tag result count names params held sign f h r t o n =
    f
    ∙ ap (λ (ps : List Param). signature_by it right (plain_tags names (map param_view ps))) h
    ∙ ap (λ (x : ℕ). signature_by it x (plain_tags names (map param_view params)))
    (r ∙ ap (right_of it) t)
    ∙ signature_is it result (plain_tags names (map param_view params))
    ∙ ap (λ (x : Option Op). signature_of x result (plain_tags names (map param_view params)))
    (o ∙ ap (op_of sign) (n ∙ sym (length-map params param_view)))

-- more than two parameters
three_tags : (sign : Op) (right : ℕ) (a b c : Option ℕ) (more : Option (List ℕ))
    → signature_by sign right (with_tag a (with_tag b (with_tag c more))) ≡ None
three_tags sign right None b c more = refl
three_tags sign right (Some x) None c more = refl
three_tags sign right (Some x) (Some y) None more = refl
three_tags sign right (Some x) (Some y) (Some z) None = refl
three_tags sign right (Some x) (Some y) (Some z) (Some more) = refl

pub many_tags : (sign : Op) (right : ℕ) (names : List (List ℕ)) (params : List Param)
    → 3 ≤ length params
    → signature_by sign right (plain_tags names (map param_view params)) ≡ None
many_tags sign right names [] h = absurd (omega (arith, h))
many_tags sign right names (x ∷ []) h = absurd (omega (arith, h))
many_tags sign right names (x ∷ y ∷ []) h = absurd (omega (arith, h))
many_tags sign right names (x ∷ y ∷ z ∷ more) h =
    three_tags sign right (plain_tag names (param_view x)) (plain_tag names (param_view y))
    (plain_tag names (param_view z)) (plain_tags names (map param_view more))
