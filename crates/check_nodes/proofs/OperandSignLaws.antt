-- Signs that stand before no operand, and behind none.
use Rattle.std.proofs.Common.{◌≡◌, List, [], ◌∷◌, refl}
use Rattle.pawn_token.specs.declared.sign.Sign.{Sign}
use Rattle.pawn_token.specs.declared.sign.Sign.TheVariants as sign
use Rattle.pawn_tree.specs.declared.name.At.{At}
use Rattle.names_rules.specs.Verdict.{Fault, faults_of}
use Rattle.types_rules.specs.declared.fault.TheConstants.{UNDEFINED}
use Rattle.types_rules.specs.Around.{Around}
use Rattle.types_rules.specs.Typed.{Typed}
use Rattle.types_rules.specs.Prefixes.{prefix_rule, postfix_rule}
use Rattle.pawn_verdict.specs.declared.fault.CheckFault.{CheckFault}
use Rattle.pawn_verdict.specs.Answers.{Fails}

-- the node at a token breaks a rule
abbrev pub undefined_at : At → List Fault
undefined_at at = record { kind = UNDEFINED; place = at.place } ∷ []

pub prefix_fails : (cx : Around) (at : At) (it : Sign) (x : Typed) (fault : CheckFault)
    → (it ≡ sign.Exclamation → ⊥) → (it ≡ sign.Minus → ⊥) → (it ≡ sign.Tilde → ⊥)
    → (it ≡ sign.Increment → ⊥) → (it ≡ sign.Decrement → ⊥) → Fails (undefined_at at) fault
    → Fails (faults_of (prefix_rule cx at it x)) fault
prefix_fails cx at sign.Exclamation x fault a b c d e h = absurd (a refl)
prefix_fails cx at sign.Minus x fault a b c d e h = absurd (b refl)
prefix_fails cx at sign.Tilde x fault a b c d e h = absurd (c refl)
prefix_fails cx at sign.Increment x fault a b c d e h = absurd (d refl)
prefix_fails cx at sign.Decrement x fault a b c d e h = absurd (e refl)
prefix_fails cx at _ x fault a b c d e h = h

pub postfix_fails : (cx : Around) (at : At) (it : Sign) (x : Typed) (fault : CheckFault)
    → (it ≡ sign.Increment → ⊥) → (it ≡ sign.Decrement → ⊥) → Fails (undefined_at at) fault
    → Fails (faults_of (postfix_rule cx at it x)) fault
postfix_fails cx at sign.Increment x fault a b h = absurd (a refl)
postfix_fails cx at sign.Decrement x fault a b h = absurd (b refl)
postfix_fails cx at _ x fault a b h = h
