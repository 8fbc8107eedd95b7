-- A native takes so many arguments, and has a form for each.
use Rattle.std.proofs.Common.{◌≡◌, ◌<◌, ℕ, zero, suc, ℤ, List, [], ◌∷◌, true, Option, None, Some}
use Rattle.std.proofs.Common.{length, replicate, refl, sym, ap, ◌∙◌, arith, true≢false}
use Rattle.std.specs.Prelude.{is_some, option_map}
use Rattle.host_script.specs.declared.script.Form.{Form}
use Rattle.host_script.specs.Script.{forms_from}
use Rattle.host_run.specs.Guest.{form_at, formed}

mapped : {A B : Type 0} (f : A → B) (o : Option A) → is_some (option_map f o) ≡ is_some o
mapped f None = refl
mapped f (Some a) = refl

-- ---- how many

pub too_few : (forms : List Form) (rest : Option Form) (n : ℕ) → n < length forms
    → forms_from forms rest n ≡ None
too_few [] rest n h = absurd (omega (arith, h))
too_few (form ∷ forms) rest zero h = refl
too_few (form ∷ forms) rest (suc n) h =
    ap (option_map (λ others. form ∷ others)) (too_few forms rest n (omega (arith, h)))

pub as_many : (forms : List Form) (rest : Option Form) (n : ℕ) → n ≡ length forms
    → is_some (forms_from forms rest n) ≡ true
as_many [] rest zero h = refl
as_many [] rest (suc n) h = absurd (omega (arith, h))
as_many (form ∷ forms) rest zero h = absurd (omega (arith, h))
as_many (form ∷ forms) rest (suc n) h =
    mapped (λ others. form ∷ others) (forms_from forms rest n)
    ∙ as_many forms rest n (omega (arith, h))

pub more : (forms : List Form) (rest : Option Form) (n : ℕ) → length forms < n
    → is_some (forms_from forms rest n) ≡ is_some rest
more [] rest zero h = absurd (omega (arith, h))
more [] None (suc n) h = refl
more [] (Some form) (suc n) h = refl
more (form ∷ forms) rest zero h = absurd (omega (arith, h))
more (form ∷ forms) rest (suc n) h =
    mapped (λ others. form ∷ others) (forms_from forms rest n)
    ∙ more forms rest n (omega (arith, h))

pub ruleset counts = (too_few, as_many, more)

-- ---- which

repeated : (form : Form) (i : ℕ) (values : List ℤ)
    → replicate (length values) form ≡ formed (form_at [] (Some form)) i values
repeated form i [] = refl
repeated form i (value ∷ values) = ap (λ others. form ∷ others) (repeated form (suc i) values)

shifted : (form : Form) (forms : List Form) (rest : Option Form) (i : ℕ) (values : List ℤ)
    → formed (form_at forms rest) i values ≡ formed (form_at (form ∷ forms) rest) (suc i) values
shifted form forms rest i [] = refl
shifted form forms rest i (value ∷ values) =
    ap (λ others. form_at forms rest i ∷ others) (shifted form forms rest (suc i) values)

-- one for each argument, by its number
pub formed_is : (forms : List Form) (rest : Option Form) (values : List ℤ)
    → is_some (forms_from forms rest (length values)) ≡ true
    → forms_from forms rest (length values) ≡ Some (formed (form_at forms rest) 0 values)
formed_is [] rest [] h = refl
formed_is [] None (value ∷ values) h = absurd (true≢false (sym h))
formed_is [] (Some form) (value ∷ values) h =
    ap Some (ap (λ others. form ∷ others) (repeated form 1 values))
formed_is (form ∷ forms) rest [] h = absurd (true≢false (sym h))
formed_is (form ∷ forms) rest (value ∷ values) h =
    ap (option_map (λ others. form ∷ others))
    (formed_is forms rest values (sym
    (mapped (λ others. form ∷ others) (forms_from forms rest (length values))) ∙ h))
    ∙ ap (λ others. Some (form ∷ others)) (shifted form forms rest 0 values)
