-- Which native a name means, how many arguments it takes, and the characters of some texts.
use Rattle.std.proofs.Common.{◌≡◌, ℤ, pos, negsuc, List, [], ◌∷◌, Option, None, Some, true, codes}
use Rattle.std.proofs.Common.{refl}
use Rattle.host_script.specs.declared.script.Script.{Script}
use Rattle.host_script.specs.declared.script.Native.{Native}
use Rattle.host_script.specs.declared.script.Form.{Form}
use Rattle.host_script.specs.declared.script.Form.TheVariants as form
use Rattle.host_script.specs.declared.script.Answer.TheVariants.{Given, Error}
use Rattle.host_script.specs.Script.{native_of, forms_of, turn_of, unlisted, characters}

native : List Form → Option Form → Option ℤ → Native
native forms rest result = record { name = codes "p"; forms = forms; rest = rest; result = result }

script : Native → Script
script listed =
    record { others = true; natives = listed ∷ []; answers = Given (pos 5) [] ∷ Error (pos 7) ∷ [] }

-- ---- natives

listed_is_found : (forms : List Form) (rest : Option Form) (result : Option ℤ)
    → native_of (script (native forms rest result)) (codes "p") ≡ native forms rest result
unfolding script native
listed_is_found forms rest result = refl

others_are_unlisted : (forms : List Form) (rest : Option Form) (result : Option ℤ)
    → native_of (script (native forms rest result)) (codes "q") ≡ unlisted (codes "q")
unfolding script native
others_are_unlisted forms rest result = refl

-- as many arguments as forms, or at least so many where there is a rest
too_few : forms_of (native (form.Ref ∷ form.Cell ∷ []) (Some form.Text) None) 1 ≡ None
unfolding native
too_few = refl

just_enough : forms_of (native (form.Ref ∷ form.Cell ∷ []) (Some form.Text) None) 2
    ≡ Some (form.Ref ∷ form.Cell ∷ [])
unfolding native
just_enough = refl

the_rest : forms_of (native (form.Ref ∷ []) (Some form.Text) None) 3
    ≡ Some (form.Ref ∷ form.Text ∷ form.Text ∷ [])
unfolding native
the_rest = refl

too_many : forms_of (native (form.Ref ∷ []) None None) 2 ≡ None
unfolding native
too_many = refl

-- ---- answers

in_turn : turn_of (script (native [] None None)) (native [] None None) 1
    ≡ record { answer = Error (pos 7); position = 2 }
unfolding script native
in_turn = refl

past_the_last : turn_of (script (native [] None None)) (native [] None None) 2
    ≡ record { answer = Given (pos 0) []; position = 2 }
unfolding script native
past_the_last = refl

own_result_takes_none : turn_of (script (native [] None None)) (native [] None (Some (pos 3))) 0
    ≡ record { answer = Given (pos 3) []; position = 0 }
unfolding script native
own_result_takes_none = refl

unlisted_takes_none : turn_of (script (native [] None None)) (unlisted (codes "q")) 0
    ≡ record { answer = Given (pos 0) []; position = 0 }
unfolding script native
unlisted_takes_none = refl

-- ---- texts

unpacked : characters (pos 72 ∷ pos 105 ∷ pos 0 ∷ pos 9 ∷ []) ≡ Some (pos 72 ∷ pos 105 ∷ [])
unpacked = refl

packed : characters (pos 0x41424344 ∷ pos 0x45004646 ∷ [])
    ≡ Some (pos 65 ∷ pos 66 ∷ pos 67 ∷ pos 68 ∷ pos 69 ∷ [])
packed = refl

negative_is_packed : characters (negsuc 4 ∷ pos 0 ∷ [])
    ≡ Some (pos 255 ∷ pos 255 ∷ pos 255 ∷ pos 251 ∷ [])
negative_is_packed = refl

no_end : characters (pos 0x41424344 ∷ []) ≡ None
no_end = refl

empty : characters (pos 0 ∷ []) ≡ Some []
empty = refl
