-- A node of three parts falls where one of them does.
use Rattle.std.proofs.Common.{◌≡◌, List, [], refl}
use Rattle.std.specs.Prelude.{Option, None, Some}
use Rattle.names_rules.specs.Verdict.{Verdict, Breaks, both}
use Rattle.types_rules.specs.Rule.{pair}
use Rattle.check_locals.specs.Tells.{told}

pub first_of_three : {A B C X Y Z R : Type 0} (a : X → A) (b : Y → B) (c : Z → C) (y : Option Y)
    (z : Option Z) (rule : A → B × C → Verdict R)
    → both (told a None) (pair (told b y) (told c z)) rule ≡ Breaks []
first_of_three a b c None None rule = refl
first_of_three a b c None (Some z) rule = refl
first_of_three a b c (Some y) None rule = refl
first_of_three a b c (Some y) (Some z) rule = refl

pub second_of_three : {A B C X Y Z R : Type 0} (a : X → A) (b : Y → B) (c : Z → C) (x : Option X)
    (z : Option Z) (rule : A → B × C → Verdict R)
    → both (told a x) (pair (told b None) (told c z)) rule ≡ Breaks []
second_of_three a b c None None rule = refl
second_of_three a b c None (Some z) rule = refl
second_of_three a b c (Some x) None rule = refl
second_of_three a b c (Some x) (Some z) rule = refl

pub third_of_three : {A B C X Y Z R : Type 0} (a : X → A) (b : Y → B) (c : Z → C) (x : Option X)
    (y : Option Y) (rule : A → B × C → Verdict R)
    → both (told a x) (pair (told b y) (told c None)) rule ≡ Breaks []
third_of_three a b c None None rule = refl
third_of_three a b c None (Some y) rule = refl
third_of_three a b c (Some x) None rule = refl
third_of_three a b c (Some x) (Some y) rule = refl

pub ruleset falls = (first_of_three, second_of_three, third_of_three)
