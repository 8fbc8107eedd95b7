-- One more of a name clashes exactly where what it is taken by says so.
use Rattle.std.proofs.Common.{◌≡◌, Bool, true, false, not, ◌&&◌, ◌||◌, List, [], ◌∷◌, refl}
use Rattle.std.specs.List.{list_any}
use Rattle.std.specs.Str.{bytes_eq}
use Rattle.names_rules.specs.FileNames.{FileName, Role, Value, Native', Forward', Body, together}
use Rattle.names_rules.specs.FileNames.{clash}
use Rattle.names_rules.specs.Taken.{is_alone, is_single, is_taken, is_taken_by, clashes}

-- ---- by roles

alone : (same : Bool) (y : Role) → (same && not (together Value y)) ≡ same
alone true y = refl
alone false y = refl

native : (same : Bool) (y : Role) → (same && not (together Native' y)) ≡ same
native true y = refl
native false y = refl

forward : (y : Role) → not (together Forward' y) ≡ is_alone y
forward Value = refl
forward Native' = refl
forward Forward' = refl
forward (Body classified) = refl

classified : (y : Role) → not (together (Body true) y) ≡ is_alone y
classified Value = refl
classified Native' = refl
classified Forward' = refl
classified (Body c) = refl

single : (same : Bool) (y : Role) (a s : Bool)
    → ((same && not (together (Body false) y)) || (a || s))
    ≡ (((same && is_alone y) || a) || ((same && is_single y) || s))
single false y a s = refl
single true Value a s = refl
single true Native' a s = refl
single true Forward' a s = refl
single true (Body true) a s = refl
single true (Body false) true s = refl
single true (Body false) false s = refl

-- ---- over all names

taken_by_value : (x : FileName) (before : List FileName)
    → list_any (λ y. bytes_eq x.name.bytes y.name.bytes && not (together Value y.role)) before
    ≡ is_taken before x.name.bytes
taken_by_value x [] = refl
taken_by_value x (y ∷ before) =
    rw (alone (bytes_eq x.name.bytes y.name.bytes) y.role, taken_by_value x before) refl

taken_by_native : (x : FileName) (before : List FileName)
    → list_any (λ y. bytes_eq x.name.bytes y.name.bytes && not (together Native' y.role)) before
    ≡ is_taken before x.name.bytes
taken_by_native x [] = refl
taken_by_native x (y ∷ before) =
    rw (native (bytes_eq x.name.bytes y.name.bytes) y.role, taken_by_native x before) refl

taken_by_forward : (x : FileName) (before : List FileName)
    → list_any (λ y. bytes_eq x.name.bytes y.name.bytes && not (together Forward' y.role)) before
    ≡ is_taken_by is_alone before x.name.bytes
taken_by_forward x [] = refl
taken_by_forward x (y ∷ before) = rw (forward y.role, taken_by_forward x before) refl

taken_by_classified : (x : FileName) (before : List FileName)
    → list_any (λ y. bytes_eq x.name.bytes y.name.bytes && not (together (Body true) y.role)) before
    ≡ is_taken_by is_alone before x.name.bytes
taken_by_classified x [] = refl
taken_by_classified x (y ∷ before) = rw (classified y.role, taken_by_classified x before) refl

taken_by_single : (x : FileName) (before : List FileName)
    → list_any (λ y. bytes_eq x.name.bytes y.name.bytes && not (together (Body false) y.role))
    before
    ≡ (is_taken_by is_alone before x.name.bytes || is_taken_by is_single before x.name.bytes)
taken_by_single x [] = refl
taken_by_single x (y ∷ before) =
    rw (taken_by_single x before) (single (bytes_eq x.name.bytes y.name.bytes) y.role
    (is_taken_by is_alone before x.name.bytes) (is_taken_by is_single before x.name.bytes))

clash_by : (x : FileName) (role : Role) (before : List FileName)
    → list_any (λ y. bytes_eq x.name.bytes y.name.bytes && not (together role y.role)) before
    ≡ clashes before x role
clash_by x Value before = taken_by_value x before
clash_by x Native' before = taken_by_native x before
clash_by x Forward' before = taken_by_forward x before
clash_by x (Body true) before = taken_by_classified x before
clash_by x (Body false) before = taken_by_single x before

pub clash_is : (x : FileName) (before : List FileName)
    → list_any (clash x) before ≡ clashes before x x.role
clash_is x before = clash_by x x.role before
