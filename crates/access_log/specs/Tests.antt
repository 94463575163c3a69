-- The tests of one access more, from the fourth kind on, by what each finds.
use Rattle.std.specs.Prelude.{ℕ, Bool, false, ◌==◌, ◌&&◌, not, nat_lt, Option, Some, None, if◌then◌else◌}

-- a grade is known, and is another one
abbrev pub differs : Option ℕ → ℕ → Bool
differs None grade = false
differs (Some other) grade = not (other == grade)

-- there is a greatest grade, and it is above this one
abbrev pub exceeds : Option ℕ → ℕ → Bool
exceeds None grade = false
exceeds (Some other) grade = nat_lt grade other

-- the number of the first kind of a sorted access that is found
abbrev pub first_of_sorted : Bool → Bool → Bool → Bool → Option ℕ
first_of_sorted rises repeats clashes falls_short =
    if rises then Some 4 else (if repeats then Some 5 else (if clashes then Some 6 else (if falls_short then Some 7 else None)))

-- the number of the first kind of a random access that is found
abbrev pub first_of_random : Bool → Bool → Bool → Option ℕ
first_of_random clashes read above = if clashes then Some 6 else (if not read && above then Some 8 else None)
