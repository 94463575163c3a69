-- What is asked next from a place on, as the loop finds it.
use Rattle.std.proofs.Common.{◌≡◌, ℕ, zero, suc, ◌+◌, ◌≤◌, List, [], ◌∷◌, length, drop, Some, None, refl, ap, ◌∙◌, arith}
use Rattle.std.specs.List.{slice_get}
use Rattle.topk_theory.specs.declared.access.Access.{Access}
use Rattle.machine_base.specs.Asking.{next_unknown, ask_at, ask_from}
use Rattle.machine_base.proofs.Fronts.{drop_here}

pub from_asks : (m : ℕ) (A : List Access) (objects : List ℕ) (at list object : ℕ) → slice_get objects at ≡ Some object → next_unknown m A object ≡ Some list
    → ask_from m A (drop at objects) at ≡ Some (record { list = list; object = object; place = at })
from_asks m A objects at list object here e =
    ap (λ os. ask_from m A os at) (drop_here objects at object here)
    ∙ ap (λ found. ask_at found object at (ask_from m A (drop (suc at) objects) (at + 1))) e

pub from_skips : (m : ℕ) (A : List Access) (objects : List ℕ) (at object : ℕ) → slice_get objects at ≡ Some object → next_unknown m A object ≡ None
    → ask_from m A (drop at objects) at ≡ ask_from m A (drop (at + 1) objects) (at + 1)
from_skips m A objects at object here e =
    let one : suc at ≡ at + 1 = omega arith in
    ap (λ os. ask_from m A os at) (drop_here objects at object here)
    ∙ ap (λ found. ask_at found object at (ask_from m A (drop (suc at) objects) (at + 1))) e
    ∙ ap (λ p. ask_from m A (drop p objects) (at + 1)) one

pub nothing_behind : (objects : List ℕ) (at : ℕ) → length objects ≤ at → drop at objects ≡ []
nothing_behind [] zero l = refl
nothing_behind [] (suc at) l = refl
nothing_behind (object ∷ objects) zero l = absurd (omega arith)
nothing_behind (object ∷ objects) (suc at) l = nothing_behind objects at (omega arith)

pub from_over : (m : ℕ) (A : List Access) (objects : List ℕ) (at : ℕ) → length objects ≤ at → ask_from m A (drop at objects) at ≡ None
from_over m A objects at l = ap (λ os. ask_from m A os at) (nothing_behind objects at l)
