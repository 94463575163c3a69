-- What a call of the outside says of its count of faults.
use Rattle.std.proofs.Common.{◌≡◌, ℕ, ◌<◌, ◌^◌, Bool, true, false, eqb, List, Result, Ok, Err, refl, subst, arith}
use Rattle.std.proofs.lemmas.Bool.{false≢true, true≢false}
use Rattle.std.proofs.lemmas.Bool.Decides.{Decides-eqb}
use Rattle.std.proofs.lemmas.List.Elements.{Decides-contains, contains_decides}
use Rattle.std.specs.Bool.{Decides}
use Rattle.std.specs.List.{Contains, IsAnyAnswer}
use Rattle.std.specs.Result.{is_err}
use Rattle.tk_io.specs.Faults.{HasCause, counted}

-- a call that failed, and was counted
pub cause_counted : {T E : Type 0} (before now : ℕ) (result : Result T E) → before < 2 ^ 64 → is_err result ≡ true → now ≡ counted before
    → HasCause before now result
cause_counted before now (Ok value) few failed counts = absurd (false≢true failed)
cause_counted before now (Err error) few failed counts = record { later = omega arith; failed = omega arith; stays = tt }

-- a call that didn't fail
pub cause_none : {T E : Type 0} (count : ℕ) (result : Result T E) → is_err result ≡ false → HasCause count count result
cause_none count (Ok value) passed = record { later = omega arith; failed = tt; stays = refl }
cause_none count (Err error) passed = absurd (true≢false passed)

-- a test that found a call's number among others says whether it is there
pub fails_by : (seen fails : List ℕ) (called calls : ℕ) (test known : Bool) → IsAnyAnswer (λ y b. eqb y called ≡ b) seen test → seen ≡ fails
    → called ≡ counted calls → test ≡ known → Decides known (Contains fails (counted calls))
fails_by seen fails called calls test known found same once is =
    subst (λ b. Decides b (Contains fails (counted calls))) is (subst (λ n. Decides test (Contains fails n)) once
    (subst (λ xs. Decides test (Contains xs called)) same (Decides-contains seen called test (contains_decides eqb Decides-eqb seen called test found))))
