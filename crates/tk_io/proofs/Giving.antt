-- What counts of faults come to, one after another.
use Rattle.std.proofs.Common.{◌≡◌, ℕ, zero, suc, ◌+◌, ◌<◌, ◌∙◌, refl, sym, subst, arith}
use Rattle.tk_io.specs.Faults.{Rose}
use Rattle.tk_io.specs.Links.{AddsFaults}

-- a count rose over two additions of which one was of some
rose_both : (before mid now first second : ℕ) → AddsFaults before mid first → AddsFaults mid now second → 0 < first + second → Rose before now
rose_both before mid now zero second a b some =
    let same : mid ≡ before = a.none refl in
    let rose : Rose mid now = b.some (omega arith) in
    omega arith
rose_both before mid now (suc first) second a b some =
    let rose : Rose before mid = a.some (omega arith) in
    let later = b.later in
    omega arith

-- two counts of faults, one added after the other
pub adds_both : (before mid now first second : ℕ) → AddsFaults before mid first → AddsFaults mid now second → AddsFaults before now (first + second)
adds_both before mid now first second a b = record {
  later = omega (arith, a.later, b.later);
  none = λ no.
      let x : mid ≡ before = a.none (omega arith) in
      let y : now ≡ mid = b.none (omega arith) in
      y ∙ x;
  some = rose_both before mid now first second a b;
  exact = λ few.
      let x = a.exact few in
      let y = b.exact (omega arith) in
      omega arith;
}

-- the two counts of a link that is given back
pub adds_links : (before mid late now first second reads writes : ℕ) → AddsFaults before mid first → AddsFaults mid late second
    → now ≡ late → first ≡ reads → second ≡ writes → AddsFaults before now (reads + writes)
adds_links before mid late now first second reads writes a b same read written =
    let sums : first + second ≡ reads + writes = omega arith in
    subst (λ (n : ℕ). AddsFaults before n (reads + writes)) (sym same) (subst (λ (n : ℕ). AddsFaults before late n) sums (adds_both before mid late first second a b))
