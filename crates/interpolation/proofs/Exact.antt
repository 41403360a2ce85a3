-- Where no operation rounds, the pose is the value of the published formula (specs/Published.antt, `PoseIs`):
--     horner-values    Horner's rule in floats has the value of Horner's rule in fractions
--     quotient_is      the value of the float (t - tn) / h is the fraction (t - tn) / h
--     pose-is          the theorem
-- Assumes nothing.
use mathlib.Core.List.{List, [], ◌∷◌}
use Prim.Native.Nat.{ℕ}
use lib.Ieee.{Float}
use Rattle.numbers.specs.Float.{◌⊕◌, ◌⊖◌, ◌⊗◌, ◌⊘◌}
use Rattle.interpolation.specs.declared.Sizes.{Sizes}
use Rattle.interpolation.specs.Fraction.{Fraction, ◌≈◌, ◌⊞◌, ◌⊟◌, ◌⊠◌, one, exact_of, Is}
use Rattle.interpolation.specs.Published.{horner, number_at, numbers_at, HornerExact, PoseExact}
use Rattle.interpolation.specs.Published.{exacts_of, formula_of, PoseIs}
use Rattle.interpolation.proofs.Published.{interpolated, horner-is}
use Rattle.interpolation.proofs.Fractions.{fractions, cancel}

-- q is the value of s
module _ (s : Float) (q : Fraction) (p : exact_of s ≈ q) where
  abbrev floats : Float → List Float → Float
  floats a rest = horner ◌⊕◌ ◌⊗◌ s a rest

  abbrev values : Float → List Float → Fraction
  values a rest = horner ◌⊞◌ ◌⊠◌ q (exact_of a) (exacts_of rest)

  horner-values : (a : Float) (rest : List Float) → HornerExact s a rest → Is (floats a rest) (values a rest)
  unfolding horner
  horner-values a [] e = (e, fractions.itself (exact_of a))
  horner-values a (b ∷ rest) e =
      let v = floats b rest in
      let w = values b rest in
      let factors = fractions.products (exact_of s) q (exact_of v) w p (horner-values b rest e.0).1 in
      let product = fractions.through (exact_of (s ⊗ v)) (exact_of s ⊠ exact_of v) (q ⊠ w) e.1.2.1 factors in
      let terms =
      fractions.sums (exact_of a) (exact_of a) (exact_of (s ⊗ v)) (q ⊠ w) (fractions.itself (exact_of a)) product
      in
      let x = exact_of a ⊞ exact_of (s ⊗ v) in
      (e.2.2.0, fractions.through (exact_of (a ⊕ s ⊗ v)) x (exact_of a ⊞ q ⊠ w) e.2.2.1 terms)

pub quotient_is : (t : Float) (cont : List Float) (z : Sizes) (i : ℕ) → PoseExact t cont z i
    → exact_of ((t ⊖ z.tn) ⊘ z.h) ⊠ exact_of z.h ≈ exact_of t ⊟ exact_of z.tn
quotient_is t cont z i x =
    let own = exact_of ((t ⊖ z.tn) ⊘ z.h) ⊠ exact_of z.h in
    fractions.through own (exact_of (t ⊖ z.tn)) (exact_of t ⊟ exact_of z.tn) x.quotient.3 x.difference.2.1

pub pose-is : PoseIs
pose-is t cont yi z r other states columns step i h x q p =
    let a = number_at cont z.n i 0 in
    let rest = numbers_at cont z.n i 1 z.nq in
    let s = (t ⊖ z.tn) ⊘ z.h in
    let d = exact_of t ⊟ exact_of z.tn in
    let own = exact_of s ⊠ exact_of z.h in
    let given = q ⊠ exact_of z.h in
    let times = fractions.through own d given (quotient_is t cont z i x) (fractions.back given d p) in
    let found = horner-values s q (cancel z.h x.quotient.1 step (exact_of s) q times) a rest x.columns in
    let v = horner ◌⊕◌ ◌⊗◌ s a rest in
    let w = horner ◌⊞◌ ◌⊠◌ q (exact_of a) (exacts_of rest) in
    let formula = horner-is ◌≈◌ ◌⊞◌ ◌⊠◌ one fractions q (exact_of a) (exacts_of rest) in
    rw ((interpolated t cont yi z r other states columns step).1 i h)
    (found.0, fractions.through (exact_of v) w (formula_of cont z i q) found.1 formula)
