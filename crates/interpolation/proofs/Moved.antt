-- The pose is the formula's value on the columns, each moved by what its turn of Horner's rule rounds
-- (specs/Rounding.antt, `PoseMoved`).
--     moved         one turn: what is added and what is off give the turn's value
--     pose-moved    the theorem
-- Assumes nothing.
use mathlib.Core.List.{List, [], ◌∷◌}
use native.Mathlib.Omega.{arith}
use lib.Ieee.{Float}
use Rattle.numbers.specs.Float.{◌⊕◌, ◌⊖◌, ◌⊗◌, ◌⊘◌}
use Rattle.interpolation.specs.Fraction.{Fraction, ◌≈◌, ◌⊞◌, ◌⊟◌, ◌⊠◌, one, exact_of}
use Rattle.interpolation.specs.Published.{horner, polynomial, number_at, numbers_at}
use Rattle.interpolation.specs.Rounding.{moved_of, all_moved, PoseMoved}
use Rattle.interpolation.proofs.Published.{interpolated, horner-is}
use Rattle.interpolation.proofs.Fractions.{fractions, scaled}

-- x and what y has more are y
with_rest : (x y : Fraction) → x ⊞ (y ⊟ x) ≈ y
with_rest x y = omega arith

exchanged : (a x y q : Fraction) → a ⊞ (x ⊞ y) ⊞ q ≈ a ⊞ (q ⊞ y) ⊞ x
exchanged a x y q = scaled (a ⊞ (x ⊞ y) ⊞ q) (a ⊞ (q ⊞ y) ⊞ x) 1 (omega arith) (omega arith) (omega arith)

-- a sum a + p that came out as r, where p came out in place of q
moved : (a p q r : Fraction) → a ⊞ ((r ⊟ (a ⊞ p)) ⊞ (p ⊟ q)) ⊞ q ≈ r
moved a p q r =
    let x = r ⊟ (a ⊞ p) in
    let y = p ⊟ q in
    let inner = fractions.sums a a (q ⊞ y) p (fractions.itself a) (with_rest q p) in
    let outer = fractions.sums (a ⊞ (q ⊞ y)) (a ⊞ p) x x inner (fractions.itself x) in
    fractions.through (a ⊞ (x ⊞ y) ⊞ q) (a ⊞ (q ⊞ y) ⊞ x) r (exchanged a x y q)
    (fractions.through (a ⊞ (q ⊞ y) ⊞ x) (a ⊞ p ⊞ x) r outer (with_rest (a ⊞ p) r))

module _ (s : Float) where
  abbrev floats : Float → List Float → Float
  floats a rest = horner ◌⊕◌ ◌⊗◌ s a rest

  abbrev values : Float → List Float → Fraction
  values a rest = horner ◌⊞◌ ◌⊠◌ (exact_of s) (moved_of s a rest) (all_moved s rest)

  turns : (a : Float) (rest : List Float) → values a rest ≈ exact_of (floats a rest)
  unfolding horner
  turns a [] = fractions.itself (exact_of a)
  turns a (b ∷ rest) =
      let v = floats b rest in
      let c = moved_of s a (b ∷ rest) in
      let own = exact_of s ⊠ values b rest in
      let q = exact_of s ⊠ exact_of v in
      let x = exact_of s in
      let factor = fractions.products x x (values b rest) (exact_of v) (fractions.itself x) (turns b rest) in
      let terms = fractions.sums c c own q (fractions.itself c) factor in
      fractions.through (c ⊞ own) (c ⊞ q) (exact_of (a ⊕ s ⊗ v)) terms
      (moved (exact_of a) (exact_of (s ⊗ v)) q (exact_of (a ⊕ s ⊗ v)))

pub pose-moved : PoseMoved
pose-moved t cont yi z r other states columns step i h =
    let s = (t ⊖ z.tn) ⊘ z.h in
    let a = number_at cont z.n i 0 in
    let rest = numbers_at cont z.n i 1 z.nq in
    let v = exact_of (floats s a rest) in
    let w = values s a rest in
    let formula = polynomial ◌⊞◌ ◌⊠◌ one (exact_of s) 0 (moved_of s a rest) (all_moved s rest) in
    rw ((interpolated t cont yi z r other states columns step).1 i h)
    (fractions.through v w formula (fractions.back w v (turns s a rest))
    (horner-is ◌≈◌ ◌⊞◌ ◌⊠◌ one fractions (exact_of s) (moved_of s a rest) (all_moved s rest)))
