-- What callers need of an iteration (specs/Iterate.antt).
--     length-..               work keeps its length
--     same-open, open-flags   what changes of the record where the iterations begin
-- Assumes nothing.
use mathlib.Core.Path.{◌≡◌, refl, ◌∙◌}
use mathlib.Core.List.{List}
use Prim.Native.Nat.{ℕ}
use lib.ListN.{length, length-set}
use lib.Ieee.{Float}
use Rattle.loops.proofs.Stores.{length-for}
use Rattle.loops.proofs.Test.{chosen}
use Rattle.dense.specs.Solve.{solve_of}
use Rattle.dense.proofs.Laws.{length-solve}
use Rattle.common.specs.declared.MethodFamily.{MethodFamily}
use Rattle.common.specs.declared.MethodFamily.TheVariants.{Adams, Bdf}
use Rattle.common.specs.declared.Settings.{Settings}
use Rattle.common.specs.declared.Common.{Common}
use Rattle.common.specs.Layout.{y_at, matrix_at}
use Rattle.jacobian.proofs.Laws.{SameStep, same-pass-moved}
use Rattle.corrector.specs.Iterate.{open_of, adams_residual_at, adams_residual_of, adams_update_at, adams_update_of}
use Rattle.corrector.specs.Iterate.{bdf_residual_at, bdf_residual_of, bdf_update_at, bdf_update_of, Corrected, adams_of}
use Rattle.corrector.specs.Iterate.{bdf_of, correct_in, correct_of}

-- ---- lengths

module _ (n : ℕ) (work : List Float) where
  length-adams-residual : (h : Float) → length (adams_residual_of n h work) ≡ length work
  unfolding adams_residual_of
  length-adams-residual h = length-for (adams_residual_at n h) 0 n work (λ i t. simp length-set)

  length-adams-update : (e : Float) → length (adams_update_of n e work) ≡ length work
  unfolding adams_update_of
  length-adams-update e = length-for (adams_update_at n e) 0 n work (λ i t. simp length-set)

  length-bdf-residual : (h : Float) → length (bdf_residual_of n h work) ≡ length work
  unfolding bdf_residual_of
  length-bdf-residual h = length-for (bdf_residual_at n h) 0 n work (λ i t. simp length-set)

  length-bdf-update : (e : Float) → length (bdf_update_of n e work) ≡ length work
  unfolding bdf_update_of
  length-bdf-update e = length-for (bdf_update_at n e) 0 n work (λ i t. simp length-set)

module _ (s : Settings) (c : Common) (work : List Float) where
  pub length-adams : length (adams_of s c work).work ≡ length work
  unfolding adams_of
  length-adams =
      length-adams-update s.n (adams_residual_of s.n c.h work) _ ∙ length-adams-residual s.n work c.h

  pub length-bdf : (ipiv : List ℕ) → length (bdf_of s c ipiv work).work ≡ length work
  unfolding bdf_of
  length-bdf ipiv =
      let n = s.n in
      let r = bdf_residual_of n c.h work in
      let x = solve_of n (matrix_at n) ipiv (y_at n) r in
      let solved = length-solve n (matrix_at n) ipiv (y_at n) r ∙ length-bdf-residual n work c.h in
      let updated = length-bdf-update n x.work _ ∙ solved in
      chosen (λ (z : Corrected). length z.work ≡ length work) x.ok updated solved

  length-in : (m : MethodFamily) (ipiv : List ℕ) → length (correct_in m s c ipiv work).work ≡ length work
  length-in Adams ipiv = length-adams
  length-in Bdf ipiv = length-bdf ipiv

  pub length-iteration : (ipiv : List ℕ) → length (correct_of s c ipiv work).work ≡ length work
  unfolding correct_of
  length-iteration ipiv = length-in c.meth ipiv

-- ---- the record

pub same-open : (c : Common) → SameStep c (open_of c)
unfolding open_of
same-open c = same-pass-moved c (open_of c)

-- jcur, due and m: the iterations begin at 0
pub open-flags : (c : Common) → ((open_of c).jcur ≡ c.jcur) × ((open_of c).due ≡ c.due) × ((open_of c).m ≡ 0)
unfolding open_of
open-flags c = (refl, refl, refl)
