use Prim.Native.Nat.{ℕ, ◌+◌}
use mathlib.Core.Path.{◌≡◌, refl, sym, ap, ◌∙◌}
use mathlib.Core.List.{List}
use mathlib.Core.Bool.{false}
use native.Mathlib.Omega.{arith}
use lib.Ieee.{Float}
use Rattle.loops.proofs.For.{onward, stays}
use Rattle.dense.specs.Factor.{Factors, step_of, factor_of}
use Rattle.dense.specs.Solve.{outcome_of}
use Rattle.dense.proofs.Laws.{ok-singular, singular}
use Rattle.dense.proofs.dense_lu_factor.Goals as goal

abbrev refused : List Float → List ℕ → Factors
refused a ipiv = record { a = a; ipiv = ipiv; ok = false }

-- after a step that was refused no turn changes anything
still : (n k : ℕ) (a : List Float) (ipiv : List ℕ) → step_of n k (refused a ipiv) ≡ refused a ipiv
unfolding step_of
still n k a ipiv = refl

pub returns-in_err-step : goal.returns-in_err-step
returns-in_err-step c =
    let n = c.args.n in
    let s = c.step.ensures in
    let no = ok-singular _ (sym s.2 ∙ c.in_err-step.was) in
    let left = refused c.step.new.a c.step.new.ipiv in
    let whole : left ≡ factor_of n c.args.a.now c.args.ipiv.now =
    sym (stays (step_of n) (c.loop-k.k + 1) n left (λ k. still n k _ _))
    ∙ onward _ _ _ _ _ _ (omega arith) (rw (s.0, s.1, ← no)) c.loop-k.invariant
    in
    rw (singular _ c.from_residual.ensures.0)
    (ap (λ (t : Factors). t.a) whole, ap (λ (t : Factors). t.ipiv) whole, ap (λ (t : Factors). outcome_of t.ok) whole)
