use Prim.Native.Nat.{ℕ, ◌+◌, ◌-◌, ◌<◌, ◌≤◌}
use mathlib.Core.Path.{◌≡◌, refl, sym, ap, ◌∙◌}
use native.Mathlib.Omega.{arith}
use lib.Ieee.{Float}
use mathlib.Core.Bool.{Bool, true, false}
use mathlib.Core.List.{List}
use Rattle.loops.specs.For.{for}
use Rattle.loops.proofs.For.{onward, stays}
use Rattle.dense.specs.Solve.{Solution, backward_at, backward_step_of, solve_of, outcome_of}
use Rattle.dense.proofs.Laws.{ok-done, ok-singular, singular}
use Rattle.dense.proofs.dense_lu_solve.Goals as goal

-- after row k - 1 with the list `left`, what is left gives the same whole
module _ (n a b k : ℕ) (work left : List Float) (whole : Solution) (low : 0 < k) (high : k ≤ n)
    (ensured : left ≡ (backward_at n a b (k - 1) (record { work = work; ok = true })).work)
    (inv : for (n - k) n (backward_step_of n a b) (record { work = work; ok = true }) ≡ whole) where
  next : backward_step_of n a b (n - k) (record { work = work; ok = true })
      ≡ backward_at n a b (k - 1) (record { work = work; ok = true })
  unfolding backward_step_of
  next = let row : n - 1 - (n - k) ≡ k - 1 = omega arith in rw row

  made : (t : Bool) → (backward_at n a b (k - 1) (record { work = work; ok = true })).ok ≡ t
      → for (n - (k - 1)) n (backward_step_of n a b) (record { work = left; ok = t }) ≡ whole
  made t e =
      let index : n - k + 1 ≡ n - (k - 1) = omega arith in
      rw (← index) (onward _ _ _ _ _ _ (omega arith) (next ∙ rw (ensured, ← e)) inv)

  refused : (backward_at n a b (k - 1) (record { work = work; ok = true })).ok ≡ false
      → record { work = left; ok = false } ≡ whole
  unfolding backward_step_of
  refused e = sym (stays (backward_step_of n a b) (n - (k - 1)) n _ (λ k. refl)) ∙ made false e

pub returns-in_err-backward_step : goal.returns-in_err-backward_step
unfolding solve_of
returns-in_err-backward_step c =
    let args = c.args in
    let l = c.loop-k in
    let s = c.backward_step.ensures in
    let no = ok-singular _ (sym s.1 ∙ c.in_err-backward_step.was) in
    let whole = refused args.n args.a args.b l.k _ _ _ (omega arith) (omega arith) s.0 l.invariant no in
    rw (singular _ c.from_residual.ensures.0, ← c.forward_all.ensures)
    (ap (λ (t : Solution). t.work) whole, ap (λ (t : Solution). outcome_of t.ok) whole)

pub loop-k-preserved : goal.loop-k-preserved
loop-k-preserved c =
    let args = c.args in
    let l = c.loop-k in
    let s = c.backward_step.ensures in
    let yes = ok-done _ (sym s.1 ∙ c.in_ok-backward_step.was) in
    made args.n args.a args.b l.k _ _ _ (omega arith) (omega arith) s.0 l.invariant true yes
