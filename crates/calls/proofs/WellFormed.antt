-- The problems that are accepted are the well-formed ones.
--     start-number-is     the start wants the first derivative exactly if there are states and nothing is refused
--     well-formed         exactly if the problem is well-formed
-- Assumes nothing.
use mathlib.Core.Bool.{Bool, true, false}
use mathlib.Core.List.{List, [], ◌∷◌}
use mathlib.Core.Logic.{◌⊎◌, inl, inr, ◌↔◌}
use mathlib.Core.Path.{◌≡◌, refl, sym, ap, ◌∙◌}
use Prim.Native.Nat.{ℕ, ◌≤◌, ◌<◌}
use native.Mathlib.Omega.{arith}
use lib.Dec.{eqb}
use lib.Ieee as Ieee
use lib.Ieee.{Float, nan}
use lib.ListN.{length, get_or}
use borrow.Author.Tests.{eqb-true, eqb-false, eq-eqb, ne_eqb, lt-ltb}
use Rattle.loops.proofs.Test.{differs}
use Rattle.numbers.specs.Float.{◌⊖◌, zero_f}
use Rattle.numbers.specs.Sign.{signum_of, refused}
use Rattle.refusals.specs.Refusal.{Entry}
use Rattle.refusals.specs.Start.{is_negative, start_refusal_of}
use Rattle.refusals.specs.FirstStep.{StepTaken}
use Rattle.refusals.specs.Rows.{Row, NoneHolds}
use Rattle.refusals.specs.Table.{NotOneOrN, WrongList, WrongSlice, LargeSetting, step_row, start_rows}
use Rattle.refusals.proofs.Accepted.{Started, accepted}
use Rattle.refusals.proofs.FirstStep.{step-taken, taken-not-refused}
use Rattle.refusals.proofs.Rows.{none-holds}
use Rattle.refusals.proofs.Table.{none-tolerances, first-row, at-most-eleven}
use Rattle.answers.specs.Called.{Buffers, Called}
use Rattle.raimsklo.specs.Starts.{accepted_start_of}
use Rattle.raimsklo.specs.Calls.{Problem, lengths_of, start_at, start_of}
use Rattle.calls.specs.WellFormed.{WellFormed}

abbrev pub refusal_of : Problem → Buffers → Entry
refusal_of p b = start_refusal_of p.x0 p.xend p.options (lengths_of p b) p.rtol p.atol

abbrev pub refusal_rows : Problem → Buffers → List Row
refusal_rows p b = start_rows p.x0 p.xend p.options (lengths_of p b) p.rtol p.atol

-- ---- the number

module _ (p : Problem) (b : Buffers) where
  pub at-most-11 : (refusal_of p b).number ≤ 11
  at-most-11 = at-most-eleven p.x0 p.xend p.options (lengths_of p b) p.rtol p.atol

  pub some-start : 1 ≤ length p.y0 → start_of p b ≡ start_at p b (refusal_of p b)
  unfolding start_of
  some-start h = rw (ne_eqb (length p.y0) 0 (λ e. omega (arith, h)))

  at-number : (t : Bool) → eqb (refusal_of p b).number 0 ≡ t → (start_at p b (refusal_of p b)).reply.number ≡ 100
      → (refusal_of p b).number ≡ 0
  unfolding start_at
  at-number true e h = eqb-true _ _ e
  at-number false e h =
      let q : (refusal_of p b).number ≡ 100 = rw e at h in
      absurd (omega (arith, at-most-11, q))

  start-at : (t : Bool) → eqb (length p.y0) 0 ≡ t → (start_of p b).reply.number ≡ 100
      → (1 ≤ length p.y0) × ((refusal_of p b).number ≡ 0)
  unfolding start_of
  start-at true e h = let q : ◌≡◌ {A = ℕ} 110 100 = rw e at h in absurd (omega (arith, q))
  start-at false e h =
      let z : length p.y0 ≡ 0 → ⊥ = eqb-false _ _ e in
      (omega arith, at-number (eqb (refusal_of p b).number 0) refl (rw e at h))

  pub start-number-is : ((start_of p b).reply.number ≡ 100) ↔ ((1 ≤ length p.y0) × ((refusal_of p b).number ≡ 0))
  unfolding start_at accepted_start_of
  start-number-is = (
    λ h. start-at (eqb (length p.y0) 0) refl h,
    λ k. ap (λ (x : Called). x.reply.number) (some-start k.0) ∙ rw (eq-eqb _ _ k.1),
  )

-- ---- what was accepted is well-formed

within : (n len i : ℕ) → 1 ≤ n → (len ≡ 1) ⊎ (len ≡ n) → i < len → i < n
within n len i h (inl e) k = omega arith
within n len i h (inr e) k = omega arith

entries : (n : ℕ) (list : List Float) → 1 ≤ n → (length list ≡ 1) ⊎ (length list ≡ n)
    → ((i : ℕ) → i < n → is_negative list i ≡ false)
    → (i : ℕ) → i < length list → Ieee.lt (get_or list i nan) zero_f ≡ false
entries n list some one h i m = rw (lt-ltb i (length list) m) at (h i (within n (length list) i some one m))

module _ (p : Problem) (b : Buffers) where
  formed : 1 ≤ length p.y0 → Started p.x0 p.xend p.options (lengths_of p b) p.rtol p.atol
      → WellFormed p b
  formed some g = record {
    states = (some, g.sizes.n);
    rtol = g.sizes.rtol;
    atol = g.sizes.atol;
    work = g.sizes.work;
    pivots = g.sizes.pivots;
    session = g.sizes.session;
    question = g.sizes.question;
    maxsteps = g.limits.maxsteps;
    mxordn = g.limits.mxordn;
    mxords = g.limits.mxords;
    maxcor = g.limits.maxcor;
    msbp = g.limits.msbp;
    mxncf = g.limits.mxncf;
    full = g.limits.banded;
    relative = entries (length p.y0) p.rtol some g.sizes.rtol g.relative;
    absolute = entries (length p.y0) p.atol some g.sizes.atol g.absolute;
    step = by g.step;
  }
    where
      by : (p.options.has_first_step ≡ 0)
          ⊎ (refused p.options.first_step (signum_of (p.xend ⊖ p.x0)) ≡ false)
          → (p.options.has_first_step ≡ 0) ⊎ StepTaken p.options.first_step (p.xend ⊖ p.x0)
      by (inl e) = inl e
      by (inr e) = inr ((step-taken _ _).0 e)

  -- ---- and nothing refuses what is well-formed

  module _ (w : WellFormed p b) where
    list-fine : (len : ℕ) → (len ≡ 1) ⊎ (len ≡ length p.y0) → NotOneOrN len (length p.y0) → ⊥
    list-fine len (inl e) n = n.0 e
    list-fine len (inr e) n = n.1 e

    lists-fine : WrongList (lengths_of p b) → ⊥
    lists-fine (inl n) = list-fine (length p.rtol) w.rtol n
    lists-fine (inr n) = list-fine (length p.atol) w.atol n

    slices-fine : WrongSlice (lengths_of p b) → ⊥
    slices-fine (inl n) = n w.work
    slices-fine (inr (inl n)) = n w.pivots
    slices-fine (inr (inr (inl n))) = n w.session
    slices-fine (inr (inr (inr n))) = n w.question

    settings-fine : LargeSetting p.options → ⊥
    settings-fine (inl h) = omega (arith, h, w.maxsteps.1)
    settings-fine (inr (inl h)) = omega (arith, h, w.mxordn.1)
    settings-fine (inr (inr (inl h))) = omega (arith, h, w.mxords.1)
    settings-fine (inr (inr (inr (inl h)))) = omega (arith, h, w.maxcor.1)
    settings-fine (inr (inr (inr (inr (inl h))))) = omega (arith, h, w.msbp)
    settings-fine (inr (inr (inr (inr (inr h))))) = omega (arith, h, w.mxncf)

    orders-fine : (p.options.mxordn ≡ 0) ⊎ (p.options.mxords ≡ 0) → ⊥
    orders-fine (inl e) = omega (arith, e, w.mxordn.0)
    orders-fine (inr e) = omega (arith, e, w.mxords.0)

    step-fine : (step_row p.x0 p.xend p.options).holds → ⊥
    step-fine h = by w.step
      where
        by : (p.options.has_first_step ≡ 0) ⊎ StepTaken p.options.first_step (p.xend ⊖ p.x0) → ⊥
        by (inl e) = h.0 e
        by (inr t) = taken-not-refused t h.1

    fine : NoneHolds (refusal_rows p b)
    fine = (
      λ h. omega (arith, h, w.states.1),
      (
        lists-fine,
        (
          slices-fine,
          (
            settings-fine,
            (
              λ e. omega (arith, e, w.maxsteps.0),
              (
                λ e. omega (arith, e, w.maxcor.0),
                (
                  orders-fine,
                  (
                    λ n. n w.full,
                    none-tolerances p.rtol p.atol (step_row p.x0 p.xend p.options ∷ [])
                        (λ i h. differs (sym (w.relative i h.0) ∙ h.1)) (λ i h. differs (sym (w.absolute i h.0) ∙ h.1))
                        (step-fine, tt) (length p.y0) 0,
                  ),
                ),
              ),
            ),
          ),
        ),
      ),
    )

  pub well-formed : WellFormed p b ↔ ((start_of p b).reply.number ≡ 100)
  well-formed = (
    λ w. (start-number-is p b).1 (
      w.states.0,
      none-holds (refusal_rows p b) (refusal_of p b)
          (first-row p.x0 p.xend p.options (lengths_of p b) p.rtol p.atol)
          (fine w),
    ),
    λ h.
        let k = (start-number-is p b).0 h in
        formed k.0 (accepted p.x0 p.xend p.options (lengths_of p b) p.rtol p.atol k.1),
  )
