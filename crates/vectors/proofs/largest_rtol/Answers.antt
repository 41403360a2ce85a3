use mathlib.Core.Bool.{Bool, true, false, cond}
use mathlib.Core.List.{List, [], ◌∷◌}
use mathlib.Core.Logic.{⊎_elim}
use mathlib.Core.Path.{◌≡◌, refl, sym, ◌∙◌}
use Prim.Native.Nat.{ℕ, zero, suc, ◌+◌, ◌-◌, ◌≤◌, ◌<◌}
use native.Mathlib.Omega.{arith}
use lib.Dec.{eqb-suc-suc, eqb-suc-zero}
use lib.Ieee as Ieee
use lib.Ieee.{Float, nan}
use lib.ListN.{length, get_or, drop}
use lib.Seq.{drop-cons}
use Rattle.std.specs.Prelude.{eqb}
use Rattle.loops.specs.For.{times}
use Rattle.loops.proofs.For.{turn, stays}
use Rattle.numbers.specs.Float.{zero_f}
use Rattle.numbers.specs.Order.{max_of}
use Rattle.vectors.specs.Tolerance.{List1OrN, tolerance_of}
use Rattle.vectors.specs.FirstStep.{largest_rtol_at, largest_rtol_of}
use Rattle.vectors.proofs.largest_rtol.Invariants.{over}
use Rattle.vectors.proofs.largest_rtol.Goals as goal

ends : (m : ℕ) (l : List Float) (t : Float) → (0 < m → length l ≡ 0) → over m l t ≡ t
unfolding over
ends zero l t h = refl
ends (suc m) [] t h = refl
ends (suc m) (x ∷ l) t h = absurd (omega (arith, h (omega arith)))

either : (x : Float) (t u : Bool) → cond t x (cond u x x) ≡ x
either x true u = refl
either x false true = refl
either x false false = refl

-- a number that is in the maximum already changes nothing
max-twice : (a x : Float) → max_of (max_of a x) x ≡ max_of a x
unfolding max_of
max-twice a x = go (Ieee.lt a x) refl (Ieee.ne a a) refl
  where
    go : (t : Bool) → Ieee.lt a x ≡ t → (u : Bool) → Ieee.ne a a ≡ u
        → let m = cond t x (cond u x a) in cond (Ieee.lt m x) x (cond (Ieee.ne m m) x m) ≡ m
    go true h u n = either x (Ieee.lt x x) (Ieee.ne x x)
    go false h true n = either x (Ieee.lt x x) (Ieee.ne x x)
    go false h false n = rw (h, n) refl

-- a list of one number, which serves for every state
single : (x : Float) (n : ℕ) → over n (x ∷ []) zero_f ≡ largest_rtol_of (x ∷ []) n
unfolding over times largest_rtol_of tolerance_of
single x zero = refl
single x (suc n) =
    ends n [] (max_of zero_f x) (λ h. refl)
    ∙ sym (stays (largest_rtol_at (x ∷ [])) 1 (suc n) (max_of zero_f x) (λ k. max-twice zero_f x))
    ∙ sym (turn (largest_rtol_at (x ∷ [])) 0 (suc n) zero_f (omega arith))

-- a list that has one for each
module _ (l : List Float) (many : eqb (length l) 1 ≡ false) where
  entry : (i : ℕ) → tolerance_of l i ≡ get_or l i nan
  unfolding tolerance_of
  entry i = rw many refl

  each : (m i : ℕ) (t : Float) → i + m ≤ length l → over m (drop i l) t ≡ times (largest_rtol_at l) m i t
  unfolding over times
  each zero i t h = refl
  each (suc m) i t h =
      let next : i + 1 ≡ suc i = omega arith in
      rw (drop-cons l i nan (omega arith), entry i, next) (each m (suc i) (max_of t (get_or l i nan)) (omega arith))

whole : (l : List Float) (n : ℕ) → List1OrN l (n - 1) → over n l zero_f ≡ largest_rtol_of l n
unfolding largest_rtol_of
whole [] n h = ⊎_elim (λ e. absurd (omega arith)) (λ e. absurd (omega arith)) h
whole (x ∷ []) n h = single x n
whole (x ∷ y ∷ l) n h =
    let all : n - 0 ≡ n = omega arith in
    let fits : n ≤ length (x ∷ y ∷ l) = ⊎_elim (λ e. absurd (omega arith)) (λ e. omega arith) h in
    rw all (each (x ∷ y ∷ l) (eqb-suc-suc (suc (length l)) 0 ∙ eqb-suc-zero (length l)) n 0 zero_f (omega arith))

pub loop-x-init : goal.loop-x-init
loop-x-init c =
    let e = c.take-x-items.ensures in
    rw (c.into_iter-x-iterator.ensures.into_iter_gives, e.source, e.count, c.iter.ensures.rest)
    (whole c.args.rtol.now c.args.n c.requires)

pub loop-x-preserved : goal.loop-x-preserved
unfolding over
loop-x-preserved c =
    let one : c.loop-x.x-iterator.n ≡ suc c.next.new.self.n = omega (arith, c.in-Some.ensures.steps.1) in
    rw c.max-tol.ensures (rw (one, c.in-Some.ensures.steps.0) at c.loop-x.invariant)

pub returns : goal.returns
returns c = sym (ends _ _ _ (λ h. (c.in-None.ensures.steps h).0)) ∙ c.loop-x.invariant
