-- Paths through a tree: what holds throughout it holds after every list of replies, and what has few questions on every
-- path has ended after as many replies.
-- Assumes nothing.
use mathlib.Core.Bool.{Bool, true, false, cond}
use mathlib.Core.List.{List, [], ◌∷◌}
use Prim.Native.Nat.{ℕ, zero, suc, ◌≤◌}
use native.Mathlib.Omega.{arith}
use lib.ListN.{length}
use lib.Ieee.{Float}
use Rattle.between_steps.specs.declared.Answer.{Answer}
use Rattle.rules.specs.Play.{Play, ret, ask, tell, say}
use Rattle.rules.specs.Steps.{Step, noted, marked}
use Rattle.rules.specs.Replies.{Reply, answers, answers_report, Progress, waits, answer_given, fed, AllAsked}
use Rattle.rules.specs.Demands.{Throughout, HasEnded}
pub use Rattle.rules.specs.Demands.{NamedAt}

pub throughout-map : {P Q : Play → List Step → Type 0} → ((p : Play) (xs : List Step) → P p xs → Q p xs)
    → (p : Play) (xs : List Step) → Throughout P p xs → Throughout Q p xs
throughout-map w (ret e) xs h = w (ret e) xs h
throughout-map w (ask q x k) xs h =
    (w (ask q x k) (noted q xs) h.0, λ f. throughout-map w (k f) (noted q xs) (h.1 f))
throughout-map w (tell r x k) xs h =
    (w (tell r x k) xs h.0, λ a y t. throughout-map w (k a y t) xs (h.1 a y t))
throughout-map w (say e p) xs h = throughout-map w p (marked e xs) h

-- ---- after a list of replies

module _ (P : Play → List Step → Type 0) where
  chosen : (t : Bool) {x y : Progress} → P x.play x.steps → P y.play y.steps
      → P (cond t x y).play (cond t x y).steps
  chosen true p q = p
  chosen false p q = q

  waits-holds : (is : Reply → Bool) (on : Reply → List Reply → Progress) (at : Progress) → P at.play at.steps
      → ((r : Reply) (rs : List Reply) → P (on r rs).play (on r rs).steps)
      → (rs : List Reply) → P (waits is on at rs).play (waits is on at rs).steps
  unfolding waits
  waits-holds is on at h w [] = h
  waits-holds is on at h w (r ∷ rs) = chosen (is r) (w r rs) (waits-holds is on at h w rs)

  pub fed-holds : (n : ℕ) (p : Play) (xs : List Step) → Throughout P p xs
      → (rs : List Reply) → P (fed n p xs rs).play (fed n p xs rs).steps
  unfolding fed
  fed-holds n (ret e) xs h rs = h
  fed-holds n (ask q x k) xs h rs =
      waits-holds (answers n q) _ _ h.0
      (λ r rest. fed-holds n (k r.numbers) (noted q xs) (h.1 r.numbers) rest) rs
  fed-holds n (tell q x k) xs h rs =
      waits-holds (answers_report n) _ _ h.0
      (λ r rest. fed-holds n (k (answer_given r.kind) r.numbers r.time) xs
      (h.1 (answer_given r.kind) r.numbers r.time) rest) rs
  fed-holds n (say e p) xs h rs = fed-holds n p (marked e xs) h rs

-- ---- at most m questions and reports on every path

abbrev pub EndsIn : Play → ℕ → Type 0
EndsIn (ret e) m = Unit {0}
EndsIn (ask q x k) zero = ⊥
EndsIn (ask q x k) (suc m) = (f : List Float) → EndsIn (k f) m
EndsIn (tell r x k) zero = ⊥
EndsIn (tell r x k) (suc m) = (a : Answer) (y : List Float) (t : Float) → EndsIn (k a y t) m
EndsIn (say e p) m = EndsIn p m

pub ended-within : (n : ℕ) (p : Play) (xs : List Step) (m : ℕ) (rs : List Reply) → EndsIn p m → m ≤ length rs
    → AllAsked n p rs → Throughout NamedAt p xs → HasEnded (fed n p xs rs).play
unfolding fed waits
ended-within n (ret e) xs m rs w few h named = named
ended-within n (ask q x k) xs zero rs w few h named = absurd w
ended-within n (ask q x k) xs (suc m) [] w few h named = absurd (omega arith)
ended-within n (ask q x k) xs (suc m) (r ∷ rs) w few h named =
    rw h.0
    (ended-within n (k r.numbers) (noted q xs) m rs (w r.numbers) (omega arith) h.1 (named.1 r.numbers))
ended-within n (tell q x k) xs zero rs w few h named = absurd w
ended-within n (tell q x k) xs (suc m) [] w few h named = absurd (omega arith)
ended-within n (tell q x k) xs (suc m) (r ∷ rs) w few h named =
    let a = answer_given r.kind in
    rw h.0
    (ended-within n (k a r.numbers r.time) xs m rs (w a r.numbers r.time) (omega arith) h.1
    (named.1 a r.numbers r.time))
ended-within n (say e p) xs m rs w few h named = ended-within n p (marked e xs) m rs w few h named
