-- No bound of the rules' recursion is used up on any path of a tree: in a run of an accepted start that is so.
--     Alive, alive              the statement, and that the rules' own theorem gives it
-- Assumes nothing.
use mathlib.Core.List.{List, []}
use mathlib.Core.Path.{◌≡◌}
use Prim.Native.Nat.{ℕ, ◌*◌}
use lib.ListN.{length}
use lib.Ieee.{Float}
use Rattle.common.specs.State.{Given}
use Rattle.between_steps.specs.declared.Answer.{Answer}
use Rattle.common.specs.Ranges.{Accepted}
use Rattle.rules.specs.Play.{derivative_at, jacobian_at}
use Rattle.rules.specs.Play.{finished, step_refused, weight_refused, exhausted, Play, ret, ask, tell, say}
use Rattle.rules.specs.Rules.{Start, start}
use Rattle.rules.specs.Steps.{Step, noted, marked}
use Rattle.rules.specs.Demands.{Throughout, NamedAt}
use Rattle.rules.proofs.Demands.{attempts-suffice}

-- no reply of the kind and length asked leads to a bound of the rules' recursion that is used up
abbrev pub Alive : ℕ → Play → Type 0
Alive n (ret (finished status x)) = Unit {0}
Alive n (ret (step_refused h x)) = Unit {0}
Alive n (ret (weight_refused i x)) = Unit {0}
Alive n (ret (exhausted x)) = ⊥
Alive n (ask (derivative_at t v) x k) = (f : List Float) → length f ≡ n → Alive n (k f)
Alive n (ask (jacobian_at t v) x k) = (f : List Float) → length f ≡ n * n → Alive n (k f)
Alive n (tell r x k) = (a : Answer) (f : List Float) (t : Float) → length f ≡ n → Alive n (k a f t)
Alive n (say e p) = Alive n p

named-alive : (n : ℕ) (p : Play) (xs : List Step) → Throughout NamedAt p xs → Alive n p
named-alive n (ret (finished status x)) xs h = tt
named-alive n (ret (step_refused v x)) xs h = tt
named-alive n (ret (weight_refused i x)) xs h = tt
named-alive n (ret (exhausted x)) xs h = h
named-alive n (ask (derivative_at t v) x k) xs h = λ f e. named-alive n (k f) (noted (derivative_at t v) xs) (h.1 f)
named-alive n (ask (jacobian_at t v) x k) xs h = λ f e. named-alive n (k f) (noted (jacobian_at t v) xs) (h.1 f)
named-alive n (tell r x k) xs h = λ a f t e. named-alive n (k a f t) xs (h.1 a f t)
named-alive n (say e p) xs h = named-alive n p (marked e xs) h

pub alive : (g : Given) (a : Start) → Accepted g.s → Alive g.s.n (start g a)
alive g a acc = named-alive g.s.n (start g a) [] (attempts-suffice g a acc)
