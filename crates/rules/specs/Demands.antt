-- Demands 1 and 3 over the step rules, for every accepted start and every list of replies, refused ones included.
-- A list that ends early covers the steps that are not finished.
-- Of how a run ends nothing is claimed but that it does, by name: a run of NaNs may end as success.
use Rattle.std.specs.Prelude.{List, [], ◌∷◌, ◌≡◌, ℕ, ◌+◌, ◌*◌, ◌≤◌, length, Float}
use Rattle.common.specs.declared.Settings.{Settings}
use Rattle.common.specs.Limits.{mxncf_of}
use Rattle.common.specs.State.{Given, State}
use Rattle.between_steps.specs.declared.Answer.{Answer}
use Rattle.common.specs.Ranges.{Accepted}
use Rattle.rules.specs.Play.{End, finished, step_refused, weight_refused, exhausted, Play, ret, ask, tell, say}
use Rattle.rules.specs.Rules.{Start, start}
use Rattle.rules.specs.Steps.{Step, noted, marked, is_ended, is_ended_keeping, number}
use Rattle.rules.specs.Caps.{Capped, Every}
use Rattle.rules.specs.Replies.{Reply, fed, AllAsked}

-- ---- what holds at a question, a report or an end

-- at each of every path, where the steps so far are xs
abbrev pub Throughout : (Play → List Step → Type 0) → Play → List Step → Type 0
Throughout P (ret e) xs = P (ret e) xs
Throughout P (ask q x k) xs = P (ask q x k) (noted q xs) × ((f : List Float) → Throughout P (k f) (noted q xs))
Throughout P (tell r x k) xs =
    P (tell r x k) xs × ((a : Answer) (y : List Float) (t : Float) → Throughout P (k a y t) xs)
Throughout P (say e p) xs = Throughout P p (marked e xs)

-- in every run, on every path
abbrev pub InEveryRun : (Given → Play → List Step → Type 0) → Type 0
InEveryRun P = (g : Given) (a : Start) → Accepted g.s → Throughout (P g) (start g a) []

-- in every run, after every list of replies
abbrev pub AfterAll : (Given → Play → List Step → Type 0) → Type 0
AfterAll P =
    (g : Given) (a : Start) → Accepted g.s
    → (rs : List Reply) → let z = fed g.s.n (start g a) [] rs in P g z.play z.steps

-- ---- demand 3

-- a status, 11 or 12: no bound of the rules' recursion is used up
abbrev pub Named : End → Type 0
Named (finished s x) = Unit {0}
Named (step_refused h x) = Unit {0}
Named (weight_refused i x) = Unit {0}
Named (exhausted x) = ⊥

abbrev pub NamedAt : Play → List Step → Type 0
NamedAt (ret e) xs = Named e
NamedAt (ask q x k) xs = Unit {0}
NamedAt (tell r x k) xs = Unit {0}
NamedAt (say e p) xs = Unit {0}

abbrev pub last_state : End → State
last_state (finished s x) = x
last_state (step_refused h x) = x
last_state (weight_refused i x) = x
last_state (exhausted x) = x

-- the derivatives of the last step; the first report has none
abbrev pub latest : List Step → ℕ
latest [] = 0
latest (x ∷ xs) = x.tally.derivatives

-- each step within its caps; accepted = ended - ended too small - ended poor
pub record CapsKept (x : State) (xs : List Step) : Type 0 where
  pub capped : Every Capped xs
  pub accepted : x.c.nst + number is_ended_keeping xs ≡ number is_ended xs

abbrev pub Demand3At : Given → Play → List Step → Type 0
Demand3At g (ret e) xs = CapsKept (last_state e) xs × Named e
Demand3At g (ask q x k) xs = CapsKept x xs
Demand3At g (tell r x k) xs = CapsKept x xs × (r.count ≡ latest xs)
Demand3At g (say e p) xs = ⊥

-- ---- demand 1

-- replies after which a run has ended: three around the start; a step has at most mxncf + 12 passes, each of at most
-- maxcor derivatives, n columns and one derivative more, and two replies around its report
abbrev pub replies_of : Settings → ℕ
replies_of s = 3 + s.maxsteps * ((mxncf_of s + 12) * (s.maxcor + s.n + 1) + 2)

-- by a named end
abbrev pub HasEnded : Play → Type 0
HasEnded (ret e) = Named e
HasEnded (ask q x k) = ⊥
HasEnded (tell r x k) = ⊥
HasEnded (say e p) = ⊥

abbrev pub Demand1 : Type 0
Demand1 =
    (g : Given) (a : Start) → Accepted g.s → (rs : List Reply)
    → AllAsked g.s.n (start g a) rs → replies_of g.s ≤ length rs
    → HasEnded (fed g.s.n (start g a) [] rs).play
