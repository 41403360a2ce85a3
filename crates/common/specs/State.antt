-- What a run is: what its start fixes, and what its steps change. Which of these belong together in a run is not said
-- here: see between_steps and invariants.
use Rattle.std.specs.Prelude.{List, ℕ, Float}
use Rattle.common.specs.declared.Settings.{Settings}
use Rattle.common.specs.declared.Common.{Common}
use Rattle.common.specs.declared.given.Problem.{Problem}

-- what the start fixes: the settings and the tolerance lists
pub record Given : Type 0 where
  pub s : Settings
  pub rtol : List Float
  pub atol : List Float

-- what the steps change: the record, the work and the pivots
pub record State : Type 0 where
  pub c : Common
  pub w : List Float
  pub p : List ℕ

-- the record and the work alone, where the pivots stay
pub record Moved : Type 0 where
  pub common : Common
  pub work : List Float

-- both from their parts, as contracts write them
abbrev pub given : Settings → List Float → List Float → Given
given s rtol atol = record { s = s; rtol = rtol; atol = atol }

abbrev pub state : Common → List Float → List ℕ → State
state c w p = record { c = c; w = w; p = p }

-- another record and work, beside the same pivots
abbrev pub made : State → Common → List Float → State
made x c w = state c w x.p

abbrev pub put_c : Common → State → State
put_c c x = made x c x.w

abbrev pub put_w : List Float → State → State
put_w w x = made x x.c w

abbrev pub moved_to : State → Moved → State
moved_to x m = made x m.common m.work

-- a problem's values, behind its references
abbrev pub given_by : Problem → Given
given_by g = given g.settings g.rtol.now g.atol.now
