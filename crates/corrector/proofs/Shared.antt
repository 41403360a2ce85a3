-- What the proofs of this crate share: a family as a test, the order in force, and that another rate leaves a record in
-- range. Assumes nothing.
use mathlib.Core.Path.{◌≡◌, refl, ap}
use mathlib.Core.List.{List}
use mathlib.Core.Bool.{true, false}
use Prim.Native.Nat.{ℕ, ◌≤◌, ◌<◌}
use native.Mathlib.Omega.{arith}
use lib.Ieee.{Float}
use lib.Dec.{eqb}
use Rattle.loops.proofs.Test.{chosen}
use Rattle.loops.proofs.For.{within}
use Rattle.common.specs.declared.MethodFamily.{MethodFamily}
use Rattle.common.specs.declared.MethodFamily.TheVariants.{Adams, Bdf}
use Rattle.common.specs.declared.Settings.{Settings}
use Rattle.common.specs.declared.Common.{Common}
use Rattle.common.specs.Record.{is_bdf}
use Rattle.common.specs.Ranges.{StepInRange}
use Rattle.history.proofs.Laws.{same-range}
use Rattle.corrector.specs.Iterate.{adams_of, bdf_of, correct_in, correct_of}
use Rattle.corrector.specs.Verdict.{rated_of, known_rate_of}

-- a test of the family tells it
pub is-second : (m : MethodFamily) → is_bdf m ≡ true → m ≡ Bdf
is-second Adams e = cc
is-second Bdf e = refl

pub is-first : (m : MethodFamily) → is_bdf m ≡ false → m ≡ Adams
is-first Adams e = refl
is-first Bdf e = cc

module _ (s : Settings) (c : Common) (ipiv : List ℕ) (work : List Float) where
  pub in-second : is_bdf c.meth ≡ true → correct_of s c ipiv work ≡ bdf_of s c ipiv work
  unfolding correct_of
  in-second e = ap (λ (m : MethodFamily). correct_in m s c ipiv work) (is-second c.meth e)

  pub in-first : is_bdf c.meth ≡ false → correct_of s c ipiv work ≡ adams_of s c work
  unfolding correct_of
  in-first e = ap (λ (m : MethodFamily). correct_in m s c ipiv work) (is-first c.meth e)

-- the order in force is at least 1
pub order-used : {s : Settings} {c : Common} → StepInRange s c → s.n ≤ c.nqnyh
order-used {s} {c} p = omega (arith, within s.n c.nq 0 p.order.0, p.used.0)

pub in-range-rated : (s : Settings) (c : Common) (del : Float) → StepInRange s c → StepInRange s (rated_of c del)
unfolding rated_of
in-range-rated s c del p = same-range _ refl refl refl refl p

-- and so does what is known of it; the iterations done stay
pub in-range-known : (s : Settings) (c : Common) (del : Float) → StepInRange s c → c.m < s.maxcor
    → StepInRange s (known_rate_of c del) × ((known_rate_of c del).m < s.maxcor)
unfolding rated_of known_rate_of
in-range-known s c del p q =
    chosen (λ d. StepInRange s d × (d.m < s.maxcor)) (eqb c.m 0) (p, q) (in-range-rated s c del p, q)
