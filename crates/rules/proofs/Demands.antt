-- The demands over the step rules, and the counts of a session.
--     demand-3-tree, demand-3      the caps, the counts in reports and the accepted count
--     attempts-suffice             no bound of the rules' recursion is used up
--     demand-1                     a run ends after replies_of replies
--     counts-kept, counts-below    the counts of a session stay below 2^62, and icount in its range
-- Assumes nothing.
use mathlib.Core.List.{List, []}
use Prim.Native.Nat.{◌+◌, ◌-◌, ◌^◌, ◌≤◌, ◌<◌}
use native.Mathlib.Nat.{mul-le-mul}
use native.Mathlib.Omega.{arith}
use Rattle.common.specs.declared.Settings.{Settings}
use Rattle.common.specs.declared.Common.{Common}
use Rattle.common.specs.Limits.{mxncf_of}
use Rattle.common.specs.State.{Given}
use Rattle.common.specs.Ranges.{Accepted, Counts}
use Rattle.common.proofs.Ranges.{counts-wider}
use Rattle.rules.specs.Play.{Play, ret, ask, tell, say}
use Rattle.rules.specs.Rules.{start}
use Rattle.rules.specs.Steps.{Step}
use Rattle.rules.specs.Demands.{InEveryRun, AfterAll, NamedAt, Demand3At, replies_of, Demand1}
use Rattle.rules.specs.Counts.{step_most, most_of, Counted, CountedAt}
use Rattle.rules.proofs.Tracks.{Both}
use Rattle.rules.proofs.Run.{start-whole}
use Rattle.rules.proofs.Paths.{throughout-map, fed-holds, ended-within}
use Rattle.rules.proofs.Few.{start-within}

pub demand-3-tree : InEveryRun Demand3At
demand-3-tree g a acc = throughout-map {P = Both g} (λ p xs h. h.0) (start g a) [] (start-whole g acc a)

pub demand-3 : AfterAll Demand3At
demand-3 g a acc rs = fed-holds (Demand3At g) g.s.n (start g a) [] (demand-3-tree g a acc) rs

named : (g : Given) (p : Play) (xs : List Step) → Demand3At g p xs → NamedAt p xs
named g (ret e) xs h = h.1
named g (ask q x k) xs h = tt
named g (tell r x k) xs h = tt
named g (say e p) xs h = tt

pub attempts-suffice : InEveryRun (λ g. NamedAt)
attempts-suffice g a acc = throughout-map (named g) (start g a) [] (demand-3-tree g a acc)

pub demand-1 : Demand1
demand-1 g a acc rs asked few =
    ended-within g.s.n (start g a) [] (replies_of g.s) rs (start-within g acc a) few asked
    (attempts-suffice g a acc)

-- ---- the counts of a session

pub counts-kept-tree : InEveryRun CountedAt
counts-kept-tree g a acc = throughout-map {P = Both g} (λ p xs h. h.1) (start g a) [] (start-whole g acc a)

pub counts-kept : AfterAll CountedAt
counts-kept g a acc rs = fed-holds (CountedAt g) g.s.n (start g a) [] (counts-kept-tree g a acc) rs

pub most-below : (s : Settings) → Accepted s → most_of s < 2 ^ 62
most-below s acc =
    let k : mxncf_of s ≤ 1000000 = omega (arith, acc.mxncf) in
    let p = mul-le-mul {n₁ = mxncf_of s + 12} {n₂ = 1000012} (omega arith) acc.maxcor.1 in
    let j = mul-le-mul {n₁ = mxncf_of s + 9} {n₂ = 1000009} (omega arith) acc.n.1 in
    let d : step_most s + 1 ≤ 1000076000584 = omega arith in
    let w = mul-le-mul acc.maxsteps.1 d in
    omega arith

-- 13's bounds of the counts, and icount from 20 - 1,000,000 to 20
pub counts-below : (s : Settings) (c : Common) → Accepted s → Counted s c
    → Counts c (2 ^ 62 - 1) × (20 ≤ c.icount) × (c.icount ≤ 1000020)
counts-below s c acc p = (
  counts-wider (omega (arith, most-below s acc)) p.counts,
  omega (arith, p.icount.0, p.steps, acc.maxsteps.1),
  p.icount.1,
)
