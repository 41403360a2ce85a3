-- What the tests of sizes tell: what the callees require. Assumes nothing.
use Prim.Native.Nat.{ℕ, ◌+◌, ◌-◌, ◌*◌, ◌≤◌, ◌<◌}
use mathlib.Core.Path.{◌≡◌, sym, ◌∙◌}
use mathlib.Core.Bool.{Bool, true}
use mathlib.Core.List.{List}
use mathlib.Core.Logic.{⊎_map}
use native.Mathlib.Omega.{arith}
use lib.Dec.{eqb, leb}
use lib.ListN.{length, get_or}
use lib.Ieee.{Float}
use borrow.Author.Tests.{leb-true, eqb-true}
use Rattle.std.proofs.lemmas.Bool.{and_parts, or_cases}
use Rattle.vectors.specs.Tolerance.{List1OrN}
use Rattle.common.specs.Limits.{max_states}
use Rattle.probe.specs.Leaves.{is_matrix, is_tolerance_list, is_behind, is_weighed, is_system, are_pivots}
use Rattle.probe.proofs.Pivots.{pivots-below}

pub matrix-fits : (n matrix vector : ℕ) → is_matrix n matrix vector ≡ true → (n * n ≤ matrix) × (n ≤ vector)
unfolding is_matrix
matrix-fits n matrix vector h =
    let p = and_parts (leb (n * n) matrix) (leb n vector) (and_parts (leb n max_states) _ h).1 in
    (leb-true (n * n) matrix p.0, leb-true n vector p.1)

pub list-serves : (n : ℕ) (list : List Float) → is_tolerance_list n (length list) ≡ true → List1OrN list (n - 1)
unfolding is_tolerance_list
list-serves n list h =
    let p = and_parts (leb 1 n) _ h in
    let least = leb-true 1 n p.0 in
    ⊎_map (λ e. eqb-true (length list) 1 e) (λ e. omega (arith, eqb-true (length list) n e))
    (or_cases (eqb (length list) 1) (eqb (length list) n) p.1)

pub behind-fits : (n at len : ℕ) → is_behind n at len ≡ true → (n ≤ at) × (at + n ≤ len)
unfolding is_behind
behind-fits n at len h =
    let p = and_parts (leb n at) (leb (at + n) len) h in
    (leb-true n at p.0, leb-true (at + n) len p.1)

pub weighed-fits : (n rtol atol at len : ℕ) → is_weighed n rtol atol at len ≡ true
    → (is_tolerance_list n rtol ≡ true) × (is_tolerance_list n atol ≡ true) × (is_behind n at len ≡ true)
unfolding is_weighed
weighed-fits n rtol atol at len h =
    let p = and_parts (is_tolerance_list n rtol) _ h in
    let q = and_parts (is_tolerance_list n atol) (is_behind n at len) p.1 in
    (p.0, q.0, q.1)

pub system-fits : (n a b len pivots : ℕ) → is_system n a b len pivots ≡ true
    → (b + n ≤ a) × (a + n * n ≤ len) × (n ≤ pivots)
unfolding is_system
system-fits n a b len pivots h =
    let p = and_parts (leb a len) _ h in
    let q = and_parts (is_matrix n (len - a) pivots) (leb (b + n) a) p.1 in
    let m = matrix-fits n (len - a) pivots q.0 in
    let inside = leb-true a len p.0 in
    (leb-true (b + n) a q.1, omega arith, m.1)

module _ (n at len : ℕ) (rtol atol : List Float) (r : Bool) (e : r ≡ is_weighed n (length rtol) (length atol) at len)
    (h : r ≡ true) where
  serves : (is_tolerance_list n (length rtol) ≡ true) × (is_tolerance_list n (length atol) ≡ true)
      × (is_behind n at len ≡ true)
  serves = weighed-fits n (length rtol) (length atol) at len (sym e ∙ h)

  pub rtol-serves : List1OrN rtol (n - 1)
  rtol-serves = list-serves n rtol serves.0

  pub atol-serves : List1OrN atol (n - 1)
  atol-serves = list-serves n atol serves.1

  pub place-fits : (n ≤ at) × (at + n ≤ len)
  place-fits = behind-fits n at len serves.2

pub ruleset weighed = (rtol-serves, atol-serves, place-fits)

pub solvable : (n a b len pivots : ℕ) (r : Bool) → r ≡ is_system n a b len pivots → r ≡ true
    → (b + n ≤ a) × (a + n * n ≤ len) × (n ≤ pivots)
solvable n a b len pivots r e h = system-fits n a b len pivots (sym e ∙ h)

pub each-below : (n : ℕ) (l : List ℕ) (r : Bool) → n ≤ length l → r ≡ are_pivots n l → r ≡ true
    → (k : ℕ) → k < n → get_or l k 0 < n
each-below n l r b e h = pivots-below n l b (sym e ∙ h)

pub ruleset system = (solvable, each-below)
