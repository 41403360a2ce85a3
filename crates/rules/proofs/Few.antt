-- How many questions and reports a path through the rules has at most: the bounds of the recursions say it. Each lemma
-- is of the shape: if what comes after has at most M on every path, this has at most its own number more.
-- Assumes nothing.
use mathlib.Core.Bool.{Bool, true, false}
use mathlib.Core.Path.{◌≡◌}
use mathlib.Core.List.{List}
use Prim.Native.Nat.{ℕ, zero, suc, ◌+◌, ◌*◌, ◌≤◌}
use native.Mathlib.Nat.{suc-mul}
use native.Mathlib.Omega.{arith}
use lib.Ieee.{Float}
use Rattle.std.specs.Prelude.{Result, Ok, Err}
use Rattle.vectors.specs.declared.NotPositive.{NotPositive}
use Rattle.common.specs.declared.Settings.{Settings}
use Rattle.common.specs.State.{Given, State}
use Rattle.corrector.specs.declared.Pass.{Pass}
use Rattle.corrector.specs.declared.Pass.TheVariants.{Converged, Retry, NoConvergence, Further}
use Rattle.attempt.specs.declared.Next.{Next}
use Rattle.between_steps.specs.declared.Answer.{Answer}
use Rattle.between_steps.specs.declared.Answer.TheVariants.{Continue, Interrupt, Modified}
use Rattle.common.specs.Ranges.{Accepted}
use Rattle.rules.specs.Play.{Play}
use Rattle.rules.specs.Pass.{Outcome, converged, to_retry, unconverged, further_allowed, turns, iterations}
use Rattle.rules.specs.Pass.{factored_in, after_matrix, ask_columns, ask_matrix, pass_at, pass}
use Rattle.rules.specs.Rules.{Ended, ended_accepted, ended_small, ended_poor, follow, attempted, tested, decide}
use Rattle.rules.specs.Rules.{attempts, after_report, closed, after_acceptance, stepped, passes_allowed, step}
use Rattle.rules.specs.Rules.{solve_at, solve, Start, first_answered, sized, weighted, started, start}
use Rattle.rules.specs.Demands.{replies_of}
use Rattle.rules.proofs.Paths.{EndsIn}

module _ (g : Given) (acc : Accepted g.s) where
  abbrev s : Settings
  s = g.s

  -- ---- a pass

  module _ (on : Outcome → Play) (M : ℕ) (after : (o : Outcome) (m : ℕ) → M ≤ m → EndsIn (on o) m) where
    turns-few : (k : ℕ) (p : Pass) (del : Float) (z : State) (m : ℕ) → k + M ≤ m → EndsIn (turns k g on p del z) m
    unfolding turns
    turns-few zero Converged del z m h = after _ m (omega arith)
    turns-few zero Retry del z m h = after _ m (omega arith)
    turns-few zero NoConvergence del z m h = after _ m (omega arith)
    turns-few zero Further del z m h = tt
    turns-few (suc k) Converged del z m h = after _ m (omega arith)
    turns-few (suc k) Retry del z m h = after _ m (omega arith)
    turns-few (suc k) NoConvergence del z m h = after _ m (omega arith)
    turns-few (suc k) Further del z zero h = absurd (omega arith)
    turns-few (suc k) Further del z (suc m) h = λ f. turns-few k _ _ _ m (omega arith)

    iterations-few : (z : State) (m : ℕ) → further_allowed s + M ≤ m → EndsIn (iterations g on z) m
    unfolding iterations
    iterations-few z m h = turns-few (further_allowed s) _ _ _ m h

    factored-few : (done : Bool) (z : State) (m : ℕ) → further_allowed s + M ≤ m → EndsIn (factored_in g on done z) m
    unfolding factored_in
    factored-few true z m h = iterations-few z m h
    factored-few false z m h = after _ m (omega arith)

    after-matrix : (z : State) (m : ℕ) → further_allowed s + M ≤ m → EndsIn (after_matrix g on z) m
    unfolding after_matrix
    after-matrix z m h = factored-few _ _ m h

    columns-few : (k j : ℕ) (z : State) (m : ℕ) → k + further_allowed s + M ≤ m → EndsIn (ask_columns k j g on z) m
    unfolding ask_columns
    columns-few zero j z m h = after-matrix _ m (omega arith)
    columns-few (suc k) j z zero h = absurd (omega arith)
    columns-few (suc k) j z (suc m) h = λ f. columns-few k (j + 1) _ m (omega arith)

    matrix-few : (given : Bool) (z : State) (m : ℕ) → s.n + further_allowed s + M ≤ m
        → EndsIn (ask_matrix g on given z) m
    unfolding ask_matrix
    matrix-few true z zero h = absurd (omega (arith, acc.n.0))
    matrix-few true z (suc m) h = λ f. after-matrix _ m (omega (arith, acc.n.0))
    matrix-few false z m h = columns-few s.n 0 _ m h

    pass-at-few : (due : Bool) (z : State) (m : ℕ) → s.n + further_allowed s + M ≤ m → EndsIn (pass_at g on due z) m
    unfolding pass_at
    pass-at-few true z m h = matrix-few _ _ m h
    pass-at-few false z m h = iterations-few z m (omega arith)

    pass-few : (z : State) (m : ℕ) → s.maxcor + s.n + M ≤ m → EndsIn (pass g on z) m
    unfolding pass
    pass-few z zero h = absurd (omega (arith, acc.n.0))
    pass-few z (suc m) h = λ f. pass-at-few _ _ m (omega (arith, acc.maxcor.0))

  -- ---- the attempts of a step

  -- a pass, and the single derivative after it
  abbrev width : ℕ
  width = s.maxcor + s.n + 1

  module _ (on : Ended → Play) (M : ℕ) (after : (e : Ended) (m : ℕ) → M ≤ m → EndsIn (on e) m) where
    module _ (again : State → Play) (N : ℕ) (most : M ≤ N)
        (next : (y : State) (m : ℕ) → N ≤ m → EndsIn (again y) m) where
      follow-few : (n : Next) (z : State) (m : ℕ) → 1 + N ≤ m → EndsIn (follow g again on n z) m
      unfolding follow
      follow-few Next.Pass z m h = next z m (omega arith)
      follow-few Next.Restep z zero h = absurd (omega arith)
      follow-few Next.Restep z (suc m) h = λ f. next _ m (omega arith)
      follow-few Next.TooSmall z m h = after _ m (omega arith)
      follow-few Next.Poor z m h = after _ m (omega arith)

      tested-few : (above : Bool) (dsm : Float) (z : State) (m : ℕ) → 1 + N ≤ m
          → EndsIn (tested g again on above dsm z) m
      unfolding tested attempted
      tested-few true dsm z m h = follow-few _ _ m h
      tested-few false dsm z m h = after _ m (omega arith)

      decide-few : (o : Outcome) (m : ℕ) → 1 + N ≤ m → EndsIn (decide g again on o) m
      unfolding decide attempted
      decide-few (converged del z) m h = tested-few _ _ z m h
      decide-few (to_retry z) m h = next z m (omega arith)
      decide-few (unconverged z) m h = follow-few _ _ m h

    attempts-few : (k : ℕ) (z : State) (m : ℕ) → k * width + M ≤ m → EndsIn (attempts k g on z) m
    unfolding attempts
    attempts-few zero z m h = tt
    attempts-few (suc k) z m h =
        let N = k * width + M in
        let split : suc k * width ≡ k * width + width = suc-mul k width in
        pass-few (decide g (attempts k g on) on) (1 + N)
        (decide-few (attempts k g on) N (omega arith) (λ y i l. attempts-few k y i l)) z m (omega arith)

  -- ---- the steps

  module _ (on : State → Play) (M : ℕ) (after : (v : State) (m : ℕ) → M ≤ m → EndsIn (on v) m) where
    answered-few : (x : State) (a : Answer) (y : List Float) (t : Float) (m : ℕ) → 1 + M ≤ m
        → EndsIn (after_report g on x a y t) m
    unfolding after_report
    answered-few x Continue y t m h = after _ m (omega arith)
    answered-few x Interrupt y t m h = tt
    answered-few x Modified y t zero h = absurd (omega arith)
    answered-few x Modified y t (suc m) h = λ f. after _ m (omega arith)

    closed-few : (weights : Result Unit NotPositive) (x : State) (m : ℕ) → 2 + M ≤ m → EndsIn (closed g on weights x) m
    unfolding closed
    closed-few (Err e) x m h = tt
    closed-few (Ok u) x zero h = absurd (omega arith)
    closed-few (Ok u) x (suc m) h = λ a y t. answered-few _ a y t m (omega arith)

    settled-few : (order : ℕ) (gap : Bool) (x : State) (m : ℕ) → 2 + M ≤ m
        → EndsIn (after_acceptance g on order gap x) m
    unfolding after_acceptance
    settled-few order true x m h = tt
    settled-few order false x m h = closed-few _ _ m h

    stepped-few : (e : Ended) (m : ℕ) → 2 + M ≤ m → EndsIn (stepped g on e) m
    unfolding stepped
    stepped-few (ended_accepted dsm x) m h = settled-few _ _ _ m h
    stepped-few (ended_small x) m h = tt
    stepped-few (ended_poor x) m h = tt

    step-few : (x : State) (m : ℕ) → passes_allowed s * width + 2 + M ≤ m → EndsIn (step g on x) m
    unfolding step
    step-few x m h = attempts-few (stepped g on) (2 + M) stepped-few (passes_allowed s) _ m (omega arith)

  abbrev whole : ℕ
  whole = passes_allowed s * width + 2

  solve-few : (k : ℕ) (going enough : Bool) (x : State) (m : ℕ) → k * whole ≤ m → EndsIn (solve_at k g going enough x) m
  unfolding solve_at
  solve-few zero false enough x m h = tt
  solve-few zero true true x m h = tt
  solve-few zero true false x m h = tt
  solve-few (suc k) false enough x m h = tt
  solve-few (suc k) true true x m h = tt
  solve-few (suc k) true false x m h =
      let split : suc k * whole ≡ k * whole + whole = suc-mul k whole in
      step-few (solve k g) (k * whole) (λ v i l. solve-few k _ _ v i l) x m (omega arith)

  -- ---- the start

  first-answered-few : (x : State) (a : Answer) (y : List Float) (t : Float) (m : ℕ) → 1 + s.maxsteps * whole ≤ m
      → EndsIn (first_answered g x a y t) m
  unfolding first_answered
  first-answered-few x Continue y t m h = solve-few s.maxsteps _ _ _ m (omega arith)
  first-answered-few x Interrupt y t m h = tt
  first-answered-few x Modified y t zero h = absurd (omega arith)
  first-answered-few x Modified y t (suc m) h = λ f. solve-few s.maxsteps _ _ _ m (omega arith)

  sized-few : (refuse : Bool) (h : Float) (x : State) (m : ℕ) → 2 + s.maxsteps * whole ≤ m
      → EndsIn (sized g refuse h x) m
  unfolding sized
  sized-few true size x m h = tt
  sized-few false size x zero h = absurd (omega arith)
  sized-few false size x (suc m) h = λ a y t. first-answered-few _ a y t m (omega arith)

  weighted-few : (weights : Result Unit NotPositive) (x : State) (m : ℕ)
      → 2 + s.maxsteps * whole ≤ m → EndsIn (weighted g weights x) m
  unfolding weighted
  weighted-few (Err e) x m h = tt
  weighted-few (Ok u) x m h = sized-few _ _ x m h

  start-few : (a : Start) (m : ℕ) → 3 + s.maxsteps * whole ≤ m → EndsIn (start g a) m
  unfolding start started
  start-few a zero h = absurd (omega arith)
  start-few a (suc m) h = λ f. weighted-few _ _ m (omega arith)

  pub start-within : (a : Start) → EndsIn (start g a) (replies_of s)
  start-within a = start-few a (replies_of s) (omega arith)
