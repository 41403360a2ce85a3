-- The six fake solvers of 01-scope's 'Held by every contract' (c), which the caps of demand 3 alone would pass, as
-- properties that a host can see of any solver with a start and a reply of our shape. Demand 2 shuts out each
-- (`fakes-fail` in proofs/Fakes.antt), and ours meets demand 2 (`ours-meets`). That there are no
-- other fakes is not claimed.
use Rattle.std.specs.Prelude.{true, false, List, [], ◌∷◌, ◌++◌, ◌⊎◌, ◌≡◌, ℕ, ◌≤◌, length}
use Rattle.invariants.specs.Host.{IsF64}
use Rattle.rules.specs.Demands.{latest}
use Rattle.answers.specs.Called.{Buffers, Called}
use Rattle.raimsklo.specs.Calls.{Problem}
use Rattle.calls.specs.Run.{Begins, ReplyCall, TimesF64, Solver, answered_by, last_by, is_refusal}
use Rattle.calls.specs.Follow.{is_sized, Demand2}
use Rattle.calls.specs.Demands.{wants, steps_seen, is_report}

-- for every problem that a start accepts
abbrev pub Meets : Solver → Type 0
Meets f = (p : Problem) (b : Buffers) → Begins p b → Demand2 f p b

-- the last call of a run, and the number that it returns
abbrev pub last_after : Solver → Problem → Buffers → List ReplyCall → Called
last_after f p b rs = last_by f (f.start p b) rs

abbrev pub number_after : Solver → Problem → Buffers → List ReplyCall → ℕ
number_after f p b rs = (last_after f p b rs).reply.number

-- ---- the six

-- ends poor before its first pass: once the first derivative and continue have come as they are asked for, nothing
-- being said of replies that are not
abbrev pub EndsPoorAtOnce : Solver → Type 0
EndsPoorAtOnce f =
    (p : Problem) (b : Buffers) → Begins p b → (d c : ReplyCall) → TimesF64 (d ∷ c ∷ [])
    → wants (length p.y0) 100 d ≡ true → is_sized (length p.y0) d ≡ true
    → wants (length p.y0) 102 c ≡ true → is_sized (length p.y0) c ≡ true → c.kind ≡ 3
    → (number_after f p b [] ≡ 114)
    ⊎ ((number_after f p b (d ∷ []) ≡ 114) ⊎ (number_after f p b (d ∷ c ∷ []) ≡ 114))

-- refuses all problems: no start wants the first derivative
abbrev pub RefusesAll : Solver → Type 0
RefusesAll f = (p : Problem) (b : Buffers) → Begins p b → number_after f p b [] ≡ 100 → ⊥

-- always finishes with one status
abbrev pub OneStatus : Solver → Type 0
OneStatus f =
    (status : ℕ)
    × ((p : Problem) (b : Buffers) → Begins p b → (rs : List ReplyCall) → TimesF64 rs
    → 110 ≤ number_after f p b rs → number_after f p b rs ≡ status)

-- returns its session untouched by a reply that it takes, whatever it does to work and pivots
abbrev pub Untouched : Solver → Type 0
Untouched f =
    (p : Problem) (b : Buffers) → Begins p b → (rs : List ReplyCall) (r : ReplyCall) → TimesF64 rs
    → IsF64 r.time
    → is_refusal (answered_by f (last_after f p b rs) r).reply ≡ false
    → (answered_by f (last_after f p b rs) r).lent.session ≡ (last_after f p b rs).lent.session

-- integrates the first step and repeats its report: whatever the question then holds
abbrev pub RepeatsReport : Solver → Type 0
RepeatsReport f =
    (p : Problem) (b : Buffers) → Begins p b → (rs more : List ReplyCall) → TimesF64 (rs ++ more)
    → number_after f p b rs ≡ 103 → number_after f p b (rs ++ more) ≡ 103
    → (last_after f p b (rs ++ more)).reply ≡ (last_after f p b rs).reply

-- invents its derivative count: some report's differs from the derivatives requested in its step
pub record InventsCount (f : Solver) : Type 0 where
  pub p : Problem
  pub b : Buffers
  pub begins : Begins p b
  pub rs : List ReplyCall
  pub times : TimesF64 rs
  pub reported : is_report (last_after f p b rs).reply ≡ true
  pub differs : (last_after f p b rs).reply.count ≡ latest (steps_seen f p b rs) → ⊥

pub record NoFake (f : Solver) : Type 0 where
  pub poor : EndsPoorAtOnce f → ⊥
  pub refusing : RefusesAll f → ⊥
  pub status : OneStatus f → ⊥
  pub untouched : Untouched f → ⊥
  pub repeating : RepeatsReport f → ⊥
  pub inventing : InventsCount f → ⊥
