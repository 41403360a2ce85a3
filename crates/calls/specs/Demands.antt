-- Demands 1 and 3 for the calls of a run (`calls-end` in proofs/Ends.antt, `calls-capped` in proofs/Capped.antt).
-- Demand 3 counts the questions that the calls returned. Steps, families, Jacobians and ends are taken from the tree of
-- the step rules, fed the start's arguments and the replies not refused: nothing of the session's but its accepted
-- count. A list that ends early covers the step under way. That a run succeeds is not claimed: its end may be any.
use Rattle.std.specs.Prelude.{Bool, true, false, cond, ◌&&◌, ◌||◌, List, [], ◌∷◌, ◌≡◌, ℕ, ◌+◌, ◌*◌, ◌≤◌, eqb, leb}
use Rattle.std.specs.Prelude.{length}
use Rattle.invariants.specs.Host.{IsF64}
use Rattle.session.specs.Session.{decode_of}
use Rattle.rules.specs.Play.{derivative_at, Play, ret, ask, tell, say}
use Rattle.rules.specs.Steps.{Step, noted, marked, is_ended, is_ended_keeping, number}
use Rattle.rules.specs.Caps.{Capped, Every}
use Rattle.rules.specs.Demands.{latest, replies_of}
use Rattle.refinement.specs.Shown.{tree_next}
use Rattle.answers.specs.declared.Reply.{Reply}
use Rattle.answers.specs.Called.{Buffers, Called}
use Rattle.raimsklo.specs.Calls.{Problem, start_of}
use Rattle.calls.specs.Run.{ReplyCall, TimesF64, Solver, answered_by, ours, replied, calls_of, last_of, is_refusal}
use Rattle.calls.specs.Follow.{given_of, tree_of, fed_as, is_sized, Refused}

-- ---- demand 1

-- by a status (110 to 115), by 11 or by 12
abbrev pub is_end : Reply → Bool
is_end a = leb 110 a.number || (eqb a.number 11 || eqb a.number 12)

unfoldable pub has_end : List Called → Bool
has_end [] = false
has_end (x ∷ xs) = is_end x.reply || has_end xs

-- a reply of the kind and length that an answer asks for: a derivative (100), a Jacobian (101), an answer to a report
abbrev pub wants : ℕ → ℕ → ReplyCall → Bool
wants n asked r =
    cond (eqb asked 100) (eqb r.kind 1 && eqb (length r.numbers) n)
    (cond (eqb asked 101) (eqb r.kind 2 && eqb (length r.numbers) (n * n))
    (cond (eqb asked 102 || eqb asked 103) ((leb 3 r.kind && leb r.kind 5) && eqb (length r.numbers) n) false))

abbrev pub Unless : Bool → Type 0 → Type 0
Unless true X = Unit {0}
Unless false X = X

-- until a call ends the run, each reply is what the call before asked for, with a question slice of the right length
abbrev pub AllWanted : ℕ → Called → List ReplyCall → Type 0
AllWanted n x [] = Unit {0}
AllWanted n x (r ∷ rs) =
    Unless (is_end x.reply)
    ((wants n x.reply.number r ≡ true) × (is_sized n r ≡ true) × AllWanted n (replied x r) rs)

pub record CallsEnd (p : Problem) (b : Buffers) : Type 0 where
  -- one of the first `replies_of` replies is answered by an end
  pub ends : (rs : List ReplyCall) → TimesF64 rs → AllWanted (length p.y0) (start_of p b) rs
      → length rs ≡ replies_of (given_of p b).s → has_end (calls_of (start_of p b) rs) ≡ true
  -- and after an end every reply is refused, by 14 (by 3 where the question's length is wrong), and changes nothing
  pub after : (rs : List ReplyCall) (r : ReplyCall) → TimesF64 rs → IsF64 r.time
      → has_end (calls_of (start_of p b) rs) ≡ true
      → Refused (last_of (start_of p b) rs) r
      × (is_sized (length p.y0) r ≡ true → (replied (last_of (start_of p b) rs) r).reply.number ≡ 14)

-- ---- demand 3

-- what the tree says happens before its next question, report or end
abbrev pub marks : Play → List Step → List Step
marks (ret e) xs = xs
marks (ask q x k) xs = xs
marks (tell r x k) xs = xs
marks (say e p) xs = marks p (marked e xs)

-- a call that wants a derivative counts it in the step under way, and else in none
abbrev pub counted_by : Reply → List Step → List Step
counted_by a xs = cond (eqb a.number 100) (noted (derivative_at a.time []) xs) xs

-- the steps after a list of calls; t is where the tree stands, xs the steps so far, x the call before
unfoldable pub steps_by : Solver → Play → List Step → Called → List ReplyCall → List Step
steps_by f t xs x [] = xs
steps_by f t xs x (r ∷ rs) =
    let y = answered_by f x r in
    cond (is_refusal y.reply) (steps_by f t xs y rs)
    (steps_by f (tree_next t (fed_as r)) (counted_by y.reply (marks (tree_next t (fed_as r)) xs)) y rs)

-- the steps of a run of a solver, and of ours
abbrev pub steps_seen : Solver → Problem → Buffers → List ReplyCall → List Step
steps_seen f p b rs =
    let x = f.start p b in
    steps_by f (tree_of p b) (counted_by x.reply (marks (tree_of p b) [])) x rs

abbrev pub steps_in : Problem → Buffers → List ReplyCall → List Step
steps_in p b rs = steps_seen ours p b rs

abbrev pub is_report : Reply → Bool
is_report a = eqb a.number 102 || eqb a.number 103

-- x is the last call, xs the steps up to it
pub record CappedAt (x : Called) (xs : List Step) : Type 0 where
  -- each step within its caps, as functions of its own limits and of the family it began in
  pub capped : Every Capped xs
  -- a report's count is the derivatives of the last step; the first report's is 0
  pub count : is_report x.reply ≡ true → x.reply.count ≡ latest xs
  pub first : x.reply.number ≡ 102 → x.reply.count ≡ 0
  -- the session's accepted count = steps ended - ended too small - ended poor, and it is what an end returns
  pub accepted : (decode_of x.lent.session).common.nst + number is_ended_keeping xs ≡ number is_ended xs
  pub returned : 110 ≤ x.reply.number → x.reply.accepted ≡ (decode_of x.lent.session).common.nst

abbrev pub CallsCapped : Problem → Buffers → Type 0
CallsCapped p b =
    (rs : List ReplyCall) → TimesF64 rs → CappedAt (last_of (start_of p b) rs) (steps_in p b rs)
