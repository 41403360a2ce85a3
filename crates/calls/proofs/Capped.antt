-- Demand 3 for every list of calls of a run: from the rules' own theorem, along the calls.
--     calls-capped
-- Assumes nothing.
use mathlib.Core.Bool.{Bool, true, false, cond, not}
use mathlib.Core.List.{List, [], ◌∷◌}
use mathlib.Core.Logic.{◌⊎◌, inl, inr}
use mathlib.Core.Option.{Option, none, some}
use mathlib.Core.Path.{◌≡◌, refl, sym, ap, ◌∙◌}
use Prim.Native.Nat.{ℕ, ◌≤◌}
use native.Mathlib.Omega.{arith}
use lib.Dec.{eqb, lit<}
use lib.Ieee.{Float}
use Rattle.std.proofs.lemmas.Bool.{and_parts}
use Rattle.loops.proofs.Test.{differs}
use Rattle.numbers.specs.Float.{zero_f}
use Rattle.between_steps.specs.declared.Answer.{Answer}
use Rattle.questions.specs.declared.Question.{Question}
use Rattle.questions.specs.declared.Session.{Session}
use Rattle.questions.specs.Turns.{RunState}
use Rattle.session.specs.Session.{decode_of}
use Rattle.rules.specs.Play.{derivative_at, jacobian_at, Ending, Play, ret, ask, tell, say, finished, step_refused}
use Rattle.rules.specs.Play.{weight_refused, exhausted}
use Rattle.common.specs.State.{Given, State}
use Rattle.rules.specs.Rules.{Start}
use Rattle.rules.specs.Steps.{Step, Tally, requested, put_tally, noted, marked}
use Rattle.rules.specs.Replies.{Reply as Fed}
use Rattle.rules.specs.Demands.{Throughout, latest, CapsKept, Demand3At}
use Rattle.rules.proofs.Demands.{demand-3-tree}
use Rattle.refinement.specs.Shown.{resumed, asks, tree_next}
use Rattle.refinement.specs.AtNode.{started_at}
use Rattle.refinement.specs.Follows.{state_at}
use Rattle.refinement.proofs.Follows.{arrived}
use Rattle.answers.specs.declared.Reply.{Reply}
use Rattle.answers.specs.Answers.{plain_reply, question_reply}
use Rattle.answers.specs.Called.{Buffers, Called}
use Rattle.replies.specs.Replies.{is_kind}
use Rattle.raimsklo.specs.Calls.{Problem, start_of}
use Rattle.calls.specs.Run.{Begins, ReplyCall, TimesF64, last_by, ours, replied, last_of, is_refusal}
use Rattle.calls.specs.Follow.{given_of, from_of, tree_of, is_step, said_at, fed_as, is_sized}
use Rattle.calls.specs.Demands.{marks, counted_by, steps_by, is_report, CappedAt, CallsCapped}
use Rattle.calls.proofs.Agrees.{status-not}
use Rattle.calls.proofs.Keeps.{Runs}
use Rattle.calls.proofs.Start.{begun-run}
use Rattle.calls.proofs.Walk.{At, is_fitting, Went, Outcome, refused, taken, call, is-refusal, Moves, moves}
use Rattle.calls.proofs.Walk.{begun-at}
use Rattle.calls.proofs.Spoken.{Spoken, reply-of}
use Rattle.calls.proofs.Ends.{spoken, begun-spoken}

-- ---- a question counts alike, whatever its time and state

same-request : (e : Option Ending) (t u : Float) (v w : List Float) (y : Tally)
    → requested e (derivative_at t v) y ≡ requested e (derivative_at u w) y
same-request none t u v w y = refl
same-request (some e) t u v w y = refl

same_noted : (t u : Float) (v w : List Float) (xs : List Step)
    → noted (derivative_at t v) xs ≡ noted (derivative_at u w) xs
same_noted t u v w [] = refl
same_noted t u v w (x ∷ xs) = ap (λ (y : Tally). put_tally y x ∷ xs) (same-request x.ending t u v w x.tally)

no-request : (e : Option Ending) (t : Float) (v : List Float) (y : Tally) → requested e (jacobian_at t v) y ≡ y
no-request none t v y = refl
no-request (some e) t v y = refl

not_noted : (t : Float) (v : List Float) (xs : List Step) → noted (jacobian_at t v) xs ≡ xs
not_noted t v [] = refl
not_noted t v (x ∷ xs) = ap (λ (y : Tally). put_tally y x ∷ xs) (no-request x.ending t v x.tally)

-- ---- at a node of the tree, its own question counted

module _ (P : Play → List Step → Type 0) where
  abbrev Waits : Play → List Step → Type 0
  Waits (ret e) zs = P (ret e) zs
  Waits (ask q x k) zs = P (ask q x k) zs × ((f : List Float) → Throughout P (k f) zs)
  Waits (tell r x k) zs =
      P (tell r x k) zs × ((a : Answer) (f : List Float) (t : Float) → Throughout P (k a f t) zs)
  Waits (say e p) zs = Waits p zs

  abbrev counts : Reply → List Step → List Step
  counts a xs = counted_by a xs

  report-counts : (b : Bool) → eqb (cond b 103 102) 100 ≡ false
  report-counts true = refl
  report-counts false = refl

  arrives_at : (n : ℕ) (t : Play) (q : List Float) (xs : List Step) → Throughout P t xs
      → Waits t (counted_by (said_at n t q).reply (marks t xs))
  arrives_at n (ret (finished status x)) q xs h = rw (status-not status 100 (lit< tt)) h
  arrives_at n (ret (step_refused v x)) q xs h = h
  arrives_at n (ret (weight_refused i x)) q xs h = h
  arrives_at n (ret (exhausted x)) q xs h = h
  arrives_at n (ask (derivative_at t v) x k) q xs h = rw (same_noted t t v [] xs) at h
  arrives_at n (ask (jacobian_at t v) x k) q xs h = rw (not_noted t v xs) at h
  arrives_at n (tell r x k) q xs h = rw (report-counts (is_step r.snapshot)) h
  arrives_at n (say e p) q xs h = arrives_at n p q (marked e xs) h

  arrives : (n : ℕ) (t : Play) (x : Called) (xs : List Step) → Spoken n t x → Throughout P t xs
      → Waits t (counted_by x.reply (marks t xs))
  arrives n t x xs k h = rw (reply-of n t x k) (arrives_at n t k.question xs h)

  leads : (n : ℕ) (t : Play) (r : Fed) (zs : List Step) → asks n t r ≡ true → Waits t zs
      → Throughout P (tree_next t r) zs
  leads n (ret e) r zs h w = differs h
  leads n (ask q x k) r zs h w = w.1 r.numbers
  leads n (tell p x k) r zs h w = w.1 _ r.numbers r.time
  leads n (say e p) r zs h w = leads n p r zs h w

-- ---- what demand 3 says there

module _ (g : Given) where
  abbrev Here : Play → List Step → Type 0
  Here t zs = Waits (Demand3At g) t zs

  kept_here : (t : Play) (zs : List Step) → Here t zs → CapsKept (state_at t) zs
  kept_here (ret e) zs h = h.0
  kept_here (ask q x k) zs h = h.0
  kept_here (tell r x k) zs h = h.0.0
  kept_here (say e p) zs h = kept_here p zs h

  count_at : (n : ℕ) (t : Play) (q : List Float) (zs : List Step) → Here t zs
      → is_report (said_at n t q).reply ≡ true → (said_at n t q).reply.count ≡ latest zs
  count_at n (ret (finished status x)) q zs h i =
      differs (rw (status-not status 102 (lit< tt), status-not status 103 (lit< tt)) at i)
  count_at n (ret (step_refused v x)) q zs h i = differs i
  count_at n (ret (weight_refused v x)) q zs h i = differs i
  count_at n (ret (exhausted x)) q zs h i = differs i
  count_at n (ask (derivative_at t v) x k) q zs h i = differs i
  count_at n (ask (jacobian_at t v) x k) q zs h i = differs i
  count_at n (tell r x k) q zs h i = h.0.1
  count_at n (say e p) q zs h i = count_at n p q zs h i

  returned-at : (n : ℕ) (t : Play) (q : List Float) → 110 ≤ (said_at n t q).reply.number
      → (said_at n t q).reply.accepted ≡ (state_at t).c.nst
  returned-at n (ret (finished status x)) q h = refl
  returned-at n (ret (step_refused v x)) q h = absurd (omega arith)
  returned-at n (ret (weight_refused v x)) q h = absurd (omega arith)
  returned-at n (ret (exhausted x)) q h = absurd (omega arith)
  returned-at n (ask (derivative_at t v) x k) q h = absurd (omega arith)
  returned-at n (ask (jacobian_at t v) x k) q h = absurd (omega arith)
  returned-at n (tell r x k) q h = absurd (by (is_step r.snapshot) h)
    where
      by : (b : Bool) → 110 ≤ cond b 103 102 → ⊥
      by true e = omega arith
      by false e = omega arith
  returned-at n (say e p) q h = returned-at n p q h

first_count : (v : Question) → (question_reply v).number ≡ 102 → (question_reply v).count ≡ 0
first_count (Question.Derivative a) e = refl
first_count (Question.Jacobian a) e = refl
first_count (Question.FirstReport a) e = refl
first_count (Question.Report r) e = absurd (omega arith)
first_count (Question.Finished x) e = refl
first_count (Question.StepRefused h) e = refl
first_count (Question.WeightRefused i) e = refl
first_count Question.Unasked e = refl

-- ---- along the calls

module _ (g : Given) (a : Start) (run : Runs g a) where
  abbrev n : ℕ
  n = g.s.n

  -- the last call is spoken at the node, or it was refused
  abbrev Last : Play → Called → Type 0
  Last t x = Spoken n t x ⊎ ((q : Bool) × (x.reply ≡ plain_reply (cond q 14 3) 0 zero_f zero_f))

  record Stood (x : Called) (zs : List Step) : Type 0 where
    node : Play
    left : RunState
    at : At g a run node left x
    last : Last node x
    here : Here g node zs

  abbrev Stands : List ReplyCall → Type 0
  Stands rs = (t : Play) (l : RunState) (x : Called) (zs : List Step) → At g a run t l x → Last t x → Here g t zs
      → Stood (last_of x rs) (steps_by ours t zs x rs)

  -- a refused reply leaves the node and the steps, one that is taken goes on
  stands-left : (r : ReplyCall) (rs : List ReplyCall) → Stands rs → (t : Play) (l : RunState) (x : Called)
      (zs : List Step) → At g a run t l (replied x r) → Last t (replied x r) → Here g t zs
      → is_refusal (replied x r).reply ≡ true → Stood (last_of x (r ∷ rs)) (steps_by ours t zs x (r ∷ rs))
  unfolding last_by steps_by
  stands-left r rs ih t l x zs at k h i = rw i (ih t l (replied x r) zs at k h)

  stands_on : (r : ReplyCall) (rs : List ReplyCall) → Stands rs → (t : Play) (l : RunState) (x : Called)
      (zs : List Step) → asks n t (fed_as r) ≡ true → Went g a run t l x r → Here g t zs
      → is_refusal (replied x r).reply ≡ false → Stood (last_of x (r ∷ rs)) (steps_by ours t zs x (r ∷ rs))
  unfolding last_by steps_by
  stands_on r rs ih t l x zs asked w h i =
      let y = replied x r in
      let u = tree_next t (fed_as r) in
      let k = spoken g a run t l x r w in
      rw i
      (ih u (resumed g l (fed_as r)) y (counted_by y.reply (marks u zs)) w.at (inl k)
      (arrives (Demand3At g) n u y zs k (leads (Demand3At g) n t (fed_as r) zs asked h)))

  stands_by : (r : ReplyCall) (rs : List ReplyCall) → Stands rs → (t : Play) (l : RunState) (x : Called)
      (zs : List Step) → Moves g a run t x r → Here g t zs
      → is_refusal (replied x r).reply ≡ not (is_fitting g a run t r)
      → Outcome g a run t l x r → Stood (last_of x (r ∷ rs)) (steps_by ours t zs x (r ∷ rs))
  stands_by r rs ih t l x zs m h i (refused e q) =
      stands-left r rs ih t m.left x zs (rw e at m.at) (inr (is_sized n r, ap (λ (y : Called). y.reply) q)) h
      (i ∙ ap not e)
  stands_by r rs ih t l x zs m h i (taken e w) =
      let known = (and_parts (is_kind r.kind) (asks n t (fed_as r)) (and_parts (is_sized n r) _ e).1).1 in
      stands_on r rs ih t l x zs known w h (i ∙ ap not e)

  stands-all : (rs : List ReplyCall) → TimesF64 rs → Stands rs
  unfolding last_by steps_by
  stands-all [] f t l x zs at k h = record { node = t; left = l; at = at; last = k; here = h }
  stands-all (r ∷ rs) f t l x zs at k h =
      let o = call g a run t l x r f.0 at in
      stands_by r rs (stands-all rs f.1) t l x zs (moves g a run t l x r f.0 at) h
      (is-refusal g a run t l x r o) o

  -- ---- the claim at the last call

  module _ (x : Called) (zs : List Step) (z : Stood x zs) where
    kept : CapsKept (state_at z.node) zs
    kept = kept_here g z.node zs z.here

    -- the session's accepted count is the node's
    accepted-is : (decode_of x.lent.session).common.nst ≡ (state_at z.node).c.nst
    accepted-is =
        ap (λ (y : Session). y.common.nst) z.at.keeps.decoded
        ∙ ap (λ (y : State). y.c.nst) (arrived g z.node z.left z.at.stands).holds.same

    count-is : Last z.node x → is_report x.reply ≡ true → x.reply.count ≡ latest zs
    count-is (inl k) i =
        let e = reply-of n z.node x k in
        ap (λ (y : Reply). y.count) e ∙ count_at g n z.node k.question zs z.here (ap is_report (sym e) ∙ i)
    count-is (inr (true, e)) i = differs (rw e at i)
    count-is (inr (false, e)) i = differs (rw e at i)

    first-is : Last z.node x → x.reply.number ≡ 102 → x.reply.count ≡ 0
    first-is (inl k) i =
        ap (λ (y : Reply). y.count) k.answer
        ∙ first_count k.asked (ap (λ (y : Reply). y.number) (sym k.answer) ∙ i)
    first-is (inr (q, e)) i = ap (λ (y : Reply). y.count) e

    returned-is : Last z.node x → 110 ≤ x.reply.number
        → x.reply.accepted ≡ (decode_of x.lent.session).common.nst
    returned-is (inl k) h =
        let e = reply-of n z.node x k in
        ap (λ (y : Reply). y.accepted) e ∙ returned-at g n z.node k.question (rw e at h) ∙ sym accepted-is
    returned-is (inr (true, e)) h = absurd (omega (arith, rw e at h))
    returned-is (inr (false, e)) h = absurd (omega (arith, rw e at h))

    capped_at : CappedAt x zs
    capped_at = record {
      capped = kept.capped;
      count = count-is z.last;
      first = first-is z.last;
      accepted = rw accepted-is kept.accepted;
      returned = returned-is z.last;
    }

pub calls-capped : (p : Problem) (b : Buffers) → Begins p b → CallsCapped p b
calls-capped p b begins rs f =
    let g = given_of p b in
    let a = from_of p in
    let run = begun-run p b begins in
    let k = begun-spoken p b begins in
    capped_at g a run _ _
    (stands-all g a run rs f (tree_of p b) (started_at g a) (start_of p b) _ (begun-at p b begins) (inl k)
    (arrives (Demand3At g) g.s.n (tree_of p b) (start_of p b) [] k (demand-3-tree g a run.ok.settings)))
