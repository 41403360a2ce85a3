-- What the last call of a run tells of the node where the run stands: an end there, or what is wanted there.
--     Spoken               the call's answer is the node's, and one of the machine's
--     EndedAt, end-node, node_end, wants-asks
-- Assumes nothing.
use mathlib.Core.Bool.{Bool, true, false, cond, ◌&&◌, ◌||◌}
use mathlib.Core.List.{List}
use mathlib.Core.Logic.{◌⊎◌, inl, inr}
use mathlib.Core.Path.{◌≡◌, refl, sym, ap, ◌∙◌}
use Prim.Native.Nat.{ℕ, ◌*◌, ◌≤◌}
use native.Mathlib.Omega.{arith}
use lib.Dec.{eqb, leb, lit<}
use lib.Ieee.{Float}
use lib.ListN.{length}
use borrow.Author.Tests.{eqb-true, eqb-false, leb-true, le-leb}
use Rattle.std.proofs.lemmas.Bool.{and_parts}
use Rattle.loops.proofs.Test.{differs}
use Rattle.questions.specs.declared.Question.{Question}
use Rattle.between_steps.specs.declared.Status.{Status}
use Rattle.questions.specs.Turns.{RunState}
use Rattle.rules.specs.Play.{derivative_at, jacobian_at, Play, ret, ask, tell, say, finished, step_refused}
use Rattle.rules.specs.Play.{weight_refused, exhausted}
use Rattle.common.specs.State.{Given}
use Rattle.refinement.specs.Shown.{asks}
use Rattle.refinement.specs.AtNode.{AtNode}
use Rattle.answers.specs.declared.Reply.{Reply}
use Rattle.answers.specs.Answers.{status_number, question_reply}
use Rattle.answers.specs.Called.{Called}
use Rattle.replies.specs.Replies.{is_kind}
use Rattle.calls.specs.Run.{ReplyCall}
use Rattle.calls.specs.Follow.{is_step, said_by, said_at, fed_as, is_awaited}
use Rattle.calls.specs.Demands.{is_end, wants}
use Rattle.calls.specs.ReplyRefused.{Awaited, derivative, jacobian, answer, Asked}
use Rattle.calls.proofs.Agrees.{status-number, status-not}
use Rattle.calls.proofs.ReplyRefused.{decided-true, a-derivative, a-jacobian, an-answer}

pub record Spoken (n : ℕ) (t : Play) (x : Called) : Type 0 where
  pub question : List Float
  pub said : said_by x ≡ said_at n t question
  pub asked : Question
  pub answer : x.reply ≡ question_reply asked

abbrev pub EndedAt : Play → Type 0
EndedAt (ret e) = Unit {0}
EndedAt (ask q x k) = ⊥
EndedAt (tell r x k) = ⊥
EndedAt (say e p) = EndedAt p

pub reply-of : (n : ℕ) (t : Play) (x : Called) (s : Spoken n t x) → x.reply ≡ (said_at n t s.question).reply
reply-of n t x s = ap (λ y. y.reply) s.said

-- ---- an end

module _ (n : ℕ) where
  abbrev number : Play → List Float → ℕ
  number t q = (said_at n t q).reply.number

  end-at : (t : Play) (q : List Float) → is_end (said_at n t q).reply ≡ true → EndedAt t
  end-at (ret e) q h = tt
  end-at (ask (derivative_at t v) x k) q h = differs h
  end-at (ask (jacobian_at t v) x k) q h = differs h
  end-at (tell r x k) q h = by (is_step r.snapshot) h
    where
      by : (b : Bool) → leb 110 (cond b 103 102) || (eqb (cond b 103 102) 11 || eqb (cond b 103 102) 12) ≡ true → ⊥
      by true e = differs e
      by false e = differs e
  end-at (say e p) q h = end-at p q h

  pub end-node : (t : Play) (x : Called) → Spoken n t x → is_end x.reply ≡ true → EndedAt t
  end-node t x s h = end-at t s.question (ap is_end (sym (reply-of n t x s)) ∙ h)

  at-end : (g : Given) (t : Play) (l : RunState) (q : List Float) → AtNode g t l → EndedAt t
      → is_end (said_at n t q).reply ≡ true
  at-end g (ret (finished status x)) l q s h = rw (le-leb 110 (status_number status) (status-number status).0)
  at-end g (ret (step_refused v x)) l q s h = refl
  at-end g (ret (weight_refused i x)) l q s h = refl
  at-end g (ret (exhausted x)) l q s h = absurd s
  at-end g (ask v x k) l q s h = absurd h
  at-end g (tell r x k) l q s h = absurd h
  at-end g (say e p) l q s h = at-end g p l q s h

  pub node_end : (g : Given) (t : Play) (l : RunState) (x : Called) → AtNode g t l → Spoken n t x → EndedAt t
      → is_end x.reply ≡ true
  node_end g t l x s k h = ap is_end (reply-of n t x k) ∙ at-end g t l k.question s h

  -- an ended run takes nothing
  pub ended-asks : (t : Play) (r : ReplyCall) → EndedAt t → is_awaited n t r ≡ false
  ended-asks t r h = by (is_kind r.kind) ∙ none t h
    where
      none : (t : Play) → EndedAt t → asks n t (fed_as r) ≡ false
      none (ret e) h = refl
      none (ask v x k) h = absurd h
      none (tell q x k) h = absurd h
      none (say e p) h = none p h

      by : (b : Bool) → b && asks n t (fed_as r) ≡ asks n t (fed_as r)
      by true = refl
      by false = sym (none t h)

  -- ---- what is wanted

  module _ (r : ReplyCall) where
    abbrev len : ℕ
    len = length r.numbers

    abbrev Asks : Awaited → Type 0
    Asks what = Asked what n r.kind len

    asks-derivative : eqb r.kind 1 && eqb len n ≡ true → Asks derivative
    asks-derivative h = let e = and_parts _ _ h in (eqb-true r.kind 1 e.0, eqb-true len n e.1)

    asks-jacobian : eqb r.kind 2 && eqb len (n * n) ≡ true → Asks jacobian
    asks-jacobian h = let e = and_parts _ _ h in (eqb-true r.kind 2 e.0, eqb-true len (n * n) e.1)

    three-to-five : (k : ℕ) → 3 ≤ k → k ≤ 5 → (k ≡ 3) ⊎ ((k ≡ 4) ⊎ (k ≡ 5))
    three-to-five k a b = by (eqb k 3) refl (eqb k 4) refl
      where
        by : (s : Bool) → eqb k 3 ≡ s → (t : Bool) → eqb k 4 ≡ t → (k ≡ 3) ⊎ ((k ≡ 4) ⊎ (k ≡ 5))
        by true e t f = inl (eqb-true k 3 e)
        by false e true f = inr (inl (eqb-true k 4 f))
        by false e false f =
            let p : k ≡ 3 → ⊥ = eqb-false k 3 e in
            let q : k ≡ 4 → ⊥ = eqb-false k 4 f in
            inr (inr (omega arith))

    asks-answer : (leb 3 r.kind && leb r.kind 5) && eqb len n ≡ true → Asks answer
    asks-answer h =
        let e = and_parts (leb 3 r.kind && leb r.kind 5) (eqb len n) h in
        let f = and_parts (leb 3 r.kind) (leb r.kind 5) e.0 in
        (three-to-five r.kind (leb-true 3 r.kind f.0) (leb-true r.kind 5 f.1), eqb-true len n e.1)

    wants-status : (s : Status) → wants n (status_number s) r ≡ true → ⊥
    wants-status s h =
        let not = status-not s in
        differs (rw (not 100 (lit< tt), not 101 (lit< tt), not 102 (lit< tt), not 103 (lit< tt)) at h)

    wants-report : (b : Bool) → wants n (cond b 103 102) r ≡ true
        → (leb 3 r.kind && leb r.kind 5) && eqb len n ≡ true
    wants-report true h = h
    wants-report false h = h

    wants-at : (t : Play) (q : List Float) → wants n (number t q) r ≡ true → is_awaited n t r ≡ true
    wants-at (ret (finished status x)) q h = absurd (wants-status status h)
    wants-at (ret (step_refused v x)) q h = differs h
    wants-at (ret (weight_refused i x)) q h = differs h
    wants-at (ret (exhausted x)) q h = differs h
    wants-at (ask (derivative_at t v) x k) q h =
        decided-true _ (a-derivative n len r.kind) (λ no. no (asks-derivative h))
    wants-at (ask (jacobian_at t v) x k) q h =
        decided-true _ (a-jacobian n len r.kind) (λ no. no (asks-jacobian h))
    wants-at (tell p x k) q h =
        decided-true _ (an-answer n len r.kind) (λ no. no (asks-answer (wants-report (is_step p.snapshot) h)))
    wants-at (say e p) q h = wants-at p q h

    pub wants-asks : (t : Play) (x : Called) → Spoken n t x → wants n x.reply.number r ≡ true
        → is_awaited n t r ≡ true
    wants-asks t x s h =
        wants-at t s.question (ap (λ (a : Reply). wants n a.number r) (sym (reply-of n t x s)) ∙ h)
