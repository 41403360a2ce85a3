-- A reply to bytes that keep where the machine stands: 3 where the question's length is wrong, 14 where the reply is
-- not what was asked, both with all as it was; else what the machine does with it. By the rows of any reply
-- (`reply-refused` in ReplyRefused), of which the kept bytes decide all but the question's length and what is asked.
--     lent_of                                    what is lent: work, pivots and session as left, a question
--     reply-sizes, reply-unasked, reply-taken   the three
-- Assumes nothing.
use mathlib.Core.Bool.{Bool, true, false, ◌&&◌}
use mathlib.Core.List.{List}
use mathlib.Core.Logic.{◌⊎◌, inl, inr, ◌≢◌}
use mathlib.Core.Path.{◌≡◌, refl, ap, ◌∙◌}
use Prim.Native.Nat.{ℕ, ◌<◌}
use native.Mathlib.Omega.{arith}
use lib.Ieee.{Float}
use lib.ListN.{length}
use borrow.Author.Tests.{eqb-true, eqb-false}
use Rattle.numbers.specs.Float.{zero_f}
use Rattle.questions.specs.declared.Phase.{Phase}
use Rattle.questions.specs.Turns.{RunState}
use Rattle.session.specs.Session.{encode_of, decode_of}
use Rattle.session.specs.Names.{n_word, phase_word}
use Rattle.session.specs.InRange.{InRange}
use Rattle.session.proofs.InRange.{in-range}
use Rattle.refusals.specs.Rows.{Row, NoneHolds, FirstIs}
use Rattle.common.specs.Limits.{max_states}
use Rattle.common.specs.SessionWords.{session_length}
use Rattle.common.specs.State.{Given}
use Rattle.common.specs.Layout.{question_length, work_length}
use Rattle.rules.specs.Rules.{Start}
use Rattle.invariants.specs.Next.{session_found}
use Rattle.refinement.specs.Shown.{resumed, is_taken}
use Rattle.answers.specs.Answers.{plain_reply, question_reply}
use Rattle.answers.specs.Called.{Buffers, Called}
use Rattle.replies.specs.Replies.{is_kind, kind_of, question_of, turn_written_of, turned, written, accepted_reply_of}
use Rattle.raimsklo.specs.Calls.{reply_of}
use Rattle.calls.specs.Run.{ReplyCall}
use Rattle.calls.specs.Follow.{fed_as, is_sized}
use Rattle.calls.specs.ReplyRefused.{reply_rows}
use Rattle.calls.proofs.Agrees.{is_over, Agrees, asking}
use Rattle.calls.proofs.Keeps.{over-or-not, Runs, Keeps}
use Rattle.calls.proofs.ReplyRefused.{asked-now, gone, reply-refused}

abbrev pub lent_of : RunState → List ℕ → List Float → Buffers
lent_of l bytes q = record { work = l.st.w; pivots = l.st.p; session = bytes; question = q }

module _ (g : Given) (a : Start) (run : Runs g a) (l : RunState) (bytes : List ℕ) (k : Keeps g l bytes)
    (r : ReplyCall) where
  abbrev lent : Buffers
  lent = lent_of l bytes r.question

  abbrev answer : Called
  answer = reply_of r.kind r.numbers r.time lent

  abbrev leaves : ℕ → Called
  leaves number = record { reply = plain_reply number 0 zero_f zero_f; lent = lent }

  abbrev rows : List Row
  rows = reply_rows r.kind r.numbers lent

  abbrev n : ℕ
  n = n_word bytes

  left_by : (number : ℕ) → FirstIs number rows → answer ≡ leaves number
  left_by number f = (reply-refused r.kind r.numbers r.time lent).unchanged number f

  -- ---- the rows of the lengths

  long : length bytes ≢ session_length → ⊥
  long h = h k.long

  stated : (n ≡ 0) ⊎ (max_states < n) → ⊥
  stated (inl e) = omega (arith, e, k.states, run.ok.settings.n.0)
  stated (inr h) = omega (arith, h, k.states, run.ok.settings.n.1)

  fitting : is_sized g.s.n r ≡ true
      → (length l.st.w ≢ work_length n) ⊎ (length l.st.p ≢ n) ⊎ (length r.question ≢ question_length n) → ⊥
  fitting sized (inl h) = h (rw k.states k.lent.sized)
  fitting sized (inr (inl h)) = h (rw k.states k.lent.pivots)
  fitting sized (inr (inr h)) = h (rw k.states (eqb-true (length r.question) (question_length g.s.n) sized))

  pub reply-sizes : is_sized g.s.n r ≡ false → answer ≡ leaves 3
  reply-sizes off =
      let wrong : length r.question ≢ question_length n = rw k.states (eqb-false (length r.question) _ off) in
      left_by 3 (inr (long, inr (stated, inl (inr (inr wrong), refl))))

  module _ (sized : is_sized g.s.n r ≡ true) where
    -- ---- the rows of what is stored

    running : is_over l.phase ≡ false → phase_word bytes ≡ 10 → ⊥
    running e = eqb-false (phase_word bytes) 10 (k.finished ∙ e)

    ranged : is_over l.phase ≡ false → (InRange bytes l.st.p → ⊥) → ⊥
    ranged e out = out ((in-range bytes l.st.p).0 (k.passed e))

    abbrev Asks : Bool → Type 0
    Asks t = is_kind r.kind && is_taken g l (fed_as r) ≡ t

    first-14 : Asks false → (is_over l.phase ≡ false) ⊎ (l.phase ≡ Phase.Finished) → FirstIs 14 rows
    first-14 off (inr e) =
        inr (
          long,
          inr (
            stated,
            inr (
              fitting sized,
              inl (eqb-true (phase_word bytes) 10 (k.finished ∙ ap is_over e), refl),
            ),
          ),
        )
    first-14 off (inl e) =
        inr (
          long,
          inr (
            stated,
            inr (
              fitting sized,
              inr (
                running e,
                inr (
                  ranged e,
                  inl ((asked-now r.kind r.numbers r.time lent).1 (rw k.decoded off), refl),
                ),
              ),
            ),
          ),
        )

    pub reply-unasked : Asks false → answer ≡ leaves 14
    reply-unasked off = left_by 14 (first-14 off (over-or-not l.phase))

    -- ---- none holds

    none : is_over l.phase ≡ false → Asks true → NoneHolds rows
    none e on = (
      long,
      (
        stated,
        (
          fitting sized,
          (
            running e,
            (
              ranged e,
              (λ no. no ((asked-now r.kind r.numbers r.time lent).0 (rw k.decoded on)), tt),
            ),
          ),
        ),
      ),
    )

    -- the reply finds the machine
    turned-is : turned (kind_of r.kind) r.numbers r.time lent ≡ resumed g l (fed_as r)
    turned-is = rw (k.decoded, k.rtol, k.atol)

    go-is : accepted_reply_of (kind_of r.kind) r.numbers r.time lent ≡ written g.s (resumed g l (fed_as r)) lent
    unfolding accepted_reply_of
    go-is =
        ap (λ (x : RunState). written (decode_of bytes).settings x lent) turned-is
        ∙ rw k.decoded

    abbrev taken : RunState → Called
    taken m = record {
      reply = question_reply m.question;
      lent = lent_of m (encode_of (session_found g m) bytes)
          (question_of g.s m.phase m.st.c m.st.w r.question);
    }

    write : (m : RunState) → Agrees m.question m.phase m.st.c → written g.s m lent ≡ taken m
    unfolding turn_written_of
    write m w = rw (asking m.question m.phase m.st.c w)

    pub reply-taken : is_over l.phase ≡ false → Asks true
        → let m = resumed g l (fed_as r) in Agrees m.question m.phase m.st.c → answer ≡ taken m
    reply-taken e on w =
        gone r.kind r.numbers r.time lent (none e on) ∙ go-is ∙ write (resumed g l (fed_as r)) w
