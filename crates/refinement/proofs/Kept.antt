-- A run stays in range: from what an accepted start leaves, over any list of replies.
--     session-kept              no session of a run is answered 13
--     counts-after, closing_after     what bounds the counts of any session of a run, finished ones included
-- Assumes nothing.
use mathlib.Core.List.{List, [], ◌∷◌}
use mathlib.Core.Path.{◌≡◌, ◌∙◌}
use Prim.Native.Nat.{ℕ, ◌-◌, ◌^◌}
use native.Mathlib.Omega.{arith}
use lib.Ieee.{Float}
use lib.ListN.{length, replicate, length-replicate, get_or-replicate}
use Rattle.loops.proofs.Part.{length-put_part}
use Rattle.numbers.specs.Float.{zero_f}
use Rattle.common.specs.State.{Given}
use Rattle.common.specs.Layout.{y_at, work_length}
use Rattle.common.specs.Rules.{icount20}
use Rattle.common.specs.Ranges.{Counts, Lent}
use Rattle.between_steps.proofs.Within.{core_of, Within, counters-of}
use Rattle.questions.specs.declared.Phase.{Phase}
use Rattle.questions.specs.Requires.{Resumes, UnlessFinished}
use Rattle.questions.specs.Turns.{RunState}
use Rattle.rules.specs.Play.{Play, ret, ask, tell, say}
use Rattle.rules.specs.Rules.{Start, beginning, start}
use Rattle.rules.specs.Steps.{Step}
use Rattle.rules.specs.Replies.{Reply, fed}
use Rattle.rules.specs.Counts.{Counted, CountedAt}
use Rattle.rules.proofs.Demands.{counts-kept, counts-below}
use Rattle.invariants.proofs.Keeps.{Invariant, Held, HoldsIn, each, Keeps}
use Rattle.invariants.proofs.Walk.{resume-keeps}
use Rattle.invariants.proofs.Lent.{lent-keeps}
use Rattle.invariants.proofs.Ranges.{Closing, closing-of, Ranged, ClosingAt, ranges-keep, within-initial}
use Rattle.invariants.specs.Next.{session_found}
use Rattle.refinement.specs.Shown.{resumed, reached_after}
use Rattle.refinement.specs.AtNode.{started_at}
use Rattle.refinement.specs.Follows.{state_at}
use Rattle.refinement.specs.InRun.{Accepts, SessionKept}
use Rattle.refinement.proofs.Follows.{follows}

-- what holds while a run goes on
unless : {B S O X : Type 0} (phase : Phase) → (B → X) → (S → X) → (O → Unit {0}) → Held phase B S O
    → UnlessFinished phase X
unless Phase.FirstDerivative b s o h = b h
unless Phase.FirstReport b s o h = b h
unless Phase.FirstModified b s o h = b h
unless Phase.Opened b s o h = s h
unless Phase.JacobianAsked b s o h = s h
unless Phase.DifferenceColumn b s o h = s h
unless Phase.FurtherDerivative b s o h = s h
unless Phase.Restep b s o h = s h
unless Phase.Report b s o h = b h
unless Phase.Modified b s o h = b h
unless Phase.Finished b s o h = tt

-- ---- the start

module _ (g : Given) (a : Start) (ok : Accepts g a) where
  lent-start : Lent g.s.n (beginning g a).w (beginning g a).p
  unfolding beginning
  lent-start =
      let n = g.s.n in
      let zeros = replicate (work_length n) zero_f in
      let long : length zeros ≡ work_length n = length-replicate _ _ in
      record {
        sized = length-put_part (y_at n) n zeros (omega arith) a.y0 ok.sized ∙ long;
        pivots = length-replicate _ _;
        below = λ k h. omega (arith, get_or-replicate {A = ℕ} n k 0 0 h);
      }

  -- ---- the replies

  -- what a reply keeps a list of replies keeps
  after-keeps : {B S O : Invariant} → ((time : Float) → Keeps g time B S O) → (l : RunState)
      (rs : List Reply) → HoldsIn B S O l → HoldsIn B S O (reached_after g l rs)
  unfolding reached_after
  after-keeps k l [] h = h
  after-keeps k l (r ∷ rs) h =
      after-keeps k (resumed g l r) rs
      (resume-keeps g l.phase l.st r.kind r.numbers r.time (k r.time) h)

  -- at most as many steps as may be, so icount is at least 20
  abbrev InRanges : RunState → Type 0
  InRanges l = HoldsIn (Ranged g.s icount20 g.s.maxsteps 0 0) (Ranged g.s icount20 g.s.maxsteps 0 1)
      (ClosingAt g.s icount20 g.s.maxsteps 0) l

  kept-after : (rs : List Reply) → InRanges (reached_after g (started_at g a) rs)
  unfolding beginning
  kept-after rs =
      after-keeps
      (ranges-keep g.s icount20 g.s.maxsteps 0 ok.settings (omega arith)
      (omega (arith, ok.settings.maxsteps)) g.rtol g.atol)
      (started_at g a) rs (within-initial g.s ok.settings a.x0 a.h a.hmin a.hmxi)

  lent-after : (rs : List Reply) → let l = reached_after g (started_at g a) rs in Lent g.s.n l.st.w l.st.p
  lent-after rs =
      each (reached_after g (started_at g a) rs).phase (λ h. h) (λ h. h) (λ h. h)
      (after-keeps (lent-keeps g) (started_at g a) rs lent-start)

  pub counts-after : (rs : List Reply) → Counts (reached_after g (started_at g a) rs).st.c (2 ^ 62 - 1)
  counts-after rs =
      let z = fed g.s.n (start g a) [] rs in
      rw ((follows g a ok.settings).held rs).same
      (counts-below g.s _ ok.settings
      (counted z.play z.steps (counts-kept g a ok.settings rs))).0
    where
      counted : (p : Play) (xs : List Step) → CountedAt g p xs → Counted g.s (state_at p).c
      counted (ret e) xs h = h
      counted (ask q x k) xs h = h
      counted (tell r x k) xs h = h
      counted (say e p) xs h = absurd h

  pub closing_after : (rs : List Reply) → Closing g.s 0 (core_of (reached_after g (started_at g a) rs).st.c)
  closing_after rs =
      each (reached_after g (started_at g a) rs).phase (λ h. closing-of h) (λ h. closing-of h) (λ h. h)
      (kept-after rs)

  pub session-kept : SessionKept g a
  session-kept rs =
      let l = reached_after g (started_at g a) rs in
      unless l.phase (λ h. resumes 0 h) (λ h. resumes 1 h) (λ h. tt) (kept-after rs)
    where
      resumes : (under : ℕ) → let l = reached_after g (started_at g a) rs in
          Within g.s icount20 g.s.maxsteps 0 under (core_of l.st.c)
          → Resumes (session_found g l) g.rtol g.atol l.st.w l.st.p
      resumes under h = record {
        ranges = record {
          settings = ok.settings;
          counts = counts-after rs;
          orders = h.orders;
          counters = counters-of ok.settings (reached_after g (started_at g a) rs).st.c h
              (omega (arith, ok.settings.maxsteps));
        };
        relative = ok.relative;
        absolute = ok.absolute;
        lent = lent-after rs;
      }
