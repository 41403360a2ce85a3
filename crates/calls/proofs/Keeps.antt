-- A session's bytes between two calls of a run: they hold the machine's record, the tolerances and the ranges of 13, so
-- that the next reply finds the machine as the last left it.
--     Runs            what an accepted start gives
--     Keeps           what bytes keep of where the machine stands
--     counts-fit-of   the bytes can keep the counts of any session of a run
--     keeps-next      what a reply leaves keeps where it leads
-- Assumes nothing.
use mathlib.Core.Bool.{true, false}
use mathlib.Core.List.{List}
use mathlib.Core.Logic.{◌⊎◌, inl, inr, ⊎_elim, ⊎_map}
use mathlib.Core.Path.{◌≡◌, refl, sym, ap, ◌∙◌}
use Prim.Native.Nat.{ℕ, ◌-◌, ◌^◌, ◌≤◌, ◌<◌}
use native.Mathlib.Omega.{arith}
use lib.Dec.{lit<}
use lib.Ieee.{Float}
use lib.ListN.{length, get_or}
use Rattle.loops.specs.Part.{part}
use Rattle.loops.proofs.Test.{differs}
use Rattle.questions.specs.declared.Phase.{Phase}
use Rattle.common.specs.Ranges.{Counts, Lent}
use Rattle.questions.specs.Requires.{UnlessFinished}
use Rattle.questions.specs.Turns.{RunState}
use Rattle.invariants.proofs.Lent.{resume-lent}
use Rattle.session.proofs.Fits.{Fit, CountsFit, FloatsFit, Fits}
use Rattle.session.specs.Session.{encode_of, decode_of, rtol_slots, atol_slots, stored_n, finished_in, OneOrN}
use Rattle.session.specs.Session.{tolerances_in_range, in_range_of}
use Rattle.session.proofs.Back.{length-encode, encoded-count, finished-encode, decode-encode, rtol-kept, atol-kept}
use Rattle.session.proofs.Listed.{counts-fit}
use Rattle.session.proofs.Passes.{passes, tolerances-kept}
use Rattle.common.specs.SessionWords.{session_length}
use Rattle.common.specs.State.{Given}
use Rattle.rules.specs.Rules.{Start}
use Rattle.rules.specs.Replies.{Reply as Fed}
use Rattle.invariants.specs.Next.{session_found}
use Rattle.refinement.specs.Shown.{resumed}
use Rattle.refinement.specs.InRun.{Accepts, InRun}
use Rattle.between_steps.proofs.Within.{core_of}
use Rattle.invariants.proofs.Ranges.{Closing}
use Rattle.invariants.proofs.Fits.{floats-kept}
use Rattle.calls.specs.Follow.{slots_of}
use Rattle.calls.proofs.Agrees.{is_over}

-- ---- phases

going-or-over : (X : Type 0) (phase : Phase)
    → ((is_over phase ≡ false) × (UnlessFinished phase X → X)) ⊎ (phase ≡ Phase.Finished)
going-or-over X Phase.FirstDerivative = inl (refl, λ x. x)
going-or-over X Phase.FirstReport = inl (refl, λ x. x)
going-or-over X Phase.FirstModified = inl (refl, λ x. x)
going-or-over X Phase.Opened = inl (refl, λ x. x)
going-or-over X Phase.JacobianAsked = inl (refl, λ x. x)
going-or-over X Phase.DifferenceColumn = inl (refl, λ x. x)
going-or-over X Phase.FurtherDerivative = inl (refl, λ x. x)
going-or-over X Phase.Restep = inl (refl, λ x. x)
going-or-over X Phase.Report = inl (refl, λ x. x)
going-or-over X Phase.Modified = inl (refl, λ x. x)
going-or-over X Phase.Finished = inr refl

pub over-or-not : (phase : Phase) → (is_over phase ≡ false) ⊎ (phase ≡ Phase.Finished)
over-or-not phase = ⊎_map (λ p. p.0) (λ e. e) (going-or-over (Unit {0}) phase)

pub unless : {X : Type 0} (phase : Phase) → is_over phase ≡ false → UnlessFinished phase X → X
unless {X} phase e x = ⊎_elim (λ p. p.1 x) (λ q. differs (sym e ∙ ap is_over q)) (going-or-over X phase)

-- ---- what is kept

pub record Runs (g : Given) (a : Start) : Type 0 where
  pub ok : Accepts g a
  pub nrtol : OneOrN g.s.n g.s.nrtol
  pub natol : OneOrN g.s.n g.s.natol

pub record Keeps (g : Given) (l : RunState) (bytes : List ℕ) : Type 0 where
  pub long : length bytes ≡ session_length
  pub lent : Lent g.s.n l.st.w l.st.p
  pub states : stored_n bytes ≡ g.s.n
  pub finished : finished_in bytes ≡ is_over l.phase
  pub rtol : part 0 g.s.nrtol (rtol_slots bytes) ≡ g.rtol
  pub atol : part 0 g.s.natol (atol_slots bytes) ≡ g.atol
  pub slots : (rtol_slots bytes ≡ slots_of g.rtol) × (atol_slots bytes ≡ slots_of g.atol)
  pub signs : tolerances_in_range bytes g.s ≡ true
  pub floats : FloatsFit (session_found g l)
  pub decoded : decode_of bytes ≡ session_found g l
  pub passed : is_over l.phase ≡ false → in_range_of bytes l.st.p ≡ true

-- ---- an encoding

pub pivots-below : {n : ℕ} {work : List Float} {ipiv : List ℕ} → Lent n work ipiv
    → (k : ℕ) → k < length ipiv → get_or ipiv k 0 < n
pivots-below p k h = p.below k (omega (arith, p.pivots))

module _ (g : Given) (a : Start) (run : Runs g a) where
  -- a run's counts, whether it has ended or not
  pub record Bounded (l : RunState) : Type 0 where
    pub closing : Closing g.s 0 (core_of l.st.c)
    pub counts : Counts l.st.c (2 ^ 62 - 1)

  pub counts-fit-of : (l : RunState) → Bounded l → CountsFit (session_found g l)
  counts-fit-of l h =
      let e = h.closing in
      counts-fit (session_found g l) run.ok.settings h.counts e.orders e.counters
      (omega (arith, e.ialth)) run.nrtol run.natol

  -- ---- after a reply

  module _ (l : RunState) (bytes : List ℕ) (k : Keeps g l bytes) (r : Fed) (time : Fit r.time)
      (bounded : Bounded (resumed g l r)) (in_run : InRun g (resumed g l r)) where
    abbrev after : RunState
    after = resumed g l r

    abbrev written : List ℕ
    written = encode_of (session_found g after) bytes

    pub keeps-next : Keeps g after written
    keeps-next =
        let room : session_length ≤ length bytes = omega (arith, k.long) in
        let x = session_found g after in
        let floats = floats-kept g l r.kind r.numbers r.time k.floats time in
        let fits : Fits x = record { counts = counts-fit-of after bounded; floats = floats } in
        record {
          long = length-encode x bytes ∙ k.long;
          lent = resume-lent g l.phase l.st r.numbers r.time k.lent r.kind;
          states = encoded-count x bytes room 1 (lit< tt) (omega (arith, run.ok.settings.n.1));
          finished = finished-encode x bytes room;
          rtol = rw (rtol-kept x bytes room) k.rtol;
          atol = rw (atol-kept x bytes room) k.atol;
          slots = (rtol-kept x bytes room ∙ k.slots.0, atol-kept x bytes room ∙ k.slots.1);
          signs = tolerances-kept x bytes room g.s k.signs;
          floats = floats;
          decoded = decode-encode x bytes room fits;
          passed = λ e.
              let r = unless after.phase e in_run in
              passes x bytes room fits r.ranges run.nrtol run.natol k.signs after.st.p
              (pivots-below r.lent);
        }
