-- What an accepted start leaves: the machine's state at the root of the tree, kept in the session's bytes.
--     begun-is        the call that began the run
--     begun-run       what the start was given is what a run asks for
--     begun-keeps     its session
-- Assumes nothing.
use mathlib.Core.Bool.{true}
use mathlib.Core.List.{List, []}
use mathlib.Core.Logic.{inl, inr}
use mathlib.Core.Path.{◌≡◌, refl, ap, ◌∙◌}
use Prim.Native.Nat.{ℕ, ◌-◌, ◌≤◌}
use native.Mathlib.Omega.{arith}
use lib.Dec.{eqb, lit<}
use lib.Ieee.{Float}
use lib.ListN.{length}
use borrow.Author.Tests.{eq-eqb}
use Rattle.loops.specs.Part.{put_part}
use Rattle.numbers.specs.Float.{zero_f}
use Rattle.vectors.specs.Tolerance.{List1OrN}
use Rattle.questions.specs.declared.Session.{Session}
use Rattle.questions.specs.Requires.{Resumes}
use Rattle.common.specs.SessionWords.{rtol_at, atol_at, session_length}
use Rattle.common.specs.Limits.{max_states}
use Rattle.common.specs.Initial.{initial_of}
use Rattle.refusals.specs.Start.{accepted_settings}
use Rattle.session.specs.Fields.{counts_of}
use Rattle.session.specs.Session.{encode_of, decode_of, put_tolerances_of, OneOrN, tolerances_in_range, in_range_of}
use Rattle.session.proofs.Fits.{FloatsFit, Fits, ListFits}
use Rattle.session.proofs.Back.{length-encode, encoded-count, finished-encode, decode-encode, counts-back}
use Rattle.session.proofs.Back.{length-put-tolerances, put_other, counts-put, decode-put, rtol-put, atol-put}
use Rattle.session.proofs.Back.{rtol-slot, atol-slot}
use Rattle.session.proofs.Passes.{assembled, fields-in-range, pivots-in-range, tolerances-put}
use Rattle.session.proofs.Listed.{counts-fit}
use Rattle.common.proofs.Ranges.{wider}
use Rattle.common.specs.State.{Given}
use Rattle.rules.specs.Rules.{Start, beginning}
use Rattle.invariants.specs.Next.{session_found}
use Rattle.refinement.specs.Shown.{reached_after}
use Rattle.refinement.specs.AtNode.{started_at}
use Rattle.refinement.proofs.Kept.{session-kept}
use Rattle.invariants.proofs.Fits.{start_fits}
use Rattle.invariants.proofs.Host.{is-f64-fits}
use Rattle.answers.specs.Answers.{plain_reply}
use Rattle.answers.specs.Called.{Buffers}
use Rattle.raimsklo.specs.Starts.{kept_of, accepted_start_of}
use Rattle.raimsklo.specs.Calls.{Problem, lengths_of, start_at, start_of}
use Rattle.calls.specs.WellFormed.{WellFormed}
use Rattle.calls.specs.Run.{Begins}
use Rattle.calls.specs.Follow.{given_of, from_of}
use Rattle.calls.proofs.WellFormed.{refusal_of, some-start, start-number-is, well-formed}
use Rattle.calls.proofs.Slots.{slots-put}
use Rattle.calls.proofs.Keeps.{Runs, Keeps, pivots-below}
use Rattle.calls.proofs.Answers.{lent_of}

-- ---- the call of an accepted start

module _ (p : Problem) (b : Buffers) where
  abbrev given : Given
  given = given_of p b

  abbrev from : Start
  from = from_of p

  abbrev first : Session
  first = session_found given (started_at given from)

  abbrev pub begun_bytes : List ℕ
  begun_bytes = put_tolerances_of p.rtol p.atol (encode_of first b.session)

  pub begun-is : WellFormed p b → start_of p b ≡ record {
    reply = plain_reply 100 0 zero_f p.x0;
    lent = lent_of (started_at given from) begun_bytes (put_part 0 (length p.y0) b.question p.y0);
  }
  unfolding start_at accepted_start_of kept_of accepted_settings beginning
  begun-is formed =
      let number : (refusal_of p b).number ≡ 0 = ((start-number-is p b).0 ((well-formed p b).0 formed)).1 in
      let e : eqb (refusal_of p b).number 0 ≡ true = eq-eqb (refusal_of p b).number 0 number in
      some-start p b formed.states.0
      ∙ rw (e, formed.work, formed.pivots)

-- ---- its run and its session

module _ (p : Problem) (b : Buffers) (begins : Begins p b) where
  abbrev g : Given
  g = given_of p b

  abbrev a : Start
  a = from_of p

  abbrev x : Session
  x = first p b

  abbrev bytes : List ℕ
  bytes = begun_bytes p b

  formed : WellFormed p b
  formed = begins.formed

  one-or-n : (list : List Float) → OneOrN (length p.y0) (length list) → List1OrN list (length p.y0 - 1)
  one-or-n list (inl e) = inl e
  one-or-n list (inr e) = inr (omega (arith, e, formed.states.0))

  pub begun-run : Runs g a
  unfolding accepted_settings
  begun-run =
      record {
        ok = record {
          settings = record {
            n = formed.states;
            maxsteps = formed.maxsteps;
            mxordn = formed.mxordn;
            mxords = formed.mxords;
            maxcor = formed.maxcor;
            msbp = formed.msbp;
            mxncf = formed.mxncf;
          };
          relative = one-or-n p.rtol formed.rtol;
          absolute = one-or-n p.atol formed.atol;
          sized = refl;
        };
        nrtol = formed.rtol;
        natol = formed.atol;
      }

  room : session_length ≤ length b.session
  room = omega (arith, formed.session)

  floats : FloatsFit x
  unfolding beginning
  floats =
      let f = begins.floats in
      start_fits p.x0 p.xend p.options (lengths_of p b) (is-f64-fits _ f.x0) (is-f64-fits _ f.xend)
      (is-f64-fits _ f.smallest) (is-f64-fits _ f.first)

  rtol-fits : ListFits p.rtol
  rtol-fits i h = is-f64-fits _ (begins.floats.rtol i h)

  atol-fits : ListFits p.atol
  atol-fits i h = is-f64-fits _ (begins.floats.atol i h)

  resumes : Resumes x p.rtol p.atol (started_at g a).st.w (started_at g a).st.p
  unfolding reached_after
  resumes = session-kept g a begun-run.ok []

  fits : Fits x
  unfolding beginning initial_of
  fits = record {
    counts = let r = resumes.ranges in
        counts-fit x r.settings r.counts r.orders
        (wider (omega arith) (omega arith) (omega arith) r.counters) (omega arith) begun-run.nrtol
        begun-run.natol;
    floats = floats;
  }

  short : (list : List Float) → OneOrN (length p.y0) (length list) → length list ≤ max_states
  short list (inl e) = omega arith
  short list (inr e) = omega (arith, formed.states.1)

  signs : tolerances_in_range bytes g.s ≡ true
  unfolding accepted_settings
  signs =
      tolerances-put p.rtol p.atol (encode_of x b.session) (rw length-encode room) g.s refl refl
      (short p.rtol formed.rtol) (short p.atol formed.atol) rtol-fits atol-fits
      formed.relative formed.absolute

  decoded : decode_of bytes ≡ x
  decoded =
      decode-put p.rtol p.atol (encode_of x b.session) ∙ decode-encode x b.session room fits

  pub begun-passed : in_range_of bytes (started_at g a).st.p ≡ true
  unfolding beginning initial_of
  begun-passed =
      assembled bytes (started_at g a).st.p x (counts_of x) decoded
      (counts-put p.rtol p.atol (encode_of x b.session) ∙ counts-back x b.session room fits)
      (fields-in-range x fits resumes.ranges begun-run.nrtol begun-run.natol) signs
      (pivots-in-range (started_at g a).st.p g.s.n (pivots-below resumes.lent))

  pub begun-keeps : Keeps g (started_at g a) bytes
  unfolding accepted_settings
  begun-keeps =
      let e = encode_of x b.session in
      let in_e : session_length ≤ length e = rw length-encode room in
      record {
        long = length-put-tolerances p.rtol p.atol e ∙ length-encode x b.session
            ∙ formed.session;
        lent = resumes.lent;
        states = put_other p.rtol p.atol e 1 (lit< tt)
            ∙ encoded-count x b.session room 1 (lit< tt) (omega (arith, begun-run.ok.settings.n.1));
        finished = ap (λ (w : ℕ). eqb w 10) (put_other p.rtol p.atol e 0 (lit< tt))
            ∙ finished-encode x b.session room;
        rtol = rtol-put p.rtol p.atol e in_e (short p.rtol formed.rtol) rtol-fits;
        atol = atol-put p.rtol p.atol e in_e (short p.atol formed.atol) atol-fits;
        slots = (
          slots-put bytes rtol_at p.rtol (short p.rtol formed.rtol) rtol-fits
              (rtol-slot p.rtol p.atol e in_e rtol-fits),
          slots-put bytes atol_at p.atol (short p.atol formed.atol) atol-fits
              (atol-slot p.rtol p.atol e in_e atol-fits),
        );
        signs = signs;
        floats = floats;
        decoded = decoded;
        passed = λ e. begun-passed;
      }
