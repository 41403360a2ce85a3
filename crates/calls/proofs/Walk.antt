-- One call of a run: it is refused with all as it was, or it says what the tree says at the node that follows, and the
-- run stands there.
--     At              where a run stands after a call: at a node of the tree, with the session of the machine there
--     Outcome, call   one reply; Moves, moves: what both its outcomes have
--     begun-at        the start
-- Assumes nothing.
use mathlib.Core.Bool.{Bool, true, false, cond, not, ◌&&◌, true≢false}
use mathlib.Core.List.{List, [], ◌∷◌, ◌++◌}
use mathlib.Core.Logic.{◌⊎◌, inl, inr}
use mathlib.Core.Path.{◌≡◌, refl, sym, ap, ◌∙◌}
use Prim.Native.Nat.{ℕ}
use native.Mathlib.Omega.{arith}
use lib.Ieee.{Float}
use lib.ListN.{length, replicate, length-replicate}
use borrow.Author.Tests.{eqb-true}
use Rattle.std.proofs.lemmas.Bool.{and_parts}
use Rattle.loops.proofs.Part.{part-put}
use Rattle.numbers.specs.Float.{zero_f}
use Rattle.between_steps.specs.declared.Kind.{Kind}
use Rattle.questions.specs.declared.Phase.{Phase}
use Rattle.questions.specs.Turns.{RunState}
use Rattle.common.specs.Initial.{initial_of}
use Rattle.machine.specs.Resume.{is_asked}
use Rattle.refusals.specs.Start.{accepted_settings}
use Rattle.invariants.specs.Host.{IsF64}
use Rattle.invariants.proofs.Host.{is-f64-fits}
use Rattle.session.specs.Session.{encode_of}
use Rattle.rules.specs.Play.{Play}
use Rattle.common.specs.State.{Given}
use Rattle.common.specs.Layout.{question_length, work_length, y_at}
use Rattle.rules.specs.Rules.{Start, beginning, start}
use Rattle.rules.specs.Replies.{Reply as Fed}
use Rattle.invariants.specs.Next.{session_found}
use Rattle.refinement.specs.Shown.{resumed, reached_after, is_taken, asks, tree_next}
use Rattle.refinement.specs.AtNode.{AtNode, started_at}
use Rattle.refinement.specs.InRun.{InRun}
use Rattle.refinement.proofs.Follows.{replies, follows, arrived}
use Rattle.refinement.proofs.Kept.{counts-after, closing_after, session-kept}
use Rattle.answers.specs.Answers.{plain_reply, question_reply}
use Rattle.answers.specs.Called.{Buffers, Called}
use Rattle.replies.specs.Replies.{is_kind, kind_of, question_of}
use Rattle.raimsklo.specs.Calls.{Problem, start_of, reply_of}
use Rattle.calls.specs.Run.{Begins, ReplyCall, lent_for, replied, is_refusal}
use Rattle.calls.specs.Follow.{given_of, from_of, tree_of, Said, says, said_by, said_at, fed_as, is_awaited, is_sized}
use Rattle.calls.specs.Follow.{said_to, next_of, PhaseAt}
use Rattle.calls.proofs.Agrees.{is_over, Agrees, not-refusal}
use Rattle.calls.proofs.Turns.{resume-agrees}
use Rattle.calls.proofs.Said.{says-node}
use Rattle.calls.proofs.Phases.{phase-node}
use Rattle.calls.proofs.Keeps.{over-or-not, unless, Runs, Keeps, Bounded, keeps-next}
use Rattle.calls.proofs.Answers.{lent_of, reply-sizes, reply-unasked, reply-taken}
use Rattle.calls.proofs.Start.{begun-run, begun-is, begun-keeps}

-- a phase that takes a reply is not the last
pub not-over : (phase : Phase) (kind : Kind) (len n : ℕ) → is_asked phase kind len n ≡ true → is_over phase ≡ false
not-over phase kind len n h = by (over-or-not phase)
  where
    by : (is_over phase ≡ false) ⊎ (phase ≡ Phase.Finished) → is_over phase ≡ false
    by (inl e) = e
    by (inr e) = absurd (true≢false (sym (rw e at h)))

module _ (g : Given) (a : Start) (run : Runs g a) where
  abbrev l₀ : RunState
  l₀ = started_at g a

  abbrev Reached : RunState → Type 0
  Reached l = (rs : List Fed) × (l ≡ reached_after g l₀ rs)

  after_one : (l : RunState) (rs : List Fed) (r : Fed)
      → reached_after g l (rs ++ (r ∷ [])) ≡ resumed g (reached_after g l rs) r
  unfolding reached_after
  after_one l [] r = refl
  after_one l (q ∷ rs) r = after_one (resumed g l q) rs r

  reached-next : (l : RunState) (r : Fed) → Reached l → Reached (resumed g l r)
  reached-next l r h = (h.0 ++ (r ∷ []), ap (λ (m : RunState). resumed g m r) h.1 ∙ sym (after_one l₀ h.0 r))

  in-run : (l : RunState) → Reached l → InRun g l
  in-run l h = rw h.1 (session-kept g a run.ok h.0)

  bounded : (l : RunState) → Reached l → Bounded g a run l
  bounded l h = rw h.1 (record {
    closing = closing_after g a run.ok h.0;
    counts = counts-after g a run.ok h.0;
  })

  pub record At (t : Play) (l : RunState) (x : Called) : Type 0 where
    pub stands : AtNode g t l
    pub reached : Reached l
    pub work : x.lent.work ≡ l.st.w
    pub pivots : x.lent.pivots ≡ l.st.p
    pub keeps : Keeps g l x.lent.session
    pub phased : PhaseAt g.s.n t l.phase

  -- ---- a reply

  abbrev n : ℕ
  n = g.s.n

  abbrev pub leaves : Called → ReplyCall → ℕ → Called
  leaves x r number = record { reply = plain_reply number 0 zero_f zero_f; lent = lent_for x r }

  -- of the kind and length asked, with a question slice of the right length; what refuses any other
  abbrev pub is_fitting : Play → ReplyCall → Bool
  is_fitting t r = is_sized n r && is_awaited n t r

  abbrev pub refused_by : ReplyCall → ℕ
  refused_by r = cond (is_sized n r) 14 3

  -- a reply that is taken
  pub record Went (t : Play) (l : RunState) (x : Called) (r : ReplyCall) : Type 0 where
    pub at : At (tree_next t (fed_as r)) (resumed g l (fed_as r)) (replied x r)
    pub answer : (replied x r).reply ≡ question_reply (resumed g l (fed_as r)).question
    pub agrees : let u = resumed g l (fed_as r) in Agrees u.question u.phase u.st.c
    pub said : said_by (replied x r) ≡ said_at n (tree_next t (fed_as r)) r.question

  pub data Outcome (t : Play) (l : RunState) (x : Called) (r : ReplyCall) : Type 0 where
    refused : is_fitting t r ≡ false → replied x r ≡ leaves x r (refused_by r) → Outcome t l x r
    taken : is_fitting t r ≡ true → Went t l x r → Outcome t l x r

  module _ (t : Play) (l : RunState) (x : Called) (r : ReplyCall) (time : IsF64 r.time) (at : At t l x) where
    -- what is lent
    lent_is : lent_for x r ≡ lent_of l x.lent.session r.question
    lent_is = rw (at.work, at.pivots)

    abbrev found : Called
    found = reply_of r.kind r.numbers r.time (lent_of l x.lent.session r.question)

    answered-is : replied x r ≡ found
    answered-is = rw (at.work, at.pivots)

    takes : is_taken g l (fed_as r) ≡ asks g.s.n t (fed_as r)
    takes = (arrived g t l at.stands).holds.takes (fed_as r)

    module _ (sized : is_sized g.s.n r ≡ true) (known : is_kind r.kind ≡ true)
        (asked : asks g.s.n t (fed_as r) ≡ true) where
      abbrev m : RunState
      m = resumed g l (fed_as r)

      abbrev is-taken : is_taken g l (fed_as r) ≡ true
      is-taken = takes ∙ asked

      running : is_over l.phase ≡ false
      running = not-over l.phase (kind_of r.kind) (length r.numbers) g.s.n is-taken

      agrees : Agrees m.question m.phase m.st.c
      agrees = resume-agrees g l.phase l.st (kind_of r.kind) r.numbers r.time is-taken

      stands : AtNode g (tree_next t (fed_as r)) m
      stands = replies g t l (fed_as r) at.stands asked

      reached : Reached m
      reached = reached-next l (fed_as r) at.reached

      keeps : Keeps g m (encode_of (session_found g m) x.lent.session)
      keeps =
          keeps-next g a run l x.lent.session at.keeps (fed_as r) (is-f64-fits _ time)
          (bounded m reached) (in-run m reached)

      abbrev put : List Float
      put = question_of g.s m.phase m.st.c m.st.w r.question

      answered-taken : replied x r ≡ record {
        reply = question_reply m.question;
        lent = lent_of m (encode_of (session_found g m) x.lent.session) put;
      }
      answered-taken =
          answered-is
          ∙ reply-taken g a run l x.lent.session at.keeps r sized running (rw (known, is-taken)) agrees

      says-it : said_by (replied x r) ≡ said_at g.s.n (tree_next t (fed_as r)) r.question
      says-it =
          ap (λ (y : Called). said_by y) answered-taken
          ∙ says-node g (tree_next t (fed_as r)) m r.question stands agrees
          (λ e. (unless m.phase e (in-run m reached)).ranges.orders.nq.1)
          (omega (arith, keeps.lent.sized)) (eqb-true (length r.question) (question_length g.s.n) sized)

      went : Went t l x r
      went = record {
        at = rw answered-taken
            (record {
              stands = stands;
              reached = reached;
              work = refl;
              pivots = refl;
              keeps = keeps;
              phased = phase-node g m agrees (tree_next t (fed_as r)) stands;
            });
        answer = ap (λ (y : Called). y.reply) answered-taken;
        agrees = agrees;
        said = says-it;
      }

    call_at : (b c : Bool) → is_sized n r ≡ b → is_awaited n t r ≡ c → Outcome t l x r
    call_at false c s e =
        refused (rw s) (answered-is ∙ reply-sizes g a run l x.lent.session at.keeps r s ∙ rw (lent_is, s))
    call_at true false s e =
        let off : is_kind r.kind && is_taken g l (fed_as r) ≡ false = rw takes e in
        refused (rw (s, e))
        (answered-is ∙ reply-unasked g a run l x.lent.session at.keeps r s off ∙ rw (lent_is, s))
    call_at true true s e =
        let h = and_parts (is_kind r.kind) (asks n t (fed_as r)) e in
        taken (rw (s, e)) (went s h.0 h.1)

    pub call : Outcome t l x r
    call = call_at (is_sized n r) (is_awaited n t r) refl refl

  -- ---- what both outcomes have

  refused-refusal : (b : Bool) → is_refusal (plain_reply (cond b 14 3) 0 zero_f zero_f) ≡ true
  refused-refusal true = refl
  refused-refusal false = refl

  pub is-refusal : (t : Play) (l : RunState) (x : Called) (r : ReplyCall) → Outcome t l x r
      → is_refusal (replied x r).reply ≡ not (is_fitting t r)
  is-refusal t l x r (refused e q) = rw (q, e) (refused-refusal (is_sized n r))
  is-refusal t l x r (taken e w) =
      let u = resumed g l (fed_as r) in
      rw e (ap is_refusal w.answer ∙ not-refusal u.question u.phase u.st.c w.agrees)

  -- the run stands at the node that follows, which is the same where the reply is refused, and says what the tree says
  pub record Moves (t : Play) (x : Called) (r : ReplyCall) : Type 0 where
    pub left : RunState
    pub at : At (next_of n t r) left (replied x r)
    pub said : said_by (replied x r) ≡ said_to n t r

  said-to : (b c : Bool) (z : Said) (q : List Float)
      → cond b (cond c z (says (plain_reply 14 0 zero_f zero_f) q)) (says (plain_reply 3 0 zero_f zero_f) q)
      ≡ cond (b && c) z (says (plain_reply (cond b 14 3) 0 zero_f zero_f) q)
  said-to true true z q = refl
  said-to true false z q = refl
  said-to false c z q = refl

  moves-by : (t : Play) (l : RunState) (x : Called) (r : ReplyCall) → At t l x → Outcome t l x r → Moves t x r
  moves-by t l x r at (refused e q) = record {
    left = l;
    at = rw (e, q) (record {
      stands = at.stands;
      reached = at.reached;
      work = at.work;
      pivots = at.pivots;
      keeps = at.keeps;
      phased = at.phased;
    });
    said = rw (q, said-to (is_sized n r) (is_awaited n t r) _ _, e);
  }
  moves-by t l x r at (taken e w) = record {
    left = resumed g l (fed_as r);
    at = rw e w.at;
    said = rw (said-to (is_sized n r) (is_awaited n t r) _ _, e) w.said;
  }

  pub moves : (t : Play) (l : RunState) (x : Called) (r : ReplyCall) → IsF64 r.time → At t l x → Moves t x r
  moves t l x r f at = moves-by t l x r at (call t l x r f at)

-- ---- the start

module _ (p : Problem) (b : Buffers) (begins : Begins p b) where
  abbrev g : Given
  g = given_of p b

  abbrev a : Start
  a = from_of p

  pub begun-at : At g a (begun-run p b begins) (tree_of p b) (started_at g a) (start_of p b)
  unfolding reached_after
  begun-at =
      rw (begun-is p b begins.formed)
      (let stands = (follows g a (begun-run p b begins).ok.settings).stands in
      record {
        stands = stands;
        reached = ([], refl);
        work = refl;
        pivots = refl;
        keeps = begun-keeps p b begins;
        phased = phase-node g (started_at g a) refl (tree_of p b) stands;
      })

  pub begun-says : said_by (start_of p b) ≡ said_at g.s.n (tree_of p b) b.question
  unfolding start beginning initial_of accepted_settings
  begun-says =
      let n = length p.y0 in
      let zeros = replicate (work_length n) zero_f in
      let long : length zeros ≡ work_length n = length-replicate _ _ in
      let e = part-put (y_at n) n zeros p.y0 (omega arith) refl in
      ap (λ (y : Called). said_by y) (begun-is p b begins.formed) ∙ rw e
