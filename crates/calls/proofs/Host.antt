-- A host of one state through the calls does what it does to the machine, as long as each of its replies is asked for.
--     hosted          what the machine leaves after a list of acts
--     allowed         each reply is asked for, and `continues` comes at a report
--     Host, hosts     where the calls stand, and after a list of acts
-- Assumes nothing.
use mathlib.Core.Bool.{Bool, true, false, ◌&&◌}
use mathlib.Core.List.{List, [], ◌∷◌, ◌++◌}
use mathlib.Core.Path.{◌≡◌, refl, sym, ap, ◌∙◌}
use Prim.Native.Nat.{ℕ, ◌+◌, ◌≤◌}
use native.Mathlib.Omega.{arith}
use lib.Ieee.{Float}
use lib.ListN.{length, take, drop, length-append}
use lib.Seq.{take_at, length-take-le}
use Rattle.std.proofs.lemmas.Bool.{and_parts}
use Rattle.loops.proofs.Test.{differs}
use Rattle.loops.specs.Part.{part, put_part}
use Rattle.loops.proofs.Part.{length_part}
use Rattle.numbers.specs.Float.{zero_f}
use Rattle.common.specs.declared.Common.{Common}
use Rattle.common.specs.Layout.{y, y_at, matrix_at}
use Rattle.between_steps.specs.declared.Answer.TheVariants.{Continue}
use Rattle.questions.specs.declared.Phase.{Phase}
use Rattle.questions.specs.declared.Question.{Question}
use Rattle.questions.specs.Turns.{RunState}
use Rattle.rules.specs.Play.{Play}
use Rattle.common.specs.State.{Given}
use Rattle.rules.specs.Rules.{Start}
use Rattle.refinement.specs.Shown.{Shown, snapshot_shown, shown_as, is_taken, resumed, tree_next}
use Rattle.refinement.specs.AtNode.{derivative, answer}
use Rattle.refinement.specs.Follows.{state_at}
use Rattle.refinement.proofs.Follows.{arrived}
use Rattle.answers.specs.declared.Reply.{Reply}
use Rattle.answers.specs.Answers.{question_reply}
use Rattle.answers.specs.Called.{Called}
use Rattle.replies.specs.Replies.{is_kind, kind_of}
use Rattle.invariants.specs.Host.{IsF64}
use Rattle.invariants.proofs.Floats.{literal}
use Rattle.invariants.proofs.Host.{fits-is-f64}
use Rattle.calls.specs.Run.{ReplyCall, replied}
use Rattle.calls.specs.Follow.{Said, said_by, said_of, said_at, fed_as, is_sized}
use Rattle.calls.specs.Sums.{Act, gives, continues, reply_with, acted_by, hosted_by}
use Rattle.calls.proofs.Agrees.{Agrees}
use Rattle.calls.proofs.Keeps.{Runs}
use Rattle.calls.proofs.Walk.{At, Outcome, refused, taken, call}

-- ---- the acts

abbrev pub acted : Given → RunState → Act → RunState
acted g l (gives f) = resumed g l (derivative (f ∷ []) zero_f)
acted g l continues = resumed g l (answer Continue (y g.s.n l.st.w) l.st.c.tn)

unfoldable pub hosted : Given → RunState → List Act → RunState
hosted g l [] = l
hosted g l (a ∷ acts) = hosted g (acted g l a) acts

abbrev pub is_reported : Question → Bool
is_reported (Question.Derivative a) = false
is_reported (Question.Jacobian a) = false
is_reported (Question.FirstReport a) = true
is_reported (Question.Report r) = true
is_reported (Question.Finished e) = false
is_reported (Question.StepRefused h) = false
is_reported (Question.WeightRefused i) = false
is_reported Question.Unasked = false

abbrev pub is_fine : Given → RunState → Act → Bool
is_fine g l (gives f) = is_taken g l (derivative (f ∷ []) zero_f)
is_fine g l continues =
    is_reported l.question && is_taken g l (answer Continue (y g.s.n l.st.w) l.st.c.tn)

unfoldable pub allowed : Given → RunState → List Act → Bool
allowed g l [] = true
allowed g l (a ∷ acts) = is_fine g l a && allowed g (acted g l a) acts

-- ---- what a host reads

put_first : (n k : ℕ) (q v s : List Float) → length v ≡ n → part 0 n (put_part n k (put_part 0 n q v) s) ≡ v
put_first n k q v s e =
    let z = put_part 0 n q v in
    let long : n ≤ length z = omega (arith, e, length-append v (drop n q)) in
    take_at (take n z) (s ++ drop k (drop n z)) n (length-take-le n z long) ∙ take_at v (drop n q) n e

module _ (n order : ℕ) (c : Common) (work q : List Float) (room : matrix_at n ≤ length work) where
  reads-state : (v : Question) (phase : Phase) → is_reported v ≡ true
      → part 0 n (said_of n order (shown_as n v phase c work) q).question ≡ y n work
  unfolding shown_as
  reads-state (Question.FirstReport a) phase h =
      put_first n 0 q (y n work) [] (length_part (y_at n) n work (omega arith))
  reads-state (Question.Report r) phase h =
      let s = snapshot_shown n r.order c work in
      put_first n (length s) q (y n work) s (length_part (y_at n) n work (omega arith))
  reads-state (Question.Derivative a) phase h = differs h
  reads-state (Question.Jacobian a) phase h = differs h
  reads-state (Question.Finished e) phase h = differs h
  reads-state (Question.StepRefused v) phase h = differs h
  reads-state (Question.WeightRefused i) phase h = differs h
  reads-state Question.Unasked phase h = differs h

reads-time : (v : Question) (phase : Phase) (c : Common) → is_reported v ≡ true → Agrees v phase c
    → (question_reply v).time ≡ c.tn
reads-time (Question.FirstReport a) phase c h g = g.1
reads-time (Question.Report r) phase c h g = g.2
reads-time (Question.Derivative a) phase c h g = differs h
reads-time (Question.Jacobian a) phase c h g = differs h
reads-time (Question.Finished e) phase c h g = differs h
reads-time (Question.StepRefused v) phase c h g = differs h
reads-time (Question.WeightRefused i) phase c h g = differs h
reads-time Question.Unasked phase c h g = differs h

-- ---- along the acts

module _ (g : Given) (a : Start) (run : Runs g a) (one : g.s.n ≡ 1) where
  pub record Host (l : RunState) (x : Called) : Type 0 where
    pub node : Play
    pub at : At g a run node l x
    pub question : List Float
    pub said : said_by x ≡ said_at g.s.n node question
    pub answer : x.reply ≡ question_reply l.question
    pub agrees : Agrees l.question l.phase l.st.c

  -- what was said is what the machine shows
  pub said-shown : (l : RunState) (x : Called) (h : Host l x)
      → said_by x ≡ said_of g.s.n (state_at h.node).c.nq
      (shown_as g.s.n l.question l.phase l.st.c l.st.w) h.question
  said-shown l x h =
      h.said
      ∙ ap (λ (v : Shown). said_of g.s.n (state_at h.node).c.nq v h.question)
      (sym (arrived g h.node l h.at.stands).shows)

  sized : (kind : ℕ) (numbers : List Float) (time : Float) (q : List Float) → length q ≡ 20
      → is_sized g.s.n (reply_with kind numbers time q) ≡ true
  sized kind numbers time q long = rw (one, long) refl

  goes_by : (l : RunState) (x : Called) (r : ReplyCall) (h : Host l x) → is_sized g.s.n r ≡ true
      → is_kind r.kind ≡ true → is_taken g l (fed_as r) ≡ true → Outcome g a run h.node l x r
      → Host (resumed g l (fed_as r)) (replied x r)
  goes_by l x r h s k t (refused e q) =
      let i = (arrived g h.node l h.at.stands).holds.takes (fed_as r) in
      let asked = sym i ∙ t in
      differs (sym e ∙ rw (s, k, asked))
  goes_by l x r h s k t (taken e w) = record {
    node = tree_next h.node (fed_as r);
    at = w.at;
    question = r.question;
    said = w.said;
    answer = w.answer;
    agrees = w.agrees;
  }

  goes : (l : RunState) (x : Called) (r : ReplyCall) → IsF64 r.time → Host l x → is_sized g.s.n r ≡ true
      → is_kind r.kind ≡ true → is_taken g l (fed_as r) ≡ true → Host (resumed g l (fed_as r)) (replied x r)
  goes l x r f h s k t = goes_by l x r h s k t (call g a run h.node l x r f h.at)

  acts : (l : RunState) (x : Called) (v : Act) (q : List Float) → length q ≡ 20 → Host l x → is_fine g l v ≡ true
      → Host (acted g l v) (acted_by x v q)
  unfolding kind_of
  acts l x (gives f) q long h e =
      goes l x (reply_with 1 (f ∷ []) zero_f q) (fits-is-f64 _ (literal 0)) h (sized 1 (f ∷ []) zero_f q long) refl e
  acts l x continues q long h e =
      let w = and_parts (is_reported l.question) _ e in
      let v = l.question in
      let c = l.st.c in
      let state = y g.s.n l.st.w in
      let room : matrix_at g.s.n ≤ length l.st.w = omega (arith, h.at.keeps.lent.sized) in
      let first : part 0 g.s.n x.lent.question ≡ state =
      ap (λ (z : Said). part 0 g.s.n z.question) (said-shown l x h)
      ∙ reads-state g.s.n (state_at h.node).c.nq c l.st.w h.question room v l.phase w.0 in
      let time : x.reply.time ≡ c.tn =
      ap (λ (z : Reply). z.time) h.answer ∙ reads-time v l.phase c w.0 h.agrees in
      rw (ap (λ (k : ℕ). part 0 k x.lent.question) (sym one) ∙ first, time)
      (goes l x (reply_with 3 state c.tn q) (fits-is-f64 _ h.at.keeps.floats.tn) h
      (sized 3 state c.tn q long) refl w.1)

  pub hosts : (q : ℕ → List Float) → ((i : ℕ) → length (q i) ≡ 20) → (vs : List Act) (i : ℕ) (l : RunState) (x : Called)
      → Host l x → allowed g l vs ≡ true → Host (hosted g l vs) (hosted_by x i q vs)
  unfolding allowed hosted hosted_by
  hosts q long [] i l x h e = h
  hosts q long (v ∷ vs) i l x h e =
      let w = and_parts (is_fine g l v) (allowed g (acted g l v) vs) e in
      hosts q long vs (i + 1) (acted g l v) (acted_by x v (q i)) (acts l x v (q i) (long i) h w.0) w.1
