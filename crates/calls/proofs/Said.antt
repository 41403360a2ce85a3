-- What a call that was taken says is what the machine shows, said by a call (`said_of`), and with that what the tree
-- says at the node where the machine stands.
--     says-shown, says-node
-- Assumes nothing.
use mathlib.Core.Bool.{false}
use mathlib.Core.List.{List, [], ◌++◌, append_assoc}
use mathlib.Core.Path.{◌≡◌, refl, sym, ap, ◌∙◌}
use Prim.Native.Nat.{ℕ, ◌+◌, ◌≤◌}
use native.Mathlib.Omega.{arith}
use native.Mathlib.Nat.{mul-le-mul_right, add_assoc}
use lib.Ieee.{Float}
use lib.ListN.{length, take, drop, take-append-drop}
use lib.Seq.{length-take-le, drop-drop}
use Rattle.loops.specs.Part.{put_part}
use Rattle.loops.proofs.Part.{length_part, length-put_part}
use Rattle.loops.proofs.Test.{differs}
use Rattle.common.specs.declared.Settings.{Settings}
use Rattle.common.specs.declared.Common.{Common}
use Rattle.common.specs.Layout.{y, question_length, y_at, matrix_at}
use Rattle.interpolation.specs.Snapshot.{snapshot_of}
use Rattle.interpolation.proofs.Roundtrip.{header, size, snapshot-is}
use Rattle.questions.specs.declared.Phase.{Phase}
use Rattle.questions.specs.declared.Question.{Question}
use Rattle.questions.specs.Turns.{RunState}
use Rattle.rules.specs.Play.{Play}
use Rattle.common.specs.State.{Given}
use Rattle.refinement.specs.Shown.{shown_as}
use Rattle.refinement.specs.Shown as Seen
use Rattle.refinement.specs.AtNode.{AtNode}
use Rattle.refinement.proofs.Follows.{arrived}
use Rattle.answers.specs.Answers.{question_reply}
use Rattle.replies.specs.Replies.{with_y, question_of}
use Rattle.calls.specs.Follow.{says, said_of, said_at}
use Rattle.calls.proofs.Agrees.{is_over, for_derivative, Agrees}

-- ---- the question slice

-- an empty snapshot changes nothing
put-none : (n : ℕ) (q : List Float) → put_part n 0 q [] ≡ q
put-none n q = take-append-drop n q

module _ (s : Settings) (c : Common) (work q : List Float) (order : c.nq ≤ 12)
    (history : matrix_at s.n ≤ length work) (room : length q ≡ question_length s.n) where
  abbrev shot : List Float
  shot = Seen.snapshot_shown s.n c.nq c work

  length-shot : length shot ≡ 6 + size s c
  length-shot =
      let k : c.nq + 1 ≤ 13 = omega arith in
      let h = mul-le-mul_right s.n k in
      omega (arith, length-take-le (size s c) work (omega (arith, h)))

  -- the snapshot that the code writes is the tree's
  snapshot-put : snapshot_of s c work q ≡ put_part s.n (length shot) q shot
  snapshot-put =
      let n = s.n in
      let rest = drop (n + 6 + size s c) q in
      let tail : drop (length shot) (drop n q) ≡ rest =
      drop-drop (length shot) n q
      ∙ ap (λ (k : ℕ). drop k q) (ap (λ (k : ℕ). n + k) length-shot ∙ sym (add_assoc n 6 (size s c)))
      in
      snapshot-is s c work q order (omega arith) (omega arith)
      ∙ append_assoc (take n q ++ header s c) (take (size s c) work) rest
      ∙ append_assoc (take n q) (header s c) (take (size s c) work ++ rest)
      ∙ ap (λ (l : List Float). take n q ++ (shot ++ l)) (sym tail)

-- ---- what the machine shows

module _ (s : Settings) (c : Common) (work q : List Float) (history : matrix_at s.n ≤ length work)
    (room : length q ≡ question_length s.n) where
  length-with_y : length (with_y s work q) ≡ question_length s.n
  length-with_y =
      length-put_part 0 s.n q (omega arith) (y s.n work) (length_part (y_at s.n) s.n work (omega arith))
      ∙ room

  abbrev Says : Question → Phase → Type 0
  Says v phase =
      says (question_reply v) (question_of s phase c work q) ≡ said_of s.n c.nq (shown_as s.n v phase c work) q

  says-question : (v : Question) (phase : Phase) → Agrees v phase c → (is_over phase ≡ false → c.nq ≤ 12)
      → Says v phase
  unfolding question_of shown_as
  says-question (Question.Derivative a) Phase.FirstDerivative g o = refl
  says-question (Question.Derivative a) Phase.FirstReport g o = differs (ap for_derivative g)
  says-question (Question.Derivative a) Phase.FirstModified g o = refl
  says-question (Question.Derivative a) Phase.Opened g o = refl
  says-question (Question.Derivative a) Phase.JacobianAsked g o = differs (ap for_derivative g)
  says-question (Question.Derivative a) Phase.DifferenceColumn g o = refl
  says-question (Question.Derivative a) Phase.FurtherDerivative g o = refl
  says-question (Question.Derivative a) Phase.Restep g o = refl
  says-question (Question.Derivative a) Phase.Report g o = differs (ap for_derivative g)
  says-question (Question.Derivative a) Phase.Modified g o = refl
  says-question (Question.Derivative a) Phase.Finished g o = differs (ap for_derivative g)
  says-question (Question.Jacobian a) phase g o = rw g
  says-question (Question.FirstReport a) phase g o =
      rw g.0 (ap (says (question_reply (Question.FirstReport a))) (sym (put-none s.n (with_y s work q))))
  says-question (Question.Report r) phase g o =
      rw (g.0, g.1, snapshot-put s c work (with_y s work q) (o (rw g.0)) history length-with_y)
  says-question (Question.Finished e) phase g o = rw g
  says-question (Question.StepRefused h) phase g o = rw g
  says-question (Question.WeightRefused i) phase g o = rw g
  says-question Question.Unasked phase g o = absurd g

-- ---- what the tree says

module _ (g : Given) where
  pub says-node : (t : Play) (l : RunState) (q : List Float) → AtNode g t l
      → Agrees l.question l.phase l.st.c
      → (is_over l.phase ≡ false → l.st.c.nq ≤ 12) → matrix_at g.s.n ≤ length l.st.w
      → length q ≡ question_length g.s.n
      → says (question_reply l.question) (question_of g.s l.phase l.st.c l.st.w q)
      ≡ said_at g.s.n t q
  says-node t l q s w o history room =
      let f = arrived g t l s in
      says-question g.s l.st.c l.st.w q history room l.question l.phase w o
      ∙ rw (f.shows, f.holds.same)
