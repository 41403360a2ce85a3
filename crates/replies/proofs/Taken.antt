-- A reply that is not refused finds a session in range and every length right; and what then holds for the machine.
--     taken        the conditions of 3, 13 and 14 all fail
--     unless       a session that is not finished
-- Assumes nothing.
use mathlib.Core.Bool.{Bool, true, false, cond, not}
use mathlib.Core.List.{List}
use mathlib.Core.Path.{◌≡◌, refl}
use Prim.Native.Nat.{ℕ, ◌≤◌}
use native.Mathlib.Omega.{arith}
use borrow.Author.Tests.{eqb-false, ltb-false}
use lib.Dec.{eqb, ltb}
use lib.ListN.{length}
use Rattle.refusals.specs.Refusal.{plain, in_order, or_else}
use Rattle.refusals.proofs.Accepted.{also-none, else-none, same, not-false}
use Rattle.questions.specs.declared.Phase.{Phase}
use Rattle.questions.specs.Requires.{UnlessFinished}
use Rattle.common.specs.Layout.{work_length, question_length}
use Rattle.common.specs.Limits.{max_states}
use Rattle.common.specs.SessionWords.{session_length}
use Rattle.session.specs.Session.{stored_n, finished_in, in_range_of}
use Rattle.replies.specs.Replies.{is_kind, lengths_refusal, stored_refusal, reply_refusal_of}

-- what a reply that is not refused finds
pub record Taken (kind size : ℕ) (ipiv b : List ℕ) (asked : ℕ) : Type 0 where
  pub bytes : length b ≡ session_length
  pub n : (1 ≤ stored_n b) × (stored_n b ≤ max_states)
  pub work : size ≡ work_length (stored_n b)
  pub pivots : length ipiv ≡ stored_n b
  pub question : asked ≡ question_length (stored_n b)
  pub running : finished_in b ≡ false
  pub ranges : in_range_of b ipiv ≡ true
  pub known : is_kind kind ≡ true

module _ (kind work : ℕ) (pivots bytes : List ℕ) (question : ℕ) where
  abbrev n : ℕ
  n = stored_n bytes

  rest : length bytes ≡ session_length → (n ≡ 0 → ⊥) → n ≤ max_states
      → (or_else (lengths_refusal n work (length pivots) question) (stored_refusal (is_kind kind) pivots bytes)).number
      ≡ 0
      → Taken kind work pivots bytes question
  unfolding lengths_refusal stored_refusal in_order
  rest long some few q =
      let both = else-none _ _ q in
      let q3 = also-none _ _ 3 (omega arith) both.0 in
      let q2 = also-none _ _ 3 (omega arith) q3.0 in
      let q1 = also-none _ _ 3 (omega arith) q2.0 in
      let r3 = also-none _ _ 14 (omega arith) both.1 in
      let r2 = also-none _ _ 13 (omega arith) r3.0 in
      let r1 = also-none _ _ 14 (omega arith) r2.0 in
      record {
        bytes = long;
        n = (omega arith, few);
        work = same _ _ q1.1;
        pivots = same _ _ q2.1;
        question = same _ _ q3.1;
        running = r1.1;
        ranges = not-false _ r2.1;
        known = not-false _ r3.1;
      }

  at-most : (e : Bool) → ltb max_states n ≡ e → length bytes ≡ session_length → (n ≡ 0 → ⊥)
      → (cond e (plain 13) (or_else (lengths_refusal n work (length pivots) question)
      (stored_refusal (is_kind kind) pivots bytes))).number ≡ 0 → Taken kind work pivots bytes question
  at-most true p long some q = absurd (omega arith)
  at-most false p long some q = rest long some (ltb-false _ _ p) q

  at-least : (e : Bool) → eqb n 0 ≡ e → length bytes ≡ session_length
      → (cond e (plain 13)
      (cond (ltb max_states n) (plain 13) (or_else (lengths_refusal n work (length pivots) question)
      (stored_refusal (is_kind kind) pivots bytes)))).number ≡ 0 → Taken kind work pivots bytes question
  at-least true p long q = absurd (omega arith)
  at-least false p long q = at-most (ltb max_states n) refl long (eqb-false _ _ p) q

  long-enough : (e : Bool) → not (eqb (length bytes) session_length) ≡ e
      → (cond e (plain 3) (cond (eqb n 0) (plain 13) (cond (ltb max_states n) (plain 13)
      (or_else (lengths_refusal n work (length pivots) question)
      (stored_refusal (is_kind kind) pivots bytes))))).number ≡ 0 → Taken kind work pivots bytes question
  long-enough true p q = absurd (omega arith)
  long-enough false p q = at-least (eqb n 0) refl (same _ _ p) q

  pub taken : (reply_refusal_of kind work pivots bytes question).number ≡ 0 → Taken kind work pivots bytes question
  unfolding reply_refusal_of
  taken q = long-enough (not (eqb (length bytes) session_length)) refl q

pub unless : (p : Phase) {X : Type 0} → X → UnlessFinished p X
unless Phase.FirstDerivative x = x
unless Phase.FirstReport x = x
unless Phase.FirstModified x = x
unless Phase.Opened x = x
unless Phase.JacobianAsked x = x
unless Phase.DifferenceColumn x = x
unless Phase.FurtherDerivative x = x
unless Phase.Restep x = x
unless Phase.Report x = x
unless Phase.Modified x = x
unless Phase.Finished x = tt
