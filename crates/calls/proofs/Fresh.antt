-- What an accepted start leaves does not depend on what the slices held: work and pivots are filled, and of the session
-- every byte is written, word after word.
--     starts-fresh
-- Assumes nothing.
use mathlib.Core.Bool.{Bool, true, false}
use mathlib.Core.List.{List}
use mathlib.Core.Logic.{◌≢◌}
use mathlib.Core.Path.{◌≡◌, refl, sym, ap, ◌∙◌}
use Prim.Native.Nat.{ℕ, zero, suc, ◌+◌, ◌*◌, ◌≤◌, ◌<◌}
use native.Mathlib.Omega.{arith}
use lib.Dec.{eqb, lit≤}
use lib.Ieee.{Float}
use lib.ListN.{length, get_or, set, length-set}
use lib.Seq.{get_or-set_same, get_or-set_other, ext_get_or}
use borrow.Author.Tests.{eqb-true, eqb-false}
use Rattle.loops.specs.For.{times}
use Rattle.questions.specs.declared.Session.{Session}
use Rattle.questions.specs.Turns.{RunState}
use Rattle.words.specs.Words.{put_word, put_count_at, put_counts_of, slot_of, put_float_at, put_floats_of}
use Rattle.session.specs.Fields.{counts_of, floats_of}
use Rattle.session.specs.Session.{encode_of, put_tolerances_of}
use Rattle.session.proofs.Back.{length-encode, length-put-tolerances}
use Rattle.refusals.specs.Start.{accepted_settings}
use Rattle.common.specs.SessionWords.{count_words, float_words, rtol_at, atol_at, session_length}
use Rattle.common.specs.Limits.{max_states}
use Rattle.common.specs.State.{Given}
use Rattle.invariants.specs.Next.{session_found}
use Rattle.refinement.specs.AtNode.{started_at}
use Rattle.answers.specs.Called.{Buffers, Called}
use Rattle.raimsklo.specs.Calls.{Problem}
use Rattle.calls.specs.WellFormed.{WellFormed}
use Rattle.calls.specs.Follow.{given_of, from_of}
use Rattle.calls.specs.Start.{StartsFresh}
use Rattle.calls.proofs.Start.{begun_bytes, begun-is}

-- ---- bytes that agree below k, of at least m each

record Agree (m k : ℕ) (a b : List ℕ) : Type 0 where
  room : m ≤ length a
  long : length a ≡ length b
  same : (i : ℕ) → i < k → get_or a i 0 ≡ get_or b i 0

module _ (m : ℕ) where
  agree_less : {k : ℕ} {a b : List ℕ} (j : ℕ) → j ≤ k → Agree m k a b → Agree m j a b
  agree_less j h g = record { room = g.room; long = g.long; same = λ i l. g.same i (omega arith) }

  agree-set : (k j v : ℕ) {a b : List ℕ} → j ≤ k + 1 → k < m → Agree m k a b → Agree m j (set a k v) (set b k v)
  agree-set k j v {a} {b} h less g = record {
    room = rw length-set g.room;
    long = length-set a k v ∙ g.long ∙ sym (length-set b k v);
    same = λ i l. by i (eqb i k) refl l;
  }
    where
      by : (i : ℕ) (t : Bool) → eqb i k ≡ t → i < j → get_or (set a k v) i 0 ≡ get_or (set b k v) i 0
      by i true e l =
          let q : i ≡ k = eqb-true i k e in
          rw q
          (get_or-set_same a k v 0 (omega (arith, g.room))
          ∙ sym (get_or-set_same b k v 0 (omega (arith, g.room, g.long))))
      by i false e l =
          let n : i ≢ k = eqb-false i k e in
          get_or-set_other a k i v 0 n ∙ g.same i (omega arith) ∙ sym (get_or-set_other b k i v 0 n)

  agree-word : (at w : ℕ) {a b : List ℕ} → at + 8 ≤ m → Agree m at a b
      → Agree m (at + 8) (put_word a at w) (put_word b at w)
  unfolding put_word
  agree-word at w h g =
      agree-set (at + 7) (at + 8) _ (omega arith) (omega arith)
      (agree-set (at + 6) (at + 7) _ (omega arith) (omega arith)
      (agree-set (at + 5) (at + 6) _ (omega arith) (omega arith)
      (agree-set (at + 4) (at + 5) _ (omega arith) (omega arith)
      (agree-set (at + 3) (at + 4) _ (omega arith) (omega arith)
      (agree-set (at + 2) (at + 3) _ (omega arith) (omega arith)
      (agree-set (at + 1) (at + 2) _ (omega arith) (omega arith)
      (agree-set at (at + 1) _ (omega arith) (omega arith) g)))))))

  -- a row of words, word `at + i` being w i
  module _ (at : ℕ) (w : ℕ → ℕ) (f : ℕ → List ℕ → List ℕ)
      (is : (i : ℕ) (b : List ℕ) → f i b ≡ put_word b (8 * (at + i)) (w i)) where
    agree-row : (n i : ℕ) {a b : List ℕ} → 8 * (at + i + n) ≤ m → Agree m (8 * (at + i)) a b
        → Agree m (8 * (at + i + n)) (times f n i a) (times f n i b)
    unfolding times
    agree-row zero i h g = agree_less _ (omega arith) g
    agree-row (suc n) i {a} {b} h g =
        agree_less _ (omega arith)
        (agree-row n (i + 1) (omega arith)
        (rw (is i a, is i b) (agree_less _ (omega arith) (agree-word (8 * (at + i)) (w i) (omega arith) g))))

-- ---- the session

kept_fresh : (x : Session) (rtol atol : List Float) (a b : List ℕ) → length a ≡ session_length
    → length b ≡ session_length
    → put_tolerances_of rtol atol (encode_of x a) ≡ put_tolerances_of rtol atol (encode_of x b)
unfolding put_tolerances_of encode_of put_counts_of put_floats_of
kept_fresh x rtol atol a b p q =
    let none : Agree session_length (8 * (0 + 0)) a b =
    record { room = omega arith; long = p ∙ sym q; same = λ i l. absurd (omega arith) } in
    let u = counts_of x in
    let f = floats_of x in
    let counts = agree-row session_length 0 (λ i. get_or u i 0) (put_count_at 0 u) (λ i b. refl)
    count_words 0 (lit≤ tt) none in
    let floats = agree-row session_length count_words (slot_of f) (put_float_at count_words f) (λ i b. refl)
    float_words 0 (lit≤ tt) counts in
    let rtols = agree-row session_length rtol_at (slot_of rtol) (put_float_at rtol_at rtol) (λ i b. refl)
    max_states 0 (lit≤ tt) floats in
    let all = agree-row session_length atol_at (slot_of atol) (put_float_at atol_at atol) (λ i b. refl)
    max_states 0 (lit≤ tt) rtols in
    let long = length-put-tolerances rtol atol (encode_of x a) ∙ length-encode x a in
    ext_get_or 0 (put_tolerances_of rtol atol (encode_of x a)) (put_tolerances_of rtol atol (encode_of x b)) all.long
    (λ i l. all.same i (omega (arith, long, l)))

-- ---- the call

module _ (p : Problem) (b c : Buffers) (v : WellFormed p b) (w : WellFormed p c) where
  -- what the start makes of its arguments, whatever is lent
  abbrev left : Given → RunState
  left g = started_at g (from_of p)

  same_left : left (given_of p b) ≡ left (given_of p c)
  unfolding accepted_settings
  same_left = refl

  same_bytes : begun_bytes p b ≡ begun_bytes p c
  unfolding accepted_settings
  same_bytes =
      kept_fresh (session_found (given_of p b) (left (given_of p b))) p.rtol p.atol b.session c.session
      v.session w.session

  pub starts-fresh : StartsFresh p b c
  starts-fresh =
      let is = begun-is p b v in
      let is' = begun-is p c w in
      record {
        reply = ap (λ (x : Called). x.reply) is ∙ sym (ap (λ (x : Called). x.reply) is');
        work = ap (λ (x : Called). x.lent.work) is ∙ ap (λ (l : RunState). l.st.w) same_left
            ∙ sym (ap (λ (x : Called). x.lent.work) is');
        pivots = ap (λ (x : Called). x.lent.pivots) is ∙ ap (λ (l : RunState). l.st.p) same_left
            ∙ sym (ap (λ (x : Called). x.lent.pivots) is');
        session = ap (λ (x : Called). x.lent.session) is ∙ same_bytes
            ∙ sym (ap (λ (x : Called). x.lent.session) is');
        question = ap (λ (x : Called). x.lent.question) is;
      }
