-- The reply to the first derivative of an accepted start, from the law of any session that waits for one
-- (`first-derivative`): what the start left is such a session, and its weights are those of the rows.
--     first-exactly
-- Assumes nothing.
use mathlib.Core.Bool.{Bool, true, false, cond, not}
use mathlib.Core.List.{List, [], ◌∷◌}
use mathlib.Core.Logic.{◌⊎◌, inl, inr, ◌↔◌}
use mathlib.Core.Path.{◌≡◌, refl, sym, ap, ◌∙◌}
use Prim.Native.Nat.{ℕ, zero, suc, ◌+◌, ◌*◌, ◌≤◌, ◌<◌}
use native.Mathlib.Omega.{arith}
use lib.Dec.{eqb, lit≤}
use lib.Ieee as Ieee
use lib.Ieee.{Float, nan}
use lib.ListN.{length, get_or, replicate, length-replicate}
use borrow.Author.Tests.{eqb-true, eqb-false, eq-eqb}
use Rattle.loops.specs.Part.{put_part}
use Rattle.loops.proofs.Part.{get_d_part, length_part, length-put_part, part-put, get_d_beyond}
use Rattle.loops.proofs.Stores.{stores}
use Rattle.loops.proofs.Test.{differs}
use Rattle.numbers.specs.Float.{◌⊖◌, zero_f}
use Rattle.numbers.specs.Sign.{signum_of, refused}
use Rattle.vectors.proofs.Laws.{length-ewset, ewset-written}
use Rattle.common.specs.Layout.{ewt, work_length, ewt_at, savf_at, y_at}
use Rattle.history.specs.Columns.{copy_of}
use Rattle.history.proofs.Laws.{length-copy}
use Rattle.questions.specs.declared.Phase.TheVariants as Phase
use Rattle.questions.specs.declared.Session.{Session}
use Rattle.between_steps.specs.Start.{with_derivative}
use Rattle.refusals.specs.Refusal.{Entry, none}
use Rattle.refusals.specs.Start.{accepted_settings}
use Rattle.refusals.specs.Rows.{Row, NoneHolds}
use Rattle.refusals.proofs.FirstStep.{step-decides}
use Rattle.refusals.proofs.Rows.{IsFirst, After, exactly, Each, numbered}
use Rattle.common.specs.State.{Given, State}
use Rattle.rules.specs.Rules.{start, beginning, first_weights}
use Rattle.refinement.specs.AtNode.{started_at}
use Rattle.invariants.specs.Host.{IsF64}
use Rattle.answers.specs.declared.Reply.{Reply}
use Rattle.answers.specs.Answers.{plain_reply, refusal_reply}
use Rattle.answers.specs.Called.{Buffers}
use Rattle.replies.specs.Replies.{kind_of}
use Rattle.raimsklo.specs.Calls.{Problem, start_of}
use Rattle.calls.specs.Run.{Begins, ReplyCall, lent_for, replied}
use Rattle.calls.specs.Follow.{given_of, from_of, tree_of, is_awaited, is_sized}
use Rattle.calls.specs.First.{weight_of, weight_rows, first_step_size, size_row, first_rows, FirstExactly}
use Rattle.calls.specs.ReplyRefused.{phase_in, reply_rows}
use Rattle.calls.specs.ReplyFirst.{FirstBad, AllGood, stored_weights, stored_step, is_refused}
use Rattle.calls.proofs.Start.{begun-run}
use Rattle.calls.proofs.Walk.{At, is_fitting, call, is-refusal, begun-at}
use Rattle.calls.proofs.Exactly.{exactly-as}
use Rattle.calls.proofs.ReplyRefused.{stored-phase, reply-refused}
use Rattle.calls.proofs.ReplyFirst.{Says, weighty, stepped, reported, says}

-- ---- the rows of the weights

module _ (p : Problem) (ws : List Float)
    (are : (i : ℕ) → i < length p.y0 → get_or ws i nan ≡ weight_of p i) where
  -- the first weight at most 0
  first-weight : (rest : List Row) (at : ℕ) → Ieee.le (get_or ws at nan) zero_f ≡ true
      → ((i : ℕ) → i < at → Ieee.le (get_or ws i nan) zero_f ≡ false)
      → (k i : ℕ) → i ≤ at → at < i + k → i + k ≤ length p.y0
      → IsFirst (weight_rows p k i rest) (record { number = 12; index = at; value = zero_f })
  first-weight rest at low before zero i a b h = absurd (omega arith)
  first-weight rest at low before (suc k) i a b h =
      by (eqb i at) refl (λ m. first-weight rest at low before k (i + 1) m (omega arith) (omega arith))
    where
      by : (t : Bool) → eqb i at ≡ t
          → (i + 1 ≤ at → IsFirst (weight_rows p k (i + 1) rest) (record { number = 12; index = at; value = zero_f }))
          → IsFirst (weight_rows p (suc k) i rest) (record { number = 12; index = at; value = zero_f })
      by true e on =
          let q : i ≡ at = eqb-true i at e in
          inl (rw (← are i (omega arith), q) low, rw q)
      by false e on =
          let q : i ≡ at → ⊥ = eqb-false i at e in
          inr (λ y. differs (sym (before i (omega arith)) ∙ rw (are i (omega arith)) y), on (omega arith))

  no-weight : (rest : List Row) (x : Entry) → IsFirst rest x
      → ((i : ℕ) → i < length p.y0 → Ieee.le (get_or ws i nan) zero_f ≡ false)
      → (k i : ℕ) → i + k ≤ length p.y0 → IsFirst (weight_rows p k i rest) x
  no-weight rest x f all zero i h = f
  no-weight rest x f all (suc k) i h =
      inr (
        λ y. differs (sym (all i (omega arith)) ∙ rw (are i (omega arith)) y),
        no-weight rest x f all k (i + 1) (omega arith),
      )

-- ---- the places of the rows

abbrev place_of : ℕ → Entry → ℕ
place_of n r = cond (eqb r.number 12) (suc r.index) (suc n)

after-weights : (p : Problem) (n : ℕ) (r : Row) → r.refusal.number ≡ 11 → (k i j : ℕ) → i + k ≡ n → j ≤ i
    → After (place_of n) j (weight_rows p k i (r ∷ []))
after-weights p n r e zero i j h q = rw e (omega arith, tt)
after-weights p n r e (suc k) i j h q =
    (omega arith, after-weights p n r e k (i + 1) (suc i) (omega arith) (omega arith))

each-weight : (P : Entry → Type 0) (p : Problem) (r : Row) → r.refusal.number ≡ 11
    → ((q : Entry) → 1 ≤ q.number → q.number ≤ 12 → P q) → (k i : ℕ) → Each P (weight_rows p k i (r ∷ []))
each-weight P p r e h zero i = (h r.refusal (rw e (lit≤ tt)) (rw e (lit≤ tt)), tt)
each-weight P p r e h (suc k) i = (h _ (lit≤ tt) (lit≤ tt), each-weight P p r e h k (i + 1))

-- ---- an answer that is the first row's, or the first report

abbrev Answers : Entry → Reply → Type 0
Answers x a = ((1 ≤ x.number) × (x.number ≤ 12) × (a ≡ refusal_reply x)) ⊎ ((x ≡ none) × (a.number ≡ 102))

abbrev refusal_in : Reply → Entry
refusal_in a = record { number = a.number; index = a.index; value = a.value }

same_answer : (x : Entry) (a : Reply) → Answers x a → (q : Entry) → 1 ≤ q.number → q.number ≤ 12
    → (x ≡ q) ↔ (a ≡ refusal_reply q)
same_answer x a (inl (low, small, e)) q l m = (λ z. e ∙ ap refusal_reply z, λ z. ap refusal_in (sym e ∙ z))
same_answer x a (inr (e, k)) q l m = (
  λ z. let o : q.number ≡ 0 = ap (λ (y : Entry). y.number) (sym z ∙ e) in absurd (omega (arith, o, l)),
  λ z. let o : a.number ≡ q.number = ap (λ (y : Reply). y.number) z in absurd (omega (arith, o, k, m)),
)

same_end : (x : Entry) (a : Reply) → Answers x a → (x.number ≡ 0) ↔ (a.number ≡ 102)
same_end x a (inl (low, small, e)) = (
  λ z. absurd (omega (arith, z, low)),
  λ z. let o : a.number ≡ x.number = ap (λ (y : Reply). y.number) e in absurd (omega (arith, o, z, small)),
)
same_end x a (inr (e, k)) = (λ z. k, λ z. ap (λ (y : Entry). y.number) e)

-- ---- the call

module _ (p : Problem) (b : Buffers) (begins : Begins p b) (r : ReplyCall) (time : IsF64 r.time)
    (kind : r.kind ≡ 1) (long : length r.numbers ≡ length p.y0) (room : is_sized (length p.y0) r ≡ true) where
  abbrev n : ℕ
  n = length p.y0

  abbrev g : Given
  g = given_of p b

  abbrev f : List Float
  f = r.numbers

  abbrev x : State
  x = beginning g (from_of p)

  abbrev h : Float
  h = first_step_size p b f

  abbrev w : List Float
  w = first_weights g f x

  -- the weights
  long-work : length w ≡ work_length n
  unfolding beginning accepted_settings
  long-work =
      let zeros = replicate (work_length n) zero_f in
      let l0 : length zeros ≡ work_length n = length-replicate _ _ in
      let y = put_part (y_at n) n zeros p.y0 in
      let l1 : length y ≡ work_length n = length-put_part (y_at n) n zeros (omega arith) p.y0 refl ∙ l0 in
      length-ewset p.rtol p.atol n (ewt_at n) (copy_of n 0 (y_at n) (with_derivative n f y))
      ∙ length-copy n 0 (y_at n) (with_derivative n f y)
      ∙ length-put_part (savf_at n) (length f) y (omega (arith, long)) f refl ∙ l1

  weights-are : (i : ℕ) → i < n → get_or (ewt n w) i nan ≡ weight_of p i
  unfolding beginning accepted_settings copy_of
  weights-are i m =
      let zeros = replicate (work_length n) zero_f in
      let l0 : length zeros ≡ work_length n = length-replicate _ _ in
      let y = put_part (y_at n) n zeros p.y0 in
      let l1 : length y ≡ work_length n = length-put_part (y_at n) n zeros (omega arith) p.y0 refl ∙ l0 in
      let v = with_derivative n f y in
      let l2 : length v ≡ work_length n = length-put_part (savf_at n) (length f) y (omega arith) f refl ∙ l1 in
      let u = copy_of n 0 (y_at n) v in
      let l3 : length u ≡ work_length n = length-copy n 0 (y_at n) v ∙ l2 in
      let made = ewset-written p.rtol p.atol n (ewt_at n) u (omega arith) (omega arith) in
      let l4 : length w ≡ work_length n = long-work in
      let at17 : savf_at n + (length f + (2 * n + i)) ≡ y_at n + i = omega (arith, long) in
      let copied = stores nan (λ j. 0 + j) (λ j. y_at n + j) (λ j c. c) n v
      (λ j k l q. (λ e. omega arith, λ e. omega arith)) (λ j l. omega arith) in
      let here : 0 + i ≡ i = omega arith in
      let first : get_or u i nan ≡ get_or v (y_at n + i) nan = rw here at (copied.made i m) in
      let second : get_or v (y_at n + i) nan ≡ get_or y (y_at n + i) nan =
      rw at17 at (get_d_beyond (savf_at n) (length f) y f (omega arith) refl (2 * n + i) nan) in
      let third : get_or y (y_at n + i) nan ≡ get_or p.y0 i nan =
      sym (get_d_part (y_at n) n y (omega arith) i nan m)
      ∙ ap (λ (l : List Float). get_or l i nan) (part-put (y_at n) n zeros p.y0 (omega arith) refl) in
      get_d_part (ewt_at n) n w (omega arith) i nan m ∙ made.made i m ∙ rw (first, second, third)

  long-weights : length (ewt n w) ≡ n
  long-weights = length_part (ewt_at n) n w (omega (arith, long-work))

  abbrev a : Reply
  a = (replied (start_of p b) r).reply

  exactly-so : (y : Entry) → Answers y a → IsFirst (first_rows p b f) y → FirstExactly p b r
  exactly-so y like is =
      let rest = size_row p b f in
      exactly-as (λ q. y ≡ q) (λ q. a
      ≡ refusal_reply q) _ _ (same_end y a like) (first_rows p b f) (Unit {0}) (Unit {0})
      (λ z. z, λ z. z)
      (each-weight (λ q. (y ≡ q) ↔ (a ≡ refusal_reply q)) p rest refl (same_answer y a like) n 0)
      (exactly (place_of n) (first_rows p b f) 0 y (Unit {0}) tt
      (numbered (first_rows p b f) (each-weight (λ q. 1 ≤ q.number) p rest refl (λ q low small. low) n 0))
      (after-weights p n rest refl n 0 0 (omega arith) (omega arith)) is)

  -- ---- what the start left is a session that waits for its first derivative

  abbrev lent : Buffers
  lent = lent_for (start_of p b) r

  abbrev at : At g (from_of p) (begun-run p b begins) (tree_of p b) (started_at g (from_of p)) (start_of p b)
  at = begun-at p b begins

  taken : NoneHolds (reply_rows r.kind f lent)
  unfolding start kind_of accepted_settings
  taken =
      let run = begun-run p b begins in
      let t = tree_of p b in
      let l = started_at g (from_of p) in
      let asked : is_awaited n t r ≡ true = rw (kind, eq-eqb (length f) n long) in
      let fits : is_fitting g (from_of p) run t r ≡ true = rw (room, asked) in
      let o = call g (from_of p) run t l (start_of p b) r time at in
      (reply-refused r.kind f r.time lent).taken.0
      (is-refusal g (from_of p) run t l (start_of p b) r o ∙ ap not fits)

  waits : phase_in lent ≡ Phase.FirstDerivative
  waits = sym (stored-phase lent.session) ∙ ap (λ (y : Session). y.phase) at.keeps.decoded

  same-weights : stored_weights f lent ≡ ewt n w
  unfolding accepted_settings
  same-weights = rw (at.keeps.decoded, at.keeps.rtol, at.keeps.atol, at.work)

  same_step : stored_step f lent ≡ h
  unfolding accepted_settings
  same_step = rw (at.keeps.decoded, at.keeps.rtol, at.keeps.atol, at.work)

  same-refused : is_refused f lent ≡ refused h (signum_of (p.xend ⊖ p.x0))
  unfolding accepted_settings
  same-refused = rw (same_step, at.keeps.decoded)

  good : AllGood (stored_weights f lent) → (i : ℕ) → i < n → Ieee.le (get_or (ewt n w) i nan) zero_f ≡ false
  good all i m = (rw same-weights at all) i (omega (arith, long-weights, m))

  by : Says r.kind f r.time lent → FirstExactly p b r
  by (weighty i bad q) =
      let first : FirstBad (ewt n w) i = rw same-weights at bad in
      exactly-so (record { number = 12; index = i; value = zero_f }) (inl (lit≤ tt, lit≤ tt, q))
      (first-weight p (ewt n w) weights-are (size_row p b f ∷ []) i first.here.1 first.before n 0
      (omega arith) (omega (arith, first.here.0, long-weights)) (omega arith))
  by (stepped all e q) =
      exactly-so (size_row p b f).refusal
      (inl (lit≤ tt, lit≤ tt, q ∙ ap (λ (v : Float). plain_reply 11 0 v zero_f) same_step))
      (no-weight p (ewt n w) weights-are (size_row p b f ∷ []) _
      (inl ((step-decides h (p.xend ⊖ p.x0)).0 (sym same-refused ∙ e), refl)) (good all) n 0 (omega arith))
  by (reported all e q) =
      exactly-so none (inr (refl, q))
      (no-weight p (ewt n w) weights-are (size_row p b f ∷ []) _
      (inr ((step-decides h (p.xend ⊖ p.x0)).1 (sym same-refused ∙ e), refl)) (good all) n 0 (omega arith))

  pub first-exactly : FirstExactly p b r
  first-exactly = by (says r.kind f r.time lent taken waits)
