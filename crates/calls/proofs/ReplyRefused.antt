-- The refusals of a reply, row by row: each test of the code decides the condition of its row.
--     reply-refused, asked-now
--     a-derivative, a-jacobian, an-answer     what is asked, by the kind's number and the length
--     gone, is-now, went, agreed     a reply that is taken is what was asked, and is answered by the machine
--     given_in, state_in, stored-phase       what the session is resumed with, and its phase
-- Assumes nothing.
use mathlib.Core.Bool.{Bool, true, false, cond, not, ◌&&◌, ◌||◌, true≢false}
use mathlib.Core.List.{List, [], ◌∷◌}
use mathlib.Core.Logic.{inl, inr, ⊎_elim, ◌↔◌, ◌⊎◌, ⊎_map}
use mathlib.Core.Path.{◌≡◌, refl, sym, ap, ◌∙◌, subst}
use Prim.Native.Nat.{ℕ, zero, suc, ◌*◌}
use native.Mathlib.Omega.{arith}
use lib.Dec.{eqb, ltb, lit<}
use lib.Ieee.{Float}
use lib.ListN.{length}
use borrow.Author.Tests.{eqb-true, eqb-false, lt-leb}
use Rattle.std.proofs.lemmas.Bool.{and_parts, or_cases}
use Rattle.loops.proofs.Test.{differs, chosen}
use Rattle.numbers.specs.Float.{zero_f}
use Rattle.common.specs.Limits.{max_states}
use Rattle.common.specs.SessionWords.{count_words, session_length}
use Rattle.common.specs.State.{Given, State, given, state}
use Rattle.common.specs.declared.Settings.{Settings}
use Rattle.questions.specs.declared.Phase.{Phase}
use Rattle.questions.specs.declared.Turn.{Turn}
use Rattle.questions.specs.Turns.{turn_in}
use Rattle.machine.specs.Resume.{is_asked}
use Rattle.between_steps.specs.Replies.{is_derivative, is_jacobian, is_answer}
use Rattle.words.proofs.Rows.{counts-at}
use Rattle.common.specs.Layout.{question_length, work_length}
use Rattle.session.specs.States.{phase_of}
use Rattle.session.specs.Session.{decode_of, rtol_of, atol_of, finished_in, in_range_of}
use Rattle.session.specs.Names.{n_word, phase_word}
use Rattle.session.specs.InRange.{InRange}
use Rattle.session.proofs.InRange.{in-range}
use Rattle.session.proofs.Back.{stored-n}
use Rattle.refusals.specs.Refusal.{Entry, none, plain, also_of, in_order, or_else}
use Rattle.refusals.specs.Rows.{Row, row, FirstIs, NoneHolds}
use Rattle.refusals.proofs.Decides.{Decides, equal, smaller, denied, either as or}
use Rattle.refusals.proofs.Rows.{Each}
use Rattle.answers.specs.Answers.{plain_reply, question_reply}
use Rattle.answers.specs.Called.{Buffers, Called}
use Rattle.replies.specs.Replies.{is_kind, kind_of, lengths_refusal, stored_refusal, reply_refusal_of, is_unasked}
use Rattle.replies.specs.Replies.{TurnWritten, turn_written_of, turned, accepted_reply_of}
use Rattle.raimsklo.specs.Calls.{reply_at, reply_of}
use Rattle.calls.specs.Run.{is_refusal}
use Rattle.calls.specs.ReplyRefused.{awaits, Asked, derivative, jacobian, answer, phase_in, reply_rows}
use Rattle.calls.specs.ReplyRefused.{ReplyRefused}
use Rattle.calls.proofs.Agrees.{Agrees, not-refusal}
use Rattle.calls.proofs.Turns.{resume-agrees, resume-same}

-- ---- rows in order

first-unique : (rs : List Row) (j k : ℕ) → FirstIs j rs → FirstIs k rs → j ≡ k
first-unique [] j k p q = absurd p
first-unique (r ∷ rs) j k (inl p) (inl q) = sym p.1 ∙ q.1
first-unique (r ∷ rs) j k (inl p) (inr q) = absurd (q.0 p.0)
first-unique (r ∷ rs) j k (inr p) (inl q) = absurd (p.0 q.0)
first-unique (r ∷ rs) j k (inr p) (inr q) = first-unique rs j k p.1 q.1

first_some : (rs : List Row) (k : ℕ) → FirstIs k rs → NoneHolds rs → ⊥
first_some [] k p n = p
first_some (r ∷ rs) k (inl p) n = n.0 p.0
first_some (r ∷ rs) k (inr p) n = first_some rs k p.1 n.1

-- what is answered is the first row's, or none holds and the reply is taken
data SaysBy (leaves : ℕ → Called) (go x : Called) (rs : List Row) : Type 0 where
  refuses : (k : ℕ) → FirstIs k rs → x ≡ leaves k → SaysBy leaves go x rs
  takes : NoneHolds rs → x ≡ go → SaysBy leaves go x rs

-- what every row's number has, the first one's has
numbered : (P : ℕ → Type 0) (rs : List Row) (k : ℕ) → Each (λ q. P q.number) rs → FirstIs k rs → P k
numbered P [] k ns f = absurd f
numbered P (r ∷ rs) k ns (inl f) = subst P f.1 ns.0
numbered P (r ∷ rs) k ns (inr f) = numbered P rs k ns.1 f.1

-- a number that refuses
abbrev pub is_refusing : ℕ → Bool
is_refusing k = eqb k 3 || (eqb k 13 || eqb k 14)

pub refusing : (k : ℕ) → is_refusing k ≡ true → (k ≡ 3) ⊎ ((k ≡ 13) ⊎ (k ≡ 14))
refusing k e =
    ⊎_map (eqb-true k 3) (λ f. ⊎_map (eqb-true k 13) (eqb-true k 14) (or_cases _ _ f)) (or_cases (eqb k 3) _ e)

-- ---- what is asked

abbrev DecidesKind : (ℕ → Bool) → (ℕ → Type 0) → Type 0
DecidesKind t P = (kind : ℕ) → Decides (t kind) (P kind)

pub decided-true : {P : Type 0} (t : Bool) → Decides t P → ((P → ⊥) → ⊥) → t ≡ true
decided-true true d h = refl
decided-true false d h = absurd (h (d.1 refl))

none_of : {P : Type 0} → (P → ⊥) → Decides false P
none_of n = (λ e. differs e, λ e. n)

with-length : {P : Type 0} (a b : ℕ) → P → Decides (eqb a b) (P × (a ≡ b))
with-length a b p = (λ e. (p, eqb-true a b e), λ e q. eqb-false a b e q.1)

no_kind : (k : ℕ) → is_kind (suc (suc (suc (suc (suc (suc k)))))) ≡ false
no_kind k =
    let six = suc (suc (suc (suc (suc (suc k))))) in
    by (not (eqb six 0)) (lt-leb six 5 (omega arith))
  where
    by : (t : Bool) {u : Bool} → u ≡ false → t && u ≡ false
    by true e = e
    by false e = refl

module _ (n len : ℕ) where
  pub a-derivative : DecidesKind (λ k. is_kind k && is_derivative (kind_of k) len n) (λ k. Asked derivative n k len)
  unfolding kind_of
  a-derivative zero = none_of (λ q. omega arith)
  a-derivative (suc zero) = with-length len n refl
  a-derivative (suc (suc zero)) = none_of (λ q. omega arith)
  a-derivative (suc (suc (suc zero))) = none_of (λ q. omega arith)
  a-derivative (suc (suc (suc (suc zero)))) = none_of (λ q. omega arith)
  a-derivative (suc (suc (suc (suc (suc zero))))) = none_of (λ q. omega arith)
  a-derivative (suc (suc (suc (suc (suc (suc k)))))) = rw (no_kind k) (none_of (λ q. omega arith))

  pub a-jacobian : DecidesKind (λ k. is_kind k && is_jacobian (kind_of k) len n) (λ k. Asked jacobian n k len)
  unfolding kind_of
  a-jacobian zero = none_of (λ q. omega arith)
  a-jacobian (suc zero) = none_of (λ q. omega arith)
  a-jacobian (suc (suc zero)) = with-length len (n * n) refl
  a-jacobian (suc (suc (suc zero))) = none_of (λ q. omega arith)
  a-jacobian (suc (suc (suc (suc zero)))) = none_of (λ q. omega arith)
  a-jacobian (suc (suc (suc (suc (suc zero))))) = none_of (λ q. omega arith)
  a-jacobian (suc (suc (suc (suc (suc (suc k)))))) = rw (no_kind k) (none_of (λ q. omega arith))

  other : (k : ℕ) → (k ≡ 3 → ⊥) → (k ≡ 4 → ⊥) → (k ≡ 5 → ⊥) → Asked answer n k len → ⊥
  other k a b c q = ⊎_elim a (λ r. ⊎_elim b c r) q.0

  pub an-answer : DecidesKind (λ k. is_kind k && is_answer (kind_of k) len n) (λ k. Asked answer n k len)
  unfolding kind_of
  an-answer zero = none_of (other 0 (λ q. omega arith) (λ q. omega arith) (λ q. omega arith))
  an-answer (suc zero) = none_of (other 1 (λ q. omega arith) (λ q. omega arith) (λ q. omega arith))
  an-answer (suc (suc zero)) = none_of (other 2 (λ q. omega arith) (λ q. omega arith) (λ q. omega arith))
  an-answer (suc (suc (suc zero))) = with-length len n (inl refl)
  an-answer (suc (suc (suc (suc zero)))) = with-length len n (inr (inl refl))
  an-answer (suc (suc (suc (suc (suc zero))))) = with-length len n (inr (inr refl))
  an-answer (suc (suc (suc (suc (suc (suc k)))))) =
      rw (no_kind k)
      (none_of (other (suc (suc (suc (suc (suc (suc k)))))) (λ q. omega arith) (λ q. omega arith) (λ q. omega arith)))

  asked : (phase : Phase) (kind : ℕ)
      → Decides (is_kind kind && is_asked phase (kind_of kind) len n) (Asked (awaits phase) n kind len)
  asked Phase.FirstDerivative kind = a-derivative kind
  asked Phase.FirstReport kind = an-answer kind
  asked Phase.FirstModified kind = a-derivative kind
  asked Phase.Opened kind = a-derivative kind
  asked Phase.JacobianAsked kind = a-jacobian kind
  asked Phase.DifferenceColumn kind = a-derivative kind
  asked Phase.FurtherDerivative kind = a-derivative kind
  asked Phase.Restep kind = a-derivative kind
  asked Phase.Report kind = an-answer kind
  asked Phase.Modified kind = a-derivative kind
  asked Phase.Finished kind = never (is_kind kind)
    where
      never : (t : Bool) → Decides (t && false) ⊥
      never true = none_of (λ q. q)
      never false = none_of (λ q. q)

-- ---- the code's tests in order

lengths-are : (n work pivots question : ℕ) (rest : Entry)
    → or_else (lengths_refusal n work pivots question) rest
    ≡ cond (not (eqb work (work_length n)) || (not (eqb pivots n) || not (eqb question (question_length n)))) (plain 3)
    rest
unfolding lengths_refusal in_order also_of or_else
lengths-are n work pivots question rest =
    by (not (eqb work (work_length n))) (not (eqb pivots n)) (not (eqb question (question_length n)))
  where
    by : (s t u : Bool)
        → or_else (also_of (also_of (also_of none s 3) t 3) u 3) rest ≡ cond (s || (t || u)) (plain 3) rest
    by true t u = refl
    by false true u = refl
    by false false true = refl
    by false false false = refl

stored-are : (known : Bool) (pivots bytes : List ℕ)
    → stored_refusal known pivots bytes
    ≡ cond (finished_in bytes) (plain 14) (cond (not (in_range_of bytes pivots)) (plain 13)
    (cond (not known) (plain 14) none))
unfolding stored_refusal in_order also_of
stored-are known pivots bytes = by (finished_in bytes) (not (in_range_of bytes pivots)) (not known)
  where
    by : (s t u : Bool) → also_of (also_of (also_of none s 14) t 13) u 14
        ≡ cond s (plain 14) (cond t (plain 13) (cond u (plain 14) none))
    by true t u = refl
    by false true u = refl
    by false false true = refl
    by false false false = refl

two : {A : Type 0} (s t : Bool) (a b : A) → cond s a (cond t a b) ≡ cond (s || t) a b
two true t a b = refl
two false t a b = refl

-- what the stored session is resumed with
abbrev pub given_in : Buffers → Given
given_in b = given (decode_of b.session).settings (rtol_of b.session) (atol_of b.session)

abbrev pub state_in : Buffers → State
state_in b = state (decode_of b.session).common b.work b.pivots

pub stored-phase : (b : List ℕ) → (decode_of b).phase ≡ phase_of (phase_word b)
unfolding decode_of
stored-phase b = ap phase_of (counts-at b 0 count_words 0 0 (lit< tt))

module _ (kind : ℕ) (numbers : List Float) (time : Float) (b : Buffers) where
  abbrev n : ℕ
  n = n_word b.session

  abbrev leaves : ℕ → Called
  leaves k = record { reply = plain_reply k 0 zero_f zero_f; lent = b }

  abbrev go : Called
  go = accepted_reply_of (kind_of kind) numbers time b

  -- the six tests
  abbrev unlong : Bool
  unlong = not (eqb (length b.session) session_length)

  abbrev unstated : Bool
  unstated = eqb n 0 || ltb max_states n

  abbrev unsized : Bool
  unsized = not (eqb (length b.work) (work_length n))
      || (not (eqb (length b.pivots) n) || not (eqb (length b.question) (question_length n)))

  abbrev outside : Bool
  outside = not (in_range_of b.session b.pivots)

  abbrev is_now : Bool
  is_now = is_asked (decode_of b.session).phase (kind_of kind) (length numbers) (decode_of b.session).settings.n

  abbrev refusal : Entry
  refusal = reply_refusal_of kind (length b.work) b.pivots b.session (length b.question)

  refusal_is : refusal
      ≡ cond unlong (plain 3) (cond unstated (plain 13) (cond unsized (plain 3)
      (cond (finished_in b.session) (plain 14) (cond outside (plain 13) (cond (not (is_kind kind)) (plain 14) none)))))
  unfolding reply_refusal_of
  refusal_is =
      ap (λ (r : Entry). cond unlong (plain 3) (cond (eqb n 0) (plain 13) (cond (ltb max_states n) (plain 13) r)))
      (lengths-are n (length b.work) (length b.pivots) (length b.question) _
      ∙ ap (cond unsized (plain 3)) (stored-are (is_kind kind) b.pivots b.session))
      ∙ ap (cond unlong (plain 3)) (two (eqb n 0) (ltb max_states n) (plain 13) _)

  at-cond : (t : Bool) (k : ℕ) (r : Entry) → eqb k 0 ≡ false
      → reply_at (cond t (plain k) r) kind numbers time b ≡ cond t (leaves k) (reply_at r kind numbers time b)
  unfolding reply_at
  at-cond true k r e = rw e
  at-cond false k r e = refl

  unasked-leaves : is_now ≡ false → go ≡ leaves 14
  unfolding accepted_reply_of turn_written_of
  unasked-leaves e =
      rw (resume-same (given_in b) (decode_of b.session).phase (state_in b) (kind_of kind) numbers time e)

  last : (s t : Bool) → is_now ≡ t → cond (not s) (leaves 14) go ≡ cond (not (s && t)) (leaves 14) go
  last false t e = refl
  last true true e = refl
  last true false e = unasked-leaves e

  reply-is : reply_of kind numbers time b
      ≡ cond unlong (leaves 3) (cond unstated (leaves 13) (cond unsized (leaves 3)
      (cond (finished_in b.session) (leaves 14) (cond outside (leaves 13)
      (cond (not (is_kind kind && is_now)) (leaves 14) go)))))
  unfolding reply_of reply_at
  reply-is =
      ap (λ (r : Entry). reply_at r kind numbers time b) refusal_is
      ∙ at-cond unlong 3 _ refl
      ∙ ap (cond unlong (leaves 3)) (at-cond unstated 13 _ refl
      ∙ ap (cond unstated (leaves 13)) (at-cond unsized 3 _ refl
      ∙ ap (cond unsized (leaves 3)) (at-cond (finished_in b.session) 14 _ refl
      ∙ ap (cond (finished_in b.session) (leaves 14)) (at-cond outside 13 _ refl
      ∙ ap (cond outside (leaves 13)) (at-cond (not (is_kind kind)) 14 none refl ∙ last (is_kind kind) is_now refl)))))

  -- ---- each test decides its row

  abbrev Says : Called → List Row → Type 0
  Says x rs = SaysBy leaves go x rs

  says_row : {P : Type 0} (t : Bool) (k : ℕ) {x : Called} {rs : List Row} → Decides t P → Says x rs
      → Says (cond t (leaves k) x) (row k P ∷ rs)
  says_row true k d s = refuses k (inl (d.0 refl, refl)) refl
  says_row false k d (refuses j f e) = refuses j (inr (d.1 refl, f)) e
  says_row false k d (takes n e) = takes (d.1 refl, n) e

  in-ranges : Decides (in_range_of b.session b.pivots) (InRange b.session b.pivots)
  in-ranges =
      let i = in-range b.session b.pivots in
      (i.0, λ e r. differs (sym e ∙ i.1 r))

  abbrev AskedNow : Type 0
  AskedNow = Asked (awaits (phase_in b)) n kind (length numbers)

  pub asked-now : Decides (is_kind kind && is_now) AskedNow
  asked-now =
      rw (stored-phase b.session, stored-n b.session)
      (asked n (length numbers) (phase_in b) kind)

  outcome : Says (reply_of kind numbers time b) (reply_rows kind numbers b)
  outcome =
      rw reply-is
      (says_row unlong 3 (denied _ (equal (length b.session) session_length))
      (says_row unstated 13 (or (eqb n 0) (ltb max_states n) (equal n 0) (smaller max_states n))
      (says_row unsized 3 (or _ _ (denied _ (equal (length b.work) (work_length n)))
      (or _ _ (denied _ (equal (length b.pivots) n)) (denied _ (equal (length b.question) (question_length n)))))
      (says_row (finished_in b.session) 14 (equal (phase_word b.session) 10)
      (says_row outside 13 (denied _ in-ranges)
      (says_row (not (is_kind kind && is_now)) 14 (denied _ asked-now) (takes tt refl)))))))

  -- ---- a reply that is taken

  settled-reply : (s : Settings) (t : Turn) (work : List Float)
      → (turn_written_of s t work b.session b.question).reply ≡ question_reply t.question
  unfolding turn_written_of
  settled-reply s t work =
      chosen (λ (y : TurnWritten). y.reply ≡ question_reply t.question) (is_unasked t.question) refl refl

  pub gone : NoneHolds (reply_rows kind numbers b) → reply_of kind numbers time b ≡ go
  gone h = by outcome
    where
      by : Says (reply_of kind numbers time b) (reply_rows kind numbers b) → reply_of kind numbers time b ≡ go
      by (refuses k f e) = absurd (first_some (reply_rows kind numbers b) k f h)
      by (takes n e) = e

  pub is-now : NoneHolds (reply_rows kind numbers b) → is_now ≡ true
  is-now h = (and_parts (is_kind kind) is_now (decided-true _ asked-now h.1.1.1.1.1.0)).1

  pub went : NoneHolds (reply_rows kind numbers b)
      → (reply_of kind numbers time b).reply ≡ question_reply (turned (kind_of kind) numbers time b).question
  unfolding accepted_reply_of
  went h =
      let m = turned (kind_of kind) numbers time b in
      ap (λ (x : Called). x.reply) (gone h) ∙ settled-reply (decode_of b.session).settings (turn_in m) m.st.w

  pub agreed : NoneHolds (reply_rows kind numbers b)
      → let t = turn_in (turned (kind_of kind) numbers time b) in Agrees t.question t.phase t.common
  agreed h =
      let x = decode_of b.session in
      resume-agrees (given_in b) x.phase (state_in b) (kind_of kind) numbers time (is-now h)

  taken_not : NoneHolds (reply_rows kind numbers b) → is_refusal (reply_of kind numbers time b).reply ≡ false
  taken_not h =
      let t = turn_in (turned (kind_of kind) numbers time b) in
      ap is_refusal (went h) ∙ not-refusal t.question t.phase t.common (agreed h)

  -- ---- the claim

  abbrev rows : List Row
  rows = reply_rows kind numbers b

  abbrev reply : Called
  reply = reply_of kind numbers time b

  abbrev Refuses : ℕ → Type 0
  Refuses k = is_refusal (plain_reply k 0 zero_f zero_f) ≡ true

  first-refuses : (k : ℕ) → FirstIs k rows → Refuses k
  first-refuses k f = numbered Refuses rows k (refl, (refl, (refl, (refl, (refl, (refl, tt)))))) f

  left_at : (k : ℕ) → FirstIs k rows → Says reply rows → reply ≡ leaves k
  left_at k f (refuses j g e) = e ∙ ap leaves (first-unique rows j k g f)
  left_at k f (takes n e) = absurd (first_some rows k f n)

  left : (k : ℕ) → FirstIs k rows → reply ≡ leaves k
  left k f = left_at k f outcome

  first-at : (k : ℕ) → Refuses k → reply.reply.number ≡ k → Says reply rows → FirstIs k rows
  first-at k h e (refuses j g l) =
      let same : j ≡ k = sym (ap (λ (x : Called). x.reply.number) l) ∙ e in
      subst (λ (i : ℕ). FirstIs i rows) same g
  first-at k h e (takes n l) = absurd (true≢false (sym h ∙ ap is_refusing (sym e) ∙ taken_not n))

  exactly : (k : ℕ) → Refuses k → (reply.reply.number ≡ k) ↔ FirstIs k rows
  exactly k h = (λ e. first-at k h e outcome, λ f. ap (λ (x : Called). x.reply.number) (left k f))

  none-at : is_refusal reply.reply ≡ false → Says reply rows → NoneHolds rows
  none-at h (refuses k f e) =
      absurd (true≢false (sym (first-refuses k f) ∙ ap (λ (x : Called). is_refusal x.reply) (sym e) ∙ h))
  none-at h (takes n e) = n

  pub reply-refused : ReplyRefused kind numbers time b
  reply-refused = record {
    three = exactly 3 refl;
    thirteen = exactly 13 refl;
    fourteen = exactly 14 refl;
    unchanged = left;
    taken = (λ h. none-at h outcome, taken_not);
  }
