-- Demand 1 for every list of calls of a run: from the rules' own theorem, along the calls.
--     calls-end
-- Assumes nothing.
use mathlib.Core.Bool.{Bool, true, false, cond, ◌&&◌, ◌||◌}
use mathlib.Core.List.{List, [], ◌∷◌, map}
use mathlib.Core.Path.{◌≡◌, refl, sym, ap, ◌∙◌}
use Prim.Native.Nat.{ℕ}
use native.Mathlib.Omega.{arith}
use Rattle.std.proofs.Math.Bool.{or-true}
use Rattle.std.proofs.lemmas.List.{length-map}
use Rattle.std.proofs.lemmas.Bool.{and_parts}
use Rattle.loops.proofs.Test.{differs}
use Rattle.numbers.specs.Float.{zero_f}
use Rattle.questions.specs.declared.Question.TheVariants as Question
use Rattle.questions.specs.Turns.{RunState}
use Rattle.refusals.specs.Start.{accepted_settings}
use Rattle.invariants.specs.Host.{IsF64}
use Rattle.rules.specs.Play.{Play, ret, ask, tell, say}
use Rattle.common.specs.State.{Given}
use Rattle.rules.specs.Rules.{Start}
use Rattle.rules.specs.Steps.{Step, noted, marked}
use Rattle.rules.specs.Replies.{Reply as Fed, waits, fed, AllAsked}
use Rattle.rules.specs.Demands.{HasEnded}
use Rattle.rules.proofs.Demands.{demand-1}
use Rattle.refinement.specs.Shown.{resumed, asks, tree_next}
use Rattle.refinement.specs.AtNode.{started_at}
use Rattle.answers.specs.Answers.{plain_reply}
use Rattle.answers.specs.Called.{Buffers, Called}
use Rattle.replies.specs.Replies.{is_kind}
use Rattle.raimsklo.specs.Calls.{Problem, start_of}
use Rattle.calls.specs.Run.{Begins, ReplyCall, TimesF64, calls_by, replied, calls_of, last_of}
use Rattle.calls.specs.Follow.{given_of, from_of, tree_of, fed_as, is_awaited, is_sized, next_of, stands_at}
use Rattle.calls.specs.Demands.{is_end, has_end, wants, AllWanted, Unless, CallsEnd}
use Rattle.calls.proofs.Keeps.{Runs}
use Rattle.calls.proofs.Start.{begun-run, begun-is}
use Rattle.calls.proofs.Walk.{At, is_fitting, Went, Outcome, refused, taken, call, moves, begun-at, begun-says}
use Rattle.calls.proofs.Follow.{stays_all, refused-one}
use Rattle.calls.proofs.Spoken.{Spoken, EndedAt, end-node, node_end, ended-asks, wants-asks}

-- ---- the tree's own lists

module _ (n : ℕ) where
  asked-none : (t : Play) → AllAsked n t []
  asked-none (ret e) = tt
  asked-none (ask q x k) = tt
  asked-none (tell r x k) = tt
  asked-none (say e p) = asked-none p

  asked-ended : (t : Play) (rs : List Fed) → EndedAt t → AllAsked n t rs
  asked-ended (ret e) rs h = tt
  asked-ended (ask q x k) rs h = absurd h
  asked-ended (tell r x k) rs h = absurd h
  asked-ended (say e p) rs h = asked-ended p rs h

  asked-one : (t : Play) (r : Fed) (rs : List Fed) → asks n t r ≡ true → AllAsked n (tree_next t r) rs
      → AllAsked n t (r ∷ rs)
  asked-one (ret e) r rs h on = tt
  asked-one (ask q x k) r rs h on = (h, on)
  asked-one (tell p x k) r rs h on = (h, on)
  asked-one (say e p) r rs h on = asked-one p r rs h on

  fed-none : (t : Play) (xs : List Step) → HasEnded (fed n t xs []).play → EndedAt t
  unfolding fed waits
  fed-none (ret e) xs h = tt
  fed-none (ask q x k) xs h = h
  fed-none (tell r x k) xs h = h
  fed-none (say e p) xs h = fed-none p (marked e xs) h

  fed-one : (t : Play) (xs : List Step) (r : Fed) (rs : List Fed) → asks n t r ≡ true
      → (ys : List Step) × (fed n t xs (r ∷ rs) ≡ fed n (tree_next t r) ys rs)
  unfolding fed waits
  fed-one (ret e) xs r rs h = differs h
  fed-one (ask q x k) xs r rs h = (noted q xs, rw h)
  fed-one (tell p x k) xs r rs h = (xs, rw h)
  fed-one (say e p) xs r rs h = fed-one p (marked e xs) r rs h

module _ (g : Given) (a : Start) (run : Runs g a) where
  abbrev n : ℕ
  n = g.s.n

  abbrev feds : List ReplyCall → List Fed
  feds rs = map fed_as rs

  pub spoken : (t : Play) (l : RunState) (x : Called) (r : ReplyCall) → Went g a run t l x r
      → Spoken n (tree_next t (fed_as r)) (replied x r)
  spoken t l x r w = record {
    question = r.question;
    said = w.said;
    asked = (resumed g l (fed_as r)).question;
    answer = w.answer;
  }

  -- a wanted reply is taken
  wanted : (t : Play) (l : RunState) (x : Called) (r : ReplyCall) → IsF64 r.time → At g a run t l x → Spoken n t x
      → wants n x.reply.number r ≡ true → is_sized n r ≡ true → (asks n t (fed_as r) ≡ true) × Went g a run t l x r
  wanted t l x r f at k w s =
      let h = wants-asks n r t x k w in
      ((and_parts (is_kind r.kind) (asks n t (fed_as r)) h).1, by (call g a run t l x r f at) (rw (s, h)))
    where
      by : Outcome g a run t l x r → is_fitting g a run t r ≡ true → Went g a run t l x r
      by (refused e q) h = differs (sym e ∙ h)
      by (taken e w) h = w

  -- ---- every reply is asked for, and where the tree has ended, so have the calls

  abbrev Ended : Called → List ReplyCall → Type 0
  Ended x rs = is_end x.reply || has_end (calls_of x rs) ≡ true

  abbrev Asked : Play → Called → List ReplyCall → Type 0
  Asked t x rs =
      AllAsked n t (feds rs) × ((xs : List Step) → HasEnded (fed n t xs (feds rs)).play → Ended x rs)

  asked_by : (r : ReplyCall) (rs : List ReplyCall) → IsF64 r.time
      → ((t : Play) (l : RunState) (x : Called) → At g a run t l x → Spoken n t x → AllWanted n x rs → Asked t x rs)
      → (t : Play) (l : RunState) (x : Called) → At g a run t l x → Spoken n t x → (b : Bool) → is_end x.reply ≡ b
      → Unless b ((wants n x.reply.number r ≡ true) × (is_sized n r ≡ true) × AllWanted n (replied x r) rs)
      → Asked t x (r ∷ rs)
  unfolding calls_by has_end
  asked_by r rs f ih t l x at k true e w = (asked-ended n t (feds (r ∷ rs)) (end-node n t x k e), λ xs h. rw e)
  asked_by r rs f ih t l x at k false e w =
      let o = wanted t l x r f at k w.0 w.1 in
      let on = ih (tree_next t (fed_as r)) (resumed g l (fed_as r)) (replied x r) o.1.at (spoken t l x r o.1)
      w.2 in (
        asked-one n t (fed_as r) (feds rs) o.0 on.0,
        λ xs h.
            let y = fed-one n t xs (fed_as r) (feds rs) o.0 in
            rw (on.1 y.0 (rw y.1 at h)) (or-true (is_end x.reply)),
      )

  asked-all : (rs : List ReplyCall) → TimesF64 rs → (t : Play) (l : RunState) (x : Called) → At g a run t l x
      → Spoken n t x → AllWanted n x rs → Asked t x rs
  unfolding calls_by has_end
  asked-all [] f t l x at k w =
      (asked-none n t, λ xs h. rw (node_end n g t l x at.stands k (fed-none n t xs h)))
  asked-all (r ∷ rs) f t l x at k w =
      asked_by r rs f.0 (asked-all rs f.1) t l x at k (is_end x.reply) refl w

  -- ---- after an end

  -- an ended run takes nothing, and stays where it is
  ended-unfit : (t : Play) (r : ReplyCall) → EndedAt t → is_fitting g a run t r ≡ false
  ended-unfit t r h = off (is_sized n r)
    where
      off : (b : Bool) → b && is_awaited n t r ≡ false
      off true = ended-asks n t r h
      off false = refl

  stays-ended : (rs : List ReplyCall) (t : Play) → EndedAt t → EndedAt (stands_at n t rs)
  unfolding stands_at
  stays-ended [] t h = h
  stays-ended (r ∷ rs) t h = rw (ended-unfit t r h) (stays-ended rs t h)

  end-next : (t : Play) (l : RunState) (x : Called) (r : ReplyCall) → Outcome g a run t l x r
      → is_end (replied x r).reply ≡ true → EndedAt (next_of n t r)
  end-next t l x r (refused e q) i =
      differs (sym (none (is_sized n r)) ∙ ap (λ (y : Called). is_end y.reply) (sym q) ∙ i)
    where
      none : (b : Bool) → is_end (plain_reply (cond b 14 3) 0 zero_f zero_f) ≡ false
      none true = refl
      none false = refl
  end-next t l x r (taken e w) i = rw e (end-node n (tree_next t (fed_as r)) (replied x r) (spoken t l x r w) i)

  over-one : (rs : List ReplyCall) (t : Play) (b c : Bool) → (b ≡ true → EndedAt t)
      → (c ≡ true → EndedAt (stands_at n t rs)) → b || c ≡ true → EndedAt (stands_at n t rs)
  over-one rs t true c e on h = stays-ended rs t (e refl)
  over-one rs t false c e on h = on h

  over-all : (rs : List ReplyCall) → TimesF64 rs → (t : Play) (l : RunState) (x : Called) → At g a run t l x
      → has_end (calls_of x rs) ≡ true → EndedAt (stands_at n t rs)
  unfolding calls_by has_end stands_at
  over-all [] f t l x at h = differs h
  over-all (r ∷ rs) f t l x at h =
      let m = moves g a run t l x r f.0 at in
      over-one rs (next_of n t r) (is_end (replied x r).reply) (has_end (calls_of (replied x r) rs))
      (end-next t l x r (call g a run t l x r f.0 at))
      (over-all rs f.1 (next_of n t r) m.left (replied x r) m.at) h

-- ---- the claim

pub begun-spoken : (p : Problem) (b : Buffers) (begins : Begins p b)
    → Spoken (given_of p b).s.n (tree_of p b) (start_of p b)
begun-spoken p b begins = record {
  question = b.question;
  said = begun-says p b begins;
  asked = Question.Derivative (record { time = p.x0 });
  answer = ap (λ (y : Called). y.reply) (begun-is p b begins.formed);
}

pub calls-end : (p : Problem) (b : Buffers) → Begins p b → CallsEnd p b
unfolding accepted_settings
calls-end p b begins =
    let g = given_of p b in
    let a = from_of p in
    let run = begun-run p b begins in
    let at = begun-at p b begins in
    let k = begun-spoken p b begins in
    record {
      ends = λ rs f w m.
          let z = asked-all g a run rs f (tree_of p b) (started_at g a) (start_of p b) at k w in
          let e = length-map rs fed_as in
          let h = z.1 [] (demand-1 g a run.ok.settings (map fed_as rs) z.0 (omega (arith, e, m))) in
          let first : is_end (start_of p b).reply ≡ false =
          ap (λ (y : Called). is_end y.reply) (begun-is p b begins.formed) in
          rw first at h;
      after = λ rs r f t h.
          let z = stays_all g a run rs f (tree_of p b) (started_at g a) (start_of p b) at in
          let u = stands_at g.s.n (tree_of p b) rs in
          refused-one g a run u z.0 (last_of (start_of p b) rs) r
          (call g a run u z.0 (last_of (start_of p b) rs) r t z.1)
          (ended-unfit g a run u r (over-all g a run rs f (tree_of p b) (started_at g a) (start_of p b) at h));
    }
