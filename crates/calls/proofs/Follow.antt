-- Demand 2 for every list of calls of a run, by induction over the list.
--     calls-follow
-- Assumes nothing.
use mathlib.Core.Bool.{Bool, true, false, cond}
use mathlib.Core.List.{List, [], ◌∷◌, map}
use mathlib.Core.Logic.{◌⊎◌, inl, inr}
use mathlib.Core.Path.{◌≡◌, refl, sym, ap, ◌∙◌}
use Prim.Native.Nat.{ℕ}
use native.Mathlib.Omega.{arith}
use Rattle.std.proofs.lemmas.Bool.{not-true}
use Rattle.loops.proofs.Test.{differs}
use Rattle.questions.specs.declared.Session.{Session}
use Rattle.questions.specs.Turns.{RunState}
use Rattle.refusals.specs.Start.{accepted_settings}
use Rattle.rules.specs.Play.{Play}
use Rattle.common.specs.State.{Given, State}
use Rattle.rules.specs.Rules.{Start}
use Rattle.refinement.specs.AtNode.{started_at}
use Rattle.refinement.proofs.Follows.{arrived}
use Rattle.answers.specs.Called.{Buffers, Called}
use Rattle.raimsklo.specs.Calls.{Problem, start_of}
use Rattle.calls.specs.Run.{Begins, ReplyCall, TimesF64, calls_by, last_by, replied, calls_of, last_of, is_refusal}
use Rattle.calls.specs.Run.{taken_replies}
use Rattle.calls.specs.Follow.{given_of, from_of, tree_of, said_by, is_sized, next_of, told_by, fed_to, stands_at}
use Rattle.calls.specs.Follow.{heard_of, Refused, CallsFollow}
use Rattle.calls.proofs.Keeps.{Runs}
use Rattle.calls.proofs.Start.{begun-run}
use Rattle.calls.proofs.Walk.{At, is_fitting, Outcome, refused, taken, call, is-refusal, moves, begun-at}
use Rattle.calls.proofs.Walk.{begun-says}

module _ (g : Given) (a : Start) (run : Runs g a) where
  abbrev n : ℕ
  n = g.s.n

  abbrev Run : Play → RunState → Called → Type 0
  Run t l x = At g a run t l x

  answers-all : (rs : List ReplyCall) → TimesF64 rs → (t : Play) (l : RunState) (x : Called) → Run t l x
      → map said_by (calls_of x rs) ≡ told_by n t rs
  unfolding calls_by told_by
  answers-all [] f t l x at = refl
  answers-all (r ∷ rs) f t l x at =
      let m = moves g a run t l x r f.0 at in
      rw (m.said, answers-all rs f.1 (next_of n t r) m.left (replied x r) m.at)

  -- ---- without the refused ones

  taken-one : (r : ReplyCall) (rs : List ReplyCall) (t : Play) (l : RunState) (x : Called) → Outcome g a run t l x r
      → heard_of (replied x r) rs ≡ fed_to n (next_of n t r) (taken_replies (replied x r) rs)
      → heard_of x (r ∷ rs) ≡ fed_to n t (taken_replies x (r ∷ rs))
  unfolding heard_of fed_to taken_replies
  taken-one r rs t l x (refused e q) on = rw (is-refusal g a run t l x r (refused e q), e) (rw e at on)
  taken-one r rs t l x (taken e w) on =
      rw (is-refusal g a run t l x r (taken e w), e, w.said, rw e at on)

  taken-all : (rs : List ReplyCall) → TimesF64 rs → (t : Play) (l : RunState) (x : Called) → Run t l x
      → heard_of x rs ≡ fed_to n t (taken_replies x rs)
  unfolding heard_of fed_to taken_replies
  taken-all [] f t l x at = refl
  taken-all (r ∷ rs) f t l x at =
      let m = moves g a run t l x r f.0 at in
      taken-one r rs t l x (call g a run t l x r f.0 at)
      (taken-all rs f.1 (next_of n t r) m.left (replied x r) m.at)

  -- ---- where a run stands after a list

  pub stays_all : (rs : List ReplyCall) → TimesF64 rs → (t : Play) (l : RunState) (x : Called) → Run t l x
      → (m : RunState) × Run (stands_at n t rs) m (last_of x rs)
  unfolding stands_at last_by
  stays_all [] f t l x at = (l, at)
  stays_all (r ∷ rs) f t l x at =
      let m = moves g a run t l x r f.0 at in
      stays_all rs f.1 (next_of n t r) m.left (replied x r) m.at

  -- ---- a refused reply

  three-or-14 : (b : Bool) → let k : ℕ = cond b 14 3 in (k ≡ 3) ⊎ (k ≡ 14)
  three-or-14 true = inr refl
  three-or-14 false = inl refl

  -- one that does not fit is refused: by 14 where the question's length is right
  pub refused-one : (t : Play) (l : RunState) (x : Called) (r : ReplyCall) → Outcome g a run t l x r
      → is_fitting g a run t r ≡ false → Refused x r × (is_sized n r ≡ true → (replied x r).reply.number ≡ 14)
  refused-one t l x r (refused e q) off = (
    record {
      number = rw q (three-or-14 (is_sized n r));
      unchanged = ap (λ (y : Called). y.lent) q;
    },
    λ s. rw (q, s),
  )
  refused-one t l x r (taken e w) off = differs (sym off ∙ e)

  refused-so : (t : Play) (l : RunState) (x : Called) (r : ReplyCall) → Outcome g a run t l x r
      → is_refusal (replied x r).reply ≡ true → Refused x r
  refused-so t l x r o i =
      (refused-one t l x r o (not-true (is_fitting g a run t r) (sym (is-refusal g a run t l x r o) ∙ i))).0

  no-13 : (t : Play) (l : RunState) (x : Called) (r : ReplyCall) → Outcome g a run t l x r
      → (replied x r).reply.number ≡ 13 → ⊥
  no-13 t l x r o e = by (refused-so t l x r o (rw e)).number
    where
      by : ((replied x r).reply.number ≡ 3) ⊎ ((replied x r).reply.number ≡ 14) → ⊥
      by (inl h) = omega arith
      by (inr h) = omega arith

-- ---- the claim

pub calls-follow : (p : Problem) (b : Buffers) → Begins p b → CallsFollow p b
unfolding accepted_settings
calls-follow p b begins =
    let g = given_of p b in
    let a = from_of p in
    let run = begun-run p b begins in
    let at = begun-at p b begins in
    record {
      demand = record {
        first = begun-says p b begins;
        answers = λ rs f. answers-all g a run rs f (tree_of p b) (started_at g a) (start_of p b) at;
        session = λ rs f.
            let z = stays_all g a run rs f (tree_of p b) (started_at g a) (start_of p b) at in
            let k = z.1.keeps in
            let h = (arrived g (stands_at g.s.n (tree_of p b) rs) z.0 z.1.stands).holds in
            let phase = ap (λ (x : Session). x.phase) k.decoded in
            record {
              sized = k.long;
              settings = ap (λ (x : Session). x.settings) k.decoded;
              common = ap (λ (x : Session). x.common) k.decoded ∙ ap (λ (x : State). x.c) h.same;
              phase = rw phase z.1.phased;
              takes = λ r. rw phase (h.takes r);
              rtol = k.slots.0;
              atol = k.slots.1;
            };
      };
      taken = λ rs f. taken-all g a run rs f (tree_of p b) (started_at g a) (start_of p b) at;
      work = λ rs f.
          let z = stays_all g a run rs f (tree_of p b) (started_at g a) (start_of p b) at in
          z.1.work
          ∙ ap (λ (x : State). x.w)
          (arrived g (stands_at g.s.n (tree_of p b) rs) z.0 z.1.stands).holds.same;
      pivots = λ rs f.
          let z = stays_all g a run rs f (tree_of p b) (started_at g a) (start_of p b) at in
          z.1.pivots
          ∙ ap (λ (x : State). x.p)
          (arrived g (stands_at g.s.n (tree_of p b) rs) z.0 z.1.stands).holds.same;
      refused = λ rs r f t i.
          let z = stays_all g a run rs f (tree_of p b) (started_at g a) (start_of p b) at in
          refused-so g a run _ z.0 _ r (call g a run _ z.0 _ r t z.1) i;
      never_13 = λ rs r f t i.
          let z = stays_all g a run rs f (tree_of p b) (started_at g a) (start_of p b) at in
          no-13 g a run _ z.0 _ r (call g a run _ z.0 _ r t z.1) i;
    }
