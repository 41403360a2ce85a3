-- The machine follows the tree over any list of replies, once it stands at its root.
--     shows, holds, takes       what the machine at a node shows, holds and takes
--     replies                   after a reply of the kind and length asked it stands at the node that follows
--     refuses                   any other reply leaves all as it was
--     follows                   the run of an accepted start
-- Assumes nothing.
use mathlib.Core.Bool.{Bool, true, false, true≢false}
use mathlib.Core.List.{List, [], ◌∷◌}
use mathlib.Core.Path.{◌≡◌, refl, sym}
use Prim.Native.Nat.{◌*◌}
use lib.ListN.{length}
use lib.Ieee.{Float}
use borrow.Author.Tests.{eqb-true}
use Rattle.common.specs.State.{Given}
use Rattle.between_steps.specs.declared.Kind.{Kind}
use Rattle.common.specs.Ranges.{Accepted}
use Rattle.questions.specs.Turns.{RunState}
use Rattle.machine.specs.Resume.{unasked}
use Rattle.rules.specs.Play.{End, derivative_at, jacobian_at}
use Rattle.rules.specs.Play.{finished, step_refused, weight_refused, exhausted, Play, ret, ask, tell, say}
use Rattle.rules.specs.Rules.{Start, start}
use Rattle.rules.specs.Steps.{Step, noted, marked}
use Rattle.rules.specs.Replies.{Reply, Progress, answer_given, waits, fed}
use Rattle.refinement.specs.Shown.{shown_as, shown_by, shown_at, asks, resumed, is_taken, tree_next, reached_after}
use Rattle.refinement.specs.Shown.{heard, tree_answers, not_refused, heard_taken, given_taken}
use Rattle.refinement.specs.AtNode.{SameState, Arrived, AtNode, started_at}
use Rattle.refinement.specs.Follows.{Unchanged, state_at, Follows}
use Rattle.refinement.proofs.Alive.{alive}
use Rattle.refinement.proofs.Replies as replies-of
use Rattle.refinement.proofs.Start.{begins}

-- ---- one reply

module _ (g : Given) where
  pub arrived : (p : Play) (l : RunState) → AtNode g p l → Arrived g p (state_at p) l
  arrived (ret (finished status x)) l s = s
  arrived (ret (step_refused h x)) l s = s
  arrived (ret (weight_refused i x)) l s = s
  arrived (ret (exhausted x)) l s = absurd s
  arrived (ask (derivative_at t v) x k) l s = s.0
  arrived (ask (jacobian_at t v) x k) l s = s.0
  arrived (tell r x k) l s = s.0
  arrived (say e p) l s =
      let f = arrived p l s in
      let h = f.holds in
      record {
        shows = f.shows;
        holds = record { same = h.same; takes = h.takes };
      }

  -- a reply by its parts
  abbrev reply : Kind → List Float → Float → Reply
  reply kind f t = record { kind = kind; numbers = f; time = t }

  replies-with : (p : Play) (l : RunState) (kind : Kind) (f : List Float) (t : Float) → AtNode g p l
      → asks g.s.n p (reply kind f t) ≡ true → AtNode g (tree_next p (reply kind f t)) (resumed g l (reply kind f t))
  replies-with (ret e) l kind f u s h = absurd (true≢false (sym h))
  replies-with (ask (derivative_at t v) x k) l Kind.Derivative f u s h = s.1 f u (eqb-true (length f) g.s.n h)
  replies-with (ask (derivative_at t v) x k) l Kind.Jacobian f u s h = absurd (true≢false (sym h))
  replies-with (ask (derivative_at t v) x k) l (Kind.Report a) f u s h = absurd (true≢false (sym h))
  replies-with (ask (jacobian_at t v) x k) l Kind.Derivative f u s h = absurd (true≢false (sym h))
  replies-with (ask (jacobian_at t v) x k) l Kind.Jacobian f u s h =
      s.1 f u (eqb-true (length f) (g.s.n * g.s.n) h)
  replies-with (ask (jacobian_at t v) x k) l (Kind.Report a) f u s h = absurd (true≢false (sym h))
  replies-with (tell r x k) l Kind.Derivative f u s h = absurd (true≢false (sym h))
  replies-with (tell r x k) l Kind.Jacobian f u s h = absurd (true≢false (sym h))
  replies-with (tell r x k) l (Kind.Report a) f u s h = s.1 a f u (eqb-true (length f) g.s.n h)
  replies-with (say e p) l kind f u s h = replies-with p l kind f u s h

  -- a reply of the kind and length asked
  pub replies : (p : Play) (l : RunState) (r : Reply) → AtNode g p l → asks g.s.n p r ≡ true
      → AtNode g (tree_next p r) (resumed g l r)
  replies p l r s h = replies-with p l r.kind r.numbers r.time s h

  -- any other
  pub refuses : (l : RunState) (r : Reply) → is_taken g l r ≡ false → Unchanged l (resumed g l r)
  refuses l r h =
      rw (replies-of.refuses g l r h)
      (record { question = refl; phase = refl; same = refl })

  -- ---- a list of replies

  abbrev again : RunState → RunState
  again l = unasked l.phase l.st

  -- a reply is taken by both or refused by both
  data Turn (p : Play) (l : RunState) (r : Reply) : Type 0 where
    taken : is_taken g l r ≡ true → asks g.s.n p r ≡ true → AtNode g (tree_next p r) (resumed g l r) → Turn p l r
    refused : is_taken g l r ≡ false → asks g.s.n p r ≡ false → resumed g l r ≡ again l → Turn p l r

  turn_at : (b : Bool) (p : Play) (l : RunState) (r : Reply) → AtNode g p l → is_taken g l r ≡ b → asks g.s.n p r ≡ b
      → Turn p l r
  turn_at true p l r s h q = taken h q (replies p l r s q)
  turn_at false p l r s h q = refused h q (replies-of.refuses g l r h)

  turn : (p : Play) (l : RunState) (r : Reply) → AtNode g p l → Turn p l r
  turn p l r s = turn_at (asks g.s.n p r) p l r s ((arrived p l s).holds.takes r) refl

  shows : (p : Play) (l : RunState) → AtNode g p l → shown_by g.s.n l ≡ shown_at p
  shows p l s = (arrived p l s).shows

  -- a refused reply changes nothing but the answer
  heard-again : (l : RunState) (rs : List Reply) → heard g (again l) rs ≡ heard g l rs
  unfolding heard
  heard-again l [] = refl
  heard-again l (r ∷ rs) = refl

  taken-again : (l : RunState) (rs : List Reply) → heard_taken g (again l) rs ≡ heard_taken g l rs
  unfolding heard_taken
  taken-again l [] = refl
  taken-again l (r ∷ rs) = refl

  kept_again : (l : RunState) (rs : List Reply) → not_refused g (again l) rs ≡ not_refused g l rs
  unfolding not_refused
  kept_again l [] = refl
  kept_again l (r ∷ rs) = refl

  abbrev Answers : List Reply → Type 0
  Answers rs = (p : Play) (l : RunState) → AtNode g p l → heard g l rs ≡ tree_answers g.s.n p rs

  answers-turn : (rs : List Reply) (p : Play) (l : RunState) (r : Reply) → Answers rs → AtNode g p l → Turn p l r
      → heard g l (r ∷ rs) ≡ tree_answers g.s.n p (r ∷ rs)
  unfolding heard tree_answers shown_as
  answers-turn rs p l r ih s (taken h q n) =
      rw (q, shows (tree_next p r) (resumed g l r) n, ih (tree_next p r) (resumed g l r) n)
  answers-turn rs p l r ih s (refused h q e) = rw (q, e, heard-again l rs, ih p l s)

  answers-all : (rs : List Reply) → Answers rs
  unfolding heard tree_answers
  answers-all [] p l s = refl
  answers-all (r ∷ rs) p l s = answers-turn rs p l r (answers-all rs) s (turn p l r s)

  abbrev Taken : List Reply → Type 0
  Taken rs = (p : Play) (l : RunState) → AtNode g p l → heard_taken g l rs ≡ given_taken p (not_refused g l rs)

  taken-turn : (rs : List Reply) (p : Play) (l : RunState) (r : Reply) → Taken rs → AtNode g p l → Turn p l r
      → heard_taken g l (r ∷ rs) ≡ given_taken p (not_refused g l (r ∷ rs))
  unfolding heard_taken not_refused given_taken
  taken-turn rs p l r ih s (taken h q n) =
      rw (h, shows (tree_next p r) (resumed g l r) n, ih (tree_next p r) (resumed g l r) n)
  taken-turn rs p l r ih s (refused h q e) = rw (h, e, taken-again l rs, kept_again l rs, ih p l s)

  taken-all : (rs : List Reply) → Taken rs
  unfolding heard_taken not_refused given_taken
  taken-all [] p l s = refl
  taken-all (r ∷ rs) p l s = taken-turn rs p l r (taken-all rs) s (turn p l r s)

  -- ---- where the tree stands after a list of replies

  -- the machine waits there too
  abbrev At : Play → RunState → Type 0
  At p l = SameState g p (state_at p) l

  at_again : {p : Play} {l : RunState} → At p l → At p (again l)
  at_again h = record { same = h.same; takes = h.takes }

  -- where p waits for a reply: refused replies are passed over
  module _ (p : Play) (l : RunState) (s : AtNode g p l) (on : Reply → List Reply → Progress) (at : Progress)
      (here : At at.play l)
      (there : (r : Reply) (rest : List Reply) → AtNode g (tree_next p r) (resumed g l r)
      → At (on r rest).play (reached_after g (resumed g l r) rest)) where
    abbrev Waits : List Reply → RunState → Type 0
    Waits rs m = At (waits (asks g.s.n p) on at rs).play (reached_after g m rs)

    waits-turn : (r : Reply) (rs : List Reply) → Waits rs (again l) → Turn p l r → Waits (r ∷ rs) l
    unfolding reached_after waits
    waits-turn r rs ih (taken h q n) = rw q (there r rs n)
    waits-turn r rs ih (refused h q e) = rw (q, e) ih

    waits-hold : (rs : List Reply) → Waits rs l × Waits rs (again l)
    unfolding reached_after waits
    waits-hold [] = (here, at_again here)
    waits-hold (r ∷ rs) = let h = waits-turn r rs (waits-hold rs).1 (turn p l r s) in (h, h)

  -- at an end every reply is refused
  module _ (e : End) (l : RunState) (s : AtNode g (ret e) l) where
    ended-turn : (r : Reply) (rs : List Reply) → At (ret e) (reached_after g (again l) rs) → Turn (ret e) l r
        → At (ret e) (reached_after g (resumed g l r) rs)
    ended-turn r rs ih (taken h q n) = absurd (true≢false (sym q))
    ended-turn r rs ih (refused h q m) = rw m ih

    ended-holds : (rs : List Reply) → At (ret e) (reached_after g l rs) × At (ret e) (reached_after g (again l) rs)
    unfolding reached_after
    ended-holds [] = let h = (arrived (ret e) l s).holds in (h, at_again h)
    ended-holds (r ∷ rs) = let h = ended-turn r rs (ended-holds rs).1 (turn (ret e) l r s) in (h, h)

  held_all : (p : Play) (xs : List Step) (l : RunState) (rs : List Reply) → AtNode g p l
      → At (fed g.s.n p xs rs).play (reached_after g l rs)
  unfolding fed
  held_all (ret e) xs l rs s = (ended-holds e l s rs).0
  held_all (ask q x k) xs l rs s =
      (waits-hold (ask q x k) l s _ _ (arrived (ask q x k) l s).holds
      (λ r rest n. held_all (k r.numbers) (noted q xs) (resumed g l r) rest n) rs).0
  held_all (tell q x k) xs l rs s =
      (waits-hold (tell q x k) l s _ _ (arrived (tell q x k) l s).holds
      (λ r rest n. held_all (k (answer_given r.kind) r.numbers r.time) xs (resumed g l r) rest n) rs).0
  held_all (say e p) xs l rs s = held_all p (marked e xs) l rs s

  -- ---- the run of an accepted start

  pub follows : (a : Start) → Accepted g.s → Follows g a
  follows a acc =
      let s = begins g acc.n.0 a (alive g a acc) in
      record {
        stands = s;
        first = shows (start g a) (started_at g a) s;
        answers = λ rs. answers-all rs (start g a) (started_at g a) s;
        taken = λ rs. taken-all rs (start g a) (started_at g a) s;
        held = λ rs. held_all (start g a) [] (started_at g a) rs s;
        refused = refuses;
      }
