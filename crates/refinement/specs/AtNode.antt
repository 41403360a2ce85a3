-- The machine is at a node of the tree: it has the node's record, work and pivots, shows the node's question,
-- report or end, takes exactly the replies that the node takes, and after each of these is at the node that
-- follows. By recursion on the tree, so that for the whole tree of a run it speaks of every host.
use Rattle.std.specs.Prelude.{List, ◌≡◌, ◌*◌, length, Float}
use Rattle.common.specs.State.{Given, State}
use Rattle.between_steps.specs.declared.Answer.{Answer}
use Rattle.between_steps.specs.declared.Kind.TheVariants as Kind
use Rattle.questions.specs.declared.Phase.TheVariants.{FirstDerivative}
use Rattle.questions.specs.declared.Question.TheVariants as Machine
use Rattle.questions.specs.Turns.{RunState}
use Rattle.rules.specs.Play.{derivative_at, jacobian_at}
use Rattle.rules.specs.Play.{finished, step_refused, weight_refused, exhausted, Play, ret, ask, tell, say}
use Rattle.rules.specs.Rules.{Start, beginning}
use Rattle.rules.specs.Replies.{Reply}
use Rattle.refinement.specs.Shown.{shown_by, resumed, is_taken, asks, shown_at}

-- ---- replies

abbrev pub derivative : List Float → Float → Reply
derivative f t = record { kind = Kind.Derivative; numbers = f; time = t }

abbrev pub jacobian : List Float → Float → Reply
jacobian f t = record { kind = Kind.Jacobian; numbers = f; time = t }

abbrev pub answer : Answer → List Float → Float → Reply
answer a f t = record { kind = Kind.Report a; numbers = f; time = t }

-- ---- the machine at a node

-- it has the record, the work and the pivots of the node, and takes the replies that the node takes
pub record SameState (g : Given) (p : Play) (x : State) (l : RunState) : Type 0 where
  pub same : l.st ≡ x
  pub takes : (r : Reply) → is_taken g l r ≡ asks g.s.n p r

-- and has just come to it, so that it shows what the node shows
pub record Arrived (g : Given) (p : Play) (x : State) (l : RunState) : Type 0 where
  pub shows : shown_by g.s.n l ≡ shown_at p
  pub holds : SameState g p x l

abbrev pub AtNode : Given → Play → RunState → Type 0
AtNode g (ret (finished status x)) l = Arrived g (ret (finished status x)) x l
AtNode g (ret (step_refused h x)) l = Arrived g (ret (step_refused h x)) x l
AtNode g (ret (weight_refused i x)) l = Arrived g (ret (weight_refused i x)) x l
AtNode g (ret (exhausted x)) l = ⊥
AtNode g (ask (derivative_at t v) x k) l =
    Arrived g (ask (derivative_at t v) x k) x l
    × ((f : List Float) (time : Float) → length f ≡ g.s.n → AtNode g (k f) (resumed g l (derivative f time)))
AtNode g (ask (jacobian_at t v) x k) l =
    Arrived g (ask (jacobian_at t v) x k) x l
    × ((f : List Float) (time : Float) → length f ≡ g.s.n * g.s.n → AtNode g (k f) (resumed g l (jacobian f time)))
AtNode g (tell r x k) l =
    Arrived g (tell r x k) x l
    × ((a : Answer) (f : List Float) (time : Float) → length f ≡ g.s.n
    → AtNode g (k a f time) (resumed g l (answer a f time)))
AtNode g (say e p) l = AtNode g p l

-- ---- the start

-- what an accepted start leaves: the first derivative is asked for
abbrev pub started_at : Given → Start → RunState
started_at g a = record {
  question = Machine.Derivative (record { time = a.x0 });
  phase = FirstDerivative;
  st = beginning g a;
}
