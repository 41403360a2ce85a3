-- What the machine does with a list of replies is what the tree of the step rules does, fed the start's arguments and
-- the replies not refused (01-scope, 'A step'): `follows` in proofs/Follows.antt, for every accepted start.
use Rattle.std.specs.Prelude.{false, List, [], ◌≡◌, ◌≤◌, length}
use Rattle.common.specs.State.{Given, State}
use Rattle.questions.specs.declared.Phase.TheVariants.{Finished}
use Rattle.questions.specs.declared.Question.TheVariants.{Unasked}
use Rattle.questions.specs.Turns.{RunState}
use Rattle.rules.specs.Play.{Play, ret, ask, tell, say}
use Rattle.rules.specs.Rules.{Start, start}
use Rattle.rules.specs.Replies.{Reply, fed, AllAsked}
use Rattle.rules.specs.Demands.{last_state, replies_of}
use Rattle.refinement.specs.Shown.{shown_by, shown_at, resumed, reached_after, heard, tree_answers, is_taken}
use Rattle.refinement.specs.Shown.{not_refused, heard_taken, given_taken}
use Rattle.refinement.specs.AtNode.{SameState, AtNode, started_at}

-- a refused reply is answered 14 and leaves all as it was
pub record Unchanged (l m : RunState) : Type 0 where
  pub question : m.question ≡ Unasked
  pub phase : m.phase ≡ l.phase
  pub same : m.st ≡ l.st

-- the state of a node
abbrev pub state_at : Play → State
state_at (ret e) = last_state e
state_at (ask q x k) = x
state_at (tell r x k) = x
state_at (say e p) = state_at p

pub record Follows (g : Given) (a : Start) : Type 0 where
  -- at the root of the tree, and with that after every reply
  pub stands : AtNode g (start g a) (started_at g a)
  -- the answer to the start
  pub first : shown_by g.s.n (started_at g a) ≡ shown_at (start g a)
  -- the answers to any replies, refused ones included
  pub answers : (rs : List Reply) → heard g (started_at g a) rs ≡ tree_answers g.s.n (start g a) rs
  -- the answers to the replies not refused are the tree's, fed these alone
  pub taken : (rs : List Reply)
      → heard_taken g (started_at g a) rs ≡ given_taken (start g a) (not_refused g (started_at g a) rs)
  -- after any replies the machine has the record, the work and the pivots of the tree, and takes what the tree takes
  pub held : (rs : List Reply)
      → let p = (fed g.s.n (start g a) [] rs).play in SameState g p (state_at p) (reached_after g (started_at g a) rs)
  pub refused : (l : RunState) (r : Reply) → is_taken g l r ≡ false → Unchanged l (resumed g l r)

-- a run is finished after as many replies of the kind and length asked as demand 1 says
abbrev pub Finishes : Given → Start → Type 0
Finishes g a =
    (rs : List Reply) → AllAsked g.s.n (start g a) rs → replies_of g.s ≤ length rs
    → (reached_after g (started_at g a) rs).phase ≡ Finished
