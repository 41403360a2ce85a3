-- What a host sees of a run: the answer to the start and to each reply (01-scope, 'What the host sees'), given by the
-- machine and by the tree of the step rules. A reply of another kind or length than asked is refused and passed over.
-- The machine keeps its phase, record, work and pivots from one reply to the next as the reply before left them.
use Rattle.std.specs.Prelude.{Bool, true, false, List, [], ◌∷◌, ℕ, ◌+◌, ◌*◌, length, Float}
use Rattle.loops.specs.Part.{part}
use Rattle.numbers.specs.Float.{whole, uround}
use Rattle.common.specs.declared.Common.{Common}
use Rattle.common.specs.Layout.{y, yfd}
use Rattle.common.specs.State.{Given, State}
use Rattle.between_steps.specs.declared.Status.{Status}
use Rattle.questions.specs.declared.End.{End}
use Rattle.questions.specs.declared.Phase.{Phase}
use Rattle.questions.specs.declared.Question.{Question as MachineQuestion}
use Rattle.questions.specs.declared.Question.TheVariants as Machine
use Rattle.questions.specs.Turns.{RunState}
use Rattle.machine.specs.Resume.{is_asked, resume_of}
use Rattle.rules.specs.Play.{Question, derivative_at, jacobian_at, Report, End as RulesEnd, finished, step_refused}
use Rattle.rules.specs.Play.{weight_refused, exhausted, Play, ret, ask, tell, say}
use Rattle.rules.specs.Replies.{Reply, answers, answers_report, answer_given}

-- ---- an answer, with its numbers

-- a derivative or a Jacobian is wanted; a report; the end; 11; 12; 14. `stuck` is never seen: it stands for a bound of
-- the rules' recursion that is used up.
pub data Shown : Type 0 where
  wants_derivative wants_jacobian : Float → List Float → Shown
  reports : Report → Shown
  ends : End → Shown
  refuses_step : Float → Shown
  refuses_weight : ℕ → Shown
  refuses : Shown
  stuck : Shown

-- ---- the machine

-- the state at which the derivative is wanted
abbrev pub wanted_at : ℕ → Phase → List Float → List Float
wanted_at n Phase.FirstDerivative work = y n work
wanted_at n Phase.FirstReport work = y n work
wanted_at n Phase.FirstModified work = y n work
wanted_at n Phase.Opened work = y n work
wanted_at n Phase.JacobianAsked work = y n work
wanted_at n Phase.DifferenceColumn work = yfd n work
wanted_at n Phase.FurtherDerivative work = y n work
wanted_at n Phase.Restep work = y n work
wanted_at n Phase.Report work = y n work
wanted_at n Phase.Modified work = y n work
wanted_at n Phase.Finished work = y n work

-- n, nq, t, h, hu, 2^-52, columns 0 to nq
abbrev pub snapshot_shown : ℕ → ℕ → Common → List Float → List Float
snapshot_shown n order c work =
    whole n ∷ whole order ∷ c.tn ∷ c.h ∷ c.hu ∷ uround ∷ part 0 ((order + 1) * n) work

unfoldable pub shown_as : ℕ → MachineQuestion → Phase → Common → List Float → Shown
shown_as n (Machine.Derivative a) phase c work = wants_derivative a.time (wanted_at n phase work)
shown_as n (Machine.Jacobian a) phase c work = wants_jacobian a.time (y n work)
shown_as n (Machine.FirstReport a) phase c work =
    reports (record { previous = a.time; time = a.time; y = y n work; count = 0; snapshot = [] })
shown_as n (Machine.Report r) phase c work =
    reports (record {
      previous = r.previous;
      time = r.time;
      y = y n work;
      count = r.count;
      snapshot = snapshot_shown n r.order c work;
    })
shown_as n (Machine.Finished e) phase c work = ends e
shown_as n (Machine.StepRefused h) phase c work = refuses_step h
shown_as n (Machine.WeightRefused i) phase c work = refuses_weight i
shown_as n Machine.Unasked phase c work = refuses

abbrev pub shown_by : ℕ → RunState → Shown
shown_by n l = shown_as n l.question l.phase l.st.c l.st.w

abbrev pub resumed : Given → RunState → Reply → RunState
resumed g l r = resume_of g l.phase l.st r.kind r.numbers r.time

-- where a run stands after a list of replies, refused ones included
unfoldable pub reached_after : Given → RunState → List Reply → RunState
reached_after g l [] = l
reached_after g l (r ∷ rs) = reached_after g (resumed g l r) rs

-- the answers to a list of replies
unfoldable pub heard : Given → RunState → List Reply → List Shown
heard g l [] = []
heard g l (r ∷ rs) = shown_by g.s.n (resumed g l r) ∷ heard g (resumed g l r) rs

-- ---- the tree

abbrev pub end_shown : Status → State → End
end_shown status x = record {
  h = x.c.h;
  status = status;
  nfe = x.c.nfe;
  nje = x.c.nje;
  nlu = x.c.nlu;
  total = x.c.total;
  accepted = x.c.nst;
  rejected = x.c.rejected;
}

abbrev pub shown_end : RulesEnd → Shown
shown_end (finished status x) = ends (end_shown status x)
shown_end (step_refused h x) = refuses_step h
shown_end (weight_refused i x) = refuses_weight i
shown_end (exhausted x) = stuck

abbrev pub shown_question : Question → Shown
shown_question (derivative_at t v) = wants_derivative t v
shown_question (jacobian_at t v) = wants_jacobian t v

-- events are not seen
abbrev pub shown_at : Play → Shown
shown_at (ret e) = shown_end e
shown_at (ask q x k) = shown_question q
shown_at (tell r x k) = reports r
shown_at (say e p) = shown_at p

-- whether a reply is of the kind and length asked
abbrev pub asks : ℕ → Play → Reply → Bool
asks n (ret e) r = false
asks n (ask q x k) r = answers n q r
asks n (tell p x k) r = answers_report n r
asks n (say e p) r = asks n p r

-- where the tree stands after a reply that is not refused
abbrev pub tree_next : Play → Reply → Play
tree_next (ret e) r = ret e
tree_next (ask q x k) r = k r.numbers
tree_next (tell p x k) r = k (answer_given r.kind) r.numbers r.time
tree_next (say e p) r = tree_next p r

-- a reply that is refused is answered so and changes nothing
abbrev pub answer_if : Bool → Play → Shown
answer_if true p = shown_at p
answer_if false p = refuses

abbrev pub step_if : Bool → Play → Reply → Play
step_if true p r = tree_next p r
step_if false p r = p

-- the answers to a list of replies
unfoldable pub tree_answers : ℕ → Play → List Reply → List Shown
tree_answers n p [] = []
tree_answers n p (r ∷ rs) = answer_if (asks n p r) (tree_next p r) ∷ tree_answers n (step_if (asks n p r) p r) rs

-- ---- without the refused replies

abbrev pub keep_if : {A : Type 0} → Bool → A → List A → List A
keep_if true x xs = x ∷ xs
keep_if false x xs = xs

abbrev pub is_taken : Given → RunState → Reply → Bool
is_taken g l r = is_asked l.phase r.kind (length r.numbers) g.s.n

-- the replies that the machine does not refuse, and its answers to these
unfoldable pub not_refused : Given → RunState → List Reply → List Reply
not_refused g l [] = []
not_refused g l (r ∷ rs) = keep_if (is_taken g l r) r (not_refused g (resumed g l r) rs)

unfoldable pub heard_taken : Given → RunState → List Reply → List Shown
heard_taken g l [] = []
heard_taken g l (r ∷ rs) =
    keep_if (is_taken g l r) (shown_by g.s.n (resumed g l r)) (heard_taken g (resumed g l r) rs)

-- the tree fed a list of replies
unfoldable pub given_taken : Play → List Reply → List Shown
given_taken p [] = []
given_taken p (r ∷ rs) = shown_at (tree_next p r) ∷ given_taken (tree_next p r) rs
