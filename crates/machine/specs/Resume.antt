-- A reply: 14 where it is of another kind or length than asked, else what the phase does with it. The session is the
-- phase, the settings and the record; the tolerances stay, the work and the pivots go on from reply to reply.
-- That these definitions are the Rust's is not claimed here: refinement has that they do what the tree of rules does.
use Rattle.std.specs.Prelude.{Bool, false, cond, List, ℕ, length, Float}
use Rattle.common.specs.State.{Given, State}
use Rattle.between_steps.specs.declared.Kind.{Kind}
use Rattle.between_steps.specs.declared.Kind.TheVariants.{Derivative, Jacobian, Report}
use Rattle.between_steps.specs.Replies.{is_derivative, is_jacobian, is_answer}
use Rattle.questions.specs.declared.Phase.{Phase}
use Rattle.questions.specs.declared.Question.TheVariants.{Unasked}
use Rattle.questions.specs.Turns.{RunState}
use Rattle.passes.specs.Pass.{opened_reply_of, jacobian_reply_of, column_reply_of, further_reply_of, restep_reply_of}
use Rattle.reports.specs.Reports.{first_derivative_of, after_first_report_of, first_modified_of, after_report_of}
use Rattle.reports.specs.Reports.{modified_of}

-- ---- whether a reply is what was asked

abbrev pub is_asked : Phase → Kind → ℕ → ℕ → Bool
is_asked Phase.FirstDerivative kind len n = is_derivative kind len n
is_asked Phase.FirstReport kind len n = is_answer kind len n
is_asked Phase.FirstModified kind len n = is_derivative kind len n
is_asked Phase.Opened kind len n = is_derivative kind len n
is_asked Phase.JacobianAsked kind len n = is_jacobian kind len n
is_asked Phase.DifferenceColumn kind len n = is_derivative kind len n
is_asked Phase.FurtherDerivative kind len n = is_derivative kind len n
is_asked Phase.Restep kind len n = is_derivative kind len n
is_asked Phase.Report kind len n = is_answer kind len n
is_asked Phase.Modified kind len n = is_derivative kind len n
is_asked Phase.Finished kind len n = false

-- ---- what a reply does

-- nothing has changed
abbrev pub unasked : Phase → State → RunState
unasked phase x = record { question = Unasked; phase = phase; st = x }

-- the answer to the first report, and to a step's
abbrev pub first_answered_of : Given → State → Kind → List Float → Float → RunState
first_answered_of g x (Report a) y time = after_first_report_of g.s x a y time
first_answered_of g x Derivative y time = unasked Phase.FirstReport x
first_answered_of g x Jacobian y time = unasked Phase.FirstReport x

abbrev pub answered_of : Given → State → Kind → List Float → Float → RunState
answered_of g x (Report a) y time = after_report_of g.s x a y time
answered_of g x Derivative y time = unasked Phase.Report x
answered_of g x Jacobian y time = unasked Phase.Report x

-- what a phase does with a reply that is what was asked
unfoldable pub resume_at : Given → Phase → State → Kind → List Float → Float → RunState
resume_at g Phase.FirstDerivative x kind f time = first_derivative_of g x f
resume_at g Phase.FirstReport x kind f time = first_answered_of g x kind f time
resume_at g Phase.FirstModified x kind f time = first_modified_of g.s x f
resume_at g Phase.Opened x kind f time = opened_reply_of g x f
resume_at g Phase.JacobianAsked x kind f time = jacobian_reply_of g x f
resume_at g Phase.DifferenceColumn x kind f time = column_reply_of g x f
resume_at g Phase.FurtherDerivative x kind f time = further_reply_of g x f
resume_at g Phase.Restep x kind f time = restep_reply_of g.s x f
resume_at g Phase.Report x kind f time = answered_of g x kind f time
resume_at g Phase.Modified x kind f time = modified_of g.s x f
resume_at g Phase.Finished x kind f time = unasked Phase.Finished x

unfoldable pub resume_of : Given → Phase → State → Kind → List Float → Float → RunState
resume_of g phase x kind reply time =
    cond (is_asked phase kind (length reply) g.s.n) (resume_at g phase x kind reply time) (unasked phase x)
