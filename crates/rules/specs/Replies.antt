-- A host's replies to a run: what the run has come to, and the steps of the run, after any list of them. A reply of
-- another kind or length than asked is refused and passed over.
use Rattle.std.specs.Prelude.{Bool, true, cond, List, [], ◌∷◌, ◌≡◌, ℕ, length, Float}
use Rattle.between_steps.specs.declared.Answer.{Answer}
use Rattle.between_steps.specs.declared.Answer.TheVariants.{Continue}
use Rattle.between_steps.specs.declared.Kind.{Kind}
use Rattle.between_steps.specs.Replies.{is_derivative, is_jacobian, is_answer}
use Rattle.rules.specs.Play.{Question, derivative_at, jacobian_at, Play, ret, ask, tell, say}
use Rattle.rules.specs.Steps.{Step, noted, marked}

pub record Reply : Type 0 where
  pub kind : Kind
  pub numbers : List Float
  pub time : Float

-- a reply of the kind and length asked, in a run of n states
abbrev pub answers : ℕ → Question → Reply → Bool
answers n (derivative_at t y) r = is_derivative r.kind (length r.numbers) n
answers n (jacobian_at t y) r = is_jacobian r.kind (length r.numbers) n

abbrev pub answers_report : ℕ → Reply → Bool
answers_report n r = is_answer r.kind (length r.numbers) n

-- where a run stands, its next question, report or end, and its steps so far
pub record Progress : Type 0 where
  pub play : Play
  pub steps : List Step

-- waiting for a reply that answers: `at` where the list ends first
unfoldable pub waits : (Reply → Bool) → (Reply → List Reply → Progress) → Progress → List Reply → Progress
waits is on at [] = at
waits is on at (r ∷ rs) = cond (is r) (on r rs) (waits is on at rs)

-- what a reply to a report says; one of another kind has been refused
abbrev pub answer_given : Kind → Answer
answer_given (Kind.Report a) = a
answer_given Kind.Derivative = Continue
answer_given Kind.Jacobian = Continue

-- the run p, its steps so far being xs, after a list of replies
unfoldable pub fed : ℕ → Play → List Step → List Reply → Progress
fed n (ret e) xs rs = record { play = ret e; steps = xs }
fed n (ask q x k) xs rs =
    waits (answers n q) (λ r rest. fed n (k r.numbers) (noted q xs) rest)
    (record { play = ask q x k; steps = noted q xs }) rs
fed n (tell q x k) xs rs =
    waits (answers_report n) (λ r rest. fed n (k (answer_given r.kind) r.numbers r.time) xs rest)
    (record { play = tell q x k; steps = xs }) rs
fed n (say e p) xs rs = fed n p (marked e xs) rs

-- each reply is of the kind and length asked, until the run ends
abbrev pub AllAsked : ℕ → Play → List Reply → Type 0
AllAsked n (ret e) rs = Unit {0}
AllAsked n (ask q x k) [] = Unit {0}
AllAsked n (ask q x k) (r ∷ rs) = (answers n q r ≡ true) × AllAsked n (k r.numbers) rs
AllAsked n (tell q x k) [] = Unit {0}
AllAsked n (tell q x k) (r ∷ rs) =
    (answers_report n r ≡ true) × AllAsked n (k (answer_given r.kind) r.numbers r.time) rs
AllAsked n (say e p) rs = AllAsked n p rs
