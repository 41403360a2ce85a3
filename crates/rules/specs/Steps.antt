-- The steps of a run, the last one first, as a host can tell them from the questions and events: what each has
-- requested so far, and how it has ended. A question counts in the step under way, and else in none.
use Rattle.std.specs.Prelude.{Bool, true, false, List, [], ◌∷◌, ℕ, suc, ◌+◌}
use Rattle.std.proofs.Math.Option.{Option, none, some}
use Rattle.common.specs.declared.MethodFamily.{MethodFamily}
use Rattle.rules.specs.Play.{Question, derivative_at, jacobian_at, Limits, Source, by_differences, supplied, Ending}
use Rattle.rules.specs.Play.{accepted, gap, too_small, poor, Event, begins, opens, jacobian, retries, ends}

-- what a step has requested and begun; `paid` is what its difference Jacobians may cost
pub record Tally : Type 0 where
  pub derivatives : ℕ
  pub jacobians : ℕ
  pub paid : ℕ
  pub passes : ℕ
  pub retries : ℕ

pub record Step : Type 0 where
  pub family : MethodFamily
  pub limits : Limits
  pub tally : Tally
  pub ending : Option Ending

abbrev pub put_tally : Tally → Step → Step
put_tally t x = record { family = x.family; limits = x.limits; tally = t; ending = x.ending }

-- ---- questions

abbrev pub one_derivative : Tally → Tally
one_derivative t = record {
  derivatives = suc t.derivatives;
  jacobians = t.jacobians;
  paid = t.paid;
  passes = t.passes;
  retries = t.retries;
}

abbrev pub requested : Option Ending → Question → Tally → Tally
requested none (derivative_at t y) u = one_derivative u
requested none (jacobian_at t y) u = u
requested (some e) q u = u

abbrev pub noted : Question → List Step → List Step
noted q [] = []
noted q (x ∷ xs) = put_tally (requested x.ending q x.tally) x ∷ xs

-- ---- events

-- the derivatives that one Jacobian costs
abbrev pub cost_of : Limits → Source → ℕ
cost_of l by_differences = l.columns
cost_of l supplied = 0

abbrev pub one_jacobian : ℕ → Tally → Tally
one_jacobian cost t = record {
  derivatives = t.derivatives;
  jacobians = suc t.jacobians;
  paid = t.paid + cost;
  passes = t.passes;
  retries = t.retries;
}

abbrev pub one_pass : Tally → Tally
one_pass t = record {
  derivatives = t.derivatives;
  jacobians = t.jacobians;
  paid = t.paid;
  passes = suc t.passes;
  retries = t.retries;
}

abbrev pub one_retry : Tally → Tally
one_retry t = record {
  derivatives = t.derivatives;
  jacobians = t.jacobians;
  paid = t.paid;
  passes = t.passes;
  retries = suc t.retries;
}

abbrev pub nothing : Tally
nothing = record { derivatives = 0; jacobians = 0; paid = 0; passes = 0; retries = 0 }

abbrev pub marked : Event → List Step → List Step
marked (begins f l) xs = record { family = f; limits = l; tally = nothing; ending = none } ∷ xs
marked opens [] = []
marked opens (x ∷ xs) = put_tally (one_pass x.tally) x ∷ xs
marked (jacobian s) [] = []
marked (jacobian s) (x ∷ xs) = put_tally (one_jacobian (cost_of x.limits s) x.tally) x ∷ xs
marked retries [] = []
marked retries (x ∷ xs) = put_tally (one_retry x.tally) x ∷ xs
marked (ends e) [] = []
marked (ends e) (x ∷ xs) =
    record { family = x.family; limits = x.limits; tally = x.tally; ending = some e } ∷ xs

-- ---- ends

-- the ends that do not raise the accepted count
abbrev pub keeps_count : Ending → Bool
keeps_count accepted = false
keeps_count gap = false
keeps_count too_small = true
keeps_count poor = true

abbrev pub is_ended : Option Ending → Bool
is_ended none = false
is_ended (some e) = true

abbrev pub is_ended_keeping : Option Ending → Bool
is_ended_keeping none = false
is_ended_keeping (some e) = keeps_count e

abbrev pub one_if : Bool → ℕ → ℕ
one_if true n = suc n
one_if false n = n

-- how many steps have such an ending
abbrev pub number : (Option Ending → Bool) → List Step → ℕ
number is [] = 0
number is (x ∷ xs) = one_if (is x.ending) (number is xs)
