-- Whether a reply is of the kind and length that a question or a report wants, in a run of n states.
use Rattle.std.specs.Prelude.{Bool, false, ℕ, ◌*◌, eqb}
use Rattle.between_steps.specs.declared.Kind.{Kind}
use Rattle.between_steps.specs.declared.Kind.TheVariants.{Derivative, Jacobian, Report}

abbrev pub is_derivative : Kind → ℕ → ℕ → Bool
is_derivative Derivative len n = eqb len n
is_derivative Jacobian len n = false
is_derivative (Report a) len n = false

abbrev pub is_jacobian : Kind → ℕ → ℕ → Bool
is_jacobian Derivative len n = false
is_jacobian Jacobian len n = eqb len (n * n)
is_jacobian (Report a) len n = false

abbrev pub is_answer : Kind → ℕ → ℕ → Bool
is_answer Derivative len n = false
is_answer Jacobian len n = false
is_answer (Report a) len n = eqb len n
