-- What a reply that was asked for tells: its length. Assumes nothing.
use mathlib.Core.Path.{◌≡◌}
use mathlib.Core.Bool.{true}
use Prim.Native.Nat.{ℕ, ◌*◌}
use borrow.Author.Tests.{eqb-true}
use Rattle.between_steps.specs.declared.Kind.{Kind}
use Rattle.between_steps.specs.declared.Kind.TheVariants.{Derivative, Jacobian, Report}
use Rattle.between_steps.specs.Replies.{is_derivative, is_jacobian, is_answer}

pub derivative-length : (len n : ℕ) (k : Kind) → is_derivative k len n ≡ true → len ≡ n
derivative-length len n Derivative e = eqb-true len n e
derivative-length len n Jacobian e = cc
derivative-length len n (Report a) e = cc

pub jacobian-length : (len n : ℕ) (k : Kind) → is_jacobian k len n ≡ true → len ≡ n * n
jacobian-length len n Derivative e = cc
jacobian-length len n Jacobian e = eqb-true len (n * n) e
jacobian-length len n (Report a) e = cc

pub answer-length : (len n : ℕ) (k : Kind) → is_answer k len n ≡ true → len ≡ n
answer-length len n Derivative e = cc
answer-length len n Jacobian e = cc
answer-length len n (Report a) e = eqb-true len n e
