-- What the host lends for a call, and what the call answers and leaves.
-- That slices do not overlap is the host's part: a call takes them as separate lists.
use Rattle.std.specs.Prelude.{List, ℕ, Float}
use Rattle.answers.specs.declared.Reply.{Reply}

-- what the host lends
pub record Buffers : Type 0 where
  pub work : List Float
  pub pivots : List ℕ
  pub session : List ℕ
  pub question : List Float

-- what a call answers and leaves
pub record Called : Type 0 where
  pub reply : Reply
  pub lent : Buffers
