-- What a start answers and leaves, for any problem and whatever is lent (`starts-exactly` in proofs/Exactly.antt,
-- `starts-fresh` in proofs/Fresh.antt). The order of the refusals is that of the rows. What the
-- first derivative is then answered is First's.
use Rattle.std.specs.Prelude.{List, ◌∷◌, ◌≡◌, length}
use Rattle.loops.specs.Part.{put_part}
use Rattle.refusals.specs.Refusal.{Entry}
use Rattle.refusals.specs.Rows.{Row, row, ExactlyFirst}
use Rattle.refusals.specs.Table.{start_rows}
use Rattle.answers.specs.Answers.{refusal_reply}
use Rattle.answers.specs.Called.{Buffers}
use Rattle.raimsklo.specs.Calls.{Problem, lengths_of, start_of}

-- an empty y0 is success (110) before everything; then 1 to 11
abbrev pub start_call_rows : Problem → Buffers → List Row
start_call_rows p b =
    row 110 (length p.y0 ≡ 0)
    ∷ start_rows p.x0 p.xend p.options (lengths_of p b) p.rtol p.atol

-- a row's number, index and value, all else 0, and everything that was lent as it was
abbrev pub Returned : Problem → Buffers → Entry → Type 0
Returned p b r = start_of p b ≡ record { reply = refusal_reply r; lent = b }

-- a row is returned exactly if its condition holds and no earlier one does; the first derivative is wanted (100)
-- exactly if none holds
abbrev pub StartsExactly : Problem → Buffers → Type 0
StartsExactly p b = ExactlyFirst (Returned p b) ((start_of p b).reply.number ≡ 100) (Unit {0}) (start_call_rows p b)

-- an accepted start answers and leaves the same whatever the slices held, but for the question, where y stands first
-- and the rest is as lent
pub record StartsFresh (p : Problem) (b c : Buffers) : Type 0 where
  pub reply : (start_of p b).reply ≡ (start_of p c).reply
  pub work : (start_of p b).lent.work ≡ (start_of p c).lent.work
  pub pivots : (start_of p b).lent.pivots ≡ (start_of p c).lent.pivots
  pub session : (start_of p b).lent.session ≡ (start_of p c).lent.session
  pub question : (start_of p b).lent.question ≡ put_part 0 (length p.y0) b.question p.y0
