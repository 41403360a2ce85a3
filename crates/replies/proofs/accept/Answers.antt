-- `accept` meets its contract: work and pivots beside what the turn leaves of session and question. Assumes nothing.
use mathlib.Core.List.{List}
use mathlib.Core.Path.{ap, sym, refl, ◌∙◌, ◌≡◌}
use mathlib.Core.Bool.{true}
use Prim.Native.Nat.{ℕ, ◌≤◌}
use lib.Ieee.{Float}
use native.Mathlib.Omega.{arith}
use lib.ListN.{length, replicate, take, length-replicate}
use lib.Seq.{length-take-le, take-length}
use borrow.Author.Rules.{rules}
use Rattle.numbers.specs.Float.{zero_f}
use Rattle.questions.specs.declared.Session.{Session}
use Rattle.questions.specs.Turns.{RunState}
use Rattle.common.specs.Limits.{max_states}
use Rattle.common.specs.State.{given, state}
use Rattle.common.specs.SessionWords.{rtol_at, atol_at}
use Rattle.invariants.proofs.Ranges.{order-after}
use Rattle.invariants.proofs.Lent.{resume-lent}
use Rattle.session.specs.Session.{decode_of, rtol_of, atol_of, rtol_first, atol_first, in_range_of}
use Rattle.loops.specs.Part.{part}
use Rattle.words.specs.Words.{floats_over, floats_in}
use Rattle.words.proofs.Rows.{length_over, over-part}
use Rattle.session.proofs.Thirteen.{lists-fit, resumes}
use Rattle.answers.specs.Called.{Buffers, Called}
use Rattle.replies.specs.Replies.{TurnWritten, written, accepted_reply_of}
use Rattle.replies.proofs.Taken.{unless}
use Rattle.replies.proofs.accept.Goals as goal

abbrev put : List Float → List ℕ → TurnWritten → Called
put w p y = record {
  reply = y.reply;
  lent = record { work = w; pivots = p; session = y.session; question = y.question };
}

abbrev empty : List Float
empty = replicate max_states zero_f

-- the lists of a session in range have slots, and read to a list of their lengths they are the session's
module _ (b p : List ℕ) (x : Session) (q : in_range_of b p ≡ true) (e : x ≡ decode_of b) where
  few : (x.settings.nrtol ≤ max_states) × (x.settings.natol ≤ max_states)
  few = rw e (lists-fit b p q)

  read : (at k : ℕ) → k ≤ max_states → {l : List Float}
      → l ≡ floats_over b at (length (take k empty)) (take k empty) → l ≡ part 0 k (floats_in b at max_states)
  read at k h d =
      let long : k ≤ length empty = omega (arith, h, length-replicate {A = Float} max_states zero_f) in
      let m = length-take-le k empty long in
      let row = floats_over b at k (take k empty) in
      let o = length_over b at k (take k empty) (omega (arith, m)) ∙ m in
      rw (d, m) (sym (rw o at (take-length row)) ∙ over-part b at k (take k empty) (omega (arith, m)) max_states h)

  relative : {l : List Float} → l ≡ rtol_first b (length (take x.settings.nrtol empty)) (take x.settings.nrtol empty)
      → l ≡ rtol_of b
  relative d = read rtol_at x.settings.nrtol few.0 d ∙ rw e refl

  absolute : {l : List Float} → l ≡ atol_first b (length (take x.settings.natol empty)) (take x.settings.natol empty)
      → l ≡ atol_of b
  absolute d = read atol_at x.settings.natol few.1 d ∙ rw e refl

pub slice_bounds-rtol-end : goal.slice_bounds-rtol-end
slice_bounds-rtol-end c =
    (few c.args.bytes.now c.args.pivots.now c.args.x c.requires.pivots_value.0 c.requires.pivots_value.1).0

pub slice_bounds-rtol-end-2 : goal.slice_bounds-rtol-end-2
slice_bounds-rtol-end-2 c =
    let l = few c.args.bytes.now c.args.pivots.now c.args.x c.requires.pivots_value.0 c.requires.pivots_value.1 in
    search (rules, l.0)

pub slice_bounds-atol-end : goal.slice_bounds-atol-end
slice_bounds-atol-end c =
    (few c.args.bytes.now c.args.pivots.now c.args.x c.requires.pivots_value.0 c.requires.pivots_value.1).1

pub slice_bounds-atol-end-2 : goal.slice_bounds-atol-end-2
slice_bounds-atol-end-2 c =
    let l = few c.args.bytes.now c.args.pivots.now c.args.x c.requires.pivots_value.0 c.requires.pivots_value.1 in
    search (rules, l.1)

pub resume-turn-requires : goal.resume-turn-requires
resume-turn-requires c =
    let x = c.args in
    let b = x.bytes.now in
    let q = c.requires.pivots_value in
    let z = c.requires.sized in
    let rtol = relative b x.pivots.now x.x q.0 q.1 c.rtol.ensures in
    let atol = absolute b x.pivots.now x.x q.0 q.1 c.atol.ensures in
    let r = resumes b x.pivots.now q.0 x.work.now z.sized z.pivoted in
    rw (rtol, atol, q.1) record { n_le_max_states = z.states.1; unless_finished = unless (decode_of b).phase r }

pub write_turn-requires : goal.write_turn-requires
write_turn-requires c =
    let x = c.args in
    let b = x.bytes.now in
    let s = (decode_of b).settings in
    let q = c.requires.pivots_value in
    let z = c.requires.sized in
    let r = resumes b x.pivots.now q.0 x.work.now z.sized z.pivoted in
    let rtol = relative b x.pivots.now x.x q.0 q.1 c.rtol.ensures in
    let atol = absolute b x.pivots.now x.x q.0 q.1 c.atol.ensures in
    let turned = rw (rtol, atol, q.1) at c.resume-turn.ensures in
    let g = given s (rtol_of b) (atol_of b) in
    let st = state (decode_of b).common x.work.now x.pivots.now in
    let order = order-after g (decode_of b).phase st x.kind x.numbers.now x.time r.ranges in
    let room = (resume-lent g (decode_of b).phase st x.numbers.now x.time r.lent x.kind).sized in
    let low = ap (λ (l : RunState). l.st.c.nq) turned in
    let long = ap (λ (l : RunState). length l.st.w) turned in
    rw q.1 record {
      le_n = (z.states.0, z.states.1, omega (arith, low, order));
      n_in_bounds = (omega (arith, long, room), omega (arith, z.asked));
      session_length_in_bounds = omega (arith, c.requires.bytes_len);
    }

pub returns : goal.returns
unfolding accepted_reply_of
returns c =
    let x = c.args in
    let b = x.bytes.now in
    let s = (decode_of b).settings in
    let q = c.requires.pivots_value in
    let rtol = relative b x.pivots.now x.x q.0 q.1 c.rtol.ensures in
    let atol = absolute b x.pivots.now x.x q.0 q.1 c.atol.ensures in
    let turned = rw (rtol, atol, q.1) at c.resume-turn.ensures in
    let wrote = rw q.1 at c.write_turn.ensures in
    let lent : Buffers = record {
      work = x.work.now;
      pivots = x.pivots.now;
      session = b;
      question = x.question.now;
    } in
    ap (put _ _) wrote ∙ ap (λ (l : RunState). written s l lent) turned
