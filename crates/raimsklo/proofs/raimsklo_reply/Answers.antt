-- `raimsklo_reply` meets its contract. Assumes nothing.
use mathlib.Core.Path.{sym, ap}
use borrow.Author.Tests.{ne_eqb}
use Rattle.replies.proofs.Taken.{taken}
use Rattle.session.proofs.Back.{stored-n}
use Rattle.refusals.proofs.Entries.{refuses}
use Rattle.refusals.specs.Refusal.{Entry}
use Rattle.replies.specs.Replies.{reply_refusal_of}
use Rattle.raimsklo.specs.Calls.{reply_of, reply_at}
use Rattle.raimsklo.proofs.raimsklo_reply.Goals as goal

pub returns-then-session-ne-SESSION_LENGTH : goal.returns-then-session-ne-SESSION_LENGTH
unfolding reply_of reply_at reply_refusal_of
returns-then-session-ne-SESSION_LENGTH c =
    rw (ne_eqb _ _ c.if-session-ne-SESSION_LENGTH.true, c.from.ensures)

pub accept-requires : goal.accept-requires
accept-requires c =
    let b = c.args.session.now in
    let t = taken _ _ _ _ _ (ap (λ (r : Entry). r.number) (sym c.in-Ok.ensures.refused)) in record {
      bytes_len = t.bytes;
      pivots_value = (t.ranges, c.decode-x.ensures);
      sized = rw (stored-n b) (record { states = t.n; sized = t.work; pivoted = t.pivots; asked = t.question });
    }

pub returns-in-Err : goal.returns-in-Err
unfolding reply_of reply_at
returns-in-Err c = rw (← c.in-Err.ensures.refused, refuses c.in-Err.r, c.from-in-Err.ensures)

pub returns-in-Ok : goal.returns-in-Ok
unfolding reply_of reply_at
returns-in-Ok c = rw (← c.in-Ok.ensures.refused, ← c.in-Ok.ensures.kind) c.accept.ensures
