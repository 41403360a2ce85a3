-- `judge` tests what is known of the rate. Assumes nothing.
use mathlib.Core.Path.{sym, ◌∙◌}
use borrow.Author.Tests.{eq-eqb, ne_eqb}
use Rattle.corrector.specs.Verdict.{known_rate_of, judge_of}
use Rattle.corrector.proofs.Shared.{in-range-known}
use Rattle.corrector.proofs.judge.Goals as goal
use Rattle.corrector.proofs.judge.Goals.{else-c-eq0-via-then-c-eq0+else-not-is_bdf, else-c-eq0-via-else-c-eq0}

pub tested-requires : goal.tested-requires
tested-requires c =
    let k = in-range-known c.args.s c.args.c c.in-Ok.del c.requires.step_in_range c.requires.maxcor_bound.1 in
    rw c.known_rate.ensures record { step_in_range = k.0; maxcor_bound = (c.requires.maxcor_bound.0, k.1) }

pub returns-else-c-eq0 : goal.returns-else-c-eq0
unfolding judge_of known_rate_of
returns-else-c-eq0 c =
    rw (c.in-Ok.is, c.if-del-pnorm.false, c.tested.ensures, c.known_rate.ensures)
    (elim c.else-c-eq0.branch [
      | else-c-eq0-via-then-c-eq0+else-not-is_bdf w ↦
          rw (eq-eqb _ _ w.if-c-eq0.true, sym w.is_bdf.ensures ∙ w.if-not-is_bdf.false)
      | else-c-eq0-via-else-c-eq0 w ↦ rw (ne_eqb _ _ w.if-c-eq0.false)
    ])
