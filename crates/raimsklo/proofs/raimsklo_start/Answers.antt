-- `raimsklo_start` meets its contract. Assumes nothing.
use mathlib.Core.Path.{refl, sym, ap, ◌∙◌}
use borrow.Author.Tests.{eqb-false}
use native.Mathlib.Omega.{arith}
use Rattle.refusals.proofs.Accepted.{accepted}
use Rattle.refusals.proofs.Entries.{refuses}
use Rattle.refusals.specs.Start.{accepted_settings, accepted_of}
use Rattle.refusals.specs.Refusal.{Entry}
use Rattle.raimsklo.specs.Calls.{start_of, start_at}
use Rattle.raimsklo.proofs.raimsklo_start.Goals as goal

pub accept-requires : goal.accept-requires
unfolding accepted_settings accepted_of
accept-requires c =
    let st = accepted _ _ _ _ _ _ (ap (λ (r : Entry). r.number) (sym c.in-Ok.ensures)) in
    let l = st.limits in
    let some = sym c.is_empty.ensures ∙ c.if-is_empty.false in
    rw c.new-start.ensures record {
      accepted = record {
        n = (omega (arith, eqb-false _ _ some), st.sizes.n);
        maxsteps = l.maxsteps;
        mxordn = l.mxordn;
        mxords = l.mxords;
        maxcor = l.maxcor;
        msbp = l.msbp;
        mxncf = l.mxncf;
      };
      y0_len = (refl, st.sizes.work);
      session_length_in_bounds = (omega (arith, st.sizes.session), omega (arith, st.sizes.question));
    }

pub returns-in-Err : goal.returns-in-Err
unfolding start_of start_at
returns-in-Err c =
    rw (sym c.is_empty.ensures ∙ c.if-is_empty.false, ← c.in-Err.ensures, refuses c.in-Err.r, c.from.ensures)

pub returns-in-Ok : goal.returns-in-Ok
unfolding start_of start_at accepted_of
returns-in-Ok c =
    rw (sym c.is_empty.ensures ∙ c.if-is_empty.false, ← c.in-Ok.ensures)
    (rw c.new-start.ensures at c.accept.ensures)
