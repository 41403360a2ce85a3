-- The family test of an accepted step, and the change of family, as in `stoda`. The Rust's ratio is 5, its l is nq + 1.
-- In the second family an order of 6 or more meets the gap: cm2 has five entries, so the Rust panics.
use Rattle.std.specs.Prelude.{Bool, true, false, cond, ◌&&◌, List, ℕ, ◌+◌, leb, ltb, Float}
use Rattle.std.specs.Float.Ieee as Ieee
use Rattle.numbers.specs.Float.{◌⊗◌, ◌⊘◌, zero_f, uround, d1_2, d1_2e_6, d1e_3, d5, d100, d1000}
use Rattle.numbers.specs.Sign.{abs_of}
use Rattle.numbers.specs.Order.{max_of}
use Rattle.root.specs.Root.{root_of}
use Rattle.coefficients.specs.Table.{cm1_of, cm2_of}
use Rattle.common.specs.declared.Settings.{Settings}
use Rattle.common.specs.declared.Common.{Common}
use Rattle.common.specs.declared.MethodFamily.{MethodFamily}
use Rattle.common.specs.declared.MethodFamily.TheVariants.{Adams, Bdf}
use Rattle.common.specs.Record.{with_meth, with_icount, with_pdlast, with_nq}
use Rattle.common.specs.State.{Moved}
use Rattle.common.specs.Limits.{mxordn_of, mxords_of}
use Rattle.common.specs.Rules.{icount20}
use Rattle.history.specs.Columns.{rescale_columns_of}
use Rattle.history.specs.Steps.{least_of, limited_of, adjust_of}
use Rattle.acceptance.specs.declared.family.Change.{Change}
use Rattle.acceptance.specs.declared.family.Change.TheVariants.{Stay, Gap, To}
use Rattle.acceptance.specs.declared.family.Proposal.{Proposal}
use Rattle.acceptance.specs.declared.family.AdamsProposal.{AdamsProposal}
use Rattle.acceptance.specs.Size.{size_of, column_size_of, within_stability_of}

-- ---- from Adams to BDF

-- above its largest order the BDF method's error is that column's size
unfoldable pub bdf_proposal_of : Settings → Common → Float → List Float → Proposal
bdf_proposal_of s c dsm work =
    let q = mxords_of s in
    let dm2 = dsm ⊗ (cm1_of c.table c.nq ⊘ cm2_of c.table c.nq) in
    cond (ltb q c.nq)
    (record { order = q; rh = size_of d1_2 d1_2e_6 (column_size_of s.n (q + 1) work ⊘ cm2_of c.table q) (q + 1) })
    (record { order = c.nq; rh = size_of d1_2 d1_2e_6 dm2 (c.nq + 1) })

abbrev pub adams_factor_of : Common → Float → Float
adams_factor_of c dsm = within_stability_of (size_of d1_2 d1_2e_6 dsm (c.nq + 1)) (c.pdlast ⊗ abs_of c.h) c.nq

unfoldable pub move_if : Bool → Common → Float → ℕ → Change
move_if true c rh order = To (record { rh = max_of rh (least_of c); order = order })
move_if false c rh order = Stay

-- order at most 5, an error above the prediction's noise, an estimate of the Jacobian's norm, and a gain of 5 or more
unfoldable pub to_bdf_of : Settings → Common → Float → List Float → Change
to_bdf_of s c dsm work =
    let p = bdf_proposal_of s c dsm work in
    move_if
    (leb c.nq 5 && (Ieee.lt (d100 ⊗ c.pnorm ⊗ uround) dsm
    && (Ieee.ne c.pdest zero_f && Ieee.le (d5 ⊗ adams_factor_of c dsm) p.rh)))
    c p.rh p.order

-- ---- from BDF to Adams

unfoldable pub adams_proposal_of : Settings → Common → Float → List Float → AdamsProposal
adams_proposal_of s c dsm work =
    let q = mxordn_of s in
    let dm1 = cond (leb c.nq q) (dsm ⊗ (cm2_of c.table c.nq ⊘ cm1_of c.table c.nq))
    (column_size_of s.n (q + 1) work ⊘ cm1_of c.table q) in
    let order = cond (leb c.nq q) c.nq q in
    record { error = dm1; proposal = record { order = order; rh = size_of d1_2 d1_2e_6 dm1 (order + 1) } }

-- rh1, the Adams method's factor within its stability limit; rh2, the BDF method's own
abbrev pub to_adams_at : Common → Float → AdamsProposal → Change
to_adams_at c dsm p =
    let order = p.proposal.order in
    let rh1 = within_stability_of p.proposal.rh (c.pdnorm ⊗ abs_of c.h) order in
    let rh2 = size_of d1_2 d1_2e_6 dsm (c.nq + 1) in
    move_if
    (Ieee.le (d5 ⊗ rh2) (rh1 ⊗ d5)
    && Ieee.lt (d1000 ⊗ uround ⊗ c.pnorm) ((root_of (max_of rh1 d1e_3) (order + 1)).value ⊗ p.error))
    c rh1 order

unfoldable pub to_adams_of : Settings → Common → Float → List Float → Change
to_adams_of s c dsm work = cond (ltb 5 c.nq) Gap (to_adams_at c dsm (adams_proposal_of s c dsm work))

abbrev pub change_in : MethodFamily → Settings → Common → Float → List Float → Change
change_in Adams s c dsm work = to_bdf_of s c dsm work
change_in Bdf s c dsm work = to_adams_of s c dsm work

unfoldable pub change_of : Settings → Common → Float → List Float → Change
change_of s c dsm work = change_in c.meth s c dsm work

-- ---- the change

abbrev pub other_of : MethodFamily → MethodFamily
other_of Adams = Bdf
other_of Bdf = Adams

abbrev pub other_family_of : Common → Proposal → Common
other_family_of c to = with_icount icount20 (with_pdlast zero_f (with_nq to.order (with_meth (other_of c.meth) c)))

-- order and columns move with the family; coefficients, lmax and nqnyh stay
unfoldable pub changed_of : Settings → Common → Proposal → List Float → Moved
changed_of s c to work =
    let d = other_family_of c to in
    record { common = adjust_of d to.rh; work = rescale_columns_of s.n (d.nq + 1) (limited_of d to.rh) work }
