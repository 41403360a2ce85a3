-- `in_range` meets its contract. Each test is one of the definition's, on the record and the words as they were read.
-- Assumes nothing.
use Rattle.std.proofs.Common.{arith}
use mathlib.Core.Path.{◌≡◌, sym, ◌∙◌}
use mathlib.Core.Bool.{◌&&◌}
use mathlib.Core.List.{List, []}
use Prim.Native.Nat.{ℕ}
use Rattle.questions.specs.declared.Session.{Session}
use Rattle.session.specs.Session.{decode_of, fields_in_range, tolerances_in_range, pivots_below, in_range_of}
use Rattle.session.specs.Session.{stored_counts}
use Rattle.session.proofs.Thirteen.{lists-small}
use Rattle.session.proofs.Steps.{tests}
use Rattle.session.specs.Fields.{settings_of, common_of}
use Rattle.session.proofs.in_range.Goals as goal

module _ (b ipiv : List ℕ) (x : Session) (u : List ℕ) (e : x ≡ decode_of b) (f : u ≡ stored_counts b) where
  read : (x.settings.n ≡ (settings_of u []).n) × (x.common.nq ≡ (common_of u []).nq)
  unfolding decode_of
  read = (rw (e, f), rw (e, f))

  whole : in_range_of b ipiv
      ≡ fields_in_range u x.settings x.common && tolerances_in_range b x.settings
      && pivots_below ipiv x.settings.n
  unfolding in_range_of
  whole = rw (e, f)

pub fields-requires : goal.fields-requires
fields-requires c =
    let a = c.args in
    read a.bytes.now a.ipiv.now a.x a.u.now c.requires.u_value.1 c.requires.u_value.0

pub tolerances-requires : goal.tolerances-requires
tolerances-requires c =
    let a = c.args in
    let n = (read a.bytes.now a.ipiv.now a.x a.u.now c.requires.u_value.1 c.requires.u_value.0).0 in
    let l = lists-small a.u.now a.x.settings a.x.common n (sym c.fields.ensures ∙ c.if-fields.true) in
    (c.requires.session_length_in_bounds, l.0, l.1)

pub returns-then-tolerances : goal.returns-then-tolerances
returns-then-tolerances c =
    let a = c.args in
    rw (whole a.bytes.now a.ipiv.now a.x a.u.now c.requires.u_value.1 c.requires.u_value.0)
    (grind (arith, tests))

pub returns-else-tolerances : goal.returns-else-tolerances
returns-else-tolerances c =
    let a = c.args in
    rw (whole a.bytes.now a.ipiv.now a.x a.u.now c.requires.u_value.1 c.requires.u_value.0)
    (grind (arith, tests))
