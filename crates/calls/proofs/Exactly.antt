-- A start returns each row of its table exactly if the row's condition holds and no earlier one does.
--     starts-exactly
-- Assumes nothing.
use mathlib.Core.Bool.{Bool, true, false}
use mathlib.Core.List.{List, [], ◌∷◌}
use mathlib.Core.Logic.{◌⊎◌, inl, inr, ◌≢◌, ◌↔◌}
use mathlib.Core.Path.{◌≡◌, refl, sym, ap, ◌∙◌}
use Prim.Native.Nat.{ℕ, ◌≤◌}
use native.Mathlib.Omega.{arith}
use lib.Dec.{eqb}
use lib.ListN.{length}
use borrow.Author.Tests.{eqb-true, eqb-false, ne_eqb}
use Rattle.refusals.specs.Refusal.{Entry}
use Rattle.refusals.specs.Rows.{Row, ExactlyFirst}
use Rattle.refusals.proofs.Rows.{Each}
use Rattle.refusals.proofs.Table.{each_row, exactly-first}
use Rattle.answers.specs.Answers.{refusal_reply}
use Rattle.answers.specs.Called.{Buffers, Called}
use Rattle.raimsklo.specs.Starts.{accepted_start_of}
use Rattle.raimsklo.specs.Calls.{Problem, lengths_of, start_at, start_of}
use Rattle.calls.specs.Start.{Returned, StartsExactly}
use Rattle.calls.proofs.WellFormed.{refusal_of, refusal_rows, some-start, start-number-is}
use Rattle.calls.proofs.Refused.{empty-start, starts}

-- ---- the same claim of other words

both : {A B C : Type 0} → A ↔ B → B ↔ C → A ↔ C
both f g = (λ a. g.0 (f.0 a), λ c. f.1 (g.1 c))

back : {A B : Type 0} → A ↔ B → B ↔ A
back f = (f.1, f.0)

beside : {A B : Type 0} (C : Type 0) → A ↔ B → (A × C) ↔ (B × C)
beside C f = (λ a. (f.0 a.0, a.1), λ b. (f.1 b.0, b.1))

pub exactly-as : (A B : Entry → Type 0) (X Y : Type 0) → X ↔ Y → (rows : List Row) (M N : Type 0) → M ↔ N
    → Each (λ r. A r ↔ B r) rows → ExactlyFirst A X M rows → ExactlyFirst B Y N rows
exactly-as A B X Y e [] M N f g h = both (back e) (both h f)
exactly-as A B X Y e (r ∷ rows) M N f g h = (
  both (back g.0) (both h.0 (beside r.holds f)),
  exactly-as A B X Y e rows (M × (r.holds → ⊥)) (N × (r.holds → ⊥)) (beside (r.holds → ⊥) f) g.1 h.1,
)

exactly-never : (A : Entry → Type 0) (X : Type 0) → (X → ⊥) → (rows : List Row) (None : Type 0) → (None → ⊥)
    → Each (λ r. A r → ⊥) rows → ExactlyFirst A X None rows
exactly-never A X x [] None n g = (λ a. absurd (x a), λ a. absurd (n a))
exactly-never A X x (r ∷ rows) None n g = (
  (λ a. absurd (g.0 a), λ a. absurd (n a.0)),
  exactly-never A X x rows (None × (r.holds → ⊥)) (λ a. n a.0) g.1,
)

-- ---- a start

module _ (p : Problem) (b : Buffers) where
  module _ (some : 1 ≤ length p.y0) where
    at_some : (r : Entry) (t : Bool) → eqb (refusal_of p b).number 0 ≡ t → r.number ≤ 11
        → start_at p b (refusal_of p b) ≡ record { reply = refusal_reply r; lent = b } → refusal_of p b ≡ r
    unfolding start_at accepted_start_of
    at_some r true e small h =
        let q : 100 ≡ r.number = ap (λ (x : Called). x.reply.number) (rw e at h) in
        absurd (omega (arith, q, small))
    at_some r false e small h =
        ap (λ (x : Called). record {
          number = x.reply.number;
          index = x.reply.index;
          value = x.reply.value;
        }) (rw e at h)

    some-returned : (r : Entry) → 1 ≤ r.number → r.number ≤ 11 → (refusal_of p b ≡ r) ↔ Returned p b r
    unfolding start_at
    some-returned r low small = (
      λ e.
          let z : (refusal_of p b).number ≢ 0 = λ k. omega (arith, ap (λ (x : Entry). x.number) e, k, low) in
          some-start p b some ∙ rw (ne_eqb (refusal_of p b).number 0 z, e),
      λ h. at_some r (eqb (refusal_of p b).number 0) refl small (sym (some-start p b some) ∙ h),
    )

  by : (t : Bool) → eqb (length p.y0) 0 ≡ t → StartsExactly p b
  by true e =
      let none : length p.y0 ≡ 0 = eqb-true _ _ e in
      let is = empty-start p b none in (
        (λ h. (tt, none), λ h. is),
        exactly-never (Returned p b) _
            (λ h. let q : ◌≡◌ {A = ℕ} 110 100 = ap (λ (x : Called). x.reply.number) (sym is) ∙ h in omega (arith, q))
            (refusal_rows p b) (Unit {0} × (length p.y0 ≡ 0 → ⊥)) (λ h. h.1 none)
            (each_row (λ r. Returned p b r → ⊥)
            (λ r low small h.
            let q : 110 ≡ r.number = ap (λ (x : Called). x.reply.number) (sym is ∙ h) in omega (arith, q, small))
            p.x0 p.xend p.options (lengths_of p b) p.rtol p.atol),
      )
  by false e =
      let z : length p.y0 ≡ 0 → ⊥ = eqb-false _ _ e in
      let some : 1 ≤ length p.y0 = omega arith in (
        (λ h. absurd (no_end (ap (λ (x : Called). x.reply.number) h) (starts p b some)), λ h. absurd (z h.1)),
        exactly-as (λ r. refusal_of p b ≡ r) (Returned p b) _ _
            (λ h. (start-number-is p b).1 (some, h), λ h. ((start-number-is p b).0 h).1)
            (refusal_rows p b) (Unit {0}) (Unit {0} × (length p.y0 ≡ 0 → ⊥)) (λ h. (tt, z), λ h. tt)
            (each_row (λ r. (refusal_of p b ≡ r) ↔ Returned p b r) (some-returned some)
            p.x0 p.xend p.options (lengths_of p b) p.rtol p.atol)
            (exactly-first p.x0 p.xend p.options (lengths_of p b) p.rtol p.atol),
      )
    where
      no_end : (start_of p b).reply.number ≡ 110
          → ((start_of p b).reply.number ≡ 100)
          ⊎ ((1 ≤ (start_of p b).reply.number) × ((start_of p b).reply.number ≤ 11)) → ⊥
      no_end e (inl h) = omega arith
      no_end e (inr h) = omega arith

  pub starts-exactly : StartsExactly p b
  starts-exactly = by (eqb (length p.y0) 0) refl
