-- The refusals of interpolation, both ways: each test decides its condition.
--     unread, fifteen, sixteen, seventeen    what is answered where a condition holds
--     interpolate-refused
-- Assumes nothing.
use mathlib.Core.Bool.{Bool, true, false, cond}
use mathlib.Core.List.{List}
use mathlib.Core.Logic.{◌⊎◌, inl, inr, ◌≢◌}
use mathlib.Core.Path.{◌≡◌, refl, sym, ap, ◌∙◌}
use Prim.Native.Nat.{ℕ, ◌+◌, ◌-◌, ◌*◌}
use native.Mathlib.Omega.{arith}
use lib.Dec.{eqb, ltb}
use lib.ListN.{length, get_or}
use lib.Ieee as Ieee
use lib.Ieee.{Float, nan}
use borrow.Author.Tests.{eqb-true, eqb-false, ltb-true, eq-eqb, ne_eqb, lt-ltb}
use Rattle.std.specs.Prelude.{Option, Some, None}
use Rattle.loops.proofs.Test.{differs}
use Rattle.numbers.specs.Float.{zero_f}
use Rattle.common.specs.Limits.{max_states}
use Rattle.interpolation.specs.declared.Sizes.{Sizes}
use Rattle.interpolation.specs.Header.{whole_count_of, with_order, with_states, read_header_of, Reads}
use Rattle.interpolation.specs.Evaluate.{Interpolated, outputs, evaluate_of, interpolate_sized_of, headed_of}
use Rattle.interpolation.specs.Evaluate.{interpolate_of}
use Rattle.interpolation.specs.Refused.{Unreadable, OutputOther, Unusable, InterpolateRefused}
use Rattle.interpolation.proofs.Counts.{count-not, header-reads, reads-header}
use Rattle.interpolation.proofs.Laws.{copied, unchanged}

-- ---- 15

module _ (cont : List Float) where
  -- a header that is not read, and what kept it from it
  abbrev Why : Option Sizes → Type 0
  Why None = Unreadable cont
  Why (Some z) = Unit {0}

  order-why : (n : ℕ) (o : Option ℕ) → whole_count_of (get_or cont 1 nan) 12 ≡ o → Why (with_order cont n o)
  order-why n (Some nq) e = tt
  order-why n None e = inr (inr (count-not (get_or cont 1 nan) 12 e))

  states-why : (s : Option ℕ) → whole_count_of (get_or cont 0 nan) max_states ≡ s → Why (with_states cont s)
  states-why (Some n) e = order-why n (whole_count_of (get_or cont 1 nan) 12) refl
  states-why None e = inr (inl (count-not (get_or cont 0 nan) max_states e))

  long-why : (t : Bool) → ltb (length cont) 6 ≡ t
      → Why (cond t None (with_states cont (whole_count_of (get_or cont 0 nan) max_states)))
  long-why true e = inl (ltb-true (length cont) 6 e)
  long-why false e = states-why (whole_count_of (get_or cont 0 nan) max_states) refl

  why : Why (read_header_of cont)
  unfolding read_header_of
  why = long-why (ltb (length cont) 6) refl

  pub unread : read_header_of cont ≡ None → Unreadable cont
  unread e = rw e at why

  -- and no sizes are read where it is unreadable
  unreadable : (z : Sizes) → Reads cont z → Unreadable cont → ⊥
  unreadable z r (inl h) = omega (arith, r.long)
  unreadable z r (inr (inl h)) = differs (sym (h z.n r.states.0) ∙ r.states.1)
  unreadable z r (inr (inr h)) = differs (sym (h z.nq r.order.0) ∙ r.order.1)

  refused-at : (h : Option Sizes) → read_header_of cont ≡ h → Unreadable cont → read_header_of cont ≡ None
  refused-at None e u = e
  refused-at (Some z) e u = absurd (unreadable z (header-reads cont z e) u)

-- ---- what is answered, and why

module _ (xi : Float) (cont yi : List Float) where
  abbrev answer : Interpolated
  answer = interpolate_of xi cont yi

  data Outcome (r : Interpolated) : Type 0 where
    done : r.number ≡ 0 → Outcome r
    no_header : length cont ≢ length yi → Unreadable cont → r.number ≡ 15 → Outcome r
    no_output : length cont ≢ length yi → (z : Sizes) → Reads cont z → OutputOther z yi → r.number ≡ 16 → Outcome r
    no-history : length cont ≢ length yi → (z : Sizes) → Reads cont z → length yi ≡ z.n → Unusable z cont
        → r.number ≡ 17 → Outcome r

  module _ (other : length cont ≢ length yi) where
    sized : (z : Sizes) → Reads cont z → (s t u : Bool) → eqb (length yi) z.n ≡ s
        → ltb (length cont - 6) ((z.nq + 1) * z.n) ≡ t → Ieee.eq z.h zero_f ≡ u
        → Outcome (cond s (cond t (outputs 17 yi) (cond u (outputs 17 yi) (outputs 0 (evaluate_of xi cont z yi))))
        (outputs 16 yi))
    sized z r false t u e f g = no_output other z r (eqb-false _ _ e) refl
    sized z r true true u e f g = no-history other z r (eqb-true _ _ e) (inl (ltb-true _ _ f)) refl
    sized z r true false true e f g = no-history other z r (eqb-true _ _ e) (inr g) refl
    sized z r true false false e f g = done refl

    headed : (h : Option Sizes) → read_header_of cont ≡ h → Outcome (headed_of xi cont h yi)
    unfolding interpolate_sized_of
    headed None e = no_header other (unread cont e) refl
    headed (Some z) e =
        sized z (header-reads cont z e) (eqb (length yi) z.n) (ltb (length cont - 6) ((z.nq + 1) * z.n))
        (Ieee.eq z.h zero_f) refl refl refl

  outcome-at : (t : Bool) → eqb (length cont) (length yi) ≡ t → Outcome answer
  unfolding interpolate_of
  outcome-at true e = rw e (done refl)
  outcome-at false e = rw e (headed (eqb-false _ _ e) (read_header_of cont) refl)

  outcome : Outcome answer
  outcome = outcome-at (eqb (length cont) (length yi)) refl

  -- ---- and back

  module _ (other : length cont ≢ length yi) where
    pub fifteen : Unreadable cont → answer ≡ outputs 15 yi
    unfolding interpolate_of
    fifteen u = rw (ne_eqb (length cont) (length yi) other, refused-at cont (read_header_of cont) refl u)

    pub sixteen : (z : Sizes) → Reads cont z → OutputOther z yi → answer ≡ outputs 16 yi
    unfolding interpolate_of interpolate_sized_of
    sixteen z r o =
        rw (ne_eqb (length cont) (length yi) other, reads-header cont z r, ne_eqb (length yi) z.n o)

    pub seventeen : (z : Sizes) → Reads cont z → length yi ≡ z.n → Unusable z cont → answer ≡ outputs 17 yi
    unfolding interpolate_of interpolate_sized_of
    seventeen z r e (inl h) =
        rw (
          ne_eqb (length cont) (length yi) other,
          reads-header cont z r,
          eq-eqb (length yi) z.n e,
          lt-ltb (length cont - 6) ((z.nq + 1) * z.n) h,
        )
    seventeen z r e (inr h) =
        rw (ne_eqb (length cont) (length yi) other, reads-header cont z r, eq-eqb (length yi) z.n e, h)
        (by (ltb (length cont - 6) ((z.nq + 1) * z.n)))
      where
        by : (t : Bool) → cond t (outputs 17 yi) (outputs 17 yi) ≡ outputs 17 yi
        by true = refl
        by false = refl

  -- ---- the claim

  abbrev number_of : {k : ℕ} → answer ≡ outputs k yi → answer.number ≡ k
  number_of e = ap (λ (r : Interpolated). r.number) e

  clash : {j k : ℕ} → answer.number ≡ j → answer.number ≡ k → j ≡ k
  clash e f = sym e ∙ f

  why-fifteen : answer.number ≡ 15 → Outcome answer → (length cont ≢ length yi) × Unreadable cont
  why-fifteen e (done f) = absurd (eqb-false 0 15 refl (clash f e))
  why-fifteen e (no_header o u f) = (o, u)
  why-fifteen e (no_output o z r u f) = absurd (eqb-false 16 15 refl (clash f e))
  why-fifteen e (no-history o z r l u f) = absurd (eqb-false 17 15 refl (clash f e))

  why-sixteen : answer.number ≡ 16 → Outcome answer
      → (length cont ≢ length yi) × ((z : Sizes) × Reads cont z × OutputOther z yi)
  why-sixteen e (done f) = absurd (eqb-false 0 16 refl (clash f e))
  why-sixteen e (no_header o u f) = absurd (eqb-false 15 16 refl (clash f e))
  why-sixteen e (no_output o z r u f) = (o, (z, r, u))
  why-sixteen e (no-history o z r l u f) = absurd (eqb-false 17 16 refl (clash f e))

  why-seventeen : answer.number ≡ 17 → Outcome answer
      → (length cont ≢ length yi) × ((z : Sizes) × Reads cont z × (length yi ≡ z.n) × Unusable z cont)
  why-seventeen e (done f) = absurd (eqb-false 0 17 refl (clash f e))
  why-seventeen e (no_header o u f) = absurd (eqb-false 15 17 refl (clash f e))
  why-seventeen e (no_output o z r u f) = absurd (eqb-false 16 17 refl (clash f e))
  why-seventeen e (no-history o z r l u f) = (o, (z, r, l, u))

  numbers : Outcome answer
      → (answer.number ≡ 0) ⊎ (answer.number ≡ 15) ⊎ (answer.number ≡ 16) ⊎ (answer.number ≡ 17)
  numbers (done f) = inl f
  numbers (no_header o u f) = inr (inl f)
  numbers (no_output o z r u f) = inr (inr (inl f))
  numbers (no-history o z r l u f) = inr (inr (inr f))

  pub interpolate-refused : InterpolateRefused xi cont yi
  interpolate-refused = record {
    copies = copied xi cont yi;
    fifteen = (λ e. why-fifteen e outcome, λ h. number_of (fifteen h.0 h.1));
    sixteen = (λ e. why-sixteen e outcome, λ h. number_of (sixteen h.0 h.1.0 h.1.1 h.1.2));
    seventeen =
        (λ e. why-seventeen e outcome, λ h. number_of (seventeen h.0 h.1.0 h.1.1 h.1.2 h.1.3));
    others = numbers outcome;
    unchanged = unchanged xi cont yi;
  }
