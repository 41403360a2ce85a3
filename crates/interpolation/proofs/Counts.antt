-- What the reading of a header means.
--     count-is, is-count    `whole_count_of x limit` is `Some k` exactly if k is at most the limit and x is k's float
--     count_within          its limit alone
--     count-not, not-count  it is `None` exactly if x equals no count up to the limit
--     header-reads, reads-header    a header is read exactly if condition 15 does not hold; these are its sizes
-- The first count found is the only one, since the float of a count has its value and x has one value.
-- Assumes nothing.
use mathlib.Core.Path.{◌≡◌, refl, sym, ap, ◌∙◌}
use mathlib.Core.Bool.{Bool, true, false, cond}
use mathlib.Core.List.{List}
use Prim.Native.Nat.{ℕ, ◌+◌, ◌*◌, ◌^◌, ◌≤◌, ◌<◌}
use native.Mathlib.Nat.{lt_of_le_of_lt, mul-one, mul_right_comm, eq_of_mul-eq-mul_right}
use native.Mathlib.Omega.{arith}
use lib.Dec.{eqb, ltb, lit<}
use lib.ListN.{length, get_or}
use lib.Pow.{shl_lt}
use lib.Ieee as Ieee
use lib.Ieee.{Float, nan, inf, fin, binary64, up, down, of_int}
use lib.Ieee.Exact.{HasValue, round_exact}
use lib.Ieee.Fits.{down_pos}
use borrow.Author.Count.{below_none, below_more}
use borrow.Author.Tests.{eq-eqb, eqb-true, ltb-false, le-ltb}
use Rattle.std.specs.Prelude.{Option, Some, None}
use Rattle.std.proofs.lemmas.Bool.{and_parts, false≢true}
use Rattle.loops.proofs.For.{reaches}
use Rattle.numbers.specs.Float.{whole}
use Rattle.common.specs.Limits.{max_states}
use Rattle.interpolation.specs.declared.Sizes.{Sizes}
use Rattle.interpolation.specs.Header.{whole_count_at, whole_count_of, with_order, with_states, read_header_of, Reads}

-- what is known of x once the counts below k were tried
abbrev Tried : Float → ℕ → Option ℕ → Type 0
Tried x k (Some j) = (j < k) × (Ieee.eq x (whole j) ≡ true)
Tried x k None = (j : ℕ) → j < k → Ieee.eq x (whole j) ≡ false

tried_here : (x : Float) (k : ℕ) (b : Bool) → Ieee.eq x (whole k) ≡ b → ((j : ℕ) → j < k → Ieee.eq x (whole j) ≡ false)
    → Tried x (k + 1) (cond b (Some k) None)
tried_here x k true e p = (omega arith, e)
tried_here x k false e p = below_more (λ (j : ℕ). Ieee.eq x (whole j) ≡ false) k p e

tried-at : (x : Float) (k : ℕ) (s : Option ℕ) → Tried x k s → Tried x (k + 1) (whole_count_at x k s)
tried-at x k (Some j) p = (omega arith, p.1)
tried-at x k None p = tried_here x k (Ieee.eq x (whole k)) refl p

module _ (x : Float) (limit : ℕ) where
  tried : Tried x (limit + 1) (whole_count_of x limit)
  unfolding whole_count_of
  tried =
      reaches (Tried x) (whole_count_at x) (limit + 1) (λ k s h p. tried-at x k s p) 0 None (omega arith)
      (below_none (λ (j : ℕ). Ieee.eq x (whole j) ≡ false))

  pub count-is : (k : ℕ) → whole_count_of x limit ≡ Some k → (k ≤ limit) × (Ieee.eq x (whole k) ≡ true)
  count-is k e = let p = rw e at tried in (omega arith, p.1)

  pub count_within : (k : ℕ) → whole_count_of x limit ≡ Some k → k ≤ limit
  count_within k e = (count-is k e).0

  pub count-not : whole_count_of x limit ≡ None → (k : ℕ) → k ≤ limit → Ieee.eq x (whole k) ≡ false
  count-not e k h = let p = rw e at tried in p k (omega arith)

-- a float whose value is k: finite, and m · 2^e = k (of -0.0 too)
abbrev Value : Float → ℕ → Type 0
Value nan k = ⊥
Value (inf s) k = ⊥
Value (fin s m e) k = m * up e ≡ k * down e

value_of : (x y : Float) (k : ℕ) → HasValue y false k 1 → Ieee.eq x y ≡ true → Value x k
unfolding Ieee.eq
value_of nan y k v q = absurd (false≢true q)
value_of (inf s) nan k v q = absurd (false≢true q)
value_of (inf s) (inf t) k v q = absurd v
value_of (inf s) (fin t n d) k v q = absurd (false≢true q)
value_of (fin s m e) nan k v q = absurd v
value_of (fin s m e) (inf t) k v q = absurd v
value_of (fin s m e) (fin t n d) k v q =
    let a = m * up e * down d in
    let b = n * up d * down e in
    let level : a ≡ b = eqb-true a b (and_parts (eqb a b) _ q).0 in
    let one : n * up d ≡ k * down d = sym (mul-one (n * up d)) ∙ v.1 in
    eq_of_mul-eq-mul_right (down d) (down_pos d) (m * up e) (k * down e)
    (level ∙ ap (λ (a : ℕ). a * down e) one ∙ mul_right_comm k (down d) (down e))

whole-value : (k : ℕ) → k ≤ max_states → HasValue (whole k) false k 1
unfolding of_int
whole-value k h =
    let small : k * 2 ^ 1074 < 2 ^ 2098 = shl_lt 1024 1074 (lt_of_le_of_lt h (lit< tt)) in
    round_exact binary64 false k 1 k 1074 (omega arith) (omega arith) small (sym (mul-one _))

self : (x : Float) (k : ℕ) → HasValue x false k 1 → Ieee.eq x x ≡ true
unfolding Ieee.eq
self nan k v = absurd v
self (inf s) k v = absurd v
self (fin true m e) k v = rw (eq-eqb (m * up e * down e) (m * up e * down e) refl)
self (fin false m e) k v = rw (eq-eqb (m * up e * down e) (m * up e * down e) refl)

pub whole-self : (k : ℕ) → k ≤ max_states → Ieee.eq (whole k) (whole k) ≡ true
whole-self k h = self (whole k) k (whole-value k h)

one_value : (x : Float) (j k : ℕ) → Value x j → Value x k → j ≡ k
one_value nan j k p q = absurd p
one_value (inf s) j k p q = absurd p
one_value (fin s m e) j k p q = eq_of_mul-eq-mul_right (down e) (down_pos e) j k (sym p ∙ q)

pub is-count : (x : Float) (limit k : ℕ) → limit ≤ max_states → k ≤ limit → Ieee.eq x (whole k) ≡ true
    → whole_count_of x limit ≡ Some k
is-count x limit k l h q = go (whole_count_of x limit) (tried x limit)
  where
    value : (j : ℕ) → j ≤ limit → Ieee.eq x (whole j) ≡ true → Value x j
    value j b = value_of x (whole j) j (whole-value j (omega arith))

    go : (s : Option ℕ) → Tried x (limit + 1) s → s ≡ Some k
    go (Some j) p = ap Some (one_value x j k (value j (omega arith) p.1) (value k h q))
    go None p = absurd (false≢true (sym (p k (omega arith)) ∙ q))

pub not-count : (x : Float) (limit : ℕ) → ((k : ℕ) → k ≤ limit → Ieee.eq x (whole k) ≡ false)
    → whole_count_of x limit ≡ None
not-count x limit h = go (whole_count_of x limit) (tried x limit)
  where
    go : (s : Option ℕ) → Tried x (limit + 1) s → s ≡ None
    go (Some j) p = absurd (false≢true (sym (h j (omega (arith, p.0))) ∙ p.1))
    go None p = refl

module _ (cont : List Float) where
  abbrev ReadsIf : Option Sizes → Type 0
  ReadsIf None = Unit {0}
  ReadsIf (Some z) = Reads cont z

  order-read : (n : ℕ) → 6 ≤ length cont → (n ≤ max_states) × (Ieee.eq (get_or cont 0 nan) (whole n) ≡ true)
      → (o : Option ℕ) → whole_count_of (get_or cont 1 nan) 12 ≡ o → ReadsIf (with_order cont n o)
  order-read n l s (Some nq) e =
      record { long = l; states = s; order = count-is (get_or cont 1 nan) 12 nq e; time = refl; step = refl }
  order-read n l s None e = tt

  states-read : 6 ≤ length cont → (s : Option ℕ) → whole_count_of (get_or cont 0 nan) max_states ≡ s
      → ReadsIf (with_states cont s)
  states-read l (Some n) e =
      order-read n l (count-is (get_or cont 0 nan) max_states n e) (whole_count_of (get_or cont 1 nan) 12) refl
  states-read l None e = tt

  long-read : (b : Bool) → ltb (length cont) 6 ≡ b
      → ReadsIf (cond b None (with_states cont (whole_count_of (get_or cont 0 nan) max_states)))
  long-read true e = tt
  long-read false e = states-read (ltb-false (length cont) 6 e) (whole_count_of (get_or cont 0 nan) max_states) refl

  header-if : ReadsIf (read_header_of cont)
  unfolding read_header_of
  header-if = long-read (ltb (length cont) 6) refl

  pub header-reads : (z : Sizes) → read_header_of cont ≡ Some z → Reads cont z
  header-reads z e = rw e at header-if

  pub reads-header : (z : Sizes) → Reads cont z → read_header_of cont ≡ Some z
  unfolding read_header_of
  reads-header z r =
      let n = is-count (get_or cont 0 nan) max_states z.n (omega arith) r.states.0 r.states.1 in
      let nq = is-count (get_or cont 1 nan) 12 z.nq (omega arith) r.order.0 r.order.1 in
      rw (le-ltb (length cont) 6 r.long, n, nq, ← r.time, ← r.step)
