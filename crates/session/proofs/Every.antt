-- A test of every index below an end, `every p e`.
--     every_halves             the test in two runs
--     run-of-four              what a run of four tests
--     every-at, every-all      every index passes, if and only if the test does
--     all_range, all-fours     what `all` says of a range, and of one by fours
-- Assumes nothing.
use mathlib.Core.Path.{◌≡◌, refl, sym, ap, ◌∙◌}
use mathlib.Core.Bool.{Bool, true, false, ◌&&◌}
use mathlib.Core.List.{List}
use mathlib.Core.Logic.{⊎_elim}
use Prim.Native.Nat.{ℕ, zero, suc, ◌+◌, ◌*◌, ◌-◌, ◌≤◌, ◌<◌}
use native.Mathlib.Omega.{arith}
use native.Mathlib.Nat.{add_assoc, eq-or-lt_of_le}
use denote.Param.Members.{Mut}
use Rattle.std.specs.Prelude.{Option}
use Rattle.std.specs.Iterator.{YieldsThen}
use Rattle.std.specs.List.{list_all, range_with_len, FoldsTo}
use Rattle.std.specs.Fn.{Called}
use Rattle.std.specs.Option.{MatchOption}
use Rattle.std.proofs.lemmas.Iterator.{YieldsList}
use Rattle.std.proofs.lemmas.Iterator.Search.{all_from_yields_List}
use Rattle.std.proofs.lemmas.Bool.{and_parts}
use Rattle.loops.specs.For.{for, times}
use Rattle.loops.proofs.For.{turn, done, stays-times, keeps}
use Rattle.session.specs.Session.{every, and_at}

none : (i k : ℕ) → i ≤ k → k < i + 0 → ⊥
none i k a b = omega arith

module _ (p : ℕ → Bool) where
  -- a run after a test
  after : (ok : Bool) (n i : ℕ) → times (and_at p) n i ok ≡ ok && times (and_at p) n i true
  after true n i = refl
  after false n i = stays-times (and_at p) false (λ k. refl) n i

  -- a run of n indices first, then the others
  parts : (n i e : ℕ) (ok : Bool) → i + n ≤ e
      → for i e (and_at p) ok ≡ for (i + n) e (and_at p) (for i (i + n) (and_at p) ok)
  parts zero i e ok h =
      let z : i + 0 ≡ i = omega arith in
      rw (z, done (and_at p) i i ok (omega arith))
  parts (suc n) i e ok h =
      let s : i + suc n ≡ i + 1 + n = omega arith in
      rw (s, turn (and_at p) i e ok (omega arith), turn (and_at p) i (i + 1 + n) ok (omega arith))
      (parts n (i + 1) e (ok && p i) (omega arith))

  pub every_halves : (n e : ℕ) → n ≤ e → every p e ≡ for 0 n (and_at p) true && for n e (and_at p) true
  unfolding every
  every_halves n e h =
      let z : 0 + n ≡ n = omega arith in
      rw z at (parts n 0 e true (omega arith)) ∙ after (for 0 n (and_at p) true) (e - n) n

  pub run-of-four : (i : ℕ) → for i (i + 4) (and_at p) true ≡ (p i && p (i + 1) && p (i + 2) && p (i + 3))
  unfolding times
  run-of-four i =
      let four : i + 4 - i ≡ 4 = omega arith in
      simp (four, add_assoc)

  each : (n i k : ℕ) → times (and_at p) n i true ≡ true → i ≤ k → k < i + n → p k ≡ true
  unfolding times
  each zero i k q a b = absurd (none i k a b)
  each (suc n) i k q a b =
      let t = and_parts (p i) (times (and_at p) n (i + 1) true) (sym (after (p i) n (i + 1)) ∙ q) in
      ⊎_elim
      (λ (e : i ≡ k). rw e at t.0)
      (λ (l : i < k). each n (i + 1) k t.1 (omega arith) (omega arith))
      (eq-or-lt_of_le a)

  pub every-at : (e : ℕ) → every p e ≡ true → (k : ℕ) → k < e → p k ≡ true
  unfolding every
  every-at e q k b =
      let z : e - 0 ≡ e = omega arith in
      each e 0 k (rw z at q) (omega arith) (omega arith)

  pub every-all : (e : ℕ) → ((k : ℕ) → k < e → p k ≡ true) → every p e ≡ true
  unfolding every
  every-all e h = keeps (λ (ok : Bool). ok ≡ true) (and_at p) e (λ k ok b q. rw q (h k b)) 0 true (omega arith) refl

-- ---- `all` over a range

module _ (p : ℕ → Bool) where
  all-run : (n i : ℕ) → list_all p (range_with_len i n) ≡ times (and_at p) n i true
  unfolding times
  all-run zero i = refl
  all-run (suc n) i = ap (λ (rest : Bool). p i && rest) (all-run n (i + 1)) ∙ sym (after p (p i) n (i + 1))

  -- each number of the range is tested
  pub all_range : {S F : Type 0} {steps : S → Option ℕ → S → Type 0} {g : Mut F (ℕ × Unit {0}) Bool} (s u : S) (f : F)
      → (r : Bool) (a e : ℕ)
      → (xs : List ℕ) × (o : Option ℕ) × (j : F) × YieldsThen steps s xs o u
      × FoldsTo (λ h x q. Called g h (x, tt) true q) f xs j
      × MatchOption o (r ≡ true) (λ x. (r ≡ false) × ((h : F) × Called g j (x, tt) false h))
      → YieldsList steps (λ x. x) s (range_with_len a (e - a))
      → ((x : ℕ) (b : Bool) (q : F) → Called g f (x, tt) b q → (q ≡ f) × (b ≡ p x)) → r ≡ for a e (and_at p) true
  all_range s u f r a e ran range each = all_from_yields_List p u f r ran range each ∙ all-run (e - a) a

  abbrev pub four : ℕ → Bool
  four k = for (4 * k) (4 * k + 4) (and_at p) true

  fours : (n k : ℕ) (ok : Bool) → for k (k + n) (and_at four) ok ≡ for (4 * k) (4 * (k + n)) (and_at p) ok
  fours zero k ok =
      done (and_at four) k (k + 0) ok (omega arith) ∙ sym (done (and_at p) (4 * k) (4 * (k + 0)) ok (omega arith))
  fours (suc n) k ok =
      let s : k + 1 + n ≡ k + suc n = omega arith in
      let m : 4 * (k + 1) ≡ 4 * k + 4 = omega arith in
      turn (and_at four) k (k + suc n) ok (omega arith) ∙ rw (m, s) at (fours n (k + 1) (ok && four k))
      ∙ ap (for (4 * k + 4) (4 * (k + suc n)) (and_at p)) (sym (after p ok (4 * k + 4 - 4 * k) (4 * k)))
      ∙ sym (parts p 4 (4 * k) (4 * (k + suc n)) ok (omega arith))

  -- by fours
  pub all-fours : (n : ℕ) → for 0 n (and_at four) true ≡ for 0 (n * 4) (and_at p) true
  all-fours n =
      let z : 0 + n ≡ n = omega arith in
      let m : 4 * n ≡ n * 4 = omega arith in
      rw (z, m) at (fours n 0 true)
