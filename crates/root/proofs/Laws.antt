-- Two loops keep what one turn of each keeps between their states.
-- Assumes nothing.
use Prim.Native.Nat.{ℕ, zero, suc, ◌+◌, ◌-◌}
use Rattle.loops.specs.For.{for, times}

module _ {S : Type 0} (R : S → S → Type 0) (f g : ℕ → S → S)
    (turn : (i : ℕ) (s t : S) → R s t → R (f i s) (g i t)) where
  alike-times : (n i : ℕ) (s t : S) → R s t → R (times f n i s) (times g n i t)
  unfolding times
  alike-times zero i s t r = r
  alike-times (suc n) i s t r = alike-times n (i + 1) (f i s) (g i t) (turn i s t r)

  pub alike : (i e : ℕ) (s t : S) → R s t → R (for i e f s) (for i e g t)
  alike i e s t r = alike-times (e - i) i s t r
