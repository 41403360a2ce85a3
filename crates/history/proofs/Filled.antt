-- A list into which one value is stored throughout holds that value alone (`filled`). Assumes nothing.
use mathlib.Core.List.{List, [], ◌∷◌, ◌++◌}
use mathlib.Core.Path.{◌≡◌, refl, ap, ◌∙◌}
use Prim.Native.Nat.{ℕ, ◌+◌, ◌-◌}
use native.Mathlib.Omega.{arith}
use lib.ListN.{length, set, replicate, length-append}
use lib.Seq.{append_snoc, set-append_seam}
use Rattle.loops.specs.For.{for, times}

abbrev pub store_at : {A : Type 0} → A → ℕ → List A → List A
store_at x i l = set l i x

-- p is done already
rest : {A : Type 0} (x : A) (l p : List A)
    → times (store_at x) (length l) (length p) (p ++ l) ≡ p ++ replicate (length l) x
unfolding times
rest x [] p = refl
rest {A} x (y ∷ l) p =
    let long : length (p ++ (x ∷ [])) ≡ length p + 1 = length-append p (x ∷ []) in
    ap (λ (w : List A). times (store_at x) (length l) (length p + 1) w) (set-append_seam p y l x)
    ∙ (rw (long, append_snoc p x l, append_snoc p x (replicate (length l) x)) at (rest x l (p ++ (x ∷ []))))

pub filled : {A : Type 0} (x : A) (l : List A) → for 0 (length l) (store_at x) l ≡ replicate (length l) x
filled x l =
    let z : length l - 0 ≡ length l = omega arith in
    rw z (rest x l [])
