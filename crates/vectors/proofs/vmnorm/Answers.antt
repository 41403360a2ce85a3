use Prim.Native.Nat.{ℕ, zero, suc, ◌+◌, ◌-◌, ◌*◌, ◌/◌, ◌≤◌, ◌<◌}
use mathlib.Core.List.{List, []}
use mathlib.Core.Path.{◌≡◌, refl, ap, ◌∙◌}
use native.Mathlib.Omega.{arith}
use lib.ListN.{length, get_or, take, drop}
use lib.Seq.{drop-drop}
use lib.Ieee.{Float, nan}
use Rattle.std.specs.Simd.{first_chunks}
use Rattle.loops.proofs.Part.{get_d_part}
use Rattle.vectors.specs.Norm.{vmnorm_of}
use Rattle.vectors.specs.declared.Four.{Four}
use Rattle.vectors.specs.Maxima.{four_at}
use Rattle.vectors.proofs.Maxima.{all-clean, top-zero, clean-number, top-number, four-clean, four-on}
use Rattle.vectors.proofs.vmnorm.Goals as goal

-- chunk k of four is the four elements at 4·k
chunk : (k c : ℕ) (l : List Float) → k < c → get_or (first_chunks 4 c l) k [] ≡ take 4 (drop (4 * k) l)
chunk zero (suc c) l h = refl
chunk (suc k) (suc c) l h =
    let more : 4 * suc k ≡ 4 + 4 * k = omega arith in
    chunk k c (drop 4 l) (omega arith) ∙ ap (take 4) (drop-drop (4 * k) 4 l ∙ rw more)
chunk zero zero l h = elim h [ ]
chunk (suc k) zero l h = elim h [ ]

abbrev fours : List Float → ℕ → List Float
fours l k = get_or (first_chunks 4 (length l / 4) l) k []

read : (l : List Float) (k j : ℕ) → k < length l / 4 → j < 4 → get_or (fours l k) j nan ≡ get_or l (4 * k + j) nan
read l k j h s =
    ap (λ x. get_or x j nan) (chunk k (length l / 4) l h) ∙ get_d_part (4 * k) 4 l (omega arith) j nan s

all-four : (v w : List Float) (k : ℕ) (m : Four) → k < length v / 4 → length v ≤ length w
    → four_at (fours v k) (fours w k) 0 m ≡ four_at v w (4 * k) m
all-four v w k m h e =
    let g : k < length w / 4 = omega arith in
    let first : 4 * k + 0 ≡ 4 * k = omega arith in
    rw (
      read v k 0 h (omega arith),
      read v k 1 h (omega arith),
      read v k 2 h (omega arith),
      read v k 3 h (omega arith),
      read w k 0 g (omega arith),
      read w k 1 g (omega arith),
      read w k 2 g (omega arith),
      read w k 3 g (omega arith),
      first,
    ) refl

pub loop-k-init : goal.loop-k-init
unfolding vmnorm_of
loop-k-init c = (all-clean, rw top-zero)

pub with_entries-m-requires-clause-a_value : goal.with_entries-m-requires-clause-a_value
with_entries-m-requires-clause-a_value c =
    let p = c.loop-k.invariant.0 in
    (clean-number _ p.a, clean-number _ p.b)

pub with_entries-m-requires-clause-c_value : goal.with_entries-m-requires-clause-c_value
with_entries-m-requires-clause-c_value c =
    let p = c.loop-k.invariant.0 in
    (clean-number _ p.c, clean-number _ p.d)

pub loop-k-preserved : goal.loop-k-preserved
loop-k-preserved c =
    let v = c.args.v.now in
    let w = c.args.w.now in
    let l = c.loop-k in
    let p = l.invariant.0 in
    let next : 4 * (l.k + 1) ≡ 4 * l.k + 4 = omega arith in
    let inside : l.k < length v / 4 = omega (arith, c.loop-k-test.true, c.as_chunks.ensures.front_len) in
    let four : c.with_entries-m.result ≡ four_at v w (4 * l.k) l.m =
    c.with_entries-m.ensures
    ∙ rw (c.as_chunks.ensures.front, c.as_chunks-2.ensures.front) (all-four v w l.k l.m inside c.requires)
    in
    rw (four, next) (
      four-clean v w (4 * l.k) l.m p,
      four-on v w (4 * l.k) l.m p (length v) _ (omega arith) l.invariant.1,
    )

pub largest-value-requires : goal.largest-value-requires
largest-value-requires c =
    let p = c.loop-k.invariant.0 in
    (clean-number _ p.a, clean-number _ p.c)

pub loop-i-init : goal.loop-i-init
loop-i-init c =
    let l = c.loop-k in
    let whole : 4 * l.k ≡ length c.args.v.now - length c.as_chunks.result.1.now =
    omega (arith, c.as_chunks.ensures.back_len, c.as_chunks.ensures.front_len, c.loop-k.auto.k-end) in
    rw (c.largest-value.ensures, ← whole) (top-number _ l.invariant.0, l.invariant.1)
