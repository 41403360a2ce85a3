-- What a step may still spend. `left` bounds the passes that may still come: one for each convergence failure and each
-- error failure that the step may still have, and `spare` for retries, of which one may come now if no Jacobian is due,
-- and one after each of the first two error failures. It falls with every pass.
--     Inv      before a pass
--     Paid     after it
--     next     before the next pass, with fewer passes left
--     Done     where the step may end
-- Assumes nothing.
use mathlib.Core.Bool.{Bool, true, false}
use mathlib.Core.Path.{◌≡◌, sym, ap, ◌∙◌}
use mathlib.Core.List.{List, ◌∷◌}
use Prim.Native.Nat.{ℕ, suc, ◌+◌, ◌-◌, ◌*◌, ◌≤◌, ◌<◌, max}
use native.Mathlib.Nat.{suc-mul, mul-le-mul_right, zero-mul}
use native.Mathlib.Omega.{arith}
use lib.Ieee.{Float}
use Rattle.common.specs.declared.MethodFamily.{MethodFamily}
use Rattle.common.specs.declared.MethodFamily.TheVariants.{Adams, Bdf}
use Rattle.common.specs.declared.Settings.{Settings}
use Rattle.common.specs.declared.Common.{Common}
use Rattle.common.specs.Limits.{mxncf_of}
use Rattle.common.specs.Record.{is_bdf}
use Rattle.common.specs.State.{Given, State}
use Rattle.attempt.proofs.Laws.{Kept}
use Rattle.rules.specs.Play.{Play}
use Rattle.rules.specs.Rules.{Ended, ended_accepted, ended_small, ended_poor, limits_of}
use Rattle.rules.specs.Steps.{Tally, Step}
use Rattle.rules.specs.Caps.{passes_of, retries_of, jacobians_of, derivatives_of, Capped}
use Rattle.rules.proofs.Tracks.{Whole, now, Tracks}
use Rattle.rules.proofs.Pass.{Room, Amid}

-- ---- retries that may still come, by family, whether a Jacobian is due, and error failures

abbrev pub spare : MethodFamily → Bool → ℕ → ℕ
spare Adams due k = 0
spare Bdf true k = 2 - k
spare Bdf false k = 1 + (2 - k)

pub spare_due : (f : MethodFamily) (due : Bool) (k : ℕ) → spare f (is_bdf f) k ≤ spare f due k
spare_due Adams due k = omega arith
spare_due Bdf true k = omega arith
spare_due Bdf false k = omega arith

pub spare-next : (f : MethodFamily) (due later : Bool) (k : ℕ) → k ≤ 1 → spare f later (k + 1) ≤ spare f due k
spare-next Adams due later k h = omega arith
spare-next Bdf true true k h = omega arith
spare-next Bdf true false k h = omega arith
spare-next Bdf false true k h = omega arith
spare-next Bdf false false k h = omega arith

pub spare_low : (f : MethodFamily) (k : ℕ) → spare f (is_bdf f) k ≤ 2 - k
spare_low Adams k = omega arith
spare_low Bdf k = omega arith

abbrev pub left : Settings → MethodFamily → Common → ℕ
left s f c = (mxncf_of s - c.ncf) + (9 - c.kflag) + spare f c.due c.kflag

-- the seven single derivatives that may still come
abbrev pub singles : ℕ → ℕ
singles k = 9 - max k 2

-- ---- before a pass, with k passes allowed

pub record Inv (s : Settings) (f : MethodFamily) (b : Common) (k : ℕ) (c : Common) (t : Tally) : Type 0 where
  pub tracks : Tracks s f b c t
  pub rejected : c.rejected ≤ b.rejected + t.passes
  pub ncf : c.ncf < mxncf_of s
  pub kflag : c.kflag ≤ 9
  pub fuel : left s f c ≤ k
  pub derivatives :
      t.derivatives + left s f c * s.maxcor + singles c.kflag ≤ derivatives_of f (limits_of s) + t.paid
  pub jacobians : t.jacobians + ((mxncf_of s - c.ncf) + (9 - c.kflag)) ≤ jacobians_of (limits_of s)
  pub passes : t.passes + left s f c ≤ passes_of f (limits_of s)
  pub retries : t.retries + spare f c.due c.kflag ≤ retries_of f

-- where a step ends
pub record Done (s : Settings) (f : MethodFamily) (b : Common) (c : Common) (t : Tally) : Type 0 where
  pub tracks : Tracks s f b c t
  pub rejected : c.rejected ≤ b.rejected + t.passes
  pub capped : Capped (now f s t)

-- what comes after a step that began in the family f with the record b, after the steps xs
pub record Onward (g : Given) (f : MethodFamily) (b : Common) (xs : List Step) (on : Ended → Play) : Type 0 where
  pub accepted : (dsm : Float) (z : State) (u : Tally) → Done g.s f b z.c u
      → Whole g (on (ended_accepted dsm z)) (now f g.s u ∷ xs)
  pub small : (z : State) (u : Tally) → Done g.s f b z.c u → Whole g (on (ended_small z)) (now f g.s u ∷ xs)
  pub poor : (z : State) (u : Tally) → Done g.s f b z.c u → Whole g (on (ended_poor z)) (now f g.s u ∷ xs)

module _ (s : Settings) (f : MethodFamily) (b : Common) where
  pub room : (k : ℕ) (c : Common) (t : Tally) → Inv s f b k c t → Room s f b c t
  room k c t i =
      let n : c.ncf < mxncf_of s = i.ncf in
      let one : 1 ≤ left s f c = omega arith in
      let m : 1 * s.maxcor ≤ left s f c * s.maxcor = mul-le-mul_right s.maxcor one in
      record {
        derivatives = omega (arith, i.derivatives, suc-mul 0 s.maxcor, zero-mul s.maxcor);
        jacobians = omega (arith, i.jacobians);
        passes = omega (arith, i.passes);
        retries = omega (arith, i.retries);
        rejected = i.rejected;
      }

  -- ---- after a pass

  -- from a and t, with k passes allowed after it: l of them may still come
  pub record Paid (k : ℕ) (a : Common) (u : Tally) : Type 0 where
    pub l : ℕ
    pub is : suc l ≡ left s f a
    pub fuel : l ≤ k
    pub ncf : a.ncf < mxncf_of s
    pub kflag : a.kflag ≤ 9
    pub derivatives : u.derivatives + l * s.maxcor + singles a.kflag ≤ derivatives_of f (limits_of s) + u.paid
    pub jacobians : u.jacobians + ((mxncf_of s - a.ncf) + (9 - a.kflag)) ≤ jacobians_of (limits_of s) + 1
    pub passes : u.passes + l ≤ passes_of f (limits_of s)
    pub retries : u.retries + spare f a.due a.kflag ≤ retries_of f

  -- of ls passes that may come one is done, and lx are left
  sums : (lx ls m td tp ud up M L : ℕ) → suc lx ≡ ls → td + ls * m + M ≤ L + tp → ud + tp ≤ td + m + up
      → ud + lx * m + M ≤ L + up
  sums lx ls m td tp ud up M L e h p =
      let w : ls * m ≡ lx * m + m = ap (λ (k : ℕ). k * m) (sym e) ∙ suc-mul lx m in
      omega arith

  pub paid : (k : ℕ) (a : Common) (t : Tally) → Inv s f b (suc k) a t → (z : Common) (u : Tally)
      → Amid s f b a t 0 z u → Paid k a u
  paid k a t i z u p =
      let n : a.ncf < mxncf_of s = i.ncf in
      let l = (mxncf_of s - suc a.ncf) + (9 - a.kflag) + spare f a.due a.kflag in
      let e : suc l ≡ left s f a = omega arith in
      record {
        l = l;
        is = e;
        fuel = omega (arith, i.fuel);
        ncf = n;
        kflag = i.kflag;
        derivatives =
            sums l (left s f a) s.maxcor t.derivatives t.paid u.derivatives u.paid (singles a.kflag)
            (derivatives_of f (limits_of s)) e i.derivatives (omega (arith, p.derivatives));
        jacobians = omega (arith, i.jacobians, p.jacobians);
        passes = omega (arith, i.passes, p.passes);
        retries = omega (arith, i.retries, p.retries);
      }

  -- the state y before the next pass, with fewer passes left
  pub next : (k : ℕ) (a : Common) (u : Tally) (p : Paid k a u) (y : Common) (w : Tally) → Tracks s f b y w
      → y.rejected ≤ b.rejected + w.passes → y.ncf < mxncf_of s → y.kflag ≤ 9 → left s f y ≤ p.l
      → w.derivatives + singles y.kflag ≤ u.derivatives + singles a.kflag → w.paid ≡ u.paid
      → w.jacobians + ((mxncf_of s - y.ncf) + (9 - y.kflag)) ≤ jacobians_of (limits_of s)
      → w.passes ≡ u.passes → w.retries + spare f y.due y.kflag ≤ retries_of f → Inv s f b k y w
  next k a u p y w tr rej nc kf lower d e j ps r =
      let m : left s f y * s.maxcor ≤ p.l * s.maxcor = mul-le-mul_right s.maxcor lower in
      record {
        tracks = tr;
        rejected = rej;
        ncf = nc;
        kflag = kf;
        fuel = omega (arith, p.fuel);
        derivatives = omega (arith, p.derivatives);
        jacobians = j;
        passes = omega (arith, p.passes);
        retries = r;
      }

  -- the step may end after the pass
  pub capped : (k : ℕ) (a : Common) (u : Tally) → Paid k a u → Capped (now f s u)
  capped k a u p =
      let n : a.ncf < mxncf_of s = p.ncf in
      record {
        derivatives = omega (arith, p.derivatives);
        jacobians = omega (arith, p.jacobians);
        passes = omega (arith, p.passes);
        retries = omega (arith, p.retries);
      }

  -- a failed attempt and a restart at order 1 keep what a step tracks
  pub same_attempt : {c : Common} {u : Tally} (d : Common) → Kept c d → Tracks s f b c u → Tracks s f b d u
  same_attempt d k p =
      record {
        meth = k.meth ∙ p.meth;
        nst = k.nst ∙ p.nst;
        nfe = k.nfe ∙ p.nfe;
        count = k.count ∙ p.count;
        nje = k.nje ∙ p.nje;
        nlu = rw k.nlu p.nlu;
        total = k.total ∙ p.total;
        nslp = rw k.nslp p.nslp;
        icount = k.icount ∙ p.icount;
        paid = p.paid;
      }
