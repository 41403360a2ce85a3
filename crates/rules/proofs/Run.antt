-- The whole run within its caps and counts: a step begins with nothing spent, and its end is at rest again. So every
-- place of the tree of an accepted start has what the demands say of it (`start-whole`).
-- Assumes nothing.
use mathlib.Core.Bool.{Bool, true, false}
use mathlib.Core.Path.{◌≡◌, refl, ap, ◌∙◌}
use mathlib.Core.List.{List, []}
use mathlib.Core.Logic.{◌⊎◌, inl, inr}
use Prim.Native.Nat.{ℕ, zero, suc, ◌+◌, ◌*◌, ◌≤◌, ◌<◌}
use native.Mathlib.Nat.{mul-le-mul_right}
use native.Mathlib.Omega.{arith}
use borrow.Author.Tests.{leb-false}
use lib.Dec.{leb}
use lib.Ieee.{Float}
use Rattle.std.specs.Prelude.{Result, Ok, Err}
use Rattle.vectors.specs.declared.NotPositive.{NotPositive}
use Rattle.common.specs.declared.MethodFamily.{MethodFamily}
use Rattle.common.specs.declared.MethodFamily.TheVariants.{Adams, Bdf}
use Rattle.common.specs.declared.Settings.{Settings}
use Rattle.common.specs.declared.Common.{Common}
use Rattle.common.specs.Limits.{mxncf_of}
use Rattle.common.specs.Rules.{icount20, first_call_init_of, reset_of}
use Rattle.common.specs.State.{Given, State, put_c, put_w}
use Rattle.history.specs.Steps.{adjust_of, predicted_of}
use Rattle.between_steps.specs.declared.Answer.{Answer}
use Rattle.between_steps.specs.declared.Answer.TheVariants.{Continue, Interrupt, Modified}
use Rattle.common.specs.Ranges.{Accepted}
use Rattle.between_steps.specs.Begin.{cut_of, setup_of, prepared_at, prepared_of, predicted_at}
use Rattle.common.specs.Initial.{initial_of}
use Rattle.rules.specs.Play.{Play}
use Rattle.rules.specs.Rules.{timed, stepped, predicted, limits_of, passes_allowed, step, solve_at, solve, Start}
use Rattle.rules.specs.Rules.{beginning, sized_state, first_modified, first_restarted, first_answered, sized}
use Rattle.rules.specs.Rules.{weighted, started, start}
use Rattle.rules.specs.Steps.{Step, nothing}
use Rattle.rules.specs.Caps.{passes_of, retries_of}
use Rattle.rules.proofs.Tracks.{Whole, Between, Base}
use Rattle.rules.proofs.Budget.{spare, left, Inv}
use Rattle.rules.proofs.Attempts.{attempts-whole}
use Rattle.rules.proofs.Rest.{Rest, same_rest, one_more, rest-place, Goes, Ample, stepped-onward}

module _ (g : Given) (acc : Accepted g.s) where
  abbrev s : Settings
  s = g.s

  -- ---- a step

  -- what the setup or a cut may change of the counts
  record Prepared (c d : Common) : Type 0 where
    nst : d.nst ≡ c.nst
    nfe : d.nfe ≡ c.nfe
    nje : d.nje ≡ c.nje
    nlu : d.nlu ≡ c.nlu
    rejected : d.rejected ≡ c.rejected
    total : d.total ≡ c.total
    nslp : d.nslp ≤ c.nslp
    icount : (d.icount ≡ c.icount) ⊎ (d.icount ≡ icount20)

  prepared-at : (cut due : Bool) (c : Common) (w : List Float) → Prepared c (prepared_at s cut due c w).common
  unfolding prepared_at cut_of adjust_of setup_of reset_of first_call_init_of
  prepared-at true due c w =
      record {
        nst = refl;
        nfe = refl;
        nje = refl;
        nlu = refl;
        rejected = refl;
        total = refl;
        nslp = omega arith;
        icount = inl refl;
      }
  prepared-at false true c w =
      record {
        nst = refl;
        nfe = refl;
        nje = refl;
        nlu = refl;
        rejected = refl;
        total = refl;
        nslp = omega arith;
        icount = inr refl;
      }
  prepared-at false false c w =
      record {
        nst = refl;
        nfe = refl;
        nje = refl;
        nlu = refl;
        rejected = refl;
        total = refl;
        nslp = omega arith;
        icount = inl refl;
      }

  -- the first prediction: no failure and no derivative yet
  record First (c d : Common) : Type 0 where
    prepared : Prepared c d
    count : d.count ≡ 0
    kflag : d.kflag ≡ 0
    ncf : d.ncf ≡ 0

  predicted-first : (x : State) → First x.c (predicted g x).c
  unfolding prepared_of predicted_at predicted_of
  predicted-first x =
      let q = prepared-at _ x.c.setup x.c x.w in
      record {
        prepared = record {
          nst = q.nst;
          nfe = q.nfe;
          nje = q.nje;
          nlu = q.nlu;
          rejected = q.rejected;
          total = q.total;
          nslp = q.nslp;
          icount = q.icount;
        };
        count = refl;
        kflag = refl;
        ncf = refl;
      }

  first-between : (N : ℕ) (c d : Common) → First c d → Between s N c → Between s N d
  first-between N c d p q =
      let e = p.prepared in
      record {
        nst = e.nst ∙ q.nst;
        nfe = rw e.nfe q.nfe;
        nje = rw e.nje q.nje;
        nlu = rw e.nlu q.nlu;
        rejected = rw e.rejected q.rejected;
        total = rw e.total q.total;
        count = rw p.count (omega arith);
        nslp = omega (arith, e.nslp, q.nslp);
        icount = either N e.icount q.icount;
      }
    where
      either : {i j : ℕ} (N : ℕ) → (j ≡ i) ⊎ (j ≡ icount20) → (icount20 ≤ i + N) × (i ≤ icount20)
          → (icount20 ≤ j + N) × (j ≤ icount20)
      either N (inl e) h = rw e h
      either N (inr e) h = (omega arith, omega arith)

  spare-first : (f : MethodFamily) (due : Bool) → mxncf_of s + 9 + spare f due 0 ≤ passes_of f (limits_of s)
  spare-first Adams due = omega arith
  spare-first Bdf true = omega arith
  spare-first Bdf false = omega arith

  retries-first : (f : MethodFamily) (due : Bool) → spare f due 0 ≤ retries_of f
  retries-first Adams due = omega arith
  retries-first Bdf true = omega arith
  retries-first Bdf false = omega arith

  passes-first : (f : MethodFamily) → passes_of f (limits_of s) ≤ passes_allowed s
  passes-first Adams = omega arith
  passes-first Bdf = omega arith

  -- a step begins with nothing spent
  first-inv : (c b : Common) → First c b → b.nslp ≤ b.nst → Inv s b.meth b (passes_allowed s) b nothing
  first-inv c b p nslp =
      let f = b.meth in
      let nc : b.ncf ≡ 0 = p.ncf in
      let kf : b.kflag ≡ 0 = p.kflag in
      let sp : spare f b.due b.kflag ≡ spare f b.due 0 = ap (spare f b.due) kf in
      let most : left s f b ≤ passes_of f (limits_of s) = omega (arith, spare-first f b.due) in
      let m : left s f b * s.maxcor ≤ passes_of f (limits_of s) * s.maxcor = mul-le-mul_right s.maxcor most in
      record {
        tracks = record {
          meth = refl;
          nst = refl;
          nfe = omega arith;
          count = p.count;
          nje = omega arith;
          nlu = omega arith;
          total = refl;
          nslp = nslp;
          icount = refl;
          paid = omega arith;
        };
        rejected = omega arith;
        ncf = rw nc (omega arith);
        kflag = rw kf (omega arith);
        fuel = omega (arith, passes-first f);
        derivatives = omega arith;
        jacobians = omega arith;
        passes = omega arith;
        retries = omega (arith, retries-first f b.due);
      }

  step-whole : (N : ℕ) (on : State → Play) → Goes g acc (suc N) on → (x : State) (ys : List Step) → Rest s N x.c ys
      → N < s.maxsteps → Whole g (step g on x) ys
  unfolding step
  step-whole N on go x ys p few =
      let b = (predicted g x).c in
      let q = predicted-first x in
      let e : Between s N b = first-between N x.c b q p.between in
      let same : b.nst ≡ N = e.nst in
      let base : Base s b ys =
      record {
        settings = acc;
        capped = p.capped;
        balanced = rw same p.balanced;
        between = at_own N b same e;
        few = rw same few;
      }
      in
      attempts-whole g b.meth b ys base (stepped g on)
      (stepped-onward g acc b.meth b ys base on (λ v zs r. go v zs (at_next _ N same r))) (passes_allowed s)
      (predicted g x) nothing (first-inv x.c b q (omega (arith, e.nslp)))
    where
      at_own : (N : ℕ) (b : Common) → b.nst ≡ N → Between s N b → Between s b.nst b
      at_own N b e q =
          record {
            nst = refl;
            nfe = rw e q.nfe;
            nje = rw e q.nje;
            nlu = rw e q.nlu;
            rejected = rw e q.rejected;
            total = rw e q.total;
            count = rw e q.count;
            nslp = rw e q.nslp;
            icount = rw e q.icount;
          }

      at_next : (M N : ℕ) → M ≡ N → {c : Common} {zs : List Step} → Rest s (suc M) c zs → Rest s (suc N) c zs
      at_next M N e r = rw (← e) r

  -- ---- the steps

  solve-at : (k N : ℕ) (going enough : Bool) (x : State) (ys : List Step) → Rest s N x.c ys
      → leb s.maxsteps x.c.nst ≡ enough → s.maxsteps ≤ N + k → Whole g (solve_at k g going enough x) ys
  unfolding solve_at
  solve-at zero N false enough x ys p e m = let k = rest-place g acc x ys p in ((k.0, tt), k.1)
  solve-at zero N true true x ys p e m = let k = rest-place g acc x ys p in ((k.0, tt), k.1)
  solve-at zero N true false x ys p e m =
      absurd (omega (arith, leb-false s.maxsteps x.c.nst e, p.between.nst))
  solve-at (suc k) N false enough x ys p e m = let k = rest-place g acc x ys p in ((k.0, tt), k.1)
  solve-at (suc k) N true true x ys p e m = let k = rest-place g acc x ys p in ((k.0, tt), k.1)
  solve-at (suc k) N true false x ys p e m =
      step-whole N (solve k g) (λ v zs r. solve-at k (suc N) _ _ v zs r refl (omega arith)) x ys p
      (omega (arith, leb-false s.maxsteps x.c.nst e, p.between.nst))

  solve-whole : (x : State) → Rest s 0 x.c [] → Whole g (solve s.maxsteps g x) []
  solve-whole x p = solve-at s.maxsteps 0 _ _ x [] p refl (omega arith)

  -- ---- the start

  first-answered : (x : State) → Rest s 0 x.c [] → Ample g acc 0 x.c → (a : Answer) (y : List Float) (t : Float)
      → Whole g (first_answered g x a y t) []
  unfolding first_answered
  first-answered x p more Continue y t =
      solve-whole (timed t x) (same_rest _ refl p)
  first-answered x p more Interrupt y t =
      let k = rest-place g acc (timed t x) [] (same_rest _ refl p) in
      ((k.0, tt), k.1)
  first-answered x p more Modified y t =
      let z = first_modified g y t x in
      let q : Rest s 0 z.c [] = one_more (same_rest _ refl p) more in (
        rest-place g acc z [] q,
        λ d. solve-whole (first_restarted g d z) (same_rest _ refl q),
      )

  sized-whole : (refuse : Bool) (h : Float) (x : State) → Rest s 0 x.c [] → Ample g acc 0 x.c
      → Whole g (sized g refuse h x) []
  unfolding sized
  sized-whole true h x p more =
      let k = rest-place g acc (put_c _ x) [] (same_rest _ refl p) in ((k.0, tt), k.1)
  sized-whole false h x p more =
      let z = sized_state g h x in
      let q : Rest s 0 z.c [] = same_rest _ refl p in
      let k = rest-place g acc z [] q in
      (((k.0, refl), k.1), first-answered z q more)

  weighted-whole : (weights : Result Unit NotPositive) (x : State) → Rest s 0 x.c [] → Ample g acc 0 x.c
      → Whole g (weighted g weights x) []
  unfolding weighted
  weighted-whole (Err e) x p more = let k = rest-place g acc x [] p in ((k.0, tt), k.1)
  weighted-whole (Ok u) x p more = sized-whole _ _ x p more

  beginning-rest : (a : Start) → Rest s 0 (beginning g a).c [] × Ample g acc 0 (beginning g a).c
  unfolding beginning initial_of
  beginning-rest a = (
    record {
      capped = tt;
      rested = tt;
      balanced = refl;
      between = record {
        nst = refl;
        nfe = omega arith;
        nje = omega arith;
        nlu = omega arith;
        rejected = omega arith;
        total = omega arith;
        count = omega arith;
        nslp = omega arith;
        icount = (omega arith, omega arith);
      };
      few = omega arith;
    },
    omega arith,
  )

  -- every place of the run
  pub start-whole : (a : Start) → Whole g (start g a) []
  unfolding start started
  start-whole a =
      let p = beginning-rest a in
      (rest-place g acc (beginning g a) [] p.0, λ f1. weighted-whole _ (put_w _ (beginning g a)) p.0 p.1)
