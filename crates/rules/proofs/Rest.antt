-- Between two steps all is at rest (`Rest`): each step is within its caps, the accepted count balances, and the counts
-- are within bounds that the number of accepted steps gives. The end of a step leaves the run at rest with one step
-- more, or has ended it, and the answer to its report leaves it at rest.
-- Assumes nothing.
use mathlib.Core.Bool.{Bool, true, false}
use mathlib.Core.Path.{◌≡◌, refl, ap, ◌∙◌}
use mathlib.Core.List.{List, [], ◌∷◌}
use mathlib.Core.Logic.{◌⊎◌, inl, inr}
use mathlib.Core.Option.{Option, none, some}
use Prim.Native.Nat.{ℕ, suc, ◌+◌, ◌-◌, ◌*◌, ◌≤◌, ◌<◌}
use native.Mathlib.Nat.{suc-mul, mul-add, mul-le-mul_left, mul-one}
use native.Mathlib.Omega.{arith}
use lib.Ieee.{Float}
use Rattle.std.specs.Prelude.{Result, Ok, Err}
use Rattle.vectors.specs.declared.NotPositive.{NotPositive}
use Rattle.common.specs.declared.MethodFamily.{MethodFamily}
use Rattle.common.specs.declared.MethodFamily.TheVariants.{Bdf}
use Rattle.common.specs.declared.Settings.{Settings}
use Rattle.common.specs.declared.Common.{Common}
use Rattle.common.specs.Rules.{icount20}
use Rattle.common.specs.State.{Given, State, put_w}
use Rattle.acceptance.specs.Accept.{accept_of}
use Rattle.acceptance.proofs.Laws.{accept-keeps}
use Rattle.between_steps.specs.declared.Answer.{Answer}
use Rattle.between_steps.specs.declared.Answer.TheVariants.{Continue, Interrupt, Modified}
use Rattle.common.specs.Ranges.{Accepted}
use Rattle.rules.specs.Play.{Question, Play, Ending, accepted, gap, too_small, poor}
use Rattle.rules.specs.Pass.{asked}
use Rattle.rules.specs.Rules.{reported_state, taken, timed, modified, restarted, after_report, closed, closing}
use Rattle.rules.specs.Rules.{after_acceptance, acceptance, settled_state, stepped, limits_of}
use Rattle.rules.specs.Steps.{Tally, Step, requested, noted, is_ended, is_ended_keeping, number}
use Rattle.rules.specs.Caps.{passes_of, Capped, Every}
use Rattle.rules.specs.Demands.{CapsKept}
use Rattle.rules.specs.Counts.{step_most, Counted}
use Rattle.rules.proofs.Tracks.{Whole, Between, passes-cost, between-counted, now, Base}
use Rattle.rules.proofs.Tracks.{most-passes, derivatives-most, tracks-counted}
use Rattle.rules.proofs.Budget.{Done, Onward}

-- ---- at rest

-- no step is under way
abbrev pub Rested : List Step → Type 0
Rested [] = Unit {0}
Rested (x ∷ xs) = is_ended x.ending ≡ true

none-requested : (e : Option Ending) (q : Question) (t : Tally) → is_ended e ≡ true → requested e q t ≡ t
none-requested none q t h = absurd (let z : ◌≡◌ {A = ℕ} 0 1 = cc in omega arith)
none-requested (some e) q t h = refl

pub none-noted : (q : Question) (ys : List Step) → Rested ys → noted q ys ≡ ys
none-noted q [] r = refl
none-noted q (x ∷ xs) r =
    ap (λ (t : Tally). record { family = x.family; limits = x.limits; tally = t; ending = x.ending } ∷ xs)
    (none-requested x.ending q x.tally r)

-- N steps are accepted
pub record Rest (s : Settings) (N : ℕ) (c : Common) (ys : List Step) : Type 0 where
  pub capped : Every Capped ys
  pub rested : Rested ys
  pub balanced : N + number is_ended_keeping ys ≡ number is_ended ys
  pub between : Between s N c
  pub few : N ≤ s.maxsteps

-- what is at rest of a record
pub record Totals : Type 0 where
  pub nst : ℕ
  pub nfe : ℕ
  pub nje : ℕ
  pub nlu : ℕ
  pub rejected : ℕ
  pub total : ℕ
  pub count : ℕ
  pub nslp : ℕ
  pub icount : ℕ

abbrev pub totals : Common → Totals
totals c = record {
  nst = c.nst;
  nfe = c.nfe;
  nje = c.nje;
  nlu = c.nlu;
  rejected = c.rejected;
  total = c.total;
  count = c.count;
  nslp = c.nslp;
  icount = c.icount;
}

same-between : {s : Settings} {N : ℕ} {c : Common} (d : Common) → totals d ≡ totals c → Between s N c → Between s N d
same-between d e p =
    record {
      nst = ap (λ (t : Totals). t.nst) e ∙ p.nst;
      nfe = rw (ap (λ (t : Totals). t.nfe) e) p.nfe;
      nje = rw (ap (λ (t : Totals). t.nje) e) p.nje;
      nlu = rw (ap (λ (t : Totals). t.nlu) e) p.nlu;
      rejected = rw (ap (λ (t : Totals). t.rejected) e) p.rejected;
      total = rw (ap (λ (t : Totals). t.total) e) p.total;
      count = rw (ap (λ (t : Totals). t.count) e) p.count;
      nslp = rw (ap (λ (t : Totals). t.nslp) e) p.nslp;
      icount = rw (ap (λ (t : Totals). t.icount) e) p.icount;
    }

pub same_rest : {s : Settings} {N : ℕ} {c : Common} {ys : List Step} (d : Common) → totals d ≡ totals c → Rest s N c ys
    → Rest s N d ys
same_rest d e p =
    record {
      capped = p.capped;
      rested = p.rested;
      balanced = p.balanced;
      between = same-between d e p.between;
      few = p.few;
    }

-- one derivative more, where there is room for it
pub one_more : {s : Settings} {N : ℕ} {c : Common} {ys : List Step} → Rest s N c ys
    → c.nfe + 1 ≤ 2 + N * (step_most s + 1) → Rest s N (asked c) ys
one_more p h =
    let q = p.between in
    record {
      capped = p.capped;
      rested = p.rested;
      balanced = p.balanced;
      between = record {
        nst = q.nst;
        nfe = h;
        nje = q.nje;
        nlu = q.nlu;
        rejected = q.rejected;
        total = q.total;
        count = q.count;
        nslp = q.nslp;
        icount = q.icount;
      };
      few = p.few;
    }

module _ (g : Given) (acc : Accepted g.s) where
  abbrev s : Settings
  s = g.s

  pub rest-place : {N : ℕ} (x : State) (ys : List Step) → Rest s N x.c ys → CapsKept x ys × Counted s x.c
  rest-place {N} x ys p = (
    record { capped = p.capped; accepted = rw p.between.nst p.balanced },
    between-counted s N x.c acc p.few p.between,
  )

  -- what the rest of the run has, from a state at rest
  abbrev pub Goes : ℕ → (State → Play) → Type 0
  Goes N on = (v : State) (ys : List Step) → Rest s N v.c ys → Whole g (on v) ys

  -- ---- the report

  -- just after a step: there is room for one derivative more
  abbrev pub Ample : ℕ → Common → Type 0
  Ample N c = c.nfe + 1 ≤ 2 + N * (step_most s + 1)

  module _ (N : ℕ) (on : State → Play) (go : Goes N on) where
    answered-whole : (x : State) (ys : List Step) → Rest s N x.c ys → Ample N x.c
        → (a : Answer) (y : List Float) (t : Float) → Whole g (after_report g on x a y t) ys
    unfolding after_report
    answered-whole x ys p more Continue y t =
        go (timed t (taken g y x)) ys (same_rest _ refl p)
    answered-whole x ys p more Interrupt y t =
        let k = rest-place (timed t (taken g y x)) ys (same_rest _ refl p) in
        ((k.0, tt), k.1)
    answered-whole x ys p more Modified y t =
        let z = modified g y x in
        let q : Rest s N z.c ys = one_more (same_rest _ refl p) more in
        rw (none-noted _ ys p.rested)
        (rest-place z ys q, λ d. go (restarted g d z) ys (same_rest _ refl q))

    -- the total is refreshed at the report
    reported-rest : (x : State) (ys : List Step) → Rest s N x.c ys → Rest s N (reported_state g x).c ys
    reported-rest x ys p =
        let q = p.between in
        let w = step_most s + 1 in
        let k = passes_of Bdf (limits_of s) in
        let own : N * 1 ≡ N = mul-one N in
        let less : N * (k + 1) ≤ N * w = mul-le-mul_left N (omega (arith, passes-cost s acc)) in
        let parts : N * (k + 1) ≡ N * k + N = mul-suc-at N k in
        record {
          capped = p.capped;
          rested = p.rested;
          balanced = p.balanced;
          between = record {
            nst = q.nst;
            nfe = q.nfe;
            nje = q.nje;
            nlu = q.nlu;
            rejected = q.rejected;
            total = omega (arith, q.nst, q.rejected);
            count = q.count;
            nslp = q.nslp;
            icount = q.icount;
          };
          few = p.few;
        }
      where
        mul-suc-at : (a k : ℕ) → a * (k + 1) ≡ a * k + a
        mul-suc-at a k = mul-add a k 1 ∙ ap (λ (i : ℕ). a * k + i) (mul-one a)

    closed-whole : (weights : Result Unit NotPositive) (x : State) (y : Step) (ys : List Step) → Rest s N x.c (y ∷ ys)
        → Ample N x.c → x.c.count ≡ y.tally.derivatives → Whole g (closed g on weights x) (y ∷ ys)
    unfolding closed
    closed-whole (Err w) x y ys p more e = let k = rest-place x (y ∷ ys) p in ((k.0, tt), k.1)
    closed-whole (Ok u) x y ys p more e =
        let q = reported-rest x (y ∷ ys) p in
        let k = rest-place (reported_state g x) (y ∷ ys) q in
        (((k.0, e), k.1), answered-whole (reported_state g x) (y ∷ ys) q more)

  -- ---- the end of a step that began with the record b

  module _ (f : MethodFamily) (b : Common) (xs : List Step) (base : Base s b xs) where
    abbrev with-end : Tally → Ending → Step
    with-end u e = record { family = f; limits = limits_of s; tally = u; ending = some e }

    capped-end : (u : Tally) (e : Ending) → Capped (now f s u) → Capped (with-end u e)
    capped-end u e p =
        record { derivatives = p.derivatives; jacobians = p.jacobians; passes = p.passes; retries = p.retries }

    -- acceptance leaves the run at rest, with one step more
    accepted-rest : (c : Common) (u : Tally) → Done s f b c u → (dsm : Float) (w : List Float) (e : Ending)
        → is_ended_keeping (some e) ≡ false
        → let r = (accept_of s c dsm w).common in
        Rest s (suc b.nst) r (with-end u e ∷ xs) × Ample (suc b.nst) r × (r.count ≡ u.derivatives)
    accepted-rest c u p dsm w e raises =
        let k = accept-keeps s c dsm w in
        let t = p.tracks in
        let q = base.between in
        let N = b.nst in
        let l = limits_of s in
        let width = step_most s + 1 in
        let passes = passes_of Bdf l in
        let next : suc N * width ≡ N * width + width = suc-mul N width in
        let after : suc N * passes ≡ N * passes + passes = suc-mul N passes in
        let here : u.derivatives ≤ step_most s = derivatives-most s f b xs base u t.paid p.capped in
        let passed : u.passes ≤ passes = omega (arith, p.capped.passes, most-passes f l) in
        let made : u.jacobians ≤ step_most s = omega (arith, p.capped.jacobians, passes-cost s acc) in
        let few : N < s.maxsteps = base.few in (
          record {
            capped = (capped-end u e p.capped, base.capped);
            rested = refl;
            balanced = rw raises (omega (arith, base.balanced));
            between = record {
              nst = omega (arith, k.nst, t.nst);
              nfe = omega (arith, k.nfe, t.nfe, q.nfe);
              nje = omega (arith, k.nje, t.nje, q.nje);
              nlu = omega (arith, k.nlu, t.nlu, q.nlu);
              rejected = omega (arith, k.rejected, p.rejected, q.rejected);
              total = omega (arith, k.total, t.total, q.total);
              count = omega (arith, k.count, t.count);
              nslp = omega (arith, k.nslp, t.nslp);
              icount = counted-down _ c.icount N (rw t.icount q.icount)
                  (omega (arith, acc.maxsteps.1)) k.icount;
            };
            few = few;
          },
          omega (arith, k.nfe, t.nfe, q.nfe),
          k.count ∙ t.count,
        )
      where
        counted-down : (r i N : ℕ) → (icount20 ≤ i + N) × (i ≤ icount20) → N < 1000000
            → (r ≡ i - 1) ⊎ (r ≡ icount20) → (icount20 ≤ r + suc N) × (r ≤ icount20)
        counted-down r i N h few (inl e) = (omega arith, omega arith)
        counted-down r i N h few (inr e) = (omega arith, omega arith)

    ended-place : (z : State) (u : Tally) → Done s f b z.c u → (e : Ending) → is_ended_keeping (some e) ≡ true
        → CapsKept z (with-end u e ∷ xs) × Counted s z.c
    ended-place z u p e keeps = (
      record {
        capped = (capped-end u e p.capped, base.capped);
        accepted = rw keeps (omega (arith, base.balanced, p.tracks.nst));
      },
      tracks-counted s f b xs base z.c u p.tracks p.rejected p.capped,
    )

    settled-whole : (on : State → Play) → Goes (suc b.nst) on → (order : ℕ) (is_gap : Bool) (z : State) (u : Tally)
        → Done s f b z.c u → (dsm : Float)
        → Whole g (after_acceptance g on order is_gap (settled_state z (acceptance g dsm z))) (now f s u ∷ xs)
    unfolding after_acceptance
    settled-whole on go order true z u p dsm =
        let q = accepted-rest z.c u p dsm z.w gap refl in
        let k = rest-place (settled_state z (acceptance g dsm z)) _ q.0 in
        ((k.0, tt), k.1)
    settled-whole on go order false z u p dsm =
        let q = accepted-rest z.c u p dsm z.w accepted refl in
        let x = settled_state z (acceptance g dsm z) in
        closed-whole (suc b.nst) on go (closing g order x).weights (put_w (closing g order x).work x)
        (with-end u accepted) xs q.0 q.1 q.2

    pub stepped-onward : (on : State → Play) → Goes (suc b.nst) on → Onward g f b xs (stepped g on)
    unfolding stepped
    stepped-onward on go =
        record {
          accepted = λ dsm z u p. settled-whole on go z.c.nq _ z u p dsm;
          small = λ z u p. let k = ended-place z u p too_small refl in ((k.0, tt), k.1);
          poor = λ z u p. let k = ended-place z u p poor refl in ((k.0, tt), k.1);
        }
