-- What callers need of the verdict (specs/Verdict.antt).
--     judge-ways, judged      how a verdict can come out, and what each outcome tells
--     same-judge              the fields of the record that a verdict leaves alone
-- Assumes nothing.
use mathlib.Core.Path.{◌≡◌, refl}
use mathlib.Core.Bool.{Bool, true, false, cond, not, ◌&&◌}
use Prim.Native.Nat.{◌+◌, ◌<◌}
use native.Mathlib.Omega.{arith}
use borrow.Author.Tests.{eqb-false}
use lib.Dec.{eqb, leb}
use lib.Ieee as Ieee
use lib.Ieee.{Float}
use Rattle.loops.proofs.Test.{chosen, chosen_by, differs}
use Rattle.numbers.specs.Float.{◌⊗◌, one_f, uround, d2, d100}
use Rattle.common.specs.declared.MethodFamily.{MethodFamily}
use Rattle.common.specs.declared.MethodFamily.TheVariants.{Adams, Bdf}
use Rattle.common.specs.declared.Settings.{Settings}
use Rattle.common.specs.declared.Common.{Common}
use Rattle.common.specs.Record.{is_bdf, with_jcur, with_due, with_m, with_delp}
use Rattle.jacobian.proofs.Laws.{SameStep, pass_moved, same-pass-moved}
use Rattle.corrector.specs.declared.Pass.TheVariants.{Converged, Retry, NoConvergence, Further}
use Rattle.corrector.specs.declared.Verdict.{Verdict}
use Rattle.corrector.specs.Iterate.{Correction}
use Rattle.corrector.specs.Verdict.{rated_of, dcon_of, estimated_of, judged_converged, old_jacobian, give_up_of}
use Rattle.corrector.specs.Verdict.{strays, judged_further, judged_tested, rated_verdict, judge_of}

-- what a verdict may be after an iteration from the record c, and what is known then
pub data Ways (s : Settings) (c : Common) : Verdict → Type 0 where
  converges : (d : Common) → d.m ≡ c.m → d.due ≡ c.due
      → Ways s c (record { pass = Converged; common = pass_moved d c })
  retries : (d : Common) → d.m ≡ c.m → d.jcur ≡ c.jcur → c.meth ≡ Bdf → c.jcur ≡ false → d.due ≡ true
      → Ways s c (record { pass = Retry; common = pass_moved d c })
  fails : (d : Common) → d.m ≡ c.m → d.jcur ≡ c.jcur → d.due ≡ c.due
      → Ways s c (record { pass = NoConvergence; common = pass_moved d c })
  goes_on : (d : Common) → d.m ≡ c.m + 1 → (c.m + 1 ≡ s.maxcor → ⊥) → d.jcur ≡ c.jcur → d.due ≡ c.due
      → Ways s c (record { pass = Further; common = pass_moved d c })

-- an old Jacobian is one of the second family, not made in this pass
is-old : (m : MethodFamily) (current : Bool) → (is_bdf m && not current) ≡ true → (m ≡ Bdf) × (current ≡ false)
is-old Adams current e = (cc, cc)
is-old Bdf true e = (refl, cc)
is-old Bdf false e = (refl, refl)

not_last : (t u : Bool) → cond t true u ≡ false → t ≡ false
not_last true u e = e
not_last false u e = refl

module _ (s : Settings) where
  give-up-ways : (c : Common) → Ways s c (give_up_of c)
  unfolding give_up_of
  give-up-ways c = go (old_jacobian c) refl
    where
      go : (t : Bool) → old_jacobian c ≡ t
          → Ways s c (record { pass = cond t Retry NoConvergence; common = with_due (cond t true c.due) c })
      go true e = let q = is-old c.meth c.jcur e in retries (with_due true c) refl refl q.0 q.1 refl
      go false e = fails c refl refl refl

  further-ways : (c : Common) (del : Float) → Ways s c (judged_further s c del)
  unfolding judged_further
  further-ways c del =
      let last = eqb (c.m + 1) s.maxcor in
      let grown = leb 2 (c.m + 1) && Ieee.lt (d2 ⊗ c.delp) del in
      let next = with_m (c.m + 1) (with_delp del c) in
      chosen_by (Ways s c) (strays s c del) (λ e. give-up-ways c)
      (λ e. goes_on next refl (eqb-false _ _ (not_last last grown e)) refl refl)

  tested-ways : (c : Common) (del : Float) → Ways s c (judged_tested s c del)
  unfolding judged_tested judged_converged estimated_of
  tested-ways c del =
      let done = converges (with_jcur false (estimated_of s c)) refl refl in
      chosen (Ways s c) (Ieee.le (dcon_of c del) one_f) done (further-ways c del)

  -- the ways from the record with another rate are ways from the record
  rated-ways : (c : Common) (del : Float) (v : Verdict) → Ways s (rated_of c del) v → Ways s c v
  unfolding rated_of
  rated-ways c del _ (converges d m u) = converges d m u
  rated-ways c del _ (retries d m j b o u) = retries d m j b o u
  rated-ways c del _ (fails d m j u) = fails d m j u
  rated-ways c del _ (goes_on d m l j u) = goes_on d m l j u

  far-ways : (c : Common) (del : Float) (first second : Bool) → Ways s c (rated_verdict s c del first second)
  far-ways c del true true = tested-ways c del
  far-ways c del true false = further-ways c del
  far-ways c del false second = rated-ways c del _ (tested-ways (rated_of c del) del)

  pub judge-ways : (c : Common) (x : Correction) (pnorm : Float) → Ways s c (judge_of s c x pnorm)
  unfolding judge_of judged_converged
  judge-ways c x pnorm =
      let far = far-ways c x.del (eqb c.m 0) (is_bdf c.meth) in
      let near = converges (with_jcur false c) refl refl in
      let solved = chosen (Ways s c) (Ieee.le x.del (d100 ⊗ pnorm ⊗ uround)) near far in
      chosen (Ways s c) x.solved solved (give-up-ways c)

same-ways : {s : Settings} {c : Common} {v : Verdict} → Ways s c v → SameStep c v.common
same-ways {s} {c} (converges d m u) = same-pass-moved c d
same-ways {s} {c} (retries d m j b o u) = same-pass-moved c d
same-ways {s} {c} (fails d m j u) = same-pass-moved c d
same-ways {s} {c} (goes_on d m l j u) = same-pass-moved c d

pub same-judge : (s : Settings) (c : Common) (x : Correction) (pnorm : Float) → SameStep c (judge_of s c x pnorm).common
same-judge s c x pnorm = same-ways (judge-ways s c x pnorm)

-- what a verdict tells: m stays below maxcor and rises with Further alone; Retry comes from an old Jacobian alone and
-- makes one due; nothing else changes due, and nothing but convergence changes jcur
pub record Judged (s : Settings) (c : Common) (v : Verdict) : Type 0 where
  pub below : v.common.m < s.maxcor
  pub further : v.pass ≡ Further → v.common.m ≡ c.m + 1
  pub retry : v.pass ≡ Retry → (c.meth ≡ Bdf) × (c.jcur ≡ false) × (v.common.due ≡ true)
  pub due : (v.pass ≡ Retry → ⊥) → v.common.due ≡ c.due
  pub jcur : (v.pass ≡ Converged → ⊥) → v.common.jcur ≡ c.jcur

told : {s : Settings} {c : Common} {v : Verdict} → c.m < s.maxcor → Ways s c v → Judged s c v
told {s} {c} h (converges d m u) =
    record {
      below = omega arith;
      further = λ e. differs (cc);
      retry = λ e. differs (cc);
      due = λ n. u;
      jcur = λ n. absurd (n refl);
    }
told {s} {c} h (retries d m j b o u) =
    record {
      below = omega arith;
      further = λ e. differs (cc);
      retry = λ e. (b, o, u);
      due = λ n. absurd (n refl);
      jcur = λ n. j;
    }
told {s} {c} h (fails d m j u) =
    record {
      below = omega arith;
      further = λ e. differs (cc);
      retry = λ e. differs (cc);
      due = λ n. u;
      jcur = λ n. j;
    }
told {s} {c} h (goes_on d m l j u) =
    record {
      below = omega arith;
      further = λ e. m;
      retry = λ e. differs (cc);
      due = λ n. u;
      jcur = λ n. j;
    }

pub judged : (s : Settings) (c : Common) (x : Correction) (pnorm : Float) → c.m < s.maxcor
    → Judged s c (judge_of s c x pnorm)
judged s c x pnorm h = told h (judge-ways s c x pnorm)
