-- The attempts of a step within its caps: whatever follows a pass leaves what the next one may spend, or ends the step.
-- Assumes nothing.
use mathlib.Core.Bool.{Bool, true, false}
use mathlib.Core.Path.{◌≡◌, refl, ap, ◌∙◌}
use mathlib.Core.List.{List, ◌∷◌}
use mathlib.Core.Logic.{◌⊎◌, inl, inr}
use Prim.Native.Nat.{ℕ, zero, suc, ◌+◌, ◌-◌, ◌≤◌, ◌<◌}
use native.Mathlib.Omega.{arith}
use lib.Ieee.{Float}
use Rattle.common.specs.declared.MethodFamily.{MethodFamily}
use Rattle.common.specs.declared.Settings.{Settings}
use Rattle.common.specs.declared.Common.{Common}
use Rattle.common.specs.Limits.{mxncf_of}
use Rattle.common.specs.Record.{is_bdf}
use Rattle.common.specs.State.{Given, State, made}
use Rattle.attempt.specs.declared.Next.{Next}
use Rattle.attempt.specs.Attempt.{restep_of}
use Rattle.attempt.proofs.Laws.{unconverged as law-unconverged, failed as law-failed, restepped as law-restepped}
use Rattle.rules.specs.Play.{Play}
use Rattle.rules.specs.Pass.{asked_in_step, stored}
use Rattle.rules.specs.Rules.{Ended, single, restepped, follow, attempted}
use Rattle.rules.specs.Rules.{after_error, after_no_convergence, tested, error_at, decide, attempts}
use Rattle.rules.specs.Steps.{Tally, Step, one_derivative, one_retry}
use Rattle.rules.specs.Caps.{Capped}
use Rattle.rules.proofs.Tracks.{Whole, now, Base, Tracks, asked-tracks, node}
use Rattle.rules.proofs.Pass.{Amid, Retried, Then, pass-whole}
use Rattle.rules.proofs.Budget.{spare, spare_due, spare-next, spare_low, singles, Inv, Done, Onward}
use Rattle.rules.proofs.Budget.{room, Paid, paid, next, capped, same_attempt}

module _ (g : Given) (f : MethodFamily) (b : Common) (xs : List Step) (base : Base g.s b xs)
    (on : Ended → Play) where
  abbrev s : Settings
  s = g.s

  -- what a decision must leave for the next pass, of which k are allowed
  record Resteps (k : ℕ) (c : Common) (u : Tally) : Type 0 where
    tracks : Tracks s f b c u
    rejected : c.rejected ≤ b.rejected + u.passes
    capped : Capped (now f s (one_derivative u))
    again : (w : List Float) → Inv s f b k (restep_of s (asked_in_step c) w).common (one_derivative u)

  abbrev Fair : ℕ → Next → Common → Tally → Type 0
  Fair k Next.Pass c u = Inv s f b k c u
  Fair k Next.Restep c u = Resteps k c u
  Fair k Next.TooSmall c u = Done s f b c u
  Fair k Next.Poor c u = Done s f b c u

  one_fewer : (i m : ℕ) → i < m → suc (m - (i + 1)) ≡ m - i
  one_fewer i m h = omega arith

  lower : {a1 a2 k1 k2 s1 s2 l : ℕ} → suc a1 ≡ a2 → k1 ≡ k2 → s1 ≤ s2 → suc l ≡ a2 + k2 + s2 → a1 + k1 + s1 ≤ l
  lower e h p q = omega arith

  -- after the pass, in the state that it left
  record Past (a : Common) (u : Tally) (z : Common) : Type 0 where
    tracks : Tracks s f b z u
    ncf : z.ncf ≡ a.ncf
    kflag : z.kflag ≡ a.kflag
    rejected : z.rejected + 1 ≤ b.rejected + u.passes

  -- no convergence
  fair-unconverged : (k : ℕ) (a : Common) (u : Tally) → Paid s f b k a u → (z : State) → Past a u z.c
      → (n : Next) → (after_no_convergence g z).next ≡ n → Fair k n (after_no_convergence g z).common u
  fair-unconverged k a u p z h Next.Pass e =
      let q = law-unconverged s z.c z.w in
      let y = (after_no_convergence g z).common in
      let few : a.ncf + 1 < mxncf_of s = rw h.ncf at (q.below (rw h.ncf p.ncf) e) in
      let ny : y.ncf ≡ a.ncf + 1 = rw (← h.ncf) q.ncf in
      let ky : y.kflag ≡ a.kflag = q.kflag ∙ h.kflag in
      let dy : y.due ≡ is_bdf f = q.due e ∙ ap is_bdf h.tracks.meth in
      let sp : spare f y.due y.kflag ≤ spare f a.due a.kflag =
      rw (dy, ky) (spare_due f a.due a.kflag)
      in
      let sy : singles y.kflag ≡ singles a.kflag = ap singles ky in
      let nine : 9 - y.kflag ≡ 9 - a.kflag = ap (λ (i : ℕ). 9 - i) ky in
      let fewer : suc (mxncf_of s - y.ncf) ≡ mxncf_of s - a.ncf = rw ny (one_fewer a.ncf (mxncf_of s) p.ncf) in
      next s f b k a u p y u
      (same_attempt s f b y q.kept h.tracks)
      (omega (arith, q.rejected-pass e, h.rejected)) (rw ny few) (rw ky p.kflag) (lower fewer nine sp p.is)
      (rw sy (omega arith)) refl (omega (arith, p.jacobians)) refl (omega (arith, p.retries))
  fair-unconverged k a u p z h Next.Poor e =
      let q = law-unconverged s z.c z.w in
      record {
        tracks = same_attempt s f b _ q.kept h.tracks;
        rejected = omega (arith, q.rejected-poor e, h.rejected);
        capped = capped s f b k a u p;
      }
  fair-unconverged k a u p z h Next.Restep e = neither (law-unconverged s z.c z.w).next e
    where
      neither : {A : Type 0} {n : Next} → (n ≡ Next.Pass) ⊎ (n ≡ Next.Poor) → n ≡ Next.Restep → A
      neither (inl q) e = absurd (let z : ◌≡◌ {A = ℕ} 0 1 = cc in omega arith)
      neither (inr q) e = absurd (let z : ◌≡◌ {A = ℕ} 0 1 = cc in omega arith)
  fair-unconverged k a u p z h Next.TooSmall e = neither (law-unconverged s z.c z.w).next e
    where
      neither : {A : Type 0} {n : Next} → (n ≡ Next.Pass) ⊎ (n ≡ Next.Poor) → n ≡ Next.TooSmall → A
      neither (inl q) e = absurd (let z : ◌≡◌ {A = ℕ} 0 1 = cc in omega arith)
      neither (inr q) e = absurd (let z : ◌≡◌ {A = ℕ} 0 1 = cc in omega arith)

  -- an error above 1
  fair-failed : (k : ℕ) (a : Common) (u : Tally) → Paid s f b k a u → (dsm : Float) (z : State) → Past a u z.c
      → (n : Next) → (after_error g dsm z).next ≡ n → Fair k n (after_error g dsm z).common u
  fair-failed k a u p dsm z h Next.Pass e =
      let q = law-failed s z.c dsm z.w in
      let y = (after_error g dsm z).common in
      let low : a.kflag + 1 < 3 = rw h.kflag at (q.pass e) in
      let ny : y.ncf ≡ a.ncf = q.ncf ∙ h.ncf in
      let ky : y.kflag ≡ a.kflag + 1 = rw (← h.kflag) q.kflag in
      let sp : spare f y.due y.kflag ≤ spare f a.due a.kflag =
      rw ky (spare-next f a.due y.due a.kflag (omega arith))
      in
      let fewer : mxncf_of s - y.ncf ≡ mxncf_of s - a.ncf = ap (λ (i : ℕ). mxncf_of s - i) ny in
      next s f b k a u p y u
      (same_attempt s f b y q.kept h.tracks)
      (omega (arith, q.rejected, h.rejected)) (rw ny p.ncf) (omega arith) (omega (arith, p.is)) (omega arith) refl
      (omega (arith, p.jacobians)) refl (omega (arith, p.retries))
  fair-failed k a u p dsm z h Next.Restep e =
      let q = law-failed s z.c dsm z.w in
      let c = (after_error g dsm z).common in
      let v = one_derivative u in
      let third = q.restep (rw h.kflag p.kflag) e in
      let low : 3 ≤ a.kflag + 1 = rw h.kflag at third.0 in
      let high : a.kflag + 1 ≤ 9 = rw h.kflag at third.1 in
      let n : a.ncf < mxncf_of s = p.ncf in
      let tc : Tracks s f b c u = same_attempt s f b c q.kept h.tracks in
      record {
        tracks = tc;
        rejected = omega (arith, q.rejected, h.rejected);
        capped = record {
          derivatives = omega (arith, p.derivatives);
          jacobians = omega (arith, p.jacobians);
          passes = omega (arith, p.passes);
          retries = omega (arith, p.retries);
        };
        again = λ w1.
            let r = law-restepped s (asked_in_step c) w1 in
            let y = (restep_of s (asked_in_step c) w1).common in
            let ny : y.ncf ≡ a.ncf = r.ncf ∙ q.ncf ∙ h.ncf in
            let ky : y.kflag ≡ a.kflag + 1 = r.kflag ∙ rw (← h.kflag) q.kflag in
            let dy : y.due ≡ is_bdf f = r.due ∙ ap is_bdf tc.meth in
            let sp : spare f y.due y.kflag ≤ 2 - y.kflag = rw dy (spare_low f y.kflag) in
            let fewer : mxncf_of s - y.ncf ≡ mxncf_of s - a.ncf = ap (λ (i : ℕ). mxncf_of s - i) ny in
            next s f b k a u p y v
            (same_attempt s f b y r.kept (asked-tracks c u tc))
            (omega (arith, r.rejected, q.rejected, h.rejected)) (rw ny p.ncf) (omega arith) (omega (arith, p.is))
            (omega arith) refl (omega (arith, p.jacobians)) refl (omega (arith, p.retries));
      }
  fair-failed k a u p dsm z h Next.TooSmall e =
      let q = law-failed s z.c dsm z.w in
      record {
        tracks = same_attempt s f b _ q.kept h.tracks;
        rejected = omega (arith, q.rejected, h.rejected);
        capped = capped s f b k a u p;
      }
  fair-failed k a u p dsm z h Next.Poor e = neither (law-failed s z.c dsm z.w).next e
    where
      neither : {A : Type 0} {n : Next} → (n ≡ Next.Pass) ⊎ ((n ≡ Next.Restep) ⊎ (n ≡ Next.TooSmall))
          → n ≡ Next.Poor → A
      neither (inl q) e = absurd (let z : ◌≡◌ {A = ℕ} 0 1 = cc in omega arith)
      neither (inr (inl q)) e = absurd (let z : ◌≡◌ {A = ℕ} 0 1 = cc in omega arith)
      neither (inr (inr q)) e = absurd (let z : ◌≡◌ {A = ℕ} 0 1 = cc in omega arith)

  -- a retry
  fair-retry : (k : ℕ) (a : Common) (t : Tally) → Inv s f b (suc k) a t → (z : Common) (u : Tally)
      → Amid s f b a t 0 z u → Retried f a t z u → Inv s f b k z (one_retry u)
  fair-retry k a t i z u p q =
      let x = paid s f b k a t i z u p in
      let tr = p.tracks in
      let ks : spare f a.due a.kflag ≡ 1 + (2 - a.kflag) = rw (q.second, q.undue) in
      let zs : spare f z.due z.kflag ≡ 2 - a.kflag = rw (q.second, q.due, p.kflag) in
      let fewer : mxncf_of s - z.ncf ≡ mxncf_of s - a.ncf = ap (λ (j : ℕ). mxncf_of s - j) p.ncf in
      let nine : 9 - z.kflag ≡ 9 - a.kflag = ap (λ (j : ℕ). 9 - j) p.kflag in
      let sz : singles z.kflag ≡ singles a.kflag = ap singles p.kflag in
      next s f b k a u x z (one_retry u)
      (record {
        meth = tr.meth;
        nst = tr.nst;
        nfe = tr.nfe;
        count = tr.count;
        nje = tr.nje;
        nlu = tr.nlu;
        total = tr.total;
        nslp = tr.nslp;
        icount = tr.icount;
        paid = tr.paid;
      })
      (omega (arith, p.rejected, p.passes, i.rejected)) (rw p.ncf i.ncf) (rw p.kflag i.kflag)
      (omega (arith, x.is)) (omega arith) refl (omega (arith, i.jacobians, q.jacobians)) refl
      (omega (arith, x.retries))

  -- ---- what follows a pass

  module _ (onward : Onward g f b xs on) where
    follow-whole : (k : ℕ) (again : State → Play)
        → ((y : State) (u : Tally) → Inv s f b k y.c u → Whole g (again y) (now f s u ∷ xs))
        → (n : Next) (y : State) (u : Tally) → Fair k n y.c u → Whole g (follow g again on n y) (now f s u ∷ xs)
    unfolding follow
    follow-whole k again go Next.Pass y u p = go y u p
    follow-whole k again go Next.Restep y u p =
        let v = one_derivative u in (
          node s f b xs base (single y) v (asked-tracks y.c u p.tracks) p.rejected p.capped,
          λ f1. go (restepped g f1 (single y)) v (p.again (stored g f1 (single y)).w),
        )
    follow-whole k again go Next.TooSmall y u p = onward.small y u p
    follow-whole k again go Next.Poor y u p = onward.poor y u p

    tested-whole : (k : ℕ) (again : State → Play)
        → ((y : State) (u : Tally) → Inv s f b k y.c u → Whole g (again y) (now f s u ∷ xs))
        → (above : Bool) (dsm : Float) (a : Common) (z : State) (u : Tally) → Paid s f b k a u → Past a u z.c
        → Whole g (tested g again on above dsm z) (now f s u ∷ xs)
    unfolding tested attempted
    tested-whole k again go true dsm a z u p h =
        let r = after_error g dsm z in
        follow-whole k again go r.next (made z r.common r.work) u (fair-failed k a u p dsm z h r.next refl)
    tested-whole k again go false dsm a z u p h =
        onward.accepted dsm z u
        (record { tracks = h.tracks; rejected = omega (arith, h.rejected); capped = capped s f b k a u p })

    past : (k : ℕ) (a : Common) (t : Tally) → Inv s f b (suc k) a t → (z : Common) (u : Tally)
        → Amid s f b a t 0 z u → Past a u z
    past k a t i z u p =
        record {
          tracks = p.tracks;
          ncf = p.ncf;
          kflag = p.kflag;
          rejected = omega (arith, p.rejected, p.passes, i.rejected);
        }

    decide-then : (k : ℕ) (again : State → Play)
        → ((y : State) (u : Tally) → Inv s f b k y.c u → Whole g (again y) (now f s u ∷ xs))
        → (a : Common) (t : Tally) (i : Inv s f b (suc k) a t)
        → Then g f b xs base a t (room s f b (suc k) a t i) (decide g again on)
    unfolding decide attempted
    decide-then k again go a t i =
        record {
          converges = λ del z u p.
              tested-whole k again go _ (error_at g del z) a z u (paid s f b k a t i z.c u p)
              (past k a t i z.c u p);
          fails = λ z u p.
              let r = after_no_convergence g z in
              follow-whole k again go r.next (made z r.common r.work) u
              (fair-unconverged k a u (paid s f b k a t i z.c u p) z (past k a t i z.c u p) r.next refl);
          retries = λ z u p q. go z (one_retry u) (fair-retry k a t i z.c u p q);
        }

    -- the passes allowed suffice
    pub attempts-whole : (k : ℕ) (x : State) (t : Tally) → Inv s f b k x.c t
        → Whole g (attempts k g on x) (now f s t ∷ xs)
    unfolding attempts
    attempts-whole zero x t i = absurd (omega (arith, i.fuel, i.ncf))
    attempts-whole (suc k) x t i =
        pass-whole g f b xs base x.c t (room s f b (suc k) x.c t i) (decide g (attempts k g on) on)
        (decide-then k (attempts k g on) (λ y u j. attempts-whole k y u j) x.c t i) x refl i.tracks
