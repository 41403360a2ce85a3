-- A corrector pass within its caps: from a state and a tally with room for one more pass, each question of the pass has
-- what the demands say, and each outcome comes with a tally of at most maxcor derivatives more, difference columns
-- aside. A retry comes in the second family alone, from a pass that began no Jacobian, and makes one due.
-- Assumes nothing.
use mathlib.Core.Bool.{Bool, true, false, cond}
use mathlib.Core.Path.{◌≡◌, refl, sym, ap, ◌∙◌}
use mathlib.Core.List.{List, ◌∷◌}
use Prim.Native.Nat.{ℕ, zero, suc, ◌+◌, ◌≤◌, ◌<◌}
use native.Mathlib.Nat.{suc-mul}
use native.Mathlib.Omega.{arith}
use lib.Ieee.{Float}
use Rattle.loops.proofs.Test.{differs}
use Rattle.common.specs.declared.MethodFamily.{MethodFamily}
use Rattle.common.specs.declared.MethodFamily.TheVariants.{Bdf}
use Rattle.common.specs.declared.Settings.{Settings}
use Rattle.common.specs.declared.Common.{Common}
use Rattle.common.specs.Record.{with_column, with_nje}
use Rattle.common.specs.State.{Given, State}
use Rattle.jacobian.specs.Jacobian.{is_supplied, begin_of}
use Rattle.jacobian.proofs.Laws.{SameStep, same-begin, begin-flags, counted, same-finished, finished-flags}
use Rattle.corrector.specs.declared.Pass.{Pass}
use Rattle.corrector.specs.declared.Pass.TheVariants.{Converged, Retry, NoConvergence, Further}
use Rattle.corrector.proofs.Judged.{same-judge, judged}
use Rattle.corrector.proofs.Iterated.{same-open, open-flags}
use Rattle.rules.specs.Play.{Play}
use Rattle.rules.specs.Pass.{asked_in_step, stored, Outcome, converged, to_retry, unconverged}
use Rattle.rules.specs.Pass.{Iterated, iterated, further, further_allowed, turns, fresh, iterations, factored}
use Rattle.rules.specs.Pass.{factored_state, factored_in, after_matrix, column_asked, column_stored, ask_columns}
use Rattle.rules.specs.Pass.{unperturbed, matrix_given, ask_matrix, source_of, begun, pass_at, opened, pass}
use Rattle.rules.specs.Rules.{limits_of}
use Rattle.rules.specs.Steps.{Tally, Step, one_derivative, cost_of, one_jacobian, one_pass, one_retry}
use Rattle.rules.specs.Caps.{passes_of, retries_of, jacobians_of, derivatives_of, Capped}
use Rattle.rules.specs.Demands.{CapsKept}
use Rattle.rules.specs.Counts.{Counted}
use Rattle.rules.proofs.Tracks.{Whole, now, Base, Tracks, same-tracks, asked-tracks, node}

-- room for one more pass: a and t are the record and the tally before it
pub record Room (s : Settings) (f : MethodFamily) (b a : Common) (t : Tally) : Type 0 where
  pub derivatives : t.derivatives + s.maxcor ≤ derivatives_of f (limits_of s) + t.paid
  pub jacobians : t.jacobians + 1 ≤ jacobians_of (limits_of s)
  pub passes : t.passes + 1 ≤ passes_of f (limits_of s)
  pub retries : t.retries ≤ retries_of f
  pub rejected : a.rejected ≤ b.rejected + t.passes

-- in the pass, with r more derivatives to come at most
pub record Amid (s : Settings) (f : MethodFamily) (b a : Common) (t : Tally) (r : ℕ) (z : Common) (u : Tally)
    : Type 0 where
  pub tracks : Tracks s f b z u
  pub ncf : z.ncf ≡ a.ncf
  pub kflag : z.kflag ≡ a.kflag
  pub rejected : z.rejected ≡ a.rejected
  pub passes : u.passes ≡ t.passes + 1
  pub retries : u.retries ≡ t.retries
  pub jacobians : u.jacobians ≤ t.jacobians + 1
  pub paid : t.paid ≤ u.paid
  pub derivatives : u.derivatives + r + t.paid ≤ t.derivatives + s.maxcor + u.paid

pub record Retried (f : MethodFamily) (a : Common) (t : Tally) (z : Common) (u : Tally) : Type 0 where
  pub second : f ≡ Bdf
  pub undue : a.due ≡ false
  pub due : z.due ≡ true
  pub jacobians : u.jacobians ≡ t.jacobians

module _ (g : Given) (f : MethodFamily) (b : Common) (xs : List Step) (base : Base g.s b xs)
    (a : Common) (t : Tally) (room : Room g.s f b a t) where
  abbrev s : Settings
  s = g.s

  abbrev During : ℕ → Common → Tally → Type 0
  During r z u = Amid s f b a t r z u

  -- an old Jacobian is one that this pass has not begun
  abbrev Old : Common → Tally → Type 0
  Old z u = z.jcur ≡ false → (a.due ≡ false) × (u.jacobians ≡ t.jacobians)

  -- what comes after the pass
  pub record Then (on : Outcome → Play) : Type 0 where
    pub converges : (del : Float) (z : State) (u : Tally) → During 0 z.c u
        → Whole g (on (converged del z)) (now f s u ∷ xs)
    pub fails : (z : State) (u : Tally) → During 0 z.c u → Whole g (on (unconverged z)) (now f s u ∷ xs)
    pub retries : (z : State) (u : Tally) → During 0 z.c u → Retried f a t z.c u
        → Whole g (on (to_retry z)) (now f s (one_retry u) ∷ xs)

  same-during : {r : ℕ} {c : Common} {u : Tally} (d : Common) → SameStep c d → During r c u → During r d u
  same-during d q p =
      record {
        tracks = same-tracks d q p.tracks;
        ncf = q.ncf ∙ p.ncf;
        kflag = q.kflag ∙ p.kflag;
        rejected = q.rejected ∙ p.rejected;
        passes = p.passes;
        retries = p.retries;
        jacobians = p.jacobians;
        paid = p.paid;
        derivatives = p.derivatives;
      }

  fewer : {r : ℕ} (q : ℕ) {c : Common} {u : Tally} → q ≤ r → During r c u → During q c u
  fewer q h p =
      record {
        tracks = p.tracks;
        ncf = p.ncf;
        kflag = p.kflag;
        rejected = p.rejected;
        passes = p.passes;
        retries = p.retries;
        jacobians = p.jacobians;
        paid = p.paid;
        derivatives = omega (arith, p.derivatives);
      }

  set-column : {r : ℕ} (j : ℕ) {c : Common} {u : Tally} → During r c u → During r (with_column j c) u
  set-column j p =
      let k = p.tracks in
      record {
        tracks = record {
          meth = k.meth;
          nst = k.nst;
          nfe = k.nfe;
          count = k.count;
          nje = k.nje;
          nlu = k.nlu;
          total = k.total;
          nslp = k.nslp;
          icount = k.icount;
          paid = k.paid;
        };
        ncf = p.ncf;
        kflag = p.kflag;
        rejected = p.rejected;
        passes = p.passes;
        retries = p.retries;
        jacobians = p.jacobians;
        paid = p.paid;
        derivatives = p.derivatives;
      }

  -- a derivative is asked for
  asked-during : (r : ℕ) (c : Common) (u : Tally) → During (suc r) c u → During r (asked_in_step c) (one_derivative u)
  asked-during r c u p =
      record {
        tracks = asked-tracks c u p.tracks;
        ncf = p.ncf;
        kflag = p.kflag;
        rejected = p.rejected;
        passes = p.passes;
        retries = p.retries;
        jacobians = p.jacobians;
        paid = p.paid;
        derivatives = omega (arith, p.derivatives);
      }

  capped : {r : ℕ} {c : Common} {u : Tally} → During r c u → Capped (now f s u)
  capped p =
      record {
        derivatives = omega (arith, p.derivatives, room.derivatives);
        jacobians = omega (arith, p.jacobians, room.jacobians);
        passes = omega (arith, p.passes, room.passes);
        retries = omega (arith, p.retries, room.retries);
      }

  place : {r : ℕ} (x : State) (u : Tally) → During r x.c u
      → CapsKept x (now f s u ∷ xs) × Counted s x.c
  place x u p =
      node s f b xs base x u p.tracks (omega (arith, p.rejected, p.passes, room.rejected)) (capped p)

  -- ---- the iterations

  -- an iteration from z
  record Turned (r : ℕ) (z : State) (u : Tally) (i : Iterated) : Type 0 where
    during : During r i.st.c u
    below : i.st.c.m < s.maxcor
    further : i.pass ≡ Further → i.st.c.m ≡ z.c.m + 1
    retry : i.pass ≡ Retry → Retried f a t i.st.c u
    old : i.pass ≡ Further → Old i.st.c u

  turned : (r : ℕ) (z : State) (u : Tally) → During r z.c u → z.c.m < s.maxcor → Old z.c u
      → Turned r z u (iterated g z)
  unfolding iterated
  turned r z u p few old =
      let q = judged s z.c _ _ few in
      record {
        during = same-during _ (same-judge s z.c _ _) p;
        below = q.below;
        further = q.further;
        retry = λ e.
            let y = q.retry e in
            let o = old y.1 in
            record { second = sym p.tracks.meth ∙ y.0; undue = o.0; due = y.2; jacobians = o.1 };
        old = λ e. λ c. old (sym (q.jcur (λ d. differs (cc))) ∙ c);
      }

  module _ (on : Outcome → Play) (after : Then on) where
    turns-whole : (k : ℕ) (p : Pass) (del : Float) (z : State) (u : Tally) → During k z.c u
        → z.c.m < s.maxcor → (p ≡ Further → z.c.m + k ≡ s.maxcor) → (p ≡ Further → Old z.c u)
        → (p ≡ Retry → Retried f a t z.c u) → Whole g (turns k g on p del z) (now f s u ∷ xs)
    unfolding turns
    turns-whole zero Converged del z u p few fuel old retry = after.converges del z u p
    turns-whole zero Retry del z u p few fuel old retry = after.retries _ u p (retry refl)
    turns-whole zero NoConvergence del z u p few fuel old retry = after.fails z u p
    turns-whole zero Further del z u p few fuel old retry = absurd (omega (arith, fuel refl))
    turns-whole (suc k) Converged del z u p few fuel old retry = after.converges del z u (fewer 0 (omega arith) p)
    turns-whole (suc k) Retry del z u p few fuel old retry = after.retries _ u (fewer 0 (omega arith) p) (retry refl)
    turns-whole (suc k) NoConvergence del z u p few fuel old retry = after.fails z u (fewer 0 (omega arith) p)
    turns-whole (suc k) Further del z u p few fuel old retry =
        let v = one_derivative u in
        let q = asked-during k z.c u p in (
          place (further z) v q,
          λ f1.
              let y = stored g f1 (further z) in
              let i = turned k y v q few (old refl) in
              turns-whole k (iterated g y).pass (iterated g y).del (iterated g y).st v i.during i.below
              (λ e. omega (arith, i.further e, fuel refl)) i.old i.retry,
        )

    iterations-whole : (z : State) (u : Tally) → During (further_allowed s) z.c u → Old z.c u
        → Whole g (iterations g on z) (now f s u ∷ xs)
    unfolding iterations
    iterations-whole z u p old =
        let y = fresh g z in
        let o = open-flags z.c in
        let most = base.settings.maxcor.0 in
        let zero-m : y.c.m ≡ 0 = o.2 in
        let i = turned (further_allowed s) y u (same-during _ (same-open z.c) p) (omega (arith, most, zero-m))
        (λ e. old (sym o.0 ∙ e)) in
        turns-whole (further_allowed s) (iterated g y).pass (iterated g y).del (iterated g y).st u i.during
        i.below (λ e. omega (arith, i.further e, most, zero-m)) i.old i.retry

    -- ---- the Jacobian, begun in this pass and not yet factored

    factored-at : (done : Bool) (z : State) (u : Tally) → During (further_allowed s) z.c u → z.c.jcur ≡ true
        → Whole g (factored_in g on done z) (now f s u ∷ xs)
    unfolding factored_in
    factored-at true z u p new = iterations-whole z u p (λ e. differs (sym e ∙ new))
    factored-at false z u p new = after.fails z u (fewer 0 (omega arith) p)

    counted-during : (r : ℕ) (z : State) (u : Tally) → During r z.c u → z.c.nlu + 1 ≤ b.nlu + u.jacobians
        → During r (counted s z.c z.w z.p) u
    counted-during r z u p lu =
        let k = p.tracks in
        record {
          tracks = record {
            meth = k.meth;
            nst = k.nst;
            nfe = k.nfe;
            count = k.count;
            nje = k.nje;
            nlu = raised (factored g z).done z.c.nlu _ lu;
            total = k.total;
            nslp = omega (arith, k.nst);
            icount = k.icount;
            paid = k.paid;
          };
          ncf = p.ncf;
          kflag = p.kflag;
          rejected = p.rejected;
          passes = p.passes;
          retries = p.retries;
          jacobians = p.jacobians;
          paid = p.paid;
          derivatives = p.derivatives;
        }
      where
        raised : (done : Bool) (k m : ℕ) → k + 1 ≤ m → cond done (k + 1) k ≤ m
        raised true k m h = h
        raised false k m h = omega arith

    after-matrix : (z : State) (u : Tally) → During (further_allowed s) z.c u → z.c.jcur ≡ true
        → z.c.nlu + 1 ≤ b.nlu + u.jacobians → Whole g (after_matrix g on z) (now f s u ∷ xs)
    unfolding after_matrix
    after-matrix z u p new lu =
        factored-at _ (factored_state (factored g z)) u
        (same-during _ (same-finished s z.c z.w z.p) (counted-during _ z u p lu))
        ((finished-flags s z.c z.w z.p).0 ∙ new)

    columns-whole : (k j : ℕ) (z : State) (u : Tally) → During (k + (further_allowed s)) z.c u → z.c.jcur ≡ true
        → z.c.nlu + 1 ≤ b.nlu + u.jacobians → Whole g (ask_columns k j g on z) (now f s u ∷ xs)
    unfolding ask_columns
    columns-whole zero j z u p new lu = after-matrix _ u (set-column 0 (fewer _ (omega arith) p)) new lu
    columns-whole (suc k) j z u p new lu =
        let v = one_derivative u in
        let q = asked-during (k + (further_allowed s)) _ u (fewer _ (omega arith) (set-column j p)) in (
          place (column_asked g j z) v q,
          λ f1. columns-whole k (j + 1) (column_stored g f1 (column_asked g j z)) v q new lu,
        )

    matrix-whole : (given : Bool) (z : State) (u : Tally)
        → During (cost_of (limits_of s) (source_of given) + (further_allowed s)) z.c u → z.c.jcur ≡ true
        → z.c.nlu + 1 ≤ b.nlu + u.jacobians → Whole g (ask_matrix g on given z) (now f s u ∷ xs)
    unfolding ask_matrix
    matrix-whole true z u p new lu =
        (place z u p, λ f1. after-matrix (matrix_given g f1 z) u (fewer _ (omega arith) p) new lu)
    matrix-whole false z u p new lu = columns-whole s.n 0 (unperturbed g z) u (fewer _ (omega arith) p) new lu

    -- ---- the pass

    -- the Jacobian begins
    begun-during : (given : Bool) (c : Common) (u : Tally) → During (further_allowed s) c u → u.jacobians ≡ t.jacobians
        → let cost = cost_of (limits_of s) (source_of given) in
        During (cost + (further_allowed s)) (begin_of c) (one_jacobian cost u)
    begun-during given c u p first =
        let cost = cost_of (limits_of s) (source_of given) in
        let k = p.tracks in
        let q : During (cost + (further_allowed s)) (with_nje (c.nje + 1) c) (one_jacobian cost u) =
        record {
          tracks = record {
            meth = k.meth;
            nst = k.nst;
            nfe = k.nfe;
            count = k.count;
            nje = omega (arith, k.nje);
            nlu = omega (arith, k.nlu);
            total = k.total;
            nslp = k.nslp;
            icount = k.icount;
            paid = omega (arith, k.paid, at-most given, suc-mul u.jacobians s.n);
          };
          ncf = p.ncf;
          kflag = p.kflag;
          rejected = p.rejected;
          passes = p.passes;
          retries = p.retries;
          jacobians = omega (arith, first);
          paid = omega (arith, p.paid);
          derivatives = omega (arith, p.derivatives);
        }
        in
        same-during (begin_of c) (same-begin c) q
      where
        at-most : (given : Bool) → cost_of (limits_of s) (source_of given) ≤ s.n
        at-most true = omega arith
        at-most false = omega arith

    pass-at : (due : Bool) (z : State) (u : Tally) → During (further_allowed s) z.c u → due ≡ a.due
        → u.jacobians ≡ t.jacobians → Whole g (pass_at g on due z) (now f s u ∷ xs)
    unfolding pass_at
    pass-at true z u p e first =
        let given = is_supplied s z.c in
        let q = begin-flags z.c in
        let lu = (same-begin z.c).nlu in
        matrix-whole given (begun z) (one_jacobian (cost_of (limits_of s) (source_of given)) u)
        (begun-during given z.c u p first) q.0 (omega (arith, lu, p.tracks.nlu))
    pass-at false z u p e first = iterations-whole z u p (λ o. (sym e, first))

    pub pass-whole : (x : State) → x.c ≡ a → Tracks s f b x.c t → Whole g (pass g on x) (now f s t ∷ xs)
    unfolding pass
    pass-whole x e p =
        let u = one_pass t in
        let m = base.settings.maxcor.0 in
        let q : During s.maxcor x.c u =
        record {
          tracks = record {
            meth = p.meth;
            nst = p.nst;
            nfe = p.nfe;
            count = p.count;
            nje = p.nje;
            nlu = p.nlu;
            total = p.total;
            nslp = p.nslp;
            icount = p.icount;
            paid = p.paid;
          };
          ncf = ap (λ (c : Common). c.ncf) e;
          kflag = ap (λ (c : Common). c.kflag) e;
          rejected = ap (λ (c : Common). c.rejected) e;
          passes = omega arith;
          retries = refl;
          jacobians = omega arith;
          paid = omega arith;
          derivatives = omega arith;
        }
        in
        let v = one_derivative u in
        let r = asked-during (further_allowed s) x.c u (fewer _ (omega arith) q) in (
          place (opened g x) v r,
          λ f1. pass-at x.c.due (stored g f1 (opened g x)) v r (ap (λ (c : Common). c.due) e) refl,
        )
