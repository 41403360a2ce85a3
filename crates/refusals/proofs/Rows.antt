-- Rows of a table of refusals, in order: which one is returned.
--     IsFirst                          the refusal of the first row that holds
--     first-also, first_else           a row more, rows after rows
--     holds-none, none-holds           none is returned exactly if no row holds
--     of-first                         what holds of each row's refusal holds of the one returned
--     exactly                          each row exactly if, where no two rows have the same refusal
-- Assumes nothing.
use mathlib.Core.Bool.{Bool, true, false, ◌||◌}
use mathlib.Core.List.{List, [], ◌∷◌, ◌++◌}
use mathlib.Core.Logic.{◌⊎◌, inl, inr, ◌≢◌}
use mathlib.Core.Path.{◌≡◌, refl, sym, ap, ◌∙◌}
use Prim.Native.Nat.{ℕ, ◌≤◌, ◌<◌}
use native.Mathlib.Omega.{arith}
use borrow.Author.Tests.{ne_eqb}
use lib.Dec.{eqb}
use Rattle.refusals.specs.Refusal.{Entry, none, also_of, or_else}
use Rattle.refusals.specs.Rows.{Row, row, ExactlyFirst, NoneHolds}
use Rattle.refusals.proofs.Decides.{Decides}

-- ---- the first row that holds

-- x is the refusal of the first row whose condition holds, and none where none holds
abbrev pub IsFirst : List Row → Entry → Type 0
IsFirst [] x = x ≡ none
IsFirst (r ∷ rs) x = (r.holds × (x ≡ r.refusal)) ⊎ ((r.holds → ⊥) × IsFirst rs x)

-- every row has a number
abbrev pub Numbered : List Row → Type 0
Numbered [] = Unit {0}
Numbered (r ∷ rs) = (r.refusal.number ≢ 0) × Numbered rs

also-stays : (r : Entry) (b : Bool) (k : ℕ) → r.number ≢ 0 → also_of r b k ≡ r
unfolding also_of
also-stays r b k h = rw (ne_eqb r.number 0 h)

else-stays : (a b : Entry) → a.number ≢ 0 → or_else a b ≡ a
unfolding or_else
else-stays a b h = rw (ne_eqb a.number 0 h)

-- a row more
pub first-also : {P : Type 0} (rows : List Row) (r : Entry) (t : Bool) (k : ℕ) → Numbered rows → IsFirst rows r
    → Decides t P → IsFirst (rows ++ row k P ∷ []) (also_of r t k)
unfolding also_of
first-also [] r true k m f d = inl (d.0 refl, rw f)
first-also [] r false k m f d = inr (d.1 refl, rw f)
first-also (q ∷ rows) r t k m (inl (h, e)) d =
    inl (h, also-stays r t k (λ z. m.0 (ap (λ (x : Entry). x.number) (sym e) ∙ z)) ∙ e)
first-also (q ∷ rows) r t k m (inr (n, f)) d = inr (n, first-also rows r t k m.1 f d)

-- rows after rows
pub first_else : (rows more : List Row) (a b : Entry) → Numbered rows → IsFirst rows a → IsFirst more b
    → IsFirst (rows ++ more) (or_else a b)
unfolding or_else
first_else [] more a b m f g = rw f g
first_else (q ∷ rows) more a b m (inl (h, e)) g =
    inl (h, else-stays a b (λ z. m.0 (ap (λ (x : Entry). x.number) (sym e) ∙ z)) ∙ e)
first_else (q ∷ rows) more a b m (inr (n, f)) g = inr (n, first_else rows more a b m.1 f g)

-- two conditions of one number
pub also-same : (r : Entry) (b c : Bool) (k : ℕ) → k ≢ 0 → also_of (also_of r b k) c k ≡ also_of r (b || c) k
unfolding also_of
also-same r b c k h = by (eqb r.number 0) refl b
  where
    by : (t : Bool) → eqb r.number 0 ≡ t → (b : Bool) → also_of (also_of r b k) c k ≡ also_of r (b || c) k
    by true e true = rw (e, ne_eqb k 0 h)
    by true e false = simp e
    by false e b = simp e

-- ---- where none holds

pub none-holds : (rows : List Row) (x : Entry) → IsFirst rows x → NoneHolds rows → x.number ≡ 0
none-holds [] x f h = rw f
none-holds (r ∷ rows) x (inl (y, e)) h = absurd (h.0 y)
none-holds (r ∷ rows) x (inr (n, f)) h = none-holds rows x f h.1

pub holds-none : (rows : List Row) (x : Entry) → Numbered rows → IsFirst rows x → x.number ≡ 0 → NoneHolds rows
holds-none [] x m f z = tt
holds-none (r ∷ rows) x m (inl (y, e)) z = absurd (m.0 (ap (λ (q : Entry). q.number) (sym e) ∙ z))
holds-none (r ∷ rows) x m (inr (n, f)) z = (n, holds-none rows x m.1 f z)

-- ---- what holds of each row's refusal

abbrev pub Each : (Entry → Type 0) → List Row → Type 0
Each P [] = Unit {0}
Each P (r ∷ rs) = P r.refusal × Each P rs

-- and where there is none, holds of the one returned
pub of-first : (P : Entry → Type 0) → P none → (rows : List Row) (x : Entry) → Each P rows → IsFirst rows x → P x
of-first P z [] x e f = rw f z
of-first P z (r ∷ rows) x e (inl (h, q)) = rw q e.0
of-first P z (r ∷ rows) x e (inr (n, f)) = of-first P z rows x e.1 f

pub numbered : (rows : List Row) → Each (λ r. 1 ≤ r.number) rows → Numbered rows
numbered [] e = tt
numbered (r ∷ rows) e = (λ z. omega (arith, z, e.0), numbered rows e.1)

-- ---- each row exactly if

-- rows whose refusals have increasing places, after k
abbrev pub After : (Entry → ℕ) → ℕ → List Row → Type 0
After place k [] = Unit {0}
After place k (r ∷ rs) = (k < place r.refusal) × After place (place r.refusal) rs

module _ (place : Entry → ℕ) where
  -- the first row that holds has a place after k, and none has place 0
  later : (rows : List Row) (k : ℕ) (x : Entry) → After place k rows → IsFirst rows x → (x ≡ none) ⊎ (k < place x)
  later [] k x a f = inl f
  later (r ∷ rows) k x a (inl (h, e)) = inr (rw e a.0)
  later (r ∷ rows) k x a (inr (h, f)) = by (later rows (place r.refusal) x a.1 f)
    where
      by : (x ≡ none) ⊎ (place r.refusal < place x) → (x ≡ none) ⊎ (k < place x)
      by (inl e) = inl e
      by (inr q) = inr (omega (arith, q, a.0))

  -- once a row is returned no later one is
  over : (rows : List Row) (k : ℕ) (x : Entry) (None : Type 0) → (None → ⊥) → x.number ≢ 0 → place x ≤ k
      → After place k rows → ExactlyFirst (λ r. x ≡ r) (x.number ≡ 0) None rows
  over [] k x None never m h a = (λ e. absurd (m e), λ e. absurd (never e))
  over (r ∷ rows) k x None never m h a = (
    (
      λ e. let q : place x ≡ place r.refusal = ap place e in absurd (omega (arith, q, h, a.0)),
      λ e. absurd (never e.0),
    ),
    over rows (place r.refusal) x (None × (r.holds → ⊥)) (λ e. never e.0) m (omega (arith, h, a.0)) a.1,
  )

  pub exactly : (rows : List Row) (k : ℕ) (x : Entry) (None : Type 0) → None → Numbered rows → After place k rows
      → IsFirst rows x → ExactlyFirst (λ r. x ≡ r) (x.number ≡ 0) None rows
  exactly [] k x None so_far m a f = (λ e. so_far, λ e. rw f)
  exactly (r ∷ rows) k x None so_far m a (inl (h, e)) = (
    (λ q. (so_far, h), λ q. e),
    over rows (place r.refusal) x (None × (r.holds → ⊥)) (λ q. q.1 h) (rw e m.0)
        (let q : place x ≡ place r.refusal = ap place e in omega (arith, q)) a.1,
  )
  exactly (r ∷ rows) k x None so_far m a (inr (h, f)) = (
    (λ e. absurd (by e (later rows (place r.refusal) x a.1 f)), λ q. absurd (h q.1)),
    exactly rows (place r.refusal) x (None × (r.holds → ⊥)) (so_far, h) m.1 a.1 f,
  )
    where
      by : x ≡ r.refusal → (x ≡ none) ⊎ (place r.refusal < place x) → ⊥
      by e (inl z) = m.0 (ap (λ (y : Entry). y.number) (sym e ∙ z))
      by e (inr q) =
          let p : place x ≡ place r.refusal = ap place e in
          omega (arith, p, q)
