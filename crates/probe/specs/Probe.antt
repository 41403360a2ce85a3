-- The coefficients by name, at every argument: a NaN where there is no such table, order or index.
-- Tables 0 to 2, orders 1 to 12 (of cm2 1 to 5), indexes 0 to 12 (of tesco 0 to 2).
use Rattle.std.specs.Prelude.{Bool, cond, ◌&&◌, ℕ, leb, Float}
use Rattle.std.specs.Float.{nan}
use Rattle.coefficients.specs.Table.{elco_of, tesco_of, cm1_of, cm2_of, sm1_of}

unfoldable pub is_order : ℕ → ℕ → Bool
is_order order last = leb 1 order && leb order last

unfoldable pub elco_or_nan : ℕ → ℕ → ℕ → Float
elco_or_nan table order i = cond (leb table 2 && (leb i 12 && is_order order 12)) (elco_of table order i) nan

unfoldable pub tesco_or_nan : ℕ → ℕ → ℕ → Float
tesco_or_nan table order i = cond (leb table 2 && (leb i 2 && is_order order 12)) (tesco_of table order i) nan

unfoldable pub cm1_or_nan : ℕ → ℕ → Float
cm1_or_nan table order = cond (is_order order 12) (cm1_of table order) nan

unfoldable pub cm2_or_nan : ℕ → ℕ → Float
cm2_or_nan table order = cond (is_order order 5) (cm2_of table order) nan

unfoldable pub sm1_or_nan : ℕ → Float
sm1_or_nan order = cond (is_order order 12) (sm1_of order) nan
