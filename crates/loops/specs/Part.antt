-- A part of a list, lent as `&l[a..a + n]` or `&mut l[a..a + n]`: `part a n l` is what is lent, and `put_part a n l s`
-- the whole when the part is back as s. (They are the logic's `mid_of` and `put_mid`.)
use Rattle.std.specs.Prelude.{List, ◌++◌, ℕ, take, drop}

abbrev pub part : {A : Type 0} → ℕ → ℕ → List A → List A
part a n l = take n (drop a l)

abbrev pub put_part : {A : Type 0} → ℕ → ℕ → List A → List A → List A
put_part a n l s = take a l ++ (s ++ drop n (drop a l))
