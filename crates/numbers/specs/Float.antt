-- 64-bit floats: short names for the operations of lib.Ieee at binary64, and the constants of the method.
-- A literal of the code is `of_bits` of its pattern. Each stands here once, named after its decimal (`d1_2` is 1.2),
-- and
-- proofs/Literals.antt shows that it is the float nearest to that decimal. How an operation rounds is said in
-- lib.Ieee.
use Rattle.std.specs.Prelude.{ℕ, pos}
use lib.Ieee as Ieee
use lib.Ieee.{Float, binary64}

infixl 65 ◌⊕◌ ◌⊖◌
infixl 70 ◌⊗◌ ◌⊘◌
abbrev pub ◌⊕◌ : Float → Float → Float
x ⊕ y = Ieee.add binary64 x y

abbrev pub ◌⊖◌ : Float → Float → Float
x ⊖ y = Ieee.sub binary64 x y

abbrev pub ◌⊗◌ : Float → Float → Float
x ⊗ y = Ieee.mul binary64 x y

abbrev pub ◌⊘◌ : Float → Float → Float
x ⊘ y = Ieee.div binary64 x y

abbrev pub lit : ℕ → Float
lit b = Ieee.of_bits binary64 b

-- a count as a float
abbrev pub whole : ℕ → Float
whole k = Ieee.of_int binary64 (pos k)

abbrev pub zero_f : Float
zero_f = lit 0

abbrev pub one_f : Float
one_f = lit 0x3ff0_0000_0000_0000

-- the rounding unit, 2^-52, and its square root
abbrev pub uround : Float
uround = lit 0x3cb0_0000_0000_0000

abbrev pub srur : Float
srur = lit 0x3e50_0000_0000_0000

abbrev pub d0_1 : Float
d0_1 = lit 0x3fb9_9999_9999_999a

abbrev pub d0_2 : Float
d0_2 = lit 0x3fc9_9999_9999_999a

abbrev pub d0_25 : Float
d0_25 = lit 0x3fd0_0000_0000_0000

abbrev pub d0_3 : Float
d0_3 = lit 0x3fd3_3333_3333_3333

abbrev pub d0_5 : Float
d0_5 = lit 0x3fe0_0000_0000_0000

abbrev pub d0_7 : Float
d0_7 = lit 0x3fe6_6666_6666_6666

abbrev pub d1_1 : Float
d1_1 = lit 0x3ff1_9999_9999_999a

abbrev pub d1_2 : Float
d1_2 = lit 0x3ff3_3333_3333_3333

abbrev pub d1_3 : Float
d1_3 = lit 0x3ff4_cccc_cccc_cccd

abbrev pub d1_4 : Float
d1_4 = lit 0x3ff6_6666_6666_6666

abbrev pub d1_5 : Float
d1_5 = lit 0x3ff8_0000_0000_0000

abbrev pub d1_00001 : Float
d1_00001 = lit 0x3ff0_000a_7c5a_c472

abbrev pub d1_2e_6 : Float
d1_2e_6 = lit 0x3eb4_21f5_f40d_8376

abbrev pub d1_3e_6 : Float
d1_3e_6 = lit 0x3eb5_cf75_1db9_4e6b

abbrev pub d1_4e_6 : Float
d1_4e_6 = lit 0x3eb7_7cf4_4765_195f

abbrev pub d1e_6 : Float
d1e_6 = lit 0x3eb0_c6f7_a0b5_ed8d

abbrev pub d1e_5 : Float
d1e_5 = lit 0x3ee4_f8b5_88e3_68f1

abbrev pub d1e_3 : Float
d1e_3 = lit 0x3f50_624d_d2f1_a9fc

abbrev pub d2 : Float
d2 = lit 0x4000_0000_0000_0000

abbrev pub d3 : Float
d3 = lit 0x4008_0000_0000_0000

abbrev pub d5 : Float
d5 = lit 0x4014_0000_0000_0000

abbrev pub d100 : Float
d100 = lit 0x4059_0000_0000_0000

abbrev pub d1000 : Float
d1000 = lit 0x408f_4000_0000_0000

abbrev pub d1024 : Float
d1024 = lit 0x4090_0000_0000_0000

abbrev pub d10000 : Float
d10000 = lit 0x40c3_8800_0000_0000
