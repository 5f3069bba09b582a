-- Numbers with decimals, as bytes.
use Rattle.std.specs.Prelude.{ℕ, ℤ, pos, negsuc, ◌+◌, ◌/◌, ◌%◌, [], ◌∷◌, ◌++◌, codes, decimal}
use Rattle.std.specs.Int.RustNames.{unsigned_abs}
use Rattle.slice_base.specs.Shapes.{Bytes}

-- the decimal digit of a number that has this place value, as its character
abbrev pub digit_of : ℕ → ℕ → ℕ
digit_of n place = 48 + n / place % 10

-- thousandths as a whole number, a point and three decimals
abbrev pub thousandths_of : ℕ → Bytes
thousandths_of n = decimal (n / 1000) ++ 46 ∷ digit_of n 100 ∷ digit_of n 10 ∷ (48 + n % 10) ∷ []

-- a point and the last five digits
abbrev pub five_of : ℕ → Bytes
five_of n = 46 ∷ digit_of n 10000 ∷ digit_of n 1000 ∷ digit_of n 100 ∷ digit_of n 10 ∷ (48 + n % 10) ∷ []

-- hundred-thousandths with five decimals
abbrev pub hundred_thousandths_of : ℕ → Bytes
hundred_thousandths_of n = decimal (n / 100000) ++ five_of n

-- millionths with six decimals
abbrev pub millionths_of : ℕ → Bytes
millionths_of n =
    decimal (n / 1000000) ++
    46 ∷ digit_of n 100000 ∷ digit_of n 10000 ∷ digit_of n 1000 ∷ digit_of n 100 ∷ digit_of n 10 ∷ (48 + n % 10) ∷ []

-- a minus sign in front of a number below 0
abbrev pub sign_of : ℤ → Bytes
sign_of (pos n) = []
sign_of (negsuc n) = codes "-"

-- µm as millimetres with three decimals
abbrev pub millimetres_of : ℤ → Bytes
millimetres_of microns = sign_of microns ++ thousandths_of (unsigned_abs microns)
