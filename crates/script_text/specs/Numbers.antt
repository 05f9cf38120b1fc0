-- The numbers of a script.
use Rattle.std.specs.Prelude.{ℕ, List, ◌-◌, ◌^◌, ◌<◌, ◌==◌, if◌then◌else◌}
use Rattle.std.specs.Str.Parse.{IsNumeral, digits_value}

-- A word is a number where it has decimal digits alone, at least one, and its value fits 64 bits.
abbrev pub IsNumber : List ℕ → Type 0
IsNumber word = IsNumeral 10 word × (digits_value 10 word < 2 ^ 64)

-- A word is the id of a port where it is a number of 128 bits.
abbrev pub IsId : List ℕ → Type 0
IsId word = IsNumeral 10 word × (digits_value 10 word < 2 ^ 128)

-- The value of a number, or of an id.
abbrev pub value_of : List ℕ → ℕ
value_of word = digits_value 10 word

-- The position, counted from 0, of the command with this number, counted from 1. The number 0 gets the greatest
-- position, which no list of commands reaches.
abbrev pub position_of : ℕ → ℕ
position_of number = if number == 0 then 2 ^ 64 - 1 else number - 1
