-- Numbers as words.
use Rattle.std.specs.Prelude.{ℕ, ◌+◌, ◌-◌, ◌*◌, List, [], ◌∷◌, Bool, ◌&&◌, nat_le, length, if◌then◌else◌, None, Some}
use Rattle.std.specs.declared.option.Option.{Option}
use Rattle.std.specs.List.{list_all}

-- a byte from `0` to `9`
abbrev pub is_digit : ℕ → Bool
is_digit b = nat_le 48 b && nat_le b 57

-- the value of digits that follow the digits of `high`
abbrev pub value_after : ℕ → List ℕ → ℕ
value_after high [] = high
value_after high (d ∷ digits) = value_after (high * 10 + (d - 48)) digits

-- one to ten decimal digits, with a value below 2^32
abbrev pub is_number : List ℕ → Bool
is_number word =
    list_all is_digit word && nat_le 1 (length word) && nat_le (length word) 10
    && nat_le (value_after 0 word) 4294967295

-- the number that the word is
abbrev pub number_said : List ℕ → Option ℕ
number_said word = if is_number word then Some (value_after 0 word) else None
