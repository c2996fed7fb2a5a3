-- A number as a word is below 2^32.
use Rattle.std.proofs.Common.{◌≡◌, ℕ, ◌<◌, ◌≤◌, ◌^◌, arith, Bool, true, false, cond, ◌&&◌, nat_le, List, length, refl, sym, Some, None}
use Rattle.std.specs.List.{list_all}
use Rattle.std.proofs.lemmas.Bool.{leb-true}
use Rattle.etp_words.specs.Numbers.{is_digit, value_after, is_number, number_said}
use Rattle.etp_items.proofs.ReadBack.{both}

number_small : (is : Bool) (w : List ℕ) (n : ℕ) → is ≡ is_number w → cond is (Some (value_after 0 w)) None ≡ Some n → n < 2 ^ 32
number_small false w n e f = absurd (cc)
number_small true w n e f =
    let all = list_all is_digit w && nat_le 1 (length w) && nat_le (length w) 10 in
    let k : value_after 0 w ≤ 4294967295 = leb-true (value_after 0 w) 4294967295 (both all (nat_le (value_after 0 w) 4294967295) (sym e)).1 in
    let same : value_after 0 w ≡ n = cc in
    omega arith

pub number_fits : (w : List ℕ) (n : ℕ) → number_said w ≡ Some n → n < 2 ^ 32
number_fits w n e = number_small (is_number w) w n refl e
