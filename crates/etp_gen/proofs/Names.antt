-- The names of files.
use Rattle.std.proofs.Common.{◌≡◌, ℕ, ◌<◌, ◌^◌, inl, inr, List, [], ◌∷◌, drop, All, decimal, refl, ap, arith}
use Rattle.std.proofs.lemmas.Fmt.{length-decimal-le, decimal_is_IsNumeral, decimal_injective}
use Rattle.std.proofs.lemmas.List.Elements.{All-nil, All-cons}
use Rattle.std.proofs.lemmas.Str.Parse.{digit_from_value}
use Rattle.std.specs.Str.Parse.{AllDigits}
use Rattle.etp_proof.specs.Names.{IsNameByte, IsName}
use Rattle.etp_gen.specs.Scripts.{file_name}

name_bytes : (ds : List ℕ) → AllDigits 10 ds → All IsNameByte ds
name_bytes [] h = All-nil IsNameByte
name_bytes (c ∷ cs) h = let k = digit_from_value c h.0 in All-cons IsNameByte c cs (inl (inl (omega (arith, k), omega (arith, k)))) (name_bytes cs h.1)

pub is_name : (k : ℕ) → k < 2 ^ 32 → IsName (file_name k)
is_name k h =
    let short = length-decimal-le 10 k (omega arith) (omega (arith, h)) (omega (arith, h)) in
    record {
      short = omega (arith, short);
      first = (103, refl, inr (inr (omega arith, omega arith)));
      all = All-cons IsNameByte 103 (decimal k) (inl (inr (inr (omega arith, omega arith)))) (name_bytes (decimal k) (decimal_is_IsNumeral k (omega (arith, h))).0.1);
    }

pub one_name : (j k : ℕ) → j < 2 ^ 32 → k < 2 ^ 32 → file_name j ≡ file_name k → j ≡ k
one_name j k a b e =
    let behind : decimal j ≡ decimal k = ap (drop 1) e in
    decimal_injective j k (omega (arith, a)) (omega (arith, b)) behind
