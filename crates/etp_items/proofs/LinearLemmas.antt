-- The line of a linear magma as it is written.
use Rattle.std.proofs.Common.{◌≡◌, ℕ, zero, suc, ◌<◌, ◌≤◌, ◌^◌, arith, Bool, true, false, nat_le, nat_eq, ℤ, pos, negsuc, neg_ℤ, unsigned_abs, List, [], ◌∷◌, ◌++◌, length, codes, decimal, refl, sym, ap, ◌∙◌, Option, Some, None, append_assoc, length-append, OnOk, Result, Ok, Err}
use Rattle.std.specs.List.{list_all}
use Rattle.std.specs.Option.{option_map}
use Rattle.std.specs.Fmt.{signed_decimal}
use Rattle.std.proofs.lemmas.Bool.{leb-true, ne_eqb}
use Rattle.std.proofs.lemmas.Fmt.{length-decimal-le}
use Rattle.etp_words.specs.Words.{words_of}
use Rattle.etp_words.specs.Numbers.{is_digit, number_said}
use Rattle.etp_linear.specs.Magmas.{LinearMagma}
use Rattle.etp_linear.specs.declared.parts.Ring.{Ring}
use Rattle.etp_linear.specs.declared.parts.Ring.TheVariants.{Integers, Modulo}
use Rattle.etp_lines.specs.LinearLines.{integer_of, BeginsRing, SaysLinear}
use Rattle.etp_items.specs.Bodies.{linear}
use Rattle.etp_items.specs.Written.{spaced, ring_words, written_linear, model_text, IsWritableLinear}
use Rattle.etp_items.proofs.ReadBack.{both, joined, is_text, graph_text, IsWord, words_front, words_last, decimal_digits, decimal_number, decimal_word}
use Rattle.etp_items.proofs.NumbersFit.{number_fits}

-- the words of the ring, and those behind them
ring_front : (ring : Ring) (w : List ℕ) (ws : List (List ℕ)) → spaced (codes "linear" ∷ (ring_words ring ++ w ∷ ws)) ≡ spaced (codes "linear" ∷ ring_words ring) ++ 32 ∷ spaced (w ∷ ws)
ring_front Integers w ws = refl
ring_front (Modulo m) w ws = refl

-- pieces that are appended one after another
joined_last : (s t u p q : List ℕ) → t ≡ s ++ p → u ≡ t ++ q → u ≡ s ++ (p ++ q)
joined_last s t u p q e f = f ∙ ap (λ z. z ++ q) e ∙ append_assoc s p q

pub linear_written : {T E : Type 0} (r : Result T E) (l : LinearMagma) (s t u v w x : List ℕ) → t ≡ s ++ spaced (codes "linear" ∷ ring_words l.ring)
    → u ≡ t ++ 32 ∷ signed_decimal l.a → v ≡ u ++ 32 ∷ signed_decimal l.b → w ≡ v ++ 32 ∷ signed_decimal l.c → OnOk r (x ≡ w ++ 10 ∷ [])
    → OnOk r (x ≡ s ++ model_text (linear l))
linear_written (Err e) l s t u v w x h a b c n = tt
linear_written (Ok k) l s t u v w x h a b c n =
    let front = spaced (codes "linear" ∷ ring_words l.ring) in
    let i = 32 ∷ signed_decimal l.a in
    let j = 32 ∷ signed_decimal l.b in
    let m = 32 ∷ signed_decimal l.c in
    let whole : w ≡ s ++ (((front ++ i) ++ j) ++ m) = joined_last s v w ((front ++ i) ++ j) m (joined_last s u v (front ++ i) j (joined_last s t u front i h a) b) c in
    let behind : ((front ++ i) ++ j) ++ m ≡ written_linear l =
    append_assoc (front ++ i) j m ∙ append_assoc front i (j ++ m) ∙ sym (ring_front l.ring (signed_decimal l.a) (signed_decimal l.b ∷ signed_decimal l.c ∷ [])) in
    joined_last s w x (written_linear l) (10 ∷ []) (whole ∙ ap (λ z. s ++ z) behind) n

no_minus : (w : List ℕ) (b : ℕ) (bytes : List ℕ) → w ≡ b ∷ bytes → list_all is_digit w ≡ true → nat_eq b 45 ≡ false
no_minus w b bytes e h =
    let d : list_all is_digit (b ∷ bytes) ≡ true = sym (ap (list_all is_digit) e) ∙ h in
    let k : 48 ≤ b = leb-true 48 b (both (nat_le 48 b) (nat_le b 57) (both (is_digit b) (list_all is_digit bytes) d).0).0 in
    ne_eqb b 45 (λ f. omega arith)

plain_integer : (w : List ℕ) (n : ℕ) → list_all is_digit w ≡ true → number_said w ≡ Some n → integer_of w ≡ Some (pos n)
plain_integer [] n d e = absurd (cc)
plain_integer (b ∷ bytes) n d e =
    let c : nat_eq b 45 ≡ false = no_minus (b ∷ bytes) b bytes refl d in
    rw c (ap (option_map pos) e)

integer_said : (z : ℤ) → unsigned_abs z < 2 ^ 32 → integer_of (signed_decimal z) ≡ Some z
integer_said (pos n) h = plain_integer (decimal n) n (decimal_digits n h) (decimal_number n h)
integer_said (negsuc n) h = ap (option_map (λ m. neg_ℤ (pos m))) (decimal_number (suc n) h)

integer_is_word : (z : ℤ) → unsigned_abs z < 2 ^ 32 → IsWord (signed_decimal z)
integer_is_word (pos n) h = decimal_word n h
integer_is_word (negsuc n) h = record { some = omega arith; graph = (decimal_word (suc n) h).graph }

integer_length : (z : ℤ) → unsigned_abs z < 2 ^ 32 → length (signed_decimal z) ≤ 11
integer_length (pos n) h = let k : length (decimal n) ≤ 10 = length-decimal-le 10 n (omega arith) (omega (arith, h)) (omega (arith, h)) in omega arith
integer_length (negsuc n) h = let k : length (decimal (suc n)) ≤ 10 = length-decimal-le 10 (suc n) (omega arith) (omega (arith, h)) (omega (arith, h)) in omega arith

-- words, written with spaces, are read back
abbrev pub AreWords : List (List ℕ) → Type 0
AreWords [] = Unit {0}
AreWords (w ∷ ws) = IsWord w × AreWords ws

words_back : (ws : List (List ℕ)) → AreWords ws → words_of (spaced ws) ≡ ws
words_back [] h = refl
words_back (w ∷ []) h = words_last w h.0
words_back (w ∷ v ∷ ws) h = words_front w (spaced (v ∷ ws)) h.0 ∙ ap (λ z. w ∷ z) (words_back (v ∷ ws) h.1)

words_text : (ws : List (List ℕ)) → AreWords ws → list_all is_text (spaced ws) ≡ true
words_text [] h = refl
words_text (w ∷ []) h = graph_text w h.0.graph
words_text (w ∷ v ∷ ws) h = joined is_text w (32 ∷ spaced (v ∷ ws)) (graph_text w h.0.graph) (words_text (v ∷ ws) h.1)

linear_word : IsWord (codes "linear")
linear_word = record { some = omega arith; graph = refl }

int_word : IsWord (codes "int")
int_word = record { some = omega arith; graph = refl }

mod_word : IsWord (codes "mod")
mod_word = record { some = omega arith; graph = refl }

-- the modulus can be written
abbrev pub HasSmallModulus : Ring → Type 0
HasSmallModulus ring = (m : ℕ) → ring ≡ Modulo m → m < 2 ^ 32

line_words : (ring : Ring) (ws : List (List ℕ)) → HasSmallModulus ring → AreWords ws → AreWords (codes "linear" ∷ (ring_words ring ++ ws))
line_words Integers ws small h = (linear_word, (int_word, h))
line_words (Modulo m) ws small h = (linear_word, (mod_word, (decimal_word m (small m refl), h)))

ring_back : (ring : Ring) (ws : List (List ℕ)) → HasSmallModulus ring → BeginsRing (ring_words ring ++ ws) ring ws
ring_back Integers ws small = refl
ring_back (Modulo m) ws small = (decimal m, refl, decimal_number m (small m refl))

coefficient_words : (l : LinearMagma) → IsWritableLinear l → AreWords (signed_decimal l.a ∷ signed_decimal l.b ∷ signed_decimal l.c ∷ [])
coefficient_words l h = (integer_is_word l.a h.a_small, (integer_is_word l.b h.b_small, (integer_is_word l.c h.c_small, tt)))

pub linear_back : (l : LinearMagma) → IsWritableLinear l → SaysLinear (written_linear l) l
linear_back l h =
    let ws = signed_decimal l.a ∷ signed_decimal l.b ∷ signed_decimal l.c ∷ [] in
    record {
      more = ring_words l.ring ++ ws;
      a = signed_decimal l.a;
      b = signed_decimal l.b;
      c = signed_decimal l.c;
      words = words_back (codes "linear" ∷ (ring_words l.ring ++ ws)) (line_words l.ring ws h.modulus (coefficient_words l h));
      ring_said = ring_back l.ring ws h.modulus;
      a_said = integer_said l.a h.a_small;
      b_said = integer_said l.b h.b_small;
      c_said = integer_said l.c h.c_small;
    }

front_length : (ring : Ring) → HasSmallModulus ring → length (spaced (codes "linear" ∷ ring_words ring)) ≤ 21
front_length Integers small = omega arith
front_length (Modulo m) small =
    let h = small m refl in
    let k : length (decimal m) ≤ 10 = length-decimal-le 10 m (omega arith) (omega (arith, h)) (omega (arith, h)) in
    omega arith

three_length : (a b c : List ℕ) → length a ≤ 11 → length b ≤ 11 → length c ≤ 11 → length (spaced (a ∷ b ∷ c ∷ [])) ≤ 35
three_length a b c h k m = omega (arith, length-append a (32 ∷ (b ++ 32 ∷ c)), length-append b (32 ∷ c))

-- the line is short plain text
pub linear_text : (l : LinearMagma) → IsWritableLinear l → (list_all is_text (written_linear l) ≡ true) × (length (written_linear l) ≤ 4096)
linear_text l h =
    let a = signed_decimal l.a in
    let b = signed_decimal l.b in
    let c = signed_decimal l.c in
    let front = spaced (codes "linear" ∷ ring_words l.ring) in
    let coefficients = spaced (a ∷ b ∷ c ∷ []) in
    let long = ap length (ring_front l.ring a (b ∷ c ∷ [])) ∙ length-append front (32 ∷ coefficients) in (
      words_text (codes "linear" ∷ (ring_words l.ring ++ a ∷ b ∷ c ∷ [])) (line_words l.ring (a ∷ b ∷ c ∷ []) h.modulus (coefficient_words l h)),
      omega (
        arith,
        long,
        front_length l.ring h.modulus,
        three_length a b c (integer_length l.a h.a_small) (integer_length l.b h.b_small) (integer_length l.c h.c_small),
      ),
    )

-- what the line says can be written
signed_fits : (minus : Bool) (b : ℕ) (bytes : List ℕ) (z : ℤ) → nat_eq b 45 ≡ minus → integer_of (b ∷ bytes) ≡ Some z → unsigned_abs z < 2 ^ 32
signed_fits true b bytes z m e = negative_fits (number_said bytes) refl (sym (rw m refl) ∙ e)
  where
    negative_fits : (o : Option ℕ) → number_said bytes ≡ o → option_map (λ n. neg_ℤ (pos n)) o ≡ Some z → unsigned_abs z < 2 ^ 32
    negative_fits None k f = absurd (cc)
    negative_fits (Some n) k f = let same : neg_ℤ (pos n) ≡ z = cc in rw (sym same) (negated n (number_fits bytes n k))
      where
        negated : (n : ℕ) → n < 2 ^ 32 → unsigned_abs (neg_ℤ (pos n)) < 2 ^ 32
        negated zero h = omega arith
        negated (suc n) h = h
signed_fits false b bytes z m e = plain_fits (number_said (b ∷ bytes)) refl (sym (rw m refl) ∙ e)
  where
    plain_fits : (o : Option ℕ) → number_said (b ∷ bytes) ≡ o → option_map pos o ≡ Some z → unsigned_abs z < 2 ^ 32
    plain_fits None k f = absurd (cc)
    plain_fits (Some n) k f = let same : pos n ≡ z = cc in rw (sym same) (number_fits (b ∷ bytes) n k)

integer_fits : (w : List ℕ) (z : ℤ) → integer_of w ≡ Some z → unsigned_abs z < 2 ^ 32
integer_fits [] z e = absurd (cc)
integer_fits (b ∷ bytes) z e = signed_fits (nat_eq b 45) b bytes z refl e

ring_fits : (words : List (List ℕ)) (ring : Ring) (behind : List (List ℕ)) → BeginsRing words ring behind → HasSmallModulus ring
ring_fits words Integers behind h m e = absurd (cc)
ring_fits words (Modulo n) behind h m e = let same : n ≡ m = cc in rw (sym same) (number_fits h.0 n h.2)

pub linear_writable : (line : List ℕ) (l : LinearMagma) → SaysLinear line l → IsWritableLinear l
linear_writable line l s = record {
  modulus = ring_fits s.more l.ring _ s.ring_said;
  a_small = integer_fits s.a l.a s.a_said;
  b_small = integer_fits s.b l.b s.b_said;
  c_small = integer_fits s.c l.c s.c_said;
}
