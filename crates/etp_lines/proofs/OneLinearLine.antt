-- The line of a linear magma says one thing, and its first word tells its kind.
use Rattle.std.proofs.Common.{◌≡◌, ℕ, ℤ, List, [], ◌∷◌, refl, sym, ap, ◌∙◌, arith, get_or, Some, codes}
use Rattle.etp_words.specs.Words.{words_of}
use Rattle.etp_words.specs.Numbers.{number_said}
use Rattle.etp_linear.specs.Magmas.{LinearMagma}
use Rattle.etp_linear.specs.declared.parts.Ring.{Ring}
use Rattle.etp_linear.specs.declared.parts.Ring.TheVariants.{Integers, Modulo}
use Rattle.etp_lines.specs.LinearLines.{integer_of, BeginsRing, SaysLinear}
use Rattle.etp_lines.specs.BodyLines.{kind_named, of_linear}

some_same : {A : Type 0} (a b : A) → Some a ≡ Some b → a ≡ b
some_same a b e = cc

int_no_mod : codes "int" ≡ codes "mod" → ⊥
int_no_mod e = absurd (omega (arith, ap (λ w. get_or w 0 0) e))

first_same : (u v : List ℕ) (m n : List (List ℕ)) → Path (List (List ℕ)) (u ∷ m) (v ∷ n) → u ≡ v
first_same u v m n e = cc

rest_same : (u v : List ℕ) (m n : List (List ℕ)) → Path (List (List ℕ)) (u ∷ m) (v ∷ n) → m ≡ n
rest_same u v m n e = cc

-- words begin with one ring, and one list of words is behind it
one_ring : (words : List (List ℕ)) (r s : Ring) (m n : List (List ℕ)) → BeginsRing words r m → BeginsRing words s n → (r ≡ s) × (m ≡ n)
one_ring words Integers Integers m n p q = (refl, rest_same _ _ m n (sym p ∙ q))
one_ring words Integers (Modulo j) m n p q = absurd (int_no_mod (first_same _ _ m (q.0 ∷ n) (sym p ∙ q.1)))
one_ring words (Modulo i) Integers m n p q = absurd (int_no_mod (first_same _ _ n (p.0 ∷ m) (sym q ∙ p.1)))
one_ring words (Modulo i) (Modulo j) m n p q =
    let e : p.0 ∷ m ≡ q.0 ∷ n = rest_same _ _ (p.0 ∷ m) (q.0 ∷ n) (sym p.1 ∙ q.1) in (
      ap Modulo (some_same i j (sym p.2 ∙ ap number_said (first_same p.0 q.0 m n e) ∙ q.2)),
      rest_same p.0 q.0 m n e,
    )

same_magma : (l m : LinearMagma) → l.ring ≡ m.ring → l.a ≡ m.a → l.b ≡ m.b → l.c ≡ m.c → l ≡ m
same_magma l m r a b c =
    ap (λ z. record { ring = z; a = l.a; b = l.b; c = l.c }) r ∙ ap (λ z. record { ring = m.ring; a = z; b = l.b; c = l.c }) a
    ∙ ap (λ z. record { ring = m.ring; a = m.a; b = z; c = l.c }) b ∙ ap (λ z. record { ring = m.ring; a = m.a; b = m.b; c = z }) c

same_integer : (v w : List ℕ) (y z : ℤ) → v ≡ w → integer_of v ≡ Some y → integer_of w ≡ Some z → y ≡ z
same_integer v w y z e p q = some_same y z (sym p ∙ ap integer_of e ∙ q)

pub one_linear_line : (line : List ℕ) (l m : LinearMagma) → SaysLinear line l → SaysLinear line m → l ≡ m
one_linear_line line l m p q =
    let more : p.more ≡ q.more = rest_same _ _ p.more q.more (sym p.words ∙ q.words) in
    let ring = one_ring p.more l.ring m.ring _ _ p.ring_said (rw more q.ring_said) in
    let a : p.a ≡ q.a = first_same p.a q.a _ _ ring.1 in
    let two : p.b ∷ p.c ∷ [] ≡ q.b ∷ q.c ∷ [] = rest_same p.a q.a _ _ ring.1 in
    let b : p.b ≡ q.b = first_same p.b q.b _ _ two in
    let one : p.c ∷ [] ≡ q.c ∷ [] = rest_same p.b q.b _ _ two in
    let c : p.c ≡ q.c = first_same p.c q.c _ _ one in
    same_magma l m ring.0 (same_integer p.a q.a l.a m.a a p.a_said q.a_said) (same_integer p.b q.b l.b m.b b p.b_said q.b_said)
    (same_integer p.c q.c l.c m.c c p.c_said q.c_said)

-- the first word of a line that says this
abbrev pub first_word : LinearMagma → List ℕ
first_word l = codes "linear"

pub begins : (line : List ℕ) (l : LinearMagma) → SaysLinear line l → (more : List (List ℕ)) × (words_of line ≡ first_word l ∷ more)
begins line l s = (s.more, s.words)

pub first_word_kind : (l : LinearMagma) → kind_named (first_word l) ≡ Some of_linear
first_word_kind l = refl
