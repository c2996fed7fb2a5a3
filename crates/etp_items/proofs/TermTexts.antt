-- A written term is plain text without a dash, and is read again.
use Rattle.std.proofs.Common.{◌≡◌, ℕ, ◌<◌, ◌≤◌, arith, Bool, true, false, not, ◌||◌, ◌&&◌, nat_le, nat_eq, List, [], ◌∷◌, ◌++◌, codes, refl, ap, ◌∙◌, inl, inr, append_assoc}
use Rattle.std.specs.List.{list_all, AllByRecursion}
use Rattle.std.specs.Char.{is_ascii_alphabetic, is_ascii_alphanumeric}
use Rattle.std.specs.Int.{is_in_range}
use Rattle.std.proofs.lemmas.Bool.{le-leb, leb-true, ne_eqb}
use Rattle.etp_theory.specs.Trees.{Tree, var, op, bound, leaves}
use Rattle.etp_text.specs.Written.{sign, variable_name, written_part, written_term}
use Rattle.etp_text.specs.Grammar as Grammar
use Rattle.etp_text.specs.Grammar.{AreBlanks, IsIdentifier, IsIdentifierOver, Begins, IsAtom, IsSide, variable, enclosed, alone, SpellsTerm}
use Rattle.etp_text.specs.Refusals.{side_limit}
use Rattle.etp_text.proofs.Lexing.{begins_append}
use Rattle.etp_text.proofs.Names.{variable_is_name}
use Rattle.etp_text.proofs.Writing.{written_term_spells}
use Rattle.etp_lines.specs.Sides.{SpellsSide}
use Rattle.etp_items.proofs.ReadBack.{both, either, together, weaker, joined, is_text}

-- any byte but a dash
abbrev pub is_undashed : ℕ → Bool
is_undashed b = not (nat_eq b 45)

-- a byte of a written term: of a letter, a digit, a sign or a space
abbrev pub is_plain : ℕ → Bool
is_plain b = is_text b && is_undashed b

plain_byte : (b n : ℕ) → 46 ≤ n → n ≤ b → is_plain b ≡ true
plain_byte b n h k =
    let other : nat_eq b 45 ≡ false = ne_eqb b 45 (λ e. omega arith) in
    together (is_text b) (is_undashed b) (le-leb 32 b (omega arith)) (rw other refl)

range_plain : (low high b : ℕ) → 46 ≤ low → is_in_range low high b ≡ true → is_plain b ≡ true
range_plain low high b h r = plain_byte b low h (leb-true low b (both (nat_le low b) (nat_le b high) r).0)

alphabetic_plain : (b : ℕ) → is_ascii_alphabetic b ≡ true → is_plain b ≡ true
alphabetic_plain b h =
    elim (either (is_in_range 65 90 b) (is_in_range 97 122 b) h) [ inl r ↦ range_plain 65 90 b (omega arith) r | inr r ↦ range_plain 97 122 b (omega arith) r ]

alphanumeric_plain : (b : ℕ) → is_ascii_alphanumeric b ≡ true → is_plain b ≡ true
alphanumeric_plain b h =
    elim (either (is_in_range 48 57 b || is_in_range 65 90 b) (is_in_range 97 122 b) h) [
      | inl s ↦ elim (either (is_in_range 48 57 b) (is_in_range 65 90 b) s) [ inl r ↦ range_plain 48 57 b (omega arith) r | inr r ↦ range_plain 65 90 b (omega arith) r ]
      | inr r ↦ range_plain 97 122 b (omega arith) r
    ]

letters_plain : (w : List ℕ) → AllByRecursion (λ b. is_ascii_alphanumeric b ≡ true) w → list_all is_plain w ≡ true
letters_plain [] h = refl
letters_plain (b ∷ w) h = together (is_plain b) (list_all is_plain w) (alphanumeric_plain b h.0) (letters_plain w h.1)

word_plain : (w : List ℕ) → IsIdentifier w → list_all is_plain w ≡ true
word_plain [] h = absurd h
word_plain (b ∷ w) h = together (is_plain b) (list_all is_plain w) (alphabetic_plain b h.0) (letters_plain w h.1)

variable_plain : (v : ℕ) → v < 64 → list_all is_plain (variable_name v) ≡ true
variable_plain v h = word_plain (variable_name v) (variable_is_name v h)

part_plain : (t : Tree) → bound t ≤ 64 → list_all is_plain (written_part t) ≡ true
part_plain (var v) h = variable_plain v (omega arith)
part_plain (op l r) h =
    let a = part_plain l (omega arith) in
    let b = part_plain r (omega arith) in
    joined is_plain (((codes "(" ++ written_part l) ++ sign) ++ written_part r) (codes ")")
    (joined is_plain ((codes "(" ++ written_part l) ++ sign) (written_part r) (joined is_plain (codes "(" ++ written_part l) sign a refl) b) refl

term_plain : (t : Tree) → bound t ≤ 64 → list_all is_plain (written_term t) ≡ true
term_plain (var v) h = variable_plain v (omega arith)
term_plain (op l r) h =
    joined is_plain (written_part l ++ sign) (written_part r) (joined is_plain (written_part l) sign (part_plain l (omega arith)) refl) (part_plain r (omega arith))

-- so it is plain text
pub term_text : (t : Tree) → bound t ≤ 64 → list_all is_text (written_term t) ≡ true
term_text t h = weaker is_plain is_text (λ b k. (both (is_text b) (is_undashed b) k).0) (written_term t) (term_plain t h)

-- and has no dash
pub term_undashed : (t : Tree) → bound t ≤ 64 → list_all is_undashed (written_term t) ≡ true
term_undashed t h = weaker is_plain is_undashed (λ b k. (both (is_text b) (is_undashed b) k).1) (written_term t) (term_plain t h)

-- a space before a term's text changes nothing
spells_behind : (text : List ℕ) (t : Tree) → SpellsTerm text t → SpellsTerm (32 ∷ text) t
spells_behind text t ([], (rest, begins, blanks), side) = ([], (32 ∷ rest, ap (λ z. 32 ∷ z) begins, (refl, blanks)), side)
spells_behind text t (token ∷ tokens, (rest, (gap, start, next, are, cut, starts, more), blanks), side) =
    (token ∷ tokens, (rest, (32 ∷ gap, start, next, (refl, are), ap (λ z. 32 ∷ z) cut, starts, more), blanks), side)

pub written_side : (t : Tree) → bound t ≤ 64 → leaves t ≤ side_limit → SpellsSide (32 ∷ written_term t) t
written_side t named few = record { spelled = spells_behind (written_term t) t (written_term_spells t named); small = few }

-- nor does one behind it
over_ahead : (rest : List ℕ) → IsIdentifierOver rest → IsIdentifierOver (rest ++ 32 ∷ [])
over_ahead [] h = refl
over_ahead (b ∷ bytes) h = h

pub begins_split : (bytes : List ℕ) (ts us : List _) (rest : List ℕ) → Begins bytes (ts ++ us) rest → (middle : List ℕ) × Begins bytes ts middle × Begins middle us rest
begins_split bytes [] us rest h = (bytes, refl, h)
begins_split bytes (t ∷ ts) us rest (blanks, start, next, a, e, s, more) =
    let on = begins_split next ts us rest more in
    (on.0, (blanks, start, next, a, e, s, on.1), on.2)

mutual
  atom_ahead : (ts : List _) (t : Tree) → IsAtom ts t → (bytes rest : List ℕ) → Begins bytes ts rest → Begins (bytes ++ 32 ∷ []) ts (rest ++ 32 ∷ [])
  atom_ahead _ _ (variable v) bytes rest (gap, start, next, are, cut, s, more) = (
    gap,
    start ++ 32 ∷ [],
    next ++ 32 ∷ [],
    are,
    ap (λ z. z ++ 32 ∷ []) cut ∙ append_assoc gap start (32 ∷ []),
    record { word = s.word; is_token = s.is_token; ends = over_ahead next s.ends; whole = ap (λ z. z ++ 32 ∷ []) s.whole ∙ append_assoc s.word next (32 ∷ []) },
    ap (λ z. z ++ 32 ∷ []) more,
  )
  atom_ahead _ _ (enclosed ts t side) bytes rest (gap, start, next, are, cut, s, more) =
      let c = begins_split next ts _ rest more in (
        gap,
        start ++ 32 ∷ [],
        next ++ 32 ∷ [],
        are,
        ap (λ z. z ++ 32 ∷ []) cut ∙ append_assoc gap start (32 ∷ []),
        record { word = s.word; is_token = s.is_token; ends = tt; whole = ap (λ z. z ++ 32 ∷ []) s.whole ∙ append_assoc s.word next (32 ∷ []) },
        begins_append (next ++ 32 ∷ []) ts _ (c.0 ++ 32 ∷ []) (rest ++ 32 ∷ []) (side_ahead ts t side next c.0 c.1) (
          c.2.0,
          c.2.1 ++ 32 ∷ [],
          c.2.2 ++ 32 ∷ [],
          c.2.3,
          ap (λ z. z ++ 32 ∷ []) c.2.4 ∙ append_assoc c.2.0 c.2.1 (32 ∷ []),
          record { word = c.2.5.word; is_token = c.2.5.is_token; ends = tt; whole = ap (λ z. z ++ 32 ∷ []) c.2.5.whole ∙ append_assoc c.2.5.word c.2.2 (32 ∷ []) },
          ap (λ z. z ++ 32 ∷ []) c.2.6,
        ),
      )

  side_ahead : (ts : List _) (t : Tree) → IsSide ts t → (bytes rest : List ℕ) → Begins bytes ts rest → Begins (bytes ++ 32 ∷ []) ts (rest ++ 32 ∷ [])
  side_ahead _ _ (alone ts t a) bytes rest h = atom_ahead ts t a bytes rest h
  side_ahead _ _ (Grammar.joined ls l rs r a b) bytes rest h =
      let c = begins_split bytes ls _ rest h in
      begins_append (bytes ++ 32 ∷ []) ls _ (c.0 ++ 32 ∷ []) (rest ++ 32 ∷ []) (atom_ahead ls l a bytes c.0 c.1) (
        c.2.0,
        c.2.1 ++ 32 ∷ [],
        c.2.2 ++ 32 ∷ [],
        c.2.3,
        ap (λ z. z ++ 32 ∷ []) c.2.4 ∙ append_assoc c.2.0 c.2.1 (32 ∷ []),
        record { word = c.2.5.word; is_token = c.2.5.is_token; ends = tt; whole = ap (λ z. z ++ 32 ∷ []) c.2.5.whole ∙ append_assoc c.2.5.word c.2.2 (32 ∷ []) },
        atom_ahead rs r b c.2.2 rest c.2.6,
      )

blanks_ahead : (bytes : List ℕ) → AreBlanks bytes → AreBlanks (bytes ++ 32 ∷ [])
blanks_ahead [] h = (refl, tt)
blanks_ahead (b ∷ bytes) h = (h.0, blanks_ahead bytes h.1)

pub spells_ahead : (text : List ℕ) (t : Tree) → SpellsTerm text t → SpellsTerm (text ++ 32 ∷ []) t
spells_ahead text t (tokens, (rest, begins, blanks), side) = (tokens, (rest ++ 32 ∷ [], side_ahead tokens t side text rest begins, blanks_ahead rest blanks), side)
