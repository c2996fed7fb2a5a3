-- A line of a finite proof says one thing, and a blank line nothing.
use Rattle.std.proofs.Common.{◌≡◌, ℕ, suc, ◌≤◌, true, false, List, ◌∷◌, codes, refl, sym, ap, ◌∙◌, arith}
use Rattle.std.proofs.lemmas.Option.{same_Some}
use Rattle.etp_theory.specs.Trees.{Tree, var, op}
use Rattle.etp_words.specs.Words.{behind_word, are_blank, IsBlankLine}
use Rattle.etp_words.specs.Numbers.{number_said}
use Rattle.etp_reading.specs.Grammars.{OneLine}
use Rattle.etp_text.proofs.Writing.{written_term_spells}
use Rattle.etp_lines.specs.Sides.{SpellsSide}
use Rattle.etp_lines.specs.BodyLines as Bodies
use Rattle.etp_lines.specs.BodyLines.{Line}
use Rattle.etp_lines.proofs.OneProofLine.{one_side}
use Rattle.etp_lines.proofs.OneLine as Others
use Rattle.etp_lines.proofs.OneLine.{none_named}
use Rattle.etp_items.proofs.Writable.{term_named}
use Rattle.etp_cancel.specs.Cancelling.{Cancel}
use Rattle.etp_finite_lines.specs.CancelLines.{NamesVariable, SaysCancel}
use Rattle.etp_finite_lines.specs.FiniteLines.{FiniteLine, body, cancel, Says, finite_proofs}
use Rattle.etp_finite_lines.proofs.PartedLemmas.{one_parting}

-- a variable's name spells it
pub name_spells : (word : List ℕ) (v : ℕ) → NamesVariable word v → SpellsSide word (var v)
name_spells word v n = record { spelled = rw n.named (written_term_spells (var v) (omega (arith, n.small))); small = omega arith }

same_variable : (u v : ℕ) → var u ≡ var v → u ≡ v
same_variable u v e = cc

-- and no other term
pub one_variable : (word : List ℕ) (u v : ℕ) → SpellsSide word (var u) → NamesVariable word v → u ≡ v
one_variable word u v s n = same_variable u v (one_side word (var u) (var v) s (name_spells word v n))

pub no_name : (word : List ℕ) (s t : Tree) → SpellsSide word (op s t) → (v : ℕ) → NamesVariable word v → ⊥
no_name word s t h v n = let e : op s t ≡ var v = one_side word (op s t) (var v) h (name_spells word v n) in cc

pub spelled_small : (word : List ℕ) (v : ℕ) → SpellsSide word (var v) → suc v ≤ 64
spelled_small word v s = term_named word (var v) s.spelled

same_cancel : (c d : Cancel) → c.line ≡ d.line → c.variable ≡ d.variable → c.outer ≡ d.outer → c.inner ≡ d.inner → c ≡ d
same_cancel c d e f g h =
    ap (λ z. record { line = z; variable = c.variable; outer = c.outer; inner = c.inner }) e
    ∙ ap (λ z. record { line = d.line; variable = z; outer = c.outer; inner = c.inner }) f
    ∙ ap (λ (z : Tree). record { line = d.line; variable = d.variable; outer = z; inner = c.inner }) g
    ∙ ap (λ (z : Tree). record { line = d.line; variable = d.variable; outer = d.outer; inner = z }) h

one_cancel : (line : List ℕ) (c d : Cancel) → SaysCancel line c → SaysCancel line d → c ≡ d
one_cancel line c d s t =
    let words : (codes "cancel" ∷ s.reference ∷ s.name ∷ s.more) ≡ (codes "cancel" ∷ t.reference ∷ t.name ∷ t.more) = sym s.words ∙ t.words in
    let r : s.reference ≡ t.reference = cc in
    let n : s.name ≡ t.name = cc in
    let parts = one_parting (behind_word (behind_word (behind_word line))) s.outer s.inner t.outer t.inner s.parted t.parted in
    same_cancel c d
    (same_Some c.line d.line (sym s.by ∙ ap number_said r ∙ t.by))
    (one_variable t.name c.variable d.variable (rw n at (name_spells s.name c.variable s.variable)) t.variable)
    (one_side t.outer c.outer d.outer (rw parts.0 at s.outer_spelled) t.outer_spelled)
    (one_side t.inner c.inner d.inner (rw parts.1 at s.inner_spelled) t.inner_spelled)

-- a line that cancels says nothing else
pub cancel_alone : (line : List ℕ) (said : Line) (c : Cancel) → Bodies.Says line said → SaysCancel line c → ⊥
cancel_alone line said c s t = none_named line (codes "cancel") (t.reference ∷ t.name ∷ t.more) t.words refl said s

one_line : (line : List ℕ) (l m : FiniteLine) → Says line l → Says line m → l ≡ m
one_line line (body l) (body m) s t = ap body (Others.one_line line l m s t)
one_line line (body l) (cancel c) s t = absurd (cancel_alone line l c s t)
one_line line (cancel c) (body m) s t = absurd (cancel_alone line m c t s)
one_line line (cancel c) (cancel d) s t = ap cancel (one_cancel line c d s t)

false_true : false ≡ true → ⊥
false_true e = cc

blank_line : (line : List ℕ) (l : FiniteLine) → IsBlankLine line → Says line l → ⊥
blank_line line (body l) b s = Others.blank_line line l b s
blank_line line (cancel c) b s = false_true (sym (ap are_blank s.words) ∙ b)

pub one : OneLine finite_proofs
one = record { one_line = one_line; blank_line = blank_line }

-- a line that says nothing of a body and doesn't cancel says nothing
pub none_said : (line : List ℕ) → ((said : Line) → Bodies.Says line said → ⊥) → ((c : Cancel) → SaysCancel line c → ⊥) → (l : FiniteLine) → Says line l → ⊥
none_said line h k (body said) s = h said s
none_said line h k (cancel c) s = k c s
