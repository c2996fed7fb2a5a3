-- A text has one first refusal.
use Rattle.std.proofs.Common.{◌≡◌, ◌≢◌, ℕ, ◌+◌, Bool, true, false, ◌⊎◌, inl, inr, Option, Some, None, List, [], ◌∷◌, ◌++◌, length, refl, sym, ap, ap₂, ◌∙◌, subst, arith, append_assoc, append-nil}
use Rattle.std.proofs.lemmas.Bool.{false≢true, cond-false}
use Rattle.std.proofs.lemmas.Option.{some_pair_parts}
use Rattle.etp_theory.specs.Trees.{Equation, leaves}
use Rattle.etp_words.specs.Words.{skip_blanks}
use Rattle.etp_text.specs.Grammar.{StartsWith, Begins}
use Rattle.etp_text.specs.Refusals.{IsTooLarge, RefusesTerm, RefusesLaw, IsViable, Before, IsSyntaxAt, IsVariableAt, as_variable}
use Rattle.etp_text.specs.Machine.{token_at, text_of}
use Rattle.etp_text.specs.declared.reading.Grammar.{Grammar}
use Rattle.etp_text.specs.declared.reading.Grammar.TheVariants.{Terms, Laws}
use Rattle.etp_text.specs.declared.token.Token.{Token}
use Rattle.etp_text.specs.declared.token.Token.TheVariants.{Variable, Unknown}
use Rattle.etp_text.specs.declared.refusal.TextRefusal.{TextRefusal}
use Rattle.etp_text.specs.declared.refusal.TextRefusal.TheVariants.{Syntax, Variable as WrongVariable, TooLarge, NoMemory}
use Rattle.etp_text.proofs.Lexing.{start_kept, skipped, all_skipped, token_read, token_found, first_read}
use Rattle.etp_text.proofs.Answering.{same_term, same_law, text_not_syntax, text_not_variable, no_unknown, known_viable}

-- of two lists of tokens that bytes begin with, one goes on where the other ends
compare : (bytes : List ℕ) (ts us : List Token) (m r : List ℕ) → Begins bytes ts m → Begins bytes us r
    → ((vs : List Token) × (us ≡ ts ++ vs) × Begins m vs r) ⊎ ((vs : List Token) × (ts ≡ us ++ vs) × Begins r vs m)
compare bytes [] us m r e h = inl (us, refl, subst (λ x. Begins x us r) e h)
compare bytes (t ∷ ts) [] m r g h = inr (t ∷ ts, refl, subst (λ x. Begins x (t ∷ ts) m) h g)
compare bytes (t ∷ ts) (u ∷ us) m r g h =
    let p = some_pair_parts t u g.2 h.2 (sym (first_read bytes t ts m g) ∙ first_read bytes u us r h) in
    longer p.0 (compare h.2 ts us m r (subst (λ x. Begins x ts m) p.1 g.6) h.6)
  where
    longer : t ≡ u → ((vs : List Token) × (us ≡ ts ++ vs) × Begins m vs r) ⊎ ((vs : List Token) × (ts ≡ us ++ vs) × Begins r vs m)
        → ((vs : List Token) × (u ∷ us ≡ t ∷ (ts ++ vs)) × Begins m vs r) ⊎ ((vs : List Token) × (t ∷ ts ≡ u ∷ (us ++ vs)) × Begins r vs m)
    longer e (inl i) = inl (i.0, ap₂ (λ x xs. x ∷ xs) (sym e) i.1, i.2)
    longer e (inr i) = inr (i.0, ap₂ (λ x xs. x ∷ xs) e i.1, i.2)

-- why the text stops behind these tokens, and where: `wrong` says that a name is no variable's
data Ahead (grammar : Grammar) (size : ℕ) (ts : List Token) (behind : List ℕ) (at : ℕ) (wrong : Bool) : Type 0 where
  at_token : (t : Token) (after : List ℕ) → token_at (skip_blanks behind) ≡ Some (t, after) → (IsViable (text_of grammar) (ts ++ as_variable t ∷ []) → ⊥)
      → at + length (skip_blanks behind) ≡ size → wrong ≡ false → Ahead grammar size ts behind at wrong
  at_byte : (b : ℕ) (more : List ℕ) → skip_blanks behind ≡ b ∷ more → token_at (skip_blanks behind) ≡ None
      → at + length (skip_blanks behind) ≡ size → wrong ≡ false → Ahead grammar size ts behind at wrong
  at_end : skip_blanks behind ≡ [] → at + length behind ≡ size → wrong ≡ false → Ahead grammar size ts behind at wrong
  at_name : (after : List ℕ) → token_at (skip_blanks behind) ≡ Some (Unknown, after) → IsViable (text_of grammar) (ts ++ Variable 0 ∷ [])
      → at + length (skip_blanks behind) ≡ size → wrong ≡ true → Ahead grammar size ts behind at wrong

some_none : {X : Type 0} (t : Token) (r : List ℕ) → ◌≡◌ {A = Option (Token × List ℕ)} (Some (t, r)) None → X
some_none t r e = absurd (cc)

ends_before : {X : Type 0} (bytes : List ℕ) (t : Token) (r : List ℕ) → bytes ≡ [] → token_at bytes ≡ Some (t, r) → X
ends_before bytes t r e k = some_none t r (sym k ∙ ap token_at e)

some_byte : {X : Type 0} (b : ℕ) (more : List ℕ) → ◌≡◌ {A = List ℕ} (b ∷ more) [] → X
some_byte b more e = absurd (cc)

not_viable : {X : Type 0} (grammar : Grammar) (ts : List Token) (t : Token) → t ≡ Unknown → (IsViable (text_of grammar) (ts ++ as_variable t ∷ []) → ⊥) → IsViable (text_of grammar) (ts ++ Variable 0 ∷ []) → X
not_viable grammar ts t e n v = absurd (subst (λ (x : Token). IsViable (text_of grammar) (ts ++ as_variable x ∷ []) → ⊥) e n v)

same_place : (grammar : Grammar) (size : ℕ) (ts : List Token) (m : List ℕ) (a b : ℕ) (v w : Bool) → Ahead grammar size ts m a v → Ahead grammar size ts m b w → (a ≡ b) × (v ≡ w)
same_place grammar size ts m a b v w (at_token t r k n p e) (at_token u s l o q f) = (omega (arith, p, q), e ∙ sym f)
same_place grammar size ts m a b v w (at_token t r k n p e) (at_byte c cs h l q f) = some_none t r (sym k ∙ l)
same_place grammar size ts m a b v w (at_token t r k n p e) (at_end h q f) = ends_before (skip_blanks m) t r h k
same_place grammar size ts m a b v w (at_token t r k n p e) (at_name s l o q f) = not_viable grammar ts t (some_pair_parts t Unknown r s (sym k ∙ l)).0 n o
same_place grammar size ts m a b v w (at_byte c cs h k p e) (at_token u s l o q f) = some_none u s (sym l ∙ k)
same_place grammar size ts m a b v w (at_byte c cs h k p e) (at_byte d ds i l q f) = (omega (arith, p, q), e ∙ sym f)
same_place grammar size ts m a b v w (at_byte c cs h k p e) (at_end i q f) = some_byte c cs (sym h ∙ i)
same_place grammar size ts m a b v w (at_byte c cs h k p e) (at_name s l o q f) = some_none Unknown s (sym l ∙ k)
same_place grammar size ts m a b v w (at_end h p e) (at_token u s l o q f) = ends_before (skip_blanks m) u s h l
same_place grammar size ts m a b v w (at_end h p e) (at_byte d ds i l q f) = some_byte d ds (sym i ∙ h)
same_place grammar size ts m a b v w (at_end h p e) (at_end i q f) = (omega (arith, p, q), e ∙ sym f)
same_place grammar size ts m a b v w (at_end h p e) (at_name s l o q f) = ends_before (skip_blanks m) Unknown s h l
same_place grammar size ts m a b v w (at_name r k n p e) (at_token u s l o q f) = not_viable grammar ts u (some_pair_parts u Unknown s r (sym l ∙ k)).0 o n
same_place grammar size ts m a b v w (at_name r k n p e) (at_byte d ds i l q f) = some_none Unknown r (sym k ∙ l)
same_place grammar size ts m a b v w (at_name r k n p e) (at_end i q f) = ends_before (skip_blanks m) Unknown r i k
same_place grammar size ts m a b v w (at_name r k n p e) (at_name s l o q f) = (omega (arith, p, q), e ∙ sym f)

-- where more tokens follow that some text goes on with, the text doesn't stop
goes_further : (grammar : Grammar) (size : ℕ) (ts : List Token) (m : List ℕ) (at : ℕ) (wrong : Bool) (v : Token) (vs : List Token) (r : List ℕ)
    → Ahead grammar size ts m at wrong → Begins m (v ∷ vs) r → IsViable (text_of grammar) (ts ++ v ∷ vs) → ⊥
goes_further grammar size ts m at wrong v vs r (at_token t s k n p e) g (more, w) =
    let same = some_pair_parts t v s g.2 (sym k ∙ first_read m v vs r g) in
    let longer : text_of grammar (ts ++ v ∷ (vs ++ more)) = subst (text_of grammar) (append_assoc ts (v ∷ vs) more) w in
    subst (λ (x : Token). IsViable (text_of grammar) (ts ++ as_variable x ∷ []) → ⊥) same.0 n (known_viable grammar ts v (vs ++ more) longer)
goes_further grammar size ts m at wrong v vs r (at_byte c cs h k p e) g w = some_none v g.2 (sym (first_read m v vs r g) ∙ k)
goes_further grammar size ts m at wrong v vs r (at_end h p e) g w = ends_before (skip_blanks m) v g.2 h (first_read m v vs r g)
goes_further grammar size ts m at wrong v vs r (at_name s k n p e) g (more, w) =
    let same = some_pair_parts Unknown v s g.2 (sym k ∙ first_read m v vs r g) in
    let longer : text_of grammar (ts ++ v ∷ (vs ++ more)) = subst (text_of grammar) (append_assoc ts (v ∷ vs) more) w in
    no_unknown grammar ts (vs ++ more) (subst (λ (x : Token). text_of grammar (ts ++ x ∷ (vs ++ more))) (sym same.0) longer)

-- a place where the text stops
Stop : Grammar → List ℕ → ℕ → Bool → Type 0
Stop grammar bytes at wrong = (b : Before (text_of grammar) bytes at) × Ahead grammar (length bytes) b.tokens (b.blanks ++ b.rest) at wrong

at_start : (grammar : Grammar) (bytes : List ℕ) (at : ℕ) (b : Before (text_of grammar) bytes at) (t : Token) (after : List ℕ) → StartsWith b.rest t after
    → (skip_blanks (b.blanks ++ b.rest) ≡ b.rest) × (token_at (skip_blanks (b.blanks ++ b.rest)) ≡ Some (t, after))
at_start grammar bytes at b t after s =
    let k = token_read b.rest t after s in
    let e : skip_blanks (b.blanks ++ b.rest) ≡ b.rest = skipped b.blanks b.rest b.are_blanks ∙ start_kept b.rest t after k in
    (e, ap token_at e ∙ k)

placed : (at size : ℕ) (xs ys : List ℕ) → xs ≡ ys → at + length ys ≡ size → at + length xs ≡ size
placed at size xs ys e h = ap (λ (l : List ℕ). at + length l) e ∙ h

syntax_stops : (grammar : Grammar) (bytes : List ℕ) (at : ℕ) → IsSyntaxAt (text_of grammar) bytes at → Stop grammar bytes at false
unfolding Stop
syntax_stops grammar bytes at (inl n) =
    let i = at_start grammar bytes at n.before n.token n.after n.is_next in
    (n.before, at_token n.token n.after i.1 n.unviable (placed at (length bytes) _ n.before.rest i.0 n.before.place) refl)
syntax_stops grammar bytes at (inr (inl n)) =
    let b = n.before in
    let e : skip_blanks (b.blanks ++ b.rest) ≡ b.rest = skipped b.blanks b.rest b.are_blanks ∙ (ap skip_blanks n.is_next ∙ (cond-false _ _ _ n.no_blank ∙ sym n.is_next)) in
    (b, at_byte n.byte n.more (e ∙ n.is_next) (ap token_at e ∙ none (token_at b.rest) refl) (placed at (length bytes) _ b.rest e b.place) refl)
  where
    none : (o : Option (Token × List ℕ)) → token_at n.before.rest ≡ o → token_at n.before.rest ≡ None
    none None k = k
    none (Some p) k = absurd (n.no_token p.0 p.1 (token_found n.before.rest p.0 p.1 k))
syntax_stops grammar bytes at (inr (inr n)) =
    let b = n.before in
    let e : b.blanks ++ b.rest ≡ b.rest = ap (λ (l : List ℕ). l ++ b.rest) n.behind_token in
    (b, at_end (ap skip_blanks e ∙ all_skipped b.rest n.end) (placed at (length bytes) _ b.rest e b.place) refl)

variable_stops : (grammar : Grammar) (bytes : List ℕ) (at : ℕ) → IsVariableAt (text_of grammar) bytes at → Stop grammar bytes at true
unfolding Stop
variable_stops grammar bytes at n =
    let i = at_start grammar bytes at n.before Unknown n.after n.is_next in
    (n.before, at_name n.after i.1 n.viable (placed at (length bytes) _ n.before.rest i.0 n.before.place) refl)

one_stop : (grammar : Grammar) (bytes : List ℕ) (a b : ℕ) (v w : Bool) → Stop grammar bytes a v → Stop grammar bytes b w → (a ≡ b) × (v ≡ w)
unfolding Stop
one_stop grammar bytes a b v w s u = go (compare bytes s.0.tokens u.0.tokens (s.0.blanks ++ s.0.rest) (u.0.blanks ++ u.0.rest) s.0.tokens_begin u.0.tokens_begin)
  where
    first : (vs : List Token) → u.0.tokens ≡ s.0.tokens ++ vs → Begins (s.0.blanks ++ s.0.rest) vs (u.0.blanks ++ u.0.rest) → (a ≡ b) × (v ≡ w)
    first [] e g =
        let tokens : u.0.tokens ≡ s.0.tokens = e ∙ append-nil s.0.tokens in
        let there : Ahead grammar (length bytes) s.0.tokens (u.0.blanks ++ u.0.rest) b w = subst (λ (ts : List Token). Ahead grammar (length bytes) ts (u.0.blanks ++ u.0.rest) b w) tokens u.1 in
        same_place grammar (length bytes) s.0.tokens (s.0.blanks ++ s.0.rest) a b v w s.1 (subst (λ (m : List ℕ). Ahead grammar (length bytes) s.0.tokens m b w) (sym g) there)
    first (x ∷ xs) e g = absurd (goes_further grammar (length bytes) s.0.tokens (s.0.blanks ++ s.0.rest) a v x xs (u.0.blanks ++ u.0.rest) s.1 g (subst (IsViable (text_of grammar)) e u.0.viable))

    second : (vs : List Token) → s.0.tokens ≡ u.0.tokens ++ vs → Begins (u.0.blanks ++ u.0.rest) vs (s.0.blanks ++ s.0.rest) → (a ≡ b) × (v ≡ w)
    second [] e g =
        let tokens : u.0.tokens ≡ s.0.tokens = sym (e ∙ append-nil u.0.tokens) in
        let there : Ahead grammar (length bytes) s.0.tokens (u.0.blanks ++ u.0.rest) b w = subst (λ (ts : List Token). Ahead grammar (length bytes) ts (u.0.blanks ++ u.0.rest) b w) tokens u.1 in
        same_place grammar (length bytes) s.0.tokens (s.0.blanks ++ s.0.rest) a b v w s.1 (subst (λ (m : List ℕ). Ahead grammar (length bytes) s.0.tokens m b w) g there)
    second (x ∷ xs) e g = absurd (goes_further grammar (length bytes) u.0.tokens (u.0.blanks ++ u.0.rest) b w x xs (s.0.blanks ++ s.0.rest) u.1 g (subst (IsViable (text_of grammar)) e s.0.viable))

    go : ((vs : List Token) × (u.0.tokens ≡ s.0.tokens ++ vs) × Begins (s.0.blanks ++ s.0.rest) vs (u.0.blanks ++ u.0.rest))
        ⊎ ((vs : List Token) × (s.0.tokens ≡ u.0.tokens ++ vs) × Begins (u.0.blanks ++ u.0.rest) vs (s.0.blanks ++ s.0.rest)) → (a ≡ b) × (v ≡ w)
    go (inl i) = first i.0 i.1 i.2
    go (inr i) = second i.0 i.1 i.2

one_count : (p : Equation) (c d : ℕ) → IsTooLarge p c → IsTooLarge p d → c ≡ d
one_count p c d (inl h) (inl i) = h.1 ∙ sym i.1
one_count p c d (inl h) (inr i) = absurd (omega (arith, h.0, i.0))
one_count p c d (inr h) (inl i) = absurd (omega (arith, h.0, i.0))
one_count p c d (inr h) (inr i) = h.2 ∙ sym i.2

-- a law's text is refused in one way
pub one_law_refusal : (bytes : List ℕ) (d e : TextRefusal) → RefusesLaw bytes d → RefusesLaw bytes e → d ≢ NoMemory → e ≢ NoMemory → d ≡ e
one_law_refusal bytes (Syntax a) (Syntax b) h i n m = ap Syntax (one_stop Laws bytes a b false false (syntax_stops Laws bytes a h) (syntax_stops Laws bytes b i)).0
one_law_refusal bytes (Syntax a) (WrongVariable b) h i n m = absurd (false≢true (one_stop Laws bytes a b false true (syntax_stops Laws bytes a h) (variable_stops Laws bytes b i)).1)
one_law_refusal bytes (WrongVariable a) (Syntax b) h i n m = absurd (false≢true (one_stop Laws bytes b a false true (syntax_stops Laws bytes b i) (variable_stops Laws bytes a h)).1)
one_law_refusal bytes (WrongVariable a) (WrongVariable b) h i n m = ap WrongVariable (one_stop Laws bytes a b true true (variable_stops Laws bytes a h) (variable_stops Laws bytes b i)).0
one_law_refusal bytes (Syntax a) (TooLarge c) h (p, (ts, b, s), l) n m = absurd (text_not_syntax Laws bytes ts a b (p, s) h)
one_law_refusal bytes (TooLarge c) (Syntax a) (p, (ts, b, s), l) h n m = absurd (text_not_syntax Laws bytes ts a b (p, s) h)
one_law_refusal bytes (WrongVariable a) (TooLarge c) h (p, (ts, b, s), l) n m = absurd (text_not_variable Laws bytes ts a b (p, s) h)
one_law_refusal bytes (TooLarge c) (WrongVariable a) (p, (ts, b, s), l) h n m = absurd (text_not_variable Laws bytes ts a b (p, s) h)
one_law_refusal bytes (TooLarge c) (TooLarge d) h i n m =
    ap TooLarge (one_count h.0 c d h.2 (subst (λ (q : Equation). IsTooLarge q d) (same_law bytes i.0 h.0 i.1 h.1) i.2))
one_law_refusal bytes NoMemory e h i n m = absurd (n refl)
one_law_refusal bytes (Syntax a) NoMemory h i n m = absurd (m refl)
one_law_refusal bytes (WrongVariable a) NoMemory h i n m = absurd (m refl)
one_law_refusal bytes (TooLarge a) NoMemory h i n m = absurd (m refl)

-- a term's text is refused in one way
pub one_term_refusal : (bytes : List ℕ) (d e : TextRefusal) → RefusesTerm bytes d → RefusesTerm bytes e → d ≢ NoMemory → e ≢ NoMemory → d ≡ e
one_term_refusal bytes (Syntax a) (Syntax b) h i n m = ap Syntax (one_stop Terms bytes a b false false (syntax_stops Terms bytes a h) (syntax_stops Terms bytes b i)).0
one_term_refusal bytes (Syntax a) (WrongVariable b) h i n m = absurd (false≢true (one_stop Terms bytes a b false true (syntax_stops Terms bytes a h) (variable_stops Terms bytes b i)).1)
one_term_refusal bytes (WrongVariable a) (Syntax b) h i n m = absurd (false≢true (one_stop Terms bytes b a false true (syntax_stops Terms bytes b i) (variable_stops Terms bytes a h)).1)
one_term_refusal bytes (WrongVariable a) (WrongVariable b) h i n m = ap WrongVariable (one_stop Terms bytes a b true true (variable_stops Terms bytes a h) (variable_stops Terms bytes b i)).0
one_term_refusal bytes (Syntax a) (TooLarge c) h (t, (ts, b, s), l, f) n m = absurd (text_not_syntax Terms bytes ts a b (t, s) h)
one_term_refusal bytes (TooLarge c) (Syntax a) (t, (ts, b, s), l, f) h n m = absurd (text_not_syntax Terms bytes ts a b (t, s) h)
one_term_refusal bytes (WrongVariable a) (TooLarge c) h (t, (ts, b, s), l, f) n m = absurd (text_not_variable Terms bytes ts a b (t, s) h)
one_term_refusal bytes (TooLarge c) (WrongVariable a) (t, (ts, b, s), l, f) h n m = absurd (text_not_variable Terms bytes ts a b (t, s) h)
one_term_refusal bytes (TooLarge c) (TooLarge d) h i n m =
    ap TooLarge (h.3 ∙ (ap leaves (same_term bytes h.0 i.0 h.1 i.1) ∙ sym i.3))
one_term_refusal bytes NoMemory e h i n m = absurd (n refl)
one_term_refusal bytes (Syntax a) NoMemory h i n m = absurd (m refl)
one_term_refusal bytes (WrongVariable a) NoMemory h i n m = absurd (m refl)
one_term_refusal bytes (TooLarge a) NoMemory h i n m = absurd (m refl)
