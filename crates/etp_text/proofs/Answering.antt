-- What the reader answers is what the grammar says of the text.
use Rattle.std.proofs.Common.{◌≡◌, ℕ, ◌+◌, ◌<◌, ◌≤◌, false, Err, ◌⊎◌, inl, inr, Option, Some, None, IsSome, option_and_then, List, [], ◌∷◌, ◌++◌, length, refl, sym, ap, ap₂, ◌∙◌, subst, arith, append_assoc, append-nil, length-append}
use Rattle.std.proofs.lemmas.Bool.{cond-false}
use Rattle.std.proofs.lemmas.Option.{none-some, same_Some, some_pair_parts}
use Rattle.etp_theory.specs.Trees.{Tree, Equation, leaves}
use Rattle.etp_words.specs.Words.{is_blank, skip_blanks}
use Rattle.etp_text.specs.Grammar.{AreBlanks, StartsWith, Begins, AreTokens, IsAtom, IsSide, IsEquation, variable, enclosed, alone, joined, SpellsTerm, SpellsLaw}
use Rattle.etp_text.specs.Refusals.{side_limit, RefusesTerm, RefusesLaw, IsTermText, IsLawText, IsViable, Before, IsSyntaxAt, IsVariableAt, as_variable}
use Rattle.etp_text.specs.Machine.{token_at, Takes, RefusesText, Stand, State, start, step, run, text_of, side_in, HasRead, HasReadAll}
use Rattle.etp_text.specs.declared.reading.Grammar.{Grammar}
use Rattle.etp_text.specs.declared.reading.Grammar.TheVariants.{Terms, Laws}
use Rattle.etp_text.specs.declared.token.Token.{Token}
use Rattle.etp_text.specs.declared.token.Token.TheVariants.{Opening, Closing, Equals, Operator, Variable, Unknown}
use Rattle.etp_text.specs.declared.refusal.TextRefusal.{TextRefusal}
use Rattle.etp_text.specs.declared.refusal.TextRefusal.TheVariants.{Syntax, Variable as WrongVariable, TooLarge, NoMemory}
use Rattle.etp_text.proofs.Lexing.{Skipped, skips, no_blank, start_longer, start_kept, skipped, all_skipped, token_read, token_found, no_token, first_read, begins_append, begins_length, front_of_all}
use Rattle.etp_text.proofs.Running.{at, IsStand, run_append, term_run, law_run, text_run, unviable, step_unknown}
use Rattle.etp_text.proofs.Reaching.{viable, term_read, law_read}

run_more : (grammar : Grammar) (ts : List Token) (t : Token) (state next : State) → run grammar start ts ≡ Some state → step grammar state t ≡ Some next → run grammar start (ts ++ t ∷ []) ≡ Some next
run_more grammar ts t state next h k =
    run_append grammar start ts (t ∷ []) ∙ (ap (option_and_then (λ n. run grammar n (t ∷ []))) h ∙ ap (option_and_then (λ n. run grammar n [])) k)

-- behind one more token
pub reads_on : (grammar : Grammar) (bytes rest next behind : List ℕ) (t : Token) (state after : State)
    → HasRead grammar bytes rest state → Skipped rest next → StartsWith next t behind → step grammar state t ≡ Some after → HasRead grammar bytes behind after
reads_on grammar bytes rest next behind t state after (ts, b, r) (blanks, a, e) s k =
    (ts ++ t ∷ [], begins_append bytes ts (t ∷ []) rest behind b (blanks, next, behind, a, e, s, refl), run_more grammar ts t state after r k)

before : (grammar : Grammar) (bytes rest next : List ℕ) (state : State) (place : ℕ) → HasRead grammar bytes rest state → Skipped rest next → place + length next ≡ length bytes
    → (b : Before (text_of grammar) bytes place) × (b.rest ≡ next) × (run grammar start b.tokens ≡ Some state)
before grammar bytes rest next state place (ts, b, r) (blanks, a, e) p =
    (record { tokens = ts; blanks = blanks; rest = next; tokens_begin = subst (Begins bytes ts) e b; viable = viable grammar ts state r; are_blanks = a; place = p }, refl, r)

-- the refusals
pub no_place : (grammar : Grammar) (bytes rest next behind : List ℕ) (t : Token) (state : State) (place : ℕ)
    → HasRead grammar bytes rest state → Skipped rest next → StartsWith next t behind → place + length next ≡ length bytes → step grammar state (as_variable t) ≡ None
    → IsSyntaxAt (text_of grammar) bytes place
no_place grammar bytes rest next behind t state place h k s p e =
    let b = before grammar bytes rest next state place h k p in
    inl (record { before = b.0; token = t; after = behind; is_next = subst (λ x. StartsWith x t behind) (sym b.1) s; unviable = λ (more, w). unviable grammar b.0.tokens state (as_variable t) b.2 e more w })

pub no_token_there : (grammar : Grammar) (bytes rest next : List ℕ) (state : State) (place byte : ℕ) (more : List ℕ)
    → HasRead grammar bytes rest state → Skipped rest next → place + length next ≡ length bytes → next ≡ byte ∷ more → is_blank byte ≡ false → token_at next ≡ None
    → IsSyntaxAt (text_of grammar) bytes place
no_token_there grammar bytes rest next state place byte more h k p e n none =
    let b = before grammar bytes rest next state place h k p in
    inr (inl (record { before = b.0; byte = byte; more = more; is_next = b.1 ∙ e; no_blank = n; no_token = subst (λ x. (t : Token) (r : List ℕ) → StartsWith x t r → ⊥) (sym b.1) (no_token next none) }))

pub wrong_variable : (grammar : Grammar) (bytes rest next behind : List ℕ) (t : Token) (state : State) (place : ℕ)
    → HasRead grammar bytes rest state → Skipped rest next → StartsWith next t behind → place + length next ≡ length bytes → t ≡ Unknown → IsSome (step grammar state (as_variable t))
    → IsVariableAt (text_of grammar) bytes place
unfolding before
wrong_variable grammar bytes rest next behind t state place h k s p u some =
    let b = before grammar bytes rest next state place h k p in
    record { before = b.0; after = behind; is_next = subst (λ x. StartsWith x Unknown behind) (sym b.1) (subst (λ x. StartsWith next x behind) u s); viable = go (step grammar state (Variable 0)) refl (subst (λ x. IsSome (step grammar state (as_variable x))) u some) }
  where
    go : (o : Option State) → step grammar state (Variable 0) ≡ o → IsSome o → IsViable (text_of grammar) (h.0 ++ Variable 0 ∷ [])
    go None e i = absurd (cc)
    go (Some after) e i = viable grammar (h.0 ++ Variable 0 ∷ []) after (run_more grammar h.0 (Variable 0) state after h.2 e)

whole_stand : (t : Tree) (stand : Stand) → IsStand stand t → side_in [] stand ≡ Some t
whole_stand t stand (inl e) = ap (side_in []) e
whole_stand t stand (inr e) = ap (side_in []) e

-- the state behind a text's tokens has its parts
term_parts : (ts : List Token) (state : State) (t : Tree) → run Terms start ts ≡ Some state → IsSide ts t → side_in state.open_parts state.stand ≡ Some t
term_parts ts state t h s =
    let i = term_run ts t s in
    let e = same_Some state (at None [] i.0) (sym h ∙ i.2) in
    ap (λ (x : State). side_in x.open_parts x.stand) e ∙ whole_stand t i.0 i.1

law_parts : (ts : List Token) (state : State) (law : Equation) → run Laws start ts ≡ Some state → IsEquation ts law → (state.left ≡ Some law.left) × (side_in state.open_parts state.stand ≡ Some law.right)
law_parts ts state law h s =
    let i = law_run ts law s in
    let e = same_Some state (at (Some law.left) [] i.0) (sym h ∙ i.2) in
    (ap (λ (x : State). x.left) e, ap (λ (x : State). side_in x.open_parts x.stand) e ∙ whole_stand law.right i.0 i.1)

ended : (grammar : Grammar) (bytes : List ℕ) (state : State) (end : ℕ) → (h : HasReadAll grammar bytes state end) → (text_of grammar h.2.0 → ⊥) → IsSyntaxAt (text_of grammar) bytes end
ended grammar bytes state end (rest, a, (ts, b, r), p) not_text =
    inr (inr (record { before = record { tokens = ts; blanks = []; rest = rest; tokens_begin = b; viable = viable grammar ts state r; are_blanks = tt; place = p }; behind_token = refl; end = a; no_text = not_text }))

pub term_ended : (bytes : List ℕ) (state : State) (end : ℕ) → HasReadAll Terms bytes state end → side_in state.open_parts state.stand ≡ None → IsSyntaxAt IsTermText bytes end
term_ended bytes state end h e = ended Terms bytes state end h (λ (t, s). none-some t (sym e ∙ term_parts h.2.0 state t h.2.2 s))

pub law_ended : (bytes : List ℕ) (state : State) (end : ℕ) → HasReadAll Laws bytes state end → (state.left ≡ None) ⊎ (side_in state.open_parts state.stand ≡ None) → IsSyntaxAt IsLawText bytes end
law_ended bytes state end h (inl e) = ended Laws bytes state end h (λ (law, s). none-some law.left (sym e ∙ (law_parts h.2.0 state law h.2.2 s).0))
law_ended bytes state end h (inr e) = ended Laws bytes state end h (λ (law, s). none-some law.right (sym e ∙ (law_parts h.2.0 state law h.2.2 s).1))

-- what was read is spelled
pub term_spelled : (bytes : List ℕ) (state : State) (end : ℕ) (t : Tree) → HasReadAll Terms bytes state end → side_in state.open_parts state.stand ≡ Some t → SpellsTerm bytes t
term_spelled bytes state end t (rest, a, (ts, b, r), p) e = (ts, (rest, b, a), term_read ts state t r e)

pub law_spelled : (bytes : List ℕ) (state : State) (end : ℕ) (l t : Tree) → HasReadAll Laws bytes state end → state.left ≡ Some l → side_in state.open_parts state.stand ≡ Some t → SpellsLaw bytes (record { left = l; right = t })
law_spelled bytes state end l t (rest, a, (ts, b, r), p) d e = (ts, (rest, b, a), law_read ts state l t r d e)

-- leaves are tokens
mutual
  atom_leaves : (ts : List Token) (t : Tree) → IsAtom ts t → leaves t ≤ length ts
  atom_leaves _ _ (variable v) = omega arith
  atom_leaves _ _ (enclosed ts t s) = omega (arith, side_leaves ts t s, length-append ts (Closing ∷ []))

  side_leaves : (ts : List Token) (t : Tree) → IsSide ts t → leaves t ≤ length ts
  side_leaves _ _ (alone ts t a) = atom_leaves ts t a
  side_leaves _ _ (joined ls l rs r a b) = omega (arith, atom_leaves ls l a, atom_leaves rs r b, length-append ls (Operator ∷ rs))

pub term_leaves : (bytes : List ℕ) (t : Tree) → SpellsTerm bytes t → leaves t ≤ length bytes
term_leaves bytes t (ts, (rest, b, a), s) = omega (arith, side_leaves ts t s, begins_length bytes ts rest b)

pub law_leaves : (bytes : List ℕ) (law : Equation) → SpellsLaw bytes law → (leaves law.left ≤ length bytes) × (leaves law.right ≤ length bytes)
law_leaves bytes law (ts, (rest, b, a), (ls, rs, e, l, r)) =
    let n = begins_length bytes ts rest b in
    let m = length-append ls (Equals ∷ rs) in
    let k = ap length e in
    (omega (arith, side_leaves ls law.left l), omega (arith, side_leaves rs law.right r))

-- a text has one list of tokens
nothing_left : (bytes : List ℕ) (vs : List Token) (rest : List ℕ) → AreBlanks bytes → Begins bytes vs rest → vs ≡ []
nothing_left bytes [] rest a b = refl
nothing_left bytes (v ∷ vs) rest a b = absurd (none-some (v, b.2) (sym (ap token_at (all_skipped bytes a)) ∙ first_read bytes v vs rest b))

pub same_tokens : (bytes : List ℕ) (ts us : List Token) → AreTokens bytes ts → AreTokens bytes us → ts ≡ us
same_tokens bytes ts us (r, b, a) (s, c, d) =
    let i = front_of_all bytes ts us r s b c d in
    sym (i.1 ∙ (ap (λ x. ts ++ x) (nothing_left r i.0 s a i.2) ∙ append-nil ts))

pub same_term : (bytes : List ℕ) (t u : Tree) → SpellsTerm bytes t → SpellsTerm bytes u → t ≡ u
same_term bytes t u (ts, b, s) (us, c, k) =
    let e = same_tokens bytes us ts c b in
    let i = text_run Terms ts (t, s) in
    same_Some t u (sym (term_parts ts i.0 t i.1 s) ∙ term_parts ts i.0 u i.1 (subst (λ x. IsSide x u) e k))

pub same_law : (bytes : List ℕ) (p q : Equation) → SpellsLaw bytes p → SpellsLaw bytes q → p ≡ q
same_law bytes p q (ts, b, s) (us, c, k) =
    let e = same_tokens bytes us ts c b in
    let i = text_run Laws ts (p, s) in
    let x = law_parts ts i.0 p i.1 s in
    let y = law_parts ts i.0 q i.1 (subst (λ x. IsEquation x q) e k) in
    ap₂ (λ l r. record { left = l; right = r }) (same_Some p.left q.left (sym x.0 ∙ y.0)) (same_Some p.right q.right (sym x.1 ∙ y.1))

-- a text of the grammar isn't refused
pub no_unknown : (grammar : Grammar) (ts vs : List Token) → text_of grammar (ts ++ Unknown ∷ vs) → ⊥
no_unknown grammar ts vs w =
    let i = text_run grammar (ts ++ Unknown ∷ vs) w in
    go (run grammar start ts) i.0 (sym (run_append grammar start ts (Unknown ∷ vs)) ∙ i.1)
  where
    go : (o : Option State) (last : State) → option_and_then (λ n. run grammar n (Unknown ∷ vs)) o ≡ Some last → ⊥
    go None last e = none-some last e
    go (Some state) last e = none-some last (sym (ap (option_and_then (λ n. run grammar n vs)) (step_unknown grammar state)) ∙ e)

next_token : (grammar : Grammar) (bytes : List ℕ) (place : ℕ) (us : List Token) → AreTokens bytes us → (b : Before (text_of grammar) bytes place) (t : Token) (after : List ℕ) → StartsWith b.rest t after
    → (vs : List Token) × (us ≡ b.tokens ++ t ∷ vs)
next_token grammar bytes place us (r, c, d) b t after s =
    let i = front_of_all bytes b.tokens us (b.blanks ++ b.rest) r b.tokens_begin c d in
    let k = token_read b.rest t after s in
    let e : token_at (skip_blanks (b.blanks ++ b.rest)) ≡ Some (t, after) = ap token_at (skipped b.blanks b.rest b.are_blanks ∙ start_kept b.rest t after k) ∙ k in
    go i.0 i.2 i.1 e
  where
    go : (vs : List Token) → Begins (b.blanks ++ b.rest) vs r → us ≡ b.tokens ++ vs → token_at (skip_blanks (b.blanks ++ b.rest)) ≡ Some (t, after) → (ws : List Token) × (us ≡ b.tokens ++ t ∷ ws)
    go [] g e h = absurd (none-some (t, after) (sym (ap token_at (ap skip_blanks g ∙ all_skipped r d)) ∙ h))
    go (v ∷ vs) g e h =
        let p = some_pair_parts v t g.2 after (sym (first_read (b.blanks ++ b.rest) v vs r g) ∙ h) in
        (vs, e ∙ ap (λ x. b.tokens ++ x ∷ vs) p.0)

pub known_viable : (grammar : Grammar) (ts : List Token) (t : Token) (vs : List Token) → text_of grammar (ts ++ t ∷ vs) → IsViable (text_of grammar) (ts ++ as_variable t ∷ [])
known_viable grammar ts t vs w = go t w
  where
    kept : (u : Token) → text_of grammar (ts ++ u ∷ vs) → IsViable (text_of grammar) (ts ++ u ∷ [])
    kept u w = (vs, subst (text_of grammar) (sym (append_assoc ts (u ∷ []) vs)) w)

    go : (u : Token) → text_of grammar (ts ++ u ∷ vs) → IsViable (text_of grammar) (ts ++ as_variable u ∷ [])
    go Opening w = kept Opening w
    go Closing w = kept Closing w
    go Equals w = kept Equals w
    go Operator w = kept Operator w
    go (Variable v) w = kept (Variable v) w
    go Unknown w = absurd (no_unknown grammar ts vs w)

pub text_not_syntax : (grammar : Grammar) (bytes : List ℕ) (us : List Token) (place : ℕ) → AreTokens bytes us → text_of grammar us → IsSyntaxAt (text_of grammar) bytes place → ⊥
text_not_syntax grammar bytes us place a w (inl n) =
    let i = next_token grammar bytes place us a n.before n.token n.after n.is_next in
    n.unviable (known_viable grammar n.before.tokens n.token i.0 (subst (text_of grammar) i.1 w))
text_not_syntax grammar bytes us place (r, c, d) w (inr (inl n)) =
    let b = n.before in
    let i = front_of_all bytes b.tokens us (b.blanks ++ b.rest) r b.tokens_begin c d in
    let e : skip_blanks (b.blanks ++ b.rest) ≡ b.rest = skipped b.blanks b.rest b.are_blanks ∙ (ap skip_blanks n.is_next ∙ (cond-false _ _ _ n.no_blank ∙ sym n.is_next)) in
    go i.0 i.2 e
  where
    some_byte : n.before.rest ≡ [] → ⊥
    some_byte e = let q : n.byte ∷ n.more ≡ [] = sym n.is_next ∙ e in absurd (cc)

    go : (vs : List Token) → Begins (n.before.blanks ++ n.before.rest) vs r → skip_blanks (n.before.blanks ++ n.before.rest) ≡ n.before.rest → ⊥
    go [] g e = some_byte (sym e ∙ (ap skip_blanks g ∙ all_skipped r d))
    go (v ∷ vs) g e = n.no_token v g.2 (token_found n.before.rest v g.2 (sym (ap token_at e) ∙ first_read (n.before.blanks ++ n.before.rest) v vs r g))
text_not_syntax grammar bytes us place (r, c, d) w (inr (inr n)) =
    let b = n.before in
    let i = front_of_all bytes b.tokens us (b.blanks ++ b.rest) r b.tokens_begin c d in
    let e : i.0 ≡ [] = nothing i.0 i.2 in
    n.no_text (subst (text_of grammar) (i.1 ∙ (ap (λ x. b.tokens ++ x) e ∙ append-nil b.tokens)) w)
  where
    nothing : (vs : List Token) → Begins (n.before.blanks ++ n.before.rest) vs r → vs ≡ []
    nothing vs g = nothing_left (n.before.blanks ++ n.before.rest) vs r (subst AreBlanks (ap (λ x. x ++ n.before.rest) (sym n.behind_token)) n.end) g

pub text_not_variable : (grammar : Grammar) (bytes : List ℕ) (us : List Token) (place : ℕ) → AreTokens bytes us → text_of grammar us → IsVariableAt (text_of grammar) bytes place → ⊥
text_not_variable grammar bytes us place a w n =
    let i = next_token grammar bytes place us a n.before Unknown n.after n.is_next in
    no_unknown grammar n.before.tokens i.0 (subst (text_of grammar) i.1 w)

-- what the loop over a text keeps and answers
pub read_length : (grammar : Grammar) (bytes rest : List ℕ) (state : State) → HasRead grammar bytes rest state → length rest ≤ length bytes
read_length grammar bytes rest state (ts, b, r) = omega (arith, begins_length bytes ts rest b)

pub skip_length : (bytes : List ℕ) → length (skip_blanks bytes) ≤ length bytes
skip_length bytes = let s = skips bytes in omega (arith, ap length s.2, length-append s.0 (skip_blanks bytes))

skipped_to : (rest next : List ℕ) → next ≡ skip_blanks rest → Skipped rest next
skipped_to rest next e = subst (Skipped rest) (sym e) (skips rest)

pub only_blanks : (rest next : List ℕ) → next ≡ skip_blanks rest → length next ≡ 0 → AreBlanks rest
only_blanks rest [] e l = let s = skipped_to rest [] e in subst AreBlanks (sym (s.2 ∙ append-nil s.0)) s.1
only_blanks rest (b ∷ bs) e l = absurd (omega arith)

pub stops_at_byte : (grammar : Grammar) (bytes rest next : List ℕ) (state : State) (place : ℕ)
    → HasRead grammar bytes rest state → next ≡ skip_blanks rest → (length next ≡ 0 → ⊥) → place + length next ≡ length bytes → token_at next ≡ None → IsSyntaxAt (text_of grammar) bytes place
stops_at_byte grammar bytes rest [] state place h e l p n = absurd (l refl)
stops_at_byte grammar bytes rest (b ∷ bs) state place h e l p n =
    no_token_there grammar bytes rest (b ∷ bs) state place b bs h (skipped_to rest (b ∷ bs) e) p refl (no_blank rest b bs (sym e)) n

pub stops_at_token : (grammar : Grammar) (bytes rest next behind : List ℕ) (t : Token) (state after : State) (place : ℕ) (error : TextRefusal)
    → HasRead grammar bytes rest state → next ≡ skip_blanks rest → place + length next ≡ length bytes → token_at next ≡ Some (t, behind)
    → Takes (step grammar state t) (step grammar state (as_variable t)) t place after (Err error) → RefusesText (text_of grammar) bytes error
stops_at_token grammar bytes rest next behind t state after place (Syntax there) h e p f k =
    subst (IsSyntaxAt (text_of grammar) bytes) (sym k.0) (no_place grammar bytes rest next behind t state place h (skipped_to rest next e) (token_found next t behind f) p k.1)
stops_at_token grammar bytes rest next behind t state after place (WrongVariable there) h e p f k =
    subst (IsVariableAt (text_of grammar) bytes) (sym k.0) (wrong_variable grammar bytes rest next behind t state place h (skipped_to rest next e) (token_found next t behind f) p k.1 k.2)
stops_at_token grammar bytes rest next behind t state after place (TooLarge count) h e p f k = k
stops_at_token grammar bytes rest next behind t state after place NoMemory h e p f k = tt

pub goes_on : (grammar : Grammar) (bytes rest next behind : List ℕ) (t : Token) (state after : State)
    → HasRead grammar bytes rest state → next ≡ skip_blanks rest → token_at next ≡ Some (t, behind) → step grammar state t ≡ Some after → HasRead grammar bytes behind after
goes_on grammar bytes rest next behind t state after h e f k = reads_on grammar bytes rest next behind t state after h (skipped_to rest next e) (token_found next t behind f) k

pub goes_down : (rest next behind : List ℕ) (t : Token) → next ≡ skip_blanks rest → token_at next ≡ Some (t, behind) → length behind < length rest
goes_down rest next behind t e f = omega (arith, start_longer next t behind (token_found next t behind f), skip_length rest, ap length e)

-- a refusal of the tokens is one of the text
pub term_refused : (bytes : List ℕ) (e : TextRefusal) → RefusesText IsTermText bytes e → RefusesTerm bytes e
term_refused bytes (Syntax at) h = h
term_refused bytes (WrongVariable at) h = h
term_refused bytes (TooLarge count) h = absurd h
term_refused bytes NoMemory h = tt

pub law_refused : (bytes : List ℕ) (e : TextRefusal) → RefusesText IsLawText bytes e → RefusesLaw bytes e
law_refused bytes (Syntax at) h = h
law_refused bytes (WrongVariable at) h = h
law_refused bytes (TooLarge count) h = absurd h
law_refused bytes NoMemory h = tt

-- what is spelled with few leaves is refused for memory alone
pub term_refused_only : (bytes : List ℕ) (e : TextRefusal) → RefusesTerm bytes e → (t : Tree) → SpellsTerm bytes t → leaves t ≤ side_limit → e ≡ NoMemory
term_refused_only bytes (Syntax at) h t (ts, a, s) few = absurd (text_not_syntax Terms bytes ts at a (t, s) h)
term_refused_only bytes (WrongVariable at) h t (ts, a, s) few = absurd (text_not_variable Terms bytes ts at a (t, s) h)
term_refused_only bytes (TooLarge count) (u, k, many, e) t s few = absurd (omega (arith, ap leaves (same_term bytes t u s k)))
term_refused_only bytes NoMemory h t s few = refl

pub law_refused_only : (bytes : List ℕ) (e : TextRefusal) → RefusesLaw bytes e → (law : Equation) → SpellsLaw bytes law → leaves law.left ≤ side_limit → leaves law.right ≤ side_limit → e ≡ NoMemory
law_refused_only bytes (Syntax at) h law (ts, a, s) l r = absurd (text_not_syntax Laws bytes ts at a (law, s) h)
law_refused_only bytes (WrongVariable at) h law (ts, a, s) l r = absurd (text_not_variable Laws bytes ts at a (law, s) h)
law_refused_only bytes (TooLarge count) (other, k, inl (many, e)) law s l r = absurd (omega (arith, ap (λ (x : Equation). leaves x.left) (same_law bytes law other s k)))
law_refused_only bytes (TooLarge count) (other, k, inr (few, many, e)) law s l r = absurd (omega (arith, ap (λ (x : Equation). leaves x.right) (same_law bytes law other s k)))
law_refused_only bytes NoMemory h law s l r = refl
