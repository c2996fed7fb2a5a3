-- What has been read is the front of a text of the grammar.
use Rattle.std.proofs.Common.{◌≡◌, Option, Some, None, option_and_then, List, [], ◌∷◌, ◌++◌, refl, sym, ap, ◌∙◌, subst, append_assoc, append-nil}
use Rattle.std.proofs.lemmas.Option.{none-some}
use Rattle.etp_theory.specs.Trees.{Tree, var, op}
use Rattle.etp_text.specs.Grammar.{IsAtom, IsSide, IsEquation, variable, enclosed, alone, joined}
use Rattle.etp_text.specs.Refusals.{IsViable}
use Rattle.etp_text.specs.Machine.{Stand, wanted, atom, pair, State, start, placed, step, run, text_of, side_in}
use Rattle.etp_text.specs.declared.reading.Grammar.{Grammar}
use Rattle.etp_text.specs.declared.reading.Grammar.TheVariants.{Terms, Laws}
use Rattle.etp_text.specs.declared.token.Token.{Token}
use Rattle.etp_text.specs.declared.token.Token.TheVariants.{Opening, Closing, Equals, Operator, Variable, Unknown}
use Rattle.etp_text.proofs.Running.{at}

-- the tokens before a side: none, or a left side and =
abbrev pub Divided : Grammar → Option Tree → List Token → Type 0
Divided grammar None ts = ts ≡ []
Divided grammar (Some l) ts = (us : List Token) × (ts ≡ us ++ Equals ∷ []) × IsSide us l × (grammar ≡ Laws)

-- and a part with an operator behind it, where there is one
abbrev pub Behind : Option Tree → (List Token → Type 0) → List Token → Type 0
Behind None F ts = F ts
Behind (Some l) F ts = (us vs : List Token) × (ts ≡ us ++ (vs ++ Operator ∷ [])) × F us × IsAtom vs l

-- the tokens before the innermost side
abbrev pub Front : Grammar → Option Tree → List (Option Tree) → List Token → Type 0
Front grammar left [] ts = Divided grammar left ts
Front grammar left (p ∷ ps) ts = (us : List Token) × (ts ≡ us ++ Opening ∷ []) × Behind p (Front grammar left ps) us

abbrev pub Stands : (List Token → Type 0) → Stand → List Token → Type 0
Stands F (wanted p) ts = Behind p F ts
Stands F (atom t) ts = (us vs : List Token) × (ts ≡ us ++ vs) × F us × IsAtom vs t
Stands F (pair t) ts = (us vs : List Token) × (ts ≡ us ++ vs) × F us × IsSide vs t

abbrev pub Reached : Grammar → State → List Token → Type 0
Reached grammar state ts = Stands (Front grammar state.left state.open_parts) state.stand ts

-- an atom where one was wanted
landed : (F : List Token → Type 0) (p : Option Tree) (us ms : List Token) (a : Tree) → Behind p F us → IsAtom ms a → Stands F (placed p a) (us ++ ms)
landed F None us ms a f i = (us, ms, refl, f, i)
landed F (Some l) us ms a (fs, ls, e, f, k) i =
    (fs, ls ++ Operator ∷ ms, ap (λ x. x ++ ms) e ∙ (append_assoc fs (ls ++ Operator ∷ []) ms ∙ ap (λ x. fs ++ x) (append_assoc ls (Operator ∷ []) ms)), f, joined ls l ms a k i)

-- a whole side stands behind the front
abbrev pub Whole : (List Token → Type 0) → Tree → List Token → Type 0
Whole F t ts = (us vs : List Token) × (ts ≡ us ++ vs) × F us × IsSide vs t

closed_side : (grammar : Grammar) (left : Option Tree) (p : Option Tree) (ps : List (Option Tree)) (t : Tree) (ts : List Token)
    → Whole (Front grammar left (p ∷ ps)) t ts → Stands (Front grammar left ps) (placed p t) (ts ++ Closing ∷ [])
closed_side grammar left p ps t ts (us, vs, e, (os, q, f), s) =
    let i : ts ++ Closing ∷ [] ≡ os ++ (Opening ∷ (vs ++ Closing ∷ [])) =
    ap (λ x. x ++ Closing ∷ []) (e ∙ (ap (λ x. x ++ vs) q ∙ append_assoc os (Opening ∷ []) vs)) ∙ append_assoc os (Opening ∷ vs) (Closing ∷ []) in
    subst (Stands (Front grammar left ps) (placed p t)) (sym i) (landed (Front grammar left ps) p os (Opening ∷ (vs ++ Closing ∷ [])) t f (enclosed vs t s))

moved : (grammar : Grammar) (a b : State) (ts : List Token) → Some a ≡ Some b → Reached grammar a ts → Reached grammar b ts
moved grammar a b ts e h = let q : a ≡ b = cc in subst (λ s. Reached grammar s ts) q h

closing_reaches : (grammar : Grammar) (left : Option Tree) (parts : List (Option Tree)) (t : Tree) (next : State) (ts : List Token)
    → Whole (Front grammar left parts) t ts → step grammar (at left parts (pair t)) Closing ≡ Some next → Reached grammar next (ts ++ Closing ∷ [])
closing_reaches grammar left [] t next ts w h = absurd (none-some next h)
closing_reaches grammar left (p ∷ ps) t next ts w h = moved grammar (at left ps (placed p t)) next (ts ++ Closing ∷ []) h (closed_side grammar left p ps t ts w)

equals_reaches : (grammar : Grammar) (left : Option Tree) (parts : List (Option Tree)) (t : Tree) (next : State) (ts : List Token)
    → Whole (Front grammar left parts) t ts → step grammar (at left parts (pair t)) Equals ≡ Some next → Reached grammar next (ts ++ Equals ∷ [])
equals_reaches Laws None [] t next ts (us, vs, e, f, s) h =
    moved Laws (at (Some t) [] (wanted None)) next (ts ++ Equals ∷ []) h (vs, ap (λ x. x ++ Equals ∷ []) (e ∙ ap (λ x. x ++ vs) f), s, refl)
equals_reaches Laws None (p ∷ ps) t next ts w h = absurd (none-some next h)
equals_reaches Laws (Some l) parts t next ts w h = absurd (none-some next h)
equals_reaches Terms left parts t next ts w h = absurd (none-some next h)

-- a token that ends a side
end_reaches : (grammar : Grammar) (left : Option Tree) (parts : List (Option Tree)) (t : Tree) (token : Token) (next : State) (ts : List Token)
    → Whole (Front grammar left parts) t ts → step grammar (at left parts (pair t)) token ≡ Some next → Reached grammar next (ts ++ token ∷ [])
end_reaches grammar left parts t Closing next ts w h = closing_reaches grammar left parts t next ts w h
end_reaches grammar left parts t Equals next ts w h = equals_reaches grammar left parts t next ts w h
end_reaches grammar left parts t Opening next ts w h = absurd (none-some next h)
end_reaches grammar left parts t Operator next ts w h = absurd (none-some next h)
end_reaches grammar left parts t (Variable v) next ts w h = absurd (none-some next h)
end_reaches grammar left parts t Unknown next ts w h = absurd (none-some next h)

begin_reaches : (grammar : Grammar) (left : Option Tree) (parts : List (Option Tree)) (part : Option Tree) (token : Token) (next : State) (ts : List Token)
    → Behind part (Front grammar left parts) ts → step grammar (at left parts (wanted part)) token ≡ Some next → Reached grammar next (ts ++ token ∷ [])
begin_reaches grammar left parts part (Variable v) next ts f h =
    moved grammar (at left parts (placed part (var v))) next (ts ++ Variable v ∷ []) h (landed (Front grammar left parts) part ts (Variable v ∷ []) (var v) f (variable v))
begin_reaches grammar left parts part Opening next ts f h = moved grammar (at left (part ∷ parts) (wanted None)) next (ts ++ Opening ∷ []) h (ts, refl, f)
begin_reaches grammar left parts part Closing next ts f h = absurd (none-some next h)
begin_reaches grammar left parts part Equals next ts f h = absurd (none-some next h)
begin_reaches grammar left parts part Operator next ts f h = absurd (none-some next h)
begin_reaches grammar left parts part Unknown next ts f h = absurd (none-some next h)

atom_reaches : (grammar : Grammar) (left : Option Tree) (parts : List (Option Tree)) (t : Tree) (token : Token) (next : State) (ts us vs : List Token)
    → ts ≡ us ++ vs → Front grammar left parts us → IsAtom vs t → step grammar (at left parts (atom t)) token ≡ Some next → Reached grammar next (ts ++ token ∷ [])
atom_reaches grammar left parts t Operator next ts us vs e f i h =
    moved grammar (at left parts (wanted (Some t))) next (ts ++ Operator ∷ []) h (us, vs, ap (λ x. x ++ Operator ∷ []) e ∙ append_assoc us vs (Operator ∷ []), f, i)
atom_reaches grammar left parts t Closing next ts us vs e f i h = closing_reaches grammar left parts t next ts (us, vs, e, f, alone vs t i) h
atom_reaches grammar left parts t Equals next ts us vs e f i h = equals_reaches grammar left parts t next ts (us, vs, e, f, alone vs t i) h
atom_reaches grammar left parts t Opening next ts us vs e f i h = absurd (none-some next h)
atom_reaches grammar left parts t (Variable v) next ts us vs e f i h = absurd (none-some next h)
atom_reaches grammar left parts t Unknown next ts us vs e f i h = absurd (none-some next h)

step_reaches : (grammar : Grammar) (state : State) (token : Token) (next : State) (ts : List Token) → Reached grammar state ts → step grammar state token ≡ Some next → Reached grammar next (ts ++ token ∷ [])
step_reaches grammar state token next ts r h = go state.left state.open_parts state.stand r h
  where
    go : (left : Option Tree) (parts : List (Option Tree)) (stand : Stand) → Stands (Front grammar left parts) stand ts → step grammar (at left parts stand) token ≡ Some next → Reached grammar next (ts ++ token ∷ [])
    go left parts (wanted part) r h = begin_reaches grammar left parts part token next ts r h
    go left parts (atom t) (us, vs, e, f, i) h = atom_reaches grammar left parts t token next ts us vs e f i h
    go left parts (pair t) r h = end_reaches grammar left parts t token next ts r h

run_reaches : (grammar : Grammar) (state : State) (us : List Token) (last : State) (ts : List Token) → Reached grammar state ts → run grammar state us ≡ Some last → Reached grammar last (ts ++ us)
run_reaches grammar state [] last ts r h = subst (Reached grammar last) (sym (append-nil ts)) (moved grammar state last ts h r)
run_reaches grammar state (u ∷ us) last ts r h = go (step grammar state u) refl h (λ next q k. run_reaches grammar next us last (ts ++ u ∷ []) q k)
  where
    go : (o : Option State) → step grammar state u ≡ o → option_and_then (λ n. run grammar n us) o ≡ Some last
        → ((next : State) → Reached grammar next (ts ++ u ∷ []) → run grammar next us ≡ Some last → Reached grammar last ((ts ++ u ∷ []) ++ us)) → Reached grammar last (ts ++ u ∷ us)
    go None e k i = absurd (none-some last k)
    go (Some next) e k i = subst (Reached grammar last) (append_assoc ts (u ∷ []) us) (i next (step_reaches grammar state u next ts r e) k)

-- what the run from the start reaches
pub reached : (grammar : Grammar) (ts : List Token) (state : State) → run grammar start ts ≡ Some state → Reached grammar state ts
reached grammar ts state h = run_reaches grammar start ts state [] refl h

-- fronts of texts
front_viable : (Text : List Token → Type 0) (ts us : List Token) → IsViable Text (ts ++ us) → IsViable Text ts
front_viable Text ts us (more, h) = (us ++ more, subst Text (append_assoc ts us more) h)

stand_whole : (F : List Token → Type 0) (p : Option Tree) (t : Tree) (ts : List Token) → Stands F (placed p t) ts → (s : Tree) × Whole F s ts
stand_whole F None t ts (us, vs, e, f, i) = (t, (us, vs, e, f, alone vs t i))
stand_whole F (Some l) t ts w = (op l t, w)

whole_viable : (grammar : Grammar) (left : Option Tree) (parts : List (Option Tree)) (t : Tree) (ts : List Token) → Whole (Front grammar left parts) t ts → IsViable (text_of grammar) ts
whole_viable Terms None [] t ts (us, vs, e, f, s) = ([], (t, subst (λ x. IsSide x t) (sym (append-nil ts ∙ (e ∙ ap (λ x. x ++ vs) f))) s))
whole_viable Laws None [] t ts (us, vs, e, f, s) = (
  Equals ∷ Variable 0 ∷ [],
  (
    record { left = t; right = var 0 },
    (ts, Variable 0 ∷ [], refl, subst (λ x. IsSide x t) (sym (e ∙ ap (λ x. x ++ vs) f)) s, alone (Variable 0 ∷ []) (var 0) (variable 0)),
  ),
)
whole_viable Laws (Some l) [] t ts (us, vs, e, (ls, q, k, y), s) =
    ([], (record { left = l; right = t }, (ls, vs, append-nil ts ∙ (e ∙ (ap (λ x. x ++ vs) q ∙ append_assoc ls (Equals ∷ []) vs)), k, s)))
whole_viable Terms (Some l) [] t ts (us, vs, e, (ls, q, k, y), s) = absurd (cc)
whole_viable grammar left (p ∷ ps) t ts w =
    let i = stand_whole (Front grammar left ps) p t (ts ++ Closing ∷ []) (closed_side grammar left p ps t ts w) in
    front_viable (text_of grammar) ts (Closing ∷ []) (whole_viable grammar left ps i.0 (ts ++ Closing ∷ []) i.1)

pub viable : (grammar : Grammar) (ts : List Token) (state : State) → run grammar start ts ≡ Some state → IsViable (text_of grammar) ts
viable grammar ts state h = go state.left state.open_parts state.stand (reached grammar ts state h)
  where
    go : (left : Option Tree) (parts : List (Option Tree)) (stand : Stand) → Stands (Front grammar left parts) stand ts → IsViable (text_of grammar) ts
    go left parts (wanted p) r =
        let i = stand_whole (Front grammar left parts) p (var 0) (ts ++ Variable 0 ∷ []) (landed (Front grammar left parts) p ts (Variable 0 ∷ []) (var 0) r (variable 0)) in
        front_viable (text_of grammar) ts (Variable 0 ∷ []) (whole_viable grammar left parts i.0 (ts ++ Variable 0 ∷ []) i.1)
    go left parts (atom t) (us, vs, e, f, i) = whole_viable grammar left parts t ts (us, vs, e, f, alone vs t i)
    go left parts (pair t) r = whole_viable grammar left parts t ts r

-- what stands in the end is a text
pub term_read : (ts : List Token) (state : State) (t : Tree) → run Terms start ts ≡ Some state → side_in state.open_parts state.stand ≡ Some t → IsSide ts t
term_read ts state t h k = go state.left state.open_parts state.stand (reached Terms ts state h) k
  where
    whole : (left : Option Tree) (s : Tree) → Whole (Divided Terms left) s ts → Some s ≡ Some t → IsSide ts t
    whole None s (us, vs, e, f, i) k = let q : s ≡ t = cc in subst (IsSide ts) q (subst (λ x. IsSide x s) (sym (e ∙ ap (λ x. x ++ vs) f)) i)
    whole (Some l) s (us, vs, e, (ls, q, d, y), i) k = absurd (cc)

    none_tree : None ≡ Some t → IsSide ts t
    none_tree e = absurd (cc)

    go : (left : Option Tree) (parts : List (Option Tree)) (stand : Stand) → Stands (Front Terms left parts) stand ts → side_in parts stand ≡ Some t → IsSide ts t
    go left [] (atom s) (us, vs, e, f, i) k = whole left s (us, vs, e, f, alone vs s i) k
    go left [] (pair s) r k = whole left s r k
    go left [] (wanted p) r k = none_tree k
    go left (p ∷ ps) (atom s) r k = none_tree k
    go left (p ∷ ps) (pair s) r k = none_tree k
    go left (p ∷ ps) (wanted s) r k = none_tree k

pub law_read : (ts : List Token) (state : State) (l t : Tree) → run Laws start ts ≡ Some state → state.left ≡ Some l → side_in state.open_parts state.stand ≡ Some t
    → IsEquation ts (record { left = l; right = t })
law_read ts state l t h d k = go state.left state.open_parts state.stand (reached Laws ts state h) d k
  where
    whole : (left : Option Tree) (s : Tree) → Whole (Divided Laws left) s ts → left ≡ Some l → Some s ≡ Some t → IsEquation ts (record { left = l; right = t })
    whole None s w d k = absurd (cc)
    whole (Some m) s (us, vs, e, (ls, q, i, y), j) d k =
        let a : m ≡ l = cc in
        let b : s ≡ t = cc in
        (ls, vs, e ∙ (ap (λ x. x ++ vs) q ∙ append_assoc ls (Equals ∷ []) vs), subst (IsSide ls) a i, subst (IsSide vs) b j)

    none_tree : None ≡ Some t → IsEquation ts (record { left = l; right = t })
    none_tree e = absurd (cc)

    go : (left : Option Tree) (parts : List (Option Tree)) (stand : Stand) → Stands (Front Laws left parts) stand ts → left ≡ Some l → side_in parts stand ≡ Some t → IsEquation ts (record { left = l; right = t })
    go left [] (atom s) (us, vs, e, f, i) d k = whole left s (us, vs, e, f, alone vs s i) d k
    go left [] (pair s) r d k = whole left s r d k
    go left [] (wanted p) r d k = none_tree k
    go left (p ∷ ps) (atom s) r d k = none_tree k
    go left (p ∷ ps) (pair s) r d k = none_tree k
    go left (p ∷ ps) (wanted s) r d k = none_tree k
