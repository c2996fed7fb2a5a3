-- What follows from a list of facts with one fact more.
use Rattle.std.proofs.Common.{◌≡◌, ℕ, ◌-◌, List, [], ◌∷◌, ◌++◌, length, get_or, Contains, refl, sym, ap, ◌∙◌, subst, ◌⊎◌, inl, inr, arith}
use Rattle.std.proofs.lemmas.Bool.{cases_lt}
use Rattle.std.proofs.lemmas.List.{get_or_append_left, get_or-append_right, length-append}
use Rattle.etp_theory.specs.LawNumbers.{dual_number}
use Rattle.etp_theory.specs.Reach.{Fact, implies, refutes, Edge, plain_edge, dual_edge, RefutingPair, plain_pair, dual_pair, Reach, itself, along, Covers}
use Rattle.etp_closure.proofs.Relations.{IsPreorder, Joined, as_before, by_edge, Spread, Widened, old_pair, new_pair}

-- the facts before are among the facts afterwards
pub earlier : {X : Type 0} (xs : List X) (x y : X) → Contains xs y → Contains (xs ++ x ∷ []) y
earlier xs x y among =
    (among.0, (let whole = length-append xs (x ∷ []) in omega (arith, whole, among.1)), get_or_append_left xs (x ∷ []) y among.0 among.1 ∙ among.2)

pub newest : {X : Type 0} (xs : List X) (x : X) → Contains (xs ++ x ∷ []) x
newest xs x = (
  length xs,
  (let whole = length-append xs (x ∷ []) in omega (arith, whole)),
  (let none : length xs - length xs ≡ 0 = omega arith in
      get_or-append_right xs (x ∷ []) (length xs) (length xs) x refl (omega arith) ∙ ap (λ n. get_or (x ∷ []) n x) none),
)

-- and each of those is one of the facts before, or the new one
pub either : {X : Type 0} (xs : List X) (x y : X) → Contains (xs ++ x ∷ []) y → Contains xs y ⊎ (x ≡ y)
either xs x y among =
    elim (cases_lt among.0 (length xs)) [
      | inl below ↦ inl (among.0, below, sym (get_or_append_left xs (x ∷ []) y among.0 below) ∙ among.2)
      | inr past ↦
          let whole = length-append xs (x ∷ []) in
          let last : among.0 - length xs ≡ 0 = omega (arith, whole, among.1) in
          inr (sym (get_or-append_right xs (x ∷ []) (length xs) among.0 y refl past ∙ ap (λ n. get_or (x ∷ []) n y) last) ∙ among.2)
    ]

pub reach_onward : {duals : List ℕ} {facts : List Fact} {x y z : ℕ} → Reach duals facts x y → Reach duals facts y z → Reach duals facts x z
reach_onward (itself e) q = q
reach_onward (along edge p) q = along edge (reach_onward p q)

pub reach_preorder : (duals : List ℕ) (facts : List Fact) → IsPreorder (Reach duals facts)
reach_preorder duals facts = record {
  itself = λ x. itself x;
  onward = λ p q. reach_onward p q;
}

-- where each fact of one list is in another, so is what follows from it
pub edge_kept : {duals : List ℕ} {facts more : List Fact} → ((fact : Fact) → Contains facts fact → Contains more fact)
    → {x y : ℕ} → Edge duals facts x y → Edge duals more x y
edge_kept keeps (plain_edge among) = plain_edge (keeps _ among)
edge_kept keeps (dual_edge e f among p q) = dual_edge e f (keeps _ among) p q

pub reach_kept : {duals : List ℕ} {facts more : List Fact} → ((fact : Fact) → Contains facts fact → Contains more fact)
    → {x y : ℕ} → Reach duals facts x y → Reach duals more x y
reach_kept keeps (itself e) = itself e
reach_kept keeps (along edge p) = along (edge_kept keeps edge) (reach_kept keeps p)

pub pair_kept : {duals : List ℕ} {facts more : List Fact} → ((fact : Fact) → Contains facts fact → Contains more fact)
    → {x y : ℕ} → RefutingPair duals facts x y → RefutingPair duals more x y
pair_kept keeps (plain_pair holds fails among p q) = plain_pair holds fails (keeps _ among) p q
pair_kept keeps (dual_pair holds fails h f among p q s t) = dual_pair holds fails h f (keeps _ among) p q s t

-- ---- an implication more

-- an edge after an implication was appended
pub edge_either : {duals : List ℕ} {facts : List Fact} (a b : ℕ) {x y : ℕ} → Edge duals (facts ++ implies a b ∷ []) x y
    → Joined (Joined (Reach duals facts) a b) (dual_number duals a) (dual_number duals b) x y
edge_either {duals} {facts} a b {x} {y} (plain_edge among) =
    elim (either facts (implies a b) (implies x y) among) [
      | inl old ↦ as_before (as_before (along (plain_edge old) (itself y)))
      | inr new ↦
          let start : a ≡ x = (cc (new)) in
          let end : b ≡ y = (cc (new)) in
          as_before (by_edge (subst (Reach duals facts x) (sym start) (itself x)) (subst (λ n. Reach duals facts n y) (sym end) (itself y)))
    ]
edge_either {duals} {facts} a b {x} {y} (dual_edge e f among p q) =
    elim (either facts (implies a b) (implies e f) among) [
      | inl old ↦ as_before (as_before (along (dual_edge e f old p q) (itself y)))
      | inr new ↦
          let start : dual_number duals a ≡ x = ap (dual_number duals) (cc (new)) ∙ sym p in
          let end : dual_number duals b ≡ y = ap (dual_number duals) (cc (new)) ∙ sym q in
          by_edge (subst (λ n. Joined (Reach duals facts) a b x n) (sym start) (as_before (itself x))) (subst (λ n. Joined (Reach duals facts) a b n y) (sym end) (as_before (itself y)))
    ]

-- reach after an implication was appended: by its edge and by its dual edge
pub reach_either : {duals : List ℕ} {facts : List Fact} (a b : ℕ)
    → IsPreorder (Joined (Joined (Reach duals facts) a b) (dual_number duals a) (dual_number duals b))
    → {x y : ℕ} → Reach duals (facts ++ implies a b ∷ []) x y
    → Joined (Joined (Reach duals facts) a b) (dual_number duals a) (dual_number duals b) x y
reach_either a b order (itself e) = order.itself e
reach_either a b order (along edge p) = order.onward (edge_either a b edge) (reach_either a b order p)

pub reach_from : {duals : List ℕ} {facts : List Fact} (a b : ℕ) {x y : ℕ}
    → Joined (Joined (Reach duals facts) a b) (dual_number duals a) (dual_number duals b) x y
    → Reach duals (facts ++ implies a b ∷ []) x y
reach_from {duals} {facts} a b joined = outer joined
  where
    more : (fact : Fact) → Contains facts fact → Contains (facts ++ implies a b ∷ []) fact
    more fact among = earlier facts (implies a b) fact among

    inner : {x y : ℕ} → Joined (Reach duals facts) a b x y → Reach duals (facts ++ implies a b ∷ []) x y
    inner (as_before p) = reach_kept more p
    inner (by_edge p q) = reach_onward (reach_kept more p) (along (plain_edge (newest facts (implies a b))) (reach_kept more q))

    outer : {x y : ℕ} → Joined (Joined (Reach duals facts) a b) (dual_number duals a) (dual_number duals b) x y
        → Reach duals (facts ++ implies a b ∷ []) x y
    outer (as_before p) = inner p
    outer (by_edge p q) = reach_onward (inner p) (along (dual_edge a b (newest facts (implies a b)) refl refl) (inner q))

pub pair_before : {duals : List ℕ} {facts : List Fact} (a b : ℕ) {x y : ℕ} → RefutingPair duals (facts ++ implies a b ∷ []) x y
    → RefutingPair duals facts x y
pair_before {duals} {facts} a b (plain_pair holds fails among p q) =
    elim (either facts (implies a b) (refutes holds fails) among) [
      | inl old ↦ plain_pair holds fails old p q
      | inr new ↦ absurd (cc (new))
    ]
pair_before {duals} {facts} a b (dual_pair holds fails h f among p q s t) =
    elim (either facts (implies a b) (refutes holds fails) among) [
      | inl old ↦ dual_pair holds fails h f old p q s t
      | inr new ↦ absurd (cc (new))
    ]

-- ---- a refutation more

pub reach_before : {duals : List ℕ} {facts : List Fact} (holds fails : List ℕ) {x y : ℕ} → Reach duals (facts ++ refutes holds fails ∷ []) x y
    → Reach duals facts x y
reach_before holds fails (itself e) = itself e
reach_before {duals} {facts} holds fails (along edge p) = along (go edge) (reach_before holds fails p)
  where
    go : {x y : ℕ} → Edge duals (facts ++ refutes holds fails ∷ []) x y → Edge duals facts x y
    go {x} {y} (plain_edge among) =
        elim (either facts (refutes holds fails) (implies x y) among) [ inl old ↦ plain_edge old | inr new ↦ absurd (cc (new)) ]
    go (dual_edge e f among s t) =
        elim (either facts (refutes holds fails) (implies e f) among) [ inl old ↦ dual_edge e f old s t | inr new ↦ absurd (cc (new)) ]

-- a refuting pair after a refutation was appended
pub pair_either : {duals : List ℕ} {facts : List Fact} (holds fails : List ℕ) {x y : ℕ} → RefutingPair duals (facts ++ refutes holds fails ∷ []) x y
    → Widened (Widened (RefutingPair duals facts) (λ law. law) holds fails) (dual_number duals) holds fails x y
pair_either {duals} {facts} holds fails {x} {y} (plain_pair hs fs among p q) =
    elim (either facts (refutes holds fails) (refutes hs fs) among) [
      | inl old ↦ old_pair (old_pair (plain_pair hs fs old p q))
      | inr new ↦
          let start : hs ≡ holds = (cc (new)) in
          let end : fs ≡ fails = (cc (new)) in
          old_pair (new_pair
          (record { source = x; among = subst (λ (l : List ℕ). Contains l x) start p; is = refl })
          (record { source = y; among = subst (λ (l : List ℕ). Contains l y) end q; is = refl }))
    ]
pair_either {duals} {facts} holds fails {x} {y} (dual_pair hs fs h f among p q s t) =
    elim (either facts (refutes holds fails) (refutes hs fs) among) [
      | inl old ↦ old_pair (old_pair (dual_pair hs fs h f old p q s t))
      | inr new ↦
          let start : hs ≡ holds = (cc (new)) in
          let end : fs ≡ fails = (cc (new)) in
          new_pair
          (record { source = h; among = subst (λ (l : List ℕ). Contains l h) start p; is = s })
          (record { source = f; among = subst (λ (l : List ℕ). Contains l f) end q; is = t })
    ]

pub pair_from : {duals : List ℕ} {facts : List Fact} (holds fails : List ℕ) {x y : ℕ}
    → Widened (Widened (RefutingPair duals facts) (λ law. law) holds fails) (dual_number duals) holds fails x y
    → RefutingPair duals (facts ++ refutes holds fails ∷ []) x y
pair_from {duals} {facts} holds fails {x} {y} widened = outer widened
  where
    more : (fact : Fact) → Contains facts fact → Contains (facts ++ refutes holds fails ∷ []) fact
    more fact among = earlier facts (refutes holds fails) fact among

    inner : Widened (RefutingPair duals facts) (λ law. law) holds fails x y → RefutingPair duals (facts ++ refutes holds fails ∷ []) x y
    inner (old_pair pair) = pair_kept more pair
    inner (new_pair one two) =
        plain_pair holds fails (newest facts (refutes holds fails))
        (subst (Contains holds) (sym one.is) one.among) (subst (Contains fails) (sym two.is) two.among)

    outer : Widened (Widened (RefutingPair duals facts) (λ law. law) holds fails) (dual_number duals) holds fails x y
        → RefutingPair duals (facts ++ refutes holds fails ∷ []) x y
    outer (old_pair pair) = inner pair
    outer (new_pair one two) = dual_pair holds fails one.source two.source (newest facts (refutes holds fails)) one.among two.among one.is two.is

pub spread_covers : {duals : List ℕ} {facts : List Fact} {x y : ℕ} → Spread (RefutingPair duals facts) (Reach duals facts) x y
    → Covers duals facts x y
spread_covers s = record { holds = s.first; fails = s.second; pair = s.pair; before = s.before; after = s.after }

pub covers_spread : {duals : List ℕ} {facts : List Fact} {x y : ℕ} → Covers duals facts x y
    → Spread (RefutingPair duals facts) (Reach duals facts) x y
covers_spread s = record { first = s.holds; second = s.fails; pair = s.pair; before = s.before; after = s.after }

-- ---- no facts

pub edge_none : {duals : List ℕ} {x y : ℕ} → Edge duals [] x y → ⊥
edge_none (plain_edge among) = omega (arith, among.1)
edge_none (dual_edge e f among p q) = omega (arith, among.1)

pub reach_none : {duals : List ℕ} {x y : ℕ} → Reach duals [] x y → x ≡ y
reach_none (itself e) = refl
reach_none (along edge p) = absurd (edge_none edge)

pub pair_none : {duals : List ℕ} {x y : ℕ} → RefutingPair duals [] x y → ⊥
pair_none (plain_pair holds fails among p q) = omega (arith, among.1)
pair_none (dual_pair holds fails h f among p q s t) = omega (arith, among.1)
