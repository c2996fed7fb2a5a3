-- Reached and covered pairs as plain relations, after one edge more and after refuting pairs more.
use Rattle.std.proofs.Common.{◌≡◌, ℕ, zero, suc, ◌<◌, Bool, true, ◌&&◌, ◌||◌, List, [], ◌∷◌, length, get_or, Contains, refl, sym, ap, ◌∙◌, ◌⊎◌, inl, inr, arith}
use Rattle.std.specs.List.{list_any}
use Rattle.etp_closure.specs.Tables.{Links, already, anew}
use Rattle.std.proofs.lemmas.Bool.{or_cases, and_parts, and_from, or_left, or_right}

-- each is related to itself, and a relation goes on
pub record IsPreorder (R : ℕ → ℕ → Type 0) : Type 0 where
  pub itself : (x : ℕ) → R x x
  pub onward : {x y z : ℕ} → R x y → R y z → R x z

-- a table of truth values is the relation
pub record Agrees (test : ℕ → ℕ → Bool) (R : ℕ → ℕ → Type 0) : Type 0 where
  pub sound : {x y : ℕ} → test x y ≡ true → R x y
  pub complete : {x y : ℕ} → R x y → test x y ≡ true

-- the relation with one edge more
pub data Joined (R : ℕ → ℕ → Type 0) (a b x y : ℕ) : Type 0 where
  as_before : R x y → Joined R a b x y
  by_edge : R x a → R b y → Joined R a b x y

-- some pair of P has its first related to x, and y to its second
pub record Spread (P R : ℕ → ℕ → Type 0) (x y : ℕ) : Type 0 where
  pub first : ℕ
  pub second : ℕ
  pub pair : P first second
  pub before : R first x
  pub after : R y second

pub joined_preorder : (R : ℕ → ℕ → Type 0) (a b : ℕ) → IsPreorder R → IsPreorder (Joined R a b)
joined_preorder R a b order = record {
  itself = λ x. as_before (order.itself x);
  onward = λ {x} {y} {z} p q. go p q;
}
  where
    go : {x y z : ℕ} → Joined R a b x y → Joined R a b y z → Joined R a b x z
    go (as_before p) (as_before q) = as_before (order.onward p q)
    go (as_before p) (by_edge q s) = by_edge (order.onward p q) s
    go (by_edge p s) (as_before q) = by_edge p (order.onward s q)
    go (by_edge p s) (by_edge q t) = by_edge p t

pub joined_agrees : (R : ℕ → ℕ → Type 0) (r c r' c' : ℕ → ℕ → Bool) (a b : ℕ) → IsPreorder R → Agrees r R
    → Links r c r' c' a b → Agrees r' (Joined R a b)
joined_agrees R r c r' c' a b order agrees (already there same_r same_c) = record {
  sound = λ {x} {y} h. as_before (agrees.sound (sym (same_r x y) ∙ h));
  complete = λ {x} {y} p. same_r x y ∙ agrees.complete (back p);
}
  where
    back : {x y : ℕ} → Joined R a b x y → R x y
    back (as_before p) = p
    back (by_edge p q) = order.onward p (order.onward (agrees.sound there) q)
joined_agrees R r c r' c' a b order agrees (anew new_r new_c) = record {
  sound = λ {x} {y} h. forward (or_cases (r x y) (r x a && r b y) (sym (new_r x y) ∙ h));
  complete = λ {x} {y} p. new_r x y ∙ back p;
}
  where
    forward : {x y : ℕ} → (r x y ≡ true) ⊎ ((r x a && r b y) ≡ true) → Joined R a b x y
    forward (inl h) = as_before (agrees.sound h)
    forward {x} {y} (inr h) = let parts = and_parts (r x a) (r b y) h in by_edge (agrees.sound parts.0) (agrees.sound parts.1)

    back : {x y : ℕ} → Joined R a b x y → (r x y || (r x a && r b y)) ≡ true
    back {x} {y} (as_before p) = or_left (r x y) (r x a && r b y) (agrees.complete p)
    back {x} {y} (by_edge p q) = or_right (r x y) (r x a && r b y) (and_from (r x a) (r b y) (agrees.complete p) (agrees.complete q))

pub joined_spread : (P R : ℕ → ℕ → Type 0) (r c r' c' : ℕ → ℕ → Bool) (a b : ℕ) → IsPreorder R → Agrees r R
    → Agrees c (Spread P R) → Links r c r' c' a b → Agrees c' (Spread P (Joined R a b))
joined_spread P R r c r' c' a b order agrees covers (already there same_r same_c) = record {
  sound = λ {x} {y} h. let s = covers.sound (sym (same_c x y) ∙ h) in
      record { first = s.first; second = s.second; pair = s.pair; before = as_before s.before; after = as_before s.after };
  complete = λ {x} {y} s. same_c x y ∙ covers.complete
      (record { first = s.first; second = s.second; pair = s.pair; before = back s.before; after = back s.after });
}
  where
    back : {x y : ℕ} → Joined R a b x y → R x y
    back (as_before p) = p
    back (by_edge p q) = order.onward p (order.onward (agrees.sound there) q)
joined_spread P R r c r' c' a b order agrees covers (anew new_r new_c) = record {
  sound = λ {x} {y} h. forward x y (or_cases (c x y || (r b x && c a y)) ((c x b || (r b x && c a b)) && r y a) (sym (new_c x y) ∙ h));
  complete = λ {x} {y} s. new_c x y ∙ back x y s.first s.second s.pair s.before s.after;
}
  where
    -- by the first half of the edge, and then by the second
    first_half : (x y : ℕ) → (c x y ≡ true) ⊎ ((r b x && c a y) ≡ true) → {Q : Type 0} → ((p q : ℕ) → P p q → Joined R a b p x → R y q → Q) → Q
    first_half x y (inl h) go = let s = covers.sound h in go s.first s.second s.pair (as_before s.before) s.after
    first_half x y (inr h) go =
        let parts = and_parts (r b x) (c a y) h in
        let s = covers.sound parts.1 in
        go s.first s.second s.pair (by_edge s.before (agrees.sound parts.0)) s.after

    forward : (x y : ℕ) → ((c x y || (r b x && c a y)) ≡ true) ⊎ (((c x b || (r b x && c a b)) && r y a) ≡ true)
        → Spread P (Joined R a b) x y
    forward x y (inl h) = first_half x y (or_cases (c x y) (r b x && c a y) h)
        (λ p q pair before after. record { first = p; second = q; pair = pair; before = before; after = as_before after })
    forward x y (inr h) =
        let parts = and_parts (c x b || (r b x && c a b)) (r y a) h in
        first_half x b (or_cases (c x b) (r b x && c a b) parts.0)
        (λ p q pair before after. record { first = p; second = q; pair = pair; before = before; after = by_edge (agrees.sound parts.1) after })

    covered : (x y p q : ℕ) → P p q → R p x → R y q → c x y ≡ true
    covered x y p q pair before after = covers.complete (record { first = p; second = q; pair = pair; before = before; after = after })

    back : (x y p q : ℕ) → P p q → Joined R a b p x → Joined R a b y q
        → ((c x y || (r b x && c a y)) || ((c x b || (r b x && c a b)) && r y a)) ≡ true
    back x y p q pair (as_before s) (as_before t) =
        or_left (c x y || (r b x && c a y)) _ (or_left (c x y) _ (covered x y p q pair s t))
    back x y p q pair (by_edge s u) (as_before t) =
        or_left (c x y || (r b x && c a y)) _ (or_right (c x y) _ (and_from (r b x) (c a y) (agrees.complete u) (covered a y p q pair s t)))
    back x y p q pair (as_before s) (by_edge t u) =
        or_right (c x y || (r b x && c a y)) _ (and_from (c x b || (r b x && c a b)) (r y a) (or_left (c x b) _ (covered x b p q pair s u)) (agrees.complete t))
    back x y p q pair (by_edge s v) (by_edge t u) =
        or_right (c x y || (r b x && c a y)) _ (and_from (c x b || (r b x && c a b)) (r y a)
        (or_right (c x b) _ (and_from (r b x) (c a b) (agrees.complete v) (covered a b p q pair s u))) (agrees.complete t))

-- a law of the list, or its image
pub record Named (image : ℕ → ℕ) (laws : List ℕ) (law : ℕ) : Type 0 where
  pub source : ℕ
  pub among : Contains laws source
  pub is : law ≡ image source

-- the pairs of P, and each of the one list's images with each of the other's
pub data Widened (P : ℕ → ℕ → Type 0) (image : ℕ → ℕ) (holds fails : List ℕ) (p q : ℕ) : Type 0 where
  old_pair : P p q → Widened P image holds fails p q
  new_pair : Named image holds p → Named image fails q → Widened P image holds fails p q

pub any_named : (image : ℕ → ℕ) (laws : List ℕ) (test : ℕ → Bool) → list_any (λ law. test (image law)) laws ≡ true
    → (law : ℕ) × Named image laws law × (test law ≡ true)
any_named image [] test h = absurd (cc (h))
any_named image (law ∷ laws) test h =
    elim (or_cases (test (image law)) (list_any (λ l. test (image l)) laws) h) [
      | inl here ↦ (image law, record { source = law; among = (0, omega arith, refl); is = refl }, here)
      | inr later ↦
          let found = any_named image laws test later in
          let place = found.1.among in
          (found.0, record { source = found.1.source; among = (suc place.0, omega (arith, place.1), place.2); is = found.1.is }, found.2)
    ]

pub named_any : (image : ℕ → ℕ) (laws : List ℕ) (test : ℕ → Bool) (law : ℕ) → Named image laws law → test law ≡ true
    → list_any (λ l. test (image l)) laws ≡ true
named_any image laws test law named h = go laws named.among.0 named.among.1 named.among.2
  where
    go : (rest : List ℕ) (place : ℕ) → place < length rest → get_or rest place named.source ≡ named.source
        → list_any (λ l. test (image l)) rest ≡ true
    go [] place inside at = absurd (omega arith)
    go (x ∷ rest) zero inside at = or_left (test (image x)) _ (ap (λ l. test (image l)) at ∙ ap test (sym named.is) ∙ h)
    go (x ∷ rest) (suc place) inside at = or_right (test (image x)) _ (go rest place (omega arith) at)

pub widened_spread : (P R : ℕ → ℕ → Type 0) (r c c' : ℕ → ℕ → Bool) (image : ℕ → ℕ) (holds fails : List ℕ)
    → Agrees r R → Agrees c (Spread P R)
    → ((x y : ℕ) → c' x y ≡ (c x y || (list_any (λ law. r (image law) x) holds && list_any (λ law. r y (image law)) fails)))
    → Agrees c' (Spread (Widened P image holds fails) R)
widened_spread P R r c c' image holds fails agrees covers new_c = record {
  sound = λ {x} {y} h. forward x y (or_cases (c x y) (list_any (λ law. r (image law) x) holds && list_any (λ law. r y (image law)) fails) (sym (new_c x y) ∙ h));
  complete = λ {x} {y} s. new_c x y ∙ back x y s.first s.second s.pair s.before s.after;
}
  where
    forward : (x y : ℕ) → (c x y ≡ true) ⊎ ((list_any (λ law. r (image law) x) holds && list_any (λ law. r y (image law)) fails) ≡ true)
        → Spread (Widened P image holds fails) R x y
    forward x y (inl h) = let s = covers.sound h in
        record { first = s.first; second = s.second; pair = old_pair s.pair; before = s.before; after = s.after }
    forward x y (inr h) =
        let parts = and_parts (list_any (λ law. r (image law) x) holds) (list_any (λ law. r y (image law)) fails) h in
        let one = any_named image holds (λ law. r law x) parts.0 in
        let two = any_named image fails (λ law. r y law) parts.1 in
        record { first = one.0; second = two.0; pair = new_pair one.1 two.1; before = agrees.sound one.2; after = agrees.sound two.2 }

    back : (x y p q : ℕ) → Widened P image holds fails p q → R p x → R y q
        → (c x y || (list_any (λ law. r (image law) x) holds && list_any (λ law. r y (image law)) fails)) ≡ true
    back x y p q (old_pair pair) before after =
        or_left (c x y) _ (covers.complete (record { first = p; second = q; pair = pair; before = before; after = after }))
    back x y p q (new_pair one two) before after =
        or_right (c x y) _ (and_from (list_any (λ law. r (image law) x) holds) (list_any (λ law. r y (image law)) fails)
        (named_any image holds (λ law. r law x) p one (agrees.complete before))
        (named_any image fails (λ law. r y law) q two (agrees.complete after)))
