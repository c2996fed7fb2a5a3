-- Being the same law is an equivalence, and laws that are the same derive each other.
use Rattle.std.proofs.Common.{◌≡◌, ◌≢◌, ℕ, zero, suc, ◌<◌, ◌≤◌, max, ◌⊎◌, inl, inr, Bool, true, false, cond, eqb, refl, sym, ap, ap₂, ◌∙◌, subst, subst₂, arith, eqb-true, eq-eqb, ne_eqb}
use Rattle.etp_theory.specs.Trees.{Tree, var, op, renamed, bound, dual, law_dual, law_renamed, exchanged, Equation}
use Rattle.etp_theory.specs.Substitutions.{apply}
use Rattle.etp_theory.specs.Sameness.{IsInjective, Same}
use Rattle.etp_theory.specs.Derivations.{Concludes, by_law, symmetric as backwards, Derives}
use Rattle.etp_theory.proofs.Comparing.{equal_or_below}
use Rattle.etp_theory.proofs.Trees.{pair_eq}

pub renamed_applied : (f : ℕ → ℕ) (t : Tree) → renamed f t ≡ apply (λ v. var (f v)) t
renamed_applied f (var v) = refl
renamed_applied f (op l r) = ap₂ op (renamed_applied f l) (renamed_applied f r)

pub renamed_twice : (f g : ℕ → ℕ) (t : Tree) → renamed g (renamed f t) ≡ renamed (λ v. g (f v)) t
renamed_twice f g (var v) = refl
renamed_twice f g (op l r) = ap₂ op (renamed_twice f g l) (renamed_twice f g r)

pub renamed_not : (t : Tree) → renamed (λ v. v) t ≡ t
renamed_not (var v) = refl
renamed_not (op l r) = ap₂ op (renamed_not l) (renamed_not r)

pub renamed_dual : (f : ℕ → ℕ) (t : Tree) → renamed f (dual t) ≡ dual (renamed f t)
renamed_dual f (var v) = refl
renamed_dual f (op l r) = ap₂ op (renamed_dual f r) (renamed_dual f l)

-- two numbers exchanged
abbrev pub swap : ℕ → ℕ → ℕ → ℕ
swap a b x = cond (eqb x a) b (cond (eqb x b) a x)

swap_first : (a b : ℕ) → swap a b a ≡ b
swap_first a b = ap (λ c. cond c b (cond (eqb a b) a a)) (eq-eqb a a refl)

swap_other : (a b x : ℕ) → x ≢ a → x ≢ b → swap a b x ≡ x
swap_other a b x h k = ap₂ (λ c d. cond c b (cond d a x)) (ne_eqb x a h) (ne_eqb x b k)

swap_second : (a b : ℕ) → swap a b b ≡ a
swap_second a b = go (eqb b a) refl
  where
    go : (c : Bool) → eqb b a ≡ c → cond c b (cond (eqb b b) a b) ≡ a
    go true q = eqb-true b a q
    go false q = ap (λ z. cond z a b) (eq-eqb b b refl)

swap_twice : (a b x : ℕ) → swap a b (swap a b x) ≡ x
swap_twice a b x = go (eqb x a) refl (eqb x b) refl
  where
    go : (c : Bool) → eqb x a ≡ c → (d : Bool) → eqb x b ≡ d → swap a b (cond c b (cond d a x)) ≡ x
    go true h d k = swap_second a b ∙ sym (eqb-true x a h)
    go false h true k = swap_first a b ∙ sym (eqb-true x b k)
    go false h false k = ap₂ (λ c d. cond c b (cond d a x)) h k

pub swap_injective : (a b : ℕ) → IsInjective (swap a b)
swap_injective a b x y h = sym (swap_twice a b x) ∙ ap (swap a b) h ∙ swap_twice a b y

-- a renaming that undoes another one below `n`
pub record Undoing (f : ℕ → ℕ) (n : ℕ) : Type 0 where
  pub by : ℕ → ℕ
  pub injective : IsInjective by
  pub back : (v : ℕ) → v < n → by (f v) ≡ v

undone_more : (f : ℕ → ℕ) → IsInjective f → (n : ℕ) → (u : Undoing f n) → (v : ℕ) → v < suc n → swap (u.by (f n)) n (u.by (f v)) ≡ v
undone_more f inj n u v h = go (equal_or_below v n h)
  where
    apart : v < n → v ≢ u.by (f n)
    apart l q = let e : v ≡ n = inj v n (u.injective (f v) (f n) (u.back v l ∙ q)) in omega arith

    go : (v ≡ n) ⊎ (v < n) → swap (u.by (f n)) n (u.by (f v)) ≡ v
    go (inl e) = ap (λ x. swap (u.by (f n)) n (u.by (f x))) e ∙ swap_first (u.by (f n)) n ∙ sym e
    go (inr l) = ap (swap (u.by (f n)) n) (u.back v l) ∙ swap_other (u.by (f n)) n v (apart l) (λ q. omega arith)

undoing : (f : ℕ → ℕ) → IsInjective f → (n : ℕ) → Undoing f n
undoing f inj zero = record { by = λ v. v; injective = λ x y h. h; back = λ v h. absurd (omega arith) }
undoing f inj (suc n) =
    let u = undoing f inj n in
    record { by = λ x. swap (u.by (f n)) n (u.by x); injective = λ x y h. u.injective x y (swap_injective (u.by (f n)) n (u.by x) (u.by y) h); back = undone_more f inj n u }

unrenamed : (f : ℕ → ℕ) (n : ℕ) (u : Undoing f n) (t : Tree) → bound t ≤ n → renamed u.by (renamed f t) ≡ t
unrenamed f n u (var v) h = ap var (u.back v h)
unrenamed f n u (op a b) h = ap₂ op (unrenamed f n u a (omega arith)) (unrenamed f n u b (omega arith))

pub reflexive : (p : Equation) → Same p p
reflexive p = (λ v. v, λ x y h. h, inl (pair_eq (renamed_not p.left) (renamed_not p.right)))

pub symmetric : (p q : Equation) → Same p q → Same q p
symmetric p q s = (u.by, u.injective, go s.2)
  where
    n : ℕ
    n = max (bound p.left) (bound p.right)

    u : Undoing s.0 n
    u = undoing s.0 s.1 n

    l : renamed u.by (renamed s.0 p.left) ≡ p.left
    l = unrenamed s.0 n u p.left (omega arith)

    r : renamed u.by (renamed s.0 p.right) ≡ p.right
    r = unrenamed s.0 n u p.right (omega arith)

    go : (law_renamed s.0 p ≡ q) ⊎ (law_renamed s.0 p ≡ exchanged q) → (law_renamed u.by q ≡ p) ⊎ (law_renamed u.by q ≡ exchanged p)
    go (inl e) = inl (ap (law_renamed u.by) (sym e) ∙ pair_eq l r)
    go (inr e) = inr (ap (λ z. law_renamed u.by (exchanged z)) (sym e) ∙ pair_eq r l)

pub transitive : (p q r : Equation) → Same p q → Same q r → Same p r
transitive p q r s t = (λ v. t.0 (s.0 v), λ x y h. s.1 x y (t.1 (s.0 x) (s.0 y) h), go s.2 t.2)
  where
    twice : law_renamed (λ v. t.0 (s.0 v)) p ≡ law_renamed t.0 (law_renamed s.0 p)
    twice = pair_eq (sym (renamed_twice s.0 t.0 p.left)) (sym (renamed_twice s.0 t.0 p.right))

    go : (law_renamed s.0 p ≡ q) ⊎ (law_renamed s.0 p ≡ exchanged q) → (law_renamed t.0 q ≡ r) ⊎ (law_renamed t.0 q ≡ exchanged r) → (law_renamed (λ v. t.0 (s.0 v)) p ≡ r) ⊎ (law_renamed (λ v. t.0 (s.0 v)) p ≡ exchanged r)
    go (inl e) (inl f) = inl (twice ∙ ap (law_renamed t.0) e ∙ f)
    go (inl e) (inr f) = inr (twice ∙ ap (law_renamed t.0) e ∙ f)
    go (inr e) (inl f) = inr (twice ∙ ap (law_renamed t.0) e ∙ ap exchanged f)
    go (inr e) (inr f) = inl (twice ∙ ap (law_renamed t.0) e ∙ ap exchanged f)

pub dualised : (p q : Equation) → Same p q → Same (law_dual p) (law_dual q)
dualised p q s = (s.0, s.1, go s.2)
  where
    turned : law_renamed s.0 (law_dual p) ≡ law_dual (law_renamed s.0 p)
    turned = pair_eq (renamed_dual s.0 p.left) (renamed_dual s.0 p.right)

    go : (law_renamed s.0 p ≡ q) ⊎ (law_renamed s.0 p ≡ exchanged q) → (law_renamed s.0 (law_dual p) ≡ law_dual q) ⊎ (law_renamed s.0 (law_dual p) ≡ exchanged (law_dual q))
    go (inl e) = inl (turned ∙ ap law_dual e)
    go (inr e) = inr (turned ∙ ap law_dual e)

pub same_forth : (p q : Equation) → Same p q → Derives p q
same_forth p q s = go s.2
  where
    d : Concludes p (renamed s.0 p.left) (renamed s.0 p.right)
    d = subst₂ (Concludes p) (sym (renamed_applied s.0 p.left)) (sym (renamed_applied s.0 p.right)) (by_law (λ v. var (s.0 v)))

    go : (law_renamed s.0 p ≡ q) ⊎ (law_renamed s.0 p ≡ exchanged q) → Derives p q
    go (inl e) = subst (λ (z : Equation). Concludes p z.left z.right) e d
    go (inr e) = backwards (subst (λ (z : Equation). Concludes p z.left z.right) e d)

pub same_derives : (p q : Equation) → Same p q → Derives p q × Derives q p
same_derives p q s = (same_forth p q s, same_forth q p (symmetric p q s))
