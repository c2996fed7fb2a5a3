-- Variables are numbered as they come in one way, so a place has one critical pair, and a system one refusal.
use Rattle.std.proofs.Common.{◌≡◌, ◌≢◌, ℕ, ◌<◌, ◌≤◌, max, ◌⊎◌, inl, inr, List, Option, Some, None, slice_get, refl, sym, ap, ap₂, ◌∙◌, subst, subst₂, arith}
use Rattle.std.proofs.lemmas.Bool.{cases_order}
use Rattle.std.proofs.lemmas.Option.{same_Some}
use Rattle.etp_theory.specs.Trees.{Tree, var, op, Occurs, bound, renamed, Equation}
use Rattle.etp_theory.specs.Substitutions.{apply, then_apply, raise}
use Rattle.etp_theory.specs.Positions.{Side, sub_at, put_at}
use Rattle.etp_theory.specs.Weights.{Weight, AllDecrease}
use Rattle.etp_theory.specs.Unifiers.{IsMostGeneral}
use Rattle.etp_theory.specs.Overlaps.{Overlap, outer_part, inner_part, right_result, IsConvergent}
use Rattle.etp_theory.specs.FailingOverlaps.{Place, IsCriticalPair, KeepsApart, Finding, two_forms, term_limit, step_limit, IsFinding}
use Rattle.etp_theory.proofs.Trees.{composed, identity}
use Rattle.etp_theory.proofs.Matching.{apply_agree, agree_of_apply}
use Rattle.etp_theory.proofs.Sameness.{renamed_applied}
use Rattle.etp_theory.proofs.Unifiers.{occurs_bound, through}
use Rattle.etp_theory.proofs.Renaming.{right_through}
use Rattle.etp_theory.proofs.Ends.{one_finding}
use Rattle.etp_theory.proofs.Failing.{not_convergent, only_first}
use Rattle.etp_term.specs.Terms.{tree_of}
use Rattle.etp_term.specs.Positions.{position_of}
use Rattle.etp_pairs.specs.Numbering.{GoesOn, IsNumbered}
use Rattle.etp_pairs.specs.Pairs.{IsPairOf, IsPairAt, IsPair}
use Rattle.etp_pairs.specs.Refusals.{IsFirstAt, IsRefused}
use Rattle.etp_pairs.specs.declared.pairing.CriticalPair.{CriticalPair}
use Rattle.etp_pairs.specs.declared.refusal.PairsRefusal.{PairsRefusal}
use Rattle.etp_pairs.specs.declared.refusal.PairsRefusal.TheVariants.{Unjoinable, TermLimit, StepLimit, NoMemory}
use Rattle.etp_pairs.proofs.Terms.{one_term, one_position}

-- a number below what has come belongs to a variable that came before, or to one of the term
came : (n : ℕ) (t : Tree) (v : ℕ) → GoesOn n t → v < max n (bound t) → (v < n) ⊎ Occurs v t
came n (var x) v h l = go (cases_order v n)
  where
    go : (v ≡ n) ⊎ ((v < n) ⊎ (n < v)) → (v < n) ⊎ (x ≡ v)
    go (inl e) = inr (omega (arith, h, l, e))
    go (inr (inl k)) = inl k
    go (inr (inr k)) = absurd (omega (arith, h, l, k))
came n (op a b) v h l = elim (came (max n (bound a)) b v h.1 (omega (arith, l))) [
  | inl k ↦ elim (came n a v h.0 k) [ inl x ↦ inl x | inr o ↦ inr (inl o) ]
  | inr o ↦ inr (inr o)
]

module _ (f : ℕ → ℕ) where
  -- no two variables that came before, or stand in the term, get one name
  abbrev Apart : ℕ → Tree → Type 0
  Apart n t = (v w : ℕ) → (v < n) ⊎ Occurs v t → (w < n) ⊎ Occurs w t → f v ≡ f w → v ≡ w

  abbrev Stay : ℕ → Type 0
  Stay n = (v : ℕ) → v < n → f v ≡ v

  same : (t : Tree) → ((v : ℕ) → Occurs v t → f v ≡ v) → renamed f t ≡ t
  same (var x) h = ap var (h x refl)
  same (op a b) h = ap₂ op (same a (λ v o. h v (inl o))) (same b (λ v o. h v (inr o)))

  -- a variable that comes next has the next number under both names
  next_stays : (n x : ℕ) → Stay n → Apart n (var x) → x ≡ n → f x ≤ n → (f x ≡ n) ⊎ ((f x < n) ⊎ (n < f x)) → f x ≡ x
  next_stays n x keep apart e k (inl q) = q ∙ sym e
  next_stays n x keep apart e k (inr (inl q)) = apart (f x) x (inl q) (inr refl) (keep (f x) q)
  next_stays n x keep apart e k (inr (inr q)) = absurd (omega (arith, k, q))

  variable_stays : (n x : ℕ) → Stay n → Apart n (var x) → x ≤ n → f x ≤ n → (v : ℕ) → v < max n (bound (var x)) → (v ≡ n) ⊎ ((v < n) ⊎ (n < v)) → f v ≡ v
  variable_stays n x keep apart h k v l (inl e) =
      let q : x ≡ n = omega (arith, h, l, e) in
      let same_name : v ≡ x = omega (arith, e, q) in
      subst (λ z. f z ≡ z) (sym same_name) (next_stays n x keep apart q k (cases_order (f x) n))
  variable_stays n x keep apart h k v l (inr (inl b)) = keep v b
  variable_stays n x keep apart h k v l (inr (inr b)) = absurd (omega (arith, h, l, b))

  -- so do all variables of a term that goes on under both names
  stays : (n : ℕ) (t : Tree) → Stay n → Apart n t → GoesOn n t → GoesOn n (renamed f t) → Stay (max n (bound t))
  stays n (var x) keep apart h k = λ v l. variable_stays n x keep apart h k v l (cases_order v n)
  stays n (op a b) keep apart h k =
      let m = max n (bound a) in
      let on_left : Stay m = stays n a keep (λ v w o p. apart v w (elim o [ inl l ↦ inl l | inr q ↦ inr (inl q) ]) (elim p [ inl l ↦ inl l | inr q ↦ inr (inl q) ])) h.0 k.0 in
      let left_same : renamed f a ≡ a = same a (λ v o. (let below = occurs_bound v a o in on_left v (omega (arith, below)))) in
      let goes_on : GoesOn m (renamed f b) = subst (λ z. GoesOn (max n (bound z)) (renamed f b)) left_same k.1 in
      let wider : (v : ℕ) → (v < m) ⊎ Occurs v b → (v < n) ⊎ Occurs v (op a b) = λ v o. elim o [
        | inl l ↦ elim (came n a v h.0 l) [ inl x ↦ inl x | inr q ↦ inr (inl q) ]
        | inr q ↦ inr (inr q)
      ] in
      let on_right : Stay (max m (bound b)) = stays m b on_left (λ v w o p. apart v w (wider v o) (wider w p)) h.1 goes_on in
      λ v l. on_right v (omega (arith, l))

  -- two terms that are numbered as they come under both names have the same names
  pub numbered_once : (s t : Tree) → KeepsApart f s t → IsNumbered s t → IsNumbered (renamed f s) (renamed f t) → (renamed f s ≡ s) × (renamed f t ≡ t)
  numbered_once s t apart h k =
      let none : Stay 0 = λ v l. absurd (omega (arith, l)) in
      let first_apart : Apart 0 s = λ v w o p. apart v w (elim o [ inl l ↦ absurd (omega (arith, l)) | inr q ↦ inl q ]) (elim p [ inl l ↦ absurd (omega (arith, l)) | inr q ↦ inl q ]) in
      let on_first : Stay (max 0 (bound s)) = stays 0 s none first_apart h.first k.first in
      let below_first : Stay (bound s) = λ v l. on_first v (omega (arith, l)) in
      let first_same : renamed f s ≡ s = same s (λ v o. below_first v (occurs_bound v s o)) in
      let goes_on : GoesOn (bound s) (renamed f t) = subst (λ z. GoesOn (bound z) (renamed f t)) first_same k.second in
      let either : (v : ℕ) → (v < bound s) ⊎ Occurs v t → Occurs v s ⊎ Occurs v t = λ v o. elim o [
        | inl l ↦ elim (came 0 s v h.first (omega (arith, l))) [ inl x ↦ absurd (omega (arith, x)) | inr q ↦ inl q ]
        | inr q ↦ inr q
      ] in
      let on_second : Stay (max (bound s) (bound t)) = stays (bound s) t below_first (λ v w o p. apart v w (either v o) (either w p)) h.second goes_on in
      (first_same, same t (λ v o. (let below = occurs_bound v t o in on_second v (omega (arith, below)))))

-- two pairs of terms that are instances of each other differ by names alone

abbrev name_or : ℕ → Tree → ℕ
name_or v (var y) = y
name_or v (op a b) = v

is_name : (j : ℕ → Tree) (v : ℕ) (u : Tree) → apply j u ≡ var v → u ≡ var (name_or v u)
is_name j v (var y) h = refl
is_name j v (op a b) h = absurd (cc)

undone : (k j : ℕ → Tree) (u : Tree) → apply j (apply k u) ≡ u → (v : ℕ) → Occurs v u → apply j (k v) ≡ var v
undone k j u h = agree_of_apply (then_apply k j) var u (sym (composed k j u) ∙ h ∙ sym (identity u))

module _ (k j : ℕ → Tree) (s t : Tree) (left : apply j (apply k s) ≡ s) (right : apply j (apply k t) ≡ t) where
  abbrev name : ℕ → ℕ
  name v = name_or v (k v)

  back : (v : ℕ) → Occurs v s ⊎ Occurs v t → apply j (k v) ≡ var v
  back v (inl o) = undone k j s left v o
  back v (inr o) = undone k j t right v o

  named : (v : ℕ) → Occurs v s ⊎ Occurs v t → k v ≡ var (name v)
  named v o = is_name j v (k v) (back v o)

  renames : (u : Tree) → ((v : ℕ) → Occurs v u → Occurs v s ⊎ Occurs v t) → apply k u ≡ renamed name u
  renames u h = apply_agree k (λ v. var (name v)) u (λ v o. named v (h v o)) ∙ sym (renamed_applied name u)

  apart : KeepsApart name s t
  apart x y o p e =
      let values : k x ≡ k y = named x o ∙ ap var e ∙ sym (named y p) in
      let q : var x ≡ var y = sym (back x o) ∙ ap (apply j) values ∙ back y p in
      cc

  instances : IsNumbered s t → IsNumbered (apply k s) (apply k t) → (s ≡ apply k s) × (t ≡ apply k t)
  instances h i =
      let l = renames s (λ v o. inl o) in
      let r = renames t (λ v o. inr o) in
      let once = numbered_once name s t apart h (subst₂ IsNumbered l r i) in
      (sym once.0 ∙ sym l, sym once.1 ∙ sym r)

-- critical pairs of one overlap

module _ (rules : List Equation) where
  one_pair_of : (o : Overlap rules) (s t u v : Tree) → IsCriticalPair o s t → IsCriticalPair o u v → IsNumbered s t → IsNumbered u v → (s ≡ u) × (t ≡ v)
  one_pair_of o s t u v p q h i =
      let k = p.general.factors q.unifier q.general.unifies in
      let j = q.general.factors p.unifier p.general.unifies in
      let left : apply k.0 s ≡ u = ap (apply k.0) p.left ∙ through p.unifier k.0 q.unifier k.1 o.outer_rule.right ∙ sym q.left in
      let right : apply k.0 t ≡ v = ap (apply k.0) p.right ∙ right_through o p.unifier k.0 q.unifier k.1 ∙ sym q.right in
      let left_back : apply j.0 u ≡ s = ap (apply j.0) q.left ∙ through q.unifier j.0 p.unifier j.1 o.outer_rule.right ∙ sym p.left in
      let right_back : apply j.0 v ≡ t = ap (apply j.0) q.right ∙ right_through o q.unifier j.0 p.unifier j.1 ∙ sym p.right in
      let same_terms = instances k.0 j.0 s t (ap (apply j.0) left ∙ left_back) (ap (apply j.0) right ∙ right_back) h (subst₂ IsNumbered (sym left) (sym right) i) in
      (same_terms.0 ∙ left, same_terms.1 ∙ right)

  -- and of two overlaps at one place

  module _ (o x : Overlap rules) (outer : o.outer ≡ x.outer) (position : o.position ≡ x.position) (inner : o.inner ≡ x.inner) where
    outer_rules : o.outer_rule ≡ x.outer_rule
    outer_rules = same_Some _ _ (sym o.outer_listed ∙ ap (slice_get rules) outer ∙ x.outer_listed)

    inner_rules : o.inner_rule ≡ x.inner_rule
    inner_rules = same_Some _ _ (sym o.inner_listed ∙ ap (slice_get rules) inner ∙ x.inner_listed)

    lefts : o.outer_rule.left ≡ x.outer_rule.left
    lefts = ap (λ (e : Equation). e.left) outer_rules

    outer_parts : outer_part o ≡ outer_part x
    outer_parts = same_Some _ _ (sym o.part ∙ ap₂ sub_at position lefts ∙ x.part)

    inner_parts : inner_part o ≡ inner_part x
    inner_parts = ap (λ (e : Equation). raise e.left) inner_rules

    rights : (m : ℕ → Tree) → right_result o m ≡ right_result x m
    rights m =
        ap (λ q. put_at q (apply m o.outer_rule.left) (apply m (raise o.inner_rule.right))) position
        ∙ ap₂ (put_at x.position) (ap (apply m) lefts) (ap (λ (e : Equation). apply m (raise e.right)) inner_rules)

    pair_there : (s t : Tree) → IsCriticalPair o s t → IsCriticalPair x s t
    pair_there s t p = record {
      unifier = p.unifier;
      general = subst₂ (IsMostGeneral p.unifier) outer_parts inner_parts p.general;
      left = p.left ∙ ap (λ (e : Equation). apply p.unifier e.right) outer_rules;
      right = p.right ∙ rights p.unifier;
    }

    one_pair_there : (s t u v : Tree) → IsPairOf o s t → IsPairOf x u v → (s ≡ u) × (t ≡ v)
    one_pair_there s t u v p q = one_pair_of x s t u v (pair_there s t p.critical) q.critical p.numbered q.numbered

  -- the critical pair of a place

  module _ (i : ℕ) (p : List Side) (j : ℕ) where
    one_pair_at : (a b : CriticalPair) → IsPairAt rules i p j a → IsPairAt rules i p j b → a ≡ b
    one_pair_at a b h k =
        let o = h.overlapped in
        let x = k.overlapped in
        let r = one_pair_there o x (omega (arith, h.at.outer_is, k.at.outer_is)) (h.at.position_is ∙ sym k.at.position_is) (omega (arith, h.at.inner_is, k.at.inner_is)) _ _ _ _ h.results k.results in
        let outers : a.outer ≡ b.outer = h.outer_is ∙ sym k.outer_is in
        let positions : a.position ≡ b.position = one_position a.position b.position (h.position_is ∙ sym k.position_is) in
        let inners : a.inner ≡ b.inner = h.inner_is ∙ sym k.inner_is in
        let terms_left : a.left ≡ b.left = one_term a.left b.left r.0 in
        let terms_right : a.right ≡ b.right = one_term a.right b.right r.1 in
        λ n. record { outer = outers n; position = positions n; inner = inners n; left = terms_left n; right = terms_right n }

    pub one_pair : (a b : Option CriticalPair) → IsPair rules i p j a → IsPair rules i p j b → a ≡ b
    one_pair None None h k = refl
    one_pair None (Some b) h k = absurd (h k.overlapped k.at k.results.critical.unifier k.results.critical.general.unifies)
    one_pair (Some a) None h k = absurd (k h.overlapped h.at h.results.critical.unifier h.results.critical.general.unifies)
    one_pair (Some a) (Some b) h k = ap Some (one_pair_at a b h k)

-- refusals

pub passes : (w : Weight) (rules : List Equation) (r : PairsRefusal) → IsConvergent w rules → IsRefused rules r → r ≡ NoMemory
passes w rules (Unjoinable i p j u v) c h = absurd (not_convergent rules w c.decreasing h.0.overlapped h.0.left h.0.right _ h.0.first.fails c)
passes w rules (TermLimit i p j) c h = absurd (not_convergent rules w c.decreasing h.overlapped h.left h.right _ h.first.fails c)
passes w rules (StepLimit i p j) c h = absurd (not_convergent rules w c.decreasing h.overlapped h.left h.right _ h.first.fails c)
passes w rules NoMemory c h = refl

record AreSame (i k : ℕ) (p q : List Side) (j l : ℕ) (f g : Finding) : Type 0 where
  outers : i ≡ k
  positions : p ≡ q
  inners : j ≡ l
  findings : f ≡ g

module _ (w : Weight) (rules : List Equation) (all : AllDecrease w rules) where
  one_first : (i k : ℕ) (p q : List Side) (j l : ℕ) (f g : Finding) → IsFirstAt rules i p j f → IsFirstAt rules k q l g → AreSame i k p q j l f g
  one_first i k p q j l f g h x =
      let only = only_first rules w all h.overlapped x.overlapped h.left h.right x.left x.right f g h.first x.first in
      let outers : h.overlapped.outer ≡ x.overlapped.outer = ap (λ (y : Place). y.outer) only.0 in
      let positions : h.overlapped.position ≡ x.overlapped.position = ap (λ (y : Place). y.position) only.0 in
      let inners : h.overlapped.inner ≡ x.overlapped.inner = ap (λ (y : Place). y.inner) only.0 in
      let pairs = one_pair_there rules h.overlapped x.overlapped outers positions inners h.left h.right x.left x.right h.results x.results in
      record {
        outers = omega (arith, h.at.outer_is, x.at.outer_is, outers);
        positions = sym h.at.position_is ∙ positions ∙ x.at.position_is;
        inners = omega (arith, h.at.inner_is, x.at.inner_is, inners);
        findings = one_finding rules x.left x.right f g (subst₂ (λ s t. IsFinding rules s t f) pairs.0 pairs.1 h.first.fails.found) x.first.fails.found;
      }

  differ : (f g : Finding) → (f ≡ g → ⊥) → (i k : ℕ) (p q : List Side) (j l : ℕ) → IsFirstAt rules i p j f → IsFirstAt rules k q l g → ⊥
  differ f g n i k p q j l h x = n (one_first i k p q j l f g h x).findings

  pub one_refusal : (r s : PairsRefusal) → IsRefused rules r → IsRefused rules s → r ≢ NoMemory → s ≢ NoMemory → r ≡ s
  one_refusal (Unjoinable i p j u v) (Unjoinable k q l x y) h g m n =
      let first = one_first i k (position_of p) (position_of q) j l (two_forms (tree_of u) (tree_of v)) (two_forms (tree_of x) (tree_of y)) h.0 g.0 in
      let outers : i ≡ k = first.outers in
      let positions : p ≡ q = one_position p q first.positions in
      let inners : j ≡ l = first.inners in
      let forms : two_forms (tree_of u) (tree_of v) ≡ two_forms (tree_of x) (tree_of y) = first.findings in
      let lefts : tree_of u ≡ tree_of x = cc in
      let rights : tree_of v ≡ tree_of y = cc in
      let left_terms : u ≡ x = one_term u x lefts in
      let right_terms : v ≡ y = one_term v y rights in
      λ z. Unjoinable (outers z) (positions z) (inners z) (left_terms z) (right_terms z)
  one_refusal (Unjoinable i p j u v) (TermLimit k q l) h g m n = absurd (differ (two_forms (tree_of u) (tree_of v)) term_limit (λ e. absurd (cc)) i k _ _ j l h.0 g)
  one_refusal (Unjoinable i p j u v) (StepLimit k q l) h g m n = absurd (differ (two_forms (tree_of u) (tree_of v)) step_limit (λ e. absurd (cc)) i k _ _ j l h.0 g)
  one_refusal (Unjoinable i p j u v) NoMemory h g m n = absurd (n refl)
  one_refusal (TermLimit i p j) (Unjoinable k q l x y) h g m n = absurd (differ term_limit (two_forms (tree_of x) (tree_of y)) (λ e. absurd (cc)) i k _ _ j l h g.0)
  one_refusal (TermLimit i p j) (TermLimit k q l) h g m n =
      let first = one_first i k (position_of p) (position_of q) j l term_limit term_limit h g in
      let outers : i ≡ k = first.outers in
      let positions : p ≡ q = one_position p q first.positions in
      let inners : j ≡ l = first.inners in
      λ z. TermLimit (outers z) (positions z) (inners z)
  one_refusal (TermLimit i p j) (StepLimit k q l) h g m n = absurd (differ term_limit step_limit (λ e. absurd (cc)) i k _ _ j l h g)
  one_refusal (TermLimit i p j) NoMemory h g m n = absurd (n refl)
  one_refusal (StepLimit i p j) (Unjoinable k q l x y) h g m n = absurd (differ step_limit (two_forms (tree_of x) (tree_of y)) (λ e. absurd (cc)) i k _ _ j l h g.0)
  one_refusal (StepLimit i p j) (TermLimit k q l) h g m n = absurd (differ step_limit term_limit (λ e. absurd (cc)) i k _ _ j l h g)
  one_refusal (StepLimit i p j) (StepLimit k q l) h g m n =
      let first = one_first i k (position_of p) (position_of q) j l step_limit step_limit h g in
      let outers : i ≡ k = first.outers in
      let positions : p ≡ q = one_position p q first.positions in
      let inners : j ≡ l = first.inners in
      λ z. StepLimit (outers z) (positions z) (inners z)
  one_refusal (StepLimit i p j) NoMemory h g m n = absurd (n refl)
  one_refusal NoMemory s h g m n = absurd (m refl)
