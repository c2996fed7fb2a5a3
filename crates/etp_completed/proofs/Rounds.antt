-- Rounds add one rule, so they come to one list of rules after another.
use Rattle.std.proofs.Common.{◌≡◌, ℕ, zero, suc, ◌<◌, ◌≤◌, ◌⊎◌, inl, inr, List, [], ◌∷◌, ◌++◌, length, Some, slice_get, sym, ap, ◌∙◌, subst, subst₂, arith}
use Rattle.std.proofs.lemmas.List.{length-append}
use Rattle.std.proofs.lemmas.Option.{same_Some, slice_get_within}
use Rattle.etp_theory.specs.Trees.{Tree, Equation}
use Rattle.etp_theory.specs.Weights.{Weight, IsDecreasing, AllDecrease}
use Rattle.etp_theory.specs.FailingOverlaps.{two_forms}
use Rattle.etp_rules.specs.Deciding.{IsInRange}
use Rattle.etp_complete.specs.Completions.{Problem, weight_of, Orients, forth, back, Adds, ComesTo, at_first, by_round}
use Rattle.etp_completed.proofs.FirstFailing.{one_failing}

-- what stands in a longer list stood in the shorter one, or is the new item
which : {A : Type 0} (xs : List A) (x : A) (i : ℕ) (e : A) → slice_get (xs ++ x ∷ []) i ≡ Some e → (slice_get xs i ≡ Some e) ⊎ (x ≡ e)
which [] x zero e h = inr (same_Some x e h)
which [] x (suc i) e h = absurd (let l : suc i < 1 = slice_get_within (x ∷ []) (suc i) e h in omega (arith, l))
which (y ∷ ys) x zero e h = inl h
which (y ∷ ys) x (suc i) e h = which ys x i e h

-- all rules lower the weight

lowers : (w : Weight) (l r : Tree) (rule : Equation) → Orients w l r rule → IsDecreasing w rule
lowers w l r rule (forth d q) = subst (IsDecreasing w) (sym q) d
lowers w l r rule (back n d q) = subst (IsDecreasing w) (sym q) d

abbrev Lower : Problem → List Equation → Type 0
Lower p rules = (i : ℕ) (e : Equation) → slice_get rules i ≡ Some e → IsDecreasing (weight_of p) e

lower_more : (p : Problem) (rules more : List Equation) → Adds p rules more → Lower p rules → Lower p more
lower_more p rules more a h i e k = go (which rules a.rule i e (subst (λ (xs : List Equation). slice_get xs i ≡ Some e) a.added k))
  where
    go : (slice_get rules i ≡ Some e) ⊎ (a.rule ≡ e) → IsDecreasing (weight_of p) e
    go (inl m) = h i e m
    go (inr q) = subst (IsDecreasing (weight_of p)) q (lowers (weight_of p) a.left a.right a.rule a.oriented)

all_lower : (p : Problem) {rules : List Equation} → ComesTo p rules → Lower p rules
all_lower p at_first i e h = absurd (let l : i < 0 = slice_get_within [] i e h in omega (arith, l))
all_lower p (by_round {rules = xs} {more = ys} c a) i e h = lower_more p xs ys a (all_lower p c) i e h

pub all_decrease : (p : Problem) → IsInRange (weight_of p) → (rules : List Equation) → ComesTo p rules → AllDecrease (weight_of p) rules
all_decrease p range rules c = record {
  left_counts = omega (arith, range.left_low);
  right_counts = omega (arith, range.right_low);
  each = all_lower p c;
}

-- no round begins with 64 rules

short_more : (p : Problem) (rules more : List Equation) → Adds p rules more → length more ≤ 64
short_more p rules more a = omega (arith, ap length a.added, length-append rules (a.rule ∷ []), a.room)

pub few : (p : Problem) {rules : List Equation} → ComesTo p rules → length rules ≤ 64
few p at_first = omega arith
few p (by_round {rules = xs} {more = ys} c a) = short_more p xs ys a

-- a round adds one rule

one_rule : (w : Weight) (l r : Tree) (a b : Equation) → Orients w l r a → Orients w l r b → a ≡ b
one_rule w l r a b (forth d q) (forth e s) = q ∙ sym s
one_rule w l r a b (forth d q) (back n e s) = absurd (n d)
one_rule w l r a b (back n d q) (forth e s) = absurd (n e)
one_rule w l r a b (back n d q) (back m e s) = q ∙ sym s

pub left_of : (l r x y : Tree) → two_forms l r ≡ two_forms x y → l ≡ x
left_of l r x y e = cc

pub right_of : (l r x y : Tree) → two_forms l r ≡ two_forms x y → r ≡ y
right_of l r x y e = cc

one_more : (p : Problem) (rules m n : List Equation) → AllDecrease (weight_of p) rules → Adds p rules m → Adds p rules n → m ≡ n
one_more p rules m n all x y =
    let same = (one_failing p rules all x.origin y.origin (two_forms x.left x.right) (two_forms y.left y.right) x.fails y.fails).findings in
    let lefts = left_of x.left x.right y.left y.right same in
    let rights = right_of x.left x.right y.left y.right same in
    let rule = one_rule (weight_of p) y.left y.right x.rule y.rule (subst₂ (λ s t. Orients (weight_of p) s t x.rule) lefts rights x.oriented) y.oriented in
    x.added ∙ ap (λ (z : Equation). rules ++ z ∷ []) rule ∙ sym y.added

-- some rounds, perhaps none, lead from one list to another
pub data Before (p : Problem) : List Equation → List Equation → Type 0 where
  same : {a : List Equation} → Before p a a
  round : {a b c : List Equation} → Adds p a b → Before p b c → Before p a c

then_round : (p : Problem) {a b c : List Equation} → Before p a b → Adds p b c → Before p a c
then_round p same x = round x same
then_round p (round y h) x = round y (then_round p h x)

from_none : (p : Problem) {a : List Equation} → ComesTo p a → Before p [] a
from_none p at_first = same
from_none p (by_round c x) = then_round p (from_none p c) x

module _ (p : Problem) (range : IsInRange (weight_of p)) where
  in_a_row : {x a b : List Equation} → ComesTo p x → Before p x a → Before p x b → Before p a b ⊎ Before p b a
  in_a_row c same k = inl k
  in_a_row c (round y h) same = inr (round y h)
  in_a_row {x} {a} {b} c (round {b = m} y h) (round {b = n} z k) =
      in_a_row (by_round c y) h (subst (λ (t : List Equation). Before p t b) (one_more p x n m (all_decrease p range x c) z y) k)

  pub one_before : (a b : List Equation) → ComesTo p a → ComesTo p b → Before p a b ⊎ Before p b a
  one_before a b c d = in_a_row at_first (from_none p c) (from_none p d)
