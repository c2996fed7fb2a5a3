-- The least of the terms to which a step leads.
use Rattle.std.proofs.Common.{◌≡◌, ◌≢◌, ◌≤◌, ◌+◌, ◌⊎◌, ℕ, true, false, true≢false, List, Option, Some, None, IfSome, refl, inl, inr, arith, sym, ap, ◌∙◌, subst}
use Rattle.std.specs.List.{slice_get}
use Rattle.std.specs.Option.{option_copied, option_map}
use Rattle.std.specs.Ordering.{nat_cmp, ordering_then, ordering_reverse, is_gt}
use Rattle.std.specs.Cmp.{IsTotalOrder}
use Rattle.std.specs.Cmp.Lexicographic.{slice_cmp}
use Rattle.std.specs.Borrow.{Bor}
use Rattle.std.specs.declared.cmp.Ordering.{Ordering}
use Rattle.std.specs.declared.cmp.Ordering.TheVariants.{Less, Equal, Greater}
use Rattle.std.proofs.lemmas.Cmp.{upto, on_total, then_total, nat_cmp_total, nat_list_cmp_total, tied_itself}
use Rattle.std.proofs.lemmas.Option.{same_Some}
use Rattle.etp_theory.specs.Trees.{Tree, leaves, shape_of, word_of, Equation}
use Rattle.etp_theory.specs.Orders.{shape_cmp}
use Rattle.etp_theory.proofs.Orders.{shape_order, shape_equal}
use Rattle.etp_term.specs.Terms.{tree_of}
use Rattle.etp_term.specs.declared.term.Term.{Term}
use Rattle.etp_search.specs.Spaces.{IsStepOf}
use Rattle.etp_search.specs.Shortest.{term_cmp}
use Rattle.etp_search.specs.Levels.{StandsIn, IsLeastOf, IsLeastIn, IsLesser, skipped, taken}
use Rattle.etp_search.proofs.Standing.{stands_wider, stands_more, stands_at}

-- the order of terms

pub term_order : IsTotalOrder term_cmp
term_order = then_total (on_total leaves nat_cmp_total) (then_total (on_total shape_of shape_order) (on_total word_of nat_list_cmp_total))

not_greater : (o : Ordering) → o ≢ Greater → is_gt o ≡ false
not_greater Less h = refl
not_greater Equal h = refl
not_greater Greater h = absurd (h refl)

greater_not : (o : Ordering) → is_gt o ≡ false → o ≢ Greater
greater_not o h = λ e. true≢false (ap is_gt (sym e) ∙ h)

pub term_upto : (s t u : Tree) → term_cmp s t ≢ Greater → term_cmp t u ≢ Greater → term_cmp s u ≢ Greater
term_upto s t u h k = greater_not (term_cmp s u) (upto term_order s t u (not_greater (term_cmp s t) h) (not_greater (term_cmp t u) k))

pub term_itself : (s : Tree) → term_cmp s s ≢ Greater
term_itself s = λ e. let k : Equal ≡ Greater = sym (tied_itself term_order s) ∙ e in cc

pub term_turned : (s t : Tree) → term_cmp s t ≡ Greater → term_cmp t s ≢ Greater
term_turned s t h = λ k. let z : Greater ≡ Less = sym h ∙ term_order.antisymm s t ∙ ap ordering_reverse k in cc

pub not_gt : (s t : Tree) → is_gt (term_cmp s t) ≡ false → term_cmp s t ≢ Greater
not_gt s t h = greater_not (term_cmp s t) h

pub gt_turned : (s t : Tree) → is_gt (term_cmp s t) ≡ true → term_cmp t s ≢ Greater
gt_turned s t h = term_turned s t (is (term_cmp s t) h)
  where
    is : (o : Ordering) → is_gt o ≡ true → o ≡ Greater
    is Less k = absurd (true≢false (sym k))
    is Equal k = absurd (true≢false (sym k))
    is Greater k = refl

-- from the orders of leaves, shapes and words; the words count where the shapes are equal
pub compared : (s t : Tree) (w : Ordering) → (shape_of s ≡ shape_of t → w ≡ slice_cmp nat_cmp (word_of s) (word_of t))
    → ordering_then (nat_cmp (leaves s) (leaves t)) (ordering_then (shape_cmp (shape_of s) (shape_of t)) w) ≡ term_cmp s t
compared s t w h = ap (ordering_then (nat_cmp (leaves s) (leaves t))) (by (shape_cmp (shape_of s) (shape_of t)) refl)
  where
    by : (o : Ordering) → shape_cmp (shape_of s) (shape_of t) ≡ o → ordering_then o w ≡ ordering_then o (slice_cmp nat_cmp (word_of s) (word_of t))
    by Less e = refl
    by Equal e = h (shape_equal (shape_of s) (shape_of t) e)
    by Greater e = refl

-- one term, or the lesser of two
pub taken_first : (law : Equation) (s : Tree) (least : Option (Bor Term)) (t : Tree) → least ≡ None → IsStepOf law s t → IsLesser law s (option_map tree_of (option_copied least)) t (Some t)
taken_first law s least t none step = taken t step refl (inr refl) (term_itself t) (λ u e. absurd (let k : None ≡ Some u = sym (ap (λ o. option_map tree_of (option_copied o)) none) ∙ e in cc))

pub taken_lesser : (law : Equation) (s : Tree) (least : Option (Bor Term)) (other : Bor Term) (t r : Tree) → least ≡ Some other → IsStepOf law s t
    → (r ≡ tree_of other.now) ⊎ (r ≡ t) → term_cmp r (tree_of other.now) ≢ Greater → term_cmp r t ≢ Greater
    → IsLesser law s (option_map tree_of (option_copied least)) t (Some r)
taken_lesser law s least other t r is step either upto_other upto_t =
    taken r step refl (which either) upto_t (λ u e. subst (λ w. term_cmp r w ≢ Greater) (same_Some _ _ (sym was ∙ e)) upto_other)
  where
    was : option_map tree_of (option_copied least) ≡ Some (tree_of other.now)
    was = ap (λ o. option_map tree_of (option_copied o)) is

    which : (r ≡ tree_of other.now) ⊎ (r ≡ t) → (option_map tree_of (option_copied least) ≡ Some r) ⊎ (r ≡ t)
    which (inl e) = inl (was ∙ ap Some (sym e))
    which (inr e) = inr e

-- the least so far, and one term more
module _ (law : Equation) (s : Tree) (terms : List Tree) (start stop : ℕ) (t : Tree) (order : start ≤ stop) (here : slice_get terms stop ≡ Some t) where
  wider : (u : Tree) → StandsIn terms start stop u → StandsIn terms start (stop + 1) u
  wider u h = stands_wider terms start stop start (stop + 1) u (omega arith) (omega arith) h

  -- a step leads to it
  keeps : (least : Option Tree) (r : Tree) → IsStepOf law s t → (least ≡ Some r) ⊎ (r ≡ t) → term_cmp r t ≢ Greater → ((u : Tree) → least ≡ Some u → term_cmp r u ≢ Greater)
      → IsLeastIn (IsStepOf law s) terms start stop least → IsLeastOf (IsStepOf law s) terms start (stop + 1) r
  keeps None r step (inl e) upto_t upto_least h = absurd (let k : None ≡ Some r = e in cc)
  keeps None r step (inr e) upto_t upto_least h = record {
    among = subst (StandsIn terms start (stop + 1)) (sym e) (stands_at terms start stop t order here);
    has = subst (IsStepOf law s) (sym e) step;
    least = λ u k p. by u p (stands_more terms start stop t u here k);
  }
    where
      by : (u : Tree) → IsStepOf law s u → StandsIn terms start stop u ⊎ (t ≡ u) → term_cmp r u ≢ Greater
      by u p (inl k) = absurd (h u k p)
      by u p (inr q) = subst (λ w. term_cmp r w ≢ Greater) q upto_t
  keeps (Some v) r step which upto_t upto_least h = record {
    among = place which;
    has = holds which;
    least = λ u k p. by u p (stands_more terms start stop t u here k);
  }
    where
      place : (Some v ≡ Some r) ⊎ (r ≡ t) → StandsIn terms start (stop + 1) r
      place (inl e) = subst (StandsIn terms start (stop + 1)) (same_Some _ _ e) (wider v h.among)
      place (inr e) = subst (StandsIn terms start (stop + 1)) (sym e) (stands_at terms start stop t order here)

      holds : (Some v ≡ Some r) ⊎ (r ≡ t) → IsStepOf law s r
      holds (inl e) = subst (IsStepOf law s) (same_Some _ _ e) h.has
      holds (inr e) = subst (IsStepOf law s) (sym e) step

      by : (u : Tree) → IsStepOf law s u → StandsIn terms start stop u ⊎ (t ≡ u) → term_cmp r u ≢ Greater
      by u p (inl k) = term_upto r v u (upto_least v refl) (h.least u k p)
      by u p (inr q) = subst (λ w. term_cmp r w ≢ Greater) q upto_t

  stays : (least : Option Tree) → (IsStepOf law s t → ⊥) → IsLeastIn (IsStepOf law s) terms start stop least → IsLeastIn (IsStepOf law s) terms start (stop + 1) least
  stays None never h = λ u k p. by u p (stands_more terms start stop t u here k)
    where
      by : (u : Tree) → IsStepOf law s u → StandsIn terms start stop u ⊎ (t ≡ u) → ⊥
      by u p (inl j) = h u j p
      by u p (inr e) = never (subst (IsStepOf law s) (sym e) p)
  stays (Some v) never h = record {
    among = wider v h.among;
    has = h.has;
    least = λ u k p. by u p (stands_more terms start stop t u here k);
  }
    where
      by : (u : Tree) → IsStepOf law s u → StandsIn terms start stop u ⊎ (t ≡ u) → term_cmp v u ≢ Greater
      by u p (inl j) = h.least u j p
      by u p (inr e) = absurd (never (subst (IsStepOf law s) (sym e) p))

  pub least_more : (least result : Option Tree) → IsLesser law s least t result → IsLeastIn (IsStepOf law s) terms start stop least → IsLeastIn (IsStepOf law s) terms start (stop + 1) result
  least_more least result (skipped never e) h = subst (IsLeastIn (IsStepOf law s) terms start (stop + 1)) (sym e) (stays least never h)
  least_more least result (taken r step e which upto_t upto_least) h =
      subst (IsLeastIn (IsStepOf law s) terms start (stop + 1)) (sym e) (keeps least r step which upto_t upto_least h)

-- of no terms
pub least_nothing : (P : Tree → Type 0) (terms : List Tree) (start : ℕ) → IsLeastIn P terms start start None
least_nothing P terms start = λ u k p. let a = k.from in let b = k.before in omega (arith, a, b)

-- a property that says the same of the terms there
pub least_same : (P Q : Tree → Type 0) (terms : List Tree) (start stop : ℕ) (o : Option Tree)
    → ((t : Tree) → StandsIn terms start stop t → P t → Q t) → ((t : Tree) → StandsIn terms start stop t → Q t → P t)
    → IsLeastIn P terms start stop o → IsLeastIn Q terms start stop o
least_same P Q terms start stop None to from h = λ u k q. h u k (from u k q)
least_same P Q terms start stop (Some t) to from h = record { among = h.among; has = to t h.among h.has; least = λ u k q. h.least u k (from u k q) }

-- a bound on the terms there
pub least_narrow : (P : Tree → Type 0) (terms : List Tree) (start stop n : ℕ) (o : Option (Bor Term)) → ((t : Tree) → StandsIn terms start stop t → leaves t ≤ n)
    → IsLeastIn P terms start stop (option_map tree_of (option_copied o)) → IfSome o (λ t. leaves (tree_of t.now) ≤ n)
least_narrow P terms start stop n None narrow h = tt
least_narrow P terms start stop n (Some t) narrow h = narrow (tree_of t.now) h.among
