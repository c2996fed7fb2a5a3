-- What was added to a set, one part after another.
use Rattle.std.proofs.Common.{◌≡◌, ◌<◌, ◌⊎◌, ℕ, List, [], ◌∷◌, ◌++◌, length, length-append, inl, inr, arith, sym, ap, ◌∙◌, subst, append_assoc, Contains}
use Rattle.std.proofs.lemmas.List.Elements.{Contains-append_cases, Contains-push_cases, Contains-append_left, Contains-push}
use Rattle.etp_theory.specs.Trees.{Tree}
use Rattle.etp_search.specs.Sets.{IsOneMore, IsJoined}
use Rattle.etp_search.proofs.Kept.{contains_nothing, nil}

module _ (P : Tree → Type 0) (most : ℕ) (old : List Tree) where
  -- where there are more already
  pub joined_past : most < length old → IsJoined P most old old
  joined_past h = record { added = []; behind = nil old; only = λ t k. absurd (contains_nothing t k); all = inl h }

  -- where no term has the property
  pub joined_none : ((t : Tree) → P t → ⊥) → IsJoined P most old old
  joined_none h = record { added = []; behind = nil old; only = λ t k. absurd (contains_nothing t k); all = inr (λ t p. absurd (h t p)) }

  -- where one term has it
  pub joined_one : (new : List Tree) (u : Tree) → IsOneMore u old new → P u → ((t : Tree) → P t → t ≡ u) → IsJoined P most old new
  joined_one new u (inl h) p one = record {
    added = [];
    behind = h.0 ∙ nil old;
    only = λ t k. absurd (contains_nothing t k);
    all = inr (λ t q. subst (λ (ts : List Tree). Contains ts t) (sym h.0) (subst (Contains old) (sym (one t q)) h.1));
  }
  joined_one new u (inr h) p one = record {
    added = u ∷ [];
    behind = h.0;
    only = λ t k. single t (Contains-push_cases [] u t k);
    all = inr (λ t q. subst (λ (ts : List Tree). Contains ts t) (sym h.0) (subst (Contains (old ++ u ∷ [])) (sym (one t q)) (Contains-push old u)));
  }
    where
      single : (t : Tree) → Contains [] t ⊎ (u ≡ t) → P t
      single t (inl k) = absurd (contains_nothing t k)
      single t (inr e) = subst P e p

-- one part after another
module _ (P Q R : Tree → Type 0) (most : ℕ) (old mid new : List Tree) where
  pub joined_both : IsJoined P most old mid → IsJoined Q most mid new → ((t : Tree) → P t ⊎ Q t → R t) → ((t : Tree) → R t → P t ⊎ Q t) → IsJoined R most old new
  joined_both p q to from = record {
    added = p.added ++ q.added;
    behind = together;
    only = λ t k. to t (which t (Contains-append_cases p.added q.added t k));
    all = every p.all q.all;
  }
    where
      together : new ≡ old ++ (p.added ++ q.added)
      together = q.behind ∙ ap (λ (ts : List Tree). ts ++ q.added) p.behind ∙ append_assoc old p.added q.added

      which : (t : Tree) → Contains p.added t ⊎ Contains q.added t → P t ⊎ Q t
      which t (inl k) = inl (p.only t k)
      which t (inr k) = inr (q.only t k)

      longer : most < length mid → most < length new
      longer h = let n = ap length q.behind ∙ length-append mid q.added in omega (arith, n, h)

      one : (t : Tree) → ((t : Tree) → P t → Contains mid t) → ((t : Tree) → Q t → Contains new t) → P t ⊎ Q t → Contains new t
      one t f g (inl k) = subst (λ (ts : List Tree). Contains ts t) (sym q.behind) (Contains-append_left mid q.added t (f t k))
      one t f g (inr k) = g t k

      every : (most < length mid) ⊎ ((t : Tree) → P t → Contains mid t) → (most < length new) ⊎ ((t : Tree) → Q t → Contains new t) → (most < length new) ⊎ ((t : Tree) → R t → Contains new t)
      every (inl h) k = inl (longer h)
      every (inr f) (inl h) = inl h
      every (inr f) (inr g) = inr (λ t r. one t f g (from t r))

-- a property that says the same
pub joined_same : (P Q : Tree → Type 0) (most : ℕ) (old new : List Tree) → IsJoined P most old new → ((t : Tree) → P t → Q t) → ((t : Tree) → Q t → P t) → IsJoined Q most old new
joined_same P Q most old new p to from = record {
  added = p.added;
  behind = p.behind;
  only = λ t k. to t (p.only t k);
  all = every p.all;
}
  where
    every : (most < length new) ⊎ ((t : Tree) → P t → Contains new t) → (most < length new) ⊎ ((t : Tree) → Q t → Contains new t)
    every (inl h) = inl h
    every (inr f) = inr (λ t q. f t (from t q))
