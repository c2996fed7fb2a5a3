-- The theorems, as the contracts name them. Substitutions are total functions, but where `Partial`
-- stands.
use Rattle.std.specs.Prelude.{◌*◌, ◌+◌, length, ◌^◌, ◌≡◌, ◌≢◌, ℕ, ◌<◌, ◌≤◌, ◌↔◌, ◌⊎◌, Bool, IsTrue, List, [], ◌++◌, slice_get, Some, None}
use Rattle.std.specs.Ordering.{nat_cmp}
use Rattle.std.specs.Cmp.{IsTotalOrder}
use Rattle.std.specs.Cmp.Lexicographic.{slice_cmp}
use Rattle.std.specs.declared.cmp.Ordering.TheVariants.{Less, Equal}
use Rattle.etp_theory.specs.Trees.{Occurs, Tree, var, Shape, ops, leaves, shape_of, shape_ops, word_of, dual, law_dual, renamed, bound, Equation}
use Rattle.etp_theory.specs.Orders.{shape_cmp, law_cmp}
use Rattle.etp_theory.specs.Substitutions.{apply, then_apply, Partial, total}
use Rattle.etp_theory.specs.Positions.{Side, sub_at, put_at}
use Rattle.etp_theory.specs.Sameness.{Same}
use Rattle.etp_theory.specs.Derivations.{Concludes, Derives}
use Rattle.etp_theory.specs.FiniteDerivations.{ConcludesPartial}
use Rattle.etp_theory.specs.Magmas.{meaning, IsClosed, Holds}
use Rattle.etp_theory.specs.Tables.{HoldsInLists, place_of, IsAssignment, assigned, below}
use Rattle.etp_theory.specs.Rewriting.{Step, StepAt, Steps, Joinable, Convertible, IsLocallyConfluent}
use Rattle.etp_theory.specs.Weights.{sum_to, coefficient, constant, IsDecreasing, Weight, weigh, AllDecrease}
use Rattle.etp_theory.specs.Strategy.{next, walk, within, Fired, fired, normal_form, is_normal, normal_op, TriedBefore}
use Rattle.etp_theory.specs.Forms.{IsFormOf, HaveOneForm, HasForm, PassesTermLimit, PassesStepLimit}
use Rattle.etp_theory.specs.Unifiers.{IsMostGeneral, IsMostGeneralPartial, IsBest, NoUnifier}
use Rattle.etp_theory.specs.Overlaps.{Overlap, outer_part, inner_part, left_result, right_result, PairPasses, PairsJoin, HasSmallVariables, IsConvergent}
use Rattle.etp_theory.specs.FailingOverlaps.{PositionBefore, Place, place, PlaceBefore, IsCriticalPair, KeepsApart, Finding, IsFinding, finding_under, FailsBy, IsFirstFailing}
use Rattle.etp_theory.specs.Proofs.{IsStepBy, Lemma, conclusion, AreRightLemmas, IsValidProof, AllDerived}
use Rattle.etp_theory.specs.Reach.{Fact, Reach, Covers}
use Rattle.etp_theory.specs.LawNumbers.{law_numbered}
use Rattle.etp_theory.specs.RightFacts.{AreRightFacts}

pub record TermTheorems : Type 0 where
  pub leaves_ops : (t : Tree) → leaves t ≡ ops t + 1
  pub shape_counts : (t : Tree) → shape_ops (shape_of t) ≡ ops t
  pub word_length : (t : Tree) → length (word_of t) ≡ leaves t
  -- shape and word say all of a term
  pub shape_and_word : (s t : Tree) → shape_of s ≡ shape_of t → word_of s ≡ word_of t → s ≡ t

-- the orders of shapes and of laws are total, and only equal ones compare as equal
pub record OrderTheorems : Type 0 where
  pub shape_order : IsTotalOrder shape_cmp
  pub shape_equal : (s t : Shape) → shape_cmp s t ≡ Equal → s ≡ t
  pub law_order : IsTotalOrder law_cmp
  pub law_equal : (p q : Equation) → law_cmp p q ≡ Equal → p ≡ q

pub record SubstitutionTheorems : Type 0 where
  pub composed : (s t : ℕ → Tree) (u : Tree) → apply t (apply s u) ≡ apply (then_apply s t) u
  pub identity : (u : Tree) → apply var u ≡ u
  pub renaming : (f : ℕ → ℕ) (u : Tree) → renamed f u ≡ apply (λ v. var (f v)) u
  -- on any two terms a total substitution does what some finite partial map does
  pub finite_enough : (m : ℕ → Tree) (p q : Tree)
      → (s : Partial) × (apply (total s) p ≡ apply m p) × (apply (total s) q ≡ apply m q)

pub record PositionTheorems : Type 0 where
  pub sub_at_applied : (p : List Side) (s : ℕ → Tree) (t u : Tree)
      → sub_at p t ≡ Some u → sub_at p (apply s t) ≡ Some (apply s u)
  pub put_at_applied : (p : List Side) (s : ℕ → Tree) (t u v : Tree)
      → sub_at p t ≡ Some u → apply s (put_at p t v) ≡ put_at p (apply s t) (apply s v)
  pub sub_at_put : (p : List Side) (t u v : Tree) → sub_at p t ≡ Some u → sub_at p (put_at p t v) ≡ Some v
  pub put_at_sub : (p : List Side) (t u : Tree) → sub_at p t ≡ Some u → put_at p t u ≡ t
  pub put_at_put : (p : List Side) (t u v : Tree) → put_at p (put_at p t u) v ≡ put_at p t v

pub record DualTheorems : Type 0 where
  pub dual_dual : (t : Tree) → dual (dual t) ≡ t
  pub dual_applied : (s : ℕ → Tree) (t : Tree) → dual (apply s t) ≡ apply (λ v. dual (s v)) (dual t)

-- being the same law is an equivalence, kept by duals; laws that are the same derive each other
pub record SamenessTheorems : Type 0 where
  pub reflexive : (p : Equation) → Same p p
  pub symmetric : (p q : Equation) → Same p q → Same q p
  pub transitive : (p q r : Equation) → Same p q → Same q r → Same p r
  pub dualised : (p q : Equation) → Same p q → Same (law_dual p) (law_dual q)
  pub derived : (p q : Equation) → Same p q → Derives p q × Derives q p

pub record DerivationTheorems : Type 0 where
  pub itself : (e : Equation) → Derives e e
  pub substituted : (e : Equation) (p q : Tree) (s : ℕ → Tree)
      → Concludes e p q → Concludes e (apply s p) (apply s q)
  pub dualised : (e f : Equation) → Derives e f ↔ Derives (law_dual e) (law_dual f)
  pub chained : (e f g : Equation) → Derives e f → Derives f g → Derives e g
  pub inside : (e : Equation) (p : List Side) (s u v : Tree)
      → sub_at p s ≡ Some u → Concludes e u v → Concludes e s (put_at p s v)
  -- a step at a position by an instance of the law
  pub step : (e : Equation) (p : List Side) (s : Tree) (m : ℕ → Tree)
      → sub_at p s ≡ Some (apply m e.left) → Concludes e s (put_at p s (apply m e.right))
  -- instances by finite partial maps give the same derivations
  pub finite : (e : Equation) (p q : Tree) → Concludes e p q ↔ ConcludesPartial e p q

-- lemmas, steps and cited laws unfold into derivations
pub record ProofTheorems : Type 0 where
  -- the substitution of a right step may be taken as a finite partial map
  pub partial : (e : Equation) (p : List Side) (s t : Tree) → IsStepBy e p s t
      → (m : Partial) × (sub_at p s ≡ Some (apply (total m) e.left))
      × (sub_at p t ≡ Some (apply (total m) e.right))
  -- it puts the one side in the place of the other, and changes nothing else
  pub replaced : (e : Equation) (p : List Side) (s t : Tree) → IsStepBy e p s t
      ↔ ((m : ℕ → Tree) × (sub_at p s ≡ Some (apply m e.left))
      × (t ≡ put_at p s (apply m e.right)))
  pub concluded : (hypothesis : Equation) (cites : List Equation) (lemmas : List Lemma)
      → AllDerived hypothesis cites → AreRightLemmas hypothesis cites [] lemmas
      → (k : ℕ) (l : Lemma) → slice_get lemmas k ≡ Some l → Derives hypothesis (conclusion l)
  pub proved : (hypothesis goal : Equation) (cites : List Equation) (lemmas : List Lemma)
      → AllDerived hypothesis cites → IsValidProof hypothesis goal cites lemmas
      → Derives hypothesis goal

pub record MagmaTheorems : Type 0 where
  -- at one type of values: a clause can't range over types
  pub sound : (inside : ℕ → Bool) (times : ℕ → ℕ → ℕ) → IsClosed inside times
      → (e f : Equation) → Holds inside times e.left e.right → Derives e f
      → Holds inside times f.left f.right
  -- what a law needs to fail
  pub fails : (inside : ℕ → Bool) (times : ℕ → ℕ → ℕ) → IsClosed inside times
      → (e f : Equation) → Holds inside times e.left e.right
      → (r : ℕ → ℕ) → ((v : ℕ) → IsTrue (inside (r v)))
      → meaning times r f.left ≢ meaning times r f.right → Derives e f → ⊥

pub record TableTheorems : Type 0 where
  -- the lexicographic order of assignments is that of their places, which are the numbers below
  -- the power
  pub place_below : (k n : ℕ) (xs : List ℕ) → IsAssignment k n xs → place_of n xs < n ^ k
  pub place_taken : (k n i : ℕ) → i < n ^ k
      → (xs : List ℕ) × IsAssignment k n xs × (place_of n xs ≡ i)
  pub in_order : (k n : ℕ) (xs ys : List ℕ) → IsAssignment k n xs → IsAssignment k n ys
      → (slice_cmp nat_cmp xs ys ≡ Less) ↔ (place_of n xs < place_of n ys)
  -- lists of values for the variables are all assignments
  pub lists : (k n : ℕ) (times : ℕ → ℕ → ℕ) (e : Equation)
      → 0 < k → bound e.left ≤ k → bound e.right ≤ k
      → HoldsInLists k n times e ↔ Holds (below n) times e.left e.right
  -- one list at which the sides differ makes the law fail
  pub fails : (k n : ℕ) (times : ℕ → ℕ → ℕ) (e : Equation)
      → 0 < k → bound e.left ≤ k → bound e.right ≤ k
      → (xs : List ℕ) → IsAssignment k n xs
      → meaning times (assigned xs) e.left ≢ meaning times (assigned xs) e.right
      → Holds (below n) times e.left e.right → ⊥

pub record WeightTheorems : Type 0 where
  -- a weight is so much for each variable and a constant
  pub by_coefficients : (w : Weight) (f : ℕ → ℕ) (n : ℕ) (t : Tree) → bound t ≤ n
      → weigh w f t ≡ sum_to n (λ x. coefficient w t x * f x) + constant w t
  pub rule_falls : (w : Weight) (e : Equation) → IsDecreasing w e
      → (f : ℕ → ℕ) → weigh w f e.right < weigh w f e.left
  -- a decreasing rule has no new variables on the right
  pub kept : (w : Weight) (e : Equation) → 0 < w.on_left → 0 < w.on_right → IsDecreasing w e
      → (v : ℕ) → Occurs v e.right → Occurs v e.left

pub record RewritingTheorems : Type 0 where
  pub by_position : (rules : List Equation) (s t : Tree) → Step rules s t ↔ StepAt rules s t
  -- the substitution may be taken as a finite partial map
  pub partial : (rules : List Equation) (s t : Tree) (h : StepAt rules s t)
      → (m : Partial) × (sub_at h.position s ≡ Some (apply (total m) h.rule.left))
      × (t ≡ put_at h.position s (apply (total m) h.rule.right))
  pub falls : (w : Weight) (rules : List Equation) → AllDecrease w rules
      → (f : ℕ → ℕ) (s t : Tree) → Step rules s t → weigh w f t < weigh w f s

-- the strategy takes a step exactly where there is one, and the walk ends
pub record StrategyTheorems : Type 0 where
  pub taken : (rules : List Equation) (s t : Tree) → next rules s ≡ Some t → Step rules s t
  pub none_left : (rules : List Equation) (s t : Tree) → next rules s ≡ None → Step rules s t → ⊥
  pub reached : (w : Weight) (rules : List Equation) → AllDecrease w rules
      → (s : Tree) → Steps rules s (normal_form w rules s)
  pub ended : (w : Weight) (rules : List Equation) → AllDecrease w rules
      → (s : Tree) → next rules (normal_form w rules s) ≡ None
  -- a walk that ends within the limits ends at the normal form
  pub form : (w : Weight) (rules : List Equation) → AllDecrease w rules
      → (s u : Tree) → IsFormOf rules s u → normal_form w rules s ≡ u
  -- each walk has a form within the limits or passes one of them, and no walk does two of these
  pub ends : (rules : List Equation) (s : Tree)
      → HasForm rules s ⊎ (PassesTermLimit rules s ⊎ PassesStepLimit rules s)
  pub one_form : (rules : List Equation) (s u v : Tree)
      → IsFormOf rules s u → IsFormOf rules s v → u ≡ v
  pub form_not_wide : (rules : List Equation) (s : Tree)
      → HasForm rules s → PassesTermLimit rules s → ⊥
  pub form_not_long : (rules : List Equation) (s : Tree)
      → HasForm rules s → PassesStepLimit rules s → ⊥
  pub one_limit : (rules : List Equation) (s : Tree)
      → PassesTermLimit rules s → PassesStepLimit rules s → ⊥
  -- the step with its rule and its position
  pub fired_next : (rules : List Equation) (s : Tree) → within (λ (x : Fired). x.to) (fired rules s) ≡ next rules s
  pub fired_at : (rules : List Equation) (s : Tree) (x : Fired) → fired rules s ≡ Some x
      → (h : StepAt rules s x.to) × (h.number ≡ x.number) × (h.position ≡ x.position)
  -- it is the first one: none is at a position tried before, and none there is by a lower rule
  pub fired_first : (rules : List Equation) (s : Tree) (x : Fired) → fired rules s ≡ Some x
      → (t : Tree) (h : StepAt rules s t)
      → (TriedBefore h.position x.position → ⊥) × (h.position ≡ x.position → x.number ≤ h.number)
  -- the order in which positions are tried is strict and total
  pub tried_irreflexive : (p : List Side) → TriedBefore p p → ⊥
  pub tried_transitive : (p q r : List Side) → TriedBefore p q → TriedBefore q r → TriedBefore p r
  pub tried_total : (p q : List Side) → (p ≡ q) ⊎ (TriedBefore p q ⊎ TriedBefore q p)

-- the limits of a walk: 100000 steps, and terms of 512 leaves
pub record LimitTheorems : Type 0 where
  -- a form is reached by at most that many steps, and no term on the way has more leaves
  pub form : (rules : List Equation) (s u : Tree) → IsFormOf rules s u
      ↔ ((n : ℕ) × (n ≤ 100000) × (walk rules n s ≡ u) × (next rules u ≡ None)
      × ((k : ℕ) → k ≤ n → leaves (walk rules k s) ≤ 512))
  -- within that many steps a term with more leaves comes
  pub wide : (rules : List Equation) (s : Tree) → PassesTermLimit rules s
      ↔ ((n : ℕ) × (n ≤ 100000) × (512 < leaves (walk rules n s)))
  -- after that many steps there is a next one, and no term so far has more leaves
  pub long : (rules : List Equation) (s : Tree) → PassesStepLimit rules s
      ↔ ((n : ℕ) × (n ≡ 100000) × ((k : ℕ) → k ≤ n → leaves (walk rules k s) ≤ 512)
      × (next rules (walk rules n s) ≢ None))

-- decreasing rules that are locally confluent give one normal form (Newman 1942); `next` has no step
-- of a term exactly where none is there, so this is the form of the strategy's walk
pub record NewmanTheorems : Type 0 where
  pub confluent : (w : Weight) (rules : List Equation) → AllDecrease w rules
      → IsLocallyConfluent rules
      → (s a b : Tree) → Steps rules s a → Steps rules s b → Joinable rules a b
  pub unique : (w : Weight) (rules : List Equation) → AllDecrease w rules
      → IsLocallyConfluent rules
      → (s a : Tree) → Steps rules s a → ((t : Tree) → Step rules a t → ⊥)
      → normal_form w rules s ≡ a
  pub one_form : (w : Weight) (rules : List Equation) → AllDecrease w rules
      → IsLocallyConfluent rules
      → (s t : Tree) → Convertible rules s t → normal_form w rules s ≡ normal_form w rules t

pub record UnificationTheorems : Type 0 where
  pub most_general : (a b : Tree) (n : ℕ → Tree) → apply n a ≡ apply n b
      → (m : ℕ → Tree) × IsMostGeneral m a b
  -- where some total substitution unifies, some finite partial map does
  pub partial : (a b : Tree) (n : ℕ → Tree) → apply n a ≡ apply n b
      → (m : Partial) × (apply (total m) a ≡ apply (total m) b)
  -- a most general one that is itself when applied twice, or none
  pub decided : (a b : Tree)
      → ((m : Partial) × IsMostGeneralPartial m a b
      × ((v : ℕ) → apply (total m) (total m v) ≡ total m v))
      ⊎ NoUnifier a b
  -- a finite map is most general among finite maps exactly where it is among total functions
  pub finite : (m : Partial) (a b : Tree)
      → IsMostGeneralPartial m a b ↔ IsMostGeneral (total m) a b
  -- a best one is most general
  pub best : (a b : Tree) (m : ℕ → Tree) → IsBest m a b → IsMostGeneral m a b
  -- what has a unifier has a best one
  pub has_best : (a b : Tree) (n : ℕ → Tree) → apply n a ≡ apply n b
      → (m : ℕ → Tree) × IsBest m a b

pub record CriticalPairTheorems : Type 0 where
  pub joined : (w : Weight) (rules : List Equation) → AllDecrease w rules
      → HasSmallVariables rules → PairsJoin rules → IsLocallyConfluent rules
  pub convergent : (w : Weight) (rules : List Equation) → IsConvergent w rules
      → IsLocallyConfluent rules
  -- what a checker has to look at
  pub checked : (w : Weight) (rules : List Equation) → AllDecrease w rules
      → HasSmallVariables rules
      → ((o : Overlap rules) → PairPasses rules o) ↔ IsConvergent w rules
  -- so one unifier for each overlap is enough to look at
  pub agree : (w : Weight) (rules : List Equation) → AllDecrease w rules
      → (o : Overlap rules) (m m' : Partial)
      → IsMostGeneralPartial m (outer_part o) (inner_part o)
      → IsMostGeneralPartial m' (outer_part o) (inner_part o)
      → HaveOneForm rules (left_result o (total m)) (right_result o (total m))
      → HaveOneForm rules (left_result o (total m')) (right_result o (total m'))

-- the order of overlaps, and the first one that fails
pub record OverlapTheorems : Type 0 where
  -- the order of places is strict and total
  pub irreflexive : (x : Place) → PlaceBefore x x → ⊥
  pub transitive : (x y z : Place) → PlaceBefore x y → PlaceBefore y z → PlaceBefore x z
  pub total : (x y : Place) → (x ≡ y) ⊎ (PlaceBefore x y ⊎ PlaceBefore y x)
  -- inside one part positions are ordered as the part's own
  pub inside : (p q r : List Side) → PositionBefore (p ++ q) (p ++ r) ↔ PositionBefore q r
  -- two terms have one form within the limits, or there is exactly one finding
  pub looked_at : (rules : List Equation) (s t : Tree)
      → HaveOneForm rules s t ⊎ ((f : Finding) × IsFinding rules s t f)
  pub not_both : (rules : List Equation) (s t : Tree) (f : Finding)
      → HaveOneForm rules s t → IsFinding rules s t f → ⊥
  pub one_finding : (rules : List Equation) (s t : Tree) (f g : Finding)
      → IsFinding rules s t f → IsFinding rules s t g → f ≡ g
  -- the variables of a critical pair may have other names
  pub renamed_pair : (rules : List Equation) (o : Overlap rules) (s t : Tree) (f : ℕ → ℕ)
      → KeepsApart f s t → IsCriticalPair o s t → IsCriticalPair o (renamed f s) (renamed f t)
  -- one critical pair of an overlap tells whether it passes
  pub one_pair_tells : (w : Weight) (rules : List Equation) → AllDecrease w rules
      → (o : Overlap rules) (s t : Tree) → IsCriticalPair o s t
      → PairPasses rules o ↔ HaveOneForm rules s t
  pub all_pairs_tell : (w : Weight) (rules : List Equation) → AllDecrease w rules
      → HasSmallVariables rules
      → ((o : Overlap rules) (s t : Tree) → IsCriticalPair o s t → HaveOneForm rules s t)
      ↔ IsConvergent w rules
  -- a system is convergent or has a first failing overlap, and with a failing one it isn't
  pub found : (w : Weight) (rules : List Equation) → AllDecrease w rules
      → HasSmallVariables rules
      → IsConvergent w rules ⊎ ((o : Overlap rules) × (s : Tree) × (t : Tree) × (f : Finding)
      × IsFirstFailing o s t f)
  pub not_convergent : (w : Weight) (rules : List Equation) → AllDecrease w rules
      → (o : Overlap rules) (s t : Tree) (f : Finding)
      → FailsBy o s t f → IsConvergent w rules → ⊥
  -- there is one place of it, and two findings there differ by the names of variables alone
  pub only_first : (w : Weight) (rules : List Equation) → AllDecrease w rules
      → (o o' : Overlap rules) (s t s' t' : Tree) (f f' : Finding)
      → IsFirstFailing o s t f → IsFirstFailing o' s' t' f'
      → (place o ≡ place o') × ((k : ℕ → Tree) × (finding_under k f ≡ f'))

-- the normal forms of a convergent system are a magma
pub record NormalFormTheorems : Type 0 where
  pub closed : (w : Weight) (rules : List Equation) → IsConvergent w rules
      → IsClosed (is_normal rules) (normal_op w rules)
  pub holds : (w : Weight) (rules : List Equation) → IsConvergent w rules → (e : Equation)
      → Holds (is_normal rules) (normal_op w rules) e.left e.right
      ↔ (normal_form w rules e.left ≡ normal_form w rules e.right)
  pub refuted : (w : Weight) (rules : List Equation) → IsConvergent w rules → (e f : Equation)
      → normal_form w rules e.left ≡ normal_form w rules e.right
      → normal_form w rules f.left ≢ normal_form w rules f.right → Derives e f → ⊥
  -- what a checker looks at: one form of both sides, and two forms, all within the limits
  pub refuted_within : (w : Weight) (rules : List Equation) → IsConvergent w rules
      → (e f : Equation) → HaveOneForm rules e.left e.right
      → (u v : Tree) → IsFormOf rules f.left u → IsFormOf rules f.right v → u ≢ v
      → Derives e f → ⊥

-- right facts: what is reached is derived, what is covered isn't, and no pair is both
pub record ReachTheorems : Type 0 where
  pub derived : (laws : List Equation) (duals : List ℕ) (facts : List Fact)
      → AreRightFacts laws duals facts → (e f : ℕ) (p q : Equation)
      → law_numbered laws e ≡ Some p → law_numbered laws f ≡ Some q
      → Reach duals facts e f → Derives p q
  pub apart : (laws : List Equation) (duals : List ℕ) (facts : List Fact)
      → AreRightFacts laws duals facts → (e f : ℕ) (p q : Equation)
      → law_numbered laws e ≡ Some p → law_numbered laws f ≡ Some q
      → Covers duals facts e f → Derives p q → ⊥
  pub never_both : (laws : List Equation) (duals : List ℕ) (facts : List Fact)
      → AreRightFacts laws duals facts → (e f : ℕ)
      → Reach duals facts e f → Covers duals facts e f → ⊥
