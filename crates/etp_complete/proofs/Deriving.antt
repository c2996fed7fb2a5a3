-- What the rules of a run say is derived from its law.
use Rattle.std.proofs.Common.{◌≡◌, ℕ, zero, suc, ◌<◌, ◌⊎◌, inl, inr, List, [], Option, Some, None, slice_get, refl, sym, ap, ◌∙◌, subst, subst₂, arith}
use Rattle.std.proofs.lemmas.Option.{same_Some, slice_get_within}
use Rattle.etp_theory.specs.Trees.{Tree, Equation}
use Rattle.etp_theory.specs.Substitutions.{apply, raise}
use Rattle.etp_theory.specs.Positions.{sub_at}
use Rattle.etp_theory.specs.Derivations.{Concludes, reflexive, symmetric, transitive, congruent, Derives}
use Rattle.etp_theory.specs.Rewriting.{Step, at_root, in_left, in_right}
use Rattle.etp_theory.specs.Strategy.{next, go_on, walk}
use Rattle.etp_theory.specs.Forms.{IsFormOf}
use Rattle.etp_theory.specs.Overlaps.{Overlap, outer_part, inner_part}
use Rattle.etp_theory.specs.FailingOverlaps.{IsCriticalPair, two_forms}
use Rattle.etp_theory.specs.LawNumbers.{law_numbered}
use Rattle.etp_theory.specs.Weights.{Weight}
use Rattle.etp_theory.proofs.Derivations.{substituted, inside, derives_itself}
use Rattle.etp_theory.proofs.Matching.{next_some}
use Rattle.etp_theory.proofs.Sameness.{renamed_applied}
use Rattle.etp_theory.proofs.Trees.{sub_at_applied}
use Rattle.etp_numbering.specs.Numbering.{variables_of, place_in}
use Rattle.etp_complete.specs.Completions.{Problem, FailsFirst, rule_from, Orients, forth, back, ComesTo, at_first, by_round}
use Rattle.etp_complete.specs.Derived.{AreDerived}
use Rattle.etp_complete.specs.declared.answer.Origin.{Origin}
use Rattle.etp_complete.specs.declared.answer.Origin.TheVariants.{Law, Pair}
use Rattle.etp_complete.proofs.Lists.{which}

module _ (law : Equation) (rules : List Equation) (d : AreDerived law rules) where
  of_step : {s t : Tree} → Step rules s t → Concludes law s t
  of_step (at_root i e m listed h k) = subst₂ (Concludes law) (sym h) (sym k) (substituted law m (d i e listed))
  of_step (in_left c x) = congruent (of_step x) (reflexive c)
  of_step (in_right c x) = congruent (reflexive c) (of_step x)

  of_walk : (n : ℕ) (s : Tree) → Concludes law s (walk rules n s)
  of_walk zero s = reflexive s
  of_walk (suc n) s = go (next rules s) refl (of_walk n)
    where
      go : (x : Option Tree) → next rules s ≡ x → ((t : Tree) → Concludes law t (walk rules n t)) → Concludes law s (go_on x s (λ t. walk rules n t))
      go None h i = reflexive s
      go (Some t) h i = transitive (of_step (next_some rules s t h)) (i t)

  pub of_form : (s u : Tree) → IsFormOf rules s u → Concludes law s u
  of_form s u f = subst (Concludes law s) f.reached (of_walk f.steps s)

  between : (s t u v : Tree) → Concludes law s t → IsFormOf rules s u → IsFormOf rules t v → Concludes law u v
  between s t u v c f g = transitive (symmetric (of_form s u f)) (transitive c (of_form t v g))

  -- both results of a critical pair come of one term
  critical : (o : Overlap rules) (s t : Tree) → IsCriticalPair o s t → Concludes law s t
  critical o s t p =
      let m = p.unifier in
      let whole = apply m o.outer_rule.left in
      let part = apply m (outer_part o) in
      let there : sub_at o.position whole ≡ Some part = sub_at_applied o.position m o.outer_rule.left (outer_part o) o.part in
      let outer : Concludes law whole (apply m o.outer_rule.right) = substituted law m (d o.outer o.outer_rule o.outer_listed) in
      let raised : Concludes law (raise o.inner_rule.left) (raise o.inner_rule.right) = substituted law _ (d o.inner o.inner_rule o.inner_listed) in
      let inner : Concludes law (apply m (inner_part o)) (apply m (raise o.inner_rule.right)) = substituted law m raised in
      let inner_here : Concludes law part (apply m (raise o.inner_rule.right)) = subst (λ x. Concludes law x (apply m (raise o.inner_rule.right))) (sym p.general.unifies) inner in
      subst₂ (Concludes law) (sym p.left) (sym p.right)
      (transitive (symmetric outer) (inside law o.position whole part (apply m (raise o.inner_rule.right)) there inner_here))

  failing : (p : Problem) (origin : Origin) (l r : Tree) → law_numbered p.laws p.from ≡ Some law → FailsFirst p rules origin (two_forms l r) → Concludes law l r
  failing p (Law n) l r listed h =
      let same : h.1.law ≡ law = same_Some h.1.law law (sym h.1.listed ∙ listed) in
      between law.left law.right l r (derives_itself law)
      (subst (λ (e : Equation). IsFormOf rules e.left l) same h.1.found.0)
      (subst (λ (e : Equation). IsFormOf rules e.right r) same h.1.found.1)
  failing p (Pair outer position inner) l r listed h =
      let f = h.1 in
      between f.left f.right l r (critical f.overlapped f.left f.right f.results.critical) f.first.fails.found.0 f.first.fails.found.1

-- a rule of two terms that are concluded

numbered : (law : Equation) (l r : Tree) → Concludes law l r → Derives law (rule_from l r)
numbered law l r c =
    let f = place_in (variables_of l r) in
    subst₂ (Concludes law) (sym (renamed_applied f l)) (sym (renamed_applied f r)) (substituted law _ c)

oriented : (law : Equation) (w : Weight) (l r : Tree) (rule : Equation) → Concludes law l r → Orients w l r rule → Derives law rule
oriented law w l r rule c (forth h e) = subst (Derives law) (sym e) (numbered law l r c)
oriented law w l r rule c (back h k e) = subst (Derives law) (sym e) (numbered law r l (symmetric c))

-- both sides of each rule of a run
pub all_derived : (p : Problem) (law : Equation) → law_numbered p.laws p.from ≡ Some law → {rules : List Equation} → ComesTo p rules → AreDerived law rules
all_derived p law listed at_first i e h = absurd (let l : i < 0 = slice_get_within [] i e h in omega (arith, l))
all_derived p law listed (by_round {rules = rules} comes a) i e h =
    go (all_derived p law listed comes) (which rules a.rule i e (ap (λ xs. slice_get xs i) (sym a.added) ∙ h))
  where
    go : AreDerived law rules → (slice_get rules i ≡ Some e) ⊎ (a.rule ≡ e) → Derives law e
    go d (inl k) = d i e k
    go d (inr q) = subst (Derives law) q (oriented law _ a.left a.right a.rule (failing law rules d p a.origin a.left a.right listed a.fails) a.oriented)
