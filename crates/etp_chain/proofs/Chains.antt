-- What evidence shows, and that there is one at most.
use Rattle.std.proofs.Common.{◌≡◌, ℕ, Bool, List, [], ◌∷◌, refl, sym, ap, ◌∙◌, subst, subst₂, arith, ◌⊎◌, inl, inr}
use Rattle.etp_theory.specs.Reach.{Fact, Reach, itself, along, Covers}
use Rattle.etp_chain.specs.declared.evidence.Edge.{Edge as Step}
use Rattle.etp_chain.specs.declared.evidence.Cover.{Cover}
use Rattle.etp_chain.specs.Evidence.{GivesEdge, GivesPair, Walk, stays, IsDistance, IsNextStep, IsPath, ends, goes_on, IsCover}
use Rattle.etp_chain.specs.Theorems.{ChainTheorems}
use Rattle.etp_chain.proofs.Walks.{edge_given, pair_given, one_distance, one_turn}

step_of : ℕ → ℕ → ℕ → Bool → Step
step_of h g f d = record { hypothesis = h; goal = g; file = f; dual = d }

cover_of : ℕ → Bool → ℕ → ℕ → List Step → List Step → Cover
cover_of f d h g b a = record { file = f; dual = d; holds = h; fails = g; before = b; after = a }

same_step : (s t : Step) → s.hypothesis ≡ t.hypothesis → s.goal ≡ t.goal → s.file ≡ t.file → s.dual ≡ t.dual → s ≡ t
unfolding step_of
same_step s t h g f d =
    let all : step_of s.hypothesis s.goal s.file s.dual ≡ step_of t.hypothesis t.goal t.file t.dual = cc in all

same_cover : (s t : Cover) → s.file ≡ t.file → s.dual ≡ t.dual → s.holds ≡ t.holds → s.fails ≡ t.fails
    → s.before ≡ t.before → s.after ≡ t.after → s ≡ t
unfolding cover_of
same_cover s t a b c d e f =
    let all : cover_of s.file s.dual s.holds s.fails s.before s.after ≡ cover_of t.file t.dual t.holds t.fails t.before t.after = cc in all

module _ (duals : List ℕ) (facts : List Fact) where
  pub path_reaches : (f e : ℕ) (path : List Step) → IsPath duals facts f e path → Reach duals facts e f
  path_reaches f e path ends = itself f
  path_reaches f e path (goes_on s p) = along (edge_given duals facts _ _ e _ s.gives) (path_reaches f _ _ p)

  pub cover_covers : (e f : ℕ) (cover : Cover) → IsCover duals facts e f cover → Covers duals facts e f
  cover_covers e f cover h = record {
    holds = cover.holds;
    fails = cover.fails;
    pair = pair_given duals facts cover.file cover.dual cover.holds cover.fails h.pair.least.gives;
    before = h.pair.least.has_hold;
    after = h.pair.least.has_fail;
  }

  -- a path has ended, or goes on with a step
  path_cases : (f e : ℕ) (path : List Step) → IsPath duals facts f e path
      → ((e ≡ f) × (path ≡ [])) ⊎ ((step : Step) × (rest : List Step) × (path ≡ step ∷ rest) × IsNextStep duals facts f e step × IsPath duals facts f step.goal rest)
  path_cases f e path ends = inl (refl, refl)
  path_cases f e path (goes_on s p) = inr (_, _, refl, s, p)

  none_after : (f e : ℕ) (step : Step) → e ≡ f → IsNextStep duals facts f e step → ⊥
  none_after f e step same s =
      let P : ℕ → Type 0 = λ x. Walk duals facts 0 x f in
      let none = s.far.least 0 (subst P (sym same) (stays f)) in
      omega (arith, none)

  one_step : (f e : ℕ) (step other : Step) → IsNextStep duals facts f e step → IsNextStep duals facts f e other → step ≡ other
  one_step f e step other s t =
      let same_left : s.left ≡ t.left = omega (arith, one_distance duals facts e f _ _ s.far t.far) in
      let P : ℕ → ℕ → Type 0 = λ x n. IsDistance duals facts x f n in
      let near_other = subst (P other.goal) (sym same_left) t.near in
      let near_step = subst (P step.goal) same_left s.near in
      let below = s.least other.goal (edge_given duals facts _ _ e _ t.gives) near_other in
      let above = t.least step.goal (edge_given duals facts _ _ e _ s.gives) near_step in
      let same_goal : step.goal ≡ other.goal = omega (arith, below, above) in
      let Q : Step → ℕ → Type 0 = λ x g. GivesEdge duals facts x.file x.dual e g in
      let earlier = s.earliest other.file other.dual (subst (Q other) (sym same_goal) t.gives) in
      let later = t.earliest step.file step.dual (subst (Q step) same_goal s.gives) in
      let same = one_turn step.file other.file step.dual other.dual (omega (arith, earlier, later)) in
      same_step step other (s.from ∙ sym t.from) same_goal same.0 same.1

  pub one_path : (f e : ℕ) (path other : List Step) → IsPath duals facts f e path → IsPath duals facts f e other → path ≡ other
  one_path f e path other ends q =
      elim (path_cases f e other q) [
        | inl done ↦ sym done.1
        | inr (step, rest, is, next, on) ↦ absurd (none_after f f step refl next)
      ]
  one_path f e path other (goes_on {step = step} {path = rest} s p) q =
      elim (path_cases f e other q) [
        | inl (same, none) ↦ absurd (none_after f e step same s)
        | inr (step', rest', is, next, on) ↦
            let same = one_step f e step step' s next in
            let P : Step → Type 0 = λ x. IsPath duals facts f x.goal rest' in
            let more = one_path f step.goal rest rest' p (subst P (sym same) on) in
            ap (λ (x : Step). x ∷ rest) same ∙ (ap (λ (xs : List Step). step' ∷ xs) more ∙ sym is)
      ]

  pub one_cover : (e f : ℕ) (cover other : Cover) → IsCover duals facts e f cover → IsCover duals facts e f other → cover ≡ other
  one_cover e f cover other h k =
      let p = h.pair.least in
      let q = k.pair.least in
      let later = h.pair.earliest other.file other.dual other.holds other.fails q.gives q.has_hold q.has_fail in
      let earlier = k.pair.earliest cover.file cover.dual cover.holds cover.fails p.gives p.has_hold p.has_fail in
      let turn = one_turn cover.file other.file cover.dual other.dual (omega (arith, later, earlier)) in
      let G : ℕ → Bool → ℕ → ℕ → Type 0 = GivesPair duals facts in
      let p_there : G other.file other.dual cover.holds cover.fails =
      subst₂ (λ (x : ℕ) (d : Bool). G x d cover.holds cover.fails) turn.0 turn.1 p.gives in
      let q_here : G cover.file cover.dual other.holds other.fails =
      subst₂ (λ (x : ℕ) (d : Bool). G x d other.holds other.fails) (sym turn.0) (sym turn.1) q.gives in
      let holds_below = p.least_hold other.holds other.fails q_here q.has_hold q.has_fail in
      let holds_above = q.least_hold cover.holds cover.fails p_there p.has_hold p.has_fail in
      let holds : cover.holds ≡ other.holds = omega (arith, holds_below, holds_above) in
      let fails_below = p.least_fail other.fails (subst (λ (x : ℕ). G cover.file cover.dual x other.fails) (sym holds) q_here) q.has_fail in
      let fails_above = q.least_fail cover.fails (subst (λ (x : ℕ). G other.file other.dual x cover.fails) holds p_there) p.has_fail in
      let fails : cover.fails ≡ other.fails = omega (arith, fails_below, fails_above) in
      let before = one_path e cover.holds cover.before other.before h.before (subst (λ (x : ℕ). IsPath duals facts e x other.before) (sym holds) k.before) in
      let after = one_path cover.fails f cover.after other.after h.after (subst (λ (x : ℕ). IsPath duals facts x f other.after) (sym fails) k.after) in
      same_cover cover other turn.0 turn.1 holds fails before after

pub chain_theorems : ChainTheorems
chain_theorems = record {
  path_reaches = λ duals facts e f. path_reaches duals facts f e;
  cover_covers = cover_covers;
  one_path = λ duals facts e f. one_path duals facts f e;
  one_cover = one_cover;
}
