-- A step by two matches, one after the other.
use Rattle.std.proofs.Common.{◌≡◌, ℕ, List, [], Option, Some, None, IsSome, refl, sym, ap, ◌∙◌, subst}
use Rattle.std.proofs.lemmas.Option.{same_Some}
use Rattle.etp_theory.specs.Trees.{Tree, Equation}
use Rattle.etp_theory.specs.Substitutions.{Partial, total}
use Rattle.etp_theory.specs.Positions.{Side, sub_at}
use Rattle.etp_theory.specs.Proofs.{AgreeOutside, IsStepBy}
use Rattle.etp_match.specs.Bindings.{partial_of}
use Rattle.etp_match.specs.Matching.{Extends, NoneMatches, IsExtendedTo}
use Rattle.etp_match.specs.declared.subst.Binding.{Binding}
use Rattle.etp_match.proofs.Extending.{extends_on, still_matched}
use Rattle.etp_replay.specs.Steps.{IsInBoth, NoneTakes}

-- two matches make a right step
pub right_step : (f : Equation) (p : List Side) (s t u v : Tree) (e m l : Partial) → sub_at p s ≡ Some u → sub_at p t ≡ Some v → AgreeOutside p s t → IsExtendedTo f.left u e m → IsExtendedTo f.right v m l → IsStepBy f p s t
right_step f p s t u v e m l h k o x y = record {
  by = total l;
  before = h ∙ ap Some (sym (still_matched f.left u f.right v e m l x y));
  after = k ∙ ap Some (sym y.matched);
  outside = o;
}

-- no substitution matches the left side and then the right side
pub no_match : (f : Equation) (p : List Side) (s t u v : Tree) (bound : List Binding) (m : Partial) → sub_at p s ≡ Some u → sub_at p t ≡ Some v → AgreeOutside p s t → bound ≡ [] → IsExtendedTo f.left u (partial_of bound) m → NoneMatches f.right v m → IsInBoth p s t × AgreeOutside p s t × NoneTakes f p s t
no_match f p s t u v bound m h k o n x y = (
  (subst (λ (z : Option Tree). IsSome z) (sym h) refl, subst (λ (z : Option Tree). IsSome z) (sym k) refl),
  o,
  λ w i j. y w (extends_on f.left u (partial_of bound) m x w (all_extend w) (same_Some _ _ (sym i ∙ h))) (same_Some _ _ (sym j ∙ k)),
)
  where
    all_extend : (w : ℕ → Tree) → Extends (partial_of bound) w
    all_extend w z t q = let f : None ≡ Some t = ap (λ (xs : List Binding). (partial_of xs).value z) (sym n) ∙ q in cc
