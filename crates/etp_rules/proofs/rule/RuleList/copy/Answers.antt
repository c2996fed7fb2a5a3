use Rattle.std.proofs.Common.{◌≡◌, ℕ, zero, suc, ◌+◌, ◌<◌, List, ◌∷◌, [], ◌++◌, length, take, Some, None, slice_get, sym, ap, ◌∙◌, arith, add-one}
use Rattle.std.proofs.Math.Seq.{take-suc}
use Rattle.std.proofs.lemmas.Option.{slice_get_within, get_or_from_slice_get}
use Rattle.etp_rules.specs.declared.rule.Rule.{Rule}
use Rattle.etp_rules.proofs.rule.RuleList.copy.Goals.{in-Some+in_ok-copy+in_ok-push, in_default}
use Rattle.etp_rules.proofs.rule.RuleList.copy.Goals as goal

take_one : (rules : List Rule) (k : ℕ) (rule : Rule) → Some rule ≡ slice_get rules k
    → take k rules ++ rule ∷ [] ≡ take (k + 1) rules
take_one rules k rule h =
    ap (λ y. take k rules ++ y ∷ []) (sym (get_or_from_slice_get rules k rule rule (sym h)))
    ∙ sym (take-suc rules k rule (slice_get_within rules k rule (sym h)))
    ∙ ap (λ n. take n rules) (sym (add-one k))

not_inside : (rules : List Rule) (k : ℕ) → k < length rules → None ≡ slice_get rules k → ⊥
not_inside [] k h e = omega (arith, h)
not_inside (rule ∷ rules) zero h e = cc
not_inside (rule ∷ rules) (suc k) h e = not_inside rules k (omega arith) e

pub loop-at-preserved : goal.loop-at-preserved
loop-at-preserved c = elim c.match-get.branch [
  | in-Some+in_ok-copy+in_ok-push w ↦ w.copy-is ∙ w.in_ok-push.ensures.ok ∙ ap (λ (rules : List Rule). rules ++ w.in_ok-copy.field-0 ∷ []) c.loop-at.invariant ∙ ap (λ (rule : Rule). take c.loop-at.at c.args.self.now ++ rule ∷ []) w.in_ok-copy.ensures ∙ take_one c.args.self.now c.loop-at.at w.in-Some.rule.now w.in-Some.ensures
  | in_default w ↦ absurd (not_inside c.args.self.now c.loop-at.at (omega (arith, c.loop-at-test.true, c.len-at-end.ensures)) w.in_default.ensures)
]
