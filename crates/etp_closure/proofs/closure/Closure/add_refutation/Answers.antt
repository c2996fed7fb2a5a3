use Rattle.std.proofs.Common.{◌∙◌, ℕ}
use Rattle.etp_closure.specs.Closures.{is_covered}
use Rattle.etp_closure.proofs.Standing.{stands_refuted}
use Rattle.etp_closure.proofs.Truths.{same_reached, pairs_by_duals}
use Rattle.etp_closure.proofs.closure.Closure.add_refutation.Goals as goal

pub returns-clause-stands : goal.returns-clause-stands
returns-clause-stands c = λ facts stands.
    let old = c.args.self.now in
    let mid = c.add_pairs.new.self in
    let new = c.add_pairs-2.new.self in
    let first = c.add_pairs.ensures in
    let second = c.add_pairs-2.ensures in
    let mid_r = same_reached old mid first.slots first.reached in
    let new_r = λ (x y : ℕ). same_reached mid new second.slots second.reached x y ∙ mid_r x y in
    stands_refuted old new facts c.args.holds.now c.args.fails.now (is_covered mid) (second.duals ∙ first.duals) (second.slots ∙ first.slots) c.requires.holds_kept c.requires.fails_kept
    new_r first.covered
    (λ x y. second.covered x y ∙ pairs_by_duals old mid c.args.holds.now c.args.fails.now first.duals mid_r x y)
    stands
