use Rattle.std.proofs.Common.{◌≡◌, ◌∙◌, ℕ, ap, length, sym, subst, Contains}
use Rattle.etp_theory.specs.LawNumbers.{IsLaw}
use Rattle.etp_bench.proofs.Everywhere.{full_after}
use Rattle.etp_bench.proofs.filling.full_closure.Goals as goal

pub returns-clause-full : goal.returns-clause-full
returns-clause-full c =
    let kept = rw c.deref.ensures.value at c.in_ok-reserve.ensures.kept in
    let same_duals = c.in_ok-reserve.ensures.duals ∙ c.in_ok-closure.ensures.duals ∙ c.duals.ensures.value in
    let size : length c.reserve.new.self.duals ≡ c.count.result = ap length same_duals ∙ c.duals.ensures.exact.long ∙ sym c.count.ensures.len in
    let all = subst (λ count. (law : ℕ) → IsLaw count law → Contains c.in_ok-every.every.items law) (sym size) c.in_ok-every.ensures.all in
    full_after (length c.reserve.new.self.duals) c.in_ok-closure.closure.duals c.in_ok-closure.closure.slots c.reserve.new.self.slots c.in_ok-every.every.items kept all
