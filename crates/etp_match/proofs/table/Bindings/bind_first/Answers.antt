use Rattle.std.proofs.Common.{refl, sym}
use Rattle.etp_match.proofs.Same.{same_passed}
use Rattle.etp_match.proofs.table.Bindings.bind_first.Goals as goal

pub returns-in-Some : goal.returns-in-Some
returns-in-Some c = same_passed c.args.self.now c.args.self.now c.args.binding.now _ (λ v. refl) (sym c.in-Some.ensures)
