use Rattle.std.proofs.Common.{◌≡◌, ◌⊎◌, inl, inr, sym, subst, ◌∙◌}
use Rattle.etp_lines.specs.Said.{line_of, claim_line_of}
use Rattle.etp_lines.specs.declared.line.Line.{Line}
use Rattle.etp_lines.specs.declared.line.Line.TheVariants as Spoken
use Rattle.etp_lines.specs.declared.linear.LinearLine.{LinearLine}
use Rattle.etp_lines.specs.declared.matrix.MatrixLine.{MatrixLine}
use Rattle.etp_lines.specs.declared.proof.ProofLine.{ProofLine}
use Rattle.etp_lines.specs.declared.rules.RulesLine.{RulesLine}
use Rattle.etp_lines.specs.declared.table.TableLine.{TableLine}
use Rattle.etp_items.proofs.ModelLemmas.{IsNoClaim, head_takes_at, head_kept, head_shut_at, claims_take_ok}
use Rattle.etp_items.proofs.model.ModelWork.take.Goals as goal

no_claim : (said : Line) → ((l : ProofLine) × (said ≡ Spoken.Proof l)) ⊎ ((l : TableLine) × (said ≡ Spoken.Table l)) ⊎ ((l : LinearLine) × (said ≡ Spoken.Linear l))
    ⊎ ((l : MatrixLine) × (said ≡ Spoken.Matrix l)) ⊎ ((l : RulesLine) × (said ≡ Spoken.Rules l)) → IsNoClaim (line_of said)
no_claim said (inl (l, e)) = subst (λ (z : Line). IsNoClaim (line_of z)) (sym e) tt
no_claim said (inr (inl (l, e))) = subst (λ (z : Line). IsNoClaim (line_of z)) (sym e) tt
no_claim said (inr (inr (inl (l, e)))) = subst (λ (z : Line). IsNoClaim (line_of z)) (sym e) tt
no_claim said (inr (inr (inr (inl (l, e))))) = subst (λ (z : Line). IsNoClaim (line_of z)) (sym e) tt
no_claim said (inr (inr (inr (inr (l, e))))) = subst (λ (z : Line). IsNoClaim (line_of z)) (sym e) tt

pub returns-then-is_some : goal.returns-then-is_some
returns-then-is_some c = record { ok = head_shut_at c.args.self.now (line_of c.args.said) (no_claim c.args.said c.in-Proof.is) (sym c.is_some.ensures ∙ c.if-is_some.true); err = tt }

pub returns-else-is_some : goal.returns-else-is_some
returns-else-is_some c = record {
  ok = head_takes_at c.args.self.now c.take.new.self (line_of c.args.said) c.take.result (no_claim c.args.said c.in-Proof.is) (sym c.is_some.ensures ∙ c.if-is_some.false) c.take.ensures.ok;
  err = head_kept c.args.self.now c.take.new.self c.take.result c.take.ensures.err;
}

pub returns-in-Some-clause-ok : goal.returns-in-Some-clause-ok
returns-in-Some-clause-ok c =
    rw c.in-Claim.is (rw c.in-Some.is (claims_take_ok c.args.self.now.magma c.in-Some.claims c.take-in-Some.new.self (claim_line_of c.in-Claim.said) c.take-in-Some.result c.take-in-Some.ensures.ok))
