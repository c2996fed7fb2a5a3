use Rattle.std.proofs.Common.{refl, sym}
use Rattle.etp_print.proofs.GivenLemmas.{IfOk-then, gives-refused, untrue}
use Rattle.etp_profile.specs.ProfileReplies.{no_name, unknown_name, other_kind}
use Rattle.etp_profile.proofs.profile.answer_profile.Goals as goal

pub returns-then-not-branch : goal.returns-then-not-branch
returns-then-not-branch c = IfOk-then c.refuse.result _ _ (λ refusal h. gives-refused c.args.line c.refuse.new.text _ refusal _
    (no_name (untrue c.in_ok-is_name.field-0 _ c.in_ok-is_name.ensures c.if-not-branch.true) refl) h) c.refuse.ensures

pub returns-in-None : goal.returns-in-None
returns-in-None c = IfOk-then c.refuse_name.result _ _ (λ refusal h. gives-refused c.args.line c.refuse_name.new.text _ refusal _
    (unknown_name (c.in_ok-is_name.ensures.0 c.if-not-branch.false) (sym c.in-None.ensures.body) refl) h) c.refuse_name.ensures

pub returns-in-Some-Proof : goal.returns-in-Some-Proof
returns-in-Some-Proof c = IfOk-then c.refuse_name-in-Some-Proof.result _ _ (λ refusal h. gives-refused c.args.line c.refuse_name-in-Some-Proof.new.text _ refusal _
    (other_kind _ (c.in_ok-is_name.ensures.0 c.if-not-branch.false) (sym c.in-Some-Proof.ensures.body) (rw c.in-Some-Proof.field-0-is refl) refl) h) c.refuse_name-in-Some-Proof.ensures

pub returns-in-Some-Linear : goal.returns-in-Some-Linear
returns-in-Some-Linear c = IfOk-then c.refuse_name-in-Some-Linear.result _ _ (λ refusal h. gives-refused c.args.line c.refuse_name-in-Some-Linear.new.text _ refusal _
    (other_kind _ (c.in_ok-is_name.ensures.0 c.if-not-branch.false) (sym c.in-Some-Linear.ensures.body) (rw c.in-Some-Linear.field-0-is refl) refl) h) c.refuse_name-in-Some-Linear.ensures

pub returns-in-Some-Matrix : goal.returns-in-Some-Matrix
returns-in-Some-Matrix c = IfOk-then c.refuse_name-in-Some-Matrix.result _ _ (λ refusal h. gives-refused c.args.line c.refuse_name-in-Some-Matrix.new.text _ refusal _
    (other_kind _ (c.in_ok-is_name.ensures.0 c.if-not-branch.false) (sym c.in-Some-Matrix.ensures.body) (rw c.in-Some-Matrix.field-0-is refl) refl) h) c.refuse_name-in-Some-Matrix.ensures

pub returns-in-Some-Rules : goal.returns-in-Some-Rules
returns-in-Some-Rules c = IfOk-then c.refuse_name-in-Some-Rules.result _ _ (λ refusal h. gives-refused c.args.line c.refuse_name-in-Some-Rules.new.text _ refusal _
    (other_kind _ (c.in_ok-is_name.ensures.0 c.if-not-branch.false) (sym c.in-Some-Rules.ensures.body) (rw c.in-Some-Rules.field-0-is refl) refl) h) c.refuse_name-in-Some-Rules.ensures
