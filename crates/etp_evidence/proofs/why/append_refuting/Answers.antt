use Rattle.std.proofs.Common.{ℕ, List, length, sym, subst, ap, ◌∙◌}
use Rattle.etp_theory.specs.LawNumbers.{IsLaw}
use Rattle.etp_closure.specs.Tables.{image_of}
use Rattle.etp_items.specs.Bodies.{body_of}
use Rattle.etp_evidence.specs.Failing.{FailsInBody}
use Rattle.etp_evidence.proofs.Covering.{cover_fails}
use Rattle.etp_evidence.proofs.Shown.{OnOk-then, cover-shown}
use Rattle.etp_evidence.proofs.why.append_refuting.Goals as goal

pub number_said-requires : goal.number_said-requires
number_said-requires c = subst (λ (duals : List ℕ). IsLaw (length duals) c.args.cover.now.fails) (sym c.duals-duals.ensures.value)
    (cover_fails c.args.laws.now c.args.ledger.now c.args.e c.args.f c.args.cover.now (record { name = c.in-Some.name.now; body = body_of c.in-Some.body.now }) c.requires.over
    c.duals-duals.ensures.inverse c.requires.covers c.in-Some.ensures.file c.in-Some.ensures.valid).law_in

pub append_failure-requires : goal.append_failure-requires
append_failure-requires c = subst (FailsInBody c.args.laws.now.equations (body_of c.in-Some.body.now))
    (sym (c.number_said.ensures ∙ ap (λ (duals : List ℕ). image_of duals c.args.cover.now.dual c.args.cover.now.fails) c.duals-duals.ensures.value))
    (cover_fails c.args.laws.now c.args.ledger.now c.args.e c.args.f c.args.cover.now (record { name = c.in-Some.name.now; body = body_of c.in-Some.body.now }) c.requires.over
    c.duals-duals.ensures.inverse c.requires.covers c.in-Some.ensures.file c.in-Some.ensures.valid).fails

pub returns : goal.returns
returns c = OnOk-then c.append_path-2.result _ _ (λ h.
    cover-shown c.args.laws.now c.args.ledger.now.files c.args.cover.now (record { name = c.in-Some.name.now; body = body_of c.in-Some.body.now }) c.number_said.result
    c.args.text.now c.append_cover.new.text c.append.new.self c.append_failure.new.text c.append-2.new.self c.append_path.new.text c.append_path-2.new.text
    c.in-Some.ensures.file (c.number_said.ensures ∙ ap (λ (duals : List ℕ). image_of duals c.args.cover.now.dual c.args.cover.now.fails) c.duals-duals.ensures.value)
    c.in_ok-append_cover.ensures c.in_ok-append.ensures.ok c.in_ok-append_failure.ensures c.in_ok-append-2.ensures.ok c.in_ok-append_path.ensures h) c.append_path-2.ensures
