use Rattle.std.proofs.Common.{slice_index, ap, ◌∙◌, arith}
use Rattle.std.proofs.lemmas.Result.{IfOk-weaker}
use Rattle.etp_term.specs.Laws.{equation_of}
use Rattle.etp_items.specs.Bodies.{proof_of}
use Rattle.etp_gen.specs.Files.{one_step}
use Rattle.etp_gen.proofs.Replacing.{few_variables, by_itself, not_too_many}
use Rattle.etp_gen.proofs.instances.prove_instance.Goals as goal

pub replaced_law-requires-clause-left : goal.replaced_law-requires-clause-left
replaced_law-requires-clause-left c =
    let few = few_variables c.args.laws.now.order c.args.laws.now.equations c.args.hypothesis (equation_of c.args.law.now) c.requires.list c.requires.small c.requires.stands in
    omega (arith, few)

pub replaced_law-requires-clause-right : goal.replaced_law-requires-clause-right
replaced_law-requires-clause-right c =
    let few = few_variables c.args.laws.now.order c.args.laws.now.equations c.args.hypothesis (equation_of c.args.law.now) c.requires.list c.requires.small c.requires.stands in
    omega (arith, few)

pub unreachable-requires : goal.unreachable-requires
unreachable-requires c =
    not_too_many c.args.laws.now c.args.hypothesis c.in-TooManyOps.field-0 (equation_of c.args.law.now) (equation_of c.in_ok-replaced.replaced) (λ v. slice_index c.args.values.now v)
    c.in_ok-replaced.ensures c.requires.list c.requires.stands (rw c.in-TooManyOps.is at c.number.ensures)

pub returns-in_ok-copy-in-Trivial : goal.returns-in_ok-copy-in-Trivial
returns-in_ok-copy-in-Trivial c =
    IfOk-weaker c.proof_by_step-in-Trivial.result _ _
    (λ file h. by_itself c.args.laws.now c.args.hypothesis (equation_of c.args.law.now) (equation_of c.in_ok-replaced.replaced) (λ v. slice_index c.args.values.now v) (proof_of file)
    c.in_ok-replaced.ensures (rw c.in-Trivial.is at c.number.ensures) c.requires.stands
    (h ∙ ap (λ law. one_step c.args.hypothesis c.args.hypothesis (equation_of law)) c.in_ok-copy-in-Trivial.ensures)) c.proof_by_step-in-Trivial.ensures
