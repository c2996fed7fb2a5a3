use Rattle.std.proofs.Common.{◌≡◌, sym, ap, ◌∙◌}
use Rattle.etp_term.specs.Laws.{equation_of}
use Rattle.etp_items.specs.Bodies.{proof_of}
use Rattle.etp_gen.specs.Draws.{next_draw}
use Rattle.etp_gen.proofs.Replacing.{some_variable, next_generated}
use Rattle.etp_gen.proofs.Valid.{valid_file}
use Rattle.etp_gen.proofs.generator.Generator.next_file.Goals as goal

pub draw_values-values-requires-clause-some : goal.draw_values-values-requires-clause-some
draw_values-values-requires-clause-some c =
    let known = c.in-Some-variables.ensures.exact in
    some_variable known.0 c.in-Some-variables.variables known.2

pub returns-clause-file : goal.returns-clause-file
returns-clause-file c =
    let drawn : c.draw_from-drawn.result ≡ next_draw c.args.self.now = c.draw_from-drawn.ensures.value ∙ ap next_draw c.self.view_is in
    next_generated c.args.laws.now.equations c.args.laws.now.order c.args.self.now c.draw_from-drawn.result c.in-Some-variables.variables c.draw_values-values.result.after
    c.draw_values-values.result.values (equation_of c.in-Some.law.now) (proof_of c.in_ok-file.file) c.in-Some.ensures.list drawn (sym c.in-Some.ensures.entry)
    c.in-Some-variables.ensures.exact c.draw_values-values.ensures.values c.draw_values-values.ensures.after c.in_ok-file.ensures

pub returns-clause-valid : goal.returns-clause-valid
returns-clause-valid c =
    let drawn : c.draw_from-drawn.result ≡ next_draw c.args.self.now = c.draw_from-drawn.ensures.value ∙ ap next_draw c.self.view_is in
    valid_file c.args.laws.now.equations c.args.self.now c.draw_values-values.result.after (proof_of c.in_ok-file.file)
    (next_generated c.args.laws.now.equations c.args.laws.now.order c.args.self.now c.draw_from-drawn.result c.in-Some-variables.variables c.draw_values-values.result.after
    c.draw_values-values.result.values (equation_of c.in-Some.law.now) (proof_of c.in_ok-file.file) c.in-Some.ensures.list drawn (sym c.in-Some.ensures.entry)
    c.in-Some-variables.ensures.exact c.draw_values-values.ensures.values c.draw_values-values.ensures.after c.in_ok-file.ensures)
