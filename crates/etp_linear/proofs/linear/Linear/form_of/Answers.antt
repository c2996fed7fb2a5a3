use Rattle.std.proofs.Common.{◌≡◌, ◌∙◌, refl, replicate, length}
use Rattle.std.specs.Prelude.{pos, FitsSigned}
use Rattle.std.specs.Int.{w128}
use Rattle.std.proofs.lemmas.Int.{to_z-of_z}
use Rattle.etp_term.specs.Terms.{tree_of}
use Rattle.etp_linear.specs.Linears.{magma_of}
use Rattle.etp_linear.specs.declared.parts.Form.{Form}
use Rattle.etp_linear.proofs.Starts.{can_start, started, form_value, zeros_empty}
use Rattle.etp_linear.proofs.linear.Linear.form_of.Goals as goal

abbrev empty_form : Form
empty_form = record { coefficients = replicate 8 (pos 0); constant = pos 0 }

pub gain-requires : goal.gain-requires
gain-requires c =
    let l = magma_of c.args.self.now in
    let f : FitsSigned w128 c.one.result = record { sfits = c.one.type_inv } in
    can_start l c.args.self.now.in_range (tree_of c.args.term.now) _ _ c.requires.few c.requires.variables (to_z-of_z w128 _ f ∙ c.one.ensures) (zeros_empty empty_form refl refl)

pub returns-clause-numbers : goal.returns-clause-numbers
returns-clause-numbers c =
    let l = magma_of c.args.self.now in
    let f : FitsSigned w128 c.one.result = record { sfits = c.one.type_inv } in
    started l c.args.self.now.in_range (tree_of c.args.term.now) _ empty_form c.gain.new.form (to_z-of_z w128 _ f ∙ c.one.ensures) (zeros_empty empty_form refl refl) c.gain.ensures

pub returns-clause-value : goal.returns-clause-value
returns-clause-value c =
    let l = magma_of c.args.self.now in
    let f : FitsSigned w128 c.one.result = record { sfits = c.one.type_inv } in
    let long : length c.gain.new.form.coefficients ≡ 8 = c.gain.ensures.length_kept in
    form_value l c.args.self.now.in_range (tree_of c.args.term.now) c.gain.new.form c.requires.variables long
    (started l c.args.self.now.in_range (tree_of c.args.term.now) _ empty_form c.gain.new.form (to_z-of_z w128 _ f ∙ c.one.ensures) (zeros_empty empty_form refl refl) c.gain.ensures)
