use Rattle.std.proofs.Common.{rules, ℕ, List, ◌++◌, ap, ◌∙◌, sym}
use Rattle.etp_print.specs.RefusalTexts.{values_text}
use Rattle.etp_print.proofs.Values.{values_text-step, values_text-rest}
use Rattle.etp_print.proofs.table.append_point.Goals as goal
use Rattle.etp_print.proofs.table.append_point.Goals.{then-variable-from+in_ok-append_value, else-variable-from}

pub loop-variable-preserved : goal.loop-variable-preserved
loop-variable-preserved c = elim c.if-variable-from.branch [
  | then-variable-from+in_ok-append_value w ↦ values_text-step c.args.point.now.values c.loop-variable.text c.args.text.now c.if-variable-from.text c.args.point.now.variables c.loop-variable.variable (search rules) (search rules) (search rules) c.loop-variable.invariant
  | else-variable-from w ↦ w.text-is ∙ c.loop-variable.invariant ∙ ap (λ (xs : List ℕ). c.args.text.now ++ values_text 0 xs) (sym (values_text-rest c.args.point.now.values c.args.point.now.variables c.loop-variable.variable (search rules)))
]
