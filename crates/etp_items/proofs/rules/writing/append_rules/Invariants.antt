use Rattle.std.proofs.Common.{◌≡◌, ◌++◌, take}
use Rattle.etp_items.proofs.RulesText.{rules_text}
use Rattle.etp_items.proofs.rules.writing.append_rules.Given as goal

abbrev pub invariant-loop-at : goal.invariant-loop-at
invariant-loop-at l = l.text ≡ l.initial.text ++ rules_text (take l.at l.rules)
