use Rattle.etp_rules.specs.Rules.{rules_of}
use Rattle.etp_items.specs.Bodies.{weight_of}
use Rattle.etp_items.proofs.RulesText.{system_written}
use Rattle.etp_items.proofs.rules.writing.append_system.Goals as goal

pub returns : goal.returns
returns c =
    system_written c.append_rules.result (weight_of c.args.body.now) (rules_of c.args.body.now.rules) c.args.text.now c.append.new.self c.append_numbers.new.text c.append_rules.new.text
    c.in_ok-append.ensures.ok c.in_ok-append_numbers.ensures c.append_rules.ensures
