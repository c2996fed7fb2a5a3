use Rattle.etp_finite_body.proofs.FirstLemmas.{rules_begun, table_begun, linear_begun, integers_begun}
use Rattle.etp_finite_body.proofs.first.begun_by.Goals as goal

pub returns-then-begins : goal.returns-then-begins
returns-then-begins c =
    let w = c.begins.ensures.yes c.if-begins.true in
    rules_begun c.args.line.now w.0 c.requires w.1

pub returns-then-begins-2 : goal.returns-then-begins-2
returns-then-begins-2 c =
    let w = c.begins-2.ensures.yes c.if-begins-2.true in
    table_begun c.args.line.now w.0 c.requires (c.begins.ensures.no c.if-begins.false) w.1

pub returns-then-begins-3 : goal.returns-then-begins-3
returns-then-begins-3 c =
    let w = c.begins-3.ensures.yes c.if-begins-3.true in
    integers_begun c.args.line.now c.in-Some.rest.now w.0 c.requires c.in-Some.ensures.words w.1

pub returns : goal.returns
returns c = linear_begun c.args.line.now c.in-Some.rest.now c.requires c.in-Some.ensures.words (c.begins-3.ensures.no c.if-begins-3.false)
