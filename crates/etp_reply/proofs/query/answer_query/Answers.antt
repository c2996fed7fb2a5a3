use Rattle.etp_print.proofs.GivenLemmas.{IfOk-then}
use Rattle.etp_reply.proofs.query.answer_query.Goals as goal

pub returns-in-Number : goal.returns-in-Number
returns-in-Number c = rw c.in-Number.is c.answer_number.ensures

pub returns-in-Ask : goal.returns-in-Ask
returns-in-Ask c = rw c.in-Ask.is (IfOk-then c.answer_pair.result _ _ (λ flag h. h c.args.opened.now.laws c.requires.agrees) c.answer_pair.ensures)

pub returns-in-Why : goal.returns-in-Why
returns-in-Why c = rw c.in-Why.is c.answer_why.ensures

pub returns-in-Files : goal.returns-in-Files
returns-in-Files c = rw c.in-Files.is c.answer_files.ensures

pub returns-in-Counts : goal.returns-in-Counts
returns-in-Counts c = rw c.in-Counts.is (IfOk-then c.answer_counts.result _ _ (λ flag h. h c.args.opened.now.laws c.requires.agrees) c.answer_counts.ensures)

pub returns-in-Row : goal.returns-in-Row
returns-in-Row c = rw c.in-Row.is (IfOk-then c.answer_row.result _ _ (λ flag h. h c.args.opened.now.laws c.requires.agrees) c.answer_row.ensures)

pub returns-in-Class : goal.returns-in-Class
returns-in-Class c = rw c.in-Class.is (IfOk-then c.answer_class.result _ _ (λ flag h. h c.args.opened.now.laws c.requires.agrees) c.answer_class.ensures)

pub returns-in-Classes : goal.returns-in-Classes
returns-in-Classes c = rw c.in-Classes.is (IfOk-then c.answer_classes.result _ _ (λ flag h. h c.args.opened.now.laws c.requires.agrees) c.answer_classes.ensures)

pub returns-in-Csv : goal.returns-in-Csv
returns-in-Csv c = rw c.in-Csv.is (IfOk-then c.answer_csv.result _ _ (λ flag h. h c.args.opened.now.laws c.requires.agrees) c.answer_csv.ensures)

pub returns-in-Ledger : goal.returns-in-Ledger
returns-in-Ledger c = rw c.in-Ledger.is c.answer_ledger.ensures

pub returns-in-Profile : goal.returns-in-Profile
returns-in-Profile c = rw c.in-Profile.is c.answer_profile.ensures
