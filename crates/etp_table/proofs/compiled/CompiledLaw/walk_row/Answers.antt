use Rattle.std.proofs.Common.{◌≡◌, ◌<◌, ◌≤◌, ℕ, List, length, get_or, set, sym, ◌∙◌, subst, arith, rules, below_more, get_or-set_other, get_or-set_same}
use Rattle.etp_table.specs.Tables.{times}
use Rattle.etp_table.specs.Verdicts.{AgreesAt}
use Rattle.etp_table.specs.Programs.{Solves}
use Rattle.etp_table.specs.Compiled.{law_of, SameBelow, assignment_at}
use Rattle.etp_table.specs.declared.instructions.Instruction.{Instruction}
use Rattle.etp_table.proofs.Meanings.{left_value, right_value}
use Rattle.etp_table.proofs.compiled.CompiledLaw.walk_row.Goals as goal

-- the registers after a write to the last variable's, and a run that changes later ones
same_before : (old now new : List ℕ) (value : ℕ) → SameBelow 12 old now → SameBelow 13 (set now 12 value) new → SameBelow 12 old new
same_before old now new value before run r h = run r (omega arith) ∙ get_or-set_other now 12 r value 0 (omega arith) ∙ before r h

at_last : (now new : List ℕ) (value : ℕ) → 12 < length now → SameBelow 13 (set now 12 value) new → get_or new 12 0 ≡ value
at_last now new value long run = run 12 (omega arith) ∙ get_or-set_same now 12 value 0 long

pub returns-then-registers-self-clause-answer : goal.returns-then-registers-self-clause-answer
returns-then-registers-self-clause-answer c =
    let long : 12 ≤ length c.args.registers.now = search rules in
    let longer : 12 < length c.loop-value.registers = search rules in
    let old = c.args.registers.now in
    let new = c.run.new.registers in
    let value = c.loop-value.value in
    let same = same_before old c.loop-value.registers new value c.loop-value.invariant.same c.run.ensures.same in
    let last = at_last c.loop-value.registers new value longer c.run.ensures.same in
    let looped : Solves (times c.args.table.now) 13 c.args.self.now.program.looped (λ r. get_or new r 0) =
    subst (λ (is : List Instruction). Solves (times c.args.table.now) 13 is (λ r. get_or new r 0)) c.as_slice-looped.ensures.value c.run.ensures.solved in
    record {
      within = c.loop-value-test.true;
      before = c.loop-value.invariant.agree;
      left_is = left_value c.args.table.now c.args.self.now old new value c.requires.compiled long same last c.requires.solved looped;
      right_is = right_value c.args.table.now c.args.self.now old new value c.requires.compiled long same last c.requires.solved looped;
      differ = c.if-registers-self.true;
    }

pub loop-value-preserved : goal.loop-value-preserved
loop-value-preserved c =
    let long : 12 ≤ length c.args.registers.now = search rules in
    let longer : 12 < length c.loop-value.registers = search rules in
    let old = c.args.registers.now in
    let new = c.run.new.registers in
    let value = c.loop-value.value in
    let same = same_before old c.loop-value.registers new value c.loop-value.invariant.same c.run.ensures.same in
    let last = at_last c.loop-value.registers new value longer c.run.ensures.same in
    let looped : Solves (times c.args.table.now) 13 c.args.self.now.program.looped (λ r. get_or new r 0) =
    subst (λ (is : List Instruction). Solves (times c.args.table.now) 13 is (λ r. get_or new r 0)) c.as_slice-looped.ensures.value c.run.ensures.solved in
    let here : AgreesAt c.args.table.now (law_of c.args.self.now) (assignment_at c.args.self.now.program.last old value) =
    sym (left_value c.args.table.now c.args.self.now old new value c.requires.compiled long same last c.requires.solved looped)
    ∙ c.if-registers-self.false
    ∙ right_value c.args.table.now c.args.self.now old new value c.requires.compiled long same last c.requires.solved looped in
    record {
      values = c.run.ensures.values;
      same = same;
      agree = below_more (λ j. AgreesAt c.args.table.now (law_of c.args.self.now) (assignment_at c.args.self.now.program.last old j)) value c.loop-value.invariant.agree here;
    }
