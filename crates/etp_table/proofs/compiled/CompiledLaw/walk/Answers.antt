use Rattle.std.proofs.Common.{◌≡◌, ◌≤◌, ◌<◌, ◌+◌, ◌-◌, ◌^◌, ◌++◌, ◌∷◌, [], ℕ, List, length, take, drop, get_or, min, arith, sym, subst, ◌∙◌, ap}
use Rattle.std.proofs.lemmas.List.{get_or-take, length-take}
use Rattle.etp_theory.specs.Tables.{place_of}
use Rattle.etp_table.specs.Points.{values_of}
use Rattle.etp_table.specs.Verdicts.{limit, AgreesBefore}
use Rattle.etp_table.specs.Compiled.{law_of, AreValues, SameBelow}
use Rattle.etp_table.specs.Digits.{AreDigits}
use Rattle.etp_table.proofs.Walking.{walked_from_none, last_set, joined_below, row_agrees, walked_last, walked_next, next_fits, failure_is_first, all_agree}
use Rattle.etp_table.proofs.compiled.CompiledLaw.walk.Goals as goal

pub loop-passed-init : goal.loop-passed-init
loop-passed-init g c =
    let some : 0 < g.row.K = let v = c.requires.variables in let w = c.requires.compiled.variables_are in omega arith in
    walked_from_none c.args.table.now (law_of c.args.self.now) g.row.K c.args.looked_at some c.size-size.ensures.table.some

pub run-requires-clause-values : goal.run-requires-clause-values
run-requires-clause-values g c =
    let k = g.row.K - 1 in
    let few : k ≤ 6 = let v = c.requires.variables in let w = c.requires.compiled.variables_are in let f = c.requires.compiled.few in omega arith in
    let i = c.loop-passed.invariant in
    subst (λ (xs : List ℕ). AreValues c.args.table.now (xs ++ drop k c.loop-passed.registers)) (sym c.copy_from_slice.ensures.after)
    (joined_below c.args.table.now k c.loop-passed.values c.loop-passed.registers few i.values_long i.long i.digits i.below)

pub returns-in-Some : goal.returns-in-Some
returns-in-Some g c =
    let t = c.args.table.now in
    let k = g.row.K - 1 in
    let at_last : k ≡ c.args.self.now.program.last = let v = c.requires.variables in let w = c.requires.compiled.variables_are in omega arith in
    let size = c.size-size.ensures.value in
    let count = c.min-count.ensures in
    let kept : SameBelow 7 (take k c.loop-passed.values ++ drop k c.loop-passed.registers) c.run.new.registers =
    subst (λ (xs : List ℕ). SameBelow 7 (xs ++ drop k c.loop-passed.registers) c.run.new.registers) c.copy_from_slice.ensures.after c.run.ensures.same in
    let limited : c.args.looked_at ≤ limit = omega (arith, c.requires.all) in
    let many : g.row.K ≡ k + 1 = let v = c.requires.variables in let w = c.requires.compiled.variables_are in omega arith in
    let values : values_of c.point_of.result ≡ take k c.loop-passed.values ++ c.in-Some.value ∷ [] =
    c.point_of.ensures.values ∙ last_set c.loop-passed.values k c.in-Some.value c.loop-passed.invariant.values_long in
    failure_is_first t c.args.self.now k c.loop-passed.values c.loop-passed.registers c.run.new.registers c.walk_row.new.registers c.loop-passed.passed c.args.looked_at c.min-count.result
    c.requires.compiled at_last c.loop-passed.invariant c.loop-passed-test.true c.run.array_long c.walk_row.array_long kept c.run.ensures.values c.in-Some.ensures.same (omega arith) (omega arith)
    c.in-Some.value c.point_of.result c.in-Some.ensures.answer limited (c.point_of.ensures.variables ∙ many) values c.point_of.ensures.padded

pub advance-requires-clause-digits : goal.advance-requires-clause-digits
advance-requires-clause-digits g c = λ i h.
    let k = g.row.K - 1 in
    let long = c.loop-passed.invariant.values_long in
    let low : i < k = omega (arith, length-take k c.loop-passed.values, h) in
    subst (λ n. get_or (take k c.loop-passed.values) i 0 < n) (sym c.size-size.ensures.value)
    (subst (λ z. z < c.args.table.now.size) (sym (get_or-take k c.loop-passed.values i 0 low)) (c.loop-passed.invariant.digits i (omega arith)))

pub advance-requires-clause-more : goal.advance-requires-clause-more
advance-requires-clause-more g c =
    let t = c.args.table.now in
    let k = g.row.K - 1 in
    let at_last : k ≡ c.args.self.now.program.last = let v = c.requires.variables in let w = c.requires.compiled.variables_are in omega arith in
    let size = c.size-size.ensures.value in
    let count = c.min-count.ensures in
    let kept : SameBelow 7 (take k c.loop-passed.values ++ drop k c.loop-passed.registers) c.run.new.registers =
    subst (λ (xs : List ℕ). SameBelow 7 (xs ++ drop k c.loop-passed.registers) c.run.new.registers) c.copy_from_slice.ensures.after c.run.ensures.same in
    let whole : c.min-count.result ≡ min (c.args.looked_at - c.loop-passed.passed) t.size = count ∙ ap (min (c.args.looked_at - c.loop-passed.passed)) size in
    subst (λ n. place_of n (take k c.loop-passed.values) + 1 < n ^ length (take k c.loop-passed.values)) (sym size)
    (next_fits t c.args.self.now k c.loop-passed.values c.loop-passed.registers c.run.new.registers c.walk_row.new.registers c.loop-passed.passed c.args.looked_at c.min-count.result
    c.requires.compiled at_last c.loop-passed.invariant c.loop-passed-test.true c.run.array_long c.walk_row.array_long kept c.run.ensures.values c.in_default.ensures.same (omega arith) (omega arith)
    whole c.if-passed-looked_at.true c.requires.all)

pub loop-passed-preserved-then-passed-looked_at : goal.loop-passed-preserved-then-passed-looked_at
loop-passed-preserved-then-passed-looked_at g c =
    let t = c.args.table.now in
    let k = g.row.K - 1 in
    let at_last : k ≡ c.args.self.now.program.last = let v = c.requires.variables in let w = c.requires.compiled.variables_are in omega arith in
    let size = c.size-size.ensures.value in
    let count = c.min-count.ensures in
    let kept : SameBelow 7 (take k c.loop-passed.values ++ drop k c.loop-passed.registers) c.run.new.registers =
    subst (λ (xs : List ℕ). SameBelow 7 (xs ++ drop k c.loop-passed.registers) c.run.new.registers) c.copy_from_slice.ensures.after c.run.ensures.same in
    let whole : c.min-count.result ≡ min (c.args.looked_at - c.loop-passed.passed) t.size = count ∙ ap (min (c.args.looked_at - c.loop-passed.passed)) size in
    let agree : AgreesBefore t (law_of c.args.self.now) (c.loop-passed.passed + c.min-count.result) =
    row_agrees t c.args.self.now k c.loop-passed.values c.loop-passed.registers c.run.new.registers c.walk_row.new.registers c.loop-passed.passed c.args.looked_at c.min-count.result
    c.requires.compiled at_last c.loop-passed.invariant c.loop-passed-test.true c.run.array_long c.walk_row.array_long kept c.run.ensures.values c.in_default.ensures.same (omega arith) (omega arith)
    c.in_default.ensures.answer in
    let digits : AreDigits t.size c.advance.new.digits = subst (λ n. AreDigits n c.advance.new.digits) size c.advance.ensures.digits in
    let next : place_of t.size c.advance.new.digits ≡ place_of t.size (take k c.loop-passed.values) + 1 =
    subst (λ n. place_of n c.advance.new.digits ≡ place_of n (take k c.loop-passed.values) + 1) size c.advance.ensures.next in
    walked_next t c.args.self.now k c.loop-passed.values c.loop-passed.registers c.run.new.registers c.walk_row.new.registers c.loop-passed.passed c.args.looked_at c.min-count.result
    c.requires.compiled at_last c.loop-passed.invariant c.loop-passed-test.true c.run.array_long c.walk_row.array_long kept c.run.ensures.values c.in_default.ensures.same (omega arith) (omega arith)
    whole c.if-passed-looked_at.true c.advance.new.digits c.in_default.ensures.values digits c.advance.auto.digits next agree

pub loop-passed-preserved : goal.loop-passed-preserved
loop-passed-preserved g c =
    let t = c.args.table.now in
    let k = g.row.K - 1 in
    let at_last : k ≡ c.args.self.now.program.last = let v = c.requires.variables in let w = c.requires.compiled.variables_are in omega arith in
    let size = c.size-size.ensures.value in
    let count = c.min-count.ensures in
    let kept : SameBelow 7 (take k c.loop-passed.values ++ drop k c.loop-passed.registers) c.run.new.registers =
    subst (λ (xs : List ℕ). SameBelow 7 (xs ++ drop k c.loop-passed.registers) c.run.new.registers) c.copy_from_slice.ensures.after c.run.ensures.same in
    let agree : AgreesBefore t (law_of c.args.self.now) (c.loop-passed.passed + c.min-count.result) =
    row_agrees t c.args.self.now k c.loop-passed.values c.loop-passed.registers c.run.new.registers c.walk_row.new.registers c.loop-passed.passed c.args.looked_at c.min-count.result
    c.requires.compiled at_last c.loop-passed.invariant c.loop-passed-test.true c.run.array_long c.walk_row.array_long kept c.run.ensures.values c.in_default.ensures.same (omega arith) (omega arith)
    c.in_default.ensures.answer in
    walked_last t c.args.self.now k c.loop-passed.values c.loop-passed.registers c.run.new.registers c.walk_row.new.registers c.loop-passed.passed c.args.looked_at c.min-count.result
    c.requires.compiled at_last c.loop-passed.invariant c.loop-passed-test.true c.run.array_long c.walk_row.array_long kept c.run.ensures.values c.in_default.ensures.same (omega arith) (omega arith)
    c.in_default.ensures.values agree (omega arith)

pub returns : goal.returns
returns g c = (c.requires.all, all_agree c.args.table.now (law_of c.args.self.now) (g.row.K - 1) c.args.looked_at c.loop-passed.passed c.loop-passed.values c.loop-passed.registers c.requires.all (omega arith) c.loop-passed.invariant)
