use Rattle.std.proofs.Common.{◌≡◌, ◌∙◌, ◌++◌, refl, sym, ap, subst, arith, true, false, List, ℕ}
use Rattle.etp_report.specs.Blocks.{IsBlock}
use Rattle.etp_report.proofs.Sums.{says}
use Rattle.etp_report.proofs.block.csv_block.Goals as goal

pub returns-then-not-is_block-clause-err : goal.returns-then-not-is_block-clause-err
returns-then-not-is_block-clause-err c = (
  refl,
  refl,
  λ b.
      let e : true ≡ false = sym (c.is_block.ensures.1 (subst (λ n. IsBlock n c.args.first c.args.last) (sym c.size.ensures) b)) ∙ c.if-not-is_block.true in
      absurd (cc),
)

pub overflow_sub-count : goal.overflow_sub-count
overflow_sub-count c = let b = c.is_block.ensures.0 c.if-not-is_block.false in omega (arith, b.in_order)

pub overflow_add-count : goal.overflow_add-count
overflow_add-count c = let b = c.is_block.ensures.0 c.if-not-is_block.false in omega (arith, b.few)

pub write_lines-requires-clause-from_one : goal.write_lines-requires-clause-from_one
write_lines-requires-clause-from_one c = let b = c.is_block.ensures.0 c.if-not-is_block.false in b.from_one

pub write_lines-requires-clause-to_last : goal.write_lines-requires-clause-to_last
write_lines-requires-clause-to_last c = let b = c.is_block.ensures.0 c.if-not-is_block.false in omega (arith, b.in_order, b.to_last, c.size.ensures)

pub write_lines-requires-clause-few : goal.write_lines-requires-clause-few
write_lines-requires-clause-few c = let b = c.is_block.ensures.0 c.if-not-is_block.false in omega (arith, b.in_order, c.ranges.last)

pub returns-clause-text : goal.returns-clause-text
returns-clause-text c = c.in_ok-append.ensures.ok ∙ ap (λ (x : List ℕ). x ++ c.as_slice.result.now) c.empty-text.ensures ∙ c.as_slice.ensures.value ∙ c.in_ok-bytes.ensures

pub returns-clause-block : goal.returns-clause-block
returns-clause-block c = subst (λ n. IsBlock n c.args.first c.args.last) c.size.ensures (c.is_block.ensures.0 c.if-not-is_block.false)

pub returns-clause-says : goal.returns-clause-says
returns-clause-says c = λ facts stands. says c.args.closure.now facts stands
