use Rattle.std.proofs.Common.{◌≡◌, ◌++◌, List, ℕ, sym, ap, ◌∙◌, subst}
use Rattle.std.specs.Prelude.{codes}
use Rattle.etp_laws.specs.Listing.{IsTheList}
use Rattle.etp_gen.specs.Scripts.{file_name}
use Rattle.etp_ledger.specs.Withdrawing.{IsWithdrawn}
use Rattle.etp_demo.specs.Demos.{number_line, name_line}
use Rattle.etp_demo.proofs.Naming.{first_of, many_files}
use Rattle.etp_demo.proofs.Summing.{five_lines}
use Rattle.etp_demo.proofs.summary.summary.Goals as goal

pub withdraw-requires : goal.withdraw-requires
withdraw-requires c =
    first_of c.in_ok-laws.laws.equations c.args.count c.args.seed c.in_ok-ledger.ledger.files c.as_slice.result.now c.requires c.in_ok-ledger.ensures.files
    (c.as_slice.ensures.value ∙ c.in_ok-first.ensures)

pub returns : goal.returns
returns c =
    let laws = c.in_ok-laws.laws in
    let files = c.in_ok-ledger.ledger.files in
    let name : c.as_slice.result.now ≡ file_name 1 = c.as_slice.ensures.value ∙ c.in_ok-first.ensures in
    let again : c.as_slice-2.result.now ≡ file_name 1 = c.as_slice-2.ensures.value ∙ c.in_ok-first.ensures in
    let many = many_files laws.equations c.args.count c.args.seed files c.in_ok-ledger.ensures.files in
    let over = c.in_ok-ledger.ensures.over in
    let after = c.withdraw.ensures.over laws over in
    let counted = c.in_ok-append_counts.ensures laws over in
    let counted_after = c.in_ok-append_counts-2.ensures laws after in
    record {
      laws = laws;
      order_is = c.in_ok-laws.ensures.order;
      the_list = c.in_ok-laws.ensures.list;
      the_duals = c.duals-duals.ensures.exact;
      files = files;
      are_files = c.in_ok-ledger.ensures.files;
      accepted = c.count.ensures.accepted laws.equations (subst (λ k. IsTheList k laws.equations) (sym over.same_order) over.list);
      rest = c.withdraw.new.ledger.files;
      withdrawn = subst (λ (n : List ℕ). IsWithdrawn files n c.withdraw.new.ledger.files) name c.withdraw.ensures.files;
      counts = counted.line;
      counted = counted.counts;
      counts_after = counted_after.line;
      counted_after = counted_after.counts;
      classes = c.in_ok-classes.classes;
      classed = c.in_ok-classes.ensures laws after;
      text_is = five_lines c.args.count counted.line counted_after.line c.in_ok-classes.classes c.empty-text.result c.append_number_line.new.text c.append_counts.new.text c.append_name_line.new.text c.append_counts-2.new.text c.append_number_line-2.new.text (record {
        begun = c.empty-text.ensures;
        first = c.in_ok-append_number_line.ensures ∙ ap (λ n. c.empty-text.result ++ number_line (codes "files ") n) (c.count.ensures.value ∙ many);
        second = counted.appended;
        third = c.in_ok-append_name_line.ensures ∙ ap (λ (n : List ℕ). c.append_counts.new.text ++ name_line (codes "withdrawn ") n) again;
        fourth = counted_after.appended;
        fifth = c.in_ok-append_number_line-2.ensures;
      });
    }
