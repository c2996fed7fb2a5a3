use Rattle.std.proofs.Common.{◌∙◌, ◌+◌, refl}
use Rattle.std.specs.Prelude.{codes, decimal}
use Rattle.csv.specs.Records.{fields_of}
use Rattle.etp_report.proofs.Records.{field-more}
use Rattle.etp_report.proofs.block.fill_head.Goals as goal

pub loop-place-init : goal.loop-place-init
loop-place-init c = record {
  fields_so_far = c.in_ok-push_field.ensures.fields ∙ rw (c.clear.ensures.fields, c.clear.ensures.partial) refl;
  no_part = c.in_ok-push_field.ensures.partial;
}

pub loop-place-preserved : goal.loop-place-preserved
loop-place-preserved c = record {
  fields_so_far = field-more (codes "law") decimal c.args.first c.loop-place.place (c.args.first + c.loop-place.place) (fields_of c.loop-place.row) (fields_of c.push_number.new.row) refl
      c.loop-place.invariant.fields_so_far c.in_ok-push_number.ensures.fields;
  no_part = c.in_ok-push_number.ensures.no_part;
}
