use Rattle.std.proofs.Common.{◌||◌}
use Rattle.etp_serving.proofs.serving.close.Goals as goal

pub returns-in-Err-clause-write : goal.returns-in-Err-clause-write
returns-in-Err-clause-write g c e state d =
    let begun = c.in-Err.ensures.err in
    record {
      text = c.respond_at_end.new.text;
      front = begun.front;
      bad = c.args.refused || c.in-Ok.also;
      written = begun.appended;
      gives = c.in-Ok.ensures state d c.args.refused;
      prefix = rw c.as_slice.ensures at begun.begins;
    }
