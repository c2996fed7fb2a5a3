use Rattle.std.proofs.Common.{refl}
use Rattle.etp_gen.proofs.Computed.{first_file, text_is_first, first_script, tenth_name, kept, not_squares, lone, not_kept}
use Rattle.etp_gen.proofs.generator_examples.Goals as goal

pub returns : goal.returns
returns c = record {
  small_seed = refl;
  great_seed = refl;
  great_draw = refl;
  draws = refl;
  number = refl;
  values = refl;
  file = first_file;
  text = text_is_first;
  script = first_script;
  trivial = kept;
  not_trivial = not_squares;
  lone = lone;
  not_lone = not_kept;
  tenth_name = tenth_name;
}
