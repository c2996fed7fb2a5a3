use Rattle.etp_gen.proofs.Valid.{valid_file, valid_files}
use Rattle.etp_gen.proofs.Unique.{one_file, one_script}
use Rattle.etp_gen.proofs.Growing.{one_more}
use Rattle.etp_gen.proofs.Names.{is_name, one_name}
use Rattle.etp_gen.proofs.ReadFiles.{file_reads}
use Rattle.etp_gen.proofs.generator_theorems.Goals as goal

pub returns : goal.returns
returns c = record {
  valid_file = valid_file;
  valid_files = valid_files;
  one_file = one_file;
  one_script = one_script;
  one_more = one_more;
  file_reads = file_reads;
  is_name = is_name;
  one_name = one_name;
}
