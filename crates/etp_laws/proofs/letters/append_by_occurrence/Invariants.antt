use Rattle.std.proofs.Common.{◌≡◌, ◌≤◌, ◌+◌, ◌++◌, drop, length}
use Rattle.etp_laws.specs.Occurrences.{by_occurrence_after, seen_all}
use Rattle.etp_laws.proofs.letters.append_by_occurrence.Given as goal

abbrev pub invariant-loop-v : goal.invariant-loop-v
invariant-loop-v l = record {
  numbers : l.numbers ++ by_occurrence_after l.seen (drop l.v-index l.word) ≡ l.initial.numbers ++ by_occurrence_after l.initial.seen l.word;
  after : seen_all l.seen (drop l.v-index l.word) ≡ seen_all l.initial.seen l.word;
  seen_short : length l.seen ≤ length l.initial.seen + l.v-index;
  short : length l.numbers ≡ length l.initial.numbers + l.v-index;
}
