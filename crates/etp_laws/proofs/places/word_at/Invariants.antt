use Rattle.std.proofs.Common.{◌≡◌, ◌≤◌, ◌<◌, ◌-◌, ◌++◌, length}
use Rattle.etp_laws.specs.Places.{words_count, unrank}
use Rattle.etp_laws.proofs.places.word_at.Given as goal

abbrev pub invariant-loop-i : goal.invariant-loop-i
invariant-loop-i l = record {
  word : l.word ++ unrank (l.leaves - l.i) l.used l.rest ≡ unrank l.leaves 0 l.place;
  long : length l.word ≡ l.i;
  few : l.used ≤ l.i;
  within : l.rest < words_count (l.leaves - l.i) l.used;
}
