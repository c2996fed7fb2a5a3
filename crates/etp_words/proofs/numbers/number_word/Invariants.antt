use Rattle.std.proofs.Common.{◌≡◌, ◌≤◌, ◌<◌, ◌^◌, drop, length}
use Rattle.std.specs.List.{list_all}
use Rattle.etp_words.specs.Numbers.{is_digit, value_after}
use Rattle.etp_words.proofs.numbers.number_word.Given as goal

abbrev pub invariant-loop-byte : goal.invariant-loop-byte
invariant-loop-byte l = (l.value < 10 ^ l.byte-index) × (length l.word ≤ 10)
    × (value_after 0 l.word ≡ value_after l.value (drop l.byte-index l.word))
    × (list_all is_digit l.word ≡ list_all is_digit (drop l.byte-index l.word))
