use Rattle.std.proofs.Common.{length, drop, ◌-◌, ◌≡◌, ◌^◌, ◌<◌, ◌≤◌}
use Rattle.std.specs.Str.{all_ascii_digits}
use Rattle.std.specs.Str.Parse.{digits_value, digits_value_after}
use Rattle.cli_words.proofs.choice.numeral.Given as goal

abbrev pub invariant-digits : goal.invariant-digits
invariant-digits l = record {
  all : all_ascii_digits l.digits ≡ all_ascii_digits (drop l.at l.digits);
  value : digits_value 10 l.digits ≡ digits_value_after 10 l.value (drop l.at l.digits);
  small : l.value < 10 ^ l.at;
  within : l.at ≤ length l.digits;
}

abbrev pub decreases-digits : goal.decreases-digits
decreases-digits l = length l.digits - l.at
