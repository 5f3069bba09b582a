use Rattle.std.proofs.Common.{length, drop, map, ◌-◌, ◌≤◌}
use Rattle.std.specs.Prelude.{string_bytes}
use Rattle.cli_words.proofs.Reading.{Surveyed}
use Rattle.cli_words.proofs.survey.look_over.Given as goal

abbrev pub invariant-words : goal.invariant-words
invariant-words l = record {
  surveyed : Surveyed (map string_bytes l.words) (map string_bytes (drop l.at l.words)) l.at l.files l.meshes l.lacks_output;
  within : l.at ≤ length l.words;
  files_few : l.files ≤ l.at;
  meshes_few : l.meshes ≤ l.at;
}

abbrev pub decreases-words : goal.decreases-words
decreases-words l = length l.words - l.at
