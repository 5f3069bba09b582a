use Rattle.std.proofs.Common.{◌≡◌, List, ℕ, Result, Ok, Err, map, String, Global}
use Rattle.std.specs.Prelude.{IfOk, MatchResult, string_bytes}
use Rattle.std.specs.List.{All}
use Rattle.std.specs.Str.{IsUtf8}
use Rattle.cli_words.specs.Command.{command_of, names_of, IsSound}
use Rattle.cli_words.specs.Faults.{IsWordFault}
use Rattle.cli_words.specs.declared.command.Command.{Command}
use Rattle.cli_words.specs.declared.command.WordFault.{WordFault}
use Rattle.cli_words.proofs.Names.{names_utf8}
use Rattle.cli_words.proofs.Sound.{sound}
use Rattle.cli_words.proofs.read.read_words.Goals as goal

utf8 : (ss : List (String Global)) (r : Result Command WordFault) → MatchResult r (λ c. command_of (map string_bytes ss) ≡ Ok c) (IsWordFault (command_of (map string_bytes ss))) → IfOk r (λ c. All IsUtf8 (names_of c))
utf8 ss (Err e) g = tt
utf8 ss (Ok c) g = names_utf8 ss c g

pub returns-clause-names : goal.returns-clause-names
returns-clause-names c = utf8 c.args.words.now c.read_command.result c.read_command.ensures

sound_of : (ws : List (List ℕ)) (r : Result Command WordFault) → MatchResult r (λ c. command_of ws ≡ Ok c) (IsWordFault (command_of ws)) → IfOk r IsSound
sound_of ws (Err e) g = tt
sound_of ws (Ok c) g = sound ws c g

pub returns-clause-sound : goal.returns-clause-sound
returns-clause-sound c = sound_of (map string_bytes c.args.words.now) c.read_command.result c.read_command.ensures
