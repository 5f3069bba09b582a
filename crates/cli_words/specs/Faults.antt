-- Why words give no command.
use Rattle.std.specs.Prelude.{◌≡◌, Result, Err, IsOk}
use Rattle.cli_words.specs.declared.command.Command.{Command}
use Rattle.cli_words.specs.declared.command.WordFault.{WordFault}
use Rattle.cli_words.specs.declared.command.WordFault.TheVariants.{BadWord, NoInput, NoOutput, NoMemory}

-- the fault that the words have, or want of memory where they have none
abbrev pub IsWordFault : Result Command WordFault → WordFault → Type 0
IsWordFault due (BadWord n) = due ≡ Err (BadWord n)
IsWordFault due NoInput = due ≡ Err NoInput
IsWordFault due NoOutput = due ≡ Err NoOutput
IsWordFault due NoMemory = IsOk due
