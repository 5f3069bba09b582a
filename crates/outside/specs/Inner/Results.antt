-- What is told of a read.
use Rattle.std.specs.Prelude.{ℕ, nat_le, length, cond, Result, Ok, Err}
use Rattle.std.specs.Global.{Vec}
use Rattle.std.specs.IoError.{error_kind}
use Rattle.std.specs.declared.io.Error.{Error}
use Rattle.std.specs.declared.io.ErrorKind.{ErrorKind}
use Rattle.std.specs.declared.io.ErrorKind.TheVariants.{OutOfMemory}
use Rattle.outside.specs.declared.shelves.ReadNo.{ReadNo}
use Rattle.outside.specs.declared.shelves.ReadNo.TheVariants.{Failed, TooLong, NoMemory}

-- a cause of the system's reading, as a shelf tells it
abbrev pub cause_of : ErrorKind → ReadNo
cause_of OutOfMemory = NoMemory
cause_of _ = Failed

-- what a read tells of the bytes that a file gave, of which a limit at most is wanted
abbrev pub read_result_of : Result ℕ Error → Vec ℕ → ℕ → Result (Vec ℕ) ReadNo
read_result_of (Err e) bytes limit = Err (cause_of (error_kind e))
read_result_of (Ok n) bytes limit = cond (nat_le (length bytes.items) limit) (Ok bytes) (Err TooLong)
