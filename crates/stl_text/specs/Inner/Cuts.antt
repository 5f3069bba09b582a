-- How far the first line, the blanks and the first word of a text reach.
use Rattle.std.specs.Prelude.{ℕ, ◌==◌, not}
use Rattle.std.specs.List.{prefix_len}
use Rattle.slice_base.specs.Shapes.{Bytes}
use Rattle.stl_text.specs.Words.{is_blank}

-- how many bytes stand in front of the first line feed
abbrev pub line_len : Bytes → ℕ
line_len bytes = prefix_len (λ b. not (b == 10)) bytes

-- how many blanks stand at the front
abbrev pub blank_len : Bytes → ℕ
blank_len bytes = prefix_len is_blank bytes

-- how many bytes that aren't blank stand at the front
abbrev pub word_len : Bytes → ℕ
word_len bytes = prefix_len (λ b. not (is_blank b)) bytes
