use Rattle.std.proofs.Common.{drop}
use Rattle.std.specs.List.{All}
use Rattle.std.specs.Str.{IsUtf8}
use Rattle.cli_words.specs.Command.{item_names}
use Rattle.plate_input.proofs.Gathers.{Gathering}
use Rattle.plate_input.proofs.gathered.gather.Given as goal

abbrev pub invariant-loop-item : goal.invariant-loop-item
invariant-loop-item g l = record {
  gathering : Gathering l.items (drop l.item-index l.items) (g.Sh.Shelf.store l.initial.shelf) (g.Sh.Shelf.store l.shelf) l.gathered;
  utf8 : All IsUtf8 (item_names (drop l.item-index l.items));
}
