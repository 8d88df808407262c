use Rattle.std.proofs.Common.{◌≡◌, ◌+◌, length, take}
use Rattle.std.specs.List.{flat_map}
use Rattle.sheet.specs.Layout.{over_at}
use Rattle.sheet.proofs.writing.put_rows.Given as goal

abbrev pub invariant-loop-entry : goal.invariant-loop-entry
invariant-loop-entry g l =
    (l.end ≡ l.at + length (flat_map g.T.Row.row_bytes (take l.entry-index l.table)))
    × (l.out ≡ over_at l.at (flat_map g.T.Row.row_bytes (take l.entry-index l.table)) l.initial.out)
