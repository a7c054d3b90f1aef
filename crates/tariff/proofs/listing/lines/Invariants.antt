use Rattle.std.proofs.Common.{◌≡◌, ◌+◌, ◌++◌, length, string_bytes}
use Rattle.std.specs.Slice.Iter.{iter_rest}
use Rattle.tariff.specs.Listings.{rows}
use Rattle.tariff.proofs.listing.lines.Given as goal

-- what is there and the lines of what is left, from the next count on, are the lines of the whole sheet
abbrev pub invariant-loop-count : goal.invariant-loop-count
invariant-loop-count l =
    (string_bytes l.text ++ rows l.count-iterator.a.start (iter_rest l.count-iterator.b) ≡ rows 1 l.sheet)
    × (l.count-iterator.a.start + length (iter_rest l.count-iterator.b) ≡ 1 + length l.sheet)
