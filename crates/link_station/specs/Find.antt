-- What C is handed of the marker finder: a position, its two distances and the number of a refusal. The number is 0 where a position is given, and the others
-- are 0 where it is refused.
use Rattle.std.specs.Prelude.{ℕ}
use Rattle.finder_windows.specs.Definition.{Answer, found, refused}
use Rattle.link_station.specs.declared.position.PositionOrRefusal.{PositionOrRefusal}

unfoldable pub finding : Answer → ℕ × ℕ × ℕ × ℕ
finding (found p d e) = (p, d, e, 0)
finding (refused n) = (0, 0, 0, n)

abbrev pub position_numbers : PositionOrRefusal → ℕ × ℕ × ℕ × ℕ
position_numbers r = (r.position, r.first, r.second, r.refused)
