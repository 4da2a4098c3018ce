-- Lassos and runs as the plain reading meets them.
use Rattle.machine.specs.Player.{Place}
use Rattle.brute.specs.declared.runs.Spot.{Spot}

-- the player's place, as the plain reading holds it
abbrev pub as_place : Spot → Place
as_place at = record { state = at.state; section = at.section }
