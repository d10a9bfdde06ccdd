-- `updater::parities::NamingParities::list` meets its contract: the places of those of the first j parities that name the disk.
-- Assumes nothing.
use Rattle.updater.proofs.Named.{Named}
use Rattle.updater.proofs.parities.NamingParities.list.Given as goal

abbrev pub invariant-loop-j : goal.invariant-loop-j
invariant-loop-j l = Named l.code l.disk l.l l.j l.self-inside.at l.count
