use Rattle.std.proofs.Common.{◌≡◌, drop}
use Rattle.queue.specs.Waiting.{all_landed}
use Rattle.queue.proofs.landing.land_all.Given as goal

abbrev pub invariant-loop-write : goal.invariant-loop-write
invariant-loop-write l = all_landed l.store (drop l.write-index l.writes) ≡ all_landed l.initial.store l.writes
