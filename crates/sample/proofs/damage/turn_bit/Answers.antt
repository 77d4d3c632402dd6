use Rattle.std.proofs.Common.{sym, arith}
use Rattle.std.proofs.lemmas.List.{set_past}
use Rattle.sample.proofs.damage.turn_bit.Goals as goal

pub returns-else-at-lt-SECTOR_BYTES : goal.returns-else-at-lt-SECTOR_BYTES
returns-else-at-lt-SECTOR_BYTES c = sym (set_past c.args.sector.now c.args.at _ (omega arith))
