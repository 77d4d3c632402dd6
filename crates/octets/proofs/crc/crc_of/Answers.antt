use Rattle.std.proofs.Common.{◌<◌, sym, subst}
use Rattle.std.proofs.ByRecursion.{All-from_get_or}
use Rattle.octets.specs.Polynomial.{Remainder}
use Rattle.octets.proofs.Division.{remainder}
use Rattle.octets.proofs.crc.crc_of.Goals as goal

pub returns-clause-law : goal.returns-clause-law
returns-clause-law c = subst (Remainder c.args.bytes.now) (sym c.fold.ensures)
    (remainder c.args.bytes.now (All-from_get_or (λ b. b < 256) c.args.bytes.now 0 (λ i _. (c.type_inv.bytes i).fits)))
