use Rattle.std.proofs.Common.{arith}
use Rattle.media.specs.Landed.{count_of, stored}
use Rattle.media.specs.Images.{passed, image_written}
use Rattle.media.proofs.image.ImageDevice.write.Goals as goal

pub returns-clause-after : goal.returns-clause-after
returns-clause-after c =
    let bs = c.args.self.now.store in
    let s = c.args.sector in
    let bytes = c.args.bytes.now in
    let after = c.put.new.self in
    let p = passed s (count_of bs) (stored s bytes bs) bs c.put.result after c.put.ensures c.in_ok-ok_or.field-0 c.in_ok-ok_or.ensures.ok_part in
    image_written bs s c.args.self.now.tally bytes after p.0 (omega arith) p.1
