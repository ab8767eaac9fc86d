use Rattle.std.proofs.Common.{sym, rules}
use Rattle.std.proofs.Math.Seq.{length-take-le}
use Rattle.sidefile.proofs.encode.write_header.Goals as goal

pub slice_bounds-checksum-end-2 : goal.slice_bounds-checksum-end-2
slice_bounds-checksum-end-2 c = sym (length-take-le 32 c.write_second.new.s (search rules))
