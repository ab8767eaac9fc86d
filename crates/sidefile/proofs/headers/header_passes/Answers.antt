use Rattle.std.proofs.Common.{sym, rules}
use Rattle.std.proofs.Math.Seq.{length-take-le}
use Rattle.sidefile.proofs.headers.header_passes.Goals as goal

pub slice_bounds-checksum-end : goal.slice_bounds-checksum-end
slice_bounds-checksum-end c = sym (length-take-le 32 c.args.s.now (search rules))
